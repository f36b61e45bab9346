pub mod CauseLemmas
pub mod CompletenessLemmas
mod CrashLemmas
mod DurableLemmas
mod EndLemmas
pub mod LoopLemmas
mod PutLemmas
mod RoomLeft
mod TakeLemmas
