mod AgainLemmas
pub mod DiskLemmas
pub mod FoundLemmas
mod ReopenLemmas
mod ReplayLemmas
mod ReplayRows
mod RunLemmas
mod TakingLemmas
