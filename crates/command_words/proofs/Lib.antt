mod FormLemmas
mod MomentLemmas
mod TableLemmas
pub mod WordLemmas
