pub mod Gathers
pub mod KnownLemmas
pub mod PeriodLemmas
