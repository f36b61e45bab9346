pub mod TextLemmas
pub mod VisitLemmas
