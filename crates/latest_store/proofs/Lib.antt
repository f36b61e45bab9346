pub mod EntityLemmas
pub mod ReadingLemmas
