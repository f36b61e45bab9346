pub mod OrderLemmas
pub mod PackLemmas
pub mod PlaceLemmas
pub mod RegionLemmas
pub mod SpanLemmas
