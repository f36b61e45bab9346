pub mod ListLemmas
pub mod TripLemmas
pub mod WorkedRow
