pub mod Means
pub mod Shortest
