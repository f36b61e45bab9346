pub mod Entities
pub mod Latest
pub mod Reads
