pub mod Sizes
pub mod Sound
pub mod Writable
pub mod Written
