pub mod Trees
pub mod Faults
pub mod Kept
pub mod Keeping
