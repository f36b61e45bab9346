pub mod Places
pub mod Scans
pub mod Fronts
pub mod Heads
pub mod Feeding
pub mod OneRequest
