pub mod Headers
pub mod Meant
pub mod Parts
mod ReadAgain
