pub mod Again
pub mod Appending
pub mod Reopening
pub mod Replays
pub mod Runs
pub mod Standing
pub mod Taking
