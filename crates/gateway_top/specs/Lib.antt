pub mod Devices
pub mod Headline
pub mod Keeping
pub mod Published
pub mod Runs
pub mod Serving
