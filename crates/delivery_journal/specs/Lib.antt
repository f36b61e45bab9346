pub mod CrashImages
pub mod CrashSteps
pub mod Disk
pub mod DiskInMemory
pub mod HeaderBytes
pub mod ImageLaws
pub mod Kept
pub mod Standing
