pub mod Affected
pub mod Deliveries
pub mod Frame
pub mod Periods
pub mod Senses
pub mod Shown
pub mod Situations
pub mod Steps
