pub mod Alerts
pub mod Known
