pub mod Siri
