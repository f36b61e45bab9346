pub mod Forms
pub mod Pairs
pub mod Rows
pub mod Tables
pub mod Windowed
pub mod Words
pub mod Works
