pub mod States
pub mod Walks
pub mod Placing
pub mod Laws
