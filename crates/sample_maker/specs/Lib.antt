pub mod Deliveries
pub mod Draws
pub mod Folder
pub mod Listed
pub mod Making
pub mod Pieces
