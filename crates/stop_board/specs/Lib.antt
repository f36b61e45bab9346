pub mod BoardTexts
pub mod BoardTree
pub mod Boards
pub mod Visits
