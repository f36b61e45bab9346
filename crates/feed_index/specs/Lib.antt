pub mod Chosen
pub mod Drafts
pub mod Entries
pub mod Order
pub mod Rows
pub mod Staged
