pub mod Answers
pub mod Feeds
pub mod Folding
pub mod Replacing
pub mod Saying
pub mod SortedOut
pub mod Spreading
