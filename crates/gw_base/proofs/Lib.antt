pub mod AnswerLemmas
pub mod CountLemmas
pub mod DoorLemmas
pub mod Elements
pub mod ToldLemmas
