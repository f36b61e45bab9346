pub mod DeliveryLemmas
pub mod FormLemmas
pub mod KeptLemmas
pub mod Pieces
pub mod PlainBytes
pub mod TreeLemmas
pub mod TreesReadAgain
