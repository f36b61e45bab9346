pub mod HeaderLemmas
mod SizeLemmas
