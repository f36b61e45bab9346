pub mod IdLemmas
pub mod SoundLemmas
