pub mod AsideLemmas
pub mod Delays
pub mod IdLemmas
pub mod NearLemmas
pub mod Suppliers
