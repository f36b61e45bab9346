pub mod DataLemmas
pub mod MemberLemmas
pub mod RangeLemmas
pub mod NumberLemmas
pub mod ArrayLemmas
pub mod KeepingLemmas
pub mod KeptLemmas
