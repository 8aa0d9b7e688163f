pub mod SessionLemmas
pub mod ReadLemmas
