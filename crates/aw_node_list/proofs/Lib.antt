pub mod InOrderLemmas
pub mod HeldViews
pub mod Numbers
pub mod PickedLemmas
pub mod ChunkLemmas
