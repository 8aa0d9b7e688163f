pub mod InOrder
pub mod HeldView
pub mod Row
pub mod Picked
pub mod Rows
pub mod Chunks
pub mod ChunkRows
