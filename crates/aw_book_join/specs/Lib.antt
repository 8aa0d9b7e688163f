pub mod Handing
pub mod Laws
pub mod Lines
pub mod Replicas
pub mod Tasks
pub mod Views
pub mod Writing
