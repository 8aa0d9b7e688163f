pub mod Texts
pub mod Terms
pub mod Nodes
pub mod Says
pub mod Asks
pub mod Lines
