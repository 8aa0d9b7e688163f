pub mod MemWires
pub mod Shown
