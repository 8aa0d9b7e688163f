pub mod Causes
pub mod Edge
pub mod Memory
pub mod Reads
pub mod Report
pub mod Sure
pub mod Wires
