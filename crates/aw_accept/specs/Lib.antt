pub mod Acyclic
pub mod Circular
pub mod Missing
pub mod Refusals
pub mod Sorts
