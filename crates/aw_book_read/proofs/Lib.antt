pub mod Opening
pub mod Counted
mod Digesting
