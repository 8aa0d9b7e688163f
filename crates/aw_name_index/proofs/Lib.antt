pub mod Lookups
pub mod Same
pub mod FirstTold
pub mod Guesses
