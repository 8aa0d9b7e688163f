pub mod Forms
pub mod Gives
pub mod Laws
pub mod Lexemes
pub mod Reader
pub mod Sound
pub mod Terms
