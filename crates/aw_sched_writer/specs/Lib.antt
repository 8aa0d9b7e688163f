pub mod EventTexts
pub mod Moves
pub mod Laws
