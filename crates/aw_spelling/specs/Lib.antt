pub mod NodeParts
pub mod Pieces
pub mod Spelling
