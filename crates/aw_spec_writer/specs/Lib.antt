pub mod ChildTexts
pub mod Laws
pub mod LineTexts
pub mod SpecLines
pub mod Writable
