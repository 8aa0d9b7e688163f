pub mod Allowance
pub mod ChoiceFits
pub mod NodeNames
pub mod NodeReading
pub mod NameFronts
pub mod WrittenNames
pub mod ReadFronts
