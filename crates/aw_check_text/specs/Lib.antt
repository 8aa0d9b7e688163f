pub mod Told
pub mod PairTests
pub mod ApartTold
pub mod Telling
pub mod ApartLaws
