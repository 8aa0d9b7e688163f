pub mod ByteRuns
pub mod Cuts
pub mod NameCuts
pub mod NodeNames
pub mod Numbers
pub mod Quotes
pub mod TextEnds
