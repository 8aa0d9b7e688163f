pub mod GuardLemmas
pub mod LayLemmas
pub mod ChildLemmas
pub mod MakeLemmas
pub mod Numbering
pub mod MadeCalls
pub mod TellLemmas
