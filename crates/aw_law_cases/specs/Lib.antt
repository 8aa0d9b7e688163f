pub mod CaseWorlds
pub mod Cases
pub mod Ties
pub mod Worked
