pub mod Standings
pub mod Records
pub mod Due
pub mod Items
pub mod Tested
pub mod KeptStates
