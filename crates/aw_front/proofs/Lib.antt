pub mod Inputs
pub mod Verdicts
pub mod FrontOutputs
