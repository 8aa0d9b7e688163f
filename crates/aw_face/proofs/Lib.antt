pub mod RuleSteps
pub mod Pairs
