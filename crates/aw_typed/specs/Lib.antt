pub mod Clinic
pub mod Fitting
pub mod RuleTyping
pub mod Types
pub mod Typing
pub mod TypeFaults
pub mod WellTyped
pub mod Worked
