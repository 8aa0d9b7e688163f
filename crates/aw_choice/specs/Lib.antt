pub mod ChoiceView
pub mod Events
