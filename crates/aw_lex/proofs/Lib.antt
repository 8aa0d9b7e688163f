pub mod FeedPlaces
pub mod Fronts
pub mod LineCuts
pub mod Slices
pub mod TokenSteps
pub mod Words
