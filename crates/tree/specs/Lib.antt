pub mod Bars
pub mod Choices
pub mod Trails
pub mod Walks
