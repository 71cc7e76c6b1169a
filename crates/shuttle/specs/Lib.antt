pub mod Shuttles
pub mod Spots
pub mod Steps
