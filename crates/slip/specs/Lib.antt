pub mod Slips
pub mod Slipped
