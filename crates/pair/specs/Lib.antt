pub mod Numbering
pub mod Pairs
pub mod Paired
