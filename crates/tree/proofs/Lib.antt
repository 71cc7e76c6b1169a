pub mod Marks
pub mod Siblings
pub mod Ways
