pub mod Parts
pub mod Kinds
pub mod Runs
pub mod Put
pub mod Settling
pub mod Drawn
