pub mod Live
pub mod Sweeps
