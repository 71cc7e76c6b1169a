pub mod Arrays
pub mod Bits
pub mod Chosen
pub mod Members
pub mod More
pub mod Shifts
