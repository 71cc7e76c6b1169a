pub mod OneSystem
pub mod Walks
pub mod Whole
pub mod Sights
pub mod Heads
pub mod LaidOut
