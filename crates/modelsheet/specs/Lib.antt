pub mod Judge
pub mod Laid
pub mod Says
pub mod Sheet
pub mod Systems
