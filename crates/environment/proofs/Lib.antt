pub mod Systems
