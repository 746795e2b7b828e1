mod Example
pub mod Reports
