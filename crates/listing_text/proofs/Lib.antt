pub mod Shown
pub mod Cases
pub mod Rows
pub mod Programs
