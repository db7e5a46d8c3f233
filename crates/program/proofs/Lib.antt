pub mod Records
pub mod Marks
pub mod Stored
pub mod Programs
