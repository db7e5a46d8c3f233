pub mod ProgramText
pub mod Ending
pub mod Listing
