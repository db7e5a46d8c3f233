pub mod ProgramFile
pub mod laws
