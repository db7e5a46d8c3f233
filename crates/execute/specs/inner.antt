-- Definitions that only contracts inside the engine, and the theorem `record_found`, cite.
pub mod Means
pub mod ProgramView
pub mod Progress
pub mod TableView
pub mod View
