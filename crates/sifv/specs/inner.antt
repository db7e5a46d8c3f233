-- Definitions that only contracts inside the engine cite.
pub mod Forms
pub mod Seen
pub mod StoredForm
pub mod Tests
