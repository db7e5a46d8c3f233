-- The parts of a tree that are lowered here.
pub mod laws
pub mod inner
