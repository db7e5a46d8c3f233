pub mod Views
pub mod Exprs
pub mod Rights
