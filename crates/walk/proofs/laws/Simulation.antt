-- Lowered code does what the walk says: the lemmas. Theorems has the statements.
pub mod Logic
pub mod Labels
pub mod Exprs
pub mod Stores
pub mod Stmts
pub mod Loop
pub mod Sound
pub mod Portions
