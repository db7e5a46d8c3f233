-- Laws and lemmas, and definitions that only proofs need. A reader may skip them.
pub mod ArmParts
pub mod Arms
pub mod Ends
pub mod FnLaws
pub mod Fns
pub mod ForLaws
pub mod Fors
pub mod Ifs
pub mod Kinds
pub mod Leaves
pub mod Lists
pub mod Patch
pub mod Regs
pub mod Simple
pub mod Whole
