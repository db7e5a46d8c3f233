-- Laws and lemmas, and definitions that only proofs need. A reader may skip them.
pub mod Items
pub mod Joins
pub mod Laws
pub mod Leaves
pub mod Loops
pub mod Places
pub mod Regs
pub mod Rewrites
pub mod Spell
