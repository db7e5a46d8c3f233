-- Laws and lemmas, and definitions that only proofs need. A reader may skip them.
pub mod Boxed
pub mod Checks
pub mod Direct
pub mod Formed
pub mod Gaps
pub mod Inserts
pub mod Items
pub mod Laws
pub mod Layout
pub mod Places
pub mod SlotLaws
pub mod Tables
