-- Laws and lemmas, and definitions that only proofs need. A reader may skip them.
pub mod Longest
pub mod Preorder
pub mod Whole
