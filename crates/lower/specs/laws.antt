-- Laws and lemmas, and definitions that only proofs need. A reader may skip them.
pub mod Buffer
pub mod CompileLaws
pub mod LowerLaws
pub mod Passes
