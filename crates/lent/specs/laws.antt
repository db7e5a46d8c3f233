-- Laws and lemmas, and definitions that only proofs need. A reader may skip them.
pub mod Cuts
pub mod Each
pub mod Guarded
pub mod Numbers
pub mod Parts
pub mod Same
pub mod Slots
pub mod Truths
pub mod Zeros
pub mod Answers
