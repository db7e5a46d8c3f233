-- Laws and lemmas, and definitions that only proofs need. A reader may skip them.
pub mod EndLaws
pub mod PutEnd
pub mod Left
pub mod LeftLaws
