-- Laws and lemmas, and definitions that only proofs need. A reader may skip them.
pub mod Exact
pub mod PatternLaws
pub mod RemainderLaws
pub mod WholeLaws
