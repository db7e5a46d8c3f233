-- Laws and lemmas, and definitions that only proofs need. A reader may skip them.
pub mod EntryLaws
pub mod ProgramLaws
pub mod ProgramRange
