-- Laws and lemmas, and definitions that only proofs need. A reader may skip them.
pub mod TextLaws
pub mod PutText
pub mod ToldLaws
