-- Laws and lemmas, and definitions that only proofs need. A reader may skip them.
pub mod Complete
pub mod Entries
pub mod FileLaws
pub mod Kinds
pub mod Pieces
pub mod PlainFile
pub mod Preorder
pub mod Reading
pub mod Sound
pub mod Tests
