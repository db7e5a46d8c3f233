-- Laws and lemmas, and definitions that only proofs need. A reader may skip them.
pub mod PutLaws
pub mod PutDigits
pub mod PutJoined
pub mod Writing
pub mod Digits
pub mod Joined
