-- Laws and lemmas, and definitions that only proofs need. A reader may skip them.
pub mod BoundByNodes
pub mod BoundSize
pub mod Bounded
pub mod LoopIndex
pub mod ShortArrays
pub mod Simulation
pub mod Standing
pub mod Theorems
