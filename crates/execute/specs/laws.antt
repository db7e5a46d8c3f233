-- Laws and lemmas, and definitions that only proofs need. A reader may skip them.
pub mod Acts
pub mod Arrays
pub mod Laying
pub mod Literals
pub mod Programs
pub mod Readers
pub mod Stacks
pub mod Tabled
