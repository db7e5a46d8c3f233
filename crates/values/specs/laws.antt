-- Laws and lemmas, and definitions that only proofs need. A reader may skip them.
pub mod SlotTextLaws
pub mod PutSlotText
