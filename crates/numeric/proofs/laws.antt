-- Laws that the edits of a definition contradict. A reader may skip them.
pub mod IndexLaws
