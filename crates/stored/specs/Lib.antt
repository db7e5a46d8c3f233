pub mod StateBytes
pub mod Storable
pub mod inner
