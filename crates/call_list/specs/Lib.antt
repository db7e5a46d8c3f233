pub mod CallBytes
pub mod CarriedOut
