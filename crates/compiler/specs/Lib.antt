pub mod Literals
pub mod Lower
pub mod Within
pub mod laws
