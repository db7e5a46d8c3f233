pub mod Scan
pub mod Bits
pub mod Places
pub mod PoolSteps
pub mod Whole
