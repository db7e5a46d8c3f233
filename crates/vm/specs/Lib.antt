pub mod RuntimeErr
pub mod Operation
pub mod Machine
pub mod Report
