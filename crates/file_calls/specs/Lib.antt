pub mod WriteFileCall
pub mod ReadFileCall
