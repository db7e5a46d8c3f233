mod Whole
mod Bounds
