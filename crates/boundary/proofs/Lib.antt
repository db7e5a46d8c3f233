mod Rows
mod Lowered
