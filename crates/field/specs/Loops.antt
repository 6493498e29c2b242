-- Loops: arrays that are filled place after place, and folds over a list.
pub mod Filled
pub mod Fold
pub mod Cells
pub mod Putting
pub mod Places
