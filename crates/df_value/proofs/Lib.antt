pub mod Fitting
pub mod DoubledNames
