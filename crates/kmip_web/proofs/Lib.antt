mod Listed
mod Fits
mod Splits
mod Front
