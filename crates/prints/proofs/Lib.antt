-- What is promised of a printed chart.
pub mod Prints
