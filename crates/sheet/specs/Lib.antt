-- The definitions that the contracts cite.
pub mod Layout
pub mod Decimal
pub mod Text
pub mod Printed
pub mod Why
pub mod ChartComputed
