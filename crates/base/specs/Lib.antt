-- Definitions that every crate shares.
pub mod Bytes
pub mod Event
pub mod Axis
pub mod Lists
pub mod Places
