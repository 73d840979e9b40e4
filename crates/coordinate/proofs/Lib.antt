-- Laws of one axis, which the crates above cite.
pub mod Covering
pub mod PixelLaws
pub mod CoverLaws
pub mod LoneLaws
