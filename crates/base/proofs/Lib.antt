-- Laws that every crate shares.
pub mod Test
pub mod BytesLaws
pub mod AxisLaws
pub mod ListLaws
pub mod PlacesNamed
