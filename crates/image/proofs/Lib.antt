-- Laws of cells and rectangles, which the crates above cite.
pub mod AtLaws
pub mod CellLaws
pub mod RangeLaws
pub mod PaintLaws
pub mod CountLaws
pub mod PackLaws
pub mod RegionLaws
pub mod ShareLaws
pub mod BlockLaws
pub mod DrawLaws
