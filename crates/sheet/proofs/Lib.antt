-- The laws of the sheet, by the definitions' files.
pub mod DecimalLaws
pub mod RowLaws
pub mod LayoutLaws
pub mod ChartLaws
pub mod SheetLaws
