pub mod CellLaws
pub mod NameLaws
