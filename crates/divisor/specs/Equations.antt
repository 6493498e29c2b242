-- The equations as rows: model and meaning.
pub mod Model
pub mod Rows
pub mod RowLaws
pub mod Turns
pub mod Adding
pub mod System
pub mod Laws
pub mod RowValue
pub mod Solutions
