pub use Rattle.found_rows.specs.Rows
pub mod Answer
