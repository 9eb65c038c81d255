pub mod TimeUnits
pub mod Spans
pub mod SpanOf
pub mod Dates
pub mod TimeOf
pub mod Columns
pub mod SpanLaws
pub mod CalendarLaws
