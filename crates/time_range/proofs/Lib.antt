pub mod CalendarLemmas
pub mod ColumnLemmas
pub mod DateLemmas
pub mod SpanLawLemmas
pub mod SpanLemmas
pub mod TimeLemmas
