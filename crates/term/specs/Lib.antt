pub mod Formulas
pub mod Spans
pub mod Tests
