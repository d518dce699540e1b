pub mod FirstLine
pub mod Gaps
pub mod Known
pub mod LinesRead
pub mod Numbers
pub mod RowsWith
pub mod TermsRead
