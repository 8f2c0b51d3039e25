pub mod Span
pub mod SpanData
pub mod SpanExamples
pub mod SpanLimits
pub mod View
