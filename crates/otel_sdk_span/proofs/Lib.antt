mod SpanContexts
