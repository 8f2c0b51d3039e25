-- The records of traces, which their spans make one by one.
use Rattle.std.specs.Prelude.{ℕ, ◌+◌, ◌-◌, Bool, true, false, Option, None, Some, min, max, nat_lt}
use Rattle.std.specs.Prelude.{◌≡◌, ◌++◌, ◌^◌, List, length, if◌then◌else◌, IsPermutation}
use Rattle.std.specs.List.Sorted.{IsNonDecreasingBy}
use Rattle.opentelemetry.specs.Clock.{within_u64}
use Rattle.otel_view.specs.declared.summary.Filter.{Filter}
use Rattle.otel_view.specs.declared.summary.Head.{Head}
use Rattle.otel_view.specs.declared.summary.Part.{Part}
use Rattle.otel_view.specs.declared.summary.Summary.{Summary}

-- whether the second span names the trace rather than the first: a root rather than another span,
-- and otherwise the one that started before the other
abbrev pub is_better : Head → Head → Bool
is_better old new = by_root old.is_root new.is_root (nat_lt new.start old.start)
  where
    by_root : Bool → Bool → Bool → Bool
    by_root true false earlier = false
    by_root false true earlier = true
    by_root true true earlier = earlier
    by_root false false earlier = earlier

-- the span that names the trace
abbrev pub named_by : Head → Head → Head
named_by old new = if is_better old new then new else old

-- the number, one greater if the span is counted
abbrev pub counted : ℕ → Bool → ℕ
counted n is_counted = if is_counted then within_u64 (n + 1) else n

-- the greater of the start and the end of a span
abbrev pub last_of : Part → ℕ
last_of part = max part.end part.head.start

-- the record of a trace with one span
abbrev pub of_part : Part → Summary
of_part part = record {
  id = part.trace;
  start = part.head.start;
  end = last_of part;
  spans = 1;
  errors = counted 0 part.is_error;
  is_wanted = part.is_wanted;
  head = part.head;
}

-- the record of a trace, and one more of its spans
abbrev pub with_part : Summary → Part → Summary
with_part record_of part = record record_of {
  start = min record_of.start part.head.start;
  end = max record_of.end (last_of part);
  spans = counted record_of.spans true;
  errors = counted record_of.errors part.is_error;
  is_wanted = if record_of.is_wanted then true else part.is_wanted;
  head = named_by record_of.head part.head;
}

-- the record of a trace that has one already, or none, and one more of its spans
abbrev pub after_part : Option Summary → Part → Summary
after_part None part = of_part part
after_part (Some record_of) part = with_part record_of part

-- the nanoseconds from the start to the end
abbrev pub duration : Summary → ℕ
duration record_of = record_of.end - record_of.start

-- whether a trace of this duration is slow enough
abbrev pub is_slow : Option ℕ → ℕ → Bool
is_slow None length = true
is_slow (Some limit) length = nat_lt limit length

-- whether the trace passes the filter
abbrev pub takes : Filter → Summary → Bool
takes filter record_of = if record_of.is_wanted
    then (if is_slow filter.slower (duration record_of)
    then (if filter.errors then nat_lt 0 record_of.errors else true)
    else false)
    else false

-- the nanoseconds from the start to the last moment of 64 bits, greater for an older trace
abbrev pub age : Summary → ℕ
age record_of = 2 ^ 64 - 1 - record_of.start

-- `kept` are the newest of the traces, the newest first: no trace that isn't kept is newer than one
-- that is, and as many are kept as the limit allows
pub record AreNewest (limit : ℕ) (traces kept : List Summary) : Type 0 where
  pub others : List Summary
  pub same : IsPermutation traces (kept ++ others)
  pub newest_first : IsNonDecreasingBy age (kept ++ others)
  pub as_many : length kept ≡ min limit (length traces)
