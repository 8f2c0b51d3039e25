-- What an exporter counts of the items that don't arrive, and the collector's last message.
use Rattle.std.specs.Prelude.{ℕ, ◌+◌, min, List, Option, Some, None, option_map, string_bytes}
use Rattle.opentelemetry.specs.Clock.{within_u64}
use Rattle.otel_otlp.specs.declared.otlp_http.response.Partial.{Partial}

-- the items that the collector rejected, the items that were given up, and the responses that
-- couldn't be read, each at most 2 ^ 64 - 1; and the last message
pub record TallyOf : Type 0 where
  pub rejected : ℕ
  pub given_up : ℕ
  pub unread_responses : ℕ
  pub last_message : Option (List ℕ)

abbrev pub nothing : TallyOf
nothing = record { rejected = 0; given_up = 0; unread_responses = 0; last_message = None }

-- the new message, or the earlier one if there is no new one
abbrev pub latest : Option (List ℕ) → Option (List ℕ) → Option (List ℕ)
latest None earlier = earlier
latest (Some message) earlier = Some message

-- the number of items that the collector rejected, by its response; 0 if it couldn't be read
abbrev pub rejected_in : Option Partial → ℕ
rejected_in None = 0
rejected_in (Some p) = p.rejected

-- the collector has taken a request with this many items, and its response says this; `None` if it
-- couldn't be read; not more items are rejected than there were
abbrev pub after_taken : ℕ → Option Partial → TallyOf → TallyOf
after_taken count None t = record t { unread_responses = within_u64 (t.unread_responses + 1) }
after_taken count (Some p) t = record t {
  rejected = within_u64 (t.rejected + min p.rejected count);
  last_message = latest (option_map string_bytes p.message) t.last_message;
}

-- this many items were given up, and the collector's answer had this message
abbrev pub after_given_up : ℕ → Option (List ℕ) → TallyOf → TallyOf
after_given_up count message t = record t {
  given_up = within_u64 (t.given_up + count);
  last_message = latest message t.last_message;
}
