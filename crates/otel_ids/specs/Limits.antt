-- The limits of a trace state, each defined once. The code has its own constants.
use Rattle.std.specs.Prelude.{ℕ, ◌+◌, ◌-◌, ◌*◌}

-- the maximum number of pairs of a trace state, and of pieces of a text that are read
-- [W3C trace-context-2, "list"; for the pieces, `from_str` of the Rust crate]
abbrev pub max_pairs : ℕ
max_pairs = 32

-- the maximum number of bytes of a key, and of a value [W3C trace-context-2, "key" and "value"]
abbrev pub max_length : ℕ
max_length = 256

-- the maximum number of bytes after the @ of a key [`valid_key` of the Rust crate]
abbrev pub max_system_id : ℕ
max_system_id = 13

-- the maximum number of bytes of a header, 16447: 32 pairs of 513 bytes, and 31 commas between them
abbrev pub max_header : ℕ
max_header = max_pairs * (max_length + 1 + max_length) + (max_pairs - 1)
