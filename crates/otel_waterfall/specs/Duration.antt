-- The text of a duration. Not in the Rust crates.
use Rattle.std.specs.Prelude.{◌≡◌, ℕ, ◌-◌, ◌*◌, ◌/◌, ◌%◌, nat_lt, codes, refl}
use Rattle.std.specs.Prelude.{List, ◌++◌, if◌then◌else◌}
use Rattle.std.specs.Fmt.{decimal, digits}

-- the decimal digit at the place: for 12345678, 4 at the place 10,000
abbrev pub digit_at : ℕ → ℕ → List ℕ
digit_at n place = decimal (n / place % 10)

-- nanoseconds in a unit whose hundredth is `hundredth` nanoseconds: cut to two decimals below 10
-- units, to one below 100, and otherwise to whole units
abbrev pub in_units : ℕ → ℕ → List ℕ → List ℕ
in_units n hundredth unit =
    if nat_lt n (1000 * hundredth)
    then decimal (n / (100 * hundredth)) ++ (codes "." ++ (digit_at n (10 * hundredth)
    ++ (digit_at n hundredth ++ unit)))
    else if nat_lt n (10000 * hundredth)
    then decimal (n / (100 * hundredth)) ++ (codes "." ++ (digit_at n (10 * hundredth) ++ unit))
    else decimal (n / (100 * hundredth)) ++ unit

-- a length in nanoseconds, in the greatest unit that isn't longer
abbrev pub length_text : ℕ → List ℕ
length_text n =
    if nat_lt n 1000 then decimal n ++ codes "ns"
    else if nat_lt n 1000000 then in_units n 10 (codes "us")
    else if nat_lt n 1000000000 then in_units n 10000 (codes "ms")
    else in_units n 10000000 (codes "s")

-- the time from a start to an end, with a minus sign if the end is before the start
abbrev pub duration_text : ℕ → ℕ → List ℕ
duration_text start end =
    if nat_lt end start then codes "-" ++ length_text (start - end) else length_text (end - start)

-- ---- worked rows
nothing : duration_text 5 5 ≡ codes "0ns"
unfolding digits
nothing = refl

nanoseconds : duration_text 0 999 ≡ codes "999ns"
unfolding digits
nanoseconds = refl

two_decimals : duration_text 0 1000 ≡ codes "1.00us"
unfolding digits
two_decimals = refl

cut_not_rounded : duration_text 0 999999 ≡ codes "999us"
unfolding digits
cut_not_rounded = refl

milliseconds : duration_text 0 1500000 ≡ codes "1.50ms"
unfolding digits
milliseconds = refl

one_decimal : duration_text 0 12345678 ≡ codes "12.3ms"
unfolding digits
one_decimal = refl

no_decimal : duration_text 0 123456789 ≡ codes "123ms"
unfolding digits
no_decimal = refl

a_minute : duration_text 0 61000000000 ≡ codes "61.0s"
unfolding digits
a_minute = refl

the_greatest : duration_text 0 18446744073709551615 ≡ codes "18446744073s"
unfolding digits
the_greatest = refl

backwards : duration_text 2000000 500000 ≡ codes "-1.50ms"
unfolding digits
backwards = refl
