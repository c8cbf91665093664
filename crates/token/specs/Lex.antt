-- How long the token at the front of some bytes is.
use Rattle.std.specs.Prelude.{ℕ, ◌+◌, cond, Option, None, Some, ◌&&◌, ◌||◌, List, drop, ◌==◌, nat_lt, slice_index}
use Rattle.std.specs.List.{prefix_len}
use Rattle.token.specs.Bytes.{digit, letter}

-- the byte at the front, 0 where there is none
abbrev pub front : List ℕ → ℕ
front bs = slice_index bs 0

abbrev pub digits_len : List ℕ → ℕ
digits_len bs = prefix_len digit bs

abbrev pub sign_len : List ℕ → ℕ
sign_len bs = cond (front bs == 45) 1 0

-- `0`, or digits
abbrev pub whole_len : List ℕ → ℕ
whole_len bs = cond (front bs == 48) 1 (digits_len bs)

-- `.` and digits
abbrev pub fraction_len : List ℕ → ℕ
fraction_len bs = cond (front bs == 46 && nat_lt 0 (digits_len (drop 1 bs))) (1 + digits_len (drop 1 bs)) 0

-- how long `e` or `E` and a sign are
abbrev pub power_len : List ℕ → ℕ
power_len bs = cond (front bs == 101 || front bs == 69) (1 + cond (front (drop 1 bs) == 43 || front (drop 1 bs) == 45) 1 0) 0

abbrev pub exponent_len : List ℕ → ℕ
exponent_len bs = cond (nat_lt 0 (power_len bs) && nat_lt 0 (digits_len (drop (power_len bs) bs))) (power_len bs + digits_len (drop (power_len bs) bs)) 0

abbrev pub tail_len : List ℕ → ℕ
tail_len bs = fraction_len bs + exponent_len (drop (fraction_len bs) bs)

abbrev pub number_len : List ℕ → ℕ
number_len bs = cond (whole_len (drop (sign_len bs) bs) == 0) 0 (sign_len bs + whole_len (drop (sign_len bs) bs) + tail_len (drop (sign_len bs + whole_len (drop (sign_len bs) bs)) bs))

-- a quote, letters and a quote
abbrev pub name_len : List ℕ → ℕ
name_len bs = cond (front bs == 34 && (nat_lt 0 (prefix_len letter (drop 1 bs)) && front (drop (1 + prefix_len letter (drop 1 bs)) bs) == 34)) (2 + prefix_len letter (drop 1 bs)) 0

-- a length, or none where it is 0
abbrev pub some_len : ℕ → Option ℕ
some_len n = cond (n == 0) None (Some n)
