use Rattle.std.specs.Prelude.{ℕ, ◌*◌, ◌<◌, ◌≤◌, Bool, true, ◌&&◌, nat_le, nat_lt}
use Rattle.abstraction.specs.declared.interval.Interval.{Interval}
use Rattle.abstraction.specs.declared.interval.Lower.{Lower}
use Rattle.abstraction.specs.declared.interval.Lower.TheVariants.{From, Over}
use Rattle.abstraction.specs.declared.interval.Upper.{Upper}
use Rattle.abstraction.specs.declared.interval.Upper.TheVariants.{Upto, Under, Unbounded}

-- v, in parts of 1 / D, keeps to the lower bound
abbrev pub AtLeast : ℕ → Lower → ℕ → Type 0
AtLeast D (From b) v = b * D ≤ v
AtLeast D (Over b) v = b * D < v

-- v, in parts of 1 / D, keeps to the upper bound
abbrev pub AtMost : ℕ → Upper → ℕ → Type 0
AtMost D (Upto b) v = v ≤ b * D
AtMost D (Under b) v = v < b * D
AtMost D Unbounded v = Unit {0}

-- v, in parts of 1 / D, lies in the interval
abbrev pub Inside : ℕ → Interval → ℕ → Type 0
Inside D i v = AtLeast D i.lower v × AtMost D i.upper v

-- the same as tests
abbrev pub at_least : ℕ → Lower → ℕ → Bool
at_least D (From b) v = nat_le (b * D) v
at_least D (Over b) v = nat_lt (b * D) v

abbrev pub at_most : ℕ → Upper → ℕ → Bool
at_most D (Upto b) v = nat_le v (b * D)
at_most D (Under b) v = nat_lt v (b * D)
at_most D Unbounded v = true

abbrev pub inside : ℕ → Interval → ℕ → Bool
inside D i v = at_least D i.lower v && at_most D i.upper v

-- the whole number that a lower bound names
abbrev pub bound : Lower → ℕ
bound (From b) = b
bound (Over b) = b

-- every finite bound of the interval is at most top
abbrev pub UpperFits : ℕ → Upper → Type 0
UpperFits top (Upto b) = b ≤ top
UpperFits top (Under b) = b ≤ top
UpperFits top Unbounded = Unit {0}

abbrev pub Fits : ℕ → Interval → Type 0
Fits top i = (bound i.lower ≤ top) × UpperFits top i.upper

abbrev pub upper_fits : ℕ → Upper → Bool
upper_fits top (Upto b) = nat_le b top
upper_fits top (Under b) = nat_le b top
upper_fits top Unbounded = true

abbrev pub fits : ℕ → Interval → Bool
fits top i = nat_le (bound i.lower) top && upper_fits top i.upper
