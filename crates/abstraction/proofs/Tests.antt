use Rattle.std.proofs.Common.{◌≡◌, ℕ, true, leb, refl}
use Rattle.std.proofs.lemmas.Bool.{and_parts, and_from, leb-true, ltb-true, le-leb, lt-ltb}
use Rattle.abstraction.specs.Bounds.{AtLeast, AtMost, Inside, bound, at_least, at_most, inside, UpperFits, Fits, upper_fits, fits}
use Rattle.abstraction.specs.declared.interval.Interval.{Interval}
use Rattle.abstraction.specs.declared.interval.Lower.{Lower}
use Rattle.abstraction.specs.declared.interval.Lower.TheVariants.{From, Over}
use Rattle.abstraction.specs.declared.interval.Upper.{Upper}
use Rattle.abstraction.specs.declared.interval.Upper.TheVariants.{Upto, Under, Unbounded}

-- the tests on intervals decide what they are meant to

at_least_true : (D : ℕ) (l : Lower) (v : ℕ) → at_least D l v ≡ true → AtLeast D l v
at_least_true D (From b) v h = leb-true _ _ h
at_least_true D (Over b) v h = ltb-true _ _ h

at_most_true : (D : ℕ) (u : Upper) (v : ℕ) → at_most D u v ≡ true → AtMost D u v
at_most_true D (Upto b) v h = leb-true _ _ h
at_most_true D (Under b) v h = ltb-true _ _ h
at_most_true D Unbounded v h = tt

pub inside_true : (D : ℕ) (i : Interval) (v : ℕ) → inside D i v ≡ true → Inside D i v
inside_true D i v h = let p = and_parts (at_least D i.lower v) _ h in (at_least_true D _ v p.0, at_most_true D _ v p.1)

at_least_from : (D : ℕ) (l : Lower) (v : ℕ) → AtLeast D l v → at_least D l v ≡ true
at_least_from D (From b) v h = le-leb _ _ h
at_least_from D (Over b) v h = lt-ltb _ _ h

at_most_from : (D : ℕ) (u : Upper) (v : ℕ) → AtMost D u v → at_most D u v ≡ true
at_most_from D (Upto b) v h = le-leb _ _ h
at_most_from D (Under b) v h = lt-ltb _ _ h
at_most_from D Unbounded v h = refl

pub inside_from : (D : ℕ) (i : Interval) (v : ℕ) → Inside D i v → inside D i v ≡ true
inside_from D i v h = and_from (at_least D i.lower v) _ (at_least_from D _ v h.0) (at_most_from D _ v h.1)

upper_fits_true : (top : ℕ) (u : Upper) → upper_fits top u ≡ true → UpperFits top u
upper_fits_true top (Upto b) h = leb-true b top h
upper_fits_true top (Under b) h = leb-true b top h
upper_fits_true top Unbounded h = tt

upper_fits_from : (top : ℕ) (u : Upper) → UpperFits top u → upper_fits top u ≡ true
upper_fits_from top (Upto b) h = le-leb b top h
upper_fits_from top (Under b) h = le-leb b top h
upper_fits_from top Unbounded h = refl

pub fits_true : (top : ℕ) (i : Interval) → fits top i ≡ true → Fits top i
fits_true top i h = let p = and_parts (leb (bound i.lower) top) _ h in (leb-true _ _ p.0, upper_fits_true top i.upper p.1)

pub fits_from : (top : ℕ) (i : Interval) → Fits top i → fits top i ≡ true
fits_from top i h = and_from (leb (bound i.lower) top) _ (le-leb _ _ h.0) (upper_fits_from top i.upper h.1)
