use Rattle.std.specs.Prelude.{◌≡◌, ℕ, ◌+◌, ◌*◌, ◌/◌, ◌%◌, ◌<◌, ◌≤◌, min, Bool, true, false, ◌⊎◌, refl}
use Rattle.std.proofs.Common.{ap, ◌∙◌, inl, inr, ⊎_elim, arith, add-mul}
use Rattle.std.proofs.lemmas.Nat.{mod_below, div-add-mod', mul-le}
use Rattle.std.proofs.lemmas.Bool.{cases_order, and_from, and_parts}
use Rattle.std.proofs.lemmas.Bool.Decides.{nat_tests}
use Rattle.abstraction.specs.Bounds.{bound, AtLeast, AtMost, Inside, UpperFits, Fits}
use Rattle.abstraction.specs.declared.interval.Interval.{Interval}
use Rattle.abstraction.specs.declared.interval.Lower.{Lower}
use Rattle.abstraction.specs.declared.interval.Lower.TheVariants.{From, Over}
use Rattle.abstraction.specs.declared.interval.Upper.{Upper}
use Rattle.abstraction.specs.declared.interval.Upper.TheVariants.{Upto, Under, Unbounded}
use Rattle.ranking.specs.declared.Item.{Item}
use Rattle.region.specs.Asked.{above, below, lies_in}

-- a bound b against the value v, by whole part and fraction
against : (b v D : ℕ) → 0 < D → ((b < v / D) × (b * D < v)) ⊎ (((b ≡ v / D) × (b * D + v % D ≡ v)) ⊎ ((v / D < b) × (v < b * D)))
against b v D pos =
    let e = div-add-mod' v D in let m = mod_below v D pos in
    ⊎_elim
    (λ (s : b ≡ v / D). inr (inl (s, ap (λ q. q * D + v % D) s ∙ e)))
    (λ d. ⊎_elim
    (λ (l : b < v / D). inl (l, omega (arith, mul-le (b + 1) D (v / D) D (omega arith) (omega arith), add-mul b 1 D)))
    (λ (g : v / D < b). inr (inr (g, omega (arith, mul-le (v / D + 1) D b D (omega arith) (omega arith), add-mul (v / D) 1 D))))
    d)
    (cases_order b (v / D))

-- the item x has the whole part and the zero of the value v
module _ (top D v : ℕ) (x : Item) (pos : 0 < D) (whole : x.whole ≡ min (v / D) (top + 1)) (zeros : (x.rank ≡ 0 → v % D ≡ 0) × (v % D ≡ 0 → x.rank ≡ 0)) where
  above_from : (l : Lower) → bound l ≤ top → AtLeast D l v → above l x ≡ true
  above_from (From b) le h = let a = against b v D pos in grind (arith, nat_tests)
  above_from (Over b) le h = let a = against b v D pos in let z = zeros.0 in grind (arith, nat_tests)

  below_from : (u : Upper) → UpperFits top u → AtMost D u v → below u x ≡ true
  below_from (Upto b) le h = let a = against b v D pos in let z = zeros.1 in grind (arith, nat_tests)
  below_from (Under b) le h = let a = against b v D pos in grind (arith, nat_tests)
  below_from Unbounded le h = refl

  -- it lies in each interval that the value lies in
  pub lies_from : (i : Interval) → Fits top i → Inside D i v → lies_in i x ≡ true
  lies_from i f h = and_from (above i.lower x) (below i.upper x) (above_from i.lower f.0 h.0) (below_from i.upper f.1 h.1)

  above_to : (l : Lower) → bound l ≤ top → above l x ≡ true → AtLeast D l v
  above_to (From b) le h = let a = against b v D pos in grind (arith, nat_tests)
  above_to (Over b) le h = let a = against b v D pos in let z = zeros.1 in grind (arith, nat_tests)

  below_to : (u : Upper) → UpperFits top u → below u x ≡ true → AtMost D u v
  below_to (Upto b) le h = let a = against b v D pos in let z = zeros.0 in grind (arith, nat_tests)
  below_to (Under b) le h = let a = against b v D pos in grind (arith, nat_tests)
  below_to Unbounded le h = tt

  -- and in no other
  pub lies_to : (i : Interval) → Fits top i → lies_in i x ≡ true → Inside D i v
  lies_to i f h =
      let p = and_parts (above i.lower x) (below i.upper x) h in
      (above_to i.lower f.0 p.0, below_to i.upper f.1 p.1)
