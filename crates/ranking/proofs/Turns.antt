use Rattle.std.proofs.Common.{◌≡◌, ℕ, zero, suc, ◌+◌, ◌-◌, ◌*◌, ◌/◌, ◌%◌, ◌<◌, ◌≤◌, min, true, false, List, [], ◌∷◌, map, length, get_or, sym, refl, ap, ◌∙◌, ⊎_elim, add-zero, add_assoc, mul_assoc, mul_comm, zero-add, mul-add, arith}
use native.Mathlib.Nat.{add-div_right, add-mod_right}
use Rattle.std.proofs.lemmas.List.{length-map, get_or-map}
use Rattle.std.proofs.lemmas.Nat.{mod_below, le-div, div-mul-add, mod-mul-add, mul-le}
use Rattle.std.proofs.lemmas.Bool.{cases_Bool, cases_lt}
use Rattle.std.proofs.lemmas.Bool.Decides.{nat_tests}
use Rattle.abstraction.specs.Frames.{plus}
use Rattle.abstraction.proofs.Found.{plus_zero, plus_plus}
use Rattle.ranking.specs.declared.Item.{Item}
use Rattle.ranking.specs.Items.{none, whole_at, rank_at, each}
use Rattle.ranking.specs.Rotation.{has_zero, greatest, raised, fallen, rotated, turns}
use Rattle.ranking.specs.Ranks.{Gapless}
use Rattle.ranking.proofs.Joined.{same_item}
use Rattle.ranking.proofs.Steps.{next_inside, next_over}
use Rattle.ranking.proofs.Lists.{zero_from, zero_at, no_zero, rank_le, greatest_le, turn_up, turn_over, plus_at, turns_add}

-- a region whose fractions fill D classes, as values: the items at the classes, and past them

abbrev even : (ℕ → ℕ) → ℕ → ℕ → ℕ → Item
even c D i u = record { whole = min (u / D) (c i + 1); rank = u % D }

abbrev odd : (ℕ → ℕ) → ℕ → ℕ → ℕ → Item
odd c D i u = record { whole = min (u / D) (c i + 1); rank = u % D + 1 }

-- f of each place, counted from k, and the value there
abbrev items_by : (ℕ → ℕ → Item) → ℕ → List ℕ → List Item
items_by f k [] = []
items_by f k (u ∷ us) = f k u ∷ items_by f (suc k) us

length_by : (f : ℕ → ℕ → Item) (k : ℕ) (us : List ℕ) → length (items_by f k us) ≡ length us
length_by f k [] = refl
length_by f k (u ∷ us) = ap suc (length_by f (suc k) us)

getD_by : (f : ℕ → ℕ → Item) (k : ℕ) (us : List ℕ) (i : ℕ) → i < length us → get_or (items_by f k us) i none ≡ f (k + i) (get_or us i 0)
getD_by f k [] i lt = absurd (omega arith)
getD_by f k (u ∷ us) zero lt = ap (λ n. f n u) (sym (add-zero k))
getD_by f k (u ∷ us) (suc i) lt = let e : suc k + i ≡ k + suc i = omega arith in getD_by f (suc k) us i (omega arith) ∙ ap (λ n. f n (get_or us i 0)) e

abbrev Full : ℕ → List ℕ → Type 0
Full D us = (q : ℕ) → q < D → (i : ℕ) × (i < length us) × (get_or us i 0 % D ≡ q)

turn_first : (n : ℕ) (c : ℕ → ℕ) (xs : List Item) → turns n c (rotated c xs) ≡ rotated c (turns n c xs)
turn_first zero c xs = refl
turn_first (suc n) c xs = ap (rotated c) (turn_first n c xs)

module _ (c : ℕ → ℕ) (T D : ℕ) (low : (i : ℕ) → c i ≤ T) (pos : 0 < D) (few : D ≤ 255) where
  raise_even : (i u : ℕ) → raised (even c D i u) ≡ odd c D i u
  raise_even i u = same_item _ _ refl (omega (arith, mod_below u D pos))

  raise_evens : (k : ℕ) (us : List ℕ) → map raised (items_by (even c D) k us) ≡ items_by (odd c D) k us
  raise_evens k [] = refl
  raise_evens k (u ∷ us) = ap (λ x. x ∷ map raised (items_by (even c D) (suc k) us)) (raise_even k u) ∙ ap (λ l. odd c D k u ∷ l) (raise_evens (suc k) us)

  fall_odd : (i u : ℕ) → fallen c D i (odd c D i u) ≡ even c D i (u + 1)
  fall_odd i u =
      let k = mod_below u D pos in
      ⊎_elim
      (λ (l : u % D + 1 < D). let n = next_inside u D pos l in same_item _ _ (grind (arith, nat_tests)) (grind (arith, nat_tests)))
      (λ (g : D ≤ u % D + 1). let n = next_over u D pos (omega arith) in same_item _ _ (grind (arith, nat_tests)) (grind (arith, nat_tests)))
      (cases_lt (u % D + 1) D)

  fall_odds : (k : ℕ) (us : List ℕ) → each (fallen c D) k (items_by (odd c D) k us) ≡ items_by (even c D) k (plus 1 us)
  fall_odds k [] = refl
  fall_odds k (u ∷ us) = ap (λ x. x ∷ each (fallen c D) (suc k) (items_by (odd c D) (suc k) us)) (fall_odd k u) ∙ ap (λ l. even c D k (u + 1) ∷ l) (fall_odds (suc k) us)

  turn_even : (us : List ℕ) → Full D us → rotated c (items_by (even c D) 0 us) ≡ items_by (odd c D) 0 us
  turn_even us f =
      let z = f 0 pos in
      turn_up c _ (zero_from (items_by (even c D) 0 us) z.0 (rw length_by z.1) (ap (λ x. x.rank) (getD_by (even c D) 0 us z.0 z.1) ∙ z.2)) ∙ raise_evens 0 us

  odd_rank : (us : List ℕ) (i : ℕ) → i < length us → rank_at (items_by (odd c D) 0 us) i ≡ get_or us i 0 % D + 1
  odd_rank us i lt = ap (λ x. x.rank) (getD_by (odd c D) 0 us i lt)

  turn_odd : (us : List ℕ) → Full D us → rotated c (items_by (odd c D) 0 us) ≡ items_by (even c D) 0 (plus 1 us)
  turn_odd us f =
      let xs = items_by (odd c D) 0 us in
      let long : length xs ≡ length us = length_by (odd c D) 0 us in
      let e : has_zero xs ≡ false = ⊎_elim (λ (t : has_zero xs ≡ true). let z = zero_at xs t in absurd (omega (arith, z.2, odd_rank us z.0 (omega (arith, long, z.1))))) (λ n. n) (cases_Bool (has_zero xs)) in
      let g = f (D - 1) (omega arith) in
      let most : greatest xs ≡ D = omega (
        arith,
        rank_le xs g.0 (omega (arith, long, g.1)),
        odd_rank us g.0 g.1,
        g.2,
        greatest_le xs D (λ i lt. omega (arith, odd_rank us i (omega (arith, long)), mod_below (get_or us i 0) D pos)),
      ) in
      turn_over c xs e ∙ ap (λ k. each (fallen c k) 0 xs) most ∙ fall_odds 0 us

  full_later : (us : List ℕ) → Full D us → Full D (plus 1 us)
  full_later us f q lt =
      ⊎_elim
      (λ (z : q < 1). let g = f (D - 1) (omega arith) in
      let n = next_over (get_or us g.0 0) D pos (omega (arith, g.2)) in
      (g.0, rw length-map g.1, ap (λ x. x % D) (plus_at 1 us g.0 g.1) ∙ omega (arith, n.1)))
      (λ (p : 1 ≤ q). let g = f (q - 1) (omega arith) in
      let n = next_inside (get_or us g.0 0) D pos (omega (arith, g.2)) in
      (g.0, rw length-map g.1, ap (λ x. x % D) (plus_at 1 us g.0 g.1) ∙ omega (arith, n.1, g.2)))
      (cases_lt q 1)

  -- two rotations are a unit
  twice : (t : ℕ) (us : List ℕ) → Full D us → turns (2 * t) c (items_by (even c D) 0 us) ≡ items_by (even c D) 0 (plus t us)
  twice zero us f = sym (ap (items_by (even c D) 0) (plus_zero us))
  twice (suc t) us f =
      let n : 2 * suc t ≡ 2 * t + 2 = omega arith in
      let s : 1 + t ≡ suc t = omega arith in
      let e = turn_even us f in
      let o = turn_odd us f in
      let two : turns 2 c (items_by (even c D) 0 us) ≡ items_by (even c D) 0 (plus 1 us) = ap (rotated c) e ∙ o in
      rw (n, turns_add, two, twice t (plus 1 us) (full_later us f)) (ap (items_by (even c D) 0) (plus_plus t 1 us ∙ ap (λ d. plus d us) s))

  -- past the ceilings a round changes nothing
  round : (x : ℕ) → D * (T + 1) ≤ x → (k : ℕ) (us : List ℕ) → items_by (even c D) k (plus (x + D) us) ≡ items_by (even c D) k (plus x us)
  round x h k [] = refl
  round x h k (u ∷ us) =
      let a = round x h (suc k) us in
      let s : u + (x + D) ≡ u + x + D = omega arith in
      let q = le-div (T + 1) (u + x) D pos (omega (arith, mul_comm D (T + 1))) in
      let d : (u + (x + D)) / D ≡ (u + x) / D + 1 = rw s (add-div_right (u + x) pos) in
      let r : (u + (x + D)) % D ≡ (u + x) % D = rw s (add-mod_right (u + x) D) in
      let b : even c D k (u + (x + D)) ≡ even c D k (u + x) = same_item (even c D k (u + (x + D))) (even c D k (u + x)) (omega (arith, low k)) r in
      ap (λ y. y ∷ items_by (even c D) (suc k) (plus (x + D) us)) b ∙ ap (λ l. even c D k (u + x) ∷ l) a

  even_period : (us : List ℕ) → Full D us → turns (2 * (D * (T + 1)) + 2 * D) c (items_by (even c D) 0 us) ≡ turns (2 * (D * (T + 1))) c (items_by (even c D) 0 us)
  even_period us f =
      let n : 2 * (D * (T + 1)) + 2 * D ≡ 2 * (D * (T + 1) + D) = omega arith in
      rw n (twice (D * (T + 1) + D) us f ∙ round (D * (T + 1)) (omega arith) 0 us ∙ sym (twice (D * (T + 1)) us f))

  odd_period : (us : List ℕ) → Full D us → turns (2 * (D * (T + 1)) + 2 * D) c (items_by (odd c D) 0 us) ≡ turns (2 * (D * (T + 1))) c (items_by (odd c D) 0 us)
  odd_period us f = rw (← turn_even us f) (turn_first (2 * (D * (T + 1)) + 2 * D) c _ ∙ ap (rotated c) (even_period us f) ∙ sym (turn_first (2 * (D * (T + 1))) c _))

-- a rotation that comes back makes all later ones come back
among : (c : ℕ → ℕ) (N P : ℕ) (xs : List Item) → 0 < P → turns (N + P) c xs ≡ turns N c xs → (b n : ℕ) → n < b → (j : ℕ) × (j < N + P) × (turns n c xs ≡ turns j c xs)
among c N P xs pos e zero n lt = absurd (omega arith)
among c N P xs pos e (suc b) n lt =
    ⊎_elim
    (λ (h : n < N + P). (n, h, refl))
    (λ (h : N + P ≤ n).
    let r = among c N P xs pos e b (n - P) (omega arith) in
    let s : n ≡ (n - (N + P)) + (N + P) = omega arith in
    let s' : n - P ≡ (n - (N + P)) + N = omega arith in
    (r.0, r.1, ap (λ k. turns k c xs) s ∙ turns_add (n - (N + P)) (N + P) c xs ∙ ap (turns (n - (N + P)) c) e ∙ sym (turns_add (n - (N + P)) N c xs) ∙ sym (ap (λ k. turns k c xs) s') ∙ r.2))
    (cases_lt n (N + P))

-- a region as values that fill its classes
abbrev unit_of : ℕ → ℕ → Item → ℕ
unit_of D b x = x.whole * D + (x.rank - b)

pub greatest_at : (xs : List Item) → 1 ≤ greatest xs → (i : ℕ) × (i < length xs) × (rank_at xs i ≡ greatest xs)
greatest_at [] h = absurd (omega arith)
greatest_at (x ∷ xs) h =
    ⊎_elim
    (λ (l : x.rank < greatest xs). let t = greatest_at xs (omega arith) in (suc t.0, omega arith, omega (arith, t.2)))
    (λ (g : greatest xs ≤ x.rank). (0, omega arith, omega arith))
    (cases_lt x.rank (greatest xs))

as_even : (c : ℕ → ℕ) (D k : ℕ) (xs : List Item) → ((i : ℕ) → i < length xs → (whole_at xs i ≤ c (k + i) + 1) × (rank_at xs i < D)) → items_by (even c D) k (map (unit_of D 0) xs) ≡ xs
as_even c D k [] h = refl
as_even c D k (x ∷ xs) h =
    let h0 = h 0 (omega arith) in
    let k0 = ap c (add-zero k) in
    let r : x.rank - 0 < D = omega arith in
    let d = div-mul-add x.whole D (x.rank - 0) r in
    let m = mod-mul-add x.whole D (x.rank - 0) r in
    let a : even c D k (unit_of D 0 x) ≡ x = same_item (even c D k (unit_of D 0 x)) x (omega arith) (omega arith) in
    let b = as_even c D (suc k) xs (λ i lt. let g = h (suc i) (omega arith) in let e : k + suc i ≡ suc k + i = omega arith in (omega (arith, ap c e), g.1)) in
    ap (λ y. y ∷ items_by (even c D) (suc k) (map (unit_of D 0) xs)) a ∙ ap (λ l. x ∷ l) b

as_odd : (c : ℕ → ℕ) (D k : ℕ) (xs : List Item) → ((i : ℕ) → i < length xs → (whole_at xs i ≤ c (k + i) + 1) × (1 ≤ rank_at xs i) × (rank_at xs i ≤ D)) → items_by (odd c D) k (map (unit_of D 1) xs) ≡ xs
as_odd c D k [] h = refl
as_odd c D k (x ∷ xs) h =
    let h0 = h 0 (omega arith) in
    let k0 = ap c (add-zero k) in
    let r : x.rank - 1 < D = omega arith in
    let d = div-mul-add x.whole D (x.rank - 1) r in
    let m = mod-mul-add x.whole D (x.rank - 1) r in
    let a : odd c D k (unit_of D 1 x) ≡ x = same_item (odd c D k (unit_of D 1 x)) x (omega arith) (omega arith) in
    let b = as_odd c D (suc k) xs (λ i lt. let g = h (suc i) (omega arith) in let e : k + suc i ≡ suc k + i = omega arith in (omega (arith, ap c e), g.1, g.2)) in
    ap (λ y. y ∷ items_by (odd c D) (suc k) (map (unit_of D 1) xs)) a ∙ ap (λ l. x ∷ l) b

-- the classes are filled where each rank from b on is used
filled : (D b : ℕ) (xs : List Item) → ((q : ℕ) → q < D → (i : ℕ) × (i < length xs) × (rank_at xs i ≡ q + b)) → Full D (map (unit_of D b) xs)
filled D b xs h q lt =
    let g = h q lt in
    (g.0, rw length-map g.1, ap (λ u. u % D) (get_or-map (unit_of D b) xs g.0 none 0 g.1) ∙ mod-mul-add (whole_at xs g.0) D (rank_at xs g.0 - b) (omega (arith, g.2)) ∙ omega (arith, g.2))

rounds : (D k T : ℕ) → D ≤ k + 1 → 2 * (D * (T + 1)) + 2 * D ≤ 2 * (k + 1) * (T + 2)
rounds D k T le =
    omega (arith, mul-le D (T + 2) (k + 1) (T + 2) le (omega arith), mul-add D (T + 1) 1, mul_assoc 2 (k + 1) (T + 2), ap (λ n. D * n) (add_assoc T 1 1))

still_none : (n : ℕ) (c : ℕ → ℕ) → turns n c [] ≡ []
still_none zero c = refl
still_none (suc n) c = ap (rotated c) (still_none n c)

-- every rotation is among the first
pub every_turn : (c : ℕ → ℕ) (T : ℕ) (xs : List Item) → ((i : ℕ) → c i ≤ T) → greatest xs < 255 → ((i : ℕ) → i < length xs → whole_at xs i ≤ c i + 1) → Gapless (length xs) (rank_at xs)
    → (n : ℕ) → (j : ℕ) × (j < 2 * (greatest xs + 1) * (T + 2)) × (turns n c xs ≡ turns j c xs)
every_turn c T [] low few small gapless n = (0, omega arith, still_none n c)
every_turn c T (x ∷ rest) low few small gapless n =
    let xs : List Item = x ∷ rest in
    let k = greatest xs in
    let at0 : (i : ℕ) → c (0 + i) ≡ c i = λ i. ap c (zero-add i) in
    let within = λ (D : ℕ) (le : D ≤ k + 1). rounds D k T le in
    ⊎_elim
    (λ (z : has_zero xs ≡ true).
    let D = k + 1 in
    let is : items_by (even c D) 0 (map (unit_of D 0) xs) ≡ xs = as_even c D 0 xs (λ i lt. (omega (arith, small i lt, at0 i), omega (arith, rank_le xs i lt))) in
    let f : Full D (map (unit_of D 0) xs) = filled D 0 xs (λ q lt. ⊎_elim
    (λ (c0 : q < 1). let t = zero_at xs z in (t.0, t.1, omega (arith, t.2)))
    (λ (c1 : 1 ≤ q). let t = greatest_at xs (omega arith) in let g = gapless t.0 q t.1 c1 (omega (arith, t.2)) in (g.0, g.1, omega (arith, g.2)))
    (cases_lt q 1)) in
    let p = rw is at (even_period c T D low (omega arith) (omega arith) (map (unit_of D 0) xs) f) in
    let r = among c (2 * (D * (T + 1))) (2 * D) xs (omega arith) p (suc n) n (omega arith) in
    (r.0, omega (arith, r.1, within D (omega arith)), r.2))
    (λ (z : has_zero xs ≡ false).
    let D = k in
    let one : 1 ≤ x.rank = no_zero xs z 0 (omega arith) in
    let is : items_by (odd c D) 0 (map (unit_of D 1) xs) ≡ xs = as_odd c D 0 xs (λ i lt. (omega (arith, small i lt, at0 i), no_zero xs z i lt, rank_le xs i lt)) in
    let f : Full D (map (unit_of D 1) xs) = filled D 1 xs (λ q lt.
    let t = greatest_at xs (omega arith) in let g = gapless t.0 (q + 1) t.1 (omega arith) (omega (arith, t.2)) in (g.0, g.1, omega (arith, g.2))) in
    let p = rw is at (odd_period c T D low (omega arith) (omega arith) (map (unit_of D 1) xs) f) in
    let r = among c (2 * (D * (T + 1))) (2 * D) xs (omega arith) p (suc n) n (omega arith) in
    (r.0, omega (arith, r.1, within D (omega arith)), r.2))
    (cases_Bool (has_zero xs))
