use Rattle.std.proofs.Common.{◌≡◌, ℕ, zero, suc, ◌+◌, ◌/◌, ◌%◌, ◌<◌, ◌≤◌, min, true, false, eqb, List, map, length, get_or, sym, refl, ap, ◌∙◌, ⊎_elim, suc-add, zero-add, add-one, arith}
use Rattle.std.proofs.lemmas.Nat.{mod_below}
use Rattle.std.proofs.lemmas.List.{length-map, get_or-map, get_or_default}
use Rattle.std.proofs.lemmas.List.Folds.{list_any_at, Any-from_list_any}
use Rattle.std.proofs.lemmas.List.Recursion.{max_bounds, max_least}
use Rattle.std.proofs.lemmas.Bool.{cond-true, cond-false, cases_Bool, eqb-true, eq-eqb}
use Rattle.ranking.specs.declared.Item.{Item}
use Rattle.ranking.specs.Rotation.{has_zero, greatest, raised, fallen, rotated, turns}
use Rattle.ranking.specs.Ranks.{Held, Past}
use Rattle.ranking.specs.Items.{none, whole_at, rank_at, each, Holds}
use Rattle.abstraction.specs.Frames.{plus}
use Rattle.abstraction.proofs.Found.{plus_zero, plus_plus}
use Rattle.ranking.proofs.Each.{length_each, getD_each}
use Rattle.ranking.proofs.Close.{rank_few}
use Rattle.ranking.proofs.Steps.{ranks_same, risen, none_whole, later_inside, later_over, find}

pub zero_from : (xs : List Item) (i : ℕ) → i < length xs → rank_at xs i ≡ 0 → has_zero xs ≡ true
zero_from xs i lt e = list_any_at (λ x. eqb x.rank 0) xs i none lt (eq-eqb _ _ e)

pub no_zero : (xs : List Item) → has_zero xs ≡ false → (i : ℕ) → i < length xs → 1 ≤ rank_at xs i
no_zero xs e i lt = let h = zero_from xs i lt in grind arith

pub rank_le : (xs : List Item) (i : ℕ) → i < length xs → rank_at xs i ≤ greatest xs
rank_le xs i lt = max_bounds greatest (λ x. x.rank) refl (λ _ _. refl) xs i none lt

pub greatest_le : (xs : List Item) (b : ℕ) → ((i : ℕ) → i < length xs → rank_at xs i ≤ b) → greatest xs ≤ b
greatest_le xs b h = max_least greatest (λ x. x.rank) refl (λ _ _. refl) xs none b h

pub zero_at : (xs : List Item) → has_zero xs ≡ true → (i : ℕ) × (i < length xs) × (rank_at xs i ≡ 0)
zero_at xs e = let h = Any-from_list_any (λ x. eqb x.rank 0) xs e in (h.0, h.2, ap (λ x. x.rank) (get_or_default xs h.0 none h.1 h.2 ∙ h.3) ∙ eqb-true _ _ h.4)

-- a rotation, item by item
pub turn_up : (c : ℕ → ℕ) (xs : List Item) → has_zero xs ≡ true → rotated c xs ≡ map raised xs
turn_up c xs e = cond-true (has_zero xs) _ _ e

pub turn_over : (c : ℕ → ℕ) (xs : List Item) → has_zero xs ≡ false → rotated c xs ≡ each (fallen c (greatest xs)) 0 xs
turn_over c xs e = cond-false (has_zero xs) _ _ e

pub length_rotated : (c : ℕ → ℕ) (xs : List Item) → length (rotated c xs) ≡ length xs
length_rotated c xs = ⊎_elim (λ e. ap length (turn_up c xs e) ∙ length-map xs raised) (λ e. ap length (turn_over c xs e) ∙ length_each (fallen c (greatest xs)) 0 xs) (cases_Bool (has_zero xs))

pub at_up : (c : ℕ → ℕ) (xs : List Item) → has_zero xs ≡ true → (i : ℕ) → i < length xs → get_or (rotated c xs) i none ≡ raised (get_or xs i none)
at_up c xs e i lt = ap (λ ys. get_or ys i none) (turn_up c xs e) ∙ get_or-map raised xs i none none lt

pub at_over : (c : ℕ → ℕ) (xs : List Item) → has_zero xs ≡ false → (i : ℕ) → i < length xs → get_or (rotated c xs) i none ≡ fallen c (greatest xs) i (get_or xs i none)
at_over c xs e i lt = ap (λ ys. get_or ys i none) (turn_over c xs e) ∙ getD_each (fallen c (greatest xs)) 0 xs i none lt ∙ ap (λ n. fallen c (greatest xs) n (get_or xs i none)) (zero-add i)

pub length_turns : (n : ℕ) (c : ℕ → ℕ) (xs : List Item) → length (turns n c xs) ≡ length xs
length_turns zero c xs = refl
length_turns (suc n) c xs = length_rotated c (turns n c xs) ∙ length_turns n c xs

-- past the values vs by half a unit
record HalfPast (m : ℕ) (c : ℕ → ℕ) (D : ℕ) (xs : List Item) (vs : List ℕ) : Type 0 where
  pub items : length xs ≡ m
  pub values : length vs ≡ m
  pub each : Past m c D (whole_at xs) (rank_at xs) (λ i. get_or vs i 0)

half : (m : ℕ) (c : ℕ → ℕ) (D : ℕ) (xs : List Item) (vs : List ℕ) → m < 255 → Holds m c D xs vs → (n : ℕ) × HalfPast m c D (turns n c xs) vs
half m c D xs vs few h =
    ⊎_elim
    (λ (e : has_zero xs ≡ true).
    let z = zero_at xs e in
    let at = λ (i : ℕ) (lt : i < m). at_up c xs e i (omega (arith, h.items)) in
    let rise : (i : ℕ) → i < m → rank_at xs i + 1 ≡ rank_at (rotated c xs) i = λ i lt. sym (ap (λ x. x.rank) (at i lt) ∙ omega (arith, rank_few m (rank_at xs) h.each.ranks.gapless i lt)) in (
      1,
      record {
        items = length_rotated c xs ∙ h.items;
        values = h.values;
        each = record {
          wholes = λ i lt. ap (λ x. x.whole) (at i lt) ∙ h.each.wholes i lt;
          ranks = ranks_same m _ _ _ _ (risen m (rank_at xs) _ h.each.ranks z.0 (omega (arith, h.items)) z.2) rise (λ i lt. refl);
        };
      },
    ))
    (λ (e : has_zero xs ≡ false). (
      0,
      record {
        items = h.items;
        values = h.values;
        each = record {
          wholes = h.each.wholes;
          ranks = none_whole m (rank_at xs) _ h.each.ranks (λ i lt. no_zero xs e i (omega (arith, h.items)));
        };
      },
    ))
    (cases_Bool (has_zero xs))

pub plus_at : (d : ℕ) (vs : List ℕ) (i : ℕ) → i < length vs → get_or (plus d vs) i 0 ≡ get_or vs i 0 + d
plus_at d vs i lt = get_or-map (λ v. v + d) vs i 0 0 lt

-- the values of a list, where only the frame's own places count
pub held_same : (m : ℕ) (c : ℕ → ℕ) (D : ℕ) (w ρ v w' ρ' v' : ℕ → ℕ) → Held m c D w ρ v
    → ((i : ℕ) → i < m → w i ≡ w' i) → ((i : ℕ) → i < m → ρ i ≡ ρ' i) → ((i : ℕ) → i < m → v i ≡ v' i) → Held m c D w' ρ' v'
held_same m c D w ρ v w' ρ' v' h a b e = record {
  wholes = λ i lt. sym (a i lt) ∙ h.wholes i lt ∙ ap (λ x. min (x / D) (c i + 1)) (e i lt);
  ranks = ranks_same m _ _ _ _ h.ranks b (λ i lt. ap (λ x. x % D) (e i lt));
}

other_half : (m : ℕ) (c : ℕ → ℕ) (D : ℕ) (xs : List Item) (vs : List ℕ) → 0 < D → HalfPast m c D xs vs → (n : ℕ) × Holds m c D (turns n c xs) (plus 1 vs)
other_half m c D xs vs pos h =
    let long : length (plus 1 vs) ≡ m = length-map vs (λ v. v + 1) ∙ h.values in
    let val : (i : ℕ) → i < m → get_or vs i 0 + 1 ≡ get_or (plus 1 vs) i 0 = λ i lt. sym (plus_at 1 vs i (omega (arith, h.values))) in
    ⊎_elim
    (λ (f : (i : ℕ) × (i < m) × (get_or vs i 0 % D + 1 ≡ D)).
    let o = later_over m c D (whole_at xs) (rank_at xs) (λ i. get_or vs i 0) pos h.each f.0 f.1 f.2 in
    let e : has_zero xs ≡ false = ⊎_elim (λ (t : has_zero xs ≡ true). let z = zero_at xs t in absurd (omega (arith, z.1, z.2, h.items, (o.0 z.0 (omega (arith, z.1, h.items))).0))) (λ n. n) (cases_Bool (has_zero xs)) in
    let most : greatest xs ≡ rank_at xs f.0 = omega (arith, rank_le xs f.0 (omega (arith, h.items)), greatest_le xs (rank_at xs f.0) (λ i lt. (o.0 i (omega (arith, h.items))).1)) in
    let at : (i : ℕ) → i < m → get_or (rotated c xs) i none ≡ fallen c (rank_at xs f.0) i (get_or xs i none) = λ i lt. at_over c xs e i (omega (arith, h.items)) ∙ ap (λ k. fallen c k i (get_or xs i none)) most in (
      1,
      record {
        items = length_rotated c xs ∙ h.items;
        values = long;
        each = held_same m c D _ _ _ _ _ _ o.1
            (λ i lt. sym (ap (λ x. x.whole) (at i lt)))
            (λ i lt. sym (ap (λ x. x.rank) (at i lt)))
            val;
      },
    ))
    (λ (n : (i : ℕ) → i < m → get_or vs i 0 % D + 1 ≡ D → ⊥). (
      0,
      record {
        items = h.items;
        values = long;
        each = held_same m c D _ _ _ _ _ _ (later_inside m c D (whole_at xs) (rank_at xs) (λ i. get_or vs i 0) pos h.each (λ i lt. let k = mod_below (get_or vs i 0) D pos in let q = n i lt in grind arith))
            (λ i lt. refl) (λ i lt. refl) val;
      },
    ))
    (find (λ i. get_or vs i 0 % D + 1) D m)

pub turns_add : (a b : ℕ) (c : ℕ → ℕ) (xs : List Item) → turns (a + b) c xs ≡ turns a c (turns b c xs)
turns_add zero b c xs = rw zero-add refl
turns_add (suc a) b c xs = rw suc-add (ap (rotated c) (turns_add a b c xs))

pub unit_covers : (m : ℕ) (c : ℕ → ℕ) (D : ℕ) (xs : List Item) (vs : List ℕ) → 0 < D → m < 255 → Holds m c D xs vs → (n : ℕ) × Holds m c D (turns n c xs) (plus 1 vs)
unit_covers m c D xs vs pos few h =
    let a = half m c D xs vs few h in
    let b = other_half m c D (turns a.0 c xs) vs pos a.1 in
    (b.0 + a.0, rw turns_add b.1)

-- time stays within the rotations
pub time_covers : (m : ℕ) (c : ℕ → ℕ) (D : ℕ) (xs : List Item) (vs : List ℕ) → 0 < D → m < 255 → Holds m c D xs vs → (d : ℕ) → (n : ℕ) × Holds m c D (turns n c xs) (plus d vs)
time_covers m c D xs vs pos few h zero = (0, rw plus_zero h)
time_covers m c D xs vs pos few h (suc d) =
    let a = time_covers m c D xs vs pos few h d in
    let b = unit_covers m c D (turns a.0 c xs) (plus d vs) pos few a.1 in
    let e : plus 1 (plus d vs) ≡ plus (suc d) vs = plus_plus 1 d vs ∙ ap (λ n. plus n vs) (add-one d) in
    (b.0 + a.0, rw (turns_add, ← e) b.1)
