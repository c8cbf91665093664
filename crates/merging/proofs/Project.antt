use Rattle.std.proofs.Common.{◌≡◌, ℕ, ◌+◌, ◌-◌, ◌*◌, ◌<◌, ◌≤◌, Bool, true, false, cond, eqb, ltb, ◌⊎◌, List, ◌++◌, length, get_or, take, drop, replicate, sym, ap, ◌∙◌, inl, inr, ⊎_elim, zero-add, arith}
use Rattle.std.proofs.lemmas.List.{ext_get_or, get_or-take, get_or-drop, get_or_past, get_or-replicate, length-take, length-drop, length-replicate}
use Rattle.std.proofs.lemmas.Bool.{cases_lt, cases_eq, lt-ltb, le-ltb, eq-eqb, ne_eqb}
use Rattle.ranking.specs.declared.Item.{Item}
use Rattle.ranking.specs.Items.{none, with_items, whole_at, rank_at, each}
use Rattle.ranking.specs.Ranks.{Orders, Zeros}
use Rattle.ranking.specs.Close.{shut, closed}
use Rattle.ranking.proofs.Each.{getD_each, length_each}
use Rattle.merging.specs.declared.Keys.{Keys}
use Rattle.merging.specs.Pop.{part, frame_of, rekeyed}
use Rattle.merging.specs.Law.{place_of, projected, region_of}
use Rattle.merging.proofs.Sound.{left_at, right_at}
use Rattle.merging.proofs.Shuts.{same_shut}

each_at : {X : Type 0} (f : ℕ → X → X) (xs : List X) (i : ℕ) (d : X) → i < length xs → get_or (each f 0 xs) i d ≡ f i (get_or xs i d)
each_at f xs i d lt = getD_each f 0 xs i d lt ∙ ap (λ k. f k (get_or xs i d)) (zero-add i)

-- what stands at a place of a list that is made place by place
pub made_at : (f : ℕ → Item) (m i : ℕ) → i < m → get_or (each (λ k _. f k) 0 (replicate m none)) i none ≡ f i
made_at f m i lt = each_at (λ k _. f k) (replicate m none) i none (omega (arith, length-replicate m none))

pub length_made : (f : ℕ → Item) (m : ℕ) → length (each (λ k _. f k) 0 (replicate m none)) ≡ m
length_made f m = length_each (λ k _. f k) 0 (replicate m none) ∙ length-replicate m none

pub projected_at : (n : ℕ) (cs : List Item) (i : ℕ) → i < 2 * n + 3 → get_or (projected n cs) i none ≡ get_or cs (place_of n i) none
projected_at n cs i lt = made_at (λ k. get_or cs (place_of n k) none) (2 * n + 3) i lt

pub length_projected : (n : ℕ) (cs : List Item) → length (projected n cs) ≡ 2 * n + 3
length_projected n cs = length_made (λ k. get_or cs (place_of n k) none) (2 * n + 3)

module _ (n : ℕ) (few : n ≤ 3) (xs us : List Item) (lx : length xs ≡ 2 * n + 4) (lu : length us ≡ 2 * n + 3) where
  -- the side that the item at a place comes from, its place there and its place among all items
  pub side : (i : ℕ) → i < 2 * n + 3
      → ((i < n) × (ltb i n ≡ true) × (part n xs us i ≡ get_or us i none) × (place_of n i ≡ i)) ⊎ ((j : ℕ) × (j < 2 * n + 4) × (ltb i n ≡ false) × (part n xs us i ≡ get_or xs j none) × (place_of n i ≡ n + 1 + j))
  side i lt = ⊎_elim
      (λ (h : i < n). let t = lt-ltb i n h in inl (h, t, ap (λ b. cond b (get_or us i none) (cond (eqb i n) (get_or xs i none) (get_or xs (i + 1) none))) t, ap (λ b. cond b i (cond (eqb i n) (2 * n + 1) (i + n + 2))) t))
      (λ (h : n ≤ i). let t = le-ltb i n h in
      let part-is : part n xs us i ≡ cond (eqb i n) (get_or xs i none) (get_or xs (i + 1) none) = ap (λ b. cond b (get_or us i none) (cond (eqb i n) (get_or xs i none) (get_or xs (i + 1) none))) t in
      let place_is : place_of n i ≡ cond (eqb i n) (2 * n + 1) (i + n + 2) = ap (λ b. cond b i (cond (eqb i n) (2 * n + 1) (i + n + 2))) t in
      ⊎_elim
      (λ (e : i ≡ n). let q = eq-eqb i n e in
      inr (i, omega arith, t, part-is ∙ ap (λ b. cond b (get_or xs i none) (get_or xs (i + 1) none)) q, place_is ∙ ap (λ b. cond b (2 * n + 1) (i + n + 2)) q ∙ omega arith))
      (λ (d : i ≡ n → ⊥). let q = ne_eqb i n d in
      inr (i + 1, omega arith, t, part-is ∙ ap (λ b. cond b (get_or xs i none) (get_or xs (i + 1) none)) q, place_is ∙ ap (λ b. cond b (2 * n + 1) (i + n + 2)) q ∙ omega arith))
      (cases_eq i n))
      (cases_lt i n)

  pub part_past : (i : ℕ) → 2 * n + 3 ≤ i → part n xs us i ≡ none
  part_past i le =
      let t = le-ltb i n (omega arith) in
      let ne : i ≡ n → ⊥ = λ e. omega arith in
      let q = ne_eqb i n ne in
      ap (λ b. cond b (get_or us i none) (cond (eqb i n) (get_or xs i none) (get_or xs (i + 1) none))) t ∙ ap (λ b. cond b (get_or xs i none) (get_or xs (i + 1) none)) q ∙ get_or_past xs (i + 1) none (omega arith)

  module _ (k : Keys) (zero_left : left_at k 0 ≡ 0) where
    abbrev pub keyed : List Item
    keyed = each (rekeyed n k) 0 (frame_of n xs us).items

    -- the place of an item in the merged order
    abbrev pub key : ℕ → ℕ
    key i = (rekeyed n k i (part n xs us i)).rank

    keyed_at : (i : ℕ) → i < 9 → get_or keyed i none ≡ rekeyed n k i (part n xs us i)
    keyed_at i lt = each_at (rekeyed n k) (frame_of n xs us).items i none (omega (arith, length_made (part n xs us) 9)) ∙ ap (rekeyed n k i) (made_at (part n xs us) 9 i lt)

    long : length keyed ≡ 9
    long = length_each (rekeyed n k) 0 (frame_of n xs us).items ∙ length_made (part n xs us) 9

    none_keyed : (b : Bool) → b ≡ false → (r : ℕ) → record { whole = 0; rank = cond b r (left_at k 0) } ≡ none
    none_keyed b e r = ap (λ t. record { whole = 0; rank = cond t r (left_at k 0) }) e ∙ ap (λ z. record { whole = 0; rank = z }) zero_left

    rest : drop (2 * n + 3) keyed ≡ replicate (9 - (2 * n + 3)) none
    rest = ext_get_or none (drop (2 * n + 3) keyed) (replicate (9 - (2 * n + 3)) none) (length-drop (2 * n + 3) keyed ∙ omega (arith, long, length-replicate (9 - (2 * n + 3)) none))
        (λ i lt. let l : i < 9 - (2 * n + 3) = omega (arith, length-drop (2 * n + 3) keyed, long) in
        get_or-drop (2 * n + 3) keyed i none ∙ keyed_at (2 * n + 3 + i) (omega arith) ∙ ap (rekeyed n k (2 * n + 3 + i)) (part_past (2 * n + 3 + i) (omega arith))
        ∙ none_keyed (ltb (2 * n + 3 + i) n) (le-ltb (2 * n + 3 + i) n (omega arith)) (right_at k 0) ∙ sym (get_or-replicate (9 - (2 * n + 3)) i none none l))

    front_at : (i : ℕ) → i < 2 * n + 3 → get_or (take (2 * n + 3) keyed) i none ≡ rekeyed n k i (part n xs us i)
    front_at i lt = get_or-take (2 * n + 3) keyed i none lt ∙ keyed_at i (omega arith)

    -- items with the same whole parts, and ranks with the zeros and the order of the places
    pub finish_is : (zs : List Item) → length zs ≡ 2 * n + 3 → ((i : ℕ) → i < 2 * n + 3 → (part n xs us i).whole ≡ whole_at zs i) → Zeros (2 * n + 3) key (rank_at zs) → Orders (2 * n + 3) key (rank_at zs)
        → closed (2 * n + 3) (with_items keyed) ≡ region_of (2 * n + 3) (shut zs)
    finish_is zs lz w z o =
        let ranks : (i : ℕ) → i < 2 * n + 3 → rank_at (take (2 * n + 3) keyed) i ≡ key i = λ i lt. ap (λ x. x.rank) (front_at i lt) in
        let e : shut (take (2 * n + 3) keyed) ≡ shut zs = same_shut (2 * n + 3) (take (2 * n + 3) keyed) zs (omega (arith, length-take (2 * n + 3) keyed, long)) lz
        (λ i lt. ap (λ x. x.whole) (front_at i lt) ∙ w i lt)
        (λ i lt. let q = z i lt in let r = ranks i lt in ((λ y. q.0 (sym r ∙ y)), (λ y. r ∙ q.1 y)))
        (λ i j li lj. let q = o i j li lj in let r = ranks i li in let s = ranks j lj in ((λ y. q.0 (omega arith)), (λ y. let v = q.1 y in omega arith))) in
        ap (λ l. with_items (l ++ drop (2 * n + 3) keyed)) e ∙ ap (λ l. with_items (shut zs ++ l)) rest
