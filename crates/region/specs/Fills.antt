use Rattle.std.specs.Prelude.{◌≡◌, ℕ, zero, suc, ◌+◌, ◌-◌, ◌*◌, ◌<◌, ◌≤◌, Bool, true, false, not, ◌&&◌, ◌||◌, ltb, ◌⊎◌, List, [], ◌∷◌, map, length, get_or, drop, replicate, ◌==◌, ◌≢◌, nat_le, nat_lt, slice_index_or, slice_set, refl}
use Rattle.std.proofs.Common.{sym, ap, ◌∙◌, subst, inl, inr, ⊎_elim, arith, mul-one, length-set}
use Rattle.std.proofs.lemmas.List.{length-map, get_or-map, get_or-take, get_or-drop, get_or_past, get_or-set_same, get_or-set_other, drop-set-lt, drop-map, ext_get_or, length-replicate, get_or-replicate, length-drop}
use Rattle.std.proofs.lemmas.List.FromFn.{length-map-range_with_len, get_or-map-range_with_len}
use Rattle.std.proofs.lemmas.Bool.{cases_Bool, cases_eq, cases_lt, cond-true, cond-false, and_parts, and_from, ltb-true, both_ways}
use Rattle.std.proofs.lemmas.Bool.Decides.{nat_tests}
use Rattle.std.proofs.lemmas.Nat.{mul-le}
use Rattle.abstraction.specs.Bounds.{fits}
use Rattle.abstraction.specs.declared.interval.Interval.{Interval}
use Rattle.abstraction.specs.declared.interval.Lower.{Lower}
use Rattle.abstraction.specs.declared.interval.Lower.TheVariants.{From, Over}
use Rattle.abstraction.specs.declared.interval.Upper.{Upper}
use Rattle.abstraction.specs.declared.interval.Upper.TheVariants.{Upto, Under, Unbounded}
use Rattle.abstraction.specs.declared.scope.Scope.{Scope}
use Rattle.ranking.specs.declared.Item.{Item}
use Rattle.ranking.specs.declared.Region.{Region}
use Rattle.ranking.specs.Ranks.{Ranks}
use Rattle.ranking.specs.Items.{clocks_of, none, whole_at, rank_at, places, ceiling, with_items}
use Rattle.ranking.specs.Lawful.{front, Shaped, Lawful}
use Rattle.ranking.specs.Insert.{between}
use Rattle.ranking.specs.Close.{shut}
use Rattle.ranking.specs.Rotation.{greatest}
use Rattle.ranking.specs.Joined.{join, Adds, Below}
use Rattle.ranking.proofs.Steps.{ranks_same}
use Rattle.ranking.proofs.Close.{shut_ranks, shut_whole, rank_few}
use Rattle.ranking.proofs.Insert.{at_p, at_other, inserted, every_key}
use Rattle.ranking.proofs.Lists.{rank_le, greatest_le}
use Rattle.ranking.proofs.Joined.{join_adds, repeat_adds, adds_none, adds_like}
use Rattle.region.specs.Asked.{lawful, above, below, lies_in, asks}
use Rattle.region.specs.Listed.{doubled, spread, placed, placing, keys, fill_keys, fill, assign, source, opened, push}
use Rattle.region.specs.Laws.{Exactly, Owed}
use Rattle.region.specs.Shapes.{few_places, front_long, closed_front, closed_rest, closed_full, same_front, same_ranked, lawful_holds}
use Rattle.region.specs.Times.{exactly_adds}

-- whether an item lies in an interval depends on its whole part and on whether it has a fraction

above_like : (l : Lower) (x y : Item) → x.whole ≡ y.whole → (x.rank == 0) ≡ (y.rank == 0) → above l x ≡ above l y
above_like (From b) x y p q = ap (λ w. nat_le b w) p
above_like (Over b) x y p q = ap (λ w. nat_lt b w || (w == b && not (x.rank == 0))) p ∙ ap (λ e. nat_lt b y.whole || (y.whole == b && not e)) q

below_like : (u : Upper) (x y : Item) → x.whole ≡ y.whole → (x.rank == 0) ≡ (y.rank == 0) → below u x ≡ below u y
below_like (Upto b) x y p q = ap (λ w. nat_lt w b || (w == b && x.rank == 0)) p ∙ ap (λ e. nat_lt y.whole b || (y.whole == b && e)) q
below_like (Under b) x y p q = ap (λ w. ltb w b) p
below_like Unbounded x y p q = refl

pub lies_like : (i : Interval) (x y : Item) → x.whole ≡ y.whole → (x.rank == 0) ≡ (y.rank == 0) → lies_in i x ≡ lies_in i y
lies_like i x y p q = ap (λ b. b && below i.upper x) (above_like i.lower x y p q) ∙ ap (λ b. above i.lower y && b) (below_like i.upper x y p q)

pub same_zero : (a b : ℕ) → (a ≡ 0 → b ≡ 0) → (b ≡ 0 → a ≡ 0) → (a == 0) ≡ (b == 0)
same_zero a b f g = grind (arith, nat_tests)

map_empty : (n : ℕ) → map doubled (replicate n none) ≡ replicate n none
map_empty zero = refl
map_empty (suc n) = ap (λ l. none ∷ l) (map_empty n)

-- a region to fill at the place p
pub record Base (m : ℕ) (c : ℕ → ℕ) (p : ℕ) (r : Region) : Type 0 where
  pub shaped : Shaped m r
  pub wholes : (j : ℕ) → j < m → (j ≢ p) → whole_at (front m r) j ≤ c j + 1
  pub most : greatest (front m r) ≤ 9

module _ (w : Scope) (p : ℕ) (pm : p < places w) (r : Region) (b : Base (places w) (ceiling w) p r) where
  abbrev m : ℕ
  m = places w

  abbrev ρ : ℕ → ℕ
  ρ = rank_at (front (places w) r)

  abbrev with_new : Item → Region
  with_new x = with_items (slice_set (map doubled r.items) p x)

  le9 : places w ≤ 9
  le9 = (few_places w).0

  full : (x : Item) → length (with_new x).items ≡ 9
  full x = length-set (map doubled r.items) p x ∙ length-map r.items doubled ∙ b.shaped.full

  long : (x : Item) → length (front m (with_new x)) ≡ m
  long x = front_long m (with_new x) le9 (full x)

  new_here : (x : Item) → slice_index_or (front m (with_new x)) p none ≡ x
  new_here x = get_or-take m (with_new x).items p none pm ∙ get_or-set_same (map doubled r.items) p x none (omega (arith, length-map r.items doubled, b.shaped.full, le9))

  new_other : (x : Item) (j : ℕ) → j < m → (j ≢ p) → slice_index_or (front m (with_new x)) j none ≡ doubled (slice_index_or (front m r) j none)
  new_other x j lt n =
      get_or-take m (with_new x).items j none lt ∙ get_or-set_other (map doubled r.items) p j x none n
      ∙ get_or-map doubled r.items j none none (omega (arith, b.shaped.full, le9)) ∙ ap doubled (sym (get_or-take m r.items j none lt))

  small_rank : (j : ℕ) → j < m → ρ j ≤ 9
  small_rank j lt = omega (arith, rank_le (front m r) j (omega (arith, front_long m r le9 b.shaped.full)), b.most)

  new_rank : (x : Item) (j : ℕ) → j < m → rank_at (front m (with_new x)) j ≡ between p x.rank ρ j
  new_rank x j lt = ⊎_elim
      (λ (e : j ≡ p). ap (rank_at (front m (with_new x))) e ∙ ap (λ y. y.rank) (new_here x) ∙ sym (ap (between p x.rank ρ) e ∙ at_p p x.rank ρ))
      (λ (n : j ≡ p → ⊥). let d = ap (λ y. y.rank) (new_other x j lt n) in omega (arith, at_other p x.rank ρ j n, small_rank j lt))
      (cases_eq j p)

  new_whole : (x : Item) (j : ℕ) → j < m → ((j ≡ p) × (whole_at (front m (with_new x)) j ≡ x.whole)) ⊎ ((j ≢ p) × (whole_at (front m (with_new x)) j ≡ whole_at (front m r) j))
  new_whole x j lt = ⊎_elim
      (λ (e : j ≡ p). inl (e, ap (whole_at (front m (with_new x))) e ∙ ap (λ y. y.whole) (new_here x)))
      (λ (n : j ≡ p → ⊥). inr (n, ap (λ y. y.whole) (new_other x j lt n)))
      (cases_eq j p)

  -- the region with the item x at p
  abbrev put : Item → Region
  put x = placed w (spread r) p x

  put_shaped : (x : Item) → Shaped m (put x)
  put_shaped x = record {
    full = closed_full m (with_new x) le9 (full x);
    rest = closed_rest m (with_new x) le9 (full x) ∙ drop-set-lt m (map doubled r.items) p x pm ∙ drop-map doubled m r.items ∙ ap (map doubled) b.shaped.rest ∙ map_empty (9 - m);
  }

  put_front : (x : Item) → front m (put x) ≡ shut (front m (with_new x))
  put_front x = closed_front m (with_new x) le9 (full x)

  put_whole : (x : Item) (j : ℕ) → j < m → whole_at (front m (put x)) j ≡ whole_at (front m (with_new x)) j
  put_whole x j lt = ap (λ ys. whole_at ys j) (put_front x) ∙ shut_whole (front m (with_new x)) j (omega (arith, long x))

  put_ranks : (x : Item) → Ranks m (rank_at (front m (put x))) (between p x.rank ρ)
  put_ranks x =
      let s : Ranks m (rank_at (shut (front m (with_new x)))) (rank_at (front m (with_new x))) = subst (λ n. Ranks n (rank_at (shut (front m (with_new x)))) (rank_at (front m (with_new x)))) (long x) (shut_ranks (front m (with_new x))) in
      ranks_same m _ _ _ _ s (λ j lt. ap (λ ys. rank_at ys j) (sym (put_front x))) (λ j lt. new_rank x j lt)

  put_here : (i : Interval) (x : Item) → lies_in i (slice_index_or (front m (put x)) p none) ≡ lies_in i x
  put_here i x =
      let z = (put_ranks x).zeros p pm in
      let k = at_p p x.rank ρ in
      lies_like i (slice_index_or (front m (put x)) p none) x
      (put_whole x p pm ∙ ap (λ y. y.whole) (new_here x))
      (same_zero (rank_at (front m (put x)) p) x.rank (λ e. sym k ∙ z.0 e) (λ e. z.1 (k ∙ e)))

  -- each item in the interval gives a region that is owed
  pub put_owed : (i : Interval) (x : Item) → lies_in i x ≡ true → x.whole ≤ ceiling w p + 1 → Owed w p i r (put x)
  put_owed i x l le = record {
    lawful = record {
      shaped = put_shaped x;
      wholes = λ j lt. ⊎_elim
          (λ e. omega (arith, put_whole x j lt, e.1, ap (ceiling w) e.0))
          (λ e. omega (arith, put_whole x j lt, e.1, b.wholes j lt e.0))
          (new_whole x j lt);
      gapless = (put_ranks x).gapless;
    };
    wholes = λ j lt n. ⊎_elim (λ e. absurd (n e.0)) (λ e. put_whole x j lt ∙ e.1) (new_whole x j lt);
    ranks = inserted m p x.rank ρ (rank_at (front m (put x))) (put_ranks x);
    inside = put_here i x ∙ l;
  }

  -- and each that is owed comes of one
  pub owed_put : (i : Interval) (t : Region) → Owed w p i r t
      → (x : Item) × (x.whole ≤ ceiling w p + 1) × (x.rank ≤ 2 * greatest (front m r) + 1) × (lies_in i x ≡ true) × (t ≡ put x)
  owed_put i t o =
      let tl = o.lawful in
      let tlong = front_long m t le9 tl.shaped.full in
      let k = every_key m p (greatest (front m r)) ρ (rank_at (front m t)) pm (λ j lt n. rank_le (front m r) j (omega (arith, front_long m r le9 b.shaped.full))) o.ranks tl.gapless in
      let x : Item = record { whole = whole_at (front m t) p; rank = k.0 } in
      let here = at_p p k.0 ρ in
      let z = k.2.zeros p pm in
      let same : front m t ≡ front m (put x) = same_ranked m (between p k.0 ρ) (front m t) (front m (put x)) tlong (front_long m (put x) le9 (put_shaped x).full)
      (λ j l. ⊎_elim (λ e. ap (whole_at (front m t)) e.0 ∙ sym (put_whole x j l ∙ e.1)) (λ e. o.wholes j l e.0 ∙ sym (put_whole x j l ∙ e.1)) (new_whole x j l))
      k.2 (put_ranks x) in (
        x,
        tl.wholes p pm,
        k.1,
        sym (lies_like i (slice_index_or (front m t) p none) x refl (same_zero (rank_at (front m t) p) k.0 (λ e. sym here ∙ z.0 e) (λ e. z.1 (here ∙ e)))) ∙ o.inside,
        same_front m t (put x) tl.shaped (put_shaped x) same,
      )

  few_keys : keys w r ≤ 20
  few_keys = omega arith

  placing_adds : (i : Interval) (x : Item) (xs : List Region) → length xs + 1 ≤ 1048576 → Adds 1 (λ t. (lies_in i x ≡ true) × (t ≡ put x)) xs (placing w p i (spread r) x xs)
  placing_adds i x xs room = ⊎_elim
      (λ (e : lies_in i x ≡ true). rw (cond-true (lies_in i x) (join xs (put x)) xs e) (adds_like 1 (λ t. t ≡ put x) _ xs (join xs (put x)) (λ t q. (e, q)) (λ t q. q.1) (join_adds xs (put x) (omega arith))))
      (λ (e : lies_in i x ≡ false). rw (cond-false (lies_in i x) (join xs (put x)) xs e) (adds_none 1 _ xs (λ t q. both_ways (lies_in i x) e q.0)))
      (cases_Bool (lies_in i x))

  abbrev At : Interval → ℕ → ℕ → Region → Type 0
  At i v k t = (lies_in i (record { whole = v; rank = k }) ≡ true) × (t ≡ put (record { whole = v; rank = k }))

  keys_adds : (i : Interval) (v : ℕ) (xs : List Region) → length xs + keys w r * 1 ≤ 1048576 → Adds (keys w r * 1) (Below (At i v) (keys w r)) xs (fill_keys w p i (spread r) (keys w r) v xs)
  keys_adds i v xs room = repeat_adds (At i v) (λ k. placing w p i (spread r) (record { whole = v; rank = k })) 1048576 1 (λ k ys h. placing_adds i (record { whole = v; rank = k }) ys h) (keys w r) xs room

  -- the place is filled with all that is owed, each once
  pub fill_exactly : (i : Interval) → Exactly (Owed w p i r) (fill w p i r [])
  fill_exactly i =
      let n = keys w r * 1 in
      let few : (ceiling w p + 2) * n ≤ 340 = omega (arith, mul-le (ceiling w p + 2) n 17 20 (omega arith) (omega (arith, mul-one (keys w r), few_keys))) in
      let a = repeat_adds (λ v. Below (At i v) (keys w r)) (fill_keys w p i (spread r) (keys w r)) 1048576 n (λ v xs room. keys_adds i v xs room) (ceiling w p + 2) [] (omega arith) in
      exactly_adds ((ceiling w p + 2) * n) (Below (λ v. Below (At i v) (keys w r)) (ceiling w p + 2)) (Owed w p i r) (fill w p i r []) (omega arith)
      (λ t q. let h = q.2.2 in subst (Owed w p i r) (sym h.1) (put_owed i (record { whole = q.0; rank = q.2.0 }) h.0 (omega (arith, q.1))))
      (λ t o. let q = owed_put i t o in let most = b.most in (q.0.whole, omega (arith, q.1), (q.0.rank, omega (arith, q.2), (q.3, q.4))))
      a

-- an assignment fills the clock
pub assign_base : (w : Scope) (k : ℕ) (r : Region) → Lawful (places w) (ceiling w) r → Base (places w) (ceiling w) k r
assign_base w k r l = record {
  shaped = l.shaped;
  wholes = λ j lt n. l.wholes j lt;
  most = let le = (few_places w).0 in greatest_le (front (places w) r) 9 (λ j lt. omega (arith, rank_few (places w) (rank_at (front (places w) r)) l.gapless j (omega (arith, front_long (places w) r le l.shaped.full))));
}

pub assign_exactly : (w : Scope) (k : ℕ) (i : Interval) (r : Region) → asks w k i r ≡ true → Exactly (Owed w k i r) (assign w k i r)
assign_exactly w k i r h =
    let a = and_parts (lawful w r) (nat_lt k w.clocks && fits w.top i) h in
    let d = and_parts (nat_lt k w.clocks) (fits w.top i) a.1 in
    let l = lawful_holds w r a.0 in
    let s = l.0 in
    let lt = ltb-true k w.clocks d.0 in
    rw (cond-true (asks w k i r) (fill w k i r []) [] h) (fill_exactly w k (omega arith) r (assign_base w k r l.1) i)

-- the frame above at a push, place by place
pub opened_at : (n m : ℕ) (r : Region) (j : ℕ) → m ≤ 9 → j < m → slice_index_or (front m (opened n r)) j none ≡ slice_index_or r.items (source n j) none
opened_at n m r j le lt =
    get_or-take m (opened n r).items j none lt ∙ get_or-map-range_with_len (λ i. get_or r.items (source n i) none) 0 9 j j none (omega arith) (omega arith)

-- where the item of each place comes from
pub source_cases : (n j : ℕ) → ((j < n) × (source n j ≡ j)) ⊎ (((n < j) × (j < 2 * n + 2) × (source n j + (n + 1) ≡ j) × (source n j ≤ n)) ⊎ (((j ≡ n) ⊎ (2 * n + 2 ≤ j)) × (source n j ≡ 9)))
source_cases n j = ⊎_elim
    (λ (a : j < n). inl (a, grind (arith, nat_tests)))
    (λ (a : n ≤ j). ⊎_elim
    (λ (e : j ≡ n). inr (inr (inl e, grind (arith, nat_tests))))
    (λ (e : j ≡ n → ⊥).
    let gt : n < j = omega arith in
    ⊎_elim
    (λ (l : j < 2 * n + 2). let s : source n j ≡ j - (n + 1) = grind (arith, nat_tests) in inr (inl (gt, l, omega arith, omega arith)))
    (λ (g : 2 * n + 2 ≤ j). inr (inr (inr g, grind (arith, nat_tests))))
    (cases_lt j (2 * n + 2)))
    (cases_eq j n))
    (cases_lt j n)

source_low : (n j : ℕ) → n ≤ 3 → (source n j ≤ n) ⊎ (source n j ≡ 9)
source_low n j le = ⊎_elim (λ a. inl (omega (arith, a.0, a.1))) (λ a. ⊎_elim (λ b. inl b.3) (λ b. inr b.1) a) (source_cases n j)

opened_rest : (n m : ℕ) (r : Region) → m ≡ 2 * n + 3 → m ≤ 9 → length r.items ≡ 9 → drop m (opened n r).items ≡ replicate (9 - m) none
opened_rest n m r e le full =
    let f : ℕ → Item = λ i. get_or r.items (source n i) none in
    let all : length (opened n r).items ≡ 9 = length-map-range_with_len f 0 9 in
    ext_get_or none (drop m (opened n r).items) (replicate (9 - m) none) (omega (arith, length-drop m (opened n r).items, length-replicate (9 - m) none))
    (λ k lt.
    let l : k < 9 - m = omega (arith, length-drop m (opened n r).items) in
    let s : source n (m + k) ≡ 9 = ⊎_elim (λ a. absurd (omega (arith, a.0))) (λ a. ⊎_elim (λ q. absurd (omega (arith, q.1))) (λ q. q.1) a) (source_cases n (m + k)) in
    get_or-drop m (opened n r).items k none ∙ get_or-map-range_with_len f 0 9 (m + k) (m + k) none (omega arith) (omega arith) ∙ ap (λ q. get_or r.items q none) s ∙ get_or_past r.items 9 none (omega arith) ∙ sym (get_or-replicate (9 - m) k none none l))

-- the items of a region beyond those in use are empty
pub past_front : (m : ℕ) (r : Region) → m ≤ 9 → Shaped m r → (j : ℕ) → ((j < m) × (slice_index_or r.items j none ≡ slice_index_or (front m r) j none)) ⊎ ((m ≤ j) × (slice_index_or r.items j none ≡ none))
past_front m r le s j = ⊎_elim
    (λ (h : j < m). inl (h, sym (get_or-take m r.items j none h)))
    (λ (h : m ≤ j).
    let e : m + (j - m) ≡ j = omega arith in
    let d = ap (λ q. get_or r.items q none) (sym e) ∙ sym (get_or-drop m r.items (j - m) none) ∙ ap (λ xs. get_or xs (j - m) none) s.rest in
    inr (h, ⊎_elim (λ (l : j - m < 9 - m). d ∙ get_or-replicate (9 - m) (j - m) none none l) (λ (g : 9 - m ≤ j - m). d ∙ get_or_past (replicate (9 - m) none) (j - m) none (omega (arith, length-replicate (9 - m) none))) (cases_lt (j - m) (9 - m))))
    (cases_lt j m)

pub push_base : (w : Scope) (r : Region) → Lawful (places w) (ceiling w) r → Base (places w) (ceiling w) (clocks_of w) (opened (clocks_of w) r)
push_base w r l =
    let n = clocks_of w in
    let m = places w in
    let le = (few_places w).0 in
    let rank-small : (j : ℕ) → rank_at r.items j ≤ 9 = λ j. ⊎_elim (λ a. omega (arith, ap (λ x. x.rank) a.1, rank_few m (rank_at (front m r)) l.gapless j a.0)) (λ a. omega (arith, ap (λ x. x.rank) a.1)) (past_front m r le l.shaped j) in
    let whole-small : (j : ℕ) → whole_at r.items j ≤ ceiling w j + 1 = λ j. ⊎_elim (λ a. omega (arith, ap (λ x. x.whole) a.1, l.wholes j a.0)) (λ a. omega (arith, ap (λ x. x.whole) a.1)) (past_front m r le l.shaped j) in
    record {
      shaped = record { full = length-map-range_with_len (λ i. get_or r.items (source n i) none) 0 9; rest = opened_rest n m r (omega arith) le l.shaped.full };
      wholes = λ j lt ne. omega (arith, ap (λ x. x.whole) (opened_at n m r j le lt), whole-small (source n j));
      most = greatest_le (front m (opened n r)) 9 (λ j lt.
          let k : j < m = omega (arith, front_long m (opened n r) le (length-map-range_with_len (λ i. get_or r.items (source n i) none) 0 9)) in
          omega (arith, ap (λ x. x.rank) (opened_at n m r j le k), rank-small (source n j)));
    }

pub push_exactly : (w : Scope) (i : Interval) (r : Region) → lawful w r ≡ true → fits w.top i ≡ true → Exactly (Owed w (clocks_of w) i (opened (clocks_of w) r)) (push w i r)
push_exactly w i r h f =
    let l = lawful_holds w r h in
    rw (cond-true (lawful w r && fits w.top i) (fill w (clocks_of w) i (opened (clocks_of w) r) []) [] (and_from (lawful w r) (fits w.top i) h f))
    (fill_exactly w (clocks_of w) (omega arith) (opened (clocks_of w) r) (push_base w r l.1) i)
