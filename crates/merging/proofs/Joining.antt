use Rattle.std.proofs.Common.{◌≡◌, ℕ, ◌+◌, ◌-◌, ◌*◌, ◌<◌, ◌≤◌, Bool, true, false, cond, ◌&&◌, List, ◌++◌, map, length, get_or, take, drop, sym, refl, ap, ◌∙◌, subst, ⊎_elim, arith, length-append}
use Rattle.std.specs.List.{list_all, range_with_len, ContainsAt as Has, AllByRecursion}
use Rattle.std.proofs.lemmas.List.{get_or-take, get_or-drop, get_or_append_left, get_or-append_right, get_or-map, length-map, length-take, length-drop}
use Rattle.std.proofs.ByRecursion.{all-has, All-weaker}
use Rattle.std.proofs.lemmas.Bool.{cases_lt, and_from}
use Rattle.ranking.specs.declared.Item.{Item}
use Rattle.ranking.specs.Items.{none, with_items, whole_at, rank_at}
use Rattle.ranking.specs.Ranks.{Gapless, Ranks}
use Rattle.ranking.specs.Close.{shut, closed}
use Rattle.ranking.specs.Rotation.{greatest}
use Rattle.ranking.proofs.Steps.{ranks_same}
use Rattle.ranking.proofs.Close.{shut_ranks, shut_whole, length_shut, rank_few}
use Rattle.ranking.proofs.Lists.{rank_le, greatest_le}
use Rattle.ranking.proofs.Joined.{same_item}
use Rattle.merging.specs.declared.Tie.{Tie}
use Rattle.merging.specs.declared.Keys.{Keys}
use Rattle.merging.specs.Ways.{mergings}
use Rattle.merging.specs.Pop.{blank_tie, shared, like, in_order, agrees, part, upto, no_keys}
use Rattle.merging.specs.Law.{Joint, place_of, projected, region_of, Joins}
use Rattle.merging.proofs.Ways.{written, Made, all_ways, way_listed}
use Rattle.merging.proofs.Sound.{left_at, right_at, Tied, Sofar, sound}
use Rattle.merging.proofs.Complete.{Cross, complete}
use Rattle.merging.proofs.Shuts.{same_shut, shut_own, Closes, closes_from}
use Rattle.merging.proofs.Picks.{pick, pick_is, pick_zero, pick_rises}
use Rattle.merging.proofs.Ties.{all_from, as_tie, ties_by, ties_of_all, upto_is, like_from, like_to, in_order_from, likes}
use Rattle.merging.proofs.Project.{projected_at, length_projected, side, keyed, key, finish_is}

-- a function that rises keeps the order, and the zero
module _ (F : ℕ → ℕ) (K : ℕ) (F0 : F 0 ≡ 0) (up : (a b : ℕ) → a < b → b ≤ K → F a < F b) where
  rises : (p q : ℕ) → p ≤ K → q ≤ K → (p ≤ q → F p ≤ F q) × (F p ≤ F q → p ≤ q)
  rises p q hp hq = (
    (λ le. ⊎_elim (λ (h : p < q). omega (arith, up p q h hq)) (λ (h : q ≤ p). let e : p ≡ q = omega arith in omega (arith, ap F e)) (cases_lt p q)),
    (λ le. ⊎_elim (λ (h : q < p). absurd (omega (arith, up q p h hp))) (λ (h : p ≤ q). h) (cases_lt q p)),
  )

  rises_zero : (p : ℕ) → p ≤ K → (F p ≡ 0 → p ≡ 0) × (p ≡ 0 → F p ≡ 0)
  rises_zero p hp = ((λ z. ⊎_elim (λ (h : 0 < p). absurd (omega (arith, up 0 p h hp))) (λ (h : p ≤ 0). omega arith) (cases_lt 0 p)), (λ z. ap F z ∙ F0))

module _ (n : ℕ) (few : n ≤ 3) (xs us : List Item) (lx : length xs ≡ 2 * n + 4) (lu : length us ≡ 2 * n + 3)
    (gx : Gapless (2 * n + 4) (rank_at xs)) (gu : Gapless (2 * n + 3) (rank_at us)) where
  abbrev ρ : ℕ → ℕ
  ρ = rank_at xs

  abbrev σ : ℕ → ℕ
  σ = rank_at us

  abbrev K : ℕ
  K = greatest xs

  abbrev L : ℕ
  L = greatest us

  abbrev ts : List Tie
  ts = shared n xs us

  pub KFew : K ≤ 10
  KFew = greatest_le xs 10 (λ i lt. omega (arith, rank_few (2 * n + 4) ρ gx i (omega arith)))

  pub LFew : L ≤ 10
  LFew = greatest_le us 10 (λ i lt. omega (arith, rank_few (2 * n + 3) σ gu i (omega arith)))

  pub same_mergings : mergings ts (upto K) (upto L) 0 no_keys ≡ mergings ts (range_with_len 1 K) (range_with_len 1 L) 0 no_keys
  same_mergings = ap (λ l. mergings ts l (upto L) 0 no_keys) (upto_is K KFew) ∙ ap (λ l. mergings ts (range_with_len 1 K) l 0 no_keys) (upto_is L LFew)

  start : AllByRecursion (λ t. like t ≡ true) ts → Sofar ts 0 0 0 no_keys
  start h = record {
    left_long = refl;
    right_long = refl;
    left_zero = refl;
    right_zero = refl;
    left_low = λ q le. let e : q ≡ 0 = omega arith in rw e (omega arith);
    right_low = λ q le. let e : q ≡ 0 = omega arith in rw e (omega arith);
    left_up = λ a b lt le. absurd (omega arith);
    right_up = λ a b lt le. absurd (omega arith);
    ties = All-weaker (λ t. like t ≡ true) (Tied 0 0 no_keys) (λ t l. let p = like_to t l in
        let z : t.left.rank ≤ 0 → t.left.rank ≡ 0 = λ e. omega arith in
        let y : t.right.rank ≤ 0 → t.right.rank ≡ 0 = λ e. omega arith in
        ((λ e. omega (arith, p.1 (z e))), (λ e. omega (arith, p.2 (y e))), (λ e. ap (left_at no_keys) (z e) ∙ sym (ap (right_at no_keys) (p.1 (z e)))))) ts h;
  }

  -- what is merged restricts to both sides
  module _ (k : Keys) (z : ℕ) (ag : agrees ts ≡ true) (s : Sofar ts K L z k) where
    abbrev by_keys : List ℕ → Item → Item
    by_keys ks x = record { whole = x.whole; rank = get_or ks x.rank 0 }

    abbrev ds : List Item
    ds = map (by_keys k.right) us ++ map (by_keys k.left) (drop (n + 2) xs)

    ds_long : length ds ≡ 3 * n + 5
    ds_long = omega (arith, length-append (map (by_keys k.right) us) (map (by_keys k.left) (drop (n + 2) xs)), length-map us (by_keys k.right), length-map (drop (n + 2) xs) (by_keys k.left), length-drop (n + 2) xs)

    ds_above : (i : ℕ) → i < 2 * n + 3 → get_or ds i none ≡ by_keys k.right (get_or us i none)
    ds_above i lt = get_or_append_left (map (by_keys k.right) us) (map (by_keys k.left) (drop (n + 2) xs)) none i (omega (arith, length-map us (by_keys k.right))) ∙ get_or-map (by_keys k.right) us i none none (omega arith)

    ds_tied : (j : ℕ) → j < n + 2 → by_keys k.right (get_or us (n + 1 + j) none) ≡ by_keys k.left (get_or xs j none)
    ds_tied j lt =
        let l = like_to (as_tie (get_or xs j none) (get_or us (n + 1 + j) none)) (ties_of_all n xs us lx lu few (λ t. like t ≡ true) (likes ts ag) j lt) in
        let t = ties_of_all n xs us lx lu few (Tied K L k) s.ties j lt in
        same_item (by_keys k.right (get_or us (n + 1 + j) none)) (by_keys k.left (get_or xs j none)) (sym l.0) (sym (t.2 (rank_le xs j (omega arith))))

    ds_below : (j : ℕ) → j < 2 * n + 4 → get_or ds (n + 1 + j) none ≡ by_keys k.left (get_or xs j none)
    ds_below j lt = ⊎_elim
        (λ (h : j < n + 2). ds_above (n + 1 + j) (omega arith) ∙ ds_tied j h)
        (λ (h : n + 2 ≤ j).
        let e : n + 2 + (n + 1 + j - (2 * n + 3)) ≡ j = omega arith in
        get_or-append_right (map (by_keys k.right) us) (map (by_keys k.left) (drop (n + 2) xs)) (2 * n + 3) (n + 1 + j) none (length-map us (by_keys k.right) ∙ lu) (omega arith)
        ∙ get_or-map (by_keys k.left) (drop (n + 2) xs) (n + 1 + j - (2 * n + 3)) none none (omega (arith, length-drop (n + 2) xs))
        ∙ ap (by_keys k.left) (get_or-drop (n + 2) xs (n + 1 + j - (2 * n + 3)) none ∙ ap (λ q. get_or xs q none) e))
        (cases_lt j (n + 2))

    abbrev cs : List Item
    cs = shut ds

    cs_long : length cs ≡ 3 * n + 5
    cs_long = length_shut ds ∙ ds_long

    cs_ranks : Ranks (3 * n + 5) (rank_at cs) (rank_at ds)
    cs_ranks = subst (λ q. Ranks q (rank_at cs) (rank_at ds)) ds_long (shut_ranks ds)

    cs_whole : (i : ℕ) → i < 3 * n + 5 → whole_at cs i ≡ whole_at ds i
    cs_whole i lt = shut_whole ds i (omega (arith, ds_long))

    left_rises : (p q : ℕ) → p ≤ K → q ≤ K → (p ≤ q → left_at k p ≤ left_at k q) × (left_at k p ≤ left_at k q → p ≤ q)
    left_rises = rises (left_at k) K s.left_zero s.left_up

    right_rises : (p q : ℕ) → p ≤ L → q ≤ L → (p ≤ q → right_at k p ≤ right_at k q) × (right_at k p ≤ right_at k q → p ≤ q)
    right_rises = rises (right_at k) L s.right_zero s.right_up

    below_is : shut (drop (n + 1) cs) ≡ xs
    below_is =
        let at : (j : ℕ) → get_or (drop (n + 1) cs) j none ≡ get_or cs (n + 1 + j) none = λ j. get_or-drop (n + 1) cs j none in
        let rank_is : (j : ℕ) → j < 2 * n + 4 → rank_at ds (n + 1 + j) ≡ left_at k (ρ j) = λ j lt. ap (λ x. x.rank) (ds_below j lt) in
        same_shut (2 * n + 4) (drop (n + 1) cs) xs (omega (arith, length-drop (n + 1) cs, cs_long)) lx
        (λ j lt. ap (λ x. x.whole) (at j) ∙ cs_whole (n + 1 + j) (omega arith) ∙ ap (λ x. x.whole) (ds_below j lt))
        (λ j lt. let e = ap (λ x. x.rank) (at j) in let q = cs_ranks.zeros (n + 1 + j) (omega arith) in let r = rank_is j lt in let y = rises_zero (left_at k) K s.left_zero s.left_up (ρ j) (rank_le xs j (omega arith)) in
        ((λ v. y.0 (sym r ∙ q.0 (sym e ∙ v))), (λ v. e ∙ q.1 (r ∙ y.1 v))))
        (λ i j li lj. let e = ap (λ x. x.rank) (at i) in let f = ap (λ x. x.rank) (at j) in let q = cs_ranks.orders (n + 1 + i) (n + 1 + j) (omega arith) (omega arith) in let r = rank_is i li in let t = rank_is j lj in
        let y = left_rises (ρ i) (ρ j) (rank_le xs i (omega arith)) (rank_le xs j (omega arith)) in
        ((λ v. let a = q.0 (omega arith) in y.1 (omega arith)), (λ v. let a = y.0 v in let b = q.1 (omega arith) in omega arith)))
        ∙ shut_own (2 * n + 4) xs lx gx

    above_is : shut (take (2 * n + 3) cs) ≡ us
    above_is =
        let at : (j : ℕ) → j < 2 * n + 3 → get_or (take (2 * n + 3) cs) j none ≡ get_or cs j none = λ j lt. get_or-take (2 * n + 3) cs j none lt in
        let rank_is : (j : ℕ) → j < 2 * n + 3 → rank_at ds j ≡ right_at k (σ j) = λ j lt. ap (λ x. x.rank) (ds_above j lt) in
        same_shut (2 * n + 3) (take (2 * n + 3) cs) us (omega (arith, length-take (2 * n + 3) cs, cs_long)) lu
        (λ j lt. ap (λ x. x.whole) (at j lt) ∙ cs_whole j (omega arith) ∙ ap (λ x. x.whole) (ds_above j lt))
        (λ j lt. let e = ap (λ x. x.rank) (at j lt) in let q = cs_ranks.zeros j (omega arith) in let r = rank_is j lt in let y = rises_zero (right_at k) L s.right_zero s.right_up (σ j) (rank_le us j (omega arith)) in
        ((λ v. y.0 (sym r ∙ q.0 (sym e ∙ v))), (λ v. e ∙ q.1 (r ∙ y.1 v))))
        (λ i j li lj. let e = ap (λ x. x.rank) (at i li) in let f = ap (λ x. x.rank) (at j lj) in let q = cs_ranks.orders i j (omega arith) (omega arith) in let r = rank_is i li in let t = rank_is j lj in
        let y = right_rises (σ i) (σ j) (rank_le us i (omega arith)) (rank_le us j (omega arith)) in
        ((λ v. let a = q.0 (omega arith) in y.1 (omega arith)), (λ v. let a = y.0 v in let b = q.1 (omega arith) in omega arith)))
        ∙ shut_own (2 * n + 3) us lu gu

    joint : Joint n xs us cs
    joint = record { long = cs_long; gapless = cs_ranks.gapless; below = below_is; above = above_is }

    -- the item at a place of the frame after the pop, among all items
    placed : (i : ℕ) → i < 2 * n + 3 → (place_of n i < 3 * n + 5) × ((part n xs us i).whole ≡ whole_at ds (place_of n i)) × (key n few xs us lx lu k s.left_zero i ≡ rank_at ds (place_of n i))
    placed i lt = ⊎_elim
        (λ h. let e = h.3 in (
          omega (arith, h.0, e),
          ap (λ x. x.whole) h.2 ∙ sym (ap (λ x. x.whole) (ds_above i lt)) ∙ sym (ap (whole_at ds) e),
          ap (λ b. cond b (right_at k (part n xs us i).rank) (left_at k (part n xs us i).rank)) h.1 ∙ ap (λ x. right_at k x.rank) h.2 ∙ sym (ap (λ x. x.rank) (ds_above i lt)) ∙ sym (ap (rank_at ds) e),
        ))
        (λ h. let e = h.4 in (
          omega (arith, h.1, e),
          ap (λ x. x.whole) h.3 ∙ sym (ap (λ x. x.whole) (ds_below h.0 h.1)) ∙ sym (ap (whole_at ds) e),
          ap (λ b. cond b (right_at k (part n xs us i).rank) (left_at k (part n xs us i).rank)) h.2 ∙ ap (λ x. left_at k x.rank) h.3 ∙ sym (ap (λ x. x.rank) (ds_below h.0 h.1)) ∙ sym (ap (rank_at ds) e),
        ))
        (side n few xs us lx lu i lt)

    pub joins : Joins n xs us (closed (2 * n + 3) (with_items (keyed n few xs us lx lu k s.left_zero)))
    joins = (
      cs,
      joint,
      finish_is n few xs us lx lu k s.left_zero (projected n cs) (length_projected n cs)
          (λ i lt. let p = placed i lt in p.1 ∙ sym (cs_whole (place_of n i) p.0) ∙ sym (ap (λ x. x.whole) (projected_at n cs i lt)))
          (λ i lt. let p = placed i lt in let q = cs_ranks.zeros (place_of n i) p.0 in let e = ap (λ x. x.rank) (projected_at n cs i lt) in
          ((λ v. e ∙ q.1 (sym p.2 ∙ v)), (λ v. p.2 ∙ q.0 (sym e ∙ v))))
          (λ i j li lj. let p = placed i li in let r = placed j lj in let q = cs_ranks.orders (place_of n i) (place_of n j) p.0 r.0 in
          let e = ap (λ x. x.rank) (projected_at n cs i li) in let f = ap (λ x. x.rank) (projected_at n cs j lj) in let p2 = p.2 in let r2 = r.2 in
          ((λ v. let a = q.1 (omega arith) in omega arith), (λ v. let a = q.0 (omega arith) in omega arith))),
    )

  pub only_joins : agrees ts ≡ true → (k : Keys) → Has (mergings ts (upto K) (upto L) 0 no_keys) k → (z : left_at k 0 ≡ 0) × Joins n xs us (closed (2 * n + 3) (with_items (keyed n few xs us lx lu k z)))
  only_joins ag k h =
      let m = all-has (Made ts (range_with_len 1 K) (range_with_len 1 L) 0 no_keys) (mergings ts (range_with_len 1 K) (range_with_len 1 L) 0 no_keys) k (all_ways ts (range_with_len 1 K) (range_with_len 1 L) 0 no_keys) (subst (λ l. Has l k) same_mergings h) in
      let v = sound ts K L (omega (arith, KFew)) (omega (arith, LFew)) no_keys m.0 (start (likes ts ag)) in
      let s = subst (Sofar ts K L v.0) (sym m.1) v.1 in
      (s.left_zero, joins k v.0 ag s)

  -- a region that restricts to both sides is merged
  module _ (cs : List Item) (jt : Joint n xs us cs) where
    abbrev χ : ℕ → ℕ
    χ = rank_at cs

    from_below : Closes (2 * n + 4) xs (drop (n + 1) cs)
    from_below = closes_from (2 * n + 4) xs (drop (n + 1) cs) (omega (arith, length-drop (n + 1) cs, jt.long)) jt.below

    from_above : Closes (2 * n + 3) us (take (2 * n + 3) cs)
    from_above = closes_from (2 * n + 3) us (take (2 * n + 3) cs) (omega (arith, length-take (2 * n + 3) cs, jt.long)) jt.above

    below_ranks : Ranks (2 * n + 4) ρ (λ j. χ (n + 1 + j))
    below_ranks = ranks_same (2 * n + 4) ρ ρ (rank_at (drop (n + 1) cs)) (λ j. χ (n + 1 + j)) from_below.ranks (λ j lt. refl) (λ j lt. ap (λ x. x.rank) (get_or-drop (n + 1) cs j none))

    above_ranks : Ranks (2 * n + 3) σ χ
    above_ranks = ranks_same (2 * n + 3) σ σ (rank_at (take (2 * n + 3) cs)) χ from_above.ranks (λ j lt. refl) (λ j lt. ap (λ x. x.rank) (get_or-take (2 * n + 3) cs j none lt))

    pub below_whole : (j : ℕ) → j < 2 * n + 4 → whole_at xs j ≡ whole_at cs (n + 1 + j)
    below_whole j lt = from_below.wholes j lt ∙ ap (λ x. x.whole) (get_or-drop (n + 1) cs j none)

    pub above_whole : (j : ℕ) → j < 2 * n + 3 → whole_at us j ≡ whole_at cs j
    above_whole j lt = from_above.wholes j lt ∙ ap (λ x. x.whole) (get_or-take (2 * n + 3) cs j none lt)

    -- the frames agree
    abbrev T : ℕ → Tie
    T i = as_tie (get_or xs i none) (get_or us (n + 1 + i) none)

    TZeros : (i : ℕ) → i < n + 2 → (ρ i ≡ 0 → σ (n + 1 + i) ≡ 0) × (σ (n + 1 + i) ≡ 0 → ρ i ≡ 0)
    TZeros i lt = let a = below_ranks.zeros i (omega arith) in let b = above_ranks.zeros (n + 1 + i) (omega arith) in ((λ e. b.1 (a.0 e)), (λ e. a.1 (b.0 e)))

    TLike : (i : ℕ) → i < n + 2 → like (T i) ≡ true
    TLike i lt = let z = TZeros i lt in like_from (get_or xs i none) (get_or us (n + 1 + i) none) (below_whole i (omega arith) ∙ sym (above_whole (n + 1 + i) (omega arith))) z.0 z.1

    TOrder : (i j : ℕ) → i < n + 2 → j < n + 2 → in_order (T i) (T j) ≡ true
    TOrder i j li lj = let a = below_ranks.orders i j (omega arith) (omega arith) in let b = above_ranks.orders (n + 1 + i) (n + 1 + j) (omega arith) (omega arith) in
        in_order_from (T i) (T j) (λ e. b.1 (a.0 e)) (λ e. a.1 (b.0 e))

    TBlank : (i : ℕ) → i < n + 2 → in_order (T i) blank_tie ≡ true
    TBlank i li = let z = TZeros i li in in_order_from (T i) blank_tie (λ e. omega (arith, z.0 (omega arith))) (λ e. omega (arith, z.1 (omega arith)))

    pub agree : agrees ts ≡ true
    agree = all_from (λ t. like t && list_all (in_order t) ts) ts (ties_by n xs us lx lu (λ t. (like t && list_all (in_order t) ts) ≡ true)
        (λ i li. and_from (like (T i)) _ (TLike i li) (all_from (in_order (T i)) ts (ties_by n xs us lx lu (λ v. in_order (T i) v ≡ true) (λ j lj. TOrder i j li lj) (TBlank i li))))
        (and_from (like blank_tie) _ refl (all_from (in_order blank_tie) ts (ties_by n xs us lx lu (λ v. in_order blank_tie v ≡ true) (λ j lj. in_order_from blank_tie (T j) (λ e. omega arith) (λ e. omega arith)) refl))))

    abbrev f : ℕ → ℕ
    f = pick (2 * n + 4) ρ (λ j. χ (n + 1 + j))

    abbrev g : ℕ → ℕ
    g = pick (2 * n + 3) σ χ

    f_is : (j : ℕ) → j < 2 * n + 4 → f (ρ j) ≡ χ (n + 1 + j)
    f_is j lt = pick_is (2 * n + 4) ρ (λ j. χ (n + 1 + j)) below_ranks j lt

    g_is : (j : ℕ) → j < 2 * n + 3 → g (σ j) ≡ χ j
    g_is j lt = pick_is (2 * n + 3) σ χ above_ranks j lt

    f_zero : f 0 ≡ 0
    f_zero = pick_zero (2 * n + 4) ρ (λ j. χ (n + 1 + j)) below_ranks

    g_zero : g 0 ≡ 0
    g_zero = pick_zero (2 * n + 3) σ χ above_ranks

    f_up : (p q : ℕ) → p < q → q ≤ K → f p < f q
    f_up = pick_rises (2 * n + 4) xs (λ j. χ (n + 1 + j)) lx below_ranks

    g_up : (p q : ℕ) → p < q → q ≤ L → g p < g q
    g_up = pick_rises (2 * n + 3) us χ lu above_ranks

    all_fit : AllByRecursion (λ t. (f t.left.rank ≡ g t.right.rank) × (t.left.rank ≤ K) × (t.right.rank ≤ L)) ts
    all_fit = ties_by n xs us lx lu (λ t. (f t.left.rank ≡ g t.right.rank) × (t.left.rank ≤ K) × (t.right.rank ≤ L))
        (λ i li. (f_is i (omega arith) ∙ sym (g_is (n + 1 + i) (omega arith)), rank_le xs i (omega arith), rank_le us (n + 1 + i) (omega arith))) (f_zero ∙ sym g_zero, omega arith, omega arith)

    KUnder : K < 11
    KUnder = omega (arith, KFew)

    LUnder : L < 11
    LUnder = omega (arith, LFew)

    module _ (k : Keys) (z : ℕ) (s : Sofar ts K L z k) (c : Cross f g K L KUnder LUnder ts f_up g_up all_fit K L k) where
      -- an item by its side and its rank there
      abbrev at_key : Bool → ℕ → ℕ
      at_key b r = cond b (left_at k r) (right_at k r)

      abbrev at_rank : Bool → ℕ → ℕ
      at_rank b r = cond b (f r) (g r)

      sides_order : (b d : Bool) (p q : ℕ) → p ≤ cond b K L → q ≤ cond d K L → (at_key b p ≤ at_key d q → at_rank b p ≤ at_rank d q) × (at_rank b p ≤ at_rank d q → at_key b p ≤ at_key d q)
      sides_order true true p q hp hq = let a = rises (left_at k) K s.left_zero s.left_up p q hp hq in let b = rises f K f_zero f_up p q hp hq in ((λ e. b.0 (a.1 e)), (λ e. a.0 (b.1 e)))
      sides_order true false p q hp hq = let a = c p q hp hq in (a.0, a.1)
      sides_order false true p q hp hq = let a = c q p hq hp in (a.2, a.3)
      sides_order false false p q hp hq = let a = rises (right_at k) L s.right_zero s.right_up p q hp hq in let b = rises g L g_zero g_up p q hp hq in ((λ e. b.0 (a.1 e)), (λ e. a.0 (b.1 e)))

      sides_zero : (b : Bool) (p : ℕ) → p ≤ cond b K L → (at_key b p ≡ 0 → at_rank b p ≡ 0) × (at_rank b p ≡ 0 → at_key b p ≡ 0)
      sides_zero true p hp = let a = rises_zero (left_at k) K s.left_zero s.left_up p hp in let b = rises_zero f K f_zero f_up p hp in ((λ e. b.1 (a.0 e)), (λ e. a.1 (b.0 e)))
      sides_zero false p hp = let a = rises_zero (right_at k) L s.right_zero s.right_up p hp in let b = rises_zero g L g_zero g_up p hp in ((λ e. b.1 (a.0 e)), (λ e. a.1 (b.0 e)))

      -- what the place i of the frame after the pop has
      record Sided (i : ℕ) : Type 0 where
        pub left : Bool
        pub rank : ℕ
        pub low : rank ≤ cond left K L
        pub key_is : key n few xs us lx lu k s.left_zero i ≡ at_key left rank
        pub rank_is : χ (place_of n i) ≡ at_rank left rank
        pub whole_is : (part n xs us i).whole ≡ whole_at cs (place_of n i)

      sided : (i : ℕ) → i < 2 * n + 3 → Sided i
      sided i lt = ⊎_elim
          (λ h. record {
            left = false;
            rank = σ i;
            low = rank_le us i (omega arith);
            key_is = ap (λ b. cond b (right_at k (part n xs us i).rank) (left_at k (part n xs us i).rank)) h.1 ∙ ap (λ x. right_at k x.rank) h.2;
            rank_is = ap χ h.3 ∙ sym (g_is i lt);
            whole_is = ap (λ x. x.whole) h.2 ∙ above_whole i lt ∙ sym (ap (whole_at cs) h.3);
          })
          (λ h. record {
            left = true;
            rank = ρ h.0;
            low = rank_le xs h.0 (omega (arith, h.1));
            key_is = ap (λ b. cond b (right_at k (part n xs us i).rank) (left_at k (part n xs us i).rank)) h.2 ∙ ap (λ x. left_at k x.rank) h.3;
            rank_is = ap χ h.4 ∙ sym (f_is h.0 h.1);
            whole_is = ap (λ x. x.whole) h.3 ∙ below_whole h.0 h.1 ∙ sym (ap (whole_at cs) h.4);
          })
          (side n few xs us lx lu i lt)

      finished_is : closed (2 * n + 3) (with_items (keyed n few xs us lx lu k s.left_zero)) ≡ region_of (2 * n + 3) (shut (projected n cs))
      finished_is = finish_is n few xs us lx lu k s.left_zero (projected n cs) (length_projected n cs)
          (λ i lt. let d = sided i lt in d.whole_is ∙ sym (ap (λ x. x.whole) (projected_at n cs i lt)))
          (λ i lt. let d = sided i lt in let e = ap (λ x. x.rank) (projected_at n cs i lt) in let o = sides_zero d.left d.rank d.low in
          ((λ v. e ∙ d.rank_is ∙ o.0 (sym d.key_is ∙ v)), (λ v. d.key_is ∙ o.1 (sym d.rank_is ∙ sym e ∙ v))))
          (λ i j li lj. let d = sided i li in let h = sided j lj in let o = sides_order d.left h.left d.rank h.rank d.low h.low in
          let e = ap (λ x. x.rank) (projected_at n cs i li) ∙ d.rank_is in let e' = ap (λ x. x.rank) (projected_at n cs j lj) ∙ h.rank_is in let y = d.key_is in let y' = h.key_is in
          ((λ v. let a = o.0 (omega arith) in omega arith), (λ v. let a = o.1 (omega arith) in omega arith)))

    pub each_joins : (k : Keys) × Has (mergings ts (upto K) (upto L) 0 no_keys) k × ((z : left_at k 0 ≡ 0) × (closed (2 * n + 3) (with_items (keyed n few xs us lx lu k z)) ≡ region_of (2 * n + 3) (shut (projected n cs))))
    each_joins =
        let st = start (likes ts agree) in
        let w = complete f g K L KUnder LUnder ts f_up g_up all_fit f_zero g_zero no_keys st in
        let v = sound ts K L KUnder LUnder no_keys w.0 st in (
          written w.0 0 no_keys,
          subst (λ l. Has l (written w.0 0 no_keys)) (sym same_mergings) (way_listed w.0 0 no_keys),
          (v.1.left_zero, finished_is (written w.0 0 no_keys) v.0 v.1 w.1),
        )
