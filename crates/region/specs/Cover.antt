use Rattle.std.specs.Prelude.{◌≡◌, ℕ, zero, suc, ◌+◌, ◌-◌, ◌/◌, ◌%◌, ◌<◌, ◌≤◌, min, true, List, [], ◌∷◌, length, get_or, take, replicate, ◌≢◌, slice_index, slice_index_or, slice_set, refl}
use Rattle.std.proofs.Common.{sym, ap, ◌∙◌, subst, ⊎_elim, arith, add-zero, zero-add, length-append, length-set}
use Rattle.std.proofs.Math.Nat.{zero-div, zero-mod}
use Rattle.std.proofs.lemmas.List.{take_at, drop_at, length-replicate, get_or-replicate, drop-replicate, get_or-take, get_or_past, get_or-set_same, get_or-set_other}
use Rattle.abstraction.specs.Owes.{Small}
use Rattle.abstraction.specs.Bounds.{Inside, Fits}
use Rattle.abstraction.specs.Frames.{Frame, Framed, plus, zeros, later, assigned, pushed}
use Rattle.abstraction.specs.Lists.{In}
use Rattle.abstraction.proofs.Tests.{fits_from}
use Rattle.abstraction.specs.declared.interval.Interval.{Interval}
use Rattle.abstraction.specs.declared.scope.Scope.{Scope}
use Rattle.ranking.specs.declared.Item.{Item}
use Rattle.ranking.specs.declared.Region.{Region}
use Rattle.ranking.specs.Ranks.{Ranks}
use Rattle.ranking.specs.Items.{clocks_of, none, whole_at, rank_at, places, ceiling, with_items, Holds}
use Rattle.ranking.specs.Lawful.{front, Lawful, Lies}
use Rattle.ranking.specs.Close.{shut}
use Rattle.ranking.specs.Rotation.{turned_by}
use Rattle.ranking.proofs.Steps.{ranks_same}
use Rattle.ranking.proofs.Close.{shut_ranks, shut_whole, length_shut}
use Rattle.ranking.proofs.Lists.{time_covers}
use Rattle.region.specs.Asked.{lawful, lies_in}
use Rattle.region.specs.Listed.{start, time, test, assign, source, opened, push}
use Rattle.region.specs.Laws.{Owed, values, items_of, region_of, covers, CoveredOnce}
use Rattle.region.specs.Shapes.{few_places, front_long, same_front, same_ranked, lawful_only, asked}
use Rattle.region.specs.Times.{turns_front, time_exactly, test_exactly}
use Rattle.region.specs.Fills.{assign_exactly, push_exactly, opened_at, past_front}
use Rattle.region.specs.ValuesLemmas.{length_values, values_later, values_zeros, values_clock, values_assigned, framed_pushed, values_age, values_pushed}
use Rattle.region.specs.Span.{lies_from}

pub length_items_of : (c : ℕ → ℕ) (D k : ℕ) (vs : List ℕ) → length (items_of c D k vs) ≡ length vs
length_items_of c D k [] = refl
length_items_of c D k (v ∷ vs) = ap suc (length_items_of c D (suc k) vs)

pub items_at : (c : ℕ → ℕ) (D k : ℕ) (vs : List ℕ) (i : ℕ) → i < length vs → (whole_at (items_of c D k vs) i ≡ min (slice_index vs i / D) (c (k + i) + 1)) × (rank_at (items_of c D k vs) i ≡ slice_index vs i % D)
items_at c D k [] i lt = absurd (omega arith)
items_at c D k (v ∷ vs) zero lt = (ap (λ n. min (v / D) (c n + 1)) (sym (add-zero k)), refl)
items_at c D k (v ∷ vs) (suc i) lt =
    let e : suc k + i ≡ k + suc i = omega arith in
    let a = items_at c D (suc k) vs i (omega arith) in
    (a.0 ∙ ap (λ n. min (slice_index vs i / D) (c n + 1)) e, a.1)

module _ (m : ℕ) (c : ℕ → ℕ) (D : ℕ) where
  -- values as items, closed up
  pub made_holds : (vs : List ℕ) → length vs ≡ m → Holds m c D (shut (items_of c D 0 vs)) vs
  made_holds vs long =
      let xs = items_of c D 0 vs in
      let ls : length xs ≡ m = length_items_of c D 0 vs ∙ long in
      let rk : Ranks m (rank_at (shut xs)) (rank_at xs) = subst (λ n. Ranks n (rank_at (shut xs)) (rank_at xs)) ls (shut_ranks xs) in
      record {
        items = length_shut xs ∙ ls;
        values = long;
        each = record {
          wholes = λ i lt. shut_whole xs i (omega arith) ∙ (items_at c D 0 vs i (omega arith)).0 ∙ ap (λ n. min (slice_index vs i / D) (c n + 1)) (zero-add i);
          ranks = ranks_same m _ _ _ _ rk (λ i lt. refl) (λ i lt. (items_at c D 0 vs i (omega arith)).1);
        };
      }

-- the items that hold given values are those of no other list
pub holds_alone : (m : ℕ) (c : ℕ → ℕ) (D : ℕ) (xs ys : List Item) (vs : List ℕ) → Holds m c D xs vs → Holds m c D ys vs → xs ≡ ys
holds_alone m c D xs ys vs a b = same_ranked m (λ i. slice_index vs i % D) xs ys a.items b.items (λ i lt. a.each.wholes i lt ∙ sym (b.each.wholes i lt)) a.each.ranks b.each.ranks

-- an item lies in each interval that its value lies in
pub lies_held : (w : Scope) (D : ℕ) → 0 < D → (xs : List Item) (vs : List ℕ) (p : ℕ) (i : Interval) → w.top ≤ 15 → Holds (places w) (ceiling w) D xs vs → p < places w → Fits w.top i → Inside D i (slice_index vs p) → lies_in i (slice_index_or xs p none) ≡ true
lies_held w D pos xs vs p i low h lt fit inside = lies_from w.top D (slice_index vs p) (slice_index_or xs p none) pos (h.each.wholes p lt ∙ omega arith) (h.each.ranks.zeros p lt) i fit inside

module _ (m : ℕ) (c : ℕ → ℕ) (D : ℕ) (le : m ≤ 9) where
  -- values lie in their region
  pub region_lies : (vs : List ℕ) → length vs ≡ m → Lies m c D (region_of c D vs) vs
  region_lies vs long =
      let xs = items_of c D 0 vs in
      let h = made_holds m c D vs long in
      let tail = replicate (9 - length vs) none in
      record {
        shaped = record {
          full = omega (arith, length-append (shut xs) tail, length-replicate (9 - length vs) none, h.items);
          rest = drop_at (shut xs) tail m h.items ∙ ap (λ n. replicate (9 - n) none) long;
        };
        holds = subst (λ ys. Holds m c D ys vs) (sym (take_at (shut xs) tail m h.items)) h;
      }

  pub lies_lawful : (r : Region) (vs : List ℕ) → Lies m c D r vs → Lawful m c r
  lies_lawful r vs l = record { shaped = l.shaped; wholes = λ i lt. omega (arith, l.holds.each.wholes i lt); gapless = l.holds.each.ranks.gapless }

  -- and in no other
  pub lies_alone : (r t : Region) (vs : List ℕ) → Lies m c D r vs → Lies m c D t vs → r ≡ t
  lies_alone r t vs a b = same_front m r t a.shaped b.shaped (holds_alone m c D (front m r) (front m t) vs a.holds b.holds)

pub covered_once : (w : Scope) (D : ℕ) (f : Frame) → Small w → Framed w.clocks f → CoveredOnce w D f
covered_once w D f s h =
    let le = (few_places w).0 in
    let l = region_lies (places w) (ceiling w) D le (values f) (length_values w.clocks f h ∙ omega arith) in
    record {
      lawful = lies_lawful (places w) (ceiling w) D le (region_of (ceiling w) D (values f)) (values f) l;
      covered = l;
      alone = λ r c. lies_alone (places w) (ceiling w) D le r (region_of (ceiling w) D (values f)) (values f) c l;
    }

zero_region : (m : ℕ) (c : ℕ → ℕ) (D : ℕ) (vs : List ℕ) → m ≤ 9 → length vs ≡ m → ((j : ℕ) → slice_index vs j ≡ 0) → Lies m c D (with_items (replicate 9 none)) vs
zero_region m c D vs le long z =
    let xs = replicate 9 none in
    let at : (i : ℕ) → i < m → slice_index_or (take m xs) i none ≡ none = λ i lt. get_or-take m xs i none lt ∙ get_or-replicate 9 i none none (omega arith) in
    let v0 : (i : ℕ) → slice_index vs i % D ≡ 0 = λ i. ap (λ x. x % D) (z i) ∙ zero-mod D in
    let q0 : (i : ℕ) → slice_index vs i / D ≡ 0 = λ i. ap (λ x. x / D) (z i) ∙ zero-div D in
    let r0 : (i : ℕ) → i < m → rank_at (take m xs) i ≡ 0 = λ i lt. ap (λ x. x.rank) (at i lt) in
    record {
      shaped = record { full = refl; rest = drop-replicate m 9 none };
      holds = record {
        items = front_long m (with_items xs) le refl;
        values = long;
        each = record {
          wholes = λ i lt. ap (λ x. x.whole) (at i lt) ∙ omega (arith, q0 i);
          ranks = record {
            zeros = λ i lt. ((λ e. v0 i), (λ e. r0 i lt));
            orders = λ i j li lj. ((λ e. omega (arith, v0 i)), (λ e. omega (arith, r0 i li)));
            gapless = λ i k lt one h. absurd (omega (arith, r0 i lt));
          };
        };
      };
    }

-- ranks that agree with the fractions of values but at the place p
record Off (m : ℕ) (c : ℕ → ℕ) (D p : ℕ) (xs : List Item) (us : List ℕ) : Type 0 where
  pub wholes : (j : ℕ) → j < m → (j ≢ p) → whole_at xs j ≡ min (slice_index us j / D) (c j + 1)
  pub zeros : (j : ℕ) → j < m → (j ≢ p) → (rank_at xs j ≡ 0 → slice_index us j % D ≡ 0) × (slice_index us j % D ≡ 0 → rank_at xs j ≡ 0)
  pub orders : (j k : ℕ) → j < m → k < m → (j ≢ p) → (k ≢ p) → (rank_at xs j ≤ rank_at xs k → slice_index us j % D ≤ slice_index us k % D) × (slice_index us j % D ≤ slice_index us k % D → rank_at xs j ≤ rank_at xs k)

-- a region holds its values at every place, those past the items in use too
pub record Wide (c : ℕ → ℕ) (D : ℕ) (xs : List Item) (vs : List ℕ) : Type 0 where
  pub wholes : (q : ℕ) → whole_at xs q ≡ min (slice_index vs q / D) (c q + 1)
  pub zeros : (q : ℕ) → (rank_at xs q ≡ 0 → slice_index vs q % D ≡ 0) × (slice_index vs q % D ≡ 0 → rank_at xs q ≡ 0)
  pub orders : (q k : ℕ) → (rank_at xs q ≤ rank_at xs k → slice_index vs q % D ≤ slice_index vs k % D) × (slice_index vs q % D ≤ slice_index vs k % D → rank_at xs q ≤ rank_at xs k)

pub wide : (m : ℕ) (c : ℕ → ℕ) (D : ℕ) (r : Region) (vs : List ℕ) → m ≤ 9 → Lies m c D r vs → Wide c D r.items vs
wide m c D r vs le l =
    let h = l.holds in
    let past : (q : ℕ) → m ≤ q → (slice_index vs q / D ≡ 0) × (slice_index vs q % D ≡ 0) = λ q g. let e = get_or_past vs q 0 (omega (arith, h.values)) in (ap (λ x. x / D) e ∙ zero-div D, ap (λ x. x % D) e ∙ zero-mod D) in
    let zs : (q : ℕ) → (rank_at r.items q ≡ 0 → slice_index vs q % D ≡ 0) × (slice_index vs q % D ≡ 0 → rank_at r.items q ≡ 0) = λ q. ⊎_elim
    (λ a. let e = ap (λ x. x.rank) a.1 in let z = h.each.ranks.zeros q a.0 in ((λ y. z.0 (sym e ∙ y)), (λ y. e ∙ z.1 y)))
    (λ a. ((λ y. (past q a.0).1), (λ y. ap (λ x. x.rank) a.1)))
    (past_front m r le l.shaped q) in
    record {
      wholes = λ q. ⊎_elim
          (λ a. ap (λ x. x.whole) a.1 ∙ h.each.wholes q a.0)
          (λ a. ap (λ x. x.whole) a.1 ∙ omega (arith, (past q a.0).0))
          (past_front m r le l.shaped q);
      zeros = zs;
      orders = λ q k. ⊎_elim
          (λ a. ⊎_elim
          (λ b. let e = ap (λ x. x.rank) a.1 in let f = ap (λ x. x.rank) b.1 in let o = h.each.ranks.orders q k a.0 b.0 in (grind arith, grind arith))
          (λ b. let f = ap (λ x. x.rank) b.1 in let g = (past k b.0).1 in let z = zs q in (grind arith, grind arith))
          (past_front m r le l.shaped k))
          (λ a. let e = ap (λ x. x.rank) a.1 in let g = (past q a.0).1 in ((λ y. omega arith), (λ y. omega arith)))
          (past_front m r le l.shaped q);
    }

-- items and values but at p chosen alike from those of a region agree
off_along : (m : ℕ) (c : ℕ → ℕ) (D p : ℕ) (xs ys : List Item) (us vs : List ℕ) (σ : ℕ → ℕ) → ((j : ℕ) → c (σ j) ≡ c j) → Wide c D ys vs
    → ((j : ℕ) → j < m → slice_index_or xs j none ≡ slice_index_or ys (σ j) none) → ((j : ℕ) → (j ≢ p) → slice_index us j ≡ slice_index vs (σ j)) → Off m c D p xs us
off_along m c D p xs ys us vs σ flat wd at other = record {
  wholes = λ j lj n. ap (λ x. x.whole) (at j lj) ∙ wd.wholes (σ j) ∙ ap (λ k. min (slice_index vs (σ j) / D) (k + 1)) (flat j) ∙ ap (λ x. min (x / D) (c j + 1)) (sym (other j n));
  zeros = λ j lj n. let z = wd.zeros (σ j) in let a = ap (λ x. x.rank) (at j lj) in let o = ap (λ x. x % D) (other j n) in ((λ y. o ∙ z.0 (sym a ∙ y)), (λ y. a ∙ z.1 (sym o ∙ y)));
  orders = λ j q lj lq nj nq. let z = wd.orders (σ j) (σ q) in let a = ap (λ x. x.rank) (at j lj) in let a' = ap (λ x. x.rank) (at q lq) in let o = ap (λ x. x % D) (other j nj) in let o' = ap (λ x. x % D) (other q nq) in (grind arith, grind arith);
}

module _ (w : Scope) (D : ℕ) (small : Small w) (pos : 0 < D) where
  abbrev m : ℕ
  m = places w

  abbrev c : ℕ → ℕ
  c = ceiling w

  le9 : places w ≤ 9
  le9 = (few_places w).0

  -- the region of the values is owed
  owed_values : (p : ℕ) (base : Region) (us : List ℕ) (i : Interval) → p < m → length us ≡ m → Off m c D p (front m base) us → Fits w.top i → Inside D i (slice_index us p) → Owed w p i base (region_of c D us)
  owed_values p base us i pm long off fit inside =
      let l = region_lies m c D le9 us long in
      let h = l.holds.each in
      record {
        lawful = lies_lawful m c D le9 (region_of c D us) us l;
        wholes = λ j lt n. h.wholes j lt ∙ sym (off.wholes j lt n);
        ranks = record {
          zeros = λ j lt n. let a = off.zeros j lt n in let b = h.ranks.zeros j lt in ((λ e. b.1 (a.0 e)), (λ e. a.1 (b.0 e)));
          orders = λ j k lj lk nj nk. let a = off.orders j k lj lk nj nk in let b = h.ranks.orders j k lj lk in ((λ e. b.1 (a.0 e)), (λ e. a.1 (b.0 e)));
        };
        inside = lies_held w D pos (front m (region_of c D us)) us p i small.1 l.holds pm fit inside;
      }

  pub start_covers : (lawful w (start w) ≡ true) × covers w D (start w) (zeros w.clocks)
  start_covers =
      let f : Framed w.clocks (zeros w.clocks) = (length-replicate w.clocks 0, length-replicate w.clocks 0) in
      let l = zero_region m c D (values (zeros w.clocks)) le9 (length_values w.clocks (zeros w.clocks) f ∙ omega (arith, small.0)) (values_zeros w.clocks) in
      (lawful_only w (start w) small (lies_lawful m c D le9 (start w) (values (zeros w.clocks)) l), l)

  pub time_covers_frames : (r : Region) (f : Frame) → lawful w r ≡ true → covers w D r f → (d : ℕ) → (t : Region) × In (time w r) t × covers w D t (later d f)
  time_covers_frames r f ok l d =
      let t = time_covers m c D (front m r) (values f) pos (omega (arith, le9)) l.holds d in
      let a = turns_front m c le9 t.0 r l.shaped in
      let s = turned_by t.0 m c r in (
        s,
        (time_exactly w r ok).each s (t.0, refl),
        record {
          shaped = a.1;
          holds = subst (λ vs. Holds m c D (front m s) vs) (sym (values_later d f)) (subst (λ xs. Holds m c D xs (plus d (values f))) (sym a.0) t.1);
        },
      )

  pub test_covers : (r : Region) (f : Frame) → lawful w r ≡ true → Framed w.clocks f → covers w D r f → (k : ℕ) (i : Interval) → k < w.clocks → Fits w.top i → Inside D i (slice_index f.clocks k) → (t : Region) × In (test w k i r) t × covers w D t f
  test_covers r f ok h l k i lt fit inside =
      let s0 = small.0 in
      let km : k < m = omega arith in
      let v = values_clock w.clocks f k h lt in
      let lies = lies_held w D pos (front m r) (values f) k i small.1 l.holds km fit (subst (Inside D i) (sym v) inside) in
      (r, (test_exactly w k i r (asked w k i r ok lt fit)).each r (refl, ap (lies_in i) (sym (get_or-take m r.items k none km)) ∙ lies), l)

  pub assign_covers : (r : Region) (f : Frame) → lawful w r ≡ true → Framed w.clocks f → covers w D r f → (k : ℕ) (i : Interval) → k < w.clocks → Fits w.top i → (v : ℕ) → Inside D i v → (t : Region) × In (assign w k i r) t × covers w D t (assigned k v f)
  assign_covers r f ok h l k i lt fit v inside =
      let s0 = small.0 in
      let km : k < m = omega arith in
      let vs = values f in
      let us = values (assigned k v f) in
      let set_is : us ≡ slice_set vs k v = values_assigned w.clocks k v f h lt in
      let long : length us ≡ m = ap length set_is ∙ length-set vs k v ∙ l.holds.values in
      let other : (j : ℕ) → (j ≢ k) → slice_index us j ≡ get_or vs j 0 = λ j n. ap (λ xs. slice_index xs j) set_is ∙ get_or-set_other vs k j v 0 n in
      let here : get_or us k 0 ≡ v = ap (λ xs. slice_index xs k) set_is ∙ get_or-set_same vs k v 0 (omega (arith, l.holds.values)) in
      let off : Off m c D k (front m r) us = off_along m c D k (front m r) r.items us vs (λ j. j) (λ j. refl) (wide m c D r vs le9 l) (λ j lj. get_or-take m r.items j none lj) other in
      let t = region_of c D us in
      (t, (assign_exactly w k i r (asked w k i r ok lt fit)).each t (owed_values k r us i km long off fit (subst (Inside D i) (sym here) inside)), region_lies m c D le9 us long)

  pub push_covers : (r : Region) (f : Frame) → lawful w r ≡ true → Framed w.clocks f → covers w D r f → (i : Interval) → Fits w.top i → (v : ℕ) → Inside D i v → (t : Region) × In (push w i r) t × covers w D t (pushed v f)
  push_covers r f ok h l i fit v inside =
      let s0 = small.0 in
      let n = clocks_of w in
      let nc : w.clocks ≡ n = omega arith in
      let hn : Framed n f = subst (λ k. Framed k f) nc h in
      let nm : n < m = omega arith in
      let vs = values f in
      let us = values (pushed v f) in
      let long : length us ≡ m = length_values n (pushed v f) (framed_pushed n v f hn) in
      let other : (j : ℕ) → (j ≢ n) → slice_index us j ≡ get_or vs (source n j) 0 = λ j ne. values_pushed n v f (omega arith) hn j ne in
      let at : (j : ℕ) → j < m → slice_index_or (front m (opened n r)) j none ≡ get_or r.items (source n j) none = λ j lj. opened_at n m r j le9 lj in
      let off : Off m c D n (front m (opened n r)) us = off_along m c D n (front m (opened n r)) r.items us vs (source n) (λ j. refl) (wide m c D r vs le9 l) at other in
      let here : get_or us n 0 ≡ v = values_age n (pushed v f) (framed_pushed n v f hn) in
      let t = region_of c D us in
      (t, (push_exactly w i r ok (fits_from w.top i fit)).each t (owed_values n (opened n r) us i nm long off fit (subst (Inside D i) (sym here) inside)), region_lies m c D le9 us long)
