use Rattle.std.specs.Prelude.{◌≡◌, ℕ, suc, ◌+◌, ◌-◌, ◌*◌, ◌/◌, ◌%◌, ◌<◌, ◌≤◌, min, List, [], ◌∷◌, ◌++◌, length, get_or, take, drop, replicate, slice_index, slice_index_or, refl}
use Rattle.std.proofs.Common.{sym, ap, ◌∙◌, subst, ⊎_elim, arith, zero-add, length-append, length-drop}
use Rattle.std.proofs.lemmas.List.{take_at, drop_at, append_assoc, map-append, length-take-le, length-replicate, get_or-take, get_or-drop, get_or_append_left, get_or-append_right, get_or_at, get_or_past, drop-append-le, length-map}
use Rattle.std.specs.List.{insert}
use Rattle.std.proofs.lemmas.List.Edits.{length-insert, get_or-insert_below, get_or-insert_at, get_or-insert_above}
use Rattle.std.proofs.lemmas.Bool.{cases_lt, cases_eq}
use Rattle.std.proofs.lemmas.Bool.Decides.{nat_tests}
use Rattle.abstraction.specs.Frames.{Frame, Framed, plus, popped}
use Rattle.ranking.specs.declared.Item.{Item}
use Rattle.ranking.specs.declared.Region.{Region}
use Rattle.ranking.specs.Ranks.{Gapless, Ranks}
use Rattle.ranking.specs.Items.{none, rank_at, Holds}
use Rattle.ranking.specs.Lawful.{front, Lies}
use Rattle.ranking.specs.Close.{shut}
use Rattle.ranking.specs.Rotation.{turns}
use Rattle.ranking.proofs.Each.{length_each, getD_each}
use Rattle.ranking.proofs.Steps.{rekeyed}
use Rattle.ranking.proofs.Close.{shut_ranks, shut_whole, length_shut}
use Rattle.ranking.proofs.Lists.{time_covers}
use Rattle.merging.specs.Law.{Joint, place_of, projected, Joins, with_mark, region_of as join_region}
use Rattle.region.specs.Laws.{values, items_of}
use Rattle.region.specs.ValuesLemmas.{length_values}
use Rattle.region.specs.Cover.{made_holds, holds_alone, wide}
use Rattle.region.specs.Fills.{past_front}

-- items chosen from a list that holds values, closed up, hold the values that are chosen likewise
chosen : (M k : ℕ) (c : ℕ → ℕ) (D : ℕ) (xs ys : List Item) (vs us : List ℕ) (σ : ℕ → ℕ) → ((i j : ℕ) → c i ≡ c j) → Holds M c D xs vs → length ys ≡ k → length us ≡ k
    → ((i : ℕ) → i < k → (σ i < M) × (slice_index_or ys i none ≡ slice_index_or xs (σ i) none) × (slice_index us i ≡ slice_index vs (σ i))) → Holds k c D (shut ys) us
chosen M k c D xs ys vs us σ flat h ly lu at =
    let rk : Ranks k (rank_at (shut ys)) (rank_at ys) = subst (λ n. Ranks n (rank_at (shut ys)) (rank_at ys)) ly (shut_ranks ys) in
    let rank : (i : ℕ) → i < k → rank_at ys i ≡ rank_at xs (σ i) = λ i lt. ap (λ x. x.rank) (at i lt).1 in
    let frac : (i : ℕ) → i < k → slice_index us i % D ≡ slice_index vs (σ i) % D = λ i lt. ap (λ v. v % D) (at i lt).2 in
    record {
      items = length_shut ys ∙ ly;
      values = lu;
      each = record {
        wholes = λ i lt. shut_whole ys i (omega arith) ∙ ap (λ x. x.whole) (at i lt).1 ∙ h.each.wholes (σ i) (at i lt).0 ∙ ap (λ v. min (v / D) (c (σ i) + 1)) (sym (at i lt).2) ∙ ap (λ n. min (slice_index us i / D) (n + 1)) (flat (σ i) i);
        ranks = rekeyed k _ (rank_at ys) _ rk
            (λ i lt. let z = h.each.ranks.zeros (σ i) (at i lt).0 in let a = rank i lt in let b = frac i lt in ((λ e. b ∙ z.0 (sym a ∙ e)), (λ e. a ∙ z.1 (sym b ∙ e))))
            (λ i j li lj. let o = h.each.ranks.orders (σ i) (σ j) (at i li).0 (at j lj).0 in let a = rank i li in let b = rank j lj in let p = frac i li in let q = frac j lj in (grind arith, grind arith));
      };
    }

-- where an item of a region with the mark stands in the region, the mark past its end
mark_place : (n m : ℕ) (r : Region) (vs : List ℕ) → n + 1 ≤ m → m ≤ 9 → length r.items ≡ 9 → length (front m r) ≡ m → length vs ≡ m
    → (i : ℕ) → i < m + 1 → (q : ℕ) × (slice_index_or (with_mark n (front m r)) i none ≡ slice_index_or r.items q none) × (slice_index (insert vs (n + 1) 0) i ≡ slice_index vs q)
mark_place n m r vs low le full lx lv i lt = ⊎_elim
    (λ (a : i < n + 1). (i, get_or-insert_below (front m r) (n + 1) none none i a (omega arith) ∙ get_or-take m r.items i none (omega arith), get_or-insert_below vs (n + 1) 0 0 i a (omega arith)))
    (λ (a : n + 1 ≤ i). ⊎_elim
    (λ (e : i ≡ n + 1). (
      9,
      ap (λ q. get_or (with_mark n (front m r)) q none) e ∙ get_or-insert_at (front m r) (n + 1) none none (omega arith) ∙ sym (get_or_past r.items 9 none (omega arith)),
      ap (λ q. slice_index (insert vs (n + 1) 0) q) e ∙ get_or-insert_at vs (n + 1) 0 0 (omega arith) ∙ sym (get_or_past vs 9 0 (omega arith)),
    ))
    (λ (ne : i ≡ n + 1 → ⊥).
    let e : i ≡ i - 1 + 1 = omega arith in (
      i - 1,
      ap (λ q. get_or (with_mark n (front m r)) q none) e ∙ get_or-insert_above (front m r) (n + 1) none none (i - 1) (omega arith) (omega arith) ∙ get_or-take m r.items (i - 1) none (omega arith),
      ap (λ q. slice_index (insert vs (n + 1) 0) q) e ∙ get_or-insert_above vs (n + 1) 0 0 (i - 1) (omega arith) (omega arith),
    ))
    (cases_eq i (n + 1)))
    (cases_lt i (n + 1))

-- the ranks with the mark have no gap
mark_gapless : (n m : ℕ) (xs : List Item) → n + 1 ≤ m → length xs ≡ m → Gapless m (rank_at xs) → (k : ℕ) → 1 ≤ k → (j : ℕ) → j < m → k ≤ rank_at xs j → (i : ℕ) × (i < m + 1) × (rank_at (with_mark n xs) i ≡ k)
mark_gapless n m xs low lx gapless k one j lt le =
    let g = gapless j k lt one le in
    ⊎_elim
    (λ (b : g.0 < n + 1). (g.0, omega (arith, g.1), ap (λ x. x.rank) (get_or-insert_below xs (n + 1) none none g.0 b (omega arith)) ∙ g.2))
    (λ (b : n + 1 ≤ g.0). (g.0 + 1, omega (arith, g.1), ap (λ x. x.rank) (get_or-insert_above xs (n + 1) none none g.0 b (omega arith)) ∙ g.2))
    (cases_lt g.0 (n + 1))

-- a region keeps its values with the mark put in
module _ (n m : ℕ) (c : ℕ → ℕ) (D : ℕ) (r : Region) (vs : List ℕ) (low : n + 1 ≤ m) (le : m ≤ 9) (flat : (i j : ℕ) → c i ≡ c j) (l : Lies m c D r vs) where
  at_mark : (i : ℕ) → i < m + 1 → (q : ℕ) × (slice_index_or (with_mark n (front m r)) i none ≡ slice_index_or r.items q none) × (slice_index (insert vs (n + 1) 0) i ≡ slice_index vs q)
  at_mark = mark_place n m r vs low le l.shaped.full l.holds.items l.holds.values

  marked_holds : Holds (m + 1) c D (with_mark n (front m r)) (insert vs (n + 1) 0)
  marked_holds =
      let h = l.holds in
      let wd = wide m c D r vs le l in
      record {
        items = length-insert (front m r) (n + 1) none (omega (arith, h.items)) ∙ omega (arith, h.items);
        values = length-insert vs (n + 1) 0 (omega (arith, h.values)) ∙ omega (arith, h.values);
        each = record {
          wholes = λ i lt. let p = at_mark i lt in omega (arith, ap (λ x. x.whole) p.1, wd.wholes p.0, ap (λ v. v / D) p.2, flat p.0 i);
          ranks = record {
            zeros = λ i lt. let p = at_mark i lt in let z = wd.zeros p.0 in let a = ap (λ x. x.rank) p.1 in let b = ap (λ v. v % D) p.2 in ((λ e. b ∙ z.0 (sym a ∙ e)), (λ e. a ∙ z.1 (sym b ∙ e)));
            orders = λ i j li lj. let p = at_mark i li in let q = at_mark j lj in let o = wd.orders p.0 q.0 in let a = ap (λ x. x.rank) p.1 in let b = ap (λ x. x.rank) q.1 in let d = ap (λ v. v % D) p.2 in let e = ap (λ v. v % D) q.2 in (grind arith, grind arith);
            gapless = λ i k lt one up.
                let p = at_mark i lt in
                ⊎_elim
                (λ a. mark_gapless n m (front m r) low h.items h.each.ranks.gapless k one p.0 a.0 (omega (arith, ap (λ x. x.rank) p.1, ap (λ x. x.rank) a.1)))
                (λ a. absurd (omega (arith, ap (λ x. x.rank) p.1, ap (λ x. x.rank) a.1)))
                (past_front m r le l.shaped p.0);
          };
        };
      }

module _ (n : ℕ) (f g : Frame) (ff : Framed n f) (fg : Framed n g) (kept : g.kept ≡ plus g.elapsed f.clocks) (kept_age : g.kept_age ≡ f.age + g.elapsed) where
  abbrev e : ℕ
  e = g.elapsed

  -- the kept values and the time elapsed below, so much later
  abbrev rest : List ℕ
  rest = plus e f.kept ++ (f.kept_age + e) ∷ (f.elapsed + e) ∷ []

  -- the values of both frames together
  abbrev both : List ℕ
  both = values g ++ rest

  long_rest : length rest ≡ n + 2
  long_rest = length-append (plus e f.kept) ((f.kept_age + e) ∷ (f.elapsed + e) ∷ []) ∙ omega (arith, length-map f.kept (λ x. x + e), ff.1)

  long_both : length both ≡ 3 * n + 5
  long_both = length-append (values g) rest ∙ omega (arith, length_values n g fg, long_rest)

  both_above : take (2 * n + 3) both ≡ values g
  both_above = take_at (values g) rest (2 * n + 3) (length_values n g fg)

  past_age : (h : Frame) → Framed n h → (take (n + 1) (values h) ≡ h.clocks ++ h.age ∷ []) × (drop (n + 1) (values h) ≡ h.kept ++ h.kept_age ∷ h.elapsed ∷ [])
  past_age h fh =
      let tail = h.kept ++ h.kept_age ∷ h.elapsed ∷ [] in
      let split : values h ≡ (h.clocks ++ h.age ∷ []) ++ tail = sym (append_assoc h.clocks (h.age ∷ []) tail) in
      let long : length (h.clocks ++ h.age ∷ []) ≡ n + 1 = length-append h.clocks (h.age ∷ []) ∙ omega (arith, fh.0) in
      (ap (take (n + 1)) split ∙ take_at (h.clocks ++ h.age ∷ []) tail (n + 1) long, ap (drop (n + 1)) split ∙ drop_at (h.clocks ++ h.age ∷ []) tail (n + 1) long)

  both_below : drop (n + 1) both ≡ plus e (insert (values f) (n + 1) 0)
  both_below =
      let a = past_age f ff in
      let b = past_age g fg in
      let z : 0 + e ≡ e = zero-add e in
      let same : g.kept ++ g.kept_age ∷ g.elapsed ∷ [] ≡ plus e f.clocks ++ (f.age + e) ∷ (0 + e) ∷ [] = ap (λ l. l ++ g.kept_age ∷ g.elapsed ∷ []) kept ∙ ap (λ x. plus e f.clocks ++ x ∷ g.elapsed ∷ []) kept_age ∙ ap (λ x. plus e f.clocks ++ (f.age + e) ∷ x ∷ []) (sym z) in
      let up : drop (n + 1) both ≡ (plus e f.clocks ++ (f.age + e) ∷ (0 + e) ∷ []) ++ rest = drop-append-le (n + 1) (values g) rest (omega (arith, length_values n g fg)) ∙ ap (λ l. l ++ rest) (b.1 ∙ same) in
      let down : plus e (insert (values f) (n + 1) 0) ≡ plus e ((f.clocks ++ f.age ∷ []) ++ 0 ∷ (f.kept ++ f.kept_age ∷ f.elapsed ∷ [])) = ap (λ l. plus e (l ++ 0 ∷ drop (n + 1) (values f))) a.0 ∙ ap (λ l. plus e ((f.clocks ++ f.age ∷ []) ++ 0 ∷ l)) a.1 in
      let flat : plus e ((f.clocks ++ f.age ∷ []) ++ 0 ∷ (f.kept ++ f.kept_age ∷ f.elapsed ∷ [])) ≡ plus e f.clocks ++ (f.age + e) ∷ (0 + e) ∷ rest =
      ap (plus e) (append_assoc f.clocks (f.age ∷ []) (0 ∷ (f.kept ++ f.kept_age ∷ f.elapsed ∷ []))) ∙ map-append (λ x. x + e) f.clocks (f.age ∷ 0 ∷ (f.kept ++ f.kept_age ∷ f.elapsed ∷ []))
      ∙ ap (λ l. plus e f.clocks ++ (f.age + e) ∷ (0 + e) ∷ l) (map-append (λ x. x + e) f.kept (f.kept_age ∷ f.elapsed ∷ [])) in
      up ∙ append_assoc (plus e f.clocks) ((f.age + e) ∷ (0 + e) ∷ []) rest ∙ sym (down ∙ flat)

  framed_popped : Framed n (popped f g)
  framed_popped = (fg.0, length-map f.kept (λ x. x + e) ∙ ff.1)

  -- where the values after the pop stand among them
  both_popped : (i : ℕ) → i < 2 * n + 3 → (place_of n i < 3 * n + 5) × (slice_index (values (popped f g)) i ≡ slice_index both (place_of n i))
  both_popped i lt = ⊎_elim
      (λ (a : i < n).
      let p : place_of n i ≡ i = grind (arith, nat_tests) in (
        omega arith,
        get_or_append_left g.clocks ((f.age + e) ∷ rest) 0 i (omega (arith, fg.0)) ∙ sym (get_or_append_left g.clocks (g.age ∷ (g.kept ++ g.kept_age ∷ g.elapsed ∷ [])) 0 i (omega (arith, fg.0)))
            ∙ sym (get_or_append_left (values g) rest 0 i (omega (arith, length_values n g fg))) ∙ ap (λ q. slice_index both q) (sym p),
      ))
      (λ (a : n ≤ i). ⊎_elim
      (λ (s : i ≡ n).
      let p : place_of n i ≡ 2 * n + 1 = grind (arith, nat_tests) in
      let k : 2 * n + 1 ≡ n + 1 + n = omega arith in (
        omega arith,
        get_or_at g.clocks (f.age + e) rest 0 i (omega (arith, fg.0)) ∙ sym kept_age ∙ sym (get_or_at g.kept g.kept_age (g.elapsed ∷ []) 0 n fg.1)
            ∙ ap (λ l. slice_index l n) (sym (past_age g fg).1) ∙ get_or-drop (n + 1) (values g) n 0 ∙ sym (get_or_append_left (values g) rest 0 (n + 1 + n) (omega (arith, length_values n g fg))) ∙ ap (λ q. slice_index both q) (sym (p ∙ k)),
      ))
      (λ (s : i ≡ n → ⊥).
      let p : place_of n i ≡ i + n + 2 = grind (arith, nat_tests) in
      let k : i - n ≡ suc (i - n - 1) = omega arith in
      let q : i + n + 2 - (2 * n + 3) ≡ i - n - 1 = omega arith in (
        omega arith,
        get_or-append_right g.clocks ((f.age + e) ∷ rest) n i 0 fg.0 a ∙ ap (λ j. slice_index ((f.age + e) ∷ rest) j) k ∙ ap (λ j. slice_index rest j) (sym q)
            ∙ sym (get_or-append_right (values g) rest (2 * n + 3) (i + n + 2) 0 (length_values n g fg) (omega arith)) ∙ ap (λ j. slice_index both j) (sym p),
      ))
      (cases_eq i n))
      (cases_lt i n)

  -- the region of both frames' values is what a pop asks for
  pub pop_joined : (m : ℕ) (c : ℕ → ℕ) (D : ℕ) (s u : Region) → n ≤ 3 → m ≡ 2 * n + 3 → 0 < D → ((i j : ℕ) → c i ≡ c j) → Lies m c D s (values f) → Lies m c D u (values g)
      → (r : Region) × (k : ℕ) × Joins n (turns k c (with_mark n (front m s))) (front m u) r × Lies m c D r (values (popped f g))
  pop_joined m c D s u few is pos flat ls lu =
      let M : ℕ = 3 * n + 5 in
      let cs = shut (items_of c D 0 both) in
      let hc : Holds M c D cs both = made_holds M c D both long_both in
      let t = time_covers (m + 1) c D (with_mark n (front m s)) (insert (values f) (n + 1) 0) pos (omega arith) (marked_holds n m c D s (values f) (omega arith) (omega arith) flat ls) e in
      let down : Holds (m + 1) c D (shut (drop (n + 1) cs)) (drop (n + 1) both) = chosen M (m + 1) c D cs (drop (n + 1) cs) both (drop (n + 1) both) (λ i. n + 1 + i) flat hc
      (length-drop (n + 1) cs ∙ omega (arith, hc.items)) (length-drop (n + 1) both ∙ omega (arith, long_both))
      (λ i lt. (omega arith, get_or-drop (n + 1) cs i none, get_or-drop (n + 1) both i 0)) in
      let up : Holds m c D (shut (take (2 * n + 3) cs)) (take (2 * n + 3) both) = chosen M m c D cs (take (2 * n + 3) cs) both (take (2 * n + 3) both) (λ i. i) flat hc
      (length-take-le (2 * n + 3) cs (omega (arith, hc.items)) ∙ sym is) (length-take-le (2 * n + 3) both (omega (arith, long_both)) ∙ sym is)
      (λ i lt. (omega arith, get_or-take (2 * n + 3) cs i none (omega arith), get_or-take (2 * n + 3) both i 0 (omega arith))) in
      let joint : Joint n (turns t.0 c (with_mark n (front m s))) (front m u) cs = record {
        long = hc.items;
        gapless = hc.each.ranks.gapless;
        below = holds_alone (m + 1) c D _ _ (plus e (insert (values f) (n + 1) 0)) (subst (Holds (m + 1) c D (shut (drop (n + 1) cs))) both_below down) t.1;
        above = holds_alone m c D _ _ (values g) (subst (Holds m c D (shut (take (2 * n + 3) cs))) both_above up) lu.holds;
      } in
      let ys = projected n cs in
      let long-ys : length ys ≡ m = length_each (λ i _. get_or cs (place_of n i) none) 0 (replicate (2 * n + 3) none) ∙ length-replicate (2 * n + 3) none ∙ sym is in
      let out : Holds m c D (shut ys) (values (popped f g)) = chosen M m c D cs ys both (values (popped f g)) (place_of n) flat hc long-ys (length_values n (popped f g) framed_popped ∙ sym is)
      (λ i lt. let b = both_popped i (omega arith) in
      (b.0, getD_each (λ i _. get_or cs (place_of n i) none) 0 (replicate (2 * n + 3) none) i none (omega (arith, length-replicate (2 * n + 3) none)) ∙ ap (λ q. get_or cs (place_of n q) none) (zero-add i), b.1)) in
      let r = join_region (2 * n + 3) (shut ys) in
      let tail = replicate (9 - (2 * n + 3)) none in
      let ss : length (shut ys) ≡ m = length_shut ys ∙ long-ys in
      let fr : front m r ≡ shut ys = take_at (shut ys) tail m ss in (
        r,
        t.0,
        (cs, joint, refl),
        record {
          shaped = record { full = length-append (shut ys) tail ∙ omega (arith, length-replicate (9 - (2 * n + 3)) none); rest = drop_at (shut ys) tail m ss ∙ ap (λ k. replicate (9 - k) none) (sym is) };
          holds = subst (λ xs. Holds m c D xs (values (popped f g))) (sym fr) out;
        },
      )
