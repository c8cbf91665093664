use Rattle.std.specs.Prelude.{◌≡◌, ℕ, zero, suc, ◌+◌, ◌-◌, ◌<◌, ◌≤◌, true, ◌&&◌, List, [], ◌∷◌, ◌++◌, length, drop, replicate, ◌==◌, nat_le, nat_lt, slice_index_or, refl}
use Rattle.std.proofs.Common.{sym, ap, ◌∙◌, subst, arith, add-zero, length-drop, length-append}
use Rattle.std.proofs.lemmas.List.{length-take-le, take_at, drop_at, take-append-drop, ext_get_or}
use Rattle.std.proofs.lemmas.Bool.{and_parts, and_from, leb-true, le-leb, eqb-true, eq-eqb, lt-ltb}
use Rattle.abstraction.specs.Owes.{Small}
use Rattle.abstraction.specs.Bounds.{Fits}
use Rattle.abstraction.proofs.Tests.{fits_from}
use Rattle.abstraction.specs.declared.interval.Interval.{Interval}
use Rattle.abstraction.specs.declared.scope.Scope.{Scope}
use Rattle.ranking.specs.declared.Item.{Item}
use Rattle.ranking.specs.declared.Region.{Region}
use Rattle.ranking.specs.Ranks.{Gapless, Ranks}
use Rattle.ranking.specs.Items.{none, whole_at, rank_at, places, ceiling}
use Rattle.ranking.specs.Lawful.{front, Shaped, Lawful}
use Rattle.ranking.specs.Close.{shut, closed}
use Rattle.ranking.specs.Joined.{same_region}
use Rattle.ranking.proofs.Steps.{unique}
use Rattle.ranking.proofs.Close.{shut_ranks, shut_whole, length_shut, own_ranks}
use Rattle.ranking.proofs.Joined.{same_item, same_decides, region_same}
use Rattle.region.specs.Asked.{small, wholes_fit, all_empty, in_order, lawful, asks}

pub few_places : (w : Scope) → (places w ≤ 9) × (3 ≤ places w)
few_places w = (omega arith, omega arith)

pub low_ceiling : (w : Scope) (i : ℕ) → ceiling w i ≤ 15
low_ceiling w i = omega arith

fits_at : (c : ℕ → ℕ) (k : ℕ) (xs : List Item) → wholes_fit c k xs ≡ true → (i : ℕ) → i < length xs → whole_at xs i ≤ c (k + i) + 1
fits_at c k [] h i lt = absurd (omega arith)
fits_at c k (x ∷ xs) h zero lt = let p = and_parts (nat_le x.whole (c k + 1)) (wholes_fit c (k + 1) xs) h in omega (arith, leb-true _ _ p.0, ap c (add-zero k))
fits_at c k (x ∷ xs) h (suc i) lt =
    let p = and_parts (nat_le x.whole (c k + 1)) (wholes_fit c (k + 1) xs) h in
    let e : k + 1 + i ≡ k + suc i = omega arith in
    omega (arith, fits_at c (k + 1) xs p.1 i (omega arith), ap c e)

at_fits : (c : ℕ → ℕ) (k : ℕ) (xs : List Item) → ((i : ℕ) → i < length xs → whole_at xs i ≤ c (k + i) + 1) → wholes_fit c k xs ≡ true
at_fits c k [] h = refl
at_fits c k (x ∷ xs) h =
    and_from (nat_le x.whole (c k + 1)) _ (le-leb _ _ (omega (arith, h 0 (omega arith), ap c (add-zero k))))
    (at_fits c (k + 1) xs (λ i lt. let e : k + suc i ≡ k + 1 + i = omega arith in omega (arith, h (suc i) (omega arith), ap c e)))

empty_none : (xs : List Item) → all_empty xs ≡ true → xs ≡ replicate (length xs) none
empty_none [] h = refl
empty_none (x ∷ xs) h =
    let p = and_parts (x.whole == 0 && x.rank == 0) (all_empty xs) h in
    let q = and_parts (x.whole == 0) (x.rank == 0) p.0 in
    ap (λ y. y ∷ xs) (same_item x none (eqb-true _ _ q.0) (eqb-true _ _ q.1)) ∙ ap (λ ys. none ∷ ys) (empty_none xs p.1)

none_empty : (n : ℕ) → all_empty (replicate n none) ≡ true
none_empty zero = refl
none_empty (suc n) = none_empty n

-- items of the same whole parts, with ranks of the same keys, are the same
pub same_ranked : (m : ℕ) (κ : ℕ → ℕ) (xs ys : List Item) → length xs ≡ m → length ys ≡ m → ((i : ℕ) → i < m → whole_at xs i ≡ whole_at ys i) → Ranks m (rank_at xs) κ → Ranks m (rank_at ys) κ → xs ≡ ys
same_ranked m κ xs ys lx ly w a b = ext_get_or none xs ys (lx ∙ sym ly)
    (λ i lt. let l : i < m = omega (arith, lx) in
    same_item (slice_index_or xs i none) (slice_index_or ys i none) (w i l) (unique m (rank_at xs) (rank_at ys) κ a b i l))

-- closing up leaves gapless ranks as they are, and no others
shut_gapless : (xs : List Item) → shut xs ≡ xs → Gapless (length xs) (rank_at xs)
shut_gapless xs e = subst (λ ys. Gapless (length xs) (rank_at ys)) e (shut_ranks xs).gapless

pub gapless_shut : (xs : List Item) → Gapless (length xs) (rank_at xs) → shut xs ≡ xs
gapless_shut xs g = same_ranked (length xs) (rank_at xs) (shut xs) xs (length_shut xs) refl (λ i lt. shut_whole xs i lt) (shut_ranks xs) (own_ranks (length xs) (rank_at xs) g)

pub front_long : (m : ℕ) (r : Region) → m ≤ 9 → length r.items ≡ 9 → length (front m r) ≡ m
front_long m r le full = length-take-le m r.items (omega arith)

pub closed_front : (m : ℕ) (r : Region) → m ≤ 9 → length r.items ≡ 9 → front m (closed m r) ≡ shut (front m r)
closed_front m r le full = take_at (shut (front m r)) (drop m r.items) m (length_shut (front m r) ∙ front_long m r le full)

pub closed_rest : (m : ℕ) (r : Region) → m ≤ 9 → length r.items ≡ 9 → drop m (closed m r).items ≡ drop m r.items
closed_rest m r le full = drop_at (shut (front m r)) (drop m r.items) m (length_shut (front m r) ∙ front_long m r le full)

pub closed_full : (m : ℕ) (r : Region) → m ≤ 9 → length r.items ≡ 9 → length (closed m r).items ≡ 9
closed_full m r le full = omega (arith, length-append (shut (front m r)) (drop m r.items), length_shut (front m r), front_long m r le full, length-drop m r.items)

-- regions with the same items in use are the same
pub same_front : (m : ℕ) (r t : Region) → Shaped m r → Shaped m t → front m r ≡ front m t → r ≡ t
same_front m r t a b e = region_same r t (sym (take-append-drop m r.items) ∙ ap (λ xs. xs ++ drop m r.items) e ∙ ap (λ xs. front m t ++ xs) (a.rest ∙ sym b.rest) ∙ take-append-drop m t.items)

-- the test on regions decides whether they are lawful
pub lawful_holds : (w : Scope) (r : Region) → lawful w r ≡ true → Small w × Lawful (places w) (ceiling w) r
lawful_holds w r h =
    let m = places w in
    let a = and_parts (small w) (length r.items == 9 && in_order w r) h in
    let s = and_parts (nat_le w.clocks 3) (nat_le w.top 15) a.0 in
    let b = and_parts (length r.items == 9) (in_order w r) a.1 in
    let d = and_parts (wholes_fit (ceiling w) 0 (front m r)) (same_region (closed m r) r && all_empty (drop m r.items)) b.1 in
    let e = and_parts (same_region (closed m r) r) (all_empty (drop m r.items)) d.1 in
    let full = eqb-true _ _ b.0 in
    let le = (few_places w).0 in
    let long = front_long m r le full in
    let same : shut (front m r) ≡ front m r = sym (closed_front m r le full) ∙ ap (front m) ((same_decides (closed m r) r).0 e.0) in (
      (leb-true _ _ s.0, leb-true _ _ s.1),
      record {
        shaped = record { full = full; rest = empty_none (drop m r.items) e.1 ∙ ap (λ n. replicate n none) (length-drop m r.items ∙ ap (λ n. n - m) full) };
        wholes = λ i lt. omega (arith, fits_at (ceiling w) 0 (front m r) d.0 i (omega (arith, long)));
        gapless = subst (λ n. Gapless n (rank_at (front m r))) long (shut_gapless (front m r) same);
      },
    )

pub lawful_only : (w : Scope) (r : Region) → Small w → Lawful (places w) (ceiling w) r → lawful w r ≡ true
lawful_only w r s l =
    let m = places w in
    let full = l.shaped.full in
    let le = (few_places w).0 in
    let long = front_long m r le full in
    let same : shut (front m r) ≡ front m r = gapless_shut (front m r) (subst (λ n. Gapless n (rank_at (front m r))) (sym long) l.gapless) in
    let unchanged : closed m r ≡ r = region_same (closed m r) r (ap (λ xs. xs ++ drop m r.items) same ∙ take-append-drop m r.items) in
    and_from (small w) _ (and_from (nat_le w.clocks 3) _ (le-leb _ _ s.0) (le-leb _ _ s.1))
    (and_from (length r.items == 9) _ (eq-eqb _ _ full)
    (and_from (wholes_fit (ceiling w) 0 (front m r)) _ (at_fits (ceiling w) 0 (front m r) (λ i lt. l.wholes i (omega (arith, long))))
    (and_from (same_region (closed m r) r) _ ((same_decides (closed m r) r).1 unchanged) (ap all_empty l.shaped.rest ∙ none_empty (9 - m)))))

-- the question that is about a lawful region
pub asked : (w : Scope) (k : ℕ) (i : Interval) (r : Region) → lawful w r ≡ true → k < w.clocks → Fits w.top i → asks w k i r ≡ true
asked w k i r ok lt f = and_from (lawful w r) _ ok (and_from (nat_lt k w.clocks) _ (lt-ltb k w.clocks lt) (fits_from w.top i f))
