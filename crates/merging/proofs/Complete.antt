use Rattle.std.proofs.Common.{◌≡◌, ℕ, zero, suc, ◌+◌, ◌<◌, ◌≤◌, Bool, true, false, ◌&&◌, List, [], ◌∷◌, get_or, set, sym, refl, ap, ◌∙◌, ⊎_elim, arith}
use Rattle.std.specs.List.{range_with_len, AllByRecursion}
use Rattle.std.proofs.lemmas.Bool.{cases_lt, cases_eq, cases_order, eq-eqb, ne_eqb}
use Rattle.std.proofs.lemmas.Bool.Decides.{nat_tests}
use Rattle.merging.specs.declared.Tie.{Tie}
use Rattle.merging.specs.declared.Keys.{Keys}
use Rattle.merging.specs.declared.Side.TheVariants.{Left, Right}
use Rattle.merging.specs.Ways.{alone, together, same_test, rank_on, on}
use Rattle.merging.proofs.Ways.{Way, done, goes_left, goes_right, goes_both, written}
use Rattle.merging.proofs.Sound.{left_at, right_at, set_at, Sofar, step_left, step_right, step_both}

both_true : (a b : Bool) {c : Bool} → a ≡ true → b ≡ true → c ≡ true → (same_test a b && c) ≡ true
both_true a b {c} p q r = cc

both_false : (a b : Bool) {c : Bool} → a ≡ false → b ≡ false → c ≡ true → (same_test a b && c) ≡ true
both_false a b {c} p q r = cc

-- the fractions f and g of the ranks of the two sides say how to merge
module _ (f g : ℕ → ℕ) (K L : ℕ) (smallK : K < 11) (smallL : L < 11) (ts : List Tie)
    (up : (p q : ℕ) → p < q → q ≤ K → f p < f q) (up' : (p q : ℕ) → p < q → q ≤ L → g p < g q)
    (ties : AllByRecursion (λ t. (f t.left.rank ≡ g t.right.rank) × (t.left.rank ≤ K) × (t.right.rank ≤ L)) ts) where
  abbrev pub FitsTie : Tie → Type 0
  FitsTie t = (f t.left.rank ≡ g t.right.rank) × (t.left.rank ≤ K) × (t.right.rank ≤ L)

  free_left : (l : ℕ) (us : List Tie) → AllByRecursion FitsTie us → ((q : ℕ) → q ≤ L → f l ≡ g q → ⊥) → alone (rank_on Left) l us ≡ true
  free_left l [] a n = refl
  free_left l (t ∷ us) a n = let r = free_left l us a.1 n in let m = n t.right.rank a.0.2 in let e0 = a.0.0 in
      ⊎_elim (λ (e : t.left.rank ≡ l). absurd (m (sym (ap f e) ∙ e0))) (λ (d : t.left.rank ≡ l → ⊥). grind (arith, nat_tests)) (cases_eq t.left.rank l)

  free_right : (r : ℕ) (us : List Tie) → AllByRecursion FitsTie us → ((q : ℕ) → q ≤ K → g r ≡ f q → ⊥) → alone (rank_on Right) r us ≡ true
  free_right r [] a n = refl
  free_right r (t ∷ us) a n = let s = free_right r us a.1 n in let m = n t.left.rank a.0.1 in let e0 = a.0.0 in
      ⊎_elim (λ (e : t.right.rank ≡ r). absurd (m (sym (ap g e) ∙ sym e0))) (λ (d : t.right.rank ≡ r → ⊥). grind (arith, nat_tests)) (cases_eq t.right.rank r)

  one_f : (p q : ℕ) → p ≤ K → q ≤ K → f p ≡ f q → p ≡ q
  one_f p q hp hq e = ⊎_elim (λ h. h) (λ h. ⊎_elim (λ k. absurd (omega (arith, up p q k hq))) (λ k. absurd (omega (arith, up q p k hp))) h) (cases_order p q)

  one_g : (p q : ℕ) → p ≤ L → q ≤ L → g p ≡ g q → p ≡ q
  one_g p q hp hq e = ⊎_elim (λ h. h) (λ h. ⊎_elim (λ k. absurd (omega (arith, up' p q k hq))) (λ k. absurd (omega (arith, up' q p k hp))) h) (cases_order p q)

  meeting : (l r : ℕ) (us : List Tie) → AllByRecursion FitsTie us → l ≤ K → r ≤ L → f l ≡ g r → together l r us ≡ true
  meeting l r [] a hl hr e = refl
  meeting l r (t ∷ us) a hl hr e = let s = meeting l r us a.1 hl hr e in let e0 = a.0.0 in
      ⊎_elim
      (λ (p : t.left.rank ≡ l). let q = one_g t.right.rank r a.0.2 hr (sym e0 ∙ ap f p ∙ e) in both_true _ _ (eq-eqb _ _ p) (eq-eqb _ _ q) s)
      (λ (p : t.left.rank ≡ l → ⊥). let q : t.right.rank ≡ r → ⊥ = λ z. p (one_f t.left.rank l a.0.1 hl (e0 ∙ ap g z ∙ sym e)) in both_false _ _ (ne_eqb _ _ p) (ne_eqb _ _ q) s)
      (cases_eq t.left.rank l)

  -- the places given so far stand to each other as the fractions do
  abbrev pub Cross : ℕ → ℕ → Keys → Type 0
  Cross i j k = (p q : ℕ) → p ≤ i → q ≤ j
      → (left_at k p ≤ right_at k q → f p ≤ g q) × (f p ≤ g q → left_at k p ≤ right_at k q) × (right_at k q ≤ left_at k p → g q ≤ f p) × (g q ≤ f p → right_at k q ≤ left_at k p)

  cross_left : (i j p : ℕ) (k : Keys) → i + 1 < 11 → Sofar ts i j p k → Cross i j k → ((q : ℕ) → q ≤ j → g q < f (i + 1)) → Cross (i + 1) j (on Left (i + 1) (p + 1) k)
  cross_left i j p k small s c front a b la lb =
      let e = set_at k.left (i + 1) (p + 1) a (omega (arith, s.left_long)) in
      ⊎_elim
      (λ (h : a ≡ i + 1).
      let new : get_or (set k.left (i + 1) (p + 1)) a 0 ≡ p + 1 = grind (arith, nat_tests) in
      let low = s.right_low b lb in let fr = front b lb in let fe = ap f h in
      ((λ z. absurd (omega arith)), (λ z. absurd (omega arith)), (λ z. omega arith), (λ z. omega arith)))
      (λ (n : a ≡ i + 1 → ⊥).
      let le : a ≤ i = grind arith in
      let old : get_or (set k.left (i + 1) (p + 1)) a 0 ≡ left_at k a = grind (arith, nat_tests) in
      rw old (c a b le lb))
      (cases_eq a (i + 1))

  cross_right : (i j p : ℕ) (k : Keys) → j + 1 < 11 → Sofar ts i j p k → Cross i j k → ((q : ℕ) → q ≤ i → f q < g (j + 1)) → Cross i (j + 1) (on Right (j + 1) (p + 1) k)
  cross_right i j p k small s c front a b la lb =
      let e = set_at k.right (j + 1) (p + 1) b (omega (arith, s.right_long)) in
      ⊎_elim
      (λ (h : b ≡ j + 1).
      let new : get_or (set k.right (j + 1) (p + 1)) b 0 ≡ p + 1 = grind (arith, nat_tests) in
      let low = s.left_low a la in let fr = front a la in let ge = ap g h in
      ((λ z. omega arith), (λ z. omega arith), (λ z. absurd (omega arith)), (λ z. absurd (omega arith))))
      (λ (n : b ≡ j + 1 → ⊥).
      let le : b ≤ j = grind arith in
      let old : get_or (set k.right (j + 1) (p + 1)) b 0 ≡ right_at k b = grind (arith, nat_tests) in
      rw old (c a b la le))
      (cases_eq b (j + 1))

  cross_both : (i j p : ℕ) (k : Keys) → i + 1 < 11 → j + 1 < 11 → Sofar ts i j p k → Cross i j k → f (i + 1) ≡ g (j + 1) → ((q : ℕ) → q ≤ j → g q < f (i + 1)) → ((q : ℕ) → q ≤ i → f q < g (j + 1))
      → Cross (i + 1) (j + 1) (on Right (j + 1) (p + 1) (on Left (i + 1) (p + 1) k))
  cross_both i j p k si sj s c same front front' a b la lb =
      let e = set_at k.left (i + 1) (p + 1) a (omega (arith, s.left_long)) in
      let e' = set_at k.right (j + 1) (p + 1) b (omega (arith, s.right_long)) in
      ⊎_elim
      (λ (h : a ≡ i + 1).
      let new : get_or (set k.left (i + 1) (p + 1)) a 0 ≡ p + 1 = grind (arith, nat_tests) in
      let fe = ap f h in
      ⊎_elim
      (λ (h' : b ≡ j + 1).
      let new' : get_or (set k.right (j + 1) (p + 1)) b 0 ≡ p + 1 = grind (arith, nat_tests) in
      let ge = ap g h' in
      ((λ z. omega arith), (λ z. omega arith), (λ z. omega arith), (λ z. omega arith)))
      (λ (n : b ≡ j + 1 → ⊥).
      let le : b ≤ j = grind arith in
      let old : get_or (set k.right (j + 1) (p + 1)) b 0 ≡ right_at k b = grind (arith, nat_tests) in
      let low = s.right_low b le in let fr = front b le in
      ((λ z. absurd (omega arith)), (λ z. absurd (omega arith)), (λ z. omega arith), (λ z. omega arith)))
      (cases_eq b (j + 1)))
      (λ (m : a ≡ i + 1 → ⊥).
      let le : a ≤ i = grind arith in
      let old : get_or (set k.left (i + 1) (p + 1)) a 0 ≡ left_at k a = grind (arith, nat_tests) in
      let low = s.left_low a le in let fr = front' a le in
      ⊎_elim
      (λ (h' : b ≡ j + 1).
      let new' : get_or (set k.right (j + 1) (p + 1)) b 0 ≡ p + 1 = grind (arith, nat_tests) in
      let ge = ap g h' in
      ((λ z. omega arith), (λ z. omega arith), (λ z. absurd (omega arith)), (λ z. absurd (omega arith))))
      (λ (n : b ≡ j + 1 → ⊥).
      let le' : b ≤ j = grind arith in
      let old' : get_or (set k.right (j + 1) (p + 1)) b 0 ≡ right_at k b = grind (arith, nat_tests) in
      rw (old, old') (c a b le le'))
      (cases_eq b (j + 1)))
      (cases_eq a (i + 1))

  below_f : (x i : ℕ) → i ≤ K → f i < x → (q : ℕ) → q ≤ i → f q < x
  below_f x i ik h q le = ⊎_elim (λ (e : q < i). omega (arith, up q i e ik)) (λ (e : i ≤ q). let s : q ≡ i = omega arith in rw s h) (cases_lt q i)

  below_g : (x j : ℕ) → j ≤ L → g j < x → (q : ℕ) → q ≤ j → g q < x
  below_g x j jl h q le = ⊎_elim (λ (e : q < j). omega (arith, up' q j e jl)) (λ (e : j ≤ q). let s : q ≡ j = omega arith in rw s h) (cases_lt q j)

  from_f : (x p : ℕ) → x < f p → (q : ℕ) → q ≤ K → p ≤ q → x < f q
  from_f x p h q qk le = ⊎_elim (λ (e : p < q). omega (arith, up p q e qk)) (λ (e : q ≤ p). let s : q ≡ p = omega arith in rw s h) (cases_lt p q)

  from_g : (x p : ℕ) → x < g p → (q : ℕ) → q ≤ L → p ≤ q → x < g q
  from_g x p h q ql le = ⊎_elim (λ (e : p < q). omega (arith, up' p q e ql)) (λ (e : q ≤ p). let s : q ≡ p = omega arith in rw s h) (cases_lt p q)

  abbrev pub Walk : ℕ → ℕ → ℕ → ℕ → ℕ → Keys → Type 0
  Walk a b i j p k = (w : Way ts (range_with_len (i + 1) a) (range_with_len (j + 1) b)) × Cross K L (written w p k)

  take_left : (a b i j p : ℕ) (k : Keys) → i + 1 ≤ K → j ≤ L → g j < f (i + 1) → ((q : ℕ) → q ≤ L → j < q → f (i + 1) < g q) → Sofar ts i j p k → Cross i j k
      → ((k' : Keys) → Sofar ts (i + 1) j (p + 1) k' → Cross (i + 1) j k' → Walk a b (i + 1) j (p + 1) k') → Walk (suc a) b i j p k
  take_left a b i j p k ik jl front beyond s c go =
      let old = below_g (f (i + 1)) j jl front in
      let free = free_left (i + 1) ts ties (λ q h e. ⊎_elim (λ (m : j < q). omega (arith, e, beyond q h m)) (λ (m : q ≤ j). omega (arith, e, old q m)) (cases_lt j q)) in
      let r = go _ (step_left ts i j p k s (omega arith) free) (cross_left i j p k (omega arith) s c old) in
      (goes_left free r.0, r.1)

  take_right : (a b i j p : ℕ) (k : Keys) → i ≤ K → j + 1 ≤ L → f i < g (j + 1) → ((q : ℕ) → q ≤ K → i < q → g (j + 1) < f q) → Sofar ts i j p k → Cross i j k
      → ((k' : Keys) → Sofar ts i (j + 1) (p + 1) k' → Cross i (j + 1) k' → Walk a b i (j + 1) (p + 1) k') → Walk a (suc b) i j p k
  take_right a b i j p k ik jl front beyond s c go =
      let old = below_f (g (j + 1)) i ik front in
      let free = free_right (j + 1) ts ties (λ q h e. ⊎_elim (λ (m : i < q). omega (arith, e, beyond q h m)) (λ (m : q ≤ i). omega (arith, e, old q m)) (cases_lt i q)) in
      let r = go _ (step_right ts i j p k s (omega arith) free) (cross_right i j p k (omega arith) s c old) in
      (goes_right free r.0, r.1)

  walk : (n a b i j p : ℕ) (k : Keys) → a + b ≤ n → i + a ≡ K → j + b ≡ L → (0 < a → g j < f (i + 1)) → (0 < b → f i < g (j + 1)) → Sofar ts i j p k → Cross i j k → Walk a b i j p k
  walk n zero zero i j p k le ea eb ga gb s c = (done, let e : i ≡ K = omega arith in let e' : j ≡ L = omega arith in rw (e, e') at c)
  walk zero (suc a) b i j p k le ea eb ga gb s c = absurd (omega arith)
  walk zero zero (suc b) i j p k le ea eb ga gb s c = absurd (omega arith)
  walk (suc n) (suc a) zero i j p k le ea eb ga gb s c =
      let front = ga (omega arith) in
      take_left a zero i j p k (omega arith) (omega arith) front (λ q h m. absurd (omega arith)) s c
      (λ k' s' c'. walk n a zero (i + 1) j (p + 1) k' (omega arith) (omega arith) eb (λ h. omega (arith, front, up (i + 1) (i + 1 + 1) (omega arith) (omega arith))) (λ h. absurd (omega arith)) s' c')
  walk (suc n) zero (suc b) i j p k le ea eb ga gb s c =
      let front = gb (omega arith) in
      take_right zero b i j p k (omega arith) (omega arith) front (λ q h m. absurd (omega arith)) s c
      (λ k' s' c'. walk n zero b i (j + 1) (p + 1) k' (omega arith) ea (omega arith) (λ h. absurd (omega arith)) (λ h. omega (arith, front, up' (j + 1) (j + 1 + 1) (omega arith) (omega arith))) s' c')
  walk (suc n) (suc a) (suc b) i j p k le ea eb ga gb s c =
      let fa = ga (omega arith) in let fb = gb (omega arith) in
      ⊎_elim
      (λ (e : f (i + 1) ≡ g (j + 1)).
      let m = meeting (i + 1) (j + 1) ts ties (omega arith) (omega arith) e in
      let r = walk n a b (i + 1) (j + 1) (p + 1) _ (omega arith) (omega arith) (omega arith)
      (λ h. omega (arith, e, up (i + 1) (i + 1 + 1) (omega arith) (omega arith))) (λ h. omega (arith, e, up' (j + 1) (j + 1 + 1) (omega arith) (omega arith)))
      (step_both ts i j p k s (omega arith) (omega arith) m)
      (cross_both i j p k (omega arith) (omega arith) s c e (below_g (f (i + 1)) j (omega arith) fa) (below_f (g (j + 1)) i (omega arith) fb)) in
      (goes_both m r.0, r.1))
      (λ d. ⊎_elim
      (λ (lt : f (i + 1) < g (j + 1)).
      take_left a (suc b) i j p k (omega arith) (omega arith) fa (λ q h m. from_g (f (i + 1)) (j + 1) lt q h (omega arith)) s c
      (λ k' s' c'. walk n a (suc b) (i + 1) j (p + 1) k' (omega arith) (omega arith) eb (λ h. omega (arith, fa, up (i + 1) (i + 1 + 1) (omega arith) (omega arith))) (λ h. lt) s' c'))
      (λ (gt : g (j + 1) < f (i + 1)).
      take_right (suc a) b i j p k (omega arith) (omega arith) fb (λ q h m. from_f (g (j + 1)) (i + 1) gt q h (omega arith)) s c
      (λ k' s' c'. walk n (suc a) b i (j + 1) (p + 1) k' (omega arith) ea (omega arith) (λ h. gt) (λ h. omega (arith, fb, up' (j + 1) (j + 1 + 1) (omega arith) (omega arith))) s' c'))
      d)
      (cases_order (f (i + 1)) (g (j + 1)))

  -- some way gives places that stand to each other as the fractions do
  pub complete : f 0 ≡ 0 → g 0 ≡ 0 → (k : Keys) → Sofar ts 0 0 0 k → (w : Way ts (range_with_len 1 K) (range_with_len 1 L)) × Cross K L (written w 0 k)
  complete f0 g0 k s =
      walk (K + L) K L 0 0 0 k (omega arith) (omega arith) (omega arith)
      (λ h. omega (arith, g0, up 0 1 (omega arith) (omega arith))) (λ h. omega (arith, f0, up' 0 1 (omega arith) (omega arith))) s
      (λ p q lp lq. let ep : p ≡ 0 = omega arith in let eq : q ≡ 0 = omega arith in let fp = ap f ep in let gq = ap g eq in let l = s.left_low p lp in let r = s.right_low q lq in
      ((λ z. omega arith), (λ z. omega arith), (λ z. omega arith), (λ z. omega arith)))
