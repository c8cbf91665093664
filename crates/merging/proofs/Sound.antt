use Rattle.std.proofs.Common.{◌≡◌, ℕ, zero, suc, ◌+◌, ◌<◌, ◌≤◌, true, cond, not, eqb, List, [], ◌∷◌, length, get_or, set, sym, ap, ◌∙◌, ⊎_elim, arith}
use Rattle.std.specs.List.{range_with_len, AllByRecursion}
use Rattle.std.proofs.lemmas.List.{get_or-set_same, get_or-set_other, length-set}
use Rattle.std.proofs.lemmas.Bool.{cases_eq, and_parts, not-true, eqb-false}
use Rattle.std.proofs.lemmas.Bool.Decides.{nat_tests}
use Rattle.merging.specs.declared.Tie.{Tie}
use Rattle.merging.specs.declared.Keys.{Keys}
use Rattle.merging.specs.declared.Side.TheVariants.{Left, Right}
use Rattle.merging.specs.Ways.{alone, together, same_test, rank_on, on}
use Rattle.merging.proofs.Ways.{Way, done, goes_left, goes_right, goes_both, written}

abbrev pub left_at : Keys → ℕ → ℕ
left_at k q = get_or k.left q 0

abbrev pub right_at : Keys → ℕ → ℕ
right_at k q = get_or k.right q 0

pub set_at : (xs : List ℕ) (i v q : ℕ) → i < length xs → get_or (set xs i v) q 0 ≡ cond (eqb q i) v (get_or xs q 0)
set_at xs i v q lt = ⊎_elim
    (λ (e : q ≡ i). rw e (get_or-set_same xs i v 0 lt ∙ grind (arith, nat_tests)))
    (λ (n : q ≡ i → ⊥). get_or-set_other xs i q v 0 n ∙ grind (arith, nat_tests))
    (cases_eq q i)

pub all_with : {X : Type 0} (P Q R : X → Type 0) → ((x : X) → P x → Q x → R x) → (xs : List X) → AllByRecursion P xs → AllByRecursion Q xs → AllByRecursion R xs
all_with P Q R f [] p q = tt
all_with P Q R f (x ∷ xs) p q = (f x p.0 q.0, all_with P Q R f xs p.1 q.1)

pub alone_each : (f : Tie → ℕ) (r : ℕ) (ts : List Tie) → alone f r ts ≡ true → AllByRecursion (λ t. f t ≡ r → ⊥) ts
alone_each f r [] e = tt
alone_each f r (t ∷ ts) e = let a = and_parts (not (eqb (f t) r)) _ e in (eqb-false _ _ (not-true _ a.0), alone_each f r ts a.1)

abbrev pub Both : ℕ → ℕ → Tie → Type 0
Both l r t = (t.left.rank ≡ l → t.right.rank ≡ r) × (t.right.rank ≡ r → t.left.rank ≡ l)

both_from : (a b l r : ℕ) → same_test (eqb a l) (eqb b r) ≡ true → (a ≡ l → b ≡ r) × (b ≡ r → a ≡ l)
both_from a b l r e = ((λ h. grind (arith, nat_tests)), (λ h. grind (arith, nat_tests)))

pub together_each : (l r : ℕ) (ts : List Tie) → together l r ts ≡ true → AllByRecursion (Both l r) ts
together_each l r [] e = tt
together_each l r (t ∷ ts) e = let a = and_parts (same_test (eqb t.left.rank l) (eqb t.right.rank r)) _ e in (both_from _ _ l r a.0, together_each l r ts a.1)

-- the ranks up to i and up to j have their places, up to p
abbrev pub Tied : ℕ → ℕ → Keys → Tie → Type 0
Tied i j k t = (t.left.rank ≤ i → t.right.rank ≤ j) × (t.right.rank ≤ j → t.left.rank ≤ i) × (t.left.rank ≤ i → left_at k t.left.rank ≡ right_at k t.right.rank)

pub record Sofar (ts : List Tie) (i j p : ℕ) (k : Keys) : Type 0 where
  pub left_long : length k.left ≡ 11
  pub right_long : length k.right ≡ 11
  pub left_zero : left_at k 0 ≡ 0
  pub right_zero : right_at k 0 ≡ 0
  pub left_low : (q : ℕ) → q ≤ i → left_at k q ≤ p
  pub right_low : (q : ℕ) → q ≤ j → right_at k q ≤ p
  pub left_up : (a b : ℕ) → a < b → b ≤ i → left_at k a < left_at k b
  pub right_up : (a b : ℕ) → a < b → b ≤ j → right_at k a < right_at k b
  pub ties : AllByRecursion (Tied i j k) ts

module _ (i p : ℕ) (xs : List ℕ) (small : i + 1 < length xs) (zero-first : get_or xs 0 0 ≡ 0) (low : (q : ℕ) → q ≤ i → get_or xs q 0 ≤ p) (up : (a b : ℕ) → a < b → b ≤ i → get_or xs a 0 < get_or xs b 0) where
  next_zero : get_or (set xs (i + 1) (p + 1)) 0 0 ≡ 0
  next_zero = let s = set_at xs (i + 1) (p + 1) 0 small in grind (arith, nat_tests)

  next_low : (q : ℕ) → q ≤ i + 1 → get_or (set xs (i + 1) (p + 1)) q 0 ≤ p + 1
  next_low q le = let s = set_at xs (i + 1) (p + 1) q small in let l = low q in grind (arith, nat_tests)

  next_up : (a b : ℕ) → a < b → b ≤ i + 1 → get_or (set xs (i + 1) (p + 1)) a 0 < get_or (set xs (i + 1) (p + 1)) b 0
  next_up a b lt le =
      let s = set_at xs (i + 1) (p + 1) a small in let t = set_at xs (i + 1) (p + 1) b small in let l = low a (omega arith) in let u = up a b lt in grind (arith, nat_tests)

  next_old : (q : ℕ) → q ≤ i → get_or (set xs (i + 1) (p + 1)) q 0 ≡ get_or xs q 0
  next_old q le = let s = set_at xs (i + 1) (p + 1) q small in grind (arith, nat_tests)

module _ (ts : List Tie) (i j p : ℕ) (k : Keys) (s : Sofar ts i j p k) where
  pub step_left : i + 1 < 11 → alone (rank_on Left) (i + 1) ts ≡ true → Sofar ts (i + 1) j (p + 1) (on Left (i + 1) (p + 1) k)
  step_left small a =
      let small' : i + 1 < length k.left = omega (arith, s.left_long) in
      record {
        left_long = length-set k.left (i + 1) (p + 1) ∙ s.left_long;
        right_long = s.right_long;
        left_zero = next_zero i p k.left small' s.left_zero s.left_low s.left_up;
        right_zero = s.right_zero;
        left_low = next_low i p k.left small' s.left_zero s.left_low s.left_up;
        right_low = λ q le. omega (arith, s.right_low q le);
        left_up = next_up i p k.left small' s.left_zero s.left_low s.left_up;
        right_up = s.right_up;
        ties = all_with _ _ _ (λ t h n.
            let le : t.left.rank ≤ i + 1 → t.left.rank ≤ i = λ e. grind arith in
            ((λ e. h.0 (le e)), (λ e. omega (arith, h.1 e)), (λ e. next_old i p k.left small' s.left_zero s.left_low s.left_up t.left.rank (le e) ∙ h.2 (le e))))
            ts s.ties (alone_each (rank_on Left) (i + 1) ts a);
      }

  pub step_right : j + 1 < 11 → alone (rank_on Right) (j + 1) ts ≡ true → Sofar ts i (j + 1) (p + 1) (on Right (j + 1) (p + 1) k)
  step_right small a =
      let small' : j + 1 < length k.right = omega (arith, s.right_long) in
      record {
        left_long = s.left_long;
        right_long = length-set k.right (j + 1) (p + 1) ∙ s.right_long;
        left_zero = s.left_zero;
        right_zero = next_zero j p k.right small' s.right_zero s.right_low s.right_up;
        left_low = λ q le. omega (arith, s.left_low q le);
        right_low = next_low j p k.right small' s.right_zero s.right_low s.right_up;
        left_up = s.left_up;
        right_up = next_up j p k.right small' s.right_zero s.right_low s.right_up;
        ties = all_with _ _ _ (λ t h n.
            let le : t.right.rank ≤ j + 1 → t.right.rank ≤ j = λ e. grind arith in
            ((λ e. omega (arith, h.0 e)), (λ e. h.1 (le e)), (λ e. h.2 e ∙ sym (next_old j p k.right small' s.right_zero s.right_low s.right_up t.right.rank (h.0 e)))))
            ts s.ties (alone_each (rank_on Right) (j + 1) ts a);
      }

  pub step_both : i + 1 < 11 → j + 1 < 11 → together (i + 1) (j + 1) ts ≡ true → Sofar ts (i + 1) (j + 1) (p + 1) (on Right (j + 1) (p + 1) (on Left (i + 1) (p + 1) k))
  step_both small smaller a =
      let sl : i + 1 < length k.left = omega (arith, s.left_long) in
      let sr : j + 1 < length k.right = omega (arith, s.right_long) in
      record {
        left_long = length-set k.left (i + 1) (p + 1) ∙ s.left_long;
        right_long = length-set k.right (j + 1) (p + 1) ∙ s.right_long;
        left_zero = next_zero i p k.left sl s.left_zero s.left_low s.left_up;
        right_zero = next_zero j p k.right sr s.right_zero s.right_low s.right_up;
        left_low = next_low i p k.left sl s.left_zero s.left_low s.left_up;
        right_low = next_low j p k.right sr s.right_zero s.right_low s.right_up;
        left_up = next_up i p k.left sl s.left_zero s.left_low s.left_up;
        right_up = next_up j p k.right sr s.right_zero s.right_low s.right_up;
        ties = all_with _ _ _ (λ t h b.
            let old-left = next_old i p k.left sl s.left_zero s.left_low s.left_up t.left.rank in
            let old-right = next_old j p k.right sr s.right_zero s.right_low s.right_up t.right.rank in
            ⊎_elim
            (λ (e : t.left.rank ≡ i + 1).
            let f = b.0 e in
            let new-left = ap (λ q. get_or (set k.left (i + 1) (p + 1)) q 0) e ∙ get_or-set_same k.left (i + 1) (p + 1) 0 sl in
            let new-right = ap (λ q. get_or (set k.right (j + 1) (p + 1)) q 0) f ∙ get_or-set_same k.right (j + 1) (p + 1) 0 sr in
            ((λ _. omega arith), (λ _. omega arith), (λ _. new-left ∙ sym new-right)))
            (λ (n : t.left.rank ≡ i + 1 → ⊥).
            let m : t.right.rank ≡ j + 1 → ⊥ = λ e. n (b.1 e) in
            let le : t.left.rank ≤ i + 1 → t.left.rank ≤ i = λ e. grind arith in
            let le' : t.right.rank ≤ j + 1 → t.right.rank ≤ j = λ e. grind arith in
            ((λ e. omega (arith, h.0 (le e))), (λ e. omega (arith, h.1 (le' e))), (λ e. old-left (le e) ∙ h.2 (le e) ∙ sym (old-right (h.0 (le e))))))
            (cases_eq t.left.rank (i + 1)))
            ts s.ties (together_each (i + 1) (j + 1) ts a);
      }

-- every way gives the ranks of each side rising places, and those of a tie one place
module _ (ts : List Tie) (K L : ℕ) (smallK : K < 11) (smallL : L < 11) where
  sound_from : (n a b i j p : ℕ) (k : Keys) → a + b ≤ n → i + a ≡ K → j + b ≡ L → (w : Way ts (range_with_len (i + 1) a) (range_with_len (j + 1) b)) → Sofar ts i j p k → (z : ℕ) × Sofar ts K L z (written w p k)
  sound_from n zero zero i j p k le ea eb done s = (p, let e : i ≡ K = omega arith in let f : j ≡ L = omega arith in rw (e, f) at s)
  sound_from zero (suc a) b i j p k le ea eb w s = absurd (omega arith)
  sound_from zero zero (suc b) i j p k le ea eb w s = absurd (omega arith)
  sound_from (suc n) (suc a) zero i j p k le ea eb (goes_left x w) s =
      sound_from n a zero (i + 1) j (p + 1) _ (omega arith) (omega arith) eb w (step_left ts i j p k s (omega arith) x)
  sound_from (suc n) zero (suc b) i j p k le ea eb (goes_right x w) s =
      sound_from n zero b i (j + 1) (p + 1) _ (omega arith) ea (omega arith) w (step_right ts i j p k s (omega arith) x)
  sound_from (suc n) (suc a) (suc b) i j p k le ea eb (goes_left x w) s =
      sound_from n a (suc b) (i + 1) j (p + 1) _ (omega arith) (omega arith) eb w (step_left ts i j p k s (omega arith) x)
  sound_from (suc n) (suc a) (suc b) i j p k le ea eb (goes_right x w) s =
      sound_from n (suc a) b i (j + 1) (p + 1) _ (omega arith) ea (omega arith) w (step_right ts i j p k s (omega arith) x)
  sound_from (suc n) (suc a) (suc b) i j p k le ea eb (goes_both x w) s =
      sound_from n a b (i + 1) (j + 1) (p + 1) _ (omega arith) (omega arith) (omega arith) w (step_both ts i j p k s (omega arith) (omega arith) x)

  pub sound : (k : Keys) (w : Way ts (range_with_len 1 K) (range_with_len 1 L)) → Sofar ts 0 0 0 k → (z : ℕ) × Sofar ts K L z (written w 0 k)
  sound k w s = sound_from (K + L) K L 0 0 0 k (omega arith) (omega arith) (omega arith) w s
