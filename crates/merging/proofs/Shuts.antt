use Rattle.std.proofs.Common.{◌≡◌, ℕ, ◌<◌, List, length, get_or, sym, ◌∙◌, subst, arith}
use Rattle.std.proofs.lemmas.List.{ext_get_or}
use Rattle.ranking.specs.declared.Item.{Item}
use Rattle.ranking.specs.Items.{none, whole_at, rank_at}
use Rattle.ranking.specs.Ranks.{Gapless, Orders, Zeros, Ranks}
use Rattle.ranking.specs.Close.{shut}
use Rattle.ranking.proofs.Steps.{rekeyed, unique}
use Rattle.ranking.proofs.Close.{shut_ranks, shut_whole, length_shut, own_ranks}
use Rattle.ranking.proofs.Joined.{same_item}

pub same_items_by : (m : ℕ) (xs ys : List Item) → length xs ≡ m → length ys ≡ m → ((i : ℕ) → i < m → whole_at xs i ≡ whole_at ys i) → ((i : ℕ) → i < m → rank_at xs i ≡ rank_at ys i) → xs ≡ ys
same_items_by m xs ys lx ly w r = ext_get_or none xs ys (lx ∙ sym ly) (λ i lt. same_item (get_or xs i none) (get_or ys i none) (w i (omega arith)) (r i (omega arith)))

-- items with the same whole parts, zeros and order close up alike
pub same_shut : (m : ℕ) (xs ys : List Item) → length xs ≡ m → length ys ≡ m → ((i : ℕ) → i < m → whole_at xs i ≡ whole_at ys i) → Zeros m (rank_at xs) (rank_at ys) → Orders m (rank_at xs) (rank_at ys) → shut xs ≡ shut ys
same_shut m xs ys lx ly w z o =
    let a : Ranks m (rank_at (shut xs)) (rank_at xs) = subst (λ k. Ranks k (rank_at (shut xs)) (rank_at xs)) lx (shut_ranks xs) in
    let b : Ranks m (rank_at (shut ys)) (rank_at ys) = subst (λ k. Ranks k (rank_at (shut ys)) (rank_at ys)) ly (shut_ranks ys) in
    same_items_by m (shut xs) (shut ys) (length_shut xs ∙ lx) (length_shut ys ∙ ly)
    (λ i lt. shut_whole xs i (omega arith) ∙ w i lt ∙ sym (shut_whole ys i (omega arith)))
    (unique m _ _ (rank_at ys) (rekeyed m _ (rank_at xs) (rank_at ys) a z o) b)

-- ranks without a gap stay
pub shut_own : (m : ℕ) (xs : List Item) → length xs ≡ m → Gapless m (rank_at xs) → shut xs ≡ xs
shut_own m xs lx g =
    let a : Ranks m (rank_at (shut xs)) (rank_at xs) = subst (λ k. Ranks k (rank_at (shut xs)) (rank_at xs)) lx (shut_ranks xs) in
    same_items_by m (shut xs) xs (length_shut xs ∙ lx) lx (λ i lt. shut_whole xs i (omega arith)) (unique m _ _ (rank_at xs) a (own_ranks m (rank_at xs) g))

-- items that close up to xs
pub record Closes (m : ℕ) (xs ys : List Item) : Type 0 where
  pub long : length xs ≡ m
  pub wholes : (i : ℕ) → i < m → whole_at xs i ≡ whole_at ys i
  pub ranks : Ranks m (rank_at xs) (rank_at ys)

pub closes_from : (m : ℕ) (xs ys : List Item) → length ys ≡ m → shut ys ≡ xs → Closes m xs ys
closes_from m xs ys ly e = subst (λ l. Closes m l ys) e record {
  long = length_shut ys ∙ ly;
  wholes = λ i lt. shut_whole ys i (omega arith);
  ranks = subst (λ k. Ranks k (rank_at (shut ys)) (rank_at ys)) ly (shut_ranks ys);
}
