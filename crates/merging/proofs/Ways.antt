use Rattle.std.proofs.Common.{◌≡◌, ℕ, ◌+◌, Bool, true, false, List, [], ◌∷◌, refl}
use Rattle.std.specs.List.{ContainsAt as Has, AllByRecursion}
use Rattle.std.proofs.ByRecursion.{All-append, All-weaker, has_append_left, has_append_right, has_push}
use Rattle.merging.specs.declared.Tie.{Tie}
use Rattle.merging.specs.declared.Keys.{Keys}
use Rattle.merging.specs.declared.Side.TheVariants.{Left, Right}
use Rattle.merging.specs.Ways.{alone, together, rank_on, on, when, rights, steps, mergings}

-- a merging as a way through the two orders: which of them goes on, or both
pub data Way (ts : List Tie) : List ℕ → List ℕ → Type 0 where
  done : Way ts [] []
  goes_left : {l : ℕ} {ls rs : List ℕ} → alone (rank_on Left) l ts ≡ true → Way ts ls rs → Way ts (l ∷ ls) rs
  goes_right : {r : ℕ} {ls rs : List ℕ} → alone (rank_on Right) r ts ≡ true → Way ts ls rs → Way ts ls (r ∷ rs)
  goes_both : {l r : ℕ} {ls rs : List ℕ} → together l r ts ≡ true → Way ts ls rs → Way ts (l ∷ ls) (r ∷ rs)

-- the places that it gives
abbrev pub written : {ts : List Tie} {ls rs : List ℕ} → Way ts ls rs → ℕ → Keys → Keys
written done p k = k
written (goes_left {l} a w) p k = written w (p + 1) (on Left l (p + 1) k)
written (goes_right {r} a w) p k = written w (p + 1) (on Right r (p + 1) k)
written (goes_both {l} {r} a w) p k = written w (p + 1) (on Right r (p + 1) (on Left l (p + 1) k))

abbrev pub Made : List Tie → List ℕ → List ℕ → ℕ → Keys → Keys → Type 0
Made ts ls rs p k x = (w : Way ts ls rs) × (x ≡ written w p k)

pub all_when : {X : Type 0} (P : X → Type 0) (b : Bool) (xs : List X) → (b ≡ true → AllByRecursion P xs) → AllByRecursion P (when b xs)
all_when P true xs h = h refl
all_when P false xs h = tt

pub has_when : {X : Type 0} (b : Bool) (xs : List X) (x : X) → b ≡ true → Has xs x → Has (when b xs) x
has_when b xs x e h = rw e h

-- each merging that is listed is a way
all_rights : (ts : List Tie) (rs : List ℕ) (p : ℕ) (k : Keys) → AllByRecursion (Made ts [] rs p k) (rights ts rs p k)
all_rights ts [] p k = ((done, refl), tt)
all_rights ts (r ∷ rs) p k = all_when _ (alone (rank_on Right) r ts) _ (λ a. All-weaker _ _ (λ x h. (goes_right a h.0, h.1)) _ (all_rights ts rs (p + 1) (on Right r (p + 1) k)))

all_steps : (ts : List Tie) (l : ℕ) (ls : List ℕ) (go : List ℕ → ℕ → Keys → List Keys) → ((rs : List ℕ) (p : ℕ) (k : Keys) → AllByRecursion (Made ts ls rs p k) (go rs p k))
    → (rs : List ℕ) (p : ℕ) (k : Keys) → AllByRecursion (Made ts (l ∷ ls) rs p k) (steps ts l go rs p k)
all_steps ts l ls go h [] p k = all_when _ (alone (rank_on Left) l ts) _ (λ a. All-weaker _ _ (λ x m. (goes_left a m.0, m.1)) _ (h [] (p + 1) (on Left l (p + 1) k)))
all_steps ts l ls go h (r ∷ rs) p k =
    All-append _ _ _
    (all_when _ (alone (rank_on Left) l ts) _ (λ a. All-weaker _ _ (λ x m. (goes_left a m.0, m.1)) _ (h (r ∷ rs) (p + 1) (on Left l (p + 1) k))))
    (All-append _ _ _
    (all_when _ (alone (rank_on Right) r ts) _ (λ a. All-weaker _ _ (λ x m. (goes_right a m.0, m.1)) _ (all_steps ts l ls go h rs (p + 1) (on Right r (p + 1) k))))
    (all_when _ (together l r ts) _ (λ a. All-weaker _ _ (λ x m. (goes_both a m.0, m.1)) _ (h rs (p + 1) (on Right r (p + 1) (on Left l (p + 1) k))))))

pub all_ways : (ts : List Tie) (ls rs : List ℕ) (p : ℕ) (k : Keys) → AllByRecursion (Made ts ls rs p k) (mergings ts ls rs p k)
all_ways ts [] rs p k = all_rights ts rs p k
all_ways ts (l ∷ ls) rs p k = all_steps ts l ls (mergings ts ls) (all_ways ts ls) rs p k

-- each way is listed
left_listed : (ts : List Tie) (l : ℕ) (ls rs : List ℕ) (p : ℕ) (k x : Keys) → alone (rank_on Left) l ts ≡ true → Has (mergings ts ls rs (p + 1) (on Left l (p + 1) k)) x → Has (mergings ts (l ∷ ls) rs p k) x
left_listed ts l ls [] p k x a h = has_when (alone (rank_on Left) l ts) _ x a h
left_listed ts l ls (r ∷ rs) p k x a h = has_append_left _ _ x (has_when (alone (rank_on Left) l ts) _ x a h)

right_listed : (ts : List Tie) (r : ℕ) (ls rs : List ℕ) (p : ℕ) (k x : Keys) → alone (rank_on Right) r ts ≡ true → Has (mergings ts ls rs (p + 1) (on Right r (p + 1) k)) x → Has (mergings ts ls (r ∷ rs) p k) x
right_listed ts r [] rs p k x a h = has_when (alone (rank_on Right) r ts) _ x a h
right_listed ts r (l ∷ ls) rs p k x a h = has_append_right (when (alone (rank_on Left) l ts) _) _ x (has_append_left _ _ x (has_when (alone (rank_on Right) r ts) _ x a h))

pub way_listed : {ts : List Tie} {ls rs : List ℕ} (w : Way ts ls rs) (p : ℕ) (k : Keys) → Has (mergings ts ls rs p k) (written w p k)
way_listed done p k = has_push [] k
way_listed {ts} (goes_left {l} {ls} {rs} a w) p k = left_listed ts l ls rs p k _ a (way_listed w (p + 1) _)
way_listed {ts} (goes_right {r} {ls} {rs} a w) p k = right_listed ts r ls rs p k _ a (way_listed w (p + 1) _)
way_listed {ts} (goes_both {l} {r} {ls} {rs} a w) p k =
    has_append_right (when (alone (rank_on Left) l ts) (mergings ts ls (r ∷ rs) (p + 1) (on Left l (p + 1) k))) _ _
    (has_append_right (when (alone (rank_on Right) r ts) (steps ts l (mergings ts ls) rs (p + 1) (on Right r (p + 1) k))) _ _ (has_when (together l r ts) _ _ a (way_listed w (p + 1) _)))
