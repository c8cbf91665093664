use Rattle.std.specs.Prelude.{ℕ, ◌+◌, Bool, true, false, cond, not, List, [], ◌∷◌, ◌++◌, ◌==◌, slice_set}
use Rattle.std.specs.List.{list_all}
use Rattle.merging.specs.declared.Side.{Side}
use Rattle.merging.specs.declared.Side.TheVariants.{Left, Right}
use Rattle.merging.specs.declared.Tie.{Tie}
use Rattle.merging.specs.declared.Keys.{Keys}

abbrev pub rank_on : Side → Tie → ℕ
rank_on Left t = t.left.rank
rank_on Right t = t.right.rank

-- no tie has this rank
abbrev pub alone : (Tie → ℕ) → ℕ → List Tie → Bool
alone f r ts = list_all (λ t. not (f t == r)) ts

abbrev pub same_test : Bool → Bool → Bool
same_test true b = b
same_test false b = not b

-- the ties of the one rank are those of the other
abbrev pub together : ℕ → ℕ → List Tie → Bool
together l r ts = list_all (λ t. same_test (t.left.rank == l) (t.right.rank == r)) ts

abbrev pub keys_on : Side → Keys → List ℕ
keys_on Left k = k.left
keys_on Right k = k.right

-- a rank of a side gets the place p
abbrev pub on : Side → ℕ → ℕ → Keys → Keys
on Left r p k = record { left = slice_set k.left r p; right = k.right }
on Right r p k = record { left = k.left; right = slice_set k.right r p }

abbrev pub when : {X : Type 0} → Bool → List X → List X
when b xs = cond b xs []

-- what is left are ranks of the right side
abbrev pub rights : List Tie → List ℕ → ℕ → Keys → List Keys
rights ts [] p k = k ∷ []
rights ts (r ∷ rs) p k = when (alone (rank_on Right) r ts) (rights ts rs (p + 1) (on Right r (p + 1) k))

-- the left side's next rank is l, and go merges what is left once it has its place
abbrev pub steps : List Tie → ℕ → (List ℕ → ℕ → Keys → List Keys) → List ℕ → ℕ → Keys → List Keys
steps ts l go [] p k = when (alone (rank_on Left) l ts) (go [] (p + 1) (on Left l (p + 1) k))
steps ts l go (r ∷ rs) p k =
    when (alone (rank_on Left) l ts) (go (r ∷ rs) (p + 1) (on Left l (p + 1) k))
    ++ (when (alone (rank_on Right) r ts) (steps ts l go rs (p + 1) (on Right r (p + 1) k))
    ++ when (together l r ts) (go rs (p + 1) (on Right r (p + 1) (on Left l (p + 1) k))))

-- every merging of the two orders of ranks that are left: one of them goes on, or both do
abbrev pub mergings : List Tie → List ℕ → List ℕ → ℕ → Keys → List Keys
mergings ts [] rs p k = rights ts rs p k
mergings ts (l ∷ ls) rs p k = steps ts l (mergings ts ls) rs p k
