use Rattle.std.proofs.Common.{◌≡◌, ℕ, ◌+◌, Bool, List, [], ◌∷◌, ◌++◌, map, sym, refl, ap, ◌∙◌}
use Rattle.std.proofs.lemmas.List.{map-append}
use Rattle.ranking.specs.declared.Region.{Region}
use Rattle.ranking.specs.Joined.{join}
use Rattle.merging.specs.declared.Tie.{Tie}
use Rattle.merging.specs.declared.Keys.{Keys}
use Rattle.merging.specs.declared.Side.TheVariants.{Left, Right}
use Rattle.merging.specs.Ways.{alone, together, rank_on, on, when, mergings}
use Rattle.merging.specs.Pop.{join_all}

pub join_append : (xs ys zs : List Region) → join_all xs (ys ++ zs) ≡ join_all (join_all xs ys) zs
join_append xs [] zs = refl
join_append xs (y ∷ ys) zs = join_append (join xs y) ys zs

-- what a step lists, if the test allows it
module _ (f : Keys → Region) where
  abbrev pub Went : Bool → List Keys → List Region → List Region → Type 0
  Went b ks a z = z ≡ join_all a (map f (when b ks))

  module _ (ts : List Tie) (p : ℕ) (k : Keys) where
    three : (xs ys zs : List Keys) (a b c d : List Region) → b ≡ join_all a (map f xs) → c ≡ join_all b (map f ys) → d ≡ join_all c (map f zs) → d ≡ join_all a (map f (xs ++ (ys ++ zs)))
    three xs ys zs a b c d x y z =
        z ∙ ap (λ e. join_all e (map f zs)) y ∙ sym (join_append b (map f ys) (map f zs)) ∙ ap (λ e. join_all e (map f ys ++ map f zs)) x
        ∙ sym (join_append a (map f xs) (map f ys ++ map f zs)) ∙ ap (λ e. join_all a (map f xs ++ e)) (sym (map-append f ys zs)) ∙ ap (join_all a) (sym (map-append f xs (ys ++ zs)))

    pub all_three : (L R : List ℕ) (l r : ℕ) (ls rs : List ℕ) (a b c d : List Region) → L ≡ l ∷ ls → R ≡ r ∷ rs
        → Went (alone (rank_on Left) l ts) (mergings ts ls R (p + 1) (on Left l (p + 1) k)) a b
        → Went (alone (rank_on Right) r ts) (mergings ts L rs (p + 1) (on Right r (p + 1) k)) b c
        → Went (together l r ts) (mergings ts ls rs (p + 1) (on Right r (p + 1) (on Left l (p + 1) k))) c d
        → d ≡ join_all a (map f (mergings ts L R p k))
    all_three L R l r ls rs a b c d le re x y z =
        rw (le, re) (three (when (alone (rank_on Left) l ts) (mergings ts ls (r ∷ rs) (p + 1) (on Left l (p + 1) k)))
        (when (alone (rank_on Right) r ts) (mergings ts (l ∷ ls) rs (p + 1) (on Right r (p + 1) k)))
        (when (together l r ts) (mergings ts ls rs (p + 1) (on Right r (p + 1) (on Left l (p + 1) k)))) a b c d (rw re at x) (rw le at y) z)
