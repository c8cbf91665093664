use Rattle.std.specs.Prelude.{◌≡◌, ℕ, zero, suc, ◌+◌, ◌<◌, ◌≤◌, Bool, cond, ◌⊎◌, List, length, ◌==◌, slice_index_or}
use Rattle.std.specs.Ordering.{on, eq_of_both}
use Rattle.std.specs.List.{list_any}
use Rattle.std.specs.Cmp.{IsPartialEquivalence, and_per, on_per, partial_equiv_from_equiv, nat_eq_equiv}
use Rattle.std.specs.Cmp.Lexicographic.{pointwise, lists_per}
use Rattle.abstraction.specs.Lists.{In}
use Rattle.abstraction.specs.Room.{added}
use Rattle.ranking.specs.declared.Item.{Item}
use Rattle.ranking.specs.declared.Region.{Region}

-- whether two items have the same whole part and the same rank
abbrev pub item_eq : Item → Item → Bool
item_eq = eq_of_both (on (λ x. x.whole) ◌==◌) (on (λ x. x.rank) ◌==◌)

pub item_eq_laws : IsPartialEquivalence item_eq
item_eq_laws = and_per (on_per (λ x. x.whole) (partial_equiv_from_equiv nat_eq_equiv)) (on_per (λ x. x.rank) (partial_equiv_from_equiv nat_eq_equiv))

-- and two regions, item by item
abbrev pub same_region : Region → Region → Bool
same_region = on (λ r. r.items) (pointwise item_eq)

pub region_eq_laws : IsPartialEquivalence same_region
region_eq_laws = on_per (λ r. r.items) (lists_per item_eq_laws)

-- whether a region is listed
abbrev pub lists : List Region → Region → Bool
lists xs r = list_any (λ x. same_region x r) xs

-- one region more, unless it is listed
abbrev pub join : List Region → Region → List Region
join xs r = cond (lists xs r) xs (added xs r)

-- f 0 to f (n - 1) in turn
abbrev pub repeat : {X : Type 0} → ℕ → (ℕ → X → X) → X → X
repeat zero f x = x
repeat (suc n) f x = f n (repeat n f x)

-- no element stands at two places
abbrev pub Once : {X : Type 0} → List X → Type 0
Once {X} xs = (i j : ℕ) (d : X) → i < length xs → j < length xs → slice_index_or xs i d ≡ slice_index_or xs j d → i ≡ j

-- new has what old has and what P says, each once, n elements more at most
pub record Adds {X : Type 0} (n : ℕ) (P : X → Type 0) (old new : List X) : Type 0 where
  pub few : length new ≤ length old + n
  pub keeps : (x : X) → In old x → In new x
  pub each : (x : X) → P x → In new x
  pub only : (x : X) → In new x → In old x ⊎ P x
  pub once : Once old → Once new

-- what Q says of some number below n
abbrev pub Below : {X : Type 0} → (ℕ → X → Type 0) → ℕ → X → Type 0
Below Q n x = (k : ℕ) × (k < n) × Q k x
