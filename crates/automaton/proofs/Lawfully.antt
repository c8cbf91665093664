use Rattle.std.proofs.Common.{◌≡◌, ℕ, zero, suc, ◌+◌, ◌<◌, ◌≤◌, Bool, true, ◌&&◌, ltb, List, [], ◌∷◌, map, length, get_or, Some, None, Option, IfSome, Bor, sym, refl, ◌∙◌, arith}
use Rattle.std.specs.List.{remove}
use Rattle.std.proofs.lemmas.Bool.{and_parts, and_from, ltb-true}
use Rattle.std.proofs.lemmas.List.{get_or_default}
use Rattle.std.proofs.lemmas.Bool.Decides.{nat_tests}
use Rattle.std.specs.Option.{option_copied}
use Rattle.std.specs.Slice.{IsItemAt}
use Rattle.std.specs.List.{list_all}
use Rattle.abstraction.proofs.Found.{all_true}
use Rattle.automaton.specs.Lawful.{names, lawful, all_lawful, Clocked, AllClocked}
use Rattle.automaton.specs.Insert.{bumped, lifted, raised}
use Rattle.automaton.specs.declared.rule.Rule.{Rule}
use Rattle.automaton.specs.declared.rule.Sizes.{Sizes}
use Rattle.automaton.specs.declared.rule.Action.{Action}
use Rattle.automaton.specs.declared.rule.Action.TheVariants.{Move, Test, Assign, Push, Pop}

-- what holds of each element still holds after one less

pub all_removed : {X : Type 0} (p : X → Bool) (xs : List X) (i : ℕ) → list_all p xs ≡ true → list_all p (remove xs i) ≡ true
all_removed p [] zero h = refl
all_removed p [] (suc i) h = refl
all_removed p (x ∷ xs) zero h = (and_parts (p x) (list_all p xs) h).1
all_removed p (x ∷ xs) (suc i) h = let q = and_parts (p x) (list_all p xs) h in and_from (p x) _ q.0 (all_removed p xs i q.1)

-- a lawful rule names a clock that is there

names_clock : (z : Sizes) (a : Action) → names z a ≡ true → Clocked z.clocks a
names_clock z Move h = tt
names_clock z (Test k) h = ltb-true k _ h
names_clock z (Assign k) h = ltb-true k _ h
names_clock z (Push l) h = tt
names_clock z (Pop l) h = tt

pub lawful_clock : (z : Sizes) (r : Rule) → lawful z r ≡ true → Clocked z.clocks r.action
lawful_clock z r h = names_clock z r.action (and_parts (names z r.action) _ (and_parts (ltb r.from z.states && ltb r.to z.states) _ h).1).0

wider : (n k : ℕ) (a : Action) → n ≤ k → Clocked n a → Clocked k a
wider n k Move h f = tt
wider n k (Test j) h f = omega arith
wider n k (Assign j) h f = omega arith
wider n k (Push l) h f = tt
wider n k (Pop l) h f = tt

-- the rule at a place is lawful
pub lawful_at : (z : Sizes) (rs : List Rule) (k : ℕ) (r : Rule) → k < length rs → r ≡ get_or rs k r → all_lawful z rs ≡ true → lawful z r ≡ true
lawful_at z rs k r l i e = all_true (lawful z) rs k r (l, λ d. get_or_default rs k d r l ∙ sym i) e

-- and so is one that is lent
pub lawful_lent : (z : Sizes) (rs : List Rule) (k : ℕ) (r : Option (Bor Rule)) → IsItemAt rs k r → all_lawful z rs ≡ true → IfSome (option_copied r) (λ x. lawful z x ≡ true)
lawful_lent z rs k None h e = tt
lawful_lent z rs k (Some r) h e = lawful_at z rs k r.now h.3.0 h.1 e

pub all_clocked : (z : Sizes) (n : ℕ) (rs : List Rule) → z.clocks ≤ n → all_lawful z rs ≡ true → AllClocked n rs
all_clocked z n rs h e k r l i = wider z.clocks n r.action h (lawful_clock z r (lawful_at z rs k r l i e))

-- and still does once a clock is inserted

bumped_fits : (p k n : ℕ) → ltb k n ≡ true → ltb (bumped p k) (n + 1) ≡ true
bumped_fits p k n h = grind (arith, nat_tests)

abbrev pub more_clocks : Sizes → Sizes
more_clocks z = record { states = z.states; labels = z.labels; clocks = z.clocks + 1 }

lifted_named : (p : ℕ) (z : Sizes) (a : Action) → names z a ≡ true → names (more_clocks z) (lifted p a) ≡ true
lifted_named p z Move h = refl
lifted_named p z (Test k) h = bumped_fits p k z.clocks h
lifted_named p z (Assign k) h = bumped_fits p k z.clocks h
lifted_named p z (Push l) h = h
lifted_named p z (Pop l) h = h

pub lawful_raised : (p : ℕ) (z : Sizes) (rs : List Rule) → all_lawful z rs ≡ true → all_lawful (more_clocks z) (map (raised p) rs) ≡ true
lawful_raised p z [] h = refl
lawful_raised p z (r ∷ rs) h =
    let a = and_parts (lawful z r) _ h in
    let b = and_parts (ltb r.from z.states && ltb r.to z.states) _ a.0 in
    let c = and_parts (names z r.action) _ b.1 in
    and_from _ _ (and_from _ _ b.0 (and_from _ _ (lifted_named p z r.action c.0) c.1)) (lawful_raised p z rs a.1)
