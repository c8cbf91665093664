use Rattle.std.specs.Prelude.{◌≡◌, ℕ, ◌<◌, ◌⊎◌, ◌≢◌}
use Rattle.fault.specs.Faults.{Outcome}
use Rattle.fault.specs.Faults.Outcome.{accepted, refused}
use Rattle.fault.specs.declared.Layer.{Layer}
use Rattle.fault.specs.declared.Layer.TheVariants.{Evidence}
use Rattle.fault.specs.declared.Place.{Place}
use Rattle.fault.specs.declared.Place.TheVariants.{Table}
use Rattle.abstraction.specs.Lists.{Sits, In}
use Rattle.abstraction.specs.Owes.{Meaning, Covers}
use Rattle.automaton.specs.Runs.{Reaches}
use Rattle.automaton.specs.declared.rule.Rule.{Rule}
use Rattle.judge.specs.Claims.{Claim}
use Rattle.judge.specs.Closed.{ClosedTime, ClosedRule, ClosedReturn, Closed, Fit, LawfulEntry, Begins, Lawful}
use Rattle.judge.specs.declared.entry.Entry.{Entry}

-- what an answer means

-- what is looked at in an entry: time, the rules by their places, and each entry above with the rules
pub data Spot : Type 0 where
  by_time : Spot
  by_rule : ℕ → Spot
  by_return : ℕ → ℕ → Spot

-- the order in which it is looked at
abbrev pub Earlier : Spot → Spot → Type 0
Earlier by_time by_time = ⊥
Earlier by_time (by_rule n) = Unit {0}
Earlier by_time (by_return j n) = Unit {0}
Earlier (by_rule m) by_time = ⊥
Earlier (by_rule m) (by_rule n) = m < n
Earlier (by_rule m) (by_return j n) = Unit {0}
Earlier (by_return i m) by_time = ⊥
Earlier (by_return i m) (by_rule n) = ⊥
Earlier (by_return i m) (by_return j n) = (i < j) ⊎ ((i ≡ j) × (m < n))

-- how a fault there is named, at the entry of the place k
abbrev pub named : ℕ → Spot → Place
named k by_time = Table k 64 2048
named k (by_rule n) = Table k n 2048
named k (by_return j n) = Table k n j

module _ {S : Type 0} (z : Claim S) where
  -- the entry is closed there
  abbrev pub ClosedAt : Entry S → Spot → Type 0
  ClosedAt e by_time = ClosedTime z e
  ClosedAt e (by_rule n) = (r : Rule) → Sits z.automaton.rules n r → ClosedRule z e r
  ClosedAt e (by_return j n) = (u : Entry S) → Sits z.table j u → (r : Rule) → Sits z.automaton.rules n r → ClosedReturn z e u r

  -- p names the first place at which the table is not closed
  pub record FirstOpen (p : Place) : Type 0 where
    pub place : ℕ
    pub entry : Entry S
    pub sits : Sits z.table place entry
    pub spot : Spot
    pub names : p ≡ named place spot
    pub open_there : ClosedAt entry spot → ⊥
    pub earlier_spots : (s : Spot) → Earlier s spot → ClosedAt entry s
    pub earlier_entries : (j : ℕ) (e : Entry S) → j < place → Sits z.table j e → (s : Spot) → ClosedAt e s

  -- p names the first entry that has the property P not
  pub record FirstWithout (P : Entry S → Type 0) (p : Place) : Type 0 where
    pub place : ℕ
    pub entry : Entry S
    pub sits : Sits z.table place entry
    pub names : p ≡ Table place 64 2048
    pub fails : P entry → ⊥
    pub earlier : (j : ℕ) (e : Entry S) → j < place → Sits z.table j e → P e

  -- why a claim is refused, by which number and at which place; each refusal comes after those above it
  pub data Refused (n : ℕ) (f : ℕ) (p : Place) : Type 0 where
    unfit : f ≡ 18 → p ≡ Table 2048 64 2048 → (Fit z n → ⊥) → Refused n f p
    unlawful : f ≡ 19 → Fit z n → FirstWithout (LawfulEntry z) p → Refused n f p
    elsewhere : f ≡ 20 → p ≡ Table 0 64 2048 → Fit z n → ((e : Entry S) → In z.table e → LawfulEntry z e) → (Begins z → ⊥) → Refused n f p
    in_target : f ≡ 21 → Fit z n → ((e : Entry S) → In z.table e → LawfulEntry z e) → Begins z → FirstWithout (λ e. e.state ≢ z.automaton.target) p → Refused n f p
    not_closed : f ≡ 22 → Lawful z n → FirstOpen p → Refused n f p

  -- a claim is accepted exactly if its table is lawful and closed, and refused at the first place at fault
  pub record Law (n : ℕ) (o : Outcome (Unit {0})) : Type 0 where
    pub accepts : o ≡ accepted tt → Lawful z n × Closed z
    pub only : Lawful z n → Closed z → o ≡ accepted tt
    pub refuses : (f : ℕ) (l : Layer) (p : Place) → o ≡ refused f l p → (l ≡ Evidence) × Refused n f p

  -- if the claim is accepted and the abstraction covers, then no run of the automaton at any scale, of
  -- any length and depth, comes to the target
  abbrev pub Sound : Meaning S → Outcome (Unit {0}) → Type 0
  Sound m o = o ≡ accepted tt → Covers z.answers m → Reaches z.automaton z.automaton.target → ⊥
