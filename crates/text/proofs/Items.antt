-- The turns of the loop over the rows of a list.
use Rattle.std.proofs.Common.{◌≡◌, ℕ, zero, suc, ◌<◌, true, false, List, [], ◌∷◌, ◌++◌, ◌∙◌, arith}
use Rattle.fault.specs.declared.Place.{Place}
use Rattle.fault.specs.declared.Layer.{Layer}
use Rattle.token.specs.Tokens.{Ahead, Out, gives, denies}
use Rattle.token.specs.Grammar.{comma_due, size, Falls}
use Rattle.token.specs.Falls.{comma_falls}
use Rattle.text.specs.Records.{items, list_due}

-- after some turns: what is left gives what the whole gives
pub record Going {A : Type 0} (f : Ahead → Out A) (had : List A) (start : Ahead) (got : List A) (a : Ahead) : Type 0 where
  pub fuel : ℕ
  pub more : size a < fuel
  pub same : items f fuel got a ≡ list_due f had start

module _ {A : Type 0} (f : Ahead → Out A) (falls : Falls f) (had : List A) (start : Ahead) (got : List A) (a : Ahead) where
  no_item : (k : ℕ) → size a < k → (n : ℕ) (l : Layer) (p : Place) (b : Ahead) → denies n l p b ≡ f a → denies n l p b ≡ items f k got a
  unfolding items
  no_item zero h n l p b e = absurd (omega arith)
  no_item (suc k) h n l p b e = rw (← e)

  cut_off : (k : ℕ) → size a < k → (x : A) (b : Ahead) → gives x b ≡ f a → (n : ℕ) (l : Layer) (p : Place) (d : Ahead) → denies n l p d ≡ comma_due 93 b → denies n l p d ≡ items f k got a
  unfolding items
  cut_off zero h x b p n l q d e = absurd (omega arith)
  cut_off (suc k) h x b p n l q d e = rw (← p, ← e)

  last_one : (k : ℕ) → size a < k → (x : A) (b : Ahead) → gives x b ≡ f a → (d : Ahead) → gives false d ≡ comma_due 93 b → gives (got ++ x ∷ []) d ≡ items f k got a
  unfolding items
  last_one zero h x b p d q = absurd (omega arith)
  last_one (suc k) h x b p d q = rw (← p, ← q)

  next_one : (k : ℕ) → size a < k → (x : A) (b : Ahead) → gives x b ≡ f a → (d : Ahead) → gives true d ≡ comma_due 93 b → items f k got a ≡ list_due f had start → Going f had start (got ++ x ∷ []) d
  unfolding items
  next_one zero h x b p d q s = absurd (omega arith)
  next_one (suc k) h x b p d q s = record {
    fuel = k;
    more = omega (arith, falls a b x p, comma_falls 93 b d true q);
    same = rw (← p, ← q) at s;
  }

  -- the row is refused
  pub refused : Going f had start got a → (n : ℕ) (l : Layer) (p : Place) (b : Ahead) → denies n l p b ≡ f a → denies n l p b ≡ list_due f had start
  refused g n l p b e = no_item g.fuel g.more n l p b e ∙ g.same

  -- what follows the row is refused
  pub cut : Going f had start got a → (x : A) (b : Ahead) → gives x b ≡ f a → (n : ℕ) (l : Layer) (p : Place) (d : Ahead) → denies n l p d ≡ comma_due 93 b → denies n l p d ≡ list_due f had start
  cut g x b p n l q d e = cut_off g.fuel g.more x b p n l q d e ∙ g.same

  -- the list ends
  pub closed : Going f had start got a → (x : A) (b : Ahead) → gives x b ≡ f a → (d : Ahead) → gives false d ≡ comma_due 93 b → gives (got ++ x ∷ []) d ≡ list_due f had start
  closed g x b p d q = last_one g.fuel g.more x b p d q ∙ g.same

  -- another row follows
  pub goes : Going f had start got a → (x : A) (b : Ahead) → gives x b ≡ f a → (d : Ahead) → gives true d ≡ comma_due 93 b → Going f had start (got ++ x ∷ []) d
  goes g x b p d q = next_one g.fuel g.more x b p d q g.same
