-- A text has no more tokens than bytes, and one that is read has at most 65,536.
use Rattle.std.proofs.Common.{◌≡◌, ℕ, zero, suc, ◌+◌, ◌-◌, ◌≤◌, Bool, true, false, cond, eqb, leb, List, [], ◌∷◌, length, refl, arith, leb-true}
use Rattle.fault.specs.declared.Layer.TheVariants.{Text}
use Rattle.fault.specs.declared.Place.TheVariants.{Byte}
use Rattle.fault.specs.Faults.Outcome.{accepted, refused}
use Rattle.token.specs.Bytes.{white}
use Rattle.token.specs.Tokens.{Ahead, none, token_len, ahead, tokens, admitted}
use Rattle.token.specs.Grammar.{size}

pub either : (t : Bool) (a b : Ahead) (m : ℕ) → size a ≤ m → size b ≤ m → size (cond t a b) ≤ m
either true a b m p q = p
either false a b m p q = q

ahead_size : (n : ℕ) (bs : List ℕ) (p : ℕ) → size (ahead n bs p) ≤ length bs
unfolding ahead
ahead_size zero [] p = omega arith
ahead_size (suc n) [] p = omega arith
ahead_size (suc n) (b ∷ bs) p = let h = ahead_size n bs (p + 1) in omega arith
ahead_size zero (b ∷ bs) p =
    let still = ahead_size zero bs (p + 1) in
    let past = ahead_size (token_len (b ∷ bs) - 1) bs (p + 1) in
    either (white b) _ _ (suc (length bs)) (omega arith) (either (eqb (token_len (b ∷ bs)) 0) (none p) _ (suc (length bs)) (omega arith) (omega arith))

pub tokens_size : (text : List ℕ) → size (tokens text) ≤ length text
tokens_size text = ahead_size 0 text 0

short_case : (text : List ℕ) (t : Bool) → leb (length text) 65536 ≡ t → (u : Unit {0}) → accepted u ≡ cond t (accepted tt) (refused 23 Text (Byte 65536)) → length text ≤ 65536
short_case text true h u e = leb-true _ _ h
short_case text false h u e = let z : ◌≡◌ {A = ℕ} 0 1 = cc in absurd (omega arith)

-- a text that is read has at most 65,536 tokens
pub few_tokens : (text : List ℕ) (u : Unit {0}) → accepted u ≡ admitted text → size (tokens text) ≤ 65536
few_tokens text u e = let h = short_case text (leb (length text) 65536) refl u e in omega (arith, tokens_size text)
