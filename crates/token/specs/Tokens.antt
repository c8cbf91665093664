-- The tokens of a text, and what a reader has ahead of it.
use Rattle.std.specs.Prelude.{◌≡◌, ℕ, zero, suc, ◌+◌, ◌-◌, cond, List, [], ◌∷◌, length, take, drop, Ok, Err, Result, ◌==◌, nat_le}
use Rattle.std.specs.List.{between}
use Rattle.fault.specs.declared.Fault.{Fault}
use Rattle.fault.specs.declared.Place.{Place}
use Rattle.fault.specs.declared.Place.TheVariants.{Byte}
use Rattle.fault.specs.declared.Layer.{Layer}
use Rattle.fault.specs.declared.Layer.TheVariants.{Text, Record}
use Rattle.fault.specs.Faults.{Outcome, accepted, refused, number as number_of, layer}
use Rattle.token.specs.Bytes.{white, mark}
use Rattle.token.specs.Lex.{front, number_len, name_len}
use Rattle.token.specs.declared.reader.Token.{Token}
use Rattle.token.specs.declared.reader.Token.TheVariants.{Name, Number, Mark}
use Rattle.token.specs.declared.reader.Reader.{Reader}

-- a token: its kind, its bytes and the place of its first byte in the text
pub data Tok : Type 0 where
  name : List ℕ → ℕ → Tok
  number : List ℕ → ℕ → Tok
  sign : List ℕ → ℕ → Tok

abbrev pub view : Token → Tok
view (Name s p) = name s.now p
view (Number s p) = number s.now p
view (Mark s p) = sign s.now p

-- a mark is one byte
abbrev pub OneByte : Token → Type 0
OneByte (Name s p) = Unit
OneByte (Number s p) = Unit
OneByte (Mark s p) = length s.now ≡ 1

abbrev pub place_of : Tok → ℕ
place_of (name bs p) = p
place_of (number bs p) = p
place_of (sign bs p) = p

-- how long the token at the front is, 0 where there is none
unfoldable pub token_len : List ℕ → ℕ
token_len bs = cond (mark (front bs)) 1 (cond (front bs == 34) (name_len bs) (number_len bs))

-- the token at the front of bs, which stand at p
unfoldable pub token_of : List ℕ → ℕ → Tok
token_of bs p = cond (mark (front bs)) (sign (take 1 bs) p) (cond (front bs == 34) (name (between 1 (name_len bs - 1) bs) p) (number (take (number_len bs) bs) p))

-- what is ahead: tokens, and then the end of the text or a place with no token
pub data Ahead : Type 0 where
  token : Tok → Ahead → Ahead
  end : ℕ → Ahead
  none : ℕ → Ahead

-- from bs, which stand at p, after the next n bytes
unfoldable pub ahead : ℕ → List ℕ → ℕ → Ahead
ahead n [] p = end (p + n)
ahead (suc n) (b ∷ bs) p = ahead n bs (p + 1)
ahead zero (b ∷ bs) p = cond (white b) (ahead zero bs (p + 1)) (cond (token_len (b ∷ bs) == 0) (none p) (token (token_of (b ∷ bs) p) (ahead (token_len (b ∷ bs) - 1) bs (p + 1))))

-- all that a text holds
abbrev pub tokens : List ℕ → Ahead
tokens text = ahead 0 text 0

-- the text that a reader goes through
abbrev pub text_of : Reader → List ℕ
text_of r = r.text.now

-- what a reader has ahead of it
abbrev pub at : Reader → Ahead
at r = ahead 0 (drop r.place r.text.now) r.place

-- what a call answers, or the number, layer and place of its refusal, and what is ahead after it
pub data Out (A : Type 0) : Type 0 where
  gives : A → Ahead → Out A
  denies : ℕ → Layer → Place → Ahead → Out A

abbrev pub out : {T A : Type 0} → (T → A) → Result T Fault → Ahead → Out A
out f (Ok v) a = gives (f v) a
out f (Err e) a = denies (number_of e.refusal) (layer e.refusal) e.place a

-- the answer alone
abbrev pub answer : {A : Type 0} → Out A → Outcome A
answer (gives v a) = accepted v
answer (denies n l p a) = refused n l p

-- no token begins at byte p
abbrev pub no_token : {A : Type 0} → ℕ → Ahead → Out A
no_token p a = denies 23 Text (Byte p) a

-- at byte p another token is due, or another thing than the end
abbrev pub other_due : {A : Type 0} → ℕ → Ahead → Out A
other_due p a = denies 24 Record (Byte p) a

-- the number at byte p has a sign, a fraction or an exponent, or is above 10^15
abbrev pub unfit : {A : Type 0} → ℕ → Ahead → Out A
unfit p a = denies 25 Record (Byte p) a

-- the next token
abbrev pub step : Ahead → Out Tok
step (token t a) = gives t a
step (end p) = other_due p (end p)
step (none p) = no_token p (none p)

-- a text is read if it has at most 65,536 bytes
abbrev pub admitted : List ℕ → Outcome (Unit {0})
admitted text = cond (nat_le (length text) 65536) (accepted tt) (refused 23 Text (Byte 65536))
