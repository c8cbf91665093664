-- How a text may be laid out: tokens with any white bytes before each, and at the end.
use Rattle.std.specs.Prelude.{◌≡◌, ℕ, ◌+◌, ◌<◌, true, List, [], ◌∷◌, ◌++◌, length}
use Rattle.std.specs.List.{AllByRecursion}
use Rattle.token.specs.Bytes.{white, letter, mark}
use Rattle.token.specs.Numbers.{Longest}
use Rattle.token.specs.Tokens.{Tok, name, number, sign, Ahead, token, end, none}

-- a token by what it says: letters, the bytes of a number, or a mark
pub data Piece : Type 0 where
  word : List ℕ → Piece
  numeric : List ℕ → Piece
  punct : ℕ → Piece

abbrev pub written : Piece → List ℕ
written (word w) = 34 ∷ (w ++ 34 ∷ [])
written (numeric ds) = ds
written (punct c) = c ∷ []

-- the token at place p
abbrev pub tok : Piece → ℕ → Tok
tok (word w) p = name w p
tok (numeric ds) p = number ds p
tok (punct c) p = sign (c ∷ []) p

-- the piece may be written before these bytes. A number wants after it nothing that makes it longer
abbrev pub Fair : Piece → List ℕ → Type 0
Fair (word w) more = (0 < length w) × AllByRecursion (λ b. letter b ≡ true) w
Fair (numeric ds) more = Longest ds more
Fair (punct c) more = mark c ≡ true

pub record Laid : Type 0 where
  pub gap : List ℕ
  pub piece : Piece

-- the text: each piece after its gap, and then the last gap
abbrev pub layout : List Laid → List ℕ → List ℕ
layout [] last = last
layout (l ∷ ls) last = l.gap ++ (written l.piece ++ layout ls last)

-- the gaps are white, and the pieces may stand where they are
abbrev pub Lays : List Laid → List ℕ → Type 0
Lays [] last = AllByRecursion (λ b. white b ≡ true) last
Lays (l ∷ ls) last = AllByRecursion (λ b. white b ≡ true) l.gap × Fair l.piece (layout ls last) × Lays ls last

-- the tokens of that text, which begins at place p
abbrev pub tokens_of : List Laid → List ℕ → ℕ → Ahead
tokens_of [] last p = end (p + length last)
tokens_of (l ∷ ls) last p = token (tok l.piece (p + length l.gap)) (tokens_of ls last (p + length l.gap + length (written l.piece)))

-- tokens up to the end of the text
abbrev pub Clean : Ahead → Type 0
Clean (token t a) = Clean a
Clean (end p) = Unit
Clean (none p) = ⊥

-- text is laid out as these pieces
pub record LaidOut (text : List ℕ) : Type 0 where
  pub pieces : List Laid
  pub last : List ℕ
  pub lays : Lays pieces last
  pub whole : layout pieces last ≡ text

-- a text with a ahead of it is read as it is laid out, whichever way that is
abbrev pub AsLaidOut : List ℕ → Ahead → Type 0
AsLaidOut text a = (pieces : List Laid) (last : List ℕ) → Lays pieces last → layout pieces last ≡ text → a ≡ tokens_of pieces last 0

-- a text with a ahead of it, and no place without a token, is laid out in some way
abbrev pub WasLaidOut : List ℕ → Ahead → Type 0
WasLaidOut text a = Clean a → LaidOut text
