-- What is laid out is read as it is, and what is read was laid out.
use Rattle.std.proofs.Common.{◌≡◌, ℕ, zero, suc, ◌+◌, ◌-◌, ◌<◌, ◌≤◌, Bool, true, false, cond, ◌&&◌, ◌||◌, eqb, ltb, List, [], ◌∷◌, ◌++◌, length, drop, sym, refl, ap, ◌∙◌, subst, append_assoc, one-add, arith}
use Rattle.std.specs.List.{prefix_len, AllByRecursion}
use Rattle.std.proofs.lemmas.List.{drop_at, take_at, append-nil, length-append}
use Rattle.std.proofs.lemmas.Bool.{true≢false, eqb-true, eqb-false, ltb-true}
use Rattle.std.proofs.lemmas.Bool.Decides.{nat_tests}
use Rattle.token.specs.Bytes.{white, letter, mark, digit}
use Rattle.token.specs.Lex.{front, number_len, name_len}
use Rattle.token.specs.Numbers.{Number, Longest}
use Rattle.token.specs.Tokens.{number, Ahead, token, end, none, ahead, token_len, token_of}
use Rattle.token.specs.Layout.{Piece, word, numeric, punct, written, tok, Fair, Laid, layout, Lays, tokens_of, Clean, LaidOut, AsLaidOut, WasLaidOut}
use Rattle.token.proofs.Going.{go, arrives}
use Rattle.token.proofs.Numbers.{cut_rest, leading_cut, number_cut}
use Rattle.token.proofs.Longest.{leading_exact, longest_len, cut_longest, number_some}

name_word : (w more : List ℕ) → 0 < length w → AllByRecursion (λ b. letter b ≡ true) w → name_len (34 ∷ (w ++ 34 ∷ more)) ≡ 2 + length w
name_word w more some all =
    let run : prefix_len letter (w ++ 34 ∷ more) ≡ length w = leading_exact letter w (34 ∷ more) all refl in
    let long : ltb 0 (length w) ≡ true = grind (arith, nat_tests) in
    rw (run, long, one-add, drop_at w (34 ∷ more) (length w) refl)

-- the bytes of a piece before others: how long the token is, and which
record Stands (k : Piece) (more : List ℕ) : Type 0 where
  pub some : 0 < length (written k)
  pub dark : white (front (written k ++ more)) ≡ false
  pub long : token_len (written k ++ more) ≡ length (written k)
  pub same : (p : ℕ) → token_of (written k ++ more) p ≡ tok k p

at_piece : (bs : List ℕ) (p : ℕ) → 0 < token_len bs → go bs p ≡ token (token_of bs p) (ahead 0 (drop (token_len bs) bs) (p + token_len bs))
unfolding token_len
at_piece [] p some = absurd (omega arith)
at_piece (b ∷ bs) p some = let any : eqb (token_len (b ∷ bs)) 0 ≡ false = grind (arith, nat_tests) in rw any

-- laid-out pieces are read as they are
goes_on : (k : Piece) (more : List ℕ) → Stands k more → (gap : List ℕ) (p : ℕ) → AllByRecursion (λ b. white b ≡ true) gap → ahead 0 (gap ++ (written k ++ more)) p ≡ token (tok k (p + length gap)) (ahead 0 more (p + length gap + length (written k)))
goes_on k more s gap p all =
    let lead : prefix_len white (gap ++ (written k ++ more)) ≡ length gap = leading_exact white gap (written k ++ more) all s.dark in
    arrives (gap ++ (written k ++ more)) p ∙ rw (lead, drop_at gap (written k ++ more) (length gap) refl) (at_piece (written k ++ more) (p + length gap) (rw s.long s.some) ∙ rw (s.same, s.long, drop_at (written k) more (length (written k)) refl))

-- a number begins with a digit or a minus
number_front : (bs : List ℕ) → 0 < number_len bs → (digit (front bs) || eqb (front bs) 45) ≡ true
number_front [] h = grind (arith, nat_tests)
number_front (b ∷ bs) h = grind (arith, nat_tests)

other_front : (b : ℕ) → (digit b || eqb b 45) ≡ true → (white b ≡ false) × (mark b ≡ false) × (eqb b 34 ≡ false)
other_front b h = (grind (arith, nat_tests), grind (arith, nat_tests), grind (arith, nat_tests))

stands_numeric : (ds more : List ℕ) → Longest ds more → Stands (numeric ds) more
unfolding token_len token_of
stands_numeric ds more h =
    let some = number_some ds h.one in
    let long = longest_len ds more h in
    let other = other_front (front (ds ++ more)) (number_front (ds ++ more) (omega arith)) in
    record {
      some = some;
      dark = other.0;
      long = rw (other.1, other.2) long;
      same = λ p. rw (other.1, other.2, long, take_at ds more (length ds) refl);
    }

stands_word : (w more : List ℕ) → Fair (word w) more → Stands (word w) more
unfolding token_len token_of
stands_word w more h =
    let long : name_len (34 ∷ (w ++ 34 ∷ more)) ≡ 2 + length w = name_word w more h.0 h.1 in
    let regroup : (w ++ 34 ∷ []) ++ more ≡ w ++ 34 ∷ more = append_assoc w (34 ∷ []) more in
    let count : 2 + length w - 1 - 1 ≡ length w = omega arith in
    record {
      some = omega arith;
      dark = refl;
      long = rw (regroup, long) (simp length-append (omega arith));
      same = λ p. rw (regroup, long, count, take_at w (34 ∷ more) (length w) refl);
    }

stands_punct : (c : ℕ) (more : List ℕ) → Fair (punct c) more → Stands (punct c) more
unfolding token_len token_of
stands_punct c more h = record {
  some = omega arith;
  dark = grind (arith, nat_tests);
  long = rw h;
  same = λ p. rw h;
}

stands : (k : Piece) (more : List ℕ) → Fair k more → Stands k more
stands (word w) more h = stands_word w more h
stands (numeric ds) more h = stands_numeric ds more h
stands (punct c) more h = stands_punct c more h

reads_back : (ls : List Laid) (last : List ℕ) (p : ℕ) → Lays ls last → ahead 0 (layout ls last) p ≡ tokens_of ls last p
reads_back [] last p h =
    let lead : prefix_len white (last ++ []) ≡ length last = leading_exact white last [] h refl in
    let done : ahead 0 (last ++ []) p ≡ end (p + length last) = arrives (last ++ []) p ∙ rw (lead, drop_at last [] (length last) refl) in
    rw append-nil at done
reads_back (l ∷ ls) last p h = goes_on l.piece (layout ls last) (stands _ _ h.1) l.gap p h.0 ∙ ap (token (tok l.piece (p + length l.gap))) (reads_back ls last _ h.2)

-- where a token stands, the bytes begin with a piece
record Begins (bs : List ℕ) : Type 0 where
  pub piece : Piece
  pub more : List ℕ
  pub fair : Fair piece more
  pub parts : bs ≡ written piece ++ more

quoted : (bs : List ℕ) → front bs ≡ 34 → (more : List ℕ) × (bs ≡ 34 ∷ more)
quoted [] e = absurd (omega arith)
quoted (b ∷ bs) e = (bs, ap (λ x. x ∷ bs) e)

name_case : (b : ℕ) (bs : List ℕ) (t u v : Bool) → eqb b 34 ≡ t → ltb 0 (prefix_len letter bs) ≡ u → eqb (front (drop (1 + prefix_len letter bs) (b ∷ bs))) 34 ≡ v → 0 < cond (t && (u && v)) (2 + prefix_len letter bs) 0 → Begins (b ∷ bs)
name_case b bs true true true e f g h =
    let c = leading_cut letter bs in
    let rest : drop (1 + prefix_len letter bs) (b ∷ bs) ≡ c.more = rw one-add (cut_rest c) in
    let q = quoted c.more (ap front (sym rest) ∙ eqb-true _ 34 g) in
    let joined : bs ≡ (c.piece ++ 34 ∷ []) ++ q.0 = c.parts ∙ ap (λ l. c.piece ++ l) q.1 ∙ sym (append_assoc c.piece (34 ∷ []) q.0) in
    record { piece = word c.piece; more = q.0; fair = (omega (arith, c.long, ltb-true 0 _ f), c.kind); parts = λ i. eqb-true b 34 e i ∷ joined i }
name_case b bs true true false e f g h = absurd (omega arith)
name_case b bs true false v e f g h = absurd (omega arith)
name_case b bs false u v e f g h = absurd (omega arith)

begins_name : (bs : List ℕ) → 0 < name_len bs → Begins bs
begins_name [] h = absurd (omega arith)
begins_name (b ∷ bs) h = name_case b bs _ _ _ refl refl refl h

begins_case : (bs : List ℕ) (t u : Bool) → mark (front bs) ≡ t → 0 < cond t 1 (cond u (name_len bs) (number_len bs)) → Begins bs
begins_case [] true u e h = absurd (true≢false (sym e))
begins_case (b ∷ bs) true u e h = record { piece = punct b; more = bs; fair = e; parts = refl }
begins_case bs false true e h = begins_name bs h
begins_case bs false false e h = let c = number_cut bs h in record { piece = numeric c.piece; more = c.more; fair = cut_longest bs c; parts = c.parts }

begins : (bs : List ℕ) → 0 < token_len bs → Begins bs
unfolding token_len
begins bs h = begins_case bs (mark (front bs)) (eqb (front bs) 34) refl h

begins_long : (bs : List ℕ) (g : Begins bs) → token_len bs ≡ length (written g.piece)
begins_long bs g = ap token_len g.parts ∙ (stands g.piece g.more g.fair).long

begins_rest : (bs : List ℕ) (g : Begins bs) → drop (token_len bs) bs ≡ g.more
begins_rest bs g = ap (drop (token_len bs)) g.parts ∙ drop_at (written g.piece) g.more (token_len bs) (sym (begins_long bs g))

-- one piece more before a text that is laid out
lay : (gap rest bs : List ℕ) → AllByRecursion (λ b. white b ≡ true) gap → bs ≡ gap ++ rest → (g : Begins rest) → LaidOut g.more → LaidOut bs
lay gap rest bs all parts g l = record {
  pieces = record { gap = gap; piece = g.piece } ∷ l.pieces;
  last = l.last;
  lays = (all, subst (Fair g.piece) (sym l.whole) g.fair, l.lays);
  whole = ap (λ m. gap ++ (written g.piece ++ m)) l.whole ∙ ap (λ m. gap ++ m) (sym g.parts) ∙ sym parts;
}

module _ (bs : List ℕ) (shorter : (less : List ℕ) (q : ℕ) → length less < length bs → Clean (ahead 0 less q) → LaidOut less) where
  token_laid : (gap rest : List ℕ) (s : ℕ) (t : Bool) → eqb (token_len rest) 0 ≡ t → AllByRecursion (λ b. white b ≡ true) gap → bs ≡ gap ++ rest → Clean (cond t (none s) (token (token_of rest s) (ahead 0 (drop (token_len rest) rest) (s + token_len rest)))) → LaidOut bs
  token_laid gap rest s true e all parts clean = absurd clean
  token_laid gap rest s false e all parts clean =
      let some : 0 < token_len rest = let z = eqb-false _ 0 e in grind arith in
      let g = begins rest some in
      let count : length bs ≡ length gap + (length (written g.piece) + length g.more) = ap length parts ∙ length-append gap rest ∙ ap (λ m. length gap + m) (ap length g.parts ∙ length-append (written g.piece) g.more) in
      lay gap rest bs all parts g (shorter g.more _ (omega (arith, begins_long rest g)) (subst (λ m. Clean (ahead 0 m (s + token_len rest))) (begins_rest rest g) clean))

  rest_laid : (gap rest : List ℕ) (s : ℕ) → AllByRecursion (λ b. white b ≡ true) gap → bs ≡ gap ++ rest → Clean (go rest s) → LaidOut bs
  rest_laid gap [] s all parts clean = record { pieces = []; last = bs; lays = subst (λ l. AllByRecursion (λ b. white b ≡ true) l) (sym (parts ∙ append-nil gap)) all; whole = refl }
  rest_laid gap (b ∷ rest) s all parts clean = token_laid gap (b ∷ rest) s _ refl all parts clean

  all_laid : (p : ℕ) → Clean (ahead 0 bs p) → LaidOut bs
  all_laid p clean =
      let c = leading_cut white bs in
      rest_laid c.piece c.more (p + prefix_len white bs) c.kind c.parts (subst Clean (arrives bs p ∙ ap (λ m. go m (p + prefix_len white bs)) (cut_rest c)) clean)

laid_within : (n : ℕ) (bs : List ℕ) (p : ℕ) → length bs ≤ n → Clean (ahead 0 bs p) → LaidOut bs
laid_within zero bs p h clean = all_laid bs (λ less q short c. absurd (omega arith)) p clean
laid_within (suc n) bs p h clean = all_laid bs (λ less q short c. laid_within n less q (omega arith) c) p clean

was_laid : (bs : List ℕ) (p : ℕ) → Clean (ahead 0 bs p) → LaidOut bs
was_laid bs p clean = laid_within (length bs) bs p (omega arith) clean

-- of a whole text, whose tokens are a
pub as_laid_out : (text : List ℕ) (a : Ahead) → a ≡ ahead 0 text 0 → AsLaidOut text a
as_laid_out text a e = λ pieces last lays whole. e ∙ ap (λ t. ahead 0 t 0) (sym whole) ∙ reads_back pieces last 0 lays

pub was_laid_out : (text : List ℕ) (a : Ahead) → a ≡ ahead 0 text 0 → WasLaidOut text a
was_laid_out text a e = λ clean. was_laid text 0 (subst Clean e clean)

-- the bytes of a number token are a number
number_piece : (k : Piece) (more : List ℕ) (s q : ℕ) (ds : List ℕ) → Fair k more → tok k s ≡ number ds q → Number ds
number_piece (word w) more s q ds f e = absurd (cc)
number_piece (numeric cs) more s q ds f e = let same : cs ≡ ds = cc in rw same at f.one
number_piece (punct c) more s q ds f e = absurd (cc)

number_there : (rest : List ℕ) (s q : ℕ) (ds : List ℕ) (t : Bool) (a b : Ahead) → eqb (token_len rest) 0 ≡ t → cond t (none s) (token (token_of rest s) a) ≡ token (number ds q) b → Number ds
number_there rest s q ds true a b e h = absurd (cc)
number_there rest s q ds false a b e h =
    let some : 0 < token_len rest = let z = eqb-false _ 0 e in grind arith in
    let g = begins rest some in
    let which : token_of rest s ≡ number ds q = cc in
    let shown : token_of rest s ≡ tok g.piece s = ap (λ m. token_of m s) g.parts ∙ (stands g.piece g.more g.fair).same s in
    number_piece g.piece g.more s q ds g.fair (sym shown ∙ which)

number_at : (rest : List ℕ) (s q : ℕ) (ds : List ℕ) (b : Ahead) → go rest s ≡ token (number ds q) b → Number ds
number_at [] s q ds b h = absurd (cc)
number_at (c ∷ rest) s q ds b h = number_there (c ∷ rest) s q ds _ _ b refl h

pub number_token : (bs : List ℕ) (p q : ℕ) (ds : List ℕ) (b : Ahead) → ahead 0 bs p ≡ token (number ds q) b → Number ds
number_token bs p q ds b h = number_at _ _ q ds b (sym (arrives bs p) ∙ h)
