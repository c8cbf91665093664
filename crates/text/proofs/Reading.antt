-- Every document reads back as itself, however it is laid out.
use Rattle.std.proofs.Common.{◌≡◌, ℕ, zero, suc, ◌+◌, ◌<◌, true, false, leb, List, [], ◌∷◌, ◌++◌, map, length, codes, sym, refl, ap, ◌∙◌, subst, append_assoc, arith, le-leb}
use Rattle.std.specs.List.{AllByRecursion}
use Rattle.std.specs.Str.{bytes_eq}
use Rattle.std.proofs.lemmas.List.{append-nil}
use Rattle.automaton.specs.declared.model.Opening.{Opening}
use Rattle.automaton.specs.declared.rule.RuleNumbers.{RuleNumbers}
use Rattle.case.specs.Views.{View}
use Rattle.case.specs.Calls.{new_case}
use Rattle.token.specs.Tokens.{Ahead, end, Out, gives, tokens}
use Rattle.token.specs.Grammar.{then, mark_due, number_due, comma_due, member_due, mark_next, size, Falls}
use Rattle.token.specs.Falls.{comma_falls}
use Rattle.token.specs.Layout.{Piece, word, punct, Laid, written, tokens_of}
use Rattle.token.proofs.Layouts.{as_laid_out}
use Rattle.text.specs.declared.asks.Ask.{Ask}
use Rattle.text.specs.declared.asks.Ask.TheVariants.{Open, Add, Begin, Delay, Fire}
use Rattle.text.specs.Records.{field_due, next_field_due, next_number_due, opening_due, rule_due, added_due, step_due, items, rows_due, object_due, model_due, scale_due, run_due}
use Rattle.text.specs.RowFalls.{added_falls, step_falls}
use Rattle.text.specs.Calls.{Said, said_from, case_from}
use Rattle.text.specs.Documents.{later, first_said, document, settled_text}
use Rattle.text.specs.Written.{Step, waits, fires, Run, Document, step_ask, model_asks, run_asks, runs_said, document_said, amount, next_amount, member_pieces, field_pieces, next_field_pieces, rule_pieces, step_pieces, items_pieces, list_pieces, opening_pieces, rows_pieces, model_pieces, run_pieces, runs_pieces, document_pieces, Small, SmallRule, SmallOpening, SmallStep, SmallRun, AsWritten}
use Rattle.text.proofs.Shrinks.{run_falls}
use Rattle.text.proofs.Back.{Shows, shows_append, Reads, reads_then, reads_gives, reads_mark, reads_name, reads_number, reads_more, reads_close}

reads_member : (w : List ℕ) → bytes_eq w w ≡ true → Reads (member_due w) (member_pieces w) tt
reads_member w e = reads_then _ _ (word w ∷ []) (punct 58 ∷ []) _ _ (reads_name w e) (reads_mark 58)

reads_field : (w : List ℕ) → bytes_eq w w ≡ true → (n : ℕ) → Small n → Reads (field_due w) (field_pieces w n) n
reads_field w e n h = reads_then (member_due w) _ (member_pieces w) (amount n ∷ []) _ _ (reads_member w e) (reads_number n h)

reads_next_field : (w : List ℕ) → bytes_eq w w ≡ true → (n : ℕ) → Small n → Reads (next_field_due w) (next_field_pieces w n) n
reads_next_field w e n h = reads_then (mark_due 44) _ (punct 44 ∷ []) (field_pieces w n) _ _ (reads_mark 44) (reads_field w e n h)

reads_next : (n : ℕ) → Small n → Reads next_number_due (next_amount n) n
reads_next n h = reads_then (mark_due 44) _ (punct 44 ∷ []) (amount n ∷ []) _ _ (reads_mark 44) (reads_number n h)

-- one number more
on : {B : Type 0} (k : ℕ → Ahead → Out B) (n : ℕ) → Small n → (js : List Piece) (w : B) → Reads (k n) js w → Reads (λ a. then (next_number_due a) k) (next_amount n ++ js) w
on k n h js w r = reads_then next_number_due k (next_amount n) js n w (reads_next n h) r

reads_rule : (n : RuleNumbers) → SmallRule n → Reads rule_due (rule_pieces n) n
reads_rule n h =
    reads_then (mark_due 91) _ (punct 91 ∷ []) _ _ _ (reads_mark 91) (reads_then number_due _ (amount n.from ∷ []) _ _ _ (reads_number n.from h.0)
    (on _ n.to h.1 _ _ (on _ n.kind h.2 _ _ (on _ n.argument h.3 _ _ (on _ n.lower h.4 _ _ (on _ n.lower_flag h.5 _ _ (on _ n.upper h.6 _ _ (on _ n.upper_flag h.7 _ _
    (reads_then (mark_due 93) _ (punct 93 ∷ []) [] _ _ (reads_mark 93) (reads_gives n))))))))))

reads_step : (s : Step) → SmallStep s → Reads step_due (step_pieces s) (step_ask s)
reads_step (waits d) h = reads_then (mark_due 91) _ (punct 91 ∷ []) _ _ _ (reads_mark 91) (reads_then number_due _ (amount d ∷ []) _ _ _ (reads_number d h) (reads_then (comma_due 93) _ (punct 93 ∷ []) [] false _ reads_close (reads_gives (Delay d))))
reads_step (fires k v) h =
    reads_then (mark_due 91) _ (punct 91 ∷ []) _ _ _ (reads_mark 91) (reads_then number_due _ (amount k ∷ []) _ _ _ (reads_number k h.0) (reads_then (comma_due 93) _ (punct 44 ∷ []) _ true _ reads_more
    (reads_then number_due _ (amount v ∷ []) _ _ _ (reads_number v h.1) (reads_then (mark_due 93) _ (punct 93 ∷ []) [] _ _ (reads_mark 93) (reads_gives (Fire k v))))))

reads_opening : (o : Opening) → SmallOpening o → Reads opening_due (opening_pieces o) o
reads_opening o h =
    reads_then (mark_due 123) _ (punct 123 ∷ []) _ _ _ (reads_mark 123) (reads_then (field_due (codes "states")) _ (field_pieces (codes "states") o.states) _ _ _ (reads_field (codes "states") refl o.states h.0)
    (reads_then (next_field_due (codes "start")) _ (next_field_pieces (codes "start") o.start) _ _ _ (reads_next_field (codes "start") refl o.start h.1)
    (reads_then (next_field_due (codes "target")) _ (next_field_pieces (codes "target") o.target) _ _ _ (reads_next_field (codes "target") refl o.target h.2)
    (reads_then (next_field_due (codes "labels")) _ (next_field_pieces (codes "labels") o.labels) _ _ _ (reads_next_field (codes "labels") refl o.labels h.3)
    (reads_then (next_field_due (codes "clocks")) _ (next_field_pieces (codes "clocks") o.clocks) [] _ _ (reads_next_field (codes "clocks") refl o.clocks h.4)
    (reads_gives o))))))

-- a row begins with a bracket
pub record Rowed {A : Type 0} (row : Ahead → Out Ask) (show : A → List Piece) (value : A → Ask) (Good : A → Type 0) : Type 0 where
  pub tail : A → List Piece
  pub opens : (v : A) → show v ≡ punct 91 ∷ tail v
  pub back : (v : A) → Good v → Reads row (show v) (value v)

module _ {A : Type 0} (row : Ahead → Out Ask) (falls : Falls row) (show : A → List Piece) (value : A → Ask) (Good : A → Type 0) (rowed : Rowed row show value Good) where
  items_back : (v : A) (vs : List A) (k : ℕ) (got : List Ask) (a b : Ahead) → size a < k → Good v → AllByRecursion Good vs → Shows (items_pieces show v vs) a b → items row k got a ≡ gives (got ++ value v ∷ map value vs) b
  unfolding items
  items_back v vs zero got a b less fit fits s = absurd (omega arith)
  items_back v [] (suc k) got a b less fit fits s =
      let r = shows_append (show v) (punct 93 ∷ []) a b s in
      rw ((rowed.back v fit).back a r.0 r.1, reads_close.back r.0 b r.2)
  items_back v (w ∷ vs) (suc k) got a b less fit fits s =
      let r = shows_append (show v) (punct 44 ∷ items_pieces show w vs) a b s in
      let one = (rowed.back v fit).back a r.0 r.1 in
      let two : comma_due 93 r.0 ≡ gives true r.2.1 = reads_more.back r.0 r.2.1 (r.2.0, r.2.1, r.2.2, refl) in
      rw (one, two)
      (items_back w vs k (got ++ value v ∷ []) r.2.1 b (omega (arith, falls a r.0 (value v) (sym one), comma_falls 93 r.0 r.2.1 true (sym two))) fits.0 fits.1 r.2.3
      ∙ ap (λ l. gives l b) (append_assoc got (value v ∷ []) (value w ∷ map value vs)))

  -- the first token of a list that is not empty
  opens_items : (v : A) (vs : List A) → (js : List Piece) × (items_pieces show v vs ≡ punct 91 ∷ js)
  opens_items v [] = (rowed.tail v ++ punct 93 ∷ [], ap (λ l. l ++ punct 93 ∷ []) (rowed.opens v))
  opens_items v (w ∷ vs) = (rowed.tail v ++ punct 44 ∷ items_pieces show w vs, ap (λ l. l ++ punct 44 ∷ items_pieces show w vs) (rowed.opens v))

  not_closed : (v : A) (vs : List A) (a b : Ahead) → Shows (items_pieces show v vs) a b → mark_next 93 a ≡ false
  not_closed v vs a b s =
      let o = opens_items v vs in
      let t : Shows (punct 91 ∷ o.0) a b = subst (λ ks. Shows ks a b) o.1 s in
      rw t.2

  rows_back : (got : List Ask) (vs : List A) → AllByRecursion Good vs → Reads (rows_due row got) (list_pieces show vs) (got ++ map value vs)
  rows_back got [] fits = reads_then (mark_due 91) _ (punct 91 ∷ []) (punct 93 ∷ []) _ _ (reads_mark 91) (record { back = λ a b s. rw (s.2, s.3) (ap (λ l. gives l b) (sym (append-nil got))) })
  rows_back got (v ∷ vs) fits = reads_then (mark_due 91) _ (punct 91 ∷ []) (items_pieces show v vs) _ _ (reads_mark 91) (record { back = λ a b s. rw (not_closed v vs a b s) (items_back v vs (suc (size a)) got a b (omega arith) fits.0 fits.1 s) })

  pub object_back : (head : Ask) (w : List ℕ) → bytes_eq w w ≡ true → (vs : List A) → AllByRecursion Good vs → Reads (object_due head w row) (rows_pieces w show vs) (head ∷ map value vs)
  object_back head w e vs fits =
      reads_then (mark_due 44) _ (punct 44 ∷ []) _ _ _ (reads_mark 44) (reads_then (member_due w) _ (member_pieces w) _ _ _ (reads_member w e)
      (reads_then (rows_due row (head ∷ [])) _ (list_pieces show vs) _ _ _ (rows_back (head ∷ []) vs fits) (reads_then (mark_due 125) _ (punct 125 ∷ []) [] _ _ (reads_mark 125) (reads_gives (head ∷ map value vs)))))

rules_rowed : Rowed added_due rule_pieces Add SmallRule
rules_rowed = record {
  tail = λ n. amount n.from ∷ next_amount n.to ++ (next_amount n.kind ++ (next_amount n.argument ++ (next_amount n.lower ++ (next_amount n.lower_flag ++ (next_amount n.upper ++ (next_amount n.upper_flag ++ punct 93 ∷ []))))));
  opens = λ n. refl;
  back = λ n h. record { back = λ a b s. rw ((reads_rule n h).back a b s) };
}

abbrev step_tail : Step → List Piece
step_tail (waits d) = amount d ∷ punct 93 ∷ []
step_tail (fires k v) = amount k ∷ punct 44 ∷ amount v ∷ punct 93 ∷ []

step_opens : (s : Step) → step_pieces s ≡ punct 91 ∷ step_tail s
step_opens (waits d) = refl
step_opens (fires k v) = refl

steps_rowed : Rowed step_due step_pieces step_ask SmallStep
steps_rowed = record { tail = step_tail; opens = step_opens; back = reads_step }

model_back : (o : Opening) (ns : List RuleNumbers) → SmallOpening o → AllByRecursion SmallRule ns → Reads model_due (model_pieces o ns) (model_asks o ns)
model_back o ns h hs = reads_then opening_due _ (opening_pieces o) _ _ _ (reads_opening o h) (object_back added_due added_falls rule_pieces Add SmallRule rules_rowed (Open o) (codes "rules") refl ns hs)

scale_back : (n : ℕ) → Small n → Reads scale_due (punct 123 ∷ field_pieces (codes "scale") n) n
scale_back n h = reads_then (mark_due 123) _ (punct 123 ∷ []) _ _ _ (reads_mark 123) (reads_field (codes "scale") refl n h)

run_back : (r : Run) → SmallRun r → Reads run_due (run_pieces r) (run_asks r)
run_back r h = reads_then scale_due _ (punct 123 ∷ field_pieces (codes "scale") r.scale) _ _ _ (scale_back r.scale h.scale) (object_back step_due step_falls step_pieces step_ask SmallStep steps_rowed (Begin r.scale) (codes "run") refl r.steps h.steps)

later_back : (rs : List Run) → AllByRecursion SmallRun rs → (k : ℕ) (w : View) (a : Ahead) (q : ℕ) → size a < k → Shows (runs_pieces rs) a (end q) → later k w a ≡ runs_said w rs
unfolding later
later_back rs hs zero w a q less s = absurd (omega arith)
later_back [] hs (suc k) w a q less s = rw (reads_close.back a (end q) s)
later_back (r ∷ rs) hs (suc k) w a q less s =
    let c = s.1 in
    let one : comma_due 93 a ≡ gives true c = reads_more.back a c (s.0, c, s.2, refl) in
    let t = shows_append (run_pieces r) (runs_pieces rs) c (end q) s.3 in
    let two = (run_back r hs.0).back c t.0 t.1 in
    rw (one, two)
    (ap (λ l. said_from 0 (run_asks r) w ∷ l) (later_back rs hs.1 k (case_from (run_asks r) w) t.0 q (omega (arith, comma_falls 93 a c true (sym one), run_falls c t.0 (run_asks r) (sym two))) t.2))

laid_shows : (ls : List Laid) (last : List ℕ) (p : ℕ) → (q : ℕ) × Shows (map (λ l. l.piece) ls) (tokens_of ls last p) (end q)
laid_shows [] last p = (p + length last, refl)
laid_shows (l ∷ ls) last p = let r = laid_shows ls last (p + length l.gap + length (written l.piece)) in (r.0, (p + length l.gap, tokens_of ls last _, refl, r.1))

opening_next : (o : Opening) (js : List Piece) (a b : Ahead) → Shows (opening_pieces o ++ js) a b → mark_next 93 a ≡ false
opening_next o js a b s = rw s.2

document_back : (d : Document) → SmallOpening d.opening → AllByRecursion SmallRule d.rules → AllByRecursion SmallRun d.runs → (a : Ahead) (q : ℕ) → Shows (document_pieces d) a (end q) → document a ≡ document_said d
document_back d ho hn hr a q s =
    let b = s.1 in
    let one : mark_due 91 a ≡ gives tt b = (reads_mark 91).back a b (s.0, b, s.2, refl) in
    let t = shows_append (model_pieces d.opening d.rules) (runs_pieces d.runs) b (end q) s.3 in
    let two = (model_back d.opening d.rules ho hn).back b t.0 t.1 in
    let here : mark_next 93 b ≡ false = opening_next d.opening (rows_pieces (codes "rules") rule_pieces d.rules) b t.0 t.1 in
    rw (one, here, two) (ap (first_said (said_from 0 (model_asks d.opening d.rules) new_case)) (later_back d.runs hr (suc (size t.0)) _ t.0 q (omega arith) t.2))

-- the answers to a text that a document is written as
pub as_written : (text : List ℕ) (said : List Said) → said ≡ settled_text text → AsWritten text said
as_written text said is d w =
    let r = laid_shows w.pieces w.last 0 in
    let read-so : tokens text ≡ tokens_of w.pieces w.last 0 = as_laid_out text (tokens text) refl w.pieces w.last w.lays w.whole in
    let shown : Shows (document_pieces d) (tokens text) (end r.0) = subst (λ a. Shows (document_pieces d) a (end r.0)) (sym read-so) (subst (λ ks. Shows ks (tokens_of w.pieces w.last 0) (end r.0)) w.shape r.1) in
    let short : leb (length text) 65536 ≡ true = le-leb _ _ w.short in
    is ∙ rw short (document_back d w.opening w.rules w.runs (tokens text) r.0 shown)
