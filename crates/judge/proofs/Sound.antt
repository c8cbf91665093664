use Rattle.std.proofs.Common.{◌≡◌, ℕ, ◌+◌, true, List, sym, refl, ap, ◌∙◌, subst, arith, length-set}
use lib.ListN.{length-map, length-replicate}
use Rattle.abstraction.specs.Lists.{Sits, In}
use Rattle.abstraction.specs.Frames.{Frame, Framed, plus, zeros, later, assigned, pushed, popped}
use Rattle.abstraction.specs.Bounds.{Inside}
use Rattle.abstraction.specs.Owes.{Lawfully, ListingLaws, Listed, Covered, CoversAt}
use Rattle.abstraction.proofs.Found.{plus_zero}
use Rattle.automaton.specs.Lawful.{Clocked}
use Rattle.automaton.specs.Runs.{Configuration, Does, Starts, Waits, Fires, Step, Run}
use Rattle.automaton.specs.Runs.Step.{waits, fires}
use Rattle.automaton.specs.Runs.Run.{begun, stepped}
use Rattle.automaton.specs.declared.rule.Symbol.{Symbol}
use Rattle.automaton.specs.declared.rule.Rule.{Rule}
use Rattle.automaton.specs.declared.rule.Action.{Action}
use Rattle.automaton.specs.declared.rule.Action.TheVariants.{Move, Test, Assign, Push, Pop}
use Rattle.judge.specs.Claims.{Claim, scope}
use Rattle.judge.specs.Closed.{Taken, Opens, ClosedAction, Closed, Bounded, LawfulEntry, Begins, Avoids}
use Rattle.judge.specs.declared.entry.Entry.{Entry}
use Rattle.judge.proofs.Chains.{Holds, Chain, top_holds, retopped, waited, dropped}

-- in a closed table every configuration of a run is followed, if the abstraction covers

module _
    {S : Type 0}
    (z : Claim S)
    (D : ℕ)
    (m : S → Frame → Type 0)
    (covers : CoversAt z.answers (scope z) D m)
    (lists : ListingLaws z.answers (scope z))
    (lawful : (e : Entry S) → In z.table e → LawfulEntry z e)
    (fit : (r : Rule) → In z.automaton.rules r → Clocked z.automaton.clocks r.action × Bounded z r.interval r.action)
    (closed : Closed z) where
  -- a listed shape that covers the frame does so lawfully
  listed : (ss : List S) (f : Frame) → Lawfully z.answers (scope z) ss → Framed z.automaton.clocks f → (l : Listed z.answers (scope z) D m ss f) → Covered z.answers (scope z) D m l.0 f
  listed ss f k g (s, i, c) = record { lawful = k.1 s i; framed = g; covers = c }

  -- an entry that takes a shape covers what the shape covers
  takes_over : (s : S) (f : Frame) (v : Entry S) → In z.table v → z.answers.within (scope z) s v.shape ≡ true → Covered z.answers (scope z) D m s f → Holds z D m v f
  takes_over s f v i w c =
      record {
        listed = i;
        covered = record {
          lawful = (lawful v i).shape;
          framed = c.framed;
          covers = covers.nests s v.shape f c (lawful v i).shape w;
        };
      }

  taken_over : (e : Entry S) (q : ℕ) (s : S) (f : Frame) (t : Taken z e q s) → Covered z.answers (scope z) D m s f → Holds z D m t.taker f
  taken_over e q s f t c = takes_over s f t.taker t.listed t.within c

  -- the chain for the next configuration
  Next : ℕ → List ℕ → List Symbol → Type 0
  Next q ys ss = (v : Entry S) × (h : Frame) × Chain z D m ss 0 v h × (v.state ≡ q) × (h.clocks ≡ ys)

  later_framed : (d : ℕ) (f : Frame) → Framed z.automaton.clocks f → Framed z.automaton.clocks (later d f)
  later_framed d f (a, b) = (length-map f.clocks (λ x. x + d) ∙ a, length-map f.kept (λ x. x + d) ∙ b)

  waiting : (d : ℕ) (b c : Configuration) → Waits d b c → Next b.state b.clocks b.stack → Next c.state c.clocks c.stack
  unfolding Next
  waiting d b c (w1, w2, w3) (e, f, ch, q, x) =
      let h = top_holds z D m b.stack 0 e f ch in
      let l = covers.times e.shape f h.covered d in
      let t = closed.time e h.listed l.0 l.1 in
      let hv = taken_over e e.state l.0 (later d f) t (listed _ (later d f) (lists.times e.shape h.covered.lawful) (later_framed d f h.covered.framed) l) in
      (t.taker, later d f, rw w3 (waited z D m d b.stack e t.taker f ch hv t.root t.label), t.state ∙ q ∙ sym w1, ap (plus d) x ∙ sym w2)

  -- an action of the rule r from the entry e
  acts : (r : Rule) → In z.automaton.rules r → (a : Action) → r.action ≡ a → Clocked z.automaton.clocks a → Bounded z r.interval a → (e : Entry S) (f : Frame) → r.from ≡ e.state → ClosedAction z e r.to r.interval a → (x : ℕ) (ss rs : List Symbol) (ys : List ℕ) → Chain z D m ss 0 e f → Does D r.interval a x f.clocks ss ys rs → Next r.to ys rs
  unfolding Next
  acts r i Move is ck bd e f from t x ss rs ys ch (y, u) =
      let h = top_holds z D m ss 0 e f ch in
      let hv = taken_over e r.to e.shape f t h.covered in
      (t.taker, f, rw u (retopped z D m ss 0 e t.taker f f ch hv t.root t.label refl refl refl refl), t.state, sym y)
  acts r i (Test k) is ck bd e f from cl x ss rs ys ch (ins, y, u) =
      let h = top_holds z D m ss 0 e f ch in
      let l = covers.tests e.shape f h.covered k r.interval ck bd ins in
      let t = cl l.0 l.1 in
      let hv = taken_over e r.to l.0 f t (listed _ f (lists.tests e.shape h.covered.lawful k r.interval ck bd) h.covered.framed l) in
      (t.taker, f, rw u (retopped z D m ss 0 e t.taker f f ch hv t.root t.label refl refl refl refl), t.state, sym y)
  acts r i (Assign k) is ck bd e f from cl x ss rs ys ch (ins, y, u) =
      let h = top_holds z D m ss 0 e f ch in
      let g = assigned k x f in
      let fr : Framed z.automaton.clocks g = (length-set f.clocks k x ∙ h.covered.framed.0, h.covered.framed.1) in
      let l = covers.assigns e.shape f h.covered k r.interval ck bd x ins in
      let t = cl l.0 l.1 in
      let hv = taken_over e r.to l.0 g t (listed _ g (lists.assigns e.shape h.covered.lawful k r.interval ck bd) fr l) in
      (t.taker, g, rw u (retopped z D m ss 0 e t.taker f g ch hv t.root t.label refl refl refl refl), t.state, sym y)
  acts r i (Push n) is ck bd e f from cl x ss rs ys ch (ins, y, u) =
      let h = top_holds z D m ss 0 e f ch in
      let g = pushed x f in
      let fr : Framed z.automaton.clocks g = (h.covered.framed.0, h.covered.framed.0) in
      let l = covers.pushes e.shape f h.covered r.interval bd x ins in
      let t = cl l.0 l.1 in
      let v = t.taker in
      let hv = takes_over l.0 g v (t.place, t.roots.0) t.within (listed _ g (lists.pushes e.shape h.covered.lawful r.interval bd) fr l) in
      let o : Opens z e v = record {
        rule = r;
        ruled = i;
        from = from;
        to = sym t.state;
        pushes = is ∙ ap Push (sym t.label);
        shape = l.0;
        listed = l.1;
        within = t.within;
      } in (
        v,
        g,
        rw u (
          hv,
          t.label,
          omega arith,
          e,
          f,
          record {
            root = v;
            rooted = (subst (λ j. Sits z.table j v) (sym t.roots.1) t.roots.0, refl);
            opened = o;
            kept = sym (plus_zero f.clocks);
            kept_age = omega arith;
          },
          ch,
        ),
        t.state,
        sym y,
      )
  acts r i (Pop n) is ck bd e f from cl x ss rs ys ch (age, ins, y, u) =
      let (h, lab, aged, w, g, lk, c) = subst (λ xs. Chain z D m xs 0 e f) u ch in
      let hw = top_holds z D m rs (0 + f.elapsed) w g c in
      let a : age ≡ f.age = omega arith in
      let fr : Framed z.automaton.clocks (popped g f) = (h.covered.framed.0, length-map g.kept (λ v. v + f.elapsed) ∙ hw.covered.framed.1) in
      let l = covers.pops w.shape e.shape g f hw.covered h.covered r.interval bd (subst (Inside D r.interval) a ins) lk.kept lk.kept_age in
      let t = closed.returns w e hw.listed h.listed r i e.root lk.root lk.rooted lk.opened refl from (is ∙ ap Pop (sym lab)) l.0 l.1 in
      let hv = taken_over w r.to l.0 (popped g f) t (listed _ (popped g f) (lists.pops w.shape e.shape hw.covered.lawful h.covered.lawful r.interval bd) fr l) in
      (t.taker, popped g f, dropped z D m rs w t.taker g f (0 + f.elapsed) (omega arith) c hv t.root t.label, t.state, sym y)

  firing : (r : Rule) (v : ℕ) (b c : Configuration) → In z.automaton.rules r → Fires D r v b c → Next b.state b.clocks b.stack → Next c.state c.clocks c.stack
  unfolding Next
  firing r v b c i (w1, w2, w3) (e, f, ch, q, x) =
      let h = top_holds z D m b.stack 0 e f ch in
      let from : r.from ≡ e.state = sym (q ∙ w1) in
      let (u, g, ch', q1, y) = acts r i r.action refl (fit r i).0 (fit r i).1 e f from (closed.rules e h.listed r i from) v b.stack c.stack c.clocks ch (subst (λ xs. Does D r.interval r.action v xs b.stack c.clocks c.stack) (sym x) w3) in
      (u, g, ch', q1 ∙ sym w2, y)

  stepping : (b c : Configuration) → Step z.automaton D b c → Next b.state b.clocks b.stack → Next c.state c.clocks c.stack
  stepping b c (waits d w) n = waiting d b c w n
  stepping b c (fires r i v w) n = firing r v b c i w n

  beginning : Begins z → (c : Configuration) → Starts z.automaton c → Next c.state c.clocks c.stack
  unfolding Next
  beginning b c (w1, w2, w3) =
      let n = z.automaton.clocks in
      let fr : Framed n (zeros n) = (length-replicate n 0, length-replicate n 0) in
      let h = takes_over _ (zeros n) b.entry (0, b.zeroth) b.within (record { lawful = covers.starts.0; framed = fr; covers = covers.starts.1 }) in
      (b.entry, zeros n, rw w3 (h, b.label), b.state ∙ sym w1, sym w2)

  -- every configuration of a run stands in a state that has an entry
  runs : Begins z → (c : Configuration) → Run z.automaton D c → Next c.state c.clocks c.stack
  runs g c (begun w) = beginning g c w
  runs g c (stepped {b} r s) = stepping b c s (runs g b r)

  pub never_in_target : Begins z → Avoids z → (c : Configuration) → Run z.automaton D c → c.state ≡ z.automaton.target → ⊥
  unfolding Next
  never_in_target b none c r h =
      let (v, f, ch, q, y) = runs b c r in none v (top_holds z D m c.stack 0 v f ch).listed (q ∙ h)
