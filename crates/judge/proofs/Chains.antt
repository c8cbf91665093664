use Rattle.std.proofs.Common.{◌≡◌, ℕ, ◌+◌, List, [], ◌∷◌, map, sym, ap, ◌∙◌, subst, arith}
use Rattle.abstraction.specs.Lists.{In}
use Rattle.abstraction.specs.Frames.{Frame, plus, later, popped}
use Rattle.abstraction.specs.Owes.{Covered}
use Rattle.abstraction.proofs.Found.{plus_plus}
use Rattle.automaton.specs.Runs.{older}
use Rattle.automaton.specs.declared.rule.Symbol.{Symbol}
use Rattle.judge.specs.Claims.{Claim, scope}
use Rattle.judge.specs.Closed.{RootAt, Opens}
use Rattle.judge.specs.declared.entry.Entry.{Entry}

-- a run is followed by a chain of entries and frames, one for each symbol of the stack and one for
-- its bottom

module _ {S : Type 0} (z : Claim S) (D : ℕ) (m : S → Frame → Type 0) where
  -- an entry of the table whose shape covers the frame
  pub record Holds (e : Entry S) (f : Frame) : Type 0 where
    pub listed : In z.table e
    pub covered : Covered z.answers (scope z) D m e.shape f

  -- the frame g of the entry u stands on the frame f of the entry e
  pub record Link (u : Entry S) (g : Frame) (e : Entry S) (f : Frame) : Type 0 where
    pub root : Entry S
    pub rooted : RootAt z u.root root
    pub opened : Opens z e root
    pub kept : g.kept ≡ plus g.elapsed f.clocks
    pub kept_age : g.kept_age ≡ f.age + g.elapsed

  -- an entry and a frame for each symbol, the top first; late is the time since the frame was the top
  abbrev pub Chain : List Symbol → ℕ → Entry S → Frame → Type 0
  Chain [] late e f = Holds e f × (e.label ≡ 0)
  Chain (s ∷ ss) late u g = Holds u g × (u.label ≡ s.label) × (s.age ≡ g.age + late) × (e : Entry S) × (f : Frame) × Link u g e f × Chain ss (late + g.elapsed) e f

  pub top_holds : (ss : List Symbol) (late : ℕ) (e : Entry S) (f : Frame) → Chain ss late e f → Holds e f
  top_holds [] late e f c = c.0
  top_holds (s ∷ ss) late e f c = c.0

  -- a link depends on the root of its upper entry only
  relinked : (u v : Entry S) (g h : Frame) (e : Entry S) (f : Frame) → Link u g e f → v.root ≡ u.root → h.kept ≡ plus h.elapsed f.clocks → h.kept_age ≡ f.age + h.elapsed → Link v h e f
  relinked u v g h e f i r k a =
      record {
        root = i.root;
        rooted = rw r i.rooted;
        opened = i.opened;
        kept = k;
        kept_age = a;
      }

  -- time passes for the frames that are not the top
  grown : (d : ℕ) (ss : List Symbol) (late new : ℕ) (e : Entry S) (f : Frame) → new ≡ late + d → Chain ss late e f → Chain (map (older d) ss) new e f
  grown d [] late new e f n c = c
  grown d (s ∷ ss) late new u g n (h, l, a, e, f, k, c) =
      (h, l, omega arith, e, f, k, grown d ss (late + g.elapsed) (new + g.elapsed) e f (omega arith) c)

  -- another entry, of the same root and label, takes the place of the top
  pub retopped : (ss : List Symbol) (late : ℕ) (u v : Entry S) (g h : Frame) → Chain ss late u g → Holds v h → v.root ≡ u.root → v.label ≡ u.label → h.age ≡ g.age → h.kept ≡ g.kept → h.kept_age ≡ g.kept_age → h.elapsed ≡ g.elapsed → Chain ss late v h
  retopped [] late u v g h (_, l) w r b a k ka el = (w, b ∙ l)
  retopped (s ∷ ss) late u v g h (_, l, sa, e, f, i, c) w r b a k ka el =
      (w, b ∙ l, omega (arith, a), e, f, relinked u v g h e f i r (k ∙ i.kept ∙ ap (λ n. plus n f.clocks) (sym el)) (omega (arith, ka, el, i.kept_age)), rw el c)

  -- time passes
  pub waited : (d : ℕ) (ss : List Symbol) (u v : Entry S) (g : Frame) → Chain ss 0 u g → Holds v (later d g) → v.root ≡ u.root → v.label ≡ u.label → Chain (map (older d) ss) 0 v (later d g)
  waited d [] u v g (_, l) w r b = (w, b ∙ l)
  waited d (s ∷ ss) u v g (_, l, sa, e, f, i, c) w r b =
      (w, b ∙ l, omega arith, e, f, relinked u v g (later d g) e f i r (ap (plus d) i.kept ∙ plus_plus d g.elapsed f.clocks) (omega (arith, i.kept_age)), grown d ss (0 + g.elapsed) (0 + (g.elapsed + d)) e f (omega arith) c)

  -- the top is popped
  pub dropped : (ss : List Symbol) (e v : Entry S) (f g : Frame) (late : ℕ) → late ≡ g.elapsed → Chain ss late e f → Holds v (popped f g) → v.root ≡ e.root → v.label ≡ e.label → Chain ss 0 v (popped f g)
  dropped [] e v f g late t (_, l) w r b = (w, b ∙ l)
  dropped (s ∷ ss) e v f g late t (_, l, sa, o, h, i, c) w r b =
      (w, b ∙ l, omega arith, o, h, relinked e v f (popped f g) o h i r (ap (plus g.elapsed) i.kept ∙ plus_plus g.elapsed f.elapsed h.clocks) (omega (arith, i.kept_age)), let q : late + f.elapsed ≡ 0 + (f.elapsed + g.elapsed) = omega arith in subst (λ n. Chain ss n o h) q c)
