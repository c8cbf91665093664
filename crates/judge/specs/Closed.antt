use Rattle.std.specs.Prelude.{◌≡◌, ℕ, ◌<◌, ◌≤◌, true, length, ◌≢◌}
use Rattle.abstraction.specs.Lists.{Sits, In}
use Rattle.abstraction.specs.Bounds.{Fits}
use Rattle.abstraction.specs.declared.interval.Interval.{Interval}
use Rattle.automaton.specs.declared.rule.Rule.{Rule}
use Rattle.automaton.specs.declared.rule.Action.{Action}
use Rattle.automaton.specs.declared.rule.Action.TheVariants.{Move, Test, Assign, Push, Pop}
use Rattle.judge.specs.Claims.{Claim, scope}
use Rattle.judge.specs.declared.entry.Entry.{Entry}

-- which tables are lawful and closed, as statements on their entries

module _ {S : Type 0} (z : Claim S) where
  -- the first shape is within the second
  abbrev pub Within : S → S → Type 0
  Within s t = z.answers.within (scope z) s t ≡ true

  -- o is a root, and stands at the place j
  abbrev pub RootAt : ℕ → Entry S → Type 0
  RootAt j o = Sits z.table j o × (o.root ≡ j)

  -- an entry in the state q, with the label and the root of e, takes the shape
  pub record Taken (e : Entry S) (q : ℕ) (s : S) : Type 0 where
    pub taker : Entry S
    pub listed : In z.table taker
    pub root : taker.root ≡ e.root
    pub state : taker.state ≡ q
    pub label : taker.label ≡ e.label
    pub within : Within s taker.shape

  -- a root in the state q with the label l takes the shape
  pub record TakenByRoot (q l : ℕ) (s : S) : Type 0 where
    pub place : ℕ
    pub taker : Entry S
    pub roots : RootAt place taker
    pub state : taker.state ≡ q
    pub label : taker.label ≡ l
    pub within : Within s taker.shape

  -- a push rule leads from e's state to o's state with o's label, and a shape that is listed for it
  -- is within o's
  pub record Opens (e o : Entry S) : Type 0 where
    pub rule : Rule
    pub ruled : In z.automaton.rules rule
    pub from : rule.from ≡ e.state
    pub to : rule.to ≡ o.state
    pub pushes : rule.action ≡ Push o.label
    pub shape : S
    pub listed : In (z.answers.push (scope z) rule.interval e.shape) shape
    pub within : Within shape o.shape

  -- 1. each shape listed for time is taken by an entry of e's state, label and root
  abbrev pub ClosedTime : Entry S → Type 0
  ClosedTime e = (s : S) → In (z.answers.time (scope z) e.shape) s → Taken e e.state s

  -- 2. each shape listed for a test or an assignment, and for a move e's own, is taken by an entry in
  -- the state q, of e's label and root
  -- 3. each shape listed for a push is taken by a root in the state q with the label
  abbrev pub ClosedAction : Entry S → ℕ → Interval → Action → Type 0
  ClosedAction e q i Move = Taken e q e.shape
  ClosedAction e q i (Test k) = (s : S) → In (z.answers.test (scope z) k i e.shape) s → Taken e q s
  ClosedAction e q i (Assign k) = (s : S) → In (z.answers.assign (scope z) k i e.shape) s → Taken e q s
  ClosedAction e q i (Push l) = (s : S) → In (z.answers.push (scope z) i e.shape) s → TakenByRoot q l s
  ClosedAction e q i (Pop l) = Unit {0}

  abbrev pub ClosedRule : Entry S → Rule → Type 0
  ClosedRule e r = r.from ≡ e.state → ClosedAction e r.to r.interval r.action

  -- 4. if u's root is one that e opens, and the rule pops u's label from u's state, then each shape
  -- listed for e and u is taken by an entry in the rule's state, of e's label and root
  abbrev pub ClosedReturn : Entry S → Entry S → Rule → Type 0
  ClosedReturn e u r = (j : ℕ) (o : Entry S) → RootAt j o → Opens e o → u.root ≡ j → r.from ≡ u.state → r.action ≡ Pop u.label → (s : S) → In (z.answers.pop (scope z) r.interval e.shape u.shape) s → Taken e r.to s

  -- the table is closed
  pub record Closed : Type 0 where
    pub time : (e : Entry S) → In z.table e → ClosedTime e
    pub rules : (e : Entry S) → In z.table e → (r : Rule) → In z.automaton.rules r → ClosedRule e r
    pub returns : (e u : Entry S) → In z.table e → In z.table u → (r : Rule) → In z.automaton.rules r → ClosedReturn e u r

  -- no finite bound of a rule that has an interval is above top
  abbrev pub Bounded : Interval → Action → Type 0
  Bounded i Move = Unit {0}
  Bounded i (Test k) = Fits z.top i
  Bounded i (Assign k) = Fits z.top i
  Bounded i (Push l) = Fits z.top i
  Bounded i (Pop l) = Fits z.top i

  -- 1 to 2,048 entries, a scratch of n bytes that is not shorter, and a top that suits
  pub record Fit (n : ℕ) : Type 0 where
    pub some : 1 ≤ length z.table
    pub few : length z.table ≤ 2048
    pub room : length z.table ≤ n
    pub small : z.top ≤ 15
    pub bounded : (r : Rule) → In z.automaton.rules r → Bounded r.interval r.action

  -- the root of an entry is the place of an entry which is its own root and has the same label; the
  -- state, the label and the shape are lawful
  pub record LawfulEntry (e : Entry S) : Type 0 where
    pub owner : Entry S
    pub rooted : RootAt e.root owner
    pub label : owner.label ≡ e.label
    pub state : e.state < z.automaton.states
    pub labels : e.label ≤ z.automaton.labels
    pub shape : z.answers.lawful (scope z) e.shape ≡ true

  -- entry 0 is its own root, in the start state on the bottom of the stack, and takes the start shape
  pub record Begins : Type 0 where
    pub entry : Entry S
    pub zeroth : Sits z.table 0 entry
    pub root : entry.root ≡ 0
    pub state : entry.state ≡ z.automaton.start
    pub label : entry.label ≡ 0
    pub within : Within (z.answers.start (scope z)) entry.shape

  -- no entry is in the target
  abbrev pub Avoids : Type 0
  Avoids = (e : Entry S) → In z.table e → e.state ≢ z.automaton.target

  -- the table is lawful, with a scratch of n bytes
  pub record Lawful (n : ℕ) : Type 0 where
    pub fit : Fit n
    pub entries : (e : Entry S) → In z.table e → LawfulEntry e
    pub begins : Begins
    pub avoids : Avoids
