-- Forms with conditions: `if`, `option` and `logic`.
use Rattle.std.proofs.Common.{◌≡◌, ℕ, suc, ◌+◌, ◌-◌, ◌≤◌, length, drop, List, [], ◌∷◌, ◌++◌, Option, Some, None, true, refl, sym, ◌∙◌}
use Rattle.std.proofs.Common.{subst, ap, arith}
use Rattle.std.specs.Prelude.{option_map, slice_get}
use Rattle.std.proofs.lemmas.Option.{none-some, same_Some}
use Rattle.verse_base.specs.declared.places.Place.{Place}
use Rattle.verse_code.specs.declared.codes.Code.{Code}
use Rattle.verse_code.specs.declared.operations.Op.{Op}
use Rattle.verse_code.specs.declared.operations.Op.TheVariants as o
use Rattle.verse_names_tables.specs.Names.{Table}
use Rattle.verse_sorts.specs.Sorts as s
use Rattle.verse_sorts.specs.Sorts.{Sort, Fits, nil_logic, nil_opt}
use Rattle.verse_sorts.proofs.Fitting.{all_fit_on, fits_on, fits_itself}
use Rattle.verse_sound_rules.specs.Found as rules
use Rattle.verse_sound_rules.specs.Found.{Allowed}
use Rattle.verse_verify_faults.specs.Spots.{Mark, opens, even, point_of}
use Rattle.verse_verify_kept.specs.Notes.{Notes, parent_of}
use Rattle.verse_verify_kept.specs.Rules as r
use Rattle.verse_verify_kept.specs.Rules.{Asked}
use Rattle.lower_code.specs.Pieces as c
use Rattle.lower_code.specs.Pieces.{Spot, Maker}
use Rattle.lower_code.specs.declared.arounds.Around.{Around}
use Rattle.lower_code.specs.Arounds.{enclosed}
use Rattle.lower_code.specs.Scopes.{Scope}
use Rattle.lower_notes.specs.States as states
use Rattle.lower_notes.specs.States.{State, Change, spot_of, pops, gives, untried, indices}
use Rattle.lower_notes.specs.Stretches as n
use Rattle.lower_notes.specs.Stretches.{Walk, with_value}
use Rattle.lower_notes.specs.Laws.{Beside}
use Rattle.lower_notes.proofs.Counted as counted
use Rattle.lower_notes.proofs.Counted.{code_then, walk_then}
use Rattle.lower_pass_states.proofs.Points.{pt, Even, over, names_of, drop_none, gives_is}
use Rattle.lower_pass_states.proofs.Meeting.{Meets, Each, Ground, entries}
use Rattle.lower_pass_states.proofs.Locals.{Blank}
use Rattle.lower_pass_states.proofs.Steps as step
use Rattle.lower_pass_stretches.proofs.Names.{Sees}
use Rattle.lower_pass_stretches.proofs.Begins.{Begins, starts}
use Rattle.lower_pass_stretches.proofs.Going.{Way, If, itself, Going, Steady, then_goes, outside}
use Rattle.lower_pass_stretches.proofs.Single.{OneItem, just_goes, IsValue, Lands, lands_goes}
use Rattle.lower_pass_stretches.proofs.Combined.{Led, either_goes, either_led, opens_try}
use Rattle.lower_pass_stretches.proofs.Inside.{Inside, Blocks, Since, blocks_below, blocks_moved, keeps_moved, steady_of}
use Rattle.lower_pass_contexts.proofs.Trys.{try_asked, commit_asked}
use Rattle.lower_pass_contexts.proofs.After.{After}
use Rattle.lower_pass_forms.proofs.Finishing.{steady_over, over_itself, last_goes}
use Rattle.lower_pass_blocks.proofs.Attempted.{Tried, in_try}
use Rattle.lower_pass_blocks.proofs.Stated.{Next, weaker}
use Rattle.lower_pass_statements.proofs.Turns.{Reached, drop_next}
use Rattle.lower_pass_statements.proofs.Settled.{Settles, settled_lands, value_settles}

-- ---- what is known of a state behind another, with no block more

module _ (code : Code) (notes : Notes) {found : rules.Found} {w : Way} {ts : List ℕ} {al : Allowed} {xs : Table} {sc : Scope}
    {a : Around} {y z : State} (h : Inside code notes found w ts al xs sc a y) (g : After code notes 0 y z) where
  even_is : (ms : List Mark) (su : List s.Sort) (mu : List Mark) (st : List s.Sort) → st ≡ su → ms ≡ mu → even (length su) mu ≡ true →
      even (length st) ms ≡ true
  even_is ms su mu st e f k = subst (λ zs. even (length zs) ms ≡ true) (sym e) (subst (λ ns. even (length su) ns ≡ true) (sym f) k)

  names_are : states.indices z.tries ++ z.outer ≡ states.indices y.tries ++ y.outer
  names_are = ap (λ ms. indices ms ++ z.outer) g.tries ∙ ap (λ os. indices y.tries ++ os) g.outer

  open_is : (pt z).tries ≡ (pt y).tries
  open_is = ap (λ ms. opens z.stack ms) g.tries ∙ ap (λ st. opens st y.tries) g.stack

  fails_behind : r.MayFail code notes (pt y) → r.MayFail code notes (pt z)
  fails_behind (r.in_try e) = r.in_try (open_is ∙ e)
  fails_behind (r.in_function b d f e) = r.in_function (g.arm ∙ b) (g.block ∙ d) (ap (slice_get notes.functions) g.func ∙ f) e

  pub inside_behind : {ys : Table} {sc2 : Scope} → Sees found al.this ys sc2 z.locals → Blank (length sc2) z.locals →
      length sc ≤ length sc2 → w.size ≤ length z.locals → Inside code notes found w ts al ys sc2 a z
  inside_behind sees blank longer room = record {
    even = even_is z.tries y.stack y.tries z.stack g.stack g.tries h.even;
    names = names_are ∙ h.names;
    stood = subst (λ k. Ground code notes ts k z.arm z.block z.outer z.under) (sym g.func)
        (subst (λ k. Ground code notes ts y.func k z.block z.outer z.under) (sym g.arm)
        (subst (λ k. Ground code notes ts y.func y.arm k z.outer z.under) (sym g.block)
        (subst (λ k. Ground code notes ts y.func y.arm y.block k z.under) (sym g.outer)
        (subst (λ k. Ground code notes ts y.func y.arm y.block y.outer k) (sym g.under) h.stood))));
    blocks = subst (λ ds. Blocks code notes (pt z) ts (a.defers - a.base) ds z.locals) (sym g.since)
        (blocks_below code notes g.locals (blocks_moved code notes (record { func = sym g.func; arm = sym g.arm; under = sym g.under })
        (names_of z ∙ names_are ∙ sym (names_of y)) h.blocks));
    count = h.count ∙ sums y.under z.under (length y.defers) (length z.defers) g.under (ap length g.since);
    order = h.order;
    keeps = keeps_moved code notes open_is h.keeps;
    sees = sees;
    blank = blank;
    quiet = λ l e. h.quiet l (omega (arith, longer, e));
    room = room;
    fails = λ e. fails_behind (h.fails e);
    waits = λ e. let i = h.waits e in record {
      tries = open_is ∙ i.tries;
      block = g.block ∙ i.block;
      func = i.func;
      is_func = ap (slice_get notes.functions) g.func ∙ i.is_func;
      holds = i.holds;
    };
    returns = λ res e. let i = h.returns res e in record {
      may = i.may;
      base = i.base;
      arm = g.arm ∙ i.arm;
      block = g.block ∙ i.block;
      tries = g.tries ∙ i.tries;
      under = g.under ∙ i.under;
      func = i.func;
      is_func = ap (slice_get notes.functions) g.func ∙ i.is_func;
      result = i.result;
    };
    breaks = λ e. let i = h.breaks e in record {
      in_loop = i.in_loop;
      may = i.may;
      func = g.func ∙ i.func;
      arm = g.arm ∙ i.arm;
      block = g.block ∙ i.block;
      outer = g.outer ∙ i.outer;
      under = g.under ∙ i.under;
      tries = g.tries ∙ i.tries;
      stack = subst (λ st. Each code notes st (n.anys a.height w.state.stack)) (sym g.stack) i.stack;
      locals = all_fit_on (parent_of notes) g.locals i.locals;
      since = subst (λ ds. Since code notes w.state (a.defers - a.floor) ds) (sym g.since) i.since;
    };
  }
    where
      sums : (u v m p : ℕ) → v ≡ u → p ≡ m → u + m ≡ v + p
      sums u v m p e f = omega (arith, e, f)

module _ (found : rules.Found) (code : Code) (notes : Notes) (w : Way) (ts : List ℕ) (al : Allowed) (xs : Table) (sc : Scope) (a : Around)
    (x : Option State) (here : If x (Inside code notes found w ts al xs sc a)) (ys : Table) (sc2 : Scope)
    (longer : length sc ≤ length sc2) where
  abbrev Fit : Sort → Sort → Type 0
  Fit = Fits (parent_of notes)

  calm : If x (Steady code notes ts)
  calm y e = steady_of code notes (here y e)

  abbrev pub InTry : ℕ → State → Type 0
  InTry i z = Tried found code notes w ts al xs sc a x here i z

  -- what the conditions have found out stands above a state within the attempt
  pub record Tested (qs : List Sort) (i : ℕ) (z : State) : Type 0 where
    pub before : State
    pub is : x ≡ Some before
    pub state : State
    pub above : z ≡ over qs state
    pub inside : Inside code notes found w (i ∷ ts) (rules.tried al) ys sc2 (enclosed a) state
    pub after : After code notes 0 (states.tried i before) state

  -- and behind it
  pub record Held (qs : List Sort) (z : State) : Type 0 where
    pub before : State
    pub is : x ≡ Some before
    pub state : State
    pub above : z ≡ over qs state
    pub inside : Inside code notes found w ts al ys sc2 a state
    pub after : After code notes 0 before state

  try_is : (i : ℕ) (v : State) → option_map (states.tried i) x ≡ Some v → (y : State) × ((x ≡ Some y) × (v ≡ states.tried i y))
  try_is i v = from x
    where
      from : (x : Option State) → option_map (states.tried i) x ≡ Some v → (y : State) × ((x ≡ Some y) × (v ≡ states.tried i y))
      from None e = absurd (none-some v e)
      from (Some y) e = (y, (refl, sym (same_Some (states.tried i y) v e)))

  abbrev pub Conditions : ℕ → Sort → State → Type 0
  Conditions i q z = Next found code notes w (i ∷ ts) (rules.tried al) 0 q ys sc2 (enclosed a) (option_map (states.tried i) x) z

  with_last : (i : ℕ) (q : Sort) (z : State) → Conditions i q z → Tested (q ∷ []) i z
  with_last i q z h = let y = try_is i h.before h.is in record {
    before = y.0;
    is = y.1.0;
    state = h.state;
    above = h.above;
    inside = h.inside;
    after = subst (λ v. After code notes 0 v h.state) y.1.1 h.after;
  }

  with_none : (i : ℕ) (z : State) → Reached found code notes w (i ∷ ts) (rules.tried al) 0 ys sc2 (enclosed a)
      (option_map (states.tried i) x) z → Tested [] i z
  with_none i z h = let y = try_is i h.before h.is in record {
    before = y.0;
    is = y.1.0;
    state = z;
    above = refl;
    inside = h.inside;
    after = subst (λ v. After code notes 0 v z) y.1.1 h.after;
  }

  -- the attempt is over: what was found out stays
  module _ (qs : List Sort) (i l : ℕ) (led : Led code notes o.Try x x i l) where
    noted_here : (y : State) → x ≡ Some y → slice_get notes.points i ≡ Some (point_of (option_map spot_of (Some y)))
    noted_here y e = subst (λ v. slice_get notes.points i ≡ Some (point_of (option_map spot_of v))) e led.here

    out_of : (z : State) → (h : Tested qs i z) → After code notes 0 h.before (untried h.state)
    out_of z h = record {
      func = h.after.func;
      arm = h.after.arm;
      block = h.after.block;
      outer = h.after.outer;
      under = h.after.under;
      tries = ap (drop 1) h.after.tries ∙ drop_none h.before.tries;
      stack = h.after.stack;
      locals = h.after.locals;
      since = h.after.since;
    }

    pub commits_go : {u : Option State} → If u (Tested qs i) →
        Going code notes w (i ∷ ts) u (c.one o.Commit) (n.one untried) itself (Held qs)
    commits_go above = just_goes code notes (c.one o.Commit) (λ s. o.Commit) (λ s. refl)
        (λ z e. let h = above z e in subst (Steady code notes (i ∷ ts)) (sym h.above) (steady_over code notes qs
        (steady_of code notes h.inside)))
        (λ z e s room m. let h = above z e in
        subst (λ v. Asked code notes s.at (pt v) o.Commit) (sym h.above)
        (commit_asked code notes i s.at h.before (over qs h.state) qs (record {
          tries = h.after.tries;
          stack = ap (λ st. qs ++ st) h.after.stack;
          defers = ap entries h.after.since;
        }) (here h.before h.is).even (noted_here h.before h.is)
        (subst (λ v. Meets code notes (untried v) (suc s.at)) h.above m)))
        (λ z e s room. let h = above z e in record {
          before = h.before;
          is = h.is;
          state = untried h.state;
          above = ap untried h.above;
          inside = inside_behind code notes (here h.before h.is) (out_of z h) h.inside.sees h.inside.blank longer h.inside.room;
          after = out_of z h;
        })

  -- a part behind the conditions gives its value
  settles_value : (q : Sort) (v : Option State) → If v (Held []) → (z : State) → IsValue code notes q v z → Settles code notes ts q x z
  settles_value q v held z k = let h = held k.0 k.1.0 in record {
    before = h.before;
    is = h.is;
    state = h.state;
    above = k.1.1 ∙ ap (over (q ∷ [])) h.above;
    after = h.after;
    steady = subst (Steady code notes ts) (sym (k.1.1 ∙ ap (over (q ∷ [])) h.above)) (steady_over code notes (q ∷ [])
        (steady_of code notes h.inside));
  }

  led_same : (i l : ℕ) → Led code notes o.Try x (option_map n.same x) i l → Led code notes o.Try x x i l
  led_same i l led = subst (λ y. Led code notes o.Try x y i l) (same_state x) led
    where
      same_state : (y : Option State) → option_map n.same y ≡ y
      same_state None = refl
      same_state (Some y) = refl

  same_going : {h : Maker} {j : Walk} {k : Option State → Option State} {Q : State → Type 0} → Going code notes w ts x h j k Q →
      Going code notes w ts (option_map n.same x) h j k Q
  same_going {h} {j} {k} {Q} g = subst (λ y. Going code notes w ts y h j k Q) (sym (same_state x)) g
    where
      same_state : (y : Option State) → option_map n.same y ≡ y
      same_state None = refl
      same_state (Some y) = refl

  -- conditions, what is done where they hold, and where one fails
  module _ (q qb qc : Sort) (fit : Fit qb q) {f h : Maker} {g j : Walk} (beside : Beside f g) (begins : Begins j)
      (holds : (i l : ℕ) → Led code notes o.Try x x i l →
      Going code notes w (i ∷ ts) (option_map (states.tried i) x) f g itself (Settles code notes ts qb x))
      {Q : State → Type 0} (fails : Going code notes w ts x h j (with_value q x) Q) where
    pub tests_go : Going code notes w ts x (c.either o.Try f h) (n.either_try g j) (with_value q x) (λ z. Unit {0})
    tests_go = either_goes code notes states.tried (n.always n.same) (λ i. i ∷ ts) q o.Try (Led code notes o.Try x x) beside
        (λ s l. led_same s.at _ (either_led code notes h j states.tried (n.always n.same) o.Try beside begins s l))
        calm (opens_try code notes ts) (λ i l led. holds i l led) (λ z k. k.steady) (settled_lands code notes ts qb q fit)
        (λ i. same_going fails) (λ y e i l m k. try_asked code notes y i l m k)

  -- the conditions of a form
  module _ (q qc : Sort) {f : Maker} {g : Walk} (beside : Beside f g)
      (conditions : (i : ℕ) → If (option_map (states.tried i) x) (InTry i) →
      Going code notes w (i ∷ ts) (option_map (states.tried i) x) f g itself (Conditions i qc)) where
    first : (i l : ℕ) → Led code notes o.Try x x i l → Going code notes w (i ∷ ts) (option_map (states.tried i) x) f g itself
        (Conditions i qc)
    first i l led = conditions i (in_try found code notes w ts al xs sc a x here i l led)

    -- no value of theirs is wanted
    dropped : {b : Maker} {e : Walk} {R : State → Type 0} → ((v : Option State) → If v (Held []) → Going code notes w ts v b e itself R) →
        (i l : ℕ) → Led code notes o.Try x x i l →
        Going code notes w (i ∷ ts) (option_map (states.tried i) x) (code_then f (code_then (c.one o.Drop) (code_then (c.one o.Commit) b)))
        (walk_then g (walk_then (n.one (pops 1)) (walk_then (n.one untried) e))) itself R
    dropped rest i l led = then_goes code notes beside (first i l led) (λ z k.
        then_goes code notes counted.just (drop_next found code notes w (i ∷ ts) (rules.tried al) qc k) (λ v m.
        then_goes code notes counted.just (commits_go [] i l led (λ y e. with_none i y (m y e))) (λ u d.
        outside code notes i (rest u d))))

    module _ (qb : Sort) {b : Maker} {e : Walk} (beside_b : Beside b e) (fit : Fit qb q)
        (branch : (v : Option State) → If v (Inside code notes found w ts al ys sc2 a) →
        Going code notes w ts v b e itself (IsValue code notes qb v)) where
      held_inside : (v : Option State) → If v (Held []) → If v (Inside code notes found w ts al ys sc2 a)
      held_inside v d y i = let k = d y i in subst (Inside code notes found w ts al ys sc2 a) (sym k.above) k.inside

      within : (i l : ℕ) → Led code notes o.Try x x i l →
          Going code notes w (i ∷ ts) (option_map (states.tried i) x)
          (code_then f (code_then (c.one o.Drop) (code_then (c.one o.Commit) b)))
          (walk_then g (walk_then (n.one (pops 1)) (walk_then (n.one untried) e))) itself (Settles code notes ts qb x)
      within = dropped (λ v d. weaker found code notes w ts al (branch v (held_inside v d)) (settles_value qb v d))

      all_beside : Beside (code_then f (code_then (c.one o.Drop) (code_then (c.one o.Commit) b)))
          (walk_then g (walk_then (n.one (pops 1)) (walk_then (n.one untried) e)))
      all_beside = counted.both beside (counted.both counted.just (counted.both counted.just beside_b))

      -- `if` with an `else`
      pub else_goes : (qd : Sort) {h : Maker} {j : Walk} → Begins j → Fit qd q →
          Going code notes w ts x h j itself (IsValue code notes qd x) →
          Going code notes w ts x (c.either o.Try (code_then f (code_then (c.one o.Drop) (code_then (c.one o.Commit) b))) h)
          (n.either_try (walk_then g (walk_then (n.one (pops 1)) (walk_then (n.one untried) e))) j) (with_value q x) (λ z. Unit {0})
      else_goes qd begins fit_d other = tests_go q qb qd fit all_beside begins within (lands_goes code notes q other
          (value_lands qd fit_d))
        where
          value_lands : (qd : Sort) → Fit qd q → (z : State) → IsValue code notes qd x z → Lands code notes q x z
          value_lands qd f z k = settled_lands code notes ts qd q f z (value_settles code notes ts qd calm z k)

      -- and without: its value is unit where a condition fails
      pub alone_goes : Fit s.unit q →
          Going code notes w ts x (c.either o.Try (code_then f (code_then (c.one o.Drop) (code_then (c.one o.Commit) b))) (c.one o.Unit))
          (n.either_try (walk_then g (walk_then (n.one (pops 1)) (walk_then (n.one untried) e))) n.last) (with_value q x)
          (λ z. Unit {0})
      alone_goes fit_u = tests_go q qb s.unit fit all_beside (λ at y. starts) within
          (last_goes code notes (c.one o.Unit) (λ s. o.Unit) (λ s. refl) [] calm (over_itself code notes) q
          (λ y i s m. step.unit_asked code notes y (here y i).even m fit_u))

    -- a value in the place of those of the conditions
    gives_held : (op : Spot → Op) (b : Maker) → OneItem b op → (qs : List Sort) (h : Change) →
        ((y : State) → h (over qs y) ≡ over (q ∷ []) y) →
        ((y : State) → Even y → (s : Spot) → Meets code notes (over (q ∷ []) y) (suc s.at) →
        Asked code notes s.at (pt (over qs y)) (op s)) → (v : Option State) → If v (Held qs) →
        Going code notes w ts v b (n.one h) itself (Settles code notes ts q x)
    gives_held op b single qs h same asks v held = just_goes code notes b op single
        (λ z e. let k = held z e in subst (Steady code notes ts) (sym k.above) (steady_over code notes qs (steady_of code notes k.inside)))
        (λ z e s room m. let k = held z e in
        subst (λ v. Asked code notes s.at (pt v) (op s)) (sym k.above) (asks k.state k.inside.even s
        (subst (λ v. Meets code notes v (suc s.at)) (ap h k.above ∙ same k.state) m)))
        (λ z e s room. let k = held z e in let new = ap h k.above ∙ same k.state in record {
          before = k.before;
          is = k.is;
          state = k.state;
          above = new;
          after = k.after;
          steady = subst (Steady code notes ts) (sym new) (steady_over code notes (q ∷ []) (steady_of code notes k.inside));
        })

    false_goes : Fit s.nil q → Going code notes w ts x (c.one o.False) n.last (with_value q x) (λ z. Unit {0})
    false_goes fit = last_goes code notes (c.one o.False) (λ s. o.False) (λ s. refl) [] calm (over_itself code notes) q
        (λ y i s m. step.false_asked code notes y (here y i).even m fit)

    -- `option` holds the last condition's value
    pub option_goes : (pl : Place) → Fit (s.opt qc) q →
        Going code notes w ts x (c.either o.Try (code_then f (code_then (c.one o.Commit) (c.placed pl o.Some))) (c.one o.False))
        (n.either_try (walk_then g (walk_then (n.one untried) (n.one (gives 1 q)))) n.last) (with_value q x) (λ z. Unit {0})
    option_goes pl fit = tests_go q q s.nil (fits_itself (parent_of notes) q)
        (counted.both beside (counted.both counted.just (counted.at_place o.Some))) (λ at y. starts)
        (λ i l led. then_goes code notes beside (first i l led) (λ z k.
        then_goes code notes counted.just (commits_go (qc ∷ []) i l led (λ y e. with_last i qc y (k y e))) (λ v d.
        outside code notes i (gives_held (λ s. o.Some s.place) (c.placed pl o.Some) (λ s. refl) (qc ∷ []) (gives 1 q)
        (λ y. ap (λ st. over (q ∷ []) (record y { stack = st })) (drop_none y.stack))
        (λ y even s m. step.some_asked code notes y even m s.place fit) v d))))
        (false_goes (fits_on (parent_of notes) nil_opt fit))

    -- `logic` tells whether they hold
    pub logic_goes : Fit s.logic q →
        Going code notes w ts x (c.either o.Try (code_then f (code_then (c.one o.Drop) (code_then (c.one o.Commit) (c.one o.True))))
        (c.one o.False))
        (n.either_try (walk_then g (walk_then (n.one (pops 1)) (walk_then (n.one untried) (n.one (gives 0 q))))) n.last)
        (with_value q x) (λ z. Unit {0})
    logic_goes fit = tests_go q q s.nil (fits_itself (parent_of notes) q)
        (counted.both beside (counted.both counted.just (counted.both counted.just counted.just))) (λ at y. starts)
        (dropped (gives_held (λ s. o.True) (c.one o.True) (λ s. refl) [] (gives 0 q) (gives_is q)
        (λ y even s m. step.true_asked code notes y even m fit)))
        (false_goes (fits_on (parent_of notes) nil_logic fit))
