-- A generator: behind its domain the turns, with the clauses that follow in a Try of their own.
use Rattle.std.proofs.Common.{◌≡◌, ℕ, suc, ◌+◌, ◌≤◌, ◌<◌, length, List, ◌∷◌, Option, Some, None, refl, sym, ◌∙◌, subst, ap, arith}
use Rattle.std.specs.Prelude.{option_map}
use Rattle.std.proofs.lemmas.Option.{none-some, same_Some}
use Rattle.verse_code.specs.declared.codes.Code.{Code}
use Rattle.verse_code.specs.declared.operations.Op.{Op}
use Rattle.verse_code.specs.declared.operations.Op.TheVariants as o
use Rattle.verse_names_tables.specs.Names.{Table}
use Rattle.verse_sorts.specs.Sorts as s
use Rattle.verse_sorts.specs.Sorts.{Sort, Fits}
use Rattle.verse_sorts.specs.Typing.{at}
use Rattle.verse_sorts.proofs.Fitting.{all_itself}
use Rattle.verse_sound_rules.specs.Found as rules
use Rattle.verse_sound_rules.specs.Found.{Allowed, tried}
use Rattle.verse_verify_kept.specs.Notes.{Notes, parent_of}
use Rattle.verse_verify_kept.specs.Rules.{Asked, Quiet, Domain}
use Rattle.lower_code.specs.Pieces as c
use Rattle.lower_code.specs.Pieces.{Maker}
use Rattle.lower_code.specs.declared.arounds.Around.{Around}
use Rattle.lower_code.specs.Scopes.{Scope, Slot, hidden}
use Rattle.lower_notes.specs.States.{State, Change, spot_of, with_local, turns_with, untried}
use Rattle.lower_notes.specs.States as states
use Rattle.lower_notes.specs.Stretches as n
use Rattle.lower_notes.specs.Stretches.{Walk}
use Rattle.lower_notes.specs.Laws.{Beside}
use Rattle.lower_notes.proofs.Counted as counted
use Rattle.lower_notes.proofs.Counted.{code_then, walk_then}
use Rattle.lower_pass_states.proofs.Points.{pt, Even, over, opened, drop_none}
use Rattle.lower_pass_states.proofs.Locals.{is_at, with_here, with_other}
use Rattle.lower_pass_states.proofs.Meeting.{Meets, MeetsAt, Below, meets_below, Each, entries}
use Rattle.lower_pass_stretches.proofs.Names.{Sees, SameBelow, sees_hidden}
use Rattle.lower_pass_stretches.proofs.Going.{Way, If, itself, Going, Steady, then_goes, outside}
use Rattle.lower_pass_stretches.proofs.Single.{just_goes}
use Rattle.lower_pass_stretches.proofs.Combined.{Led, if_map}
use Rattle.lower_pass_stretches.proofs.Inside.{Inside, steady_of}
use Rattle.lower_pass_contexts.proofs.Contexts.{opened_try}
use Rattle.lower_pass_contexts.proofs.Scopes.{inside_with}
use Rattle.lower_pass_contexts.proofs.After.{After, after_itself, after_bound}
use Rattle.lower_pass_forms.proofs.Finishing.{steady_over}
use Rattle.lower_pass_blocks.proofs.Binding.{bound}
use Rattle.lower_pass_loops.proofs.Placing.{using_goes}
use Rattle.lower_pass_loops.proofs.Taking.{take_asked}
use Rattle.lower_pass_loops.proofs.Turns.{turns_go}
use Rattle.lower_pass_loops.proofs.Generated.{inside_tried, quiet_label}
use Rattle.lower_pass_loops.proofs.Levels.{Listed, listed_with, Level, Outer, Ends, LevelGoes, PartGoes, Above, above_level}
use Rattle.lower_pass_loops.proofs.Levels.{commit_goes}

pub below_with : (l : ℕ) (q : Sort) (ls : List Sort) → SameBelow l ls (with_local l q ls)
below_with l q ls k h = with_other l k q ls (not_same h)
  where
    not_same : {n i : ℕ} → n < i → n ≡ i → ⊥
    not_same h e = omega (arith, h, e)

pub behind_try : (i : ℕ) (y : State) → untried (states.tried i y) ≡ y
behind_try i y = ap (λ ms. record y { tries = ms }) (drop_none y.tries)

-- what a Take writes for the domain is of the sort that is there
pub data Kept (d : Sort) : ℕ → Sort → Type 0 where
  kept_domain : Kept d 0 d
  kept_count : Kept d 1 s.int

kept_at : {d x : Sort} {m : ℕ} (l : ℕ) (ls : List Sort) → Kept d m x → at ls l ≡ Some d → at ls (suc l) ≡ Some s.int →
    (at ls (l + m) ≡ Some x) × (l + m < suc (suc l))
kept_at {d} l ls kept_domain e f = let z : l ≡ l + 0 = omega arith in (subst (λ i. at ls i ≡ Some d) z e, omega arith)
kept_at l ls kept_count e f = let z : suc l ≡ l + 1 = omega arith in (subst (λ i. at ls i ≡ Some s.int) z f, omega arith)

module _ (code : Code) (notes : Notes) where
  -- a turn takes a value of a sort, and what stands beside it
  pub record Taken (d p q : Sort) : Type 0 where
    pub value : Sort
    pub beside : Sort
    pub many : ℕ
    pub again : Sort
    pub domain : Domain code notes d value beside many again
    pub first : Fits (parent_of notes) value p
    pub second : Fits (parent_of notes) beside q
    pub kept : Kept d many again

  pub after_is_below : {x y : State} → After code notes 0 x y → Below code notes y x
  after_is_below {x} {y} h = record {
    func = h.func;
    arm = h.arm;
    block = h.block;
    outer = h.outer;
    under = h.under;
    tries = h.tries;
    locals = h.locals;
    stack = subst (λ st. Each code notes y.stack st) h.stack (all_itself (parent_of notes) y.stack);
    defers = ap entries h.since;
  }

module _ (found : rules.Found) (code : Code) (notes : Notes) (w : Way) (ts : List ℕ) (al : Allowed) (a : Around) (list : ℕ)
    (given : Sort) (xs : Table) (sc : Scope) (d : Sort) where
  abbrev l : ℕ
  l = length sc

  -- behind the local of the domain, and the next one
  abbrev two_more : Scope
  two_more = hidden ∷ hidden ∷ sc

  abbrev with_domain : Change
  with_domain y = bound (suc l) s.int (bound l d y)

  abbrev Clauses : Table → Scope → Maker → Walk → Type 0
  Clauses = LevelGoes found code notes w ts al a list given

  abbrev InLevel : ℕ → Option State → Table → Scope → State → Type 0
  InLevel = Level found code notes w ts al a list given

  abbrev Behind : Option State → State → Type 0
  Behind began = Outer found code notes w ts al a list given began xs sc

  abbrev AboveIt : List Sort → (State → Type 0) → State → Type 0
  AboveIt = Above found code notes w ts al a list given

  abbrev EndsAs : Option State → State → Type 0
  EndsAs = Ends found code notes w ts al a list given

  abbrev HasList : Scope → List Sort → Type 0
  HasList = Listed found code notes w ts al a list given

  more_listed : {slots : Scope} {ls : List Sort} (slot : Slot) (r : Sort) → HasList slots ls →
      HasList (slot ∷ slots) (with_local (length slots) r ls)
  more_listed slot r h = listed_with found code notes w ts al a list given slot r h

  -- where a turn may begin
  pub record Waiting (began : Option State) (y : State) : Type 0 where
    pub base : State
    pub is : began ≡ Some base
    pub after : After code notes 0 base y
    pub inside : Inside code notes found w ts al xs two_more a y
    pub listed : HasList two_more y.locals
    pub domain : at y.locals l ≡ Some d
    pub count : at y.locals (suc l) ≡ Some s.int
    pub quiet : (z : ℕ) → l < suc z → Quiet code notes z ts

  steady_waiting : {began : Option State} {y : State} → Waiting began y → Steady code notes ts y
  steady_waiting h = steady_of code notes h.inside

  module _ (free : suc (suc (suc (suc l))) ≤ w.size) where
    l_free : l < w.size
    l_free = omega (arith, free)

    next_free : suc l < w.size
    next_free = omega (arith, free)

    in_locals : (k : ℕ) (y : State) → k < w.size → w.size ≤ length y.locals → k < length y.locals
    in_locals k y h r = omega (arith, h, r)

    nothing_at : {slots : Scope} {y : State} → length slots < w.size → Inside code notes found w ts al xs slots a y →
        at y.locals (length slots) ≡ Some s.none
    nothing_at {slots} {y} h g =
        let there = is_at y.locals (length slots) (in_locals (length slots) y h g.room) in
        there.1 ∙ ap Some (g.blank (length slots) there.0 (same (length slots)) there.1)
      where
        same : (k : ℕ) → k ≤ k
        same k = omega arith

    not_next : (k : ℕ) → k ≡ suc k → ⊥
    not_next k e = omega (arith, e)

    not_before : (k : ℕ) → suc k ≡ k → ⊥
    not_before k e = omega (arith, e)

    waiting_of : {began : Option State} (y : State) → Behind began y → Waiting began (with_domain y)
    waiting_of y h =
        let one : Inside code notes found w ts al xs (hidden ∷ sc) a (bound l d y) =
        inside_with code notes hidden xs d l_free h.inside (sees_hidden found (below_with l d y.locals) h.inside.sees) in
        let two : Inside code notes found w ts al xs two_more a (with_domain y) =
        inside_with code notes hidden xs s.int next_free one
        (sees_hidden found (below_with (suc l) s.int (bound l d y).locals) one.sees) in
        record {
          base = h.base;
          is = h.is;
          after = after_bound code notes (after_bound code notes h.after l d (nothing_at l_free h.inside)) (suc l) s.int
              (nothing_at next_free one);
          inside = two;
          listed = more_listed hidden s.int (more_listed hidden d h.listed);
          domain = with_other (suc l) l s.int (bound l d y).locals (not_next l) ∙
              with_here l d y.locals (in_locals l y l_free h.inside.room);
          count = with_here (suc l) s.int (bound l d y).locals (in_locals (suc l) (bound l d y) next_free one.room);
          quiet = λ z k. h.inside.quiet z (at_least k);
        }
      where
        at_least : {i k : ℕ} → i < suc k → i ≤ k
        at_least h = omega (arith, h)

    -- the domain goes into its local
    module _ (ds : List Sort) (op : Op) (domain : Change) (domain_is : (y : State) → domain (over ds y) ≡ with_domain y)
        (asks : (y : State) → Even y → (i : ℕ) → Meets code notes (domain (over ds y)) (suc i) → suc l < length y.locals →
        Quiet code notes l (opened y) → Quiet code notes (suc l) (opened y) → Asked code notes i (pt (over ds y)) op) where
      domain_goes : {began v : Option State} → If v (AboveIt ds (Behind began)) →
          Going code notes w ts v (c.one op) (n.one domain) itself (Waiting began)
      domain_goes {began} above = just_goes code notes (c.one op) (λ s. op) (λ s. refl)
          (λ z e. let k = above z e in subst (Steady code notes ts) (sym k.1.1)
          (steady_over code notes ds (steady_of code notes k.1.0.inside)))
          (λ z e s room m. let k = above z e in let h = k.1.0.inside in subst (λ v. Asked code notes s.at (pt v) op) (sym k.1.1)
          (asks k.0 h.even s.at (subst (λ v. Meets code notes (domain v) (suc s.at)) k.1.1 m) (in_locals (suc l) k.0 next_free h.room)
          (subst (Quiet code notes l) (sym h.names) (h.quiet l (same l)))
          (subst (Quiet code notes (suc l)) (sym h.names) (h.quiet (suc l) (more l)))))
          (λ z e s room. let k = above z e in subst (Waiting began) (sym (ap domain k.1.1 ∙ domain_is k.0)) (waiting_of k.0 k.1.0))
        where
          same : (k : ℕ) → k ≤ k
          same k = omega arith

          more : (k : ℕ) → k ≤ suc k
          more k = omega arith

    -- a turn: its values go into the two locals behind
    module _ (p q : Sort) (taken : Taken code notes d p q) (slot other : Slot) (zs ys : Table)
        (sees : (ls : List Sort) → suc (suc l) < length ls → Sees found al.this xs two_more ls →
        Sees found al.this zs (slot ∷ two_more) (with_local (suc (suc l)) p ls))
        (sees_other : (ls : List Sort) → suc (suc (suc l)) < length ls → Sees found al.this zs (slot ∷ two_more) ls →
        Sees found al.this ys (other ∷ slot ∷ two_more) (with_local (suc (suc (suc l))) q ls)) where
      abbrev turn : Change
      turn = turns_with (suc (suc l)) p q

      abbrev four_more : Scope
      four_more = other ∷ slot ∷ two_more

      third_free : suc (suc l) < w.size
      third_free = omega (arith, free)

      fourth_free : suc (suc (suc l)) < w.size
      fourth_free = omega (arith, free)

      inside_one : {began : Option State} {y : State} → Waiting began y →
          Inside code notes found w ts al zs (slot ∷ two_more) a (bound (suc (suc l)) p y)
      inside_one {y = y} h = inside_with code notes slot zs p third_free h.inside
          (sees y.locals (in_locals (suc (suc l)) y third_free h.inside.room) h.inside.sees)

      inside_turn : {began : Option State} {y : State} → Waiting began y → Inside code notes found w ts al ys four_more a (turn y)
      inside_turn {y = y} h = let one = inside_one h in inside_with code notes other ys q fourth_free one
          (sees_other (bound (suc (suc l)) p y).locals
          (in_locals (suc (suc (suc l))) (bound (suc (suc l)) p y) fourth_free one.room) one.sees)

      after_turn : {began : Option State} {y : State} → Waiting began y → After code notes 0 y (turn y)
      after_turn {y = y} h =
          let here : at y.locals (suc (suc l)) ≡ Some s.none = nothing_at third_free h.inside in
          let there = is_at (bound (suc (suc l)) p y).locals (suc (suc (suc l)))
          (in_locals (suc (suc (suc l))) (bound (suc (suc l)) p y) fourth_free (inside_one h).room) in
          after_bound code notes (after_bound code notes (after_itself code notes y) (suc (suc l)) p here) (suc (suc (suc l))) q
          (there.1 ∙ ap Some ((inside_one h).blank (suc (suc (suc l))) there.0 (same (suc (suc (suc l)))) there.1))
        where
          same : (k : ℕ) → k ≤ k
          same k = omega arith

      below_turn : {began : Option State} {y : State} → Waiting began y → Below code notes (turn y) y
      below_turn h = after_is_below code notes (after_turn h)

      level_turn : (i label : ℕ) {began : Option State} (y : State) → Led code notes o.Try (Some (turn y)) (Some y) i label →
          Waiting began y → InLevel i (Some (turn y)) ys four_more (states.tried i (turn y))
      level_turn i label y led h = record {
        base = turn y;
        is = refl;
        even = (inside_turn h).even;
        here = led.here;
        within = record { tries = refl; stack = refl; defers = refl };
        after = subst (After code notes 0 (turn y)) (sym (behind_try i (turn y))) (after_itself code notes (turn y));
        inside = inside_tried code notes i led.here (opened_try code notes i label (inside_turn h).even h.inside.even led)
            (λ z k. quiet_label code notes i label led h.inside z (fewer l k)) (inside_turn h);
        outer = subst (Inside code notes found w ts al ys four_more a) (sym (behind_try i (turn y))) (inside_turn h);
        listed = more_listed other q (more_listed slot p h.listed);
      }
        where
          fewer : (n : ℕ) {k : ℕ} → suc (suc (suc (suc n))) ≤ k → suc (suc n) ≤ k
          fewer n h = omega (arith, h)

      module _ {f : Maker} {g : Walk} (beside : Beside f g) (rest : Clauses ys four_more f g) where
        turn_goes : {began : Option State} (v : Option State) → If v (Waiting began) →
            Going code notes w ts v
            (c.from_here (λ i. code_then (c.ahead o.Jump (c.ahead o.Try f)) (c.one (o.Take l (suc (suc l)) (suc i)))))
            (walk_then (n.ahead (n.always turn) (n.always n.same) (n.attempt g)) n.last) itself (EndsAs began)
        turn_goes {began} v waiting = turns_go code notes turn (EndsAs began) (o.Take l (suc (suc l)))
            beside (λ y e. steady_waiting (waiting y e))
            (if_map code notes (Steady code notes ts) turn v (λ y e. steady_of code notes (inside_turn (waiting y e))))
            (λ i label led. rest i (option_map turn v) (option_map (states.tried i) (option_map turn v)) (levels i label led))
            (λ z ends i m. lands v waiting z ends i m)
            (λ y e i m. meets_below code notes (below_turn (waiting y e)) m)
            (λ y e i j m t. let h = waiting y e in
            let held = kept_at l y.locals taken.kept h.domain h.count in
            take_asked code notes y h.inside.even l taken.many taken.domain h.domain h.count held.0 held.1 taken.first taken.second m t
            (in_locals (suc (suc (suc l))) y fourth_free h.inside.room)
            (λ z k. subst (Quiet code notes z) (sym h.inside.names) (h.quiet z k)))
            (λ y e. let h = waiting y e in (h.base, (h.is, h.after)))
          where
            levels : (i label : ℕ) → Led code notes o.Try (option_map turn v) v i label →
                If (option_map (states.tried i) (option_map turn v)) (InLevel i (option_map turn v) ys four_more)
            levels i label led = from v waiting led
              where
                from : (v : Option State) → If v (Waiting began) → Led code notes o.Try (option_map turn v) v i label →
                    If (option_map (states.tried i) (option_map turn v)) (InLevel i (option_map turn v) ys four_more)
                from None h led z e = absurd (none-some z e)
                from (Some y) h led z e = subst (InLevel i (Some (turn y)) ys four_more) (same_Some (states.tried i (turn y)) z e)
                    (level_turn i label y led (h y refl))

            lands : (v : Option State) → If v (Waiting began) → (z : State) → EndsAs (option_map turn v) z → (i : ℕ) →
                MeetsAt code notes v i → Meets code notes z i
            lands None h z k i m = absurd (none-some k.0 k.1.0)
            lands (Some y) h z k i m = meets_below code notes (after_is_below code notes k.1.1)
                (subst (λ u. Meets code notes u i) (same_Some (turn y) k.0 k.1.0) (meets_below code notes (below_turn (h y refl)) m))

  -- ---- a generator with what comes behind it

  module _ (ds : List Sort) (op : Op) (domain : Change) (domain_is : (y : State) → domain (over ds y) ≡ with_domain y)
      (asks : (y : State) → Even y → (i : ℕ) → Meets code notes (domain (over ds y)) (suc i) → suc l < length y.locals →
      Quiet code notes l (opened y) → Quiet code notes (suc l) (opened y) → Asked code notes i (pt (over ds y)) op)
      (p q : Sort) (taken : Taken code notes d p q) (slot other : Slot) (zs ys : Table)
      (sees : (ls : List Sort) → suc (suc l) < length ls → Sees found al.this xs two_more ls →
      Sees found al.this zs (slot ∷ two_more) (with_local (suc (suc l)) p ls))
      (sees_other : (ls : List Sort) → suc (suc (suc l)) < length ls → Sees found al.this zs (slot ∷ two_more) ls →
      Sees found al.this ys (other ∷ slot ∷ two_more) (with_local (suc (suc (suc l))) q ls))
      {f h : Maker} {g j : Walk} (beside : Beside f g)
      (inner : PartGoes found code notes w ts al a list given xs sc ds f g) (beside_rest : Beside h j)
      (rest : Clauses ys (other ∷ slot ∷ two_more) h j) where
    pub generator_goes : Clauses xs sc (code_then f (c.turning op l h))
        (walk_then g (n.turning domain (turns_with (suc (suc l)) p q) j))
    generator_goes i began u level = then_goes code notes beside (inner i u (λ z e. (level z e).inside)) (λ v above.
        using_goes code notes (suc (suc (suc (suc l)))) (code_then (c.one o.Commit) (code_then (c.one op) (c.from_here (λ k.
        code_then (c.ahead o.Jump (c.ahead o.Try h)) (c.one (o.Take l (suc (suc l)) (suc k))))))) (λ free.
        then_goes code notes counted.just (commit_goes found code notes w ts al a list given ds
        (above_level found code notes w ts al a list given ds level above)) (λ z outer.
        outside code notes i (then_goes code notes counted.just (domain_goes free ds op domain domain_is asks outer)
        (λ y waiting. turn_goes free p q taken slot other zs ys sees sees_other beside_rest rest y waiting)))))
