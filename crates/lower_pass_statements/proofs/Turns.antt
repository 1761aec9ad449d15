-- One statement, and those behind it.
use Rattle.std.proofs.Common.{◌≡◌, ℕ, suc, ◌+◌, List, [], ◌∷◌, Option, Some, Bool, true, false, cond, refl, sym, ◌∙◌, subst, ap}
use Rattle.std.proofs.Common.{arith}
use Rattle.verse_base.specs.declared.places.Place.{Place}
use Rattle.verse_tree.specs.Tree.{Tree, tree, Shape, Trees, no_trees, more_trees}
use Rattle.verse_tree.specs.Tree as t
use Rattle.verse_code.specs.declared.codes.Code.{Code}
use Rattle.verse_code.specs.declared.operations.Op.TheVariants as o
use Rattle.verse_names_tables.specs.Names.{Table}
use Rattle.verse_sorts.specs.Sorts as s
use Rattle.verse_sorts.specs.Sorts.{Sort, IsKnown, Fits}
use Rattle.verse_sorts.proofs.Fitting.{all_fit_on}
use Rattle.verse_sound_rules.specs.Found as rules
use Rattle.verse_sound_rules.specs.Found.{Allowed}
use Rattle.verse_sound_rules.specs.Fine.{Fine, FineAll, FineInner, sort_at, inner_sort, stated_behind, on_statement, Defines}
use Rattle.verse_meaning.specs.Programs.{Program}
use Rattle.verse_meaning.specs.Residuals.{no_name, a_constant, a_variable}
use Rattle.verse_meaning.specs.Evaluating.{Statement, plain, defines, defers, generates, statement_of, statement_of_shape}
use Rattle.verse_verify_kept.specs.Notes.{Notes, parent_of}
use Rattle.verse_verify_kept.specs.Rules.{Asked}
use Rattle.lower_code.specs.Pieces as c
use Rattle.lower_code.specs.Pieces.{Maker}
use Rattle.lower_code.specs.declared.arounds.Around.{Around}
use Rattle.lower_code.specs.Scopes.{Scope}
use Rattle.lower_code.specs.Lowering as lower
use Rattle.lower_code.specs.Lowering.{scope_stated, around_stated, any_defer, is_defer_shape}
use Rattle.lower_notes.specs.States.{State, Deferred, pops}
use Rattle.lower_notes.specs.Stretches as n
use Rattle.lower_notes.specs.Stretches.{Walk}
use Rattle.lower_notes.specs.Noting as noting
use Rattle.lower_notes.specs.Laws.{Beside}
use Rattle.lower_notes.proofs.Counted as counted
use Rattle.lower_notes.proofs.Counted.{code_then, walk_then}
use Rattle.lower_pass_states.proofs.Points.{pt, pops_over}
use Rattle.lower_pass_states.proofs.Meeting.{Meets, Each}
use Rattle.lower_pass_states.proofs.Steps.{drop_asked}
use Rattle.lower_pass_stretches.proofs.Begins.{Begins}
use Rattle.lower_pass_stretches.proofs.Going.{Way, If, itself, Going, Steady, then_goes}
use Rattle.lower_pass_stretches.proofs.Single.{just_goes, IsValue}
use Rattle.lower_pass_stretches.proofs.Inside.{Inside, Since, steady_of}
use Rattle.lower_pass_contexts.proofs.After.{After}
use Rattle.lower_pass_forms.proofs.Finishing.{steady_over}
use Rattle.lower_pass_blocks.proofs.Stated.{Next, plain_goes, defines_constant, defines_variable}
use Rattle.lower_pass_statements.proofs.Deferred.{InBlock, defers_goes}

-- ---- how many blocks are deferred

abbrev pub one_deferred : Statement → ℕ
one_deferred plain = 0
one_deferred (defines y) = 0
one_deferred (defers d) = 1
one_deferred (generates y) = 0

-- in a statement, and in several, beside k others
abbrev pub deferred_by : Statement → ℕ → ℕ
deferred_by plain k = k
deferred_by (defines y) k = k
deferred_by (defers d) k = suc k
deferred_by (generates y) k = k

abbrev pub deferred_in : ℕ → Trees → ℕ
deferred_in k no_trees = k
deferred_in k (more_trees b ts) = deferred_in (deferred_by (statement_of b) k) ts

by_one : (st : Statement) (k : ℕ) → deferred_by st k ≡ one_deferred st + k
by_one plain k = omega arith
by_one (defines y) k = omega arith
by_one (defers d) k = omega arith
by_one (generates y) k = omega arith

module _ (p : Program) (differ : ℕ → ℕ → Bool) where
  -- what stands round the place behind statements
  abbrev pub around_behind : Trees → Around → Around
  around_behind no_trees a = a
  around_behind (more_trees b ts) a = around_behind ts (around_stated p differ (statement_of b) a)

  pub stated_defers : (st : Statement) (a : Around) → (around_stated p differ st a).defers ≡ one_deferred st + a.defers
  stated_defers plain a = omega arith
  stated_defers (defines y) a = omega arith
  stated_defers (defers d) a = omega arith
  stated_defers (generates y) a = omega arith

  stated_base : (st : Statement) (a : Around) → (around_stated p differ st a).base ≡ a.base
  stated_base plain a = refl
  stated_base (defines y) a = refl
  stated_base (defers d) a = refl
  stated_base (generates y) a = refl

  pub behind_defers : (ts : Trees) (a : Around) (k : ℕ) → (around_behind ts a).defers + k ≡ deferred_in k ts + a.defers
  behind_defers no_trees a k = omega arith
  behind_defers (more_trees b ts) a k =
      more (around_behind ts (around_stated p differ (statement_of b) a)).defers (one_deferred (statement_of b)) k
      (deferred_by (statement_of b) k) (deferred_in (deferred_by (statement_of b) k) ts) a.defers
      (around_stated p differ (statement_of b) a).defers
      (behind_defers ts (around_stated p differ (statement_of b) a) (deferred_by (statement_of b) k)) (by_one (statement_of b) k)
      (stated_defers (statement_of b) a)
    where
      more : (x j k i d a e : ℕ) → x + i ≡ d + e → i ≡ j + k → e ≡ j + a → x + k ≡ d + a
      more x j k i d a e h f g = omega (arith, h, f, g)

  pub behind_base : (ts : Trees) (a : Around) → (around_behind ts a).base ≡ a.base
  behind_base no_trees a = refl
  behind_base (more_trees b ts) a = behind_base ts (around_stated p differ (statement_of b) a) ∙ stated_base (statement_of b) a

  -- ---- where none is

  -- what is known of a statement that is no deferred block
  pub record DefersNone (st : Statement) : Type 0 where
    pub one : one_deferred st ≡ 0
    pub more : (k : ℕ) → deferred_by st k ≡ k
    pub around : (a : Around) → around_stated p differ st a ≡ a

  pub no_defer : (x : Shape) (pl : Place) → is_defer_shape x ≡ false → DefersNone (statement_of_shape x pl)
  no_defer (t.Shape.defer b) pl e = absurd (cc)
  no_defer x pl e = record { one = refl; more = λ k. refl; around = λ a. refl }

  pub first_none : (a b : Bool) → cond a true b ≡ false → (a ≡ false) × (b ≡ false)
  first_none true b e = absurd (cc)
  first_none false b e = (refl, e)

  pub none_deferred : (ts : Trees) → any_defer ts ≡ false → (k : ℕ) → deferred_in k ts ≡ k
  none_deferred no_trees e k = refl
  none_deferred (more_trees (tree i pl x) ts) e k =
      let h = first_none (is_defer_shape x) (any_defer ts) e in
      none_deferred ts h.1 (deferred_by (statement_of_shape x pl) k) ∙ (no_defer x pl h.0).more k

  pub none_around : (ts : Trees) → any_defer ts ≡ false → (a : Around) → around_behind ts a ≡ a
  none_around no_trees e a = refl
  none_around (more_trees (tree i pl x) ts) e a =
      let h = first_none (is_defer_shape x) (any_defer ts) e in
      none_around ts h.1 (around_stated p differ (statement_of_shape x pl) a) ∙ (no_defer x pl h.0).around a

  not_defer : (found : rules.Found) (A B C D : Type 0) (n : ℕ) (xs : Table) (st : Statement) →
      on_statement st A (λ y. B × C × Defines p found y n xs) (λ d. D) (λ g. ⊥) → (D → ⊥) → one_deferred st ≡ 0
  not_defer found A B C D n xs plain h never = refl
  not_defer found A B C D n xs (defines y) h never = refl
  not_defer found A B C D n xs (defers d) h never = absurd (never h)
  not_defer found A B C D n xs (generates y) h never = refl

  is_none : (x : Shape) (pl : Place) → one_deferred (statement_of_shape x pl) ≡ 0 → is_defer_shape x ≡ false
  is_none (t.Shape.defer b) pl e = absurd (cc)
  is_none x pl e = refl

  -- conditions defer nothing
  pub conditions_none : (found : rules.Found) (al : Allowed) (xs : Table) (ts : Trees) → FineAll p found false al xs ts →
      any_defer ts ≡ false
  conditions_none found al xs no_trees h = refl
  conditions_none found al xs (more_trees (tree i pl x) ts) h =
      ap (λ b. cond b true (any_defer ts)) (is_none x pl (not_defer found (Fine p found al xs (tree i pl x))
      (FineInner p found al xs (tree i pl x)) (Fits found.up (inner_sort p found (tree i pl x)) (sort_at p found (tree i pl x)))
      ((false ≡ true) × FineInner p found (rules.deferred al) xs (tree i pl x) × Fits found.up s.unit (sort_at p found (tree i pl x)))
      i xs (statement_of_shape x pl) h.0 (λ d. never_so d.0))) ∙
      conditions_none found al (stated_behind (statement_of_shape x pl) i xs) ts h.1
    where
      never_so : false ≡ true → ⊥
      never_so e = absurd (cc)

-- ---- states behind statements

module _ (code : Code) (notes : Notes) where
  since_on : (x y : State) (st : Statement) (k : ℕ) (ds : List Deferred) → Each code notes y.locals x.locals →
      Since code notes y (one_deferred st) ds → Since code notes x k y.defers → Since code notes x (deferred_by st k) ds
  since_on x y plain k ds f h g = subst (Since code notes x k) (sym h) g
  since_on x y (defines b) k ds f h g = subst (Since code notes x k) (sym h) g
  since_on x y (defers b) k [] f h g = elim h [ ]
  since_on x y (defers b) k (d ∷ ds) f h g = (all_fit_on (parent_of notes) h.0 f, subst (Since code notes x k) (sym h.1) g)
  since_on x y (generates b) k ds f h g = subst (Since code notes x k) (sym h) g

  pub after_on : {x y z : State} (st : Statement) (k : ℕ) → After code notes k x y → After code notes (one_deferred st) y z →
      After code notes (deferred_by st k) x z
  after_on {x} {y} {z} st k h g = record {
    func = g.func ∙ h.func;
    arm = g.arm ∙ h.arm;
    block = g.block ∙ h.block;
    outer = g.outer ∙ h.outer;
    under = g.under ∙ h.under;
    tries = g.tries ∙ h.tries;
    stack = g.stack ∙ h.stack;
    locals = all_fit_on (parent_of notes) g.locals h.locals;
    since = since_on x y st k z.defers h.locals g.since h.since;
  }

module _ (found : rules.Found) (code : Code) (notes : Notes) (w : Way) (ts : List ℕ) (al : Allowed) where
  -- a state behind statements, in which k blocks were deferred, with no value above it
  pub record Reached (k : ℕ) (xs : Table) (sc : Scope) (a : Around) (x : Option State) (z : State) : Type 0 where
    pub before : State
    pub is : x ≡ Some before
    pub inside : Inside code notes found w ts al xs sc a z
    pub after : After code notes k before z

  abbrev NextTo : ℕ → Sort → Table → Scope → Around → Option State → State → Type 0
  NextTo k q xs sc a x z = Next found code notes w ts al k q xs sc a x z

  module _ {k : ℕ} {xs : Table} {sc : Scope} {a : Around} {x : Option State} where
    -- its value falls away
    pub drop_next : {u : Option State} (q : Sort) → If u (NextTo k q xs sc a x) →
        Going code notes w ts u (c.one o.Drop) (n.one (pops 1)) itself (Reached k xs sc a x)
    drop_next q above = just_goes code notes (c.one o.Drop) (λ s. o.Drop) (λ s. refl)
        (λ z e. let h = above z e in subst (Steady code notes ts) (sym h.above) (steady_over code notes (q ∷ [])
        (steady_of code notes h.inside)))
        (λ z e s room m. let h = above z e in
        subst (λ v. Asked code notes s.at (pt v) o.Drop) (sym h.above) (drop_asked code notes h.state h.inside.even q
        (subst (λ v. Meets code notes v (suc s.at)) (ap (pops 1) h.above ∙ pops_over q [] h.state) m)))
        (λ z e s room. let h = above z e in
        subst (Reached k xs sc a x) (sym (ap (pops 1) h.above ∙ pops_over q [] h.state)) (record {
          before = h.before;
          is = h.is;
          inside = h.inside;
          after = h.after;
        }))

    next_on : {z : Option State} (st : Statement) (r : Sort) (ys : Table) (sc2 : Scope) (a2 : Around) → If z (Reached k xs sc a x) →
        (v : State) → NextTo (one_deferred st) r ys sc2 a2 z v → NextTo (deferred_by st k) r ys sc2 a2 x v
    next_on st r ys sc2 a2 h v m = let g = h m.before m.is in record {
      before = g.before;
      is = g.is;
      state = m.state;
      above = m.above;
      inside = m.inside;
      after = after_on code notes st k g.after m.after;
    }

    -- another statement, and what is behind it
    pub next_goes : {u : Option State} {f h : Maker} {g i : Walk} {R : State → Type 0} (st : Statement) (q r : Sort) (ys : Table)
        (sc2 : Scope) (a2 : Around) → Beside f g → If u (NextTo k q xs sc a x) →
        ((z : Option State) → If z (Inside code notes found w ts al xs sc a) → Going code notes w ts z f g itself
        (NextTo (one_deferred st) r ys sc2 a2 z)) →
        ((v : Option State) → If v (NextTo (deferred_by st k) r ys sc2 a2 x) → Going code notes w ts v h i itself R) →
        Going code notes w ts u (code_then (c.one o.Drop) (code_then f h)) (walk_then (n.one (pops 1)) (walk_then g i)) itself R
    next_goes st q r ys sc2 a2 beside above stated rest = then_goes code notes counted.just (drop_next q above) (λ z e.
        then_goes code notes beside (stated z (λ y k. (e y k).inside)) (λ v m.
        rest v (λ y k. next_on st r ys sc2 a2 e y (m y k))))

  -- none is left
  pub no_more : {k : ℕ} {q : Sort} {xs : Table} {sc : Scope} {a : Around} {x u : Option State} → If u (NextTo k q xs sc a x) →
      Going code notes w ts u c.nothing n.nothing itself (NextTo k q xs sc a x)
  no_more above = record { leaves = λ s l v e. absurd (cc); exits = λ s l v. above; goes = λ s l v m. (m, tt) }

  module _ (xs : Table) (sc : Scope) (a : Around) (x : Option State) (here : If x (Inside code notes found w ts al xs sc a))
      (p : Program) (m : ℕ) (qi : Sort) (whole inner : Maker) (whole_walk inner_walk : Walk) where
    -- what is known of the parts of a statement
    abbrev pub Parts : Statement → Type 0
    Parts plain = Going code notes w ts x whole whole_walk itself (IsValue code notes (found.sort m) x)
    Parts (defines y) = Going code notes w ts x inner inner_walk itself (IsValue code notes qi x) ×
        Fits (parent_of notes) qi (found.sort m) × Defines p found y m xs
    Parts (defers d) = ((z : Option State) → If z (InBlock found code notes w ts al xs sc a x here) →
        Going code notes w ts z inner inner_walk itself (IsValue code notes qi z)) × Fits (parent_of notes) s.unit (found.sort m)
    Parts (generates y) = ⊥

    -- one statement
    pub states_go : (f : rules.Found) (differ : ℕ → ℕ → Bool) → IsKnown (found.sort m) → Beside inner inner_walk → Begins inner_walk →
        (st : Statement) → Parts st → Going code notes w ts x (lower.stated p differ st sc whole inner)
        (noting.stated p f differ st (found.sort m) sc whole_walk inner_walk) itself
        (NextTo (one_deferred st) (found.sort m) (stated_behind st m xs) (scope_stated st sc) (around_stated p differ st a) x)
    unfolding lower.stated noting.stated
    states_go f differ read beside begins plain h = plain_goes found code notes w ts al xs sc a x here (found.sort m) h
    states_go f differ read beside begins (defines no_name) h = elim h.2 [ ]
    states_go f differ read beside begins (defines (a_constant y)) h =
        defines_constant found code notes w ts al xs sc a x here y m qi h.2.0 beside h.1 h.0 h.2.1 read
    states_go f differ read beside begins (defines (a_variable y pl)) h =
        defines_variable found code notes w ts al xs sc a x here y m qi h.2.0 beside h.1 h.0 pl h.2.1
    states_go f differ read beside begins (defers d) h =
        defers_goes found code notes w ts al xs sc a x here (found.sort m) qi h.1 beside begins h.0
    states_go f differ read beside begins (generates y) h = elim h [ ]
