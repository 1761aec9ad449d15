-- Each tree comes to an outcome of its node's sort: one case for each shape.
use Rattle.std.proofs.Common.{◌≡◌, ℕ, Bool, true, false, List, [], ◌∷◌, ◌++◌, Option, Some, None, refl, sym, subst}
use Rattle.verse_base.specs.declared.places.Place.{Place}
use Rattle.verse_tree.specs.Tree.{Bytes, Tree, tree, Shape, Trees, no_trees, more_trees, Holes, no_holes, more_holes, Givens, no_givens}
use Rattle.verse_tree.specs.Tree.{more_givens}
use Rattle.verse_tree.specs.Tree as t
use Rattle.verse_tree.specs.declared.exprs.Operator.TheVariants as op
use Rattle.verse_tree.specs.declared.tables.Ref.{Ref}
use Rattle.verse_value.specs.Val as v
use Rattle.verse_value.specs.Val.{Val}
use Rattle.verse_value.specs.Operations.{text_val}
use Rattle.verse_meaning_state.specs.State.{State}
use Rattle.verse_meaning_state.specs.Waits.{Cause, never, after}
use Rattle.verse_meaning_state.specs.Turns.{sync, race, rush}
use Rattle.verse_names_tables.specs.Names.{Table}
use Rattle.verse_sorts.specs.Sorts as s
use Rattle.verse_sorts.specs.Sorts.{Sort, Fits}
use Rattle.verse_sorts.specs.Typing as ty
use Rattle.verse_sorts.specs.Typing.{Typing, Grows, Is, is_any, is_unit, is_int, is_char, is_true, is_false, is_nil, is_empty}
use Rattle.verse_sorts.specs.Typing.{is_list, is_enum, no_all}
use Rattle.verse_sorts.proofs.Fitting.{is_more, is_up, grows_itself, grows_on}
use Rattle.verse_sorts_values.proofs.Making as making
use Rattle.verse_sorts_values.proofs.Cells.{variable_named}
use Rattle.verse_meaning.specs.Programs.{Program, ref_at, trees_list, holes_list, pairs_list, givens_list, pieces, given_names}
use Rattle.verse_meaning.specs.Residuals as form
use Rattle.verse_meaning.specs.Residuals.{Env, Form, Bound, Binder, Generator, Residual, Values, generated}
use Rattle.verse_meaning.specs.Outcomes as o
use Rattle.verse_meaning.specs.Outcomes.{World, Outcome, valued, attempted, if_there, outside, suspended}
use Rattle.verse_meaning.specs.Forms.{Deeper, apply, read_bound, read_slot_of, this_of, values_of, with_taken}
use Rattle.verse_meaning.specs.Forms as forms
use Rattle.verse_meaning.specs.Evaluating.{Statement, plain, defines, defers, generates, statement_of, statement_of_shape, Callee, alone}
use Rattle.verse_meaning.specs.Evaluating.{of_object, of_value, of_quotient}
use Rattle.verse_meaning.specs.Evaluating.{no_callee, callee_of, spawned_callee, picked, number_of, on_bool, none_left, pattern_fits}
use Rattle.verse_meaning.specs.Evaluating.{base_of, mode_of, class_ref}
use Rattle.verse_meaning.specs.Evaluating.{enum_member, member_form, ev, ev_shape, statements, inner, inner_shape, all_args, quotient}
use Rattle.verse_meaning.specs.Evaluating.{clauses, level, levelled}
use Rattle.verse_meaning.specs.Evaluating.{generates_from, by_callee, named, membered, chosen, arm_of, spawned}
use Rattle.verse_meaning.specs.Runs.{deeper}
use Rattle.verse_meaning.specs.Laws.{Calm, Keeps}
use Rattle.verse_sound_rules.specs.Found.{Found, Allowed, tried, armed, deferred, looped}
use Rattle.verse_sound_rules.specs.Forms.{NameIs, is_local, is_key_name, is_field, Gives}
use Rattle.verse_sound_rules.specs.Fine as fine
use Rattle.verse_sound_rules.specs.Fine.{sort_at, sorts_at, hole_sorts, pair_sorts, given_sorts, last_sort, inner_sort, object_sort}
use Rattle.verse_sound_rules.specs.Fine.{target_sorts, target_sorts_of}
use Rattle.verse_sound_rules.specs.Fine.{on_callee, on_member, on_statement, seen_behind, seen_after, stated_behind, Generates, Defines}
use Rattle.verse_sound_rules.specs.Fine.{IsEnumValue, is_enum_value}
use Rattle.verse_sound_rules.specs.Fine.{ArmFits, arm_fits, no_subject}
use Rattle.verse_sound_rules.proofs.Both.{both_gives}
use Rattle.verse_sound_trees.specs.Names.{Holds, holds_value, holds_cell, Sees}
use Rattle.verse_sound_trees.specs.Outcomes.{any_names, gives, fails, returns, breaks}
use Rattle.verse_sound_trees.specs.Going.{Level, bare, turns, Kept, LeftAt, Ready, Comes, Within}
use Rattle.verse_sound_trees.proofs.Names.{sees_more}
use Rattle.verse_sound_trees.proofs.Worlds.{later_itself, ready_false, cells_of}
use Rattle.verse_sound_trees.proofs.Going.{forget, attempted_typed, told_typed, still_told, gives_value, up_to}
use Rattle.verse_sound_trees.proofs.Going.{valued_typed, Frames, then}
use Rattle.verse_sound_trees.specs.Deep.{Known}
use Rattle.verse_sound_trees.proofs.Suspending.{outside_typed, suspended_typed}
use Rattle.verse_sound_trees.proofs.Objects.{field_there, slot_told}
use Rattle.verse_sound_trees.proofs.Storing.{event_told}
use Rattle.verse_sound_trees.proofs.Operands.{list_args, Well, AllWell}
use Rattle.verse_sound_trees.proofs.Applying.{form_well, this_there, known_there}
use Rattle.verse_sound_trees.specs.Bounds.{EachFits}
use Rattle.verse_sound_trees.proofs.Groups.{branch_well, group_well, AllArms}
use Rattle.verse_sound_trees.proofs.Lists.{all_are, holed_are, given_are, paired_are, targets_are, target_list, target_list_of, IsTarget}
use Rattle.verse_sound_trees.proofs.Lists.{IsTargetOf}
use Rattle.verse_sound_trees.proofs.Loops.{well_is, well_up, loop_well, takes_typed, generate_left, TakesWell, AreTaken}
use Rattle.verse_sound_trees.proofs.Statements.{EndsIf, StatedWell, stated_typed, head_of, head_sort_of, ClausedWell}
use Rattle.verse_sound_trees.proofs.Statements.{claused_typed}
use Rattle.verse_sound_trees.proofs.Levels.{Taken, taken_are, generates_taken}

no_both : {A : Type 0} → false ≡ true → A
no_both h = cc

-- a list of what fits the elements of a list fits that
list_up : {up : ℕ → Option ℕ} {q r w : Sort} → w ≡ s.list r → Fits up q r → Fits up (s.list q) w
list_up {up = up} {q = q} e f = subst (λ z. Fits up (s.list q) z) (sym e) (s.fits_list f)

-- a context that fails leaves a clock that differs in steps alone
calm_of : (w : World) {x : Outcome} (st : State) → Keeps false w x → x ≡ o.failed st → Calm w.state.clock st.clock
calm_of w st k same = subst (λ x. Keeps false w x) same k

module _ (p : Program) (f : Found) (top : Level) (fuel : ℕ) (known : Known p f top fuel) where
  abbrev WellOf : Typing → Allowed → Sort → (ℕ → World → Outcome) → Type 0
  WellOf t a b go = Well p f top fuel t a b go

  const_well : (t : Typing) (a : Allowed) (q : Sort) (e : Env) (x : Val) → ((u : Typing) → Is f.up u x q) →
      WellOf t a q (λ g w. o.value e x w)
  const_well t a q e x h l g sp rd u w gr k = gives_value p f l e x k (h u)

  -- names
  found_typed : (l : Level) (t : Typing) (a : Allowed) (q : Sort) (m : Bool) (b : Option Bound) (pl : Place) (e : Env) (w : World)
      (k : Deeper) → Kept p f l t w → Holds f t q m b →
      Comes p f l any_names t a q (read_bound b pl e w)
  found_typed l t a q m b pl e w d k (holds_value {w = x} i) = gives_value p f l e x k i
  found_typed l t a q m b pl e w d k (holds_cell {c} h) =
      told_typed p f l pl e k (slot_told p f known.fine l a (Unit {0}) t q 0 w (v.object c) k (variable_named f.up f.slots
      (cells_of p f l t w k) h))

  name_typed : (l : Level) (g : ℕ) (t : Typing) (a : Allowed) (xs : Table) (x : Bytes) (m : Option Ref) (q : Sort) (pl : Place) (e : Env)
      (w : World) → NameIs p f a xs x m q →
      Sees f t a.this xs e → Kept p f l t w → Comes p f l any_names t a q (named p (deeper p g) m x pl e w)
  unfolding named
  name_typed l g t a xs x m q pl e w (is_local {m = n} h) see k = found_typed l t a q (f.is_var n) (forms.look x e) pl e w (deeper p g) k
      (see.locals x n h)
  name_typed l g t a xs x m q pl e w (is_key_name {m = n} h) see k = found_typed l t a q false (forms.look x e) pl e w (deeper p g) k
      (see.keys x n h)
  name_typed l g t a xs x m q pl e w (is_field {c} {i} d h slot) see k =
      let y = this_there p f h see.this in
      subst (λ z. Comes p f l any_names t a q (read_slot_of z i pl e w)) (sym y.1)
      (told_typed p f l pl e k (slot_told p f known.fine l a (Unit {0}) t q i w y.0 k (field_there p f known.fine t d i q w y.0 slot y.2
      (cells_of p f l t w k))))

  -- a value of an enum, or the member of an object
  member_well : (t : Typing) (a : Allowed) (q : Sort) (e : Env) (m : Option Val) (B : Type 0) (go : ℕ → World → Outcome) → (B →
      WellOf t a q go) →
      on_member m (λ x. IsEnumValue p f q x) B → WellOf t a q (λ g w. membered p (deeper p g) m e w (λ w. go g w))
  unfolding membered
  member_well t a q e (Some x) B go h (is_enum_value i) = const_well t a q e x (λ u. is_up f.up is_enum i)
  member_well t a q e None B go h i = h i

  -- by what a callee stands for
  callee_well : (t : Typing) (a : Allowed) (q : Sort) (c : Callee) (A B C D : Form → Type 0) (f1 f2 f3 f4 : ℕ → Form → World → Outcome) →
      ((x : Form) → A x → WellOf t a q (λ g w. f1 g x w)) → ((x : Form) → B x → WellOf t a q (λ g w. f2 g x w)) → ((x : Form) → C x →
      WellOf t a q (λ g w. f3 g x w)) →
      ((x : Form) → D x → WellOf t a q (λ g w. f4 g x w)) → on_callee c A B C D →
      WellOf t a q (λ g w. by_callee p (deeper p g) c w (λ x w. f1 g x w) (λ x w. f2 g x w) (λ x w. f3 g x w) (λ x w. f4 g x w))
  unfolding by_callee
  callee_well t a q (alone x) A B C D f1 f2 f3 f4 h1 h2 h3 h4 i = h1 x i
  callee_well t a q (of_object x) A B C D f1 f2 f3 f4 h1 h2 h3 h4 i = h2 x i
  callee_well t a q (of_value x) A B C D f1 f2 f3 f4 h1 h2 h3 h4 i = h3 x i
  callee_well t a q (of_quotient x) A B C D f1 f2 f3 f4 h1 h2 h3 h4 i = h4 x i
  callee_well t a q no_callee A B C D f1 f2 f3 f4 h1 h2 h3 h4 i = absurd i

  list_well : (xs : Table) (t : Typing) (a : Allowed) (e : Env) (x : Form) (has : List Sort) (d : Sort) (ts : List Tree) →
      Gives p f a xs x has d →
      Sees f t a.this xs e → AllWell p f top fuel t a e ts has → WellOf t a d (λ g w. list_args p (deeper p g) e x [] ts a.waits w)
  list_well xs t a e x has d ts h see all = form_well p f top fuel known a xs t e x has d ts h see all

  -- lists of operands together
  all_join : (t : Typing) (a : Allowed) (e : Env) (ts : List Tree) (qs : List Sort) (us : List Tree) (rs : List Sort) →
      AllWell p f top fuel t a e ts qs →
      AllWell p f top fuel t a e us rs → AllWell p f top fuel t a e (ts ++ us) (qs ++ rs)
  all_join t a e [] [] us rs h i = i
  all_join t a e [] (q ∷ qs) us rs h i = absurd h
  all_join t a e (b ∷ ts) [] us rs h i = absurd h
  all_join t a e (b ∷ ts) (q ∷ qs) us rs h i = (h.0, all_join t a e ts qs us rs h.1 i)

  -- the arms of a `case`
  case_frames : (e : Env) (ts : Trees) → Frames p (λ z. form.args e (form.choosing ts) [] z []) (λ g y. valued y (λ z. form.args e
      (form.choosing ts) [] z [])
      (λ x w. chosen p (deeper p g) ts x true e w))
  case_frames e ts = record { resumes = λ g z i y w. refl; same_leaves = λ z. refl; kids = λ g z w. refl }

  -- where the first generator of some clauses stands
  abbrev pub head_names : Trees → Table → Table
  head_names no_trees xs = xs
  head_names (more_trees b ts) xs = head_of p f top fuel (statement_of b) xs (head_names ts (seen_behind b xs))

  abbrev pub head_sort : Sort → Trees → Sort
  head_sort q no_trees = q
  head_sort q (more_trees b ts) = head_sort_of p f top fuel (statement_of b) (inner_sort p f b) (head_sort (sort_at p f b) ts)

  -- what `StatedWell` and `ClausedWell` ask, by what is found of a statement
  stated_by : (d : Bool) (t : Typing) (a : Allowed) (xs : Table) (e : Env) (n : ℕ) (q qi : Sort) (whole inn : ℕ → World →
      Outcome) (x y : Statement) (A B C : Type 0) → y ≡ x →
      (A → WellOf t a q whole) → ((z : Binder) → y ≡ defines z → B → WellOf t a qi inn) →
      ((z : Tree) → y ≡ defers z → C → (r : Sort) × WellOf t (deferred a) r (λ g w. ev p (deeper p g) z false e w)) →
      on_statement x A (λ z. B × Fits f.up qi (f.sort n) × Defines p f z n xs) (λ z. (d ≡ true) × C × Fits f.up s.unit q) (λ z. ⊥) →
      StatedWell p f top fuel d t a xs e n q qi whole inn x
  stated_by d t a xs e n q qi whole inn plain y A B C same h1 h2 h3 i = h1 i
  stated_by d t a xs e n q qi whole inn (defines z) y A B C same h1 h2 h3 i = (h2 z same i.0, i.1, i.2)
  stated_by d t a xs e n q qi whole inn (defers z) y A B C same h1 h2 h3 i = (i.0, h3 z same i.1, i.2)
  stated_by d t a xs e n q qi whole inn (generates z) y A B C same h1 h2 h3 i = absurd i

  claused_by : (t : Typing) (a : Allowed) (xs : Table) (n : ℕ) (qi : Sort) (whole inn : ℕ → World →
      Outcome) (x y : Statement) (A B : Type 0) → y ≡ x →
      (A → WellOf t (tried a) (f.sort n) whole) → ((z : Binder) → y ≡ defines z → B → WellOf t (tried a) qi inn) →
      ((z : Generator) → y ≡ generates z → B → WellOf t (tried a) qi inn) →
      on_statement x A (λ z. B × Fits f.up qi (f.sort n) × Defines p f z n xs) (λ z. ⊥) (λ z. B × Generates p f n xs qi z) →
      ClausedWell p f top fuel t (tried a) xs n qi whole inn x
  claused_by t a xs n qi whole inn plain y A B same h1 h2 h3 i = h1 i
  claused_by t a xs n qi whole inn (defines z) y A B same h1 h2 h3 i = (h2 z same i.0, i.1, i.2)
  claused_by t a xs n qi whole inn (defers z) y A B same h1 h2 h3 i = absurd i
  claused_by t a xs n qi whole inn (generates z) y A B same h1 h2 h3 i = (h3 z same i.0, i.1)

  -- a level: what is behind its clause, or its generator's turns
  leveled_typed : (l : Level) (t : Typing) (a : Allowed) (q : Sort) (k : Deeper) (x : Statement) (y : Val) (e : Env) (so_far : Val)
      (w : World) (on_go : World → Outcome)
      (tk : Generator → Val × Val → Val → World → Outcome) (wrap : Generator → Values → Residual → Residual) → (x ≡ plain →
      Comes p f l any_names t a q (on_go w)) →
      ((z : Binder) → x ≡ defines z → Comes p f l any_names t a q (on_go w)) → ((z : Tree) → x ≡ defers z → ⊥) →
      ((z : Generator) → x ≡ generates z → Comes p f l any_names t a q (if_there (values_of z y) w (λ vs. k.takes (tk z)
      (wrap z) e vs so_far w))) →
      Comes p f l any_names t a q (levelled p k x y e so_far w on_go tk wrap)
  unfolding levelled if_there generates_from
  leveled_typed l t a q k plain y e so_far w on_go tk wrap h1 h2 h3 h4 = h1 refl
  leveled_typed l t a q k (defines z) y e so_far w on_go tk wrap h1 h2 h3 h4 = h2 z refl
  leveled_typed l t a q k (defers z) y e so_far w on_go tk wrap h1 h2 h3 h4 = absurd (h3 z refl)
  leveled_typed l t a q k (generates z) y e so_far w on_go tk wrap h1 h2 h3 h4 = h4 z refl

  there_typed : (l : Level) {t : Typing} {a : Allowed} {q : Sort} {A : Type 0} (m : Option A) (x : A) (w : World) (go : A → Outcome) →
      m ≡ Some x →
      Comes p f l any_names t a q (go x) → Comes p f l any_names t a q (if_there m w go)
  unfolding if_there
  there_typed l {t} {a} {q} m x w go h i = subst (λ z. Comes p f l any_names t a q (if_there z w go)) (sym h) i

  if_here : (l : Level) {t : Typing} {a : Allowed} {q : Sort} (b : Bool) (x y : Bool → Outcome) → Comes p f l any_names t a q (x true) →
      Comes p f l any_names t a q (y false) →
      Comes p f l any_names t a q (on_bool b x y)
  if_here l true x y h i = h
  if_here l false x y h i = i

  subject_up : (l : Level) {t : Typing} {a : Allowed} {q d b : Sort} {x : Outcome} (y : Val) → Is f.up t y q → ArmFits p f q d b →
      Comes p f l any_names t a d x → Comes p f l any_names t a b x
  subject_up l y i (arm_fits h) j = up_to p f l h j
  subject_up l y i no_subject j = elim i [ ]

  each_fits : (a : Allowed) (xs : Table) (r : Sort) (ts : Trees) → fine.FineEach p f a xs r ts → EachFits f (sorts_at p f ts) r
  each_fits a xs r no_trees h = tt
  each_fits a xs r (more_trees b ts) h = (h.1, each_fits a xs r ts h.2)

  mutual
    is_target : (a : Allowed) (xs : Table) (b : Tree) → fine.FineTarget p f a xs b → IsTarget b
    is_target a xs (tree n pl x) h = is_target_of a xs x h

    is_target_of : (a : Allowed) (xs : Table) (x : Shape) → fine.FineTargetOf p f a xs x → IsTargetOf x
    is_target_of a xs (t.Shape.name x) h = tt
    is_target_of a xs (t.Shape.member b x) h = tt
    is_target_of a xs (t.Shape.index b ts) h = is_target a xs b h.0
    is_target_of a xs x h = absurd h

  -- what `sleep` gives, when it is due
  sleeps_well : (t : Typing) (a : Allowed) (q : Sort) (e : Env) (c : World → Cause) → a.waits ≡ true →
      ((u : Typing) (w : World) → Rattle.verse_sound_trees.specs.Waiting.CauseOf f.up u q (c w)) →
      WellOf t a q (λ g w. outside a.waits w (λ w. suspended (c w) e w))
  sleeps_well t a q e c h i l g sp rd u w gr k = outside_typed p f l u a q w _ h rd (λ n same.
      subst (λ l. Comes p f l any_names u a q (suspended (c w) e w)) (sym same) (suspended_typed p f n u a q (c w) e w h (i u w) (subst
      (λ l. Kept p f l u w) same k)))

  args_of : (ts : Trees) (a : Allowed) (xs : Table) (t : Typing) (e : Env) (x : Form) (d : Sort) →
      AllWell p f top fuel t a e (trees_list ts) (sorts_at p f ts) →
      Gives p f a xs x (sorts_at p f ts) d → Sees f t a.this xs e → WellOf t a d (λ g w. all_args p (deeper p g) ts x [] a.waits e w)
  args_of ts a xs t e x d h i see =
      well_is p f top fuel t a d (λ g w. list_args p (deeper p g) e x [] (trees_list ts) a.waits w) _ (λ g w. all_are p
      (deeper p g) ts x [] a.waits e w)
      (list_well xs t a e x (sorts_at p f ts) d (trees_list ts) i see h)

  -- the body of a `for`, wherever its names are seen
  abbrev BodyWell : Allowed → Table → Tree → Type 0
  BodyWell a ys b = (u : Typing) (e : Env) → Sees f u a.this ys e → WellOf u a (sort_at p f b) (λ g w. ev p (deeper p g) b a.waits e w)

  append_frames : (e : Env) (so_far : Val) (pl : Place) → Frames p (λ z. form.args e (form.appending so_far pl) [] z [])
      (λ g y. valued y (λ z. form.args e (form.appending so_far pl) [] z []) (λ x w. apply p (deeper p g) (form.appending so_far pl)
      (x ∷ []) false e w))
  append_frames e so_far pl = record { resumes = λ g z i y w. refl; same_leaves = λ z. refl; kids = λ g z w. refl }

  -- what a value that is taken leads to
  abbrev Met : ℕ → Bool → Generator → Trees → Tree → Place → Env → Val × Val → Val → World → Outcome
  Met g m z ts b pl e x so_far w = attempted (clauses p (deeper p g) ts false (with_taken z x e) v.unit w) w
      (λ e1 y w. level p (deeper p g) ts b (λ e w. ev p (deeper p g) b m e w) pl e1 y so_far w) (λ w. o.value e so_far w)

  -- the turns of a generator
  generator_typed : (l : Level) (g : ℕ) → Within top fuel l g → (a : Allowed) → Ready l a.waits →
      (t : Typing) (c : Option ℕ) (xs : Table) (e : Env) (n : ℕ) (z : Generator) (ts : Trees)
      (b : Tree) (pl : Place) (y : Val) (q : Sort) (so_far : Val) (w : World) → Taken p f top fuel t c xs e n z y →
      Is f.up t so_far (s.list q) → Kept p f l t w →
      ((l : Level) (g : ℕ) → Within top fuel l g → Ready l a.waits → (u : Typing) (x : Val × Val) (so_far : Val) (w : World) → Grows t u →
      Sees f u c (fine.generated_behind z n xs) (with_taken z x e) → Is f.up u so_far (s.list q) → Kept p f l u w →
      Comes p f l any_names u a (s.list q) (Met g a.waits z ts b pl e x so_far w)) →
      Comes p f l any_names t a (s.list q) (if_there (values_of z y) w (λ vs. (deeper p g).takes
      (λ x so_far w. Met g a.waits z ts b pl e x so_far w)
      (λ vs r. generated e z ts b pl vs r) e vs so_far w))
  generator_typed l g sp a rd t c xs e n z ts b pl y q so_far w (taken_are {vs} d i same are names) j k met =
      there_typed l (values_of z y) vs w _ same
      (takes_typed p f top fuel l g t a (s.list q) d i _ (λ vs r. generated e z ts b pl vs r) e vs so_far w are j k
      (λ u x s1 w1 gr j1 j2 j3 k1. met l g sp rd u x s1 w1 gr (names u x gr j1 j2) j3 k1)
      (kept_going l sp))
    where
      woken : TakesWell p f top fuel a (s.list q) d i e z ts b pl t
      woken l1 g1 s1 r1 u x so1 w1 gr j1 j2 j3 k1 m =
          subst (λ m. Comes p f l1 any_names u a (s.list q) (Met g1 m z ts b pl e x so1 w1)) m (met l1 g1 s1 r1 u x so1 w1 gr
          (names u x gr j1 j2) j3 k1)

      kept_going : (l : Level) → Within top fuel l g → (u : Typing) (ws : Values) (r : Residual) → a.waits ≡ true → Grows t u →
          AreTaken p f top fuel u d i ws →
          LeftAt p f l u a (s.list q) r → LeftAt p f l u a (s.list q) (generated e z ts b pl ws r)
      kept_going bare sp u ws r m gr tk lr = lr
      kept_going (turns h) sp u ws r m gr tk lr = generate_left p f top fuel a (s.list q) d i e z ts b pl h g sp t u ws r m gr woken tk lr

  mutual
    unfolding if_there

    pub ev_well : (b : Tree) (a : Allowed) (xs : Table) (t : Typing) (e : Env) → fine.Fine p f a xs b → Sees f t a.this xs e →
        WellOf t a (sort_at p f b) (λ g w. ev p (deeper p g) b a.waits e w)
    ev_well (tree n pl x) a xs t e h see = shape_well x a xs n pl t e h see

    shape_well : (x : Shape) (a : Allowed) (xs : Table) (n : ℕ) (pl : Place) (t : Typing) (e : Env) → fine.FineShape p f a xs n pl x →
        Sees f t a.this xs e →
        WellOf t a (f.sort n) (λ g w. ev_shape p (deeper p g) x n pl a.waits e w)
    shape_well (t.Shape.block ts) a xs n pl t e h see = λ l g sp rd u w gr k.
        up_to p f l h.1 (forget p f l (all_typed ts true a xs v.unit s.any u e h.0 l g sp rd (sees_more f gr see) is_any w k))
    shape_well (t.Shape.definition x b) a xs n pl t e h see =
        list_well xs t a e form.defining (sort_at p f b ∷ []) (f.sort n) (b ∷ []) h.1 see (ev_well b a xs t e h.0 see, tt)
    shape_well (t.Shape.typed x y b) a xs n pl t e h see =
        list_well xs t a e form.defining (sort_at p f b ∷ []) (f.sort n) (b ∷ []) h.1 see (ev_well b a xs t e h.0 see, tt)
    shape_well (t.Shape.variable x y b) a xs n pl t e h see =
        list_well xs t a e (form.varying pl) (sort_at p f b ∷ []) (f.sort n) (b ∷ []) h.1 see (ev_well b a xs t e h.0 see, tt)
    shape_well (t.Shape.assignment m b d) a xs n pl t e h see =
        well_is p f top fuel t a (f.sort n) (λ g w. list_args p (deeper p g) e (form.storing (base_of p b) (mode_of m) pl) []
        (target_list b ++ d ∷ []) a.waits w) _
        (λ g w. targets_are p (deeper p g) b (form.storing (base_of p b) (mode_of m) pl) (d ∷ []) a.waits e w (is_target a xs b h.0.0))
        (list_well xs t a e (form.storing (base_of p b) (mode_of m) pl) (target_sorts p f b ++ sort_at p f d ∷ []) (f.sort n)
        (target_list b ++ d ∷ []) h.2 see
        (all_join t a e (target_list b) (target_sorts p f b) (d ∷ []) (sort_at p f d ∷ []) (target_well b a xs t e h.0.0 see)
        (ev_well d a xs t e h.1 see, tt)))
    shape_well (t.Shape.returned b) a xs n pl t e h see =
        list_well xs t a e form.returning (sort_at p f b ∷ []) (f.sort n) (b ∷ []) h.1 see (ev_well b a xs t e h.0 see, tt)
    shape_well t.Shape.returned_unit a xs n pl t e h see = λ l g sp rd u w gr k. returns h.0 h.1 (later_itself a.waits u) k
        (is_up f.up is_unit h.2)
    shape_well t.Shape.break_form a xs n pl t e h see = λ l g sp rd u w gr k. breaks h (later_itself a.waits u) k
    shape_well (t.Shape.if_else ts b d) a xs n pl t e h see = λ l g sp rd u w gr k.
        attempted_typed p f l w _ _ k (λ st same. calm_of w st ((known.leave g).conditions ts e w) same)
        (all_typed ts false (tried a) xs v.unit s.any u e h.0 l g sp (ready_false l) (sees_more f gr see) is_any w k)
        (λ u1 e1 y z g1 k1 i se. up_to p f l h.3 (ev_well b a (seen_after ts xs) u1 e1 h.1 se l g sp rd u1 z grows_itself k1))
        (λ z kz. up_to p f l h.4 (ev_well d a xs t e h.2 see l g sp rd u z gr kz))
    shape_well (t.Shape.if_alone ts b) a xs n pl t e h see = λ l g sp rd u w gr k.
        attempted_typed p f l w _ _ k (λ st same. calm_of w st ((known.leave g).conditions ts e w) same)
        (all_typed ts false (tried a) xs v.unit s.any u e h.0 l g sp (ready_false l) (sees_more f gr see) is_any w k)
        (λ u1 e1 y z g1 k1 i se. up_to p f l h.2 (ev_well b a (seen_after ts xs) u1 e1 h.1 se l g sp rd u1 z grows_itself k1))
        (λ z kz. gives_value p f l e v.unit kz (is_up f.up is_unit h.3))
    shape_well (t.Shape.negation b) a xs n pl t e h see = λ l g sp rd u w gr k.
        attempted_typed p f l w _ _ k (λ st same. calm_of w st ((known.leave g).form b e w) same)
        (ev_well b (tried a) xs t e h.0 see l g sp (ready_false l) u w gr k)
        (λ u1 e1 y z g1 k1 i se. fails h.1)
        (λ z kz. gives_value p f l e v.unit kz (is_up f.up is_unit h.2))
    shape_well (t.Shape.option ts) a xs n pl t e h see = λ l g sp rd u w gr k.
        attempted_typed p f l w _ _ k (λ st same. calm_of w st ((known.leave g).conditions ts e w) same)
        (all_typed ts false (tried a) xs v.unit s.any u e h.0 l g sp (ready_false l) (sees_more f gr see) is_any w k)
        (λ u1 e1 y z g1 k1 i se. up_to p f l h.1 (told_typed p f l pl e k1 (still_told p f l a k1 (making.option f.up tt i))))
        (λ z kz. gives_value p f l e v.falsity kz (is_up f.up is_empty h.1))
    shape_well (t.Shape.logic ts) a xs n pl t e h see = λ l g sp rd u w gr k.
        attempted_typed p f l w _ _ k (λ st same. calm_of w st ((known.leave g).conditions ts e w) same)
        (all_typed ts false (tried a) xs v.unit s.any u e h.0 l g sp (ready_false l) (sees_more f gr see) is_any w k)
        (λ u1 e1 y z g1 k1 i se. gives_value p f l e v.truth k1 (is_up f.up is_true h.1))
        (λ z kz. gives_value p f l e v.falsity kz (is_up f.up is_false h.1))
    shape_well (t.Shape.chained op.Or b d) a xs n pl t e h see = λ l g sp rd u w gr k.
        attempted_typed p f l w _ _ k (λ st same. calm_of w st ((known.leave g).form b e w) same)
        (ev_well b (tried a) xs t e h.0 see l g sp (ready_false l) u w gr k)
        (λ u1 e1 y z g1 k1 i se. gives_value p f l e y k1 (is_up f.up i h.2))
        (λ z kz. up_to p f l h.3 (ev_well d a xs t e h.1 see l g sp rd u z gr kz))
    shape_well (t.Shape.for_form ts b) a xs n pl t e h see = λ l g sp rd u w gr k.
        attempted_typed p f l w _ _ k (λ st same. ((known.undo g).first_domain ts b n pl a.waits e w st same).0)
        (clauses_typed ts a xs v.unit s.any u e h.0 (sees_more f gr see) is_any l g sp w k)
        (λ u1 e1 y z g1 k1 i se. up_to p f l (list_up h.3 h.4) (level_typed ts a xs b y s.any (v.array v.no_vals) pl u1 e1 h.0
        (λ u2 e2 se2. ev_well b a (seen_after ts xs) u2 e2 h.1 se2) l g sp rd se i (is_list no_all) z k1))
        (λ z kz. gives_value p f l e (v.array v.no_vals) kz (is_up f.up (is_list no_all) (list_up h.3 h.4)))
    shape_well (t.Shape.chained op.Div b d) a xs n pl t e h see = absurd h
    shape_well (t.Shape.chained op.And b d) a xs n pl t e h see =
        list_well xs t a e (form.computing op.And (p.is_array n) pl) (sort_at p f b ∷ sort_at p f d ∷ []) (f.sort n) (b ∷ d ∷ [])
        (both_gives p f a xs (p.is_array n) pl (sort_at p f b) (sort_at p f d) (f.sort n) h.2) see
        (ev_well b a xs t e h.0 see, (ev_well d a xs t e h.1 see, tt))
    shape_well (t.Shape.chained op.Add b d) a xs n pl t e h see =
        list_well xs t a e (form.computing op.Add (p.is_array n) pl) (sort_at p f b ∷ sort_at p f d ∷ []) (f.sort n) (b ∷ d ∷ []) h.2 see
        (ev_well b a xs t e h.0 see, (ev_well d a xs t e h.1 see, tt))
    shape_well (t.Shape.chained op.Sub b d) a xs n pl t e h see =
        list_well xs t a e (form.computing op.Sub (p.is_array n) pl) (sort_at p f b ∷ sort_at p f d ∷ []) (f.sort n) (b ∷ d ∷ []) h.2 see
        (ev_well b a xs t e h.0 see, (ev_well d a xs t e h.1 see, tt))
    shape_well (t.Shape.chained op.Mul b d) a xs n pl t e h see =
        list_well xs t a e (form.computing op.Mul (p.is_array n) pl) (sort_at p f b ∷ sort_at p f d ∷ []) (f.sort n) (b ∷ d ∷ []) h.2 see
        (ev_well b a xs t e h.0 see, (ev_well d a xs t e h.1 see, tt))
    shape_well (t.Shape.compared x b d) a xs n pl t e h see =
        list_well xs t a e (form.comparing x) (sort_at p f b ∷ sort_at p f d ∷ []) (f.sort n) (b ∷ d ∷ []) h.2 see
        (ev_well b a xs t e h.0 see, (ev_well d a xs t e h.1 see, tt))
    shape_well (t.Shape.minus b) a xs n pl t e h see =
        list_well xs t a e (form.negating pl) (sort_at p f b ∷ []) (f.sort n) (b ∷ []) h.1 see (ev_well b a xs t e h.0 see, tt)
    shape_well (t.Shape.query b) a xs n pl t e h see =
        list_well xs t a e form.querying (sort_at p f b ∷ []) (f.sort n) (b ∷ []) h.1 see (ev_well b a xs t e h.0 see, tt)
    shape_well (t.Shape.member b x) a xs n pl t e h see =
        member_well t a (f.sort n) e (enum_member p b x) _ (λ g w. list_args p (deeper p g) e (member_form (ref_at p n) x) []
        (b ∷ []) a.waits w)
        (λ i. list_well xs t a e (member_form (ref_at p n) x) (sort_at p f b ∷ []) (f.sort n) (b ∷ []) i.1 see
        (ev_well b a xs t e i.0 see, tt)) h
    shape_well (t.Shape.call b ts) a xs n pl t e h see =
        callee_well t a (f.sort n) (callee_of p b (picked ts) pl) _ _ _ _
        (λ g x w. all_args p (deeper p g) ts x [] a.waits e w)
        (λ g x w. valued (inner p (deeper p g) b a.waits e w) (λ z. form.args e x [] z (trees_list ts)) (λ y w. all_args p
        (deeper p g) ts x (y ∷ []) a.waits e w))
        (λ g x w. valued (ev p (deeper p g) b a.waits e w) (λ z. form.args e x [] z []) (λ y w. apply p (deeper p g) x
        (y ∷ []) a.waits e w))
        (λ g x w. quotient p (deeper p g) ts x a.waits e w)
        (λ x i. args_of ts a xs t e x (f.sort n) (trees_well ts a xs t e i.0 see) i.1 see)
        (λ x i. object_well b a xs t e x ts (f.sort n) i.0 (trees_well ts a xs t e i.1 see) i.2 see)
        (λ x i. list_well xs t a e x (sort_at p f b ∷ []) (f.sort n) (b ∷ []) i.1 see (ev_well b a xs t e i.0 see, tt))
        (λ x i. quotient_well ts a xs t e n x i see) h
    shape_well (t.Shape.index b ts) a xs n pl t e h see =
        callee_well t a (f.sort n) (callee_of p b form.indexing pl) _ _ _ _
        (λ g x w. all_args p (deeper p g) ts x [] a.waits e w)
        (λ g x w. valued (inner p (deeper p g) b a.waits e w) (λ z. form.args e x [] z (trees_list ts)) (λ y w. all_args p
        (deeper p g) ts x (y ∷ []) a.waits e w))
        (λ g x w. valued (ev p (deeper p g) b a.waits e w) (λ z. form.args e x [] z (trees_list ts)) (λ y w. all_args p (deeper p g) ts x
        (y ∷ []) a.waits e w))
        (λ g x w. quotient p (deeper p g) ts x a.waits e w)
        (λ x i. args_of ts a xs t e x (f.sort n) (trees_well ts a xs t e i.0 see) i.1 see)
        (λ x i. object_well b a xs t e x ts (f.sort n) i.0 (trees_well ts a xs t e i.1 see) i.2 see)
        (λ x i. well_is p f top fuel t a (f.sort n) (λ g w. list_args p (deeper p g) e x [] (b ∷ trees_list ts) a.waits w) _
        (λ g w. λ j. valued (ev p (deeper p g) b a.waits e w) (λ z. form.args e x [] z (trees_list ts)) (λ y z. all_are p
        (deeper p g) ts x (y ∷ []) a.waits e z j))
        (list_well xs t a e x (sort_at p f b ∷ sorts_at p f ts) (f.sort n) (b ∷ trees_list ts) i.2 see
        (ev_well b a xs t e i.0.0 see, trees_well ts a xs t e i.1 see)))
        (λ x i. quotient_well ts a xs t e n x i see) h
    shape_well (t.Shape.integer z) a xs n pl t e h see = const_well t a (f.sort n) e (v.int z) (λ u. is_up f.up is_int h)
    shape_well (t.Shape.character c) a xs n pl t e h see = const_well t a (f.sort n) e (v.char c) (λ u. is_up f.up is_char h)
    shape_well (t.Shape.text x) a xs n pl t e h see = const_well t a (f.sort n) e (text_val x) (λ u. is_up f.up (making.text_is f.up x) h)
    shape_well (t.Shape.holes x hs) a xs n pl t e h see =
        well_is p f top fuel t a (f.sort n) (λ g w. list_args p (deeper p g) e (form.joining (x ∷ pieces hs) pl) []
        (holes_list hs) a.waits w) _
        (λ g w. holed_are p (deeper p g) hs (form.joining (x ∷ pieces hs) pl) [] a.waits e w)
        (list_well xs t a e (form.joining (x ∷ pieces hs) pl) (hole_sorts p f hs) (f.sort n) (holes_list hs) h.1 see
        (holes_well hs a xs t e h.0 see))
    shape_well t.Shape.truth a xs n pl t e h see = const_well t a (f.sort n) e v.truth (λ u. is_up f.up is_true h)
    shape_well t.Shape.falsehood a xs n pl t e h see = const_well t a (f.sort n) e v.falsity (λ u. is_up f.up is_nil h)
    shape_well t.Shape.this a xs n pl t e h see = λ l g sp rd u w gr k.
        let y = this_there p f h.1 (sees_more f gr see).this in
        known_there p f top fuel known a l g sp rd xs w (this_of e) y.0 _ y.1 (gives_value p f l e y.0 k (is_up f.up y.2 h.2))
    shape_well (t.Shape.name x) a xs n pl t e h see = λ l g sp rd u w gr k.
        up_to p f l h.2 (name_typed l g u a xs x (ref_at p n) h.0 pl e w h.1 (sees_more f gr see) k)
    shape_well (t.Shape.tuple ts) a xs n pl t e h see = args_of ts a xs t e (form.making_tuple pl) (f.sort n)
        (trees_well ts a xs t e h.0 see) h.1 see
    shape_well (t.Shape.array ts) a xs n pl t e h see = args_of ts a xs t e (form.making_array pl) (f.sort n)
        (trees_well ts a xs t e h.0 see) h.1 see
    shape_well (t.Shape.mapping ps) a xs n pl t e h see =
        well_is p f top fuel t a (f.sort n) (λ g w. list_args p (deeper p g) e (form.making_map pl) [] (pairs_list ps) a.waits w) _
        (λ g w. paired_are p (deeper p g) ps (form.making_map pl) [] a.waits e w)
        (list_well xs t a e (form.making_map pl) (pair_sorts p f ps) (f.sort n) (pairs_list ps) h.1 see (pairs_well ps a xs t e h.0.0 see))
    shape_well (t.Shape.instance x gs) a xs n pl t e h see = λ l g sp rd u w gr k.
        known_there p f top fuel known a l g sp rd xs w (class_ref p (ref_at p n)) h.0 _ h.1
        (well_is p f top fuel t a (f.sort n) (λ g w. list_args p (deeper p g) e (form.instancing h.0 (given_names gs) pl) []
        (givens_list gs) a.waits w) _
        (λ g w. given_are p (deeper p g) gs (form.instancing h.0 (given_names gs) pl) [] a.waits e w)
        (list_well xs t a e (form.instancing h.0 (given_names gs) pl) (given_sorts p f gs) (f.sort n) (givens_list gs) h.3 see
        (givens_well gs a xs t e h.2 see))
        l g sp rd u w gr k)
    shape_well (t.Shape.event y) a xs n pl t e h see = λ l g sp rd u w gr k. up_to p f l h.1 (told_typed p f l pl e k
        (event_told p f l a h.0 k))
    shape_well t.Shape.bare_event a xs n pl t e h see = λ l g sp rd u w gr k. up_to p f l h.1 (told_typed p f l pl e k
        (event_told p f l a h.0 k))
    shape_well (t.Shape.loop_form b) a xs n pl t e h see =
        loop_well p f top fuel a h.0 (sort_at p f b) (f.sort n) b e h.2 t (ev_well b (looped h.0 a) xs t e h.1 see)
    shape_well (t.Shape.block_form b) a xs n pl t e h see = well_up p f top fuel t a (sort_at p f b) (f.sort n) (λ g w. ev p
        (deeper p g) b a.waits e w) h.1 (ev_well b a xs t e h.0 see)
    shape_well (t.Shape.cases b ts) a xs n pl t e h see = λ l g sp rd u w gr k.
        then p f top fuel l g sp u a (sort_at p f b) (f.sort n) (ev p (deeper p g) b a.waits e w) (λ z. form.args e
        (form.choosing ts) [] z [])
        (λ g y w. chosen p (deeper p g) ts y a.waits e w) rd
        (λ m. subst (λ m. Frames p (λ z. form.args e (form.choosing ts) [] z []) (λ g y. valued y (λ z. form.args e
        (form.choosing ts) [] z [])
        (λ x w. chosen p (deeper p g) ts x m e w))) (sym m) (case_frames e ts)) (λ u1 z g1 i. i)
        (ev_well b a xs t e h.0 see l g sp rd u w gr k)
        (λ l1 g1 u1 y z s1 r1 gr1 k1 i. arms_typed ts a xs (sort_at p f b) (f.sort n) u1 e y h.1 (sees_more f
        (grows_on gr gr1) see) l1 g1 s1 r1 i z k1)
    shape_well (t.Shape.branch b) a xs n pl t e h see =
        branch_well p f known.cancel top fuel a h.0 t (sort_at p f b) (f.sort n) e (λ g w. ev p (deeper p g) b true e w) h.2 (ev_well b
        (armed a) xs t e h.1 see)
    shape_well (t.Shape.sync ts) a xs n pl t e h see = group_well p f known.cancel top fuel a h.0.0 t sync pl e (f.sort n) ts
        (sorts_at p f ts) h.2 (armed_well ts a h.0.0 xs t e h.1 see)
    shape_well (t.Shape.race ts) a xs n pl t e h see =
        group_well p f known.cancel top fuel a h.0.0 t race pl e (f.sort n) ts (sorts_at p f ts) (each_fits (armed a) xs
        (f.sort n) ts h.1) (each_well ts a h.0.0 xs (f.sort n) t e h.1 see)
    shape_well (t.Shape.rush ts) a xs n pl t e h see =
        group_well p f known.cancel top fuel a h.0.0 t rush pl e (f.sort n) ts (sorts_at p f ts) (each_fits (armed a) xs
        (f.sort n) ts h.1) (each_well ts a h.0.0 xs (f.sort n) t e h.1 see)
    shape_well (t.Shape.spawn b) a xs n pl t e h see = spawned_well b a xs n t e h see
    shape_well (t.Shape.sleep d) a xs n pl t e h see = sleeps_well t a (f.sort n) e (λ w. after d w.state) h.0
        (λ u w. is_up f.up is_unit h.1)
    shape_well t.Shape.sleep_forever a xs n pl t e h see = sleeps_well t a (f.sort n) e (λ w. never) h.0 (λ u w. tt)
    shape_well x a xs n pl t e h see = absurd h

    -- statements in turn
    pub all_typed : (ts : Trees) (d : Bool) (a : Allowed) (xs : Table) (y : Val) (q : Sort) (t : Typing) (e : Env) →
        fine.FineAll p f d a xs ts → (l : Level) (g : ℕ) →
        Within top fuel l g → Ready l a.waits → Sees f t a.this xs e → Is f.up t y q → (w : World) → Kept p f l t w →
        Comes p f l (EndsIf p f d a.this (seen_after ts xs)) t a (last_sort p f q ts) (statements p (deeper p g) ts a.waits e y w)
    all_typed no_trees d a xs y q t e h l g sp rd see i w k = gives (later_itself a.waits t) k i (ends d see)
      where
        ends : (d : Bool) → Sees f t a.this xs e → EndsIf p f d a.this xs t e
        ends true see = tt
        ends false see = see
    all_typed (more_trees b ts) d a xs y q t e h l g sp rd see i w k =
        stated_typed p f top fuel d t a xs (seen_after ts (seen_behind b xs)) e (number_of b) (inner_sort p f b) (last_sort p f
        (sort_at p f b) ts) ts
        (λ g w. ev p (deeper p g) b a.waits e w) (λ g w. inner p (deeper p g) b a.waits e w) (statement_of b)
        (stated_by d t a xs e (number_of b) (sort_at p f b) (inner_sort p f b) _ _ (statement_of b) (statement_of b) _ _ _ refl
        (λ i1. ev_well b a xs t e i1 see) (λ z same i1. define_well b a xs t e z same i1 see)
        (λ z same i1. defer_well b a xs t e z same i1 see) h.0) see
        (λ l1 g1 s1 r1 u e1 y1 z gr se j k1. all_typed ts d a (seen_behind b xs) y1
        (sort_at p f b) u e1 h.1 l1 g1 s1 r1 se j z k1) l g sp rd w k

    -- the part of a definition, and a deferred block
    pub define_well : (b : Tree) (a : Allowed) (xs : Table) (t : Typing) (e : Env) (z : Binder) → statement_of b ≡ defines z →
        fine.FineInner p f a xs b → Sees f t a.this xs e →
        WellOf t a (inner_sort p f b) (λ g w. inner p (deeper p g) b a.waits e w)
    define_well (tree n pl x) a xs t e z same h see = define_shape_well x a xs pl t e z same h see

    define_shape_well : (x : Shape) (a : Allowed) (xs : Table) (pl : Place) (t : Typing) (e : Env) (z : Binder) →
        statement_of_shape x pl ≡ defines z →
        fine.FineInnerOf p f a xs x → Sees f t a.this xs e → WellOf t a (fine.inner_sort_of p f x) (λ g w. inner_shape p
        (deeper p g) x a.waits e w)
    define_shape_well (t.Shape.definition y b) a xs pl t e z same h see = ev_well b a xs t e h see
    define_shape_well (t.Shape.typed y ty b) a xs pl t e z same h see = ev_well b a xs t e h see
    define_shape_well (t.Shape.variable y ty b) a xs pl t e z same h see = ev_well b a xs t e h see
    define_shape_well (t.Shape.defer b) a xs pl t e z same h see = cc
    define_shape_well (t.Shape.elements y b) a xs pl t e z same h see = cc
    define_shape_well (t.Shape.entries y1 y b) a xs pl t e z same h see = cc
    define_shape_well (t.Shape.range y b d) a xs pl t e z same h see = cc
    define_shape_well x a xs pl t e z same h see = absurd h

    defer_well : (b : Tree) (a : Allowed) (xs : Table) (t : Typing) (e : Env) (z : Tree) → statement_of b ≡ defers z →
        fine.FineInner p f (deferred a) xs b → Sees f t a.this xs e →
        (q : Sort) × WellOf t (deferred a) q (λ g w. ev p (deeper p g) z false e w)
    defer_well (tree n pl x) a xs t e z same h see = defer_shape_well x a xs pl t e z same h see

    defer_shape_well : (x : Shape) (a : Allowed) (xs : Table) (pl : Place) (t : Typing) (e : Env) (z : Tree) →
        statement_of_shape x pl ≡ defers z →
        fine.FineInnerOf p f (deferred a) xs x → Sees f t a.this xs e → (q : Sort) × WellOf t (deferred a) q (λ g w. ev p
        (deeper p g) z false e w)
    defer_shape_well (t.Shape.defer b) a xs pl t e z same h see = (
      sort_at p f b,
      subst (λ y. WellOf t (deferred a) (sort_at p f b) (λ g w. ev p (deeper p g) y false e w)) (same_block b z same)
          (ev_well b (deferred a) xs t e h see),
    )
      where
        same_block : (x y : Tree) → defers x ≡ defers y → x ≡ y
        same_block x y h = cc
    defer_shape_well (t.Shape.definition y b) a xs pl t e z same h see = elim (no_defer same) [ ]
      where
        no_defer : {y : Binder} → defines y ≡ defers z → ⊥
        no_defer h = cc
    defer_shape_well (t.Shape.typed y ty b) a xs pl t e z same h see = elim (no_defer same) [ ]
      where
        no_defer : {y : Binder} → defines y ≡ defers z → ⊥
        no_defer h = cc
    defer_shape_well (t.Shape.variable y ty b) a xs pl t e z same h see = elim (no_defer same) [ ]
      where
        no_defer : {y : Binder} → defines y ≡ defers z → ⊥
        no_defer h = cc
    defer_shape_well (t.Shape.elements y b) a xs pl t e z same h see = elim (no_defer same) [ ]
      where
        no_defer : {y : Generator} → generates y ≡ defers z → ⊥
        no_defer h = cc
    defer_shape_well (t.Shape.entries y1 y b) a xs pl t e z same h see = elim (no_defer same) [ ]
      where
        no_defer : {y : Generator} → generates y ≡ defers z → ⊥
        no_defer h = cc
    defer_shape_well (t.Shape.range y b d) a xs pl t e z same h see = elim (no_defer same) [ ]
      where
        no_defer : {y : Generator} → generates y ≡ defers z → ⊥
        no_defer h = cc
    defer_shape_well x a xs pl t e z same h see = absurd h

    -- the domain of a generator
    domain_well : (b : Tree) (a : Allowed) (xs : Table) (t : Typing) (e : Env) (z : Generator) → statement_of b ≡ generates z →
        fine.FineInner p f (tried a) xs b → Sees f t a.this xs e →
        WellOf t (tried a) (inner_sort p f b) (λ g w. inner p (deeper p g) b false e w)
    domain_well (tree n pl x) a xs t e z same h see = domain_shape_well x a xs pl t e z same h see

    domain_shape_well : (x : Shape) (a : Allowed) (xs : Table) (pl : Place) (t : Typing) (e : Env) (z : Generator) →
        statement_of_shape x pl ≡ generates z →
        fine.FineInnerOf p f (tried a) xs x → Sees f t a.this xs e → WellOf t (tried a) (fine.inner_sort_of p f x) (λ g w. inner_shape p
        (deeper p g) x false e w)
    domain_shape_well (t.Shape.definition y b) a xs pl t e z same h see = cc
    domain_shape_well (t.Shape.typed y ty b) a xs pl t e z same h see = cc
    domain_shape_well (t.Shape.variable y ty b) a xs pl t e z same h see = cc
    domain_shape_well (t.Shape.defer b) a xs pl t e z same h see = cc
    domain_shape_well (t.Shape.elements y b) a xs pl t e z same h see = ev_well b (tried a) xs t e h see
    domain_shape_well (t.Shape.entries y1 y b) a xs pl t e z same h see = ev_well b (tried a) xs t e h see
    domain_shape_well (t.Shape.range y b d) a xs pl t e z same h see = λ l g sp rd u w gr k.
        valued_typed p f l _ _ (ev_well b (tried a) xs t e h.0 see l g sp rd u w gr k)
        (λ u1 y1 z1 g1 k1 i. valued_typed p f l _ _ (ev_well d (tried a) xs t e h.1 see l g sp rd u1 z1 (grows_on gr g1.grows) k1)
        (λ u2 y2 z2 g2 k2 j. gives_value p f l e _ k2 (ty.is_tuple (ty.more_each (is_more f.up g2.grows i) (ty.more_each j ty.no_each))))
        (λ u2 r m g2 lr. no_both m)) (λ u1 r m g1 lr. no_both m)
    domain_shape_well x a xs pl t e z same h see = absurd h

    -- the clauses of a `for`, up to a generator
    pub clauses_typed : (ts : Trees) (a : Allowed) (xs : Table) (y : Val) (q : Sort) (t : Typing) (e : Env) →
        fine.FineClauses p f (tried a) xs ts → Sees f t a.this xs e →
        Is f.up t y q → (l : Level) (g : ℕ) → Within top fuel l g → (w : World) → Kept p f l t w →
        Comes p f l (λ u e. Sees f u a.this (head_names ts xs) e) t (tried a) (head_sort q ts) (clauses p (deeper p g) ts false e y w)
    clauses_typed no_trees a xs y q t e h see i l g sp w k = gives (later_itself false t) k i see
    clauses_typed (more_trees b ts) a xs y q t e h see i l g sp w k =
        claused_typed p f top fuel l g sp t a xs (head_names ts (seen_behind b xs)) e (number_of b) (inner_sort p f b) (head_sort
        (sort_at p f b) ts) ts
        (λ g w. ev p (deeper p g) b false e w) (λ g w. inner p (deeper p g) b false e w) (statement_of b)
        (claused_by t a xs (number_of b) (inner_sort p f b) _ _ (statement_of b) (statement_of b) _ _ refl
        (λ i1. ev_well b (tried a) xs t e i1 see) (λ z same i1. define_well b (tried a) xs t e z same i1 see)
        (λ z same i1. domain_well b a xs t e z same i1 see) h.0) see
        (λ u e1 y1 z gr se j k1. clauses_typed ts a (seen_behind b xs) y1 (sort_at p f b) u e1 h.1 se j l g sp z k1) w k

    -- a level of a `for`
    pub level_typed : (ts : Trees) (a : Allowed) (xs : Table) (b : Tree) (y : Val) (q : Sort) (so_far : Val) (pl : Place) (t : Typing)
        (e : Env) → fine.FineClauses p f (tried a) xs ts →
        BodyWell a (seen_after ts xs) b → (l : Level) (g : ℕ) → Within top fuel l g → Ready l a.waits →
        Sees f t a.this (head_names ts xs) e → Is f.up t y (head_sort q ts) →
        Is f.up t so_far (s.list (sort_at p f b)) → (w : World) → Kept p f l t w →
        Comes p f l any_names t a (s.list (sort_at p f b)) (level p (deeper p g) ts b (λ e w. ev p
        (deeper p g) b a.waits e w) pl e y so_far w)
    level_typed no_trees a xs b y q so_far pl t e h hb l g sp rd see i j w k =
        then p f top fuel l g sp t a (sort_at p f b) (s.list (sort_at p f b)) (ev p (deeper p g) b a.waits e w) (λ z. form.args e
        (form.appending so_far pl) [] z [])
        (λ g y w. apply p (deeper p g) (form.appending so_far pl) (y ∷ []) false e w) rd (λ m. append_frames e so_far pl) (λ u z gr i. i)
        (hb t e see l g sp rd t w grows_itself k)
        (λ l1 g1 u y1 z s1 r1 gr k1 i1. told_typed p f l1 pl e k1 (still_told p f l1 a k1 (making.append f.up tt (is_more f.up gr j) i1)))
    level_typed (more_trees c ts) a xs b y q so_far pl t e h hb l g sp rd see i j w k =
        leveled_typed l t a (s.list (sort_at p f b)) (deeper p g) (statement_of c) y e so_far w _ _ _
        (λ same. level_typed ts a (seen_behind c xs) b y (sort_at p f c) so_far pl t e h.1 hb l g sp rd
        (subst (λ x. Sees f t a.this (head_of p f top fuel x xs (head_names ts (seen_behind c xs))) e) same see)
        (subst (λ x. Is f.up t y (head_sort_of p f top fuel x (inner_sort p f c) (head_sort (sort_at p f c) ts))) same i) j w k)
        (λ z same. level_typed ts a (seen_behind c xs) b y (sort_at p f c) so_far pl t e h.1 hb l g sp rd
        (subst (λ x. Sees f t a.this (head_of p f top fuel x xs (head_names ts (seen_behind c xs))) e) same see)
        (subst (λ x. Is f.up t y (head_sort_of p f top fuel x (inner_sort p f c) (head_sort (sort_at p f c) ts))) same i) j w k)
        (λ z same. subst (λ x. on_statement x (fine.Fine p f (tried a) xs c)
        (λ y. fine.FineInner p f (tried a) xs c × Fits f.up (inner_sort p f c) (sort_at p f c) × Defines p f y (number_of c) xs) (λ d. ⊥)
        (λ g. fine.FineInner p f (tried a) xs c × Generates p f (number_of c) xs (inner_sort p f c) g)) same h.0)
        (λ z same. generator_typed l g sp a rd t a.this xs e (number_of c) z ts b pl y (sort_at p f b) so_far w
        (generates_taken p f top fuel t a.this xs e (number_of c) (inner_sort p f c) z y
        (subst (λ x. on_statement x (fine.Fine p f (tried a) xs c)
        (λ y. fine.FineInner p f (tried a) xs c × Fits f.up (inner_sort p f c) (sort_at p f c) × Defines p f y (number_of c) xs) (λ d. ⊥)
        (λ g. fine.FineInner p f (tried a) xs c × Generates p f (number_of c) xs (inner_sort p f c) g)) same h.0).1
        (subst (λ x. Sees f t a.this (head_of p f top fuel x xs (head_names ts (seen_behind c xs))) e) same see)
        (subst (λ x. Is f.up t y (head_sort_of p f top fuel x (inner_sort p f c) (head_sort (sort_at p f c) ts))) same i)) j k
        (λ l1 g1 s1 r1 u x so1 w1 gr se j1 k1.
        attempted_typed p f l1 w1 _ _ k1 (λ st failed. ((known.undo g1).value_clauses z ts b (λ e w. ev p
        (deeper p g1) b a.waits e w) pl e x so1 w1 st failed).0)
        (clauses_typed ts a (seen_behind c xs) v.unit s.any u (with_taken z x e) h.1
        (subst (λ x1. Sees f u a.this (stated_behind x1 (number_of c) xs) (with_taken z x e)) (sym same) se) is_any l1 g1 s1 w1 k1)
        (λ u2 e2 y2 w2 gr2 k2 i2 se2. level_typed ts a (seen_behind c xs) b y2 s.any so1 pl u2 e2 h.1 hb l1 g1 s1 r1 se2 i2
        (is_more f.up gr2.grows j1) w2 k2)
        (λ w2 k2. gives_value p f l1 e so1 k2 j1)))

    -- operands
    trees_well : (ts : Trees) (a : Allowed) (xs : Table) (t : Typing) (e : Env) → fine.FineTrees p f a xs ts → Sees f t a.this xs e →
        AllWell p f top fuel t a e (trees_list ts) (sorts_at p f ts)
    trees_well no_trees a xs t e h see = tt
    trees_well (more_trees b ts) a xs t e h see = (ev_well b a xs t e h.0 see, trees_well ts a xs t e h.1 see)

    holes_well : (hs : Holes) (a : Allowed) (xs : Table) (t : Typing) (e : Env) → fine.FineHoles p f a xs hs → Sees f t a.this xs e →
        AllWell p f top fuel t a e (holes_list hs) (hole_sorts p f hs)
    holes_well no_holes a xs t e h see = tt
    holes_well (more_holes b x hs) a xs t e h see = (ev_well b a xs t e h.0 see, holes_well hs a xs t e h.1 see)

    pairs_well : (ps : t.Pairs) (a : Allowed) (xs : Table) (t : Typing) (e : Env) → fine.FinePairs p f a xs ps → Sees f t a.this xs e →
        AllWell p f top fuel t a e (pairs_list ps) (pair_sorts p f ps)
    pairs_well t.Pairs.no_pairs a xs t e h see = tt
    pairs_well (t.Pairs.more_pairs b d ps) a xs t e h see = (
      ev_well b a xs t e h.0 see,
      (ev_well d a xs t e h.1 see, pairs_well ps a xs t e h.2 see),
    )

    givens_well : (gs : Givens) (a : Allowed) (xs : Table) (t : Typing) (e : Env) → fine.FineGivens p f a xs gs → Sees f t a.this xs e →
        AllWell p f top fuel t a e (givens_list gs) (given_sorts p f gs)
    givens_well no_givens a xs t e h see = tt
    givens_well (more_givens x b gs) a xs t e h see = (ev_well b a xs t e h.0 see, givens_well gs a xs t e h.1 see)

    target_well : (b : Tree) (a : Allowed) (xs : Table) (t : Typing) (e : Env) → fine.FineTarget p f a xs b → Sees f t a.this xs e →
        AllWell p f top fuel t a e (target_list b) (target_sorts p f b)
    target_well (tree n pl x) a xs t e h see = target_shape_well x a xs t e h see

    target_shape_well : (x : Shape) (a : Allowed) (xs : Table) (t : Typing) (e : Env) → fine.FineTargetOf p f a xs x →
        Sees f t a.this xs e →
        AllWell p f top fuel t a e (target_list_of x) (target_sorts_of p f x)
    target_shape_well (t.Shape.name y) a xs t e h see = tt
    target_shape_well (t.Shape.member b y) a xs t e h see = (ev_well b a xs t e h see, tt)
    target_shape_well (t.Shape.index b ts) a xs t e h see =
        all_join t a e (target_list b) (target_sorts p f b) (trees_list ts) (sorts_at p f ts) (target_well b a xs t e h.0 see)
        (trees_well ts a xs t e h.1 see)
    target_shape_well x a xs t e h see = absurd h

    -- the object of a member, and then the arguments
    object_well : (b : Tree) (a : Allowed) (xs : Table) (t : Typing) (e : Env) (x : Form) (ts : Trees) (d : Sort) →
        fine.FineObject p f a xs b → AllWell p f top fuel t a e (trees_list ts) (sorts_at p f ts) →
        Gives p f a xs x (object_sort p f b ∷ sorts_at p f ts) d → Sees f t a.this xs e →
        WellOf t a d (λ g w. valued (inner p (deeper p g) b a.waits e w) (λ z. form.args e x [] z (trees_list ts)) (λ y w. all_args p
        (deeper p g) ts x (y ∷ []) a.waits e w))
    object_well (tree n pl y) a xs t e x ts d h i j see = object_shape_well y a xs t e x ts d h i j see

    object_shape_well : (y : Shape) (a : Allowed) (xs : Table) (t : Typing) (e : Env) (x : Form) (ts : Trees) (d : Sort) →
        fine.FineObjectOf p f a xs y → AllWell p f top fuel t a e (trees_list ts) (sorts_at p f ts) →
        Gives p f a xs x (fine.object_sort_of p f y ∷ sorts_at p f ts) d → Sees f t a.this xs e →
        WellOf t a d (λ g w. valued (inner_shape p (deeper p g) y a.waits e w) (λ z. form.args e x [] z (trees_list ts))
        (λ y w. all_args p (deeper p g) ts x (y ∷ []) a.waits e w))
    object_shape_well (t.Shape.member b nm) a xs t e x ts d h i j see =
        well_is p f top fuel t a d (λ g w. list_args p (deeper p g) e x [] (b ∷ trees_list ts) a.waits w) _
        (λ g w. λ c. valued (ev p (deeper p g) b a.waits e w) (λ z. form.args e x [] z (trees_list ts)) (λ y z. all_are p
        (deeper p g) ts x (y ∷ []) a.waits e z c))
        (list_well xs t a e x (sort_at p f b ∷ sorts_at p f ts) d (b ∷ trees_list ts) j see (ev_well b a xs t e h see, i))
    object_shape_well y a xs t e x ts d h i j see = absurd h

    quotient_well : (ts : Trees) (a : Allowed) (xs : Table) (t : Typing) (e : Env) (n : ℕ) (x : Form) →
        fine.FineQuotient p f a xs n x ts → Sees f t a.this xs e →
        WellOf t a (f.sort n) (λ g w. quotient p (deeper p g) ts x a.waits e w)
    quotient_well no_trees a xs t e n x h see = absurd h
    quotient_well (more_trees b ts) a xs t e n x h see = quotient_tree_well b a xs t e n x h see

    quotient_tree_well : (b : Tree) (a : Allowed) (xs : Table) (t : Typing) (e : Env) (n : ℕ) (x : Form) →
        fine.FineQuotientIn p f a xs n x b → Sees f t a.this xs e →
        WellOf t a (f.sort n) (λ g w. Rattle.verse_meaning.specs.Evaluating.quotient_tree p (deeper p g) b x a.waits e w)
    quotient_tree_well (tree i pl y) a xs t e n x h see = quotient_shape_well y a xs t e n x h see

    quotient_shape_well : (y : Shape) (a : Allowed) (xs : Table) (t : Typing) (e : Env) (n : ℕ) (x : Form) →
        fine.FineQuotientOf p f a xs n x y → Sees f t a.this xs e →
        WellOf t a (f.sort n) (λ g w. Rattle.verse_meaning.specs.Evaluating.quotient_shape p (deeper p g) y x a.waits e w)
    quotient_shape_well (t.Shape.chained z b d) a xs t e n x h see =
        list_well xs t a e x (sort_at p f b ∷ sort_at p f d ∷ []) (f.sort n) (b ∷ d ∷ []) h.2 see (
          ev_well b a xs t e h.0 see,
          (ev_well d a xs t e h.1 see, tt),
        )
    quotient_shape_well y a xs t e n x h see = absurd h

    -- arms of groups
    armed_well : (ts : Trees) (a : Allowed) (m : a.waits ≡ true) (xs : Table) (t : Typing) (e : Env) →
        fine.FineTrees p f (armed a) xs ts → Sees f t a.this xs e →
        AllArms p f known.cancel top fuel a m t e ts (sorts_at p f ts)
    armed_well no_trees a m xs t e h see = tt
    armed_well (more_trees b ts) a m xs t e h see = (ev_well b (armed a) xs t e h.0 see, armed_well ts a m xs t e h.1 see)

    each_well : (ts : Trees) (a : Allowed) (m : a.waits ≡ true) (xs : Table) (r : Sort) (t : Typing) (e : Env) →
        fine.FineEach p f (armed a) xs r ts → Sees f t a.this xs e →
        AllArms p f known.cancel top fuel a m t e ts (sorts_at p f ts)
    each_well no_trees a m xs r t e h see = tt
    each_well (more_trees b ts) a m xs r t e h see = (ev_well b (armed a) xs t e h.0 see, each_well ts a m xs r t e h.2 see)

    -- arms of a `case`
    arms_typed : (ts : Trees) (a : Allowed) (xs : Table) (q r : Sort) (t : Typing) (e : Env) (y : Val) → fine.FineArms p f a xs q r ts →
        Sees f t a.this xs e → (l : Level) (g : ℕ) →
        Within top fuel l g → Ready l a.waits → Is f.up t y q → (w : World) → Kept p f l t w →
        Comes p f l any_names t a r (chosen p (deeper p g) ts y a.waits e w)
    arms_typed no_trees a xs q r t e y h see l g sp rd i w k = absurd h
    arms_typed (more_trees b ts) a xs q r t e y h see l g sp rd i w k =
        arm_typed b a xs q r t e y (none_left ts) (λ w. chosen p (deeper p g) ts y a.waits e w) h.0 see l g sp rd i w k
        (more_arms_typed ts a xs q r t e y h.1 see l g sp rd i w k)

    more_arms_typed : (ts : Trees) (a : Allowed) (xs : Table) (q r : Sort) (t : Typing) (e : Env) (y : Val) →
        fine.FineMoreArms p f a xs q r ts → Sees f t a.this xs e → (l : Level) (g : ℕ) →
        Within top fuel l g → Ready l a.waits → Is f.up t y q → (w : World) → Kept p f l t w → none_left ts ≡ false →
        Comes p f l any_names t a r (chosen p (deeper p g) ts y a.waits e w)
    more_arms_typed no_trees a xs q r t e y h see l g sp rd i w k more = elim (none more) [ ]
      where
        none : true ≡ false → ⊥
        none h = cc
    more_arms_typed (more_trees b ts) a xs q r t e y h see l g sp rd i w k more =
        arm_typed b a xs q r t e y (none_left ts) (λ w. chosen p (deeper p g) ts y a.waits e w) h.0 see l g sp rd i w k
        (more_arms_typed ts a xs q r t e y h.1 see l g sp rd i w k)

    arm_typed : (b : Tree) (a : Allowed) (xs : Table) (q r : Sort) (t : Typing) (e : Env) (y : Val) (last : Bool) (go : World → Outcome) →
        fine.FineArm p f a xs q r b →
        Sees f t a.this xs e → (l : Level) (g : ℕ) → Within top fuel l g → Ready l a.waits → Is f.up t y q → (w : World) → Kept p f l t w →
        (last ≡ false → Comes p f l any_names t a r (go w)) → Comes p f l any_names t a r (arm_of p (deeper p g) b last y a.waits e w go)
    arm_typed (tree n pl x) a xs q r t e y last go h see l g sp rd i w k next = arm_shape_typed x a xs q r t e y last go h see l g sp rd i
        w k next

    arm_shape_typed : (x : Shape) (a : Allowed) (xs : Table) (q r : Sort) (t : Typing) (e : Env) (y : Val) (last : Bool) (go : World →
        Outcome) → fine.FineArmOf p f a xs q r x →
        Sees f t a.this xs e → (l : Level) (g : ℕ) → Within top fuel l g → Ready l a.waits → Is f.up t y q → (w : World) → Kept p f l t w →
        (last ≡ false → Comes p f l any_names t a r (go w)) →
        Comes p f l any_names t a r (Rattle.verse_meaning.specs.Evaluating.arm_of_shape p (deeper p g) x last y a.waits e w go)
    arm_shape_typed (t.Shape.arm b d) a xs q r t e y true go h see l g sp rd i w k next =
        subject_up l y i h.1 (ev_well d a xs t e h.0 see l g sp rd t w grows_itself k)
    arm_shape_typed (t.Shape.arm b d) a xs q r t e y false go h see l g sp rd i w k next =
        if_here l (pattern_fits p b y) _ _ (subject_up l y i h.1 (ev_well d a xs t e h.0 see l g sp rd t w grows_itself k)) (next refl)
    arm_shape_typed x a xs q r t e y last go h see l g sp rd i w k next = absurd h

    -- the call that a `spawn` starts
    spawned_well : (b : Tree) (a : Allowed) (xs : Table) (n : ℕ) (t : Typing) (e : Env) → fine.FineSpawned p f a xs n b →
        Sees f t a.this xs e →
        WellOf t a (f.sort n) (λ g w. spawned p (deeper p g) b a.waits e w)
    spawned_well (tree i pl x) a xs n t e h see = spawned_shape_well x a xs n pl t e h see

    spawned_shape_well : (x : Shape) (a : Allowed) (xs : Table) (n : ℕ) (pl : Place) (t : Typing) (e : Env) →
        fine.FineSpawnedOf p f a xs n pl x → Sees f t a.this xs e →
        WellOf t a (f.sort n) (λ g w. Rattle.verse_meaning.specs.Evaluating.spawned_shape p (deeper p g) x pl a.waits e w)
    spawned_shape_well (t.Shape.call b ts) a xs n pl t e h see =
        callee_well t a (f.sort n) (spawned_callee (callee_of p b (form.picking None) pl)) _ _ _ _
        (λ g x w. all_args p (deeper p g) ts x [] a.waits e w)
        (λ g x w. valued (inner p (deeper p g) b a.waits e w) (λ z. form.args e x [] z (trees_list ts)) (λ y w. all_args p
        (deeper p g) ts x (y ∷ []) a.waits e w))
        (λ g x w. o.halted (o.wrong w.state))
        (λ g x w. o.halted (o.wrong w.state))
        (λ x i. args_of ts a xs t e x (f.sort n) (trees_well ts a xs t e i.0 see) i.1 see)
        (λ x i. object_well b a xs t e x ts (f.sort n) i.0 (trees_well ts a xs t e i.1 see) i.2 see)
        (λ x i. absurd i) (λ x i. absurd i) h
    spawned_shape_well x a xs n pl t e h see = absurd h
