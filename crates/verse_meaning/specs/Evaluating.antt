-- What each form means: one case for each.
use Rattle.std.specs.Prelude.{ℕ, zero, suc, pos, neg_ℤ, List, [], ◌∷◌, ◌++◌, Option, Some, None}
use Rattle.std.specs.Prelude.{Bool, true, false, cond}
use Rattle.verse_base.specs.declared.places.Place.{Place}
use Rattle.verse_tree.specs.Tree.{Bytes, Tree, tree, Shape, Trees, no_trees, more_trees, Holes}
use Rattle.verse_tree.specs.Tree.{no_holes, more_holes, Givens, no_givens}
use Rattle.verse_tree.specs.Tree.{more_givens}
use Rattle.verse_tree.specs.Tree as t
use Rattle.verse_tree.specs.declared.exprs.Assign.{Assign}
use Rattle.verse_tree.specs.declared.exprs.Assign.TheVariants as assign
use Rattle.verse_tree.specs.declared.exprs.Operator.TheVariants as op
use Rattle.verse_tree.specs.declared.tables.Ref.{Ref}
use Rattle.verse_tree.specs.declared.tables.Ref.TheVariants as ref
use Rattle.verse_value.specs.Val.{Val, unit, falsity, truth, int, char, array, tuple, no_vals}
use Rattle.verse_value.specs.Val.{more_vals}
use Rattle.verse_value.specs.Operations.{text_val, tuple_of, option_of}
use Rattle.verse_value.specs.Equality.{val_eq}
use Rattle.verse_value.specs.declared.modes.Mode.{Mode}
use Rattle.verse_value.specs.declared.modes.Mode.TheVariants as mode
use Rattle.verse_meaning_state.specs.State.{restored}
use Rattle.verse_meaning_state.specs.Waits.{never, after}
use Rattle.verse_meaning_state.specs.Turns.{Kind, sync, race, rush}
use Rattle.verse_meaning_state.specs.Effects.{still, event_made}
use Rattle.verse_meaning.specs.Programs.{Program, same_name, ref_at, enum_value, pattern_value}
use Rattle.verse_meaning.specs.Programs.{trees_list, holes_list, pieces, pairs_list}
use Rattle.verse_meaning.specs.Programs.{givens_list, given_names}
use Rattle.verse_meaning.specs.Residuals as form
use Rattle.verse_meaning.specs.Residuals.{Env, Bound, constant, variable, Base, in_variable}
use Rattle.verse_meaning.specs.Residuals.{in_self, in_object, nowhere, Form, Binder, no_name}
use Rattle.verse_meaning.specs.Residuals.{a_constant, a_variable, Generator, of_elements}
use Rattle.verse_meaning.specs.Residuals.{of_entries, of_range, Values, Role, part, body}
use Rattle.verse_meaning.specs.Residuals.{root, Residual, leaf, args, seq, deferred, looped}
use Rattle.verse_meaning.specs.Residuals.{filling, generated, called, arms, Scope, scope, Scopes}
use Rattle.verse_meaning.specs.Residuals.{none, also, Arms, no_arms, gave, runs}
use Rattle.verse_meaning.specs.Outcomes.{World, set_behind, Outcome, value, failed, returned, broke}
use Rattle.verse_meaning.specs.Outcomes.{halted, rests, TaskOutcome, ends}
use Rattle.verse_meaning.specs.Outcomes.{stops, sleeps, Went, went, wrong, valued, attempted}
use Rattle.verse_meaning.specs.Outcomes.{dropped, on_went, went_on, on_went_task}
use Rattle.verse_meaning.specs.Outcomes.{closing, branch_started, armed, told, if_there, if_known}
use Rattle.verse_meaning.specs.Outcomes.{outside, spends, suspended, finished}
use Rattle.verse_meaning.specs.Outcomes.{not_given, all_gave, first_gave, leave_all, with_arm}
use Rattle.verse_meaning.specs.Forms.{Deeper, look, this_of, read_bound, read_slot_of, with_taken}
use Rattle.verse_meaning.specs.Forms.{values_of, apply, defined}

-- what a statement is, seen from the block or the conditions in which it stands
pub data Statement : Type 0 where
  plain : Statement
  -- of the value of its part
  defines : Binder → Statement
  defers : Tree → Statement
  generates : Generator → Statement

abbrev pub statement_of_shape : Shape → Place → Statement
statement_of_shape (t.Shape.definition x a) pl = defines (a_constant x)
statement_of_shape (t.Shape.typed x ty a) pl = defines (a_constant x)
statement_of_shape (t.Shape.variable x ty a) pl = defines (a_variable x pl)
statement_of_shape (t.Shape.defer a) pl = defers a
statement_of_shape (t.Shape.elements x a) pl = generates (of_elements x)
statement_of_shape (t.Shape.entries k x a) pl = generates (of_entries k x)
statement_of_shape (t.Shape.range x a b) pl = generates (of_range x)
statement_of_shape s pl = plain

abbrev pub statement_of : Tree → Statement
statement_of (tree n pl s) = statement_of_shape s pl

-- what a callee stands for: a form without an operand for it; with its object as the first; with its value as the first; Floor and Ceil,
-- of the operands of a quotient
pub data Callee : Type 0 where
  alone : Form → Callee
  of_object : Form → Callee
  of_value : Form → Callee
  of_quotient : Form → Callee
  no_callee : Callee

abbrev pub builtin : ℕ → Place → Callee
builtin zero pl = alone (form.printing pl)
builtin (suc zero) pl = of_quotient (form.flooring pl)
builtin (suc (suc zero)) pl = of_quotient (form.ceiling pl)
builtin (suc (suc (suc n))) pl = alone form.taking_modulo

-- by what its name stands for; `whole` is the form where the callee is a value
abbrev pub named_callee : Option Ref → Form → Place → Callee
named_callee (Some (ref.Fun f)) whole pl = alone (form.calling f)
named_callee (Some (ref.Method c m)) whole pl = alone (form.calling_own m)
named_callee (Some (ref.Builtin b)) whole pl = builtin b pl
named_callee other whole pl = of_value whole

abbrev pub await_name : Bytes
await_name = 65 ∷ 119 ∷ 97 ∷ 105 ∷ 116 ∷ []

abbrev pub signal_name : Bytes
signal_name = 83 ∷ 105 ∷ 103 ∷ 110 ∷ 97 ∷ 108 ∷ []

abbrev pub length_name : Bytes
length_name = 76 ∷ 101 ∷ 110 ∷ 103 ∷ 116 ∷ 104 ∷ []

abbrev pub member_callee : Option Ref → (of_event : Bool) → Bytes → Form → Callee
member_callee (Some (ref.Method c m)) t x whole = of_object (form.calling_method m)
member_callee (Some other) t x whole = of_value whole
member_callee None t x whole =
    cond (same_name x await_name) (of_object (form.awaiting t))
    (cond (same_name x signal_name) (of_object form.signalling) (of_value whole))

-- the form of a member that is no value of an enum
abbrev pub member_form : Option Ref → Bytes → Form
member_form (Some (ref.Field c slot)) x = form.reading slot
member_form other x = cond (same_name x length_name) form.measuring form.defining

-- the number that a literal is
abbrev pub literal_of_shape : Shape → Option ℕ
literal_of_shape (t.Shape.integer (pos n)) = Some n
literal_of_shape s = None

abbrev pub literal_of : Tree → Option ℕ
literal_of (tree n pl s) = literal_of_shape s

-- the form of `T(0)`
abbrev pub picked : Trees → Form
picked (more_trees a no_trees) = form.picking (literal_of a)
picked ts = form.picking None

abbrev pub spawned_form : Form → Form
spawned_form (form.calling f) = form.spawning f
spawned_form (form.calling_own m) = form.spawning_own m
spawned_form (form.calling_method m) = form.spawning_method m
spawned_form f = f

abbrev pub spawned_callee : Callee → Callee
spawned_callee (alone f) = alone (spawned_form f)
spawned_callee (of_object f) = of_object (spawned_form f)
spawned_callee (of_value f) = no_callee
spawned_callee (of_quotient f) = no_callee
spawned_callee no_callee = no_callee

abbrev pub mode_of : Assign → Mode
mode_of assign.Set = mode.Set
mode_of assign.Add = mode.Add
mode_of assign.Sub = mode.Sub
mode_of assign.Mul = mode.Mul

abbrev pub on_bool : {A : Type 0} → Bool → (Bool → A) → (Bool → A) → A
on_bool true yes_do no_do = yes_do true
on_bool false yes_do no_do = no_do false

abbrev pub none_left : Trees → Bool
none_left no_trees = true
none_left (more_trees a ts) = false

abbrev pub number_of : Tree → ℕ
number_of (tree n pl s) = n

module _ (p : Program) where
  abbrev pub callee_of_shape : ℕ → Shape → Form → Place → Callee
  callee_of_shape n (t.Shape.name x) whole pl = named_callee (ref_at p n) whole pl
  callee_of_shape n (t.Shape.member a x) whole pl =
      member_callee (ref_at p n) (p.is_event (number_of a)) x whole
  callee_of_shape n s whole pl = of_value whole

  -- pl is the place of the call
  abbrev pub callee_of : Tree → Form → Place → Callee
  callee_of (tree n q s) whole pl = callee_of_shape n s whole pl

  abbrev pub base_named : Option Ref → Bytes → Base
  base_named (Some (ref.Field c slot)) x = in_self slot
  base_named other x = in_variable x

  abbrev pub base_member : Option Ref → Base
  base_member (Some (ref.Field c slot)) = in_object slot
  base_member other = nowhere

  -- what the indices of a target of `set` lead from
  abbrev mutual
    pub base_of_shape : ℕ → Shape → Base
    base_of_shape n (t.Shape.name x) = base_named (ref_at p n) x
    base_of_shape n (t.Shape.member a x) = base_member (ref_at p n)
    base_of_shape n (t.Shape.index a ts) = base_of a
    base_of_shape n s = nowhere

    pub base_of : Tree → Base
    base_of (tree n pl s) = base_of_shape n s

  abbrev pub is_enum : Option Ref → Bytes → Option Val
  is_enum (Some (ref.Enum e)) x = enum_value p e x
  is_enum other x = None

  -- `E.V` of an enum
  abbrev pub enum_member : Tree → Bytes → Option Val
  enum_member (tree n pl s) x = is_enum (ref_at p n) x

  abbrev pub class_ref : Option Ref → Option ℕ
  class_ref (Some (ref.Class c)) = Some c
  class_ref other = None

  abbrev pub is_val : Option Val → Val → Bool
  is_val None v = false
  is_val (Some w) v = val_eq w v

  -- whether a pattern fits
  abbrev pub fits_shape : Shape → Val → Bool
  fits_shape (t.Shape.integer_pattern n) v = val_eq (int n) v
  fits_shape (t.Shape.minus_pattern n) v = val_eq (int (neg_ℤ n)) v
  fits_shape (t.Shape.character_pattern c) v = val_eq (char c) v
  fits_shape (t.Shape.text_pattern bs) v = val_eq (text_val bs) v
  fits_shape t.Shape.truth_pattern v = val_eq truth v
  fits_shape t.Shape.falsehood_pattern v = val_eq falsity v
  fits_shape t.Shape.any_pattern v = true
  fits_shape (t.Shape.enum_pattern x y) v = is_val (pattern_value p x y) v
  fits_shape s v = false

  abbrev pub pattern_fits : Tree → Val → Bool
  pattern_fits (tree n pl s) v = fits_shape s v

module _ (p : Program) (k : Deeper) where
  -- Cancelling: what is in a residual, then what it has deferred itself. Nothing of the residual is
  -- kept.
  abbrev mutual
    pub cancel_kids : Residual → World → Went
    cancel_kids (leaf x e) w = went w
    cancel_kids (args e f vs r left) w = cancel_kids r w
    cancel_kids (seq e b r left) w = cancel_kids r w
    cancel_kids (deferred e d r) w = cancel_kids r w
    cancel_kids (looped e a r) w = cancel_kids r w
    cancel_kids (filling e c pl fs xs vs ss r) w = cancel_kids r w
    cancel_kids (generated e g cs a pl vs r) w = cancel_kids r w
    cancel_kids (called e s) w = cancel_scope_kids s w
    cancel_kids (arms kd pl e gs) w = cancel_arms gs w

    pub cancel_own : Residual → World → Went
    cancel_own (leaf x e) w = went w
    cancel_own (args e f vs r left) w = cancel_own r w
    cancel_own (seq e b r left) w = cancel_own r w
    cancel_own (deferred e d r) w = went_on (cancel_own r w) (λ w. dropped (k.parts d e w))
    cancel_own (looped e a r) w = cancel_own r w
    cancel_own (filling e c pl fs xs vs ss r) w = cancel_own r w
    cancel_own (generated e g cs a pl vs r) w = cancel_own r w
    cancel_own (called e s) w = cancel_scope_own s w
    cancel_own (arms kd pl e gs) w = went w

    pub cancel_scope_kids : Scope → World → Went
    cancel_scope_kids (scope q r bs) w = went_on (cancel_kids r w) (λ w. cancel_behind bs w)

    pub cancel_scope_own : Scope → World → Went
    cancel_scope_own (scope q r bs) w = cancel_own r w

    -- from the last to the first
    pub cancel_behind : Scopes → World → Went
    cancel_behind none w = went w
    cancel_behind (also s bs) w = went_on (cancel_behind bs w) (λ w. went_on (cancel_scope_kids s w) (λ w. cancel_scope_own s w))

    pub cancel_arms : Arms → World → Went
    cancel_arms no_arms w = went w
    cancel_arms (gave v gs) w = cancel_arms gs w
    cancel_arms (runs s gs) w = went_on (cancel_arms gs w) (λ w. went_on (cancel_scope_kids s w) (λ w. cancel_scope_own s w))

  -- the end of a scope with a value: what is behind is cancelled, and the outer list stands again
  abbrev pub scope_ended : Role → Scopes → Val → World → TaskOutcome
  scope_ended q outer v w = on_went_task (cancel_behind w.behind w) (λ w. ends v (finished q v (set_behind w outer)))

  abbrev pub scope_returned : Role → Scopes → Val → World → TaskOutcome
  scope_returned part outer v w = stops (wrong w.state)
  scope_returned body outer v w = scope_ended body outer v w
  scope_returned (root entry) outer v w = scope_ended (root entry) outer v w

  -- what a scope comes to from what is in it; `outer` is the background of the scope round it
  unfoldable pub scope_end : Role → Scopes → Outcome → TaskOutcome
  scope_end q outer (value e v w) = scope_ended q outer v w
  scope_end q outer (failed s) = not_given q s
  scope_end q outer (returned v w) = scope_returned q outer v w
  scope_end q outer (broke w) = stops (wrong w.state)
  scope_end q outer (halted h) = stops h
  scope_end q outer (rests r w) = sleeps (scope q r w.behind) (set_behind w outer)

  -- with a value, or the group stands
  unfoldable pub or_stands : {A : Type 0} → Option A → Outcome → (A → Outcome) → Outcome
  or_stands None o go = o
  or_stands (Some x) o go = go x

  -- Sync, Race and Rush: the group has its value, or is suspended
  unfoldable pub settled : Kind → Place → Env → Arms → World → Outcome
  settled sync pl e gs w = or_stands (all_gave gs) (rests (arms sync pl e gs) w)
      (λ vs. told (still (tuple_of vs) w.state) pl e w)
  settled race pl e gs w =
      or_stands (first_gave gs) (rests (arms race pl e gs) w) (λ v. on_went (cancel_arms gs w) (λ w. value e v w))
  settled rush pl e gs w = or_stands (first_gave gs) (rests (arms rush pl e gs) w) (λ v. value e v (leave_all gs w))

  -- an arm has given a value as it began: a race starts no other
  unfoldable pub arm_gave : Kind → Place → Env → Arms → World → (World → Outcome) → Outcome
  arm_gave sync pl e gs w go = go w
  arm_gave race pl e gs w go = settled race pl e gs w
  arm_gave rush pl e gs w go = go w

  -- an arm or the body of a `branch` begins: a step, and a scope with nothing behind it
  unfoldable pub begins_scope : World → (World → Outcome) → (TaskOutcome → Outcome) → Outcome
  begins_scope w run go = spends w.state.clock.left w
      (λ w. go (scope_end part w.behind (run (set_behind w none))))

  -- a part of a block or of conditions goes on by what it is
  unfoldable pub stated : Statement → Env → Trees → World → (World → Outcome) → (World → Outcome) →
      (Env → Val → World → Outcome) → Outcome
  stated plain e left w whole inner go =
      valued (whole w) (λ r. seq e no_name r left) (λ v w. go e v w)
  stated (defines b) e left w whole inner go =
      valued (inner w) (λ r. seq e b r left) (λ v w. defined p k b e v w go)
  stated (defers a) e left w whole inner go =
      closing (go e unit w) (λ w. k.parts a e w) (deferred e a) e
  stated (generates g) e left w whole inner go = halted (wrong w.state)

  -- a clause of a `for`: a generator's domain is the last
  unfoldable pub claused : Statement → Env → World → (World → Outcome) → (World → Outcome) →
      (Env → Val → World → Outcome) → Outcome
  claused plain e w whole inner go = valued (whole w) (λ r. r) (λ v w. go e v w)
  claused (defines b) e w whole inner go = valued (inner w) (λ r. r) (λ v w. defined p k b e v w go)
  claused (defers a) e w whole inner go = halted (wrong w.state)
  claused (generates g) e w whole inner go = valued (inner w) (λ r. r) (λ v w. value e v w)

  -- the values of a generator whose domain is v are taken
  unfoldable pub generates_from : Generator → Val → Env → Val → World →
      (Val × Val → Val → World → Outcome) → (Values → Residual → Residual) → Outcome
  generates_from g v e so_far w go wrap =
      if_there (values_of g v) w (λ vs. k.takes go wrap e vs so_far w)

  -- a level of a `for`: clauses before the next generator have been evaluated
  unfoldable pub levelled : Statement → Val → Env → Val → World → (World → Outcome) →
      (Generator → Val × Val → Val → World → Outcome) → (Generator → Values → Residual → Residual) →
      Outcome
  levelled plain v e so_far w on_go taken wrap = on_go w
  levelled (defines b) v e so_far w on_go taken wrap = on_go w
  levelled (defers a) v e so_far w on_go taken wrap = halted (wrong w.state)
  levelled (generates g) v e so_far w on_go taken wrap =
      generates_from g v e so_far w (taken g) (wrap g)

  -- a call by what its callee stands for
  unfoldable pub by_callee : Callee → World → (Form → World → Outcome) → (Form → World → Outcome) →
      (Form → World → Outcome) → (Form → World → Outcome) → Outcome
  by_callee (alone f) w on_alone on_object on_value on_quotient = on_alone f w
  by_callee (of_object f) w on_alone on_object on_value on_quotient = on_object f w
  by_callee (of_value f) w on_alone on_object on_value on_quotient = on_value f w
  by_callee (of_quotient f) w on_alone on_object on_value on_quotient = on_quotient f w
  by_callee no_callee w on_alone on_object on_value on_quotient = halted (wrong w.state)

  unfoldable pub named : Option Ref → Bytes → Place → Env → World → Outcome
  named (Some (ref.Field c slot)) x pl e w = read_slot_of (this_of e) slot pl e w
  named other x pl e w = read_bound (look x e) pl e w

  unfoldable pub membered : Option Val → Env → World → (World → Outcome) → Outcome
  membered (Some v) e w go = value e v w
  membered None e w go = go w

  abbrev mutual
    pub ev : Tree → (m : Bool) → Env → World → Outcome
    ev (tree n pl s) m e w = ev_shape s n pl m e w

    pub ev_shape : Shape → ℕ → Place → (m : Bool) → Env → World → Outcome
    -- blocks and statements
    ev_shape (t.Shape.block cs) n pl m e w = statements cs m e unit w
    ev_shape (t.Shape.defer a) n pl m e w = halted (wrong w.state)
    ev_shape (t.Shape.definition x a) n pl m e w =
        valued (ev a m e w) (λ r. args e form.defining [] r []) (λ v w. value e v w)
    ev_shape (t.Shape.typed x ty a) n pl m e w =
        valued (ev a m e w) (λ r. args e form.defining [] r []) (λ v w. value e v w)
    ev_shape (t.Shape.variable x ty a) n pl m e w =
        valued (ev a m e w) (λ r. args e (form.varying pl) [] r [])
        (λ v w. apply p k (form.varying pl) (v ∷ []) m e w)
    ev_shape (t.Shape.assignment x a b) n pl m e w =
        targets a (form.storing (base_of p a) (mode_of x) pl) (b ∷ []) m e w (λ vs w.
        valued (ev b m e w) (λ r. args e (form.storing (base_of p a) (mode_of x) pl) vs r [])
        (λ v w. apply p k (form.storing (base_of p a) (mode_of x) pl) (vs ++ v ∷ []) m e w))
    ev_shape (t.Shape.returned a) n pl m e w =
        valued (ev a m e w) (λ r. args e form.returning [] r []) (λ v w. returned v w)
    ev_shape t.Shape.returned_unit n pl m e w = returned unit w
    ev_shape t.Shape.break_form n pl m e w = broke w
    -- failure contexts
    ev_shape (t.Shape.if_else cs a b) n pl m e w =
        attempted (statements cs false e unit w) w (λ e1 v w. ev a m e1 w) (λ w. ev b m e w)
    ev_shape (t.Shape.if_alone cs a) n pl m e w = attempted (statements cs false e unit w) w (λ e1 v w. ev a m e1 w) (λ w. value e unit w)
    ev_shape (t.Shape.negation a) n pl m e w =
        attempted (ev a false e w) w (λ e1 v u. failed (restored w.state.memory u.state))
        (λ w. value e unit w)
    ev_shape (t.Shape.option cs) n pl m e w =
        attempted (statements cs false e unit w) w
        (λ e1 v w. told (still (option_of v) w.state) pl e w) (λ w. value e falsity w)
    ev_shape (t.Shape.logic cs) n pl m e w =
        attempted (statements cs false e unit w) w (λ e1 v w. value e truth w)
        (λ w. value e falsity w)
    ev_shape (t.Shape.chained op.Or a b) n pl m e w =
        attempted (ev a false e w) w (λ e1 v w. value e v w) (λ w. ev b m e w)
    ev_shape (t.Shape.for_form cs a) n pl m e w =
        attempted (clauses cs false e unit w) w
        (λ e1 v w. level cs a (λ e w. ev a m e w) pl e1 v (array no_vals) w)
        (λ w. value e (array no_vals) w)
    -- operators
    ev_shape (t.Shape.chained op.Div a b) n pl m e w = halted (wrong w.state)
    ev_shape (t.Shape.chained x a b) n pl m e w =
        valued (ev a m e w) (λ r. args e (form.computing x (p.is_array n) pl) [] r (b ∷ [])) (λ v w.
        valued (ev b m e w) (λ r. args e (form.computing x (p.is_array n) pl) (v ∷ []) r [])
        (λ y w. apply p k (form.computing x (p.is_array n) pl) (v ∷ y ∷ []) m e w))
    ev_shape (t.Shape.compared x a b) n pl m e w =
        valued (ev a m e w) (λ r. args e (form.comparing x) [] r (b ∷ [])) (λ v w.
        valued (ev b m e w) (λ r. args e (form.comparing x) (v ∷ []) r [])
        (λ y w. apply p k (form.comparing x) (v ∷ y ∷ []) m e w))
    ev_shape (t.Shape.minus a) n pl m e w =
        valued (ev a m e w) (λ r. args e (form.negating pl) [] r [])
        (λ v w. apply p k (form.negating pl) (v ∷ []) m e w)
    ev_shape (t.Shape.query a) n pl m e w =
        valued (ev a m e w) (λ r. args e form.querying [] r [])
        (λ v w. apply p k form.querying (v ∷ []) m e w)
    -- members, calls, indices
    ev_shape (t.Shape.member a x) n pl m e w = membered (enum_member p a x) e w (λ w.
        valued (ev a m e w) (λ r. args e (member_form (ref_at p n) x) [] r [])
        (λ v w. apply p k (member_form (ref_at p n) x) (v ∷ []) m e w))
    ev_shape (t.Shape.call a ts) n pl m e w = by_callee (callee_of p a (picked ts) pl) w
        (λ f w. all_args ts f [] m e w)
        (λ f w. valued (inner a m e w) (λ r. args e f [] r (trees_list ts))
        (λ v w. all_args ts f (v ∷ []) m e w))
        (λ f w. valued (ev a m e w) (λ r. args e f [] r []) (λ v w. apply p k f (v ∷ []) m e w))
        (λ f w. quotient ts f m e w)
    ev_shape (t.Shape.index a ts) n pl m e w = by_callee (callee_of p a form.indexing pl) w
        (λ f w. all_args ts f [] m e w)
        (λ f w. valued (inner a m e w) (λ r. args e f [] r (trees_list ts))
        (λ v w. all_args ts f (v ∷ []) m e w))
        (λ f w. valued (ev a m e w) (λ r. args e f [] r (trees_list ts))
        (λ v w. all_args ts f (v ∷ []) m e w)) (λ f w. quotient ts f m e w)
    -- literals and names
    ev_shape (t.Shape.integer z) n pl m e w = value e (int z) w
    ev_shape (t.Shape.character c) n pl m e w = value e (char c) w
    ev_shape (t.Shape.text bs) n pl m e w = value e (text_val bs) w
    ev_shape (t.Shape.holes bs hs) n pl m e w = holed hs (form.joining (bs ∷ pieces hs) pl) [] m e w
    ev_shape t.Shape.truth n pl m e w = value e truth w
    ev_shape t.Shape.falsehood n pl m e w = value e falsity w
    ev_shape t.Shape.this n pl m e w = if_known (this_of e) w (λ v. value e v w)
    ev_shape (t.Shape.name x) n pl m e w = named (ref_at p n) x pl e w
    -- values that are made
    ev_shape (t.Shape.tuple ts) n pl m e w = all_args ts (form.making_tuple pl) [] m e w
    ev_shape (t.Shape.array ts) n pl m e w = all_args ts (form.making_array pl) [] m e w
    ev_shape (t.Shape.mapping ps) n pl m e w = paired_args ps (form.making_map pl) [] m e w
    ev_shape (t.Shape.instance x gs) n pl m e w =
        if_known (class_ref p (ref_at p n)) w
        (λ c. given_args gs (form.instancing c (given_names gs) pl) [] m e w)
    ev_shape (t.Shape.event ty) n pl m e w = told (event_made w.state) pl e w
    ev_shape t.Shape.bare_event n pl m e w = told (event_made w.state) pl e w
    -- loops and blocks
    ev_shape (t.Shape.loop_form a) n pl m e w = k.loops (λ w. ev a m e w) (looped e a) e w
    ev_shape (t.Shape.block_form a) n pl m e w = ev a m e w
    ev_shape (t.Shape.cases a ts) n pl m e w =
        valued (ev a m e w) (λ r. args e (form.choosing ts) [] r []) (λ v w. chosen ts v m e w)
    -- tasks
    ev_shape (t.Shape.branch a) n pl m e w =
        outside m w (λ w. begins_scope w (λ w. ev a true e w) (branch_started e))
    ev_shape (t.Shape.sync ts) n pl m e w = outside m w (λ w. started sync pl ts e no_arms w)
    ev_shape (t.Shape.race ts) n pl m e w = outside m w (λ w. started race pl ts e no_arms w)
    ev_shape (t.Shape.rush ts) n pl m e w = outside m w (λ w. started rush pl ts e no_arms w)
    ev_shape (t.Shape.spawn a) n pl m e w = spawned a m e w
    ev_shape (t.Shape.sleep d) n pl m e w = outside m w (λ w. suspended (after d w.state) e w)
    ev_shape t.Shape.sleep_forever n pl m e w = outside m w (λ w. suspended never e w)
    -- generators, arms of a `case` and patterns are no forms of their own
    ev_shape s n pl m e w = halted (wrong w.state)

    -- statements in turn; each definition is visible in those behind it
    pub statements : Trees → (m : Bool) → Env → Val → World → Outcome
    statements no_trees m e last w = value e last w
    statements (more_trees a cs) m e last w =
        stated (statement_of a) e cs w (λ w. ev a m e w) (λ w. inner a m e w)
        (λ e v w. statements cs m e v w)

    -- the part of a definition, the object of a member, the domain of a generator
    pub inner : Tree → (m : Bool) → Env → World → Outcome
    inner (tree n pl s) m e w = inner_shape s m e w

    pub inner_shape : Shape → (m : Bool) → Env → World → Outcome
    inner_shape (t.Shape.definition x a) m e w = ev a m e w
    inner_shape (t.Shape.typed x ty a) m e w = ev a m e w
    inner_shape (t.Shape.variable x ty a) m e w = ev a m e w
    inner_shape (t.Shape.member a x) m e w = ev a m e w
    inner_shape (t.Shape.elements x a) m e w = ev a m e w
    inner_shape (t.Shape.entries x y a) m e w = ev a m e w
    inner_shape (t.Shape.range x a b) m e w =
        valued (ev a m e w) (λ r. r) (λ v w. valued (ev b m e w) (λ r. r)
        (λ y w. value e (tuple (more_vals v (more_vals y no_vals))) w))
    inner_shape s m e w = halted (wrong w.state)

    -- the operands left, and then the form
    pub all_args : Trees → Form → List Val → (m : Bool) → Env → World → Outcome
    all_args no_trees f vs m e w = apply p k f vs m e w
    all_args (more_trees a ts) f vs m e w =
        valued (ev a m e w) (λ r. args e f vs r (trees_list ts))
        (λ v w. all_args ts f (vs ++ v ∷ []) m e w)

    pub holed : Holes → Form → List Val → (m : Bool) → Env → World → Outcome
    holed no_holes f vs m e w = apply p k f vs m e w
    holed (more_holes a bs hs) f vs m e w =
        valued (ev a m e w) (λ r. args e f vs r (holes_list hs))
        (λ v w. holed hs f (vs ++ v ∷ []) m e w)

    pub paired_args : t.Pairs → Form → List Val → (m : Bool) → Env → World → Outcome
    paired_args t.Pairs.no_pairs f vs m e w = apply p k f vs m e w
    paired_args (t.Pairs.more_pairs a b ps) f vs m e w =
        valued (ev a m e w) (λ r. args e f vs r (b ∷ pairs_list ps))
        (λ x w. valued (ev b m e w) (λ r. args e f (vs ++ x ∷ []) r (pairs_list ps))
        (λ y w. paired_args ps f (vs ++ x ∷ y ∷ []) m e w))

    pub given_args : Givens → Form → List Val → (m : Bool) → Env → World → Outcome
    given_args no_givens f vs m e w = apply p k f vs m e w
    given_args (more_givens x a gs) f vs m e w =
        valued (ev a m e w) (λ r. args e f vs r (givens_list gs))
        (λ v w. given_args gs f (vs ++ v ∷ []) m e w)

    -- Floor and Ceil take the dividend and the divisor of their one argument
    pub quotient : Trees → Form → (m : Bool) → Env → World → Outcome
    quotient no_trees f m e w = halted (wrong w.state)
    quotient (more_trees a ts) f m e w = quotient_tree a f m e w

    pub quotient_tree : Tree → Form → (m : Bool) → Env → World → Outcome
    quotient_tree (tree n pl s) f m e w = quotient_shape s f m e w

    pub quotient_shape : Shape → Form → (m : Bool) → Env → World → Outcome
    quotient_shape (t.Shape.chained x a b) f m e w =
        valued (ev a m e w) (λ r. args e f [] r (b ∷ []))
        (λ v w. valued (ev b m e w) (λ r. args e f (v ∷ []) r [])
        (λ y w. apply p k f (v ∷ y ∷ []) m e w))
    quotient_shape s f m e w = halted (wrong w.state)

    -- the object and the indices of what `set` writes to
    pub targets : Tree → Form → List Tree → (m : Bool) → Env → World →
        (List Val → World → Outcome) → Outcome
    targets (tree n pl s) f left m e w go = targets_shape s f left m e w go

    pub targets_shape : Shape → Form → List Tree → (m : Bool) → Env → World →
        (List Val → World → Outcome) → Outcome
    targets_shape (t.Shape.name x) f left m e w go = go [] w
    targets_shape (t.Shape.member a x) f left m e w go =
        valued (ev a m e w) (λ r. args e f [] r left) (λ v w. go (v ∷ []) w)
    targets_shape (t.Shape.index a ts) f left m e w go =
        targets a f (trees_list ts ++ left) m e w (λ vs w. indices ts f vs left m e w go)
    targets_shape s f left m e w go = halted (wrong w.state)

    pub indices : Trees → Form → List Val → List Tree → (m : Bool) → Env → World →
        (List Val → World → Outcome) → Outcome
    indices no_trees f vs left m e w go = go vs w
    indices (more_trees a ts) f vs left m e w go =
        valued (ev a m e w) (λ r. args e f vs r (trees_list ts ++ left))
        (λ v w. indices ts f (vs ++ v ∷ []) left m e w go)

    -- clauses up to the next generator's domain, or to the end
    pub clauses : Trees → (m : Bool) → Env → Val → World → Outcome
    clauses no_trees m e last w = value e last w
    clauses (more_trees a cs) m e last w =
        claused (statement_of a) e w (λ w. ev a m e w) (λ w. inner a m e w)
        (λ e v w. clauses cs m e v w)

    -- the first generator among the clauses takes its values from v; behind the last one stands the
    -- body
    pub level : Trees → (body : Tree) → (Env → World → Outcome) → Place → Env → Val →
        (so_far : Val) → World → Outcome
    level no_trees a run pl e v so_far w =
        valued (run e w) (λ r. args e (form.appending so_far pl) [] r [])
        (λ y w. apply p k (form.appending so_far pl) (y ∷ []) false e w)
    level (more_trees c cs) a run pl e v so_far w =
        levelled (statement_of c) v e so_far w (λ w. level cs a run pl e v so_far w)
        (λ g x so_far w. attempted (clauses cs false (with_taken g x e) unit w) w
        (λ e1 y w. level cs a run pl e1 y so_far w) (λ w. value e so_far w))
        (λ g vs r. generated e g cs a pl vs r)

    -- the first arm whose pattern fits
    pub chosen : Trees → Val → (m : Bool) → Env → World → Outcome
    chosen no_trees v m e w = halted (wrong w.state)
    chosen (more_trees a ts) v m e w = arm_of a (none_left ts) v m e w (λ w. chosen ts v m e w)

    pub arm_of : Tree → (last : Bool) → Val → (m : Bool) → Env → World → (World → Outcome) → Outcome
    arm_of (tree n pl s) last v m e w go = arm_of_shape s last v m e w go

    pub arm_of_shape : Shape → (last : Bool) → Val → (m : Bool) → Env → World → (World → Outcome) →
        Outcome
    arm_of_shape (t.Shape.arm a b) last v m e w go =
        on_bool (cond last true (pattern_fits p a v)) (λ u. ev b m e w) (λ u. go w)
    arm_of_shape s last v m e w go = halted (wrong w.state)

    -- arms begin in written order
    pub started : Kind → Place → Trees → Env → Arms → World → Outcome
    started kd pl no_trees e gs w = settled kd pl e gs w
    started kd pl (more_trees a ts) e gs w = begins_scope w (λ w. ev a true e w) (λ o. armed o
        (λ v w. arm_gave kd pl e (with_arm gs (gave v no_arms)) w
        (λ w. started kd pl ts e (with_arm gs (gave v no_arms)) w))
        (λ s w. started kd pl ts e (with_arm gs (runs s no_arms)) w))

    -- the call that a `spawn` starts
    pub spawned : Tree → (m : Bool) → Env → World → Outcome
    spawned (tree n pl s) m e w = spawned_shape s pl m e w

    pub spawned_shape : Shape → Place → (m : Bool) → Env → World → Outcome
    spawned_shape (t.Shape.call a ts) pl m e w =
        by_callee (spawned_callee (callee_of p a (form.picking None) pl)) w
        (λ f w. all_args ts f [] m e w)
        (λ f w. valued (inner a m e w) (λ r. args e f [] r (trees_list ts))
        (λ v w. all_args ts f (v ∷ []) m e w)) (λ f w. halted (wrong w.state))
        (λ f w. halted (wrong w.state))
    spawned_shape s pl m e w = halted (wrong w.state)
