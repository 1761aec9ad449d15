-- The states of each form: one case for each, as lowering has them. Behind a tree there stands
-- what stood before it, with a value of the sort that the checker has found for its node.
use Rattle.std.specs.Prelude.{ℕ, suc, length, List, [], ◌∷◌, Option, Some, None, Bool, true, false}
use Rattle.verse_base.specs.declared.places.Place.{Place}
use Rattle.verse_tree.specs.Tree.{Bytes, Tree, tree, Shape, Trees, no_trees, more_trees, Holes}
use Rattle.verse_tree.specs.Tree.{no_holes, more_holes, Givens, no_givens}
use Rattle.verse_tree.specs.Tree.{more_givens}
use Rattle.verse_tree.specs.Tree as t
use Rattle.verse_tree.specs.ItemTree.{FieldTree}
use Rattle.verse_tree.specs.declared.exprs.Operator.TheVariants as op
use Rattle.verse_tree.specs.declared.tables.Ref.{Ref}
use Rattle.verse_tree.specs.declared.tables.Ref.TheVariants as ref
use Rattle.verse_value.specs.Val.{Val, enum}
use Rattle.verse_sorts.specs.Sorts as s
use Rattle.verse_sorts.specs.Sorts.{Sort}
use Rattle.verse_meaning.specs.Programs.{Program, ref_at, pattern_value, fields_of}
use Rattle.verse_meaning.specs.Residuals as form
use Rattle.verse_meaning.specs.Residuals.{Form, Base, a_constant, a_variable, Generator}
use Rattle.verse_meaning.specs.Residuals.{of_elements, of_entries, of_range}
use Rattle.verse_meaning.specs.Evaluating.{Statement, statement_of, plain, defines, defers}
use Rattle.verse_meaning.specs.Evaluating.{generates, Callee, alone, of_object, of_value}
use Rattle.verse_meaning.specs.Evaluating.{of_quotient, no_callee, none_left, number_of, picked}
use Rattle.verse_meaning.specs.Evaluating.{member_form, callee_of, spawned_callee}
use Rattle.verse_meaning.specs.Evaluating.{base_of, enum_member, class_ref}
use Rattle.verse_sound_rules.specs.Found.{Found}
use Rattle.lower_code.specs.declared.arounds.Around.{Around}
use Rattle.lower_code.specs.Scopes.{Scope, hidden, find, this_found}
use Rattle.lower_code.specs.Arounds.{fresh, up, raised, looped, enclosed}
use Rattle.lower_code.specs.Applied.{started}
use Rattle.lower_code.specs.Lowering.{how_many, is_text, one_if, joined_parts, pairs_in, any_defer}
use Rattle.lower_code.specs.Lowering.{target_operands, with_binder, with_generator}
use Rattle.lower_code.specs.Lowering.{scope_stated, scope_behind, keeps, given_local, is_any}
use Rattle.lower_code.specs.Lowering.{has_base, form_fits, around_stated}
use Rattle.lower_notes.specs.States.{Change, pops, gives, gets, puts, takes_domain, takes_range}
use Rattle.lower_notes.specs.States.{turns_with, untried, in_arm, in_block, deferred}
use Rattle.lower_notes.specs.Stretches.{Walk, nothing, one, last, ends, leave, when, when_else}
use Rattle.lower_notes.specs.Stretches.{◌then◌, ◌beside◌, giving, widened, ahead, over}
use Rattle.lower_notes.specs.Stretches.{always, attempt, either_try, either_same, looping, turning}
use Rattle.lower_notes.specs.Stretches.{arm, grouped}
use Rattle.lower_notes.specs.Applied.{read_found, read_this, field_of_this, base_walk, bind}
use Rattle.lower_notes.specs.Applied.{storing, finish, start, returning, breaking}

abbrev pub text_if : Bytes → Walk
text_if bs = when (is_text bs) (one (gives 0 (s.list s.char)))

abbrev pub enum_walk : Val → Walk
enum_walk (enum e i) = one (gives 0 (s.enum e))
enum_walk v = ends

abbrev pub enum_pattern : Option Val → Walk
enum_pattern None = ends
enum_pattern (Some v) = enum_walk v

unfoldable pub by_callee : Callee → (Form → Walk) → (Form → Walk) → (Form → Walk) → (Form → Walk) →
    Walk
by_callee (alone f) on_alone on_object on_value on_quotient = on_alone f
by_callee (of_object f) on_alone on_object on_value on_quotient = on_object f
by_callee (of_value f) on_alone on_object on_value on_quotient = on_value f
by_callee (of_quotient f) on_alone on_object on_value on_quotient = on_quotient f
by_callee no_callee on_alone on_object on_value on_quotient = ends

-- the sort of a map's keys; and that of an index into what is of a sort, where the index itself
-- is of another
abbrev pub key_in : Sort → Sort
key_in (s.map k a) = k
key_in a = s.any

abbrev pub index_in : Sort → Sort → Sort
index_in (s.map k a) b = k
index_in a b = b

-- the domain of a generator goes into the local l
abbrev pub takes : Generator → (l : ℕ) → Change
takes (of_elements x) l = takes_domain l
takes (of_entries k x) l = takes_domain l
takes (of_range x) l = takes_range l

-- what a turn takes, and where its key has a name that too
abbrev pub turns : Generator → (l : ℕ) → (value key : Sort) → Change
turns (of_elements x) l a k = turns_with (suc (suc l)) a s.none
turns (of_entries y x) l a k = turns_with (suc (suc l)) a k
turns (of_range x) l a k = turns_with (suc (suc l)) a s.none

unfoldable pub membered : Option Val → Walk → Walk
membered (Some v) f = enum_walk v
membered None f = f

unfoldable pub named : Option Ref → Bytes → Scope → Walk
named (Some (ref.Field c n)) x sc = field_of_this (this_found sc)
named other x sc = read_found (find x sc)

-- `differ` is whether two nodes have different types, by their numbers
module _ (p : Program) (found : Found) (differ : ℕ → ℕ → Bool) where
  abbrev pub sort_at : Tree → Sort
  sort_at b = found.sort (number_of b)

  abbrev pub pattern_walk : Shape → Walk
  pattern_walk (t.Shape.integer_pattern z) = one (gives 0 s.int)
  pattern_walk (t.Shape.minus_pattern z) = one (gives 0 s.int)
  pattern_walk (t.Shape.character_pattern c) = one (gives 0 s.char)
  pattern_walk (t.Shape.text_pattern bs) = one (gives 0 (s.list s.char))
  pattern_walk t.Shape.truth_pattern = one (gives 0 s.logic)
  pattern_walk t.Shape.falsehood_pattern = one (gives 0 s.nil)
  pattern_walk (t.Shape.enum_pattern x y) = enum_pattern (pattern_value p x y)
  pattern_walk x = ends

  -- the arm of a pattern
  unfoldable pub arm_by : Shape → (l : ℕ) → (last_one any : Bool) → (body rest : Walk) → Walk
  arm_by x l true any body rest = body
  arm_by x l false true body rest = body then over rest
  arm_by x l false false body rest = pattern_walk x then one (gets l) then either_same body rest

  abbrev pub arm_of : Tree → (l : ℕ) → (last_one : Bool) → (body rest : Walk) → Walk
  arm_of (tree n pl x) l last_one body rest = arm_by x l last_one (is_any p differ x) body rest

  abbrev pub default_walk : Option Tree → Walk
  default_walk None = ends
  default_walk (Some b) = one (gives 0 (sort_at b))

  abbrev pub field_walk : Option ℕ → Option Tree → Walk
  field_walk None d = default_walk d
  field_walk (Some l) d = one (gets l)

  -- all fields of a class, in their order; those that are given lie in locals from l on
  abbrev pub field_walks : List FieldTree → Givens → (l : ℕ) → Walk
  field_walks [] gs l = nothing
  field_walks (d ∷ ds) gs l = field_walk (given_local d.name gs l) d.default then
      field_walks ds gs l

  unfoldable pub instance_of : Option ℕ → Givens → (l : ℕ) → Walk → Walk
  instance_of None gs l given = ends
  instance_of (Some c) gs l given = given then field_walks (fields_of p c) gs l then last

  -- a statement whose node is found to be of a sort, where its value and the value of its part
  -- are as given
  unfoldable pub stated : Statement → Sort → Scope → (whole inner : Walk) → Walk
  stated plain q sc whole inner = whole
  stated (defines b) q sc whole inner = inner then bind b (length sc) q
  stated (defers d) q sc whole inner = ahead in_block deferred (inner then one (pops 1) then
      ends) then
      one (gives 0 q)
  stated (generates g) q sc whole inner = ends

  -- a clause of a `for`, with what comes behind it; k is the sort of a key
  unfoldable pub claused : Statement → (q k : Sort) → Scope → (whole inner : Walk) →
      (rest : Scope → Walk) →
      Walk
  claused plain q k sc whole inner rest = whole then one (pops 1) then rest sc
  claused (defines b) q k sc whole inner rest = inner then bind b (length sc) q then
      one (pops 1) then
      rest (with_binder b sc)
  claused (defers d) q k sc whole inner rest = ends
  claused (generates g) q k sc whole inner rest =
      inner then turning (takes g (length sc)) (turns g (length sc) q k)
      (rest (with_generator g sc))

  abbrev mutual
    pub walk : Tree → Scope → Around → Walk
    walk (tree n pl x) sc a = giving (found.sort n) (shape_walk x n pl sc a)

    pub shape_walk : Shape → ℕ → Place → Scope → Around → Walk
    -- blocks and statements
    shape_walk (t.Shape.block cs) n pl sc a = statements cs sc a
    shape_walk (t.Shape.defer b) n pl sc a = ends
    shape_walk (t.Shape.definition x b) n pl sc a = walk b sc a then bind (a_constant x) (length sc)
        (found.sort n)
    shape_walk (t.Shape.typed x w b) n pl sc a = walk b sc a then bind (a_constant x) (length sc)
        (found.sort n)
    shape_walk (t.Shape.variable x w b) n pl sc a = walk b sc a then
        bind (a_variable x pl) (length sc)
        (found.sort n)
    shape_walk (t.Shape.assignment x b c) n pl sc a =
        target_walk b (base_of p b) sc a then walk c sc (up (raised (target_operands b) a)) then
        when_else (has_base p differ b (base_of p b) sc)
        (storing (keeps x (differ (number_of b) (number_of c))) (length sc)
        (suc (target_operands b))
        (sort_at b) (sort_at c))
    shape_walk (t.Shape.returned b) n pl sc a = walk b sc a then returning a
    shape_walk t.Shape.returned_unit n pl sc a = one (gives 0 s.unit) then returning a
    shape_walk t.Shape.break_form n pl sc a = breaking a
    -- failure contexts
    shape_walk (t.Shape.if_else cs b c) n pl sc a =
        either_try (statements cs sc (enclosed a) then one (pops 1) then one untried then
        walk b (scope_behind cs sc) a) (walk c sc a)
    shape_walk (t.Shape.if_alone cs b) n pl sc a =
        either_try (statements cs sc (enclosed a) then one (pops 1) then one untried then
        walk b (scope_behind cs sc) a) last
    shape_walk (t.Shape.negation b) n pl sc a = attempt (walk b sc (enclosed a) then
        one (pops 1) then
        one untried then ends) then last
    shape_walk (t.Shape.option cs) n pl sc a =
        either_try (statements cs sc (enclosed a) then one untried then
        one (gives 1 (found.sort n))) last
    shape_walk (t.Shape.logic cs) n pl sc a =
        either_try (statements cs sc (enclosed a) then one (pops 1) then one untried then
        one (gives 0 (found.sort n))) last
    shape_walk (t.Shape.chained op.Or b c) n pl sc a = either_try (walk b sc (enclosed a) then
        one untried)
        (walk c sc a)
    shape_walk (t.Shape.for_form cs b) n pl sc a =
        one (gives 0 (found.sort n)) then one (puts (length sc) (found.sort n)) then
        attempt (levels cs (hidden ∷ sc) (enclosed a) (λ inside. one untried then
        walk b inside a then
        one (pops 1))) then last
    -- operators
    shape_walk (t.Shape.chained op.Div b c) n pl sc a = ends
    shape_walk (t.Shape.chained op.And b c) n pl sc a = walk b sc a then one (pops 1) then
        walk c sc a
    shape_walk (t.Shape.chained x b c) n pl sc a = walk b sc a then walk c sc (up a) then
        finish (form.computing x (p.is_array n) pl) 2 true
    shape_walk (t.Shape.compared x b c) n pl sc a = walk b sc a then walk c sc (up a) then
        finish (form.comparing x) 2 true
    shape_walk (t.Shape.minus b) n pl sc a = walk b sc a then finish (form.negating pl) 1 true
    shape_walk (t.Shape.query b) n pl sc a = walk b sc a then finish form.querying 1 true
    -- members, calls, indices
    shape_walk (t.Shape.member b x) n pl sc a =
        membered (enum_member p b x) (walk b sc a then finish (member_form (ref_at p n) x) 1 true)
    shape_walk (t.Shape.call b ts) n pl sc a = by_callee (callee_of p b (picked ts) pl)
        (λ f. start f sc then args ts sc (started f a) then
        finish f (how_many ts) (form_fits p differ f
        (how_many ts) sc))
        (λ f. inner b sc a then args ts sc (up a) then finish f (how_many ts) true)
        (λ f. walk b sc a then finish f 0 true)
        (λ f. quotient ts sc a then finish f 2 true)
    shape_walk (t.Shape.index b ts) n pl sc a = by_callee (callee_of p b form.indexing pl)
        (λ f. start f sc then args ts sc (started f a) then
        finish f (how_many ts) (form_fits p differ f
        (how_many ts) sc))
        (λ f. inner b sc a then args ts sc (up a) then finish f (how_many ts) true)
        (λ f. walk b sc a then indices (sort_at b) ts sc (up a) then finish f (how_many ts) true)
        (λ f. quotient ts sc a then finish f 2 true)
    -- literals and names
    shape_walk (t.Shape.integer z) n pl sc a = last
    shape_walk (t.Shape.character c) n pl sc a = last
    shape_walk (t.Shape.text bs) n pl sc a = last
    shape_walk (t.Shape.holes bs hs) n pl sc a = text_if bs then holed hs sc
        (raised (one_if (is_text bs) 0) a) then
        finish (form.joining [] pl) (one_if (is_text bs) (joined_parts hs)) true
    shape_walk t.Shape.truth n pl sc a = last
    shape_walk t.Shape.falsehood n pl sc a = last
    shape_walk t.Shape.this n pl sc a = read_this (this_found sc)
    shape_walk (t.Shape.name x) n pl sc a = named (ref_at p n) x sc
    -- values that are made
    shape_walk (t.Shape.tuple ts) n pl sc a = args ts sc a then finish (form.making_tuple pl)
        (how_many ts) true
    shape_walk (t.Shape.array ts) n pl sc a = args ts sc a then finish (form.making_array pl)
        (how_many ts) true
    shape_walk (t.Shape.mapping ps) n pl sc a =
        paired_args (key_in (found.sort n)) ps sc a then
        finish (form.making_map pl) (pairs_in ps) true
    shape_walk (t.Shape.instance x gs) n pl sc a =
        instance_of (class_ref p (ref_at p n)) gs (length sc)
        (given_args gs sc a)
    shape_walk (t.Shape.event w) n pl sc a = last
    shape_walk t.Shape.bare_event n pl sc a = last
    -- loops and blocks
    shape_walk (t.Shape.loop_form b) n pl sc a = looping (walk b sc (looped a))
    shape_walk (t.Shape.block_form b) n pl sc a = walk b sc a
    shape_walk (t.Shape.cases b ts) n pl sc a =
        walk b sc a then one (puts (length sc) (sort_at b)) then arms ts (length sc) (hidden ∷ sc) a
    -- tasks
    shape_walk (t.Shape.branch b) n pl sc a =
        ahead (always (in_arm (sort_at b))) (always (gives 0 (found.sort n))) (walk b sc fresh then
        ends)
    shape_walk (t.Shape.sync ts) n pl sc a = grouped (how_many ts) (found.sort n) (task_arms ts sc)
    shape_walk (t.Shape.race ts) n pl sc a = grouped (how_many ts) (found.sort n) (task_arms ts sc)
    shape_walk (t.Shape.rush ts) n pl sc a = grouped (how_many ts) (found.sort n) (task_arms ts sc)
    shape_walk (t.Shape.spawn b) n pl sc a = spawned b sc a
    shape_walk (t.Shape.sleep d) n pl sc a = last
    shape_walk t.Shape.sleep_forever n pl sc a = last
    -- generators, arms of a `case` and patterns are no forms of their own
    shape_walk x n pl sc a = ends

    -- statements or conditions, the last one's value stays; where there is a deferred block, it
    -- runs behind them
    pub statements : Trees → Scope → Around → Walk
    statements no_trees sc a = one (gives 0 s.unit)
    statements (more_trees b cs) sc a = stated (statement_of b) (sort_at b) sc (walk b sc a)
        (inner b sc a) then
        more_statements cs (scope_stated (statement_of b) sc)
        (around_stated p differ (statement_of b) a) then
        when (any_defer (more_trees b cs)) (leave a.defers)

    -- those behind the first
    pub more_statements : Trees → Scope → Around → Walk
    more_statements no_trees sc a = nothing
    more_statements (more_trees b cs) sc a =
        one (pops 1) then stated (statement_of b) (sort_at b) sc (walk b sc a) (inner b sc a) then
        more_statements cs (scope_stated (statement_of b) sc)
        (around_stated p differ (statement_of b) a)

    -- the part of a definition, a deferred block, the object of a member, the domain of a
    -- generator or both ends of its range
    pub inner : Tree → Scope → Around → Walk
    inner (tree n pl x) sc a = inner_shape x sc a

    pub inner_shape : Shape → Scope → Around → Walk
    inner_shape (t.Shape.definition x b) sc a = walk b sc a
    inner_shape (t.Shape.typed x w b) sc a = walk b sc a
    inner_shape (t.Shape.variable x w b) sc a = walk b sc a
    inner_shape (t.Shape.defer b) sc a = walk b sc (enclosed a)
    inner_shape (t.Shape.member b x) sc a = walk b sc a
    inner_shape (t.Shape.elements x b) sc a = walk b sc a
    inner_shape (t.Shape.entries x y b) sc a = walk b sc a
    inner_shape (t.Shape.range x b c) sc a = walk b sc a then walk c sc (up a)
    inner_shape x sc a = ends

    -- operands
    pub args : Trees → Scope → Around → Walk
    args no_trees sc a = nothing
    args (more_trees b ts) sc a = walk b sc a then args ts sc (up a)

    -- indices into what is of the sort q
    pub indices : Sort → Trees → Scope → Around → Walk
    indices q no_trees sc a = nothing
    indices q (more_trees b ts) sc a = widened (index_in q (sort_at b)) (walk b sc a) then
        indices q ts sc
        (up a)

    pub holed : Holes → Scope → Around → Walk
    holed no_holes sc a = nothing
    holed (more_holes b bs hs) sc a = walk b sc a then text_if bs then holed hs sc
        (raised (suc (one_if (is_text bs) 0)) a)

    -- keys of the sort k, each with its value
    pub paired_args : Sort → t.Pairs → Scope → Around → Walk
    paired_args k t.Pairs.no_pairs sc a = nothing
    paired_args k (t.Pairs.more_pairs b c ps) sc a =
        widened k (walk b sc a) then walk c sc (up a) then paired_args k ps sc (up (up a))

    -- each value that an instance is given goes into a local
    pub given_args : Givens → Scope → Around → Walk
    given_args no_givens sc a = nothing
    given_args (more_givens x b gs) sc a = walk b sc a then one (puts (length sc) (sort_at b)) then
        given_args gs (hidden ∷ sc) a

    -- Floor and Ceil take the dividend and the divisor of their one argument
    pub quotient : Trees → Scope → Around → Walk
    quotient no_trees sc a = ends
    quotient (more_trees b ts) sc a = quotient_tree b sc a

    pub quotient_tree : Tree → Scope → Around → Walk
    quotient_tree (tree n pl x) sc a = quotient_shape x sc a

    pub quotient_shape : Shape → Scope → Around → Walk
    quotient_shape (t.Shape.chained x b c) sc a = walk b sc a then walk c sc (up a)
    quotient_shape x sc a = ends

    -- the cell and the indices of what `set` writes to
    pub target_walk : Tree → Base → Scope → Around → Walk
    target_walk (tree n pl x) base sc a = target_shape x base sc a

    pub target_shape : Shape → Base → Scope → Around → Walk
    target_shape (t.Shape.name x) base sc a = base_walk base sc
    target_shape (t.Shape.member b x) base sc a = walk b sc a
    target_shape (t.Shape.index b ts) base sc a =
        target_walk b base sc a then indices (sort_at b) ts sc (up (raised (target_operands b) a))
    target_shape x base sc a = ends

    -- the clauses of a `for`; behind the last stands the body
    pub levels : Trees → Scope → Around → (body : Scope → Walk) → Walk
    levels no_trees sc a body = body sc
    levels (more_trees c cs) sc a body =
        claused (statement_of c) (sort_at c) (found.key (number_of c)) sc
        (walk c sc a) (inner c sc a)
        (λ sc. levels cs sc a body)

    -- the arms of a `case` whose subject is in local l
    pub arms : Trees → (l : ℕ) → Scope → Around → Walk
    arms no_trees l sc a = ends
    arms (more_trees b ts) l sc a = arm_tree b ts l sc a (arms ts l sc a)

    pub arm_tree : Tree → Trees → (l : ℕ) → Scope → Around → (rest : Walk) → Walk
    arm_tree (tree n pl x) ts l sc a rest = arm_shape x ts l sc a rest

    pub arm_shape : Shape → Trees → (l : ℕ) → Scope → Around → (rest : Walk) → Walk
    arm_shape (t.Shape.arm b c) ts l sc a rest = arm_of b l (none_left ts) (walk c sc a) rest
    arm_shape x ts l sc a rest = ends

    pub task_arms : Trees → Scope → Walk
    task_arms no_trees sc = nothing
    task_arms (more_trees b ts) sc = arm (sort_at b) (walk b sc fresh) beside task_arms ts sc

    -- the call that a `spawn` starts
    pub spawned : Tree → Scope → Around → Walk
    spawned (tree n pl x) sc a = spawned_shape x pl sc a

    pub spawned_shape : Shape → Place → Scope → Around → Walk
    spawned_shape (t.Shape.call b ts) pl sc a =
        by_callee (spawned_callee (callee_of p b (form.picking None) pl))
        (λ f. start f sc then args ts sc (started f a) then
        finish f (how_many ts) (form_fits p differ f
        (how_many ts) sc))
        (λ f. inner b sc a then args ts sc (up a) then finish f (how_many ts) true)
        (λ f. ends)
        (λ f. ends)
    spawned_shape x pl sc a = ends
