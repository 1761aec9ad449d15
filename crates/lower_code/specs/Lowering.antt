-- The code of each form: one case for each, as the meaning has them.
use Rattle.std.specs.Prelude.{ℕ, suc, length, neg_ℤ, ◌+◌, nat_eq, List, [], ◌∷◌, Option, Some, None}
use Rattle.std.specs.Prelude.{Bool, true, false, cond}
use Rattle.verse_base.specs.declared.places.Place.{Place}
use Rattle.verse_tree.specs.Tree.{Bytes, Tree, tree, Shape, Trees, no_trees, more_trees, Holes}
use Rattle.verse_tree.specs.Tree.{no_holes, more_holes, Givens, no_givens}
use Rattle.verse_tree.specs.Tree.{more_givens}
use Rattle.verse_tree.specs.Tree as t
use Rattle.verse_tree.specs.ItemTree.{FieldTree, FunTree}
use Rattle.verse_tree.specs.declared.exprs.Operator.TheVariants as op
use Rattle.verse_tree.specs.declared.exprs.Assign.{Assign}
use Rattle.verse_tree.specs.declared.exprs.Assign.TheVariants as assign
use Rattle.verse_tree.specs.declared.tables.Ref.{Ref}
use Rattle.verse_tree.specs.declared.tables.Ref.TheVariants as ref
use Rattle.verse_code.specs.declared.operations.Op.{Op}
use Rattle.verse_code.specs.declared.operations.Op.TheVariants as o
use Rattle.verse_value.specs.Val.{Val, enum}
use Rattle.verse_meaning.specs.Programs.{Program, same_name, ref_at, pattern_value, fields_of}
use Rattle.verse_meaning.specs.Programs.{fun_at}
use Rattle.verse_meaning.specs.Residuals as form
use Rattle.verse_meaning.specs.Residuals.{Form, Base, in_variable, in_self, in_object, nowhere}
use Rattle.verse_meaning.specs.Residuals.{Binder, no_name, a_constant, a_variable}
use Rattle.verse_meaning.specs.Residuals.{Generator, of_elements, of_entries, of_range}
use Rattle.verse_meaning.specs.Evaluating.{Statement, statement_of, plain, defines, defers}
use Rattle.verse_meaning.specs.Evaluating.{generates, Callee, alone, of_object, of_value}
use Rattle.verse_meaning.specs.Evaluating.{of_quotient, no_callee, none_left, number_of, picked}
use Rattle.verse_meaning.specs.Evaluating.{member_form, callee_of, spawned_callee}
use Rattle.verse_meaning.specs.Evaluating.{base_of, mode_of, enum_member, class_ref}
use Rattle.lower_code.specs.Pieces.{Spot, Maker, past, nothing, one, placed, numbering, texted}
use Rattle.lower_code.specs.Pieces.{kept, put_away, stuck, when, when_else}
use Rattle.lower_code.specs.Pieces.{ahead, either, looping, turning, group_of, arms_spot, ◌then◌}
use Rattle.lower_code.specs.declared.arounds.Around.{Around}
use Rattle.lower_code.specs.Scopes.{constant_at, variable_at, hidden, Scope, find, read_found}
use Rattle.lower_code.specs.Scopes.{read_this, field_of_this, is_fixed}
use Rattle.lower_code.specs.Scopes.{is_varies, this_found, push_fixed, push_varies}
use Rattle.lower_code.specs.Arounds.{fresh, up, raised, looped, deferring, enclosed, returning}
use Rattle.lower_code.specs.Arounds.{breaking}
use Rattle.lower_code.specs.Applied.{finish, start, started, storing, slot_of, mode_number}
use Rattle.lower_code.specs.Defaults.{default_number}

abbrev pub how_many : Trees → ℕ
how_many no_trees = 0
how_many (more_trees a ts) = suc (how_many ts)

-- how many of the pieces of a text with holes are no empty ones, and how many holes there are
abbrev pub is_text : Bytes → Bool
is_text [] = false
is_text (b ∷ bs) = true

abbrev pub one_if : Bool → ℕ → ℕ
one_if b n = cond b (suc n) n

abbrev pub joined_parts : Holes → ℕ
joined_parts no_holes = 0
joined_parts (more_holes a bs hs) = suc (one_if (is_text bs) (joined_parts hs))

abbrev pub text_if : Bytes → Maker
text_if bs = when (is_text bs) (texted bs)

abbrev pub pairs_in : t.Pairs → ℕ
pairs_in t.Pairs.no_pairs = 0
pairs_in (t.Pairs.more_pairs a b ps) = suc (pairs_in ps)

-- whether a statement of a block defers
abbrev pub is_defer_shape : Shape → Bool
is_defer_shape (t.Shape.defer a) = true
is_defer_shape s = false

abbrev pub is_defer : Tree → Bool
is_defer (tree n pl s) = is_defer_shape s

abbrev pub any_defer : Trees → Bool
any_defer no_trees = false
any_defer (more_trees a ts) = cond (is_defer a) true (any_defer ts)

-- how many indices lead to what `set` writes
abbrev mutual
  pub target_operands_shape : Shape → ℕ
  target_operands_shape (t.Shape.index a ts) = how_many ts + target_operands a
  target_operands_shape s = 0

  pub target_operands : Tree → ℕ
  target_operands (tree n pl s) = target_operands_shape s

-- the scope behind a statement
abbrev pub with_binder : Binder → Scope → Scope
with_binder no_name sc = sc
with_binder (a_constant x) sc = constant_at x ∷ sc
with_binder (a_variable x pl) sc = variable_at x ∷ sc

-- the value of a definition goes into the local l, or into a variable's cell; then it is there
-- again
abbrev pub bind : Binder → (l : ℕ) → Maker
bind no_name l = nothing
bind (a_constant x) l = kept l
bind (a_variable x pl) l = placed pl o.New then kept l then one (o.Load 0)

-- the scope of what a generator takes: the local of the domain is the first of four
abbrev pub with_generator : Generator → Scope → Scope
with_generator (of_elements x) sc = hidden ∷ constant_at x ∷ hidden ∷ hidden ∷ sc
with_generator (of_entries k x) sc = constant_at k ∷ constant_at x ∷ hidden ∷ hidden ∷ sc
with_generator (of_range x) sc = hidden ∷ constant_at x ∷ hidden ∷ hidden ∷ sc

abbrev pub taking : Generator → ℕ → Op
taking (of_elements x) l = o.Each l
taking (of_entries k x) l = o.Each l
taking (of_range x) l = o.Range l

abbrev pub scope_stated : Statement → Scope → Scope
scope_stated (defines b) sc = with_binder b sc
scope_stated other sc = sc

-- the scope behind statements
abbrev pub scope_behind : Trees → Scope → Scope
scope_behind no_trees sc = sc
scope_behind (more_trees a ts) sc = scope_behind ts (scope_stated (statement_of a) sc)

abbrev pub enum_op : Val → Maker
enum_op (enum e i) = one (o.Enum e i)
enum_op v = stuck

abbrev pub enum_pattern : Option Val → Maker
enum_pattern None = stuck
enum_pattern (Some v) = enum_op v

-- `set` with the value's type other than the place's
abbrev pub keeps : Assign → Bool → Bool
keeps assign.Set b = b
keeps x b = false

-- how a callee is called
unfoldable pub by_callee : Callee → (Form → Maker) → (Form → Maker) → (Form → Maker) →
    (Form → Maker) → Maker
by_callee (alone f) on_alone on_object on_value on_quotient = on_alone f
by_callee (of_object f) on_alone on_object on_value on_quotient = on_object f
by_callee (of_value f) on_alone on_object on_value on_quotient = on_value f
by_callee (of_quotient f) on_alone on_object on_value on_quotient = on_quotient f
by_callee no_callee on_alone on_object on_value on_quotient = stuck

-- the given fields lie in locals from l on: the local of one by its name
abbrev pub given_local : Bytes → Givens → (l : ℕ) → Option ℕ
given_local x no_givens l = None
given_local x (more_givens y a gs) l = cond (same_name x y) (Some l) (given_local x gs (suc l))

-- kind 0 is `sync`, 1 is `race`, 2 is `rush`
unfoldable pub grouped : (kind arms : ℕ) → Place → (Spot → List ℕ) → Maker → Maker
grouped kind m pl begins arms s =
    group_of kind m pl s (arms_spot m s) (begins (arms_spot m s)) (arms (arms_spot m s))

-- `differ` is whether two nodes have different types, by their numbers
module _ (p : Program) (differ : ℕ → ℕ → Bool) where
  abbrev pub pattern_op : Shape → Maker
  pattern_op (t.Shape.integer_pattern z) = one (o.Int z)
  pattern_op (t.Shape.minus_pattern z) = one (o.Int (neg_ℤ z))
  pattern_op (t.Shape.character_pattern c) = one (o.Char c)
  pattern_op (t.Shape.text_pattern bs) = texted bs
  pattern_op t.Shape.truth_pattern = one o.True
  pattern_op t.Shape.falsehood_pattern = one o.False
  pattern_op (t.Shape.enum_pattern x y) = enum_pattern (pattern_value p x y)
  pattern_op s = stuck

  abbrev pub is_any : Shape → Bool
  is_any t.Shape.any_pattern = true
  is_any s = false

  -- the arm of a pattern: it is compared with what is in local l, but for the last pattern and `_`
  unfoldable pub arm_by : Shape → (l : ℕ) → (last any : Bool) → (body rest : Maker) → Maker
  arm_by s l true any body rest = body
  arm_by s l false true body rest = body then ahead o.Jump rest
  arm_by s l false false body rest = pattern_op s then one (o.Get l) then either o.Same body rest

  abbrev pub arm_of : Tree → (l : ℕ) → (last : Bool) → (body rest : Maker) → Maker
  arm_of (tree n pl s) l last body rest = arm_by s l last (is_any s) body rest

  abbrev pub default_op : Option Tree → ℕ → Maker
  default_op None f = stuck
  default_op (Some a) f = one (o.Call (default_number p f))

  abbrev pub field_op : Option ℕ → Option Tree → ℕ → Maker
  field_op None d f = default_op d f
  field_op (Some l) d f = one (o.Get l)

  -- all fields of a class, in their order; those that are given lie in locals from l on
  abbrev pub field_ops : List FieldTree → Givens → (l : ℕ) → Maker
  field_ops [] gs l = nothing
  field_ops (f ∷ fs) gs l = field_op (given_local f.name gs l) f.default f.number then field_ops fs
      gs l

  unfoldable pub instance_of : Option ℕ → Place → Givens → (l : ℕ) → Maker → Maker
  instance_of None pl gs l given = stuck
  instance_of (Some c) pl gs l given =
      given then field_ops (fields_of p c) gs l then placed pl (o.Object c)

  unfoldable pub named : Option Ref → Bytes → Scope → Maker
  named (Some (ref.Field c n)) x sc = field_of_this (this_found sc) n
  named other x sc = read_found (find x sc)

  unfoldable pub membered : Option Val → Maker → Maker
  membered (Some v) f = enum_op v
  membered None f = f

  -- the cell that `set` writes to, and whether it is there
  abbrev pub base_code : Base → Scope → Maker
  base_code (in_variable x) sc = push_varies (find x sc)
  base_code (in_self n) sc = push_fixed (this_found sc)
  base_code (in_object n) sc = one o.Unit
  base_code nowhere sc = one o.Unit

  abbrev pub named_base : Base → Scope → Bool
  named_base (in_variable x) sc = is_varies (find x sc)
  named_base (in_self n) sc = is_fixed (this_found sc)
  named_base (in_object n) sc = false
  named_base nowhere sc = false

  abbrev pub member_base : Base → Bool
  member_base (in_variable x) = false
  member_base (in_self n) = false
  member_base (in_object n) = true
  member_base nowhere = false

  abbrev mutual
    pub has_base_shape : Shape → Base → Scope → Bool
    has_base_shape (t.Shape.name x) base sc = named_base base sc
    has_base_shape (t.Shape.member b x) base sc = member_base base
    has_base_shape (t.Shape.index b ts) base sc = has_base b base sc
    has_base_shape s base sc = false

    pub has_base : Tree → Base → Scope → Bool
    has_base (tree n pl s) base sc = has_base_shape s base sc

  -- whether a called function takes so many arguments, or there is the object of one's own method
  abbrev pub takes_params : Option FunTree → ℕ → Bool
  takes_params None n = false
  takes_params (Some f) n = nat_eq (length f.params) n

  abbrev pub form_fits : Form → ℕ → Scope → Bool
  form_fits (form.calling f) n sc = takes_params (fun_at p f) n
  form_fits (form.spawning f) n sc = takes_params (fun_at p f) n
  form_fits f n sc = is_fixed (this_found sc)

  -- a statement, where its value and the value of its part are as given
  unfoldable pub stated : Statement → Scope → (whole inner : Maker) → Maker
  stated plain sc whole inner = whole
  stated (defines b) sc whole inner = inner then bind b (length sc)
  stated (defers d) sc whole inner =
      ahead o.Defer (inner then one o.Drop then one o.DeferEnd) then one o.Unit
  stated (generates g) sc whole inner = stuck

  abbrev pub around_stated : Statement → Around → Around
  around_stated (defers d) a = deferring a
  around_stated other a = a

  -- a clause of a `for`, with what comes behind it
  unfoldable pub claused : Statement → Scope → (whole inner : Maker) → (rest : Scope → Maker) →
      Maker
  claused plain sc whole inner rest = whole then one o.Drop then rest sc
  claused (defines b) sc whole inner rest =
      inner then bind b (length sc) then one o.Drop then rest (with_binder b sc)
  claused (defers d) sc whole inner rest = stuck
  claused (generates g) sc whole inner rest =
      inner then turning (taking g (length sc)) (length sc) (rest (with_generator g sc))

  abbrev mutual
    pub piece : Tree → Scope → Around → Maker
    piece (tree n pl s) sc a = shape_piece s n pl sc a

    pub shape_piece : Shape → ℕ → Place → Scope → Around → Maker
    -- blocks and statements
    shape_piece (t.Shape.block cs) n pl sc a = statements cs sc a
    shape_piece (t.Shape.defer b) n pl sc a = stuck
    shape_piece (t.Shape.definition x b) n pl sc a =
        piece b sc a then bind (a_constant x) (length sc)
    shape_piece (t.Shape.typed x w b) n pl sc a = piece b sc a then bind (a_constant x) (length sc)
    shape_piece (t.Shape.variable x w b) n pl sc a =
        piece b sc a then bind (a_variable x pl) (length sc)
    shape_piece (t.Shape.assignment x b c) n pl sc a =
        target_piece b (base_of p b) sc a then piece c sc (up (raised (target_operands b) a))
        then when_else (has_base b (base_of p b) sc)
        (numbering pl (λ m. storing (o.Store (slot_of (base_of p b)) (target_operands b)
        (mode_number (mode_of x)) m) (keeps x (differ (number_of b) (number_of c))) (length sc)))
    shape_piece (t.Shape.returned b) n pl sc a = piece b sc a then returning a
    shape_piece t.Shape.returned_unit n pl sc a = one o.Unit then returning a
    shape_piece t.Shape.break_form n pl sc a = breaking a
    -- failure contexts
    shape_piece (t.Shape.if_else cs b c) n pl sc a =
        either o.Try (statements cs sc (enclosed a) then one o.Drop then one o.Commit then piece b
        (scope_behind cs sc) a) (piece c sc a)
    shape_piece (t.Shape.if_alone cs b) n pl sc a =
        either o.Try (statements cs sc (enclosed a) then one o.Drop then one o.Commit then piece b
        (scope_behind cs sc) a) (one o.Unit)
    shape_piece (t.Shape.negation b) n pl sc a =
        ahead o.Try (piece b sc (enclosed a) then one o.Drop then one o.Undo then one o.Fail)
        then one o.Unit
    shape_piece (t.Shape.option cs) n pl sc a =
        either o.Try (statements cs sc (enclosed a) then one o.Commit then placed pl o.Some)
        (one o.False)
    shape_piece (t.Shape.logic cs) n pl sc a =
        either o.Try (statements cs sc (enclosed a) then one o.Drop then one o.Commit then one
        o.True) (one o.False)
    shape_piece (t.Shape.chained op.Or b c) n pl sc a =
        either o.Try (piece b sc (enclosed a) then one o.Commit) (piece c sc a)
    shape_piece (t.Shape.for_form cs b) n pl sc a =
        numbering pl (λ m. one (o.Array 0 m) then put_away (length sc) then ahead o.Try
        (levels cs (hidden ∷ sc) (enclosed a)
        (λ inside. one o.Commit then piece b inside a then one (o.Append (length sc) m))) then one
        (o.Get (length sc)))
    -- operators
    shape_piece (t.Shape.chained op.Div b c) n pl sc a = stuck
    shape_piece (t.Shape.chained op.And b c) n pl sc a =
        piece b sc a then one o.Drop then piece c sc a
    shape_piece (t.Shape.chained x b c) n pl sc a =
        piece b sc a then piece c sc (up a) then finish (form.computing x (p.is_array n) pl) 2 true
    shape_piece (t.Shape.compared x b c) n pl sc a =
        piece b sc a then piece c sc (up a) then finish (form.comparing x) 2 true
    shape_piece (t.Shape.minus b) n pl sc a = piece b sc a then finish (form.negating pl) 1 true
    shape_piece (t.Shape.query b) n pl sc a = piece b sc a then finish form.querying 1 true
    -- members, calls, indices
    shape_piece (t.Shape.member b x) n pl sc a =
        membered (enum_member p b x) (piece b sc a then finish (member_form (ref_at p n) x) 1 true)
    shape_piece (t.Shape.call b ts) n pl sc a = by_callee (callee_of p b (picked ts) pl)
        (λ f. start f sc then args ts sc (started f a) then finish f (how_many ts)
        (form_fits f (how_many ts) sc))
        (λ f. inner b sc a then args ts sc (up a) then finish f (how_many ts) true)
        (λ f. piece b sc a then finish f 0 true) (λ f. quotient ts sc a then finish f 2 true)
    shape_piece (t.Shape.index b ts) n pl sc a = by_callee (callee_of p b form.indexing pl)
        (λ f. start f sc then args ts sc (started f a) then finish f (how_many ts)
        (form_fits f (how_many ts) sc))
        (λ f. inner b sc a then args ts sc (up a) then finish f (how_many ts) true)
        (λ f. piece b sc a then args ts sc (up a) then finish f (how_many ts) true)
        (λ f. quotient ts sc a then finish f 2 true)
    -- literals and names
    shape_piece (t.Shape.integer z) n pl sc a = one (o.Int z)
    shape_piece (t.Shape.character c) n pl sc a = one (o.Char c)
    shape_piece (t.Shape.text bs) n pl sc a = texted bs
    shape_piece (t.Shape.holes bs hs) n pl sc a =
        text_if bs then holed hs sc (raised (one_if (is_text bs) 0) a) then finish
        (form.joining [] pl) (one_if (is_text bs) (joined_parts hs)) true
    shape_piece t.Shape.truth n pl sc a = one o.True
    shape_piece t.Shape.falsehood n pl sc a = one o.False
    shape_piece t.Shape.this n pl sc a = read_this (this_found sc)
    shape_piece (t.Shape.name x) n pl sc a = named (ref_at p n) x sc
    -- values that are made
    shape_piece (t.Shape.tuple ts) n pl sc a =
        args ts sc a then finish (form.making_tuple pl) (how_many ts) true
    shape_piece (t.Shape.array ts) n pl sc a =
        args ts sc a then finish (form.making_array pl) (how_many ts) true
    shape_piece (t.Shape.mapping ps) n pl sc a =
        paired_args ps sc a then finish (form.making_map pl) (pairs_in ps) true
    shape_piece (t.Shape.instance x gs) n pl sc a =
        instance_of (class_ref p (ref_at p n)) pl gs (length sc) (given_args gs sc a)
    shape_piece (t.Shape.event w) n pl sc a = placed pl o.Event
    shape_piece t.Shape.bare_event n pl sc a = placed pl o.Event
    -- loops and blocks
    shape_piece (t.Shape.loop_form b) n pl sc a = looping (piece b sc (looped a))
    shape_piece (t.Shape.block_form b) n pl sc a = piece b sc a
    shape_piece (t.Shape.cases b ts) n pl sc a =
        piece b sc a then put_away (length sc) then arms ts (length sc) (hidden ∷ sc) a
    -- tasks
    shape_piece (t.Shape.branch b) n pl sc a = ahead o.Branch (piece b sc fresh then one o.ArmEnd)
    shape_piece (t.Shape.sync ts) n pl sc a =
        grouped 0 (how_many ts) pl (arm_spots ts sc) (task_arms ts sc)
    shape_piece (t.Shape.race ts) n pl sc a =
        grouped 1 (how_many ts) pl (arm_spots ts sc) (task_arms ts sc)
    shape_piece (t.Shape.rush ts) n pl sc a =
        grouped 2 (how_many ts) pl (arm_spots ts sc) (task_arms ts sc)
    shape_piece (t.Shape.spawn b) n pl sc a = spawned b sc a
    shape_piece (t.Shape.sleep d) n pl sc a = one (o.Sleep d)
    shape_piece t.Shape.sleep_forever n pl sc a = one o.Forever
    -- generators, arms of a `case` and patterns are no forms of their own
    shape_piece s n pl sc a = stuck

    -- statements or conditions, the last one's value stays; where there is a deferred block, it
    -- runs behind them
    pub statements : Trees → Scope → Around → Maker
    statements no_trees sc a = one o.Unit
    statements (more_trees b cs) sc a =
        stated (statement_of b) sc (piece b sc a) (inner b sc a) then more_statements cs
        (scope_stated (statement_of b) sc) (around_stated (statement_of b) a) then when
        (any_defer (more_trees b cs)) (one (o.Leave a.defers))

    -- those behind the first
    pub more_statements : Trees → Scope → Around → Maker
    more_statements no_trees sc a = nothing
    more_statements (more_trees b cs) sc a =
        one o.Drop then stated (statement_of b) sc (piece b sc a) (inner b sc a)
        then more_statements cs (scope_stated (statement_of b) sc)
        (around_stated (statement_of b) a)

    -- the part of a definition, a deferred block, the object of a member, the domain of a generator
    -- or both ends of its range
    pub inner : Tree → Scope → Around → Maker
    inner (tree n pl s) sc a = inner_shape s sc a

    pub inner_shape : Shape → Scope → Around → Maker
    inner_shape (t.Shape.definition x b) sc a = piece b sc a
    inner_shape (t.Shape.typed x w b) sc a = piece b sc a
    inner_shape (t.Shape.variable x w b) sc a = piece b sc a
    inner_shape (t.Shape.defer b) sc a = piece b sc (enclosed a)
    inner_shape (t.Shape.member b x) sc a = piece b sc a
    inner_shape (t.Shape.elements x b) sc a = piece b sc a
    inner_shape (t.Shape.entries x y b) sc a = piece b sc a
    inner_shape (t.Shape.range x b c) sc a = piece b sc a then piece c sc (up a)
    inner_shape s sc a = stuck

    -- operands
    pub args : Trees → Scope → Around → Maker
    args no_trees sc a = nothing
    args (more_trees b ts) sc a = piece b sc a then args ts sc (up a)

    pub holed : Holes → Scope → Around → Maker
    holed no_holes sc a = nothing
    holed (more_holes b bs hs) sc a =
        piece b sc a then text_if bs then holed hs sc (raised (suc (one_if (is_text bs) 0)) a)

    pub paired_args : t.Pairs → Scope → Around → Maker
    paired_args t.Pairs.no_pairs sc a = nothing
    paired_args (t.Pairs.more_pairs b c ps) sc a =
        piece b sc a then piece c sc (up a) then paired_args ps sc (up (up a))

    -- each value that an instance is given goes into a local
    pub given_args : Givens → Scope → Around → Maker
    given_args no_givens sc a = nothing
    given_args (more_givens x b gs) sc a =
        piece b sc a then put_away (length sc) then given_args gs (hidden ∷ sc) a

    -- Floor and Ceil take the dividend and the divisor of their one argument
    pub quotient : Trees → Scope → Around → Maker
    quotient no_trees sc a = stuck
    quotient (more_trees b ts) sc a = quotient_tree b sc a

    pub quotient_tree : Tree → Scope → Around → Maker
    quotient_tree (tree n pl s) sc a = quotient_shape s sc a

    pub quotient_shape : Shape → Scope → Around → Maker
    quotient_shape (t.Shape.chained x b c) sc a = piece b sc a then piece c sc (up a)
    quotient_shape s sc a = stuck

    -- the cell and the indices of what `set` writes to
    pub target_piece : Tree → Base → Scope → Around → Maker
    target_piece (tree n pl s) base sc a = target_shape s base sc a

    pub target_shape : Shape → Base → Scope → Around → Maker
    target_shape (t.Shape.name x) base sc a = base_code base sc
    target_shape (t.Shape.member b x) base sc a = piece b sc a
    target_shape (t.Shape.index b ts) base sc a =
        target_piece b base sc a then args ts sc (up (raised (target_operands b) a))
    target_shape s base sc a = stuck

    -- the clauses of a `for`; behind the last stands the body
    pub levels : Trees → Scope → Around → (body : Scope → Maker) → Maker
    levels no_trees sc a body = body sc
    levels (more_trees c cs) sc a body =
        claused (statement_of c) sc (piece c sc a) (inner c sc a) (λ sc. levels cs sc a body)

    -- the arms of a `case` whose subject is in local l
    pub arms : Trees → (l : ℕ) → Scope → Around → Maker
    arms no_trees l sc a = stuck
    arms (more_trees b ts) l sc a = arm_tree b ts l sc a (arms ts l sc a)

    pub arm_tree : Tree → Trees → (l : ℕ) → Scope → Around → (rest : Maker) → Maker
    arm_tree (tree n pl s) ts l sc a rest = arm_shape s ts l sc a rest

    pub arm_shape : Shape → Trees → (l : ℕ) → Scope → Around → (rest : Maker) → Maker
    arm_shape (t.Shape.arm b c) ts l sc a rest = arm_of b l (none_left ts) (piece c sc a) rest
    arm_shape s ts l sc a rest = stuck

    pub task_arms : Trees → Scope → Maker
    task_arms no_trees sc = nothing
    task_arms (more_trees b ts) sc = (piece b sc fresh then one o.ArmEnd) then task_arms ts sc

    -- where the arms begin
    pub arm_spots : Trees → Scope → Spot → List ℕ
    arm_spots no_trees sc s = []
    arm_spots (more_trees b ts) sc s =
        s.at ∷ arm_spots ts sc (past s ((piece b sc fresh then one o.ArmEnd) s))

    -- the call that a `spawn` starts
    pub spawned : Tree → Scope → Around → Maker
    spawned (tree n pl s) sc a = spawned_shape s pl sc a

    pub spawned_shape : Shape → Place → Scope → Around → Maker
    spawned_shape (t.Shape.call b ts) pl sc a =
        by_callee (spawned_callee (callee_of p b (form.picking None) pl))
        (λ f. start f sc then args ts sc (started f a) then finish f (how_many ts)
        (form_fits f (how_many ts) sc))
        (λ f. inner b sc a then args ts sc (up a) then finish f (how_many ts) true) (λ f. stuck)
        (λ f. stuck)
    spawned_shape s pl sc a = stuck
