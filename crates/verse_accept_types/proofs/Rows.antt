-- The type of each form, and what it refers to, by what is found at the nodes before it.
use Rattle.std.proofs.Common.{◌≡◌, ℕ, zero, suc, ◌-◌, ◌<◌, ◌≤◌, cond, List, Option, Some, None, refl, sym, ap}
use Rattle.std.proofs.Common.{subst, arith}
use Rattle.std.specs.Str.{bytes_eq}
use Rattle.std.specs.Prelude.{slice_get, codes}
use Rattle.verse_tree.specs.Tree.{Bytes, Written, Writtens, no_writtens, more_writtens, Tree, tree, Shape, Trees, no_trees, more_trees}
use Rattle.verse_tree.specs.Tree.{Pairs}
use Rattle.verse_tree.specs.Tree.{no_pairs, more_pairs}
use Rattle.verse_tree.specs.Tree as s
use Rattle.verse_tree.specs.declared.exprs.Operator.{Operator}
use Rattle.verse_tree.specs.declared.exprs.Operator.TheVariants as o
use Rattle.verse_tree.specs.declared.exprs.Assign.{Assign}
use Rattle.verse_tree.specs.declared.exprs.Assign.TheVariants as a
use Rattle.verse_tree.specs.declared.tables.FunInfo.{FunInfo}
use Rattle.verse_tree.specs.declared.tables.Ref.{Ref}
use Rattle.verse_tree.specs.declared.tables.Ref.TheVariants as ref
use Rattle.verse_rules_types.specs.Types as t
use Rattle.verse_rules_types.specs.Types.{Ty, Tys, ty_of, classes_of}
use Rattle.verse_rules_types.specs.Fitting.{parent_of, join}
use Rattle.verse_names_tables.specs.Functions.{named_type}
use Rattle.verse_rules_walk.specs.Nodes.{number_of_tree}
use Rattle.verse_check_typing.specs.Refs.{ref_at, function_of, builtin_by}
use Rattle.verse_check_typing.specs.declared.builtins.Builtin.{Builtin}
use Rattle.verse_check_typing.specs.declared.builtins.Builtin.TheVariants as b
use Rattle.verse_check_typing.specs.Facts.{World, Facts, classes, named_ref, type_at, type_of, or_never}
use Rattle.verse_check_typing.specs.Sets.{has_number}
use Rattle.verse_check_typing.specs.Spelling.{spelled_by, all_spelled_by}
use Rattle.verse_check_typing.specs.Parts.{count, types_of, joined_from, keys_from, values_from, last_from, or_void, sum_of, chain_type}
use Rattle.verse_check_typing.specs.Parts.{is_equality, assigned_type, queried_type, is_never, joined}
use Rattle.verse_check_typing.specs.Members.{fields_in, type_in, field_by, method_by, member_at, class_member, member_ref}
use Rattle.verse_check_typing.specs.Members.{by_ref, type_member, is_value, member_of}
use Rattle.verse_check_typing.specs.Members.{Member, part, action, missing, part_type}
use Rattle.verse_check_typing.specs.Callees.{Callee, function, await, signal, value, builtin_callee}
use Rattle.verse_check_typing.specs.Callees.{item_callee}
use Rattle.verse_check_typing.specs.Callees.{plain_callee, function_or, action_of, shape_callee, callee_by}
use Rattle.verse_check_typing.specs.Callees.{callee_of}
use Rattle.verse_check_typing.specs.Calls.{ty_at, ty_by, tree_place, named_item, item_of, content_of, call_type, index_type}
use Rattle.verse_check_typing.specs.Loops.{index_of}
use Rattle.verse_check_typing.specs.Rows.{name_type, class_type, value_type, row}
use Rattle.verse_check_typing.specs.Steps.{shape_ref}
use Rattle.verse_accept_nodes.proofs.Fine.{Narrow, AllNarrow, ShapeNarrow}
use Rattle.verse_accept_nodes.proofs.Fine as fine
use Rattle.verse_accept_types.specs.Told.{how_many}
use Rattle.verse_accept_types.proofs.Bounds.{IsNamed, AreNamed}
use Rattle.verse_accept_types.proofs.Joins.{on_cond, join_named}

module _ (count_of_classes enums : ℕ) where
  abbrev Named : Ty → Type 0
  Named = IsNamed count_of_classes enums

  abbrev NamedAll : Tys → Type 0
  NamedAll = AreNamed count_of_classes enums

  -- what stands for a class or an enum is there
  abbrev pub RefNamed : Option Ref → Type 0
  RefNamed r = Named (named_type r)

  -- the tables of a program
  pub record WorldNamed (k : World) : Type 0 where
    pub refs : (n : ℕ) → RefNamed (ref_at k.names.refs n)
    pub fields : (c i : ℕ) → Named (type_in (slice_get (fields_in (slice_get k.names.classes c)) i))
    pub results : (g : FunInfo) (r : Ref) → function_of k.names r ≡ Some g → Named (ty_of g.result)
    pub parents : (c p : ℕ) → parent_of (classes_of k.names.classes) c ≡ Some p → p < count_of_classes

  -- with what is found at nodes
  pub record FactsNamed (f : Facts) : Type 0 where
    pub world : WorldNamed f.world
    pub types : (n : ℕ) → Named (type_at f.types n)
    pub refs : (n : ℕ) → RefNamed (ref_at f.refs n)

  index_named : (u : Ty) → Named u → Named (index_of u)
  index_named (t.array u) h = tt
  index_named (t.mapping k u) h = h.0
  index_named u h = tt

  content_named : (u : Ty) → Named u → Named (content_of u)
  content_named (t.array u) h = h
  content_named (t.mapping k u) h = h.1
  content_named u h = tt

  queried_named : (u : Ty) → Named u → Named (queried_type u)
  queried_named (t.option u) h = h
  queried_named t.logic h = tt
  queried_named u h = tt

  -- ---- the elements of a tuple

  ty_at_named : (xs : Tys) (i : ℕ) → NamedAll xs → Named (or_never (ty_at xs i))
  ty_at_named t.no_tys i h = tt
  ty_at_named (t.more_tys u xs) zero h = h.0
  ty_at_named (t.more_tys u xs) (suc i) h = ty_at_named xs i h.1

  ty_by_named : (xs : Tys) (i : Option ℕ) → NamedAll xs → Named (or_never (ty_by xs i))
  ty_by_named xs None h = tt
  ty_by_named xs (Some i) h = ty_at_named xs i h

  named_item_named : (xs : Tys) (es : Trees) → NamedAll xs → Named (or_never (named_item xs es))
  named_item_named xs no_trees h = tt
  named_item_named xs (more_trees e no_trees) h = ty_by_named xs (tree_place e) h
  named_item_named xs (more_trees e (more_trees d es)) h = tt

  item_named : (u : Ty) (es : Trees) → Named u → Named (or_never (item_of u es))
  item_named (t.tuple xs) es h = named_item_named xs es h.1
  item_named u es h = tt

  -- ---- written types

  module _ (rs : List (Option Ref)) (refs : (n : ℕ) → RefNamed (ref_at rs n)) where
    as_many : (ws : Writtens) → how_many (all_spelled_by rs ws) ≡ fine.how_many ws
    as_many no_writtens = refl
    as_many (more_writtens w ws) = ap suc (as_many ws)

    mutual
      pub written_named : (w : Written) → Narrow w → Named (spelled_by rs w)
      written_named (s.Written.named n p x) h = refs n
      written_named (s.Written.option w) h = written_named w h
      written_named (s.Written.array w) h = written_named w h
      written_named (s.Written.task w) h = written_named w h
      written_named (s.Written.map k w) h = (written_named k h.0, written_named w h.1)
      written_named (s.Written.tuple ws) h = (subst (λ n. n ≤ 4294967295) (sym (as_many ws)) h.0, writtens_named ws h.1)
      written_named (s.Written.event w) h = written_named w h
      written_named w h = tt

      writtens_named : (ws : Writtens) → AllNarrow ws → NamedAll (all_spelled_by rs ws)
      writtens_named no_writtens h = tt
      writtens_named (more_writtens w ws) h = (written_named w h.0, writtens_named ws h.1)

  class_type_named : (r : Option Ref) → RefNamed r → Named (class_type r)
  class_type_named (Some (ref.Class c)) h = h
  class_type_named r h = tt

  -- ---- at a node

  module _ (f : Facts) (g : FactsNamed f) where
    of_part : (e : Tree) → Named (type_of f e)
    of_part e = g.types (number_of_tree e)

    joined_named : (u v : Ty) → Named u → Named v → Named (join (classes f) u v)
    joined_named = join_named count_of_classes enums (classes f) g.world.parents

    or_void_named : (n : Option ℕ) → Named (or_void f n)
    or_void_named None = tt
    or_void_named (Some n) = g.types n

    joined_from_named : (u : Ty) (es : Trees) → Named u → Named (joined_from f u es)
    joined_from_named u no_trees h = h
    joined_from_named u (more_trees e es) h =
        joined_from_named (join (classes f) u (type_of f e)) es (joined_named u (type_of f e) h (of_part e))

    keys_named : (u : Ty) (ps : Pairs) → Named u → Named (keys_from f u ps)
    keys_named u no_pairs h = h
    keys_named u (more_pairs k e ps) h =
        keys_named (join (classes f) u (type_of f k)) ps (joined_named u (type_of f k) h (of_part k))

    values_named : (u : Ty) (ps : Pairs) → Named u → Named (values_from f u ps)
    values_named u no_pairs h = h
    values_named u (more_pairs k e ps) h =
        values_named (join (classes f) u (type_of f e)) ps (joined_named u (type_of f e) h (of_part e))

    as_many_types : (es : Trees) → how_many (types_of f es) ≡ count es
    as_many_types no_trees = refl
    as_many_types (more_trees e es) = omega (arith, as_many_types es)

    types_named : (es : Trees) → NamedAll (types_of f es)
    types_named no_trees = tt
    types_named (more_trees e es) = (of_part e, types_named es)

    tuple_named : (n : ℕ) (es : Trees) → n ≤ 4294967295 → count es ≤ n → Named (t.tuple (types_of f es))
    tuple_named n es l h = (omega (arith, l, h, as_many_types es), types_named es)

    sum_named : (u v : Ty) → Named u → Named v → Named (or_never (sum_of (classes f) u v))
    sum_named (t.array u) (t.array v) h k = joined_named (t.array u) (t.array v) h k
    sum_named (t.array u) t.never h k = tt
    sum_named t.never (t.array v) h k = tt
    sum_named t.never t.int h k = tt
    sum_named t.int t.never h k = tt
    sum_named u v h k = tt

    chain_named : (x : Operator) (u v : Ty) → Named u → Named v → Named (chain_type (classes f) x u v)
    chain_named o.Or u v h k = joined_named u v h k
    chain_named o.And u v h k = k
    chain_named o.Add u v h k = sum_named u v h k
    chain_named o.Sub u v h k = tt
    chain_named o.Mul u v h k = tt
    chain_named o.Div u v h k = tt

    assigned_named : (m : Assign) (u v : Ty) → Named u → Named v → Named (assigned_type (classes f) m u v)
    assigned_named a.Set u v h k = k
    assigned_named a.Add u v h k = sum_named u v h k
    assigned_named a.Sub u v h k = tt
    assigned_named a.Mul u v h k = tt

    -- ---- what is called

    abbrev CalleeNamed : Callee → Type 0
    CalleeNamed (function i) = Named (ty_of i.result)
    CalleeNamed (await u) = Named u
    CalleeNamed (value u) = Named u
    CalleeNamed c = Unit {0}

    builtin_named : (x : Option Builtin) (u : Ty) → Named u → CalleeNamed (builtin_callee x u)
    builtin_named (Some b.Print) u h = tt
    builtin_named (Some b.Round) u h = tt
    builtin_named (Some b.Modulo) u h = tt
    builtin_named None u h = h

    item_callee_named : (x : Shape) (u : Ty) → Named u → CalleeNamed (item_callee x u)
    item_callee_named (s.Shape.name x) u h = tt
    item_callee_named x u h = h

    plain_named : (r : Ref) (x : Shape) (u : Ty) → Named u → CalleeNamed (plain_callee r x u)
    plain_named (ref.Builtin i) x u h = builtin_named (builtin_by i) u h
    plain_named (ref.Class c) x u h = item_callee_named x u h
    plain_named (ref.Enum e) x u h = item_callee_named x u h
    plain_named (ref.Local n) x u h = h
    plain_named (ref.Key n) x u h = h
    plain_named (ref.Field c i) x u h = h
    plain_named (ref.Method c m) x u h = h
    plain_named (ref.Fun i) x u h = h

    action_named : (u : Ty) (x : Bytes) (v : Ty) → Named u → Named v → CalleeNamed (action_of u x v)
    action_named (t.task u) x v h k = on_cond CalleeNamed (bytes_eq x (codes "Await")) (await u) (value v) h k
    action_named (t.event u) x v h k =
        on_cond CalleeNamed (bytes_eq x (codes "Await")) (await u) (cond (bytes_eq x (codes "Signal")) (signal u) (value v)) h
        (on_cond CalleeNamed (bytes_eq x (codes "Signal")) (signal u) (value v) tt k)
    action_named u x v h k = k

    shape_callee_named : (x : Shape) (u : Ty) → Named u → CalleeNamed (shape_callee f x u)
    shape_callee_named (s.Shape.member e x) u h = action_named (type_of f e) x u (of_part e) h
    shape_callee_named x u h = h

    function_or_named : (i : Option FunInfo) (r : Ref) (c : Callee) → function_of f.world.names r ≡ i → CalleeNamed c →
        CalleeNamed (function_or i c)
    function_or_named None r c e h = h
    function_or_named (Some i) r c e h = g.world.results i r e

    callee_by_named : (r : Option Ref) (x : Shape) (u : Ty) → Named u → CalleeNamed (callee_by f r x u)
    callee_by_named None x u h = shape_callee_named x u h
    callee_by_named (Some r) x u h =
        function_or_named (function_of f.world.names r) r (plain_callee r x u) refl (plain_named r x u h)

    callee_named : (e : Tree) → CalleeNamed (callee_of f e)
    callee_named (tree n p x) = callee_by_named (ref_at f.refs n) x (type_at f.types n) (g.types n)

    call_named : (c : Callee) (es : Trees) → CalleeNamed c → Named (call_type c es)
    call_named (function i) es h = h
    call_named (await u) es h = h
    call_named (value u) es h = item_named u es h
    call_named c es h = tt

    index_type_named : (c : Callee) (es : Trees) → CalleeNamed c → Named (index_type c es)
    index_type_named (function i) es h = h
    index_type_named (await u) es h = h
    index_type_named (value u) es h = on_cond Named _ (content_of u) t.never (content_named u h) tt
    index_type_named c es h = tt

    -- ---- members

    by_ref_named : (r : Option Ref) → Named (part_type (by_ref f r))
    by_ref_named (Some (ref.Field c i)) = g.world.fields c i
    by_ref_named (Some (ref.Method c m)) = tt
    by_ref_named (Some (ref.Local n)) = tt
    by_ref_named (Some (ref.Key n)) = tt
    by_ref_named (Some (ref.Fun n)) = tt
    by_ref_named (Some (ref.Class n)) = tt
    by_ref_named (Some (ref.Enum n)) = tt
    by_ref_named (Some (ref.Builtin n)) = tt
    by_ref_named None = tt

    abbrev PartNamed : Member → Type 0
    PartNamed m = Named (part_type m)

    type_member_named : (u : Ty) (x : Bytes) → PartNamed (type_member f u x)
    type_member_named (t.class c) x = by_ref_named (class_member f c x)
    type_member_named (t.array u) x = on_cond PartNamed (bytes_eq x (codes "Length")) (part t.int) missing tt tt
    type_member_named (t.mapping k u) x = on_cond PartNamed (bytes_eq x (codes "Length")) (part t.int) missing tt tt
    type_member_named (t.task u) x = on_cond PartNamed (bytes_eq x (codes "Await")) action missing tt tt
    type_member_named (t.event u) x = on_cond PartNamed _ action missing tt tt
    type_member_named u x = tt

    member_of_named : (r : Option Ref) (u : Ty) (x : Bytes) → RefNamed r → PartNamed (member_of f r u x)
    member_of_named (Some (ref.Enum e)) u x h = on_cond PartNamed (is_value f e x) (part (t.enum e)) missing h tt
    member_of_named (Some (ref.Field c i)) u x h = type_member_named u x
    member_of_named (Some (ref.Method c m)) u x h = type_member_named u x
    member_of_named (Some (ref.Local n)) u x h = type_member_named u x
    member_of_named (Some (ref.Key n)) u x h = type_member_named u x
    member_of_named (Some (ref.Fun n)) u x h = type_member_named u x
    member_of_named (Some (ref.Class n)) u x h = type_member_named u x
    member_of_named (Some (ref.Builtin n)) u x h = type_member_named u x
    member_of_named None u x h = type_member_named u x

    -- ---- names

    name_named : (r : Option Ref) → Named (name_type f r)
    name_named (Some (ref.Local m)) = g.types m
    name_named (Some (ref.Key m)) = index_named (type_at f.types (m - 1)) (g.types (m - 1))
    name_named (Some (ref.Field c i)) = g.world.fields c i
    name_named r = tt

    value_named : (r : Option Ref) (x : Bytes) → RefNamed r → Named (value_type f r x)
    value_named (Some (ref.Enum e)) x h = on_cond Named (is_value f e x) (t.enum e) t.never h tt
    value_named r x h = tt

    spelled_named : (w : Written) → Narrow w → Named (spelled_by f.world.names.refs w)
    spelled_named w h = written_named f.world.names.refs g.world.refs w h

    -- ---- the forms

    pub row_named : (n : ℕ) (x : Shape) → n ≤ 4294967295 → ShapeNarrow n x → Named (row f n x)
    row_named n (s.Shape.block es) l h = or_void_named (last_from None es)
    row_named n (s.Shape.definition x e) l h = of_part e
    row_named n (s.Shape.typed x w e) l h = spelled_named w h
    row_named n (s.Shape.variable x w e) l h = spelled_named w h
    row_named n (s.Shape.assignment m d e) l h = assigned_named m (type_of f d) (type_of f e) (of_part d) (of_part e)
    row_named n (s.Shape.if_else es d e) l h = joined_named (type_of f d) (type_of f e) (of_part d) (of_part e)
    row_named n (s.Shape.chained x d e) l h = chain_named x (type_of f d) (type_of f e) (of_part d) (of_part e)
    row_named n (s.Shape.compared x d e) l h = on_cond Named (is_equality x) (type_of f d) t.int (of_part d) tt
    row_named n (s.Shape.call e es) l h = call_named (callee_of f e) es (callee_named e)
    row_named n (s.Shape.index e es) l h = index_type_named (callee_of f e) es (callee_named e)
    row_named n (s.Shape.member e x) l h =
        member_of_named (ref_at f.refs (number_of_tree e)) (type_of f e) x (g.refs (number_of_tree e))
    row_named n (s.Shape.query e) l h = queried_named (type_of f e) (of_part e)
    row_named n s.Shape.this l h = class_type_named (named_ref f n) (g.world.refs n)
    row_named n (s.Shape.name x) l h = name_named (named_ref f n)
    row_named n (s.Shape.tuple es) l h = tuple_named n es l h
    row_named n (s.Shape.array es) l h = joined_from_named t.never es tt
    row_named n (s.Shape.option es) l h = or_void_named (last_from None es)
    row_named n (s.Shape.mapping ps) l h = (keys_named t.never ps tt, values_named t.never ps tt)
    row_named n (s.Shape.instance x gs) l h = class_type_named (named_ref f n) (g.world.refs n)
    row_named n (s.Shape.event w) l h = spelled_named w h
    row_named n (s.Shape.for_form es e) l h = of_part e
    row_named n (s.Shape.loop_form e) l h = on_cond Named (has_number n f.left) t.void t.never tt tt
    row_named n (s.Shape.block_form e) l h = of_part e
    row_named n (s.Shape.sync es) l h = tuple_named n es l h
    row_named n (s.Shape.race es) l h = joined_from_named t.never es tt
    row_named n (s.Shape.rush es) l h = joined_from_named t.never es tt
    row_named n (s.Shape.cases e es) l h =
        on_cond Named (is_never (type_of f e)) t.never (joined f es) tt (joined_from_named t.never es tt)
    row_named n (s.Shape.spawn e) l h = of_part e
    row_named n (s.Shape.elements x e) l h = content_named (type_of f e) (of_part e)
    row_named n (s.Shape.entries x y e) l h = content_named (type_of f e) (of_part e)
    row_named n (s.Shape.arm d e) l h = of_part e
    row_named n (s.Shape.enum_pattern x y) l h = value_named (named_ref f n) y (g.world.refs n)
    row_named n x l h = tt

    -- ---- what a node refers to

    member_at_named : (c : ℕ) (i m : Option ℕ) → RefNamed (member_at c i m)
    member_at_named c (Some i) m = tt
    member_at_named c None (Some m) = tt
    member_at_named c None None = tt

    member_ref_named : (u : Ty) (x : Bytes) → RefNamed (member_ref f u x)
    member_ref_named (t.class c) x = member_at_named c (field_by f c x) (method_by f c x)
    member_ref_named u x = tt

    pub shape_ref_named : (n : ℕ) (x : Shape) → RefNamed (shape_ref f n x)
    shape_ref_named n (s.Shape.member e x) = member_ref_named (type_of f e) x
    shape_ref_named n x = g.world.refs n
