-- What the patterns of enums refer to: an item of that name.
use Rattle.std.proofs.Common.{◌≡◌, ℕ, Bool, true, false, List, [], ◌∷◌, ◌++◌, length, Option, Some, None, refl, ap, sym}
use Rattle.std.proofs.Common.{subst, ◌∙◌, append_assoc, append-nil}
use Rattle.verse_base.specs.declared.places.Place.{Place}
use Rattle.verse_tree.specs.Tree.{Bytes, Written, Writtens, no_writtens, more_writtens, Tree, tree, Shape, Trees, no_trees, more_trees}
use Rattle.verse_tree.specs.Tree.{Holes, no_holes, more_holes, Pairs, no_pairs, more_pairs, Givens, no_givens, more_givens}
use Rattle.verse_tree.specs.Tree as t
use Rattle.verse_tree.specs.ItemTree.{FieldTree, ParamTree, FunTree, MemberTree, field, method, ItemTree, using, enumeration, class}
use Rattle.verse_tree.specs.ItemTree.{function}
use Rattle.verse_tree.specs.PostOrder.{Node, What, program, item, member, parameter, type_name, expression, node_at, written_order}
use Rattle.verse_tree.specs.PostOrder.{writtens_order, post_order, parts, trees_order, holes_order, pairs_order, givens_order}
use Rattle.verse_tree.specs.PostOrder.{default_order, params_order, fun_parts, field_parts, member_order, members_order, item_order}
use Rattle.verse_tree.specs.PostOrder.{items_order, program_order, program_place}
use Rattle.verse_tree.specs.declared.exprs.Operator.{Operator}
use Rattle.verse_tree.specs.declared.exprs.Operator.TheVariants as op
use Rattle.verse_tree.specs.declared.tables.Ref.{Ref}
use Rattle.verse_tree.specs.declared.tables.Ref.TheVariants as ref
use Rattle.verse_names_tables.specs.Names.{Table, look}
use Rattle.verse_names_tables.specs.Words.{builtins}
use Rattle.verse_names_tables.specs.Counting.{counted, counts_after, no_counts}
use Rattle.verse_names_tables.specs.declared.counting.Counts.{Counts}
use Rattle.verse_names_declarations.specs.Known.{Known, known}
use Rattle.verse_names_scopes.specs.Visible.{World, inside, outside, either, visible, with_name, with_local}
use Rattle.verse_names_scopes.specs.Subjects.{Subject, quiet, defined, subject, refers, locals_behind}
use Rattle.verse_names_scopes.specs.Subjects as u
use Rattle.verse_names_scopes.specs.Scopes.{apart, operand, through_written, through_writtens, through, through_parts, through_all}
use Rattle.verse_names_scopes.specs.Scopes.{through_arms}
use Rattle.verse_names_scopes.specs.Scopes.{through_holes, through_pairs, through_givens, through_params, through_fun, through_default}
use Rattle.verse_names_scopes.specs.Scopes.{through_field, through_member, through_members, through_item, through_items, through_program}
use Rattle.verse_names_scopes.specs.Visits.{Visit, ref_of, Seen, visit, leave, nothing_seen, program_visits}
use Rattle.lower_bounds.proofs.Lists.{each_joined}
use Rattle.verse_accept_nodes.proofs.Plain.{IsNoEnum, NoneIsEnum, Plain, look_plain, members_plain, builtins_plain}

module _ (table : Table) where
  -- a name that stands for an enum is an item's
  abbrev pub IsItem : Bytes → Option Ref → Type 0
  IsItem x (Some (ref.Enum e)) = look x table ≡ Some (ref.Enum e)
  IsItem x o = Unit {0}

  abbrev pub ShapeNames : Shape → Option Ref → Type 0
  ShapeNames (t.Shape.enum_pattern x y) o = IsItem x o
  ShapeNames s o = Unit {0}

  abbrev pub WhatNames : What → Option Ref → Type 0
  WhatNames (expression s) o = ShapeNames s o
  WhatNames other o = Unit {0}

  -- ---- at one node

  record Fair (w : World) : Type 0 where
    items : w.items ≡ table
    members : Plain w.members

  no_enum_names : (x : Bytes) (r : Ref) → IsNoEnum r → IsItem x (Some r)
  no_enum_names x (ref.Enum e) h = absurd h
  no_enum_names x _ h = tt

  either_names : (x : Bytes) (o q : Option Ref) → NoneIsEnum o → IsItem x q → IsItem x (either o q)
  either_names x None q h g = g
  either_names x (Some r) q h g = no_enum_names x r h

  item_names : (x : Bytes) (o q : Option Ref) → look x table ≡ o → NoneIsEnum q → IsItem x (either o q)
  item_names x None None e h = tt
  item_names x None (Some r) e h = no_enum_names x r h
  item_names x (Some (ref.Enum n)) q e h = e
  item_names x (Some _) q e h = tt

  visible_names : (w : World) (s : Table) (x : Bytes) → Fair w → Plain s → IsItem x (visible w s x)
  visible_names w s x f h =
      either_names x (look x s) _ (look_plain x s h)
      (either_names x (look x w.members) _ (look_plain x w.members f.members)
      (item_names x (look x w.items) (look x builtins) (ap (look x) (sym f.items)) (look_plain x builtins builtins_plain)))

  shape_names : (w : World) (s : Table) (n : ℕ) (e : Shape) → Fair w → Plain s → ShapeNames e (refers w s (subject n e))
  shape_names w s n (t.Shape.enum_pattern x y) f h = visible_names w s x f h
  shape_names w s n e f h = tt

  -- names that are defined stand for no enums
  abbrev IsOwn : Subject → Type 0
  IsOwn (u.defined x r) = IsNoEnum r
  IsOwn (u.both_defined x r y q) = IsNoEnum r × IsNoEnum q
  IsOwn s = Unit {0}

  shape_own : (n : ℕ) (e : Shape) → IsOwn (subject n e)
  shape_own n (t.Shape.definition x e) = tt
  shape_own n (t.Shape.entries k x e) = (tt, tt)
  shape_own n e = tt

  with_plain : (x : Bytes) (r : Ref) (o : Option Ref) (s : Table) → IsNoEnum r → Plain s → Plain (with_name x r o s)
  with_plain x r None s h g = each_joined _ s ((x, r) ∷ []) g (h, tt)
  with_plain x r (Some q) s h g = g

  behind_plain : (w : World) (a : Subject) (s : Table) → IsOwn a → Plain s → Plain (locals_behind w a s)
  behind_plain w (u.defined x r) s h g = with_plain x r (visible w s x) s h g
  behind_plain w (u.both_defined x r y q) s h g =
      with_plain y q (visible w (with_local w x r s) y) (with_local w x r s) h.1 (with_plain x r (visible w s x) s h.0 g)
  behind_plain w a s h g = g

  -- ---- at the nodes of a part

  abbrev pub Paired : List Visit → List Node → Type 0
  Paired [] [] = Unit {0}
  Paired [] (v ∷ vs) = ⊥
  Paired (x ∷ xs) [] = ⊥
  Paired (x ∷ xs) (v ∷ vs) = WhatNames v.what (ref_of x) × Paired xs vs

  paired_joined : (xs ys : List Visit) (vs us : List Node) → Paired xs vs → Paired ys us → Paired (xs ++ ys) (vs ++ us)
  paired_joined [] ys [] us h g = g
  paired_joined (x ∷ xs) ys (v ∷ vs) us h g = (h.0, paired_joined xs ys vs us h.1 g)
  paired_joined [] ys (v ∷ vs) us h g = absurd h
  paired_joined (x ∷ xs) ys [] us h g = absurd h

  -- a part of a program: how it is visited, and its nodes
  record Part : Type 0 where
    see : Seen → Seen
    nodes : List Node

  record Shows (p : Part) (s : Seen) : Type 0 where
    fresh : List Visit
    seen : (p.see s).visits ≡ s.visits ++ fresh
    paired : Paired fresh p.nodes
    plain : Plain (p.see s).locals

  abbrev Show : Part → Type 0
  Show p = (s : Seen) → Plain s.locals → Shows p s

  abbrev nothing : Part
  nothing = record { see = λ s. s; nodes = [] }

  nothing_shows : Show nothing
  nothing_shows s h = record { fresh = []; seen = sym (append-nil s.visits); paired = tt; plain = h }

  abbrev then_part : Part → Part → Part
  then_part p q = record { see = λ s. q.see (p.see s); nodes = p.nodes ++ q.nodes }

  in_turn : {p q : Part} → Show p → Show q → Show (then_part p q)
  in_turn {p} {q} f g s h =
      let a = f s h in
      let b = g (p.see s) a.plain in
      record {
        fresh = a.fresh ++ b.fresh;
        seen = b.seen ∙ (ap (λ l. l ++ b.fresh) a.seen ∙ append_assoc s.visits a.fresh b.fresh);
        paired = paired_joined a.fresh b.fresh p.nodes q.nodes a.paired b.paired;
        plain = b.plain;
      }

  abbrev apart_part : Part → Part
  apart_part p = record { see = apart leave p.see; nodes = p.nodes }

  shut : {p : Part} → Show p → Show (apart_part p)
  shut {p} f s h = let a = f s h in record { fresh = a.fresh; seen = a.seen; paired = a.paired; plain = h }

  abbrev operand_part : Operator → Part → Part
  operand_part o p = record { see = operand leave o p.see; nodes = p.nodes }

  operand_shows : {p : Part} (o : Operator) → Show p → Show (operand_part o p)
  operand_shows op.Or f = shut f
  operand_shows op.And f = f
  operand_shows op.Add f = f
  operand_shows op.Sub f = f
  operand_shows op.Mul f = f
  operand_shows op.Div f = f

  module _ (w : World) (fair : Fair w) where
    abbrev node_part : ℕ → Place → Subject → What → Part
    node_part n p a x = record { see = visit w n p a; nodes = node_at n p x }

    node_shows : (n : ℕ) (p : Place) (a : Subject) (x : What) → IsOwn a →
        ((s : Table) → Plain s → WhatNames x (refers w s a)) → Show (node_part n p a x)
    node_shows n p a x own names s h = record {
      fresh = record { number = n; place = p; subject = a; world = w; locals = s.locals } ∷ [];
      seen = refl;
      paired = (names s.locals h, tt);
      plain = behind_plain w a s.locals own h;
    }

    abbrev written_part : Bool → Written → Part
    written_part b ty = record { see = through_written (visit w) b ty; nodes = written_order ty }

    abbrev writtens_part : Bool → Writtens → Part
    writtens_part b tys = record { see = through_writtens (visit w) b tys; nodes = writtens_order tys }

    mutual
      written_shows : (b : Bool) (ty : Written) → Show (written_part b ty)
      written_shows b t.Written.int = nothing_shows
      written_shows b t.Written.logic = nothing_shows
      written_shows b t.Written.char = nothing_shows
      written_shows b t.Written.string = nothing_shows
      written_shows b t.Written.void = nothing_shows
      written_shows b (t.Written.named n p x) = node_shows n p (u.type_name b x) (type_name x) tt (λ s h. tt)
      written_shows b (t.Written.option ty) = written_shows b ty
      written_shows b (t.Written.array ty) = written_shows b ty
      written_shows b (t.Written.task ty) = written_shows b ty
      written_shows b (t.Written.map key ty) = in_turn (written_shows b key) (written_shows b ty)
      written_shows b (t.Written.tuple tys) = writtens_show b tys
      written_shows b (t.Written.event ty) = written_shows b ty
      written_shows b t.Written.bare_event = nothing_shows

      writtens_show : (b : Bool) (tys : Writtens) → Show (writtens_part b tys)
      writtens_show b no_writtens = nothing_shows
      writtens_show b (more_writtens ty tys) = in_turn (written_shows b ty) (writtens_show b tys)

    abbrev tree_part : Tree → Part
    tree_part e = record { see = through (visit w) leave e; nodes = post_order e }

    abbrev shape_part : Shape → Part
    shape_part s = record { see = through_parts (visit w) leave s; nodes = parts s }

    abbrev all_part : Trees → Part
    all_part es = record { see = through_all (visit w) leave es; nodes = trees_order es }

    abbrev arms_part : Trees → Part
    arms_part es = record { see = through_arms (visit w) leave es; nodes = trees_order es }

    abbrev holes_part : Holes → Part
    holes_part hs = record { see = through_holes (visit w) leave hs; nodes = holes_order hs }

    abbrev pairs_part : Pairs → Part
    pairs_part ps = record { see = through_pairs (visit w) leave ps; nodes = pairs_order ps }

    abbrev givens_part : Givens → Part
    givens_part gs = record { see = through_givens (visit w) leave gs; nodes = givens_order gs }

    mutual
      tree_shows : (e : Tree) → Show (tree_part e)
      tree_shows (tree n p s) = in_turn (shape_shows s)
          (node_shows n p (subject n s) (expression s) (shape_own n s) (λ ls h. shape_names w ls n s fair h))

      shape_shows : (s : Shape) → Show (shape_part s)
      shape_shows (t.Shape.block es) = shut (all_show es)
      shape_shows (t.Shape.defer e) = tree_shows e
      shape_shows (t.Shape.definition x e) = tree_shows e
      shape_shows (t.Shape.typed x ty e) = in_turn (written_shows true ty) (tree_shows e)
      shape_shows (t.Shape.variable x ty e) = in_turn (written_shows true ty) (tree_shows e)
      shape_shows (t.Shape.assignment m p e) = in_turn (tree_shows p) (tree_shows e)
      shape_shows (t.Shape.returned e) = tree_shows e
      shape_shows t.Shape.returned_unit = nothing_shows
      shape_shows t.Shape.break_form = nothing_shows
      shape_shows (t.Shape.if_else cs e f) = in_turn (shut (in_turn (all_show cs) (tree_shows e))) (tree_shows f)
      shape_shows (t.Shape.if_alone cs e) = shut (in_turn (all_show cs) (tree_shows e))
      shape_shows (t.Shape.chained o e f) = in_turn (operand_shows o (tree_shows e)) (operand_shows o (tree_shows f))
      shape_shows (t.Shape.compared c e f) = in_turn (tree_shows e) (tree_shows f)
      shape_shows (t.Shape.negation e) = shut (tree_shows e)
      shape_shows (t.Shape.minus e) = tree_shows e
      shape_shows (t.Shape.call e es) = in_turn (tree_shows e) (all_show es)
      shape_shows (t.Shape.index e es) = in_turn (tree_shows e) (all_show es)
      shape_shows (t.Shape.member e x) = tree_shows e
      shape_shows (t.Shape.query e) = tree_shows e
      shape_shows (t.Shape.integer i) = nothing_shows
      shape_shows (t.Shape.character c) = nothing_shows
      shape_shows (t.Shape.text bs) = nothing_shows
      shape_shows (t.Shape.holes bs hs) = holes_show hs
      shape_shows t.Shape.truth = nothing_shows
      shape_shows t.Shape.falsehood = nothing_shows
      shape_shows t.Shape.this = nothing_shows
      shape_shows (t.Shape.name x) = nothing_shows
      shape_shows (t.Shape.tuple es) = all_show es
      shape_shows (t.Shape.array es) = all_show es
      shape_shows (t.Shape.option es) = shut (all_show es)
      shape_shows (t.Shape.logic es) = shut (all_show es)
      shape_shows (t.Shape.mapping ps) = pairs_show ps
      shape_shows (t.Shape.instance x gs) = givens_show gs
      shape_shows (t.Shape.event ty) = written_shows true ty
      shape_shows t.Shape.bare_event = nothing_shows
      shape_shows (t.Shape.for_form cs e) = shut (in_turn (all_show cs) (tree_shows e))
      shape_shows (t.Shape.loop_form e) = tree_shows e
      shape_shows (t.Shape.block_form e) = tree_shows e
      shape_shows (t.Shape.branch e) = tree_shows e
      shape_shows (t.Shape.sync es) = arms_show es
      shape_shows (t.Shape.race es) = arms_show es
      shape_shows (t.Shape.rush es) = arms_show es
      shape_shows (t.Shape.cases e es) = in_turn (tree_shows e) (arms_show es)
      shape_shows (t.Shape.spawn e) = tree_shows e
      shape_shows (t.Shape.sleep d) = nothing_shows
      shape_shows t.Shape.sleep_forever = nothing_shows
      shape_shows (t.Shape.elements x e) = tree_shows e
      shape_shows (t.Shape.entries k x e) = tree_shows e
      shape_shows (t.Shape.range x e f) = in_turn (tree_shows e) (tree_shows f)
      shape_shows (t.Shape.arm p e) = in_turn (tree_shows p) (tree_shows e)
      shape_shows (t.Shape.integer_pattern i) = nothing_shows
      shape_shows (t.Shape.minus_pattern i) = nothing_shows
      shape_shows (t.Shape.character_pattern c) = nothing_shows
      shape_shows (t.Shape.text_pattern bs) = nothing_shows
      shape_shows t.Shape.truth_pattern = nothing_shows
      shape_shows t.Shape.falsehood_pattern = nothing_shows
      shape_shows t.Shape.any_pattern = nothing_shows
      shape_shows (t.Shape.enum_pattern x v) = nothing_shows

      all_show : (l : Trees) → Show (all_part l)
      all_show no_trees = nothing_shows
      all_show (more_trees e es) = in_turn (tree_shows e) (all_show es)

      arms_show : (l : Trees) → Show (arms_part l)
      arms_show no_trees = nothing_shows
      arms_show (more_trees e es) = in_turn (shut (tree_shows e)) (arms_show es)

      holes_show : (l : Holes) → Show (holes_part l)
      holes_show no_holes = nothing_shows
      holes_show (more_holes e bs hs) = in_turn (tree_shows e) (holes_show hs)

      pairs_show : (l : Pairs) → Show (pairs_part l)
      pairs_show no_pairs = nothing_shows
      pairs_show (more_pairs k e ps) = in_turn (in_turn (tree_shows k) (tree_shows e)) (pairs_show ps)

      givens_show : (l : Givens) → Show (givens_part l)
      givens_show no_givens = nothing_shows
      givens_show (more_givens x e gs) = in_turn (tree_shows e) (givens_show gs)

    abbrev params_part : List ParamTree → Part
    params_part ps = record { see = through_params (visit w) leave ps; nodes = params_order ps }

    params_show : (ps : List ParamTree) → Show (params_part ps)
    params_show [] = nothing_shows
    params_show (p ∷ ps) =
        let own = node_shows p.number p.place (defined p.name (ref.Local p.number)) (parameter p) tt (λ s h. tt) in
        in_turn (in_turn (written_shows false p.written) own) (params_show ps)

    abbrev fun_part : FunTree → Part
    fun_part f = record { see = through_fun (visit w) leave f; nodes = fun_parts f }

    fun_shows : (f : FunTree) → Show (fun_part f)
    fun_shows f = shut (in_turn (in_turn (params_show f.params) (written_shows false f.written)) (tree_shows f.body))

    abbrev default_part : Option Tree → Part
    default_part o = record { see = through_default (visit w) leave o; nodes = default_order o }

    default_shows : (o : Option Tree) → Show (default_part o)
    default_shows None = nothing_shows
    default_shows (Some e) = shut (tree_shows e)

    abbrev field_part : FieldTree → Part
    field_part d = record { see = through_field (visit w) leave d; nodes = field_parts d }

    field_shows : (d : FieldTree) → Show (field_part d)
    field_shows d = in_turn (written_shows false d.written) (default_shows d.default)

  module _ (k : Known) (same : k.index.items ≡ table) where
    out : Fair (outside k)
    out = record { items = same; members = tt }

    within : (c : ℕ) → Fair (inside k c)
    within c = record { items = same; members = members_plain k c }

    -- a node at which nothing is named
    quiet_shows : (w : World) (n : ℕ) (p : Place) (x : What) (fair : Fair w) → ((o : Option Ref) → WhatNames x o) →
        Show (node_part w fair n p quiet x)
    quiet_shows w n p x fair h = node_shows w fair n p quiet x tt (λ s g. h (refers w s quiet))

    abbrev member_part : World → World → MemberTree → Part
    member_part w v m = record { see = through_member visit leave k w v m; nodes = member_order m }

    member_shows : (w v : World) → Fair w → Fair v → (m : MemberTree) → Show (member_part w v m)
    member_shows w v f g (field d) =
        in_turn (field_shows w f d) (quiet_shows w d.number d.place (member (field d)) f (λ o. tt))
    member_shows w v f g (method d) =
        in_turn (fun_shows v g d) (quiet_shows w d.number d.place (member (method d)) f (λ o. tt))

    abbrev members_part : World → World → List MemberTree → Part
    members_part w v ms = record { see = through_members visit leave k w v ms; nodes = members_order ms }

    members_show : (w v : World) → Fair w → Fair v → (ms : List MemberTree) → Show (members_part w v ms)
    members_show w v f g [] = nothing_shows
    members_show w v f g (m ∷ ms) = in_turn (member_shows w v f g m) (members_show w v f g ms)

    abbrev item_part : ItemTree → Counts → Part
    item_part i c = record { see = through_item visit leave k i c; nodes = item_order i }

    item_shows : (i : ItemTree) (c : Counts) → Show (item_part i c)
    item_shows (using i) c = quiet_shows (outside k) i.number i.place (item (using i)) out (λ o. tt)
    item_shows (enumeration e) c = quiet_shows (outside k) e.number e.place (item (enumeration e)) out (λ o. tt)
    item_shows (class d) c =
        in_turn (members_show (outside k) (inside k c.classes) out (within c.classes) d.members)
        (quiet_shows (outside k) d.number d.place (item (class d)) out (λ o. tt))
    item_shows (function f) c =
        in_turn (fun_shows (outside k) out f) (quiet_shows (outside k) f.number f.place (item (function f)) out (λ o. tt))

    abbrev items_part : Counts → List ItemTree → Part
    items_part c is = record { see = through_items visit leave k (counted c is); nodes = items_order is }

    items_show : (c : Counts) (is : List ItemTree) → Show (items_part c is)
    items_show c [] = nothing_shows
    items_show c (i ∷ is) = in_turn (item_shows i c) (items_show (counts_after i c) is)

-- the names of the items of a program
abbrev pub item_table : List ItemTree → Table
item_table is = (known is).index.items

abbrev program_part : (is : List ItemTree) → Part (item_table is)
program_part is = record { see = through_program visit leave is; nodes = program_order is }

program_shows : (is : List ItemTree) → Show (item_table is) (program_part is)
program_shows is =
    in_turn (item_table is) (items_show (item_table is) (known is) refl no_counts is)
    (quiet_shows (item_table is) (known is) refl (outside (known is)) (length (items_order is)) program_place (program is)
    (out (item_table is) (known is) refl) (λ o. tt))

pub program_paired : (is : List ItemTree) → Paired (item_table is) (program_visits is) (program_order is)
program_paired is =
    let shown = program_shows is nothing_seen tt in
    subst (λ vs. Paired (item_table is) vs (program_order is)) (sym shown.seen) shown.paired
