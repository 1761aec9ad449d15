-- To name the nodes of a program is to visit them, each with what is visible at it; and they are the program's nodes in post-order.
use Rattle.std.proofs.Common.{◌≡◌, ℕ, Bool, true, false, List, [], ◌∷◌, ◌++◌, map, length, Option, refl, ap, sym, ◌∙◌, append_assoc}
use Rattle.std.proofs.Common.{append-nil}
use Rattle.std.specs.Prelude.{Some, None}
use Rattle.std.proofs.lemmas.List.{map-append}
use Rattle.verse_base.specs.declared.places.Place.{Place}
use Rattle.verse_tree.specs.Tree.{Written, Writtens, no_writtens, more_writtens, Tree, tree, Shape, Trees, no_trees, more_trees, Holes}
use Rattle.verse_tree.specs.Tree.{no_holes, more_holes, Pairs, no_pairs, more_pairs, Givens, no_givens, more_givens}
use Rattle.verse_tree.specs.Tree as t
use Rattle.verse_tree.specs.ItemTree.{FieldTree, ParamTree, FunTree, MemberTree, field, method, ItemTree, using, enumeration, class}
use Rattle.verse_tree.specs.ItemTree.{function}
use Rattle.verse_tree.specs.PostOrder.{Node, What, program, item, member, parameter, type_name, expression, node_at, written_order}
use Rattle.verse_tree.specs.PostOrder.{writtens_order, post_order, parts, trees_order, holes_order, pairs_order, givens_order}
use Rattle.verse_tree.specs.PostOrder.{default_order, params_order, fun_parts, field_parts, member_order, members_order, item_order}
use Rattle.verse_tree.specs.PostOrder.{items_order, program_order, program_place}
use Rattle.verse_tree.specs.declared.exprs.Operator.{Operator}
use Rattle.verse_tree.specs.declared.exprs.Operator.TheVariants as op
use Rattle.verse_tree.specs.declared.tables.Ref.{Ref}
use Rattle.verse_tree.specs.declared.tables.Ref.TheVariants as ref
use Rattle.verse_rules_least.specs.Least.{each}
use Rattle.verse_rules_least.specs.declared.faults.Fault.{Fault}
use Rattle.verse_names_tables.specs.Counting.{counted, counts_after, no_counts}
use Rattle.verse_names_tables.specs.declared.counting.Counts.{Counts}
use Rattle.verse_names_declarations.specs.Known.{Known, known}
use Rattle.verse_names_scopes.specs.Visible.{World, inside, outside}
use Rattle.verse_names_scopes.specs.Subjects.{Subject, quiet, defined, subject, refers, locals_behind, rules_at}
use Rattle.verse_names_scopes.specs.Subjects as u
use Rattle.verse_names_scopes.specs.Scopes.{apart, operand, through_written, through_writtens, through, through_parts, through_all}
use Rattle.verse_names_scopes.specs.Scopes.{through_arms}
use Rattle.verse_names_scopes.specs.Scopes.{through_holes, through_pairs, through_givens, through_params, through_fun, through_default}
use Rattle.verse_names_scopes.specs.Scopes.{through_field, through_member, through_members, through_item, through_items, through_program}
use Rattle.verse_names_scopes.specs.Visits.{Visit, ref_of, Seen, visit, leave, keep_fault}
use Rattle.verse_names_scopes.specs.Naming.{Naming, noted, cut, cut_back}
use Rattle.verse_names_scopes.proofs.Adding.{Grown, grown_none, grown_on, grown_behind, take_grown}

-- what naming has found where visiting has seen this
abbrev pub as_naming : Seen → Naming
as_naming s = record { locals = s.locals; refs = map ref_of s.visits; fault = each keep_fault s.visits None }

abbrev pub visit_stands : Visit → ℕ × Place
visit_stands v = (v.number, v.place)

abbrev pub node_stands : Node → ℕ × Place
node_stands v = (v.number, v.place)

-- a part of a program: how it is visited, how it is named, and its nodes
pub record Part : Type 0 where
  pub see : Seen → Seen
  pub name : Naming → Naming
  pub nodes : List Node

pub record Agrees (p : Part) (s : Seen) : Type 0 where
  pub same : p.name (as_naming s) ≡ as_naming (p.see s)
  pub grown : Grown s.locals (p.see s).locals
  pub shown : map visit_stands (p.see s).visits ≡ map visit_stands s.visits ++ map node_stands p.nodes

abbrev pub Agree : Part → Type 0
Agree p = (s : Seen) → Agrees p s

each_last : (vs : List Visit) (v : Visit) (o : Option Fault) → each keep_fault (vs ++ v ∷ []) o ≡ keep_fault v (each keep_fault vs o)
each_last [] v o = refl
each_last (x ∷ vs) v o = each_last vs v (keep_fault x o)

abbrev nothing : Part
nothing = record { see = λ s. s; name = λ x. x; nodes = [] }

nothing_agrees : Agree nothing
nothing_agrees s = record { same = refl; grown = grown_none s.locals; shown = sym (append-nil (map visit_stands s.visits)) }

-- one part behind the other
abbrev then_part : Part → Part → Part
then_part p q = record { see = λ s. q.see (p.see s); name = λ x. q.name (p.name x); nodes = p.nodes ++ q.nodes }

in_turn : {p q : Part} → Agree p → Agree q → Agree (then_part p q)
in_turn {p} {q} f g s = record {
  same = ap q.name (f s).same ∙ (g (p.see s)).same;
  grown = grown_on s.locals (p.see s).locals _ (f s).grown (g (p.see s)).grown;
  shown =
      (g (p.see s)).shown
      ∙ ap (λ l. l ++ map node_stands q.nodes) (f s).shown
      ∙ append_assoc (map visit_stands s.visits) (map node_stands p.nodes) (map node_stands q.nodes)
      ∙ ap (λ l. map visit_stands s.visits ++ l) (sym (map-append node_stands p.nodes q.nodes));
}

-- the names of a part are left behind
abbrev apart_part : Part → Part
apart_part p = record { see = apart leave p.see; name = apart cut_back p.name; nodes = p.nodes }

shut : {p : Part} → Agree p → Agree (apart_part p)
shut {p} f s = record {
  same =
      ap (cut (length s.locals)) (f s).same
      ∙ ap (λ l. as_naming (record { locals = l; visits = (p.see s).visits })) (take_grown s.locals (p.see s).locals (f s).grown);
  grown = grown_none s.locals;
  shown = (f s).shown;
}

abbrev operand_part : Operator → Part → Part
operand_part o p = record { see = operand leave o p.see; name = operand cut_back o p.name; nodes = p.nodes }

operand_agrees : {p : Part} (o : Operator) → Agree p → Agree (operand_part o p)
operand_agrees op.Or f = shut f
operand_agrees op.And f = f
operand_agrees op.Add f = f
operand_agrees op.Sub f = f
operand_agrees op.Mul f = f
operand_agrees op.Div f = f

abbrev node_part : World → ℕ → Place → Subject → What → Part
node_part w n p u x = record { see = visit w n p u; name = noted w n p u; nodes = node_at n p x }

node_agrees : (w : World) (n : ℕ) (p : Place) (u : Subject) (x : What) → Agree (node_part w n p u x)
unfolding noted keep_fault
node_agrees w n p u x s =
    let v : Visit = record { number = n; place = p; subject = u; world = w; locals = s.locals } in
    let behind = locals_behind w u s.locals in
    let with_found : List (Option Ref) → Option Fault → Naming = λ rs f. record { locals = behind; refs = rs; fault = f } in
    record {
      same =
          ap (λ rs. with_found rs (keep_fault v (each keep_fault s.visits None))) (sym (map-append ref_of s.visits (v ∷ [])))
          ∙ ap (with_found (map ref_of (s.visits ++ v ∷ []))) (sym (each_last s.visits v None));
      grown = grown_behind w u s.locals;
      shown = map-append visit_stands s.visits (v ∷ []);
    }

module _ (w : World) where
  abbrev written_part : Bool → Written → Part
  written_part b ty = record { see = through_written (visit w) b ty; name = through_written (noted w) b ty; nodes = written_order ty }

  abbrev writtens_part : Bool → Writtens → Part
  writtens_part b tys =
      record { see = through_writtens (visit w) b tys; name = through_writtens (noted w) b tys; nodes = writtens_order tys }

  mutual
    written_agrees : (b : Bool) (ty : Written) → Agree (written_part b ty)
    written_agrees b t.Written.int = nothing_agrees
    written_agrees b t.Written.logic = nothing_agrees
    written_agrees b t.Written.char = nothing_agrees
    written_agrees b t.Written.string = nothing_agrees
    written_agrees b t.Written.void = nothing_agrees
    written_agrees b (t.Written.named n p x) = node_agrees w n p (u.type_name b x) (type_name x)
    written_agrees b (t.Written.option ty) = written_agrees b ty
    written_agrees b (t.Written.array ty) = written_agrees b ty
    written_agrees b (t.Written.task ty) = written_agrees b ty
    written_agrees b (t.Written.map key ty) = in_turn (written_agrees b key) (written_agrees b ty)
    written_agrees b (t.Written.tuple tys) = writtens_agree b tys
    written_agrees b (t.Written.event ty) = written_agrees b ty
    written_agrees b t.Written.bare_event = nothing_agrees

    writtens_agree : (b : Bool) (tys : Writtens) → Agree (writtens_part b tys)
    writtens_agree b no_writtens = nothing_agrees
    writtens_agree b (more_writtens ty tys) = in_turn (written_agrees b ty) (writtens_agree b tys)

  abbrev tree_part : Tree → Part
  tree_part e = record { see = through (visit w) leave e; name = through (noted w) cut_back e; nodes = post_order e }

  abbrev shape_part : Shape → Part
  shape_part s = record { see = through_parts (visit w) leave s; name = through_parts (noted w) cut_back s; nodes = parts s }

  abbrev all_part : Trees → Part
  all_part es = record { see = through_all (visit w) leave es; name = through_all (noted w) cut_back es; nodes = trees_order es }

  abbrev arms_part : Trees → Part
  arms_part es = record { see = through_arms (visit w) leave es; name = through_arms (noted w) cut_back es; nodes = trees_order es }

  abbrev holes_part : Holes → Part
  holes_part hs = record { see = through_holes (visit w) leave hs; name = through_holes (noted w) cut_back hs; nodes = holes_order hs }

  abbrev pairs_part : Pairs → Part
  pairs_part ps = record { see = through_pairs (visit w) leave ps; name = through_pairs (noted w) cut_back ps; nodes = pairs_order ps }

  abbrev givens_part : Givens → Part
  givens_part gs = record { see = through_givens (visit w) leave gs; name = through_givens (noted w) cut_back gs; nodes = givens_order gs }

  mutual
    tree_agrees : (e : Tree) → Agree (tree_part e)
    tree_agrees (tree n p s) = in_turn (shape_agrees s) (node_agrees w n p (subject n s) (expression s))

    shape_agrees : (s : Shape) → Agree (shape_part s)
    shape_agrees (t.Shape.block es) = shut (all_agree es)
    shape_agrees (t.Shape.defer e) = tree_agrees e
    shape_agrees (t.Shape.definition x e) = tree_agrees e
    shape_agrees (t.Shape.typed x ty e) = in_turn (written_agrees true ty) (tree_agrees e)
    shape_agrees (t.Shape.variable x ty e) = in_turn (written_agrees true ty) (tree_agrees e)
    shape_agrees (t.Shape.assignment m p e) = in_turn (tree_agrees p) (tree_agrees e)
    shape_agrees (t.Shape.returned e) = tree_agrees e
    shape_agrees t.Shape.returned_unit = nothing_agrees
    shape_agrees t.Shape.break_form = nothing_agrees
    shape_agrees (t.Shape.if_else cs e f) = in_turn (shut (in_turn (all_agree cs) (tree_agrees e))) (tree_agrees f)
    shape_agrees (t.Shape.if_alone cs e) = shut (in_turn (all_agree cs) (tree_agrees e))
    shape_agrees (t.Shape.chained o e f) = in_turn (operand_agrees o (tree_agrees e)) (operand_agrees o (tree_agrees f))
    shape_agrees (t.Shape.compared c e f) = in_turn (tree_agrees e) (tree_agrees f)
    shape_agrees (t.Shape.negation e) = shut (tree_agrees e)
    shape_agrees (t.Shape.minus e) = tree_agrees e
    shape_agrees (t.Shape.call e es) = in_turn (tree_agrees e) (all_agree es)
    shape_agrees (t.Shape.index e es) = in_turn (tree_agrees e) (all_agree es)
    shape_agrees (t.Shape.member e x) = tree_agrees e
    shape_agrees (t.Shape.query e) = tree_agrees e
    shape_agrees (t.Shape.integer i) = nothing_agrees
    shape_agrees (t.Shape.character c) = nothing_agrees
    shape_agrees (t.Shape.text bs) = nothing_agrees
    shape_agrees (t.Shape.holes bs hs) = holes_agree hs
    shape_agrees t.Shape.truth = nothing_agrees
    shape_agrees t.Shape.falsehood = nothing_agrees
    shape_agrees t.Shape.this = nothing_agrees
    shape_agrees (t.Shape.name x) = nothing_agrees
    shape_agrees (t.Shape.tuple es) = all_agree es
    shape_agrees (t.Shape.array es) = all_agree es
    shape_agrees (t.Shape.option es) = shut (all_agree es)
    shape_agrees (t.Shape.logic es) = shut (all_agree es)
    shape_agrees (t.Shape.mapping ps) = pairs_agree ps
    shape_agrees (t.Shape.instance x gs) = givens_agree gs
    shape_agrees (t.Shape.event ty) = written_agrees true ty
    shape_agrees t.Shape.bare_event = nothing_agrees
    shape_agrees (t.Shape.for_form cs e) = shut (in_turn (all_agree cs) (tree_agrees e))
    shape_agrees (t.Shape.loop_form e) = tree_agrees e
    shape_agrees (t.Shape.block_form e) = tree_agrees e
    shape_agrees (t.Shape.branch e) = tree_agrees e
    shape_agrees (t.Shape.sync es) = arms_agree es
    shape_agrees (t.Shape.race es) = arms_agree es
    shape_agrees (t.Shape.rush es) = arms_agree es
    shape_agrees (t.Shape.cases e es) = in_turn (tree_agrees e) (arms_agree es)
    shape_agrees (t.Shape.spawn e) = tree_agrees e
    shape_agrees (t.Shape.sleep d) = nothing_agrees
    shape_agrees t.Shape.sleep_forever = nothing_agrees
    shape_agrees (t.Shape.elements x e) = tree_agrees e
    shape_agrees (t.Shape.entries k x e) = tree_agrees e
    shape_agrees (t.Shape.range x e f) = in_turn (tree_agrees e) (tree_agrees f)
    shape_agrees (t.Shape.arm p e) = in_turn (tree_agrees p) (tree_agrees e)
    shape_agrees (t.Shape.integer_pattern i) = nothing_agrees
    shape_agrees (t.Shape.minus_pattern i) = nothing_agrees
    shape_agrees (t.Shape.character_pattern c) = nothing_agrees
    shape_agrees (t.Shape.text_pattern bs) = nothing_agrees
    shape_agrees t.Shape.truth_pattern = nothing_agrees
    shape_agrees t.Shape.falsehood_pattern = nothing_agrees
    shape_agrees t.Shape.any_pattern = nothing_agrees
    shape_agrees (t.Shape.enum_pattern x v) = nothing_agrees

    all_agree : (l : Trees) → Agree (all_part l)
    all_agree no_trees = nothing_agrees
    all_agree (more_trees e es) = in_turn (tree_agrees e) (all_agree es)

    arms_agree : (l : Trees) → Agree (arms_part l)
    arms_agree no_trees = nothing_agrees
    arms_agree (more_trees e es) = in_turn (shut (tree_agrees e)) (arms_agree es)

    holes_agree : (l : Holes) → Agree (holes_part l)
    holes_agree no_holes = nothing_agrees
    holes_agree (more_holes e bs hs) = in_turn (tree_agrees e) (holes_agree hs)

    pairs_agree : (l : Pairs) → Agree (pairs_part l)
    pairs_agree no_pairs = nothing_agrees
    pairs_agree (more_pairs k e ps) = in_turn (in_turn (tree_agrees k) (tree_agrees e)) (pairs_agree ps)

    givens_agree : (l : Givens) → Agree (givens_part l)
    givens_agree no_givens = nothing_agrees
    givens_agree (more_givens x e gs) = in_turn (tree_agrees e) (givens_agree gs)

  abbrev params_part : List ParamTree → Part
  params_part ps = record { see = through_params (visit w) leave ps; name = through_params (noted w) cut_back ps; nodes = params_order ps }

  params_agree : (ps : List ParamTree) → Agree (params_part ps)
  params_agree [] = nothing_agrees
  params_agree (p ∷ ps) =
      let own = node_agrees w p.number p.place (defined p.name (ref.Local p.number)) (parameter p) in
      in_turn (in_turn (written_agrees false p.written) own) (params_agree ps)

  abbrev fun_part : FunTree → Part
  fun_part f = record { see = through_fun (visit w) leave f; name = through_fun (noted w) cut_back f; nodes = fun_parts f }

  fun_agrees : (f : FunTree) → Agree (fun_part f)
  fun_agrees f = shut (in_turn (in_turn (params_agree f.params) (written_agrees false f.written)) (tree_agrees f.body))

  abbrev default_part : Option Tree → Part
  default_part o = record { see = through_default (visit w) leave o; name = through_default (noted w) cut_back o; nodes = default_order o }

  default_agrees : (o : Option Tree) → Agree (default_part o)
  default_agrees None = nothing_agrees
  default_agrees (Some e) = shut (tree_agrees e)

  abbrev field_part : FieldTree → Part
  field_part d = record { see = through_field (visit w) leave d; name = through_field (noted w) cut_back d; nodes = field_parts d }

  field_agrees : (d : FieldTree) → Agree (field_part d)
  field_agrees d = in_turn (written_agrees false d.written) (default_agrees d.default)

module _ (k : Known) where
  abbrev member_part : World → World → MemberTree → Part
  member_part w v m =
      record { see = through_member visit leave k w v m; name = through_member noted cut_back k w v m; nodes = member_order m }

  member_agrees : (w v : World) (m : MemberTree) → Agree (member_part w v m)
  member_agrees w v (field d) = in_turn (field_agrees w d) (node_agrees w d.number d.place quiet (member (field d)))
  member_agrees w v (method f) = in_turn (fun_agrees v f) (node_agrees w f.number f.place quiet (member (method f)))

  abbrev members_part : World → World → List MemberTree → Part
  members_part w v ms =
      record { see = through_members visit leave k w v ms; name = through_members noted cut_back k w v ms; nodes = members_order ms }

  members_agree : (w v : World) (ms : List MemberTree) → Agree (members_part w v ms)
  members_agree w v [] = nothing_agrees
  members_agree w v (m ∷ ms) = in_turn (member_agrees w v m) (members_agree w v ms)

  abbrev item_part : ItemTree → Counts → Part
  item_part i c = record { see = through_item visit leave k i c; name = through_item noted cut_back k i c; nodes = item_order i }

  item_agrees : (i : ItemTree) (c : Counts) → Agree (item_part i c)
  item_agrees (using i) c = node_agrees (outside k) i.number i.place quiet (item (using i))
  item_agrees (enumeration e) c = node_agrees (outside k) e.number e.place quiet (item (enumeration e))
  item_agrees (class d) c =
      in_turn (members_agree (outside k) (inside k c.classes) d.members) (node_agrees (outside k) d.number d.place quiet (item (class d)))
  item_agrees (function f) c = in_turn (fun_agrees (outside k) f) (node_agrees (outside k) f.number f.place quiet (item (function f)))

  abbrev items_part : Counts → List ItemTree → Part
  items_part c is =
      let all = counted c is in
      record { see = through_items visit leave k all; name = through_items noted cut_back k all; nodes = items_order is }

  items_agree : (c : Counts) (is : List ItemTree) → Agree (items_part c is)
  items_agree c [] = nothing_agrees
  items_agree c (i ∷ is) = in_turn (item_agrees i c) (items_agree (counts_after i c) is)

abbrev program_part : List ItemTree → Part
program_part is = record { see = through_program visit leave is; name = through_program noted cut_back is; nodes = program_order is }

pub program_agrees : (is : List ItemTree) → Agree (program_part is)
program_agrees is =
    in_turn (items_agree (known is) no_counts is)
    (node_agrees (outside (known is)) (length (items_order is)) program_place quiet (program is))
