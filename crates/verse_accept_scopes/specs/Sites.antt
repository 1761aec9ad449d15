-- The nodes of a program, each with what stands round it and with the names that are visible at it,
-- as a recursion on its trees. Names are added by statements, conditions, clauses and parameters;
-- an expression adds none, so its parts all see the same names.
use Rattle.std.specs.Prelude.{ℕ, ◌+◌, Bool, true, false, List, [], ◌∷◌, ◌++◌, Option, Some, None}
use Rattle.verse_base.specs.declared.places.Place.{Place}
use Rattle.verse_tree.specs.Tree.{Written, Writtens, no_writtens, more_writtens, Tree, tree, Shape}
use Rattle.verse_tree.specs.Tree.{Trees, no_trees, more_trees}
use Rattle.verse_tree.specs.Tree.{Holes, no_holes, more_holes, Pairs, no_pairs, more_pairs, Givens}
use Rattle.verse_tree.specs.Tree.{no_givens, more_givens}
use Rattle.verse_tree.specs.Tree as t
use Rattle.verse_tree.specs.ItemTree.{FieldTree, ParamTree, FunTree, MemberTree, field, method}
use Rattle.verse_tree.specs.ItemTree.{ItemTree, using, enumeration, class}
use Rattle.verse_tree.specs.ItemTree.{function}
use Rattle.verse_tree.specs.PostOrder.{What, item, member, parameter, type_name, expression}
use Rattle.verse_tree.specs.declared.tables.Ref.TheVariants as ref
use Rattle.verse_names_tables.specs.Names.{Table}
use Rattle.verse_names_tables.specs.Counting.{Counted}
use Rattle.verse_names_tables.specs.declared.counting.Counts.{Counts}
use Rattle.verse_names_declarations.specs.Known.{Known, known}
use Rattle.verse_names_scopes.specs.Visible.{World, inside}
use Rattle.verse_names_scopes.specs.Visible as visible
use Rattle.verse_names_scopes.specs.Subjects.{Subject, quiet, defined, subject, locals_behind}
use Rattle.verse_names_scopes.specs.Subjects as u
use Rattle.verse_names_scopes.specs.Visits.{Visit}
use Rattle.verse_rules_walk.specs.Around.{Around, value, callee, object, target, spawned, argument}
use Rattle.verse_rules_walk.specs.Around.{outside, default_around, used_as}
use Rattle.verse_rules_walk.specs.Around.{freely}
use Rattle.verse_rules_walk.specs.Around.{caught, looped, repeated, armed, deferred, left_of}
use Rattle.verse_rules_walk.specs.Around.{indexed}
use Rattle.verse_rules_walk.specs.Nodes.{Node, node, number_of_tree, round_body}

pub record Site : Type 0 where
  pub number : ℕ
  pub place : Place
  pub around : Around
  -- what it is, and what it has to do with names
  pub what : What
  pub subject : Subject
  -- what is visible at it
  pub world : World
  pub locals : Table

-- as it is walked, and as its names are looked up
abbrev pub node_of : Site → Node
node_of v = node v.number v.place v.around v.what

abbrev pub visit_of : Site → Visit
visit_of v = record {
  number = v.number;
  place = v.place;
  subject = v.subject;
  world = v.world;
  locals = v.locals;
}

-- a parameter gives its name to its own node
abbrev pub param_subject : ParamTree → Subject
param_subject p = defined p.name (ref.Local p.number)

module _ (w : World) where
  -- the local names that are visible behind a tree, and behind several
  abbrev pub behind : Tree → Table → Table
  behind (tree n p s) xs = locals_behind w (subject n s) xs

  abbrev pub all_behind : Trees → Table → Table
  all_behind no_trees xs = xs
  all_behind (more_trees e es) xs = all_behind es (behind e xs)

  abbrev pub params_behind : List ParamTree → Table → Table
  params_behind [] xs = xs
  params_behind (p ∷ ps) xs = params_behind ps (locals_behind w (param_subject p) xs)

  abbrev pub site : ℕ → Place → Around → Table → What → Subject → Site
  site n p a xs x u = record {
    number = n;
    place = p;
    around = a;
    what = x;
    subject = u;
    world = w;
    locals = xs;
  }

  -- an expression, a parameter, and a name in a type that may stand in a body
  abbrev pub tree_site : Around → Table → Tree → Site
  tree_site a xs (tree n p s) = site n p a xs (expression s) (subject n s)

  abbrev pub param_site : Table → ParamTree → Site
  param_site xs p = site p.number p.place outside xs (parameter p) (param_subject p)

  abbrev mutual
    pub written_sites : Around → Bool → Table → Written → List Site
    written_sites a b xs t.Written.int = []
    written_sites a b xs t.Written.logic = []
    written_sites a b xs t.Written.char = []
    written_sites a b xs t.Written.string = []
    written_sites a b xs t.Written.void = []
    written_sites a b xs (t.Written.named n p x) =
        site n p a xs (type_name x) (u.type_name b x) ∷ []
    written_sites a b xs (t.Written.option ty) = written_sites a b xs ty
    written_sites a b xs (t.Written.array ty) = written_sites a b xs ty
    written_sites a b xs (t.Written.task ty) = written_sites a b xs ty
    written_sites a b xs (t.Written.map key ty) =
        written_sites a b xs key ++ written_sites a b xs ty
    written_sites a b xs (t.Written.tuple tys) = writtens_sites a b xs tys
    written_sites a b xs (t.Written.event ty) = written_sites a b xs ty
    written_sites a b xs t.Written.bare_event = []

    pub writtens_sites : Around → Bool → Table → Writtens → List Site
    writtens_sites a b xs no_writtens = []
    writtens_sites a b xs (more_writtens ty tys) =
        written_sites a b xs ty ++ writtens_sites a b xs tys

  abbrev mutual
    pub tree_sites : Around → Table → Tree → List Site
    tree_sites a xs (tree n p s) =
        shape_sites n a xs s ++ site n p a xs (expression s) (subject n s) ∷ []

    -- the parts of the node n
    pub shape_sites : ℕ → Around → Table → Shape → List Site
    shape_sites n a xs (t.Shape.block ts) = all_sites (freely a) xs ts
    shape_sites n a xs (t.Shape.defer b) = tree_sites (deferred a) xs b
    shape_sites n a xs (t.Shape.definition x b) = tree_sites (freely a) xs b
    shape_sites n a xs (t.Shape.typed x ty b) =
        written_sites a true xs ty ++ tree_sites (used_as (value ty) a) xs b
    shape_sites n a xs (t.Shape.variable x ty b) =
        written_sites a true xs ty ++ tree_sites (used_as (value ty) a) xs b
    shape_sites n a xs (t.Shape.assignment m b c) =
        tree_sites (used_as target a) xs b ++ tree_sites (freely a) xs c
    shape_sites n a xs (t.Shape.returned b) = tree_sites (freely a) xs b
    shape_sites n a xs t.Shape.returned_unit = []
    shape_sites n a xs t.Shape.break_form = []
    -- the names of the conditions are visible in the part that is taken
    shape_sites n a xs (t.Shape.if_else ts b c) =
        all_sites (caught a) xs ts ++ tree_sites (freely a) (all_behind ts xs) b ++
        tree_sites (freely a) xs c
    shape_sites n a xs (t.Shape.if_alone ts b) =
        all_sites (caught a) xs ts ++ tree_sites (freely a) (all_behind ts xs) b
    shape_sites n a xs (t.Shape.chained x b c) =
        tree_sites (left_of x a) xs b ++ tree_sites (freely a) xs c
    shape_sites n a xs (t.Shape.compared x b c) =
        tree_sites (freely a) xs b ++ tree_sites (freely a) xs c
    shape_sites n a xs (t.Shape.negation b) = tree_sites (caught a) xs b
    shape_sites n a xs (t.Shape.minus b) = tree_sites (freely a) xs b
    shape_sites n a xs (t.Shape.call b ts) =
        tree_sites (used_as callee a) xs b ++ argument_sites a xs (number_of_tree b) 0 ts
    shape_sites n a xs (t.Shape.index b ts) =
        tree_sites (indexed a) xs b ++ argument_sites a xs (number_of_tree b) 0 ts
    shape_sites n a xs (t.Shape.member b x) = tree_sites (used_as object a) xs b
    shape_sites n a xs (t.Shape.query b) = tree_sites (freely a) xs b
    shape_sites n a xs (t.Shape.integer x) = []
    shape_sites n a xs (t.Shape.character x) = []
    shape_sites n a xs (t.Shape.text x) = []
    shape_sites n a xs (t.Shape.holes x hs) = holes_sites (freely a) xs hs
    shape_sites n a xs t.Shape.truth = []
    shape_sites n a xs t.Shape.falsehood = []
    shape_sites n a xs t.Shape.this = []
    shape_sites n a xs (t.Shape.name x) = []
    shape_sites n a xs (t.Shape.tuple ts) = each_sites (freely a) xs ts
    shape_sites n a xs (t.Shape.array ts) = each_sites (freely a) xs ts
    shape_sites n a xs (t.Shape.option ts) = all_sites (caught a) xs ts
    shape_sites n a xs (t.Shape.logic ts) = all_sites (caught a) xs ts
    shape_sites n a xs (t.Shape.mapping ps) = pairs_sites (freely a) xs ps
    shape_sites n a xs (t.Shape.instance x gs) = givens_sites (freely a) xs gs
    shape_sites n a xs (t.Shape.event ty) = written_sites a true xs ty
    shape_sites n a xs t.Shape.bare_event = []
    -- the names of the clauses are visible in later ones and in the body
    shape_sites n a xs (t.Shape.for_form ts b) =
        all_sites (caught a) xs ts ++ tree_sites (repeated a) (all_behind ts xs) b
    shape_sites n a xs (t.Shape.loop_form b) = tree_sites (looped n a) xs b
    shape_sites n a xs (t.Shape.block_form b) = tree_sites (freely a) xs b
    shape_sites n a xs (t.Shape.branch b) = tree_sites (armed a) xs b
    shape_sites n a xs (t.Shape.sync ts) = each_sites (armed a) xs ts
    shape_sites n a xs (t.Shape.race ts) = each_sites (armed a) xs ts
    shape_sites n a xs (t.Shape.rush ts) = each_sites (armed a) xs ts
    shape_sites n a xs (t.Shape.cases b ts) =
        tree_sites (freely a) xs b ++ each_sites (freely a) xs ts
    shape_sites n a xs (t.Shape.spawn b) = tree_sites (used_as spawned a) xs b
    shape_sites n a xs (t.Shape.sleep x) = []
    shape_sites n a xs t.Shape.sleep_forever = []
    shape_sites n a xs (t.Shape.elements x b) = tree_sites (freely a) xs b
    shape_sites n a xs (t.Shape.entries x y b) = tree_sites (freely a) xs b
    shape_sites n a xs (t.Shape.range x b c) =
        tree_sites (freely a) xs b ++ tree_sites (freely a) xs c
    shape_sites n a xs (t.Shape.arm b c) = tree_sites (freely a) xs b ++ tree_sites (freely a) xs c
    shape_sites n a xs (t.Shape.integer_pattern x) = []
    shape_sites n a xs (t.Shape.minus_pattern x) = []
    shape_sites n a xs (t.Shape.character_pattern x) = []
    shape_sites n a xs (t.Shape.text_pattern x) = []
    shape_sites n a xs t.Shape.truth_pattern = []
    shape_sites n a xs t.Shape.falsehood_pattern = []
    shape_sites n a xs t.Shape.any_pattern = []
    shape_sites n a xs (t.Shape.enum_pattern x y) = []

    -- each seeing the names that were defined before it
    pub all_sites : Around → Table → Trees → List Site
    all_sites a xs no_trees = []
    all_sites a xs (more_trees e es) = tree_sites a xs e ++ all_sites a (behind e xs) es

    -- each by itself
    pub each_sites : Around → Table → Trees → List Site
    each_sites a xs no_trees = []
    each_sites a xs (more_trees e es) = tree_sites a xs e ++ each_sites a xs es

    -- the arguments for the callee with the number f, from the place i on
    pub argument_sites : Around → Table → ℕ → ℕ → Trees → List Site
    argument_sites a xs f i no_trees = []
    argument_sites a xs f i (more_trees e es) =
        tree_sites (used_as (argument f i) a) xs e ++ argument_sites a xs f (i + 1) es

    pub holes_sites : Around → Table → Holes → List Site
    holes_sites a xs no_holes = []
    holes_sites a xs (more_holes e bs hs) = tree_sites a xs e ++ holes_sites a xs hs

    pub pairs_sites : Around → Table → Pairs → List Site
    pairs_sites a xs no_pairs = []
    pairs_sites a xs (more_pairs k e ps) =
        tree_sites a xs k ++ tree_sites a xs e ++ pairs_sites a xs ps

    pub givens_sites : Around → Table → Givens → List Site
    givens_sites a xs no_givens = []
    givens_sites a xs (more_givens x e gs) = tree_sites a xs e ++ givens_sites a xs gs

  abbrev pub params_sites : Table → List ParamTree → List Site
  params_sites xs [] = []
  params_sites xs (p ∷ ps) =
      written_sites outside false xs p.written ++ param_site xs p ∷ [] ++
      params_sites (locals_behind w (param_subject p) xs) ps

  abbrev pub fun_sites : Table → FunTree → List Site
  fun_sites xs f =
      let ys = params_behind f.params xs in
      params_sites xs f.params ++ written_sites outside false ys f.written ++
      tree_sites (round_body f) ys f.body

  abbrev pub default_sites : Table → Written → Option Tree → List Site
  default_sites xs ty None = []
  default_sites xs ty (Some e) = tree_sites (default_around ty) xs e

  abbrev pub field_sites : Table → FieldTree → List Site
  field_sites xs d = written_sites outside false xs d.written ++
      default_sites xs d.written d.default

-- a member, in the world of fields and in that of methods
abbrev pub member_parts : World → World → Table → MemberTree → List Site
member_parts w v xs (field d) = field_sites w xs d
member_parts w v xs (method f) = fun_sites v xs f

abbrev pub member_site : World → Table → MemberTree → Site
member_site w xs (field d) = site w d.number d.place outside xs (member (field d)) quiet
member_site w xs (method f) = site w f.number f.place outside xs (member (method f)) quiet

abbrev pub members_sites : World → World → Table → List MemberTree → List Site
members_sites w v xs [] = []
members_sites w v xs (m ∷ ms) =
    member_parts w v xs m ++ member_site w xs m ∷ [] ++ members_sites w v xs ms

module _ (k : Known) where
  abbrev pub item_parts : Table → ItemTree → Counts → List Site
  item_parts xs (using u) c = []
  item_parts xs (enumeration e) c = []
  item_parts xs (class d) c = members_sites (visible.outside k) (inside k c.classes) xs d.members
  item_parts xs (function f) c = fun_sites (visible.outside k) xs f

  abbrev pub item_site : Table → ItemTree → Site
  item_site xs (using u) = site (visible.outside k) u.number u.place outside xs (item (using u))
      quiet
  item_site xs (enumeration e) =
      site (visible.outside k) e.number e.place outside xs (item (enumeration e)) quiet
  item_site xs (class d) = site (visible.outside k) d.number d.place outside xs (item (class d))
      quiet
  item_site xs (function f) = site (visible.outside k) f.number f.place outside xs
      (item (function f)) quiet

  abbrev pub items_sites : Table → List Counted → List Site
  items_sites xs [] = []
  items_sites xs (i ∷ is) = item_parts xs i.item i.before ++ item_site xs i.item ∷ [] ++
      items_sites xs is

-- all nodes of a program but its own, which is the last
abbrev pub program_sites : List ItemTree → List Site
program_sites is = items_sites (known is) [] (known is).items
