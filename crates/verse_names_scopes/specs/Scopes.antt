-- Which names are visible where: a way through all nodes of a program with a state that holds the
-- local names that are visible.
-- `note` is what a node makes of the state, and `back old new` is the state `new` with the local
-- names of `old`.
use Rattle.std.specs.Prelude.{ℕ, Bool, true, false, List, [], ◌∷◌, Option, Some, None, length}
use Rattle.verse_base.specs.declared.places.Place.{Place}
use Rattle.verse_tree.specs.Tree.{Bytes, Written, Writtens, no_writtens, more_writtens, Tree, tree}
use Rattle.verse_tree.specs.Tree.{Shape, Trees, no_trees, more_trees}
use Rattle.verse_tree.specs.Tree.{Holes, no_holes, more_holes, Pairs, no_pairs, more_pairs, Givens}
use Rattle.verse_tree.specs.Tree.{no_givens, more_givens}
use Rattle.verse_tree.specs.Tree as t
use Rattle.verse_tree.specs.ItemTree.{FieldTree, ParamTree, FunTree, MemberTree, field, method}
use Rattle.verse_tree.specs.ItemTree.{ItemTree, using, enumeration, class}
use Rattle.verse_tree.specs.ItemTree.{function}
use Rattle.verse_tree.specs.PostOrder.{items_order, program_place}
use Rattle.verse_tree.specs.declared.exprs.Operator.{Operator}
use Rattle.verse_tree.specs.declared.exprs.Operator.TheVariants as o
use Rattle.verse_tree.specs.declared.tables.Ref.TheVariants as ref
use Rattle.verse_names_tables.specs.Counting.{Counted}
use Rattle.verse_names_tables.specs.declared.counting.Counts.{Counts}
use Rattle.verse_names_declarations.specs.Known.{Known, known}
use Rattle.verse_names_scopes.specs.Visible.{World, inside, outside}
use Rattle.verse_names_scopes.specs.Subjects.{Subject, quiet, type_name, defined, subject}

module _ {S : Type 0} (note : ℕ → Place → Subject → S → S) where
  abbrev mutual
    -- the names in a type, and whether it stands in a body
    pub through_written : Bool → Written → S → S
    through_written b t.Written.int s = s
    through_written b t.Written.logic s = s
    through_written b t.Written.char s = s
    through_written b t.Written.string s = s
    through_written b t.Written.void s = s
    through_written b (t.Written.named n p x) s = note n p (type_name b x) s
    through_written b (t.Written.option w) s = through_written b w s
    through_written b (t.Written.array w) s = through_written b w s
    through_written b (t.Written.task w) s = through_written b w s
    through_written b (t.Written.map k w) s = through_written b w (through_written b k s)
    through_written b (t.Written.tuple ws) s = through_writtens b ws s
    through_written b (t.Written.event w) s = through_written b w s
    through_written b t.Written.bare_event s = s

    pub through_writtens : Bool → Writtens → S → S
    through_writtens b no_writtens s = s
    through_writtens b (more_writtens w ws) s = through_writtens b ws (through_written b w s)

module _ {S : Type 0} (back : S → S → S) where
  -- names that are defined there are visible there only
  abbrev pub apart : (S → S) → S → S
  apart f s = back s (f s)

  abbrev pub operand : Operator → (S → S) → S → S
  operand o.Or f s = apart f s
  operand o.And f s = f s
  operand o.Add f s = f s
  operand o.Sub f s = f s
  operand o.Mul f s = f s
  operand o.Div f s = f s

module _ {S : Type 0} (note : ℕ → Place → Subject → S → S) (back : S → S → S) where
  abbrev mutual
    -- the parts in turn, each seeing the names that were defined before it, and the node last
    pub through : Tree → S → S
    through (tree n p e) s = note n p (subject n e) (through_parts e s)

    pub through_parts : Shape → S → S
    -- the names of a block are visible to its end
    through_parts (t.Shape.block es) s = apart back (through_all es) s
    through_parts (t.Shape.defer e) s = through e s
    through_parts (t.Shape.definition x e) s = through e s
    through_parts (t.Shape.typed x w e) s = through e (through_written note true w s)
    through_parts (t.Shape.variable x w e) s = through e (through_written note true w s)
    through_parts (t.Shape.assignment m p e) s = through e (through p s)
    through_parts (t.Shape.returned e) s = through e s
    through_parts t.Shape.returned_unit s = s
    through_parts t.Shape.break_form s = s
    -- the names of the conditions are visible in the part that is taken
    through_parts (t.Shape.if_else cs e f) s = through f (back s (through e (through_all cs s)))
    through_parts (t.Shape.if_alone cs e) s = back s (through e (through_all cs s))
    through_parts (t.Shape.chained o e f) s =
        operand back o (through f) (operand back o (through e) s)
    through_parts (t.Shape.compared c e f) s = through f (through e s)
    through_parts (t.Shape.negation e) s = apart back (through e) s
    through_parts (t.Shape.minus e) s = through e s
    through_parts (t.Shape.call e es) s = through_all es (through e s)
    through_parts (t.Shape.index e es) s = through_all es (through e s)
    through_parts (t.Shape.member e x) s = through e s
    through_parts (t.Shape.query e) s = through e s
    through_parts (t.Shape.integer i) s = s
    through_parts (t.Shape.character c) s = s
    through_parts (t.Shape.text bs) s = s
    through_parts (t.Shape.holes bs hs) s = through_holes hs s
    through_parts t.Shape.truth s = s
    through_parts t.Shape.falsehood s = s
    through_parts t.Shape.this s = s
    through_parts (t.Shape.name x) s = s
    through_parts (t.Shape.tuple es) s = through_all es s
    through_parts (t.Shape.array es) s = through_all es s
    through_parts (t.Shape.option es) s = apart back (through_all es) s
    through_parts (t.Shape.logic es) s = apart back (through_all es) s
    through_parts (t.Shape.mapping ps) s = through_pairs ps s
    through_parts (t.Shape.instance x gs) s = through_givens gs s
    through_parts (t.Shape.event w) s = through_written note true w s
    through_parts t.Shape.bare_event s = s
    -- the names of the clauses are visible in later ones and in the body
    through_parts (t.Shape.for_form cs e) s = back s (through e (through_all cs s))
    through_parts (t.Shape.loop_form e) s = through e s
    through_parts (t.Shape.block_form e) s = through e s
    through_parts (t.Shape.branch e) s = through e s
    through_parts (t.Shape.sync es) s = through_arms es s
    through_parts (t.Shape.race es) s = through_arms es s
    through_parts (t.Shape.rush es) s = through_arms es s
    through_parts (t.Shape.cases e es) s = through_arms es (through e s)
    through_parts (t.Shape.spawn e) s = through e s
    through_parts (t.Shape.sleep d) s = s
    through_parts t.Shape.sleep_forever s = s
    through_parts (t.Shape.elements x e) s = through e s
    through_parts (t.Shape.entries k x e) s = through e s
    through_parts (t.Shape.range x e f) s = through f (through e s)
    through_parts (t.Shape.arm p e) s = through e (through p s)
    through_parts (t.Shape.integer_pattern i) s = s
    through_parts (t.Shape.minus_pattern i) s = s
    through_parts (t.Shape.character_pattern c) s = s
    through_parts (t.Shape.text_pattern bs) s = s
    through_parts t.Shape.truth_pattern s = s
    through_parts t.Shape.falsehood_pattern s = s
    through_parts t.Shape.any_pattern s = s
    through_parts (t.Shape.enum_pattern x v) s = s

    pub through_all : Trees → S → S
    through_all no_trees s = s
    through_all (more_trees e es) s = through_all es (through e s)

    -- each arm by itself
    pub through_arms : Trees → S → S
    through_arms no_trees s = s
    through_arms (more_trees e es) s = through_arms es (apart back (through e) s)

    pub through_holes : Holes → S → S
    through_holes no_holes s = s
    through_holes (more_holes e bs hs) s = through_holes hs (through e s)

    pub through_pairs : Pairs → S → S
    through_pairs no_pairs s = s
    through_pairs (more_pairs k e ps) s = through_pairs ps (through e (through k s))

    pub through_givens : Givens → S → S
    through_givens no_givens s = s
    through_givens (more_givens x e gs) s = through_givens gs (through e s)

  -- a parameter is visible at those after it and in the body
  abbrev pub through_param : ParamTree → S → S
  through_param p s = note p.number p.place (defined p.name (ref.Local p.number))
      (through_written note false p.written s)

  abbrev pub through_params : List ParamTree → S → S
  through_params [] s = s
  through_params (p ∷ ps) s = through_params ps (through_param p s)

  abbrev pub through_fun : FunTree → S → S
  through_fun f s = back s (through f.body
      (through_written note false f.written (through_params f.params s)))

  abbrev pub through_default : Option Tree → S → S
  through_default None s = s
  through_default (Some e) s = apart back (through e) s

  abbrev pub through_field : FieldTree → S → S
  through_field d s = through_default d.default (through_written note false d.written s)

module _ {S : Type 0} (note : World → ℕ → Place → Subject → S → S) (back : S → S → S)
    (k : Known) where
  -- a member, in the world of fields and in that of methods
  abbrev pub through_member : (fields methods : World) → MemberTree → S → S
  through_member w v (field d) s = note w d.number d.place quiet (through_field (note w) back d s)
  through_member w v (method f) s = note w f.number f.place quiet (through_fun (note v) back f s)

  abbrev pub through_members : (fields methods : World) → List MemberTree → S → S
  through_members w v [] s = s
  through_members w v (m ∷ ms) s = through_members w v ms (through_member w v m s)

  abbrev pub through_item : ItemTree → Counts → S → S
  through_item (using u) c s = note (outside k) u.number u.place quiet s
  through_item (enumeration e) c s = note (outside k) e.number e.place quiet s
  through_item (class d) c s = note (outside k) d.number d.place quiet
      (through_members (outside k) (inside k c.classes) d.members s)
  through_item (function f) c s =
      note (outside k) f.number f.place quiet (through_fun (note (outside k)) back f s)

  abbrev pub through_items : List Counted → S → S
  through_items [] s = s
  through_items (i ∷ is) s = through_items is (through_item i.item i.before s)

module _ {S : Type 0} (note : World → ℕ → Place → Subject → S → S) (back : S → S → S) where
  -- all nodes of a program, its own last
  abbrev pub through_program : List ItemTree → S → S
  through_program is s =
      note (outside (known is)) (length (items_order is)) program_place quiet
      (through_items note back (known is) (known is).items s)
