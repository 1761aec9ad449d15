-- What is kept by each node, and where names are left, is kept on the way through all nodes of a program.
use Rattle.std.proofs.Common.{ℕ, Bool, true, false, List, [], ◌∷◌, length}
use Rattle.std.specs.Prelude.{Option, Some, None}
use Rattle.verse_base.specs.declared.places.Place.{Place}
use Rattle.verse_tree.specs.Tree.{Written, Writtens, no_writtens, more_writtens, Tree, tree, Shape, Trees, no_trees, more_trees}
use Rattle.verse_tree.specs.Tree.{Holes, no_holes, more_holes, Pairs, no_pairs, more_pairs, Givens, no_givens, more_givens}
use Rattle.verse_tree.specs.Tree as t
use Rattle.verse_tree.specs.ItemTree.{FieldTree, ParamTree, FunTree, MemberTree, field, method, ItemTree, using, enumeration, class}
use Rattle.verse_tree.specs.ItemTree.{function}
use Rattle.verse_tree.specs.PostOrder.{items_order, program_place}
use Rattle.verse_tree.specs.declared.exprs.Operator.{Operator}
use Rattle.verse_tree.specs.declared.exprs.Operator.TheVariants as o
use Rattle.verse_tree.specs.declared.tables.Ref.TheVariants as ref
use Rattle.verse_names_tables.specs.Counting.{counted, counts_after, no_counts}
use Rattle.verse_names_tables.specs.declared.counting.Counts.{Counts}
use Rattle.verse_names_declarations.specs.Known.{Known, known}
use Rattle.verse_names_scopes.specs.Visible.{World, inside, outside}
use Rattle.verse_names_scopes.specs.Subjects.{Subject, quiet, type_name, this, used, instance, defined, both_defined, subject}
use Rattle.verse_names_scopes.specs.Scopes.{through_written, through_writtens, operand, through, through_parts, through_all, through_arms}
use Rattle.verse_names_scopes.specs.Scopes.{through_holes, through_pairs, through_givens, through_param, through_params, through_fun}
use Rattle.verse_names_scopes.specs.Scopes.{through_default, through_field, through_member, through_members, through_item, through_items}
use Rattle.verse_names_scopes.specs.Scopes.{through_program}
use Rattle.verse_accept_tables.proofs.Standing.{IsThere, Last, next, whole}

module _ (all : List ItemTree) where
  -- what a node gives names to is there
  abbrev pub Gives : Subject → Type 0
  Gives quiet = Unit {0}
  Gives (type_name b x) = Unit {0}
  Gives this = Unit {0}
  Gives (used x) = Unit {0}
  Gives (instance x gs) = Unit {0}
  Gives (defined x r) = IsThere all r
  Gives (both_defined x r y q) = IsThere all r × IsThere all q

  gives : (n : ℕ) (e : Shape) → Gives (subject n e)
  gives n (t.Shape.block es) = tt
  gives n (t.Shape.defer e) = tt
  gives n (t.Shape.definition x e) = tt
  gives n (t.Shape.typed x w e) = tt
  gives n (t.Shape.variable x w e) = tt
  gives n (t.Shape.assignment m p e) = tt
  gives n (t.Shape.returned e) = tt
  gives n t.Shape.returned_unit = tt
  gives n t.Shape.break_form = tt
  gives n (t.Shape.if_else cs e f) = tt
  gives n (t.Shape.if_alone cs e) = tt
  gives n (t.Shape.chained o e f) = tt
  gives n (t.Shape.compared c e f) = tt
  gives n (t.Shape.negation e) = tt
  gives n (t.Shape.minus e) = tt
  gives n (t.Shape.call e es) = tt
  gives n (t.Shape.index e es) = tt
  gives n (t.Shape.member e x) = tt
  gives n (t.Shape.query e) = tt
  gives n (t.Shape.integer i) = tt
  gives n (t.Shape.character c) = tt
  gives n (t.Shape.text bs) = tt
  gives n (t.Shape.holes bs hs) = tt
  gives n t.Shape.truth = tt
  gives n t.Shape.falsehood = tt
  gives n t.Shape.this = tt
  gives n (t.Shape.name x) = tt
  gives n (t.Shape.tuple es) = tt
  gives n (t.Shape.array es) = tt
  gives n (t.Shape.option es) = tt
  gives n (t.Shape.logic es) = tt
  gives n (t.Shape.mapping ps) = tt
  gives n (t.Shape.instance x gs) = tt
  gives n (t.Shape.event w) = tt
  gives n t.Shape.bare_event = tt
  gives n (t.Shape.for_form cs e) = tt
  gives n (t.Shape.loop_form e) = tt
  gives n (t.Shape.block_form e) = tt
  gives n (t.Shape.branch e) = tt
  gives n (t.Shape.sync es) = tt
  gives n (t.Shape.race es) = tt
  gives n (t.Shape.rush es) = tt
  gives n (t.Shape.cases e es) = tt
  gives n (t.Shape.spawn e) = tt
  gives n (t.Shape.sleep d) = tt
  gives n t.Shape.sleep_forever = tt
  gives n (t.Shape.elements x e) = tt
  gives n (t.Shape.entries k x e) = (tt, tt)
  gives n (t.Shape.range x e f) = tt
  gives n (t.Shape.arm p e) = tt
  gives n (t.Shape.integer_pattern i) = tt
  gives n (t.Shape.minus_pattern i) = tt
  gives n (t.Shape.character_pattern c) = tt
  gives n (t.Shape.text_pattern bs) = tt
  gives n t.Shape.truth_pattern = tt
  gives n t.Shape.falsehood_pattern = tt
  gives n t.Shape.any_pattern = tt
  gives n (t.Shape.enum_pattern x v) = tt

module _ (all : List ItemTree) {S : Type 0} (note : ℕ → Place → Subject → S → S) (back : S → S → S) (I : S → Type 0)
    (notes : (n : ℕ) (p : Place) (u : Subject) (s : S) → Gives all u → I s → I (note n p u s))
    (leaves : (old s : S) → I old → I s → I (back old s)) where
  mutual
    of_written : (b : Bool) (w : Written) (s : S) → I s → I (through_written note b w s)
    of_written b t.Written.int s h = h
    of_written b t.Written.logic s h = h
    of_written b t.Written.char s h = h
    of_written b t.Written.string s h = h
    of_written b t.Written.void s h = h
    of_written b (t.Written.named n p x) s h = notes n p (type_name b x) s tt h
    of_written b (t.Written.option w) s h = of_written b w s h
    of_written b (t.Written.array w) s h = of_written b w s h
    of_written b (t.Written.task w) s h = of_written b w s h
    of_written b (t.Written.map k w) s h = of_written b w _ (of_written b k s h)
    of_written b (t.Written.tuple ws) s h = of_writtens b ws s h
    of_written b (t.Written.event w) s h = of_written b w s h
    of_written b t.Written.bare_event s h = h

    of_writtens : (b : Bool) (ws : Writtens) (s : S) → I s → I (through_writtens note b ws s)
    of_writtens b no_writtens s h = h
    of_writtens b (more_writtens w ws) s h = of_writtens b ws _ (of_written b w s h)

  of_operand : (x : Operator) (f : S → S) → ((s : S) → I s → I (f s)) → (s : S) → I s → I (operand back x f s)
  of_operand o.Or f k s h = leaves s _ h (k s h)
  of_operand o.And f k s h = k s h
  of_operand o.Add f k s h = k s h
  of_operand o.Sub f k s h = k s h
  of_operand o.Mul f k s h = k s h
  of_operand o.Div f k s h = k s h

  mutual
    of : (e : Tree) (s : S) → I s → I (through note back e s)
    of (tree n p e) s h = notes n p (subject n e) _ (gives all n e) (of_parts e s h)

    of_parts : (e : Shape) (s : S) → I s → I (through_parts note back e s)
    of_parts (t.Shape.block es) s h = leaves s _ h (of_all es _ h)
    of_parts (t.Shape.defer e) s h = of e _ h
    of_parts (t.Shape.definition x e) s h = of e _ h
    of_parts (t.Shape.typed x w e) s h = of e _ (of_written true w _ h)
    of_parts (t.Shape.variable x w e) s h = of e _ (of_written true w _ h)
    of_parts (t.Shape.assignment m p e) s h = of e _ (of p _ h)
    of_parts (t.Shape.returned e) s h = of e _ h
    of_parts t.Shape.returned_unit s h = h
    of_parts t.Shape.break_form s h = h
    of_parts (t.Shape.if_else cs e f) s h = of f _ (leaves s _ h (of e _ (of_all cs _ h)))
    of_parts (t.Shape.if_alone cs e) s h = leaves s _ h (of e _ (of_all cs _ h))
    of_parts (t.Shape.chained o e f) s h = of_operand o (through note back f) (λ z k. of f z k) _
        (of_operand o (through note back e) (λ z k. of e z k) _ h)
    of_parts (t.Shape.compared c e f) s h = of f _ (of e _ h)
    of_parts (t.Shape.negation e) s h = leaves s _ h (of e _ h)
    of_parts (t.Shape.minus e) s h = of e _ h
    of_parts (t.Shape.call e es) s h = of_all es _ (of e _ h)
    of_parts (t.Shape.index e es) s h = of_all es _ (of e _ h)
    of_parts (t.Shape.member e x) s h = of e _ h
    of_parts (t.Shape.query e) s h = of e _ h
    of_parts (t.Shape.integer i) s h = h
    of_parts (t.Shape.character c) s h = h
    of_parts (t.Shape.text bs) s h = h
    of_parts (t.Shape.holes bs hs) s h = of_holes hs _ h
    of_parts t.Shape.truth s h = h
    of_parts t.Shape.falsehood s h = h
    of_parts t.Shape.this s h = h
    of_parts (t.Shape.name x) s h = h
    of_parts (t.Shape.tuple es) s h = of_all es _ h
    of_parts (t.Shape.array es) s h = of_all es _ h
    of_parts (t.Shape.option es) s h = leaves s _ h (of_all es _ h)
    of_parts (t.Shape.logic es) s h = leaves s _ h (of_all es _ h)
    of_parts (t.Shape.mapping ps) s h = of_pairs ps _ h
    of_parts (t.Shape.instance x gs) s h = of_givens gs _ h
    of_parts (t.Shape.event w) s h = of_written true w _ h
    of_parts t.Shape.bare_event s h = h
    of_parts (t.Shape.for_form cs e) s h = leaves s _ h (of e _ (of_all cs _ h))
    of_parts (t.Shape.loop_form e) s h = of e _ h
    of_parts (t.Shape.block_form e) s h = of e _ h
    of_parts (t.Shape.branch e) s h = of e _ h
    of_parts (t.Shape.sync es) s h = of_arms es _ h
    of_parts (t.Shape.race es) s h = of_arms es _ h
    of_parts (t.Shape.rush es) s h = of_arms es _ h
    of_parts (t.Shape.cases e es) s h = of_arms es _ (of e _ h)
    of_parts (t.Shape.spawn e) s h = of e _ h
    of_parts (t.Shape.sleep d) s h = h
    of_parts t.Shape.sleep_forever s h = h
    of_parts (t.Shape.elements x e) s h = of e _ h
    of_parts (t.Shape.entries k x e) s h = of e _ h
    of_parts (t.Shape.range x e f) s h = of f _ (of e _ h)
    of_parts (t.Shape.arm p e) s h = of e _ (of p _ h)
    of_parts (t.Shape.integer_pattern i) s h = h
    of_parts (t.Shape.minus_pattern i) s h = h
    of_parts (t.Shape.character_pattern c) s h = h
    of_parts (t.Shape.text_pattern bs) s h = h
    of_parts t.Shape.truth_pattern s h = h
    of_parts t.Shape.falsehood_pattern s h = h
    of_parts t.Shape.any_pattern s h = h
    of_parts (t.Shape.enum_pattern x v) s h = h

    of_all : (es : Trees) (s : S) → I s → I (through_all note back es s)
    of_all no_trees s h = h
    of_all (more_trees e es) s h = of_all es _ (of e s h)

    of_arms : (es : Trees) (s : S) → I s → I (through_arms note back es s)
    of_arms no_trees s h = h
    of_arms (more_trees e es) s h = of_arms es _ (leaves s _ h (of e s h))

    of_holes : (hs : Holes) (s : S) → I s → I (through_holes note back hs s)
    of_holes no_holes s h = h
    of_holes (more_holes e bs hs) s h = of_holes hs _ (of e s h)

    of_pairs : (ps : Pairs) (s : S) → I s → I (through_pairs note back ps s)
    of_pairs no_pairs s h = h
    of_pairs (more_pairs k e ps) s h = of_pairs ps _ (of e _ (of k s h))

    of_givens : (gs : Givens) (s : S) → I s → I (through_givens note back gs s)
    of_givens no_givens s h = h
    of_givens (more_givens x e gs) s h = of_givens gs _ (of e s h)

  of_param : (p : ParamTree) (s : S) → I s → I (through_param note back p s)
  of_param p s h = notes p.number p.place _ _ tt (of_written false p.written s h)

  of_params : (ps : List ParamTree) (s : S) → I s → I (through_params note back ps s)
  of_params [] s h = h
  of_params (p ∷ ps) s h = of_params ps _ (of_param p s h)

  of_fun : (f : FunTree) (s : S) → I s → I (through_fun note back f s)
  of_fun f s h = leaves s _ h (of f.body _ (of_written false f.written _ (of_params f.params s h)))

  of_default : (d : Option Tree) (s : S) → I s → I (through_default note back d s)
  of_default None s h = h
  of_default (Some e) s h = leaves s _ h (of e s h)

  of_field : (d : FieldTree) (s : S) → I s → I (through_field note back d s)
  of_field d s h = of_default d.default _ (of_written false d.written s h)

-- in the worlds of a program whose items are these
module _ (all : List ItemTree) {S : Type 0} (note : World → ℕ → Place → Subject → S → S) (back : S → S → S) (I : S → Type 0)
    (In : World → Type 0)
    (notes : (w : World) (n : ℕ) (p : Place) (u : Subject) (s : S) → In w → Gives all u → I s → I (note w n p u s))
    (leaves : (old s : S) → I old → I s → I (back old s)) (k : Known) (out : In (outside k))
    (within : (c : ℕ) → IsThere all (ref.Class c) → In (inside k c)) where
  of_member : (w v : World) → In w → In v → (m : MemberTree) (s : S) → I s → I (through_member note back k w v m s)
  of_member w v p q (field d) s h = notes w d.number d.place quiet _ p tt
      (of_field all (note w) back I (λ n pl u z. notes w n pl u z p) leaves d s h)
  of_member w v p q (method f) s h = notes w f.number f.place quiet _ p tt
      (of_fun all (note v) back I (λ n pl u z. notes v n pl u z q) leaves f s h)

  of_members : (w v : World) → In w → In v → (ms : List MemberTree) (s : S) → I s → I (through_members note back k w v ms s)
  of_members w v p q [] s h = h
  of_members w v p q (m ∷ ms) s h = of_members w v p q ms _ (of_member w v p q m s h)

  of_item : (i : ItemTree) (is : List ItemTree) (n : Counts) (s : S) → Last all (i ∷ is) n → I s → I (through_item note back k i n s)
  of_item (using u) is n s l h = notes (outside k) u.number u.place quiet s out tt h
  of_item (enumeration e) is n s l h = notes (outside k) e.number e.place quiet s out tt h
  of_item (class d) is n s l h = notes (outside k) d.number d.place quiet _ out tt
      (of_members (outside k) (inside k n.classes) out (within n.classes (d, l.classes.0)) d.members s h)
  of_item (function f) is n s l h = notes (outside k) f.number f.place quiet _ out tt
      (of_fun all (note (outside k)) back I (λ m pl u z. notes (outside k) m pl u z out) leaves f s h)

  of_items : (is : List ItemTree) (n : Counts) (s : S) → Last all is n → I s → I (through_items note back k (counted n is) s)
  of_items [] n s l h = h
  of_items (i ∷ is) n s l h = of_items is (counts_after i n) _ (next all is i n l) (of_item i is n s l h)

pub of_program : (is : List ItemTree) {S : Type 0} (note : World → ℕ → Place → Subject → S → S) (back : S → S → S) (I : S → Type 0)
    (In : World → Type 0) →
    ((w : World) (n : ℕ) (p : Place) (u : Subject) (s : S) → In w → Gives is u → I s → I (note w n p u s)) →
    ((old s : S) → I old → I s → I (back old s)) → In (outside (known is)) →
    ((c : ℕ) → IsThere is (ref.Class c) → In (inside (known is) c)) → (s : S) → I s → I (through_program note back is s)
of_program is note back I In notes leaves out within s h =
    notes (outside (known is)) (length (items_order is)) program_place quiet _ out tt
    (of_items is note back I In notes leaves (known is) out within is no_counts s (whole is) h)
