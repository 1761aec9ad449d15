-- The fields that are counted from node to node are those of all instance expressions.
use Rattle.std.proofs.Common.{◌≡◌, ℕ, ◌+◌, List, [], ◌∷◌, Option, min, ap, sym, ◌∙◌, arith}
use Rattle.std.specs.Prelude.{Some, None}
use Rattle.verse_tree.specs.Tree.{Written, Writtens, no_writtens, more_writtens, Tree, tree, Shape, Trees, no_trees, more_trees, Holes}
use Rattle.verse_tree.specs.Tree.{no_holes, more_holes, Pairs, no_pairs, more_pairs, Givens, no_givens, more_givens}
use Rattle.verse_tree.specs.Tree as t
use Rattle.verse_tree.specs.ItemTree.{FieldTree, ParamTree, FunTree, MemberTree, field, method, ItemTree, using, enumeration, class}
use Rattle.verse_tree.specs.ItemTree.{function}
use Rattle.verse_tree.specs.Numbering.{list_nodes}
use Rattle.verse_tree.specs.Sizes.{fields_at, tree_fields, shape_fields, trees_fields, holes_fields, pairs_fields, givens_fields}
use Rattle.verse_tree.specs.Sizes.{default_fields, member_fields, item_fields, items_fields}
use Rattle.verse_tree.specs.declared.tables.Names.{Names}
use Rattle.verse_rules_walk.specs.Around.{Around, value, callee, object, target, spawned, argument, outside, default_around, used_as}
use Rattle.verse_rules_walk.specs.Around.{freely}
use Rattle.verse_rules_walk.specs.Around.{caught, looped, repeated, armed, deferred, left_of}
use Rattle.verse_rules_walk.specs.Around.{indexed}
use Rattle.verse_rules_walk.specs.Nodes.{number_of_tree, round_body, items_nodes}
use Rattle.verse_rules_walk.specs.Through.{through_written, through_writtens, through, through_shape, through_trees, through_arguments}
use Rattle.verse_rules_walk.specs.Through.{through_holes, through_pairs, through_givens, through_param, through_params, through_fun}
use Rattle.verse_rules_walk.specs.Through.{through_default, through_field, through_member, through_members, through_item, through_items}
use Rattle.verse_rules_walk.proofs.Through.{through_items_nodes}
use Rattle.verse_rules_least.specs.Least.{each}
use Rattle.verse_rules.specs.Counting.{shape_adds, counted}

abbrev top : ℕ
top = 18446744073709551615

-- a part counts n on
record Counts (f : ℕ → ℕ) (n : ℕ) : Type 0 where
  on : (x : ℕ) → f (min x top) ≡ min (x + n) top

grouped : (x m n : ℕ) → min ((x + m) + n) top ≡ min (x + (m + n)) top
grouped x m n = ap (λ (y : ℕ). min y top) (omega arith)

with_none : (x n : ℕ) → min ((x + 0) + n) top ≡ min (x + n) top
with_none x n = ap (λ (y : ℕ). min y top) (omega arith)

nothing : Counts (λ x. x) 0
nothing = record { on = λ x. ap (λ (y : ℕ). min y top) (omega arith) }

both : {m n : ℕ} (f g : ℕ → ℕ) → Counts f m → Counts g n → Counts (λ x. g (f x)) (m + n)
both {m} {n} f g h k = record { on = λ x. ap g (h.on x) ∙ k.on (x + m) ∙ grouped x m n }

-- two parts, of which the first counts nothing on
behind : {n : ℕ} (f g : ℕ → ℕ) → Counts f 0 → Counts g n → Counts (λ x. g (f x)) n
behind {n} f g h k = record { on = λ x. ap g (h.on x) ∙ k.on (x + 0) ∙ with_none x n }

added : (y z n : ℕ) → y ≡ min z top → min (y + n) top ≡ min (z + n) top
added y z n e = omega arith

-- a node that counts nothing on, behind its parts
quiet : {n : ℕ} (f : ℕ → ℕ) → Counts f n → Counts (λ x. min (f x + 0) top) n
quiet {n} f h = record { on = λ x. added (f (min x top)) (x + n) 0 (h.on x) ∙ ap (λ (y : ℕ). min y top) (omega arith) }

-- an instance expression, behind the values that it is given
instance : {n : ℕ} (m : ℕ) (f : ℕ → ℕ) → Counts f n → Counts (λ x. min (f x + m) top) (m + n)
instance {n} m f h = record { on = λ x. added (f (min x top)) (x + n) m (h.on x) ∙ ap (λ (y : ℕ). min y top) (omega arith) }

module _ (k : Names) where
  mutual
    unfolding counted

    written : (w : Around) (ty : Written) → Counts (through_written (counted k) w ty) 0
    written w t.Written.int = nothing
    written w t.Written.logic = nothing
    written w t.Written.char = nothing
    written w t.Written.string = nothing
    written w t.Written.void = nothing
    written w (t.Written.named n p x) = quiet (λ z. z) nothing
    written w (t.Written.option ty) = written w ty
    written w (t.Written.array ty) = written w ty
    written w (t.Written.task ty) = written w ty
    written w (t.Written.map key ty) = behind (through_written (counted k) w key) (through_written (counted k) w ty) (written w key)
        (written w ty)
    written w (t.Written.tuple tys) = writtens w tys
    written w (t.Written.event ty) = written w ty
    written w t.Written.bare_event = nothing

    writtens : (w : Around) (tys : Writtens) → Counts (through_writtens (counted k) w tys) 0
    writtens w no_writtens = nothing
    writtens w (more_writtens ty tys) = behind (through_written (counted k) w ty) (through_writtens (counted k) w tys) (written w ty)
        (writtens w tys)

  mutual
    unfolding counted

    of_tree : (w : Around) (a : Tree) → Counts (through (counted k) w a) (tree_fields (fields_at k) a)
    of_tree w (tree n p s) = of_shape n w s

    -- the parts of an expression, and itself
    of_shape : (n : ℕ) (w : Around) (s : Shape) →
        Counts (λ z. min (through_shape (counted k) n w s z + shape_adds k n s) top) (shape_fields (fields_at k) n s)
    of_shape n w (t.Shape.block ts) = quiet (through_trees (counted k) (freely w) ts) (of_trees (freely w) ts)
    of_shape n w (t.Shape.defer a) = quiet (through (counted k) (deferred w) a) (of_tree (deferred w) a)
    of_shape n w (t.Shape.definition x a) = quiet (through (counted k) (freely w) a) (of_tree (freely w) a)
    of_shape n w (t.Shape.typed x ty a) = quiet (λ z. through (counted k) (used_as (value ty) w) a (through_written (counted k) w ty z))
        (behind (through_written (counted k) w ty) (through (counted k) (used_as (value ty) w) a) (written w ty)
        (of_tree (used_as (value ty) w) a))
    of_shape n w (t.Shape.variable x ty a) =
        quiet (λ z. through (counted k) (used_as (value ty) w) a (through_written (counted k) w ty z))
        (behind (through_written (counted k) w ty) (through (counted k) (used_as (value ty) w) a) (written w ty)
        (of_tree (used_as (value ty) w) a))
    of_shape n w (t.Shape.assignment m a b) =
        quiet (λ z. through (counted k) (freely w) b (through (counted k) (used_as target w) a z))
        (both (through (counted k) (used_as target w) a) (through (counted k) (freely w) b) (of_tree (used_as target w) a)
        (of_tree (freely w) b))
    of_shape n w (t.Shape.returned a) = quiet (through (counted k) (freely w) a) (of_tree (freely w) a)
    of_shape n w t.Shape.returned_unit = quiet (λ z. z) nothing
    of_shape n w t.Shape.break_form = quiet (λ z. z) nothing
    of_shape n w (t.Shape.if_else ts a b) = quiet
        (λ z. through (counted k) (freely w) b (through (counted k) (freely w) a (through_trees (counted k) (caught w) ts z)))
        (both (through_trees (counted k) (caught w) ts) (λ z. through (counted k) (freely w) b (through (counted k) (freely w) a z))
        (of_trees (caught w) ts) (both (through (counted k) (freely w) a) (through (counted k) (freely w) b) (of_tree (freely w) a)
        (of_tree (freely w) b)))
    of_shape n w (t.Shape.if_alone ts a) = quiet (λ z. through (counted k) (freely w) a (through_trees (counted k) (caught w) ts z))
        (both (through_trees (counted k) (caught w) ts) (through (counted k) (freely w) a) (of_trees (caught w) ts) (of_tree (freely w) a))
    of_shape n w (t.Shape.chained x a b) = quiet (λ z. through (counted k) (freely w) b (through (counted k) (left_of x w) a z))
        (both (through (counted k) (left_of x w) a) (through (counted k) (freely w) b) (of_tree (left_of x w) a) (of_tree (freely w) b))
    of_shape n w (t.Shape.compared x a b) = quiet (λ z. through (counted k) (freely w) b (through (counted k) (freely w) a z))
        (both (through (counted k) (freely w) a) (through (counted k) (freely w) b) (of_tree (freely w) a) (of_tree (freely w) b))
    of_shape n w (t.Shape.negation a) = quiet (through (counted k) (caught w) a) (of_tree (caught w) a)
    of_shape n w (t.Shape.minus a) = quiet (through (counted k) (freely w) a) (of_tree (freely w) a)
    of_shape n w (t.Shape.call a ts) = quiet
        (λ z. through_arguments (counted k) w (number_of_tree a) 0 ts (through (counted k) (used_as callee w) a z))
        (both (through (counted k) (used_as callee w) a) (through_arguments (counted k) w (number_of_tree a) 0 ts)
        (of_tree (used_as callee w) a) (of_arguments w (number_of_tree a) 0 ts))
    of_shape n w (t.Shape.index a ts) = quiet
        (λ z. through_arguments (counted k) w (number_of_tree a) 0 ts (through (counted k) (indexed w) a z))
        (both (through (counted k) (indexed w) a) (through_arguments (counted k) w (number_of_tree a) 0 ts) (of_tree (indexed w) a)
        (of_arguments w (number_of_tree a) 0 ts))
    of_shape n w (t.Shape.member a x) = quiet (through (counted k) (used_as object w) a) (of_tree (used_as object w) a)
    of_shape n w (t.Shape.query a) = quiet (through (counted k) (freely w) a) (of_tree (freely w) a)
    of_shape n w (t.Shape.integer x) = quiet (λ z. z) nothing
    of_shape n w (t.Shape.character x) = quiet (λ z. z) nothing
    of_shape n w (t.Shape.text x) = quiet (λ z. z) nothing
    of_shape n w (t.Shape.holes x hs) = quiet (through_holes (counted k) (freely w) hs) (of_holes (freely w) hs)
    of_shape n w t.Shape.truth = quiet (λ z. z) nothing
    of_shape n w t.Shape.falsehood = quiet (λ z. z) nothing
    of_shape n w t.Shape.this = quiet (λ z. z) nothing
    of_shape n w (t.Shape.name x) = quiet (λ z. z) nothing
    of_shape n w (t.Shape.tuple ts) = quiet (through_trees (counted k) (freely w) ts) (of_trees (freely w) ts)
    of_shape n w (t.Shape.array ts) = quiet (through_trees (counted k) (freely w) ts) (of_trees (freely w) ts)
    of_shape n w (t.Shape.option ts) = quiet (through_trees (counted k) (caught w) ts) (of_trees (caught w) ts)
    of_shape n w (t.Shape.logic ts) = quiet (through_trees (counted k) (caught w) ts) (of_trees (caught w) ts)
    of_shape n w (t.Shape.mapping ps) = quiet (through_pairs (counted k) (freely w) ps) (of_pairs (freely w) ps)
    of_shape n w (t.Shape.instance x gs) = instance (fields_at k n) (through_givens (counted k) (freely w) gs) (of_givens (freely w) gs)
    of_shape n w (t.Shape.event ty) = quiet (through_written (counted k) w ty) (written w ty)
    of_shape n w t.Shape.bare_event = quiet (λ z. z) nothing
    of_shape n w (t.Shape.for_form ts a) = quiet (λ z. through (counted k) (repeated w) a (through_trees (counted k) (caught w) ts z))
        (both (through_trees (counted k) (caught w) ts) (through (counted k) (repeated w) a) (of_trees (caught w) ts)
        (of_tree (repeated w) a))
    of_shape n w (t.Shape.loop_form a) = quiet (through (counted k) (looped n w) a) (of_tree (looped n w) a)
    of_shape n w (t.Shape.block_form a) = quiet (through (counted k) (freely w) a) (of_tree (freely w) a)
    of_shape n w (t.Shape.branch a) = quiet (through (counted k) (armed w) a) (of_tree (armed w) a)
    of_shape n w (t.Shape.sync ts) = quiet (through_trees (counted k) (armed w) ts) (of_trees (armed w) ts)
    of_shape n w (t.Shape.race ts) = quiet (through_trees (counted k) (armed w) ts) (of_trees (armed w) ts)
    of_shape n w (t.Shape.rush ts) = quiet (through_trees (counted k) (armed w) ts) (of_trees (armed w) ts)
    of_shape n w (t.Shape.cases a ts) = quiet (λ z. through_trees (counted k) (freely w) ts (through (counted k) (freely w) a z))
        (both (through (counted k) (freely w) a) (through_trees (counted k) (freely w) ts) (of_tree (freely w) a) (of_trees (freely w) ts))
    of_shape n w (t.Shape.spawn a) = quiet (through (counted k) (used_as spawned w) a) (of_tree (used_as spawned w) a)
    of_shape n w (t.Shape.sleep x) = quiet (λ z. z) nothing
    of_shape n w t.Shape.sleep_forever = quiet (λ z. z) nothing
    of_shape n w (t.Shape.elements x a) = quiet (through (counted k) (freely w) a) (of_tree (freely w) a)
    of_shape n w (t.Shape.entries x y a) = quiet (through (counted k) (freely w) a) (of_tree (freely w) a)
    of_shape n w (t.Shape.range x a b) = quiet (λ z. through (counted k) (freely w) b (through (counted k) (freely w) a z))
        (both (through (counted k) (freely w) a) (through (counted k) (freely w) b) (of_tree (freely w) a) (of_tree (freely w) b))
    of_shape n w (t.Shape.arm a b) = quiet (λ z. through (counted k) (freely w) b (through (counted k) (freely w) a z))
        (both (through (counted k) (freely w) a) (through (counted k) (freely w) b) (of_tree (freely w) a) (of_tree (freely w) b))
    of_shape n w (t.Shape.integer_pattern x) = quiet (λ z. z) nothing
    of_shape n w (t.Shape.minus_pattern x) = quiet (λ z. z) nothing
    of_shape n w (t.Shape.character_pattern x) = quiet (λ z. z) nothing
    of_shape n w (t.Shape.text_pattern x) = quiet (λ z. z) nothing
    of_shape n w t.Shape.truth_pattern = quiet (λ z. z) nothing
    of_shape n w t.Shape.falsehood_pattern = quiet (λ z. z) nothing
    of_shape n w t.Shape.any_pattern = quiet (λ z. z) nothing
    of_shape n w (t.Shape.enum_pattern x y) = quiet (λ z. z) nothing

    of_trees : (w : Around) (ts : Trees) → Counts (through_trees (counted k) w ts) (trees_fields (fields_at k) ts)
    of_trees w no_trees = nothing
    of_trees w (more_trees a ts) = both (through (counted k) w a) (through_trees (counted k) w ts) (of_tree w a) (of_trees w ts)

    of_arguments : (w : Around) (f i : ℕ) (ts : Trees) → Counts (through_arguments (counted k) w f i ts) (trees_fields (fields_at k) ts)
    of_arguments w f i no_trees = nothing
    of_arguments w f i (more_trees a ts) = both (through (counted k) (used_as (argument f i) w) a)
        (through_arguments (counted k) w f (i + 1) ts) (of_tree (used_as (argument f i) w) a) (of_arguments w f (i + 1) ts)

    of_holes : (w : Around) (hs : Holes) → Counts (through_holes (counted k) w hs) (holes_fields (fields_at k) hs)
    of_holes w no_holes = nothing
    of_holes w (more_holes a x hs) = both (through (counted k) w a) (through_holes (counted k) w hs) (of_tree w a) (of_holes w hs)

    of_pairs : (w : Around) (ps : Pairs) → Counts (through_pairs (counted k) w ps) (pairs_fields (fields_at k) ps)
    of_pairs w no_pairs = nothing
    of_pairs w (more_pairs a b ps) = both (λ z. through (counted k) w b (through (counted k) w a z)) (through_pairs (counted k) w ps)
        (both (through (counted k) w a) (through (counted k) w b) (of_tree w a) (of_tree w b)) (of_pairs w ps)

    of_givens : (w : Around) (gs : Givens) → Counts (through_givens (counted k) w gs) (givens_fields (fields_at k) gs)
    of_givens w no_givens = nothing
    of_givens w (more_givens x a gs) = both (through (counted k) w a) (through_givens (counted k) w gs) (of_tree w a) (of_givens w gs)

  of_param : (p : ParamTree) → Counts (through_param (counted k) p) 0
  unfolding counted
  of_param p = quiet (through_written (counted k) outside p.written) (written outside p.written)

  of_params : (ps : List ParamTree) → Counts (through_params (counted k) ps) 0
  of_params [] = nothing
  of_params (p ∷ ps) = behind (through_param (counted k) p) (through_params (counted k) ps) (of_param p) (of_params ps)

  of_fun : (f : FunTree) → Counts (through_fun (counted k) f) (tree_fields (fields_at k) f.body)
  of_fun f =
      behind (λ z. through_written (counted k) outside f.written (through_params (counted k) f.params z))
      (through (counted k) (round_body f) f.body)
      (behind (through_params (counted k) f.params) (through_written (counted k) outside f.written) (of_params f.params)
      (written outside f.written)) (of_tree (round_body f) f.body)

  of_default : (ty : Written) (o : Option Tree) → Counts (through_default (counted k) ty o) (default_fields (fields_at k) o)
  of_default ty None = nothing
  of_default ty (Some a) = of_tree (default_around ty) a

  of_field : (f : FieldTree) → Counts (through_field (counted k) f) (default_fields (fields_at k) f.default)
  of_field f = behind (through_written (counted k) outside f.written) (through_default (counted k) f.written f.default)
      (written outside f.written) (of_default f.written f.default)

  of_member : (m : MemberTree) → Counts (through_member (counted k) m) (member_fields (fields_at k) m)
  unfolding counted
  of_member (field f) = quiet (through_field (counted k) f) (of_field f)
  of_member (method f) = quiet (through_fun (counted k) f) (of_fun f)

  of_members : (ms : List MemberTree) → Counts (through_members (counted k) ms) (list_nodes (member_fields (fields_at k)) ms)
  of_members [] = nothing
  of_members (m ∷ ms) = both (through_member (counted k) m) (through_members (counted k) ms) (of_member m) (of_members ms)

  of_item : (i : ItemTree) → Counts (through_item (counted k) i) (item_fields (fields_at k) i)
  unfolding counted
  of_item (using u) = quiet (λ z. z) nothing
  of_item (enumeration e) = quiet (λ z. z) nothing
  of_item (class c) = quiet (through_members (counted k) c.members) (of_members c.members)
  of_item (function f) = quiet (through_fun (counted k) f) (of_fun f)

  of_items : (is : List ItemTree) → Counts (through_items (counted k) is) (list_nodes (item_fields (fields_at k)) is)
  of_items [] = nothing
  of_items (i ∷ is) = both (through_item (counted k) i) (through_items (counted k) is) (of_item i) (of_items is)

  pub all_counted : (is : List ItemTree) → each (counted k) (items_nodes is) 0 ≡ min (items_fields k is) top
  all_counted is = sym (through_items_nodes (counted k) is 0) ∙ ap (through_items (counted k) is) (omega arith) ∙ (of_items is).on 0 ∙
      ap (λ (y : ℕ). min y top) (omega arith)
