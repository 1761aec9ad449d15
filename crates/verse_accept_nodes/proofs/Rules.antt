-- What the rules of types leave of the nodes of an accepted program.
use Rattle.std.proofs.Common.{◌≡◌, ℕ, zero, suc, ◌+◌, Bool, true, false, not, List, [], ◌∷◌, map, Option, Some, None, refl, ap, sym}
use Rattle.std.proofs.Common.{subst, ◌∙◌, arith, slice_get}
use Rattle.std.specs.List.{range_with_len}
use Rattle.verse_tree.specs.Tree.{Bytes, Shape, Trees, no_trees, more_trees}
use Rattle.verse_tree.specs.Tree as t
use Rattle.verse_tree.specs.ItemTree.{ItemTree}
use Rattle.verse_tree.specs.PostOrder.{What, program, item, member, parameter, type_name, expression, items_order, program_order, node_at}
use Rattle.verse_tree.specs.PostOrder as plain
use Rattle.verse_tree.specs.Numbering.{items_numbered, program_nodes}
use Rattle.verse_tree.specs.Numbers.{numbers}
use Rattle.verse_tree.specs.declared.tables.Ref.{Ref}
use Rattle.verse_tree.specs.declared.tables.Ref.TheVariants as ref
use Rattle.verse_tree.proofs.Order.{program_in_order}
use Rattle.verse_rules_least.specs.Least.{Holds, Broken}
use Rattle.verse_rules_least.specs.Least as least
use Rattle.verse_rules_walk.specs.Around.{Around}
use Rattle.verse_rules_walk.specs.Nodes.{Node, number_of, alone, items_nodes}
use Rattle.verse_rules_walk.proofs.Order.{items_alone}
use Rattle.verse_names_scopes.specs.Visits.{Visit, ref_of, program_visits}
use Rattle.verse_names_tables.specs.Names.{Table, look}
use Rattle.verse_check_typing.specs.Refs.{referred, ref_at}
use Rattle.verse_check_typing.specs.Facts.{World, Facts, world_of, enum_values}
use Rattle.verse_check_typing.specs.Sets.{has_name}
use Rattle.verse_check_typing.specs.Members.{names_in}
use Rattle.verse_check_typing.specs.TypeRules.{is_enum_value}
use Rattle.verse_check_typing.specs.Steps.{Sight, facts, rules_at, own_rules, expression_rules, step, Breaks, begun}
use Rattle.verse_rules.specs.Naming.{named}
use Rattle.verse_rules.specs.Sound.{TypesBreak}
use Rattle.verse_meaning.specs.Programs.{Program, pattern_value}
use Rattle.verse_meaning.specs.Evaluating.{none_left}
use Rattle.lower_simulation_runs.specs.Programs.{is_some}
use Rattle.lower_bounds.proofs.Lists.{Each, each_first}
use Rattle.verse_accept_nodes.proofs.ByParts.{WhatHas}
use Rattle.verse_accept_nodes.proofs.Visited.{IsItem, ShapeNames, WhatNames, Paired, item_table, program_paired}
use Rattle.verse_accept_nodes.proofs.Enums.{pattern_known}
use Rattle.verse_accept_nodes.proofs.Settled.{ShapeKept, NodeKept}

-- ---- no rule is broken at a node, by what is found at those before it

record Unbroken (k : World) (v : Node) : Type 0 where
  sight : Sight
  none : (c : ℕ) → Holds (rules_at (facts k sight) v) c → ⊥

unbroken : (k : World) (vs : List Node) (x : Sight) → ((n c : ℕ) → Broken number_of (step k) (Breaks k) vs x n c → ⊥) →
    Each (Unbroken k) vs
unbroken k [] x h = tt
unbroken k (v ∷ vs) x h = (
  record { sight = x; none = λ c b. h (number_of v) c (least.here b) },
  unbroken k vs (step k v x) (λ n c b. h n c (least.later b)),
)

-- ---- what a node refers to, by its number

names_at : (table : Table) (F : ℕ → Option Ref) (m len : ℕ) (xs : List Visit) (vs : List plain.Node) → Paired table xs vs →
    numbers vs ≡ range_with_len m len → ((i : ℕ) → F (m + i) ≡ referred (slice_get (map ref_of xs) i)) →
    Each (λ (v : plain.Node). WhatNames table v.what (F v.number)) vs
names_at table F m len [] [] h e f = tt
names_at table F m len [] (v ∷ vs) h e f = absurd h
names_at table F m len (x ∷ xs) [] h e f = absurd h
names_at table F m zero (x ∷ xs) (v ∷ vs) h e f = absurd (cc)
names_at table F m (suc len) (x ∷ xs) (v ∷ vs) h e f =
    let here : v.number ≡ m + 0 = (let same : v.number ≡ m = cc in omega arith) in
    let behind : numbers vs ≡ range_with_len (m + 1) len = cc in
    let found : F v.number ≡ ref_of x = ap F here ∙ f 0 in (
      subst (WhatNames table v.what) (sym found) h.0,
      names_at table F (m + 1) len xs vs h.1 behind
          (λ i. ap F (let same : (m + 1) + i ≡ m + suc i = omega arith in same) ∙ f (suc i)),
    )

names_in_order : (is written : List ItemTree) → is ≡ items_numbered written 0 →
    Each (λ (v : plain.Node). WhatNames (item_table is) v.what (ref_at (named is).refs v.number)) (items_order is)
names_in_order is written h =
    let ordered : numbers (program_order is) ≡ range_with_len 0 (program_nodes written) =
    subst (λ js. numbers (program_order js) ≡ range_with_len 0 (program_nodes written)) (sym h) (program_in_order written) in
    each_first _ (items_order is) _ (names_at (item_table is) (ref_at (named is).refs) 0 (program_nodes written)
    (program_visits is) (program_order is) (program_paired is) ordered
    (λ i. ap (ref_at (named is).refs) (let same : 0 + i ≡ i = omega arith in same)))

-- ---- the forms

-- behind the seven rules before E056
seven : {rs : List (ℕ × Bool)} {a b d e f g h : ℕ × Bool} {c : ℕ} → Holds rs c → Holds (a ∷ b ∷ d ∷ e ∷ f ∷ g ∷ h ∷ rs) c
seven x = least.other (least.other (least.other (least.other (least.other (least.other (least.other x))))))

holds_if : (v : Bool) (c : ℕ) (rs : List (ℕ × Bool)) → v ≡ true → Holds ((c, v) ∷ rs) c
holds_if true c rs h = least.this
holds_if false c rs h = absurd (cc)

module _ (p : Program) (is : List ItemTree) (same : p.items ≡ is) where
  abbrev world : World
  world = world_of (named is) is

  abbrev facts_at : Sight → Facts
  facts_at sight = facts world sight

  -- no rule is broken at a form of this number
  abbrev Quiet : Sight → Around → ℕ → Shape → Type 0
  Quiet sight w n s = (c : ℕ) → Holds (expression_rules (facts_at sight) w n s) c → ⊥

  sync_kept : (sight : Sight) (w : Around) (n : ℕ) (ts : Trees) → Quiet sight w n (t.Shape.sync ts) → none_left ts ≡ false
  sync_kept sight w n no_trees h = absurd (h 57 (seven (least.other least.this)))
  sync_kept sight w n (more_trees b ts) h = refl

  race_kept : (sight : Sight) (w : Around) (n : ℕ) (ts : Trees) → Quiet sight w n (t.Shape.race ts) → none_left ts ≡ false
  race_kept sight w n no_trees h = absurd (h 57 (seven (least.other least.this)))
  race_kept sight w n (more_trees b ts) h = refl

  rush_kept : (sight : Sight) (w : Around) (n : ℕ) (ts : Trees) → Quiet sight w n (t.Shape.rush ts) → none_left ts ≡ false
  rush_kept sight w n no_trees h = absurd (h 57 (seven (least.other least.this)))
  rush_kept sight w n (more_trees b ts) h = refl

  enum_stands : (sight : Sight) (w : Around) (n : ℕ) (x y : Bytes) → Quiet sight w n (t.Shape.enum_pattern x y) →
      is_enum_value (facts_at sight) (ref_at (named is).refs n) y ≡ true
  enum_stands sight w n x y h = by (is_enum_value (facts_at sight) (ref_at (named is).refs n) y) refl
    where
      by : (v : Bool) → is_enum_value (facts_at sight) (ref_at (named is).refs n) y ≡ v → v ≡ true
      by true g = refl
      by false g = absurd (h 56 (seven (holds_if _ 56 _ (ap not g))))

  enum_known : (sight : Sight) (x y : Bytes) (o : Option Ref) → is_enum_value (facts_at sight) o y ≡ true → IsItem (item_table is) x o →
      is_some (pattern_value p x y) ≡ true
  enum_known sight x y (Some (ref.Enum e)) h g =
      pattern_known p x y e (subst (λ js. look x (item_table js) ≡ Some (ref.Enum e)) (sym same) g)
      (subst (λ js. has_name y (names_in (slice_get (enum_values js) e)) ≡ true) (sym same) h)
  enum_known sight x y (Some r) h g = absurd (cc)
  enum_known sight x y None h g = absurd (cc)

  shape_kept : (sight : Sight) (w : Around) (n : ℕ) (s : Shape) → Quiet sight w n s →
      ShapeNames (item_table is) s (ref_at (named is).refs n) → ShapeKept p s
  shape_kept sight w n (t.Shape.sync ts) h g = sync_kept sight w n ts h
  shape_kept sight w n (t.Shape.race ts) h g = race_kept sight w n ts h
  shape_kept sight w n (t.Shape.rush ts) h g = rush_kept sight w n ts h
  shape_kept sight w n (t.Shape.enum_pattern x y) h g = enum_known sight x y _ (enum_stands sight w n x y h) g
  shape_kept sight w n s h g = tt

  what_kept : (sight : Sight) (v : Node) (x : What) → v.what ≡ x → ((c : ℕ) → Holds (rules_at (facts_at sight) v) c → ⊥) →
      WhatNames (item_table is) x (ref_at (named is).refs v.number) → WhatHas (ShapeKept p) x
  what_kept sight v (expression s) e h g = shape_kept sight v.around v.number s
      (λ c b. h c (least.other (subst (λ x. Holds (own_rules (facts_at sight) v.around v.number x) c) (sym e) b))) g
  what_kept sight v (program js) e h g = tt
  what_kept sight v (item i) e h g = tt
  what_kept sight v (member m) e h g = tt
  what_kept sight v (parameter q) e h g = tt
  what_kept sight v (type_name x) e h g = tt

  abbrev Named : plain.Node → Type 0
  Named v = WhatNames (item_table is) v.what (ref_at (named is).refs v.number)

  each_kept : (vs : List Node) → Each (Unbroken world) vs → Each Named (map alone vs) → Each (NodeKept p) (map alone vs)
  each_kept [] h g = tt
  each_kept (v ∷ vs) h g = (what_kept h.0.sight v v.what refl h.0.none g.0, each_kept vs h.1 g.1)

  pub nodes_kept : (written : List ItemTree) → is ≡ items_numbered written 0 → ((n c : ℕ) → TypesBreak is n c → ⊥) →
      Each (NodeKept p) (items_order is)
  nodes_kept written e h =
      let order = items_alone is in
      subst (Each (NodeKept p)) order (each_kept (items_nodes is) (unbroken world (items_nodes is) begun h)
      (subst (Each Named) (sym order) (names_in_order is written e)))
