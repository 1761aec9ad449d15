-- What is known of parts that are numbered below n is the same in two states that agree below n.
use Rattle.std.proofs.Common.{◌≡◌, ℕ, ◌<◌, List, [], Option}
use Rattle.std.proofs.Common.{refl, ap, ◌∙◌}
use Rattle.std.proofs.Common.{arith}
use Rattle.std.specs.Prelude.{Some, None}
use Rattle.verse_tree.specs.Tree.{Bytes, Tree, tree, Shape, Trees, no_trees, more_trees, Holes, no_holes, more_holes, Pairs, no_pairs}
use Rattle.verse_tree.specs.Tree.{more_pairs}
use Rattle.verse_tree.specs.Tree.{Givens, no_givens, more_givens}
use Rattle.verse_tree.specs.Tree as s
use Rattle.verse_tree.specs.declared.tables.Ref.{Ref}
use Rattle.verse_tree.specs.declared.tables.Ref.TheVariants as ref
use Rattle.verse_rules_types.specs.Types.{Ty}
use Rattle.verse_rules_types.specs.Types as t
use Rattle.verse_rules_types.specs.Fitting.{join}
use Rattle.verse_check_typing.specs.Refs.{referred, ref_at}
use Rattle.verse_rules_walk.specs.Around.{Around, callee, freely, indexed, used_as, object}
use Rattle.verse_rules_walk.specs.Nodes.{number_of_tree, tree_nodes, shape_nodes, trees_nodes, argument_nodes}
use Rattle.verse_check_typing.specs.Facts.{World, Facts, classes, or_never, type_at, type_of, or_false, var_at}
use Rattle.verse_check_typing.specs.Steps.{Sight, facts}
use Rattle.verse_check_typing.specs.Parts.{types_of, joined_from, keys_from, values_from, last_from, or_void, last_type, first_from}
use Rattle.verse_check_typing.specs.Parts.{second_from}
use Rattle.verse_check_typing.specs.Parts.{have_texts}
use Rattle.verse_check_typing.specs.Members.{givens_fit}
use Rattle.verse_check_typing.specs.Callees.{Callee, function, print, round, modulo, await, signal, item, value, shape_callee, callee_by}
use Rattle.verse_check_typing.specs.Callees.{callee_of}
use Rattle.verse_check_typing.specs.Callees.{action_of}
use Rattle.verse_check_typing.specs.Calls.{would_fit, arguments_fit, can_index, indices_fit}
use Rattle.verse_check_typing.specs.Loops.{takes, shape_takes, all_take}
use Rattle.verse_check_typing.specs.Cases.{shape_fits, arm_fits, arms_fit, with_valued, with_pattern, with_shape, with_arm, named_from}
use Rattle.verse_check_typing.specs.Cases.{all_named, are_covered, can_case, case_type}
use Rattle.verse_check_typing.specs.TypeRules.{can_be_set, can_shape_be_set, is_variable, is_item, is_item_name}
use Rattle.verse_check_typing.specs.TypeRules.{is_suspending_call}
use Rattle.verse_check_typing.specs.TypeRules.{can_be_spawned}
use Rattle.verse_check_typing.specs.Calls.{is_suspending}
use Rattle.verse_accept_rows.specs.Agreeing.{LowRef, Agree}
use Rattle.verse_accept_rows.proofs.Low.{Lows, top, inner, first, rest, LowTrees, LowHoles, LowPairs, LowGivens}

module _ (k : World) (n : ℕ) (x y : Sight) (g : Agree k n x y) where
  abbrev F : Facts
  F = facts k x

  abbrev G : Facts
  G = facts k y

  pub same_at : (m : ℕ) → m < n → type_at x.types m ≡ type_at y.types m
  same_at m h = ap or_never (g.types m h)

  pub same_type : (e : Tree) → number_of_tree e < n → type_of F e ≡ type_of G e
  same_type e h = same_at (number_of_tree e) h

  pub same_ref : (m : ℕ) → m < n → ref_at x.refs m ≡ ref_at y.refs m
  same_ref m h = ap referred (g.refs m h)

  pub same_var : (m : ℕ) → m < n → var_at x.vars m ≡ var_at y.vars m
  same_var m h = ap or_false (g.vars m h)

  -- ---- several parts

  pub same_types : (es : Trees) → LowTrees n es → types_of F es ≡ types_of G es
  same_types no_trees h = refl
  same_types (more_trees e es) h = rw (same_type e h.0, same_types es h.1)

  pub same_joined : (u : Ty) (es : Trees) → LowTrees n es → joined_from F u es ≡ joined_from G u es
  same_joined u no_trees h = refl
  same_joined u (more_trees e es) h = rw (same_type e h.0) (same_joined (join (classes G) u (type_of G e)) es h.1)

  pub same_keys : (u : Ty) (ps : Pairs) → LowPairs n ps → keys_from F u ps ≡ keys_from G u ps
  same_keys u no_pairs h = refl
  same_keys u (more_pairs a e ps) h = rw (same_type a h.0) (same_keys (join (classes G) u (type_of G a)) ps h.2)

  pub same_values : (u : Ty) (ps : Pairs) → LowPairs n ps → values_from F u ps ≡ values_from G u ps
  same_values u no_pairs h = refl
  same_values u (more_pairs a e ps) h = rw (same_type e h.1) (same_values (join (classes G) u (type_of G e)) ps h.2)

  abbrev LowNumber : Option ℕ → Type 0
  LowNumber None = Unit {0}
  LowNumber (Some m) = m < n

  last_low : (o : Option ℕ) (es : Trees) → LowNumber o → LowTrees n es → LowNumber (last_from o es)
  last_low o no_trees l h = l
  last_low o (more_trees e es) l h = last_low (Some (number_of_tree e)) es h.0 h.1

  same_void : (o : Option ℕ) → LowNumber o → or_void F o ≡ or_void G o
  same_void None h = refl
  same_void (Some m) h = same_at m h

  pub same_last : (es : Trees) → LowTrees n es → last_type F es ≡ last_type G es
  same_last es h = same_void (last_from None es) (last_low None es tt h)

  pub same_first : (es : Trees) → LowTrees n es → first_from F es ≡ first_from G es
  same_first no_trees h = refl
  same_first (more_trees e es) h = ap Some (same_type e h.0)

  pub same_second : (es : Trees) → LowTrees n es → second_from F es ≡ second_from G es
  same_second no_trees h = refl
  same_second (more_trees e es) h = same_first es h.1

  pub same_texts : (hs : Holes) → LowHoles n hs → have_texts F hs ≡ have_texts G hs
  same_texts no_holes h = refl
  same_texts (more_holes e bs hs) h = rw (same_type e h.0, same_texts hs h.1)

  pub same_givens : (c : ℕ) (gs : Givens) → LowGivens n gs → givens_fit F c gs ≡ givens_fit G c gs
  same_givens c no_givens h = refl
  same_givens c (more_givens a e gs) h = rw (same_type e h.0, same_givens c gs h.1)

  -- ---- callees

  same_shape_callee : (a : Around) (m : ℕ) (e : Shape) (u : Ty) → Lows n (shape_nodes m a e) → shape_callee F e u ≡ shape_callee G e u
  same_shape_callee a m (s.Shape.member b z) u h = ap (λ v. action_of v z u) (same_type b (top n (used_as object a) b h))
  same_shape_callee a m e u h = refl

  same_callee_by : (r : Option Ref) (a : Around) (m : ℕ) (e : Shape) (u : Ty) → Lows n (shape_nodes m a e) →
      callee_by F r e u ≡ callee_by G r e u
  same_callee_by None a m e u h = same_shape_callee a m e u h
  same_callee_by (Some r) a m e u h = refl

  pub same_callee : (a : Around) (e : Tree) → Lows n (tree_nodes a e) → callee_of F e ≡ callee_of G e
  same_callee a (tree m p e) h =
      let low = top n a (tree m p e) h in
      ap (λ r. callee_by F r e (type_at x.types m)) (same_ref m low)
      ∙ ap (λ u. callee_by F (ref_at y.refs m) e u) (same_at m low)
      ∙ same_callee_by (ref_at y.refs m) a m e (type_at y.types m) (inner n a m p e h)

  pub same_arguments : (c : Callee) (es : Trees) → LowTrees n es → arguments_fit F c es ≡ arguments_fit G c es
  same_arguments (function f) es h = refl
  same_arguments print es h = ap (λ o. would_fit F o t.string) (same_first es h)
  same_arguments round es h = refl
  same_arguments modulo es h = rw (same_first es h, same_second es h)
  same_arguments (await u) es h = refl
  same_arguments (signal u) es h = rw (same_first es h)
  same_arguments item es h = refl
  same_arguments (value u) es h = refl

  same_index : (u : Ty) (es : Trees) → LowTrees n es → can_index F u es ≡ can_index G u es
  same_index (t.array u) es h = rw (same_first es h)
  same_index (t.mapping a u) es h = rw (same_first es h)
  same_index u es h = refl

  pub same_indices : (c : Callee) (es : Trees) → LowTrees n es → indices_fit F c es ≡ indices_fit G c es
  same_indices (value u) es h = same_index u es h
  same_indices (function f) es h = refl
  same_indices print es h = same_arguments print es h
  same_indices round es h = refl
  same_indices modulo es h = same_arguments modulo es h
  same_indices (await u) es h = refl
  same_indices (signal u) es h = same_arguments (signal u) es h
  same_indices item es h = refl

  -- ---- generators and arms

  same_shape_takes : (a : Around) (m : ℕ) (e : Shape) → Lows n (shape_nodes m a e) → shape_takes F e ≡ shape_takes G e
  same_shape_takes a m (s.Shape.elements z b) h = rw (same_type b (top n (freely a) b h))
  same_shape_takes a m (s.Shape.entries w z b) h = rw (same_type b (top n (freely a) b h))
  same_shape_takes a m (s.Shape.range z b c) h =
      let one = tree_nodes (freely a) b in
      let two = tree_nodes (freely a) c in
      rw (same_type b (top n (freely a) b (first n one two h)), same_type c (top n (freely a) c (rest n one two h)))
  same_shape_takes a m e h = refl

  same_takes : (a : Around) (e : Tree) → Lows n (tree_nodes a e) → takes F e ≡ takes G e
  same_takes a (tree m p e) h = same_shape_takes a m e (inner n a m p e h)

  pub same_all_take : (a : Around) (es : Trees) → Lows n (trees_nodes a es) → all_take F es ≡ all_take G es
  same_all_take a no_trees h = refl
  same_all_take a (more_trees e es) h =
      rw (same_takes a e (first n (tree_nodes a e) (trees_nodes a es) h), same_all_take a es (rest n (tree_nodes a e) (trees_nodes a es) h))

  same_shape_fits : (a : Around) (m : ℕ) (u : Ty) (e : Shape) → Lows n (shape_nodes m a e) → shape_fits F u e ≡ shape_fits G u e
  same_shape_fits a m u (s.Shape.arm b c) h =
      rw (same_type b (top n (freely a) b (first n (tree_nodes (freely a) b) (tree_nodes (freely a) c) h)))
  same_shape_fits a m u e h = refl

  same_arm : (a : Around) (u : Ty) (e : Tree) → Lows n (tree_nodes a e) → arm_fits F u e ≡ arm_fits G u e
  same_arm a u (tree m p e) h = same_shape_fits a m u e (inner n a m p e h)

  same_arms : (a : Around) (u : Ty) (es : Trees) → Lows n (trees_nodes a es) → arms_fit F u es ≡ arms_fit G u es
  same_arms a u no_trees h = refl
  same_arms a u (more_trees e es) h =
      rw (same_arm a u e (first n (tree_nodes a e) (trees_nodes a es) h), same_arms a u es (rest n (tree_nodes a e) (trees_nodes a es) h))

  pub same_can_case : (a : Around) (u : Ty) (es : Trees) → Lows n (trees_nodes a es) → can_case F u es ≡ can_case G u es
  same_can_case a u es h = rw (same_arms a u es h)

  pub same_case_type : (u : Ty) (es : Trees) → LowTrees n es → case_type F u es ≡ case_type G u es
  same_case_type u es h = rw (same_joined t.never es h)

  same_valued : (e m : ℕ) (z : Shape) (ys : List Bytes) → m < n → with_valued F e m z ys ≡ with_valued G e m z ys
  same_valued e m (s.Shape.enum_pattern v w) ys h = rw (same_at m h)
  same_valued e m z ys h = refl

  same_pattern : (a : Around) (e : ℕ) (z : Tree) (ys : List Bytes) → Lows n (tree_nodes a z) → with_pattern F e z ys ≡ with_pattern G e z ys
  same_pattern a e (tree m p z) ys h = same_valued e m z ys (top n a (tree m p z) h)

  same_with_shape : (a : Around) (m e : ℕ) (z : Shape) (ys : List Bytes) → Lows n (shape_nodes m a z) →
      with_shape F e z ys ≡ with_shape G e z ys
  same_with_shape a m e (s.Shape.arm b c) ys h =
      same_pattern (freely a) e b ys (first n (tree_nodes (freely a) b) (tree_nodes (freely a) c) h)
  same_with_shape a m e z ys h = refl

  same_with_arm : (a : Around) (e : ℕ) (z : Tree) (ys : List Bytes) → Lows n (tree_nodes a z) → with_arm F e z ys ≡ with_arm G e z ys
  same_with_arm a e (tree m p z) ys h = same_with_shape a m e z ys (inner n a m p z h)

  same_named : (a : Around) (e : ℕ) (ys : List Bytes) (zs : Trees) → Lows n (trees_nodes a zs) → named_from F e ys zs ≡ named_from G e ys zs
  same_named a e ys no_trees h = refl
  same_named a e ys (more_trees z zs) h =
      ap (λ l. named_from F e l zs) (same_with_arm a e z ys (first n (tree_nodes a z) (trees_nodes a zs) h))
      ∙ same_named a e (with_arm G e z ys) zs (rest n (tree_nodes a z) (trees_nodes a zs) h)

  same_all_named : (a : Around) (u : Ty) (es : Trees) → Lows n (trees_nodes a es) → all_named F u es ≡ all_named G u es
  same_all_named a (t.enum e) es h = rw (same_named a e [] es h)
  same_all_named a u es h = refl

  pub same_covered : (a : Around) (u : Ty) (es : Trees) → Lows n (trees_nodes a es) → are_covered F u es ≡ are_covered G u es
  same_covered a u es h = rw (same_all_named a u es h)

  -- ---- targets

  same_variable : (m : ℕ) (o : Option Ref) → m < n → LowRef m o → is_variable F o ≡ is_variable G o
  same_variable m None h l = refl
  same_variable m (Some (ref.Local j)) h l = same_var j (omega (arith, h, l))
  same_variable m (Some r) h l = refl

  same_set_at : (m : ℕ) → m < n → is_variable F (ref_at x.refs m) ≡ is_variable G (ref_at y.refs m)
  same_set_at m h = ap (is_variable F) (same_ref m h) ∙ same_variable m (ref_at y.refs m) h (g.low m h)

  mutual
    pub same_set : (a : Around) (e : Tree) → Lows n (tree_nodes a e) → can_be_set F e ≡ can_be_set G e
    same_set a (tree m p e) h = same_shape_set a m e (top n a (tree m p e) h) (inner n a m p e h)

    same_shape_set : (a : Around) (m : ℕ) (e : Shape) → m < n → Lows n (shape_nodes m a e) → can_shape_be_set F m e ≡ can_shape_be_set G m e
    same_shape_set a m (s.Shape.name z) l h = same_set_at m l
    same_shape_set a m (s.Shape.member b z) l h = same_set_at m l
    same_shape_set a m (s.Shape.index b es) l h =
        same_set (indexed a) b (first n (tree_nodes (indexed a) b) (argument_nodes a (number_of_tree b) 0 es) h)
    same_shape_set a m e l h = refl

  same_item_name : (m : ℕ) (e : Shape) → m < n → is_item_name F m e ≡ is_item_name G m e
  same_item_name m (s.Shape.name z) h = rw (same_ref m h)
  same_item_name m e h = refl

  pub same_item : (e : Tree) → number_of_tree e < n → is_item F e ≡ is_item G e
  same_item (tree m p e) h = same_item_name m e h

  same_suspending : (a : Around) (m : ℕ) (e : Shape) → Lows n (shape_nodes m a e) → is_suspending_call F e ≡ is_suspending_call G e
  same_suspending a m (s.Shape.call b es) h =
      ap is_suspending (same_callee (used_as callee a) b (first n (tree_nodes (used_as callee a) b) (argument_nodes a
      (number_of_tree b) 0 es) h))
  same_suspending a m (s.Shape.index b es) h =
      ap is_suspending (same_callee (indexed a) b (first n (tree_nodes (indexed a) b) (argument_nodes a (number_of_tree b) 0 es) h))
  same_suspending a m e h = refl

  pub same_spawned : (a : Around) (e : Tree) → Lows n (tree_nodes a e) → can_be_spawned F e ≡ can_be_spawned G e
  same_spawned a (tree m p e) h = same_suspending a m e (inner n a m p e h)
