-- The row and the rules of a node are the same in two states that agree below its number.
use Rattle.std.proofs.Common.{◌≡◌, ℕ, zero, suc, ◌+◌, ◌-◌, ◌<◌, Bool, not, ◌&&◌, ◌∷◌, ◌++◌, Option}
use Rattle.std.proofs.Common.{refl, sym, ap, ◌∙◌}
use Rattle.std.proofs.Common.{arith, slice_get}
use Rattle.std.specs.Prelude.{Some, None}
use Rattle.verse_tree.specs.Tree.{Bytes, Tree, Shape, Trees}
use Rattle.verse_tree.specs.Tree as s
use Rattle.verse_tree.specs.PostOrder.{What, program, item, member, parameter, type_name, expression}
use Rattle.verse_tree.specs.declared.tables.Ref.{Ref}
use Rattle.verse_tree.specs.declared.tables.Ref.TheVariants as ref
use Rattle.verse_rules_types.specs.Types.{Ty}
use Rattle.verse_rules_types.specs.Types as t
use Rattle.verse_rules_least.specs.Least.{first_true}
use Rattle.verse_check_typing.specs.Refs.{ref_at, function_by}
use Rattle.verse_rules_walk.specs.Around.{Around, Used, callee, target, spawned, object, argument, used_as, freely}
use Rattle.verse_rules_walk.specs.Around.{caught}
use Rattle.verse_rules_walk.specs.Around.{repeated, armed, left_of, indexed}
use Rattle.verse_rules_walk.specs.Nodes.{Node, number_of_tree, tree_nodes, shape_nodes, trees_nodes, argument_nodes}
use Rattle.verse_check_typing.specs.Facts.{World, Facts, named_ref, type_of}
use Rattle.verse_check_typing.specs.Judgement.{Judgement}
use Rattle.verse_check_typing.specs.Parts.{queried_type, is_quotient}
use Rattle.verse_check_typing.specs.Parts.{count}
use Rattle.verse_check_typing.specs.Members.{member_of, part_type, may_stand, member_ref}
use Rattle.verse_check_typing.specs.Callees.{callee_of}
use Rattle.verse_check_typing.specs.Calls.{call_type, index_type, content_of, arguments_fit, indices_fit, can_call, can_stand_indexed}
use Rattle.verse_check_typing.specs.Calls.{call_wanted, index_wanted, are_wanted, has_called_item}
use Rattle.verse_check_typing.specs.Loops.{index_of}
use Rattle.verse_check_typing.specs.Cases.{case_type, can_case, are_covered}
use Rattle.verse_check_typing.specs.Rows.{name_type, loop_type, row}
use Rattle.verse_check_typing.specs.TypeRules.{mismatched, uncallable, miscounted, incomparable, unsettable, lacking, memberless}
use Rattle.verse_check_typing.specs.TypeRules.{uncovered}
use Rattle.verse_check_typing.specs.TypeRules.{unrounded, fits_result, is_round, is_rounded, on_class, is_called}
use Rattle.verse_check_typing.specs.Steps.{Sight, facts, expression_rules, type_by, own_rules, cut, own, params_of}
use Rattle.verse_check_typing.specs.Steps.{fits_param}
use Rattle.verse_check_typing.specs.Steps.{serves, serves_as, served, judge, rules_at, shape_ref, ref_by}
use Rattle.verse_accept_scopes.specs.Laws.{parts_of}
use Rattle.verse_accept_rows.specs.Agreeing.{LowRef, Agree}
use Rattle.verse_accept_rows.proofs.Low.{Lows, top, first, rest, LowTrees, trees_low, arguments_low, holes_low, pairs_low}
use Rattle.verse_accept_rows.proofs.Low.{givens_low}
use Rattle.verse_accept_rows.proofs.Parts.{same_at, same_type, same_ref, same_types, same_joined, same_keys, same_values, same_last}
use Rattle.verse_accept_rows.proofs.Parts.{same_texts}
use Rattle.verse_accept_rows.proofs.Parts.{same_givens, same_callee, same_arguments, same_indices, same_all_take, same_can_case}
use Rattle.verse_accept_rows.proofs.Parts.{same_case_type}
use Rattle.verse_accept_rows.proofs.Parts.{same_covered, same_set, same_item, same_spawned}

before : (m n : ℕ) → m < n → m - 1 < n
before zero n h = h
before (suc m) n h = omega (arith, h)

module _ (k : World) (n : ℕ) (x y : Sight) (g : Agree k n x y) where
  abbrev F : Facts
  F = facts k x

  abbrev G : Facts
  G = facts k y

  same_name : (o : Option Ref) → LowRef n o → name_type F o ≡ name_type G o
  same_name None h = refl
  same_name (Some (ref.Local m)) h = same_at k n x y g m h
  same_name (Some (ref.Key m)) h = ap index_of (same_at k n x y g (m - 1) (before m n h))
  same_name (Some r) h = refl

  same_member : (a : Around) (b : Tree) (z : Bytes) → Lows n (tree_nodes a b) →
      member_of F (ref_at x.refs (number_of_tree b)) (type_of F b) z ≡ member_of G (ref_at y.refs (number_of_tree b)) (type_of G b) z
  same_member a b z h = rw (same_ref k n x y g (number_of_tree b) (top n a b h), same_type k n x y g b (top n a b h))

  -- two trees, one behind the other
  abbrev low_left : (a c : Around) (b d : Tree) → Lows n (tree_nodes a b ++ tree_nodes c d) → number_of_tree b < n
  low_left a c b d h = top n a b (first n (tree_nodes a b) (tree_nodes c d) h)

  abbrev low_right : (a c : Around) (b d : Tree) → Lows n (tree_nodes a b ++ tree_nodes c d) → number_of_tree d < n
  low_right a c b d h = top n c d (rest n (tree_nodes a b) (tree_nodes c d) h)

  low_callee : (a c : Around) (b : Tree) (es : s.Trees) → Lows n (tree_nodes c b ++ argument_nodes a (number_of_tree b) 0 es) →
      Lows n (tree_nodes c b)
  low_callee a c b es h = first n (tree_nodes c b) (argument_nodes a (number_of_tree b) 0 es) h

  low_arguments : (a c : Around) (b : Tree) (es : s.Trees) → Lows n (tree_nodes c b ++ argument_nodes a (number_of_tree b) 0 es) →
      LowTrees n es
  low_arguments a c b es h =
      arguments_low n a (number_of_tree b) 0 es (rest n (tree_nodes c b) (argument_nodes a (number_of_tree b) 0 es) h)

  pub same_row : (a : Around) (e : Shape) → Lows n (shape_nodes n a e) → row F n e ≡ row G n e
  same_row a (s.Shape.block ts) h = same_last k n x y g ts (trees_low n (freely a) ts h)
  same_row a (s.Shape.definition z b) h = same_type k n x y g b (top n (freely a) b h)
  same_row a (s.Shape.assignment m b c) h =
      rw (
        same_type k n x y g b (low_left (used_as target a) (freely a) b c h),
        same_type k n x y g c (low_right (used_as target a)
            (freely a) b c h),
      )
  same_row a (s.Shape.if_else ts b c) h =
      let two = trees_nodes (caught a) ts ++ tree_nodes (freely a) b in
      let front = first n two (tree_nodes (freely a) c) h in
      rw (
        same_type k n x y g b (top n (freely a) b (rest n (trees_nodes (caught a) ts) (tree_nodes (freely a) b) front)),
        same_type k n x y g c (top n (freely a) c (rest n two (tree_nodes (freely a) c) h)),
      )
  same_row a (s.Shape.chained o b c) h =
      rw (same_type k n x y g b (low_left (left_of o a) (freely a) b c h), same_type k n x y g c (low_right (left_of o a) (freely a) b c h))
  same_row a (s.Shape.compared o b c) h = rw (same_type k n x y g b (low_left (freely a) (freely a) b c h))
  same_row a (s.Shape.call b ts) h = ap (λ c. call_type c ts) (same_callee k n x y g (used_as callee a) b (low_callee a
      (used_as callee a) b ts h))
  same_row a (s.Shape.index b ts) h = ap (λ c. index_type c ts) (same_callee k n x y g (indexed a) b (low_callee a (indexed a) b ts h))
  same_row a (s.Shape.member b z) h = ap part_type (same_member (used_as object a) b z h)
  same_row a (s.Shape.query b) h = ap queried_type (same_type k n x y g b (top n (freely a) b h))
  same_row a (s.Shape.name z) h = same_name (ref_at k.names.refs n) g.named
  same_row a (s.Shape.tuple ts) h = ap t.tuple (same_types k n x y g ts (trees_low n (freely a) ts h))
  same_row a (s.Shape.array ts) h = ap t.array (same_joined k n x y g t.never ts (trees_low n (freely a) ts h))
  same_row a (s.Shape.option ts) h = ap t.option (same_last k n x y g ts (trees_low n (caught a) ts h))
  same_row a (s.Shape.mapping ps) h =
      let low = pairs_low n (freely a) ps h in
      rw (same_keys k n x y g t.never ps low, same_values k n x y g t.never ps low)
  same_row a (s.Shape.for_form ts b) h =
      ap t.array (same_type k n x y g b (top n (repeated a) b (rest n (trees_nodes (caught a) ts) (tree_nodes (repeated a) b) h)))
  same_row a (s.Shape.loop_form b) h = ap loop_type g.left
  same_row a (s.Shape.block_form b) h = same_type k n x y g b (top n (freely a) b h)
  same_row a (s.Shape.sync ts) h = ap t.tuple (same_types k n x y g ts (trees_low n (armed a) ts h))
  same_row a (s.Shape.race ts) h = same_joined k n x y g t.never ts (trees_low n (armed a) ts h)
  same_row a (s.Shape.rush ts) h = same_joined k n x y g t.never ts (trees_low n (armed a) ts h)
  same_row a (s.Shape.cases b ts) h =
      let subject = top n (freely a) b (first n (tree_nodes (freely a) b) (trees_nodes (freely a) ts) h) in
      let low = trees_low n (freely a) ts (rest n (tree_nodes (freely a) b) (trees_nodes (freely a) ts) h) in
      ap (λ u. case_type F u ts) (same_type k n x y g b subject) ∙ same_case_type k n x y g (type_of G b) ts low
  same_row a (s.Shape.spawn b) h = ap t.task (same_type k n x y g b (top n (used_as spawned a) b h))
  same_row a (s.Shape.elements z b) h = ap content_of (same_type k n x y g b (top n (freely a) b h))
  same_row a (s.Shape.entries w z b) h = ap content_of (same_type k n x y g b (top n (freely a) b h))
  same_row a (s.Shape.arm b c) h = same_type k n x y g c (low_right (freely a) (freely a) b c h)
  same_row a e h = refl

  -- ---- the rules, one by one

  same_on_class : (o : Option Ref) (p q : ℕ → Bool) → ((c : ℕ) → p c ≡ q c) → on_class o p ≡ on_class o q
  same_on_class None p q h = refl
  same_on_class (Some (ref.Class c)) p q h = h c
  same_on_class (Some r) p q h = refl

  same_result : (o : Option s.Written) (u v : Ty) → u ≡ v → fits_result F o u ≡ fits_result G o v
  same_result o u v h = ap (fits_result F o) h

  same_mismatched : (a : Around) (e : Shape) → Lows n (shape_nodes n a e) → mismatched F a n e ≡ mismatched G a n e
  same_mismatched a (s.Shape.assignment m b c) h =
      rw (
        same_item k n x y g b (low_left (used_as target a) (freely a) b c h),
        same_type k n x y g b (low_left (used_as target a) (freely a) b c h),
        same_type k n x y g c (low_right (used_as target a) (freely a) b c h),
      )
  same_mismatched a (s.Shape.returned b) h =
      ap not (same_result a.owner.result (type_of F b) (type_of G b) (same_type k n x y g b (top n (freely a) b h)))
  same_mismatched a (s.Shape.chained o b c) h =
      rw (same_type k n x y g b (low_left (left_of o a) (freely a) b c h), same_type k n x y g c (low_right (left_of o a) (freely a) b c h))
  same_mismatched a (s.Shape.compared o b c) h =
      rw (same_type k n x y g b (low_left (freely a) (freely a) b c h), same_type k n x y g c (low_right (freely a) (freely a) b c h))
  same_mismatched a (s.Shape.minus b) h = rw (same_type k n x y g b (top n (freely a) b h))
  same_mismatched a (s.Shape.call b ts) h =
      ap (λ c. not (arguments_fit F c ts)) (same_callee k n x y g (used_as callee a) b (low_callee a (used_as callee a) b ts h))
      ∙ ap not (same_arguments k n x y g (callee_of G b) ts (low_arguments a (used_as callee a) b ts h))
  same_mismatched a (s.Shape.index b ts) h =
      ap (λ c. not (indices_fit F c ts)) (same_callee k n x y g (indexed a) b (low_callee a (indexed a) b ts h))
      ∙ ap not (same_indices k n x y g (callee_of G b) ts (low_arguments a (indexed a) b ts h))
  same_mismatched a (s.Shape.query b) h = rw (same_type k n x y g b (top n (freely a) b h))
  same_mismatched a (s.Shape.holes z hs) h = ap not (same_texts k n x y g hs (holes_low n (freely a) hs h))
  same_mismatched a (s.Shape.instance z gs) h =
      ap not (same_on_class (named_ref F n) _ _ (λ c. same_givens k n x y g c gs (givens_low n (freely a) gs h)))
  same_mismatched a (s.Shape.for_form ts b) h =
      ap not (same_all_take k n x y g (caught a) ts (first n (trees_nodes (caught a) ts) (tree_nodes (repeated a) b) h))
  same_mismatched a (s.Shape.cases b ts) h =
      let one = tree_nodes (freely a) b in
      let arms = trees_nodes (freely a) ts in
      ap (λ u. not (can_case F u ts)) (same_type k n x y g b (top n (freely a) b (first n one arms h)))
      ∙ ap not (same_can_case k n x y g (freely a) (type_of G b) ts (rest n one arms h))
  same_mismatched a e h = refl

  same_uncallable : (a : Around) (e : Shape) → Lows n (shape_nodes n a e) → uncallable F a n e ≡ uncallable G a n e
  same_uncallable a (s.Shape.call b ts) h =
      ap (λ c. not (can_call c)) (same_callee k n x y g (used_as callee a) b (low_callee a (used_as callee a) b ts h))
  same_uncallable a (s.Shape.index b ts) h =
      ap (λ c. not (can_stand_indexed c)) (same_callee k n x y g (indexed a) b (low_callee a (indexed a) b ts h))
  same_uncallable a (s.Shape.spawn b) h = ap not (same_spawned k n x y g (used_as spawned a) b h)
  same_uncallable a e h = refl

  same_miscounted : (a : Around) (e : Shape) → Lows n (shape_nodes n a e) → miscounted F e ≡ miscounted G e
  same_miscounted a (s.Shape.call b ts) h =
      ap (λ c. not (are_wanted (call_wanted c) (count ts))) (same_callee k n x y g (used_as callee a) b (low_callee a
      (used_as callee a) b ts h))
  same_miscounted a (s.Shape.index b ts) h =
      ap (λ c. not (are_wanted (index_wanted c) (count ts))) (same_callee k n x y g (indexed a) b (low_callee a (indexed a) b ts h))
  same_miscounted a e h = refl

  same_incomparable : (a : Around) (e : Shape) → Lows n (shape_nodes n a e) → incomparable F e ≡ incomparable G e
  same_incomparable a (s.Shape.compared o b c) h =
      rw (same_type k n x y g b (low_left (freely a) (freely a) b c h), same_type k n x y g c (low_right (freely a) (freely a) b c h))
  same_incomparable a e h = refl

  same_unsettable : (a : Around) (e : Shape) → Lows n (shape_nodes n a e) → unsettable F e ≡ unsettable G e
  same_unsettable a (s.Shape.assignment m b c) h =
      ap not (same_set k n x y g (used_as target a) b (first n (tree_nodes (used_as target a) b) (tree_nodes (freely a) c) h))
  same_unsettable a e h = refl

  same_memberless : (a : Around) (e : Shape) → Lows n (shape_nodes n a e) → memberless F a n e ≡ memberless G a n e
  same_memberless a (s.Shape.member b z) h = ap (λ m. not (may_stand (is_called a.used) m)) (same_member (used_as object a) b z h)
  same_memberless a (s.Shape.call b ts) h =
      ap (λ c. not (has_called_item c ts)) (same_callee k n x y g (used_as callee a) b (low_callee a (used_as callee a) b ts h))
  same_memberless a e h = refl

  same_uncovered : (a : Around) (e : Shape) → Lows n (shape_nodes n a e) → uncovered F e ≡ uncovered G e
  same_uncovered a (s.Shape.cases b ts) h =
      let one = tree_nodes (freely a) b in
      let arms = trees_nodes (freely a) ts in
      ap (λ u. not (are_covered F u ts)) (same_type k n x y g b (top n (freely a) b (first n one arms h)))
      ∙ ap not (same_covered k n x y g (freely a) (type_of G b) ts (rest n one arms h))
  same_uncovered a e h = refl

  same_rounded : (u : Used) → ((c i : ℕ) → u ≡ argument c i → c < n) → is_rounded F u ≡ is_rounded G u
  same_rounded (argument c i) h = ap is_round (same_ref k n x y g c (h c i refl))
  same_rounded u h = refl

  same_unrounded : (a : Around) (e : Shape) → ((c i : ℕ) → a.used ≡ argument c i → c < n) → unrounded F a e ≡ unrounded G a e
  same_unrounded a (s.Shape.chained o b c) h = ap (λ q. is_quotient o && not q) (same_rounded a.used h)
  same_unrounded a e h = refl

  same_lacking : (e : Shape) → lacking F n e ≡ lacking G n e
  same_lacking (s.Shape.instance z gs) = refl
  same_lacking e = refl

  pub same_expression_rules : (a : Around) (e : Shape) → Lows n (shape_nodes n a e) → ((c i : ℕ) → a.used ≡ argument c i → c < n) →
      expression_rules F a n e ≡ expression_rules G a n e
  same_expression_rules a e h u =
      rw (
        same_mismatched a e h,
        same_uncallable a e h,
        same_miscounted a e h,
        same_incomparable a e h,
        same_unsettable a e h,
        same_lacking e,
        same_memberless a e h,
        same_uncovered a e h,
        same_unrounded a e u,
        same_row a e h,
      )

  -- ---- the whole node

  pub same_type_by : (a : Around) (e : What) → Lows n (parts_of n a e) → type_by F n e ≡ type_by G n e
  same_type_by a (expression e) h = same_row a e h
  same_type_by a (item i) h = refl
  same_type_by a (member m) h = refl
  same_type_by a (parameter p) h = refl
  same_type_by a (type_name z) h = refl
  same_type_by a (program is) h = refl

  pub same_own_rules : (a : Around) (e : What) → Lows n (parts_of n a e) → ((c i : ℕ) → a.used ≡ argument c i → c < n) →
      own_rules F a n e ≡ own_rules G a n e
  same_own_rules a (expression e) h u = same_expression_rules a e h u
  same_own_rules a (item i) h u = refl
  same_own_rules a (member m) h u = refl
  same_own_rules a (parameter p) h u = refl
  same_own_rules a (type_name z) h u = refl
  same_own_rules a (program is) h u = refl

  same_serves : (u : Used) (v : Ty) → ((c i : ℕ) → u ≡ argument c i → c < n) → serves F u v ≡ serves G u v
  same_serves (argument c i) v h =
      ap (λ o. fits_param F v (slice_get (params_of (function_by k.names o)) i)) (same_ref k n x y g c (h c i refl))
  same_serves u v h = refl

  same_serves_as : (u : Used) (e : What) (v : Ty) → ((c i : ℕ) → u ≡ argument c i → c < n) → serves_as F u e v ≡ serves_as G u e v
  same_serves_as u (expression e) v h = same_serves u v h
  same_serves_as u (item i) v h = refl
  same_serves_as u (member m) v h = refl
  same_serves_as u (parameter p) v h = refl
  same_serves_as u (type_name z) v h = refl
  same_serves_as u (program is) v h = refl

  module _ (v : Node) (same : v.number ≡ n) (low : Lows n (parts_of n v.around v.what))
      (used : (c i : ℕ) → v.around.used ≡ argument c i → c < n) where
    same_own_at : (m : ℕ) → m ≡ n → cut (type_by F m v.what) (first_true (own_rules F v.around m v.what)) ≡
        cut (type_by G m v.what) (first_true (own_rules G v.around m v.what))
    same_own_at m e =
        ap (λ j. cut (type_by F j v.what) (first_true (own_rules F v.around j v.what))) e
        ∙ ap (λ u. cut u (first_true (own_rules F v.around n v.what))) (same_type_by v.around v.what low)
        ∙ ap (λ rs. cut (type_by G n v.what) (first_true rs)) (same_own_rules v.around v.what low used)
        ∙ ap (λ j. cut (type_by G j v.what) (first_true (own_rules G v.around j v.what))) (sym e)

    same_own : own F v ≡ own G v
    same_own = same_own_at v.number same

    pub same_judge : judge F v ≡ judge G v
    same_judge =
        ap (λ (j : Judgement). served (serves_as F v.around.used v.what j.ty) j) same_own
        ∙ ap (λ b. served b (own G v)) (same_serves_as v.around.used v.what (own G v).ty used)

    same_rules_of : (m : ℕ) → m ≡ n → own_rules F v.around m v.what ≡ own_rules G v.around m v.what
    same_rules_of m e =
        ap (λ j. own_rules F v.around j v.what) e ∙ same_own_rules v.around v.what low used
        ∙ ap (λ j. own_rules G v.around j v.what) (sym e)

    pub same_rules : rules_at F v ≡ rules_at G v
    same_rules =
        ap (λ (j : Judgement). (50, not (serves_as F v.around.used v.what j.ty)) ∷ own_rules F v.around v.number v.what) same_own
        ∙ ap (λ b. (50, not b) ∷ own_rules F v.around v.number v.what) (same_serves_as v.around.used v.what (own G v).ty used)
        ∙ ap (λ rs. (50, not (serves_as G v.around.used v.what (own G v).ty)) ∷ rs) (same_rules_of v.number same)

  same_shape_ref : (a : Around) (e : Shape) → Lows n (shape_nodes n a e) → shape_ref F n e ≡ shape_ref G n e
  same_shape_ref a (s.Shape.member b z) h = ap (λ u. member_ref F u z) (same_type k n x y g b (top n (used_as object a) b h))
  same_shape_ref a e h = refl

  pub same_ref_by : (a : Around) (e : What) → Lows n (parts_of n a e) → ref_by F n e ≡ ref_by G n e
  same_ref_by a (expression e) h = same_shape_ref a e h
  same_ref_by a (item i) h = refl
  same_ref_by a (member m) h = refl
  same_ref_by a (parameter p) h = refl
  same_ref_by a (type_name z) h = refl
  same_ref_by a (program is) h = refl
