-- What members behind a dot refer to is no function and no class; so all that nodes refer to is there.
use Rattle.std.proofs.Common.{◌≡◌, ℕ, zero, suc, List, [], ◌∷◌, ◌++◌, subst}
use Rattle.std.specs.Prelude.{Option, Some, None, slice_get}
use Rattle.verse_tree.specs.Tree.{Bytes, Shape}
use Rattle.verse_tree.specs.Tree as t
use Rattle.verse_tree.specs.ItemTree.{ItemTree}
use Rattle.verse_tree.specs.PostOrder.{What, program, item, member, parameter, type_name, expression}
use Rattle.verse_tree.specs.declared.tables.Ref.{Ref}
use Rattle.verse_rules_types.specs.Types.{Ty, Tys}
use Rattle.verse_rules_types.specs.Types as ty
use Rattle.verse_rules_least.specs.Least.{each}
use Rattle.verse_rules_walk.specs.Nodes.{Node, items_nodes}
use Rattle.verse_check_typing.specs.Refs.{referred}
use Rattle.verse_check_typing.specs.Facts.{World, Facts, named_ref, type_of}
use Rattle.verse_check_typing.specs.Members.{member_at, field_by, method_by, member_ref}
use Rattle.verse_check_typing.specs.Steps.{Sight, facts, step, begun, shape_ref, ref_by}
use Rattle.verse_rules.specs.Sound.{completed}
use Rattle.verse_meaning.specs.Programs as programs
use Rattle.lower_bounds.proofs.Lists.{Each}
use Rattle.verse_accept_tables.proofs.Standing.{Stands, IsThere}
use Rattle.verse_accept_tables.proofs.Referring.{named_there}

module _ (all : List ItemTree) where
  abbrev pub AllThere : List (Option Ref) → Type 0
  AllThere rs = Each (λ (o : Option Ref). Stands (IsThere all) o) rs

  found_there : (rs : List (Option Ref)) (n : ℕ) → AllThere rs → Stands (IsThere all) (referred (slice_get rs n))
  found_there [] n h = tt
  found_there (r ∷ rs) zero h = h.0
  found_there (r ∷ rs) (suc n) h = found_there rs n h.1

  at_there : (c : ℕ) (i m : Option ℕ) → Stands (IsThere all) (member_at c i m)
  at_there c (Some i) m = tt
  at_there c None (Some m) = tt
  at_there c None None = tt

  member_there : (f : Facts) (u : Ty) (x : Bytes) → Stands (IsThere all) (member_ref f u x)
  member_there f (ty.Ty.class c) x = at_there c (field_by f c x) (method_by f c x)
  member_there f u x = tt

  shape_there : (f : Facts) (n : ℕ) (e : Shape) → Stands (IsThere all) (named_ref f n) → Stands (IsThere all) (shape_ref f n e)
  shape_there f n (t.Shape.member a x) h = member_there f (type_of f a) x
  shape_there f n e h = h

  what_there : (f : Facts) (n : ℕ) (w : What) → Stands (IsThere all) (named_ref f n) → Stands (IsThere all) (ref_by f n w)
  what_there f n (expression e) h = shape_there f n e h
  what_there f n (item i) h = h
  what_there f n (member m) h = h
  what_there f n (parameter p) h = h
  what_there f n (type_name x) h = h
  what_there f n (program is) h = h

  one_more : (rs : List (Option Ref)) (r : Option Ref) → AllThere rs → Stands (IsThere all) r → AllThere (rs ++ r ∷ [])
  one_more [] r h k = (k, tt)
  one_more (q ∷ rs) r h k = (h.0, one_more rs r h.1 k)

  step_there : (k : World) (v : Node) (x : Sight) → AllThere k.names.refs → AllThere x.refs → AllThere (step k v x).refs
  unfolding step
  step_there k v x h g = one_more x.refs _ g (what_there (facts k x) v.number v.what (found_there k.names.refs v.number h))

  each_there : (k : World) (vs : List Node) (x : Sight) → AllThere k.names.refs → AllThere x.refs → AllThere (each (step k) vs x).refs
  each_there k [] x h g = g
  each_there k (v ∷ vs) x h g = each_there k vs (step k v x) h (step_there k v x h g)

  pub ref_there : (rs : List (Option Ref)) (n : ℕ) (r : Ref) → AllThere rs → programs.known (slice_get rs n) ≡ Some r → IsThere all r
  ref_there [] n r h e = cc
  ref_there (o ∷ rs) zero r h e = subst (Stands (IsThere all)) e h.0
  ref_there (o ∷ rs) (suc n) r h e = ref_there rs n r h.1 e

pub all_there : (is : List ItemTree) → AllThere is (completed is).refs
all_there is = each_there is _ (items_nodes is) begun (named_there is) tt
