-- Only the names of Floor and Ceil take a quotient: other callees are none of them.
use Rattle.std.proofs.Common.{◌≡◌, ℕ, zero, suc, Bool, true, false, not, cond, nat_eq, List, Option, refl, sym, ap, ◌∙◌, subst, arith}
use Rattle.std.proofs.lemmas.Bool.{not-false}
use Rattle.std.specs.Prelude.{Some, None, slice_get}
use Rattle.verse_base.specs.declared.places.Place.{Place}
use Rattle.verse_base.proofs.Facts.{nat_eq_not}
use Rattle.verse_tree.specs.Tree.{Bytes, Tree, tree, Shape, Trees}
use Rattle.verse_tree.specs.Tree as t
use Rattle.verse_tree.specs.ItemTree.{ItemTree}
use Rattle.verse_tree.specs.declared.tables.Ref.{Ref}
use Rattle.verse_tree.specs.declared.tables.Ref.TheVariants as ref
use Rattle.verse_rules_types.specs.Types.{Ty}
use Rattle.verse_rules_types.specs.Types as ty
use Rattle.verse_rules_walk.specs.Around.{Used, free, callee, object, argument, value, target, base, spawned, Around, indexed_use}
use Rattle.verse_rules_walk.specs.Nodes.{number_of_tree}
use Rattle.verse_names_tables.specs.Names.{Table}
use Rattle.verse_names_scopes.specs.Visible.{World}
use Rattle.verse_names_scopes.specs.Subjects.{this_ref}
use Rattle.verse_check_typing.specs.Refs as refs
use Rattle.verse_check_typing.specs.Facts.{Facts, type_of, named_ref}
use Rattle.verse_check_typing.specs.Members.{member_at, member_ref, field_by, method_by}
use Rattle.verse_check_typing.specs.declared.builtins.Builtin.TheVariants as b
use Rattle.verse_check_typing.specs.TypeRules.{is_round, is_rounded, is_round_builtin, is_class, is_variable, can_be_set}
use Rattle.verse_effects.specs.Forms.{is_on_path, is_spawned}
use Rattle.verse_meaning.specs.Residuals.{Form}
use Rattle.verse_meaning.specs.Evaluating.{Callee, alone, of_object, of_value, of_quotient, no_callee, named_callee, builtin, callee_of}
use Rattle.verse_accept_rows.specs.Found.{final, Found}
use Rattle.verse_accept_scopes.specs.Holding.{OnPart}
use Rattle.verse_accept_fine.specs.Sorted.{At, program}
use Rattle.verse_accept_fine.proofs.Base.{types, same_known}
use Rattle.verse_accept_trees.proofs.Nodes.{no, IsForm}

abbrev pub NoQuotient : Callee → Type 0
NoQuotient (of_quotient f) = ⊥
NoQuotient k = Unit {0}

round_by : (x y z u : Bool) → y ≡ false → z ≡ false →
    is_round_builtin (cond x (Some b.Print) (cond y (Some b.Round) (cond z (Some b.Round) (cond u (Some b.Modulo) None)))) ≡ false
round_by true y z u e f = refl
round_by false false false true e f = refl
round_by false false false false e f = refl
round_by false true z u e f = cc
round_by false false true u e f = cc

low_builtin : (n : ℕ) → is_round (Some (ref.Builtin (suc (suc (suc n))))) ≡ false
low_builtin n =
    let i = suc (suc (suc n)) in
    round_by (nat_eq i 0) (nat_eq i 1) (nat_eq i 2) (nat_eq i 3) (nat_eq_not i 1 (λ e. omega (arith, e)))
    (nat_eq_not i 2 (λ e. omega (arith, e)))

builtin_rounds : (i : ℕ) (pl : Place) (k : Callee) → builtin i pl ≡ k → NoQuotient k → is_round (Some (ref.Builtin i)) ≡ false
builtin_rounds zero pl k e h = refl
builtin_rounds (suc zero) pl k e h = absurd (subst NoQuotient (sym e) h)
builtin_rounds (suc (suc zero)) pl k e h = absurd (subst NoQuotient (sym e) h)
builtin_rounds (suc (suc (suc n))) pl k e h = low_builtin n

named_rounds : (r : Option Ref) (y : Form) (pl : Place) (k : Callee) → named_callee r y pl ≡ k → NoQuotient k → is_round r ≡ false
named_rounds None y pl k e h = refl
named_rounds (Some (ref.Builtin i)) y pl k e h = builtin_rounds i pl k e h
named_rounds (Some r) y pl k e h = refl

this_rounds : (o : Option ℕ) → is_round (this_ref o) ≡ false
this_rounds None = refl
this_rounds (Some c) = refl

class_rounds : (r : Option Ref) → is_class r ≡ true → is_round r ≡ false
class_rounds None h = no h
class_rounds (Some (ref.Class c)) h = refl
class_rounds (Some r) h = no h

variable_rounds : (f : Facts) (r : Option Ref) → is_variable f r ≡ true → is_round r ≡ false
variable_rounds f None h = no h
variable_rounds f (Some (ref.Local m)) h = refl
variable_rounds f (Some (ref.Field c i)) h = refl
variable_rounds f (Some r) h = no h

at_rounds : (c : ℕ) (i m : Option ℕ) → is_round (member_at c i m) ≡ false
at_rounds c (Some i) m = refl
at_rounds c None (Some m) = refl
at_rounds c None None = refl

member_rounds : (f : Facts) (u : Ty) (x : Bytes) → is_round (member_ref f u x) ≡ false
member_rounds f (ty.class c) x = at_rounds c (field_by f c x) (method_by f c x)
member_rounds f u x = refl

-- ---- how what is indexed is used

module _ (is : List ItemTree) where
  pub indexed_rounds : (u : Used) → is_rounded (final is) (indexed_use u) ≡ false
  indexed_rounds free = refl
  indexed_rounds callee = refl
  indexed_rounds object = refl
  indexed_rounds (argument f i) = refl
  indexed_rounds (value v) = refl
  indexed_rounds target = refl
  indexed_rounds base = refl
  indexed_rounds spawned = refl

pub indexed_starts : (u : Used) → is_spawned (indexed_use u) ≡ false
indexed_starts free = refl
indexed_starts callee = refl
indexed_starts object = refl
indexed_starts (argument f i) = refl
indexed_starts (value v) = refl
indexed_starts target = refl
indexed_starts base = refl
indexed_starts spawned = refl

pub indexed_path : (u : Used) → is_on_path u ≡ false → is_on_path (indexed_use u) ≡ false
indexed_path free h = refl
indexed_path callee h = refl
indexed_path object h = refl
indexed_path (argument f i) h = refl
indexed_path (value v) h = refl
indexed_path target h = h
indexed_path base h = h
indexed_path spawned h = refl

-- ---- callees and targets

module _ (is : List ItemTree) (arrays events : ℕ → Bool) (w : World) (a : Around) (xs : Table) where
  abbrev refs_of : ℕ → Option Ref
  refs_of n = refs.ref_at (final is).refs n

  -- a callee that is neither Floor nor Ceil
  pub callee_rounds : (n : ℕ) (d : Tree) (y : Form) (pl : Place) (k : Callee) → OnPart (Found is) w n a xs d →
      ((m : ℕ) (p : Place) (s : Shape) → d ≡ tree m p s → IsForm s) → callee_of (program is arrays events) d y pl ≡ k → NoQuotient k →
      is_round (refs_of (number_of_tree d)) ≡ false
  callee_rounds n (tree m p (t.Shape.name x)) y pl k h f e q =
      named_rounds (refs_of m) y pl k (ap (λ o. named_callee o y pl) (sym (same_known (slice_get (final is).refs m))) ∙ e) q
  callee_rounds n (tree m p (t.Shape.member d x)) y pl k h f e q =
      ap is_round h.2.ref ∙ member_rounds (final is) (type_of (final is) d) x
  callee_rounds n (tree m p t.Shape.this) y pl k h f e q = ap is_round (h.2.ref ∙ h.2.named) ∙ this_rounds w.class
  callee_rounds n (tree m p (t.Shape.instance x gs)) y pl k h f e q =
      ap is_round h.2.ref ∙ class_rounds (named_ref (final is) m)
      (not-false _ (types is w a xs m p (t.Shape.instance x gs) h.2).callable)
  callee_rounds n (tree m p (t.Shape.enum_pattern x v)) y pl k h f e q = absurd (f m p (t.Shape.enum_pattern x v) refl)
  callee_rounds n (tree m p s) y pl k h f e q = ap is_round (h.2.ref ∙ h.2.named)

  -- nor is what is set
  pub target_rounds : (n : ℕ) (d : Tree) → OnPart (Found is) w n a xs d → can_be_set (final is) d ≡ true →
      is_round (refs_of (number_of_tree d)) ≡ false
  target_rounds n (tree m p (t.Shape.name x)) h e = variable_rounds (final is) (refs_of m) e
  target_rounds n (tree m p (t.Shape.member d x)) h e = variable_rounds (final is) (refs_of m) e
  target_rounds n (tree m p (t.Shape.index d ts)) h e = ap is_round (h.2.ref ∙ h.2.named)
  target_rounds n (tree m p s) h e = no e
