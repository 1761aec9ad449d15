-- Names are only added behind those that are visible, so to keep as many as there were is to have those that there were.
use Rattle.std.proofs.Common.{◌≡◌, Bool, true, false, bytes_eq, [], ◌∷◌, ◌++◌, length, take, Option, refl, ap, sym, ◌∙◌, append_assoc}
use Rattle.std.specs.Prelude.{Some, None}
use Rattle.verse_tree.specs.Tree.{Bytes}
use Rattle.verse_tree.specs.declared.tables.Ref.{Ref}
use Rattle.verse_names_tables.specs.Names.{Table, look, put}
use Rattle.verse_names_scopes.specs.Visible.{World, visible, visible_throughout, either, with_name, with_local}
use Rattle.verse_names_scopes.specs.Subjects.{Subject, quiet, type_name, this, used, instance, defined, both_defined, locals_behind}

pub record Grown (s u : Table) : Type 0 where
  pub more : Table
  pub is : u ≡ s ++ more

append_nil : (s : Table) → s ++ [] ≡ s
append_nil [] = refl
append_nil (e ∷ s) = ap (λ l. e ∷ l) (append_nil s)

pub grown_none : (s : Table) → Grown s s
grown_none s = record { more = []; is = sym (append_nil s) }

pub grown_on : (s u v : Table) → Grown s u → Grown u v → Grown s v
grown_on s u v g h = record { more = g.more ++ h.more; is = h.is ∙ ap (λ l. l ++ h.more) g.is ∙ append_assoc s g.more h.more }

grown_name : (x : Bytes) (r : Ref) (o : Option Ref) (s : Table) → Grown s (with_name x r o s)
grown_name x r None s = record { more = (x, r) ∷ []; is = refl }
grown_name x r (Some q) s = grown_none s

grown_local : (w : World) (x : Bytes) (r : Ref) (s : Table) → Grown s (with_local w x r s)
grown_local w x r s = grown_name x r (visible w s x) s

pub grown_behind : (w : World) (u : Subject) (s : Table) → Grown s (locals_behind w u s)
grown_behind w (defined x r) s = grown_local w x r s
grown_behind w (both_defined x r y q) s = grown_on s (with_local w x r s) _ (grown_local w x r s) (grown_local w y q (with_local w x r s))
grown_behind w quiet s = grown_none s
grown_behind w (type_name b x) s = grown_none s
grown_behind w this s = grown_none s
grown_behind w (used x) s = grown_none s
grown_behind w (instance x gs) s = grown_none s

take_front : (s u : Table) → take (length s) (s ++ u) ≡ s
take_front [] u = refl
take_front (e ∷ s) u = ap (λ l. e ∷ l) (take_front s u)

pub take_grown : (s u : Table) → Grown s u → take (length s) u ≡ s
take_grown s u g = ap (take (length s)) g.is ∙ take_front s g.more

-- a name that is not there goes last
pub put_last : (x : Bytes) (r : Ref) (s : Table) → look x s ≡ None → put x r s ≡ s ++ (x, r) ∷ []
put_last x r [] h = refl
put_last x r (e ∷ s) h = by (bytes_eq x e.0) refl (put_last x r s)
  where
    by : (b : Bool) → bytes_eq x e.0 ≡ b → (look x s ≡ None → put x r s ≡ s ++ (x, r) ∷ []) → put x r (e ∷ s) ≡ (e ∷ s) ++ (x, r) ∷ []
    by true p rest = let k = rw p at h in cc
    by false p rest = let k : look x s ≡ None = rw p at h in rw p (ap (λ l. e ∷ l) (rest k))

first_absent : (o p : Option Ref) → either o p ≡ None → o ≡ None
first_absent None p h = refl
first_absent (Some r) p h = h

-- a name that is not visible is defined behind the others
pub put_local : (w : World) (x : Bytes) (r : Ref) (s : Table) → visible w s x ≡ None → put x r s ≡ with_local w x r s
put_local w x r s h = put_last x r s (first_absent (look x s) (visible_throughout w x) h) ∙ ap (λ o. with_name x r o s) (sym h)
