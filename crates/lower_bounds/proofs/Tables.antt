-- What the code names by number is there: functions that are called, defaults of fields, classes of instances.
use Rattle.std.proofs.Common.{◌≡◌, ℕ, zero, suc, ◌+◌, ◌<◌, ◌==◌, ◌⊎◌, List, [], ◌∷◌, ◌++◌, length, Bool, true, false, cond, Option, Some}
use Rattle.std.proofs.Common.{None, refl, sym, ap}
use Rattle.std.proofs.Common.{arith, slice_get, inl, inr, true≢false, eq-eqb}
use Rattle.std.proofs.lemmas.Option.{slice_get_within, none-some}
use Rattle.verse_tree.specs.Tree.{Bytes, Tree}
use Rattle.verse_tree.specs.ItemTree.{FieldTree, ClassTree, ItemTree, using, enumeration, class, function}
use Rattle.verse_tree.specs.declared.tables.FunInfo.{FunInfo}
use Rattle.verse_tree.specs.declared.tables.Ref.{Ref}
use Rattle.verse_tree.specs.declared.tables.Ref.TheVariants as ref
use Rattle.verse_meaning_state.specs.Waits.{nth}
use Rattle.verse_meaning.specs.Programs.{Program, fun_of_info, fun_at, classes, own_fields, fields_from, fields_of, parent_of}
use Rattle.verse_meaning.specs.Programs.{class_named, same_name}
use Rattle.verse_meaning.specs.Evaluating.{class_ref}
use Rattle.lower_code.specs.Defaults.{with_default, with_defaults, defaults_in, field_place, default_number}
use Rattle.lower_code.specs.Lowering.{takes_params}
use Rattle.lower_bounds.proofs.Lists.{Each, each_joined}

-- a function that takes arguments is one of the table
called_is : (p : Program) (differ : ℕ → ℕ → Bool) (i : Option FunInfo) (n : ℕ) → takes_params p differ (fun_of_info p.items i) n ≡ true →
    (x : FunInfo) × (i ≡ Some x)
called_is p differ None n e = elim (true≢false (sym e)) [ ]
called_is p differ (Some x) n e = (x, refl)

pub called_within : (p : Program) (differ : ℕ → ℕ → Bool) (f n : ℕ) → takes_params p differ (fun_at p f) n ≡ true →
    f < length p.names.funs
called_within p differ f n e =
    let x = called_is p differ (slice_get p.names.funs f) n e in
    slice_get_within p.names.funs f x.0 x.1

abbrev class_again : Option ℕ → Option Ref
class_again None = None
class_again (Some c) = Some (ref.Class c)

pub class_is : (p : Program) (r : Option Ref) (c : ℕ) → class_ref p r ≡ Some c → r ≡ Some (ref.Class c)
class_is p (Some (ref.Class d)) c e = ap class_again e
class_is p r c e = elim (none-some c e) [ ]

-- one of the fields has the number x
abbrev pub Numbered : ℕ → List FieldTree → Type 0
Numbered x [] = ⊥
Numbered x (f ∷ fs) = (x ≡ f.number) ⊎ Numbered x fs

placed_from : (x : ℕ) (f : FieldTree) (fs : List FieldTree) (n : ℕ) → x ≡ f.number → cond (x == f.number) n (field_place x fs (suc n)) ≡ n
placed_from x f fs n e = ap (λ b. cond b n (field_place x fs (suc n))) (eq-eqb x f.number e)

cond_below : (b : Bool) (m n end : ℕ) → m < end → n < end → cond b m n < end
cond_below true m n end g h = g
cond_below false m n end g h = h

pub place_within : (x : ℕ) (fs : List FieldTree) (n : ℕ) → Numbered x fs → field_place x fs n < n + length fs
place_within x [] n h = elim h [ ]
place_within x (f ∷ fs) n (inl e) = omega (arith, placed_from x f fs n e)
place_within x (f ∷ fs) n (inr h) = cond_below (x == f.number) n (field_place x fs (suc n)) (n + length (f ∷ fs)) (omega arith)
    (omega (arith, place_within x fs (suc n) h))

numbered_first : (x : ℕ) (fs gs : List FieldTree) → Numbered x fs → Numbered x (fs ++ gs)
numbered_first x [] gs h = elim h [ ]
numbered_first x (f ∷ fs) gs (inl e) = inl e
numbered_first x (f ∷ fs) gs (inr h) = inr (numbered_first x fs gs h)

numbered_rest : (x : ℕ) (fs gs : List FieldTree) → Numbered x gs → Numbered x (fs ++ gs)
numbered_rest x [] gs h = h
numbered_rest x (f ∷ fs) gs h = inr (numbered_rest x fs gs h)

-- a field that has a default is among the fields ds
abbrev pub IsAmong : List FieldTree → FieldTree → Type 0
IsAmong ds f = (a : Tree) → f.default ≡ Some a → Numbered f.number ds

with_default_has : (f : FieldTree) (d : Option Tree) (a : Tree) → d ≡ Some a → Numbered f.number (with_default f d)
with_default_has f None a e = elim (none-some a e) [ ]
with_default_has f (Some b) a e = inl refl

own_among : (ds fs : List FieldTree) → ((x : ℕ) → Numbered x (with_defaults fs) → Numbered x ds) → Each (IsAmong ds) fs
own_among ds [] into = tt
own_among ds (f ∷ fs) into = (
  λ a e. into f.number (numbered_first f.number (with_default f f.default) (with_defaults fs) (with_default_has f f.default a e)),
  own_among ds fs (λ x h. into x (numbered_rest x (with_default f f.default) (with_defaults fs) h)),
)

abbrev OwnAmong : List FieldTree → ClassTree → Type 0
OwnAmong ds c = Each (IsAmong ds) (own_fields c.members)

classes_among : (ds : List FieldTree) (is : List ItemTree) → ((x : ℕ) → Numbered x (defaults_in is) → Numbered x ds) → Each (OwnAmong ds)
    (classes is)
classes_among ds [] into = tt
classes_among ds (using u ∷ is) into = classes_among ds is into
classes_among ds (enumeration e ∷ is) into = classes_among ds is into
classes_among ds (function f ∷ is) into = classes_among ds is into
classes_among ds (class c ∷ is) into = (
  own_among ds (own_fields c.members) (λ x h. into x (numbered_first x (with_defaults (own_fields c.members)) (defaults_in is) h)),
  classes_among ds is (λ x h. into x (numbered_rest x (with_defaults (own_fields c.members)) (defaults_in is) h)),
)

-- of a class that may be there
abbrev IfThere : (ClassTree → Type 0) → Option ClassTree → Type 0
IfThere P None = Unit {0}
IfThere P (Some c) = P c

nth_there : (P : ClassTree → Type 0) (cs : List ClassTree) (n : ℕ) → Each P cs → IfThere P (nth cs n)
nth_there P [] n h = tt
nth_there P (c ∷ cs) zero h = h.0
nth_there P (c ∷ cs) (suc n) h = nth_there P cs n h.1

cond_there : (P : ClassTree → Type 0) (b : Bool) (o r : Option ClassTree) → IfThere P o → IfThere P r → IfThere P (cond b o r)
cond_there P true o r h k = h
cond_there P false o r h k = k

named_there : (P : ClassTree → Type 0) (x : Bytes) (cs : List ClassTree) → Each P cs → IfThere P (class_named x cs)
named_there P x [] h = tt
named_there P x (c ∷ cs) h = cond_there P (same_name x c.name) (Some c) (class_named x cs) h.0 (named_there P x cs h.1)

parent_there : (P : ClassTree → Type 0) (cs : List ClassTree) (x : Option Bytes) → Each P cs → IfThere P (parent_of cs x)
parent_there P cs None h = tt
parent_there P cs (Some x) h = named_there P x cs h

fields_among : (ds : List FieldTree) (n : ℕ) (cs : List ClassTree) (c : Option ClassTree) → Each (OwnAmong ds) cs → IfThere
    (OwnAmong ds) c →
    Each (IsAmong ds) (fields_from n cs c)
fields_among ds n cs None h k = tt
fields_among ds zero cs (Some c) h k = k
fields_among ds (suc n) cs (Some c) h k = each_joined (IsAmong ds) (fields_from n cs (parent_of cs c.parent)) (own_fields c.members)
    (fields_among ds n cs (parent_of cs c.parent) h (parent_there (OwnAmong ds) cs c.parent h)) k

-- every field of a class that has a default has its function
pub fields_have : (p : Program) (c : ℕ) → Each (IsAmong (defaults_in p.items)) (fields_of p c)
fields_have p c =
    let h = classes_among (defaults_in p.items) p.items (λ x n. n) in
    fields_among (defaults_in p.items) (length (classes p.items)) (classes p.items) (nth (classes p.items) c) h
    (nth_there (OwnAmong (defaults_in p.items)) (classes p.items) c h)

pub default_within : (p : Program) (x : ℕ) → Numbered x (defaults_in p.items) → default_number p x < length p.names.funs + length
    (defaults_in p.items)
default_within p x h = place_within x (defaults_in p.items) (length p.names.funs) h
