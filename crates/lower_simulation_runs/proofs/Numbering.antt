-- The numbers of functions, methods and defaults, from those of their nodes.
use Rattle.std.proofs.Common.{◌≡◌, ℕ, zero, suc, ◌<◌, List, [], ◌∷◌, ◌++◌, length, map, Option, Some, None, Bool, true, false, cond, refl}
use Rattle.std.proofs.Common.{sym, ap, ◌∙◌, subst, append_assoc}
use Rattle.std.proofs.Common.{arith}
use Rattle.std.specs.Prelude.{slice_get, ◌==◌}
use Rattle.std.proofs.lemmas.Bool.{eq-eqb, eqb-true}
use Rattle.std.proofs.lemmas.List.{length-map, map-append}
use Rattle.std.proofs.lemmas.Option.{same_Some}
use Rattle.verse_base.proofs.Facts.{get_first, get_mapped, mapped_get}
use Rattle.verse_tree.specs.Tree.{Bytes, Tree}
use Rattle.verse_tree.specs.ItemTree.{FieldTree, FunTree, MemberTree, field, method, ClassTree, ItemTree, using, enumeration, class}
use Rattle.verse_tree.specs.ItemTree.{function}
use Rattle.verse_tree.specs.declared.tables.FunInfo.{FunInfo}
use Rattle.verse_tree.specs.declared.tables.ClassInfo.{ClassInfo}
use Rattle.verse_tree.specs.Sizes.{class_fields}
use Rattle.verse_meaning_state.specs.Waits.{nth}
use Rattle.verse_meaning.specs.Programs.{Program, ref_at, fun_at, fun_of_info, fun_numbered, method_numbered, method_at, or_else}
use Rattle.verse_meaning.specs.Programs.{fields_of}
use Rattle.verse_meaning.specs.Programs.{fields_from, own_fields, parent_of, class_named, same_name}
use Rattle.verse_meaning.specs.Programs as programs
use Rattle.verse_meaning.specs.Forms.{this_name}
use Rattle.verse_meaning.proofs.Names.{or_cond}
use Rattle.lower_code.specs.Scopes.{constant_at}
use Rattle.lower_code.specs.Defaults.{with_default, with_defaults, defaults_in, field_place}
use Rattle.lower_code.specs.Programs.{Body, body_of, methods_in, bodies_in, default_body, default_bodies}
use Rattle.lower_bounds.specs.Programs.{TablesAgree}
use Rattle.lower_simulation_values.proofs.Tables.{Every}
use Rattle.lower_simulation_runs.specs.Programs.{Defined, a_function, a_method, tree_in, number_in, methods_defined, defined_in, Absent}
use Rattle.lower_simulation_runs.specs.Programs.{Distinct}
use Rattle.lower_simulation_runs.specs.Programs.{field_number, NumbersAgree}
use Rattle.lower_simulation_runs.proofs.Placing.{FunctionsPlaced, ClassPlaced, DefaultPlaced, default_of, bodies, at_behind}

-- ---- functions

abbrev body_in : Defined → Body
body_in (a_function f) = body_of [] f
body_in (a_method f) = body_of (constant_at this_name ∷ []) f

methods_are : (ms : List MemberTree) → methods_in ms ≡ map body_in (methods_defined ms)
methods_are [] = refl
methods_are (field f ∷ ms) = methods_are ms
methods_are (method f ∷ ms) = ap (λ bs. body_of (constant_at this_name ∷ []) f ∷ bs) (methods_are ms)

bodies_are : (is : List ItemTree) → bodies_in is ≡ map body_in (defined_in is)
bodies_are [] = refl
bodies_are (using u ∷ is) = bodies_are is
bodies_are (enumeration e ∷ is) = bodies_are is
bodies_are (class c ∷ is) = ap (λ bs. bs ++ bodies_in is) (methods_are c.members) ∙
    ap (λ bs. map body_in (methods_defined c.members) ++ bs) (bodies_are is) ∙
    sym (map-append body_in (methods_defined c.members) (defined_in is))
bodies_are (function f ∷ is) = ap (λ bs. body_of [] f ∷ bs) (bodies_are is)

-- the first of a number
abbrev numbered_in : ℕ → List Defined → Option FunTree
numbered_in n [] = None
numbered_in n (d ∷ ds) = cond (number_in d == n) (Some (tree_in d)) (numbered_in n ds)

numbered_both : (n : ℕ) (xs ys : List Defined) → numbered_in n (xs ++ ys) ≡ or_else (numbered_in n xs) (numbered_in n ys)
numbered_both n [] ys = refl
numbered_both n (x ∷ xs) ys = ap (λ r. cond (number_in x == n) (Some (tree_in x)) r) (numbered_both n xs ys) ∙
    or_cond (number_in x == n) (tree_in x) (numbered_in n xs) (numbered_in n ys)

numbered_method : (n : ℕ) (ms : List MemberTree) → method_numbered n ms ≡ numbered_in n (methods_defined ms)
numbered_method n [] = refl
numbered_method n (field f ∷ ms) = numbered_method n ms
numbered_method n (method f ∷ ms) = ap (λ r. cond (f.number == n) (Some f) r) (numbered_method n ms)

numbered_fun : (n : ℕ) (is : List ItemTree) → fun_numbered n is ≡ numbered_in n (defined_in is)
numbered_fun n [] = refl
numbered_fun n (using u ∷ is) = numbered_fun n is
numbered_fun n (enumeration e ∷ is) = numbered_fun n is
numbered_fun n (class c ∷ is) = ap (λ r. or_else r (fun_numbered n is)) (numbered_method n c.members) ∙
    ap (λ r. or_else (numbered_in n (methods_defined c.members)) r) (numbered_fun n is) ∙
    sym (numbered_both n (methods_defined c.members) (defined_in is))
numbered_fun n (function f ∷ is) = ap (λ r. cond (f.number == n) (Some f) r) (numbered_fun n is)

absent_at : {A : Type 0} (g : A → ℕ) (n : ℕ) (xs : List A) (i : ℕ) (x : A) → Absent n (map g xs) → slice_get xs i ≡ Some x → n ≡ g x → ⊥
absent_at g n [] i x h e q = cc
absent_at g n (y ∷ xs) zero x h e q = h.0 (q ∙ ap g (sym (same_Some _ _ e)))
absent_at g n (y ∷ xs) (suc i) x h e q = absent_at g n xs i x h.1 e q

other : (b : Bool) (n m : ℕ) → (n == m) ≡ b → (n ≡ m → ⊥) → b ≡ false
other true n m e h = absurd (h (eqb-true n m e))
other false n m e h = refl

numbered_at : (ds : List Defined) (i : ℕ) (d : Defined) → Distinct (map number_in ds) → slice_get ds i ≡ Some d →
    numbered_in (number_in d) ds ≡ Some (tree_in d)
numbered_at [] i d h e = cc
numbered_at (x ∷ ds) zero d h e = subst (λ x. numbered_in (number_in d) (x ∷ ds) ≡ Some (tree_in d)) (sym (same_Some _ _ e))
    (ap (λ b. cond b (Some (tree_in d)) (numbered_in (number_in d) ds)) (eq-eqb (number_in d) (number_in d) refl))
numbered_at (x ∷ ds) (suc i) d h e =
    ap (λ b. cond b (Some (tree_in x)) (numbered_in (number_in d) ds))
    (other (number_in x == number_in d) (number_in x) (number_in d) refl (absent_at number_in (number_in x) ds i d h.0 e)) ∙
    numbered_at ds i d h.1 e

-- ---- defaults

-- each has a default
abbrev Have : List FieldTree → Type 0
Have fs = Every (λ (f : FieldTree). (d : Tree) × (f.default ≡ Some d)) fs

every_both : {A : Type 0} (P : A → Type 0) (xs ys : List A) → Every P xs → Every P ys → Every P (xs ++ ys)
every_both P [] ys p q = q
every_both P (x ∷ xs) ys p q = (p.0, every_both P xs ys p.1 q)

one_has : (f : FieldTree) (d : Option Tree) → f.default ≡ d → Have (with_default f d)
one_has f None e = tt
one_has f (Some d) e = ((d, e), tt)

all_have : (fs : List FieldTree) → Have (with_defaults fs)
all_have [] = tt
all_have (f ∷ fs) = every_both _ (with_default f f.default) (with_defaults fs) (one_has f f.default refl) (all_have fs)

defaults_have : (is : List ItemTree) → Have (defaults_in is)
defaults_have [] = tt
defaults_have (using u ∷ is) = defaults_have is
defaults_have (enumeration e ∷ is) = defaults_have is
defaults_have (class c ∷ is) =
    every_both _ (with_defaults (own_fields c.members)) (defaults_in is) (all_have (own_fields c.members)) (defaults_have is)
defaults_have (function f ∷ is) = defaults_have is

-- a field is in a list
pub data Among (f : FieldTree) : List FieldTree → Type 0 where
  among_first : {fs : List FieldTree} → Among f (f ∷ fs)
  among_later : {g : FieldTree} {fs : List FieldTree} → Among f fs → Among f (g ∷ fs)

among_left : {f : FieldTree} {fs : List FieldTree} (gs : List FieldTree) → Among f fs → Among f (fs ++ gs)
among_left gs among_first = among_first
among_left gs (among_later h) = among_later (among_left gs h)

among_right : {f : FieldTree} (fs : List FieldTree) {gs : List FieldTree} → Among f gs → Among f (fs ++ gs)
among_right [] h = h
among_right (x ∷ fs) h = among_later (among_right fs h)

absent_among : {n : ℕ} {f : FieldTree} {fs : List FieldTree} → Absent n (map field_number fs) → Among f fs → n ≡ f.number → ⊥
absent_among h among_first e = h.0 e
absent_among h (among_later i) e = absent_among h.1 i e

one_default : (f : FieldTree) (d : Tree) (fs : List FieldTree) → f.default ≡ Some d →
    default_bodies (f ∷ fs) ≡ default_of d ∷ default_bodies fs
one_default f d fs e = ap (λ x. default_body x ++ default_bodies fs) e

one_more : (xs : List Body) (b : Body) → length (xs ++ (b ∷ [])) ≡ suc (length xs)
one_more [] b = refl
one_more (x ∷ xs) b = ap suc (one_more xs b)

-- the place of a field among these is that of its default among the bodies
field_placed : (f : FieldTree) (fs : List FieldTree) (d : Tree) (before : List Body) (n : ℕ) → length before ≡ n → Have fs →
    Distinct (map field_number fs) → f.default ≡ Some d → Among f fs →
    slice_get (before ++ default_bodies fs) (field_place f.number fs n) ≡ Some (default_of d)
field_placed f [] d before n h have dis e i = elim i [ ]
field_placed f (g ∷ fs) d before n h have dis e among_first =
    ap (λ b. slice_get (before ++ default_bodies (f ∷ fs)) (cond b n (field_place f.number fs (suc n)))) (eq-eqb f.number f.number refl) ∙
    ap (λ bs. slice_get (before ++ bs) n) (one_default f d fs e) ∙ at_behind before (default_bodies fs) (default_of d) n h
field_placed f (g ∷ fs) d before n h have dis e (among_later i) =
    let u = have.0 in
    let same = ap (λ bs. before ++ bs) (one_default g u.0 fs u.1) ∙ sym (append_assoc before (default_of u.0 ∷ []) (default_bodies fs)) in
    ap (λ b. slice_get (before ++ default_bodies (g ∷ fs)) (cond b n (field_place f.number fs (suc n))))
    (other (f.number == g.number) f.number g.number refl (λ q. absent_among dis.0 i (sym q))) ∙
    ap (λ bs. slice_get bs (field_place f.number fs (suc n))) same ∙
    field_placed f fs d (before ++ (default_of u.0 ∷ [])) (suc n) (one_more before (default_of u.0) ∙ ap suc h) have.1 dis.1 e i

-- the fields of classes are among the defaults of the items, where they have one
abbrev Covered : List FieldTree → FieldTree → Type 0
Covered all f = (d : Tree) → f.default ≡ Some d → Among f all

one_covered : (f : FieldTree) (x : Option Tree) (d : Tree) → x ≡ Some d → Among f (with_default f x)
one_covered f None d e = cc
one_covered f (Some u) d e = among_first

own_covered : (fs : List FieldTree) → Every (Covered (with_defaults fs)) fs
own_covered [] = tt
own_covered (f ∷ fs) = (
  (λ d e. among_left (with_defaults fs) (one_covered f f.default d e)),
  every_covered fs (own_covered fs),
)
  where
    every_covered : (gs : List FieldTree) → Every (Covered (with_defaults fs)) gs →
        Every (Covered (with_default f f.default ++ with_defaults fs)) gs
    every_covered [] h = tt
    every_covered (g ∷ gs) h = ((λ d e. among_right (with_default f f.default) (h.0 d e)), every_covered gs h.1)

covered_map : (all more fs : List FieldTree) → ((f : FieldTree) → Among f all → Among f more) → Every (Covered all) fs →
    Every (Covered more) fs
covered_map all more [] k h = tt
covered_map all more (f ∷ fs) k h = ((λ d e. k f (h.0 d e)), covered_map all more fs k h.1)

abbrev ClassCovered : List FieldTree → ClassTree → Type 0
ClassCovered all c = Every (Covered all) (own_fields c.members)

classes_covered : (is : List ItemTree) → Every (ClassCovered (defaults_in is)) (programs.classes is)
classes_covered [] = tt
classes_covered (using u ∷ is) = classes_covered is
classes_covered (enumeration e ∷ is) = classes_covered is
classes_covered (class c ∷ is) =
    let own : List FieldTree = with_defaults (own_fields c.members) in (
      covered_map own (own ++ defaults_in is) (own_fields c.members) (λ f h. among_left (defaults_in is) h)
          (own_covered (own_fields c.members)),
      rest own (programs.classes is) (classes_covered is),
    )
  where
    rest : (own : List FieldTree) (cs : List ClassTree) → Every (ClassCovered (defaults_in is)) cs →
        Every (ClassCovered (own ++ defaults_in is)) cs
    rest own [] h = tt
    rest own (k ∷ cs) h = (
      covered_map (defaults_in is) (own ++ defaults_in is) (own_fields k.members) (λ f h. among_right own h) h.0,
      rest own cs h.1,
    )
classes_covered (function f ∷ is) = classes_covered is

abbrev ThereCovered : List FieldTree → Option ClassTree → Type 0
ThereCovered all None = Unit {0}
ThereCovered all (Some c) = ClassCovered all c

nth_covered : (all : List FieldTree) (cs : List ClassTree) (n : ℕ) → Every (ClassCovered all) cs → ThereCovered all (nth cs n)
nth_covered all [] n h = tt
nth_covered all (c ∷ cs) zero h = h.0
nth_covered all (c ∷ cs) (suc n) h = nth_covered all cs n h.1

named_covered : (all : List FieldTree) (x : Bytes) (cs : List ClassTree) → Every (ClassCovered all) cs →
    ThereCovered all (class_named x cs)
named_covered all x [] h = tt
named_covered all x (c ∷ cs) h = by (same_name x c.name) _ h.0 (named_covered all x cs h.1)
  where
    by : (b : Bool) (r : Option ClassTree) → ClassCovered all c → ThereCovered all r → ThereCovered all (cond b (Some c) r)
    by true r p q = p
    by false r p q = q

parent_covered : (all : List FieldTree) (cs : List ClassTree) (x : Option Bytes) → Every (ClassCovered all) cs →
    ThereCovered all (parent_of cs x)
parent_covered all cs None h = tt
parent_covered all cs (Some x) h = named_covered all x cs h

from_covered : (all : List FieldTree) (cs : List ClassTree) (n : ℕ) (c : Option ClassTree) → Every (ClassCovered all) cs →
    ThereCovered all c → Every (Covered all) (fields_from n cs c)
from_covered all cs n None h k = tt
from_covered all cs zero (Some c) h k = k
from_covered all cs (suc n) (Some c) h k = every_both (Covered all) (fields_from n cs (parent_of cs c.parent)) (own_fields c.members)
    (from_covered all cs n (parent_of cs c.parent) h (parent_covered all cs c.parent h)) k

-- ---- all of them

class_placed : (p : Program) (c : ℕ) (r : Option ClassInfo) → slice_get p.names.classes c ≡ r → class_fields r ≡ length (fields_of p c) →
    c < length p.names.classes → ClassPlaced p c
class_placed p c None e h lt = absurd (none_there p.names.classes c lt e)
  where
    none_there : (xs : List ClassInfo) (c : ℕ) → c < length xs → slice_get xs c ≡ None → ⊥
    none_there [] c lt e = absurd (omega (arith, lt))
    none_there (x ∷ xs) zero lt e = cc
    none_there (x ∷ xs) (suc c) lt e = none_there xs c (omega (arith, lt)) e
class_placed p c (Some k) e h lt = record { info = k; is = e; many = h }

module _ (p : Program) (tables : TablesAgree p) (made : NumbersAgree p) where
  many_functions : length p.names.funs ≡ length (bodies_in p.items)
  many_functions = sym (length-map p.names.funs (λ (f : FunInfo). f.item)) ∙ ap (λ ns. length ns) made.numbers ∙
      length-map (defined_in p.items) number_in ∙ sym (length-map (defined_in p.items) body_in) ∙
      ap (λ bs. length bs) (sym (bodies_are p.items))

  found : (f : ℕ) (d : Defined) → slice_get (defined_in p.items) f ≡ Some d → fun_at p f ≡ Some (tree_in d)
  found f d h =
      let r = mapped_get (λ (f : FunInfo). f.item) p.names.funs f (number_in d)
      (ap (λ ns. slice_get ns f) made.numbers ∙ get_mapped number_in (defined_in p.items) f d h) in
      ap (λ x. fun_of_info p.items x) r.1 ∙ ap (λ n. fun_numbered n p.items) r.2 ∙ numbered_fun (number_in d) p.items ∙
      numbered_at (defined_in p.items) f d made.distinct h

  placed : (f : ℕ) (d : Defined) → slice_get (defined_in p.items) f ≡ Some d → slice_get (bodies p) f ≡ Some (body_in d)
  placed f d h = get_first (bodies_in p.items) (default_bodies (defaults_in p.items)) f (body_in d)
      (ap (λ bs. slice_get bs f) (bodies_are p.items) ∙ get_mapped body_in (defined_in p.items) f d h)

  default_placed : (f : FieldTree) → Covered (defaults_in p.items) f → DefaultPlaced p f
  default_placed f h d e = field_placed f (defaults_in p.items) d (bodies_in p.items) (length p.names.funs) (sym many_functions)
      (defaults_have p.items) made.fields e
      (h d e)

  every_placed : (fs : List FieldTree) → Every (Covered (defaults_in p.items)) fs → Every (DefaultPlaced p) fs
  every_placed [] h = tt
  every_placed (f ∷ fs) h = (default_placed f h.0, every_placed fs h.1)

  pub functions_placed : FunctionsPlaced p
  functions_placed = record {
    functions = λ n f fn h e.
        let r = made.functions n f h in
        placed f (a_function r.0) r.1 ∙
        ap (λ (fn : FunTree). Some (body_of [] fn)) (same_Some _ _ (sym (found f (a_function r.0) r.1) ∙ e));
    methods = λ c m f h. let r = made.methods c m f h in
        record { function = r.0; is = found f (a_method r.0) r.1; placed = placed f (a_method r.0) r.1 };
    classes = λ n c h. class_placed p c (slice_get p.names.classes c) refl (tables.fields c) (tables.refs n c h);
    defaults = λ n c h. every_placed (fields_of p c) (from_covered (defaults_in p.items) (programs.classes p.items)
        (length (programs.classes p.items)) (nth (programs.classes p.items) c) (classes_covered p.items)
        (nth_covered (defaults_in p.items) (programs.classes p.items) c (classes_covered p.items)));
  }
