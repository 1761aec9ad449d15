-- Where functions, methods and defaults stand among the bodies of a program; and the tables of its code.
use Rattle.std.proofs.Common.{◌≡◌, ℕ, zero, suc, ◌+◌, List, [], ◌∷◌, ◌++◌, length, map, Option, Some, None, Bool, true, false, cond, refl}
use Rattle.std.proofs.Common.{sym, ap, ◌∙◌, subst, arith, append_assoc, length-append}
use Rattle.std.specs.Prelude.{slice_get}
use Rattle.std.proofs.lemmas.Option.{same_Some}
use Rattle.verse_tree.specs.Tree.{Tree}
use Rattle.verse_tree.specs.ItemTree.{FieldTree, FunTree, ParamTree, ItemTree, using, enumeration, class, function}
use Rattle.verse_tree.specs.declared.tables.ClassInfo.{ClassInfo}
use Rattle.verse_tree.specs.declared.tables.Ref.TheVariants as ref
use Rattle.verse_code.specs.declared.codes.Func.{Func}
use Rattle.verse_value.specs.Val.{Val}
use Rattle.verse_meaning.specs.Programs.{Program, ref_at, fun_at, method_at, fields_of, main_in, main_name, same_name}
use Rattle.verse_meaning.specs.Forms.{this_name}
use Rattle.lower_code.specs.Scopes.{constant_at, Scope as Names}
use Rattle.lower_code.specs.Defaults.{default_number, defaults_in}
use Rattle.lower_code.specs.Programs.{Body, body_of, params_scope, methods_in, bodies_in, default_bodies, all_bodies, main_from, class_of}
use Rattle.lower_simulation.proofs.Claims.{Setting}
use Rattle.lower_simulation_values.proofs.Tables.{Every, Is_class, Called_as, There}
use Rattle.lower_simulation_values.proofs.Tables.{Default_there, Tables}
use Rattle.lower_simulation_runs.proofs.Binding.{object_scope, params_many}
use Rattle.lower_simulation_runs.proofs.Standings.{Stood, setting, function_stands}

-- the default of a field, as a function
abbrev pub default_of : Tree → Body
default_of d = record { scope = []; body = d; suspends = false }

-- the functions of a program and the defaults of its fields, in the order of their numbers
abbrev pub bodies : Program → List Body
bodies p = all_bodies p.items

-- the number f is that of a method, which stands at its place among the functions
pub record MethodPlaced (p : Program) (f : ℕ) : Type 0 where
  pub function : FunTree
  pub is : fun_at p f ≡ Some function
  pub placed : slice_get (bodies p) f ≡ Some (body_of (constant_at this_name ∷ []) function)

abbrev pub DefaultPlaced : Program → FieldTree → Type 0
DefaultPlaced p f = (d : Tree) → f.default ≡ Some d → slice_get (bodies p) (default_number p f.number) ≡ Some (default_of d)

-- an entry of the table of classes, with as many fields as the class has
pub record ClassPlaced (p : Program) (c : ℕ) : Type 0 where
  pub info : ClassInfo
  pub is : slice_get p.names.classes c ≡ Some info
  pub many : length info.fields ≡ length (fields_of p c)

-- each function, method and default stands at the place of its number
pub record FunctionsPlaced (p : Program) : Type 0 where
  -- what a name stands for as a function is one, at the place of its number
  pub functions : (n f : ℕ) (fn : FunTree) → ref_at p n ≡ Some (ref.Fun f) → fun_at p f ≡ Some fn →
      slice_get (bodies p) f ≡ Some (body_of [] fn)
  -- each entry of the methods of a class is the number of a method
  pub methods : (c m f : ℕ) → method_at p c m ≡ Some f → MethodPlaced p f
  -- what a name stands for as a class is one
  pub classes : (n c : ℕ) → ref_at p n ≡ Some (ref.Class c) → ClassPlaced p c
  -- each default of such a class stands behind all functions
  pub defaults : (n c : ℕ) → ref_at p n ≡ Some (ref.Class c) → Every (DefaultPlaced p) (fields_of p c)

pub every_map : {A : Type 0} (P Q : A → Type 0) (xs : List A) → ((x : A) → P x → Q x) → Every P xs → Every Q xs
every_map P Q [] f h = tt
every_map P Q (x ∷ xs) f h = (f x h.0, every_map P Q xs f h.1)

pub every_at : {A : Type 0} (P : A → Type 0) (xs : List A) (i : ℕ) (x : A) → slice_get xs i ≡ Some x → Every P xs → P x
every_at P [] i x e h = cc
every_at P (y ∷ xs) zero x e h = subst P (same_Some _ _ e) h.0
every_at P (y ∷ xs) (suc i) x e h = every_at P xs i x e h.1

-- ---- Main

pub at_behind : {A : Type 0} (xs ys : List A) (y : A) (n : ℕ) → length xs ≡ n → slice_get (xs ++ (y ∷ ys)) n ≡ Some y
at_behind [] ys y zero h = refl
at_behind [] ys y (suc n) h = absurd (omega (arith, h))
at_behind (x ∷ xs) ys y zero h = absurd (omega (arith, h))
at_behind (x ∷ xs) ys y (suc n) h = at_behind xs ys y n (omega (arith, h))

main_placed : (is : List ItemTree) (before behind : List Body) (n : ℕ) (fn : FunTree) → length before ≡ n → main_in is ≡ Some fn →
    slice_get (before ++ (bodies_in is ++ behind)) (main_from n is) ≡ Some (body_of [] fn)
main_placed [] before behind n fn h e = cc
main_placed (using u ∷ is) before behind n fn h e = main_placed is before behind n fn h e
main_placed (enumeration u ∷ is) before behind n fn h e = main_placed is before behind n fn h e
main_placed (class c ∷ is) before behind n fn h e =
    let ms : List Body = methods_in c.members in
    let m = length-append before ms in
    subst (λ bs. slice_get bs (main_from (n + length ms) is) ≡ Some (body_of [] fn))
    (append_assoc before ms (bodies_in is ++ behind) ∙ ap (λ bs. before ++ bs) (sym (append_assoc ms (bodies_in is) behind)))
    (main_placed is (before ++ ms) behind (n + length ms) fn (omega (arith, m, h)) e)
main_placed (function f ∷ is) before behind n fn h e = by_name (same_name f.name main_name) _ (main_from (suc n) is) e
    (at_behind before (bodies_in is ++ behind) (body_of [] f) n h) (λ e.
    let m = length-append before (body_of [] f ∷ []) in
    subst (λ bs. slice_get bs (main_from (suc n) is) ≡ Some (body_of [] fn))
    (append_assoc before (body_of [] f ∷ []) (bodies_in is ++ behind))
    (main_placed is (before ++ (body_of [] f ∷ [])) behind (suc n) fn (omega (arith, m, h)) e))
  where
    by_name : (t : Bool) (all : List Body) (m : ℕ) {r : Option FunTree} → cond t (Some f) r ≡ Some fn →
        slice_get all n ≡ Some (body_of [] f) → (r ≡ Some fn → slice_get all m ≡ Some (body_of [] fn)) →
        slice_get all (cond t n m) ≡ Some (body_of [] fn)
    by_name true all m e here later = here ∙ ap (λ (f : FunTree). Some (body_of [] f)) (same_Some _ _ e)
    by_name false all m e here later = later e

pub main_stands : (p : Program) (fn : FunTree) → main_in p.items ≡ Some fn →
    slice_get (bodies p) (main_from 0 p.items) ≡ Some (body_of [] fn)
main_stands p fn h = main_placed p.items [] (default_bodies (defaults_in p.items)) 0 fn refl h

-- ---- the code of a program

-- the first names of a function, or of a method
abbrev pub names_of : FunTree → Option Val → Names
names_of fn this = params_scope fn.params (object_scope this)

-- where the code of what may be called stands
pub record AllStand (z : Setting) (differ : ℕ → ℕ → Bool) (Fit : Tree → Type 0) : Type 0 where
  pub calls : (f : ℕ) (this : Option Val) (fn : FunTree) (fc : Func) → Called_as z f this → fun_at z.program f ≡ Some fn →
      slice_get z.code.functions f ≡ Some fc → Stood z differ fc fn.body (names_of fn this) × Fit fn.body
  pub defaults : (c : ℕ) → Is_class z c → Every (λ (f : FieldTree). (d : Tree) (fc : Func) → f.default ≡ Some d →
      slice_get z.code.functions (default_number z.program f.number) ≡ Some fc → Stood z differ fc d [] × Fit d) (fields_of z.program c)
  pub main : (fn : FunTree) → main_in z.program.items ≡ Some fn → (fc : Func) × (slice_get z.code.functions z.code.main ≡ Some fc) ×
      Stood z differ fc fn.body (names_of fn None) × Fit fn.body

class_at : (ks : List ClassInfo) (c : ℕ) (k : ClassInfo) → slice_get ks c ≡ Some k → slice_get (map class_of ks) c ≡ Some (class_of k)
class_at [] c k h = cc
class_at (x ∷ ks) zero k h = ap (λ k. Some (class_of k)) (same_Some _ _ h)
class_at (x ∷ ks) (suc c) k h = class_at ks c k h

func_is : {a c : Func} {r : Option Func} → r ≡ Some a → r ≡ Some c → a ≡ c
func_is e h = cc

module _ (p : Program) (differ : ℕ → ℕ → Bool) (files steps until : ℕ) (agree : FunctionsPlaced p) where
  abbrev z : Setting
  z = setting p differ files steps until

  there : (f : ℕ) (b : Body) (params : ℕ) → slice_get (bodies p) f ≡ Some b → length b.scope ≡ params → There z f params
  there f b params h many =
      let r = function_stands p differ files steps until f b h in
      record { func = r.0; is = r.1; many = r.2.params ∙ many }

  no_object : (xs : List ParamTree) → length (params_scope xs []) ≡ length xs
  no_object xs = let h = params_many xs [] in omega (arith, h)

  one_object : (xs : List ParamTree) → length (params_scope xs (constant_at this_name ∷ [])) ≡ suc (length xs)
  one_object xs = let h = params_many xs (constant_at this_name ∷ []) in omega (arith, h)

  pub tables_hold : Tables z
  tables_hold = record {
    functions = λ f is fn h. there f (body_of [] fn) (length fn.params) (agree.functions is.0 f fn is.1 h) (no_object fn.params);
    methods = λ f is. let q = agree.methods is.0 is.1 f is.2 in record {
      function = q.function;
      is = q.is;
      code = there f (body_of (constant_at this_name ∷ []) q.function) (suc (length q.function.params)) q.placed
          (one_object q.function.params);
    };
    classes = refl;
    instances = λ c is. let q = agree.classes is.0 c is.1 in
        record { class = class_of q.info; is = class_at p.names.classes c q.info q.is; many = q.many };
    defaults = λ c is. every_map (DefaultPlaced p) (Default_there z) (fields_of p c)
        (λ f h d e. there (default_number p f.number) (default_of d) 0 (h d e) refl) (agree.defaults is.0 c is.1);
  }

  module _ (Fit : Tree → Type 0) (fit : Every (λ (b : Body). Fit b.body) (bodies p)) where
    stood : (f : ℕ) (b : Body) (fc : Func) → slice_get (bodies p) f ≡ Some b → slice_get z.code.functions f ≡ Some fc →
        Stood z differ fc b.body b.scope × Fit b.body
    stood f b fc h e =
        let r = function_stands p differ files steps until f b h in (
          subst (λ (fc : Func). Stood z differ fc b.body b.scope) (func_is r.1 e) r.2,
          every_at (λ (b : Body). Fit b.body) (bodies p) f b h fit,
        )

    fun_is : {a c : FunTree} {r : Option FunTree} → r ≡ Some a → r ≡ Some c → a ≡ c
    fun_is e h = cc

    called : (f : ℕ) (this : Option Val) (fn : FunTree) (fc : Func) → Called_as z f this → fun_at p f ≡ Some fn →
        slice_get z.code.functions f ≡ Some fc → Stood z differ fc fn.body (names_of fn this) × Fit fn.body
    called f None fn fc is h e = stood f (body_of [] fn) fc (agree.functions is.0 f fn is.1 h) e
    called f (Some v) fn fc is h e =
        let q = agree.methods is.0 is.1 f is.2 in
        subst (λ (fn : FunTree). Stood z differ fc fn.body (params_scope fn.params (constant_at this_name ∷ [])) × Fit fn.body)
        (fun_is q.is h) (stood f (body_of (constant_at this_name ∷ []) q.function) fc q.placed e)

    pub all_stand : AllStand z differ Fit
    all_stand = record {
      calls = called;
      defaults = λ c is. every_map (DefaultPlaced p) _ (fields_of p c)
          (λ f h d fc e k. stood (default_number p f.number) (default_of d) fc (h d e) k) (agree.defaults is.0 c is.1);
      main = λ fn h. let r = function_stands p differ files steps until (main_from 0 p.items) (body_of [] fn) (main_stands p fn h) in
          (r.0, r.1, r.2, every_at (λ (b : Body). Fit b.body) (bodies p) (main_from 0 p.items) (body_of [] fn) (main_stands p fn h) fit);
    }
