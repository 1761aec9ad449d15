-- The functions and classes of the code, and their notes.
use Rattle.std.proofs.Common.{◌≡◌, ℕ, zero, suc, ◌+◌, ◌<◌, List, [], ◌∷◌, ◌++◌, length, map, Option, Some, None, Bool, refl}
use Rattle.std.proofs.Common.{sym, ap, ◌∙◌, arith}
use Rattle.std.specs.Prelude.{slice_get}
use Rattle.std.proofs.lemmas.Option.{same_Some, none-some}
use Rattle.verse_base.proofs.Facts.{get_first, get_mapped, mapped_get, get_rest}
use Rattle.verse_tree.specs.ItemTree.{FunTree, ParamTree}
use Rattle.verse_tree.specs.declared.tables.ClassInfo.{ClassInfo}
use Rattle.verse_code.specs.declared.codes.Class.{Class}
use Rattle.verse_code.specs.declared.codes.Code.{Code}
use Rattle.verse_sorts.specs.Sorts.{Sort}
use Rattle.verse_meaning.specs.Programs.{Program, fun_at, method_at, method_in}
use Rattle.verse_meaning.specs.Forms.{this_name}
use Rattle.verse_sound_rules.specs.Found.{Found}
use Rattle.verse_verify_kept.specs.Notes.{Notes, ClassNote, FuncNote}
use Rattle.verse_verify_faults.specs.Spots as spots
use Rattle.verse_verify_faults.specs.Spots.{Table}
use Rattle.lower_code.specs.Scopes.{constant_at}
use Rattle.lower_code.specs.Defaults.{defaults_in}
use Rattle.lower_code.specs.Programs.{Body, bodies_in, default_bodies, class_of, code_of}
use Rattle.lower_notes.specs.Programs as n
use Rattle.lower_notes.specs.Programs.{signed, with_this}
use Rattle.lower_bounds.proofs.Bodies.{params_many}
use Rattle.lower_simulation_runs.specs.Programs.{Defined, a_function, a_method, tree_in, defined_in, NumbersAgree}
use Rattle.lower_simulation_runs.proofs.Standings.{function_stands}
use Rattle.lower_pass_forms.proofs.Calls.{Declared, IsFunction}
use Rattle.lower_pass_programs.proofs.Numbers.{body_in, body_placed, placed, stands}
use Rattle.lower_pass_programs.proofs.Telling.{param_sorts, HasThis, Told}

pub sorts_many : (f : Found) (ps : List ParamTree) → length (param_sorts f ps) ≡ length ps
sorts_many f [] = refl
sorts_many f (x ∷ ps) = ap suc (sorts_many f ps)

-- ---- the notes of functions

declared_at : (found : Found) (k m i : ℕ) (bs : List Body) (b : Body) → m ≡ k + i → slice_get bs i ≡ Some b →
    slice_get (n.declared found k bs) i ≡ Some (signed (found.signature m))
declared_at found k m i [] b e h = elim (none-some _ h) [ ]
declared_at found k m zero (x ∷ bs) b e h = ap (λ z. Some (signed (found.signature z))) (same k m e)
  where
    same : (k m : ℕ) → m ≡ k + 0 → k ≡ m
    same k m e = omega (arith, e)
declared_at found k m (suc i) (x ∷ bs) b e h = declared_at found (suc k) m i bs b (next k m i e) h
  where
    next : (k m i : ℕ) → m ≡ k + suc i → m ≡ suc k + i
    next k m i e = omega (arith, e)

pub declared_many : (found : Found) (k : ℕ) (bs : List Body) → length (n.declared found k bs) ≡ length bs
declared_many found k [] = refl
declared_many found k (b ∷ bs) = ap suc (declared_many found (suc k) bs)

-- ---- the notes of classes

abbrev pub noted_class : Found → ℕ → ClassNote
noted_class found c = record { parent = found.up c; slots = found.slots c }

pub class_noted : (found : Found) (k c m : ℕ) (cs : List ClassInfo) → m ≡ k + c → c < length cs →
    slice_get (n.class_notes found k cs) c ≡ Some (noted_class found m)
class_noted found k c m [] e h = absurd (omega (arith, h))
class_noted found k zero m (x ∷ cs) e h = ap (λ z. Some (noted_class found z)) (same k m e)
  where
    same : (k m : ℕ) → m ≡ k + 0 → k ≡ m
    same k m e = omega (arith, e)
class_noted found k (suc c) m (x ∷ cs) e h = class_noted found (suc k) c m cs (next k c m e) (omega (arith, h))
  where
    next : (k c m : ℕ) → m ≡ k + suc c → m ≡ suc k + c
    next k c m e = omega (arith, e)

pub noted_within : (found : Found) (k c : ℕ) (cs : List ClassInfo) (x : ClassNote) →
    slice_get (n.class_notes found k cs) c ≡ Some x → c < length cs
noted_within found k c [] x e = elim (none-some _ e) [ ]
noted_within found k zero (y ∷ cs) x e = omega arith
noted_within found k (suc c) (y ∷ cs) x e = omega (arith, noted_within found (suc k) c cs x e)

module _ (p : Program) (found : Found) (differ : ℕ → ℕ → Bool) (files : ℕ) where
  abbrev pub code : Code
  code = code_of p differ files

  abbrev pub table : Table
  table = n.notes_of p found differ code

  abbrev pub notes : Notes
  notes = spots.notes_of table

  pub function_noted : (g : ℕ) (b : Body) → slice_get (bodies_in p.items) g ≡ Some b →
      slice_get notes.functions g ≡ Some (signed (found.signature g))
  function_noted g b h = get_first (n.declared found 0 (bodies_in p.items))
      (map (n.default_note p found differ code) (default_bodies (defaults_in p.items))) g (signed (found.signature g))
      (declared_at found 0 g g (bodies_in p.items) b (self g) h)
    where
      self : (g : ℕ) → g ≡ 0 + g
      self g = omega arith

  pub default_noted : (g j : ℕ) (b : Body) → g ≡ j + length (bodies_in p.items) →
      slice_get (default_bodies (defaults_in p.items)) j ≡ Some b →
      slice_get notes.functions g ≡ Some (n.default_note p found differ code b)
  default_noted g j b e h =
      let us : List FuncNote = n.declared found 0 (bodies_in p.items) in
      let vs : List FuncNote = map (n.default_note p found differ code) (default_bodies (defaults_in p.items)) in
      ap (slice_get (us ++ vs)) (e ∙ ap (λ m. j + m) (sym (declared_many found 0 (bodies_in p.items)))) ∙
      get_rest us vs j ∙
      get_mapped (n.default_note p found differ code) (default_bodies (defaults_in p.items)) j b h

  pub class_at : (c : ℕ) → c < length p.names.classes → slice_get notes.classes c ≡ Some (noted_class found c)
  class_at c h = class_noted found 0 c c p.names.classes (self c) h
    where
      self : (c : ℕ) → c ≡ 0 + c
      self c = omega arith

  pub class_within : (c : ℕ) (x : ClassNote) → slice_get notes.classes c ≡ Some x → c < length p.names.classes
  class_within c x e = noted_within found 0 c p.names.classes x e

  pub class_is : (c : ℕ) (x : ClassNote) → slice_get notes.classes c ≡ Some x → noted_class found c ≡ x
  class_is c x e = same_Some _ _ (sym (class_at c (class_within c x e)) ∙ e)

  -- the methods of a class of the code are those of the table
  pub method_of : (c m g : ℕ) (k : Class) → slice_get code.classes c ≡ Some k → slice_get k.methods m ≡ Some g →
      method_at p c m ≡ Some g
  method_of c m g k e h =
      let r = mapped_get class_of p.names.classes c k e in
      ap (method_in m) r.1 ∙ ap (λ (z : Class). slice_get z.methods m) r.2 ∙ h

  pub method_there : (c m g : ℕ) → method_at p c m ≡ Some g →
      (k : Class) × ((slice_get code.classes c ≡ Some k) × (slice_get k.methods m ≡ Some g))
  method_there c m g e = by (slice_get p.names.classes c) refl e
    where
      by : (r : Option ClassInfo) → slice_get p.names.classes c ≡ r → method_in m r ≡ Some g →
          (k : Class) × ((slice_get code.classes c ≡ Some k) × (slice_get k.methods m ≡ Some g))
      by None h k = elim (none-some _ k) [ ]
      by (Some info) h k = (class_of info, (get_mapped class_of p.names.classes c info h, k))

  module _ (numbers : NumbersAgree p) (told : Told p found) where
    -- as many parameters as the function takes operands
    params_long : (t : Option ℕ) (qs : List Sort) (d : Defined) → HasThis d t → length qs ≡ length (tree_in d).params →
        length (body_in d).scope ≡ length (with_this t qs)
    params_long t qs (a_function f) h e = no_object (params_many f.params []) e ∙ ap (λ t. length (with_this t qs)) (sym h)
      where
        no_object : {a b c : ℕ} → a ≡ b + 0 → c ≡ b → a ≡ c
        no_object e h = omega (arith, e, h)
    params_long t qs (a_method f) h e =
        one_object (params_many f.params (constant_at this_name ∷ [])) e ∙ ap (λ t. length (with_this t qs)) (sym h.1)
      where
        one_object : {a b c : ℕ} → a ≡ b + 1 → c ≡ b → a ≡ suc c
        one_object e h = omega (arith, e, h)

    pub scope_long : (g : ℕ) (d : Defined) → slice_get (defined_in p.items) g ≡ Some d → fun_at p g ≡ Some (tree_in d) →
        length (body_in d).scope ≡ length (with_this (found.signature g).this (found.signature g).params)
    scope_long g d h e = params_long (found.signature g).this (found.signature g).params d (told.this g d h)
        (ap (λ (qs : List Sort). length qs) (told.params g (tree_in d) e) ∙ sorts_many found (tree_in d).params)

    pub is_function : (g : ℕ) (fn : FunTree) → fun_at p g ≡ Some fn → IsFunction code notes g (found.signature g)
    is_function g fn e =
        let d = stands p numbers g fn e in
        let there = function_stands p differ files 0 0 g (body_in d.defined) (placed p numbers g d.defined d.at) in
        record {
          func = there.0;
          is_func = there.1;
          is_note = function_noted g (body_in d.defined) (body_placed p numbers g d.defined d.at);
          params = there.2.params ∙ scope_long g d.defined d.at (e ∙ ap (λ (z : FunTree). Some z) (sym d.is));
        }

    pub all_declared : Declared p found code notes
    all_declared = record {
      functions = is_function;
      slots = λ c i q e. (noted_class found c, (class_at c (told.slots c i q e), refl));
      methods = method_there;
    }
