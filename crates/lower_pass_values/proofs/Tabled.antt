-- The code of a program and its notes have each default and each class.
use Rattle.std.proofs.Common.{◌≡◌, ℕ, zero, suc, ◌+◌, ◌≤◌, length, map, List, [], ◌∷◌, ◌++◌, Option, Some, Bool, true, false, cond}
use Rattle.std.proofs.Common.{refl, sym, subst, ap, arith}
use Rattle.std.specs.Prelude.{slice_get, ◌==◌}
use Rattle.std.proofs.lemmas.Option.{none-some, same_Some}
use Rattle.verse_tree.specs.Tree.{Tree}
use Rattle.verse_tree.specs.ItemTree.{FieldTree}
use Rattle.verse_tree.specs.declared.tables.ClassInfo.{ClassInfo}
use Rattle.verse_tree.specs.declared.tables.Ref.{Ref}
use Rattle.verse_tree.specs.declared.tables.Ref.TheVariants as ref
use Rattle.verse_code.specs.declared.codes.Code.{Code}
use Rattle.verse_meaning.specs.Programs.{Program, ref_at, fields_of}
use Rattle.verse_meaning.specs.Evaluating.{class_ref}
use Rattle.verse_sound_rules.specs.Found.{Found}
use Rattle.verse_verify_kept.specs.Notes.{Notes}
use Rattle.lower_code.specs.Defaults.{field_place, default_number, defaults_in}
use Rattle.lower_code.specs.Programs.{Body, bodies_in, default_bodies, class_of, code_of}
use Rattle.lower_notes.specs.Programs as n
use Rattle.lower_bounds.specs.Programs.{TablesAgree}
use Rattle.lower_simulation_values.proofs.Tables.{Every}
use Rattle.lower_simulation_runs.specs.Programs.{NumbersAgree}
use Rattle.lower_simulation_runs.proofs.Placing.{bodies, default_of, DefaultPlaced, ClassPlaced}
use Rattle.lower_simulation_runs.proofs.Numbering.{functions_placed}
use Rattle.lower_simulation_runs.proofs.Standings.{function_stands}
use Rattle.lower_pass_values.proofs.Instances.{HasDefault, HaveDefaults, IsClass}

-- what a name stands for as a class
pub class_ref_is : (p : Program) (i : Option Ref) (c : ℕ) → class_ref p i ≡ Some c → i ≡ Some (ref.Class c)
class_ref_is p (Some (ref.Class d)) c e = ap (λ k. Some (ref.Class k)) (same_Some d c e)
class_ref_is p i c e = elim (none-some c e) [ ]

module _ {A B : Type 0} (f : A → B) where
  mapped : (xs : List A) (k : ℕ) (x : A) → slice_get xs k ≡ Some x → slice_get (map f xs) k ≡ Some (f x)
  mapped [] k x e = cc
  mapped (y ∷ xs) zero x e = ap (λ z. Some (f z)) (same_Some y x e)
  mapped (y ∷ xs) (suc k) x e = mapped xs k x e

  -- behind as many others
  behind_get : (xs : List A) (us : List B) (ys : List A) (k : ℕ) (y : A) → length us ≡ length xs → length xs ≤ k →
      slice_get (xs ++ ys) k ≡ Some y → slice_get (us ++ map f ys) k ≡ Some (f y)
  behind_get [] [] ys k y e l h = mapped ys k y h
  behind_get [] (u ∷ us) ys k y e l h = absurd (cc)
  behind_get (x ∷ xs) [] ys k y e l h = absurd (cc)
  behind_get (x ∷ xs) (u ∷ us) ys zero y e l h = absurd (omega (arith, l))
  behind_get (x ∷ xs) (u ∷ us) ys (suc k) y e l h = behind_get xs us ys k y (omega (arith, e)) (omega (arith, l)) h

place_least : (x : ℕ) (fs : List FieldTree) (m : ℕ) → m ≤ field_place x fs m
place_least x [] m = omega arith
place_least x (f ∷ fs) m = by (x == f.number) (place_least x fs (suc m))
  where
    by : (b : Bool) → suc m ≤ field_place x fs (suc m) → m ≤ cond b m (field_place x fs (suc m))
    by true h = omega arith
    by false h = omega (arith, h)

declared_many : (found : Found) (k : ℕ) (bs : List Body) → length (n.declared found k bs) ≡ length bs
declared_many found k [] = refl
declared_many found k (b ∷ bs) = ap suc (declared_many found (suc k) bs)

note_there : (found : Found) (k c m : ℕ) (cs : List ClassInfo) (info : ClassInfo) → m ≡ k + c → slice_get cs c ≡ Some info →
    slice_get (n.class_notes found k cs) c ≡ Some (record { parent = found.up m; slots = found.slots m })
note_there found k c m [] info e h = cc
note_there found k zero m (x ∷ cs) info e h =
    ap (λ z. Some (record { parent = found.up z; slots = found.slots z })) (same k m e)
  where
    same : (k m : ℕ) → m ≡ k + 0 → k ≡ m
    same k m e = omega (arith, e)
note_there found k (suc c) m (x ∷ cs) info e h = note_there found (suc k) c m cs info (next k c m e) h
  where
    next : (k c m : ℕ) → m ≡ k + suc c → m ≡ suc k + c
    next k c m e = omega (arith, e)

module _ (p : Program) (found : Found) (differ : ℕ → ℕ → Bool) (files : ℕ) (notes : Notes) where
  abbrev code : Code
  code = code_of p differ files

  module _ (functions : notes.functions ≡ n.func_notes p found differ code) (tables : TablesAgree p) (numbers : NumbersAgree p) where
    default_there : (x : ℕ) (b : Tree) → slice_get (bodies p) (default_number p x) ≡ Some (default_of b) →
        HasDefault p found code notes x b
    default_there x b h =
        let there = function_stands p differ files 0 0 (default_number p x) (default_of b) h in
        let note = behind_get (n.default_note p found differ code) (bodies_in p.items) (n.declared found 0 (bodies_in p.items))
        (default_bodies (defaults_in p.items)) (default_number p x) (default_of b) (declared_many found 0 (bodies_in p.items))
        (subst (λ k. k ≤ default_number p x) tables.functions (place_least x (defaults_in p.items) (length p.names.funs))) h in
        record {
          func = there.0;
          is_func = there.1;
          params = there.2.params;
          is_note = subst (λ zs. slice_get zs (default_number p x) ≡ Some (n.default_note p found differ code (default_of b)))
              (sym functions) note;
        }

    have : (ds : List FieldTree) → Every (DefaultPlaced p) ds → HaveDefaults p found code notes ds
    have [] h = tt
    have (d ∷ ds) h = (λ b e. default_there d.number b (h.0 b e), have ds h.1)

    pub have_defaults : (i c : ℕ) → ref_at p i ≡ Some (ref.Class c) → HaveDefaults p found code notes (fields_of p c)
    have_defaults i c e = have (fields_of p c) ((functions_placed p tables numbers).defaults i c e)

  module _ (classes : notes.classes ≡ n.class_notes found 0 p.names.classes) (tables : TablesAgree p) (numbers : NumbersAgree p) where
    class_there : (c : ℕ) → ClassPlaced p c → IsClass p found code notes c
    class_there c h = record {
      class = class_of h.info;
      is_class = mapped class_of p.names.classes c h.info h.is;
      note = record { parent = found.up c; slots = found.slots c };
      is_note = subst (λ zs. slice_get zs c ≡ Some (record { parent = found.up c; slots = found.slots c })) (sym classes)
          (note_there found 0 c c p.names.classes h.info (self c) h.is);
      slots = h.many;
      sorts = refl;
    }
      where
        self : (c : ℕ) → c ≡ 0 + c
        self c = omega arith

    pub is_class : (i c : ℕ) → ref_at p i ≡ Some (ref.Class c) → IsClass p found code notes c
    is_class i c e = class_there c ((functions_placed p tables numbers).classes i c e)
