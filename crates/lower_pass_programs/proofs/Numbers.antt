-- The functions and methods of a program by their numbers.
use Rattle.std.proofs.Common.{◌≡◌, ℕ, zero, suc, ◌+◌, List, [], ◌∷◌, ◌++◌, length, map, Option, Some, None, Bool, true, false, cond, refl}
use Rattle.std.proofs.Common.{sym, ap, ◌∙◌, subst, arith, ◌⊎◌, inl, inr}
use Rattle.std.specs.Prelude.{slice_get, ◌==◌}
use Rattle.std.proofs.lemmas.Bool.{eq-eqb, eqb-true}
use Rattle.std.proofs.lemmas.List.{map-append, length-map}
use Rattle.std.proofs.lemmas.Option.{same_Some, none-some}
use Rattle.verse_base.proofs.Facts.{get_first, get_mapped, mapped_get}
use Rattle.verse_tree.specs.ItemTree.{FunTree, MemberTree, field, method, ItemTree, using, enumeration, class, function}
use Rattle.verse_tree.specs.declared.tables.FunInfo.{FunInfo}
use Rattle.verse_meaning.specs.Programs.{Program, fun_at, fun_of_info, fun_numbered, method_numbered, or_else}
use Rattle.verse_meaning.specs.Forms.{this_name}
use Rattle.verse_meaning.proofs.Names.{or_cond}
use Rattle.lower_code.specs.Scopes.{constant_at}
use Rattle.lower_code.specs.Defaults.{defaults_in}
use Rattle.lower_code.specs.Programs.{Body, body_of, methods_in, bodies_in, default_bodies, all_bodies}
use Rattle.lower_simulation_runs.specs.Programs.{Defined, a_function, a_method, tree_in, number_in, methods_defined, defined_in}
use Rattle.lower_simulation_runs.specs.Programs.{Absent, Distinct, NumbersAgree}

abbrev pub body_in : Defined → Body
body_in (a_function f) = body_of [] f
body_in (a_method f) = body_of (constant_at this_name ∷ []) f

methods_are : (ms : List MemberTree) → methods_in ms ≡ map body_in (methods_defined ms)
methods_are [] = refl
methods_are (field f ∷ ms) = methods_are ms
methods_are (method f ∷ ms) = ap (λ bs. body_of (constant_at this_name ∷ []) f ∷ bs) (methods_are ms)

pub methods_many : (ms : List MemberTree) → length (methods_in ms) ≡ length (methods_defined ms)
methods_many ms = ap (λ bs. length bs) (methods_are ms) ∙ length-map (methods_defined ms) body_in

pub bodies_are : (is : List ItemTree) → bodies_in is ≡ map body_in (defined_in is)
bodies_are [] = refl
bodies_are (using u ∷ is) = bodies_are is
bodies_are (enumeration e ∷ is) = bodies_are is
bodies_are (class c ∷ is) = ap (λ bs. bs ++ bodies_in is) (methods_are c.members) ∙
    ap (λ bs. map body_in (methods_defined c.members) ++ bs) (bodies_are is) ∙
    sym (map-append body_in (methods_defined c.members) (defined_in is))
bodies_are (function f ∷ is) = ap (λ bs. body_of [] f ∷ bs) (bodies_are is)

-- the first of a number
abbrev numbered_in : ℕ → List Defined → Option FunTree
numbered_in n [] = None
numbered_in n (d ∷ ds) = cond (number_in d == n) (Some (tree_in d)) (numbered_in n ds)

numbered_both : (n : ℕ) (xs ys : List Defined) → numbered_in n (xs ++ ys) ≡ or_else (numbered_in n xs) (numbered_in n ys)
numbered_both n [] ys = refl
numbered_both n (x ∷ xs) ys = ap (λ r. cond (number_in x == n) (Some (tree_in x)) r) (numbered_both n xs ys) ∙
    or_cond (number_in x == n) (tree_in x) (numbered_in n xs) (numbered_in n ys)

numbered_method : (n : ℕ) (ms : List MemberTree) → method_numbered n ms ≡ numbered_in n (methods_defined ms)
numbered_method n [] = refl
numbered_method n (field f ∷ ms) = numbered_method n ms
numbered_method n (method f ∷ ms) = ap (λ r. cond (f.number == n) (Some f) r) (numbered_method n ms)

numbered_fun : (n : ℕ) (is : List ItemTree) → fun_numbered n is ≡ numbered_in n (defined_in is)
numbered_fun n [] = refl
numbered_fun n (using u ∷ is) = numbered_fun n is
numbered_fun n (enumeration e ∷ is) = numbered_fun n is
numbered_fun n (class c ∷ is) = ap (λ r. or_else r (fun_numbered n is)) (numbered_method n c.members) ∙
    ap (λ r. or_else (numbered_in n (methods_defined c.members)) r) (numbered_fun n is) ∙
    sym (numbered_both n (methods_defined c.members) (defined_in is))
numbered_fun n (function f ∷ is) = ap (λ r. cond (f.number == n) (Some f) r) (numbered_fun n is)

absent_at : {A : Type 0} (g : A → ℕ) (n : ℕ) (xs : List A) (i : ℕ) (x : A) → Absent n (map g xs) →
    slice_get xs i ≡ Some x → n ≡ g x → ⊥
absent_at g n [] i x h e q = cc
absent_at g n (y ∷ xs) zero x h e q = h.0 (q ∙ ap g (sym (same_Some _ _ e)))
absent_at g n (y ∷ xs) (suc i) x h e q = absent_at g n xs i x h.1 e q

other : (b : Bool) (n m : ℕ) → (n == m) ≡ b → (n ≡ m → ⊥) → b ≡ false
other true n m e h = absurd (h (eqb-true n m e))
other false n m e h = refl

numbered_at : (ds : List Defined) (i : ℕ) (d : Defined) → Distinct (map number_in ds) → slice_get ds i ≡ Some d →
    numbered_in (number_in d) ds ≡ Some (tree_in d)
numbered_at [] i d h e = cc
numbered_at (x ∷ ds) zero d h e = subst (λ x. numbered_in (number_in d) (x ∷ ds) ≡ Some (tree_in d)) (sym (same_Some _ _ e))
    (ap (λ b. cond b (Some (tree_in d)) (numbered_in (number_in d) ds)) (eq-eqb (number_in d) (number_in d) refl))
numbered_at (x ∷ ds) (suc i) d h e =
    ap (λ b. cond b (Some (tree_in x)) (numbered_in (number_in d) ds))
    (other (number_in x == number_in d) (number_in x) (number_in d) refl (absent_at number_in (number_in x) ds i d h.0 e)) ∙
    numbered_at ds i d h.1 e

-- what is behind others
pub among_get : {A : Type 0} (xs ys : List A) (i : ℕ) (y : A) → slice_get (xs ++ ys) i ≡ Some y →
    (slice_get xs i ≡ Some y) ⊎ ((j : ℕ) × ((i ≡ j + length xs) × (slice_get ys j ≡ Some y)))
among_get [] ys i y e = inr (i, (none i, e))
  where
    none : (i : ℕ) → i ≡ i + 0
    none i = omega arith
among_get (x ∷ xs) ys zero y e = inl e
among_get (x ∷ xs) ys (suc i) y e = later (among_get xs ys i y e)
  where
    more : (i j k : ℕ) → i ≡ j + k → suc i ≡ j + suc k
    more i j k e = omega (arith, e)

    later : (slice_get xs i ≡ Some y) ⊎ ((j : ℕ) × ((i ≡ j + length xs) × (slice_get ys j ≡ Some y))) →
        (slice_get xs i ≡ Some y) ⊎ ((j : ℕ) × ((suc i ≡ j + suc (length xs)) × (slice_get ys j ≡ Some y)))
    later (inl h) = inl h
    later (inr h) = inr (h.0, (more i h.0 (length xs) h.1.0, h.1.1))

module _ (p : Program) (made : NumbersAgree p) where
  -- the function of a number
  pub fun_found : (g : ℕ) (d : Defined) → slice_get (defined_in p.items) g ≡ Some d → fun_at p g ≡ Some (tree_in d)
  fun_found g d h =
      let r = mapped_get (λ (f : FunInfo). f.item) p.names.funs g (number_in d)
      (ap (λ ns. slice_get ns g) made.numbers ∙ get_mapped number_in (defined_in p.items) g d h) in
      ap (λ x. fun_of_info p.items x) r.1 ∙ ap (λ n. fun_numbered n p.items) r.2 ∙ numbered_fun (number_in d) p.items ∙
      numbered_at (defined_in p.items) g d made.distinct h

  pub body_placed : (g : ℕ) (d : Defined) → slice_get (defined_in p.items) g ≡ Some d →
      slice_get (bodies_in p.items) g ≡ Some (body_in d)
  body_placed g d h = ap (λ bs. slice_get bs g) (bodies_are p.items) ∙ get_mapped body_in (defined_in p.items) g d h

  pub placed : (g : ℕ) (d : Defined) → slice_get (defined_in p.items) g ≡ Some d →
      slice_get (all_bodies p.items) g ≡ Some (body_in d)
  placed g d h = get_first (bodies_in p.items) (default_bodies (defaults_in p.items)) g (body_in d) (body_placed g d h)

  -- a function or a method stands at a number
  pub record Stands (g : ℕ) (fn : FunTree) : Type 0 where
    pub defined : Defined
    pub at : slice_get (defined_in p.items) g ≡ Some defined
    pub is : tree_in defined ≡ fn

  pub stands : (g : ℕ) (fn : FunTree) → fun_at p g ≡ Some fn → Stands g fn
  stands g fn e = by (slice_get p.names.funs g) refl e
    where
      by : (r : Option FunInfo) → slice_get p.names.funs g ≡ r → fun_of_info p.items r ≡ Some fn → Stands g fn
      by None h k = elim (none-some _ k) [ ]
      by (Some info) h k =
          let r = mapped_get number_in (defined_in p.items) g info.item
          (ap (λ ns. slice_get ns g) (sym made.numbers) ∙ get_mapped (λ (f : FunInfo). f.item) p.names.funs g info h) in
          record { defined = r.0; at = r.1; is = same_Some _ _ (sym (fun_found g r.0 r.1) ∙ e) }

  -- a body is that of a function or of a method
  pub body_stands : (g : ℕ) (b : Body) → slice_get (bodies_in p.items) g ≡ Some b →
      (d : Defined) × ((slice_get (defined_in p.items) g ≡ Some d) × (body_in d ≡ b))
  body_stands g b e =
      let r = mapped_get body_in (defined_in p.items) g b (ap (λ bs. slice_get bs g) (sym (bodies_are p.items)) ∙ e) in
      (r.0, (r.1, r.2))
