-- Classes, functions and entries that break no rule.
use Rattle.std.proofs.Common.{◌≡◌, ℕ, zero, suc, ◌+◌, ◌-◌, ◌<◌, length, List, [], ◌∷◌, ◌++◌, Option, Some, None, Bool}
use Rattle.std.proofs.Common.{true, false, cond, refl, sym}
use Rattle.std.proofs.Common.{subst, ap, arith, ◌∙◌}
use Rattle.std.specs.Prelude.{◌&&◌, ◌||◌, not, map, slice_get, slice_index_or, All}
use Rattle.std.proofs.lemmas.Option.{none-some, same_Some}
use Rattle.std.proofs.lemmas.Bool.{and_parts, not-true}
use Rattle.verse_base.proofs.Facts.{get_within, present}
use Rattle.verse_code.specs.declared.operations.Op.{Op}
use Rattle.verse_code.specs.declared.codes.Func.{Func}
use Rattle.verse_code.specs.declared.codes.Class.{Class}
use Rattle.verse_code.specs.declared.codes.Code.{Code}
use Rattle.verse_code.specs.Validity.{Valid, IsFunction}
use Rattle.verse_meaning_state.specs.Waits.{eqn}
use Rattle.verse_meaning_state.proofs.Numbers.{eqn_is, eqn_same}
use Rattle.verse_code_machine_parents.proofs.Lists.{no_both}
use Rattle.verse_sorts.specs.Sorts as s
use Rattle.verse_sorts.specs.Sorts.{Sort}
use Rattle.verse_verify_kept.specs.Notes.{ClassNote, FuncNote, Point, point_at, live}
use Rattle.verse_verify_kept.specs.Rules.{Fit, AllFrom, from_no, from_so, nones, rest_of, Begins, Overrides, ClassIs}
use Rattle.verse_verify_kept.specs.Rules.{MainIs, Verified}
use Rattle.verse_verify_faults.specs.Fitting.{same}
use Rattle.verse_verify_faults.specs.Spots.{Spot, Table, spot_at, point_of, cut}
use Rattle.verse_verify_faults.specs.Faults.{is_none, on_spot, begins, begins_at, fault_at, fault_here, first_fault}
use Rattle.verse_verify_faults.specs.Faults.{prefix, overrides}
use Rattle.verse_verify_faults.specs.Faults.{all_override, takes_object, is_method, are_methods, methods_at, slots_in}
use Rattle.verse_verify_faults.specs.Faults.{inherits, class_is}
use Rattle.verse_verify_faults.specs.Faults.{class_fault, takes_inputs, func_is, func_fault, or_else, after_tables}
use Rattle.verse_verify_faults.specs.Faults.{notes_fault}
use Rattle.verse_verify_faults.proofs.Fitting.{same_is, fit_is, each_fit_is, some_is}
use Rattle.verse_verify_faults.proofs.Leading.{notes, point_there}
use Rattle.verse_verify_laws.proofs.Holding.{none_is, nil_is, no_marks, cut_bare, opens_bare}
use Rattle.verse_verify_laws.specs.Laws.{Formed}
use Rattle.verse_verify_laws.proofs.Every.{no_faults, sound}

implied : (a b : Bool) → (not a || b) ≡ true → a ≡ true → b ≡ true
implied true b e f = e
implied false b e f = no_both (sym f)

pub there_is : {A : Type 0} (xs : List A) (i : ℕ) (x d : A) → slice_get xs i ≡ Some x → (i < length xs) × (slice_index_or
    xs i d ≡ x)
there_is [] i x d e = elim (none-some _ e) [ ]
there_is (y ∷ xs) zero x d e = (positive (length xs), same_Some _ _ e)
  where
    positive : (n : ℕ) → 0 < suc n
    positive n = omega arith
there_is (y ∷ xs) (suc i) x d e = raised (there_is xs i x d e)
  where
    raised : (i < length xs) × (slice_index_or xs i d ≡ x) → (suc i < suc (length xs)) × (slice_index_or xs i d ≡ x)
    raised r = (omega (arith, r.0), r.1)

pub all_get : {A : Type 0} (P : A → Type 0) (xs : List A) (i : ℕ) (x : A) → All P xs → slice_get xs i ≡ Some x → P x
all_get P xs i x all e = let r = there_is xs i x x e in subst P r.1 (all i x r.0)

module _ (c : Code) (t : Table) where
  -- V3
  entries : (k : ℕ) (fs : List Func) (gs : List FuncNote) (i : ℕ) → begins_at c t k fs gs i ≡ true → (j : ℕ) (f : Func)
      (g : FuncNote) →
      slice_get fs j ≡ Some f → slice_get gs j ≡ Some g → f.entry ≡ i → on_spot (spot_at t i) (λ q. begins c t (k + j)
      f g q) ≡ true
  entries k [] gs i e j f g h n same = elim (none-some _ h) [ ]
  entries k (x ∷ fs) [] i e j f g h n same = no_both (sym e)
  entries k (x ∷ fs) (y ∷ gs) i e zero f g h n same =
      subst (λ k. on_spot (spot_at t i) (λ q. begins c t k f g q) ≡ true) (here k) (at_entry x y (same_Some _ _ h)
      (same_Some _ _ n) (eqn x.entry i)
      refl (and_parts _ _ e).0)
    where
      here : (k : ℕ) → k ≡ k + 0
      here k = omega arith

      at_entry : (x : Func) (y : FuncNote) → x ≡ f → y ≡ g → (b : Bool) → eqn x.entry i ≡ b →
          cond b (on_spot (spot_at t i) (λ q. begins c t k x y q)) true ≡ true → on_spot (spot_at t i) (λ q. begins c t
          k f g q) ≡ true
      at_entry x y u v true w e =
          subst (λ f. on_spot (spot_at t i) (λ q. begins c t k f g q) ≡ true) u (subst (λ g. on_spot (spot_at t i) (λ
          q. begins c t k x g q) ≡
          true) v e)
      at_entry x y u v false w e =
          no_both (sym (subst (λ j. eqn x.entry j ≡ true) (ap (λ (f : Func). f.entry) u ∙ same) (eqn_same x.entry)) ∙ w)
  entries k (x ∷ fs) (y ∷ gs) i e (suc j) f g h n same =
      subst (λ k. on_spot (spot_at t i) (λ q. begins c t k f g q) ≡ true) (next k j) (entries (suc k) fs gs i (and_parts _ _
      e).1 j f g h n same)
    where
      next : (k j : ℕ) → suc k + j ≡ k + suc j
      next k j = omega arith

  begin : (k : ℕ) (f : Func) (g : FuncNote) → length g.params ≡ f.params → on_spot (spot_at t f.entry) (λ q. begins c t
      k f g q) ≡ true →
      Begins c (notes c t) f k g
  begin k f g count e = by_spot (spot_at t f.entry) refl e
    where
      by_spot : (m : Option Spot) → spot_at t f.entry ≡ m → on_spot m (λ q. begins c t k f g q) ≡ true → Begins c
          (notes c t) f k g
      by_spot None is h = no_both (sym h)
      by_spot (Some q) is h = by_parts q is h
        where
          by_parts : (q : Spot) → spot_at t f.entry ≡ Some q → begins c t k f g q ≡ true → Begins c (notes c t) f k g
          by_parts q is h =
              let a = and_parts _ _ h in
              let b = and_parts _ _ a.0 in
              let d = and_parts _ _ b.0 in
              let e = and_parts _ _ d.0 in
              let l = and_parts _ _ e.0 in
              let m = and_parts _ _ l.0 in
              let n = and_parts _ _ m.0 in
              let r = and_parts _ _ n.0 in
              let tries = nil_is q.tries m.1 in
              record {
                point = cut q;
                live = point_there c t f.entry q is (no_marks c t q tries);
                func = eqn_is q.func k r.0;
                arm = none_is q.arm r.1;
                stack = cut_bare c t q (nil_is q.stack n.1) tries;
                tries = opens_bare c t q tries;
                block = none_is q.block l.1;
                outer = nil_is q.outer e.1;
                under = eqn_is q.under 0 d.1;
                defers = nil_is q.defers b.1;
                count = count;
                locals = each_fit_is t.classes (g.params ++ nones (f.locals - f.params)) q.locals a.1;
              }

  -- V2
  classes_are : (k : ℕ) (xs : List ClassNote) (qs : List Class) → class_fault c t k xs qs ≡ None → (i : ℕ) (x :
      ClassNote) (q : Class) →
      slice_get xs i ≡ Some x → slice_get qs i ≡ Some q → class_is c t (k + i) x q ≡ true
  classes_are k [] qs e i x q h n = elim (none-some _ h) [ ]
  classes_are k (y ∷ xs) [] e i x q h n = elim (none-some _ n) [ ]
  classes_are k (y ∷ xs) (u ∷ qs) e i x q h n = by_test (class_is c t k y u) refl e i h n (λ i f h n. classes_are (suc
      k) xs qs f i x q h n)
    where
      here : (k : ℕ) → k ≡ k + 0
      here k = omega arith

      next : (k j : ℕ) → suc k + j ≡ k + suc j
      next k j = omega arith

      by_test : (b : Bool) → class_is c t k y u ≡ b → cond b (class_fault c t (suc k) xs qs) (Some k) ≡ None → (i : ℕ) →
          slice_get (y ∷ xs) i ≡ Some x → slice_get (u ∷ qs) i ≡ Some q → ((i : ℕ) → class_fault c t (suc k) xs qs ≡
          None →
          slice_get xs i ≡ Some x → slice_get qs i ≡ Some q → class_is c t (suc k + i) x q ≡ true) → class_is c t (k +
          i) x q ≡ true
      by_test false b e i h n go = elim (none-some _ (sym e)) [ ]
      by_test true b e zero h n go =
          subst (λ k. class_is c t k x q ≡ true) (here k) (subst (λ x. class_is c t k x q ≡ true) (same_Some _ _ h) (subst
          (λ q. class_is c t k y
          q ≡ true) (same_Some _ _ n) b))
      by_test true b e (suc i) h n go = subst (λ k. class_is c t k x q ≡ true) (next k i) (go i e h n)

  prefix_is : (xs ys : List Sort) → prefix c t xs ys ≡ true → (more : List Sort) × (ys ≡ xs ++ more)
  prefix_is [] ys e = (ys, refl)
  prefix_is (a ∷ xs) [] e = no_both (sym e)
  prefix_is (a ∷ xs) (b ∷ ys) e = joined a b (same_is a b (and_parts _ _ e).0) (prefix_is xs ys (and_parts _ _ e).1)
    where
      cons : (a b : Sort) (xs ys zs : List Sort) → a ≡ b → ys ≡ zs → b ∷ ys ≡ a ∷ zs
      cons a b xs ys zs e f = cc

      joined : (a b : Sort) → a ≡ b → (more : List Sort) × (ys ≡ xs ++ more) → (more : List Sort) × (b ∷ ys ≡ a ∷ (xs
          ++ more))
      joined a b e m = (m.0, cons a b xs ys (xs ++ m.0) e m.1)

  same_lists : (xs ys : List Sort) → eqn (length xs) (length ys) ≡ true → prefix c t xs ys ≡ true → xs ≡ ys
  same_lists [] [] n e = refl
  same_lists [] (b ∷ ys) n e = no_both (sym n)
  same_lists (a ∷ xs) [] n e = no_both (sym e)
  same_lists (a ∷ xs) (b ∷ ys) n e = joined a b (same_is a b (and_parts _ _ e).0) (same_lists xs ys n (and_parts _ _ e).1)
    where
      joined : (a b : Sort) → a ≡ b → xs ≡ ys → a ∷ xs ≡ b ∷ ys
      joined a b e f = cc

  override : (f g : FuncNote) → overrides c t (Some f) (Some g) ≡ true → Overrides c (notes c t) f g
  override f g e =
      let a = and_parts _ _ e in
      let b = and_parts _ _ a.0 in
      let d = and_parts _ _ b.0 in
      let n = and_parts _ _ d.0 in
      record {
        params = same_lists (rest_of f.params) (rest_of g.params) n.0 n.1;
        result = fit_is t.classes f.result g.result d.1;
        fails = implied f.may_fail g.may_fail b.1;
        waits = implied f.may_wait g.may_wait a.1;
      }

  record Method (gs : List ℕ) (m : ℕ) (g : FuncNote) : Type 0 where
    pub number : ℕ
    pub func : FuncNote
    pub is_method : slice_get gs m ≡ Some number
    pub noted : slice_get t.functions number ≡ Some func
    pub overrides : Overrides c (notes c t) func g

  methods_override : (fs gs : List ℕ) → all_override c t fs gs ≡ true → (m j : ℕ) (g : FuncNote) → slice_get fs m ≡
      Some j →
      slice_get t.functions j ≡ Some g → Method gs m g
  methods_override [] gs e m j g h n = elim (none-some _ h) [ ]
  methods_override (i ∷ fs) [] e m j g h n = no_both (sym e)
  methods_override (i ∷ fs) (k ∷ gs) e zero j g h n =
      by_note (slice_get t.functions k) refl (subst (λ x. overrides c t (slice_get t.functions k) x ≡ true) n (subst (λ
      i. overrides c t
      (slice_get t.functions k) (slice_get t.functions i) ≡ true) (same_Some _ _ h) (and_parts _ _ e).0))
    where
      by_note : (x : Option FuncNote) → slice_get t.functions k ≡ x → overrides c t x (Some g) ≡ true → Method (k ∷ gs)
          zero g
      by_note None is e = no_both (sym e)
      by_note (Some f) is e = record { number = k; func = f; is_method = refl; noted = is; overrides = override f g e }
  methods_override (i ∷ fs) (k ∷ gs) e (suc m) j g h n = later (methods_override fs gs (and_parts _ _ e).1 m j g h n)
    where
      later : Method gs m g → Method (k ∷ gs) (suc m) g
      later x = record {
        number = x.number;
        func = x.func;
        is_method = x.is_method;
        noted = x.noted;
        overrides =
            x.overrides;
      }

  object_first : (k : ℕ) (xs : List Sort) → takes_object c t k xs ≡ true →
      (first : Sort) × (xs ≡ first ∷ rest_of xs) × Fit c (notes c t) (s.obj k) first
  object_first k [] e = no_both (sym e)
  object_first k (a ∷ xs) e = (a, refl, fit_is t.classes (s.obj k) a e)

  own_methods : (k : ℕ) (js : List ℕ) → are_methods c t k js ≡ true → (m j : ℕ) (g : FuncNote) → slice_get js m ≡ Some
      j →
      slice_get t.functions j ≡ Some g → (first : Sort) × (g.params ≡ first ∷ rest_of g.params) × Fit c (notes c t)
      (s.obj k) first
  own_methods k [] e m j g h n = elim (none-some _ h) [ ]
  own_methods k (i ∷ js) e zero j g h n =
      object_first k g.params (subst (λ x. is_method c t k x ≡ true) n (subst (λ i. is_method c t k (slice_get
      t.functions i) ≡ true)
      (same_Some _ _ h) (and_parts _ _ e).0))
  own_methods k (i ∷ js) e (suc m) j g h n = own_methods k js (and_parts _ _ e).1 m j g h n

  of_parent : (k : ℕ) (x : ClassNote) (q : Class) → class_is c t k x q ≡ true → (b : ℕ) → x.parent ≡ Some b →
      (not (is_none (slice_get t.classes b)) ≡ true) × (prefix c t (slots_in c t (slice_get t.classes b)) x.slots ≡
      true) ×
      (all_override c t (methods_at c t (slice_get c.classes b)) q.methods ≡ true)
  of_parent k x q e b p =
      let g = and_parts _ _ e in
      let h = and_parts _ _ g.0 in
      let d = and_parts _ _ (subst (λ m. inherits c t m x q ≡ true) p h.1) in
      let f = and_parts _ _ d.0 in
      (f.0, f.1, d.1)

  class_rules : (k : ℕ) (x : ClassNote) (q : Class) → class_is c t k x q ≡ true → ClassIs c (notes c t) k x q
  class_rules k x q e = record {
    slots = λ b y p n. prefix_is y.slots x.slots (subst (λ m. prefix c t (slots_in c t m) x.slots ≡ true) n (of_parent
        k x q e b p).1);
    parent = λ b p. some_is (slice_get t.classes b) (of_parent k x q e b p).0;
    inherited = λ b other m j g p n h i. as_method (methods_override other.methods q.methods (subst (λ y. all_override
        c t (methods_at c t y)
        q.methods ≡ true) n (of_parent k x q e b p).2) m j g h i);
    own = λ m j g h n. own_methods k q.methods (and_parts _ _ e).1 m j g h n;
  }
    where
      as_method : {m : ℕ} {g : FuncNote} → Method q.methods m g → (i : ℕ) × (f : FuncNote) × (slice_get q.methods m ≡
          Some i) ×
          (slice_get t.functions i ≡ Some f) × Overrides c (notes c t) f g
      as_method x = (x.number, x.func, x.is_method, x.noted, x.overrides)

  funcs_are : (k : ℕ) (gs : List FuncNote) → func_fault c t k gs ≡ None → (i : ℕ) (g : FuncNote) → slice_get gs i ≡
      Some g →
      func_is c t (k + i) g ≡ true
  funcs_are k [] e i g h = elim (none-some _ h) [ ]
  funcs_are k (y ∷ gs) e i g h = by_test (func_is c t k y) refl e i h (λ i f h. funcs_are (suc k) gs f i g h)
    where
      here : (k : ℕ) → k ≡ k + 0
      here k = omega arith

      next : (k j : ℕ) → suc k + j ≡ k + suc j
      next k j = omega arith

      by_test : (b : Bool) → func_is c t k y ≡ b → cond b (func_fault c t (suc k) gs) (Some (length t.classes + k)) ≡
          None → (i : ℕ) →
          slice_get (y ∷ gs) i ≡ Some g → ((i : ℕ) → func_fault c t (suc k) gs ≡ None → slice_get gs i ≡ Some g →
          func_is c t (suc k + i) g ≡ true) → func_is c t (k + i) g ≡ true
      by_test false b e i h go = elim (none-some _ (sym e)) [ ]
      by_test true b e zero h go =
          subst (λ k. func_is c t k g ≡ true) (here k) (subst (λ g. func_is c t k g ≡ true) (same_Some _ _ h) b)
      by_test true b e (suc i) h go = subst (λ k. func_is c t k g ≡ true) (next k i) (go i e h)

  inputs : (xs : List Sort) → takes_inputs c t xs ≡ true → AllFrom c (notes c t) (s.list s.int) xs
  inputs [] e = from_no
  inputs (a ∷ xs) e = from_so (fit_is t.classes (s.list s.int) a (and_parts _ _ e).0) (inputs xs (and_parts _ _ e).1)

  main_rules : (g : FuncNote) → func_is c t c.main g ≡ true → MainIs c (notes c t) g
  main_rules g e =
      let h = subst (λ b. cond b (not g.may_fail && takes_inputs c t g.params) true ≡ true) (eqn_same c.main) (and_parts _ _
      e).1 in
      record { sure = not-true g.may_fail (and_parts _ _ h).0; params = inputs g.params (and_parts _ _ h).1 }

  never_both : (k : ℕ) (g : FuncNote) → func_is c t k g ≡ true → g.may_fail ≡ true → g.may_wait ≡ true → ⊥
  never_both k g e f w = of_bits g.may_fail g.may_wait (and_parts _ _ e).0 f w
    where
      of_bits : (a b : Bool) → not (a && b) ≡ true → a ≡ true → b ≡ true → ⊥
      of_bits true true e f w = no_both (sym e)
      of_bits true false e f w = no_both (sym w)
      of_bits false b e f w = no_both (sym f)

  from_zero : (i : ℕ) → 0 + i ≡ i
  from_zero i = omega arith

  record Clean : Type 0 where
    pub classes : class_fault c t 0 t.classes c.classes ≡ None
    pub functions : func_fault c t 0 t.functions ≡ None
    pub operations : first_fault c t 0 c.ops ≡ None

  clean : notes_fault c t ≡ None → Clean
  clean e = by_tables (class_fault c t 0 t.classes c.classes) (func_fault c t 0 t.functions) refl refl e
    where
      by_tables : (x y : Option ℕ) → class_fault c t 0 t.classes c.classes ≡ x → func_fault c t 0 t.functions ≡ y →
          after_tables c t (or_else c t x y) ≡ None → Clean
      by_tables None None f g e = record { classes = f; functions = g; operations = e }
      by_tables None (Some k) f g e = elim (none-some _ (sym e)) [ ]
      by_tables (Some k) y f g e = elim (none-some _ (sym e)) [ ]

  module _ (valid : Valid c) (formed : Formed c t) (none : notes_fault c t ≡ None) where
    class_here : (k : ℕ) (x : ClassNote) (q : Class) → slice_get t.classes k ≡ Some x → slice_get c.classes k ≡ Some q →
        class_is c t k x q ≡ true
    class_here k x q h n =
        subst (λ k. class_is c t k x q ≡ true) (from_zero k) (classes_are 0 t.classes c.classes (clean none).classes k
        x q h n)

    func_here : (k : ℕ) (g : FuncNote) → slice_get t.functions k ≡ Some g → func_is c t k g ≡ true
    func_here k g h =
        subst (λ k. func_is c t k g ≡ true) (from_zero k) (funcs_are 0 t.functions (clean none).functions k g h)

    fault_free : (i : ℕ) (op : Op) → slice_get c.ops i ≡ Some op → fault_at c t i op ≡ None
    fault_free i op h = subst (λ i. fault_at c t i op ≡ None) (from_zero i) (no_faults c t 0 c.ops (clean
        none).operations i op h)

    begins_here : (k : ℕ) (f : Func) (g : FuncNote) → slice_get c.functions k ≡ Some f → slice_get t.functions k ≡ Some
        g →
        Begins c (notes c t) f k g
    begins_here k f g h n =
        let op = get_within c.ops f.entry (all_get (IsFunction (length c.ops)) c.functions k f valid.functions h).entry in
        let test = begin_test (begins_at c t 0 c.functions t.functions f.entry) (fault_here c t f.entry (spot_at t
        f.entry) op.0) (fault_free
        f.entry op.0 op.1) in
        begin k f g (formed.params k f g h n) (subst (λ k. on_spot (spot_at t f.entry) (λ q. begins c t k f g q) ≡
        true) (from_zero k) (entries
        0 c.functions t.functions f.entry test k f g h n refl))
      where
        begin_test : (b : Bool) (x : Option ℕ) → cond b x (Some 3) ≡ None → b ≡ true
        begin_test true x e = refl
        begin_test false x e = elim (none-some _ (sym e)) [ ]

    live_here : (i : ℕ) (q : Point) → point_at (notes c t) i ≡ Some q → (op : Op) × (slice_get c.ops i ≡ Some op)
    live_here i q e =
        let m = by_list t.spots i e in
        present t.spots c.ops i m.0 (sym formed.spots) m.1
      where
        by_list : (xs : List (Option Spot)) (i : ℕ) → live (slice_get (map point_of xs) i) ≡ Some q →
            (m : Option Spot) × (slice_get xs i ≡ Some m)
        by_list [] i e = elim (none-some _ e) [ ]
        by_list (x ∷ xs) zero e = (x, refl)
        by_list (x ∷ xs) (suc i) e = by_list xs i e

    pub verified : Verified c (notes c t)
    verified = record {
      counted = (formed.classes, formed.functions);
      classes = λ k x q h n. class_rules k x q (class_here k x q h n);
      either = λ k g h. never_both k g (func_here k g h);
      main = λ g h. main_rules g (func_here c.main g h);
      begins = begins_here;
      live = λ i q h. let op = live_here i q h in sound c t i q op.0 h op.1 (fault_free i op.0 op.1);
    }
