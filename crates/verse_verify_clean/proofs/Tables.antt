-- Classes, functions, entries, and the whole.
use Rattle.std.proofs.Common.{◌≡◌, ℕ, zero, suc, ◌+◌, ◌-◌, ◌<◌, length, List, [], ◌∷◌, ◌++◌, Option, Some, None, Bool, true, false}
use Rattle.std.proofs.Common.{cond, refl, sym, subst, ap, arith, ◌∙◌, All}
use Rattle.std.specs.Prelude.{◌&&◌, not, slice_get}
use Rattle.std.proofs.lemmas.Bool.{and_from}
use Rattle.std.proofs.lemmas.Option.{none-some, same_Some}
use Rattle.verse_base.proofs.Facts.{get_within}
use Rattle.verse_code.specs.declared.operations.Op.{Op}
use Rattle.verse_code.specs.declared.codes.Func.{Func}
use Rattle.verse_code.specs.declared.codes.Class.{Class}
use Rattle.verse_code.specs.declared.codes.Code.{Code}
use Rattle.verse_code.specs.Validity.{IsClass}
use Rattle.verse_meaning_state.specs.Waits.{eqn}
use Rattle.verse_meaning_state.proofs.Numbers.{eqn_is, eqn_not}
use Rattle.verse_code_machine_parents.proofs.Lists.{no_both}
use Rattle.verse_sorts.specs.Sorts as s
use Rattle.verse_sorts.specs.Sorts.{Sort}
use Rattle.verse_verify_kept.specs.Notes.{ClassNote, FuncNote, Point, Notes, parent_in}
use Rattle.verse_verify_kept.specs.Rules.{Fit, AllFrom, from_no, from_so, nones, rest_of, Begins, Overrides, ClassIs, MainIs, Verified}
use Rattle.verse_verify_faults.specs.Fitting.{same, fit}
use Rattle.verse_verify_faults.specs.Spots.{Spot, Table, spot_at, cut}
use Rattle.verse_verify_faults.specs.Faults.{on_spot, begins, begins_at, fault_at, fault_here, first_fault, or_later}
use Rattle.verse_verify_faults.specs.Faults.{comes_back, prefix, same_each, overrides, all_override, takes_object, is_method, are_methods}
use Rattle.verse_verify_faults.specs.Faults.{methods_at, slots_in, inherits, class_is, class_fault, takes_inputs, func_is, func_fault}
use Rattle.verse_verify_faults.specs.Faults.{or_else, after_tables, notes_fault}
use Rattle.verse_verify_faults.proofs.Leading.{notes, point_there, Fitting}
use Rattle.verse_verify_laws.specs.Laws.{Formed}
use Rattle.verse_verify_laws.proofs.Holding.{Spotted, spotted}
use Rattle.verse_verify_laws.proofs.Tables.{all_get}
use Rattle.verse_verify_clean.specs.Laws.{Told, VerifiedNotes}
use Rattle.verse_verify_clean.proofs.Fitting as fitting
use Rattle.verse_verify_clean.proofs.Leading.{fits, each_fits}
use Rattle.verse_verify_clean.proofs.Steps.{implied}
use Rattle.verse_verify_clean.proofs.Holding.{none_back, nil_back, some_back, bare_spot}
use Rattle.verse_verify_clean.proofs.Every.{none_here}

here : (k : ℕ) → k + 0 ≡ k
here k = omega arith

next : (k j : ℕ) → k + suc j ≡ suc k + j
next k j = omega arith

length_less : {m n : ℕ} → suc m ≡ suc n → m ≡ n
length_less e = omega (arith, e)

no_length : {n : ℕ} → 0 ≡ suc n → ⊥
no_length e = omega (arith, e)

cond_some : (b : Bool) (x y : Option ℕ) → b ≡ true → x ≡ None → cond b x y ≡ None
cond_some true x y e f = f
cond_some false x y e f = no_both (sym e)

module _ (c : Code) (t : Table) (told : Told c t) where
  abbrev N : Notes
  N = notes c t

  -- V3
  begin : (k : ℕ) (f : Func) (g : FuncNote) → Begins c N f k g → on_spot (spot_at t f.entry) (λ q. begins c t k f g q) ≡ true
  begin k f g b = by_spot (spotted c t f.entry b.point b.live)
    where
      by_spot : Spotted c t f.entry b.point → on_spot (spot_at t f.entry) (λ q. begins c t k f g q) ≡ true
      by_spot x =
          let q = x.spot in
          let e = bare_spot q (ap (λ (r : Point). r.stack) x.is ∙ b.stack) (ap (λ (r : Point). r.tries) x.is ∙ b.tries) in
          subst (λ m. on_spot m (λ q. begins c t k f g q) ≡ true) (sym x.there)
          (and_from _ _ (and_from _ _ (and_from _ _ (and_from _ _ (and_from _ _ (and_from _ _ (and_from _ _ (and_from _ _
          (fitting.same_number q.func k (ap (λ (r : Point). r.func) x.is ∙ b.func))
          (none_back q.arm (ap (λ (r : Point). r.arm) x.is ∙ b.arm))) (nil_back q.stack e.0)) (nil_back q.tries e.1))
          (none_back q.block (ap (λ (r : Point). r.block) x.is ∙ b.block)))
          (nil_back q.outer (ap (λ (r : Point). r.outer) x.is ∙ b.outer)))
          (fitting.same_number q.under 0 (ap (λ (r : Point). r.under) x.is ∙ b.under)))
          (nil_back q.defers (ap (λ (r : Point). r.defers) x.is ∙ b.defers)))
          (each_fits c t told (subst (λ (r : Point). Fitting c t (g.params ++ nones (f.locals - f.params)) r.locals)
          (sym x.is) b.locals)))

  entries : (k : ℕ) (fs : List Func) (gs : List FuncNote) (i : ℕ) → length gs ≡ length fs →
      ((j : ℕ) (f : Func) (g : FuncNote) → slice_get fs j ≡ Some f → slice_get gs j ≡ Some g → Begins c N f (k + j) g) →
      begins_at c t k fs gs i ≡ true
  entries k [] gs i e h = refl
  entries k (f ∷ fs) [] i e h = elim (no_length e) [ ]
  entries k (f ∷ fs) (g ∷ gs) i e h =
      and_from (cond (eqn f.entry i) (on_spot (spot_at t i) (λ q. begins c t k f g q)) true) (begins_at c t (suc k) fs gs i)
      (by_entry (eqn f.entry i) refl)
      (entries (suc k) fs gs i (length_less e) (λ j f g a b. subst (λ n. Begins c N f n g) (next k j) (h (suc j) f g a b)))
    where
      by_entry : (b : Bool) → eqn f.entry i ≡ b → cond b (on_spot (spot_at t i) (λ q. begins c t k f g q)) true ≡ true
      by_entry true eq =
          subst (λ i. on_spot (spot_at t i) (λ q. begins c t k f g q) ≡ true) (eqn_is f.entry i eq)
          (begin k f g (subst (λ n. Begins c N f n g) (here k) (h 0 f g refl refl)))
      by_entry false eq = refl

  -- V4 to V9
  no_fault : (k : ℕ) (ops : List Op) → ((i : ℕ) (op : Op) → slice_get ops i ≡ Some op → fault_at c t (k + i) op ≡ None) →
      first_fault c t k ops ≡ None
  no_fault k [] h = refl
  no_fault k (op ∷ ops) h =
      ap (λ m. or_later c t k m (first_fault c t (suc k) ops))
      (subst (λ n. fault_at c t n op ≡ None) (here k) (h 0 op refl)) ∙
      no_fault (suc k) ops (λ i op e. subst (λ n. fault_at c t n op ≡ None) (next k i) (h (suc i) op e))

  -- V2: no chain of parents leads back
  not_back : (n k : ℕ) (b : Option ℕ) → ((d : ℕ) → b ≡ Some d → told.falling.rank d < told.falling.rank k) →
      comes_back c t n k b ≡ false
  not_back zero k b h = refl
  not_back (suc n) k None h = refl
  not_back (suc n) k (Some d) h =
      subst (λ b. cond b true (comes_back c t n k (parent_in (slice_get t.classes d))) ≡ false)
      (sym (eqn_not k d (λ e. above (told.falling.rank d) (told.falling.rank k) (h d refl) (ap told.falling.rank e))))
      (not_back n k (parent_in (slice_get t.classes d))
      (λ f e. lower (told.falling.rank f) (told.falling.rank d) (told.falling.rank k) (told.falling.falls d f e) (h d refl)))
    where
      above : (a b : ℕ) → a < b → b ≡ a → ⊥
      above a b l e = omega (arith, l, e)

      lower : (a b d : ℕ) → a < b → b < d → a < d
      lower a b d l m = omega (arith, l, m)

  prefix_back : (ys more xs : List Sort) → xs ≡ ys ++ more → prefix c t ys xs ≡ true
  prefix_back ys more xs e = subst (λ xs. prefix c t ys xs ≡ true) (sym e) (begins_so ys)
    where
      begins_so : (ys : List Sort) → prefix c t ys (ys ++ more) ≡ true
      begins_so [] = refl
      begins_so (y ∷ ys) = and_from (same y y) (prefix c t ys (ys ++ more)) (fitting.same_back y) (begins_so ys)

  same_lists : (xs ys : List Sort) → xs ≡ ys → same_each c t xs ys ≡ true
  same_lists xs ys e =
      and_from (eqn (length xs) (length ys)) (prefix c t xs ys) (fitting.same_number (length xs) (length ys) (ap length e))
      (prefix_back xs [] ys (sym e ∙ all xs))
    where
      all : (xs : List Sort) → xs ≡ xs ++ []
      all [] = refl
      all (x ∷ xs) = ap (λ zs. x ∷ zs) (all xs)

  override_back : (f g : FuncNote) → Overrides c N f g → overrides c t (Some f) (Some g) ≡ true
  override_back f g x =
      and_from _ _ (and_from _ _ (and_from _ _ (same_lists (rest_of f.params) (rest_of g.params) x.params)
      (fits c t told x.result)) (implied f.may_fail g.may_fail x.fails)) (implied f.may_wait g.may_wait x.waits)

  -- in place of each method of the parent there is one
  record Method (gs : List ℕ) (m : ℕ) (g : FuncNote) : Type 0 where
    pub number : ℕ
    pub func : FuncNote
    pub is_method : slice_get gs m ≡ Some number
    pub noted : slice_get t.functions number ≡ Some func
    pub overrides : Overrides c N func g

  record Noted (j : ℕ) : Type 0 where
    pub func : FuncNote
    pub is : slice_get t.functions j ≡ Some func

  all_back : (fs gs : List ℕ) → ((m j : ℕ) → slice_get fs m ≡ Some j → Noted j) →
      ((m j : ℕ) (g : FuncNote) → slice_get fs m ≡ Some j → slice_get t.functions j ≡ Some g → Method gs m g) →
      all_override c t fs gs ≡ true
  all_back [] gs n h = refl
  all_back (j ∷ fs) [] n h =
      let x = n 0 j refl in
      elim (none-some _ (h 0 j x.func refl x.is).is_method) [ ]
  all_back (j ∷ fs) (i ∷ gs) n h =
      let x = n 0 j refl in
      let y = h 0 j x.func refl x.is in
      and_from (overrides c t (slice_get t.functions i) (slice_get t.functions j)) (all_override c t fs gs)
      (subst (λ m. overrides c t (slice_get t.functions i) m ≡ true) (sym x.is)
      (subst (λ m. overrides c t m (Some x.func) ≡ true) (sym (ap (λ i. slice_get t.functions i) (same_Some _ _ y.is_method) ∙ y.noted))
      (override_back y.func x.func y.overrides)))
      (all_back fs gs (λ m k e. n (suc m) k e) (λ m k g e f. later (h (suc m) k g e f)))
    where
      later : {m : ℕ} {g : FuncNote} → Method (i ∷ gs) (suc m) g → Method gs m g
      later y = record {
        number = y.number;
        func = y.func;
        is_method = y.is_method;
        noted = y.noted;
        overrides = y.overrides;
      }

  own_back : (k : ℕ) (js : List ℕ) → ((m j : ℕ) (g : FuncNote) → slice_get js m ≡ Some j → slice_get t.functions j ≡ Some g →
      (first : Sort) × (g.params ≡ first ∷ rest_of g.params) × Fit c N (s.obj k) first) → are_methods c t k js ≡ true
  own_back k [] h = refl
  own_back k (j ∷ js) h =
      and_from (is_method c t k (slice_get t.functions j)) (are_methods c t k js) (by_note (slice_get t.functions j) refl)
      (own_back k js (λ m i g e f. h (suc m) i g e f))
    where
      by_note : (m : Option FuncNote) → slice_get t.functions j ≡ m → is_method c t k m ≡ true
      by_note None e = refl
      by_note (Some g) e =
          let x = h 0 j g refl e in
          subst (λ ps. takes_object c t k ps ≡ true) (sym x.1) (fits c t told x.2)

  -- the one part of a code's validity that is needed
  abbrev ClassesAre : Type 0
  ClassesAre = All (IsClass (length c.functions)) c.classes

  class_back : (formed : Formed c t) (are : ClassesAre) (k : ℕ) (x : ClassNote) (q : Class) → slice_get t.classes k ≡ Some x →
      ClassIs c N k x q → class_is c t k x q ≡ true
  class_back formed are k x q e r =
      and_from _ _ (and_from _ _ (subst (λ b. not b ≡ true) (sym (not_back (length t.classes) k x.parent
      (λ d h. told.falling.falls k d (ap parent_in e ∙ h)))) refl) (by_parent x.parent refl))
      (own_back k q.methods (λ m j g h n. r.own m j g h n))
    where
      methods_noted : (b : ℕ) (m : Option Class) → slice_get c.classes b ≡ m → (n j : ℕ) →
          slice_get (methods_at c t m) n ≡ Some j → Noted j
      methods_noted b None h n j e = elim (none-some _ e) [ ]
      methods_noted b (Some o) h n j e =
          let is = all_get (IsClass (length c.functions)) c.classes b o are h in
          let less = all_get (λ f. f < length c.functions) o.methods n j is.methods e in
          let there = get_within t.functions j (subst (λ n. j < n) (sym formed.functions) less) in
          record { func = there.0; is = there.1 }

      as_method : {m : ℕ} {g : FuncNote} → (i : ℕ) × (f : FuncNote) × (slice_get q.methods m ≡ Some i) ×
          (slice_get t.functions i ≡ Some f) × Overrides c N f g → Method q.methods m g
      as_method y = record { number = y.0; func = y.1; is_method = y.2; noted = y.3; overrides = y.4 }

      methods_taken : (b : ℕ) → x.parent ≡ Some b → (m : Option Class) → slice_get c.classes b ≡ m → (n j : ℕ) (g : FuncNote) →
          slice_get (methods_at c t m) n ≡ Some j → slice_get t.functions j ≡ Some g → Method q.methods n g
      methods_taken b p None h n j g e f = elim (none-some _ e) [ ]
      methods_taken b p (Some o) h n j g e f = as_method (r.inherited b o n j g p h e f)

      by_parent : (m : Option ℕ) → x.parent ≡ m → inherits c t m x q ≡ true
      by_parent None h = refl
      by_parent (Some b) h =
          let y = r.parent b h in
          let more = r.slots b y.0 h y.1 in
          and_from _ _ (and_from _ _ (some_back (slice_get t.classes b) y.0 y.1)
          (subst (λ m. prefix c t (slots_in c t m) x.slots ≡ true) (sym y.1) (prefix_back y.0.slots more.0 x.slots more.1)))
          (all_back (methods_at c t (slice_get c.classes b)) q.methods (methods_noted b (slice_get c.classes b) refl)
          (methods_taken b h (slice_get c.classes b) refl))

  no_class : (k : ℕ) (xs : List ClassNote) (qs : List Class) → length xs ≡ length qs →
      ((j : ℕ) (x : ClassNote) (q : Class) → slice_get xs j ≡ Some x → slice_get qs j ≡ Some q → class_is c t (k + j) x q ≡ true) →
      class_fault c t k xs qs ≡ None
  no_class k [] qs e h = refl
  no_class k (x ∷ xs) [] e h = elim (no_length (sym e)) [ ]
  no_class k (x ∷ xs) (q ∷ qs) e h =
      cond_some (class_is c t k x q) _ _ (subst (λ n. class_is c t n x q ≡ true) (here k) (h 0 x q refl refl))
      (no_class (suc k) xs qs (length_less e) (λ j x q a b. subst (λ n. class_is c t n x q ≡ true) (next k j) (h (suc j) x q a b)))

  inputs_back : {xs : List Sort} → AllFrom c N (s.list s.int) xs → takes_inputs c t xs ≡ true
  inputs_back from_no = refl
  inputs_back (from_so {b = b} {xs = xs} f r) =
      and_from (fit t.classes (s.list s.int) b) (takes_inputs c t xs) (fits c t told f) (inputs_back r)

  func_back : (k : ℕ) (g : FuncNote) → (g.may_fail ≡ true → g.may_wait ≡ true → ⊥) → (k ≡ c.main → MainIs c N g) →
      func_is c t k g ≡ true
  func_back k g h m =
      and_from (not (g.may_fail && g.may_wait)) _ (never_both g.may_fail g.may_wait h) (by_main (eqn k c.main) refl)
    where
      never_both : (a b : Bool) → (a ≡ true → b ≡ true → ⊥) → not (a && b) ≡ true
      never_both true true h = elim (h refl refl) [ ]
      never_both true false h = refl
      never_both false b h = refl

      by_main : (b : Bool) → eqn k c.main ≡ b → cond b (not g.may_fail && takes_inputs c t g.params) true ≡ true
      by_main false e = refl
      by_main true e =
          let x = m (eqn_is k c.main e) in
          and_from (not g.may_fail) (takes_inputs c t g.params) (subst (λ b. not b ≡ true) (sym x.sure) refl)
          (inputs_back x.params)

  no_func : (k : ℕ) (gs : List FuncNote) → ((j : ℕ) (g : FuncNote) → slice_get gs j ≡ Some g → func_is c t (k + j) g ≡ true) →
      func_fault c t k gs ≡ None
  no_func k [] h = refl
  no_func k (g ∷ gs) h =
      cond_some (func_is c t k g) _ _ (subst (λ n. func_is c t n g ≡ true) (here k) (h 0 g refl))
      (no_func (suc k) gs (λ j g e. subst (λ n. func_is c t n g ≡ true) (next k j) (h (suc j) g e)))

  from_zero : (i : ℕ) → i ≡ 0 + i
  from_zero i = omega arith

  module _ (are : ClassesAre) (formed : Formed c t) (v : Verified c N) where
    classes_fine : class_fault c t 0 t.classes c.classes ≡ None
    classes_fine = no_class 0 t.classes c.classes formed.classes
        (λ j x q a b. subst (λ k. class_is c t k x q ≡ true) (from_zero j) (class_back formed are j x q a (v.classes j x q a b)))

    functions_fine : func_fault c t 0 t.functions ≡ None
    functions_fine = no_func 0 t.functions (λ j g e. subst (λ k. func_is c t k g ≡ true) (from_zero j)
        (func_back j g (v.either j g e) (λ m. v.main g (subst (λ k. slice_get t.functions k ≡ Some g) m e))))

    op_fine : (i : ℕ) (op : Op) → slice_get c.ops i ≡ Some op → fault_at c t i op ≡ None
    op_fine i op is =
        cond_some (begins_at c t 0 c.functions t.functions i) _ _
        (entries 0 c.functions t.functions i formed.functions
        (λ j f g a b. subst (λ k. Begins c N f k g) (from_zero j) (v.begins j f g a b))) (by_spot (spot_at t i) refl)
      where
        by_spot : (m : Option Spot) → spot_at t i ≡ m → fault_here c t i m op ≡ None
        by_spot None e = refl
        by_spot (Some p) e =
            none_here c t told i p op e is (v.live i (cut p) (point_there c t i p e (told.even i p e)))

    pub clean : notes_fault c t ≡ None
    clean = ap (λ m. after_tables c t (or_else c t m (func_fault c t 0 t.functions))) classes_fine ∙
        (ap (λ m. after_tables c t m) functions_fine ∙
        no_fault 0 c.ops (λ i op e. subst (λ k. fault_at c t k op ≡ None) (from_zero i) (op_fine i op e)))

pub verified_notes : VerifiedNotes
verified_notes c t valid formed told v = clean c t told valid.classes formed v
