-- What is visible in a tree stands in a local of the frame.
use Rattle.std.proofs.Common.{◌≡◌, ℕ, suc, Bool, true, false, cond, List, [], ◌∷◌, ◌++◌, length, Option, Some, None}
use Rattle.std.proofs.Common.{refl, sym, ◌∙◌, ap}
use Rattle.std.proofs.Common.{subst, true≢false}
use Rattle.std.proofs.lemmas.Option.{none-some, same_Some}
use Rattle.std.specs.Str.{bytes_eq}
use Rattle.verse_tree.specs.Tree.{Bytes}
use Rattle.verse_tree.specs.ItemTree.{ParamTree}
use Rattle.verse_tree.specs.declared.tables.Ref.{Ref}
use Rattle.verse_tree.specs.declared.tables.Ref.TheVariants as ref
use Rattle.verse_names_tables.specs.Names.{Table, look}
use Rattle.verse_sorts.specs.Sorts.{Sort}
use Rattle.verse_meaning.specs.Programs.{Program, same_name}
use Rattle.verse_meaning.specs.Residuals.{Binder, no_name, a_constant, a_variable, Generator}
use Rattle.verse_meaning.specs.Evaluating.{Statement, plain, defines, defers, generates}
use Rattle.verse_meaning.specs.Forms.{this_name}
use Rattle.verse_meaning.proofs.Names.{one_test, test_same}
use Rattle.verse_sound_rules.specs.Found.{Allowed, New}
use Rattle.verse_sound_rules.specs.Found as rules
use Rattle.verse_sound_rules.specs.Fine.{defined_behind, generated_behind, stated_behind, on_statement, Defines}
use Rattle.verse_sound_rules.specs.Fine.{Generates}
use Rattle.verse_sound_rules.specs.Fine.{takes_elements, takes_entries, takes_range}
use Rattle.verse_sound_rules.specs.Programs.{params_behind, FineParams}
use Rattle.lower_code.specs.Scopes.{constant_at, variable_at, hidden, Scope, Found, fixed, varies, absent, find}
use Rattle.lower_code.specs.Scopes.{is_fixed, is_varies}
use Rattle.lower_code.specs.Scopes.{this_found}
use Rattle.lower_code.specs.Lowering.{with_binder, with_generator, scope_stated}
use Rattle.lower_code.specs.Programs.{params_scope}
use Rattle.verse_sound_rules.proofs.Tables.{look_new, look_old}

abbrev pub is_there : Found → Bool
is_there (fixed l) = true
is_there (varies l) = true
is_there absent = false

module _ (f : rules.Found) where
  -- A visible name has a local, which is the cell of a variable where it is one; in a method there is a `Self`.
  pub record Sees (this : Option ℕ) (xs : Table) (sc : Scope) : Type 0 where
    pub names : (x : Bytes) (r : Ref) → look x xs ≡ Some r → is_there (find x sc) ≡ true
    pub variables : (x : Bytes) (m : ℕ) → look x xs ≡ Some (ref.Local m) → f.is_var m ≡ true → is_varies
        (find x sc) ≡ true
    pub own : (c : ℕ) → this ≡ Some c → is_fixed (this_found sc) ≡ true

  pub sees_nothing : (sc : Scope) → Sees None [] sc
  sees_nothing sc = record {
    names = λ x r e. elim (none-some r e) [ ];
    variables = λ x m e v. elim (none-some _ e) [ ];
    own = λ c e. elim (none-some c e) [ ];
  }

  pub sees_own : (this : Option ℕ) (sc : Scope) → Sees this [] (constant_at this_name ∷ sc)
  sees_own this sc = record {
    names = λ x r e. elim (none-some r e) [ ];
    variables = λ x m e v. elim (none-some _ e) [ ];
    own = λ c e. refl;
  }

  -- a slot without a name
  pub sees_hidden : {this : Option ℕ} {xs : Table} {sc : Scope} → Sees this xs sc → Sees this xs (hidden ∷ sc)
  sees_hidden g = record {
    names = λ x r e. g.names x r e;
    variables = λ x m e v. g.variables x m e v;
    own =
        λ c e. g.own c e;
  }

  -- ---- a name more

  local_same : (m n : ℕ) → ref.Local m ≡ ref.Local n → m ≡ n
  local_same m n h = cc

  module _ {this : Option ℕ} {xs : Table} {sc : Scope} (y : Bytes) (r : Ref) (new : New y xs)
      (g : Sees this xs sc) where
    named_new : (x : Bytes) (q : Ref) → bytes_eq x y ≡ true → look x (xs ++ (y, r) ∷ []) ≡ Some q → r ≡ q
    named_new x q same e =
        same_Some _ _ (sym (look_new y r xs new.0) ∙ subst (λ z. look z (xs ++ (y, r) ∷ []) ≡ Some q) (test_same x y same) e)

    still_named : (x : Bytes) (l : Found) (q : Ref) → is_there l ≡ true → look x (xs ++ (y, r) ∷ []) ≡ Some q →
        (b : Bool) →
        same_name x y ≡ b → is_there (cond b l (find x sc)) ≡ true
    still_named x l q here e true k = here
    still_named x l q here e false k = g.names x q (sym (look_old x y r xs (sym (one_test x y) ∙ k)) ∙ e)

    still_varies : (x : Bytes) (l : Found) (m : ℕ) → (r ≡ ref.Local m → is_varies l ≡ true) →
        look x (xs ++ (y, r) ∷ []) ≡ Some (ref.Local m) → f.is_var m ≡ true → (b : Bool) → same_name x y ≡ b →
        is_varies (cond b l (find x sc)) ≡ true
    still_varies x l m here e v true k = here (named_new x (ref.Local m) (sym (one_test x y) ∙ k) e)
    still_varies x l m here e v false k = g.variables x m (sym (look_old x y r xs (sym (one_test x y) ∙ k)) ∙ e) v

    still_own : (l : Found) (c : ℕ) → this ≡ Some c → is_fixed (cond (same_name this_name y) l
        (find this_name sc)) ≡ true
    still_own l c e = subst (λ b. is_fixed (cond b l (find this_name sc)) ≡ true) (sym new.1) (g.own c e)

    pub sees_constant : ((m : ℕ) → r ≡ ref.Local m → f.is_var m ≡ false) → Sees this (xs ++ (y, r) ∷ [])
        (constant_at y ∷ sc)
    sees_constant fast = record {
      names = λ x q e. still_named x (fixed (length sc)) q refl e (same_name x y) refl;
      variables = λ x m e v. still_varies x (fixed (length sc)) m (λ k. absurd (true≢false (sym v ∙ fast m k))) e v
          (same_name x y) refl;
      own = still_own (fixed (length sc));
    }

    pub sees_variable : Sees this (xs ++ (y, r) ∷ []) (variable_at y ∷ sc)
    sees_variable = record {
      names = λ x q e. still_named x (varies (length sc)) q refl e (same_name x y) refl;
      variables = λ x m e v. still_varies x (varies (length sc)) m (λ k. refl) e v (same_name x y) refl;
      own = still_own (varies (length sc));
    }

  -- a local constant of the checker
  fast_local : (n : ℕ) → f.is_var n ≡ false → (m : ℕ) → ref.Local n ≡ ref.Local m → f.is_var m ≡ false
  fast_local n v m e = subst (λ z. f.is_var z ≡ false) (local_same n m e) v

  fast_key : (n m : ℕ) → ref.Key n ≡ ref.Local m → f.is_var m ≡ false
  fast_key n m e = absurd (cc)

  -- two constants in the other order
  turned : (test : Found → Bool) (a b : Bool) (l m : ℕ) (o : Found) → test (fixed l) ≡ test (fixed m) →
      test (cond a (fixed l) (cond b (fixed m) o)) ≡ true → test (cond b (fixed l) (cond a (fixed m) o)) ≡ true
  turned test true true l m o e h = h
  turned test true false l m o e h = sym e ∙ h
  turned test false true l m o e h = e ∙ h
  turned test false false l m o e h = h

  sees_turned : {this : Option ℕ} {xs : Table} {sc : Scope} (y z : Bytes) → Sees this xs
      (constant_at y ∷ constant_at z ∷ sc) →
      Sees this xs (constant_at z ∷ constant_at y ∷ sc)
  sees_turned {sc = sc} y z g = record {
    names = λ x r e. turned is_there (same_name x y) (same_name x z) (suc (length sc)) (length sc) (find x sc) refl
        (g.names x r e);
    variables = λ x m e v. turned is_varies (same_name x y) (same_name x z) (suc (length sc)) (length sc)
        (find x sc) refl
        (g.variables x m e v);
    own = λ c e. turned is_fixed (same_name this_name y) (same_name this_name z) (suc (length sc)) (length sc)
        (find this_name sc) refl
        (g.own c e);
  }

  pub sees_params : {this : Option ℕ} {xs : Table} {sc : Scope} (p : Program) (ps : List ParamTree) (qs : List Sort) →
      FineParams p f xs ps qs → Sees this xs sc → Sees this (params_behind ps xs) (params_scope ps sc)
  sees_params p [] [] h g = g
  sees_params p [] (q ∷ qs) h g = elim h [ ]
  sees_params p (x ∷ ps) [] h g = elim h [ ]
  sees_params p (x ∷ ps) (q ∷ qs) h g = sees_params p ps qs h.3
      (sees_constant x.name (ref.Local x.number) h.1 g (fast_local x.number h.2))

  pub params_many : (p : Program) (xs : Table) (ps : List ParamTree) (qs : List Sort) → FineParams p f xs ps qs →
      length qs ≡ length ps
  params_many p xs [] [] h = refl
  params_many p xs [] (q ∷ qs) h = elim h [ ]
  params_many p xs (x ∷ ps) [] h = elim h [ ]
  params_many p xs (x ∷ ps) (q ∷ qs) h = ap suc (params_many p (xs ++ (x.name, ref.Local x.number) ∷ []) ps qs h.3)

  module _ (p : Program) {this : Option ℕ} {xs : Table} {sc : Scope} where
    pub sees_defined : (y : Binder) (n : ℕ) → Defines p f y n xs → Sees this xs sc →
        Sees this (defined_behind y n xs) (with_binder y sc)
    sees_defined no_name n h g = elim h [ ]
    sees_defined (a_constant x) n h g = sees_constant x (ref.Local n) h.0 g (fast_local n h.1)
    sees_defined (a_variable x pl) n h g = sees_variable x (ref.Local n) h.0 g

    pub sees_generated : {n : ℕ} {q : Sort} {y : Generator} → Generates p f n xs q y → Sees this xs sc →
        Sees this (generated_behind y n xs) (with_generator y sc)
    sees_generated {n} (takes_elements {x} new v from) g =
        sees_hidden (sees_constant x (ref.Local n) new (sees_hidden (sees_hidden g)) (fast_local n v))
    sees_generated {n} (takes_entries {k} {x} new_k new v from fit) g =
        sees_turned x k (sees_constant x (ref.Local n) new (sees_constant k (ref.Key n) new_k (sees_hidden
        (sees_hidden g)) (fast_key n))
        (fast_local n v))
    sees_generated {n} (takes_range {x} new v fit int) g =
        sees_hidden (sees_constant x (ref.Local n) new (sees_hidden (sees_hidden g)) (fast_local n v))

    -- behind a statement, and behind a clause of a `for`
    pub sees_stated : (A B C D : Type 0) (s : Statement) (n : ℕ) →
        on_statement s A (λ y. B × C × Defines p f y n xs) (λ d. D) (λ y. ⊥) → Sees this xs sc →
        Sees this (stated_behind s n xs) (scope_stated s sc)
    sees_stated A B C D plain n h g = g
    sees_stated A B C D (defines y) n h g = sees_defined y n h.2 g
    sees_stated A B C D (defers d) n h g = g
    sees_stated A B C D (generates y) n h g = elim h [ ]
