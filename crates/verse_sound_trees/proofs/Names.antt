-- A name that the checker finds is found in the environment.
use Rattle.std.proofs.Common.{◌≡◌, ℕ, Bool, true, false, cond, [], ◌∷◌, ◌++◌, Option, Some, None, refl, sym}
use Rattle.std.proofs.Common.{subst, ap, ◌∙◌}
use Rattle.std.specs.Str.{bytes_eq}
use Rattle.verse_tree.specs.Tree.{Bytes}
use Rattle.verse_tree.specs.declared.tables.Ref.{Ref}
use Rattle.verse_tree.specs.declared.tables.Ref.TheVariants as ref
use Rattle.verse_value.specs.Val.{Val}
use Rattle.verse_names_tables.specs.Names.{Table}
use Rattle.verse_names_tables.specs.Names as names
use Rattle.verse_sorts.specs.Sorts.{Sort}
use Rattle.verse_sorts.specs.Typing.{Typing, Grows}
use Rattle.verse_sorts.proofs.Fitting.{is_more}
use Rattle.verse_meaning.specs.Residuals.{Env, Bound, constant}
use Rattle.verse_meaning.specs.Forms as forms
use Rattle.verse_meaning.specs.Forms.{bound_to, this_name}
use Rattle.verse_meaning.proofs.Names.{one_test, test_itself, test_same}
use Rattle.verse_sound_rules.specs.Found.{Found, New}
use Rattle.verse_sound_rules.proofs.Tables.{absent_test, look_new, look_old}
use Rattle.verse_sound_trees.specs.Names.{Holds, holds_value, holds_cell, HasThis, no_this, this_is, Sees}

some_ref : (m n : ℕ) → Some (ref.Local m) ≡ Some (ref.Local n) → m ≡ n
some_ref m n h = cc

some_key : (m n : ℕ) → Some (ref.Key m) ≡ Some (ref.Key n) → m ≡ n
some_key m n h = cc

found_here : (x y : Bytes) (b : Bound) (e : Env) → bytes_eq x y ≡ true → forms.look x (bound_to y b e) ≡ Some b
found_here x y b e q = rw (one_test x y, q)

found_there : (x y : Bytes) (b : Bound) (e : Env) → bytes_eq x y ≡ false → forms.look x (bound_to y b e) ≡ forms.look x e
found_there x y b e q = rw (one_test x y, q)

module _ (f : Found) where
  -- what is said of a name that is defined
  pub record Names (t : Typing) (xs : Table) (y : Bytes) (r : Ref) (b : Bound) : Type 0 where
    pub local : (n : ℕ) → r ≡ ref.Local n → Holds f t (f.sort n) (f.is_var n) (Some b)
    pub key : (n : ℕ) → r ≡ ref.Key n → Holds f t (f.key n) false (Some b)

  some_both : (r q : Ref) → Some r ≡ Some q → r ≡ q
  some_both r q h = cc

  local_key : {A : Type 0} (m n : ℕ) → ref.Local m ≡ ref.Key n → A
  local_key m n h = cc

  local_same : (m n : ℕ) → ref.Local m ≡ ref.Local n → m ≡ n
  local_same m n h = cc

  key_local : {A : Type 0} (m n : ℕ) → ref.Key m ≡ ref.Local n → A
  key_local m n h = cc

  key_same : (m n : ℕ) → ref.Key m ≡ ref.Key n → m ≡ n
  key_same m n h = cc

  module _ (t : Typing) (e : Env) where
    named_new : (xs : Table) (x y : Bytes) (r q : Ref) → New y xs → bytes_eq x y ≡ true → names.look x (xs ++ (y, r) ∷ []) ≡ Some q → r ≡ q
    named_new xs x y r q h same i =
        some_both r q (sym (look_new y r xs h.0) ∙ subst (λ z. names.look z (xs ++ (y, r) ∷ []) ≡ Some q) (test_same x y same) i)

    -- a definition: its name is seen from then on
    pub binds : (class : Option ℕ) (xs : Table) (y : Bytes) (r : Ref) (b : Bound) → New y xs → Names t xs y r b →
        Sees f t class xs e → Sees f t class (xs ++ (y, r) ∷ []) (bound_to y b e)
    binds class xs y r b h k g = record {
      locals = λ x m i. local x m i (bytes_eq x y) refl;
      keys = λ x m i. key x m i (bytes_eq x y) refl;
      this = subst (λ z. HasThis f t class (forms.constant_of z)) (sym (found_there this_name y b e (sym
          (one_test this_name y) ∙ h.1))) g.this;
    }
      where
        local : (x : Bytes) (m : ℕ) → names.look x (xs ++ (y, r) ∷ []) ≡ Some (ref.Local m) → (q : Bool) → bytes_eq x y ≡ q →
            Holds f t (f.sort m) (f.is_var m) (forms.look x (bound_to y b e))
        local x m i true q =
            subst (λ z. Holds f t (f.sort m) (f.is_var m) z) (sym (found_here x y b e q)) (k.local m (named_new xs x y r
            (ref.Local m) h q i))
        local x m i false q =
            subst (λ z. Holds f t (f.sort m) (f.is_var m) z) (sym (found_there x y b e q)) (g.locals x m (sym (look_old x y r xs q) ∙ i))

        key : (x : Bytes) (m : ℕ) → names.look x (xs ++ (y, r) ∷ []) ≡ Some (ref.Key m) → (q : Bool) → bytes_eq x y ≡ q →
            Holds f t (f.key m) false (forms.look x (bound_to y b e))
        key x m i true q =
            subst (λ z. Holds f t (f.key m) false z) (sym (found_here x y b e q)) (k.key m (named_new xs x y r (ref.Key m) h q i))
        key x m i false q =
            subst (λ z. Holds f t (f.key m) false z) (sym (found_there x y b e q)) (g.keys x m (sym (look_old x y r xs q) ∙ i))

    pub binds_local : (class : Option ℕ) (xs : Table) (y : Bytes) (n : ℕ) (b : Bound) → New y xs →
        Holds f t (f.sort n) (f.is_var n) (Some b) →
        Sees f t class xs e → Sees f t class (xs ++ (y, ref.Local n) ∷ []) (bound_to y b e)
    binds_local class xs y n b h k g = binds class xs y (ref.Local n) b h (record {
      local = λ m i. subst (λ z. Holds f t (f.sort z) (f.is_var z) (Some b)) (local_same n m i) k;
      key = λ m i. local_key n m i;
    }) g

    pub binds_value : (class : Option ℕ) (xs : Table) (y : Bytes) (n : ℕ) (w : Val) → New y xs → f.is_var n ≡ false →
        Rattle.verse_sorts.specs.Typing.Is f.up t w (f.sort n) → Sees f t class xs e →
        Sees f t class (xs ++ (y, ref.Local n) ∷ []) (bound_to y (constant w) e)
    binds_value class xs y n w h v i g =
        binds_local class xs y n (constant w) h (subst (λ z. Holds f t (f.sort n) z (Some (constant w))) (sym v) (holds_value i)) g

    pub binds_key : (class : Option ℕ) (xs : Table) (y : Bytes) (n : ℕ) (w : Val) → New y xs →
        Rattle.verse_sorts.specs.Typing.Is f.up t w (f.key n) → Sees f t class xs e →
        Sees f t class (xs ++ (y, ref.Key n) ∷ []) (bound_to y (constant w) e)
    binds_key class xs y n w h i g = binds class xs y (ref.Key n) (constant w) h (record {
      local = λ m j. key_local n m j;
      key = λ m j. subst (λ z. Holds f t (f.key z) false (Some (constant w))) (key_same n m j) (holds_value i);
    }) g

  -- where more is there the names are seen as before
  pub holds_more : {t u : Typing} {a : Sort} {m : Bool} {b : Option Bound} → Grows t u → Holds f t a m b → Holds f u a m b
  holds_more g (holds_value i) = holds_value (is_more f.up g i)
  holds_more g (holds_cell h) = holds_cell (g.cells _ _ h)

  pub this_more : {t u : Typing} {c : Option ℕ} {w : Option Val} → Grows t u → HasThis f t c w → HasThis f u c w
  this_more g no_this = no_this
  this_more g (this_is i) = this_is (is_more f.up g i)

  pub sees_more : {t u : Typing} {class : Option ℕ} {xs : Table} {e : Env} → Grows t u → Sees f t class xs e → Sees f u class xs e
  sees_more g h = record {
    locals = λ x n i. holds_more g (h.locals x n i);
    keys = λ x n i. holds_more g (h.keys x n i);
    this = this_more g h.this;
  }

  absent_both : (y : Bytes) (e : Bytes × Ref) (xs : Table) → names.look y (xs ++ e ∷ []) ≡ None →
      (names.look y xs ≡ None) × (bytes_eq y e.0 ≡ false)
  absent_both y e [] h = (refl, (absent_test (bytes_eq y e.0) e.1 None h).0)
  absent_both y e (d ∷ xs) h =
      let k = absent_test (bytes_eq y d.0) d.1 (names.look y (xs ++ e ∷ [])) h in
      let m = absent_both y e xs k.1 in (rw (k.0, m.0), m.1)

  other_way : (x y : Bytes) → bytes_eq x y ≡ false → bytes_eq y x ≡ false
  other_way x y h = by (bytes_eq y x) refl
    where
      differs : (q : Bool) → q ≡ true → q ≡ false → false ≡ true
      differs q h g = sym g ∙ h

      by : (q : Bool) → bytes_eq y x ≡ q → q ≡ false
      by true g = sym (differs (bytes_eq x y) (subst (λ z. bytes_eq x z ≡ true) (sym (test_same y x g)) (test_itself x)) h)
      by false g = refl

  -- two names that differ, in either order
  two_names : (q r : Bool) (a b : Ref) → (q ≡ true → r ≡ false) → cond q (Some a) (cond r (Some b) None) ≡ cond r (Some b) (cond q
      (Some a) None)
  two_names true true a b h = absurd (no (h refl))
    where
      no : true ≡ false → ⊥
      no h = cc
  two_names true false a b h = refl
  two_names false r a b h = refl

  swapped : (z k x : Bytes) (a b : Ref) (xs : Table) → bytes_eq k x ≡ false →
      names.look z ((xs ++ (k, a) ∷ []) ++ (x, b) ∷ []) ≡ names.look z ((xs ++ (x, b) ∷ []) ++ (k, a) ∷ [])
  swapped z k x a b [] h =
      two_names (bytes_eq z k) (bytes_eq z x) a b (λ q. subst (λ y. bytes_eq y x ≡ false) (sym (test_same z k q)) h)
  swapped z k x a b (d ∷ xs) h = ap (cond (bytes_eq z d.0) (Some d.1)) (swapped z k x a b xs h)

  -- the two names of `K -> V : M`
  pub binds_both : (t : Typing) (e : Env) (class : Option ℕ) (xs : Table) (k x : Bytes) (n : ℕ) (i w : Val) → New k xs →
      New x (xs ++ (k, ref.Key n) ∷ []) → f.is_var n ≡ false → Rattle.verse_sorts.specs.Typing.Is f.up t i (f.key n) →
      Rattle.verse_sorts.specs.Typing.Is f.up t w (f.sort n) → Sees f t class xs e →
      Sees f t class ((xs ++ (k, ref.Key n) ∷ []) ++ (x, ref.Local n) ∷ []) (bound_to k (constant i) (bound_to x (constant w) e))
  binds_both t e class xs k x n i w new_k new_x var ik iw g =
      let apart = absent_both x (k, ref.Key n) xs new_x.0 in
      let first = binds_value t e class xs x n w (apart.0, new_x.1) var iw g in
      let absent : names.look k (xs ++ (x, ref.Local n) ∷ []) ≡ None = look_old k x (ref.Local n) xs (other_way x k apart.1) ∙ new_k.0 in
      let both = binds_key t (bound_to x (constant w) e) class (xs ++ (x, ref.Local n) ∷ []) k n i (absent, new_k.1) ik first in
      record {
        locals = λ z m h. both.locals z m (sym (swapped z k x (ref.Key n) (ref.Local n) xs (other_way x k apart.1)) ∙ h);
        keys = λ z m h. both.keys z m (sym (swapped z k x (ref.Key n) (ref.Local n) xs (other_way x k apart.1)) ∙ h);
        this = both.this;
      }
