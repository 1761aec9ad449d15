-- What is visible in a tree stands in a local whose sort is known.
use Rattle.std.proofs.Common.{◌≡◌, ℕ, suc, ◌<◌, ◌≤◌, Bool, true, false, cond, List, [], ◌∷◌, ◌++◌, length, Option, Some, None}
use Rattle.std.proofs.Common.{refl, sym, ◌∙◌, ap, subst, arith}
use Rattle.std.proofs.lemmas.Option.{none-some, same_Some}
use Rattle.std.specs.Str.{bytes_eq}
use Rattle.verse_tree.specs.Tree.{Bytes}
use Rattle.verse_tree.specs.declared.tables.Ref.{Ref}
use Rattle.verse_tree.specs.declared.tables.Ref.TheVariants as ref
use Rattle.verse_names_tables.specs.Names.{Table, look}
use Rattle.verse_sorts.specs.Sorts as s
use Rattle.verse_sorts.specs.Sorts.{Sort}
use Rattle.verse_sorts.specs.Typing.{at}
use Rattle.verse_meaning.specs.Programs.{same_name}
use Rattle.verse_meaning.specs.Forms.{this_name}
use Rattle.verse_sound_rules.specs.Found.{New}
use Rattle.verse_sound_rules.specs.Found as rules
use Rattle.lower_code.specs.Scopes.{constant_at, variable_at, hidden, Scope, Found, fixed, varies, find, this_found}
use Rattle.verse_meaning.proofs.Names.{one_test, test_same}
use Rattle.verse_sound_rules.proofs.Tables.{look_new, look_old}

-- the first locals are the same
abbrev pub SameBelow : ℕ → List Sort → List Sort → Type 0
SameBelow n ls ms = (l : ℕ) → l < n → at ms l ≡ at ls l

module _ (f : rules.Found) where
  -- what a name stands for is in a local below n
  pub data Named (n : ℕ) (ls : List Sort) : Ref → Found → Type 0 where
    constant_named : {m l : ℕ} → f.is_var m ≡ false → l < n → at ls l ≡ Some (f.sort m) → Named n ls (ref.Local m) (fixed l)
    variable_named : {m l : ℕ} → f.is_var m ≡ true → l < n → at ls l ≡ Some (s.var (f.sort m)) → Named n ls (ref.Local m) (varies l)
    key_named : {m l : ℕ} → l < n → at ls l ≡ Some (f.key m) → Named n ls (ref.Key m) (fixed l)

  -- the object of a method
  pub data IsOwn (n : ℕ) (ls : List Sort) (c : ℕ) : Found → Type 0 where
    is_own : {l : ℕ} → l < n → at ls l ≡ Some (s.obj c) → IsOwn n ls c (fixed l)

  pub record Sees (this : Option ℕ) (xs : Table) (sc : Scope) (ls : List Sort) : Type 0 where
    pub names : (x : Bytes) (r : Ref) → look x xs ≡ Some r → Named (length sc) ls r (find x sc)
    pub own : (c : ℕ) → this ≡ Some c → IsOwn (length sc) ls c (this_found sc)

  named_more : {n m : ℕ} {ls ms : List Sort} {r : Ref} {o : Found} → n ≤ m → SameBelow n ls ms → Named n ls r o → Named m ms r o
  named_more l h (constant_named v k e) = constant_named v (omega (arith, l, k)) (h _ k ∙ e)
  named_more l h (variable_named v k e) = variable_named v (omega (arith, l, k)) (h _ k ∙ e)
  named_more l h (key_named k e) = key_named (omega (arith, l, k)) (h _ k ∙ e)

  own_more : {n m c : ℕ} {ls ms : List Sort} {o : Found} → n ≤ m → SameBelow n ls ms → IsOwn n ls c o → IsOwn m ms c o
  own_more l h (is_own k e) = is_own (omega (arith, l, k)) (h _ k ∙ e)

  pub sees_nothing : (sc : Scope) (ls : List Sort) → Sees None [] sc ls
  sees_nothing sc ls = record { names = λ x r e. elim (none-some r e) [ ]; own = λ c e. elim (none-some c e) [ ] }

  pub sees_own : (c : ℕ) (ls : List Sort) → at ls 0 ≡ Some (s.obj c) → Sees (Some c) [] (constant_at this_name ∷ []) ls
  sees_own c ls h = record {
    names = λ x r e. elim (none-some r e) [ ];
    own = λ d e. is_own (omega arith) (h ∙ ap (λ k. Some (s.obj k)) (same_Some c d e));
  }

  -- with other locals behind
  pub sees_same : {this : Option ℕ} {xs : Table} {sc : Scope} {ls ms : List Sort} → SameBelow (length sc) ls ms →
      Sees this xs sc ls → Sees this xs sc ms
  sees_same h g = record {
    names = λ x r e. named_more (omega arith) h (g.names x r e);
    own = λ c e. own_more (omega arith) h (g.own c e);
  }

  -- a slot without a name
  pub sees_hidden : {this : Option ℕ} {xs : Table} {sc : Scope} {ls ms : List Sort} → SameBelow (length sc) ls ms →
      Sees this xs sc ls → Sees this xs (hidden ∷ sc) ms
  sees_hidden h g = record {
    names = λ x r e. named_more (omega arith) h (g.names x r e);
    own = λ c e. own_more (omega arith) h (g.own c e);
  }

  -- ---- a name more
  module _ {this : Option ℕ} {xs : Table} {sc : Scope} {ls : List Sort} (ms : List Sort) (y : Bytes) (r : Ref) (new : New y xs)
      (h : SameBelow (length sc) ls ms) (g : Sees this xs sc ls) where
    named_new : (x : Bytes) (q : Ref) → bytes_eq x y ≡ true → look x (xs ++ (y, r) ∷ []) ≡ Some q → r ≡ q
    named_new x q same e = same_Some r q (sym (look_new y r xs new.0) ∙ subst (λ z. look z (xs ++ (y, r) ∷ []) ≡ Some q)
        (test_same x y same) e)

    by_name : (o : Found) → Named (suc (length sc)) ms r o → (x : Bytes) (q : Ref) →
        look x (xs ++ (y, r) ∷ []) ≡ Some q → (b : Bool) → same_name x y ≡ b →
        Named (suc (length sc)) ms q (cond b o (find x sc))
    by_name o here x q e true k = subst (λ z. Named (suc (length sc)) ms z o) (named_new x q (sym (one_test x y) ∙ k) e) here
    by_name o here x q e false k = named_more (omega arith) h (g.names x q (sym (look_old x y r xs (sym (one_test x y) ∙ k)) ∙ e))

    still_own : (o : Found) (c : ℕ) → this ≡ Some c →
        IsOwn (suc (length sc)) ms c (cond (same_name this_name y) o (find this_name sc))
    still_own o c e = subst (λ b. IsOwn (suc (length sc)) ms c (cond b o (find this_name sc))) (sym new.1)
        (own_more (omega arith) h (g.own c e))

    pub sees_constant : Named (suc (length sc)) ms r (fixed (length sc)) → Sees this (xs ++ (y, r) ∷ []) (constant_at y ∷ sc) ms
    sees_constant here = record {
      names = λ x q e. by_name (fixed (length sc)) here x q e (same_name x y) refl;
      own = still_own (fixed (length sc));
    }

    pub sees_variable : Named (suc (length sc)) ms r (varies (length sc)) → Sees this (xs ++ (y, r) ∷ []) (variable_at y ∷ sc) ms
    sees_variable here = record {
      names = λ x q e. by_name (varies (length sc)) here x q e (same_name x y) refl;
      own = still_own (varies (length sc));
    }
