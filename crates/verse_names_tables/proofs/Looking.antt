-- A map of names, read as a list.
use Rattle.std.proofs.Common.{◌≡◌, ℕ, suc, ◌+◌, true, false, List, [], ◌∷◌, length, nat_lt, map, cond, bytes_eq, Bool, Option, position}
use Rattle.std.proofs.Common.{refl, ap, sym, arith}
use Rattle.std.specs.Prelude.{Some, None}
use Prim.Native.Nat.compare
use Rattle.std.proofs.lemmas.Bool.Decides.{nat_tests}
use Rattle.std.specs.Map.{lookup, keys_of}
use Rattle.std.specs.List.{position_or_len}
use Rattle.indexmap.specs.IndexMap.{insert_entry}
use denote.Ref.{Bor}
use Rattle.verse_tree.specs.declared.tables.Ref.{Ref}
use Rattle.verse_names_tables.specs.Names.{look, place, one_further, put, meanings, names}
use Rattle.verse_names_tables.specs.Views.{bytes_now, entry_of}

abbrev pub same_name : Bor (List ℕ) → Bor (List ℕ) → Bool
same_name x y = bytes_eq x.now y.now

module _ {V : Type 0} where
  pub look_map : (x : List ℕ) (es : List (Bor (List ℕ) × V)) → look x (map entry_of es) ≡ lookup (λ k. bytes_eq x k.now) es
  look_map x [] = refl
  look_map x (e ∷ es) = ap (cond (bytes_eq x e.0.now) (Some e.1)) (look_map x es)

  pub put_map : (x : Bor (List ℕ)) (v : V) (es : List (Bor (List ℕ) × V)) →
      map entry_of (insert_entry same_name es x v) ≡ put x.now v (map entry_of es)
  put_map x v [] = refl
  put_map x v (e ∷ es) = by (bytes_eq x.now e.0.now) refl (put_map x v es)
    where
      by : (b : Bool) → bytes_eq x.now e.0.now ≡ b → map entry_of (insert_entry same_name es x v) ≡ put x.now v (map entry_of es) →
          map entry_of (insert_entry same_name (e ∷ es) x v) ≡ put x.now v (map entry_of (e ∷ es))
      by true p h = rw p refl
      by false p h = rw p (ap (λ l. entry_of e ∷ l) h)

pub meanings_map : (es : List (Bor (List ℕ) × Ref)) → meanings (map entry_of es) ≡ map (λ e. e.1) es
meanings_map [] = refl
meanings_map (e ∷ es) = ap (λ l. e.1 ∷ l) (meanings_map es)

pub names_map : (es : List (Bor (List ℕ) × Ref)) → names (map entry_of es) ≡ map bytes_now (map (λ e. e.0) es)
names_map [] = refl
names_map (e ∷ es) = ap (λ l. e.0.now ∷ l) (names_map es)

one_up : (n m : ℕ) → nat_lt (suc n) (suc m) ≡ nat_lt n m
one_up n m = rw (compare.suc-suc (suc n) m) refl

starts : (m : ℕ) → nat_lt 0 (suc m) ≡ true
starts m = grind (arith, nat_tests)

further : (k n l m : ℕ) → k ≡ suc n → l ≡ suc m → cond (nat_lt k l) (Some k) None ≡ one_further (cond (nat_lt n m) (Some n) None)
further k n l m e f = rw (e, f, one_up n m) (by (nat_lt n m))
  where
    by : (b : Bool) → cond b (Some (suc n)) None ≡ one_further (cond b (Some n) None)
    by true = ap Some (omega arith)
    by false = refl

module _ {V : Type 0} where
  pub place_map : (x : List ℕ) (es : List (Bor (List ℕ) × V)) → place x (map entry_of es) ≡ position (λ k. bytes_eq x k.now) (keys_of es)
  place_map x [] = refl
  place_map x (e ∷ es) = by (bytes_eq x e.0.now) refl (place_map x es)
    where
      by : (b : Bool) → bytes_eq x e.0.now ≡ b → place x (map entry_of es) ≡ position (λ k. bytes_eq x k.now) (keys_of es) →
          place x (map entry_of (e ∷ es)) ≡ position (λ k. bytes_eq x k.now) (keys_of (e ∷ es))
      by true p h = rw p (sym (ap (λ b. cond b (Some 0) None) (starts (length (keys_of es)))))
      by false p h =
          let n = position_or_len (λ k. bytes_eq x k.now) (keys_of es) in
          let m = length (keys_of es) in
          rw (p, h) (sym (further (1 + n) n (length (keys_of (e ∷ es))) m (omega arith) refl))
