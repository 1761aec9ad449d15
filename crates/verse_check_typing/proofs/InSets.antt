-- Sets as lists.
use Rattle.std.proofs.Common.{◌≡◌, ℕ, Bool, true, false, List, [], ◌∷◌, ◌++◌, map, cond, bytes_eq, nat_eq, refl, ap, sym, ◌∙◌}
use Rattle.std.specs.List.{list_any}
use Rattle.indexmap.specs.IndexSet.{insert_key}
use denote.Ref.{Bor}
use Rattle.verse_check_typing.specs.Sets.{has_name, with_name, has_number, with_number}
use Rattle.verse_check_typing.specs.Views.{bytes_of}

pub any_name : (x : List ℕ) (ks : List (Bor (List ℕ))) → has_name x (map bytes_of ks) ≡ list_any (λ k. bytes_eq x k.now) ks
any_name x [] = refl
any_name x (k ∷ ks) = by (bytes_eq x k.now) refl (any_name x ks)
  where
    by : (b : Bool) → bytes_eq x k.now ≡ b → has_name x (map bytes_of ks) ≡ list_any (λ k. bytes_eq x k.now) ks →
        has_name x (map bytes_of (k ∷ ks)) ≡ list_any (λ k. bytes_eq x k.now) (k ∷ ks)
    by true e h = rw e refl
    by false e h = rw e h

pub any_number : (n : ℕ) (ks : List ℕ) → has_number n ks ≡ list_any (nat_eq n) ks
any_number n [] = refl
any_number n (k ∷ ks) = by (nat_eq n k) refl (any_number n ks)
  where
    by : (b : Bool) → nat_eq n k ≡ b → has_number n ks ≡ list_any (nat_eq n) ks → has_number n (k ∷ ks) ≡ list_any (nat_eq n) (k ∷ ks)
    by true e h = rw e refl
    by false e h = rw e h

map_behind : (ks : List (Bor (List ℕ))) (x : Bor (List ℕ)) → map bytes_of (ks ++ x ∷ []) ≡ map bytes_of ks ++ x.now ∷ []
map_behind [] x = refl
map_behind (k ∷ ks) x = ap (λ l. k.now ∷ l) (map_behind ks x)

pub insert_name : (x : Bor (List ℕ)) (ks : List (Bor (List ℕ))) → map bytes_of (insert_key (λ a b. bytes_eq a.now b.now) ks x) ≡
    with_name x.now (map bytes_of ks)
insert_name x ks = by (list_any (λ k. bytes_eq x.now k.now) ks) refl
  where
    by : (b : Bool) → list_any (λ k. bytes_eq x.now k.now) ks ≡ b → map bytes_of (insert_key (λ a b. bytes_eq a.now b.now) ks x) ≡
        with_name x.now (map bytes_of ks)
    by true e = rw (any_name x.now ks, e) refl
    by false e = rw (any_name x.now ks, e) (map_behind ks x)

pub insert_number : (n : ℕ) (ks : List ℕ) → insert_key nat_eq ks n ≡ with_number n ks
insert_number n ks = by (list_any (nat_eq n) ks) refl
  where
    by : (b : Bool) → list_any (nat_eq n) ks ≡ b → insert_key nat_eq ks n ≡ with_number n ks
    by true e = rw (any_number n ks, e) refl
    by false e = rw (any_number n ks, e) refl
