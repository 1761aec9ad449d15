-- Numbers in a set stand as in a list.
use Rattle.std.proofs.Common.{◌≡◌, ℕ, Bool, true, false, List, [], ◌∷◌, ◌++◌, nat_eq, refl, ◌∙◌, sym}
use Rattle.std.specs.List.{list_any}
use Rattle.indexmap.specs.IndexSet.{insert_key}
use Rattle.run_save_format.specs.Reading.{contains}

pub any_number : (n : ℕ) (ks : List ℕ) → contains n ks ≡ list_any (nat_eq n) ks
any_number n [] = refl
any_number n (k ∷ ks) = by (nat_eq n k) refl (any_number n ks)
  where
    by : (b : Bool) → nat_eq n k ≡ b → contains n ks ≡ list_any (nat_eq n) ks → contains n (k ∷ ks) ≡ list_any (nat_eq n) (k ∷ ks)
    by true e h = rw e refl
    by false e h = rw e h

pub new_number : (n : ℕ) (ks : List ℕ) → contains n ks ≡ false → insert_key nat_eq ks n ≡ ks ++ n ∷ []
new_number n ks h = let o : list_any (nat_eq n) ks ≡ false = sym (any_number n ks) ∙ h in rw o refl
