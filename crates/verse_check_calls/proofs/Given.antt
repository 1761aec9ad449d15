-- All fields are given where those are that have no default.
use Rattle.std.proofs.Common.{◌≡◌, ℕ, ◌+◌, List, [], ◌∷◌, ◌++◌, Bool, true, false, ◌&&◌, ◌||◌, Option, refl, ap, ◌∙◌}
use Rattle.std.specs.Prelude.{Some, None}
use Rattle.verse_tree.specs.declared.tables.FieldInfo.{FieldInfo}
use Rattle.verse_tree.specs.FieldLists.{lacking_one, lacking_from}
use Rattle.verse_check_typing.specs.Members.{all_given, has_default, is_place}
use Rattle.verse_check_typing.specs.Sets.{has_number}
use Rattle.verse_check_calls.specs.Given.{all_have}

from : (is : List ℕ) (n : ℕ) (fs : List FieldInfo) → all_have is (lacking_from n fs) ≡ all_given is n fs
from is n [] = refl
from is n (f ∷ fs) = by f.default (from is (n + 1) fs)
  where
    by : (o : Option ℕ) → all_have is (lacking_from (n + 1) fs) ≡ all_given is (n + 1) fs →
        all_have is (lacking_one n o ++ lacking_from (n + 1) fs) ≡ ((is_place o || has_number n is) && all_given is (n + 1) fs)
    by None h = ap (λ b. has_number n is && b) h
    by (Some d) h = h

pub all_lacking : (is : List ℕ) (fs : List FieldInfo) → all_have is (lacking_from 0 fs) ≡ all_given is 0 fs
all_lacking is fs = from is 0 fs

pub one_given : (is : List ℕ) (n : ℕ) → has_number n is ≡ all_have is (n ∷ [])
one_given is n = by (has_number n is)
  where
    by : (b : Bool) → b ≡ (b && true)
    by true = refl
    by false = refl

pub both_given : (is ns ms : List ℕ) → all_have is (ns ++ ms) ≡ (all_have is ns && all_have is ms)
both_given is [] ms = refl
both_given is (n ∷ ns) ms = ap (λ b. has_number n is && b) (both_given is ns ms) ∙ by (has_number n is)
  where
    by : (b : Bool) → (b && (all_have is ns && all_have is ms)) ≡ ((b && all_have is ns) && all_have is ms)
    by true = refl
    by false = refl
