-- Fields with one more.
use Rattle.std.proofs.Common.{◌≡◌, ℕ, suc, ◌+◌, Bool, true, false, cond, ◌||◌, List, [], ◌∷◌, ◌++◌, length, refl, ap, ◌∙◌, sym, arith}
use Rattle.std.proofs.Common.{append_assoc}
use Rattle.verse_tree.specs.declared.tables.FieldInfo.{FieldInfo}
use Rattle.verse_tree.specs.FieldLists.{any_var, lacking_one, lacking_from}

pub any_last : (fs : List FieldInfo) (f : FieldInfo) → any_var (fs ++ f ∷ []) ≡ (any_var fs || f.is_var)
any_last [] f = by f.is_var
  where
    by : (b : Bool) → cond b true false ≡ b
    by true = refl
    by false = refl
any_last (g ∷ fs) f = by g.is_var (any_last fs f)
  where
    by : (b : Bool) → any_var (fs ++ f ∷ []) ≡ (any_var fs || f.is_var) →
        cond b true (any_var (fs ++ f ∷ [])) ≡ (cond b true (any_var fs) || f.is_var)
    by true h = refl
    by false h = h

nil_behind : (ns : List ℕ) → ns ++ [] ≡ ns
nil_behind [] = refl
nil_behind (n ∷ ns) = ap (λ l. n ∷ l) (nil_behind ns)

lacking_end : (n : ℕ) (fs : List FieldInfo) (f : FieldInfo) →
    lacking_from n (fs ++ f ∷ []) ≡ lacking_from n fs ++ lacking_one (n + length fs) f.default
lacking_end n [] f = nil_behind (lacking_one n f.default) ∙ ap (λ m. lacking_one m f.default) (let same : n ≡ n + 0 = omega arith in same)
lacking_end n (g ∷ fs) f =
    ap (λ l. lacking_one n g.default ++ l) (lacking_end (n + 1) fs f)
    ∙ sym (append_assoc (lacking_one n g.default) (lacking_from (n + 1) fs) (lacking_one ((n + 1) + length fs) f.default))
    ∙ ap (λ m. (lacking_one n g.default ++ lacking_from (n + 1) fs) ++ lacking_one m f.default)
    (let same : (n + 1) + length fs ≡ n + suc (length fs) = omega arith in same)

pub lacking_last : (fs : List FieldInfo) (f : FieldInfo) →
    lacking_from 0 (fs ++ f ∷ []) ≡ lacking_from 0 fs ++ lacking_one (length fs) f.default
lacking_last fs f = lacking_end 0 fs f ∙ ap (λ m. lacking_from 0 fs ++ lacking_one m f.default) (let same : 0 + length fs ≡ length fs = omega arith in same)

-- the lemmas that the goals of `pushed` want
pub ruleset of_pushing = (any_last, lacking_last)
