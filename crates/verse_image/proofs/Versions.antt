-- The version that is written has all operations of the code.
use Rattle.std.proofs.Common.{◌≡◌, ℕ, ◌≤◌, Bool, true, false, leb, ◌⊎◌, inl, inr, List, [], ◌∷◌, ◌++◌, refl, sym, ap, subst, ◌∙◌}
use Rattle.std.specs.List.{AllByRecursion}
use Rattle.std.proofs.lemmas.Bool.{leb-true}
use Rattle.std.proofs.lemmas.List.{append-nil}
use Rattle.std.proofs.lemmas.List.Elements.{All-from_recursion}
use Rattle.verse_code.specs.declared.operations.Op.{Op}
use Rattle.verse_code.specs.declared.codes.Code.{Code}
use Rattle.verse_code.specs.Operations.{code_of}
use Rattle.verse_code.specs.Validity.{Valid}
use Rattle.verse_image.specs.Format.{version_for, version_of, IsVersion, fields, Image}
use Rattle.verse_image.specs.Writing.{Writes}

abbrev IsFirst : Op → Type 0
IsFirst op = code_of op ≤ 63

abbrev Which : List Op → Type 0
Which ops = ((version_for ops ≡ 1) × AllByRecursion IsFirst ops) ⊎ (version_for ops ≡ 2)

which_with : (op : Op) (ops : List Op) (b : Bool) → leb (code_of op) 63 ≡ b → Which ops → Which (op ∷ ops)
which_with op ops true e (inl h) = inl (rw e h.0, (leb-true (code_of op) 63 e, h.1))
which_with op ops true e (inr h) = inr (rw e h)
which_with op ops false e h = inr (rw e refl)

which : (ops : List Op) → Which ops
which [] = inl (refl, tt)
which (op ∷ ops) = which_with op ops (leb (code_of op) 63) refl (which ops)

pub versioned : (code : Code) → IsVersion (version_of code) code
versioned code = elim (which code.ops) [ inl h ↦ inl (h.0, All-from_recursion IsFirst code.ops h.1) | inr h ↦ inr h ]

-- what is written onto nothing is the image
pub image_from : (code : Code) (a b : List ℕ) → a ≡ [] → Valid code → Writes (fields (version_of code) code) a b →
    Image (version_of code) code b
image_from code a b e valid p =
    let whole : b ≡ p.0 = p.1 ∙ ap (λ (w : List ℕ). w ++ p.0) e in
    record {
      valid = valid;
      versioned = versioned code;
      spelled = subst (λ (w : List ℕ). fields (version_of code) code w []) (append-nil p.0 ∙ sym whole) (p.2 []);
    }
