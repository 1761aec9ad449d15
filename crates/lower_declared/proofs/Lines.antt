-- One step up from a class, and the fields of what is above it.
use Rattle.std.proofs.Common.{◌≡◌, ℕ, zero, suc, ◌+◌, ◌-◌, ◌<◌, ◌≤◌, List, [], ◌∷◌, ◌++◌, map, refl, ap, sym, ◌∙◌, arith, append_assoc}
use Rattle.std.proofs.Common.{append-nil}
use Rattle.std.specs.Prelude.{Option, Some, None}
use denote.Ref.{Bor}
use Rattle.verse_tree.specs.ItemTree.{FieldTree, ClassTree}
use Rattle.verse_tree.specs.ItemView.{class_of}
use Rattle.verse_tree.specs.declared.items.ClassItem.{ClassItem}
use Rattle.verse_meaning.specs.Programs.{own_fields, parent_of, fields_from}
use Rattle.lower_declared.specs.Views.{class_now, all_taken}
use Rattle.lower_declared.specs.Fields.{last, line, all_above}

down : (n i : ℕ) → i < n → n - i ≡ suc (n - (i + 1))
down n i h = omega arith

none : (n i : ℕ) → n ≤ i → n - i ≡ zero
none n i h = omega arith

empty : (n : ℕ) (cs : List ClassTree) → line n cs None ≡ []
empty zero cs = refl
empty (suc n) cs = refl

module _ (cs found : List ClassTree) where
  pub up : (n i : ℕ) (c : ClassTree) → i < n →
      found ++ line (n - i) cs (Some c) ≡ (found ++ c ∷ []) ++ line (n - (i + 1)) cs (parent_of cs c.parent)
  up n i c h = ap (λ m. found ++ line m cs (Some c)) (down n i h) ∙
      sym (append_assoc found (c ∷ []) (line (n - (i + 1)) cs (parent_of cs c.parent)))

  pub top : (n : ℕ) → found ++ line n cs None ≡ found
  top n = ap (λ l. found ++ l) (empty n cs) ∙ append-nil found

  pub end : (n i : ℕ) (o : Option ClassTree) → n ≤ i → found ++ line (n - i) cs o ≡ found ++ last o
  end n i o h = ap (λ m. found ++ line m cs o) (none n i h)

pub line_fields : (n : ℕ) (cs : List ClassTree) (o : Option ClassTree) → all_above (line n cs o) ≡ fields_from n cs o
line_fields zero cs None = refl
line_fields zero cs (Some c) = refl
line_fields (suc n) cs None = refl
line_fields (suc n) cs (Some c) = ap (λ l. l ++ own_fields c.members) (line_fields n cs (parent_of cs c.parent))

-- the last class of a list comes first
last_taken : (cs : List (Bor ClassItem)) (c : Bor ClassItem) → all_taken (cs ++ c ∷ []) ≡
    own_fields (class_of c.now).members ++ all_taken cs
last_taken [] c = sym (append-nil (own_fields (class_of c.now).members))
last_taken (d ∷ cs) c = ap (λ l. l ++ own_fields (class_of d.now).members) (last_taken cs c) ∙
    append_assoc (own_fields (class_of c.now).members) (all_taken cs) (own_fields (class_of d.now).members)

pub taken : (found : List FieldTree) (cs : List (Bor ClassItem)) (c : Bor ClassItem) →
    found ++ all_taken (cs ++ c ∷ []) ≡ (found ++ own_fields (class_of c.now).members) ++ all_taken cs
taken found cs c = ap (λ l. found ++ l) (last_taken cs c) ∙ sym (append_assoc found (own_fields (class_of c.now).members) (all_taken cs))

pub taken_is : (cs : List (Bor ClassItem)) → all_taken cs ≡ all_above (map class_now cs)
taken_is [] = refl
taken_is (c ∷ cs) = ap (λ l. l ++ own_fields (class_of c.now).members) (taken_is cs)
