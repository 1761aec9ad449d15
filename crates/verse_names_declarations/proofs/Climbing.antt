-- One step up from a class.
use Rattle.std.proofs.Common.{◌≡◌, ℕ, zero, suc, ◌+◌, ◌-◌, ◌<◌, ◌≤◌, Bool, true, false, cond, nat_eq, List, [], ◌∷◌, ◌++◌, refl, ap, sym}
use Rattle.std.proofs.Common.{◌∙◌, arith, append_assoc, append-nil}
use Rattle.std.specs.Prelude.{Some, None, slice_get}
use Rattle.verse_rules_types.specs.Types.{Class}
use Rattle.verse_rules_types.specs.Fitting.{parent_of}
use Rattle.verse_names_tables.specs.Notes.{Note}
use Rattle.verse_names_declarations.specs.Lines.{line, on_class, others, Members, with_note}
use Rattle.verse_names_declarations.specs.Lines.{with_notes}

down : (n i : ℕ) → i < n → n - i ≡ suc (n - (i + 1))
down n i h = omega arith

none : (n i : ℕ) → n ≤ i → n - i ≡ zero
none n i h = omega arith

-- a class, and those behind it
split : (c d : ℕ) (ds : List ℕ) → others c (d ∷ ds) ≡ others c (d ∷ []) ++ others c ds
split c d ds = by (nat_eq d c)
  where
    by : (b : Bool) → cond b (others c ds) (d ∷ others c ds) ≡ cond b [] (d ∷ []) ++ others c ds
    by true = refl
    by false = refl

module _ (cs : List Class) (found : List ℕ) where
  pub up : (n i c p : ℕ) → i < n → parent_of cs c ≡ Some p → found ++ line cs (n - i) c ≡ (found ++ c ∷ []) ++ line cs (n - (i + 1)) p
  up n i c p h e = ap (λ m. found ++ line cs m c) (down n i h) ∙ ap (λ o. found ++ c ∷ on_class o (line cs (n - (i + 1)))) e ∙
      sym (append_assoc found (c ∷ []) (line cs (n - (i + 1)) p))

  pub top : (n i c : ℕ) → i < n → parent_of cs c ≡ None → found ++ line cs (n - i) c ≡ found ++ c ∷ []
  top n i c h e = ap (λ m. found ++ line cs m c) (down n i h) ∙ ap (λ o. found ++ c ∷ on_class o (line cs (n - (i + 1)))) e

  pub end : (n i c : ℕ) → n ≤ i → found ++ line cs (n - i) c ≡ found
  end n i c h = ap (λ m. found ++ line cs m c) (none n i h) ∙ append-nil found

  pub other_up : (d n i c p : ℕ) → i < n → parent_of cs c ≡ Some p → found ++ others d (line cs (n - i) c) ≡ (found ++ others d (c ∷ [])) ++
      others d (line cs (n - (i + 1)) p)
  other_up d n i c p h e = ap (λ m. found ++ others d (line cs m c)) (down n i h) ∙
      ap (λ o. found ++ others d (c ∷ on_class o (line cs (n - (i + 1))))) e ∙ ap (λ l. found ++ l) (split d c (line cs (n - (i + 1)) p)) ∙
      sym (append_assoc found (others d (c ∷ [])) (others d (line cs (n - (i + 1)) p)))

  pub other_top : (d n i c : ℕ) → i < n → parent_of cs c ≡ None → found ++ others d (line cs (n - i) c) ≡ found ++ others d (c ∷ [])
  other_top d n i c h e = ap (λ m. found ++ others d (line cs m c)) (down n i h) ∙
      ap (λ o. found ++ others d (c ∷ on_class o (line cs (n - (i + 1))))) e

  pub other_end : (d n i c : ℕ) → n ≤ i → found ++ others d (line cs (n - i) c) ≡ found
  other_end d n i c h = ap (λ m. found ++ others d (line cs m c)) (none n i h) ∙ append-nil found

-- the last class of a list comes first
pub last_notes : (ns : List Note) (c : ℕ) (ds : List ℕ) (d : ℕ) (m : Members) →
    with_notes ns c (ds ++ d ∷ []) m ≡ with_notes ns c ds (with_note c (slice_get ns d) m)
last_notes ns c [] d m = refl
last_notes ns c (e ∷ ds) d m = ap (with_note c (slice_get ns e)) (last_notes ns c ds d m)
