-- Lists that are compared one by one, and lists whose top is last in memory.
use Rattle.std.proofs.Common.{◌≡◌, ℕ, zero, suc, ◌-◌, ◌<◌, List, [], ◌∷◌, ◌++◌, length, map, reverse, take, drop, Bool, true, false, refl}
use Rattle.std.proofs.Common.{sym, ap, ◌∙◌, arith}
use Rattle.std.specs.Prelude.{◌&&◌}
use Rattle.std.proofs.lemmas.List.{reverse-append, map-append, take-append-drop, length-reverse, length-map, length-drop}
use Rattle.std.proofs.Math.Seq.{drop-append_seam, take-append_seam}
use Rattle.std.proofs.Math.Bool.{and-false}
use Rattle.verse_meaning_state.specs.Waits.{eqn}
use Rattle.verse_sorts.specs.Sorts.{Sort}
use Rattle.verse_verify_kept.specs.Notes.{ClassNote}
use Rattle.verse_verify_faults.specs.Fitting.{fit, each_fit}
use Rattle.verse_verify_faults.specs.Spots.{Mark, room, above, beneath}
use Rattle.verse_verify_faults.specs.Stepping.{is}
use Rattle.verse_verify_faults.specs.Faults.{each_holds, same_marks, is_nil}
use Rattle.verse_verify_notes.specs.declared.sorts.Sort.{Sort as Made}
use Rattle.verse_verify_notes.specs.declared.notes.Mark.{Mark as Noted}
use Rattle.verse_verify_notes.specs.View.{sort_of, sorts_of, mark_of}
use Rattle.verse_verify_parts.specs.Heres.{operands}

module _ {A : Type 0} (test : A → A → Bool) where
  abbrev pub pairwise : List A → List A → Bool
  pairwise [] [] = true
  pairwise (a ∷ xs) (b ∷ ys) = test a b && pairwise xs ys
  pairwise xs ys = false

  no_end : (b : A) (ys : List A) → pairwise [] (ys ++ b ∷ []) ≡ false
  no_end b [] = refl
  no_end b (y ∷ ys) = refl

  end_no : (a : A) (xs : List A) → pairwise (xs ++ a ∷ []) [] ≡ false
  end_no a [] = refl
  end_no a (x ∷ xs) = refl

  at_end : (a b : A) (xs ys : List A) → pairwise (xs ++ a ∷ []) (ys ++ b ∷ []) ≡ test a b && pairwise xs ys
  at_end a b [] [] = refl
  at_end a b [] (y ∷ ys) = ap (λ r. test a y && r) (no_end b ys) ∙ and-false (test a y) ∙ sym (and-false (test a b))
  at_end a b (x ∷ xs) [] = ap (λ r. test x b && r) (end_no a xs) ∙ and-false (test x b) ∙ sym (and-false (test a b))
  at_end a b (x ∷ xs) (y ∷ ys) = ap (λ r. test x y && r) (at_end a b xs ys) ∙ turn (test x y) (test a b) (pairwise xs ys)
    where
      turn : (p q r : Bool) → p && (q && r) ≡ q && (p && r)
      turn true q r = refl
      turn false q r = sym (and-false q)

  pub reversed : (xs ys : List A) → pairwise (reverse xs) (reverse ys) ≡ pairwise xs ys
  reversed [] [] = refl
  reversed [] (y ∷ ys) = ap (pairwise []) (reverse-append (y ∷ []) ys) ∙ no_end y (reverse ys)
  reversed (x ∷ xs) [] = ap (λ zs. pairwise zs []) (reverse-append (x ∷ []) xs) ∙ end_no x (reverse xs)
  reversed (x ∷ xs) (y ∷ ys) = ap (λ zs. pairwise zs (reverse (y ∷ ys))) (reverse-append (x ∷ []) xs) ∙ ap (pairwise (reverse xs ++ x ∷ []))
      (reverse-append (y ∷ []) ys) ∙ at_end x y (reverse xs) (reverse ys) ∙ ap (λ r. test x y && r) (reversed xs ys)

module _ (cs : List ClassNote) where
  fit_pairs : (xs ys : List Sort) → each_fit cs xs ys ≡ pairwise (fit cs) xs ys
  fit_pairs [] [] = refl
  fit_pairs [] (b ∷ ys) = refl
  fit_pairs (a ∷ xs) [] = refl
  fit_pairs (a ∷ xs) (b ∷ ys) = ap (λ r. fit cs a b && r) (fit_pairs xs ys)

  pub fit_reversed : (xs ys : List Sort) → each_fit cs (reverse xs) (reverse ys) ≡ each_fit cs xs ys
  fit_reversed xs ys = fit_pairs (reverse xs) (reverse ys) ∙ reversed (fit cs) xs ys ∙ sym (fit_pairs xs ys)

  pub holds_are : (xs ys : List Sort) → each_holds cs (map is xs) ys ≡ each_fit cs xs ys
  holds_are [] [] = refl
  holds_are [] (b ∷ ys) = refl
  holds_are (a ∷ xs) [] = refl
  holds_are (a ∷ xs) (b ∷ ys) = ap (λ r. fit cs a b && r) (holds_are xs ys)

  pub no_operands : (ys : List Sort) → each_holds cs [] ys ≡ is_nil ys
  no_operands [] = refl
  no_operands (b ∷ ys) = refl

  -- the operands that are left and those beneath them
  pub holds_operands : (high low ys : List Made) →
      each_holds cs (map is (operands high ++ operands low)) (operands ys) ≡ each_fit cs (sorts_of low ++ sorts_of high) (sorts_of ys)
  holds_operands high low ys = holds_are (operands high ++ operands low) (operands ys) ∙ ap (λ zs. each_fit cs zs (operands ys)) (sym
      (reverse-append (sorts_of low) (sorts_of high))) ∙ fit_reversed (sorts_of low ++ sorts_of high) (sorts_of ys)

abbrev mark_test : Mark → Mark → Bool
mark_test a b = eqn a.index b.index && eqn a.height b.height

mark_pairs : (xs ys : List Mark) → same_marks xs ys ≡ pairwise mark_test xs ys
mark_pairs [] [] = refl
mark_pairs [] (b ∷ ys) = refl
mark_pairs (a ∷ xs) [] = refl
mark_pairs (a ∷ xs) (b ∷ ys) = ap (λ r. mark_test a b && r) (mark_pairs xs ys)

pub marks_reversed : (xs ys : List Mark) → same_marks (reverse xs) (reverse ys) ≡ same_marks xs ys
marks_reversed xs ys = mark_pairs (reverse xs) (reverse ys) ∙ reversed mark_test xs ys ∙ sym (mark_pairs xs ys)

pub no_marks : (ms : List Mark) → same_marks [] ms ≡ is_nil ms
no_marks [] = refl
no_marks (m ∷ ms) = refl

-- the top of a list in memory
pub top_first : {A B : Type 0} (f : A → B) (xs : List A) (a : A) → reverse (map f (xs ++ a ∷ [])) ≡ f a ∷ reverse (map f xs)
top_first f xs a = ap reverse (map-append f xs (a ∷ [])) ∙ reverse-append (map f xs) (f a ∷ [])

module _ {A B : Type 0} (f : A → B) where
  cut : (h : ℕ) (xs : List A) → reverse (map f xs) ≡ reverse (map f (drop h xs)) ++ reverse (map f (take h xs))
  cut h xs = ap (λ zs. reverse (map f zs)) (sym (take-append-drop h xs)) ∙ ap reverse (map-append f (take h xs) (drop h xs)) ∙
      reverse-append (map f (take h xs)) (map f (drop h xs))

  high_length : (h : ℕ) (xs : List A) → length (reverse (map f (drop h xs))) ≡ length xs - h
  high_length h xs = length-reverse (map f (drop h xs)) ∙ length-map (drop h xs) f ∙ length-drop h xs

  pub low_is : (h : ℕ) (xs : List A) → reverse (map f (take h xs)) ≡ drop (length xs - h) (reverse (map f xs))
  low_is h xs = sym (ap (drop (length xs - h)) (cut h xs) ∙
      ap (λ n. drop n (reverse (map f (drop h xs)) ++ reverse (map f (take h xs)))) (sym (high_length h xs)) ∙
      drop-append_seam (reverse (map f (drop h xs))) (reverse (map f (take h xs))))

  pub high_is : (h : ℕ) (xs : List A) → reverse (map f (drop h xs)) ≡ take (length xs - h) (reverse (map f xs))
  high_is h xs = sym (ap (take (length xs - h)) (cut h xs) ∙
      ap (λ n. take n (reverse (map f (drop h xs)) ++ reverse (map f (take h xs)))) (sym (high_length h xs)) ∙
      take-append_seam (reverse (map f (drop h xs))) (reverse (map f (take h xs))))

pub stack_length : (st : List Made) → length (operands st) ≡ length st
stack_length st = length-reverse (sorts_of st) ∙ length-map st sort_of

-- the operands beneath the innermost open Try, and those above it, where so many lie beneath it
pub beneath_is : (st : List Made) (ms : List Mark) (h : ℕ) → length (operands st) - h ≡ room (operands st) ms →
    operands (take h st) ≡ beneath (operands st) ms
beneath_is st ms h e = low_is sort_of h st ∙ ap (λ n. drop (n - h) (operands st)) (sym (stack_length st)) ∙ ap (λ n. drop n (operands st)) e

pub above_is : (st : List Made) (ms : List Mark) (h : ℕ) → length (operands st) - h ≡ room (operands st) ms →
    operands (drop h st) ≡ above (operands st) ms
above_is st ms h e = high_is sort_of h st ∙ ap (λ n. take (n - h) (operands st)) (sym (stack_length st)) ∙ ap (λ n. take n (operands st)) e

pub lacks_marks : (ms ns : List Noted) (i : ℕ) → i < length ms → length ns ≡ 0 →
    same_marks (map mark_of (drop i ms)) (map mark_of ns) ≡ false
lacks_marks [] ns i h e = absurd (omega (arith, h))
lacks_marks (m ∷ ms) [] zero h e = refl
lacks_marks (m ∷ ms) (n ∷ ns) zero h e = absurd (omega (arith, e))
lacks_marks (m ∷ ms) ns (suc i) h e = lacks_marks ms ns i (omega (arith, h)) e
