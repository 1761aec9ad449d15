-- Stacks that are cut at their open Trys.
use Rattle.std.proofs.Common.{◌≡◌, ℕ, zero, suc, ◌+◌, ◌-◌, ◌≤◌, length, take, drop, List, [], ◌∷◌, ◌++◌, Option, Bool, true, refl, sym}
use Rattle.std.proofs.Common.{subst, ap, arith, ◌∙◌, le-leb}
use Rattle.std.specs.Prelude.{◌&&◌, nat_le}
use Rattle.verse_sorts.specs.Sorts.{Sort}
use Rattle.verse_sorts.specs.Typing.{AllFit, fit_no, fit_so}
use Rattle.verse_verify_kept.specs.Notes.{Notes, parent_of}
use Rattle.verse_verify_kept.specs.Rules.{TriesFit, tries_no, tries_so}
use Rattle.verse_code.specs.declared.codes.Code.{Code}
use Rattle.verse_verify_faults.specs.Spots.{Mark, room, above, beneath, opens, even}
use Rattle.std.proofs.lemmas.Bool.{leb-true, and_parts}
use Rattle.std.proofs.lemmas.List.{length-append}
use Rattle.std.proofs.Math.Seq.{take-append_seam, drop-length}

pub drop_all : {A : Type 0} (xs ys : List A) → drop (length xs) (xs ++ ys) ≡ ys
drop_all [] [] = refl
drop_all [] (y ∷ ys) = refl
drop_all (x ∷ xs) ys = drop_all xs ys

module _ (up : ℕ → Option ℕ) where
  pub fit_length : {xs ys : List Sort} → AllFit up xs ys → length xs ≡ length ys
  fit_length fit_no = refl
  fit_length (fit_so f r) = ap suc (fit_length r)

  pub fit_take : {xs ys : List Sort} (k : ℕ) → AllFit up xs ys → AllFit up (take k xs) (take k ys)
  fit_take zero fit_no = fit_no
  fit_take zero (fit_so f r) = fit_no
  fit_take (suc k) fit_no = fit_no
  fit_take (suc k) (fit_so f r) = fit_so f (fit_take k r)

  pub fit_drop : {xs ys : List Sort} (k : ℕ) → AllFit up xs ys → AllFit up (drop k xs) (drop k ys)
  fit_drop zero fit_no = fit_no
  fit_drop zero (fit_so f r) = fit_so f r
  fit_drop (suc k) fit_no = fit_no
  fit_drop (suc k) (fit_so f r) = fit_drop k r

  pub room_same : {xs ys : List Sort} (ms : List Mark) → AllFit up xs ys → room xs ms ≡ room ys ms
  room_same [] r = fit_length r
  room_same (m ∷ ms) r = ap (λ k. k - m.height) (fit_length r)

  pub above_fit : {xs ys : List Sort} (ms : List Mark) → AllFit up xs ys → AllFit up (above xs ms) (above ys ms)
  above_fit {xs = xs} {ys = ys} ms r =
      subst (λ k. AllFit up (above xs ms) (take k ys)) (room_same ms r) (fit_take (room xs ms) r)

  pub beneath_fit : {xs ys : List Sort} (ms : List Mark) → AllFit up xs ys → AllFit up (beneath xs ms) (beneath ys ms)
  beneath_fit {xs = xs} {ys = ys} ms r =
      subst (λ k. AllFit up (beneath xs ms) (drop k ys)) (room_same ms r) (fit_drop (room xs ms) r)

module _ (c : Code) (n : Notes) where
  pub opens_fit : (ms : List Mark) (xs ys : List Sort) → AllFit (parent_of n) xs ys → TriesFit c n (opens xs ms) (opens ys ms)
  opens_fit [] xs ys r = tries_no
  opens_fit (m ∷ ms) xs ys r =
      tries_so refl (above_fit (parent_of n) ms (beneath_fit (parent_of n) (m ∷ ms) r)) (opens_fit ms (beneath xs (m ∷ ms)) (beneath ys (m ∷
      ms)) (beneath_fit (parent_of n) (m ∷ ms) r))

-- how many operands lie beneath the innermost open Try
abbrev pub under : List Mark → ℕ
under [] = 0
under (m ∷ ms) = m.height

drop_nothing : (A : Type 0) (k : ℕ) → length (drop {A = A} k []) ≡ 0
drop_nothing A zero = refl
drop_nothing A (suc k) = refl

drop_length : {A : Type 0} (xs : List A) (h : ℕ) → h ≤ length xs → length (drop (length xs - h) xs) ≡ h
drop_length {A = A} [] h l = drop_nothing A (0 - h) ∙ none h l
  where
    none : (h : ℕ) → h ≤ 0 → 0 ≡ h
    none h l = omega (arith, l)
drop_length {A = A} (x ∷ xs) h l = by_room (suc (length xs) - h) refl (λ l. drop_length xs h l)
  where
    full : (n h : ℕ) → h ≤ suc n → suc n - h ≡ 0 → suc n ≡ h
    full n h l e = omega (arith, l, e)

    one : (n h k : ℕ) → h ≤ suc n → suc n - h ≡ suc k → (h ≤ n) × (n - h ≡ k)
    one n h k l e = (omega (arith, l, e), omega (arith, l, e))

    by_room : (k : ℕ) → suc (length xs) - h ≡ k → (h ≤ length xs → length (drop (length xs - h) xs) ≡ h) → length (drop k (x ∷ xs)) ≡ h
    by_room zero e go = full (length xs) h l e
    by_room (suc k) e go =
        subst (λ k. length (drop k xs) ≡ h) (one (length xs) h k l e).1 (go (one (length xs) h k l e).0)

pub beneath_length : (st : List Sort) (ms : List Mark) → even (length st) ms ≡ true → length (beneath st ms) ≡ under ms
beneath_length st [] e = ap length (drop-length st)
beneath_length st (m ∷ ms) e =
    drop_length st m.height (leb-true m.height (length st) (and_parts (nat_le m.height (length st)) (even m.height ms) e).0)

pub whole : (st : List Sort) (ms : List Mark) → above st ms ++ beneath st ms ≡ st
whole st ms = joined (room st ms) st
  where
    joined : (k : ℕ) (xs : List Sort) → take k xs ++ drop k xs ≡ xs
    joined zero [] = refl
    joined zero (x ∷ xs) = refl
    joined (suc k) [] = refl
    joined (suc k) (x ∷ xs) = ap (λ zs. x ∷ zs) (joined k xs)

-- with other operands above the innermost open Try
room_on : (xs bs : List Sort) (ms : List Mark) → length bs ≡ under ms → (ms ≡ [] → bs ≡ []) → room (xs ++ bs) ms ≡ length xs
room_on xs bs [] e f = subst (λ bs. length (xs ++ bs) ≡ length xs) (sym (f refl)) (more xs)
  where
    more : (xs : List Sort) → length (xs ++ []) ≡ length xs
    more [] = refl
    more (x ∷ xs) = ap suc (more xs)
room_on xs bs (m ∷ ms) e f = sums (length (xs ++ bs)) (length xs) (length bs) m.height (length-append xs bs) e
  where
    sums : (a b d h : ℕ) → a ≡ b + d → d ≡ h → a - h ≡ b
    sums a b d h e f = omega (arith, e, f)

pub no_beneath : (st : List Sort) (ms : List Mark) → ms ≡ [] → beneath st ms ≡ []
no_beneath st [] e = drop-length st
no_beneath st (m ∷ ms) e = no_cons e
  where
    no_cons : {A : Type 0} → m ∷ ms ≡ [] → A
    no_cons e = cc

module _ (st : List Sort) (ms : List Mark) (e : even (length st) ms ≡ true) where
  room_here : (xs : List Sort) → room (xs ++ beneath st ms) ms ≡ length xs
  room_here xs = room_on xs (beneath st ms) ms (beneath_length st ms e) (no_beneath st ms)

  pub above_on : (xs : List Sort) → above (xs ++ beneath st ms) ms ≡ xs
  above_on xs =
      subst (λ k. take k (xs ++ beneath st ms) ≡ xs) (sym (room_here xs)) (take-append_seam xs (beneath st ms))

  pub beneath_on : (xs : List Sort) → beneath (xs ++ beneath st ms) ms ≡ beneath st ms
  beneath_on xs =
      subst (λ k. drop k (xs ++ beneath st ms) ≡ beneath st ms) (sym (room_here xs)) (drop_all xs (beneath st ms))

pub opens_on : (st xs : List Sort) (ms : List Mark) → even (length st) ms ≡ true → opens (xs ++ beneath st ms) ms ≡ opens st ms
opens_on st xs [] e = refl
opens_on st xs (m ∷ ms) e =
    ap (λ (bs : List Sort). record { index = m.index; beneath = above bs ms } ∷ opens bs ms) (beneath_on st (m ∷ ms) e xs)

-- more operands than there are beneath: the heights are heights of the stack
pub even_more : (n k : ℕ) (ms : List Mark) → under ms ≤ k → even n ms ≡ true → even k ms ≡ true
even_more n k [] l e = refl
even_more n k (m ∷ ms) l e =
    two (nat_le m.height k) (even m.height ms) (le-leb m.height k l) (and_parts (nat_le m.height n) (even m.height ms) e).1
  where
    two : (a b : Bool) → a ≡ true → b ≡ true → a && b ≡ true
    two a b e f = subst (λ a. a && b ≡ true) (sym e) f
