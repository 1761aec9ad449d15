-- The locals of a frame that begins.
use Rattle.std.proofs.Common.{◌≡◌, ◌≢◌, ℕ, zero, suc, ◌+◌, List, [], ◌∷◌, ◌++◌, length, reverse, refl, sym, ap, ◌∙◌, arith, append-nil}
use Rattle.std.proofs.lemmas.List.{map-append}
use Rattle.verse_value.specs.Val.{unit}
use Rattle.verse_value.specs.declared.values.Value.{Value}
use Rattle.verse_value.specs.declared.values.Value.TheVariants as value
use Rattle.verse_value.specs.View.{val_of, vals_of}
use Rattle.fiber_stacks.specs.Levels.{Level, empty_level, full_level, below}
use Rattle.fiber_stacks.specs.Heads.{Head, height, new_head, with_locals}
use Rattle.fiber_stacks.proofs.Lists.{grouped}
use Rattle.fiber.specs.Frames.{Frame}
use Rattle.fiber.specs.Calls.{units, bare, added, with_more}
use Rattle.fiber.specs.Opening.{unit_values}
use Rattle.fiber.specs.Framing.{frames}

units_end : (n : ℕ) → unit_values n ++ value.Unit ∷ [] ≡ unit_values (suc n)
units_end zero = refl
units_end (suc n) = ap (λ k. value.Unit ∷ k) (units_end n)

pub filled_none : (hs gs : List (Head Value)) (xs : List Value) → gs ≡ with_locals xs hs → gs ≡ with_locals (xs ++ unit_values 0) hs
filled_none hs gs xs e = rw (append-nil xs) e

twice_filled : (hs : List (Head Value)) (xs ys : List Value) → with_locals ys (with_locals xs hs) ≡ with_locals (xs ++ ys) hs
twice_filled [] xs ys = refl
twice_filled (h ∷ hs) xs ys = rw (grouped h.locals xs ys) refl

pub filled_more : (hs gs fs : List (Head Value)) (xs : List Value) (n : ℕ) → gs ≡ with_locals (xs ++ unit_values n) hs →
    fs ≡ with_locals (value.Unit ∷ []) gs → fs ≡ with_locals (xs ++ unit_values (n + 1)) hs
filled_more hs gs fs xs n e f =
    let next : n + 1 ≡ suc n = omega arith in
    rw next (f ∙ ap (with_locals (value.Unit ∷ [])) e ∙ twice_filled hs (xs ++ unit_values n) (value.Unit ∷ []) ∙
    ap (λ k. with_locals k hs) (grouped xs (unit_values n) (value.Unit ∷ []) ∙ ap (λ k. xs ++ k) (units_end n)))

pub same_below : (hs gs : List (Head Value)) (xs : List Value) → gs ≡ with_locals xs hs → below gs ≡ below hs
same_below [] gs xs e = rw e refl
same_below (h ∷ hs) gs xs e = rw e refl

pub still_some : (hs gs : List (Head Value)) (xs : List Value) → gs ≡ with_locals xs hs → hs ≢ [] → gs ≢ []
still_some [] gs xs e some = absurd (some refl)
still_some (h ∷ hs) gs xs e some = λ none. absurd (omega (arith, ap length (sym e ∙ none)))

unit_vals : (n : ℕ) → vals_of (unit_values n) ≡ units n
unit_vals zero = refl
unit_vals (suc n) = ap (λ k. unit ∷ k) (unit_vals n)

pub opened_in : (hs gs : List (Head Value)) (ls zs : List (Level Value)) (fs : List Frame) (p n : ℕ) (xs : List Value) → frames hs ls ≡ fs →
    gs ≡ with_locals (xs ++ unit_values n) (new_head p ∷ hs) → zs ≡ empty_level ∷ ls → frames gs zs ≡ bare p (vals_of xs ++ units n) ∷ fs
opened_in hs gs ls zs fs p n xs are e f =
    let locals : vals_of (xs ++ unit_values n) ≡ vals_of xs ++ units n =
    map-append val_of xs (unit_values n) ∙ ap (λ k. vals_of xs ++ k) (unit_vals n) in
    rw (← are, e, f, locals) refl

pub opened_high : (hs gs : List (Head Value)) (ls zs : List (Level Value)) (p n : ℕ) (xs : List Value) → length ls ≡ height hs →
    gs ≡ with_locals (xs ++ unit_values n) (new_head p ∷ hs) → zs ≡ empty_level ∷ ls →
    (length zs ≡ height gs) × (length gs ≡ suc (length hs))
opened_high hs gs ls zs p n xs high e f = rw (e, f) (omega (arith, high), refl)

pub added_in : (hs gs : List (Head Value)) (ls zs : List (Level Value)) (fs : List Frame) (p : ℕ) (xs os : List Value) (ds : List ℕ) →
    frames hs ls ≡ fs → gs ≡ with_locals (xs ++ unit_values 0) (new_head p ∷ hs) → zs ≡ full_level os ds ∷ ls →
    frames gs zs ≡ added p (vals_of xs) (vals_of (reverse os)) (reverse ds) fs
added_in hs gs ls zs fs p xs os ds are e f = rw (← are, e, f, append-nil xs, append-nil (reverse ds)) refl

pub added_high : (hs gs : List (Head Value)) (ls zs : List (Level Value)) (p : ℕ) (xs os : List Value) (ds : List ℕ) →
    length ls ≡ height hs → gs ≡ with_locals (xs ++ unit_values 0) (new_head p ∷ hs) → zs ≡ full_level os ds ∷ ls →
    (length zs ≡ height gs) × (length gs ≡ suc (length hs))
added_high hs gs ls zs p xs os ds high e f = rw (e, f) (omega (arith, high), refl)

-- a frame with no locals, and one local more

pub bare_opened : (hs gs : List (Head Value)) (ls zs : List (Level Value)) (fs : List Frame) (p : ℕ) → frames hs ls ≡ fs →
    gs ≡ new_head p ∷ hs → zs ≡ empty_level ∷ ls → frames gs zs ≡ bare p [] ∷ fs
bare_opened hs gs ls zs fs p are e f = rw (← are, e, f) refl

pub bare_high : (hs gs : List (Head Value)) (ls zs : List (Level Value)) (p : ℕ) → length ls ≡ height hs → gs ≡ new_head p ∷ hs →
    zs ≡ empty_level ∷ ls → (length zs ≡ height gs) × (length gs ≡ suc (length hs))
bare_high hs gs ls zs p high e f = rw (e, f) (omega (arith, high), refl)

pub more_in : (hs gs : List (Head Value)) (ls : List (Level Value)) (fs : List Frame) (x : Value) → frames hs ls ≡ fs →
    length ls ≡ height hs → gs ≡ with_locals (x ∷ []) hs →
    (frames gs ls ≡ with_more (val_of x) fs) × (length ls ≡ height gs) × (length gs ≡ length hs)
more_in [] gs ls fs x are high e = rw (e, ← are) (refl, high, refl)
more_in (h ∷ hs) gs ls fs x are high e = rw (← are, e, map-append val_of h.locals (x ∷ [])) (refl, high, refl)
