-- Any frame, by its number.
use Rattle.std.proofs.Common.{◌≡◌, ℕ, zero, suc, ◌+◌, ◌-◌, ◌≤◌, ◌<◌, Some, List, [], ◌∷◌, length, take, drop, slice_get, option_map, refl}
use Rattle.std.proofs.Common.{sym, ap, ◌∙◌, arith}
use Rattle.std.proofs.Math.Seq.{drop-nil}
use Rattle.verse_value.specs.declared.values.Value.{Value}
use Rattle.verse_value.specs.View.{vals_of}
use Rattle.fiber_stacks.specs.Levels.{Level, operands_on, defers_in}
use Rattle.fiber_stacks.specs.Heads.{Head, height}
use Rattle.fiber.specs.Frames.{Frame}
use Rattle.fiber.specs.Calls.{frame_at}
use Rattle.fiber.specs.Framing.{frames}
use Rattle.fiber.proofs.Framed.{size_in}

drop_drop : {A : Type 0} (n m : ℕ) (xs : List A) → drop m (drop n xs) ≡ drop (n + m) xs
drop_drop zero m xs = ap (λ k. drop k xs) (omega arith)
drop_drop (suc n) m [] = drop-nil m ∙ sym (drop-nil (suc n + m))
drop_drop (suc n) m (x ∷ xs) =
    let sum : suc n + m ≡ suc (n + m) = omega arith in
    rw sum (drop_drop n m xs)

place_of : (k : ℕ) (hs : List (Head Value)) (ls : List (Level Value)) → option_map (λ (f : Frame). f.place) (slice_get (frames hs ls) k) ≡
    option_map (λ (h : Head Value). h.place) (slice_get hs k)
place_of k [] ls = refl
place_of zero (h ∷ hs) ls = refl
place_of (suc k) (h ∷ hs) ls = place_of k hs (drop (suc (length h.bounds)) ls)

locals_of : (k : ℕ) (hs : List (Head Value)) (ls : List (Level Value)) (xs : List Value) →
    option_map (λ (h : Head Value). h.locals) (slice_get hs k) ≡ Some xs →
    option_map (λ (f : Frame). f.locals) (slice_get (frames hs ls) k) ≡ Some (vals_of xs)
locals_of k [] ls xs e = ap (option_map vals_of) e
locals_of zero (h ∷ hs) ls xs e = ap (option_map vals_of) e
locals_of (suc k) (h ∷ hs) ls xs e = locals_of k hs (drop (suc (length h.bounds)) ls) xs e

stack_of : (k : ℕ) (hs : List (Head Value)) (ls : List (Level Value)) → k < length hs →
    option_map (λ (f : Frame). f.stack) (slice_get (frames hs ls) k) ≡ Some (vals_of (operands_on (drop (height (take k hs)) ls)))
stack_of k [] ls lt = absurd (omega (arith, lt))
stack_of zero (h ∷ hs) ls lt = refl
stack_of (suc k) (h ∷ hs) ls lt =
    stack_of k hs (drop (suc (length h.bounds)) ls) (omega (arith, lt)) ∙
    ap (λ z. Some (vals_of (operands_on z))) (drop_drop (suc (length h.bounds)) (height (take k hs)) ls)

defers_of : (k : ℕ) (hs : List (Head Value)) (ls : List (Level Value)) → k < length hs →
    option_map (λ (f : Frame). f.defers) (slice_get (frames hs ls) k) ≡
    Some (defers_in (height (take (suc k) hs) - height (take k hs)) (drop (height (take k hs)) ls))
defers_of k [] ls lt = absurd (omega (arith, lt))
defers_of zero (h ∷ hs) ls lt =
    let one : suc (length h.bounds) + 0 - 0 ≡ suc (length h.bounds) = omega arith in
    rw one refl
defers_of (suc k) (h ∷ hs) ls lt =
    let same : suc (length h.bounds) + height (take (suc k) hs) - (suc (length h.bounds) + height (take k hs)) ≡
    height (take (suc k) hs) - height (take k hs) = omega arith in
    rw (same, ← drop_drop (suc (length h.bounds)) (height (take k hs)) ls)
    (defers_of k hs (drop (suc (length h.bounds)) ls) (omega (arith, lt)))

height_grows : (k : ℕ) (hs : List (Head Value)) → k < length hs →
    (height (take k hs) + 1 ≤ height (take (suc k) hs)) × (height (take (suc k) hs) ≤ height hs)
height_grows k [] lt = absurd (omega (arith, lt))
height_grows zero (h ∷ hs) lt = (omega arith, omega arith)
height_grows (suc k) (h ∷ hs) lt =
    let rest = height_grows k hs (omega (arith, lt)) in
    (omega (arith, rest.0), omega (arith, rest.1))

module _ (hs : List (Head Value)) (ls : List (Level Value)) (fs : List Frame) (i n : ℕ) (are : frames hs ls ≡ fs) (lt : i < length fs)
    (e : n ≡ length fs - i) where
  place : length fs - 1 - i ≡ n - 1
  place = omega (arith, e)

  index : n - 1 < length hs
  index =
      let size : length hs ≡ length fs = size_in hs ls fs are in
      omega (arith, size, lt, e)

  pub some : 0 < n
  some = omega (arith, lt, e)

  pub few : n ≤ length hs
  few =
      let size : length hs ≡ length fs = size_in hs ls fs are in
      omega (arith, size, e)

  pub place_in : (p : ℕ) → option_map (λ (h : Head Value). h.place) (slice_get hs (n - 1)) ≡ Some p →
      option_map (λ (f : Frame). f.place) (frame_at i fs) ≡ Some p
  place_in p there = rw (place, ← are) (place_of (n - 1) hs ls ∙ there)

  pub locals_in : (xs : List Value) → option_map (λ (h : Head Value). h.locals) (slice_get hs (n - 1)) ≡ Some xs →
      option_map (λ (f : Frame). f.locals) (frame_at i fs) ≡ Some (vals_of xs)
  locals_in xs there = rw (place, ← are) (locals_of (n - 1) hs ls xs there)

  pub stack_in : (xs : List Value) → xs ≡ operands_on (drop (height (take (n - 1) hs)) ls) →
      option_map (λ (f : Frame). f.stack) (frame_at i fs) ≡ Some (vals_of xs)
  stack_in xs there = rw (place, ← are, there) (stack_of (n - 1) hs ls index)

  pub defers_in_frame : (ds : List ℕ) → ds ≡ defers_in (height (take n hs) - height (take (n - 1) hs))
      (drop (height (take (n - 1) hs)) ls) → option_map (λ (f : Frame). f.defers) (frame_at i fs) ≡ Some ds
  defers_in_frame ds there =
      let next : n ≡ suc (n - 1) = omega (arith, some) in
      rw (place, ← are, there) (defers_of (n - 1) hs ls index ∙
      ap (λ k. Some (defers_in (height (take k hs) - height (take (n - 1) hs)) (drop (height (take (n - 1) hs)) ls))) (sym next))

  -- the frame's levels are there
  pub order : height (take (n - 1) hs) ≤ height (take n hs)
  order =
      let next : suc (n - 1) ≡ n = omega (arith, some) in
      let more : height (take (n - 1) hs) + 1 ≤ height (take n hs) = rw next at (height_grows (n - 1) hs index).0 in
      omega (arith, more)

  pub through : length ls ≡ height hs → height (take n hs) ≤ length ls
  through high =
      let next : suc (n - 1) ≡ n = omega (arith, some) in
      let all : height (take n hs) ≤ height hs = rw next at (height_grows (n - 1) hs index).1 in
      omega (arith, all, high)

  pub above : length ls ≡ height hs → height (take (n - 1) hs) + 1 ≤ length ls
  above high =
      let grown = height_grows (n - 1) hs index in
      omega (arith, grown.0, grown.1, high)
