-- A change of the top head and the top level is a change of the top frame.
use Rattle.std.proofs.Common.{◌≡◌, ◌≢◌, ℕ, zero, suc, ◌+◌, ◌-◌, ◌≤◌, ◌<◌, Bool, true, false, cond, nat_lt, Option, Some, None, IfSome}
use Rattle.std.proofs.Common.{IfNone, List, [], ◌∷◌, ◌++◌, length, drop, reverse, refl, sym, ap, ◌∙◌, arith}
use Rattle.std.proofs.lemmas.Bool.Decides.{nat_tests}
use Rattle.std.proofs.lemmas.List.{map-append, map-set, length-append, length-drop}
use Rattle.verse_value.specs.declared.values.Value.{Value}
use Rattle.verse_value.specs.View.{val_of, vals_of}
use Rattle.fiber_stacks.specs.declared.heads.Bounds.{Bounds}
use Rattle.fiber_stacks.specs.Levels.{Level, empty_level, below, merged, with_operand, with_defer, with_note, Takes, operands_on, defers_on}
use Rattle.fiber_stacks.specs.Levels.{noted_on, defers_in, noted_in, any_noted}
use Rattle.fiber_stacks.specs.Heads.{Head, height, with_place, with_local as with_local_on, with_bounds, locals_on, bounds_on, has_bounds}
use Rattle.fiber_stacks.specs.Heads.{any_bounds}
use Rattle.fiber_stacks.proofs.Lists.{grouped}
use Rattle.fiber.specs.Frames.{Frame, fits, kept_defers, kept_noted, has_handler, is_guarded, has_note, is_closing, locals_of, handlers_of}
use Rattle.fiber.specs.Frames.{defers_of, noted_of, stack_of}
use Rattle.fiber.specs.Calls.{pushed, popped, gone_to, with_local, guarded, released, unwound, deferred, taken, ended}
use Rattle.fiber.specs.Bounding.{within}
use Rattle.fiber.specs.Framing.{handlers_on, frames}

-- what there is

pub size_in : (hs : List (Head Value)) (ls : List (Level Value)) (fs : List Frame) → frames hs ls ≡ fs → length hs ≡ length fs
size_in hs ls fs are = sym (size_of hs ls) ∙ ap length are
  where
    size_of : (hs : List (Head Value)) (ls : List (Level Value)) → length (frames hs ls) ≡ length hs
    size_of [] ls = refl
    size_of (h ∷ hs) ls = ap suc (size_of hs (drop (suc (length h.bounds)) ls))

pub levels_there : (hs : List (Head Value)) (ls : List (Level Value)) (fs : List Frame) → frames hs ls ≡ fs → length ls ≡ height hs →
    fs ≢ [] → ls ≢ []
levels_there [] ls fs are high some = absurd (some (sym are))
levels_there (h ∷ hs) [] fs are high some = absurd (omega (arith, high))
levels_there (h ∷ hs) (l ∷ ls) fs are high some = λ none. absurd (omega (arith, ap length none))

pub heads_there : (hs : List (Head Value)) (ls : List (Level Value)) (fs : List Frame) → frames hs ls ≡ fs → fs ≢ [] → hs ≢ []
heads_there [] ls fs are some = absurd (some (sym are))
heads_there (h ∷ hs) ls fs are some = λ none. absurd (omega (arith, ap length none))

-- a frame has a level more than it has handlers
pub levels_enough : (hs : List (Head Value)) (ls : List (Level Value)) (fs : List Frame) → frames hs ls ≡ fs → length ls ≡ height hs →
    fs ≢ [] → length (bounds_on hs) + 1 ≤ length ls
levels_enough [] ls fs are high some = absurd (some (sym are))
levels_enough (h ∷ hs) ls fs are high some = omega (arith, high)

pub locals_in : (hs : List (Head Value)) (ls : List (Level Value)) (fs : List Frame) → frames hs ls ≡ fs →
    vals_of (locals_on hs) ≡ locals_of fs
locals_in [] ls fs are = rw (← are) refl
locals_in (h ∷ hs) ls fs are = rw (← are) refl

pub handlers_in : (hs : List (Head Value)) (ls : List (Level Value)) (fs : List Frame) → frames hs ls ≡ fs →
    handlers_on (bounds_on hs) (below ls) ≡ handlers_of fs
handlers_in [] ls fs are = rw (← are) refl
handlers_in (h ∷ hs) ls fs are = rw (← are) refl

pub defers_are : (hs : List (Head Value)) (ls : List (Level Value)) (fs : List Frame) → frames hs ls ≡ fs → fs ≢ [] →
    defers_in (length (bounds_on hs) + 1) ls ≡ defers_of fs
defers_are [] ls fs are some = absurd (some (sym are))
defers_are (h ∷ hs) ls fs are some =
    let next : length h.bounds + 1 ≡ suc (length h.bounds) = omega arith in
    rw (← are, next) refl

pub noted_are : (hs : List (Head Value)) (ls : List (Level Value)) (fs : List Frame) → frames hs ls ≡ fs → fs ≢ [] →
    noted_in (length (bounds_on hs) + 1) ls ≡ noted_of fs
noted_are [] ls fs are some = absurd (some (sym are))
noted_are (h ∷ hs) ls fs are some =
    let next : length h.bounds + 1 ≡ suc (length h.bounds) = omega arith in
    rw (← are, next) refl

defers_kept : (bs : List Bounds) (ls : List (Level Value)) → kept_defers (handlers_on bs ls) ≡ length (defers_in (length bs) ls)
defers_kept [] ls = refl
defers_kept (b ∷ bs) ls = refl

noted_kept : (bs : List Bounds) (ls : List (Level Value)) → kept_noted (handlers_on bs ls) ≡ length (noted_in (length bs) ls)
noted_kept [] ls = refl
noted_kept (b ∷ bs) ls = refl

pub kept_in : (hs : List (Head Value)) (ls : List (Level Value)) (fs : List Frame) (n : ℕ) → frames hs ls ≡ fs →
    n ≡ length (bounds_on hs) + 1 → length (defers_in (n - 1) (below ls)) ≡ kept_defers (handlers_of fs)
kept_in hs ls fs n are e =
    let less : n - 1 ≡ length (bounds_on hs) = omega (arith, e) in
    rw less (sym (defers_kept (bounds_on hs) (below ls)) ∙ ap kept_defers (handlers_in hs ls fs are))

bounds_none : (bs : List Bounds) (ls : List (Level Value)) → handlers_on bs ls ≡ [] → bs ≡ []
bounds_none [] ls none = refl
bounds_none (b ∷ bs) ls none = absurd (omega (arith, ap length none))

pub bare_in : (hs : List (Head Value)) (ls : List (Level Value)) (fs : List Frame) → frames hs ls ≡ fs → handlers_of fs ≡ [] →
    bounds_on hs ≡ []
bare_in hs ls fs are none = bounds_none (bounds_on hs) (below ls) (handlers_in hs ls fs are ∙ none)

-- the calls

pub pushed_in : (hs : List (Head Value)) (ls zs : List (Level Value)) (fs : List Frame) (v : Value) → frames hs ls ≡ fs →
    length ls ≡ height hs → zs ≡ with_operand v ls → (frames hs zs ≡ pushed (val_of v) fs) × (length zs ≡ height hs)
pushed_in [] [] zs fs v are high e = rw (← are, e) (refl, refl)
pushed_in [] (l ∷ ls) zs fs v are high e = absurd (omega (arith, high))
pushed_in (h ∷ hs) [] zs fs v are high e = absurd (omega (arith, high))
pushed_in (h ∷ hs) (l ∷ ls) zs fs v are high e = rw (← are, e) (refl, high)

pub popped_case : (r : Option Value) (hs : List (Head Value)) (ls zs : List (Level Value)) (fs : List Frame) → frames hs ls ≡ fs →
    length ls ≡ height hs → IfSome r (λ x. ls ≡ with_operand x zs) → IfSome r (λ _. zs ≢ []) →
    IfSome r (λ v. popped fs ≡ Some (val_of v, frames hs zs))
popped_case None hs ls zs fs are high e there = tt
popped_case (Some v) hs ls [] fs are high e there = absurd (there refl)
popped_case (Some v) [] ls (z ∷ zs) fs are high e there = absurd (omega (arith, high, ap length e))
popped_case (Some v) (h ∷ hs) ls (z ∷ zs) fs are high e there = rw (← are, e) refl

pub popped_high : (r : Option Value) (n : ℕ) (ls zs : List (Level Value)) → length ls ≡ n → IfSome r (λ x. ls ≡ with_operand x zs) →
    IfSome r (λ _. zs ≢ []) → IfNone r (zs ≡ ls) → length zs ≡ n
popped_high None n ls zs high e there same = ap length same ∙ high
popped_high (Some v) n ls [] high e there same = absurd (there refl)
popped_high (Some v) n ls (z ∷ zs) high e there same = sym (ap length e) ∙ high

pub popped_none : (r : Option Value) (hs : List (Head Value)) (ls : List (Level Value)) (fs : List Frame) → frames hs ls ≡ fs →
    IfNone r (operands_on ls ≡ []) → IfNone r (popped fs ≡ None)
popped_none None [] ls fs are none = rw (← are) refl
popped_none None (h ∷ hs) ls fs are none = rw (← are, none) refl
popped_none (Some v) hs ls fs are none = tt

pub deferred_in : (hs : List (Head Value)) (ls zs : List (Level Value)) (fs : List Frame) (d : ℕ) → frames hs ls ≡ fs →
    length ls ≡ height hs → zs ≡ with_defer d ls → (frames hs zs ≡ deferred d fs) × (length zs ≡ height hs)
deferred_in [] [] zs fs d are high e = rw (← are, e) (refl, refl)
deferred_in [] (l ∷ ls) zs fs d are high e = absurd (omega (arith, high))
deferred_in (h ∷ hs) [] zs fs d are high e = absurd (omega (arith, high))
deferred_in (h ∷ hs) (l ∷ ls) zs fs d are high e = rw (← are, e) (refl, high)

taken_of : (hs : List (Head Value)) (ls os zs : List (Level Value)) (fs : List Frame) (d at : ℕ) → frames hs ls ≡ fs →
    length ls ≡ height hs → os ≢ [] → ls ≡ with_defer d os → zs ≡ with_note at os →
    (taken at fs ≡ Some (d, frames hs zs)) × (length zs ≡ height hs)
taken_of hs ls [] zs fs d at are high some e f = absurd (some refl)
taken_of [] ls (o ∷ os) zs fs d at are high some e f = absurd (omega (arith, high, ap length e))
taken_of (h ∷ hs) ls (o ∷ os) zs fs d at are high some e f = (rw (← are, e, f) refl, rw f (sym (ap length e) ∙ high))

pub taken_in : (hs : List (Head Value)) (ls zs : List (Level Value)) (fs : List Frame) (d at : ℕ) → frames hs ls ≡ fs →
    length ls ≡ height hs → Takes d at ls zs → (taken at fs ≡ Some (d, frames hs zs)) × (length zs ≡ height hs)
taken_in hs ls zs fs d at are high t = taken_of hs ls t.others zs fs d at are high t.some t.before t.after

-- there is a deferred block on the top level, where there are more than are kept
pub taken_some : (hs : List (Head Value)) (ls : List (Level Value)) (fs : List Frame) → frames hs ls ≡ fs →
    kept_defers (handlers_of fs) < length (defers_of fs) → defers_on ls ≢ []
taken_some [] ls fs are more none = let few : 0 < 0 = rw (← are) at more in absurd (omega (arith, few))
taken_some (h ∷ hs) ls fs are more none =
    let few : length (defers_in (length h.bounds) (below ls)) < length (defers_in (length h.bounds) (below ls)) =
    rw (← are, defers_kept h.bounds (below ls), none) at more in
    absurd (omega (arith, few))

pub ended_case : (r : Option ℕ) (hs : List (Head Value)) (ls zs : List (Level Value)) (fs : List Frame) → frames hs ls ≡ fs →
    length ls ≡ height hs → IfSome r (λ x. ls ≡ with_note x zs) → IfSome r (λ _. zs ≢ []) →
    IfSome r (λ n. ended fs ≡ Some (n, frames hs zs))
ended_case None hs ls zs fs are high e there = tt
ended_case (Some n) hs ls [] fs are high e there = absurd (there refl)
ended_case (Some n) [] ls (z ∷ zs) fs are high e there = absurd (omega (arith, high, ap length e))
ended_case (Some n) (h ∷ hs) ls (z ∷ zs) fs are high e there =
    let sum : length (z.noted ++ noted_in (length h.bounds) zs) ≡ length z.noted + length (noted_in (length h.bounds) zs) =
    length-append z.noted (noted_in (length h.bounds) zs) in
    let test : nat_lt (length (noted_in (length h.bounds) zs)) (suc (length (z.noted ++ noted_in (length h.bounds) zs))) ≡ true =
    grind (arith, nat_tests, sum) in
    rw (← are, e, noted_kept h.bounds zs, test) refl

pub ended_high : (r : Option ℕ) (n : ℕ) (ls zs : List (Level Value)) → length ls ≡ n → IfSome r (λ x. ls ≡ with_note x zs) →
    IfSome r (λ _. zs ≢ []) → IfNone r (zs ≡ ls) → length zs ≡ n
ended_high None n ls zs high e there same = ap length same ∙ high
ended_high (Some v) n ls [] high e there same = absurd (there refl)
ended_high (Some v) n ls (z ∷ zs) high e there same = sym (ap length e) ∙ high

pub ended_none : (r : Option ℕ) (hs : List (Head Value)) (ls : List (Level Value)) (fs : List Frame) → frames hs ls ≡ fs →
    IfNone r (noted_on ls ≡ []) → IfNone r (ended fs ≡ None)
ended_none None [] ls fs are none = rw (← are) refl
ended_none None (h ∷ hs) ls fs are none =
    let test : nat_lt (length (noted_in (length h.bounds) (below ls))) (length (noted_in (length h.bounds) (below ls))) ≡ false =
    grind (arith, nat_tests) in
    rw (← are, none, noted_kept h.bounds (below ls), test) refl
ended_none (Some v) hs ls fs are none = tt

pub set_in : (hs gs : List (Head Value)) (ls : List (Level Value)) (fs : List Frame) (i : ℕ) (x : Value) → frames hs ls ≡ fs →
    length ls ≡ height hs → gs ≡ with_local_on i x hs → (frames gs ls ≡ with_local i (val_of x) fs) × (length ls ≡ height gs) ×
    (length gs ≡ length hs)
set_in [] gs ls fs i x are high e = rw (← are, e) (refl, high, refl)
set_in (h ∷ hs) gs ls fs i x are high e = rw (← are, e, map-set val_of h.locals i x) (refl, high, refl)

nested : (a b c : Bool) → cond a (cond b c false) false ≡ cond (cond a b false) c false
nested true b c = refl
nested false b c = refl

fits_in : (bs : List Bounds) (ls : List (Level Value)) (q : ℕ) → fits (handlers_on bs ls) q ≡ within bs q
fits_in [] ls q = refl
fits_in (b ∷ bs) ls q = rw (fits_in bs (below ls) q) (nested (nat_lt b.made q) (nat_lt q b.label) (within bs q))

pub gone_in : (hs gs : List (Head Value)) (ls : List (Level Value)) (fs : List Frame) (q : ℕ) → frames hs ls ≡ fs → length ls ≡ height hs →
    fs ≢ [] → within (bounds_on hs) q ≡ true → gs ≡ with_place q hs → (gone_to q fs ≡ Some (frames gs ls)) × (length ls ≡ height gs) ×
    (length gs ≡ length hs)
gone_in [] gs ls fs q are high some sure e = absurd (some (sym are))
gone_in (h ∷ hs) gs ls fs q are high some sure e =
    let test : fits (handlers_on h.bounds (below ls)) q ≡ true = fits_in h.bounds (below ls) q ∙ sure in
    rw (← are, e, test) (refl, high, refl)

pub gone_none : (hs : List (Head Value)) (ls : List (Level Value)) (fs : List Frame) (q : ℕ) → frames hs ls ≡ fs →
    within (bounds_on hs) q ≡ false → gone_to q fs ≡ None
gone_none [] ls fs q are not_so = rw (← are) refl
gone_none (h ∷ hs) ls fs q are not_so =
    let test : fits (handlers_on h.bounds (below ls)) q ≡ false = fits_in h.bounds (below ls) q ∙ not_so in
    rw (← are, test) refl

pub guarded_in : (hs gs : List (Head Value)) (ls zs : List (Level Value)) (fs : List Frame) (b : Bounds) → frames hs ls ≡ fs →
    length ls ≡ height hs → fs ≢ [] → gs ≡ with_bounds b hs → zs ≡ empty_level ∷ ls →
    (frames gs zs ≡ guarded b.made b.label fs) × (length zs ≡ height gs) × (length gs ≡ length hs)
guarded_in [] gs ls zs fs b are high some e f = absurd (some (sym are))
guarded_in (h ∷ hs) gs ls zs fs b are high some e f = rw (← are, e, f) (refl, omega (arith, high), refl)

pub released_in : (hs gs : List (Head Value)) (ls zs : List (Level Value)) (fs : List Frame) (b : Bounds) → frames hs ls ≡ fs →
    length ls ≡ height hs → hs ≡ with_bounds b gs → gs ≢ [] → zs ≡ merged ls →
    (released fs ≡ Some (frames gs zs)) × (length zs ≡ height gs) × (length gs ≡ length hs)
released_in hs [] ls zs fs b are high e there f = absurd (there refl)
released_in hs (g ∷ gs) [] zs fs b are high e there f = absurd (omega (arith, high, ap height e))
released_in hs (g ∷ gs) (l ∷ []) zs fs b are high e there f = absurd (omega (arith, high, ap height e))
released_in hs (g ∷ gs) (l ∷ m ∷ ls) zs fs b are high e there f =
    let tall : length (l ∷ m ∷ ls) ≡ suc (suc (length g.bounds)) + height gs = high ∙ ap height e in (
      rw (
        ← are,
        e,
        f,
        map-append val_of l.operands m.operands,
        grouped l.defers m.defers (defers_in (length g.bounds) ls),
        grouped l.noted m.noted (noted_in (length g.bounds) ls),
      ) refl,
      rw f (omega (arith, tall)),
      sym (ap length e),
    )

pub two_levels : (hs gs : List (Head Value)) (n : ℕ) (b : Bounds) → n ≡ height hs → hs ≡ with_bounds b gs → gs ≢ [] → 2 ≤ n
two_levels hs [] n b high e there = absurd (there refl)
two_levels hs (g ∷ gs) n b high e there = omega (arith, high, ap height e)

pub released_none : (hs : List (Head Value)) (ls : List (Level Value)) (fs : List Frame) → frames hs ls ≡ fs → bounds_on hs ≡ [] →
    released fs ≡ None
released_none [] ls fs are none = rw (← are) refl
released_none (h ∷ hs) ls fs are none = rw (← are, none) refl

pub closed_in : (hs gs : List (Head Value)) (ls zs : List (Level Value)) (fs : List Frame) → frames hs ls ≡ fs → length ls ≡ height hs →
    fs ≢ [] → handlers_of fs ≡ [] → gs ≡ below hs → zs ≡ below ls →
    (frames gs zs ≡ below fs) × (length zs ≡ height gs) × (length gs < length hs)
closed_in [] gs ls zs fs are high some bare e f = absurd (some (sym are))
closed_in (h ∷ hs) gs [] zs fs are high some bare e f = absurd (omega (arith, high))
closed_in (h ∷ hs) gs (l ∷ ls) zs fs are high some bare e f =
    let none : h.bounds ≡ [] = bare_in (h ∷ hs) (l ∷ ls) fs are bare in
    (rw (← are, e, f, none) refl, rw (e, f) (omega (arith, high, ap length none)), rw e (omega arith))

pub fallen_in : (hs gs : List (Head Value)) (ls zs : List (Level Value)) (fs : List Frame) (b : Bounds) → frames hs ls ≡ fs →
    length ls ≡ height hs → hs ≡ with_bounds b gs → gs ≢ [] → zs ≡ below ls →
    (unwound fs ≡ Some (b.label, frames gs zs)) × (length zs ≡ height gs) × (length gs ≡ length hs)
fallen_in hs [] ls zs fs b are high e there f = absurd (there refl)
fallen_in hs (g ∷ gs) [] zs fs b are high e there f = absurd (omega (arith, high, ap height e))
fallen_in hs (g ∷ gs) (l ∷ ls) zs fs b are high e there f =
    let tall : length (l ∷ ls) ≡ suc (suc (length g.bounds)) + height gs = high ∙ ap height e in
    (rw (← are, e, f) refl, rw f (omega (arith, tall)), sym (ap length e))

-- tests of all frames

guarded_one : (bs : List Bounds) (ls : List (Level Value)) (rest : Bool) → has_bounds bs rest ≡ has_handler (handlers_on bs ls) rest
guarded_one [] ls rest = refl
guarded_one (b ∷ bs) ls rest = refl

guarded_of : (hs : List (Head Value)) (ls : List (Level Value)) → any_bounds hs ≡ is_guarded (frames hs ls)
guarded_of [] ls = refl
guarded_of (h ∷ hs) ls = rw (guarded_of hs (drop (suc (length h.bounds)) ls))
    (guarded_one h.bounds (below ls) (is_guarded (frames hs (drop (suc (length h.bounds)) ls))))

pub guard_in : (hs : List (Head Value)) (ls : List (Level Value)) (fs : List Frame) → frames hs ls ≡ fs → any_bounds hs ≡ is_guarded fs
guard_in hs ls fs are = rw (← are) (guarded_of hs ls)

note_in : (xs ys : List ℕ) (r t : Bool) → has_note ys r ≡ t → has_note (xs ++ ys) r ≡ has_note xs t
note_in [] ys r t e = e
note_in (x ∷ xs) ys r t e = refl

closing_one : (n : ℕ) (ls : List (Level Value)) → n ≤ length ls → has_note (noted_in n ls) (any_noted (drop n ls)) ≡ any_noted ls
closing_one zero ls le = refl
closing_one (suc n) [] le = absurd (omega (arith, le))
closing_one (suc n) (l ∷ ls) le = note_in l.noted (noted_in n ls) (any_noted (drop n ls)) (any_noted ls)
    (closing_one n ls (omega (arith, le))) ∙ same l.noted (any_noted ls)
  where
    same : (xs : List ℕ) (r : Bool) → has_note xs r ≡ Rattle.fiber_stacks.specs.Levels.has_note xs r
    same [] r = refl
    same (x ∷ xs) r = refl

closing_of : (hs : List (Head Value)) (ls : List (Level Value)) → length ls ≡ height hs → is_closing (frames hs ls) ≡ any_noted ls
closing_of [] [] high = refl
closing_of [] (l ∷ ls) high = absurd (omega (arith, high))
closing_of (h ∷ hs) ls high =
    let left : length (drop (suc (length h.bounds)) ls) ≡ height hs = length-drop (suc (length h.bounds)) ls ∙ omega (arith, high) in
    rw (closing_of hs (drop (suc (length h.bounds)) ls) left) (closing_one (suc (length h.bounds)) ls (omega (arith, high)))

pub closing_in : (hs : List (Head Value)) (ls : List (Level Value)) (fs : List Frame) → frames hs ls ≡ fs → length ls ≡ height hs →
    any_noted ls ≡ is_closing fs
closing_in hs ls fs are high = rw (← are) (sym (closing_of hs ls high))

pub permits_in : (hs : List (Head Value)) (ls : List (Level Value)) (fs : List Frame) (q : ℕ) → frames hs ls ≡ fs →
    within (bounds_on hs) q ≡ fits (handlers_of fs) q
permits_in [] ls fs q are = rw (← are) refl
permits_in (h ∷ hs) ls fs q are = rw (← are) (sym (fits_in h.bounds (below ls) q))

-- the operands of the top frame

pub stack_in : (hs : List (Head Value)) (ls : List (Level Value)) (fs : List Frame) → frames hs ls ≡ fs → fs ≢ [] → (xs : List Value) →
    reverse xs ≡ operands_on ls → vals_of (reverse xs) ≡ stack_of fs
stack_in [] ls fs e some xs is = absurd (some (sym e))
stack_in (h ∷ hs) ls fs e some xs is = ap vals_of is ∙ ap stack_of e
