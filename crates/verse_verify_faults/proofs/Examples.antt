-- Notes of the smallest codes, and what is wrong with others.
use Rattle.std.proofs.Common.{◌≡◌, ℕ, List, [], ◌∷◌, Some, None, false, refl}
use Rattle.std.specs.Prelude.{pos}
use Rattle.verse_code.specs.declared.operations.Op.{Op}
use Rattle.verse_code.specs.declared.operations.Op.TheVariants as o
use Rattle.verse_code.specs.declared.codes.Code.{Code}
use Rattle.verse_image.specs.Reading.{many_at, within_at, number_at, digits_at}
use Rattle.verse_verify_faults.specs.Reading.{verdict}

abbrev code : ℕ → List Op → Code
code locals ops = record {
  files = 1;
  texts = [];
  places = [];
  functions = record { params = 0; locals = locals; entry = 0; suspends = false } ∷ [];
  classes = [];
  main = 0;
  ops = ops;
}

abbrev two : Code
two = code 0 (o.Unit ∷ o.Return ∷ [])

passes : verdict two (86 ∷ 83 ∷ 78 ∷ 84 ∷ 1 ∷ 0 ∷ 0 ∷ 1 ∷ 0 ∷ 0 ∷ 0 ∷ 0 ∷ 1 ∷ 0 ∷ 0 ∷ 1 ∷ 3 ∷ 0 ∷ []) ≡ None
unfolding many_at within_at number_at digits_at
passes = refl

other_sort : verdict two (86 ∷ 83 ∷ 78 ∷ 84 ∷ 1 ∷ 0 ∷ 0 ∷ 1 ∷ 0 ∷ 0 ∷ 0 ∷ 0 ∷ 1 ∷ 0 ∷ 0 ∷ 1 ∷ 5 ∷ 0 ∷ []) ≡ Some (7, 0)
unfolding many_at within_at number_at digits_at
other_sort = refl

ends_early : verdict two (86 ∷ 83 ∷ 78 ∷ 84 ∷ 1 ∷ 0 ∷ 0 ∷ 1 ∷ 0 ∷ 0 ∷ 0 ∷ 0 ∷ 1 ∷ 0 ∷ 0 ∷ 1 ∷ 3 ∷ []) ≡ Some (1, 17)
unfolding many_at within_at number_at digits_at
ends_early = refl

no_operand : verdict (code 0 (o.Return ∷ [])) (86 ∷ 83 ∷ 78 ∷ 84 ∷ 1 ∷ 0 ∷ 0 ∷ 1 ∷ 0 ∷ 0 ∷ 0 ∷ 0 ∷ []) ≡ Some (4, 0)
unfolding many_at within_at number_at digits_at
no_operand = refl

other_mark : verdict two (86 ∷ 83 ∷ 78 ∷ 85 ∷ 1 ∷ []) ≡ Some (1, 0)
unfolding many_at within_at number_at digits_at
other_mark = refl

-- units are not added
sum_of_units : verdict (code 0 (o.Unit ∷ o.Unit ∷ (o.Add 0) ∷ o.Return ∷ []))
    (86 ∷ 83 ∷ 78 ∷ 84 ∷ 1 ∷ 0 ∷ 0 ∷ 1 ∷ 0 ∷ 0 ∷ 0 ∷ 0 ∷ 1 ∷ 0 ∷ 0 ∷ 1 ∷ 3 ∷ 0 ∷ 1 ∷ 0 ∷ 0 ∷ 2 ∷ 3 ∷ 3 ∷ 0 ∷ 1 ∷ 0 ∷ 0 ∷ 1 ∷ 5 ∷ 0 ∷ []) ≡
    Some (5, 2)
unfolding many_at within_at number_at digits_at
sum_of_units = refl

-- a local that is none is not read
nothing_to_read : verdict (code 1 ((o.Get 0) ∷ o.Return ∷ []))
    (86 ∷ 83 ∷ 78 ∷ 84 ∷ 1 ∷ 0 ∷ 0 ∷ 1 ∷ 0 ∷ 0 ∷ 0 ∷ 0 ∷ 0 ∷ 1 ∷ 0 ∷ 0 ∷ 0 ∷ 1 ∷ 5 ∷ 0 ∷ []) ≡ Some (6, 0)
unfolding many_at within_at number_at digits_at
nothing_to_read = refl

-- no failure is taken
fails_outside : verdict (code 0 (o.Fail ∷ [])) (86 ∷ 83 ∷ 78 ∷ 84 ∷ 1 ∷ 0 ∷ 0 ∷ 1 ∷ 0 ∷ 0 ∷ 0 ∷ 0 ∷ []) ≡ Some (8, 0)
unfolding many_at within_at number_at digits_at
fails_outside = refl

-- a function that is not open does not wait
waits_outside : verdict (code 0 (o.Forever ∷ o.Return ∷ []))
    (86 ∷ 83 ∷ 78 ∷ 84 ∷ 1 ∷ 0 ∷ 0 ∷ 1 ∷ 0 ∷ 0 ∷ 0 ∷ 0 ∷ 1 ∷ 0 ∷ 0 ∷ 1 ∷ 3 ∷ 0 ∷ []) ≡ Some (9, 0)
unfolding many_at within_at number_at digits_at
waits_outside = refl

-- one that is open does
open_waits : verdict (code 0 (o.Forever ∷ o.Return ∷ [])) (86 ∷ 83 ∷ 78 ∷ 84 ∷ 1 ∷ 0 ∷ 1 ∷ 1 ∷ 0 ∷ 0 ∷ 0 ∷ 0 ∷ 1 ∷ 0 ∷ 0 ∷ 1 ∷ 3 ∷ 0 ∷ []) ≡
    None
unfolding many_at within_at number_at digits_at
open_waits = refl

-- Main does not fail
main_fails : verdict (code 0 (o.Unit ∷ o.Return ∷ [])) (86 ∷ 83 ∷ 78 ∷ 84 ∷ 1 ∷ 1 ∷ 0 ∷ 1 ∷ 0 ∷ 0 ∷ 0 ∷ 0 ∷ 1 ∷ 0 ∷ 0 ∷ 1 ∷ 3 ∷ 0 ∷ []) ≡
    Some (2, 0)
unfolding many_at within_at number_at digits_at
main_fails = refl

-- at the entry there are no operands
not_empty_at_entry : verdict (code 0 (o.Unit ∷ o.Return ∷ []))
    (86 ∷ 83 ∷ 78 ∷ 84 ∷ 1 ∷ 0 ∷ 0 ∷ 1 ∷ 0 ∷ 0 ∷ 1 ∷ 3 ∷ 0 ∷ 1 ∷ 0 ∷ 0 ∷ 2 ∷ 3 ∷ 3 ∷ 0 ∷ []) ≡ Some (3, 0)
unfolding many_at within_at number_at digits_at
not_empty_at_entry = refl

-- under a Try no local is written that its label asks for
label_asks : verdict (code 1 ((o.Int (pos 1)) ∷ (o.Put 0) ∷ (o.Try 7) ∷ (o.Int (pos 2)) ∷ (o.Put 0) ∷ o.Commit ∷ (o.Jump 7) ∷ (o.Get 0) ∷
    o.Return ∷ [])) (86 ∷ 83 ∷ 78 ∷ 84 ∷ 1 ∷ 0 ∷ 0 ∷ 1 ∷ 0 ∷ 0 ∷ 0 ∷ 0 ∷ 0 ∷ 1 ∷ 0 ∷ 0 ∷ 0 ∷ 1 ∷ 5 ∷ 0 ∷ 1 ∷ 0 ∷ 0 ∷ 5 ∷ 0 ∷ 0 ∷ 1 ∷ 0 ∷ 0 ∷
    5 ∷ 0 ∷ 1 ∷ 2 ∷ 0 ∷ 1 ∷ 0 ∷ 0 ∷ 5 ∷ 1 ∷ 5 ∷ 1 ∷ 2 ∷ 0 ∷ 1 ∷ 0 ∷ 0 ∷ 5 ∷ 0 ∷ 1 ∷ 2 ∷ 0 ∷ 1 ∷ 0 ∷ 0 ∷ 5 ∷ 0 ∷ 0 ∷ 1 ∷ 0 ∷ 0 ∷ 5 ∷ 0 ∷ 0 ∷
    1 ∷ 0 ∷ 0 ∷ 5 ∷ 1 ∷ 5 ∷ 0 ∷ []) ≡ Some (8, 4)
unfolding many_at within_at number_at digits_at
label_asks = refl

-- an attempt that ends
attempt : verdict (code 1 ((o.Int (pos 1)) ∷ (o.Put 0) ∷ (o.Try 6) ∷ (o.Int (pos 2)) ∷ o.Drop ∷ o.Commit ∷ (o.Get 0) ∷ o.Return ∷ []))
    (86 ∷ 83 ∷ 78 ∷ 84 ∷ 1 ∷ 0 ∷ 0 ∷ 1 ∷ 0 ∷ 0 ∷ 0 ∷ 0 ∷ 0 ∷ 1 ∷ 0 ∷ 0 ∷ 0 ∷ 1 ∷ 5 ∷ 0 ∷ 1 ∷ 0 ∷ 0 ∷ 5 ∷ 0 ∷ 0 ∷ 1 ∷ 0 ∷ 0 ∷ 5 ∷ 0 ∷ 1 ∷ 2 ∷
    0 ∷ 1 ∷ 0 ∷ 0 ∷ 5 ∷ 1 ∷ 5 ∷ 1 ∷ 2 ∷ 0 ∷ 1 ∷ 0 ∷ 0 ∷ 5 ∷ 0 ∷ 1 ∷ 2 ∷ 0 ∷ 1 ∷ 0 ∷ 0 ∷ 5 ∷ 0 ∷ 0 ∷ 1 ∷ 0 ∷ 0 ∷ 5 ∷ 1 ∷ 5 ∷ 0 ∷ []) ≡ None
unfolding many_at within_at number_at digits_at
attempt = refl

-- the height of a Try is that of the stack at it
other_height : verdict (code 1 ((o.Int (pos 1)) ∷ (o.Put 0) ∷ (o.Try 6) ∷ (o.Int (pos 2)) ∷ o.Drop ∷ o.Commit ∷ (o.Get 0) ∷ o.Return ∷ []))
    (86 ∷ 83 ∷ 78 ∷ 84 ∷ 1 ∷ 0 ∷ 0 ∷ 1 ∷ 0 ∷ 0 ∷ 0 ∷ 0 ∷ 0 ∷ 1 ∷ 0 ∷ 0 ∷ 0 ∷ 1 ∷ 5 ∷ 0 ∷ 1 ∷ 0 ∷ 0 ∷ 5 ∷ 0 ∷ 0 ∷ 1 ∷ 0 ∷ 0 ∷ 5 ∷ 0 ∷ 1 ∷ 2 ∷
    1 ∷ 1 ∷ 0 ∷ 0 ∷ 5 ∷ 1 ∷ 5 ∷ 1 ∷ 2 ∷ 0 ∷ 1 ∷ 0 ∷ 0 ∷ 5 ∷ 0 ∷ 1 ∷ 2 ∷ 0 ∷ 1 ∷ 0 ∷ 0 ∷ 5 ∷ 0 ∷ 0 ∷ 1 ∷ 0 ∷ 0 ∷ 5 ∷ 1 ∷ 5 ∷ 0 ∷ []) ≡
    Some (7, 2)
unfolding many_at within_at number_at digits_at
other_height = refl

-- a deferred block that runs
block : verdict (code 0 ((o.Defer 4) ∷ o.Unit ∷ o.Drop ∷ o.DeferEnd ∷ (o.Leave 0) ∷ o.Unit ∷ o.Return ∷ []))
    (86 ∷ 83 ∷ 78 ∷ 84 ∷ 1 ∷ 0 ∷ 0 ∷ 1 ∷ 0 ∷ 0 ∷ 0 ∷ 0 ∷ 0 ∷ 0 ∷ 0 ∷ 0 ∷ 1 ∷ 0 ∷ 0 ∷ 0 ∷ 0 ∷ 1 ∷ 1 ∷ 0 ∷ 0 ∷ 0 ∷ 1 ∷ 0 ∷ 0 ∷ 1 ∷ 3 ∷ 0 ∷ 1 ∷
    1 ∷ 0 ∷ 0 ∷ 0 ∷ 1 ∷ 0 ∷ 0 ∷ 0 ∷ 0 ∷ 1 ∷ 1 ∷ 0 ∷ 0 ∷ 0 ∷ 1 ∷ 0 ∷ 0 ∷ 0 ∷ 0 ∷ 0 ∷ 0 ∷ 0 ∷ 1 ∷ 1 ∷ 1 ∷ 0 ∷ 0 ∷ 0 ∷ 0 ∷ 0 ∷ 0 ∷ 0 ∷ 0 ∷ 1 ∷
    0 ∷ 0 ∷ 1 ∷ 3 ∷ 0 ∷ 0 ∷ 0 ∷ 0 ∷ 0 ∷ []) ≡ None
unfolding many_at within_at number_at digits_at
block = refl

-- a frame does not return with a block that is deferred
block_left : verdict (code 0 ((o.Defer 4) ∷ o.Unit ∷ o.Drop ∷ o.DeferEnd ∷ (o.Leave 0) ∷ o.Unit ∷ o.Return ∷ []))
    (86 ∷ 83 ∷ 78 ∷ 84 ∷ 1 ∷ 0 ∷ 0 ∷ 1 ∷ 0 ∷ 0 ∷ 0 ∷ 0 ∷ 0 ∷ 0 ∷ 0 ∷ 0 ∷ 1 ∷ 0 ∷ 0 ∷ 0 ∷ 0 ∷ 1 ∷ 1 ∷ 0 ∷ 0 ∷ 0 ∷ 1 ∷ 0 ∷ 0 ∷ 1 ∷ 3 ∷ 0 ∷ 1 ∷
    1 ∷ 0 ∷ 0 ∷ 0 ∷ 1 ∷ 0 ∷ 0 ∷ 0 ∷ 0 ∷ 1 ∷ 1 ∷ 0 ∷ 0 ∷ 0 ∷ 1 ∷ 0 ∷ 0 ∷ 0 ∷ 0 ∷ 0 ∷ 0 ∷ 0 ∷ 1 ∷ 1 ∷ 1 ∷ 0 ∷ 0 ∷ 0 ∷ 0 ∷ 0 ∷ 0 ∷ 0 ∷ 1 ∷ 1 ∷
    1 ∷ 0 ∷ 0 ∷ 1 ∷ 3 ∷ 0 ∷ 0 ∷ 0 ∷ 0 ∷ 1 ∷ 1 ∷ []) ≡ Some (7, 4)
unfolding many_at within_at number_at digits_at
block_left = refl

-- Y := 2 stands between two deferred blocks of one Leave: the last one reads Y, and the first one was
-- deferred when Y was not there
abbrev two_blocks : List Op
two_blocks = (o.Defer 4) ∷ o.Unit ∷ o.Drop ∷ o.DeferEnd ∷ (o.Int (pos 2)) ∷ (o.Put 0) ∷ (o.Defer 10) ∷
    (o.Get 0) ∷ o.Drop ∷ o.DeferEnd ∷ (o.Leave 0) ∷ o.Unit ∷ o.Return ∷ []

abbrev without_y : List ℕ
without_y =
    86 ∷ 83 ∷ 78 ∷ 84 ∷ 1 ∷ 0 ∷ 0 ∷ 1 ∷ 0 ∷ 0 ∷ 0 ∷ 0 ∷ 0 ∷ 0 ∷ 0 ∷ 0 ∷ 0 ∷ 1 ∷ 0 ∷ 0 ∷ 0 ∷ 0 ∷
    0 ∷ 1 ∷ 1 ∷ 0 ∷ 0 ∷ 0 ∷ 1 ∷ 0 ∷ 0 ∷ 0 ∷ 1 ∷ 3 ∷ 0 ∷ 1 ∷ 1 ∷ 0 ∷ 0 ∷ 0 ∷ 1 ∷ 0 ∷ 0 ∷ 0 ∷ 0 ∷
    0 ∷ 1 ∷ 1 ∷ 0 ∷ 0 ∷ 0 ∷ 1 ∷ 0 ∷ 0 ∷ 0 ∷ 0 ∷ 0 ∷ 0 ∷ 0 ∷ 0 ∷ 1 ∷ 1 ∷ 1 ∷ 0 ∷ 0 ∷ 0 ∷ 1 ∷ 5 ∷
    0 ∷ 0 ∷ 0 ∷ 0 ∷ 1 ∷ 1 ∷ 1 ∷ 0 ∷ 0 ∷ 5 ∷ 0 ∷ 0 ∷ 0 ∷ 0 ∷ 0 ∷ 1 ∷ 1 ∷ 1 ∷ 0 ∷ 0 ∷ 5 ∷ 0 ∷ 0 ∷
    1 ∷ 7 ∷ 0 ∷ 1 ∷ 0 ∷ 1 ∷ 0 ∷ 0 ∷ 5 ∷ 1 ∷ 5 ∷ 0 ∷ 1 ∷ 7 ∷ 0 ∷ 1 ∷ 0 ∷ 1 ∷ 0 ∷ 0 ∷ 5 ∷ 0 ∷ 0 ∷
    1 ∷ 7 ∷ 0 ∷ 1 ∷ 0 ∷ 1 ∷ 0 ∷ 0 ∷ 5 ∷ 0 ∷ 0 ∷ 0 ∷ 0 ∷ 0 ∷ 2 ∷ 7 ∷ 1 ∷ 1 ∷ 0 ∷ 0 ∷ 0 ∷ 0 ∷ 0 ∷
    0 ∷ 0 ∷ 0 ∷ 0 ∷ 1 ∷ 0 ∷ 0 ∷ 0 ∷ 1 ∷ 3 ∷ 0 ∷ 0 ∷ 0 ∷ 0 ∷ 0 ∷ []

two_scopes : verdict (code 1 two_blocks) without_y ≡ None
unfolding many_at within_at number_at digits_at
two_scopes = refl

-- Y is not there behind the Leave, since the first block need not keep it
abbrev with_y : List ℕ
with_y =
    86 ∷ 83 ∷ 78 ∷ 84 ∷ 1 ∷ 0 ∷ 0 ∷ 1 ∷ 0 ∷ 0 ∷ 0 ∷ 0 ∷ 0 ∷ 0 ∷ 0 ∷ 0 ∷ 0 ∷ 1 ∷ 0 ∷ 0 ∷ 0 ∷ 0 ∷
    0 ∷ 1 ∷ 1 ∷ 0 ∷ 0 ∷ 0 ∷ 1 ∷ 0 ∷ 0 ∷ 0 ∷ 1 ∷ 3 ∷ 0 ∷ 1 ∷ 1 ∷ 0 ∷ 0 ∷ 0 ∷ 1 ∷ 0 ∷ 0 ∷ 0 ∷ 0 ∷
    0 ∷ 1 ∷ 1 ∷ 0 ∷ 0 ∷ 0 ∷ 1 ∷ 0 ∷ 0 ∷ 0 ∷ 0 ∷ 0 ∷ 0 ∷ 0 ∷ 0 ∷ 1 ∷ 1 ∷ 1 ∷ 0 ∷ 0 ∷ 0 ∷ 1 ∷ 5 ∷
    0 ∷ 0 ∷ 0 ∷ 0 ∷ 1 ∷ 1 ∷ 1 ∷ 0 ∷ 0 ∷ 5 ∷ 0 ∷ 0 ∷ 0 ∷ 0 ∷ 0 ∷ 1 ∷ 1 ∷ 1 ∷ 0 ∷ 0 ∷ 5 ∷ 0 ∷ 0 ∷
    1 ∷ 7 ∷ 0 ∷ 1 ∷ 0 ∷ 1 ∷ 0 ∷ 0 ∷ 5 ∷ 1 ∷ 5 ∷ 0 ∷ 1 ∷ 7 ∷ 0 ∷ 1 ∷ 0 ∷ 1 ∷ 0 ∷ 0 ∷ 5 ∷ 0 ∷ 0 ∷
    1 ∷ 7 ∷ 0 ∷ 1 ∷ 0 ∷ 1 ∷ 0 ∷ 0 ∷ 5 ∷ 0 ∷ 0 ∷ 0 ∷ 0 ∷ 0 ∷ 2 ∷ 7 ∷ 1 ∷ 1 ∷ 0 ∷ 0 ∷ 5 ∷ 0 ∷ 0 ∷
    0 ∷ 0 ∷ 0 ∷ 0 ∷ 1 ∷ 0 ∷ 0 ∷ 5 ∷ 1 ∷ 3 ∷ 0 ∷ 0 ∷ 0 ∷ 0 ∷ 0 ∷ []

kept_behind : verdict (code 1 two_blocks) with_y ≡ Some (7, 10)
unfolding many_at within_at number_at digits_at
kept_behind = refl
