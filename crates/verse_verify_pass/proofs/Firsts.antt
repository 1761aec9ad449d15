-- Operations one by one, and how many operands there are.
use Rattle.std.proofs.Common.{◌≡◌, ℕ, zero, suc, ◌+◌, ◌-◌, ◌<◌, ◌≤◌, List, [], ◌∷◌, ◌++◌, length, reverse, take, drop, min, Bool, true}
use Rattle.std.proofs.Common.{false}
use Rattle.std.proofs.Common.{cond, refl, sym, ap, ◌∙◌, arith}
use Rattle.std.specs.Prelude.{Option, Some, None, nat_lt, slice_get, ◌||◌}
use Rattle.std.proofs.lemmas.Bool.{lt-ltb, le-ltb}
use Rattle.std.proofs.lemmas.List.{length-take, reverse-append}
use Rattle.std.proofs.lemmas.Option.{none-some}
use Rattle.std.proofs.Math.Bool.{or-false}
use Rattle.verse_code.specs.declared.operations.Op.{Op}
use Rattle.verse_code.specs.declared.codes.Code.{Code}
use Rattle.verse_sorts.specs.Sorts.{Sort}
use Rattle.verse_verify_faults.specs.Spots.{Mark, Spot, Table, spot_at, room, above}
use Rattle.verse_verify_faults.specs.Stepping.{step}
use Rattle.verse_verify_faults.specs.Fitting.{is_never, any_never}
use Rattle.verse_verify_faults.specs.Faults.{begins_at, by_step, fault_of, fault_here, first_fault, lacks_values, or_later, pops}
use Rattle.verse_verify_notes.specs.View.{sorts_of}
use Rattle.verse_verify_notes.specs.declared.sorts.Sort.{Sort as Kept}
use Rattle.verse_verify_parts.specs.Heres.{operands}
use Rattle.verse_verify_parts.proofs.Lists.{stack_length}

pub from_op : (ops : List Op) (i : ℕ) (op : Op) → slice_get ops i ≡ Some op → drop i ops ≡ op ∷ drop (suc i) ops
from_op [] i op e = elim (none-some _ e) [ ]
from_op (x ∷ ops) zero op e = ap (λ y. y ∷ ops) (cc)
from_op (x ∷ ops) (suc i) op e = from_op ops i op e

-- how many operands lie above the innermost open Try
room_least : (st : List Sort) (ms : List Mark) → room st ms ≤ length st
room_least st [] = omega arith
room_least st (m ∷ ms) = omega arith

pub above_length : (st : List Sort) (ms : List Mark) → length (above st ms) ≡ room st ms
above_length st ms = length-take (room st ms) st ∙ least _ _ (room_least st ms)
  where
    least : (n m : ℕ) → n ≤ m → min n m ≡ n
    least n m h = omega (arith, h)

pub room_is : (xs : List Kept) (st : List Sort) (ms : List Mark) → operands xs ≡ above st ms → length xs ≡ room st ms
room_is xs st ms e = sym (stack_length xs) ∙ ap length e ∙ above_length st ms

-- whether one has no value does not depend on the order
any_or : (a b : Bool) → (a || b) ≡ (b || a)
any_or true true = refl
any_or true false = refl
any_or false true = refl
any_or false false = refl

or_more : (a b d : Bool) → ((a || b) || d) ≡ (a || (b || d))
or_more true b d = refl
or_more false b d = refl

any_behind : (xs ys : List Sort) → any_never (xs ++ ys) ≡ (any_never xs || any_never ys)
any_behind [] ys = refl
any_behind (x ∷ xs) ys =
    ap (λ b. is_never x || b) (any_behind xs ys) ∙ sym (or_more (is_never x) (any_never xs) (any_never ys))

pub any_turned : (xs : List Sort) → any_never (reverse xs) ≡ any_never xs
any_turned [] = refl
any_turned (x ∷ xs) =
    ap any_never (reverse-append (x ∷ []) xs) ∙ any_behind (reverse xs) (x ∷ [])
    ∙ ap (λ b. any_never (reverse xs) || b) (or-false (is_never x))
    ∙ any_or (any_never (reverse xs)) (is_never x) ∙ ap (λ b. is_never x || b) (any_turned xs)

-- by the operands as they are in memory, the top the last: one of them has no value, or what is asked of the locals decides
pub lacks_operand : (p : Spot) (xs : List Kept) → operands xs ≡ above p.stack p.tries → any_never (sorts_of xs) ≡ true →
    lacks_values p ≡ true
lacks_operand p xs e h =
    ap (λ k. k || any_never p.locals) (sym (ap any_never e) ∙ any_turned (sorts_of xs) ∙ h)

pub lacks_local : (p : Spot) (xs : List Kept) → operands xs ≡ above p.stack p.tries → any_never (sorts_of xs) ≡ false →
    lacks_values p ≡ any_never p.locals
lacks_local p xs e h =
    ap (λ k. k || any_never p.locals) (sym (ap any_never e) ∙ any_turned (sorts_of xs) ∙ h)

module _ (c : Code) (t : Table) where
  -- too few operands above it, and enough
  pub lacks_operands : (i : ℕ) (p : Spot) (op : Op) (xs : List Kept) → operands xs ≡ above p.stack p.tries → length xs < pops c t op →
      fault_of c t i p op ≡ Some 4
  lacks_operands i p op xs e h = ap (λ n. cond (nat_lt n (pops c t op)) (Some 4) (by_step c t i p op (step c t p i op (above p.stack
      p.tries)))) (sym (room_is xs p.stack p.tries e)) ∙ ap (λ b. cond b (Some 4) (by_step c t i p op (step c t p i op (above p.stack
      p.tries)))) (lt-ltb (length xs) (pops c t op) h)

  pub has_operands : (i : ℕ) (p : Spot) (op : Op) (xs : List Kept) → operands xs ≡ above p.stack p.tries → pops c t op ≤ length xs →
      fault_of c t i p op ≡ by_step c t i p op (step c t p i op (operands xs))
  has_operands i p op xs e h = ap (λ n. cond (nat_lt n (pops c t op)) (Some 4) (by_step c t i p op (step c t p i op (above p.stack
      p.tries)))) (sym (room_is xs p.stack p.tries e)) ∙ ap (λ b. cond b (Some 4) (by_step c t i p op (step c t p i op (above p.stack
      p.tries)))) (le-ltb (length xs) (pops c t op) h) ∙ ap (λ st. by_step c t i p op (step c t p i op st)) (sym e)

  abbrev pub entries_fit : ℕ → Bool
  entries_fit i = begins_at c t 0 c.functions t.functions i

  -- an operation that breaks a rule, one that breaks none, and one at which notes of an entry are wrong
  pub breaks_here : (ops : List Op) (i : ℕ) (op : Op) (rule : ℕ) → slice_get ops i ≡ Some op → entries_fit i ≡ true →
      fault_here c t i (spot_at t i) op ≡ Some rule → first_fault c t i (drop i ops) ≡ Some (rule, i)
  breaks_here ops i op rule e b r = ap (first_fault c t i) (from_op ops i op e) ∙ ap (λ o. or_later c t i o (first_fault c t (suc i) (drop
      (suc i) ops))) (ap (λ a. cond a (fault_here c t i (spot_at t i) op) (Some 3)) b ∙ r)

  pub goes_on : (ops : List Op) (i : ℕ) (op : Op) → slice_get ops i ≡ Some op → entries_fit i ≡ true →
      fault_here c t i (spot_at t i) op ≡ None → first_fault c t i (drop i ops) ≡ first_fault c t (i + 1) (drop (i + 1) ops)
  goes_on ops i op e b r = ap (first_fault c t i) (from_op ops i op e) ∙ ap (λ o. or_later c t i o (first_fault c t (suc i) (drop (suc i)
      ops))) (ap (λ a. cond a (fault_here c t i (spot_at t i) op) (Some 3)) b ∙ r) ∙ ap (λ j. first_fault c t j (drop j ops)) (next i)
    where
      next : (i : ℕ) → suc i ≡ i + 1
      next i = omega arith

  pub breaks_entry : (ops : List Op) (i : ℕ) → i < length ops → entries_fit i ≡ false → first_fault c t i (drop i ops) ≡ Some (3, i)
  breaks_entry ops i h b = go (drop i ops) (rest ops i h)
    where
      rest : (ops : List Op) (i : ℕ) → i < length ops → 0 < length (drop i ops)
      rest [] i h = absurd (omega (arith, h))
      rest (x ∷ ops) zero h = omega arith
      rest (x ∷ ops) (suc i) h = rest ops i (omega (arith, h))

      go : (xs : List Op) → 0 < length xs → first_fault c t i xs ≡ Some (3, i)
      go [] h = absurd (omega (arith, h))
      go (op ∷ xs) h =
          ap (λ o. or_later c t i o (first_fault c t (suc i) xs)) (ap (λ a. cond a (fault_here c t i (spot_at t i) op) (Some 3)) b)

  pub none_left : (ops : List Op) (i k : ℕ) → slice_get ops i ≡ None → first_fault c t k (drop i ops) ≡ None
  none_left [] zero k h = refl
  none_left [] (suc i) k h = refl
  none_left (x ∷ ops) zero k h = elim (none-some _ (sym h)) [ ]
  none_left (x ∷ ops) (suc i) k h = none_left ops i k h

  pub none_behind : (ops : List Op) (i k : ℕ) → length ops ≤ i → first_fault c t k (drop i ops) ≡ None
  none_behind [] zero k h = refl
  none_behind [] (suc i) k h = refl
  none_behind (x ∷ ops) zero k h = absurd (omega (arith, h))
  none_behind (x ∷ ops) (suc i) k h = none_behind ops i k (omega (arith, h))
