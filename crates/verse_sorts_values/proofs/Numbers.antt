-- Operations on ints, and comparisons.
use Rattle.std.proofs.Common.{ℕ, ℤ, Bool, true, false, Option}
use Rattle.std.specs.Prelude.{pos, neg_ℤ, ◌+ℤ◌, ◌-ℤ◌, ◌*ℤ◌, not, if◌then◌else◌}
use Rattle.std.specs.Int.Signed.{lt_z}
use Rattle.std.specs.Ordering.{int_eq}
use Rattle.verse_base.specs.declared.refusals.Kind.{Kind as Error}
use Rattle.verse_base.specs.declared.refusals.Kind.TheVariants as kind
use Rattle.verse_base.specs.Quotients.{floor_quotient, ceil_quotient}
use Rattle.verse_value.specs.Val as v
use Rattle.verse_value.specs.Val.{Val}
use Rattle.verse_value.specs.Answer as a
use Rattle.verse_value.specs.Answer.{Answer}
use Rattle.verse_value.specs.Operations as o
use Rattle.verse_sorts.specs.Sorts as s
use Rattle.verse_sorts.specs.Typing.{Typing, Is, is_int}
use Rattle.verse_sorts_values.specs.Answers.{Answers, OfSort, answers, answers_failure, answers_error}

pub by_test : {A F E : Type 0} {R : A → Type 0} (b : Bool) (x : A) (k : Error) → E → R x →
    Answers F E R (if b then a.gives x else a.error k)
by_test true x k e i = answers i
by_test false x k e i = answers_error e

module _ (up : ℕ → Option ℕ) {t : Typing} {F E : Type 0} where
  ranged : (n : ℤ) → E → OfSort F E up t s.int (o.ranged n)
  ranged n e = by_test (o.is_int n) (v.int n) kind.Overflow e is_int

  pub sum : {x y : Val} → E → Is up t x s.int → Is up t y s.int → OfSort F E up t s.int (o.sum_of x y)
  sum e (is_int {n = m}) (is_int {n}) = ranged (m +ℤ n) e

  pub difference : {x y : Val} → E → Is up t x s.int → Is up t y s.int → OfSort F E up t s.int (o.difference_of x y)
  difference e (is_int {n = m}) (is_int {n}) = ranged (m -ℤ n) e

  pub product : {x y : Val} → E → Is up t x s.int → Is up t y s.int → OfSort F E up t s.int (o.product_of x y)
  product e (is_int {n = m}) (is_int {n}) = ranged (m *ℤ n) e

  pub negation : {x : Val} → E → Is up t x s.int → OfSort F E up t s.int (o.negation_of x)
  negation e (is_int {n}) = ranged (neg_ℤ n) e

  by_zero : {x : Answer Val} (b : Bool) → F → OfSort F E up t s.int x → OfSort F E up t s.int (if b then a.fails else x)
  by_zero true f i = answers_failure f
  by_zero false f i = i

  pub floored : {x y : Val} → F → E → Is up t x s.int → Is up t y s.int → OfSort F E up t s.int (o.floor_of x y)
  floored f e (is_int {n = m}) (is_int {n}) = by_zero (int_eq n (pos 0)) f (ranged (floor_quotient m n) e)

  pub raised : {x y : Val} → F → E → Is up t x s.int → Is up t y s.int → OfSort F E up t s.int (o.ceil_of x y)
  raised f e (is_int {n = m}) (is_int {n}) = by_zero (int_eq n (pos 0)) f (ranged (ceil_quotient m n) e)

  pub modulo : {x y : Val} → F → Is up t x s.int → Is up t y s.int → OfSort F E up t s.int (o.modulo_of x y)
  modulo f (is_int {n = m}) (is_int {n}) = by_zero (int_eq n (pos 0)) f (answers is_int)

  -- a comparison gives its left operand
  pub left : {x : Val} {q : s.Sort} (b : Bool) → F → Is up t x q → OfSort F E up t q (o.left_where b x)
  left true f i = answers i
  left false f i = answers_failure f

  pub less : {x y : Val} → F → Is up t x s.int → Is up t y s.int → OfSort F E up t s.int (o.less_of x y)
  less f (is_int {n = m}) (is_int {n}) = left (lt_z m n) f is_int

  pub at_most : {x y : Val} → F → Is up t x s.int → Is up t y s.int → OfSort F E up t s.int (o.at_most_of x y)
  at_most f (is_int {n = m}) (is_int {n}) = left (not (lt_z n m)) f is_int

  pub greater : {x y : Val} → F → Is up t x s.int → Is up t y s.int → OfSort F E up t s.int (o.greater_of x y)
  greater f (is_int {n = m}) (is_int {n}) = left (lt_z n m) f is_int

  pub at_least : {x y : Val} → F → Is up t x s.int → Is up t y s.int → OfSort F E up t s.int (o.at_least_of x y)
  at_least f (is_int {n = m}) (is_int {n}) = left (not (lt_z m n)) f is_int
