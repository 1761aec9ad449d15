-- What an operation comes to, where it is not stuck: a value of which R holds, a failure where F,
-- an error where E.
use Rattle.std.specs.Prelude.{ℕ, Option}
use Rattle.verse_base.specs.declared.refusals.Kind.{Kind}
use Rattle.verse_value.specs.Val.{Val}
use Rattle.verse_value.specs.Answer.{Answer, gives, fails, error}
use Rattle.verse_sorts.specs.Sorts.{Sort}
use Rattle.verse_sorts.specs.Typing.{Typing, Is}

pub data Answers (F E : Type 0) {A : Type 0} (R : A → Type 0) : Answer A → Type 0 where
  answers : {x : A} → R x → Answers F E R (gives x)
  answers_failure : F → Answers F E R fails
  answers_error : {k : Kind} → E → Answers F E R (error k)

-- a value of a sort
module _ (F E : Type 0) (up : ℕ → Option ℕ) (t : Typing) where
  abbrev pub OfSort : Sort → Answer Val → Type 0
  OfSort q = Answers F E (λ w. Is up t w q)
