-- Which tasks are cancelled: each of them once, and none of what stood when a frame began.
use Rattle.std.specs.Prelude.{◌≡◌, ℕ, ◌++◌, List, [], ◌∷◌, Bool, true, false}
use Rattle.verse_meaning_state.specs.State.{State}
use Rattle.verse_code.specs.declared.codes.Func.{Func}
use Rattle.verse_value.specs.Val.{Val}
use Rattle.verse_code_machine.specs.Tasks.{Frame, Who, Task, World, Machine, Next, since}
use Rattle.verse_code_machine.specs.Frames.{enters}
use Rattle.verse_code_machine.specs.Cancelling.{without, gone_before, gone_behind}
use Rattle.verse_code_machine_parents.specs.Parents.{EachTask, WorldRooted}

-- the second list with one task more
pub data Inserts (t : Task) : List Task → List Task → Type 0 where
  first_of : {ts : List Task} → Inserts t ts (t ∷ ts)
  behind : {x : Task} {ts us : List Task} → Inserts t ts us → Inserts t (x ∷ ts) (x ∷ us)

-- the tasks of such names, each once in some order, and the others in their order
pub data Splits (f : List ℕ → Bool) : (all gone left : List Task) → Type 0 where
  splits_no : Splits f [] [] []
  goes : {t : Task} {ts gs hs ks : List Task} → f t.thread.who.path ≡ true → Splits f ts gs ks →
      Inserts t gs hs → Splits f (t ∷ ts) hs ks
  stays : {t : Task} {ts gs ks : List Task} → f t.thread.who.path ≡ false → Splits f ts gs ks →
      Splits f (t ∷ ts) gs (t ∷ ks)

-- what is cancelled is cancelled once, and does not stand any more
abbrev pub CancelledOnce : Type 0
CancelledOnce = (f : List ℕ → Bool) (o : World) →
    Splits f o.pre (gone_before f o.pre) (without f o.pre) ×
    Splits f o.post (gone_behind f o.post) (without f o.post)

-- nothing that stands when a frame begins is among what has begun since
abbrev pub NoneSince : Type 0
NoneSince = (f : Func) (vs : List Val) (w : Who) (o : World) (s : State) (bl : List Frame)
    (m : Machine) → WorldRooted s.clock.left w o → enters f vs w o s bl ≡ Next m →
    EachTask (λ t. since w.path m.frame.life.born t.thread.who.path ≡ false) (o.pre ++ o.post)
