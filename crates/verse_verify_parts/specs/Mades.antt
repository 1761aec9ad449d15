-- What an operation made, as the definitions see it.
use Rattle.std.specs.Prelude.{ℕ, suc, List, [], ◌∷◌, set, Option, Some, None, cond}
use Rattle.verse_meaning_state.specs.Waits.{eqn}
use Rattle.verse_sorts.specs.Sorts as s
use Rattle.verse_verify_kept.specs.Rules.{sorts}
use Rattle.verse_verify_faults.specs.Stepping as t
use Rattle.verse_verify_faults.specs.Stepping.{firsts, seconds}
use Rattle.verse_verify_notes.specs.View.{sort_of, sorts_of}
use Rattle.verse_verify_parts.specs.declared.mades.Made.{Made}
use Rattle.verse_verify_parts.specs.declared.mades.Made.TheVariants as m
use Rattle.verse_verify_parts.specs.declared.rows.Write.{Write}

abbrev pub made_of : Made → t.Made
made_of (m.Is a) = t.is (sort_of a.now)
made_of m.Any = t.is s.any
made_of m.Never = t.is s.never
made_of m.Unit = t.is s.unit
made_of m.Nil = t.is s.nil
made_of m.Int = t.is s.int
made_of m.Logic = t.is s.logic
made_of m.Char = t.is s.char
made_of m.Span = t.is s.span
made_of m.Text = t.is (s.list s.char)
made_of m.NeverTask = t.is (s.task s.never)
made_of (m.Enum e) = t.is (s.enum e)
made_of (m.Object c) = t.is (s.obj c)
made_of (m.OptionOf a) = t.is (s.opt (sort_of a.now))
made_of (m.TaskOf a) = t.is (s.task (sort_of a.now))
made_of (m.TupleOf xs) = t.is (s.tuple (sorts (sorts_of xs.now)))
made_of (m.ListOf xs) = t.list_of (sorts_of xs.now)
made_of (m.ListOfTwo a b) = t.list_of (sort_of a.now ∷ sort_of b.now ∷ [])
made_of (m.MapOf xs) = t.map_of (firsts (sorts_of xs.now)) (seconds (sorts_of xs.now))
made_of (m.VarOf a) = t.var_of (sort_of a.now)
made_of m.Event = t.event_of

-- nothing or one thing
abbrev pub pushed : Option Made → List t.Made
pushed None = []
pushed (Some m) = made_of m ∷ []

-- locals behind writes, the first one first
abbrev pub written : List t.Made → List Write → List t.Made
written ls [] = ls
written ls (w ∷ ws) = written (set ls w.local (made_of w.made)) ws

-- what stands in one of them
abbrev pub made_after : t.Made → List Write → ℕ → t.Made
made_after m [] k = m
made_after m (w ∷ ws) k = made_after (cond (eqn w.local k) (made_of w.made) m) ws k

-- each local behind the writes, where the first has this number
abbrev pub each_after : List t.Made → List Write → ℕ → List t.Made
each_after [] ws k = []
each_after (m ∷ ls) ws k = made_after m ws k ∷ each_after ls ws (suc k)
