-- Which statuses the answers of commands have.
use Rattle.std.specs.Prelude.{ℕ, List, Option, Some}
use Rattle.verse_outside.specs.Held.{Holding}
use Rattle.verse_top_args.specs.Words.{run, exec, build, load, Options}
use Rattle.verse_top.specs.Loading.{IsRead}
use Rattle.verse_top.specs.Answers.{Answers}
use Rattle.verse_top.specs.Statuses.{EndStatus, RunStatus}

-- `run` has no other, nor has the run of the load
abbrev pub RunIsNeverStuck : Type 0
RunIsNeverStuck = (held : Holding) (names : List (List ℕ)) (o : Options) (status : ℕ)
    (text : List ℕ) → Answers held (run names o) status text → RunStatus status

abbrev pub LoadIsNeverStuck : Type 0
LoadIsNeverStuck = (held : Holding) (n status : ℕ) (text : List ℕ) →
    Answers held (load n) status text → RunStatus status

-- nor has `exec` of what `build` wrote, which is no refusal either
abbrev pub BuiltIsNeverStuck : Type 0
BuiltIsNeverStuck = (held other : List ℕ → Option (List ℕ)) (names : List (List ℕ))
    (name image : List ℕ) (o : Options) (status : ℕ) (text : List ℕ) →
    Answers (Some held) (build names) 0 image → IsRead (Some other) name image →
    Answers (Some other) (exec name o) status text → EndStatus status
