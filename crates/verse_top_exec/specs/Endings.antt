-- What is written behind the trace of a run.
use Rattle.verse_base.specs.declared.limits.TheConstants.{MOST_NOW, MOST_STEPS}
use Rattle.std.specs.Prelude.{◌≡◌, ◌⊎◌, ℕ, ◌≤◌, List, [], ◌++◌, Bool, cond, length}
use Rattle.verse_value.specs.Store.{Store}
use Rattle.verse_value.specs.Runs.{Run}
use Rattle.verse_meaning_state.specs.Texts.{heap_lines, ending_line}
use Rattle.verse_top_texts.specs.Endings.{ended}
use Rattle.verse_top_args.specs.Words.{Options}
use Rattle.verse_top_exec.specs.declared.streams.Last.{Last}
use Rattle.verse_top_exec.specs.Cells.{FirstLines}

-- the lines of the heap, where they are asked for, and the last line
abbrev pub rest_text : Bool → Store → (files : ℕ) → Run → List ℕ
rest_text asked cells files r = cond asked (heap_lines 0 cells) [] ++ ending_line files r

abbrev pub last_run : Last → Run
last_run l = ended l.ending l.now l.steps l.live

-- these lines, or the first of the heap alone
abbrev pub FrontOf : Bool → Store → (files : ℕ) → Run → List ℕ → Type 0
FrontOf asked cells files r text = FirstLines asked cells text ⊎
    (text ≡ rest_text asked cells files r)

-- the limits of a run
pub record IsWithin (o : Options) : Type 0 where
  pub inputs : length o.inputs ≤ 1000
  pub steps : o.steps ≤ MOST_STEPS
  pub until : o.until ≤ MOST_NOW
