-- The options as the reader of the words keeps them.
use Rattle.std.specs.Prelude.{ℕ, List, ◌↔◌, option_copied}
use Rattle.verse_top_args.specs.Words.{Given, Gives}
use Rattle.verse_top_args.specs.declared.options.Settings.{Settings}

abbrev pub given_of : Settings → Given
given_of s = record {
  steps = s.steps;
  until = s.until;
  inputs = option_copied s.inputs;
  heap =
      s.heap;
}

-- no options are given by these words
abbrev pub Wrong : Given → List (List ℕ) → Type 0
Wrong g words = (h : Given) → ¬ (Gives g words h)

-- with the options before, the words give what the words that are left give with the options by
-- then
abbrev pub Continues : Given → List (List ℕ) → Given → List (List ℕ) → Type 0
Continues g words now left = (h : Given) → Gives g words h ↔ Gives now left h
