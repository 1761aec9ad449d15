-- Statements, by the steps that stand between their parts.
use Rattle.std.proofs.Common.{◌≡◌, length, refl}
use Rattle.verse_tree.specs.Tree.{Tree}
use Rattle.verse_tree.specs.declared.programs.Program.{Program}
use Rattle.verse_meaning.specs.Programs.{program_of}
use Rattle.verse_meaning.specs.Residuals.{Binder, Generator}
use Rattle.verse_meaning.specs.Evaluating.{plain, defines, defers, generates}
use Rattle.verse_sorts.specs.Sorts.{Sort}
use Rattle.lower_code.specs.Scopes.{Scope}
use Rattle.lower_lookup.specs.Types.{differ_of}
use Rattle.lower_notes.specs.States.{pops, gives, in_block, deferred}
use Rattle.lower_notes.specs.Stretches.{Walk, one, ends, ahead, ◌then◌}
use Rattle.lower_notes.specs.Applied.{bind}
use Rattle.lower_notes.specs.Noting.{stated}
use Rattle.note_sorts.specs.Tabled.{found_of}
use Rattle.note_stretches.specs.Noted.{Noted, walked}
use Rattle.note_stretches.proofs.Laws.{walked_then}

module _ (p : Program) (q : Sort) (sc : Scope) (whole inner : Walk) (b : Noted) where
  pub stated_plain : walked (stated (program_of p) (found_of p) (differ_of p) plain q sc whole inner) b ≡ walked whole b
  unfolding stated
  stated_plain = refl

  pub stated_defines : (x : Binder) →
      walked (stated (program_of p) (found_of p) (differ_of p) (defines x) q sc whole inner) b ≡
      walked (bind x (length sc) q) (walked inner b)
  unfolding stated
  stated_defines x = walked_then inner (bind x (length sc) q) b

  pub stated_defers : (d : Tree) →
      walked (stated (program_of p) (found_of p) (differ_of p) (defers d) q sc whole inner) b ≡
      walked (ahead in_block deferred (inner then one (pops 1) then ends) then one (gives 0 q)) b
  unfolding stated
  stated_defers d = refl

  pub stated_generates : (g : Generator) →
      walked (stated (program_of p) (found_of p) (differ_of p) (generates g) q sc whole inner) b ≡ walked ends b
  unfolding stated
  stated_generates g = refl
