-- Clauses of a `for`, by the steps that stand between their parts.
use Rattle.std.proofs.Common.{◌≡◌, length, refl, ◌∙◌}
use Rattle.verse_tree.specs.Tree.{Tree}
use Rattle.verse_tree.specs.declared.programs.Program.{Program}
use Rattle.verse_meaning.specs.Programs.{program_of}
use Rattle.verse_meaning.specs.Residuals.{Binder, Generator}
use Rattle.verse_meaning.specs.Evaluating.{plain, defines, defers, generates}
use Rattle.verse_sorts.specs.Sorts.{Sort}
use Rattle.lower_code.specs.Scopes.{Scope}
use Rattle.lower_code.specs.Lowering.{with_binder, with_generator}
use Rattle.lower_lookup.specs.Types.{differ_of}
use Rattle.lower_notes.specs.States.{pops}
use Rattle.lower_notes.specs.Stretches.{Walk, one, ends, turning, ◌then◌}
use Rattle.lower_notes.specs.Applied.{bind}
use Rattle.lower_notes.specs.Noting.{claused, takes, turns}
use Rattle.note_sorts.specs.Tabled.{found_of}
use Rattle.note_stretches.specs.Noted.{Noted, marked, resumed, walked}
use Rattle.note_stretches.specs.Forms.{turn_state, turn_begun}
use Rattle.note_stretches.proofs.Laws.{walked_then}
use Rattle.note_stretches.proofs.Loops.{walked_turning}

module _ (p : Program) (q : Sort) (sc : Scope) (whole inner : Walk) (b : Noted) (k : Sort) (rest : Scope → Walk) where
  pub claused_plain : walked (claused (program_of p) (found_of p) (differ_of p) plain q k sc whole inner rest) b ≡
      walked (rest sc) (walked (one (pops 1)) (walked whole b))
  unfolding claused
  claused_plain = walked_then whole (one (pops 1) then rest sc) b ∙ walked_then (one (pops 1)) (rest sc) (walked whole b)

  pub claused_defines : (x : Binder) →
      walked (claused (program_of p) (found_of p) (differ_of p) (defines x) q k sc whole inner rest) b ≡
      walked (rest (with_binder x sc)) (walked (one (pops 1)) (walked (bind x (length sc) q) (walked inner b)))
  unfolding claused
  claused_defines x =
      let f : Walk = bind x (length sc) q in
      let r : Walk = rest (with_binder x sc) in
      walked_then inner (f then one (pops 1) then r) b ∙ walked_then f (one (pops 1) then r) (walked inner b)
      ∙ walked_then (one (pops 1)) r (walked f (walked inner b))

  pub claused_defers : (d : Tree) →
      walked (claused (program_of p) (found_of p) (differ_of p) (defers d) q k sc whole inner rest) b ≡ walked ends b
  unfolding claused
  claused_defers d = refl

  -- the rest stands in the turns of the generator
  pub claused_generates : (g : Generator) →
      walked (claused (program_of p) (found_of p) (differ_of p) (generates g) q k sc whole inner rest) b ≡
      marked (resumed (turn_state (takes g (length sc)) (walked inner b)).exit
      (walked (rest (with_generator g sc))
      (turn_begun (turns g (length sc) q k) (turn_state (takes g (length sc)) (walked inner b)))))
  unfolding claused
  claused_generates g =
      walked_then inner (turning (takes g (length sc)) (turns g (length sc) q k) (rest (with_generator g sc))) b
      ∙ walked_turning (takes g (length sc)) (turns g (length sc) q k) (rest (with_generator g sc)) (walked inner b)
