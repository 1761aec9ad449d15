-- `loop`, and the body of a `for`, by their steps.
use Rattle.std.proofs.Common.{◌≡◌, ℕ, Option, sym, ap, ◌∙◌}
use Rattle.verse_tree.specs.Tree.{Tree}
use Rattle.verse_tree.specs.Tree as t
use Rattle.verse_tree.specs.declared.programs.Program.{Program}
use Rattle.lower_code.specs.Arounds.{looped}
use Rattle.lower_code.specs.Scopes.{Scope}
use Rattle.lower_code.specs.declared.arounds.Around.{Around}
use Rattle.lower_notes.specs.States.{State, pops, untried}
use Rattle.lower_notes.specs.Stretches.{Walk, one}
use Rattle.note_stretches.specs.Noted.{Noted, marked, walked, loop_begun, loop_ended}
use Rattle.note_stretches.specs.Forms.{turned}
use Rattle.note_stretches.proofs.Loops.{walked_looping}
use Rattle.note_applied.proofs.Steps.{three_steps}
use Rattle.note_parts.specs.Parts.{tree_walk, form_walk, no_place}
use Rattle.note_loops.specs.Walks.{body_walk}

module _ (p : Program) (sc : Scope) (a : Around) where
  pub body_by : (e : Tree) (b x y r : Noted) → x ≡ walked (one untried) b → y ≡ walked (tree_walk p e sc a) x →
      r ≡ walked (one (pops 1)) y → r ≡ walked (body_walk p e a sc) b
  body_by e b x y r f g is = three_steps (one untried) (tree_walk p e sc a) (one (pops 1)) b x y r f g is

  pub loop_by : (e : Tree) (inside : Around) (d : ℕ) (l : Option ℕ) (s : Option State) (b c y r : Noted) → inside ≡ looped a →
      d ≡ b.deep → l ≡ b.left → s ≡ b.exit → c ≡ marked (loop_begun b) → y ≡ walked (tree_walk p e sc inside) c →
      r ≡ loop_ended d l s (turned s y) → r ≡ walked (form_walk p (t.Shape.loop_form e) 0 no_place sc a) b
  loop_by e inside d l s b c y r h j k m f g is =
      let w : Walk = tree_walk p e sc (looped a) in
      is ∙ ap (λ d. loop_ended d l s (turned s y)) j ∙ ap (λ l. loop_ended b.deep l s (turned s y)) k
      ∙ ap (λ s. loop_ended b.deep b.left s (turned s y)) m
      ∙ ap (λ y. loop_ended b.deep b.left b.exit (turned b.exit y))
      (g ∙ ap (λ k. walked (tree_walk p e sc k) c) h ∙ ap (walked w) f)
      ∙ sym (walked_looping w b)
