-- `and` and `not`, by their steps.
use Rattle.std.proofs.Common.{◌≡◌, Option, sym, ap, ◌∙◌}
use Rattle.verse_tree.specs.Tree.{Tree}
use Rattle.verse_tree.specs.Tree as t
use Rattle.verse_tree.specs.declared.exprs.Operator.TheVariants as op
use Rattle.verse_tree.specs.declared.programs.Program.{Program}
use Rattle.lower_code.specs.Arounds.{enclosed}
use Rattle.lower_code.specs.Scopes.{Scope}
use Rattle.lower_code.specs.declared.arounds.Around.{Around}
use Rattle.lower_notes.specs.States.{State, pops, untried}
use Rattle.lower_notes.specs.Stretches.{Walk, one, last, ends, attempt, ◌then◌}
use Rattle.note_stretches.specs.Noted.{Noted, resumed, walked}
use Rattle.note_stretches.specs.Forms.{tried_begun}
use Rattle.note_stretches.proofs.Laws.{walked_attempt}
use Rattle.note_applied.proofs.Steps.{three_steps}
use Rattle.note_parts.specs.Parts.{tree_walk, form_walk, no_place}
use Rattle.note_blocks.proofs.Steps.{two_steps}

pub four_steps : (f g h i : Walk) (b x y z r : Noted) → x ≡ walked f b → y ≡ walked g x → z ≡ walked h y → r ≡ walked i z →
    r ≡ walked (f then g then h then i) b
four_steps f g h i b x y z r c d e is = two_steps f (g then h then i) b x r c (three_steps g h i x y z r d e is)

module _ (p : Program) (sc : Scope) (a : Around) where
  pub and_by : (e d left right : Tree) (here : Scope) (b x y r : Noted) → left ≡ e → right ≡ d → here ≡ sc →
      x ≡ walked (tree_walk p left sc a) b → y ≡ walked (one (pops 1)) x → r ≡ walked (tree_walk p right here a) y →
      r ≡ walked (form_walk p (t.Shape.chained op.And e d) 0 no_place sc a) b
  and_by e d left right here b x y r k l s f g is =
      three_steps (tree_walk p e sc a) (one (pops 1)) (tree_walk p d sc a) b x y r
      (f ∙ ap (λ k. walked (tree_walk p k sc a) b) k) g
      (is ∙ ap (λ k. walked (tree_walk p k here a) y) l ∙ ap (λ s. walked (tree_walk p d s a) y) s)

  pub not_by : (e : Tree) (inside : Around) (s : Option State) (b c x y z u v r : Noted) → inside ≡ enclosed a → s ≡ b.exit →
      c ≡ tried_begun b → x ≡ walked (tree_walk p e sc inside) c → y ≡ walked (one (pops 1)) x → z ≡ walked (one untried) y →
      u ≡ walked ends z → v ≡ resumed s u → r ≡ walked last v →
      r ≡ walked (form_walk p (t.Shape.negation e) 0 no_place sc a) b
  not_by e inside s b c x y z u v r h k d f g m i j is =
      let w : Walk = tree_walk p e sc (enclosed a) then one (pops 1) then one untried then ends in
      two_steps (attempt w) last b v r
      (j ∙ ap (λ s. resumed s u) k
      ∙ ap (resumed b.exit)
      (four_steps (tree_walk p e sc (enclosed a)) (one (pops 1)) (one untried) ends c x y z u
      (f ∙ ap (λ k. walked (tree_walk p e sc k) c) h) g m i ∙ ap (walked w) d)
      ∙ sym (walked_attempt w b)) is
