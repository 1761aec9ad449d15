-- Failure contexts, by their steps.
use Rattle.std.proofs.Common.{◌≡◌, ℕ, Option, Some, None, sym, ap, ◌∙◌}
use Rattle.verse_tree.specs.Tree as t
use Rattle.verse_tree.specs.Tree.{Tree, Trees}
use Rattle.verse_tree.specs.View.{if_shape}
use Rattle.verse_tree.specs.declared.programs.Program.{Program}
use Rattle.lower_code.specs.Arounds.{enclosed}
use Rattle.lower_code.specs.Lowering.{scope_behind}
use Rattle.lower_code.specs.Scopes.{Scope}
use Rattle.lower_code.specs.declared.arounds.Around.{Around}
use Rattle.lower_notes.specs.States.{State, pops, gives, untried}
use Rattle.lower_notes.specs.Stretches.{Walk, one, last, either_try, ◌then◌}
use Rattle.note_sorts.specs.Tabled.{found_of}
use Rattle.note_stretches.specs.Noted.{Noted, met, walked}
use Rattle.note_stretches.specs.Forms.{tried_begun, other_begun}
use Rattle.note_stretches.proofs.Laws.{walked_either_try}
use Rattle.note_applied.proofs.Steps.{three_steps}
use Rattle.note_parts.specs.Parts.{tree_walk, form_walk, no_place}
use Rattle.note_blocks.specs.Walks.{statements_walk}
use Rattle.note_failing.specs.Walks.{taken_walk}
use Rattle.note_failing.proofs.Steps.{four_steps}

-- an attempt, and another part where it fails
pub either_by : (f g : Walk) (x : Option State) (b c d r : Noted) → x ≡ b.exit → c ≡ tried_begun b → d ≡ walked f c →
    r ≡ met d.exit (walked g (other_begun x d)) → r ≡ walked (either_try f g) b
either_by f g x b c d r h e k is =
    is ∙ ap (λ x. met d.exit (walked g (other_begun x d))) h
    ∙ ap (λ d. met d.exit (walked g (other_begun b.exit d))) (k ∙ ap (walked f) e) ∙ sym (walked_either_try f g b)

module _ (p : Program) (sc : Scope) (a : Around) (cs : Trees) (t : Tree) where
  pub if_alone_by : (e : Option Tree) (x : Option State) (b c d r : Noted) → e ≡ None → x ≡ b.exit → c ≡ tried_begun b →
      d ≡ walked (taken_walk p cs t sc a) c → r ≡ met d.exit (walked last (other_begun x d)) →
      r ≡ walked (form_walk p (if_shape cs t e) 0 no_place sc a) b
  if_alone_by e x b c d r n h f g is =
      either_by (taken_walk p cs t sc a) last x b c d r h f g is
      ∙ ap (λ k. walked (form_walk p (if_shape cs t k) 0 no_place sc a) b) (sym n)

  pub if_else_by : (e : Option Tree) (other : Tree) (here : Scope) (x : Option State) (b c d r : Noted) → e ≡ Some other →
      here ≡ sc → x ≡ b.exit → c ≡ tried_begun b → d ≡ walked (taken_walk p cs t sc a) c →
      r ≡ met d.exit (walked (tree_walk p other here a) (other_begun x d)) →
      r ≡ walked (form_walk p (if_shape cs t e) 0 no_place sc a) b
  if_else_by e other here x b c d r n s h f g is =
      either_by (taken_walk p cs t sc a) (tree_walk p other sc a) x b c d r h f g
      (is ∙ ap (λ k. met d.exit (walked (tree_walk p other k a) (other_begun x d))) s)
      ∙ ap (λ k. walked (form_walk p (if_shape cs t k) 0 no_place sc a) b) (sym n)

module _ (p : Program) (sc : Scope) (a : Around) where
  pub taken_by : (cs ds : Trees) (t u : Tree) (inside : Around) (here : Scope) (b c d e r : Noted) → inside ≡ enclosed a →
      ds ≡ cs → u ≡ t → here ≡ scope_behind ds sc → c ≡ walked (statements_walk p ds sc inside) b →
      d ≡ walked (one (pops 1)) c → e ≡ walked (one untried) d → r ≡ walked (tree_walk p u here a) e →
      r ≡ walked (taken_walk p cs t sc a) b
  taken_by cs ds t u inside here b c d e r h k m s f g i is =
      four_steps (statements_walk p cs sc (enclosed a)) (one (pops 1)) (one untried) (tree_walk p t (scope_behind cs sc) a) b c d e r
      (f ∙ ap (λ x. walked (statements_walk p x sc inside) b) k ∙ ap (λ x. walked (statements_walk p cs sc x) b) h) g i
      (is ∙ ap (λ x. walked (tree_walk p x here a) e) m ∙ ap (λ x. walked (tree_walk p t x a) e) (s ∙ ap (λ x. scope_behind x sc) k))

  pub option_by : (cs : Trees) (n : ℕ) (inside : Around) (x : Option State) (b c d e f r : Noted) → inside ≡ enclosed a →
      x ≡ b.exit → c ≡ tried_begun b → d ≡ walked (statements_walk p cs sc inside) c → e ≡ walked (one untried) d →
      f ≡ walked (one (gives 1 ((found_of p).sort n))) e → r ≡ met f.exit (walked last (other_begun x f)) →
      r ≡ walked (form_walk p (t.Shape.option cs) n no_place sc a) b
  option_by cs n inside x b c d e f r h k g i j m is =
      let q = (found_of p).sort n in
      either_by (statements_walk p cs sc (enclosed a) then one untried then one (gives 1 q)) last x b c f r k g
      (three_steps (statements_walk p cs sc (enclosed a)) (one untried) (one (gives 1 q)) c d e f
      (i ∙ ap (λ x. walked (statements_walk p cs sc x) c) h) j m) is

  pub logic_by : (cs : Trees) (n : ℕ) (inside : Around) (x : Option State) (b c d y e f r : Noted) → inside ≡ enclosed a →
      x ≡ b.exit → c ≡ tried_begun b → d ≡ walked (statements_walk p cs sc inside) c → y ≡ walked (one (pops 1)) d →
      e ≡ walked (one untried) y →
      f ≡ walked (one (gives 0 ((found_of p).sort n))) e → r ≡ met f.exit (walked last (other_begun x f)) →
      r ≡ walked (form_walk p (t.Shape.logic cs) n no_place sc a) b
  logic_by cs n inside x b c d y e f r h k g i l j m is =
      let q = (found_of p).sort n in
      either_by (statements_walk p cs sc (enclosed a) then one (pops 1) then one untried then one (gives 0 q)) last x b c f r k g
      (four_steps (statements_walk p cs sc (enclosed a)) (one (pops 1)) (one untried) (one (gives 0 q)) c d y e f
      (i ∙ ap (λ x. walked (statements_walk p cs sc x) c) h) l j m) is
