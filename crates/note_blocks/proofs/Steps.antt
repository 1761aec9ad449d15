-- Definitions and deferred blocks, by their steps.
use Rattle.std.proofs.Common.{◌≡◌, ℕ, length, Option, sym, ap, ◌∙◌}
use Rattle.std.specs.Option.{option_map}
use Rattle.verse_tree.specs.Tree.{Tree}
use Rattle.verse_tree.specs.declared.programs.Program.{Program}
use Rattle.verse_meaning.specs.Evaluating.{number_of}
use Rattle.lower_code.specs.Scopes.{Scope}
use Rattle.lower_code.specs.declared.arounds.Around.{Around}
use Rattle.lower_blocks.specs.Codes.{constant_shape, variable_shape}
use Rattle.lower_notes.specs.States.{State, pops, gives, in_block, deferred}
use Rattle.lower_notes.specs.Stretches.{Walk, one, ends, ahead, ◌then◌}
use Rattle.lower_notes.specs.Applied.{kept}
use Rattle.note_sorts.specs.Tabled.{found_of}
use Rattle.note_stretches.specs.Noted.{Noted, marked, changed, resumed, walked}
use Rattle.note_stretches.proofs.Laws.{walked_then, walked_ahead}
use Rattle.note_applied.specs.Steps.{varied}
use Rattle.note_applied.proofs.Steps.{three_steps}
use Rattle.note_parts.specs.Parts.{tree_walk, form_walk, no_place}
use Rattle.note_blocks.specs.Walks.{inner_walk, deferred_walk}

pub two_steps : (f g : Walk) (b x r : Noted) → x ≡ walked f b → r ≡ walked g x → r ≡ walked (f then g) b
two_steps f g b x r e is = is ∙ ap (walked g) e ∙ sym (walked_then f g b)

module _ (p : Program) (sc : Scope) (a : Around) where
  pub constant_by : (e : Tree) (n l : ℕ) (b x r : Noted) → l ≡ length sc → x ≡ walked (tree_walk p e sc a) b →
      r ≡ walked (kept l ((found_of p).sort n)) x → r ≡ walked (form_walk p (constant_shape e) n no_place sc a) b
  constant_by e n l b x r h d is =
      two_steps (tree_walk p e sc a) (kept (length sc) ((found_of p).sort n)) b x r d
      (is ∙ ap (λ l. walked (kept l ((found_of p).sort n)) x) h)

  pub variable_by : (e : Tree) (n l : ℕ) (b x r : Noted) → l ≡ length sc → x ≡ walked (tree_walk p e sc a) b →
      r ≡ walked (varied l ((found_of p).sort n)) x → r ≡ walked (form_walk p (variable_shape e) n no_place sc a) b
  variable_by e n l b x r h d is =
      two_steps (tree_walk p e sc a) (varied (length sc) ((found_of p).sort n)) b x r d
      (is ∙ ap (λ l. walked (varied l ((found_of p).sort n)) x) h)

  pub defer_by : (e : Tree) (n : ℕ) (s : Option State) (b c x y z v r : Noted) →
      s ≡ option_map (deferred (length b.spots)) b.exit → c ≡ changed (in_block (length b.spots)) (marked b) →
      x ≡ walked (inner_walk p e sc a) c → y ≡ walked (one (pops 1)) x → z ≡ walked ends y → v ≡ resumed s z →
      n ≡ number_of e → r ≡ walked (one (gives 0 ((found_of p).sort n))) v →
      r ≡ walked (deferred_walk p e sc a) b
  defer_by e n s b c x y z v r h d f g m j k is =
      let w : Walk = inner_walk p e sc a then one (pops 1) then ends in
      two_steps (ahead in_block deferred w) (one (gives 0 ((found_of p).sort (number_of e)))) b v r
      (j ∙ ap (λ s. resumed s z) h
      ∙ ap (resumed (option_map (deferred (length b.spots)) b.exit))
      (three_steps (inner_walk p e sc a) (one (pops 1)) ends c x y z f g m ∙ ap (walked w) d)
      ∙ sym (walked_ahead in_block deferred w b))
      (is ∙ ap (λ k. walked (one (gives 0 ((found_of p).sort k))) v) k)
