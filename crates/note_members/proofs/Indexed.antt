-- Indices, one by one.
use Rattle.std.proofs.Common.{◌≡◌, ℕ, ◌+◌, ◌<◌, ◌≤◌, List, length, get_or, sym, ap, ◌∙◌}
use Rattle.verse_tree.specs.View.{tree_of}
use Rattle.verse_tree.specs.declared.exprs.Expr.{Expr}
use Rattle.verse_tree.specs.declared.programs.Program.{Program}
use Rattle.verse_meaning.specs.Evaluating.{number_of}
use Rattle.verse_sorts.specs.Sorts.{Sort}
use Rattle.lower_code.specs.Arounds.{up}
use Rattle.lower_code.specs.Scopes.{Scope}
use Rattle.lower_code.specs.declared.arounds.Around.{Around}
use Rattle.lower_parts.proofs.Operands.{left, left_next, left_none}
use Rattle.lower_notes.specs.States.{gives}
use Rattle.lower_notes.specs.Stretches.{Walk, widened}
use Rattle.lower_notes.specs.Noting.{index_in}
use Rattle.note_sorts.specs.Tabled.{found_of}
use Rattle.note_stretches.specs.Noted.{Noted, changed, walked}
use Rattle.note_stretches.proofs.Laws.{walked_then, walked_nothing, walked_widened}
use Rattle.note_parts.specs.Parts.{tree_walk}
use Rattle.note_members.specs.Reads.{indices_walk}

module _ (p : Program) (q : Sort) (xs : List Expr) (i : ℕ) (sc : Scope) where
  -- behind one index more, and where none is left
  pub indices_next : (x : Expr) (here : Scope) (n : ℕ) (a above : Around) (b mid behind all : Noted) → i < length xs →
      x ≡ get_or xs i x → here ≡ sc → n ≡ number_of (tree_of x) →
      mid ≡ walked (tree_walk p (tree_of x) here a) b → behind ≡ changed (gives 1 (index_in q ((found_of p).sort n))) mid →
      above ≡ up a →
      walked (indices_walk p q (left xs i) sc a) b ≡ all → walked (indices_walk p q (left xs (i + 1)) sc above) behind ≡ all
  indices_next x here n a above b mid behind all h e k m g d f is =
      let s = index_in q ((found_of p).sort (number_of (tree_of x))) in
      let f1 : Walk = tree_walk p (tree_of x) sc a in
      let rest : Walk = indices_walk p q (left xs (i + 1)) sc (up a) in
      ap (λ c. walked (indices_walk p q (left xs (i + 1)) sc c) behind) f
      ∙ ap (walked rest)
      (d ∙ ap (λ k. changed (gives 1 (index_in q ((found_of p).sort k))) mid) m
      ∙ ap (changed (gives 1 s)) (g ∙ ap (λ s. walked (tree_walk p (tree_of x) s a) b) k)
      ∙ sym (walked_widened s f1 b))
      ∙ sym (walked_then (widened s f1) rest b)
      ∙ sym (ap (λ ts. walked (indices_walk p q ts sc a) b) (left_next xs i x h e)) ∙ is

  pub indices_done : (a : Around) (b all : Noted) → length xs ≤ i →
      walked (indices_walk p q (left xs i) sc a) b ≡ all → b ≡ all
  indices_done a b all h is =
      sym (ap (λ ts. walked (indices_walk p q ts sc a) b) (left_none xs i h) ∙ walked_nothing b) ∙ is
