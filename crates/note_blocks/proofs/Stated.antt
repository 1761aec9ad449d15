-- A statement, by what it is.
use Rattle.std.proofs.Common.{◌≡◌, ℕ, length, sym, ap, ◌∙◌}
use Rattle.verse_tree.specs.Tree.{Tree}
use Rattle.verse_tree.specs.declared.programs.Program.{Program}
use Rattle.verse_meaning.specs.Programs.{program_of}
use Rattle.verse_meaning.specs.Residuals.{Binder, Generator}
use Rattle.verse_meaning.specs.Evaluating.{Statement, statement_of, number_of, plain, defines, defers, generates}
use Rattle.lower_code.specs.Scopes.{Scope}
use Rattle.lower_code.specs.declared.arounds.Around.{Around}
use Rattle.lower_lookup.specs.Types.{differ_of}
use Rattle.lower_notes.specs.Stretches.{ends}
use Rattle.lower_notes.specs.Applied.{bind}
use Rattle.lower_notes.specs.Noting.{stated}
use Rattle.note_sorts.specs.Tabled.{found_of}
use Rattle.note_stretches.specs.Noted.{Noted, walked}
use Rattle.note_parts.specs.Parts.{tree_walk}
use Rattle.note_blocks.specs.Walks.{inner_walk, stated_walk, deferred_walk}
use Rattle.note_blocks.proofs.Clauses.{stated_plain, stated_defines, stated_defers, stated_generates}

module _ (p : Program) (e : Tree) (sc : Scope) (a : Around) where
  by_kind : (s : Statement) (b c : Noted) → statement_of e ≡ s →
      c ≡ walked (stated (program_of p) (found_of p) (differ_of p) s ((found_of p).sort (number_of e)) sc (tree_walk p e sc a)
      (inner_walk p e sc a)) b →
      c ≡ walked (stated_walk p e sc a) b
  by_kind s b c h is =
      is ∙ ap (λ s. walked (stated (program_of p) (found_of p) (differ_of p) s ((found_of p).sort (number_of e)) sc (tree_walk p e sc a)
      (inner_walk p e sc a)) b) (sym h)

  pub plainly_stated : (b c : Noted) → statement_of e ≡ plain → c ≡ walked (tree_walk p e sc a) b →
      c ≡ walked (stated_walk p e sc a) b
  plainly_stated b c h is =
      by_kind plain b c h
      (is ∙ sym (stated_plain p ((found_of p).sort (number_of e)) sc (tree_walk p e sc a) (inner_walk p e sc a) b))

  pub definition_stated : (x : Binder) (here : Scope) (n : ℕ) (b c d : Noted) → statement_of e ≡ defines x → n ≡ number_of e →
      c ≡ walked (inner_walk p e sc a) b → here ≡ sc →
      d ≡ walked (bind x (length here) ((found_of p).sort n)) c → d ≡ walked (stated_walk p e sc a) b
  definition_stated x here n b c d h m f s g =
      by_kind (defines x) b d h
      (g ∙ ap (λ k. walked (bind x (length here) ((found_of p).sort k)) c) m
      ∙ ap (λ k. walked (bind x (length k) ((found_of p).sort (number_of e))) c) s
      ∙ ap (walked (bind x (length sc) ((found_of p).sort (number_of e)))) f
      ∙ sym (stated_defines p ((found_of p).sort (number_of e)) sc (tree_walk p e sc a) (inner_walk p e sc a) b x))

  pub defer_stated : (t : Tree) (b c : Noted) → statement_of e ≡ defers t → c ≡ walked (deferred_walk p e sc a) b →
      c ≡ walked (stated_walk p e sc a) b
  defer_stated t b c h is =
      by_kind (defers t) b c h
      (is ∙ sym (stated_defers p ((found_of p).sort (number_of e)) sc (tree_walk p e sc a) (inner_walk p e sc a) b t))

  pub generator_stated : (g : Generator) (b c : Noted) → statement_of e ≡ generates g → c ≡ walked ends b →
      c ≡ walked (stated_walk p e sc a) b
  generator_stated g b c h is =
      by_kind (generates g) b c h
      (is ∙ sym (stated_generates p ((found_of p).sort (number_of e)) sc (tree_walk p e sc a) (inner_walk p e sc a) b g))
