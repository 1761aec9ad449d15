-- A statement, by what it is.
use Rattle.std.proofs.Common.{◌≡◌, ℕ, length, sym, ap, ◌∙◌}
use Rattle.verse_tree.specs.Tree.{Tree}
use Rattle.verse_tree.specs.declared.programs.Program.{Program}
use Rattle.verse_code.specs.declared.operations.Op.TheVariants as o
use Rattle.verse_meaning.specs.Programs.{program_of}
use Rattle.verse_meaning.specs.Residuals.{Binder, Generator}
use Rattle.verse_meaning.specs.Evaluating.{Statement, statement_of, plain, defines, defers, generates}
use Rattle.lower_code.specs.Pieces.{stuck}
use Rattle.lower_code.specs.Scopes.{Scope}
use Rattle.lower_code.specs.Lowering.{bind, stated}
use Rattle.lower_code.specs.declared.arounds.Around.{Around}
use Rattle.lower_lookup.specs.Types.{differ_of}
use Rattle.lower_expr.specs.Building.{Built, pushed, made}
use Rattle.lower_fail.specs.Attempts.{defer_ended}
use Rattle.lower_fail.proofs.Clauses.{stated_plain, stated_defines, stated_defers, stated_generates}
use Rattle.lower_parts.specs.Parts.{tree_code}
use Rattle.lower_blocks.specs.Codes.{inner_code, stated_code}

module _ (p : Program) (e : Tree) (sc : Scope) (a : Around) where
  by_kind : (s : Statement) (b c : Built) → statement_of e ≡ s →
      c ≡ made (stated (program_of p) (differ_of p) s sc (tree_code p e sc a) (inner_code p e sc a)) b →
      c ≡ made (stated_code p e sc a) b
  by_kind s b c h is =
      is ∙ ap (λ s. made
      (stated (program_of p) (differ_of p) s sc (tree_code p e sc a) (inner_code p e sc a)) b) (sym h)

  pub plainly_stated : (b c : Built) → statement_of e ≡ plain → c ≡ made (tree_code p e sc a) b →
      c ≡ made (stated_code p e sc a) b
  plainly_stated b c h is =
      by_kind plain b c h
      (is ∙ sym (stated_plain (program_of p) (differ_of p) sc (tree_code p e sc a) (inner_code p e sc a) b))

  -- the steps of a definition and of a deferred block
  pub defined_by : (x : Binder) (here : Scope) (b c d : Built) → c ≡ made (inner_code p e sc a) b →
      here ≡ sc →
      d ≡ made (bind x (length here)) c → d ≡ made (bind x (length sc)) (made (inner_code p e sc a) b)
  defined_by x here b c d f s g = g ∙ ap (λ k. made (bind x (length k)) c) s ∙ ap (made (bind x (length sc))) f

  pub deferred_by : (n : ℕ) (b c d r : Built) → n ≡ length b.ops → c ≡ pushed (o.Defer 0) b →
      d ≡ made (inner_code p e sc a) c → r ≡ defer_ended n d →
      r ≡ defer_ended (length b.ops) (made (inner_code p e sc a) (pushed (o.Defer 0) b))
  deferred_by n b c d r m f g is =
      is ∙ ap (λ k. defer_ended k d) m ∙ ap (defer_ended (length b.ops)) (g ∙ ap (made (inner_code p e sc a)) f)

  pub definition_stated : (x : Binder) (b d : Built) → statement_of e ≡ defines x →
      d ≡ made (bind x (length sc)) (made (inner_code p e sc a) b) → d ≡ made (stated_code p e sc a) b
  definition_stated x b d h is =
      by_kind (defines x) b d h
      (is ∙ sym (stated_defines (program_of p) (differ_of p) sc x (tree_code p e sc a) (inner_code p e sc a) b))

  pub defer_stated : (t : Tree) (b r : Built) → statement_of e ≡ defers t →
      r ≡ defer_ended (length b.ops) (made (inner_code p e sc a) (pushed (o.Defer 0) b)) →
      r ≡ made (stated_code p e sc a) b
  defer_stated t b r h is =
      by_kind (defers t) b r h
      (is ∙ sym (stated_defers (program_of p) (differ_of p) sc t (tree_code p e sc a) (inner_code p e sc a) b))

  pub generator_stated : (g : Generator) (b c : Built) → statement_of e ≡ generates g → c ≡ made stuck b →
      c ≡ made (stated_code p e sc a) b
  generator_stated g b c h is =
      by_kind (generates g) b c h (is ∙ sym (stated_generates (program_of p) (differ_of p) sc g (tree_code p e sc a)
      (inner_code p e sc a) b))
