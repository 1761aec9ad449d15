-- A clause of a `for`, by what it is.
use Rattle.std.proofs.Common.{◌≡◌, ℕ, List, [], ◌∷◌, ◌++◌, length, true, false, sym, ap, ◌∙◌}
use Rattle.verse_tree.specs.Tree.{Tree}
use Rattle.verse_tree.specs.declared.programs.Program.{Program}
use Rattle.verse_code.specs.declared.operations.Op.TheVariants as o
use Rattle.verse_meaning.specs.Programs.{program_of}
use Rattle.verse_meaning.specs.Residuals.{Binder, Generator}
use Rattle.verse_meaning.specs.Evaluating.{Statement, statement_of, plain, defines, defers, generates}
use Rattle.lower_code.specs.Pieces.{Maker, stuck}
use Rattle.lower_code.specs.Scopes.{Scope}
use Rattle.lower_code.specs.Lowering.{bind, with_binder, with_generator, taking, claused}
use Rattle.lower_code.specs.declared.arounds.Around.{Around}
use Rattle.lower_lookup.specs.Types.{differ_of}
use Rattle.lower_expr.specs.Building.{Built, pushed, made}
use Rattle.lower_fail.specs.declared.loops.Turn.{Turn}
use Rattle.lower_fail.specs.Attempts.{turns_begun, turns_ended, turns_closed}
use Rattle.lower_fail.proofs.Clauses.{claused_plain, claused_defines, claused_defers, claused_generates}
use Rattle.lower_fail.proofs.OpenEnds.{one_more_turn}
use Rattle.lower_parts.specs.Parts.{tree_code}
use Rattle.lower_blocks.specs.Codes.{inner_code, claused_code}
use Rattle.lower_blocks.specs.Levels.{Leads, turns_at}

module _ (p : Program) (e : Tree) (sc : Scope) (a : Around) where
  kind_code : (s : Statement) (rest : Scope → Maker) (b c : Built) → statement_of e ≡ s →
      c ≡ made (claused (program_of p) (differ_of p) s sc (tree_code p e sc a) (inner_code p e sc a) rest) b →
      c ≡ made (claused_code p e sc a rest) b
  kind_code s rest b c h is =
      is ∙ ap (λ s. made
      (claused (program_of p) (differ_of p) s sc (tree_code p e sc a) (inner_code p e sc a) rest) b) (sym h)

  pub plainly_claused : (ts : List Turn) (here : Scope) (b c d : Built) → statement_of e ≡ plain →
      c ≡ made (tree_code p e sc a) b →
      here ≡ sc →
      d ≡ pushed o.Drop c → Leads (claused_code p e sc a) true ts ts here b d
  plainly_claused ts here b c d h f s g = record {
    leads = λ rest. ap (turns_closed ts)
        (kind_code plain rest b (made (rest here) d) h
        (ap (λ k. made (rest k) d) s ∙ ap (made (rest sc)) (g ∙ ap (pushed o.Drop) f)
        ∙ sym (claused_plain (program_of p) (differ_of p) sc (tree_code p e sc a) (inner_code p e sc a) rest b)));
  }

  pub definition_claused : (x : Binder) (ts : List Turn) (there : Scope) (b d r : Built) →
      statement_of e ≡ defines x →
      d ≡ made (bind x (length sc)) (made (inner_code p e sc a) b) → there ≡ with_binder x sc →
      r ≡ pushed o.Drop d →
      Leads (claused_code p e sc a) true ts ts there b r
  definition_claused x ts there b d r h g u is = record {
    leads = λ rest. ap (turns_closed ts)
        (kind_code (defines x) rest b (made (rest there) r) h
        (ap (λ k. made (rest k) r) u ∙ ap (made (rest (with_binder x sc))) (is ∙ ap (pushed o.Drop) g)
        ∙ sym (claused_defines (program_of p) (differ_of p) sc x (tree_code p e sc a) (inner_code p e sc a) rest b)));
  }

  pub defer_claused : (t : Tree) (ts : List Turn) (here : Scope) (b c : Built) → statement_of e ≡ defers t →
      c ≡ made stuck b →
      Leads (claused_code p e sc a) false ts ts here b c
  defer_claused t ts here b c h is = record {
    leads = λ rest. ap (turns_closed ts)
        (kind_code (defers t) rest b c h
        (is ∙ sym
        (claused_defers (program_of p) (differ_of p) sc t (tree_code p e sc a) (inner_code p e sc a) rest b)));
  }

  -- a generator behind its domain, by its steps
  pub turns_at_by : (g : Generator) (here : Scope) (n : ℕ) (b c : Built) → c ≡ made (inner_code p e sc a) b → here ≡ sc →
      n ≡ turns_at g here c → n ≡ turns_at g sc (made (inner_code p e sc a) b)
  turns_at_by g here n b c f s is = is ∙ ap (λ k. turns_at g k c) s ∙ ap (turns_at g sc) f

  pub turns_begun_by : (g : Generator) (here : Scope) (b c d : Built) → c ≡ made (inner_code p e sc a) b → here ≡ sc →
      d ≡ turns_begun (taking g (length here)) (length here) c →
      d ≡ turns_begun (taking g (length sc)) (length sc) (made (inner_code p e sc a) b)
  turns_begun_by g here b c d f s is =
      is ∙ ap (λ k. turns_begun (taking g (length k)) (length k) c) s
      ∙ ap (turns_begun (taking g (length sc)) (length sc)) f

  pub generator_claused : (g : Generator) (ts us : List Turn) (t : Turn) (there : Scope) (b d : Built) →
      statement_of e ≡ generates g → t.local ≡ length sc → t.begun ≡ turns_at g sc (made (inner_code p e sc a) b) →
      d ≡ turns_begun (taking g (length sc)) (length sc) (made (inner_code p e sc a) b) →
      there ≡ with_generator g sc → us ≡ ts ++ t ∷ [] →
      Leads (claused_code p e sc a) true ts us there b d
  generator_claused g ts us t there b d h l n is u more = record {
    leads = λ rest.
        ap (λ k. turns_closed k (made (rest there) d)) more ∙ one_more_turn ts t (made (rest there) d)
        ∙ ap (turns_closed ts)
        (kind_code (generates g) rest b (turns_ended t.begun t.local (made (rest there) d)) h
        (ap (λ k. turns_ended k t.local (made (rest there) d)) n
        ∙ ap (λ k. turns_ended (turns_at g sc (made (inner_code p e sc a) b)) k (made (rest there) d)) l
        ∙ ap (turns_ended (turns_at g sc (made (inner_code p e sc a) b)) (length sc))
        (ap (λ k. made (rest k) d) u ∙ ap (made (rest (with_generator g sc))) is)
        ∙ sym (claused_generates (program_of p) (differ_of p) sc g (tree_code p e sc a) (inner_code p e sc a) rest b)));
  }
