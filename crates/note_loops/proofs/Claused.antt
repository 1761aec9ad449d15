-- A clause of a `for`, by what it is.
use Rattle.std.proofs.Common.{◌≡◌, ℕ, List, [], ◌∷◌, ◌++◌, length, map, Option, true, false, sym, ap, ◌∙◌}
use Rattle.std.proofs.lemmas.List.{map-append}
use Rattle.verse_tree.specs.Tree.{Tree}
use Rattle.verse_tree.specs.declared.programs.Program.{Program}
use Rattle.verse_meaning.specs.Programs.{program_of}
use Rattle.verse_meaning.specs.Residuals.{Binder, Generator}
use Rattle.verse_meaning.specs.Evaluating.{Statement, statement_of, number_of, plain, defines, defers, generates}
use Rattle.lower_code.specs.Scopes.{Scope}
use Rattle.lower_code.specs.Lowering.{with_binder, with_generator}
use Rattle.lower_code.specs.declared.arounds.Around.{Around}
use Rattle.lower_lookup.specs.Types.{differ_of}
use Rattle.lower_notes.specs.States.{State, pops}
use Rattle.lower_notes.specs.Stretches.{Walk, one, ends}
use Rattle.lower_notes.specs.Applied.{bind}
use Rattle.lower_notes.specs.Noting.{claused, takes, turns}
use Rattle.note_states.specs.View.{standing_of}
use Rattle.note_states.specs.declared.standing.Standing.{Standing}
use Rattle.note_sorts.specs.Tabled.{found_of}
use Rattle.note_stretches.specs.Noted.{Noted, marked, resumed, walked}
use Rattle.note_stretches.specs.Forms.{turn_state, turn_begun}
use Rattle.note_parts.specs.Parts.{tree_walk}
use Rattle.note_loops.specs.Turns.{turns_closed}
use Rattle.note_blocks.specs.Walks.{inner_walk}
use Rattle.note_loops.specs.Walks.{claused_walk}
use Rattle.note_loops.specs.Levels.{Leads}
use Rattle.note_loops.proofs.Clauses.{claused_plain, claused_defines, claused_defers, claused_generates}
use Rattle.note_loops.proofs.OpenTurns.{one_more_turn}

module _ (p : Program) (e : Tree) (sc : Scope) (a : Around) where
  kind_walk : (s : Statement) (rest : Scope → Walk) (b c : Noted) → statement_of e ≡ s →
      c ≡ walked (claused (program_of p) (found_of p) (differ_of p) s ((found_of p).sort (number_of e)) ((found_of p).key (number_of e)) sc
      (tree_walk p e sc a) (inner_walk p e sc a) rest) b →
      c ≡ walked (claused_walk p e sc a rest) b
  kind_walk s rest b c h is =
      is ∙ ap (λ s. walked
      (claused (program_of p) (found_of p) (differ_of p) s ((found_of p).sort (number_of e)) ((found_of p).key (number_of e)) sc
      (tree_walk p e sc a) (inner_walk p e sc a) rest) b) (sym h)

  pub plainly_claused : (ts : List (Option State)) (here : Scope) (b c d : Noted) → statement_of e ≡ plain →
      c ≡ walked (tree_walk p e sc a) b → here ≡ sc →
      d ≡ walked (one (pops 1)) c → Leads (claused_walk p e sc a) true ts ts here b d
  plainly_claused ts here b c d h f s g = record {
    leads = λ rest. ap (turns_closed ts)
        (kind_walk plain rest b (walked (rest here) d) h
        (ap (λ k. walked (rest k) d) s ∙ ap (walked (rest sc)) (g ∙ ap (walked (one (pops 1))) f)
        ∙ sym (claused_plain p ((found_of p).sort (number_of e)) sc (tree_walk p e sc a) (inner_walk p e sc a) b
        ((found_of p).key (number_of e)) rest)));
  }

  pub definition_claused : (x : Binder) (ts : List (Option State)) (here there : Scope) (n : ℕ) (b c d r : Noted) →
      statement_of e ≡ defines x → n ≡ number_of e →
      c ≡ walked (inner_walk p e sc a) b → here ≡ sc →
      d ≡ walked (bind x (length here) ((found_of p).sort n)) c → there ≡ with_binder x here →
      r ≡ walked (one (pops 1)) d →
      Leads (claused_walk p e sc a) true ts ts there b r
  definition_claused x ts here there n b c d r h m f s g u is = record {
    leads = λ rest. ap (turns_closed ts)
        (kind_walk (defines x) rest b (walked (rest there) r) h
        (ap (λ k. walked (rest k) r) (u ∙ ap (with_binder x) s)
        ∙ ap (walked (rest (with_binder x sc)))
        (is ∙ ap (walked (one (pops 1)))
        (g ∙ ap (λ k. walked (bind x (length here) ((found_of p).sort k)) c) m
        ∙ ap (λ k. walked (bind x (length k) ((found_of p).sort (number_of e))) c) s
        ∙ ap (walked (bind x (length sc) ((found_of p).sort (number_of e)))) f))
        ∙ sym (claused_defines p ((found_of p).sort (number_of e)) sc (tree_walk p e sc a) (inner_walk p e sc a) b
        ((found_of p).key (number_of e)) rest x)));
  }

  pub defer_claused : (t : Tree) (ts : List (Option State)) (here : Scope) (b c : Noted) → statement_of e ≡ defers t →
      c ≡ walked ends b →
      Leads (claused_walk p e sc a) false ts ts here b c
  defer_claused t ts here b c h is = record {
    leads = λ rest. ap (turns_closed ts)
        (kind_walk (defers t) rest b c h
        (is ∙ sym (claused_defers p ((found_of p).sort (number_of e)) sc (tree_walk p e sc a) (inner_walk p e sc a) b
        ((found_of p).key (number_of e)) rest t)));
  }

  -- where a generator takes its next value, whose first local is the one behind s
  abbrev taken_at : (g : Generator) (s : Scope) (k : Noted) → Noted
  taken_at g s k = turn_state (takes g (length s)) k

  -- where its turns begin
  abbrev begun_at : (g : Generator) (n : ℕ) (s : Scope) (k : Noted) → Noted
  begun_at g n s k = turn_begun (turns g (length s) ((found_of p).sort n) ((found_of p).key n)) (taken_at g s k)

  -- its turns with what stands in them
  abbrev turned_at : (g : Generator) (rest : Scope → Walk) (s : Scope) (k : Noted) → Noted
  turned_at g rest s k =
      marked (resumed (taken_at g s k).exit (walked (rest (with_generator g s)) (begun_at g (number_of e) s k)))

  pub generator_claused : (g : Generator) (xs ys : List Standing) (x : Standing) (here there : Scope) (n : ℕ) (b c d : Noted) →
      statement_of e ≡ generates g → n ≡ number_of e →
      c ≡ walked (inner_walk p e sc a) b → here ≡ sc → standing_of x ≡ (taken_at g here c).exit →
      d ≡ begun_at g n here c → there ≡ with_generator g here → ys ≡ xs ++ x ∷ [] →
      Leads (claused_walk p e sc a) true (map standing_of xs) (map standing_of ys) there b d
  generator_claused g xs ys x here there n b c d h m f s at is u more = record {
    leads = λ rest.
        ap (λ k. turns_closed k (walked (rest there) d)) (ap (map standing_of) more ∙ map-append standing_of xs (x ∷ []))
        ∙ one_more_turn (map standing_of xs) (standing_of x) (walked (rest there) d)
        ∙ ap (turns_closed (map standing_of xs))
        (kind_walk (generates g) rest b (marked (resumed (standing_of x) (walked (rest there) d))) h
        (ap (λ k. marked (resumed k (walked (rest there) d))) at
        ∙ ap (λ k. marked (resumed (taken_at g here c).exit (walked (rest k) d))) u
        ∙ ap (λ k. marked (resumed (taken_at g here c).exit (walked (rest (with_generator g here)) k)))
        (is ∙ ap (λ k. begun_at g k here c) m)
        ∙ ap (λ k. turned_at g rest k c) s ∙ ap (turned_at g rest sc) f
        ∙ sym (claused_generates p ((found_of p).sort (number_of e)) sc (tree_walk p e sc a) (inner_walk p e sc a) b
        ((found_of p).key (number_of e)) rest g)));
  }
