-- Failure contexts, from their entry to how they go on.
use Rattle.std.proofs.Common.{◌≡◌, Some, false, refl, subst}
use Rattle.std.proofs.Math.Path.{ap, ◌∙◌}
use Rattle.verse_tree.specs.Tree.{if_alone, if_else, logic, negation, option}
use Rattle.verse_value.specs.Val.{Val, unit}
use Rattle.verse_meaning_state.specs.State.{State, restored}
use Rattle.verse_meaning.specs.Programs.{Program}
use Rattle.verse_meaning.specs.Residuals.{Env, Generator, Residual, Values}
use Rattle.verse_meaning.specs.Outcomes.{Outcome, World, attempted, failed, if_there, value}
use Rattle.verse_meaning.specs.Forms.{Deeper, values_of, with_taken}
use Rattle.verse_meaning.specs.Evaluating.{Statement, generates, generates_from, levelled, statement_of}
use Rattle.verse_meaning.specs.Runs.{deeper}
use Rattle.verse_meaning.specs.Laws.{Calm, Keeps, FailsTo, ContextUndoes, ContextsUndo}
use Rattle.verse_meaning.proofs.Forms.{DeeperKeeps}
use Rattle.verse_meaning.proofs.Evaluating.{clauses_keep, ev_keeps, statements_keep}
use Rattle.verse_meaning.proofs.Going.{deeper_keeps}

-- at a failure the clock differs in steps alone
calm : (w : World) (s : State) (o : Outcome) → Keeps false w o → o ≡ failed s → Calm w.state.clock s.clock
calm w s o a h = subst (λ x. Keeps false w x) h a

fails_to : (w : World) (s : State) (o : Outcome) (yes_do : Env → Val → World → Outcome) (no_do : World → Outcome) → Keeps false w o →
    FailsTo w s o (attempted o w yes_do no_do) no_do
unfolding attempted
fails_to w s o yes_do no_do a h = (calm w s o a h, ap (λ x. attempted x w yes_do no_do) h)

holds_to : (w u : World) (e : Env) (v : Val) (o : Outcome) → Keeps false w o → o ≡ value e v u → Calm w.state.clock u.state.clock
holds_to w u e v o a h = (subst (λ x. Keeps false w x) h a).1.1

module _ (p : Program) (k : Deeper) where
  met : (s : Statement) (g : Generator) (v : Val) (e : Env) (so_far : Val) (w : World) (vs : Values) (on_go : World → Outcome)
      (take : Generator → Val × Val → Val → World → Outcome) (wrap : Generator → Values → Residual → Residual) → s ≡ generates g →
      values_of g v ≡ Some vs → levelled p k s v e so_far w on_go take wrap ≡ k.takes (take g) (wrap g) e vs so_far w
  unfolding levelled generates_from if_there
  met s g v e so_far w vs on_go take wrap h f =
      ap (λ x. levelled p k x v e so_far w on_go take wrap) h ∙ ap (λ x. if_there x w (λ vs. k.takes (take g) (wrap g) e vs so_far w)) f

  undoes : DeeperKeeps k → ContextUndoes p k
  unfolding attempted
  undoes d = record {
    if_else = λ cs a b n pl m e w s. fails_to w s _ _ _ (statements_keep p k d cs false e unit w);
    if_alone = λ cs a n pl m e w s. fails_to w s _ _ _ (statements_keep p k d cs false e unit w);
    option = λ cs n pl m e w s. fails_to w s _ _ _ (statements_keep p k d cs false e unit w);
    logic = λ cs n pl m e w s. fails_to w s _ _ _ (statements_keep p k d cs false e unit w);
    or_right = λ a b n pl m e w s. fails_to w s _ _ _ (ev_keeps p k d a false e w);
    negation = λ a n pl m e w s. fails_to w s _ _ _ (ev_keeps p k d a false e w);
    negation_fails = λ a n pl m e e1 v w u h. (
      holds_to w u e1 v _ (ev_keeps p k d a false e w) h,
      ap (λ x. attempted x w (λ e1 v u.
          failed (restored w.state.memory u.state)) (λ w. value e unit w)) h,
    );
    first_domain = λ cs a n pl m e w s. fails_to w s _ _ _ (clauses_keep p k d cs false e unit w);
    values_met = λ c cs a run pl e v so_far w g vs h f. met (statement_of c) g v e so_far w vs _ _ _ h f;
    value_clauses = λ g cs a run pl e x so_far w s. fails_to w s _ _ _ (clauses_keep p k d cs false (with_taken g x e) unit w);
    woken_values = λ g cs a pl e x so_far w. refl;
  }

pub contexts_undo : ContextsUndo
contexts_undo p fuel = undoes p (deeper p fuel) (deeper_keeps p fuel)
