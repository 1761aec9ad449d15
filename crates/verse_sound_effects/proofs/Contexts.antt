-- The conditions of failure contexts end at once.
use Rattle.std.proofs.Common.{false}
use Rattle.verse_tree.specs.Tree.{Tree, tree, Shape, Trees, more_trees}
use Rattle.verse_tree.specs.Tree as trees
use Rattle.verse_tree.specs.declared.exprs.Operator.TheVariants as op
use Rattle.verse_value.specs.Val.{Val, unit}
use Rattle.verse_names_tables.specs.Names.{Table}
use Rattle.verse_sorts.specs.Sorts.{Sort}
use Rattle.verse_sorts.specs.Typing.{Typing}
use Rattle.verse_sorts.proofs.Fitting.{grows_itself}
use Rattle.verse_meaning.specs.Programs.{Program}
use Rattle.verse_meaning.specs.Residuals.{Env}
use Rattle.verse_meaning.specs.Outcomes.{World, Halt, Outcome, value, failed, returned, broke, halted, rests, attempted}
use Rattle.verse_meaning.specs.Evaluating.{ev_shape, clauses}
use Rattle.verse_meaning.specs.Runs.{deeper}
use Rattle.verse_meaning.specs.Laws.{Keeps, FailedContextLeaves, ContextsUndo, CancellingLeaves}
use Rattle.verse_sound_rules.specs.Found.{Found, Allowed}
use Rattle.verse_sound_rules.specs.Fine.{FineShape, seen_behind}
use Rattle.verse_sound_trees.specs.Names.{Sees}
use Rattle.verse_sound_trees.specs.Outcomes as well
use Rattle.verse_sound_trees.specs.Outcomes.{any_names}
use Rattle.verse_sound_trees.specs.Going.{Level, turns, Comes}
use Rattle.verse_sound_trees.proofs.Trees.{ev_well}
use Rattle.verse_sound_runs.proofs.Calls.{known_at, at_top}
use Rattle.verse_sound_effects.specs.Contexts.{EndsAtOnce, holds, fails, faults, ends_steps, ContextsEndAtOnce}
use Rattle.verse_sound_effects.proofs.Leaving.{clauses_keep}

halts : (p : Program) (f : Found) (l : Level) {t : Typing} {a : Allowed} {q : Sort} {w : World} {z : Halt} →
    Comes p f l any_names t a q (halted z) → EndsAtOnce w (halted z)
halts p f l well.faults = faults
halts p f l well.ends_steps = ends_steps

-- what is attempted is left by no `return`, `break` or wait, since the form is not stuck
attempt_ends : (p : Program) (f : Found) (l : Level) {t : Typing} {a : Allowed} {q : Sort} (w : World) (x : Outcome)
    (y : Env → Val → World → Outcome) (n : World → Outcome) → Keeps false w x →
    Comes p f l any_names t a q (attempted x w y n) →
    EndsAtOnce w x
unfolding attempted
attempt_ends p f l w (value e v u) y n k h = holds k
attempt_ends p f l w (failed s) y n k h = fails k
attempt_ends p f l w (returned v u) y n k h = elim h [ ]
attempt_ends p f l w (broke u) y n k h = elim h [ ]
attempt_ends p f l w (halted z) y n k h = halts p f l h
attempt_ends p f l w (rests r u) y n k h = elim h [ ]

pub contexts_end : FailedContextLeaves → ContextsUndo → CancellingLeaves → ContextsEndAtOnce
contexts_end leave undo cancel p h count fuel t a xs e w n pl see kept = record {
  if_else = λ cs b d i. attempt_ends p h.found (turns count) w _ _ _ ((leave p fuel).conditions cs e w) (comes xs e
      (trees.Shape.if_else cs b d) i see);
  if_alone = λ cs b i. attempt_ends p h.found (turns count) w _ _ _ ((leave p fuel).conditions cs e w) (comes xs e
      (trees.Shape.if_alone cs b) i see);
  option = λ cs i. attempt_ends p h.found (turns count) w _ _ _ ((leave p fuel).conditions cs e w) (comes xs e
      (trees.Shape.option cs) i see);
  logic = λ cs i. attempt_ends p h.found (turns count) w _ _ _ ((leave p fuel).conditions cs e w) (comes xs e
      (trees.Shape.logic cs) i see);
  negation = λ b i. attempt_ends p h.found (turns count) w _ _ _ ((leave p fuel).form b e w) (comes xs e
      (trees.Shape.negation b) i see);
  or_left = λ b d i. attempt_ends p h.found (turns count) w _ _ _ ((leave p fuel).form b e w) (comes xs e
      (trees.Shape.chained op.Or b d) i see);
  first_domain = λ cs b i. attempt_ends p h.found (turns count) w _ _ _ (keep cs e) (comes xs e
      (trees.Shape.for_form cs b) i see);
  filters = λ c cs b e1 i see1. attempt_ends p h.found (turns count) w _ _ _ (keep cs e1)
      (comes (seen_behind c xs) e1 (trees.Shape.for_form cs b) (i.0.1, i.1, i.2, i.3, i.4) see1);
}
  where
    keep : (cs : Trees) (e : Env) → Keeps false w (clauses p (deeper p fuel) cs false e unit w)
    keep cs e = clauses_keep p (deeper p fuel) (λ a e w. (leave p fuel).form a e w) cs e unit w

    comes : (xs : Table) (e : Env) (x : Shape) → FineShape p h.found a xs n pl x → Sees h.found t a.this xs e →
        Comes p h.found (turns count) any_names t a (h.found.sort n) (ev_shape p (deeper p fuel) x n pl a.waits e w)
    comes xs e x i see =
        ev_well p h.found (turns count) fuel
        (known_at p h.found (λ g. leave p g) (λ g. undo p g) (λ g. cancel p g) h.fine count fuel)
        (tree n pl x) a xs t e i see (turns count)
        fuel (at_top p h.found (λ g. leave p g) (λ g. undo p g)
        (λ g. cancel p g) h.fine count fuel) tt t w grows_itself kept
