-- What the conditions of a failure context come to, in a program for which the checker has found
-- sorts.
use Rattle.std.specs.Prelude.{ℕ, false}
use Rattle.verse_base.specs.declared.places.Place.{Place}
use Rattle.verse_base.specs.declared.refusals.Kind.{Kind as Error}
use Rattle.verse_tree.specs.Tree.{Tree, Trees, more_trees}
use Rattle.verse_tree.specs.Tree as trees
use Rattle.verse_tree.specs.declared.exprs.Operator.TheVariants as op
use Rattle.verse_value.specs.Val.{Val, unit}
use Rattle.verse_meaning_state.specs.State.{State}
use Rattle.verse_names_tables.specs.Names.{Table}
use Rattle.verse_sorts.specs.Typing.{Typing}
use Rattle.verse_meaning.specs.Programs.{Program}
use Rattle.verse_meaning.specs.Residuals.{Env}
use Rattle.verse_meaning.specs.Outcomes.{World, fault, out, Outcome, value, failed, halted}
use Rattle.verse_meaning.specs.Evaluating.{ev, statements, clauses}
use Rattle.verse_meaning.specs.Runs.{deeper}
use Rattle.verse_meaning.specs.Laws.{Calm, Leaves}
use Rattle.verse_sound_rules.specs.Found.{Found, Allowed}
use Rattle.verse_sound_rules.specs.Fine.{FineShape, seen_behind}
use Rattle.verse_sound_rules.specs.Programs.{FineProgram}
use Rattle.verse_sound_trees.specs.Names.{Sees}
use Rattle.verse_sound_trees.specs.Going.{Kept, turns}

-- They hold or fail at once, or the run ends by an error or for want of steps. Where they hold or
-- fail, tasks, waits, signals and the background are as they were, and only steps are gone from the
-- clock.
pub data EndsAtOnce (w : World) : Outcome → Type 0 where
  holds : {e : Env} {v : Val} {u : World} → Leaves false w u → EndsAtOnce w (value e v u)
  fails : {s : State} → Calm w.state.clock s.clock → EndsAtOnce w (failed s)
  faults : {k : Error} {pl : Place} {s : State} → EndsAtOnce w (halted (fault k pl s))
  ends_steps : {s : State} → EndsAtOnce w (halted (out s))

-- of each form that has a failure context, at the node of a number, with these names visible
pub record ContextsEnd (p : Program) (f : Found) (fuel : ℕ) (t : Typing) (a : Allowed) (xs : Table)
    (e : Env)
    (w : World) (n : ℕ) (pl : Place) : Type 0 where
  pub if_else : (cs : Trees) (b d : Tree) → FineShape p f a xs n pl (trees.Shape.if_else cs b d) →
      EndsAtOnce w (statements p (deeper p fuel) cs false e unit w)
  pub if_alone : (cs : Trees) (b : Tree) → FineShape p f a xs n pl (trees.Shape.if_alone cs b) →
      EndsAtOnce w (statements p (deeper p fuel) cs false e unit w)
  pub option : (cs : Trees) → FineShape p f a xs n pl (trees.Shape.option cs) →
      EndsAtOnce w (statements p (deeper p fuel) cs false e unit w)
  pub logic : (cs : Trees) → FineShape p f a xs n pl (trees.Shape.logic cs) →
      EndsAtOnce w (statements p (deeper p fuel) cs false e unit w)
  pub negation : (b : Tree) → FineShape p f a xs n pl (trees.Shape.negation b) →
      EndsAtOnce w (ev p (deeper p fuel) b false e w)
  pub or_left : (b d : Tree) → FineShape p f a xs n pl (trees.Shape.chained op.Or b d) →
      EndsAtOnce w (ev p (deeper p fuel) b false e w)
  -- the clauses of a `for` up to the first domain
  pub first_domain : (cs : Trees) (b : Tree) → FineShape p f a xs n pl (trees.Shape.for_form cs b) →
      EndsAtOnce w (clauses p (deeper p fuel) cs false e unit w)
  -- and those behind one that has given its names
  pub filters : (c : Tree) (cs : Trees) (b : Tree) (e1 : Env) →
      FineShape p f a xs n pl (trees.Shape.for_form (more_trees c cs) b) →
      Sees f t a.this (seen_behind c xs) e1 →
      EndsAtOnce w (clauses p (deeper p fuel) cs false e1 unit w)

-- in all environments in which the names are bound as the checker has them, and all worlds that are
-- kept
abbrev pub ContextsEndAtOnce : Type 0
ContextsEndAtOnce = (p : Program) (h : FineProgram p) (turn_count fuel : ℕ) (t : Typing)
    (a : Allowed) (xs : Table) (e : Env) (w : World) (n : ℕ) (pl : Place) →
    Sees h.found t a.this xs e → Kept p h.found (turns turn_count) t w →
    ContextsEnd p h.found fuel t a xs e w n pl
