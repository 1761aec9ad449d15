-- Going on: what a residual tree comes to when one of its waits is woken with a value.
use Rattle.std.specs.Prelude.{ℕ, List, [], ◌∷◌, ◌++◌, true, false}
use Rattle.verse_base.specs.declared.places.Place.{Place}
use Rattle.verse_tree.specs.Tree.{Tree, Trees}
use Rattle.verse_value.specs.Val.{Val, unit}
use Rattle.verse_meaning_state.specs.Waits.{has}
use Rattle.verse_meaning.specs.Programs.{Program}
use Rattle.verse_meaning.specs.Residuals as form
use Rattle.verse_meaning.specs.Residuals.{Env, Form, Generator, Residual, leaf, args, seq, deferred}
use Rattle.verse_meaning.specs.Residuals.{looped, filling, generated, called, arms, Scope}
use Rattle.verse_meaning.specs.Residuals.{scope, Scopes, none, also, Arms, no_arms, gave, runs}
use Rattle.verse_meaning.specs.Residuals.{scope_leaves, is_behind}
use Rattle.verse_meaning.specs.Outcomes.{World, set_behind, Outcome, value, TaskOutcome}
use Rattle.verse_meaning.specs.Outcomes.{BehindOutcome, stays, ArmsOutcome, stops_arms}
use Rattle.verse_meaning.specs.Outcomes.{wrong, valued, attempted, turned, closing, call_end}
use Rattle.verse_meaning.specs.Outcomes.{arm_came, arm_before, arms_came, element_came}
use Rattle.verse_meaning.specs.Outcomes.{element_before, behind_came}
use Rattle.verse_meaning.specs.Forms.{Deeper, with_taken, filled, apply, defined}
use Rattle.verse_meaning.specs.Evaluating.{on_bool, scope_end, settled, ev, statements, clauses, level, chosen}

module _ (p : Program) (k : Deeper) where
  abbrev pub form_done : Form → List Val → Env → World → Outcome
  form_done (form.choosing ts) (v ∷ []) e w = chosen p k ts v true e w
  form_done f vs e w = apply p k f vs true e w

  -- the operands left, and then the form
  abbrev pub operands : Env → Form → List Val → List Tree → World → Outcome
  operands e f vs [] w = form_done f vs e w
  operands e f vs (a ∷ left) w =
      valued (ev p k a true e w) (λ r. args e f vs r left)
      (λ v w. operands e f (vs ++ v ∷ []) left w)

  -- a generator's next value, with the results so far
  abbrev pub taken : Generator → Trees → Tree → Place → Env → Val × Val → Val → World → Outcome
  taken g cs a pl e x so_far w =
      attempted (clauses p k cs false (with_taken g x e) unit w) w
      (λ e1 y w. level p k cs a (λ e w. ev p k a true e w) pl e1 y so_far w) (λ w. value e so_far w)

  abbrev mutual
    pub resume : Residual → (n : ℕ) → Val → World → Outcome
    resume (leaf x e) n v w = value e v w
    resume (args e f vs r left) n v w =
        valued (resume r n v w) (λ r. args e f vs r left)
        (λ v w. operands e f (vs ++ v ∷ []) left w)
    resume (seq e b r left) n v w =
        valued (resume r n v w) (λ r. seq e b r left)
        (λ v w. defined p k b e v w (λ e v w. statements p k left true e v w))
    resume (deferred e d r) n v w = closing (resume r n v w) (λ w. k.parts d e w) (deferred e d) e
    resume (filling e c pl fs xs vs ss r) n v w =
        valued (resume r n v w) (filling e c pl fs xs vs ss)
        (λ v w. filled p k fs xs vs c (ss ++ v ∷ []) pl true e w)
    resume (looped e a r) n v w = turned (resume r n v w) (looped e a) e
        (λ w. k.loops (λ w. ev p k a true e w) (looped e a) e w)
    resume (generated e g cs a pl vs r) n v w =
        valued (resume r n v w) (generated e g cs a pl vs)
        (λ so_far w. k.takes (taken g cs a pl e) (λ vs r. generated e g cs a pl vs r) e vs so_far w)
    resume (called e s) n v w = call_end e (resume_scope s n v w)
    resume (arms kd pl e gs) n v w =
        arms_came (resume_arms gs n v w) (λ gs w. settled p k kd pl e gs w)

    -- in what is behind, or in the scope's own residual
    pub resume_scope : Scope → (n : ℕ) → Val → World → TaskOutcome
    resume_scope (scope q r bs) n v w =
        on_bool (is_behind n bs) (λ u. behind_came q r (resume_behind bs n v w))
        (λ u. scope_end p k q w.behind (resume r n v (set_behind w bs)))

    pub resume_behind : Scopes → (n : ℕ) → Val → World → BehindOutcome
    resume_behind none n v w = stays none w
    resume_behind (also s bs) n v w =
        on_bool (has n (scope_leaves s)) (λ u. element_came (resume_scope s n v w) bs)
        (λ u. element_before s (resume_behind bs n v w))

    pub resume_arms : Arms → (n : ℕ) → Val → World → ArmsOutcome
    resume_arms no_arms n v w = stops_arms (wrong w.state)
    resume_arms (gave y gs) n v w = arm_before (gave y) (resume_arms gs n v w)
    resume_arms (runs s gs) n v w =
        on_bool (has n (scope_leaves s)) (λ u. arm_came (resume_scope s n v w) gs) (λ u. arm_before (runs s) (resume_arms gs n v w))
