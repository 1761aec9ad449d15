-- Cancelling runs deferred blocks from the last to the first.
use Rattle.std.proofs.Common.{◌≡◌, List, [], ◌∷◌, ◌++◌, refl, sym}
use Rattle.std.proofs.Math.Path.{ap, ◌∙◌}
use Rattle.verse_meaning.specs.Programs.{Program}
use Rattle.verse_meaning.specs.Residuals.{Arms, Residual, Scope, Scopes, also, args, arms, called, deferred, filling, gave, generated}
use Rattle.verse_meaning.specs.Residuals.{leaf, looped, no_arms, none, runs, scope, seq}
use Rattle.verse_meaning.specs.Outcomes.{Went, World, quits, went, went_on}
use Rattle.verse_meaning.specs.Forms.{Deeper}
use Rattle.verse_meaning.specs.Evaluating.{cancel_arms, cancel_behind, cancel_kids, cancel_own, cancel_scope_kids, cancel_scope_own}
use Rattle.verse_meaning.specs.Runs.{deeper}
use Rattle.verse_meaning.specs.Laws.{CancellingLeaves, CancelsBackwards, Deferred, arms_deferred, behind_deferred, inner_deferred}
use Rattle.verse_meaning.specs.Laws.{own_deferred, run_back, scope_inner_deferred, scope_own_deferred}
use Rattle.verse_meaning.proofs.Evaluating.{arms_keep, behind_keep}
use Rattle.verse_meaning.proofs.Going.{deeper_keeps}

on_both : (x y : Went) (f g : World → Went) → x ≡ y → ((w : World) → f w ≡ g w) → went_on x f ≡ went_on y g
unfolding went_on
on_both (went w) y f g e h = h w ∙ ap (λ z. went_on z g) e
on_both (quits x) y f g e h = ap (λ z. went_on z g) e

at_end : (x : Went) → x ≡ went_on x (λ w. went w)
unfolding went_on
at_end (went w) = refl
at_end (quits h) = refl

in_turn : (x : Went) (f g : World → Went) → went_on (went_on x f) g ≡ went_on x (λ w. went_on (f w) g)
unfolding went_on
in_turn (went w) f g = refl
in_turn (quits h) f g = refl

module _ (p : Program) (k : Deeper) where
  back_append : (xs ys : List Deferred) (w : World) → run_back k (xs ++ ys) w ≡ went_on (run_back k ys w) (λ w. run_back k xs w)
  back_append [] ys w = at_end (run_back k ys w)
  back_append (d ∷ xs) ys w = on_both _ _ _ _ (back_append xs ys w) (λ u. refl) ∙ in_turn (run_back k ys w) _ _

  -- both orders of two parts
  joined : (xs ys : List Deferred) (w : World) (x : Went) (f : World → Went) → x ≡ run_back k ys w → ((u : World) → f u ≡ run_back k xs u) →
      went_on x f ≡ run_back k (xs ++ ys) w
  joined xs ys w x f e h = on_both x _ f (λ u. run_back k xs u) e h ∙ sym (back_append xs ys w)

  mutual
    own_back : (r : Residual) (w : World) → cancel_own p k r w ≡ run_back k (own_deferred r) w
    own_back (leaf x e) w = refl
    own_back (args e f vs r left) w = own_back r w
    own_back (seq e b r left) w = own_back r w
    own_back (deferred e d r) w = on_both _ _ _ _ (own_back r w) (λ u. refl)
    own_back (looped e a r) w = own_back r w
    own_back (filling e c pl fs xs vs ss r) w = own_back r w
    own_back (generated e g cs a pl vs r) w = own_back r w
    own_back (called e s) w = scope_own_back s w
    own_back (arms kd pl e gs) w = refl

    scope_own_back : (s : Scope) (w : World) → cancel_scope_own p k s w ≡ run_back k (scope_own_deferred s) w
    scope_own_back (scope q r bs) w = own_back r w

    inner_back : (r : Residual) (w : World) → cancel_kids p k r w ≡ run_back k (inner_deferred r) w
    inner_back (leaf x e) w = refl
    inner_back (args e f vs r left) w = inner_back r w
    inner_back (seq e b r left) w = inner_back r w
    inner_back (deferred e d r) w = inner_back r w
    inner_back (looped e a r) w = inner_back r w
    inner_back (filling e c pl fs xs vs ss r) w = inner_back r w
    inner_back (generated e g cs a pl vs r) w = inner_back r w
    inner_back (called e s) w = scope_inner_back s w
    inner_back (arms kd pl e gs) w = arms_back gs w

    scope_inner_back : (s : Scope) (w : World) → cancel_scope_kids p k s w ≡ run_back k (scope_inner_deferred s) w
    scope_inner_back (scope q r bs) w = joined (behind_deferred bs) (inner_deferred r) w _ _ (inner_back r w) (λ u. behind_back bs u)

    pub behind_back : (bs : Scopes) (w : World) → cancel_behind p k bs w ≡ run_back k (behind_deferred bs) w
    behind_back none w = refl
    behind_back (also s bs) w = joined (scope_own_deferred s ++ scope_inner_deferred s) (behind_deferred bs) w _ _ (behind_back bs w)
        (λ u. joined (scope_own_deferred s) (scope_inner_deferred s) u _ _ (scope_inner_back s u) (λ x. scope_own_back s x))

    pub arms_back : (gs : Arms) (w : World) → cancel_arms p k gs w ≡ run_back k (arms_deferred gs) w
    arms_back no_arms w = refl
    arms_back (gave v gs) w = arms_back gs w
    arms_back (runs s gs) w = joined (scope_own_deferred s ++ scope_inner_deferred s) (arms_deferred gs) w _ _ (arms_back gs w)
        (λ u. joined (scope_own_deferred s) (scope_inner_deferred s) u _ _ (scope_inner_back s u) (λ x. scope_own_back s x))

pub cancels_backwards : CancelsBackwards
cancels_backwards p fuel = record { arms = arms_back p (deeper p fuel); background = behind_back p (deeper p fuel) }

pub cancelling_leaves : CancellingLeaves
cancelling_leaves p fuel = record {
  arms = arms_keep p (deeper p fuel) (deeper_keeps p fuel);
  background = behind_keep p (deeper p fuel) (deeper_keeps p fuel);
}
