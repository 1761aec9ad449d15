-- What goes on well can be cancelled, and its waits are of their sorts.
use Rattle.std.proofs.Common.{◌≡◌, ℕ, zero, suc, Bool, true, false, cond, List, [], ◌∷◌, ◌++◌, refl}
use Rattle.verse_meaning_state.specs.Waits.{Wait, has, eqn}
use Rattle.verse_sorts.specs.Sorts.{Sort}
use Rattle.verse_sorts.specs.Typing.{Typing, Adds}
use Rattle.verse_sorts.proofs.Fitting.{adds_itself, adds_on, grows_on}
use Rattle.verse_meaning.specs.Programs.{Program}
use Rattle.verse_meaning.specs.Residuals.{Residual, leaves, Scope, Scopes, none, also, scope_leaves, behind_leaves, is_behind}
use Rattle.verse_meaning.specs.Outcomes.{World, Went, went_on}
use Rattle.verse_meaning.specs.Evaluating.{cancel_scope_kids, cancel_scope_own, cancel_behind}
use Rattle.verse_meaning.specs.Runs.{deeper}
use Rattle.verse_sound_rules.specs.Found.{Found, Allowed}
use Rattle.verse_sound_trees.specs.Outcomes.{Cells, WentWell, goes_well, quits_fault, quits_steps}
use Rattle.verse_sound_trees.specs.Waiting.{WaitsOf}
use Rattle.verse_sound_trees.specs.Going.{AllBehind, Dropped, Undoes, Cancels, CancelsScope, Left, LeftScope}
use Rattle.verse_sound_trees.proofs.Waiting.{waits_of_both}

module _ (p : Program) (f : Found) where
  pub left_cancels : (n : ℕ) (u : Typing) (a : Allowed) (b : Sort) (r : Residual) → Left p f n u a b r → Cancels p f u r
  left_cancels zero u a b r l = l.0
  left_cancels (suc n) u a b r l = left_cancels n u a b r l.0

  pub left_waits : (n : ℕ) (u : Typing) (a : Allowed) (b : Sort) (r : Residual) → Left p f n u a b r → WaitsOf f.up u (leaves r)
  left_waits zero u a b r l = l.1
  left_waits (suc n) u a b r l = left_waits n u a b r l.0

  pub scope_cancels : (n : ℕ) (u : Typing) (c : Bool) (b : Sort) (q : Scope) → LeftScope p f n u c b q → CancelsScope p f u q
  scope_cancels zero u c b q l = l.0
  scope_cancels (suc n) u c b q l = scope_cancels n u c b q l.0

  pub scope_waits : (n : ℕ) (u : Typing) (c : Bool) (b : Sort) (q : Scope) → LeftScope p f n u c b q → WaitsOf f.up u (scope_leaves q)
  scope_waits zero u c b q l = l.1
  scope_waits (suc n) u c b q l = scope_waits n u c b q l.0

  pub went_from : {t u : Typing} {x : Went} → Adds t u → WentWell f u x → WentWell f t x
  went_from g (goes_well h k) = goes_well (adds_on g h) k
  went_from g quits_fault = quits_fault
  went_from g quits_steps = quits_steps

  pub went_then : {t : Typing} {x : Went} (go : World → Went) → WentWell f t x →
      ((u : Typing) (w : World) → Adds t u → Cells f u w → WentWell f u (go w)) → WentWell f t (went_on x go)
  unfolding went_on
  went_then go (goes_well {u} {w} g k) h = went_from g (h u w g k)
  went_then go quits_fault h = quits_fault
  went_then go quits_steps h = quits_steps

  -- one after another
  pub both_undone : (t : Typing) (go on : ℕ → World → Went) → Undoes p f go t → Undoes p f on t →
      Undoes p f (λ k w. went_on (go k w) (λ z. on k z)) t
  both_undone t go on h i u k w g c = went_then (λ z. on k z) (h u k w g c) (λ o z j d. i o k z (grows_on g j.grows) d)

  pub behind_undone : (n : ℕ) (t : Typing) (bs : Scopes) → AllBehind (Dropped (LeftScope p f n) t) bs →
      Undoes p f (λ k w. cancel_behind p (deeper p k) bs w) t
  behind_undone n t none l = λ u k w g c. goes_well adds_itself c
  behind_undone n t (also q bs) l =
      let x = scope_cancels n t false l.0.0 q l.0.1 in
      both_undone t (λ k w. cancel_behind p (deeper p k) bs w) (λ k w. went_on (cancel_scope_kids p (deeper p k) q w)
      (λ z. cancel_scope_own p (deeper p k) q z))
      (behind_undone n t bs l.1)
      (both_undone t (λ k w. cancel_scope_kids p (deeper p k) q w) (λ k w. cancel_scope_own p (deeper p k) q w) x.0 x.1)

  pub behind_waits : (n : ℕ) (t : Typing) (bs : Scopes) (ws : List Wait) → AllBehind (Dropped (LeftScope p f n) t) bs → WaitsOf f.up t ws →
      WaitsOf f.up t (behind_leaves bs ws)
  behind_waits n t none ws l h = h
  behind_waits n t (also q bs) ws l h =
      waits_of_both f.up t (scope_leaves q) (behind_leaves bs ws) (scope_waits n t false l.0.0 q l.0.1) (behind_waits n t bs ws l.1 h)

-- the wait is in the second list, where it is in both together and not in the first
pub has_behind : (i : ℕ) (xs ys : List Wait) → has i (xs ++ ys) ≡ true → has i xs ≡ false → has i ys ≡ true
has_behind i [] ys h k = h
has_behind i (x ∷ xs) ys h k = by (eqn i x.number) h k (has_behind i xs ys)
  where
    by : (b : Bool) → cond b true (has i (xs ++ ys)) ≡ true → cond b true (has i xs) ≡ false → (has i (xs ++ ys) ≡ true →
        has i xs ≡ false → has i ys ≡ true) →
        has i ys ≡ true
    by true h k g = cc
    by false h k g = g h k

-- in the scope's own residual, where it is not in what is behind
pub has_own : (i : ℕ) (bs : Scopes) (ws : List Wait) → has i (behind_leaves bs ws) ≡ true → is_behind i bs ≡ false → has i ws ≡ true
has_own i none ws h k = h
has_own i (also q bs) ws h k = by (has i (scope_leaves q)) refl k (λ m n. has_own i bs ws m n)
  where
    by : (b : Bool) → has i (scope_leaves q) ≡ b → cond b true (is_behind i bs) ≡ false →
        (has i (behind_leaves bs ws) ≡ true → is_behind i bs ≡ false → has i ws ≡ true) → has i ws ≡ true
    by true e g m = cc
    by false e g m = m (has_behind i (scope_leaves q) (behind_leaves bs ws) h e) g
