-- Calls do not rest, as deep as there are steps.
use Rattle.std.proofs.Common.{◌≡◌, ◌∙◌, ℕ, zero, suc, Bool, [], Some, sym, subst}
use Rattle.verse_tree.specs.ItemTree.{FunTree}
use Rattle.verse_sorts.proofs.Fitting.{grows_itself}
use Rattle.verse_meaning.specs.Programs.{Program, fun_at}
use Rattle.verse_meaning.specs.Residuals.{Env, none, body}
use Rattle.verse_meaning.specs.Outcomes.{set_behind, spends, call_end}
use Rattle.verse_meaning.specs.Evaluating.{scope_end, ev}
use Rattle.verse_meaning.specs.Runs.{deeper, with_params, with_this}
use Rattle.verse_meaning.specs.Laws.{ContextLeaves, ContextUndoes, CancelLeaves, FailedContextLeaves, ContextsUndo}
use Rattle.verse_meaning.specs.Laws.{CancellingLeaves}
use Rattle.verse_sound_rules.specs.Found.{Found, in_function}
use Rattle.verse_sound_rules.specs.Programs.{FineFound, FineFunction, params_behind}
use Rattle.verse_sound_trees.specs.Names.{Sees}
use Rattle.verse_sound_runs.proofs.Calls.{params_typed, sees_this}
use Rattle.verse_sound_effects.specs.Opening.{OpenAndClosed, ContextsChangeNothing}
use Rattle.verse_sound_waits.specs.Waits.{Stays}
use Rattle.verse_sound_waits.specs.Calls.{Marked, CallsNeverRest}
use Rattle.verse_sound_waits.proofs.Passing.{known_stays, called_stays, spends_stays}
use Rattle.verse_sound_waits.proofs.Forms.{CallsStay}
use Rattle.verse_sound_waits.proofs.Trees.{tree_stays}

module _ (p : Program) (f : Found) (n : ℕ) (leave : (g : ℕ) → ContextLeaves p g)
    (undo : (g : ℕ) → ContextUndoes p (deeper p g)) (cancel : (g : ℕ) → CancelLeaves p (deeper p g))
    (agree : (g : ℕ) → OpenAndClosed p (deeper p g)) (found : FineFound p f) (suspends : ℕ → Bool)
    (marked : Marked p f suspends) where
  abbrev Calls : ℕ → Type 0
  Calls g = CallsStay p f n leave undo cancel agree found suspends marked g

  -- the body of a function, where its parameters are named
  step : (g : ℕ) → Calls g → Calls (suc g)
  step g calls t h function o vs m e w at quiet may this args k =
      known_stays (fun_at p h) w _ (λ fn is. known_stays (with_params fn.params vs (with_this o)) w _ (λ e1 made.
      entered fn (is_the function fn (sym at ∙ is)) e1 made))
    where
      fine : FineFunction p f h function
      fine = found.functions h function at

      is_the : (x y : FunTree) → Some x ≡ Some y → x ≡ y
      is_the x y same = cc

      is_that : (x y : Env) → Some x ≡ Some y → x ≡ y
      is_that x y same = cc

      seen : (e1 : Env) → with_params function.params vs (with_this o) ≡ Some e1 →
          Sees f t (f.signature h).this (params_behind function.params []) e1
      seen e1 made =
          let named = params_typed p f t (f.signature h).this function.params (f.signature h).params vs [] (with_this o)
          fine.params args (sees_this p f t (f.signature h).this o this) in
          subst (λ e. Sees f t (f.signature h).this (params_behind function.params []) e)
          (is_that named.env e1 (sym named.is ∙ made)) named.sees

      entered : (fn : FunTree) → function ≡ fn → (e1 : Env) → with_params fn.params vs (with_this o) ≡ Some e1 →
          Stays (spends w.state.clock.left w (λ w. call_end e (scope_end p (deeper p g) body w.behind
          (ev p (deeper p g) fn.body m e1 (set_behind w none)))))
      entered fn same = subst (λ fn. (e1 : Env) → with_params fn.params vs (with_this o) ≡ Some e1 →
          Stays (spends w.state.clock.left w (λ w. call_end e (scope_end p (deeper p g) body w.behind
          (ev p (deeper p g) fn.body m e1 (set_behind w none)))))) same (λ e1 made.
          spends_stays p f n w w.state.clock.left _ k (λ z kz. called_stays p (deeper p g) z.behind e _
          (tree_stays p f n leave undo cancel agree found suspends marked g calls function.body
          (in_function (f.signature h) m) (params_behind function.params []) t e1 (fine.body m may)
          (marked.bodies h function at quiet) (seen e1 made) t (set_behind z none) grows_itself
          (record { cells = kz.cells; clock = kz.clock; behind = tt; tasks = kz.tasks }))))

  pub calls_stay : (g : ℕ) → Calls g
  calls_stay zero t h function o vs m e w at quiet may this args k =
      known_stays (fun_at p h) w _ (λ fn a. known_stays (with_params fn.params vs (with_this o)) w _ (λ e1 b. tt))
  calls_stay (suc g) t h function o vs m e w at quiet may this args k =
      step g (calls_stay g) t h function o vs m e w at quiet may this args k

pub calls_never_rest : FailedContextLeaves → ContextsUndo → CancellingLeaves → ContextsChangeNothing → CallsNeverRest
calls_never_rest leave undo cancel agree p h suspends marked n fuel t g function o vs m e w at quiet may this args k =
    calls_stay p h.found n (λ g. leave p g) (λ g. undo p g) (λ g. cancel p g) (λ g. agree p g) h.fine suspends marked
    fuel t
    g function o vs m e w at quiet may this args k
