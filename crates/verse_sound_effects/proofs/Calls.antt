-- Calls keep what effects promise, wherever they stand.
use Rattle.std.proofs.Common.{◌≡◌, ◌∙◌, ℕ, Bool, true, false, refl, sym}
use Rattle.std.specs.Prelude.{None}
use Rattle.verse_sorts.specs.Sorts.{Sort}
use Rattle.verse_sorts.specs.Typing.{Typing}
use Rattle.verse_meaning.specs.Programs.{Program}
use Rattle.verse_meaning.specs.Outcomes.{World, Outcome}
use Rattle.verse_meaning.specs.Runs.{deeper}
use Rattle.verse_meaning.specs.Laws.{Keeps, FailedContextLeaves, ContextsUndo, CancellingLeaves}
use Rattle.verse_sound_rules.specs.Found.{Found, Allowed, Signature}
use Rattle.verse_sound_trees.specs.Outcomes as well
use Rattle.verse_sound_trees.specs.Outcomes.{any_names}
use Rattle.verse_sound_trees.specs.Going.{turns, Comes}
use Rattle.verse_sound_runs.proofs.Calls.{no_true, turns_deep}
use Rattle.verse_sound_effects.specs.Opening.{SameOrStuck, same, is_stuck, ContextsChangeNothing}
use Rattle.verse_sound_effects.specs.Calls.{Promised, gives, fails, waits, faults, ends_steps, CallsArePromised}
use Rattle.verse_sound_effects.proofs.Leaving.{calls_keep}

-- what is allowed where a call of the function stands
abbrev round_call : Signature → Bool → Allowed
round_call g m = record { fails = g.decides; result = None; breaks = false; waits = m; this = None }

module _ (p : Program) (f : Found) (n : ℕ) (t : Typing) (g : Signature) (b : Sort) (w : World) where
  abbrev ComesRound : Bool → Outcome → Type 0
  ComesRound m x = Comes p f (turns n) any_names t (round_call g m) b x

  -- a function that may last
  lasting : {x : Outcome} → g.lasts ≡ true → ComesRound true x → Promised g w x
  lasting d (well.gives l k i e) = gives (λ q. no_true (sym q ∙ d))
  lasting d (well.fails h) = fails h (λ q. no_true (sym q ∙ d))
  lasting d (well.returns r h l k i) = cc
  lasting d (well.breaks h l k) = no_true h
  lasting d well.faults = faults
  lasting d well.ends_steps = ends_steps
  lasting d (well.waits h l k r) = waits d

  -- one that does nothing lasting, where a failure context is open
  closed : {x : Outcome} → ComesRound false x → Keeps false w x → Promised g w x
  closed (well.gives l k i e) h = gives (λ q. h)
  closed (well.fails d) h = fails d (λ q. h)
  closed (well.returns r d l k i) h = cc
  closed (well.breaks d l k) h = no_true d
  closed well.faults h = faults
  closed well.ends_steps h = ends_steps
  closed (well.waits d l k r) h = no_true d

  -- and wherever it stands
  anywhere : {x y : Outcome} → ComesRound false x → Keeps false w x → SameOrStuck x y → Promised g w y
  anywhere c k same = closed c k
  anywhere c k is_stuck = elim c [ ]

pub calls_promised : FailedContextLeaves → ContextsUndo → CancellingLeaves → ContextsChangeNothing → CallsArePromised
calls_promised leave undo cancel agree p h n fuel t g function o vs m e w at may this args kept =
    by (h.found.signature g).lasts m refl may
  where
    sign : Signature
    sign = h.found.signature g

    comes : (m : Bool) → (sign.lasts ≡ true → m ≡ true) →
        Comes p h.found (turns n) any_names t (round_call sign m) sign.result ((deeper p fuel).calls g o vs m e w)
    comes m d = (turns_deep p h.found (λ k. leave p k) (λ k. undo p k) (λ k. cancel p k) h.fine n fuel).calls t
        (round_call sign m) g
        function o vs e w at tt (λ d. d) d this args kept

    by : (b m : Bool) → sign.lasts ≡ b → (sign.lasts ≡ true → m ≡ true) →
        Promised sign w ((deeper p fuel).calls g o vs m e w)
    by true true q d = lasting p h.found n t sign sign.result w q (comes true d)
    by true false q d = no_true (d q)
    by false false q d = closed p h.found n t sign sign.result w (comes false d) (calls_keep p
        (λ k. leave p k) fuel g o vs e w)
    by false true q d = anywhere p h.found n t sign sign.result w (comes false (λ l. no_true (sym q ∙ l)))
        (calls_keep p (λ k. leave p k) fuel g o vs e w) ((agree p fuel).calls g o vs e w)
