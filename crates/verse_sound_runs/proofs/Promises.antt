-- Calls keep what the effects of their functions promise.
use Rattle.std.proofs.Common.{◌≡◌, ℕ, Bool, true, false, Option}
use Rattle.std.specs.Prelude.{Some, None}
use Rattle.verse_sorts.specs.Sorts.{Sort}
use Rattle.verse_sorts.specs.Typing.{Typing}
use Rattle.verse_meaning.specs.Programs.{Program}
use Rattle.verse_meaning.specs.Outcomes.{Outcome}
use Rattle.verse_meaning.specs.Laws.{FailedContextLeaves, ContextsUndo, CancellingLeaves}
use Rattle.verse_sound_rules.specs.Found.{Found, Allowed, Signature}
use Rattle.verse_sound_trees.specs.Outcomes.{any_names, gives, fails, returns, breaks, faults, ends_steps, waits}
use Rattle.verse_sound_trees.specs.Going.{Level, turns, Comes}
use Rattle.verse_sound_runs.specs.Promises.{KeepsPromises, CallsKeepPromises}
use Rattle.verse_sound_runs.proofs.Calls.{no_true, turns_deep}

-- what is allowed where a call of the function stands
abbrev round_call : Signature → Allowed
round_call g = record { fails = g.decides; result = None; breaks = false; waits = g.lasts; this = None }

keeps : (p : Program) (f : Found) (n : ℕ) (t : Typing) (g : Signature) (b : Sort) {x : Outcome} →
    Comes p f (turns n) any_names t (round_call g) b x → KeepsPromises g x
keeps p f n t g b (gives l k i e) = tt
keeps p f n t g b (fails h) = h
keeps p f n t g b (returns r h l k i) = cc
keeps p f n t g b (breaks h l k) = no_true h
keeps p f n t g b faults = tt
keeps p f n t g b ends_steps = tt
keeps p f n t g b (waits h l k r) = h

pub calls_keep : FailedContextLeaves → ContextsUndo → CancellingLeaves → CallsKeepPromises
calls_keep leave undo cancel p h n fuel t g function o vs e w at this args kept =
    let sign = h.found.signature g in
    let deep = turns_deep p h.found (λ k. leave p k) (λ k. undo p k) (λ k. cancel p k) h.fine n fuel in
    keeps p h.found n t sign sign.result
    (deep.calls t (round_call sign) g function o vs e w at tt (λ d. d) (λ d. d) this args kept)
