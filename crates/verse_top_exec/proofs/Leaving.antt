-- What is left in a sink, told of one kind of texts and then of another.
use Rattle.std.proofs.Common.{◌≡◌, ◌⊎◌, ℕ, ◌≤◌, List, [], ◌++◌, Option, Result, Ok, Err, OnOk, OnErr, inl, inr, refl, sym, ap, subst, ◌∙◌}
use Rattle.std.specs.Result.{IsErrAnd}
use Rattle.verse_outside.specs.Causes.{Rose}
use Rattle.verse_outside.specs.Held.{TookPrefix, with_more}
use Rattle.verse_top_exec.specs.declared.stops.Stop.{Stop}
use Rattle.verse_top_exec.specs.declared.stops.Stop.TheVariants as stop
use Rattle.verse_top_exec.specs.Executions.{IsNothing}
use Rattle.verse_top_exec.specs.Leaving.{Either, Leaves, Stopped, Wrote, WroteFront}
use Rattle.verse_top_exec.proofs.Takes.{more_nothing}

pub stopped_as : (P Q R S : List ℕ → Type 0) (before now : ℕ) (old new : Option (List ℕ)) (s : Stop) → ((t : List ℕ) → P t → R t) →
    ((t : List ℕ) → Q t → S t) → Stopped P Q before now old new s → Stopped R S before now old new s
stopped_as P Q R S before now old new stop.Memory f h x = (x.0, (f x.0 x.1.0, x.1.1))
stopped_as P Q R S before now old new stop.Failed f h x = (x.0, (x.1.0, (h x.1.0 x.1.1.0, x.1.1.1)))

pub leaves_as : (W V : ℕ → List ℕ → Type 0) (P Q : List ℕ → Type 0) (before now : ℕ) (old new : Option (List ℕ)) (r : Result ℕ Stop) →
    ((s : ℕ) (t : List ℕ) → W s t → V s t) → ((t : List ℕ) → P t → Q t) → Leaves W P before now old new r → Leaves V Q before now old new r
leaves_as W V P Q before now old new (Ok s) f h x = (x.0, (f s x.0 x.1.0, x.1.1))
leaves_as W V P Q before now old new (Err s) f h x =
    stopped_as P (Either W P) Q (Either V Q) before now old new s h (λ t e. elim e [ inl w ↦ inl (w.0, f w.0 t w.1) | inr p ↦ inr (h t p) ])
    x

-- nothing was written, for want of memory
pub leaves_nothing : (W : ℕ → List ℕ → Type 0) (P : List ℕ → Type 0) (before now : ℕ) (old new : Option (List ℕ)) → P [] → new ≡ old →
    Leaves W P before now old new (Err stop.Memory)
leaves_nothing W P before now old new p e = ([], (p, e ∙ sym (more_nothing old)))

-- what holds of an error holds of the result that is this error
pub at_error : {T E : Type 0} (r : Result T E) (P : Result T E → Type 0) (e : E) → IsErrAnd r (λ d. d ≡ e) → P (Err e) → P r
at_error (Ok x) P e h p = absurd h
at_error (Err d) P e h p = subst (λ x. P (Err x)) (sym h) p
