-- Effects keep their promises in accepted programs.
use Rattle.std.proofs.Common.{◌≡◌, ◌∙◌, ℕ, Bool, List, sym, ap, subst}
use Rattle.std.specs.Prelude.{Some, slice_get}
use Rattle.verse_tree.specs.ItemTree.{ItemTree}
use Rattle.verse_tree.specs.declared.tables.Effects.{Effects}
use Rattle.verse_names_declarations.specs.Known.{known}
use Rattle.verse_rules_walk.specs.Order.{InPostOrder}
use Rattle.verse_accept.specs.Fronts.{Accepts}
use Rattle.verse_meaning.specs.Outcomes.{World, Outcome}
use Rattle.verse_sorts.specs.Typing.{Are}
use Rattle.verse_sound_rules.specs.Found.{Signature}
use Rattle.verse_sound_rules.specs.Programs.{FineProgram}
use Rattle.verse_sound_effects.specs.Calls as calls
use Rattle.verse_sound_effects.specs.Calls.{CallsArePromised}
use Rattle.verse_sound_effects.specs.Contexts.{ContextsEndAtOnce}
use Rattle.verse_accept_nodes.specs.Laws.{AcceptedShaped}
use Rattle.verse_accept_classes.specs.Owners.{owned}
use Rattle.verse_accept_fine.specs.Sorted.{sorted, up, program, lasts, signature_of, class_in}
use Rattle.verse_accept_trees.specs.Laws.{Told}
use Rattle.verse_accept_sound.specs.Programs.{ProgramsAreFine}
use Rattle.verse_accept_sound.proofs.Whole.{items_found}
use Rattle.verse_accept_effects.specs.Laws.{Promised, gives, fails, waits, faults, ends_steps, AcceptedCallsArePromised}
use Rattle.verse_accept_effects.specs.Laws.{AcceptedContextsEndAtOnce}

-- by the effects of a function in place of its signature
by_effects : (g : Signature) (f : Effects) (w : World) {x : Outcome} → g.decides ≡ f.decides → g.lasts ≡ lasts f →
    calls.Promised g w x → Promised f w x
by_effects g f w d l (calls.gives h) = gives (λ q. h (l ∙ q))
by_effects g f w d l (calls.fails c h) = fails (sym d ∙ c) (λ q. h (l ∙ q))
by_effects g f w d l (calls.waits h) = waits (sym l ∙ h)
by_effects g f w d l calls.faults = faults
by_effects g f w d l calls.ends_steps = ends_steps

module _ (order : InPostOrder) (shapes : AcceptedShaped) (programs : ProgramsAreFine) where
  -- its sorts are those that the checker has found
  abbrev fine : (files : List (List ℕ)) (is : List ItemTree) → Accepts files is → (arrays events : ℕ → Bool) →
      Told is arrays events → FineProgram (program is arrays events)
  fine files is a arrays events told =
      record { found = sorted is; fine = items_found order shapes programs files is a arrays events told }

  pub accepted_calls : CallsArePromised → AcceptedCallsArePromised
  accepted_calls promised files is a arrays events told n fuel t g info function o vs m e w there at may this args kept =
      let sign : (sorted is).signature g ≡ signature_of (Some info) (class_in (slice_get (owned (known is).items) g)) =
      ap (λ i. signature_of i (class_in (slice_get (owned (known is).items) g))) there in
      by_effects ((sorted is).signature g) info.effects w (ap (λ (s : Signature). s.decides) sign)
      (ap (λ (s : Signature). s.lasts) sign)
      (promised (program is arrays events) (fine files is a arrays events told) n fuel t g function o vs m e w at
      (λ l. may (sym (ap (λ (s : Signature). s.lasts) sign) ∙ l)) this
      (subst (Are (up is) t vs) (sym (ap (λ (s : Signature). s.params) sign)) args) kept)

  pub accepted_contexts : ContextsEndAtOnce → AcceptedContextsEndAtOnce
  accepted_contexts end files is a arrays events told n fuel t b xs e w i pl see kept =
      end (program is arrays events) (fine files is a arrays events told) n fuel t b xs e w i pl see kept
