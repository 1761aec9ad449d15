-- A line of the trace.
use Rattle.std.proofs.Common.{◌≡◌, ◌≢◌, ℕ, ◌+◌, ◌<◌, ◌≤◌, Bool, true, false, cond, nat_le, Option, Some, None, List, [], ◌∷◌, ◌++◌, length}
use Rattle.std.proofs.Common.{map, refl, sym, ap, ◌∙◌, subst, append_assoc, length-append, arith}
use Rattle.std.proofs.lemmas.Bool.{le-leb, lt-leb}
use Rattle.std.proofs.lemmas.List.{map-append}
use Rattle.verse_base.specs.TraceLine.{line_bytes}
use Rattle.verse_base.specs.declared.places.Place.{Place}
use Rattle.verse_base.specs.declared.refusals.Kind.TheVariants as kind
use Rattle.verse_value.specs.Val.{Val, unit, array}
use Rattle.verse_value.specs.Val as val
use Rattle.verse_value.specs.Runs.{Line}
use Rattle.verse_value.specs.Answer.{gives, fails, error}
use Rattle.verse_meaning_state.specs.State.{State, with_line}
use Rattle.verse_meaning_state.specs.Effects.{Effect, printed, printed_by, line_told, text_printed}
use Rattle.verse_meaning_state.specs.Effects.{line_printed}
use Rattle.trace_buf.specs.Trace.{Trace, printed_size}
use Rattle.trace_buf.specs.Trace as trace
use Rattle.tx_heap.specs.State.{State as Kept}
use Rattle.vm_frames.specs.Framed.{Framed}
use Rattle.vm_running.specs.Views.{Aside, IsPast, Ready, line_of, state_of}
use Rattle.verse_value.specs.declared.runs.Ending.TheVariants as ending
use Rattle.verse_meaning_state.proofs.Lines.{printed_both}
use Rattle.vm_running.specs.declared.runners.Did.TheVariants as did
use Rattle.vm_running.specs.Doings.{effects}
use Rattle.vm_running.specs.Comes.{Comes, Leads}
use Rattle.vm_running.proofs.Steps.{at}
use Rattle.vm_running.proofs.Lines.{kept_printed}
use Rattle.vm_exec_memory.proofs.Effects.{effect_stuck, effects_lead}
use Rattle.vm_exec_memory.specs.Effects.{bytes_in}

pub told_by : (v : Val) (s : State) → line_printed v s ≡ text_printed (bytes_in v) s
told_by val.unit s = refl
told_by val.falsity s = refl
told_by val.truth s = refl
told_by (val.int n) s = refl
told_by (val.char c) s = refl
told_by (val.enum a b) s = refl
told_by (val.object c) s = refl
told_by (val.event c) s = refl
told_by (val.task c) s = refl
told_by (val.some v) s = refl
told_by (val.array vs) s = refl
told_by (val.mapping ps) s = refl
told_by (val.tuple vs) s = refl

pub size_is : (past : List Line) (ks : List (ℕ × List ℕ)) →
    length (printed (past ++ map line_of ks)) ≡ length (printed past) + length (trace.printed ks)
size_is past ks =
    ap length (printed_both past (map line_of ks)) ∙
    (length-append (printed past) (printed (map line_of ks)) ∙ ap (λ bs. length (printed past) + length bs) (kept_printed ks))

more_is : (past : List Line) (ks : List (ℕ × List ℕ)) (k : ℕ × List ℕ) →
    (past ++ map line_of ks) ++ line_of k ∷ [] ≡ past ++ map line_of (ks ++ k ∷ [])
more_is past ks k = append_assoc past (map line_of ks) (line_of k ∷ []) ∙ ap (λ ls. past ++ ls) (sym (map-append line_of ks (k ∷ [])))

abbrev with_trace : Kept → List Line → State → Effect
with_trace h ls st = gives (unit, record st { memory = record { store = h.cells; trace = ls } })

module _ (h : Kept) (tr : Trace) (l s n : ℕ) where
  size_at : (fs : List Framed) (a : Aside) → IsPast a (at h tr l s n fs) → printed_by (state_of a (at h tr l s n fs)) ≡ printed_size tr
  size_at fs a past =
      let size = size_is a.past tr.kept in
      let bytes = past.0 in
      omega (arith, bytes, size)

  pub told : (bytes : List ℕ) (fs : List Framed) → printed_size tr + length (line_bytes n bytes) ≤ 16777216 → (a : Aside) →
      IsPast a (at h tr l s n fs) → line_told bytes (state_of a (at h tr l s n fs)) ≡
      gives (unit, state_of a (at h (trace.with_line tr n bytes) l s n fs))
  told bytes fs most a past =
      let st = state_of a (at h tr l s n fs) in
      let size = size_at fs a past in
      let line : Line = record { moment = n; bytes = bytes } in
      let few : nat_le (printed_by st + length (line_bytes n bytes)) 16777216 ≡ true =
      le-leb _ _ (subst (λ k. k + length (line_bytes n bytes) ≤ 16777216) (sym size) most) in
      ap (λ b. cond {A = Effect} b (gives (unit, with_line st line)) (error kind.Trace)) few ∙
      ap (λ ls. with_trace h ls st) (more_is a.past tr.kept (n, bytes))

  pub full : (bytes : List ℕ) (fs : List Framed) → 16777216 < printed_size tr + length (line_bytes n bytes) → (a : Aside) →
      IsPast a (at h tr l s n fs) → line_told bytes (state_of a (at h tr l s n fs)) ≡ error kind.Trace
  full bytes fs more a past =
      let st = state_of a (at h tr l s n fs) in
      let size = size_at fs a past in
      let line : Line = record { moment = n; bytes = bytes } in
      let many : nat_le (printed_by st + length (line_bytes n bytes)) 16777216 ≡ false =
      lt-leb _ _ (subst (λ k. 16777216 < k + length (line_bytes n bytes)) (sym size) more) in
      ap (λ b. cond {A = Effect} b (gives (unit, with_line st line)) (error kind.Trace)) many

-- a line never fails

told_or_full : (b : Bool) (x : Val × State) → cond {A = Effect} b (gives x) (error kind.Trace) ≢ fails
told_or_full true x e = absurd (cc)
told_or_full false x e = absurd (cc)

pub told_not_fails : (bytes : List ℕ) (s : State) → line_told bytes s ≢ fails
told_not_fails bytes s = told_or_full (nat_le (printed_by s + length (line_bytes s.clock.now bytes)) 16777216) _

-- a value that is printed, by its bytes

module _ {h : Kept} {tr : Trace} {l s n : ℕ} where
  pub print_stuck : (p : Option Place) (v : Val) (fs gs : List Framed) → Ready (at h tr l s n fs) → bytes_in v ≡ None →
      Comes (effects p (line_printed v)) (did.Over ending.Stuck) (at h tr l s n fs) (at h tr l s n gs)
  print_stuck p v fs gs r none = effect_stuck p (line_printed v) fs gs r (λ a. told_by v (state_of a (at h tr l s n fs)) ∙
      ap (λ o. text_printed o (state_of a (at h tr l s n fs))) none)

  pub print_leads : (p : Option Place) (v : Val) (bytes : List ℕ) (fs : List Framed) → Ready (at h tr l s n fs) → bytes_in v ≡ Some bytes →
      Leads (effects p (line_printed v)) (at h tr l s n fs) (effects p (line_told bytes)) (at h tr l s n fs)
  print_leads p v bytes fs r some = effects_lead p (line_printed v) (line_told bytes) fs r (λ a. told_by v (state_of a (at h tr l s n fs)) ∙
      ap (λ o. text_printed o (state_of a (at h tr l s n fs))) some)
