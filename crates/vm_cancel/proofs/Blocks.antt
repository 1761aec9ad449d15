-- The frames of a cancelled task go, and its deferred blocks run.
use Rattle.std.proofs.Common.{◌≡◌, ◌≢◌, inl, ℕ, suc, ◌+◌, ◌<◌, Bool, true, false, List, [], ◌∷◌, length, map, Option, Some, None, refl, sym}
use Rattle.std.proofs.Common.{ap, subst, ◌∙◌, arith}
use Rattle.verse_value.specs.declared.runs.Ending.TheVariants as ending
use Rattle.verse_meaning_state.specs.State.{Memory, State, spending}
use Rattle.verse_code_machine.specs.Tasks as m
use Rattle.verse_code_machine.specs.Tasks.{gone, Note, Who, World, Step, Next, Over, machine}
use Rattle.verse_code_machine.specs.Cancelling.{on_deferred, clears_frame, clears_frames}
use Rattle.fiber.specs.Frames.{Handler, fits, kept_defers}
use Rattle.vm_frames.specs.Framed.{Framed, defers_of, handlers_of}
use Rattle.vm_frames.specs.Calls.{left, left_from, permits, moved, taken, taken_from}
use Rattle.vm_frames.specs.Machine.{gone_note, note_of, frame_with, frames_with, handlers_with, handlers_in, beyond, all_free}
use Rattle.vm_running.specs.Views.{View, Aside, state_of, frames_of, memories}
use Rattle.vm_running.specs.Doings.{on_frame, going}
use Rattle.vm_scheduler.specs.declared.tasks.Went.{Went}
use Rattle.vm_scheduler.specs.declared.tasks.Went.TheVariants as went
use Rattle.vm_scheduler.specs.Frames.{Unguarded, GoneFirst, EachKeeps, Closing}
use Rattle.vm_scheduler.proofs.Free.{free_parts, no_handlers}
use Rattle.vm_cancel.specs.Clears.{ClearsTo, ClearsFrames}

-- the handlers of a task that is suspended

bare_handlers : (born : ℕ) (hs : List Handler) (ms : List Memory) → handlers_with born hs ms ≡ [] → hs ≡ []
bare_handlers born [] ms e = refl
bare_handlers born (h ∷ hs) ms e = absurd (cc)

no_notes : (ns : List ℕ) → map note_of ns ≡ [] → ns ≡ []
no_notes [] e = refl
no_notes (n ∷ ns) e = absurd (cc)

record Plain (f : Framed) (fs : List Framed) : Type 0 where
  handlers : f.frame.handlers ≡ []
  noted : map note_of f.frame.noted ≡ []
  rest : all_free (frames_with fs []) ≡ true

plain : (f : Framed) (fs : List Framed) → Unguarded (f ∷ fs) → Plain f fs
plain f fs u =
    let p = free_parts (handlers_with f.born f.frame.handlers []) (map note_of f.frame.noted)
    (frames_with fs (beyond f.frame.handlers [])) u.free in
    let hs = bare_handlers f.born f.frame.handlers [] p.0 in
    record { handlers = hs; noted = p.1; rest = subst (λ z. all_free (frames_with fs (beyond z [])) ≡ true) hs p.2 }

pub no_kept : (fs : List Framed) → Unguarded fs → handlers_of fs ≡ []
no_kept [] u = refl
no_kept (f ∷ fs) u = (plain f fs u).handlers

module _ (next : State → Step) (w : Who) (o : World) (s : State) where
  -- a frame without deferred blocks goes

  clears_next : (f : Framed) (fs : List Framed) (hs : List Handler) → f.frame.handlers ≡ hs → hs ≡ [] → f.frame.defers ≡ [] →
      clears_frames next w o s (frames_with (f ∷ fs) []) ≡ clears_frames next w o s (frames_with fs [])
  clears_next f fs hs is none e =
      ap (λ ds. on_deferred ds (clears_frames next w o s (frames_with fs (beyond f.frame.handlers [])))
      (λ q ds. clears_frame w o s (frame_with f []) (frames_with fs (beyond f.frame.handlers [])) q ds)) e ∙
      ap (λ hs. clears_frames next w o s (frames_with fs (beyond hs []))) (is ∙ none)

abbrev flag_in : Bool → Option (Bool × List Framed) → Bool
flag_in b None = b
flag_in b (Some x) = x.0

abbrev frames_left : List Framed → Option (Bool × List Framed) → List Framed
frames_left fs None = fs
frames_left fs (Some x) = x.1

left_more : (hs : List Handler) (fs gs : List Framed) → left_from hs fs ≡ Some (false, gs) → (fs ≡ gs) × (fs ≢ [])
left_more (h ∷ hs) fs gs e = absurd (cc)
left_more [] [] gs e = let same : true ≡ false = ap (λ o. flag_in true o) e in absurd (cc)
left_more [] (g ∷ fs) gs e = let same : g ∷ fs ≡ gs = ap (λ o. frames_left gs o) e in (same, λ n. absurd (cc))

left_last : (hs : List Handler) (fs gs : List Framed) → left_from hs fs ≡ Some (true, gs) → fs ≡ []
left_last (h ∷ hs) fs gs e = absurd (cc)
left_last [] [] gs e = refl
left_last [] (g ∷ fs) gs e = let same : false ≡ true = ap (λ o. flag_in false o) e in absurd (cc)

left_none : (hs : List Handler) (fs : List Framed) → left_from hs fs ≡ None → hs ≡ [] → ⊥
left_none (h ∷ hs) fs e n = absurd (cc)
left_none [] [] e n = absurd (cc)
left_none [] (g ∷ fs) e n = absurd (cc)

no_defers : (ds : List ℕ) → length ds ≡ 0 → ds ≡ []
no_defers [] e = refl
no_defers (d ∷ ds) e = absurd (omega (arith, e))

pub some_left : (fs gs : List Framed) → Unguarded fs → left fs ≡ Some (false, gs) → Unguarded gs
some_left [] gs u e = absurd (cc)
some_left (f ∷ fs) gs u e =
    let p = plain f fs u in
    let q = left_more f.frame.handlers fs gs e in
    subst (λ z. Unguarded z) q.0 (record { some = q.1; free = p.rest })

pub never_none : (fs : List Framed) → Unguarded fs → left fs ≡ None → ⊥
never_none [] u e = u.some refl
never_none (f ∷ fs) u e = left_none f.frame.handlers fs e (plain f fs u).handlers

pub goes_on : (fs gs : List Framed) (r : _) (v u : View) → Unguarded fs → length (defers_of fs) ≡ 0 → left fs ≡ Some (false, gs) →
    ClearsFrames gs r v u → ClearsFrames fs r v u
goes_on [] gs r v u un none e c = absurd (un.some refl)
goes_on (f ∷ fs) gs r v u un none e c =
    let p = plain f fs un in
    let q = left_more f.frame.handlers fs gs e in
    record {
      still = c.still;
      clears = λ next a w o bare. subst (λ z. ClearsTo z next r a w o v u)
          (sym (clears_next next w o (state_of a v) f fs f.frame.handlers refl p.handlers (no_defers f.frame.defers none) ∙
          ap (λ z. clears_frames next w o (state_of a v) (frames_with z [])) q.0)) (c.clears next a w o bare);
    }

pub all_gone : (fs gs : List Framed) (v : View) → Unguarded fs → length (defers_of fs) ≡ 0 → left fs ≡ Some (true, gs) →
    ClearsFrames fs went.Down v v
all_gone [] gs v un none e = absurd (un.some refl)
all_gone (f ∷ fs) gs v un none e =
    let p = plain f fs un in
    let q = left_last f.frame.handlers fs gs e in
    record {
      still = refl;
      clears = λ next a w o bare. clears_next next w o (state_of a v) f fs f.frame.handlers refl p.handlers
          (no_defers f.frame.defers none) ∙ ap (λ z. clears_frames next w o (state_of a v) (frames_with z [])) q;
    }

abbrev first_in : ℕ → Option (ℕ × List Framed) → ℕ
first_in q None = q
first_in q (Some x) = x.0

abbrev frames_under : Option (ℕ × List Framed) → List Framed
frames_under None = []
frames_under (Some x) = x.1

-- the top frame with a block that has begun
abbrev begun : Framed → List ℕ → List Framed → ℕ → List Framed
begun f ds fs q = moved q (record f { frame = record f.frame { defers = ds; noted = gone_note ∷ f.frame.noted } } ∷ fs)

block_at : (f : Framed) (d : ℕ) (ds : List ℕ) (fs : List Framed) (left : ℕ) (v : View) → f.frame.handlers ≡ [] → f.frame.defers ≡ d ∷ ds →
    Plain f fs → v.left ≡ suc left →
    ClearsFrames (f ∷ fs) went.On v (record v { frames = begun f ds fs d; left = left; spent = suc v.spent })
block_at f d ds fs left v none some p less = record {
  still = tt;
  clears = λ next a w o bare.
      let u = record v { frames = begun f ds fs d; left = left; spent = suc v.spent } in
      let ms : memories a.past v.heap.copies v.trace.marks ≡ [] = ap (λ c. memories a.past c v.trace.marks) bare.copies in
      let is : frames_of a u ≡ frames_with (begun f ds fs d) [] = ap (λ z. frames_with (begun f ds fs d) z) ms in
      let most = bare.steps in
      let count : handlers_in (f ∷ fs) ≡ 0 = omega (arith, ap (λ hs. length hs) none, no_handlers fs [] p.rest) in
      let under : all_free (frames_with fs (beyond f.frame.handlers [])) ≡ true =
      subst (λ z. all_free (frames_with fs (beyond z [])) ≡ true) (sym none) p.rest in (
        ap (λ z. on_deferred z (clears_frames next w o (state_of a v) (frames_with fs (beyond f.frame.handlers [])))
            (λ q ds. clears_frame w o (state_of a v) (frame_with f []) (frames_with fs (beyond f.frame.handlers [])) q ds)) some ∙
            (ap (λ k. spending k (state_of a v) (Over ending.Steps (state_of a v)) (λ s. blocked w o s [])) less ∙
            (ap (λ z. blocked w o (state_of a u) z) (sym (ap (λ hs. handlers_with f.born hs []) none)) ∙
            ap (λ z. on_frame z (state_of a u) (going w o (state_of a u))) (sym is))),
        record {
          ready = record {
            some = λ e. absurd (cc);
            copies = ap (λ z. length z) bare.copies ∙ sym count;
            marks = ap (λ z. length z) bare.marks ∙ sym count;
            clock = omega (arith, less, most);
          };
          closing = subst (λ z. Closing z) (sym is)
              (inl ((p.noted, subst (λ hs. EachKeeps GoneFirst (handlers_with f.born hs [])) (sym none) tt), under));
          fewer = omega (arith, less);
          still = refl;
        },
      );
}
  where
    blocked : Who → World → State → List m.Handler → Step
    blocked w o s hs = Next (machine w o s (record { born = f.born; defers = ds; noted = gone ∷ map note_of f.frame.noted }) f.frame.locals
        f.frame.stack d hs (frames_with fs (beyond f.frame.handlers [])))

block_from : (f : Framed) (ds : List ℕ) (fs gs : List Framed) (block left : ℕ) (v : View) → f.frame.defers ≡ ds → Unguarded (f ∷ fs) →
    taken_from gone_note ds f fs ≡ Some (block, gs) → v.left ≡ suc left →
    ClearsFrames (f ∷ fs) went.On v (record v { frames = moved block gs; left = left; spent = suc v.spent })
block_from f [] fs gs block left v is un e less = absurd (cc)
block_from f (d ∷ ds) fs gs block left v is un e less =
    let p = plain f fs un in
    let q : d ≡ block = ap (first_in d) e in
    let r : record f { frame = record f.frame { defers = ds; noted = gone_note ∷ f.frame.noted } } ∷ fs ≡ gs = ap frames_under e in
    subst (λ z. ClearsFrames (f ∷ fs) went.On v (record v { frames = z; left = left; spent = suc v.spent }))
    (ap (λ z. moved z (record f { frame = record f.frame { defers = ds; noted = gone_note ∷ f.frame.noted } } ∷ fs)) q ∙
    ap (λ z. moved block z) r)
    (block_at f d ds fs left v p.handlers is p less)

pub block_begun : (fs gs hs : List Framed) (block left spent : ℕ) (v : View) → Unguarded fs → taken gone_note fs ≡ Some (block, gs) →
    hs ≡ moved block gs → v.left ≡ suc left → spent ≡ v.spent + 1 →
    ClearsFrames fs went.On v (record v { frames = hs; left = left; spent = spent })
block_begun [] gs hs block left spent v un e to less more = absurd (un.some refl)
block_begun (f ∷ fs) gs hs block left spent v un e to less more =
    let n : spent ≡ suc v.spent = omega (arith, more) in
    rw (to, n) (block_from f f.frame.defers fs gs block left v refl un e less)

begun_permits : (f : Framed) (ds : List ℕ) (fs gs : List Framed) (block : ℕ) → f.frame.handlers ≡ [] →
    taken_from gone_note ds f fs ≡ Some (block, gs) → handlers_of gs ≡ []
begun_permits f [] fs gs block none e = absurd (cc)
begun_permits f (d ∷ ds) fs gs block none e = ap (λ z. handlers_of z) (sym (ap frames_under e)) ∙ none

pub no_bounds : (fs gs : List Framed) (block : ℕ) → Unguarded fs → taken gone_note fs ≡ Some (block, gs) → handlers_of gs ≡ []
no_bounds [] gs block un e = absurd (un.some refl)
no_bounds (f ∷ fs) gs block un e = begun_permits f f.frame.defers fs gs block (plain f fs un).handlers e

pub out_of_blocks : (fs : List Framed) (v : View) → Unguarded fs → 0 < length (defers_of fs) → v.left ≡ 0 →
    ClearsFrames fs (went.Over ending.Steps) v v
out_of_blocks [] v un some none = absurd (un.some refl)
out_of_blocks (f ∷ fs) v un some none = record { still = refl; clears = λ next a w o bare. go next a w o f.frame.defers refl some }
  where
    go : (next : State → Step) (a : Aside) (w : Who) (o : World) (ds : List ℕ) → f.frame.defers ≡ ds → 0 < length ds →
        clears_frames next w o (state_of a v) (frames_with (f ∷ fs) []) ≡ Over ending.Steps (state_of a v)
    go next a w o [] is lt = absurd (omega (arith, lt))
    go next a w o (d ∷ ds) is lt =
        ap (λ z. on_deferred z (clears_frames next w o (state_of a v) (frames_with fs (beyond f.frame.handlers [])))
        (λ q ds. clears_frame w o (state_of a v) (frame_with f []) (frames_with fs (beyond f.frame.handlers [])) q ds)) is ∙
        ap (λ k. spending k (state_of a v) (Over ending.Steps (state_of a v)) (λ s. blocked s d ds)) none
      where
        blocked : State → ℕ → List ℕ → Step
        blocked s d ds = Next (machine w o s (record { born = f.born; defers = ds; noted = gone ∷ map note_of f.frame.noted })
            f.frame.locals f.frame.stack d [] (frames_with fs (beyond f.frame.handlers [])))

pub some_block : (fs : List Framed) → Unguarded fs → 0 < length (defers_of fs) → kept_defers (handlers_of fs) < length (defers_of fs)
some_block fs un lt = subst (λ hs. kept_defers hs < length (defers_of fs)) (sym (no_kept fs un)) lt

no_limits : (gs : List Framed) (q : ℕ) → handlers_of gs ≡ [] → permits q gs ≡ true
no_limits [] q e = refl
no_limits (f ∷ fs) q e = ap (λ hs. fits hs q) e

-- nothing forbids the place of the block
pub sure_moved : (fs gs hs : List Framed) (block : ℕ) (sure : Bool) → Unguarded fs → taken gone_note fs ≡ Some (block, gs) →
    sure ≡ permits block gs → (sure ≡ true → hs ≡ moved block gs) → hs ≡ moved block gs
sure_moved fs gs hs block sure un e test moves = moves (test ∙ no_limits gs block (no_bounds fs gs block un e))

-- by what is told of the frame that went

pub gone_at : (fs gs : List Framed) (v : View) (b : Bool) → b ≡ true → Unguarded fs → length (defers_of fs) ≡ 0 → left fs ≡ Some (b, gs) →
    ClearsFrames fs went.Down v v
gone_at fs gs v b is un none e = all_gone fs gs v un none (subst (λ z. left fs ≡ Some (z, gs)) is e)

pub left_at : (fs gs : List Framed) (b : Bool) → b ≡ false → Unguarded fs → left fs ≡ Some (b, gs) → Unguarded gs
left_at fs gs b is un e = some_left fs gs un (subst (λ z. left fs ≡ Some (z, gs)) is e)

pub goes_at : (fs gs : List Framed) (r : Went) (v u : View) (b : Bool) → b ≡ false → Unguarded fs → length (defers_of fs) ≡ 0 →
    left fs ≡ Some (b, gs) → ClearsFrames gs r v u → ClearsFrames fs r v u
goes_at fs gs r v u b is un none e c = goes_on fs gs r v u un none (subst (λ z. left fs ≡ Some (z, gs)) is e) c
