-- A deferred block of a cancelled task: its operations, and those of what it calls, up to its end.
use Rattle.std.proofs.Common.{◌≡◌, ℕ, suc, length, List, [], ◌∷◌, Some, true, false}
use Rattle.std.proofs.Common.{refl, sym, subst}
use Rattle.verse_code.specs.declared.operations.Op.{Op}
use Rattle.verse_code.specs.declared.operations.Op.TheVariants as does
use Rattle.verse_code.specs.declared.codes.Code.{Code}
use Rattle.verse_value.specs.Val.{Val}
use Rattle.verse_value.specs.declared.runs.Ending.TheVariants as ending
use Rattle.verse_meaning_state.specs.State.{State, Clock}
use Rattle.verse_meaning_state.specs.Waits.{ltn}
use Rattle.verse_code_machine.specs.Tasks.{Handler, Frame, Note, gone, Who, Task, After, World, Machine, Step, Over}
use Rattle.verse_code_machine.specs.Tasks.{machine}
use Rattle.verse_code_machine.specs.Frames.{goes, failing, clean, nothing, kept_noted, free}
use Rattle.verse_code_machine.specs.Cancelling.{clears_frames, clears}
use Rattle.verse_code_machine.specs.Ends.{follows, cleared}
use Rattle.verse_code_machine.specs.Acts.{frame, on_note}
use Rattle.verse_code_machine.specs.Runs.{step}
use Rattle.verse_code_machine_parents.specs.Parents.{WorldRooted, MachineRooted}
use Rattle.verse_code_machine_parents.specs.Cancelled.{NoneSince}
use Rattle.verse_code_machine_contexts.specs.Runs.{op_at}
use Rattle.verse_code_machine_contexts.specs.Contexts.{locals_above}
use Rattle.verse_code_machine_contexts.specs.Cancels.{OnTop, same, more, clearing_world, OfTask, left_by}
use Rattle.verse_code_machine_contexts.proofs.Frames.{Notes, none, more as more_notes, Fresh, Frames, own, above}
use Rattle.verse_code_machine_contexts.proofs.Acts.{Inside, Low, over, closes, CanFail, act_low}
use Rattle.verse_code_machine_contexts.proofs.Sites.{Top, site}

-- no frame has a context or a noted place
abbrev pub AllFree : List Frame → Type 0
AllFree [] = Unit {0}
AllFree (f ∷ fs) = (f.handlers ≡ []) × (f.life.noted ≡ []) × AllFree fs

free_fails : (w : Who) (o : World) (s : State) (ls : List Val) (fs : List Frame) → AllFree fs →
    failing w o s ls [] fs ≡ Over ending.Stuck s
free_fails w o s ls [] a = refl
free_fails w o s ls (f ∷ fs) a = rw a.0 (free_fails w o s f.locals fs a.2)

no_some : {h : Handler} {hs : List Handler} → h ∷ hs ≡ [] → ⊥
no_some e = cc

is_gone : {y : Note} {ns : List Note} → y ∷ ns ≡ gone ∷ [] → y ≡ gone
is_gone e = cc

is_last : {y : Note} {ns : List Note} → y ∷ ns ≡ gone ∷ [] → ns ≡ []
is_last e = cc

some_noted : {ns : List Note} (ds : List ℕ) → Notes (gone ∷ []) ns → nothing ds ns ≡ false
some_noted [] none = refl
some_noted [] (more_notes a) = refl
some_noted (d ∷ ds) a = refl

not_free : (fs : List Frame) (ns : List Note) → Notes (gone ∷ []) ns → free [] ns fs ≡ false
not_free fs ns none = refl
not_free fs ns (more_notes a) = refl

-- whatever frames the one that was on top has under it
on_top : {fresh : ℕ → Type 0} {base : List Note} {root : List Handler} {under : List Frame} {born : ℕ} {ns : List Note}
    {hs : List Handler} {bl : List Frame} → Frames fresh base root under born ns hs bl → OnTop under bl
on_top {under = under} (own e a h) = subst (OnTop under) (sym e) same
on_top (above a b c r) = more (on_top r)

module _ (c : Code) (after : After) (o : World) (w : Who) (fs : List Frame) (ts : List Task) (start : Clock) where
  abbrev pub In : ℕ → List Note → List Handler → List Frame → Type 0
  In = Frames (Fresh w.path (clearing_world c after o ts)) (gone ∷ []) [] fs

  abbrev pub InBlock : Machine → Type 0
  InBlock = Inside w (clearing_world c after o ts) start In

  -- what follows where the block is over
  pub record BlockEnds (k : Machine) (op : Op) (q : Step) : Type 0 where
    pub ends : op ≡ does.DeferEnd
    pub below : k.below ≡ fs
    pub next : q ≡ clears_frames (λ s. clears (follows after) after ts o s) w (clearing_world c after o ts) k.state
        (left_by c after o k
        ∷ fs)

  pub of_task : {k : Machine} → InBlock k → OfTask c after o w fs ts k
  of_task i = record { who = i.who; world = i.world; frames = on_top i.frames }

  module _ (free : AllFree fs) (k : Machine) where
    abbrev Is : Op → Step → Type 0
    Is op = Low w (clearing_world c after o ts) start In (BlockEnds k op)

    fails_here : (op : Op) (ls : List Val) (hs : List Handler) (bl : List Frame) → CanFail op → hs ≡ [] → bl ≡ fs →
        locals_above (length fs) ls bl ≡ locals_above (length fs) k.frame.locals k.below →
        Is op (failing w (clearing_world c after o ts) k.state ls hs bl)
    fails_here op ls hs bl can a b e = rw (a, b, free_fails w (clearing_world c after o ts) k.state ls fs free) over

    not_clean : (op : Op) (q : Step) → Notes (gone ∷ []) k.frame.life.noted → Is op (clean k.frame.life k.state q)
    not_clean op q n = rw (some_noted k.frame.life.defers n) over

    defer_ends_here : (y : Note) (ns : List Note) → y ∷ ns ≡ gone ∷ [] → k.frame.handlers ≡ [] → k.below ≡ fs →
        ltn (kept_noted k.frame.handlers) (suc (length ns)) ≡ true →
        Is does.DeferEnd (on_note y (λ q. goes w (clearing_world c after o ts) k.state k.state (record k.frame.life {
          noted = ns;
        }) k.frame.locals k.frame.stack q k.frame.handlers k.below) (clears_frames (λ s. cleared (clearing_world c after
        o ts).ups
        (clearing_world c after o ts).pre (clearing_world c after o ts).post (clearing_world c after o ts).trees s) w
        (clearing_world
        c after o ts) k.state (frame (record k.frame.life { noted = ns }) k.frame.locals k.frame.stack k.frame.place
        k.frame.handlers
        ∷ k.below)))
    defer_ends_here y ns n a b e =
        closes (record { ends = refl; below = b; next = rw (is_gone n, is_last n, b) refl })

    top : Top w (clearing_world c after o ts) start (gone ∷ []) [] fs (BlockEnds k) k.state k.frame.life k.frame.locals
        k.frame.stack
        k.frame.place k.frame.handlers k.below
    top = record {
      shut = not_free fs;
      failing = fails_here;
      returns = λ v e n. not_clean does.Return _ n;
      ends = λ v e n. not_clean does.ArmEnd _ n;
      commits = λ h hs a b. absurd (no_some a);
      undoes = λ h hs a b. absurd (no_some a);
      defer_ends = defer_ends_here;
    }

  -- as the machine k, whose task and world are these
  abbrev here : Machine → Machine
  here k = machine w (clearing_world c after o ts) k.state k.frame.life k.frame.locals k.frame.stack k.frame.place
      k.frame.handlers
      k.below

  is_here : (k : Machine) → InBlock k → here k ≡ k
  is_here k i = rw (sym i.who, sym i.world) refl

  pub operation_in_block : NoneSince → AllFree fs → (k : Machine) → InBlock k → MachineRooted k → (op : Op) → op_at c k
      ≡ Some op →
      Low w (clearing_world c after o ts) start In (BlockEnds k op) (step c k)
  operation_in_block since_none all_free k i r op e =
      subst (λ k. Low w (clearing_world c after o ts) start In (BlockEnds k op) (step c k)) (is_here k i) at_op
    where
      rooted : WorldRooted k.state.clock.left w (clearing_world c after o ts)
      rooted = subst (λ (k : Machine). WorldRooted k.state.clock.left k.who k.world) (sym (is_here k i)) r.world

      at_op : Low w (clearing_world c after o ts) start In (BlockEnds (here k) op) (step c (here k))
      at_op = rw e (act_low w (clearing_world c after o ts) start In (BlockEnds (here k)) k.state k.frame.life
          k.frame.locals
          k.frame.stack k.frame.place k.frame.handlers k.below (site w (clearing_world c after o ts) start (gone ∷ [])
          [] fs since_none (BlockEnds (here k)) k.state k.frame.life k.frame.locals k.frame.stack k.frame.place
          k.frame.handlers k.below i.clock i.frames rooted (top all_free (here k))) c op)
