-- An operation of a task whose frames are the one that was on top and those that were called since: what is left to say
-- is what
-- it does with the one that was on top.
use Rattle.std.proofs.Common.{◌≡◌, ℕ, suc, length, List, [], ◌∷◌, ◌++◌, ◌⊎◌, inl, inr, Bool, true, false, refl, sym}
use Rattle.std.proofs.Common.{subst, ap, ◌∙◌}
use Rattle.verse_code.specs.declared.operations.Op.{Op}
use Rattle.verse_code.specs.declared.operations.Op.TheVariants as does
use Rattle.verse_code.specs.declared.codes.Func.{Func}
use Rattle.verse_code.specs.declared.codes.Code.{Code}
use Rattle.verse_value.specs.Val.{Val}
use Rattle.verse_value.specs.declared.runs.Ending.TheVariants as ending
use Rattle.verse_meaning_state.specs.State.{State, Clock, restored, stepped}
use Rattle.verse_meaning_state.specs.Waits.{ltn}
use Rattle.verse_code_machine.specs.Tasks.{Life, Handler, Frame, Note, Who, World, Machine, Step, Next, Over, machine}
use Rattle.verse_code_machine.specs.Tasks.{life_from}
use Rattle.verse_code_machine.specs.Tasks.{After, resuming, thread, since}
use Rattle.verse_code_machine.specs.Frames.{only_where, goes, failing, clean, nothing, enters, locals_of, kept_noted}
use Rattle.verse_code_machine.specs.Frames.{free}
use Rattle.verse_code_machine.specs.Cancelling.{clears_frames, cancels, cancelled, world_without}
use Rattle.verse_code_machine.specs.Ends.{resumes, returns, ends, cleared}
use Rattle.verse_code_machine_contexts.proofs.Acts.{Leaves, sleep, forever, await_task, await_event, signal, spawn}
use Rattle.verse_code_machine_contexts.proofs.Acts.{spawn_method}
use Rattle.verse_code_machine_contexts.proofs.Acts.{group, branch}
use Rattle.verse_code_machine.specs.Acts.{act, frame, on_handler, on_noted, on_note}
use Rattle.verse_code_machine_parents.specs.Parents.{WorldRooted}
use Rattle.verse_code_machine_parents.specs.Cancelled.{NoneSince}
use Rattle.verse_code_machine_contexts.specs.Contexts.{StepsAlone, locals_above}
use Rattle.verse_code_machine_contexts.proofs.Frames.{Notes, none, IsPlace, place, Fresh, Frames, above, not_free}
use Rattle.verse_code_machine_contexts.proofs.Frames.{noted_more, AsItWas}
use Rattle.verse_code_machine_contexts.proofs.Frames.{noted_fewer, opens, Innermost, of_those, deeper, innermost, Under}
use Rattle.verse_code_machine_contexts.proofs.Frames.{of_top}
use Rattle.verse_code_machine_contexts.proofs.Frames.{called_by, under_it, locals_under, none_cancelled}
use Rattle.verse_code_machine_contexts.proofs.Acts.{Low, over, stays, CanFail, only_low, inside, goes_low, Site}

module _ (w : Who) (o : World) (start : Clock) (base : List Note) (root : List Handler) (under : List Frame) where
  abbrev pub In : ℕ → List Note → List Handler → List Frame → Type 0
  In = Frames (Fresh w.path o) base root under

  abbrev pub Is : (Step → Type 0) → Step → Type 0
  Is = Low w o start In

  -- what an operation does with the frame that was on top, where that has the contexts that it had
  pub record Top (P : Op → Step → Type 0) (s : State) (g : Life) (l st : List Val) (pc : ℕ) (hs : List Handler) (bl :
      List Frame) :
      Type 0 where
    pub shut : (ns : List Note) → Notes base ns → free root ns under ≡ false
    pub failing : (op : Op) (ls : List Val) (ks : List Handler) (bs : List Frame) → CanFail op → ks ≡ root → bs ≡ under
        →
        locals_above (length under) ls bs ≡ locals_above (length under) l bl → Is (P op) (failing w o s ls ks bs)
    pub returns : (v : Val) → [] ≡ root → Notes base g.noted → Is (P does.Return) (clean g s (returns w o g.born v s []
        bl))
    pub ends : (v : Val) → [] ≡ root → Notes base g.noted → Is (P does.ArmEnd) (clean g s (ends w o g.born v s [] bl))
    pub commits : (h : Handler) (ks : List Handler) → h ∷ ks ≡ root → bl ≡ under →
        Is (P does.Commit) (goes w o s s g l (st ++ h.stack) (suc pc) ks bl)
    pub undoes : (h : Handler) (ks : List Handler) → h ∷ ks ≡ root → bl ≡ under →
        Is (P does.Undo) (goes w o s (restored h.memory s) g l (st ++ h.stack) (suc pc) ks bl)
    pub defer_ends : (y : Note) (ns : List Note) → y ∷ ns ≡ base → hs ≡ root → bl ≡ under →
        ltn (kept_noted hs) (suc (length ns)) ≡ true →
        Is (P does.DeferEnd) (on_note y (λ q. goes w o s s (record g { noted = ns }) l st q hs bl)
        (clears_frames (λ s. cleared o.ups o.pre o.post o.trees s) w o s (frame (record g { noted = ns }) l st pc hs ∷
        bl)))

  module _ (since_none : NoneSince) (P : Op → Step → Type 0) (s : State) (g : Life) (l st : List Val) (pc : ℕ) (hs :
      List Handler)
      (bl : List Frame) (t : StepsAlone start s.clock) (r : In g.born g.noted hs bl) (rooted : WorldRooted s.clock.left
      w o)
      (top : Top P s g l st pc hs bl) where
    calls : (l : ℕ) (ls st : List Val) (q : ℕ) (f : Func) (vs : List Val) → suc l ≡ s.clock.left →
        In l [] [] (frame g ls st q hs ∷ bl)
    calls l ls st q f vs e = above none (since_none f vs w o s (frame g ls st q hs ∷ bl) it rooted is_it) tt r
      where
        it : Machine
        it = machine w o (stepped l s) (life_from l) (locals_of f vs) [] f.entry [] (frame g ls st q hs ∷ bl)

        is_it : enters f vs w o s (frame g ls st q hs ∷ bl) ≡ Next it
        is_it = rw (sym e) refl

    -- ---- what would leave the task

    shut : (Q : Step → Type 0) (q : Step) → Is Q (only_where (free hs g.noted bl) s q)
    shut Q q = rw (not_free (Fresh w.path o) base root under top.shut r) over

    leaving_here : (c : Code) {op : Op} → Leaves op → Is (P op) (act c op w o s g l st pc hs bl)
    leaving_here c sleep = shut _ _
    leaving_here c forever = shut _ _
    leaving_here c await_task = shut _ _
    leaving_here c await_event = shut _ _
    leaving_here c signal = shut _ _
    leaving_here c spawn = shut _ _
    leaving_here c spawn_method = shut _ _
    leaving_here c group = shut _ _
    leaving_here c branch = shut _ _

    -- ---- a failure

    -- where the locals of the frame that was on top are these
    module _ (op : Op) (can : CanFail op) where
      abbrev AsNow : List Val → List Frame → Type 0
      AsNow ls bs = locals_above (length under) ls bs ≡ locals_above (length under) l bl

      handler_fails : (ls : List Val) {born : ℕ} {ns : List Note} {h : Handler} {ks : List Handler} {bs : List Frame} →
          Innermost (Fresh w.path o) base root under h ks bs born ns → AsNow ls bs → Is (P op) (failing w o s ls (h ∷
          ks) bs)
      handler_fails ls {h = h} {ks = ks} {bs = bs} (of_those a b) e = top.failing op ls (h ∷ ks) bs can a b e
      handler_fails ls {h = h} {ks = ks} {bs = bs} (deeper a b) e =
          goes_low w o start In (P op) s (restored h.memory s) h.life ls h.stack h.label ks bs t a

      last_fails : (ls : List Val) {born : ℕ} {ns : List Note} → Under (Fresh w.path o) base root under born ns [] →
          AsNow ls [] → Is (P op) (failing w o s ls [] [])
      last_fails ls (of_top a b n) e = top.failing op ls [] [] can a b e

      caller_fails : (ls : List Val) (f : Frame) (fs : List Frame) {born : ℕ} {ns : List Note} →
          (In f.life.born f.life.noted f.handlers fs → AsNow f.locals fs → Is (P op) (failing w o s f.locals f.handlers
          fs)) → Under (Fresh w.path o) base root under born ns (f ∷ fs) → AsNow ls (f ∷ fs) →
          Is (P op) (failing w o s ls [] (f ∷ fs))
      caller_fails ls f fs go (of_top a b n) e = top.failing op ls [] (f ∷ fs) can a b e
      caller_fails ls f fs go (called_by b x) e =
          go x (sym (locals_under (Fresh w.path o) base root under f fs ls x) ∙ e)

      fails : (ls : List Val) {born : ℕ} {ns : List Note} (ks : List Handler) (bs : List Frame) → In born ns ks bs →
          AsNow ls bs → Is (P op) (failing w o s ls ks bs)
      fails ls (h ∷ ks) bs x e = handler_fails ls (innermost (Fresh w.path o) base root under x) e
      fails ls [] [] x e = last_fails ls (under_it (Fresh w.path o) base root under x) e
      fails ls [] (f ∷ fs) x e = caller_fails ls f fs (λ y h. fails f.locals f.handlers fs y h) (under_it (Fresh w.path
          o) base root under x) e

    -- ---- a frame that returns

    none_cancels : (Q : Step → Type 0) (last : World → State → Step) (a : After) (f : List ℕ → Bool) →
        (cancelled f o ≡ []) × (world_without f o ≡ o) → Is Q (last o s) → Is Q (cancels last a f o s)
    none_cancels Q last a f e l = rw (e.0, e.1) l

    under_returns : (v : Val) {fs : List Frame} → bl ≡ fs → hs ≡ [] → Under (Fresh w.path o) base root under g.born
        g.noted fs →
        Is (P does.Return) (clean g s (returns w o g.born v s [] fs))
    under_returns v e h (of_top a b n) =
        subst (λ fs. Is (P does.Return) (clean g s (returns w o g.born v s [] fs))) e (top.returns v a n)
    under_returns v e h (called_by {f = f} {fs = fs} b x) = only_low w o start In (P does.Return) (nothing g.defers
        g.noted) s _
        (none_cancels (P does.Return) (λ o s. resumes (thread w f fs) v o s) (resuming (thread w f fs) v) (since w.path
        g.born) (none_cancelled (since w.path g.born) o b) (stays (inside w o start In t x)))

    returns_here : (v : Val) (ks : List Handler) → hs ≡ ks → Is (P does.Return) (clean g s (returns w o g.born v s ks
        bl))
    returns_here v (h ∷ ks) e = only_low w o start In (P does.Return) (nothing g.defers g.noted) s _ over
    returns_here v [] e =
        under_returns v refl e (under_it (Fresh w.path o) base root under (subst (λ ks. In g.born g.noted ks bl) e r))

    under_ends : (v : Val) {fs : List Frame} → bl ≡ fs → Under (Fresh w.path o) base root under g.born g.noted fs →
        Is (P does.ArmEnd) (clean g s (ends w o g.born v s [] fs))
    under_ends v e (of_top a b n) =
        subst (λ fs. Is (P does.ArmEnd) (clean g s (ends w o g.born v s [] fs))) e (top.ends v a n)
    under_ends v e (called_by b x) = only_low w o start In (P does.ArmEnd) (nothing g.defers g.noted) s _ over

    ends_here : (v : Val) (ks : List Handler) → hs ≡ ks → Is (P does.ArmEnd) (clean g s (ends w o g.born v s ks bl))
    ends_here v (h ∷ ks) e = only_low w o start In (P does.ArmEnd) (nothing g.defers g.noted) s _ over
    ends_here v [] e = under_ends v refl (under_it (Fresh w.path o) base root under (subst (λ ks. In g.born g.noted ks
        bl) e r))

    -- ---- contexts

    commits_here : (ks : List Handler) → hs ≡ ks →
        Is (P does.Commit) (on_handler ks s (λ h ks. goes w o s s g l (st ++ h.stack) (suc pc) ks bl))
    commits_here [] e = over
    commits_here (h ∷ ks) e = by_way (innermost (Fresh w.path o) base root under (subst (λ ks. In g.born g.noted ks bl)
        e r))
      where
        by_way : Innermost (Fresh w.path o) base root under h ks bl g.born g.noted →
            Is (P does.Commit) (goes w o s s g l (st ++ h.stack) (suc pc) ks bl)
        by_way (of_those a b) = top.commits h ks a b
        by_way (deeper a b) = goes_low w o start In (P does.Commit) s s g l (st ++ h.stack) (suc pc) ks bl t b

    undoes_here : (ks : List Handler) → hs ≡ ks →
        Is (P does.Undo) (on_handler ks s (λ h ks. goes w o s (restored h.memory s) g l (st ++ h.stack) (suc pc) ks bl))
    undoes_here [] e = over
    undoes_here (h ∷ ks) e = by_way (innermost (Fresh w.path o) base root under (subst (λ ks. In g.born g.noted ks bl) e
        r))
      where
        by_way : Innermost (Fresh w.path o) base root under h ks bl g.born g.noted →
            Is (P does.Undo) (goes w o s (restored h.memory s) g l (st ++ h.stack) (suc pc) ks bl)
        by_way (of_those a b) = top.undoes h ks a b
        by_way (deeper a b) = goes_low w o start In (P does.Undo) s (restored h.memory s) g l (st ++ h.stack) (suc pc)
            ks bl t b

    -- ---- a deferred block that is over

    noted_here : (ns : List Note) → g.noted ≡ ns →
        Is (P does.DeferEnd) (only_where (ltn (kept_noted hs) (length ns)) s (on_noted ns s (λ y ns. on_note y (λ q.
        goes w o s s (record g { noted = ns }) l st q hs bl) (clears_frames (λ s. cleared o.ups o.pre o.post o.trees s)
        w o s (frame
        (record g {
          noted = ns;
        }) l st pc hs ∷ bl)))))
    noted_here [] e =
        only_low w o start In (P does.DeferEnd) (ltn (kept_noted hs) 0) s (Over ending.Stuck s) over
    noted_here (y ∷ ns) e = by_test (ltn (kept_noted hs) (suc (length ns))) refl
      where
        to_place : {y : Note} → IsPlace y → In g.born ns hs bl → Is (P does.DeferEnd) (on_note y (λ q. goes w o s s
            (record g {
              noted = ns;
            }) l st q hs bl) (clears_frames (λ s. cleared o.ups o.pre o.post o.trees s) w o s (frame (record g {
              noted = ns;
            }) l st pc hs ∷ bl)))
        to_place (place {q = q}) x = goes_low w o start In (P does.DeferEnd) s s (record g { noted = ns }) l st q hs bl
            t x

        by_way : ltn (kept_noted hs) (suc (length ns)) ≡ true →
            (IsPlace y × In g.born ns hs bl) ⊎ AsItWas (Fresh w.path o) base root under (y ∷ ns) hs bl →
            Is (P does.DeferEnd) (on_note y (λ q. goes w o s s (record g {
              noted = ns;
            }) l st q hs bl) (clears_frames (λ s. cleared o.ups o.pre o.post o.trees s) w o s (frame (record g {
              noted = ns;
            }) l st pc hs ∷ bl)))
        by_way e (inl x) = to_place x.0 x.1
        by_way e (inr x) = top.defer_ends y ns x.notes x.holds x.below e

        by_test : (b : Bool) → ltn (kept_noted hs) (suc (length ns)) ≡ b →
            Is (P does.DeferEnd) (only_where b s (on_note y (λ q. goes w o s s (record g {
              noted = ns;
            }) l st q hs bl) (clears_frames (λ s. cleared o.ups o.pre o.post o.trees s) w o s (frame (record g {
              noted = ns;
            }) l st pc hs ∷ bl))))
        by_test true i =
            by_way i (noted_fewer (Fresh w.path o) base root under (subst (λ ns. In g.born ns hs bl) e r) i)
        by_test false i = over

    pub site : Site w o start In P s g l st pc hs bl
    site = record {
      clock = t;
      frames = r;
      leaving = leaving_here;
      opens = λ h e. opens (Fresh w.path o) base root under h (ap (λ (g : Life). g.born) e) (ap (λ (g : Life). g.noted)
          e) r;
      notes = λ q. noted_more (Fresh w.path o) base root under q r;
      calls = calls;
      failing = λ op can. fails op can l hs bl r refl;
      returns = λ v. returns_here v hs refl;
      ends = λ v. ends_here v hs refl;
      commits = commits_here hs refl;
      undoes = undoes_here hs refl;
      defer_ends = noted_here g.noted refl;
    }
