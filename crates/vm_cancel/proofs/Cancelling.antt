-- What is cancelled on both sides, and the blocks that run then.
use Rattle.std.proofs.Common.{◌≡◌, inl, inr, ℕ, Bool, true, false, cond, List, [], ◌∷◌, ◌++◌, map, reverse, Option, Some, None, refl, sym}
use Rattle.std.proofs.Common.{ap}
use Rattle.std.proofs.Common.{subst, ◌∙◌}
use Rattle.std.specs.Global.{Vec}
use Rattle.std.proofs.lemmas.List.{reverse-reverse, reverse-append}
use Rattle.task_tree.specs.Tasks.{Task}
use Rattle.verse_code_machine.specs.Tasks as m
use Rattle.verse_code_machine.specs.Tasks.{Frame, Who, Part, clearing, World, world, since, beneath_arms}
use Rattle.verse_code_machine.specs.Cancelling.{world_without, clears}
use Rattle.verse_code_machine.specs.Ends.{follows}
use Rattle.sim_clock.specs.declared.waits.Pending.{Pending}
use Rattle.vm_tasks_laws.specs.Slots.{held}
use Rattle.vm_tasks_laws.specs.Standing.{Stands, who_after}
use Rattle.vm_tasks_laws.specs.Clocks.{sleeping}
use Rattle.vm_tasks_laws.proofs.Ticks.{same_timed}
use Rattle.verse_meaning_state.specs.State.{Memory}
use Rattle.vm_frames.specs.Framed.{Framed}
use Rattle.vm_frames.specs.Machine.{frames_with, beyond}
use Rattle.vm_running.specs.Views.{View, Aside, state_of}
use Rattle.vm_running.specs.Doings.{going}
use Rattle.vm_running.specs.Comes.{done}
use Rattle.vm_tasks.specs.declared.slots.Slot.{Slot}
use Rattle.vm_tasks.specs.declared.slots.Held.{Held}
use Rattle.vm_tasks.specs.declared.slots.Held.TheVariants.{ByMachine, Asleep, AtGroup}
use Rattle.vm_tasks.specs.declared.gone.Gone.{Gone}
use Rattle.vm_tasks.specs.View.{slot_of}
use Rattle.vm_tasks.specs.Gone.{In, first_in, later_in, KeepsEach}
use Rattle.vm_tasks.specs.Gone as gone
use Rattle.vm_tasks.specs.Deferring.{is_some, any_deferred, any_defers, Agrees}
use Rattle.vm_tasks.specs.Ending.{IsAlone}
use Rattle.vm_tasks.specs.Standing.{CancelsAs, CancelsScope, CancelsArms}
use Rattle.vm_scheduler.specs.declared.tasks.Tasks.{Tasks}
use Rattle.vm_scheduler.specs.declared.tasks.After.{After}
use Rattle.vm_scheduler.specs.declared.tasks.Went.{Went}
use Rattle.vm_scheduler.specs.declared.tasks.Went.TheVariants as went
use Rattle.vm_scheduler.specs.Frames.{parted, frames_in, Unguarded, AllUnguarded}
use Rattle.vm_scheduler.specs.Ups.{ups_of, UpsAre, IsAfter}
use Rattle.vm_scheduler.specs.Standing.{Tree, ids, Fine, HeldFine, AllFine, Clocked, Standing, Bare}
use Rattle.vm_scheduler.specs.Going.{NothingUnder, Clearing}
use Rattle.vm_scheduler.specs.Meets.{GoesOn}
use Rattle.vm_scheduler.proofs.Fines.{fine_less}
use Rattle.vm_scheduler.proofs.Untold.{untold_kept}
use Rattle.vm_cancel.specs.Clears.{Runs, Begun, AllTo, ClearsAll}
use Rattle.vm_cancel.specs.Cancels.{Cancelled, Cancels, Follows, BlocksTo, RunsBlocks}
use Rattle.vm_cancel.proofs.Under.{closed_since, closed_arms, nothing_under, later_under}

fine_in : (left : ℕ) (ts : Tree) (t : Task (Slot (List Framed))) → AllFine left ts → In t ts → Fine left t.item
fine_in left [] t a i = elim i [ ]
fine_in left (u ∷ ts) t a first_in = a.0
fine_in left (u ∷ ts) t a (later_in _ i) = fine_in left ts t a.1 i

fine_of : (left : ℕ) (ts : Tree) → ((t : Task (Slot (List Framed))) → In t ts → Fine left t.item) → AllFine left ts
fine_of left [] f = tt
fine_of left (t ∷ ts) f = (f t first_in, fine_of left ts (λ u i. f u (later_in t i)))

unguarded_of : (fss : List (List Framed)) → ((fs : List Framed) → In fs fss → Unguarded fs) → AllUnguarded fss
unguarded_of [] f = tt
unguarded_of (fs ∷ fss) f = (f fs first_in, unguarded_of fss (λ gs i. f gs (later_in fs i)))

frames_fine : (n : ℕ) (h : Held (List Framed)) (fs : List Framed) → HeldFine n h → In fs (gone.frames_in h) → Unguarded fs
frames_fine n ByMachine fs k i = elim i [ ]
frames_fine n (Asleep gs j kind) fs k i = one gs i k.unguarded
  where
    one : (gs : List Framed) → In fs (gs ∷ []) → Unguarded gs → Unguarded fs
    one gs first_in u = u
    one gs (later_in _ i) u = elim i [ ]
frames_fine n (AtGroup gs g) fs k i = one gs i k.unguarded
  where
    one : (gs : List Framed) → In fs (gs ∷ []) → Unguarded gs → Unguarded fs
    one gs first_in u = u
    one gs (later_in _ i) u = elim i [ ]

no_frames : (fs : List Framed) (fss : List (List Framed)) → fss ≡ [] → In fs fss → ⊥
no_frames fs fss e i = elim (subst (λ z. In fs z) e i) [ ]

unguarded_append : (a b : List (List Framed)) → AllUnguarded a → AllUnguarded b → AllUnguarded (a ++ b)
unguarded_append [] b x y = y
unguarded_append (fs ∷ a) b x y = (x.0, unguarded_append a b x.1 y)

unguarded_back : (fss : List (List Framed)) → AllUnguarded fss → AllUnguarded (reverse fss)
unguarded_back [] u = tt
unguarded_back (fs ∷ fss) u = subst (λ z. AllUnguarded z) (sym (reverse-append (fs ∷ []) fss))
    (unguarded_append (reverse fss) (fs ∷ []) (unguarded_back fss u.1) (u.0, tt))

with_memories : (fs : List Framed) (ms : List Memory) → any_deferred fs ≡ any_defers (frames_with fs ms)
with_memories [] ms = refl
with_memories (f ∷ fs) ms = ap (λ b. cond (is_some f.frame.defers) true b) (with_memories fs (beyond f.frame.handlers ms))

same_parted : (fs : List Frame) → any_defers fs ≡ any_defers ((parted fs).0 ∷ (parted fs).1)
same_parted [] = refl
same_parted (f ∷ fs) = refl

same_deferred : Agrees any_deferred frames_in
same_deferred fs = with_memories fs [] ∙ same_parted (frames_with fs [])

module _ {W : Type 0} (pending : W → List Pending) where
  module _ (t : Tasks W) (id bound : ℕ) (tree : Tree) (behind : Gone (List Framed) W) (back : Vec (List Framed))
      (kept : behind.lost ≡ false) (turned : back.items ≡ reverse behind.frames.items) where
    abbrev after_it : Tasks W
    after_it = record t { tree = tree; gone = record behind { frames = back } }

    cancelled_so : (w : Who) (arms : Option (List Part)) (f : List ℕ → Bool) (a : Aside) (o : World) (v : View) →
        Standing pending (held id w arms ∷ []) a o v t → ((y x : List ℕ) → f y ≡ true → m.starts y x ≡ true → f x ≡ true) →
        KeepsEach t.tree tree t.gone behind → CancelsAs any_deferred pending frames_in t.tree tree t.gone behind (ids t) (held id w arms) o
        f → Cancelled pending id w arms f a o v after_it
    cancelled_so w arms f a o v s closed each c =
        let was : (fs : List Framed) → In fs behind.frames.items → Unguarded fs = λ fs i.
        elim (each.frames kept fs i) [
          | inl k ↦ absurd (no_frames fs t.gone.frames.items s.none k)
          | inr k ↦ frames_fine k.0.item.number k.0.item.held fs (fine_in v.left t.tree k.0 s.clock.fine k.1).held k.2
        ] in
        let more = c.kept kept in
        let all : reverse back.items ≡ more.0 =
        ap (λ z. reverse z) turned ∙ (reverse-reverse behind.frames.items ∙ (more.1 ∙ ap (λ z. z ++ more.0) s.none)) in
        record {
          clock = record {
            past = s.clock.past;
            next = s.clock.next;
            results = s.clock.results;
            signals = s.clock.signals;
            timed = c.timed (state_of a v) s.clock.timed;
            fine = fine_of v.left tree (λ u i. fine_in v.left t.tree u s.clock.fine (each.tasks u i));
            untold = untold_kept t.results.items t.tree tree each.tasks s.clock.untold;
          };
          stands = c.stands;
          ups = s.ups;
          still = s.still;
          todo_is = ap (λ z. map frames_in z) all ∙ more.2;
          unguarded = subst (λ z. AllUnguarded z) (sym turned) (unguarded_back behind.frames.items (unguarded_of behind.frames.items was));
          nothing_under = nothing_under f o closed;
        }

    pub cancels_so : KeepsEach t.tree tree t.gone behind → CancelsScope any_deferred pending id bound t.tree tree t.gone behind →
        CancelsArms any_deferred pending id bound t.tree tree t.gone behind → IsAlone tree id bound → Cancels pending id bound t after_it
    cancels_so each scope arms alone = record {
      scope = λ a w parts o v s. cancelled_so w parts (since w.path bound) a o v s (closed_since w.path bound) each
          (scope frames_in (ids t) w parts o same_deferred s.stands);
      arms = λ a w gs o v is s. cancelled_so w (Some gs) (beneath_arms w.path gs) a o v s (closed_arms w.path gs) each
          (arms frames_in (ids t) w gs o same_deferred is s.stands);
      childless = λ a w parts o v le s. alone frames_in (ids t) w parts (world_without (since w.path bound) o) le
          (scope frames_in (ids t) w parts o same_deferred s.stands).stands;
    }

  -- the blocks of cancelled tasks
  module _ (id : ℕ) (after : After) (v : View) (t : Tasks W) where
    abbrev with_after : Tasks W
    with_after = record t { id = id; after = Some after }

    clocked : (a : Aside) (u : View) (fss : Vec (List Framed)) → Runs a v u → Clocked pending a v t →
        Clocked pending a u (record with_after { gone = record t.gone { frames = fss } })
    clocked a u fss r c =
        let again : Clocked pending a (record v { frames = u.frames; left = u.left; spent = u.spent })
        (record with_after { gone = record t.gone { frames = fss } }) = record {
          past = c.past;
          next = c.next;
          results = c.results;
          signals = c.signals;
          timed = same_timed (sleeping (slot_of frames_in) t.tree) (pending t.gone.waits) (state_of a v)
              (state_of a (record v { frames = u.frames; left = u.left; spent = u.spent })) refl refl refl c.timed;
          fine = fine_less v.left u.left t.tree r.fewer c.fine;
          untold = c.untold;
        } in
        subst (λ z. Clocked pending a z (record with_after { gone = record t.gone { frames = fss } })) (sym r.still) again

    began : (f : m.After) (todo : List m.Task) (a : Aside) (o : World) (u : View) (s : Tasks W) → Clocked pending a v t →
        Stands (slot_of frames_in) t.tree (ids t) (held id (who_after f) None ∷ []) o → UpsAre (ups_of t.ups.items) o.ups →
        NothingUnder o todo → IsAfter t.tree id after f → Begun (follows f) f todo a o v with_after u s →
        GoesOn pending (clears (follows f) f todo o (state_of a v)) a.past u s
    began f todo a o u s c st us n is b =
        let under = later_under o b.front b.it b.later (subst (λ z. NothingUnder o z) b.was n) in
        let at : World = world o.pre o.post (clearing f b.later ∷ o.ups) o.trees in
        let whole : Clearing pending (record { aside = a; who = b.it.thread.who; world = at }) u
        (record with_after { gone = record t.gone { frames = s.gone.frames } }) = record {
          clock = clocked a u s.gone.frames b.runs c;
          after = after;
          follows = f;
          todo = b.later;
          ups = o.ups;
          after_is = refl;
          ups_are = refl;
          follows_is = is;
          waiting = us;
          stands = record { others = st.others; planted = st.planted; chain = st.chain; others_are = st.others_are };
          todo_is = b.later_is;
          unguarded = b.unguarded;
          nothing_under = under.2;
          before = under.0;
          behind = under.1;
          closing = b.runs.closing;
        } in
        record {
          scene = record { aside = a; who = b.it.thread.who; world = at };
          same = refl;
          goes = record {
            ready = b.runs.ready;
            runs =
                inr (subst (λ z. Clearing pending (record { aside = a; who = b.it.thread.who; world = at }) u z) (sym b.still) whole);
          };
          is = subst (λ z. clears (follows f) f todo o (state_of a v) ≡ done going a z at u) b.who_is b.is;
        }

    to_blocks : (r : Went) (u : View) (s : Tasks W) (f : m.After) (todo : List m.Task) (a : Aside) (o : World) → Bare v →
        Clocked pending a v t → Stands (slot_of frames_in) t.tree (ids t) (held id (who_after f) None ∷ []) o →
        UpsAre (ups_of t.ups.items) o.ups →
        NothingUnder o todo → IsAfter t.tree id after f → AllTo (follows f) f todo r a o v with_after u s →
        BlocksTo pending id after (clears (follows f) f todo o (state_of a v)) f r a o v t u s
    to_blocks went.On u s f todo a o bare c st us n is b = began f todo a o u s c st us n is b
    to_blocks (went.Over e) u s f todo a o bare c st us n is b =
        record { aside = a; same = refl; is = b.0 ∙ ap (λ z. m.Over e (state_of a z)) (sym b.1) }
    to_blocks went.Down u s f todo a o bare c st us n is b =
        let whole : Follows pending id after (clears (follows f) f todo o (state_of a v)) f a o v
        (record with_after { gone = record t.gone { frames = s.gone.frames } }) = record {
          is = b.0;
          standing = record {
            clock = record {
              past = c.past;
              next = c.next;
              results = c.results;
              signals = c.signals;
              timed = c.timed;
              fine =
                  c.fine;
              untold = c.untold;
            };
            stands = st;
            ups = us;
            still = refl;
            none = b.2;
          };
          bare = bare;
          after_is = refl;
          follows_is = is;
          id_is = refl;
        } in
        subst (λ z. Follows pending id after (clears (follows f) f todo o (state_of a v)) f a o z s) (sym b.1)
        (subst (λ z. Follows pending id after (clears (follows f) f todo o (state_of a v)) f a o v z) (sym b.3) whole)

    pub blocks_run : (r : Went) (u : View) (s : Tasks W) → ClearsAll r v with_after u s → RunsBlocks pending id after r v t u s
    blocks_run r u s all = record {
      runs = λ f todo a o bare c st us e un n is. to_blocks r u s f todo a o bare c st us n is (all.clears (follows f) f todo a o bare e);
    }
