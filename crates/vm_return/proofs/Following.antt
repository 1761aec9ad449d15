-- What follows where tasks are cancelled.
use Rattle.std.proofs.Common.{◌≡◌, ◌≢◌, ◌≤◌, ◌+◌, ℕ, Result, Ok, Err, IfOk, List, [], ◌∷◌, Option, Some, None, refl, sym, ap, subst, ◌∙◌}
use Rattle.task_tree.specs.Tasks.{HasNoChild}
use Rattle.verse_value.specs.View.{val_of}
use Rattle.verse_value.specs.declared.values.Value.{Value}
use Rattle.verse_code_machine.specs.Tasks as m
use Rattle.verse_code_machine.specs.Tasks.{root, part, Who, World, resuming, closing, finishing}
use Rattle.verse_code_machine.specs.Cancelling.{clears}
use Rattle.verse_code_machine.specs.Ends.{follows, role_ends}
use Rattle.sim_clock.specs.declared.waits.Pending.{Pending}
use Rattle.vm_tasks_laws.specs.Slots.{held}
use Rattle.vm_tasks_laws.specs.Standing.{who_after}
use Rattle.vm_frames.specs.Framed.{Framed}
use Rattle.vm_running.specs.Views.{View, Aside, state_of}
use Rattle.vm_scheduler.specs.declared.tasks.After.{After}
use Rattle.vm_scheduler.specs.declared.tasks.After.TheVariants.{Resuming, Closing, Finishing}
use Rattle.vm_scheduler.specs.declared.tasks.Tasks.{Tasks}
use Rattle.vm_scheduler.specs.declared.tasks.Went.{Went}
use Rattle.vm_scheduler.specs.declared.tasks.Went.TheVariants as went
use Rattle.vm_scheduler.specs.Frames.{threaded, Suspended, AllUnguarded}
use Rattle.vm_scheduler.specs.Ups.{IsAfter, resuming_after, closing_after, finishing_after}
use Rattle.vm_scheduler.specs.Standing.{Tree, Standing}
use Rattle.vm_scheduler.specs.Meets.{Meets}
use Rattle.vm_scheduler.specs.Moving.{Resumes}
use Rattle.vm_scheduler.proofs.Running.{on_meets}
use Rattle.vm_cancel.specs.Cancels.{Follows as KeepsTo, BlocksTo, RunsBlocks}
use Rattle.vm_complete.specs.Overs.{Lone, IsLonePart, IsLoneRoot, PartOver, RootOver}
use Rattle.vm_return.specs.Follows.{AtEnd, IsAtEnd, Follows, Cleared, IsCleared, Unwinds}

-- which of the three it is

abbrev frames_in : List Framed → After → List Framed
frames_in fs (Resuming gs x) = gs
frames_in fs (Closing x) = fs
frames_in fs (Finishing x) = fs

abbrev value_in : After → Value
value_in (Resuming gs x) = x
value_in (Closing x) = x
value_in (Finishing x) = x

abbrev or_this : After → Option After → After
or_this x None = x
or_this x (Some y) = y

item_of : (x y : After) → Some x ≡ Some y → x ≡ y
item_of x y e = ap (λ o. or_this x o) e

record IsResuming (fs : List Framed) (x : Value) (f : m.After) : Type 0 where
  who : Who
  is : f ≡ resuming (threaded who fs) (val_of x)
  suspended : Suspended who.number fs

record IsClosing (tree : Tree) (id : ℕ) (x : Value) (f : m.After) : Type 0 where
  who : Who
  is : f ≡ closing who (val_of x)
  role : who.role ≡ part
  childless : HasNoChild id tree

record IsFinishing (tree : Tree) (id : ℕ) (x : Value) (f : m.After) : Type 0 where
  who : Who
  entry : Option ℕ
  is : f ≡ finishing who entry (val_of x)
  role : who.role ≡ root entry
  childless : HasNoChild id tree

is_resuming : (tree : Tree) (id : ℕ) (after : After) (f : m.After) (fs : List Framed) (x : Value) → IsAfter tree id after f →
    after ≡ Resuming fs x → IsResuming fs x f
is_resuming tree id after f fs x (resuming_after gs y w s) e =
    let frames : gs ≡ fs = ap (λ a. frames_in fs a) e in
    let value : y ≡ x = ap (λ a. value_in a) e in
    record {
      who = w;
      is = ap (λ z. resuming (threaded w z) (val_of y)) frames ∙
          ap (λ z. resuming (threaded w fs) (val_of z)) value;
      suspended = subst (λ z. Suspended w.number z) frames s;
    }
is_resuming tree id after f fs x (closing_after y w r n) e = absurd (cc)
is_resuming tree id after f fs x (finishing_after y w n r k) e = absurd (cc)

is_closing : (tree : Tree) (id : ℕ) (after : After) (f : m.After) (x : Value) → IsAfter tree id after f → after ≡ Closing x →
    IsClosing tree id x f
is_closing tree id after f x (resuming_after gs y w s) e = absurd (cc)
is_closing tree id after f x (closing_after y w r n) e =
    let value : y ≡ x = ap (λ a. value_in a) e in record { who = w; is = ap (λ z. closing w (val_of z)) value; role = r; childless = n }
is_closing tree id after f x (finishing_after y w n r k) e = absurd (cc)

is_finishing : (tree : Tree) (id : ℕ) (after : After) (f : m.After) (x : Value) → IsAfter tree id after f → after ≡ Finishing x →
    IsFinishing tree id x f
is_finishing tree id after f x (resuming_after gs y w s) e = absurd (cc)
is_finishing tree id after f x (closing_after y w r n) e = absurd (cc)
is_finishing tree id after f x (finishing_after y w n r k) e =
    let value : y ≡ x = ap (λ a. value_in a) e in
    record { who = w; entry = n; is = ap (λ z. finishing w n (val_of z)) value; role = r; childless = k }

module _ {W : Type 0} (pending : W → List Pending) where
  after_of : (f : m.After) (a : Aside) (o : World) (v : View) (t : Tasks W) (after : After) (h : AtEnd pending f a o v t) →
      t.after ≡ Some after → h.after ≡ after
  after_of f a o v t after h e = item_of h.after after (sym h.after_is ∙ e)

  pub never_none : (v : View) (t : Tasks W) → IsAtEnd pending v t → t.after ≡ None → ⊥
  never_none v t h e = let some : None ≡ Some h.here.after = sym e ∙ h.here.after_is in absurd (cc)

  -- a task goes on

  pub frames_some : (fs : List Framed) (x : Value) (v : View) (t : Tasks W) → t.after ≡ Some (Resuming fs x) → IsAtEnd pending v t → fs ≢ []
  frames_some fs x v t e h = (is_resuming t.tree t.id h.here.after h.follows fs x h.here.follows_is
      (after_of h.follows h.aside h.world v t (Resuming fs x) h.here e)).suspended.unguarded.some

  pub follows_resuming : {E : Type 0} (d : Result Went E) (fs : List Framed) (x : Value) (v u : View) (t y s : Tasks W) →
      t.after ≡ Some (Resuming fs x) → y ≡ record t { after = None } → IfOk d (λ r. Resumes pending t.id fs (val_of x) r v y u s) →
      IfOk d (λ r. Follows pending r v t u s)
  follows_resuming (Err e) fs x v u t y s was is h = tt
  follows_resuming (Ok r) fs x v u t y s was is h = record {
    meets = λ f a o at.
        let k = is_resuming t.tree t.id at.after f fs x at.follows_is (after_of f a o v t (Resuming fs x) at was) in
        let st : Standing pending (held t.id k.who None ∷ []) a o v y =
        subst (λ z. Standing pending (held t.id k.who None ∷ []) a o v z) (sym is)
        (subst (λ z. Standing pending (held t.id (who_after z) None ∷ []) a o v (record t { after = None })) k.is at.standing) in
        subst (λ z. Meets pending (follows z o (state_of a v)) a.past r u s) (sym k.is)
        (on_meets pending _ a.past r u s (h.resumes a k.who o st at.bare k.suspended));
  }

  -- a part is over

  lone_part : (x : Value) (f : m.After) (a : Aside) (o : World) (v : View) (t y : Tasks W) → t.after ≡ Some (Closing x) →
      y ≡ record t { after = None } → (h : AtEnd pending f a o v t) →
      (w : Who) × (f ≡ closing w (val_of x)) × (w.role ≡ part) × Lone pending a w o v y
  lone_part x f a o v t y was is h =
      let k = is_closing t.tree t.id h.after f x h.follows_is (after_of f a o v t (Closing x) h was) in (
        k.who,
        k.is,
        k.role,
        subst (λ z. Lone pending a k.who o v z) (sym is)
            (record {
              standing = subst (λ z. Standing pending (held t.id (who_after z) None ∷ []) a o v (record t { after = None })) k.is
                  h.standing;
              bare = h.bare;
              childless = k.childless;
            }),
      )

  pub part_at_end : (x : Value) (v : View) (t y : Tasks W) → t.after ≡ Some (Closing x) → y ≡ record t { after = None } →
      IsAtEnd pending v t → IsLonePart pending v y
  part_at_end x v t y was is h = let k = lone_part x h.follows h.aside h.world v t y was is h.here in
      record { aside = h.aside; who = k.0; world = h.world; here = k.3; role = k.2 }

  pub follows_closing : {E : Type 0} (d : Result Went E) (x : Value) (v u : View) (t y s : Tasks W) → t.after ≡ Some (Closing x) →
      y ≡ record t { after = None } → IfOk d (λ r. PartOver pending (val_of x) r v y u s) → IfOk d (λ r. Follows pending r v t u s)
  follows_closing (Err e) x v u t y s was is h = tt
  follows_closing (Ok r) x v u t y s was is h = record {
    meets = λ f a o at.
        let k = lone_part x f a o v t y was is at in
        subst (λ z. Meets pending (follows z o (state_of a v)) a.past r u s) (sym k.1)
        (subst (λ z. Meets pending (role_ends z k.0 (val_of x) o (state_of a v)) a.past r u s) (sym k.2) (h.meets a k.0 o k.3 k.2));
  }

  -- a root is over

  record RootAt (x : Value) (f : m.After) (a : Aside) (o : World) (v : View) (y : Tasks W) : Type 0 where
    who : Who
    entry : Option ℕ
    is : f ≡ finishing who entry (val_of x)
    role : who.role ≡ root entry
    lone : Lone pending a who o v y

  lone_root : (x : Value) (f : m.After) (a : Aside) (o : World) (v : View) (t y : Tasks W) → t.after ≡ Some (Finishing x) →
      y ≡ record t { after = None } → AtEnd pending f a o v t → RootAt x f a o v y
  lone_root x f a o v t y was is h =
      let k = is_finishing t.tree t.id h.after f x h.follows_is (after_of f a o v t (Finishing x) h was) in
      record {
        who = k.who;
        entry = k.entry;
        is = k.is;
        role = k.role;
        lone = subst (λ z. Lone pending a k.who o v z) (sym is)
            (record {
              standing = subst (λ z. Standing pending (held t.id (who_after z) None ∷ []) a o v (record t { after = None })) k.is
                  h.standing;
              bare = h.bare;
              childless = k.childless;
            });
      }

  pub root_at_end : (x : Value) (v : View) (t y : Tasks W) → t.after ≡ Some (Finishing x) → y ≡ record t { after = None } →
      IsAtEnd pending v t → IsLoneRoot pending v y
  root_at_end x v t y was is h =
      let k = lone_root x h.follows h.aside h.world v t y was is h.here in
      record { aside = h.aside; who = k.who; entry = k.entry; world = h.world; here = k.lone; role = k.role }

  pub follows_finishing : {E : Type 0} (d : Result Went E) (x : Value) (v u : View) (t y s : Tasks W) → t.after ≡ Some (Finishing x) →
      y ≡ record t { after = None } → IfOk d (λ r. RootOver pending (val_of x) r v y u s) → IfOk d (λ r. Follows pending r v t u s)
  follows_finishing (Err e) x v u t y s was is h = tt
  follows_finishing (Ok r) x v u t y s was is h = record {
    meets = λ f a o at.
        let k = lone_root x f a o v t y was is at in
        subst (λ z. Meets pending (follows z o (state_of a v)) a.past r u s) (sym k.is) (h.meets a k.who k.entry o k.lone k.role);
  }

  -- deferred blocks

  pub cleared_unguarded : (id : ℕ) (after : After) (v : View) (t : Tasks W) → IsCleared pending id after v t →
      AllUnguarded t.gone.frames.items
  cleared_unguarded id after v t h = h.here.unguarded

  pub cleared_steps : (id : ℕ) (after : After) (v : View) (t : Tasks W) → IsCleared pending id after v t →
      v.left + v.spent ≤ 18446744073709551615
  cleared_steps id after v t h = h.here.bare.steps

  to_blocks : (id : ℕ) (after : After) (r : Went) (f : m.After) (todo : List m.Task) (a : Aside) (o : World) (v u : View) (t s : Tasks W) →
      RunsBlocks pending id after r v t u s → Cleared pending id after f todo a o v t →
      BlocksTo pending id after (clears (follows f) f todo o (state_of a v)) f r a o v t u s
  to_blocks id after r f todo a o v u t s b c =
      b.runs f todo a o c.bare c.clock c.stands c.ups c.todo_is c.unguarded c.nothing_under c.follows_is

  ends_at : (id : ℕ) (after : After) (q : m.Step) (f : m.After) (a : Aside) (o : World) (u : View) (s : Tasks W) →
      KeepsTo pending id after q f a o u s → AtEnd pending f a o u s
  ends_at id after q f a o u s k = record {
    after = after;
    after_is = k.after_is;
    follows_is = subst (λ n. IsAfter s.tree n after f) (sym k.id_is) k.follows_is;
    standing = subst (λ n. Standing pending (held n (who_after f) None ∷ []) a o u (record s { after = None })) (sym k.id_is) k.standing;
    bare = k.bare;
  }

  pub ended : (id : ℕ) (after : After) (r : Went) (v u : View) (t s : Tasks W) → r ≡ went.Down → RunsBlocks pending id after r v t u s →
      IsCleared pending id after v t → IsAtEnd pending u s
  ended id after r v u t s down b h = record {
    follows = h.follows;
    aside = h.aside;
    world = h.world;
    here = ends_at id after _ h.follows h.aside h.world u s
        (to_blocks id after went.Down h.follows h.todo h.aside h.world v u t s (subst (λ z. RunsBlocks pending id after z v t u s) down b)
        h.here);
  }

  pub blocks_run : (id : ℕ) (after : After) (r : Went) (v u : View) (t s : Tasks W) → (r ≡ went.Down → ⊥) →
      RunsBlocks pending id after r v t u s → Unwinds pending id after r v t u s
  blocks_run id after went.On v u t s not b = record { meets = λ f todo a o c. to_blocks id after went.On f todo a o v u t s b c }
  blocks_run id after (went.Over e) v u t s not b =
      record { meets = λ f todo a o c. to_blocks id after (went.Over e) f todo a o v u t s b c }
  blocks_run id after went.Down v u t s not b = absurd (not refl)

  pub then_follows : {E : Type 0} (d : Result Went E) (id : ℕ) (after : After) (r : Went) (v u u2 : View) (t s s2 : Tasks W) →
      r ≡ went.Down → RunsBlocks pending id after r v t u s → IfOk d (λ q. Follows pending q u s u2 s2) →
      IfOk d (λ q. Unwinds pending id after q v t u2 s2)
  then_follows (Err e) id after r v u u2 t s s2 down b h = tt
  then_follows (Ok q) id after r v u u2 t s s2 down b h = record {
    meets = λ f todo a o c.
        let k = to_blocks id after went.Down f todo a o v u t s (subst (λ z. RunsBlocks pending id after z v t u s) down b) c in
        subst (λ z. Meets pending z a.past q u2 s2) (sym k.is) (h.meets f a o (ends_at id after _ f a o u s k));
  }
