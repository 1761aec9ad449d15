-- What follows where a task of the tree is over and has no children.
use Rattle.std.specs.Prelude.{◌≡◌, ℕ, Bool, true, false, List, [], ◌∷◌, Option, Some, None}
use Rattle.task_tree.specs.Tasks.{Task, task_at, with_item, HasNoChild}
use Rattle.verse_value.specs.Val.{Val}
use Rattle.verse_meaning_state.specs.State.{State, with_result}
use Rattle.verse_code_machine.specs.Tasks as m
use Rattle.verse_code_machine.specs.Tasks.{Role, root, part, Who, Part, Trees, World, world, onto}
use Rattle.verse_code_machine.specs.Tasks.{among}
use Rattle.verse_code_machine.specs.Ends.{with_did, joined, climbs, part_ends, root_ends, role_ends}
use Rattle.sim_clock.specs.declared.waits.Pending.{Pending}
use Rattle.vm_tasks_laws.specs.Slots.{by_machine, slept, held, arms_at, Shows}
use Rattle.vm_tasks_laws.specs.Standing.{Stands, Rests}
use Rattle.vm_tasks_laws.specs.Together.{passed}
use Rattle.vm_frames.specs.Framed.{Framed}
use Rattle.vm_running.specs.Views.{View, Aside, state_of}
use Rattle.vm_tasks.specs.declared.slots.Slot.{Slot}
use Rattle.vm_tasks.specs.View.{slot_of}
use Rattle.vm_tasks.specs.Ending.{Ended}
use Rattle.vm_scheduler.specs.declared.tasks.Up.{Up}
use Rattle.vm_scheduler.specs.declared.tasks.Tasks.{Tasks}
use Rattle.vm_scheduler.specs.declared.tasks.Went.{Went}
use Rattle.vm_scheduler.specs.Frames.{frames_in}
use Rattle.vm_scheduler.specs.Ups.{ups_of, id_of, UpsAre}
use Rattle.vm_scheduler.specs.Standing.{Tree, ids, Clocked, Standing, Bare}
use Rattle.vm_scheduler.specs.Meets.{Meets}

abbrev pub is_part : Role → Bool
is_part (root entry) = false
is_part part = true

-- the parent of a part that is gone, in the tree and among those behind
pub record Parent (tree : Tree) (id : ℕ) (w : Who) (xs ys : List m.Task) (trees : Trees) :
    Type 0 where
  pub task : Task (Slot (List Framed))
  pub earlier : List m.Task
  pub it : m.Task
  pub later : List m.Task
  pub at_it : task_at id tree ≡ Some task
  pub shows : Shows id (slot_of frames_in task.item).held (slept it)
  pub found : (x : Val) (s : State) →
      climbs w.up w.number x xs ys trees s ≡
      joined w.number x it.rest it (passed earlier xs) later trees s
  pub stays : Rests (slot_of frames_in) tree (among (onto (passed earlier xs) (it ∷ later)) trees)
  pub goes : (item : Slot (List Framed)) (x : Val) (gs : List Part) →
      slot_of frames_in item ≡ record (slot_of frames_in task.item) { held = by_machine } →
      arms_at it.rest ≡ Some gs → Stands (slot_of frames_in) (with_item id tree item) []
      (held id it.thread.who (Some (with_did w.number x gs)) ∷ [])
      (world (passed earlier xs) later [] trees)

module _ {W : Type 0} (pending : W → List Pending) where
  -- it stands in the tree still
  pub record Lone (a : Aside) (w : Who) (o : World) (v : View) (t : Tasks W) : Type 0 where
    pub standing : Standing pending (held t.id w None ∷ []) a o v t
    pub bare : Bare v
    pub childless : HasNoChild t.id t.tree

  pub record IsLonePart (v : View) (t : Tasks W) : Type 0 where
    pub aside : Aside
    pub who : Who
    pub world : World
    pub here : Lone aside who world v t
    pub role : who.role ≡ part

  pub record IsLoneRoot (v : View) (t : Tasks W) : Type 0 where
    pub aside : Aside
    pub who : Who
    pub entry : Option ℕ
    pub world : World
    pub here : Lone aside who world v t
    pub role : who.role ≡ root entry

  -- it is gone from the tree
  pub record Off (a : Aside) (w : Who) (o : World) (v : View) (t : Tasks W) : Type 0 where
    pub tree : Tree
    pub id : ℕ
    pub ended : Ended tree t.tree id
    pub stands : Stands (slot_of frames_in) tree (ids t) (held id w None ∷ []) o
    pub ups : UpsAre (ups_of t.ups.items) o.ups
    pub clock : Clocked pending a v t
    pub still : t.after ≡ None
    pub none : t.gone.frames.items ≡ []
    pub bare : Bare v

  pub record IsOffRoot (v : View) (t : Tasks W) : Type 0 where
    pub aside : Aside
    pub who : Who
    pub entry : Option ℕ
    pub world : World
    pub here : Off aside who world v t
    pub role : who.role ≡ root entry

  -- and the nearest above is taken off
  pub record Gone (up : Up) (a : Aside) (w : Who) (o : World) (v : View) (t : Tasks W) :
      Type 0 where
    pub tree : Tree
    pub id : ℕ
    pub ended : Ended tree t.tree id
    pub stands : Stands (slot_of frames_in) tree (id_of up ∷ ids t) (held id w None ∷ []) o
    pub ups : UpsAre (up ∷ ups_of t.ups.items) o.ups
    pub clock : Clocked pending a v t
    pub still : t.after ≡ None
    pub none : t.gone.frames.items ≡ []
    pub bare : Bare v

  pub record IsGone (up : Up) (v : View) (t : Tasks W) : Type 0 where
    pub aside : Aside
    pub who : Who
    pub world : World
    pub here : Gone up aside who world v t

  pub record IsGoneRoot (up : Up) (v : View) (t : Tasks W) : Type 0 where
    pub aside : Aside
    pub who : Who
    pub entry : Option ℕ
    pub world : World
    pub here : Gone up aside who world v t
    pub role : who.role ≡ root entry

  -- a part is gone from the tree, and none is above; its parent is this one
  pub record Joining (id number : ℕ) (a : Aside) (w : Who) (o : World) (v : View) (t : Tasks W) :
      Type 0 where
    pub parent : Parent t.tree id w o.pre o.post o.trees
    pub number_is : w.number ≡ number
    pub clock : Clocked pending a v t
    pub no_ups : t.ups.items ≡ []
    pub still : t.after ≡ None
    pub none : t.gone.frames.items ≡ []
    pub bare : Bare v

  pub record IsJoining (id number : ℕ) (v : View) (t : Tasks W) : Type 0 where
    pub aside : Aside
    pub who : Who
    pub world : World
    pub here : Joining id number aside who world v t

  -- an arm or a task behind is over with the value
  pub record PartOver (x : Val) (r : Went) (v : View) (t : Tasks W) (u : View) (s : Tasks W) :
      Type 0 where
    pub meets : (a : Aside) (w : Who) (o : World) → Lone a w o v t → w.role ≡ part →
        Meets pending (role_ends part w x o (state_of a v)) a.past r u s

  pub record PartGone (up : Up) (x : Val) (r : Went) (v : View) (t : Tasks W) (u : View)
      (s : Tasks W) : Type 0 where
    pub meets : (a : Aside) (w : Who) (o : World) → Gone up a w o v t →
        Meets pending (part_ends w.up w.number x o.pre o.post o.ups o.trees (state_of a v)) a.past r
        u s

  pub record Joined (id number : ℕ) (x : Val) (r : Went) (v : View) (t : Tasks W) (u : View)
      (s : Tasks W) : Type 0 where
    pub meets : (a : Aside) (w : Who) (o : World) → Joining id number a w o v t →
        Meets pending (climbs w.up w.number x o.pre o.post o.trees (state_of a v)) a.past r u s

  -- Main or a spawned task is over with the value
  pub record RootOver (x : Val) (r : Went) (v : View) (t : Tasks W) (u : View) (s : Tasks W) :
      Type 0 where
    pub meets : (a : Aside) (w : Who) (entry : Option ℕ) (o : World) → Lone a w o v t →
        w.role ≡ root entry → Meets pending
        (role_ends (root entry) w x o (with_result entry x (state_of a v))) a.past r u s

  pub record RootLeaves (r : Went) (v : View) (t : Tasks W) (u : View) (s : Tasks W) : Type 0 where
    pub meets : (a : Aside) (w : Who) (entry : Option ℕ) (o : World) → Off a w o v t →
        w.role ≡ root entry → Meets pending (root_ends o.pre o.post o.ups o.trees (state_of a v))
        a.past r u s

  pub record RootGone (up : Up) (r : Went) (v : View) (t : Tasks W) (u : View) (s : Tasks W) :
      Type 0 where
    pub meets : (a : Aside) (w : Who) (entry : Option ℕ) (o : World) → Gone up a w o v t →
        w.role ≡ root entry → Meets pending (root_ends o.pre o.post o.ups o.trees (state_of a v))
        a.past r u s
