-- Main begins.
use Rattle.std.proofs.Common.{◌≡◌, ℕ, zero, suc, ◌+◌, ◌-◌, ◌≤◌, ℤ, List, [], ◌∷◌, ◌++◌, map, None, option_map, refl, sym, ap, subst, ◌∙◌}
use Rattle.std.proofs.Common.{arith}
use Rattle.std.proofs.lemmas.List.{append-nil}
use Rattle.task_tree.specs.Tasks.{Task}
use Rattle.verse_code.specs.declared.codes.Func.{Func}
use Rattle.verse_value.specs.Val.{Val, int, array, vals}
use Rattle.verse_value.specs.View.{val_of}
use Rattle.verse_value.specs.declared.runs.Ending.TheVariants as ending
use Rattle.verse_meaning_state.specs.State.{State, begun, spending}
use Rattle.verse_code_machine.specs.Tasks.{World, world, Step, Next, Over, machine, life_from, root_named}
use Rattle.verse_code_machine.specs.Frames as frames
use Rattle.verse_code_machine.specs.Runs.{inputs_of, main_starts}
use Rattle.sim_clock.specs.declared.waits.Pending.{Pending}
use Rattle.vm_tasks_laws.specs.Slots.{held, Entry, no_parent, Seen}
use Rattle.vm_tasks_laws.specs.Roses.{Rose, empty, node}
use Rattle.vm_tasks_laws.specs.Standing.{none_dealt, one_dealt, none_shown, Stands}
use Rattle.vm_tasks_laws.specs.Clocks.{sleeping, Timed}
use Rattle.vm_frames.specs.Framed.{Framed}
use Rattle.vm_frames.specs.Calls.{entered}
use Rattle.vm_frames.specs.Machine.{frames_with}
use Rattle.vm_frames.proofs.Whole.{units_same}
use Rattle.vm_running.specs.Views.{View, Aside, state_of, memories}
use Rattle.vm_running.specs.Doings.{on_frame, going}
use Rattle.vm_running.specs.Comes.{done}
use Rattle.vm_tasks.specs.declared.slots.Slot.{Slot}
use Rattle.vm_tasks.specs.declared.slots.Root.TheVariants.{Main}
use Rattle.vm_tasks.specs.View.{slot_of}
use Rattle.vm_tasks.specs.Begun.{Begun, new_slot, role_under}
use Rattle.vm_scheduler.specs.declared.tasks.Tasks.{Tasks}
use Rattle.vm_scheduler.specs.declared.tasks.Went.TheVariants as went
use Rattle.vm_scheduler.specs.Frames.{frames_in}
use Rattle.vm_scheduler.specs.Ups.{ups_of, id_of, UpsAre, no_ups}
use Rattle.vm_scheduler.specs.Standing.{Tree, given_of, AllFine, Untold, Standing}
use Rattle.vm_scheduler.proofs.Running.{own_goes}
use Rattle.vm_wake.specs.Starts.{IsNew, Fresh, MainStarts}

-- the arguments of Main

pub no_inputs : (n : ℕ) (ns : List ℤ) → n ≤ 1 → (n ≡ 1 → ⊥) → inputs_of n ns ≡ []
no_inputs zero ns le d = refl
no_inputs (suc zero) ns le d = absurd (d refl)
no_inputs (suc (suc n)) ns le d = absurd (omega (arith, le))

pub one_input : (n : ℕ) (ns : List ℤ) (x : Val) → n ≡ 1 → x ≡ array (vals (map int ns)) → x ∷ [] ≡ inputs_of n ns
one_input n ns x is value = ap (λ z. z ∷ []) value ∙ ap (λ k. inputs_of k ns) (sym is)

-- nothing stands aside yet
abbrev nothing : Aside
nothing = record { before = record { bytes = 0; lines = 0 }; past = []; next = 0; results = []; signals = [] }

abbrev alone_world : World
alone_world = world [] [] [] (record { before = []; behind = [] })

abbrev at_clock : ℕ → ℕ → State → State
at_clock spent now s = record s { clock = record s.clock { spent = spent; now = now } }

state_begun : (v : View) → Fresh v → begun v.left ≡ state_of nothing v
state_begun v f =
    let cells = sym f.cells in
    let kept = sym f.kept in
    let spent = sym f.spent in
    let moment = sym f.moment in
    ap (λ z. record (begun v.left) { memory = record { store = z; trace = [] } }) cells ∙
    (ap (λ z. record (begun v.left) {
      memory =
          record { store = v.heap.cells; trace = map (λ (l : ℕ × List ℕ). record { moment = l.0; bytes = l.1 }) z };
    }) kept ∙
    (ap (λ n. at_clock n 0 (state_of nothing v)) spent ∙ ap (λ n. at_clock v.spent n (state_of nothing v)) moment))

module _ {W : Type 0} (pending : W → List Pending) where
  pub out_of_steps : (f : Func) (ns : List ℤ) (v : View) (t : Tasks W) → Fresh v → v.left ≡ 0 →
      MainStarts pending f ns (went.Over ending.Steps) v v t
  out_of_steps f ns v t fresh none = record {
    starts = record {
      aside = nothing;
      same = refl;
      is = ap (λ s. main_starts ns s f) (state_begun v fresh) ∙
          ap (λ n. spending n (state_of nothing v) (Over ending.Steps (state_of nothing v)) (begins f)) none;
    };
  }
    where
      begins : Func → State → Step
      begins f s = Next (machine (root_named s.clock.left None) alone_world s (life_from s.clock.left)
          (frames.locals_of f (inputs_of f.params ns)) [] f.entry [] [])

  module _ (f : Func) (ns : List ℤ) (v : View) (t : Tasks W) (args : List Val) (left id : ℕ) (tree : Tree) (fresh : Fresh v)
      (new : IsNew pending t) (less : v.left ≡ suc left) (inputs : args ≡ inputs_of f.params ns)
      (begun_one : Begun t.tree tree None id left Main) where
    abbrev main_view : View
    main_view = record v { frames = entered left f args []; left = left; spent = suc v.spent }

    abbrev main_tasks : Tasks W
    main_tasks = record t { tree = tree; id = id }

    abbrev main_task : Task (Slot (List Framed))
    main_task = record { number = id; parent = None; role = role_under None; item = new_slot left Main }

    abbrev entry : Entry
    entry = held id (root_named left None) None

    tree_is : tree ≡ main_task ∷ []
    tree_is =
        let a = begun_one.added in
        let whole : a.front ++ a.back ≡ [] = sym a.was ∙ new.tree in
        let last : a.back ≡ [] = a.behind in
        let first : a.front ≡ [] = sym (append-nil a.front) ∙ (ap (λ z. a.front ++ z) (sym last) ∙ whole) in
        a.is ∙ (ap (λ z. z ++ main_task ∷ a.back) first ∙ ap (λ z. main_task ∷ z) last)

    main_stands : Stands (slot_of frames_in) tree (map id_of (ups_of t.ups.items)) (entry ∷ []) alone_world
    main_stands =
        let c : Rose (Slot (List Framed)) = node main_task entry empty empty in
        let seen : Seen (slot_of frames_in) no_parent main_task entry =
        record { parent = refl; suited = refl; fits = tt; who = refl; shows = refl; armed = tt } in
        record {
          others = [];
          planted = record {
            current = c;
            roots = c ∷ [];
            dealt = one_dealt [] [] refl none_dealt;
            tasks_are = tree_is;
            good = (record { one = tt; most = left + 1; good = (seen, omega arith, tt, tt) }, tt);
            current_is = refl;
          };
          chain = (tt, tt);
          others_are = none_shown;
        }

    main_standing : Standing pending (entry ∷ []) nothing alone_world main_view main_tasks
    main_standing =
        let waits : sleeping (slot_of frames_in) tree ≡ [] = ap (λ z. sleeping (slot_of frames_in) z) tree_is in
        record {
          clock = record {
            past = (sym fresh.bytes, sym fresh.lines);
            next = sym new.next;
            results = sym (ap (λ z. map (λ o. option_map given_of o) z) new.results);
            signals = sym (ap (λ z. map val_of z) new.signals);
            timed = subst (λ ps. Timed (sleeping (slot_of frames_in) tree) ps (state_of nothing main_view)) (sym new.waits)
                (subst (λ xs. Timed xs [] (state_of nothing main_view)) (sym waits) (record {
                  each = none_dealt;
                  timed = tt;
                  rising = tt;
                  under_next = tt;
                  signals = tt;
                }));
            fine = subst (λ z. AllFine left z) (sym tree_is) (record { number = omega arith; since = omega arith; held = tt }, tt);
            untold = subst (λ z. Untold t.results.items z) (sym tree_is) (record { number = λ e. e; all = (tt, tt) });
          };
          stands = main_stands;
          ups = subst (λ us. UpsAre us []) (sym (ap (λ z. ups_of z) new.ups)) no_ups;
          still = new.after;
          none = new.frames;
        }

    main_is : main_starts ns (begun v.left) f ≡ done going nothing (root_named left None) alone_world main_view
    main_is =
        let ms : [] ≡ memories [] v.heap.copies v.trace.marks = sym (ap (λ c. memories [] c v.trace.marks) fresh.copies) in
        ap (λ s. main_starts ns s f) (state_begun v fresh) ∙
        (ap (λ n. spending n (state_of nothing v) (Over ending.Steps (state_of nothing v))
        (begins (frames.locals_of f (inputs_of f.params ns)))) less ∙
        (ap (λ ls. begins ls (state_of nothing main_view)) (ap (λ vs. vs ++ frames.units (f.locals - f.params)) (sym inputs) ∙
        ap (λ us. args ++ us) (sym (units_same (f.locals - f.params)))) ∙
        ap (λ ms. on_frame (frames_with (entered left f args []) ms) (state_of nothing main_view)
        (going (root_named left None) alone_world (state_of nothing main_view))) ms))
      where
        begins : List Val → State → Step
        begins ls s = Next (machine (root_named s.clock.left None) alone_world s (life_from s.clock.left) ls [] f.entry [] [])

    pub main_goes : MainStarts pending f ns went.On v main_view main_tasks
    main_goes =
        let most = fresh.left in
        let none = fresh.spent in
        record {
          starts = record {
            scene = record { aside = nothing; who = root_named left None; world = alone_world };
            same = refl;
            goes = own_goes pending (record { aside = nothing; who = root_named left None; world = alone_world }) main_view main_tasks
                main_standing (record { copies = fresh.copies; marks = fresh.marks; steps = omega (arith, less, most, none) })
                (λ e. absurd (cc)) refl refl;
            is = main_is;
          };
        }

    pub main_on : (gs : List Framed) (spent : ℕ) → gs ≡ entered left f args [] → spent ≡ v.spent + 1 →
        MainStarts pending f ns went.On v (record v { frames = gs; left = left; spent = spent }) main_tasks
    main_on gs spent e n =
        let k : spent ≡ suc v.spent = omega (arith, n) in
        subst (λ z. MainStarts pending f ns went.On v (record v { frames = z; left = left; spent = spent }) main_tasks) (sym e)
        (subst (λ z. MainStarts pending f ns went.On v (record v { frames = entered left f args []; left = left; spent = z }) main_tasks)
        (sym k) main_goes)
