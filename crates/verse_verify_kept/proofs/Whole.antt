-- A run of a code whose operations all keep what is kept is never stuck.
use Rattle.std.proofs.Common.{◌≡◌, ℕ, zero, suc, List, [], ◌∷◌, Option, Some, None, Bool, true, false, cond, nat_lt, refl, sym}
use Rattle.std.proofs.Common.{subst, arith, ◌-◌}
use Rattle.std.specs.Prelude.{ℤ, slice_get}
use Rattle.std.proofs.lemmas.Option.{none-some}
use Rattle.verse_code.specs.declared.codes.Func.{Func}
use Rattle.verse_code.specs.declared.codes.Code.{Code}
use Rattle.verse_code.specs.Validity.{Valid}
use Rattle.verse_value.specs.declared.runs.Ending.TheVariants as ending
use Rattle.verse_meaning_state.specs.State.{State, begun, spending, stepped, at_moment}
use Rattle.verse_meaning_state.specs.Waits.{Wait, Due, least}
use Rattle.verse_meaning_state.specs.Turns.{Stage, going, closed, broken, amiss, turn, turn_at, turns, run_of}
use Rattle.verse_code_machine.specs.Tasks.{machine, root_named, world, life_from, Machine, Step, Next, Over, Turn, tree_waits}
use Rattle.verse_code_machine.specs.Ends.{woken_in}
use Rattle.verse_code_machine.specs.Runs.{step, carried, room, Forest, stage_of, turn_taken, started, mach_after, mach}
use Rattle.verse_code_machine.specs.Laws.{IsWhole, IsOver, RunsEnd}
use Rattle.verse_sorts.specs.Typing.{Typing}
use Rattle.verse_verify_kept.specs.Notes.{FuncNote, Notes, parent_of}
use Rattle.verse_verify_kept.specs.Kept.{Giver, giver, All, Own, own, plain, cells_no}
use Rattle.verse_verify_kept.specs.Known.{Known}
use Rattle.verse_verify_kept.specs.Rules.{Begins}
use Rattle.verse_verify_kept.specs.Others.{main_is, ups_no, results_no, signals_no, tasks_no}
use Rattle.verse_verify_kept.proofs.Locals.{joined_are, units_are}
use Rattle.verse_verify_kept.proofs.Acts.{spends, giver_is}
use Rattle.verse_sorts.specs.Typing.{are_no}
use Rattle.verse_sorts.proofs.Fitting.{are_up, adds_itself}
use Rattle.verse_code_machine.specs.Frames.{on_there, locals_of}
use Rattle.verse_code_machine.specs.Runs.{main_starts, inputs_of}
use Rattle.verse_verify_kept.specs.Kept.{MachineFits, Runs_on}
use Rattle.verse_verify_kept.specs.Others.{World_is, ForestFits, trees_no}
use Rattle.verse_code_machine_parents.specs.Parents.{TreesRooted, MachineRooted, StepRooted, StageRooted}
use Rattle.verse_code_machine_parents.proofs.Leaving.{trees_less, one_less}
use Rattle.verse_code_machine_parents.proofs.Running.{operation_roots, woken_roots, main_roots, turn_roots, stage_roots, carried_roots}
use Rattle.verse_verify_kept.proofs.Going.{next, over, turned}
use Rattle.verse_verify_kept.proofs.Resting.{Fine_step}
use Rattle.verse_verify_kept.proofs.Waking.{woken_in_good, least_due, tree_waits_are, Dues}

abbrev pub nothing_yet : Typing
nothing_yet = record { cells = []; entries = []; waits = []; parts = λ i. None }

module _ (c : Code) (n : Notes) where
  -- every operation keeps what is kept, and is not stuck
  abbrev pub OperationKeeps : Type 0
  OperationKeeps = (m : Machine) → MachineFits c n (World_is c n) m → MachineRooted m → Fine_step c n (step c m)

  -- where a run may stand
  abbrev pub StageFits : Stage Forest → Type 0
  StageFits (going s tss) = ForestFits c n s tss
  StageFits (closed e s tss) = Runs_on c n e
  StageFits (broken e s) = Runs_on c n e
  StageFits (amiss s) = Unit {0}

  module _ (ok : Known c n) (keeps : OperationKeeps) where
    pub carried_good : (k : ℕ) (q : Step) → Fine_step c n q → StepRooted q → Fine_step c n (carried c k q)
    carried_good zero q a r = a
    carried_good (suc k) (Next m) (next a) r = carried_good k (step c m) (keeps m a r) (operation_roots c m r)
    carried_good (suc k) (Over e s) a r = a
    carried_good (suc k) (Turn s tss) a r = a

    stage_fits : (q : Step) → Fine_step c n q → StageFits (stage_of q)
    stage_fits (Next m) a = tt
    stage_fits (Over e s) (over a) = a
    stage_fits (Turn s tss) (turned a) = a

    turn_fits : (steps until : ℕ) (s : State) (tss : Forest) → ForestFits c n s tss → TreesRooted s.clock.left tss →
        StageFits (turn_taken c steps until s tss)
    turn_fits steps until s tss a r = by_waits (tree_waits tss) (least_due c n ok s a.clocked (tree_waits_are c n ok a.trees))
      where
        spent : (left : ℕ) (d : Due) → s.clock.left ≡ left → Dues c n ok a.typing (tree_waits tss) (Some d) → StageFits (spending left s
            (closed ending.Steps s tss) (λ s. stage_of (carried c (room c steps) (woken_in d.number d.given.value [] tss (at_moment
            d.given.moment s)))))
        spent zero d e w = tt
        spent (suc l) d e w =
            stage_fits _ (carried_good (room c steps) _
            (woken_in_good c n ok (at_moment d.given.moment (stepped l s)) d.number d.given.value [] tss w.1 trees_no a.trees w.0 a.store
            (λ i b h. omega (arith, e, a.fresh i b h)) a.clocked)
            (woken_roots d.number d.given.value (at_moment d.given.moment (stepped l s)) tss (trees_less tss (one_less e) r)))

        late : (b : Bool) (x y : Stage Forest) → StageFits x → StageFits y → StageFits (cond b x y)
        late true x y f g = f
        late false x y f g = g

        by_due : (d : Option Due) → Dues c n ok a.typing (tree_waits tss) d → StageFits (turn_at until d s tss (λ due s. stage_of (carried c
            (room c steps) (woken_in due.number due.given.value [] tss s))))
        by_due None w = tt
        by_due (Some d) w = late (nat_lt until d.given.moment) _ _ tt (spent s.clock.left d refl w)

        by_waits : (ws : List Wait) → Dues c n ok a.typing (tree_waits tss) (least s ws) → StageFits (turn until ws s tss (λ due s. stage_of
            (carried c (room c steps) (woken_in due.number due.given.value [] tss s))))
        by_waits [] w = tt
        by_waits (y ∷ ws) w = by_due (least s (y ∷ ws)) w

    turns_fit : (steps until k : ℕ) (g : Stage Forest) → StageFits g → StageRooted g → StageFits (turns (turn_taken c steps until) k g)
    turns_fit steps until zero g a r = a
    turns_fit steps until (suc k) (going s tss) a r =
        turns_fit steps until k (turn_taken c steps until s tss) (turn_fits steps until s tss a r)
        (turn_roots c steps until s tss (tree_waits tss) r)
    turns_fit steps until (suc k) (closed e s tss) a r = a
    turns_fit steps until (suc k) (broken e s) a r = a
    turns_fit steps until (suc k) (amiss s) a r = a

    -- Main takes the inputs, and does not fail
    pub record MainFits (fn : Func) (gn : FuncNote) : Type 0 where
      pub is_func : slice_get c.functions c.main ≡ Some fn
      pub is_noted : slice_get n.functions c.main ≡ Some gn
      pub sure : gn.may_fail ≡ false
      pub params : (ns : List ℤ) → All c n nothing_yet (inputs_of fn.params ns) gn.params

    pub main_good : {fn : Func} {gn : FuncNote} (ns : List ℤ) (steps : ℕ) → MainFits fn gn → Fine_step c n (main_starts ns (begun steps) fn)
    main_good {fn = fn} {gn = gn} ns steps h =
        spends c n (World_is c n) {k = (begun steps).clock.left} (begun steps) (λ q. Next (machine (root_named q.clock.left None) (world []
        [] [] (record { before = []; behind = [] })) q (life_from q.clock.left) (locals_of fn (inputs_of fn.params ns)) [] fn.entry [] []))
        (λ l left. next {m = machine (root_named l None) (world [] [] [] (record { before = []; behind = [] }))
        (stepped l (begun steps)) (life_from l) (locals_of fn (inputs_of fn.params ns)) [] fn.entry [] []} (record {
          typing = nothing_yet;
          point = first.point;
          locals = first.point.locals;
          ds = [];
          live = first.live;
          own = subst (Own c n fn.entry first.point first.point.locals) first.defers own;
          store = cells_no;
          fresh = λ i a e. elim (none-some _ e) [ ];
          stands = record {
            above = [];
            more = [];
            split = refl;
            locals = are_up (parent_of n) (joined_are (parent_of n) nothing_yet (h.params ns)
                (units_are (parent_of n) nothing_yet (fn.locals - fn.params))) first.locals;
            stack = subst (All c n nothing_yet []) (sym first.stack) are_no;
            beneath = plain (record {
              tries = first.tries;
              block = first.block;
              outer = first.outer;
              under = first.under;
            }) adds_itself (
              (no_fail, main_is whole),
              ups_no,
              record { results = results_no; signals = signals_no; waits = refl },
              record {
                pre_are = tasks_no;
                post_are = tasks_no;
                before_are = trees_no;
                behind_are = trees_no;
              },
            );
          };
        }))
      where
        first : Begins c n fn c.main gn
        first = ok.begins c.main fn gn h.is_func h.is_noted

        as_func : giver n first.point ≡ record { result = gn.result; part = false; may_fail = gn.may_fail; may_wait = gn.may_wait }
        as_func =
            giver_is n first.point gn first.arm (subst (λ f. slice_get n.functions f ≡ Some gn) (sym first.func) h.is_noted)

        no_fail : (giver n first.point).may_fail ≡ false
        no_fail = subst (λ (v : Giver). v.may_fail ≡ false) (sym as_func) h.sure

        whole : (giver n first.point).part ≡ false
        whole = subst (λ (v : Giver). v.part ≡ false) (sym as_func) refl

    main_stands : {fn : Func} {gn : FuncNote} (ns : List ℤ) (steps : ℕ) → MainFits fn gn →
        StepRooted (on_there (slice_get c.functions c.main) (begun steps) (λ f. main_starts ns (begun steps) f))
    main_stands {fn = fn} ns steps h =
        subst (λ m. StepRooted (on_there m (begun steps) (λ f. main_starts ns (begun steps) f))) (sym h.is_func) (main_roots ns steps fn)

    started_fits : {fn : Func} {gn : FuncNote} (ns : List ℤ) (steps : ℕ) → MainFits fn gn → StageFits (started c ns steps)
    started_fits {fn = fn} ns steps h =
        stage_fits _ (carried_good (room c steps) _ (subst (λ m. Fine_step c n (on_there m (begun steps) (λ f. main_starts ns (begun steps)
        f))) (sym h.is_func) (main_good ns steps h)) (main_stands ns steps h))

    -- a run that has come to its end
    never_stuck : (g : Stage Forest) → StageFits g → IsWhole g → IsOver g → Runs_on c n (run_of tree_waits g).ending
    never_stuck (going s tss) a whole end = elim end [ ]
    never_stuck (closed ending.Steps s tss) a whole end = tt
    never_stuck (closed ending.Done s tss) a whole end = tt
    never_stuck (closed ending.Waiting s tss) a whole end = tt
    never_stuck (closed ending.Until s tss) a whole end = tt
    never_stuck (closed (ending.Error k p) s tss) a whole end = tt
    never_stuck (closed ending.Stuck s tss) a whole end = elim a [ ]
    never_stuck (broken e s) a whole end = a
    never_stuck (amiss s) a whole end = elim whole [ ]

    pub mach_not_stuck : {fn : Func} {gn : FuncNote} → RunsEnd → Valid c → MainFits fn gn → (ns : List ℤ) (steps until : ℕ) →
        Runs_on c n (mach c ns steps until).ending
    mach_not_stuck ends valid main ns steps until =
        never_stuck (mach_after c ns steps until (suc steps))
        (turns_fit steps until (suc steps) (started c ns steps) (started_fits ns steps main)
        (stage_roots c _ (carried_roots c (room c steps) _ (main_stands ns steps main)))) ((ends c ns steps until valid).whole (suc steps))
        ((ends c ns steps until valid).over)
