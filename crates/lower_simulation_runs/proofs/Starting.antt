-- The run from Main.
use Rattle.std.proofs.Common.{◌≡◌, ℕ, zero, suc, List, [], Option, Some, None, true, refl, sym, ap, ◌∙◌, subst, arith}
use Rattle.verse_meaning.specs.Residuals as r
use Rattle.verse_meaning.specs.Residuals.{Arms, no_arms, gave, arms, arms_leaves}
use Rattle.std.specs.Prelude.{slice_get, length, ℤ}
use Rattle.verse_value.specs.declared.runs.Ending.{Ending}
use Rattle.verse_value.specs.declared.runs.Ending.TheVariants as ending
use Rattle.verse_meaning_state.specs.State.{State, begun, stepped, spending}
use Rattle.verse_meaning_state.specs.Waits.{Wait}
use Rattle.verse_meaning_state.specs.Turns.{Stage, going, closed, broken, amiss, turns, run, run_closed, run_of}
use Rattle.verse_code_machine.specs.Tasks.{world, Trees, Step, Next, Over, machine, life_from}
use Rattle.verse_code_machine.specs.Tasks.{root_named, tree_waits}
use Rattle.verse_code_machine.specs.Frames.{on_there, locals_of}
use Rattle.verse_code_machine.specs.Runs.{carried, room, stage_of, main_starts, mach_after, mach}
use Rattle.verse_code_machine.specs.Runs.{inputs_of as inputs_m}
use Rattle.verse_code_machine.specs.Laws.{IsWhole, RunsEnd}
use Rattle.verse_meaning.specs.Residuals.{Env, Role, part, body, root, Residual, called, Scope, scope, Scopes, none, also, and_then}
use Rattle.verse_meaning.specs.Residuals.{leaves, scope_leaves, behind_leaves, is_behind}
use Rattle.verse_meaning.specs.Outcomes.{world as scene}
use Rattle.verse_meaning.specs.Evaluating.{ev, scope_end}
use Rattle.verse_meaning.specs.Runs.{deeper, Forest, forest_leaves, came, entered, with_params, main_spends, main_found}
use Rattle.verse_meaning.specs.Runs.{main_bound, mean}
use Rattle.verse_meaning.specs.Runs.{turn_taken as taken_p, after as after_p, inputs_of as inputs_p}
use Rattle.verse_meaning.specs.Programs.{main_in}
use Rattle.verse_tree.specs.ItemTree.{FunTree}
use Rattle.verse_code.specs.declared.codes.Func.{Func}
use Rattle.verse_code.specs.Validity.{Valid}
use Rattle.lower_simulation.proofs.Claims.{Setting, Goal}
use Rattle.lower_simulation.specs.Seen.{seen_of, between, ended, Seen, broke_off}
use Rattle.lower_simulation.proofs.Claims.{Ends, world_of}
use Rattle.lower_simulation.proofs.Steps.{over}
use Rattle.lower_simulation.proofs.Going.{le_self}
use Rattle.lower_simulation_tasks.proofs.Roles.{root_goes}
use Rattle.verse_value.specs.Runs.{Run}
use Rattle.lower_simulation_runs.proofs.Runs.{all_runs, came_goes, ended_turn, take_m}
use Rattle.lower_simulation_runs.proofs.Entering.{BodyLeads}

-- what is seen of a stage settles its run
abbrev run_seen : Seen → Run
run_seen (between s ws) = run s ending.Stuck None
run_seen (ended x s ws) = run_closed x s (length ws)
run_seen (broke_off x s) = run s x None

run_is : {A : Type 0} (waits : A → List Wait) (g : Stage A) → run_of waits g ≡ run_seen (seen_of waits g)
run_is waits (going s a) = refl
run_is waits (closed x s a) = refl
run_is waits (broken x s) = refl
run_is waits (amiss s) = refl

-- the whole run, from Main's start: after k turns both sides are seen alike
module _ (z : Setting) (ns : List ℤ) (fn : FunTree) (fc : Func) (e : Env) (here_m : slice_get z.code.functions z.code.main ≡ Some fc)
    (here_p : main_in z.program.items ≡ Some fn) (same_inputs : inputs_m fc.params ns ≡ inputs_p fn.params ns)
    (ps : with_params fn.params (inputs_p fn.params ns) [] ≡ Some e) (bd : BodyLeads z z.steps fn.body fc e (inputs_p fn.params ns)) where
  no_trees : Trees
  no_trees = record { before = []; behind = [] }

  main_begins : (k : ℕ) → Ends z (main_starts ns (begun z.steps) fc)
      (record {
        turns = k;
        seen = seen_of forest_leaves (turns (taken_p z.program z.until) k
            (main_spends z.steps (begun z.steps) (λ s. came [] (entered z.program (deeper z.program s.clock.left) (r.root None) fn e true
            (scene s none [])))));
      })
  unfolding main_spends
  main_begins k = by z.steps refl
    where
      off_now : (x : Ending) (s : State) → broke_off x s ≡ seen_of forest_leaves (turns (taken_p z.program z.until) k (broken x s))
      off_now x s = at_k k
        where
          at_k : (k : ℕ) → broke_off x s ≡ seen_of forest_leaves (turns (taken_p z.program z.until) k (broken x s))
          at_k zero = refl
          at_k (suc k) = refl

      by : (n : ℕ) → n ≡ z.steps → Ends z (spending n (begun z.steps) (Over ending.Steps (begun z.steps))
          (λ s. Next (machine (root_named s.clock.left None) (world [] [] [] (record { before = []; behind = [] })) s
          (life_from s.clock.left) (locals_of fc (inputs_m fc.params ns)) [] fc.entry [] [])))
          (record {
            turns = k;
            seen = seen_of forest_leaves (turns (taken_p z.program z.until) k
                (main_spends n (begun z.steps) (λ s. came [] (entered z.program (deeper z.program s.clock.left) (r.root None) fn e true
                (scene s none [])))));
          })
      by zero eq = over _ (off_now ending.Steps (begun z.steps))
      by (suc n) eq =
          let s : State = stepped n (begun z.steps) in
          let g : Goal = record {
            turns = k;
            seen = seen_of forest_leaves
                (turns (taken_p z.program z.until) k (came [] (scope_end z.program (deeper z.program n) (r.root None) none
                (ev z.program (deeper z.program n) fn.body true e (scene s none [])))));
          } in
          subst (λ x. Ends z (Next (machine (root_named n None) (world [] [] [] (record { before = []; behind = [] })) s (life_from n)
          (locals_of fc x) [] fc.entry [] [])) (record {
            turns = k;
            seen = seen_of forest_leaves (turns (taken_p z.program z.until) k (came []
                (entered z.program (deeper z.program n) (r.root None) fn e true (scene s none []))));
          })) (sym same_inputs)
          (bd.leads k n true (root_named n None) [] (world_of [] [] [] (record { before = []; behind = [] }) n) s [] g
          (omega (arith, eq)) le_self refl (record { steps = le_self; low = le_self; apart = record { pre = tt; post = tt } })
          (root_goes z n None n e bd.frame bd.end (bd.returns n) k n [] [] [] (record { before = []; behind = [] }) none [] g
          (record { pre = tt; post = tt }) n le_self (ev z.program (deeper z.program n) fn.body true e (scene s none []))
          (came_goes z k (all_runs z k) n n None [] [] (record { before = []; behind = [] }) tt tt
          (scope_end z.program (deeper z.program n) (r.root None) none
          (ev z.program (deeper z.program n) fn.body true e (scene s none []))))))

  pub seen_alike : ((i : ℕ) → IsWhole (mach_after z.code ns z.steps z.until i)) → (k : ℕ) →
      seen_of tree_waits (mach_after z.code ns z.steps z.until k) ≡ seen_of forest_leaves (after_p z.program ns z.steps z.until k)
  unfolding main_found main_bound
  seen_alike whole k =
      let start_m : Option Func → Step = λ x. on_there x (begun z.steps) (λ f. main_starts ns (begun z.steps) f) in
      let q : Step = main_starts ns (begun z.steps) fc in
      let gp : Stage Forest = main_spends z.steps (begun z.steps)
      (λ s. came [] (entered z.program (deeper z.program s.clock.left) (r.root None) fn e true (scene s none []))) in
      let same : start_m (slice_get z.code.functions z.code.main) ≡ q = ap start_m here_m in
      subst (λ x. seen_of tree_waits (mach_after z.code ns z.steps z.until k) ≡ seen_of forest_leaves
      (turns (taken_p z.program z.until) k (main_found x (begun z.steps)
      (λ f. main_bound (with_params f.params (inputs_p f.params ns) []) (begun z.steps) (λ e.
      main_spends z.steps (begun z.steps) (λ s. came [] (entered z.program (deeper z.program s.clock.left) (r.root None) f e true
      (scene s none [])))))))) (sym here_p)
      (subst (λ x. seen_of tree_waits (mach_after z.code ns z.steps z.until k) ≡ seen_of forest_leaves
      (turns (taken_p z.program z.until) k (main_bound x (begun z.steps)
      (λ e. main_spends z.steps (begun z.steps) (λ s. came []
      (entered z.program (deeper z.program s.clock.left) (r.root None) fn e true (scene s none []))))))) (sym ps)
      (subst (λ x. seen_of tree_waits (turns (take_m z) k (stage_of (carried z.code (room z.code z.steps) x))) ≡ seen_of forest_leaves
      (turns (taken_p z.program z.until) k gp)) (sym same)
      (ended_turn z k gp q (main_begins k) (subst (λ x. (i : ℕ) →
      IsWhole (turns (take_m z) i (stage_of (carried z.code (room z.code z.steps) x)))) same whole))))

  pub mach_is_mean : ((i : ℕ) → IsWhole (mach_after z.code ns z.steps z.until i)) → mach z.code ns z.steps z.until ≡
      mean z.program ns z.steps z.until
  mach_is_mean whole = run_is tree_waits (mach_after z.code ns z.steps z.until (suc z.steps)) ∙
      ap run_seen (seen_alike whole (suc z.steps)) ∙ sym (run_is forest_leaves (after_p z.program ns z.steps z.until (suc z.steps)))

  -- with the law that the runs of a valid code end
  pub runs_alike : RunsEnd → Valid z.code → (k : ℕ) → seen_of tree_waits (mach_after z.code ns z.steps z.until k) ≡
      seen_of forest_leaves (after_p z.program ns z.steps z.until k)
  runs_alike law valid k = let ends_so = law z.code ns z.steps z.until valid in seen_alike ends_so.whole k

  pub runs_same : RunsEnd → Valid z.code → mach z.code ns z.steps z.until ≡ mean z.program ns z.steps z.until
  runs_same law valid = let ends_so = law z.code ns z.steps z.until valid in mach_is_mean ends_so.whole
