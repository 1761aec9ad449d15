-- A whole program: its run is seen alike in its meaning and in its code.
use Rattle.std.proofs.Common.{◌≡◌, ℕ, zero, suc, ◌≤◌, List, [], ◌∷◌, length, Some, None, Bool, refl, arith}
use Rattle.std.specs.Prelude.{ℤ, slice_get}
use Rattle.verse_tree.specs.PostOrder.{items_order}
use Rattle.verse_tree.specs.ItemTree.{FunTree, ParamTree}
use Rattle.verse_code.specs.declared.codes.Func.{Func}
use Rattle.verse_code.specs.Validity.{Valid}
use Rattle.verse_value.specs.Val.{Val}
use Rattle.verse_meaning.specs.Programs.{Program}
use Rattle.verse_meaning.specs.Residuals.{Env}
use Rattle.verse_meaning.specs.Runs.{forest_leaves, mean, with_params}
use Rattle.verse_meaning.specs.Runs as meaning
use Rattle.verse_code_machine.specs.Tasks.{tree_waits}
use Rattle.verse_code_machine.specs.Runs.{mach_after, mach}
use Rattle.verse_code_machine.specs.Runs as machine
use Rattle.verse_code_machine.specs.Laws.{RunsEnd}
use Rattle.lower_code.specs.Programs.{code_of}
use Rattle.lower_bounds.specs.Programs.{HasMain}
use Rattle.lower_bounds.specs.Laws.{CodeIsValid}
use Rattle.lower_bounds.proofs.Bodies.{all_each}
use Rattle.lower_simulation.proofs.Claims.{Setting}
use Rattle.lower_simulation.specs.Seen.{seen_of}
use Rattle.lower_simulation_runs.specs.Programs.{NodeStands, CanBeFollowed}
use Rattle.lower_simulation_runs.specs.Laws.{CodeMeansTheSame, TurnsAreTheSame}
use Rattle.lower_simulation_runs.proofs.Entering.{BodyLeads}
use Rattle.lower_simulation_runs.proofs.Starting.{runs_alike, runs_same}
use Rattle.lower_simulation_runs.proofs.Binding.{call_bound, can_bind, params_many}
use Rattle.lower_simulation_runs.proofs.Standings.{setting}
use Rattle.lower_simulation_runs.proofs.Placing.{FunctionsPlaced, AllStand, tables_hold, all_stand, names_of}
use Rattle.lower_simulation_runs.proofs.Numbering.{functions_placed}
use Rattle.lower_simulation_runs.proofs.Fitting.{Fit, bodies_fit}
use Rattle.lower_simulation_runs.proofs.Forms.{forms_lead}
use Rattle.lower_simulation_runs.proofs.Bodies.{FormsLead, claims, body_leads}

same_inputs : (xs : List ParamTree) (n : ℕ) (ns : List ℤ) → n ≡ length xs → machine.inputs_of n ns ≡ meaning.inputs_of xs ns
same_inputs [] zero ns h = refl
same_inputs [] (suc n) ns h = absurd (omega (arith, h))
same_inputs (x ∷ xs) zero ns h = absurd (omega (arith, h))
same_inputs (x ∷ xs) (suc n) ns h = refl

inputs_many : (xs : List ParamTree) (ns : List ℤ) → length xs ≤ 1 → length (meaning.inputs_of xs ns) ≡ length xs
inputs_many [] ns h = refl
inputs_many (x ∷ xs) ns h = omega (arith, h)

module _ (p : Program) (differ : ℕ → ℕ → Bool) (files steps until : ℕ) (can : CanBeFollowed p files) (ends : RunsEnd) (valid : CodeIsValid)
    (ns : List ℤ) where
  abbrev z : Setting
  z = setting p differ files steps until

  placed : FunctionsPlaced p
  placed = functions_placed p can.lowered.tables can.numbers

  stand : AllStand z differ (Fit p)
  stand = all_stand p differ files steps until placed (Fit p)
      (bodies_fit p p.items (all_each (NodeStands p) (items_order p.items) can.nodes))

  forms : FormsLead z differ (Fit p)
  forms = forms_lead z differ (tables_hold p differ files steps until placed)

  main : HasMain p
  main = can.lowered.main

  code_valid : Valid (code_of p differ files)
  code_valid = valid p differ files can.lowered

  -- what is known of Main, with its inputs
  record Begins : Type 0 where
    func : Func
    env : Env
    is : slice_get z.code.functions z.code.main ≡ Some func
    inputs : machine.inputs_of func.params ns ≡ meaning.inputs_of main.0.params ns
    bound : with_params main.0.params (meaning.inputs_of main.0.params ns) [] ≡ Some env
    body : BodyLeads z steps main.0.body func env (meaning.inputs_of main.0.params ns)

  begins : Begins
  begins =
      let fn : FunTree = main.0 in
      let m = stand.main fn main.1 in
      let vs : List Val = meaning.inputs_of fn.params ns in
      let many : length vs ≡ length fn.params = inputs_many fn.params ns main.2 in
      let e = can_bind fn.params vs [] many in
      let pm = params_many fn.params [] in
      let pa = m.2.params in
      record {
        func = m.0;
        env = e.0;
        is = m.1;
        inputs = same_inputs fn.params m.0.params ns (omega (arith, pm, pa));
        bound = e.1;
        body = body_leads z differ steps fn.body m.0 (names_of fn None) e.0 vs
            (λ t le. forms t (claims z differ (Fit p) forms stand t) fn.body m.3) m.2 (call_bound None fn.params vs e.0 m.0 e.1)
            (omega (arith, many, pm, pa));
      }

  -- after each number of turns the same is seen of both
  pub whole_alike : (k : ℕ) → seen_of tree_waits (mach_after (code_of p differ files) ns steps until k) ≡
      seen_of forest_leaves (meaning.after p ns steps until k)
  whole_alike k = let b = begins in
      runs_alike z ns main.0 b.func b.env b.is main.1 b.inputs b.bound b.body ends code_valid k

  -- and so they come to the same
  pub whole_same : mach (code_of p differ files) ns steps until ≡ mean p ns steps until
  whole_same = let b = begins in
      runs_same z ns main.0 b.func b.env b.is main.1 b.inputs b.bound b.body ends code_valid

pub code_means_the_same : RunsEnd → CodeIsValid → CodeMeansTheSame
code_means_the_same ends valid p differ files can ns steps until = whole_same p differ files steps until can ends valid ns

pub turns_are_the_same : RunsEnd → CodeIsValid → TurnsAreTheSame
turns_are_the_same ends valid p differ files can ns steps until k = whole_alike p differ files steps until can ends valid ns k
