-- Branches and groups: the forms that begin tasks, each in a frame of its own.
use Rattle.std.proofs.Common.{◌≡◌, ℕ, suc, ◌≤◌, ◌<◌, List, [], ◌∷◌, ◌++◌, length, Bool, true, refl, sym, ap, subst, arith}
use Rattle.verse_base.specs.declared.places.Place.{Place}
use Rattle.verse_tree.specs.Tree.{Tree, tree, Trees, no_trees, more_trees}
use Rattle.verse_tree.specs.Tree as t
use Rattle.verse_code.specs.declared.operations.Op.TheVariants as op
use Rattle.verse_value.specs.Val.{Val}
use Rattle.verse_meaning_state.specs.State.{stepped}
use Rattle.verse_meaning_state.specs.Turns.{Kind, sync, race, rush}
use Rattle.verse_meaning.specs.Residuals.{none, no_arms, part}
use Rattle.verse_meaning.specs.Outcomes.{World, world, branch_started, set_behind, outside}
use Rattle.verse_meaning.specs.Evaluating.{begins_scope, started, ev, scope_end}
use Rattle.verse_meaning.specs.Runs.{deeper}
use Rattle.verse_code_machine.specs.Tasks.{branching, thread, child_named}
use Rattle.verse_code_machine.specs.Frames.{fits, free}
use Rattle.verse_code_machine.specs.Acts.{groups, kind_of, after_arms}
use Rattle.lower_code.specs.Pieces.{Spot, Piece, past, next, one, arms_spot, ◌then◌}
use Rattle.lower_code.specs.Scopes.{Scope as Names}
use Rattle.lower_code.specs.declared.arounds.Around.{Around as Where}
use Rattle.lower_code.specs.Arounds.{fresh}
use Rattle.lower_code.specs.Lowering as low
use Rattle.lower_code.specs.Lowering.{piece, how_many, grouped}
use Rattle.lower_simulation.proofs.Claims.{Way, Setting, Ends, Ctx, Around, world_of, at, in_frame, frame_of, slots, Apart, Good, on}
use Rattle.lower_simulation.proofs.Claims.{Agrees, Here}
use Rattle.lower_simulation.proofs.Going as going
use Rattle.lower_simulation.proofs.Going.{agrees, trans, le_self}
use Rattle.lower_simulation.proofs.Contexts.{frame_static}
use Rattle.lower_simulation.proofs.Standing.{Stands, then_stand, op_stands, ahead_stand, group_stand}
use Rattle.lower_simulation.proofs.Widening.{jump_leads}
use Rattle.lower_simulation.proofs.Leading.{LeadsTo, does_leads, there_leads, spends_leads}
use Rattle.lower_simulation.proofs.Forms.{Static, EvLeads}
use Rattle.lower_simulation_tasks.proofs.Besides.{clear_child}
use Rattle.lower_simulation_tasks.proofs.Roles.{part_goes}
use Rattle.lower_simulation_tasks.proofs.Starts.{branched_goes}
use Rattle.lower_simulation_tasks.proofs.Groups.{ArmsLead, group_goes}
use Rattle.lower_simulation_tasks.proofs.Waits.{outside_leads}

-- a frame of its own for the child k of a task, with the names and locals that the task has
abbrev pub child_frame : Ctx → ℕ → Ctx
child_frame c k = in_frame c.env (slots c) (child_named c.who k) k []

-- in a frame of its own, with no failure context open, every place fits
pub loosened : {z : Setting} {ok : ℕ → Bool} {size : ℕ} {out : Way} {s e : Spot} {p : Piece} → Stands z ok size out s p e →
    Stands z (fits []) size out s p e
loosened h = record {
  ops = h.ops;
  places = h.places;
  texts = h.texts;
  fit = λ q i j. refl;
  room = h.room;
  deep = h.deep;
  ends = h.ends;
}

module _ (z : Setting) (differ : ℕ → ℕ → Bool) where
  -- what is to be shown of an arm: at every bound of the steps, since its number is the steps that are left
  abbrev pub ArmLeads : ℕ → Tree → Type 0
  ArmLeads top x = (k : ℕ) → k ≤ top → EvLeads z differ k x

  abbrev pub AllArms : ℕ → Trees → Type 0
  AllArms top no_trees = Unit {0}
  AllArms top (more_trees x xs) = ArmLeads top x × AllArms top xs

  -- an arm that begins as the child k
  begun : {top : ℕ} (x : Tree) → ArmLeads top x → {c : Ctx} {ss : Names} {a : Where} {out : Way} (s e : Spot) → Static top c ss out a →
      Stands z (fits []) c.size out s (piece z.program differ x ss fresh s) e → (k : ℕ) → k ≤ top → (M j : ℕ) → k ≤ M → (o : Around)
      (y : World) (ls : List Val) → Good k (child_named c.who k).path o c.held c.also c.size y.state ls →
      LeadsTo z j k (child_frame c k) o y.behind y.tasks (at (child_frame c k) o y.state ls [] s.at) (on e.at [])
      (ev z.program (deeper z.program M) x true c.env y)
  begun x hx {c} {ss} {a} {out} s e sc i k lk M j lM o y ls g =
      hx k lk ss fresh s e out true M j k (child_frame c k) o y ls [] i
      (frame_static out c.env (slots c) (child_named c.who k) k [] sc.fits sc.low sc.low_also) refl le_self lM refl g

  pub branch_leads : (top n : ℕ) (pl : Place) (x : Tree) → ArmLeads top x → EvLeads z differ top (tree n pl (t.Shape.branch x))
  unfolding begins_scope
  branch_leads top n pl x hx ss a s e out w M j i c o y ls st st' sc fw lt lM ab g =
      let f = piece z.program differ x ss fresh in
      let u = ahead_stand z s e op.Branch (f then one op.ArmEnd) st' in
      let q = past (next s) (f (next s)) in
      let r = then_stand z (next s) e f (one op.ArmEnd) u.inside in
      let fi = g.fine in
      let ap1 = fi.apart in
      let he : Here z.code q.at op.ArmEnd = record { is = (op_stands z r.1).is } in
      does_leads z u.begins (outside_leads z w y
      (λ y. begins_scope z.program (deeper z.program M) y (λ y. ev z.program (deeper z.program M) x true c.env y)
      (branch_started c.env)) _ fw
      (λ fr. spends_leads z y.state.clock.left y _
      (λ y. branch_started c.env (scope_end z.program (deeper z.program M) part y.behind
      (ev z.program (deeper z.program M) x true c.env (set_behind y none)))) (λ k eq. record {
        go = λ gl h.
            let ki : k ≤ i = omega (arith, eq, fi.steps) in
            let kq : k < o.own = omega (arith, eq, fi.low) in
            let kb : k < c.life.born = omega (arith, eq, fi.steps, lt, sc.born) in
            let up = branching (thread c.who (frame_of c ls st e.at) c.below) ∷ o.world.ups in
            let o' : Around = world_of o.world.pre o.world.post up o.world.trees k in
            let far : Apart (c.who.path ++ k ∷ []) o' = record {
              pre = clear_child c.who.path k o.own k o.world.pre kq ap1.pre;
              post = clear_child c.who.path k o.own k o.world.post kq ap1.post;
            } in
            let inside = ev z.program (deeper z.program M) x true c.env (world (stepped k y.state) none y.tasks) in
            (begun x hx (next s) q sc (loosened r.0) k (trans ki lt) M j (trans ki lM) o' (world (stepped k y.state) none y.tasks) ls
            (going.fresh (slots c) (agrees g) (record { steps = le_self; low = le_self; apart = far }))).go gl
            (part_goes z c.who k c.env (slots c) q.at he j k o.world.pre o.world.post up o.world.trees y.behind y.tasks gl far M
            (trans ki lM) inside
            (branched_goes z c e.at st ls o.own fr (agrees g) j i k o.world.pre o.world.post o.world.ups o.world.trees y.behind y.tasks gl
            ki kq kb ap1 (scope_end z.program (deeper z.program M) part y.behind inside) h));
      })))

  -- ---- groups

  spots_many : (ts : Trees) (ss : Names) (s : Spot) → length (low.arm_spots z.program differ ts ss s) ≡ how_many ts
  spots_many no_trees ss s = refl
  spots_many (more_trees x ts) ss s = ap suc (spots_many ts ss _)

  arms_lead : {top : ℕ} (kind : Kind) (pl : Place) (p : ℕ) (st ls : List Val) (q hi : ℕ) (ht : hi ≤ top) (lq : hi ≤ q) (ts : Trees) →
      AllArms top ts → {c : Ctx} {ss : Names} {a : Where} {out : Way} (lb : hi ≤ c.life.born)
      (fr : free c.handlers c.life.noted c.below ≡ true) (ag : Agrees (slots c) ls) (s e : Spot) → Static top c ss out a →
      Stands z (fits []) c.size out s (low.task_arms z.program differ ts ss s) e →
      ArmsLead z c kind pl p st ls q hi lq lb fr ag ts (low.arm_spots z.program differ ts ss s)
  arms_lead kind pl p st ls q hi ht lq no_trees hs lb fr ag s e sc i = tt
  arms_lead {top} kind pl p st ls q hi ht lq (more_trees x ts) hs {c} {ss} lb fr ag s e sc i =
      let f = piece z.program differ x ss fresh in
      let m = past s (f s) in
      let r = then_stand z s e (f then one op.ArmEnd) (low.task_arms z.program differ ts ss) i in
      let b = then_stand z s (past s ((f then one op.ArmEnd) s)) f (one op.ArmEnd) r.0 in (
        record {
          end = m.at;
          here = record { is = (op_stands z b.1).is };
          leads = λ j M u o tasks g uM uh fi eo h. (begun x hs.0 s m sc b.0 u.clock.left (omega (arith, uh, ht)) M j uM o
              (world u none tasks) ls (going.fresh (slots c) ag fi)).go g h;
        },
        arms_lead kind pl p st ls q hi ht lq ts hs.1 lb fr ag (past s ((f then one op.ArmEnd) s)) e sc r.1,
      )

  group_leads : (kind : Kind) (number : ℕ) → kind_of number ≡ kind → (top : ℕ) (pl : Place) (x : Tree) (xs : Trees) →
      AllArms top (more_trees x xs) → (ss : Names) (a : Where) (s e : Spot) (out : Way) (w : Bool) (M j n : ℕ) (c : Ctx) (o : Around)
      (y : World) (ls st : List Val) →
      Stands z (fits c.handlers) c.size out s (grouped number (how_many (more_trees x xs)) pl
      (low.arm_spots z.program differ (more_trees x xs) ss) (low.task_arms z.program differ (more_trees x xs) ss) s) e →
      Static top c ss out a → free c.handlers c.life.noted c.below ≡ w → n ≤ top → n ≤ M →
      Good n c.who.path o c.held c.also c.size y.state ls →
      LeadsTo z j n c o y.behind y.tasks (at c o y.state ls st s.at) (on e.at st)
      (outside w y (λ y. started z.program (deeper z.program M) kind pl (more_trees x xs) c.env no_arms y))
  group_leads kind number ek top pl x xs hs ss a s e out w M j n c o y ls st i sc fw lt lM g =
      let ts : Trees = more_trees x xs in
      let m = how_many ts in
      let b = arms_spot m s in
      let u = group_stand z s e number m pl (low.arm_spots z.program differ ts ss) (low.task_arms z.program differ ts ss)
      (spots_many ts ss b) i in
      let p : ℕ = after_arms (suc s.at) m in
      let es = low.arm_spots z.program differ ts ss b in
      let fi = g.fine in
      let lo : y.state.clock.left ≤ c.life.born = omega (arith, fi.steps, lt, sc.born) in
      jump_leads z c p e.at st _ u.jump (u.wide e.at (let q = u.order in omega (arith, q)) le_self)
      (does_leads z u.begins (outside_leads z w y (λ y. started z.program (deeper z.program M) kind pl ts c.env no_arms y) _ fw
      (λ fr. there_leads z y.state _ u.place (there_leads z y.state _ u.labelled (record {
        go = λ gl h. subst (λ k. Ends z (groups k pl es p c.who o.world y.state c.life ls st c.handlers c.below) gl) (sym ek)
            (group_goes z c kind pl p st ls o.own y.state.clock.left fi.low lo fr (agrees g) j M x xs _ _
            (arms_lead kind pl p st ls o.own y.state.clock.left (trans fi.steps lt) fi.low ts hs lo fr (agrees g) b _ sc (loosened u.arms))
            n o.world.pre o.world.post o.world.ups o.world.trees gl y le_self fi.steps (trans fi.steps lM) fi.apart h);
      })))))

  pub sync_leads : (top n : ℕ) (pl : Place) (x : Tree) (xs : Trees) → AllArms top (more_trees x xs) →
      EvLeads z differ top (tree n pl (t.Shape.sync (more_trees x xs)))
  sync_leads top n pl x xs hs ss a s e out w M j m c o y ls st i sc fw lt lM ab g =
      group_leads sync 0 refl top pl x xs hs ss a s e out w M j m c o y ls st i sc fw lt lM g

  pub race_leads : (top n : ℕ) (pl : Place) (x : Tree) (xs : Trees) → AllArms top (more_trees x xs) →
      EvLeads z differ top (tree n pl (t.Shape.race (more_trees x xs)))
  race_leads top n pl x xs hs ss a s e out w M j m c o y ls st i sc fw lt lM ab g =
      group_leads race 1 refl top pl x xs hs ss a s e out w M j m c o y ls st i sc fw lt lM g

  pub rush_leads : (top n : ℕ) (pl : Place) (x : Tree) (xs : Trees) → AllArms top (more_trees x xs) →
      EvLeads z differ top (tree n pl (t.Shape.rush (more_trees x xs)))
  rush_leads top n pl x xs hs ss a s e out w M j m c o y ls st i sc fw lt lM ab g =
      group_leads rush 2 refl top pl x xs hs ss a s e out w M j m c o y ls st i sc fw lt lM g
