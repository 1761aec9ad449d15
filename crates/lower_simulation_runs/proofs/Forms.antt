-- Every form: what a tree means, its code does.
use Rattle.std.proofs.Common.{ℕ, ◌≤◌, Bool}
use Rattle.verse_base.specs.declared.places.Place.{Place}
use Rattle.verse_tree.specs.Tree.{Tree, tree, Shape, Trees, no_trees, more_trees, Holes, no_holes, more_holes, Givens, no_givens}
use Rattle.verse_tree.specs.Tree.{more_givens}
use Rattle.verse_tree.specs.Tree as t
use Rattle.verse_tree.specs.declared.exprs.Operator.TheVariants as oper
use Rattle.verse_meaning.specs.Programs.{fields_of}
use Rattle.verse_meaning.specs.Evaluating.{statement_of, none_left}
use Rattle.lower_simulation.proofs.Claims.{Setting}
use Rattle.lower_simulation.proofs.Going.{trans}
use Rattle.lower_simulation.proofs.Forms.{EvLeads, All_lead, minus_leads, query_leads, compared_leads}
use Rattle.lower_simulation_values.proofs.Tables.{Tables, Default_leads}
use Rattle.lower_simulation_values.proofs.Operators.{integer_leads, character_leads, truth_leads, falsehood_leads, text_leads, added_leads}
use Rattle.lower_simulation_values.proofs.Operators.{subtracted_leads, multiplied_leads, both_leads, tuple_leads, array_leads}
use Rattle.lower_simulation_values.proofs.Names.{name_leads, self_leads}
use Rattle.lower_simulation_values.proofs.Unfit.{unfit_leads}
use Rattle.lower_simulation_values.proofs.Called.{Member_lead, Quotient_lead, Quotient_tree, call_leads, index_leads}
use Rattle.lower_simulation_values.proofs.Texts.{Holes_lead, holes_leads}
use Rattle.lower_simulation_values.proofs.Made.{Pairs_lead, mapping_leads, bare_event_leads, event_leads}
use Rattle.lower_simulation_values.proofs.Targets.{Target_lead}
use Rattle.lower_simulation_values.proofs.Assigned.{assignment_leads}
use Rattle.lower_simulation_values.proofs.Instances.{Givens_lead, instance_leads}
use Rattle.lower_simulation_values.proofs.Spawned.{Spawned_lead, spawn_leads}
use Rattle.lower_simulation_values.proofs.Members.{member_leads}
use Rattle.lower_simulation_tasks.proofs.Waits.{sleep_leads, forever_leads, awaits_lead}
use Rattle.lower_simulation_tasks.proofs.Begins.{AllArms, branch_leads, sync_leads, race_leads, rush_leads}
use Rattle.lower_simulation_tasks.proofs.Deferring.{defer_lead}
use Rattle.lower_simulation_blocks.proofs.Failing.{or_leads, negation_leads}
use Rattle.lower_simulation_blocks.proofs.Definitions.{definition_leads, typed_leads, variable_leads}
use Rattle.lower_simulation_blocks.proofs.Blocks.{Statement_lead, All_state, conditions_lead, block_leads}
use Rattle.lower_simulation_blocks.proofs.Choices.{if_else_leads, if_alone_leads, option_leads, logic_leads}
use Rattle.lower_simulation_blocks.proofs.Loops.{loop_leads, break_leads, returned_leads, returned_unit_leads}
use Rattle.lower_simulation_blocks.proofs.For.{Clause_lead, All_clauses, both_lead, for_leads}
use Rattle.lower_simulation_blocks.proofs.Cases.{Arm_lead, Arms_lead, cases_leads}
use Rattle.lower_simulation_runs.proofs.Placing.{every_map}
use Rattle.lower_simulation_runs.proofs.Bodies.{Claims, FormsLead}
use Rattle.lower_simulation_runs.proofs.Fitting.{Fit, Shape_fits, All_fit, Holes_fit, Pairs_fit, Givens_fit, Arms_fit, Arm_fits}

module _ (z : Setting) (differ : ℕ → ℕ → Bool) where
  -- claims at a bound hold at those that are less
  pub claims_less : {top : ℕ} (t : ℕ) → t ≤ top → Claims z differ top → Claims z differ t
  claims_less {top} t le h = record {
    calls = λ f this fn fc vs is h1 h2 e w M j n c o y ls st q fw lt. h.calls f this fn fc vs is h1 h2 e w M j n c o y ls st q fw
        (trans lt le);
    spawns = λ f this fn fc vs is h1 h2 e M j n c o y ls st q fr lt. h.spawns f this fn fc vs is h1 h2 e M j n c o y ls st q fr
        (trans lt le);
    defaults = λ k is. every_map (Default_leads z top) (Default_leads z t) (fields_of z.program k)
        (λ f d a fc h1 h2 w M j n c o y ls st q fw lt. d a fc h1 h2 w M j n c o y ls st q fw (trans lt le)) (h.defaults k is);
  }

  module _ (top : ℕ) where
    -- of the parts of a tree as a statement, a clause or a callee
    abbrev Shape_parts : Shape → Type 0
    Shape_parts (t.Shape.definition x b) = EvLeads z differ top b
    Shape_parts (t.Shape.typed x w b) = EvLeads z differ top b
    Shape_parts (t.Shape.variable x w b) = EvLeads z differ top b
    Shape_parts (t.Shape.defer b) = EvLeads z differ top b
    Shape_parts (t.Shape.member b x) = EvLeads z differ top b
    Shape_parts (t.Shape.elements x b) = EvLeads z differ top b
    Shape_parts (t.Shape.entries x y b) = EvLeads z differ top b
    Shape_parts (t.Shape.range x b c) = EvLeads z differ top b × EvLeads z differ top c
    Shape_parts (t.Shape.chained x b c) = EvLeads z differ top b × EvLeads z differ top c
    Shape_parts s = Unit {0}

    abbrev Parts : Tree → Type 0
    Parts (tree n pl s) = Shape_parts s

    statement_by : (b : Tree) → EvLeads z differ top b → Parts b → Statement_lead z differ top (statement_of b) b
    statement_by (tree n pl (t.Shape.definition x b)) h q = q
    statement_by (tree n pl (t.Shape.typed x w b)) h q = q
    statement_by (tree n pl (t.Shape.variable x w b)) h q = q
    statement_by (tree n pl (t.Shape.defer b)) h q = λ ss a s m out M j i p c o y ls st u x sc lt lM k g r.
        defer_lead z differ top n pl b q ss a s m out M j i p c o y ls st u k.least k.is k.fit k.there k.handled x sc lt lM g r
    statement_by (tree n pl (t.Shape.elements x b)) h q = tt
    statement_by (tree n pl (t.Shape.entries x y b)) h q = tt
    statement_by (tree n pl (t.Shape.range x b c)) h q = tt
    statement_by (tree n pl s) h q = h

    clause_by : (b : Tree) → EvLeads z differ top b → Parts b → Clause_lead z differ top (statement_of b) b
    clause_by (tree n pl (t.Shape.definition x b)) h q = q
    clause_by (tree n pl (t.Shape.typed x w b)) h q = q
    clause_by (tree n pl (t.Shape.variable x w b)) h q = q
    clause_by (tree n pl (t.Shape.defer b)) h q = tt
    clause_by (tree n pl (t.Shape.elements x b)) h q = q
    clause_by (tree n pl (t.Shape.entries x y b)) h q = q
    clause_by (tree n pl (t.Shape.range x b c)) h q = both_lead z differ top n pl x b c q.0 q.1
    clause_by (tree n pl s) h q = h

    member_by : (b : Tree) → Parts b → Member_lead z differ top b
    member_by (tree n pl (t.Shape.member b x)) q = q
    member_by (tree n pl s) q = tt

    quotient_by : (b : Tree) → Parts b → Quotient_tree z differ top b
    quotient_by (tree n pl (t.Shape.chained x b c)) q = q
    quotient_by (tree n pl s) q = tt

  module _ (tables : Tables z) where
    mutual
      pub ev_leads : (b : Tree) → Fit z.program b → (top : ℕ) → Claims z differ top → EvLeads z differ top b
      ev_leads (tree n pl s) h top k = shape_leads s h n pl top k

      shape_leads : (s : Shape) → Shape_fits z.program s → (n : ℕ) (pl : Place) (top : ℕ) → Claims z differ top →
          EvLeads z differ top (tree n pl s)
      -- blocks and statements
      shape_leads (t.Shape.block cs) h n pl top k = block_leads z differ top n pl cs (all_state cs h top k)
      shape_leads (t.Shape.definition x b) h n pl top k = definition_leads z differ top n pl x b (ev_leads b h top k)
      shape_leads (t.Shape.typed x w b) h n pl top k = typed_leads z differ top n pl x w b (ev_leads b h top k)
      shape_leads (t.Shape.variable x w b) h n pl top k = variable_leads z differ top n pl x w b (ev_leads b h top k)
      shape_leads (t.Shape.assignment x b c) h n pl top k =
          assignment_leads z differ top n pl x b c (target_lead b h.0 top k) (ev_leads c h.1 top k)
      shape_leads (t.Shape.returned b) h n pl top k = returned_leads z differ top n pl b (ev_leads b h top k)
      shape_leads t.Shape.returned_unit h n pl top k = returned_unit_leads z differ top n pl
      shape_leads t.Shape.break_form h n pl top k = break_leads z differ top n pl
      -- failure contexts
      shape_leads (t.Shape.if_else cs b c) h n pl top k = if_else_leads z differ top n pl cs b c
          (conditions_lead z differ top cs (all_state cs h.1 top k) h.0) (ev_leads b h.2 top k) (ev_leads c h.3 top k)
      shape_leads (t.Shape.if_alone cs b) h n pl top k = if_alone_leads z differ top n pl cs b
          (conditions_lead z differ top cs (all_state cs h.1 top k) h.0) (ev_leads b h.2 top k)
      shape_leads (t.Shape.option cs) h n pl top k = option_leads z differ top n pl cs
          (conditions_lead z differ top cs (all_state cs h.1 top k) h.0)
      shape_leads (t.Shape.logic cs) h n pl top k = logic_leads z differ top n pl cs
          (conditions_lead z differ top cs (all_state cs h.1 top k) h.0)
      shape_leads (t.Shape.negation b) h n pl top k = negation_leads z differ top n pl b (ev_leads b h top k)
      shape_leads (t.Shape.chained oper.Or b c) h n pl top k =
          or_leads z differ top n pl b c (ev_leads b h.0 top k) (ev_leads c h.1 top k)
      shape_leads (t.Shape.for_form cs b) h n pl top k =
          for_leads z differ top n pl cs b (all_clauses cs h.0 top k) (ev_leads b h.1 top k)
      -- operators
      shape_leads (t.Shape.chained oper.And b c) h n pl top k =
          both_leads z differ top n pl b c (ev_leads b h.0 top k) (ev_leads c h.1 top k)
      shape_leads (t.Shape.chained oper.Add b c) h n pl top k =
          added_leads z differ top n pl b c (ev_leads b h.0 top k) (ev_leads c h.1 top k)
      shape_leads (t.Shape.chained oper.Sub b c) h n pl top k =
          subtracted_leads z differ top n pl b c (ev_leads b h.0 top k) (ev_leads c h.1 top k)
      shape_leads (t.Shape.chained oper.Mul b c) h n pl top k =
          multiplied_leads z differ top n pl b c (ev_leads b h.0 top k) (ev_leads c h.1 top k)
      shape_leads (t.Shape.compared x b c) h n pl top k =
          compared_leads z differ top n pl x b c (ev_leads b h.0 top k) (ev_leads c h.1 top k)
      shape_leads (t.Shape.minus b) h n pl top k = minus_leads z differ top n pl b (ev_leads b h top k)
      shape_leads (t.Shape.query b) h n pl top k = query_leads z differ top n pl b (ev_leads b h top k)
      -- members, calls, indices
      shape_leads (t.Shape.member b x) h n pl top k = member_leads z differ top n pl b x (ev_leads b h top k)
      shape_leads (t.Shape.call b ts) h n pl top k = call_leads z differ top tables k.calls (awaits_lead z top) n pl b ts
          (ev_leads b h.0 top k) (member_by top b (parts_lead b h.0 top k)) (all_lead ts h.1 top k) (quotient_lead ts h.1 top k)
      shape_leads (t.Shape.index b ts) h n pl top k = index_leads z differ top tables k.calls (awaits_lead z top) n pl b ts
          (ev_leads b h.0 top k) (member_by top b (parts_lead b h.0 top k)) (all_lead ts h.1 top k) (quotient_lead ts h.1 top k)
      -- literals and names
      shape_leads (t.Shape.integer x) h n pl top k = integer_leads z differ top n pl x
      shape_leads (t.Shape.character x) h n pl top k = character_leads z differ top n pl x
      shape_leads (t.Shape.text bs) h n pl top k = text_leads z differ top n pl bs
      shape_leads (t.Shape.holes bs hs) h n pl top k = holes_leads z differ top n pl bs hs (holes_lead hs h top k)
      shape_leads t.Shape.truth h n pl top k = truth_leads z differ top n pl
      shape_leads t.Shape.falsehood h n pl top k = falsehood_leads z differ top n pl
      shape_leads t.Shape.this h n pl top k = self_leads z differ top n pl
      shape_leads (t.Shape.name x) h n pl top k = name_leads z differ top n pl x
      -- values that are made
      shape_leads (t.Shape.tuple ts) h n pl top k = tuple_leads z differ top n pl ts (all_lead ts h top k)
      shape_leads (t.Shape.array ts) h n pl top k = array_leads z differ top n pl ts (all_lead ts h top k)
      shape_leads (t.Shape.mapping ps) h n pl top k = mapping_leads z differ top n pl ps (pairs_lead ps h top k)
      shape_leads (t.Shape.instance x gs) h n pl top k =
          instance_leads z differ top tables k.defaults n pl x gs (givens_lead gs h top k)
      shape_leads (t.Shape.event w) h n pl top k = event_leads z differ top n pl w
      shape_leads t.Shape.bare_event h n pl top k = bare_event_leads z differ top n pl
      -- loops and blocks
      shape_leads (t.Shape.loop_form b) h n pl top k = loop_leads z differ top n pl b (ev_leads b h top k)
      shape_leads (t.Shape.block_form b) h n pl top k = ev_leads b h top k
      shape_leads (t.Shape.cases b ts) h n pl top k =
          cases_leads z differ top n pl b ts (ev_leads b h.0 top k) (arms_lead ts h.1 top k)
      -- tasks
      shape_leads (t.Shape.branch b) h n pl top k =
          branch_leads z differ top n pl b (λ t le. ev_leads b h t (claims_less t le k))
      shape_leads (t.Shape.sync (more_trees b ts)) h n pl top k = sync_leads z differ top n pl b ts
          (tasks_lead (more_trees b ts) h.1 top k)
      shape_leads (t.Shape.race (more_trees b ts)) h n pl top k = race_leads z differ top n pl b ts
          (tasks_lead (more_trees b ts) h.1 top k)
      shape_leads (t.Shape.rush (more_trees b ts)) h n pl top k = rush_leads z differ top n pl b ts
          (tasks_lead (more_trees b ts) h.1 top k)
      shape_leads (t.Shape.sync no_trees) h n pl top k = cc
      shape_leads (t.Shape.race no_trees) h n pl top k = cc
      shape_leads (t.Shape.rush no_trees) h n pl top k = cc
      shape_leads (t.Shape.spawn b) h n pl top k =
          spawn_leads z differ top tables k.spawns (awaits_lead z top) n pl b (spawned_lead b h top k)
      shape_leads (t.Shape.sleep d) h n pl top k = sleep_leads z differ top n pl d
      shape_leads t.Shape.sleep_forever h n pl top k = forever_leads z differ top n pl
      -- what is no form of its own
      shape_leads (t.Shape.chained oper.Div b c) h n pl top k = unfit_leads z differ top n pl (t.Shape.chained oper.Div b c) tt
      shape_leads (t.Shape.defer b) h n pl top k = unfit_leads z differ top n pl (t.Shape.defer b) tt
      shape_leads (t.Shape.elements x b) h n pl top k = unfit_leads z differ top n pl (t.Shape.elements x b) tt
      shape_leads (t.Shape.entries x y b) h n pl top k = unfit_leads z differ top n pl (t.Shape.entries x y b) tt
      shape_leads (t.Shape.range x b c) h n pl top k = unfit_leads z differ top n pl (t.Shape.range x b c) tt
      shape_leads (t.Shape.arm a b) h n pl top k = unfit_leads z differ top n pl (t.Shape.arm a b) tt
      shape_leads (t.Shape.integer_pattern x) h n pl top k = unfit_leads z differ top n pl (t.Shape.integer_pattern x) tt
      shape_leads (t.Shape.minus_pattern x) h n pl top k = unfit_leads z differ top n pl (t.Shape.minus_pattern x) tt
      shape_leads (t.Shape.character_pattern x) h n pl top k = unfit_leads z differ top n pl (t.Shape.character_pattern x) tt
      shape_leads (t.Shape.text_pattern bs) h n pl top k = unfit_leads z differ top n pl (t.Shape.text_pattern bs) tt
      shape_leads t.Shape.truth_pattern h n pl top k = unfit_leads z differ top n pl t.Shape.truth_pattern tt
      shape_leads t.Shape.falsehood_pattern h n pl top k = unfit_leads z differ top n pl t.Shape.falsehood_pattern tt
      shape_leads t.Shape.any_pattern h n pl top k = unfit_leads z differ top n pl t.Shape.any_pattern tt
      shape_leads (t.Shape.enum_pattern x y) h n pl top k = unfit_leads z differ top n pl (t.Shape.enum_pattern x y) tt

      parts_lead : (b : Tree) → Fit z.program b → (top : ℕ) → Claims z differ top → Parts top b
      parts_lead (tree n pl s) h top k = shape_parts s h top k

      shape_parts : (s : Shape) → Shape_fits z.program s → (top : ℕ) → Claims z differ top → Shape_parts top s
      shape_parts (t.Shape.definition x b) h top k = ev_leads b h top k
      shape_parts (t.Shape.typed x w b) h top k = ev_leads b h top k
      shape_parts (t.Shape.variable x w b) h top k = ev_leads b h top k
      shape_parts (t.Shape.defer b) h top k = ev_leads b h top k
      shape_parts (t.Shape.member b x) h top k = ev_leads b h top k
      shape_parts (t.Shape.elements x b) h top k = ev_leads b h top k
      shape_parts (t.Shape.entries x y b) h top k = ev_leads b h top k
      shape_parts (t.Shape.range x b c) h top k = (ev_leads b h.0 top k, ev_leads c h.1 top k)
      shape_parts (t.Shape.chained x b c) h top k = (ev_leads b h.0 top k, ev_leads c h.1 top k)
      shape_parts s h top k = tt

      all_state : (cs : Trees) → All_fit z.program cs → (top : ℕ) → Claims z differ top → All_state z differ top cs
      all_state no_trees h top k = tt
      all_state (more_trees b cs) h top k =
          (statement_by top b (ev_leads b h.0 top k) (parts_lead b h.0 top k), all_state cs h.1 top k)

      all_clauses : (cs : Trees) → All_fit z.program cs → (top : ℕ) → Claims z differ top → All_clauses z differ top cs
      all_clauses no_trees h top k = tt
      all_clauses (more_trees b cs) h top k =
          (clause_by top b (ev_leads b h.0 top k) (parts_lead b h.0 top k), all_clauses cs h.1 top k)

      all_lead : (ts : Trees) → All_fit z.program ts → (top : ℕ) → Claims z differ top → All_lead z differ top ts
      all_lead no_trees h top k = tt
      all_lead (more_trees b ts) h top k = (ev_leads b h.0 top k, all_lead ts h.1 top k)

      tasks_lead : (ts : Trees) → All_fit z.program ts → (top : ℕ) → Claims z differ top → AllArms z differ top ts
      tasks_lead no_trees h top k = tt
      tasks_lead (more_trees b ts) h top k = ((λ t le. ev_leads b h.0 t (claims_less t le k)), tasks_lead ts h.1 top k)

      quotient_lead : (ts : Trees) → All_fit z.program ts → (top : ℕ) → Claims z differ top → Quotient_lead z differ top ts
      quotient_lead no_trees h top k = tt
      quotient_lead (more_trees b ts) h top k = quotient_by top b (parts_lead b h.0 top k)

      holes_lead : (hs : Holes) → Holes_fit z.program hs → (top : ℕ) → Claims z differ top → Holes_lead z differ top hs
      holes_lead no_holes h top k = tt
      holes_lead (more_holes b bs hs) h top k = (ev_leads b h.0 top k, holes_lead hs h.1 top k)

      pairs_lead : (ps : t.Pairs) → Pairs_fit z.program ps → (top : ℕ) → Claims z differ top → Pairs_lead z differ top ps
      pairs_lead t.Pairs.no_pairs h top k = tt
      pairs_lead (t.Pairs.more_pairs b c ps) h top k = (ev_leads b h.0 top k, ev_leads c h.1 top k, pairs_lead ps h.2 top k)

      givens_lead : (gs : Givens) → Givens_fit z.program gs → (top : ℕ) → Claims z differ top → Givens_lead z differ top gs
      givens_lead no_givens h top k = tt
      givens_lead (more_givens x b gs) h top k = (ev_leads b h.0 top k, givens_lead gs h.1 top k)

      -- what `set` writes to
      target_lead : (b : Tree) → Fit z.program b → (top : ℕ) → Claims z differ top → Target_lead z differ top b
      target_lead (tree n pl (t.Shape.member b x)) h top k = ev_leads b h top k
      target_lead (tree n pl (t.Shape.index b ts)) h top k = (target_lead b h.0 top k, all_lead ts h.1 top k)
      target_lead (tree n pl s) h top k = tt

      spawned_lead : (b : Tree) → Fit z.program b → (top : ℕ) → Claims z differ top → Spawned_lead z differ top b
      spawned_lead (tree n pl (t.Shape.call b ts)) h top k =
          (member_by top b (parts_lead b h.0 top k), all_lead ts h.1 top k)
      spawned_lead (tree n pl s) h top k = tt

      -- the arms of a `case`
      arms_lead : (ts : Trees) → Arms_fit z.program ts → (top : ℕ) → Claims z differ top → Arms_lead z differ top ts
      arms_lead no_trees h top k = tt
      arms_lead (more_trees b ts) h top k = (arm_lead b (none_left ts) h.0 top k, arms_lead ts h.1 top k)

      arm_lead : (b : Tree) (last : Bool) → Arm_fits z.program b last → (top : ℕ) → Claims z differ top → Arm_lead z differ top last b
      arm_lead (tree n pl (t.Shape.arm a b)) last h top k = (h.0, ev_leads b h.1 top k)
      arm_lead (tree n pl s) last h top k = tt

    -- all trees that fit
    pub forms_lead : FormsLead z differ (Fit z.program)
    forms_lead top k b h = ev_leads b h top k
