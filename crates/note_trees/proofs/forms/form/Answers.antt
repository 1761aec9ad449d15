use Rattle.std.proofs.Common.{ap, ◌∙◌}
use Rattle.std.specs.Option.{option_map}
use Rattle.verse_tree.specs.View.{tree_of, trees, if_of, two_of}
use Rattle.lower_expr.specs.Locals.{scope_of}
use Rattle.note_parts.specs.Parts.{form_walk}
use Rattle.verse_tree.proofs.Shapes.{is_arm, is_array, is_block, is_blockform, is_branch, is_call, is_case, is_chain}
use Rattle.verse_tree.proofs.Shapes.{is_compare, is_def, is_elements, is_entries, is_event, is_for, is_holes, is_if}
use Rattle.verse_tree.proofs.Shapes.{is_index, is_instance, is_let, is_logic, is_loop, is_map, is_member, is_name}
use Rattle.verse_tree.proofs.Shapes.{is_neg, is_not, is_option, is_query, is_race, is_range, is_return, is_rush, is_set}
use Rattle.verse_tree.proofs.Shapes.{is_sleep, is_spawn, is_sync, is_tuple, is_vardef}
use Rattle.note_trees.proofs.Shapes.{chain_walk, event_walk, if_walk, is_break, return_walk, sleep_walk}
use Rattle.note_trees.proofs.forms.form.Goals as goal

pub returns-in-Block-clause-states : goal.returns-in-Block-clause-states
returns-in-Block-clause-states g c = rw (is_block _ _ _ c.in-Block.is c.as_slice.ensures) c.block.ensures.states

pub returns-in-Let-clause-states : goal.returns-in-Let-clause-states
returns-in-Let-clause-states g c = rw (is_let _ _ _ _ c.in-Let.is c.get.ensures) c.constant.ensures.states

pub returns-in-Def-clause-states : goal.returns-in-Def-clause-states
returns-in-Def-clause-states g c = rw (is_def _ _ _ _ c.in-Def.is c.value.ensures) c.constant-in-Def.ensures.states

pub returns-in-VarDef-clause-states : goal.returns-in-VarDef-clause-states
returns-in-VarDef-clause-states g c =
    rw (is_vardef _ _ _ _ c.in-VarDef.is c.value-in-VarDef.ensures) c.variable.ensures.states

pub returns-in-Return-clause-states : goal.returns-in-Return-clause-states
returns-in-Return-clause-states g c =
    let p = c.args.noter.now.tables.now.program.now in
    let sc = scope_of c.args.scopes.now in
    rw (ap (λ s. form_walk p s c.args.node c.args.place sc c.args.around) (is_return _ _ c.in-Return.is)
    ∙ return_walk p c.args.node c.args.place sc c.args.around
    (option_map tree_of c.in-Return.value)) c.leave.ensures.states

pub returns-in-If-clause-states : goal.returns-in-If-clause-states
returns-in-If-clause-states g c =
    let p = c.args.noter.now.tables.now.program.now in
    let sc = scope_of c.args.scopes.now in
    rw (ap (λ s. form_walk p s c.args.node c.args.place sc c.args.around) (is_if _ _ c.in-If.is)
    ∙ if_walk p c.args.node c.args.place sc c.args.around (trees (if_of c.in-If.parts).conditions)
    (if_of c.in-If.parts).taken
    (if_of c.in-If.parts).otherwise) c.if_form.ensures.states

pub returns-in-Chain-clause-states : goal.returns-in-Chain-clause-states
returns-in-Chain-clause-states g c =
    let p = c.args.noter.now.tables.now.program.now in
    let sc = scope_of c.args.scopes.now in
    rw (ap (λ s. form_walk p s c.args.node c.args.place sc c.args.around) (is_chain _ _ _ c.in-Chain.is)
    ∙ chain_walk p c.args.node c.args.place sc c.args.around c.in-Chain.operator (two_of c.in-Chain.two).0
    (two_of c.in-Chain.two).1) c.chain.ensures.states

pub returns-in-Compare-clause-states : goal.returns-in-Compare-clause-states
returns-in-Compare-clause-states g c = rw (is_compare _ _ _ c.in-Compare.is) c.compare.ensures.states

pub returns-in-Not-clause-states : goal.returns-in-Not-clause-states
returns-in-Not-clause-states g c = rw (is_not _ _ _ c.in-Not.is c.get-in-Not.ensures) c.negation.ensures.states

pub returns-in-Neg-clause-states : goal.returns-in-Neg-clause-states
returns-in-Neg-clause-states g c = rw (is_neg _ _ _ c.in-Neg.is c.get-in-Neg.ensures) c.minus.ensures.states

pub returns-in-Call-clause-states : goal.returns-in-Call-clause-states
returns-in-Call-clause-states g c = rw (is_call _ _ c.in-Call.is) c.call.ensures.states

pub returns-in-Index-clause-states : goal.returns-in-Index-clause-states
returns-in-Index-clause-states g c = rw (is_index _ _ c.in-Index.is) c.index.ensures.states

pub returns-in-Member-clause-states : goal.returns-in-Member-clause-states
returns-in-Member-clause-states g c =
    rw (is_member _ _ _ _ _ c.in-Member.is c.get-in-Member.ensures c.as_slice-in-Member.ensures)
    c.member.ensures.states

pub returns-in-Query-clause-states : goal.returns-in-Query-clause-states
returns-in-Query-clause-states g c = rw (is_query _ _ _ c.in-Query.is c.get-in-Query.ensures) c.query.ensures.states

pub returns-in-Holes-clause-states : goal.returns-in-Holes-clause-states
returns-in-Holes-clause-states g c =
    rw (is_holes _ _ _ _ _ c.in-Holes.is c.as_slice-in-Holes-2.ensures c.as_slice-in-Holes.ensures)
    c.text.ensures.states

pub returns-in-Name-clause-states : goal.returns-in-Name-clause-states
returns-in-Name-clause-states g c = rw (is_name _ _ _ c.in-Name.is c.as_slice-in-Name.ensures) c.name.ensures

pub returns-in-Tuple-clause-states : goal.returns-in-Tuple-clause-states
returns-in-Tuple-clause-states g c = rw (is_tuple _ _ _ c.in-Tuple.is c.as_slice-in-Tuple.ensures) c.tuple.ensures.states

pub returns-in-Array-clause-states : goal.returns-in-Array-clause-states
returns-in-Array-clause-states g c = rw (is_array _ _ _ c.in-Array.is c.as_slice-in-Array.ensures) c.array.ensures.states

pub returns-in-Map-clause-states : goal.returns-in-Map-clause-states
returns-in-Map-clause-states g c = rw (is_map _ _ _ c.in-Map.is c.as_slice-in-Map.ensures) c.map.ensures.states

pub returns-in-Option-clause-states : goal.returns-in-Option-clause-states
returns-in-Option-clause-states g c =
    rw (is_option _ _ _ c.in-Option.is c.as_slice-in-Option.ensures) c.option.ensures.states

pub returns-in-Logic-clause-states : goal.returns-in-Logic-clause-states
returns-in-Logic-clause-states g c = rw (is_logic _ _ _ c.in-Logic.is c.as_slice-in-Logic.ensures) c.logic.ensures.states

pub returns-in-Instance-clause-states : goal.returns-in-Instance-clause-states
returns-in-Instance-clause-states g c =
    rw (is_instance _ _ _ _ c.in-Instance.is c.as_slice-in-Instance.ensures) c.instance.ensures.states

pub returns-in-BlockForm-clause-states : goal.returns-in-BlockForm-clause-states
returns-in-BlockForm-clause-states g c =
    rw (is_blockform _ _ _ c.in-BlockForm.is c.get-in-BlockForm.ensures) c.part.ensures.states

pub returns-in-Branch-clause-states : goal.returns-in-Branch-clause-states
returns-in-Branch-clause-states g c =
    rw (is_branch _ _ _ c.in-Branch.is c.get-in-Branch.ensures) c.branch-noter.ensures.states

pub returns-in-Sync-clause-states : goal.returns-in-Sync-clause-states
returns-in-Sync-clause-states g c = rw (is_sync _ _ _ c.in-Sync.is c.as_slice-in-Sync.ensures) c.group.ensures.states

pub returns-in-Race-clause-states : goal.returns-in-Race-clause-states
returns-in-Race-clause-states g c =
    rw (is_race _ _ _ c.in-Race.is c.as_slice-in-Race.ensures) c.group-in-Race.ensures.states

pub returns-in-Rush-clause-states : goal.returns-in-Rush-clause-states
returns-in-Rush-clause-states g c =
    rw (is_rush _ _ _ c.in-Rush.is c.as_slice-in-Rush.ensures) c.group-in-Rush.ensures.states

pub returns-in-Spawn-clause-states : goal.returns-in-Spawn-clause-states
returns-in-Spawn-clause-states g c = rw (is_spawn _ _ _ c.in-Spawn.is c.get-in-Spawn.ensures) c.spawn.ensures.states

pub returns-in-Elements-clause-states : goal.returns-in-Elements-clause-states
returns-in-Elements-clause-states g c = rw (is_elements _ _ _ c.in-Elements.is) c.ends-in-Elements.ensures

pub returns-in-Entries-clause-states : goal.returns-in-Entries-clause-states
returns-in-Entries-clause-states g c = rw (is_entries _ _ _ _ c.in-Entries.is) c.ends-in-Entries.ensures

pub returns-in-Range-clause-states : goal.returns-in-Range-clause-states
returns-in-Range-clause-states g c = rw (is_range _ _ _ c.in-Range.is) c.ends-in-Range.ensures

pub returns-in-Arm-clause-states : goal.returns-in-Arm-clause-states
returns-in-Arm-clause-states g c = rw (is_arm _ _ c.in-Arm.is) c.ends-in-Arm.ensures

pub returns-in-Event-clause-states : goal.returns-in-Event-clause-states
returns-in-Event-clause-states g c =
    let p = c.args.noter.now.tables.now.program.now in
    let sc = scope_of c.args.scopes.now in
    rw (ap (λ s. form_walk p s c.args.node c.args.place sc c.args.around) (is_event _ _ c.in-Event.is)
    ∙ event_walk p c.args.node c.args.place sc c.args.around c.in-Event.field-0) c.last-in-Event.ensures

pub returns-in-Sleep-clause-states : goal.returns-in-Sleep-clause-states
returns-in-Sleep-clause-states g c =
    let p = c.args.noter.now.tables.now.program.now in
    let sc = scope_of c.args.scopes.now in
    rw (ap (λ s. form_walk p s c.args.node c.args.place sc c.args.around) (is_sleep _ _ c.in-Sleep.is)
    ∙ sleep_walk p c.args.node c.args.place sc c.args.around c.in-Sleep.field-0) c.last-in-Sleep.ensures

pub returns-in-Set-clause-states : goal.returns-in-Set-clause-states
returns-in-Set-clause-states g c = rw (is_set _ _ _ c.in-Set.is) c.set.ensures.states

pub returns-in-For-clause-states : goal.returns-in-For-clause-states
returns-in-For-clause-states g c = rw (is_for _ _ c.in-For.is) c.for_form.ensures.states

pub returns-in-Loop-clause-states : goal.returns-in-Loop-clause-states
returns-in-Loop-clause-states g c = rw (is_loop _ _ _ c.in-Loop.is c.get-in-Loop.ensures) c.loop_form.ensures.states

pub returns-in-Case-clause-states : goal.returns-in-Case-clause-states
returns-in-Case-clause-states g c = rw (is_case _ _ c.in-Case.is) c.case.ensures.states

pub returns-in-Break-clause-states : goal.returns-in-Break-clause-states
returns-in-Break-clause-states g c = rw (is_break _ c.in-Break.is) c.breaking.ensures
