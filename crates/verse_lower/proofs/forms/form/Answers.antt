use Rattle.std.proofs.Common.{ap, ◌∙◌}
use Rattle.std.specs.Option.{option_map}
use Rattle.verse_tree.specs.View.{tree_of, trees, if_of}
use Rattle.lower_expr.specs.Locals.{scope_of}
use Rattle.lower_parts.specs.Parts.{form_code}
use Rattle.verse_tree.proofs.Shapes.{is_arm, is_array, is_block, is_blockform, is_branch, is_call, is_case, is_chain}
use Rattle.verse_tree.proofs.Shapes.{is_compare, is_def, is_elements, is_entries, is_event, is_for, is_holes, is_if}
use Rattle.verse_tree.proofs.Shapes.{is_index, is_instance, is_let, is_logic, is_loop, is_map, is_member, is_name}
use Rattle.verse_tree.proofs.Shapes.{is_neg, is_not, is_option, is_query, is_race, is_range, is_return, is_rush, is_set}
use Rattle.verse_tree.proofs.Shapes.{is_sleep, is_spawn, is_sync, is_tuple, is_vardef}
use Rattle.verse_lower.proofs.Shapes.{event_code, if_code, return_code, sleep_code}
use Rattle.verse_lower.proofs.forms.form.Goals as goal

pub returns-in-Block-clause-code : goal.returns-in-Block-clause-code
returns-in-Block-clause-code g c = rw (is_block _ _ _ c.in-Block.is c.as_slice.ensures) c.block.ensures.code

pub returns-in-Let-clause-code : goal.returns-in-Let-clause-code
returns-in-Let-clause-code g c = rw (is_let _ _ _ _ c.in-Let.is c.get.ensures) c.constant.ensures.code

pub returns-in-Def-clause-code : goal.returns-in-Def-clause-code
returns-in-Def-clause-code g c = rw (is_def _ _ _ _ c.in-Def.is c.value.ensures) c.constant-in-Def.ensures.code

pub returns-in-VarDef-clause-code : goal.returns-in-VarDef-clause-code
returns-in-VarDef-clause-code g c =
    rw (is_vardef _ _ _ _ c.in-VarDef.is c.value-in-VarDef.ensures) c.variable.ensures.code

pub returns-in-Return-clause-code : goal.returns-in-Return-clause-code
returns-in-Return-clause-code g c =
    let p = c.args.lowering.now.tables.now.program.now in
    let sc = scope_of c.args.scopes.now in
    rw (ap (λ s. form_code p s c.args.node c.args.place sc c.args.around) (is_return _ _ c.in-Return.is)
    ∙ return_code p c.args.node c.args.place sc c.args.around
    (option_map tree_of c.in-Return.value)) c.leave.ensures.code

pub returns-in-If-clause-code : goal.returns-in-If-clause-code
returns-in-If-clause-code g c =
    let p = c.args.lowering.now.tables.now.program.now in
    let sc = scope_of c.args.scopes.now in
    rw (ap (λ s. form_code p s c.args.node c.args.place sc c.args.around) (is_if _ _ c.in-If.is)
    ∙ if_code p c.args.node c.args.place sc c.args.around (trees (if_of c.in-If.parts).conditions)
    (if_of c.in-If.parts).taken
    (if_of c.in-If.parts).otherwise) c.if_form.ensures.code

pub returns-in-Chain-clause-code : goal.returns-in-Chain-clause-code
returns-in-Chain-clause-code g c = rw (is_chain _ _ _ c.in-Chain.is) c.chain.ensures.code

pub returns-in-Compare-clause-code : goal.returns-in-Compare-clause-code
returns-in-Compare-clause-code g c = rw (is_compare _ _ _ c.in-Compare.is) c.compare.ensures.code

pub returns-in-Not-clause-code : goal.returns-in-Not-clause-code
returns-in-Not-clause-code g c = rw (is_not _ _ _ c.in-Not.is c.get-in-Not.ensures) c.negation.ensures.code

pub returns-in-Neg-clause-code : goal.returns-in-Neg-clause-code
returns-in-Neg-clause-code g c = rw (is_neg _ _ _ c.in-Neg.is c.get-in-Neg.ensures) c.minus.ensures.code

pub returns-in-Call-clause-code : goal.returns-in-Call-clause-code
returns-in-Call-clause-code g c = rw (is_call _ _ c.in-Call.is) c.call.ensures.code

pub returns-in-Index-clause-code : goal.returns-in-Index-clause-code
returns-in-Index-clause-code g c = rw (is_index _ _ c.in-Index.is) c.index.ensures.code

pub returns-in-Member-clause-code : goal.returns-in-Member-clause-code
returns-in-Member-clause-code g c =
    rw (is_member _ _ _ _ _ c.in-Member.is c.get-in-Member.ensures c.as_slice-in-Member.ensures)
    c.member.ensures.code

pub returns-in-Query-clause-code : goal.returns-in-Query-clause-code
returns-in-Query-clause-code g c = rw (is_query _ _ _ c.in-Query.is c.get-in-Query.ensures) c.query.ensures.code

pub returns-in-Holes-clause-code : goal.returns-in-Holes-clause-code
returns-in-Holes-clause-code g c =
    rw (is_holes _ _ _ _ _ c.in-Holes.is c.as_slice-in-Holes-2.ensures c.as_slice-in-Holes.ensures)
    c.text.ensures.code

pub returns-in-Name-clause-code : goal.returns-in-Name-clause-code
returns-in-Name-clause-code g c = rw (is_name _ _ _ c.in-Name.is c.as_slice-in-Name.ensures) c.name.ensures

pub returns-in-Tuple-clause-code : goal.returns-in-Tuple-clause-code
returns-in-Tuple-clause-code g c = rw (is_tuple _ _ _ c.in-Tuple.is c.as_slice-in-Tuple.ensures) c.tuple.ensures.code

pub returns-in-Array-clause-code : goal.returns-in-Array-clause-code
returns-in-Array-clause-code g c = rw (is_array _ _ _ c.in-Array.is c.as_slice-in-Array.ensures) c.array.ensures.code

pub returns-in-Map-clause-code : goal.returns-in-Map-clause-code
returns-in-Map-clause-code g c = rw (is_map _ _ _ c.in-Map.is c.as_slice-in-Map.ensures) c.map.ensures.code

pub returns-in-Option-clause-code : goal.returns-in-Option-clause-code
returns-in-Option-clause-code g c =
    rw (is_option _ _ _ c.in-Option.is c.as_slice-in-Option.ensures) c.option.ensures.code

pub returns-in-Logic-clause-code : goal.returns-in-Logic-clause-code
returns-in-Logic-clause-code g c = rw (is_logic _ _ _ c.in-Logic.is c.as_slice-in-Logic.ensures) c.logic.ensures.code

pub returns-in-Instance-clause-code : goal.returns-in-Instance-clause-code
returns-in-Instance-clause-code g c =
    rw (is_instance _ _ _ _ c.in-Instance.is c.as_slice-in-Instance.ensures) c.instance.ensures.code

pub returns-in-BlockForm-clause-code : goal.returns-in-BlockForm-clause-code
returns-in-BlockForm-clause-code g c =
    rw (is_blockform _ _ _ c.in-BlockForm.is c.get-in-BlockForm.ensures) c.part.ensures.code

pub returns-in-Branch-clause-code : goal.returns-in-Branch-clause-code
returns-in-Branch-clause-code g c =
    rw (is_branch _ _ _ c.in-Branch.is c.get-in-Branch.ensures) c.branch-lowering.ensures.code

pub returns-in-Sync-clause-code : goal.returns-in-Sync-clause-code
returns-in-Sync-clause-code g c = rw (is_sync _ _ _ c.in-Sync.is c.as_slice-in-Sync.ensures) c.group.ensures.code

pub returns-in-Race-clause-code : goal.returns-in-Race-clause-code
returns-in-Race-clause-code g c =
    rw (is_race _ _ _ c.in-Race.is c.as_slice-in-Race.ensures) c.group-in-Race.ensures.code

pub returns-in-Rush-clause-code : goal.returns-in-Rush-clause-code
returns-in-Rush-clause-code g c =
    rw (is_rush _ _ _ c.in-Rush.is c.as_slice-in-Rush.ensures) c.group-in-Rush.ensures.code

pub returns-in-Spawn-clause-code : goal.returns-in-Spawn-clause-code
returns-in-Spawn-clause-code g c = rw (is_spawn _ _ _ c.in-Spawn.is c.get-in-Spawn.ensures) c.spawn.ensures.code

pub returns-in-Elements-clause-code : goal.returns-in-Elements-clause-code
returns-in-Elements-clause-code g c = rw (is_elements _ _ _ c.in-Elements.is) c.stuck-in-Elements.ensures

pub returns-in-Entries-clause-code : goal.returns-in-Entries-clause-code
returns-in-Entries-clause-code g c = rw (is_entries _ _ _ _ c.in-Entries.is) c.stuck-in-Entries.ensures

pub returns-in-Range-clause-code : goal.returns-in-Range-clause-code
returns-in-Range-clause-code g c = rw (is_range _ _ _ c.in-Range.is) c.stuck-in-Range.ensures

pub returns-in-Arm-clause-code : goal.returns-in-Arm-clause-code
returns-in-Arm-clause-code g c = rw (is_arm _ _ c.in-Arm.is) c.stuck-in-Arm.ensures

pub returns-in-Event-clause-code : goal.returns-in-Event-clause-code
returns-in-Event-clause-code g c =
    let p = c.args.lowering.now.tables.now.program.now in
    let sc = scope_of c.args.scopes.now in
    rw (ap (λ s. form_code p s c.args.node c.args.place sc c.args.around) (is_event _ _ c.in-Event.is)
    ∙ event_code p c.args.node c.args.place sc c.args.around c.in-Event.field-0) c.placed.ensures

pub returns-in-Sleep-clause-code : goal.returns-in-Sleep-clause-code
returns-in-Sleep-clause-code g c =
    let p = c.args.lowering.now.tables.now.program.now in
    let sc = scope_of c.args.scopes.now in
    rw (ap (λ s. form_code p s c.args.node c.args.place sc c.args.around) (is_sleep _ _ c.in-Sleep.is)
    ∙ sleep_code p c.args.node c.args.place sc c.args.around c.in-Sleep.duration) c.sleeping.ensures

pub returns-in-Set-clause-code : goal.returns-in-Set-clause-code
returns-in-Set-clause-code g c = rw (is_set _ _ _ c.in-Set.is) c.set.ensures.code

pub returns-in-For-clause-code : goal.returns-in-For-clause-code
returns-in-For-clause-code g c = rw (is_for _ _ c.in-For.is) c.for_form.ensures.code

pub returns-in-Loop-clause-code : goal.returns-in-Loop-clause-code
returns-in-Loop-clause-code g c = rw (is_loop _ _ _ c.in-Loop.is c.get-in-Loop.ensures) c.loop_form.ensures.code

pub returns-in-Case-clause-code : goal.returns-in-Case-clause-code
returns-in-Case-clause-code g c = rw (is_case _ _ c.in-Case.is) c.case.ensures.code
