use Rattle.std.proofs.Common.{◌≡◌, Some, [], refl, sym}
use Rattle.verse_code.specs.declared.codes.Class.{Class}
use Rattle.verse_value.specs.View.{vals_of}
use Rattle.verse_meaning_state.specs.Effects.{object_made}
use Rattle.vm_frames.specs.Calls.{popped_many}
use Rattle.vm_running.specs.Doings.{place_in, effects, popping_many}
use Rattle.vm_running.proofs.Steps.{comes_by, ok_by, one_leads, many_leads, many_none}
use Rattle.vm_exec_memory.proofs.cells.object.Goals as goal
use Rattle.vm_running.proofs.Handed.{none_of, some_of}

pub returns-in_default-2 : goal.returns-in_default-2
returns-in_default-2 g c =
    comes_by (one_leads (λ (k : Class). popping_many k.slots
    (λ vs. effects (place_in c.args.code.now (Some c.args.place)) (object_made c.args.class vs))) _ c.in-Some.of.now _ c.requires.ready
    (sym c.in-Some.ensures.value)) (many_none
    (λ vs. effects (place_in c.args.code.now (Some c.args.place)) (object_made c.args.class vs)) c.in-Some.of.now.slots
    c.in-Some.of.now.slots _ _ refl (none_of _ c.in_default-2.is c.in_ok-slots.ensures.none))

pub returns : goal.returns
returns g c =
    ok_by _ _ (one_leads (λ (k : Class). popping_many k.slots
    (λ vs. effects (place_in c.args.code.now (Some c.args.place)) (object_made c.args.class vs))) _ c.in-Some.of.now _ c.requires.ready
    (sym c.in-Some.ensures.value)) (ok_by _ _
    (many_leads (λ vs. effects (place_in c.args.code.now (Some c.args.place)) (object_made c.args.class vs)) c.in-Some.of.now.slots _ _
    _ c.requires.ready (some_of (λ vs. popped_many c.in-Some.of.now.slots [] c.args.run.now.thread ≡
    Some (vals_of vs.items, c.pop_many.new.self)) _ _ c.in-Some-2.is c.in_ok-slots.ensures.some)) c.add_cell.ensures)
