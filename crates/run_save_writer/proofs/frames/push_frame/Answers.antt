use Rattle.std.proofs.Common.{ℕ, List, subst}
use Rattle.verse_image.specs.Format.{number}
use Rattle.verse_image.specs.Writing.{Writes}
use Rattle.verse_image.proofs.WritingLemmas.{writes_four}
use Rattle.verse_value.specs.declared.values.Value.{Value}
use Rattle.verse_value.specs.View.{vals_of}
use Rattle.run_save_format.specs.Format.{value, list}
use Rattle.run_save_writer.proofs.frames.push_frame.Goals as goal

pub returns : goal.returns
returns c =
    let locals : Writes (list value (vals_of c.args.frame.now.locals.items)) c.push_number.new.out.items c.push_values.new.out.items =
    subst (λ (xs : List Value). Writes (list value (vals_of xs)) c.push_number.new.out.items c.push_values.new.out.items)
    c.as_slice.ensures.value c.in_ok-push_values.ensures in
    let stack : Writes (list value (vals_of c.args.frame.now.stack.items)) c.push_values.new.out.items c.push_values-2.new.out.items =
    subst (λ (xs : List Value). Writes (list value (vals_of xs)) c.push_values.new.out.items c.push_values-2.new.out.items)
    c.as_slice-2.ensures.value c.in_ok-push_values-2.ensures in
    let defers : Writes (list number c.args.frame.now.defers.items) c.push_values-2.new.out.items c.push_numbers.new.out.items =
    subst (λ (xs : List ℕ). Writes (list number xs) c.push_values-2.new.out.items c.push_numbers.new.out.items)
    c.as_slice-3.ensures.value c.in_ok-push_numbers.ensures in
    writes_four (number c.args.frame.now.place) (list value (vals_of c.args.frame.now.locals.items))
    (list value (vals_of c.args.frame.now.stack.items)) (list number c.args.frame.now.defers.items) _ _ _ _ _
    c.in_ok-push_number.ensures locals stack defers
