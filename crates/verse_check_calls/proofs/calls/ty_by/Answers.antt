use Rattle.std.proofs.Common.{◌≡◌, map, sym, ap, ◌∙◌}
use Rattle.std.specs.Option.{option_map}
use Rattle.verse_rules_types.specs.Types.{ty_of, tys}
use Rattle.verse_check_typing.specs.Calls.{ty_by}
use Rattle.verse_check_calls.proofs.Items.{get_ty}
use Rattle.verse_check_calls.proofs.calls.ty_by.Goals as goal

pub returns-in-Some : goal.returns-in-Some
returns-in-Some c =
    ap (option_map ty_of) c.nth.ensures ∙ sym (get_ty c.args.types.now c.in-Some.place) ∙
    ap (ty_by (tys (map ty_of c.args.types.now))) (sym c.in-Some.is)
