use Rattle.std.proofs.Common.{◌∙◌, ap}
use Rattle.std.proofs.lemmas.Result.{IfOk-weaker}
use Rattle.verse_names_declarations.specs.Lines.{as_of, line_of}
use Rattle.verse_names_declarations.specs.Known.{known_of}
use Rattle.verse_names_declarations.proofs.Membering.{all_as}
use Rattle.verse_names_scopes.proofs.items.members_of.Goals as goal

pub returns-clause-view : goal.returns-clause-view
returns-clause-view c =
    let k = known_of c.args.known.now in
    IfOk-weaker c.copy.result _ _ (λ m e. e ∙ ap (as_of c.args.class) c.in_ok-all_members.ensures ∙
    all_as c.args.class c.args.class k.notes (line_of k.outline c.args.class)) c.copy.ensures.view
