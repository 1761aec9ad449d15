use Rattle.std.proofs.Common.{sym, ap, ◌∙◌}
use Rattle.verse_meaning.specs.Programs.{program_of}
use Rattle.lower_lookup.specs.Members.{base_view}
use Rattle.lower_lookup.specs.Types.{differ_of}
use Rattle.lower_expr.specs.Building.{built, made}
use Rattle.lower_expr.specs.Locals.{scope_of}
use Rattle.lower_calls.specs.Aims.{aim_view, bottom_code}
use Rattle.lower_calls.proofs.targets.bottom.Goals as goal

pub returns-in_ok-ending-in-Name-clause-code : goal.returns-in_ok-ending-in-Name-clause-code
returns-in_ok-ending-in-Name-clause-code g c =
    let p = c.args.lowering.now.tables.now.program.now in
    let x = built c.args.builder.now in
    c.in_ok-ending-in-Name.ensures ∙ ap (λ f. made f x) (c.in_ok-base_code-in-Name.ensures (program_of p) (differ_of p))
    ∙ ap (λ m. made (bottom_code p m (base_view c.args.base) (scope_of c.args.scopes.now) c.args.around) x)
    (sym (ap aim_view c.in-Name.is) ∙ c.aim_of.ensures)
