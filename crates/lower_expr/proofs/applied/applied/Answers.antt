use Rattle.std.proofs.Common.{◌≡◌, IfOk, ap, sym, ◌∙◌, subst}
use Rattle.lower_code.specs.Applied as p
use Rattle.lower_lookup.specs.Actions.{form_of}
use Rattle.lower_expr.specs.Endings.{ending_code}
use Rattle.lower_expr.proofs.applied.applied.Goals as goal

pub returns-in-Print : goal.returns-in-Print
returns-in-Print c = c.with_one-in-Print.ensures ∙ ap (λ a. p.finish (form_of a) c.args.count c.args.fits) (sym c.in-Print.is)

pub returns-in-Floor : goal.returns-in-Floor
returns-in-Floor c = c.with_two.ensures ∙ ap (λ a. p.finish (form_of a) c.args.count c.args.fits) (sym c.in-Floor.is)

pub returns-in-Ceil : goal.returns-in-Ceil
returns-in-Ceil c = c.with_two-in-Ceil.ensures ∙ ap (λ a. p.finish (form_of a) c.args.count c.args.fits) (sym c.in-Ceil.is)

pub returns-in-Pick : goal.returns-in-Pick
returns-in-Pick c = subst (λ a. IfOk c.picking.result (λ ending. ending_code ending ≡
    p.finish (form_of a) c.args.count c.args.fits)) (sym c.in-Pick.is) c.picking.ensures
