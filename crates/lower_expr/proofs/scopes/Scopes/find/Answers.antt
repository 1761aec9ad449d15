use Rattle.std.proofs.Common.{arith, ap, sym, ◌∙◌, ◌-◌, []}
use Rattle.std.specs.Prelude.{option_map}
use Rattle.lower_expr.specs.Locals.{found_of}
use Rattle.lower_expr.proofs.Scoping.{looks_from, looks_at, looks_on, scope_length}
use Rattle.lower_expr.proofs.scopes.Scopes.find.Goals as goal

pub slots-init : goal.slots-init
slots-init c = record {
  within = omega (arith, c.in_ok-left.ensures, scope_length c.args.self.now.slots.items []);
  found = looks_from c.args.name.now c.args.self.now.slots.items c.in_ok-left.left c.in_ok-left.ensures;
}

pub slots-preserved : goal.slots-preserved
slots-preserved c = record {
  within = omega (arith, c.slots.invariant.within);
  found = looks_on c.args.name.now c.args.self.now.slots.items c.slots.left (c.slots.left - 1) c.index.result.now _
      (omega (arith, c.slots-test.true)) (omega (arith, c.slots-test.true, c.slots.invariant.within)) c.index.ensures
      (sym c.found_in.ensures ∙ ap (option_map found_of) c.in_default.is) c.slots.invariant.found;
}

pub returns-in-Some : goal.returns-in-Some
returns-in-Some c = looks_at c.args.name.now c.args.self.now.slots.items c.slots.left (c.slots.left - 1) c.index.result.now _ _
    (omega (arith, c.slots-test.true)) (omega (arith, c.slots-test.true, c.slots.invariant.within)) c.index.ensures
    (sym c.found_in.ensures ∙ ap (option_map found_of) c.in-Some.is) c.slots.invariant.found
