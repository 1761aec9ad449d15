use Rattle.std.proofs.Common.{◌≡◌, true, false, sym, ap, ◌∙◌, rules}
use Rattle.fiber.specs.Bounding.{within}
use Rattle.fiber.proofs.Framed.{gone_in, gone_none}
use Rattle.fiber.proofs.fibers.Fiber.go.Goals as goal

pub returns-then-not-all_permit-clause-no : goal.returns-then-not-all_permit-clause-no
returns-then-not-all_permit-clause-no c not_so =
    let no : c.all_permit.result ≡ false = search rules in
    gone_none _ _ _ _ c.self.view_is (sym (ap (λ b. within b c.args.place) c.bounds.ensures) ∙ sym c.all_permit.ensures ∙ no)

pub invariant_of-self : goal.invariant_of-self
invariant_of-self c =
    let yes : c.all_permit.result ≡ true = search rules in
    let all = gone_in _ _ _ _ _ c.self.view_is c.self.invariant.high c.requires (sym (ap (λ b. within b c.args.place) c.bounds.ensures) ∙
    sym c.all_permit.ensures ∙ yes) c.set_place.ensures in
    record { high = all.1; few = rw all.2 c.self.invariant.few }

pub returns-clause-yes : goal.returns-clause-yes
returns-clause-yes c sure =
    let yes : c.all_permit.result ≡ true = search rules in
    (gone_in _ _ _ _ _ c.self.view_is c.self.invariant.high c.requires (sym (ap (λ b. within b c.args.place) c.bounds.ensures) ∙
    sym c.all_permit.ensures ∙ yes) c.set_place.ensures).0
