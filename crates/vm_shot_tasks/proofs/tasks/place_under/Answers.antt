use Rattle.std.proofs.Common.{◌≡◌, Some, None, nat_eq, ap, sym, ◌∙◌, rules}
use Rattle.std.specs.Prelude.{position}
use Rattle.vm_shot_laws.specs.Tree.{parent_place}
use Rattle.vm_shot_tasks.proofs.Rows.{place_by}
use Rattle.vm_shot_tasks.proofs.tasks.place_under.Goals as goal

pub returns-in_default-place_of : goal.returns-in_default-place_of
returns-in_default-place_of c tasks e =
    let none : None ≡ position (nat_eq c.in-Some.id) c.args.places.now = search rules in
    none ∙
    (ap (position (nat_eq c.in-Some.id)) e ∙
    (place_by c.in-Some.id tasks ∙ ap (λ p. parent_place p tasks) (sym c.in-Some.is)))

pub returns-in-Ok : goal.returns-in-Ok
returns-in-Ok c tasks e =
    let there : Some c.in-Ok.place ≡ position (nat_eq c.in-Some.id) c.args.places.now = search rules in
    there ∙
    (ap (position (nat_eq c.in-Some.id)) e ∙
    (place_by c.in-Some.id tasks ∙ ap (λ p. parent_place p tasks) (sym c.in-Some.is)))
