use Rattle.std.proofs.Common.{◌≤◌, map, Err, subst, sym, ap, ◌∙◌}
use Rattle.verse_top.proofs.FrontLaws.{accepted_is, as_many_files}
use Rattle.verse_top.proofs.fronts.judge.Goals as goal

pub returns-in-Ok : goal.returns-in-Ok
returns-in-Ok c =
    let e = sym (as_many_files (λ b. b.items) c.args.files.now) in
    accepted_is (map (λ b. b.items) c.args.files.now) c.typed.result c.in-Ok.accepted.tree c.in-Ok.accepted.checked.names
    c.in-Ok.accepted.checked.typed (subst (λ n. 1 ≤ n) e c.requires.some) (subst (λ n. n ≤ 16) e c.requires.few) c.typed.ensures.tree
    c.typed.ensures.names c.typed.ensures.types c.in-Ok.ensures.accepted (c.in-Ok.ensures.files ∙ e) c.in-Ok.ensures.counted
    c.in-Ok.ensures.names c.in-Ok.ensures.types

pub returns-in_ok-refused-in-Err-Refused : goal.returns-in_ok-refused-in-Err-Refused
returns-in_ok-refused-in-Err-Refused c = (
  c.in_ok-refused-in-Err-Refused.ensures.0,
  (
    c.in-Err-Refused.refusal,
    (
      c.in-Err-Refused.ensures.refused c.in-Err-Refused.refusal (ap (λ e. Err e) c.in-Err-Refused.field-0-is),
      c.in_ok-refused-in-Err-Refused.ensures.1,
    ),
  ),
)
