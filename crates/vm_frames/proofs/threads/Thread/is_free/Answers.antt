use Rattle.std.proofs.Common.{◌≡◌, true, false, not, ◌&&◌, refl, sym, ap, ◌∙◌, rules}
use Rattle.fiber.specs.Frames.{is_closing}
use Rattle.vm_frames.proofs.Whole.{free_in}
use Rattle.vm_frames.proofs.threads.Thread.is_free.Goals as goal

pub returns-then-not-guarded : goal.returns-then-not-guarded
returns-then-not-guarded c ms =
    let off : c.guarded.result ≡ false = search rules in
    sym (ap (λ g. not g && not c.closing.result) off) ∙
    free_in _ _ _ ms c.guarded.result c.closing.result c.self.view_is c.guarded.ensures c.closing.ensures

pub returns-else-not-guarded : goal.returns-else-not-guarded
returns-else-not-guarded c ms =
    let on : c.guarded.result ≡ true = search rules in
    ap not on ∙ sym (ap (λ g. not g && not (is_closing c.self.inside.fiber)) on) ∙
    free_in _ _ _ ms c.guarded.result (is_closing c.self.inside.fiber) c.self.view_is c.guarded.ensures refl
