use Rattle.std.proofs.Common.{sym, ap, ◌∙◌, reverse}
use Rattle.vm_frames.specs.Framed.{top_birth}
use Rattle.vm_frames.proofs.Whole.{born_in}
use Rattle.vm_frames.proofs.threads.Thread.born.Goals as goal

pub returns-in-Some : goal.returns-in-Some
returns-in-Some c = sym (ap top_birth c.in-Some.ensures.some.1) ∙ ap (λ bs. top_birth (reverse bs)) c.deref.ensures.value ∙
    born_in _ _ _ c.self.view_is c.requires

pub returns-in-None : goal.returns-in-None
returns-in-None c = sym (ap (λ bs. top_birth (reverse bs)) c.in-None.ensures.none) ∙
    ap (λ bs. top_birth (reverse bs)) c.deref.ensures.value ∙ born_in _ _ _ c.self.view_is c.requires
