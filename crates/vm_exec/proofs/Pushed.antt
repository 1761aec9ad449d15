-- An operand that is pushed.
use Rattle.std.proofs.Common.{◌≡◌, Result, IfOk, subst}
use Rattle.verse_value.specs.Val.{Val}
use Rattle.vm_running.specs.declared.runners.Did.{Did}
use Rattle.vm_running.specs.Views.{View}
use Rattle.vm_running.specs.Doings.{pushes}
use Rattle.vm_running.specs.Comes.{Comes}

pub pushed_as : {E : Type 0} (r : Result Did E) (v w : Val) (u z : View) → v ≡ w → IfOk r (λ d. Comes (pushes v) d u z) →
    IfOk r (λ d. Comes (pushes w) d u z)
pushed_as r v w u z e h = subst (λ x. IfOk r (λ d. Comes (pushes x) d u z)) e h
