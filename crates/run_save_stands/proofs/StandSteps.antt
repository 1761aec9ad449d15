-- Where a frame may stand, and where a block begins.
use Rattle.std.proofs.Common.{◌≡◌, ℕ, suc, ◌-◌, ◌<◌, false, refl, ap, arith}
use Rattle.std.specs.Prelude.{slice_get}
use Rattle.verse_code.specs.declared.codes.Code.{Code}
use Rattle.run_save_shots.specs.Fitting.{Stand, is_defer}
use Rattle.run_save_format.specs.Reading.{is_call, suspends, may_stand, is_block}

pub at_top : (above : ℕ) (stand : Stand) → above ≡ 0 → may_stand above stand ≡ suspends stand
at_top above stand e = rw e refl

pub below_top : (above : ℕ) (stand : Stand) → 0 < above → may_stand above stand ≡ is_call stand
below_top above stand lt = let e : above ≡ suc (above - 1) = omega arith in ap (λ n. may_stand n stand) e

pub first_place : (c : Code) (at : ℕ) → at ≡ 0 → is_block c at ≡ false
first_place c at e = rw e refl

pub behind_operation : (c : Code) (at : ℕ) → 0 < at → is_block c at ≡ is_defer (slice_get c.ops (at - 1))
behind_operation c at lt = let e : at ≡ suc (at - 1) = omega arith in ap (is_block c) e
