use Rattle.std.proofs.Common.{◌≡◌, ◌≢◌, pos, ◌+ℤ◌, FitsSigned, ℤ, refl, sym, ap, ◌∙◌}
use Rattle.std.proofs.lemmas.Int.{to_z-of_z}
use Rattle.std.specs.Int.{w64, int_div_euclid, int_rem_euclid}
use Rattle.verse_base.specs.Quotients.{ceil_quotient}
use Rattle.verse_base.proofs.Division.{ceil_more_at, ceil_same_rem, ceil_same_sign}
use Rattle.verse_base.proofs.arithmetic.ceil_div.Goals as goal
use Rattle.verse_base.proofs.arithmetic.ceil_div.Goals.{else-b-gt0-via-then-b-gt0+else-has_remainder, else-b-gt0-via-else-b-gt0}

pub returns-then-has_remainder : goal.returns-then-has_remainder
returns-then-has_remainder c =
    let fa : FitsSigned w64 c.args.a = c.ranges.a in
    let fb : FitsSigned w64 c.args.b = c.ranges.b in
    let fq : FitsSigned w64 c.euclid.result = record { sfits = c.euclid.type_inv } in
    let quotient : c.euclid.result ≡ int_div_euclid c.args.a c.args.b = simp to_z-of_z at c.euclid.ensures in
    let sign = simp to_z-of_z at c.if-b-gt0.true in
    let remainder : int_rem_euclid c.args.a c.args.b ≢ pos 0 = simp to_z-of_z at c.if-has_remainder.ensures.some in
    let rounded : ceil_quotient c.args.a c.args.b ≡ c.euclid.result +ℤ pos 1 =
    ceil_more_at c.args.a c.args.b sign remainder ∙ ap (λ (z : ℤ). z +ℤ pos 1) (sym quotient) in
    rw rounded (simp to_z-of_z at c.checked_add.ensures)

pub returns : goal.returns
returns c =
    let fa : FitsSigned w64 c.args.a = c.ranges.a in
    let fb : FitsSigned w64 c.args.b = c.ranges.b in
    let fq : FitsSigned w64 c.euclid-2.result = record { sfits = c.euclid-2.type_inv } in
    let quotient : c.euclid-2.result ≡ int_div_euclid c.args.a c.args.b = simp to_z-of_z at c.euclid-2.ensures in
    let same : ceil_quotient c.args.a c.args.b ≡ int_div_euclid c.args.a c.args.b =
    elim c.else-b-gt0.branch [
      | else-b-gt0-via-then-b-gt0+else-has_remainder w ↦
          let remainder : int_rem_euclid c.args.a c.args.b ≡ pos 0 = simp to_z-of_z at w.if-has_remainder.ensures.none in
          ceil_same_rem c.args.a c.args.b c.requires remainder
      | else-b-gt0-via-else-b-gt0 w ↦ ceil_same_sign c.args.a c.args.b c.requires (simp to_z-of_z at w.if-b-gt0.false)
    ] in
    let rounded : ceil_quotient c.args.a c.args.b ≡ c.euclid-2.result = same ∙ sym quotient in
    rw rounded (fq, simp to_z-of_z refl)
