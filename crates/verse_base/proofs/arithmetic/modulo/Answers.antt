use Rattle.std.proofs.Common.{◌≡◌, negsuc, FitsSigned}
use Rattle.std.proofs.lemmas.Int.{to_z-of_z}
use Rattle.std.specs.Int.{w64, int_rem_euclid}
use Rattle.verse_base.proofs.Residues.{residue, residue_of_one, minus_one}
use Rattle.verse_base.proofs.arithmetic.modulo.Goals as goal

pub returns-then-b-eqminus1-clause-residue : goal.returns-then-b-eqminus1-clause-residue
returns-then-b-eqminus1-clause-residue c =
    let fb : FitsSigned w64 c.args.b = c.ranges.b in
    let one : c.args.b ≡ negsuc 0 = minus_one c.args.b fb c.if-b-eqminus1.true in
    rw one (residue_of_one c.args.a)

pub returns-clause-residue : goal.returns-clause-residue
returns-clause-residue c =
    let fa : FitsSigned w64 c.args.a = c.ranges.a in
    let fb : FitsSigned w64 c.args.b = c.ranges.b in
    let fr : FitsSigned w64 c.rem_euclid.result = record { sfits = c.rem_euclid.type_inv } in
    let value : c.rem_euclid.result ≡ int_rem_euclid c.args.a c.args.b = simp to_z-of_z at c.rem_euclid.ensures.value in
    simp to_z-of_z (rw value (residue c.args.a c.args.b c.requires))
