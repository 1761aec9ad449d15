use Rattle.std.proofs.Common.{map, get_or, arith, refl}
use Rattle.std.specs.Prelude.{option_map}
use Rattle.std.proofs.lemmas.Result.{err_from_is_err_and}
use Rattle.verse_code.specs.declared.operations.Op.{Op}
use Rattle.verse_code.specs.declared.operations.Op.TheVariants as o
use Rattle.verse_verify_faults.specs.Reading.{each_at, option_at, spot_from}
use Rattle.verse_verify_notes.specs.View.{spot_of}
use Rattle.verse_verify_reader.proofs.ListSteps.{each_begins, each_goes_on, each_ends, each_is_done}
use Rattle.verse_verify_reader.proofs.spots.spot_notes.Goals as goal

pub spots-init : goal.spots-init
spots-init c =
    let code = c.args.code.now in
    rw c.new-spots.ensures.items (each_begins code (λ (op : Op). option_at (spot_from code c.args.is_told)) c.args.ops.now
    c.args.bytes.now)

pub returns-in_err-spot : goal.returns-in_err-spot
returns-in_err-spot c =
    let p = err_from_is_err_and c.from_residual.result c.from_residual.ensures.1 in
    let code = c.args.code.now in
    rw (p.1, p.2) (each_ends code (λ (op : Op). option_at (spot_from code c.args.is_told)) c.in_err-spot.field-0.0
    (map (option_map spot_of) c.spots.spots.items) c.args.ops.now c.spots._op-index (get_or c.args.ops.now c.spots._op-index o.Unit)
    o.Unit c.spots.rest.now (each_at code (λ (op : Op). option_at (spot_from code c.args.is_told)) c.args.ops.now c.args.bytes.now)
    (omega arith) refl c.in_err-spot.ensures c.spots.invariant)

pub spots-preserved : goal.spots-preserved
spots-preserved c =
    let code = c.args.code.now in
    rw c.in_ok-push.ensures.items (each_goes_on code (option_map spot_of) (λ (op : Op). option_at (spot_from code c.args.is_told))
    c.spots.spots.items c.args.ops.now c.spots._op-index (get_or c.args.ops.now c.spots._op-index o.Unit) o.Unit c.spots.rest.now
    c.in_ok-spot.spot c.in_ok-spot.after.now (each_at code (λ (op : Op). option_at (spot_from code c.args.is_told)) c.args.ops.now
    c.args.bytes.now) (omega arith) refl c.in_ok-spot.ensures c.spots.invariant)

pub returns : goal.returns
returns c =
    let code = c.args.code.now in
    each_is_done code (λ (op : Op). option_at (spot_from code c.args.is_told)) (map (option_map spot_of) c.spots.spots.items)
    c.args.ops.now c.spots._op-index c.spots.rest.now (each_at code (λ (op : Op). option_at (spot_from code c.args.is_told))
    c.args.ops.now c.args.bytes.now) (omega arith) c.spots.invariant
