use Rattle.std.proofs.Common.{Option, IsSome, refl, sym, subst, arith}
use Rattle.std.proofs.lemmas.Bool.{le-leb, leb-true}
use Rattle.verse_value.specs.Val.{Val}
use Rattle.verse_value.specs.View.{val_of}
use Rattle.verse_cells.specs.View.{cells_of}
use Rattle.verse_cells.proofs.Weights.{slot_weight}
use Rattle.tx_heap.proofs.Limits.{set_keeps, set_kept}
use Rattle.tx_heap.proofs.calls.may_set.Goals as goal

pub overflow_sub-others : goal.overflow_sub-others
overflow_sub-others c =
    omega (
      arith,
      c.weight-in-Some.ensures,
      c.weight.ensures.sum,
      slot_weight (cells_of c.args.copies.now.cells) c.args.cell c.args.slot
          (val_of c.in-Some.old.now) c.in-Some.ensures,
    )

pub returns-in-Some : goal.returns-in-Some
returns-in-Some c =
    let cells = cells_of c.args.copies.now.cells in
    let from = val_of c.in-Some.old.now in
    let to = val_of c.args.value.now in
    let sum = c.saturating_add.result in
    let P : Option Val → Type 0 = λ o. IsSome o in (
      λ h. (
        subst P (sym c.in-Some.ensures) refl,
        set_keeps cells c.args.cell c.args.slot from to c.weight.result c.weight-in-Some.result c.weight-in-Some-2.result sum
            c.in-Some.ensures c.weight.ensures.sum c.weight.ensures.light c.weight-in-Some.ensures c.weight-in-Some-2.ensures
            c.saturating_add.ensures (leb-true sum 16000000 h),
      ),
      λ p. le-leb sum 16000000 (set_kept cells c.args.cell c.args.slot from to c.weight.result c.weight-in-Some.result
          c.weight-in-Some-2.result sum c.in-Some.ensures c.weight.ensures.sum c.weight.ensures.light c.weight-in-Some.ensures
          c.weight-in-Some-2.ensures c.saturating_add.ensures p.1),
    )
