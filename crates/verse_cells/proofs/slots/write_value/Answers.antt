use Rattle.verse_value.specs.View.{val_of, vals_of}
use Rattle.verse_cells.proofs.Wanting.{spared_written}
use Rattle.verse_cells.proofs.slots.write_value.Goals as goal

pub returns-then-after-saturating_add-clause-ok : goal.returns-then-after-saturating_add-clause-ok
returns-then-after-saturating_add-clause-ok c =
    let w = c.in_ok-value.ensures.ok in
    record {
      wrote = w.0;
      gives = spared_written c.args.spare c.weight-before.result c.weight-after.result c.saturating_add.result
          (vals_of c.args.path.now) c.args.mode (val_of c.args.value) (val_of c.args.slot.now)
          (val_of c.write_wanted.new.slot) w.0 w.1 c.weight-before.ensures c.weight-after.ensures c.saturating_add.ensures
          c.if-after-saturating_add.true;
      answers = w.2;
      can_undo = c.in_ok-value.ensures.can_undo;
      undo = c.in_ok-value.ensures.undo;
      before = c.weight-before.ensures;
      after = c.weight-after.ensures;
    }
