use Rattle.std.proofs.Common.{List, Result, arith, sym, ap, subst, ◌∙◌}
use Rattle.verse_value.specs.Val.{Val}
use Rattle.verse_value.specs.View.{val_of}
use Rattle.verse_value.specs.Places.{Allows, end_of, applied, pop}
use Rattle.verse_value_writes.specs.declared.writes.WriteFault.{WriteFault}
use Rattle.verse_value_writes.specs.Writes.{Explains, result_of}
use Rattle.verse_value_writes.proofs.KeyPaths.{no_key, key_added, key_fits, key_leads, map_path}
use Rattle.verse_value_writes.proofs.writes.add_key.Goals as goal

pub add_at-requires : goal.add_at-requires
add_at-requires c = key_fits c.args.path.now c.last-item.result (omega arith) c.last-item.is (val_of c.args.new)
    (val_of c.args.slot.now) c.requires c.in_ok-key_from-in-len1-up.field-0 c.in_ok-key_from-in-len1-up.ensures c.in-Some.key c.in-Some.is

pub returns-in-None-clause-fault : goal.returns-in-None-clause-fault
returns-in-None-clause-fault c = no_key c.args.path.now c.last-item.result (omega arith) c.last-item.is (val_of c.args.new)
    (val_of c.args.slot.now) c.requires c.in_ok-key_from-in-len1-up.field-0 c.in_ok-key_from-in-len1-up.ensures c.in-None.is

pub returns-in-Err-clause-fault : goal.returns-in-Err-clause-fault
returns-in-Err-clause-fault c =
    subst (λ (o : Result (Val × Val) WriteFault). Explains o c.in-Err.fault)
    (sym (ap result_of (key_added c.args.path.now c.last-item.result (omega arith) c.last-item.is (val_of c.args.new)
    (val_of c.args.slot.now) c.requires c.in_ok-key_from-in-len1-up.field-0 c.in_ok-key_from-in-len1-up.ensures c.in-Some.key
    c.in-Some.is))) c.in-Err.ensures.fault

pub returns-in-Ok-clause-ok : goal.returns-in-Ok-clause-ok
returns-in-Ok-clause-ok c = record {
  value = val_of c.args.new;
  is = ap result_of (key_added c.args.path.now c.last-item.result (omega arith) c.last-item.is (val_of c.args.new)
      (val_of c.args.slot.now) c.requires c.in_ok-key_from-in-len1-up.field-0 c.in_ok-key_from-in-len1-up.ensures c.in-Some.key
      c.in-Some.is ∙ c.in-Ok.ensures.ok);
  leads = key_leads c.args.path.now c.last-item.result (omega arith) c.last-item.is (val_of c.args.new)
      (val_of c.args.slot.now) c.requires c.in_ok-key_from-in-len1-up.field-0 c.in_ok-key_from-in-len1-up.ensures c.in-Some.key
      (val_of c.add_at.new.slot) c.in-Some.is c.in-Ok.ensures.made;
}

pub returns-in-Ok-clause-can_undo : goal.returns-in-Ok-clause-can_undo
returns-in-Ok-clause-can_undo c =
    subst (λ (p : List Val). Allows (end_of p (val_of c.add_at.new.slot)) pop)
    (sym (map_path c.args.path.now (omega arith))) c.in-Ok.ensures.can_undo

pub returns-in-Ok-clause-undo : goal.returns-in-Ok-clause-undo
returns-in-Ok-clause-undo c =
    ap (λ (p : List Val). applied p pop (val_of c.add_at.new.slot)) (map_path c.args.path.now (omega arith)) ∙ c.in-Ok.ensures.undo
