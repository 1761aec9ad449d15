use Rattle.std.proofs.Common.{◌≡◌, ◌<◌, [], length, reverse, sym, ap, ◌∙◌, arith}
use Rattle.std.proofs.lemmas.List.{reverse-reverse, length-reverse}
use Rattle.verse_base.proofs.Facts.{no_items}
use Rattle.run_save_machine.proofs.Putting.{inside, one_fewer, long, first, its_suits, its_parent, one_more, next_place, last}
use Rattle.run_save_machine.proofs.tasks.put_all.Goals as goal

pub tasks-init : goal.tasks-init
tasks-init c = record {
  so_far = first c.args.code.now c.args.tasks.items c.args.numbers.now
      (record { tree = c.new.result; ids = c.new-2.result; waits = c.new-3.result })
      (record { tree = c.new.ensures; ids = c.new-2.ensures.items; waits = c.new-3.ensures.items }) c.reverse.new.self.items
      (ap reverse c.reverse.ensures.items ∙ reverse-reverse c.args.tasks.items);
  place = sym (ap length c.new-2.ensures.items);
  long = omega (
    arith,
    ap length c.reverse.ensures.items,
    length-reverse c.args.tasks.items,
    long c.args.code.now c.args.tasks.items c.args.numbers.now c.requires.shot,
  );
}

pub put_one-requires-clause-suits : goal.put_one-requires-clause-suits
put_one-requires-clause-suits c =
    its_suits c.args.code.now c.args.tasks.items c.args.numbers.now c.tasks.tasks.items c.pop.new.self.items c.in-Some.task
    c.tasks.restored c.in-Some.ensures.items c.tasks.invariant.so_far c.tasks.at c.tasks.invariant.place
    (inside c.tasks.tasks.items c.pop.new.self.items c.in-Some.task c.tasks.at (length c.args.numbers.now) c.in-Some.ensures.items
    c.tasks.invariant.long)
    c.index-numbers-at.result c.index-numbers-at.is c.requires.shot c.requires.valid

pub put_one-requires-clause-parent : goal.put_one-requires-clause-parent
put_one-requires-clause-parent c =
    its_parent c.args.code.now c.args.tasks.items c.args.numbers.now c.tasks.tasks.items c.pop.new.self.items c.in-Some.task
    c.tasks.restored c.in-Some.ensures.items c.tasks.invariant.so_far c.tasks.at c.tasks.invariant.place
    (inside c.tasks.tasks.items c.pop.new.self.items c.in-Some.task c.tasks.at (length c.args.numbers.now) c.in-Some.ensures.items
    c.tasks.invariant.long)
    c.index-numbers-at.result c.index-numbers-at.is c.requires.shot

pub tasks-preserved : goal.tasks-preserved
tasks-preserved c =
    let within : c.tasks.at < length c.args.numbers.now =
    inside c.tasks.tasks.items c.pop.new.self.items c.in-Some.task c.tasks.at (length c.args.numbers.now) c.in-Some.ensures.items
    c.tasks.invariant.long in
    record {
      so_far = one_more c.args.code.now c.args.tasks.items c.args.numbers.now c.tasks.tasks.items c.pop.new.self.items c.in-Some.task
          c.tasks.restored c.in-Some.ensures.items c.tasks.invariant.so_far c.tasks.at c.tasks.invariant.place within
          c.index-numbers-at.result c.index-numbers-at.is c.put_one.new.restored c.in_ok-put_one.ensures;
      place = next_place c.args.code.now c.args.tasks.items c.args.numbers.now c.tasks.tasks.items c.pop.new.self.items c.in-Some.task
          c.tasks.restored c.in-Some.ensures.items c.tasks.invariant.so_far c.tasks.at c.tasks.invariant.place within
          c.index-numbers-at.result c.index-numbers-at.is c.put_one.new.restored c.in_ok-put_one.ensures;
      long = one_fewer c.tasks.tasks.items c.pop.new.self.items c.in-Some.task c.tasks.at (length c.args.numbers.now)
          c.in-Some.ensures.items c.tasks.invariant.long;
    }

pub returns : goal.returns
returns c =
    let none : c.tasks.tasks.items ≡ [] = no_items c.tasks.tasks.items (sym c.tasks.tasks.ok.0 ∙ c.in_default.ensures.cases.0) in
    last c.args.code.now c.args.tasks.items c.args.numbers.now c.tasks.tasks.items c.tasks.restored none c.tasks.invariant.so_far
