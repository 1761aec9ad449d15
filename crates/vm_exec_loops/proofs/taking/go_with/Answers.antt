use Rattle.std.proofs.Common.{◌≡◌, ◌+◌, true, false, sym, ap, ◌∙◌, rules}
use Rattle.verse_value.specs.View.{val_of}
use Rattle.vm_frames.specs.Calls.{with_local}
use Rattle.vm_running.specs.Doings.{going}
use Rattle.vm_exec_loops.proofs.Turns.{turn_barred, ready_written, turn_comes, moved_some, moved_length}
use Rattle.vm_exec_loops.proofs.taking.go_with.Goals as goal
use Rattle.vm_running.proofs.Steps.{spent_on}

pub returns-then-not-go : goal.returns-then-not-go
returns-then-not-go g c t is =
    let not_so : c.go.result ≡ false = search rules in
    turn_barred t _ _ _ _ c.args.turn.domain c.args.turn.value c.args.turn.label _ _ c.requires.ready is c.requires.domain c.requires.value
    c.requires.at (sym c.go.ensures.test ∙ not_so)

pub write-requires-clause-some : goal.write-requires-clause-some
write-requires-clause-some g c =
    let sure : c.go.result ≡ true = search rules in
    moved_some _ _ _ c.requires.ready.some (c.go.ensures.yes sure)

pub write-requires-clause-domain : goal.write-requires-clause-domain
write-requires-clause-domain g c =
    let sure : c.go.result ≡ true = search rules in
    moved_length _ _ _ _ (c.go.ensures.yes sure) c.requires.domain

pub write-requires-clause-value : goal.write-requires-clause-value
write-requires-clause-value g c =
    let sure : c.go.result ≡ true = search rules in
    moved_length _ _ _ _ (c.go.ensures.yes sure) c.requires.value

pub spend-requires : goal.spend-requires
spend-requires g c =
    let sure : c.go.result ≡ true = search rules in
    record {
      ready = ready_written _ _ _ _ c.args.turn.domain c.args.turn.value c.args.turn.label _ _ c.requires.ready
          (c.write.ensures ∙ ap (λ fs. with_local (c.args.turn.domain + c.args.next.at) (val_of c.args.next.then)
          (with_local (c.args.turn.value + 1) (val_of c.args.next.beside) (with_local c.args.turn.value (val_of c.args.next.value) fs)))
          (c.go.ensures.yes sure));
    }

pub returns-then-not-spend : goal.returns-then-not-spend
returns-then-not-spend g c t is =
    let sure : c.go.result ≡ true = search rules in
    let out : c.spend.result ≡ false = search rules in
    turn_comes t _ _ _ _ c.args.turn.domain c.args.turn.value c.args.turn.label _ _ _ _ c.requires.ready is c.requires.domain
    c.requires.value c.requires.at (sym c.go.ensures.test ∙ sure)
    (c.write.ensures ∙ ap (λ fs. with_local (c.args.turn.domain + c.args.next.at) (val_of c.args.next.then)
    (with_local (c.args.turn.value + 1) (val_of c.args.next.beside) (with_local c.args.turn.value (val_of c.args.next.value) fs)))
    (c.go.ensures.yes sure)) (c.spend.ensures.out out going)

pub returns : goal.returns
returns g c t is =
    let sure : c.go.result ≡ true = search rules in
    let spent : c.spend.result ≡ true = search rules in
    turn_comes t _ _ _ _ c.args.turn.domain c.args.turn.value c.args.turn.label _ _ _ _ c.requires.ready is c.requires.domain
    c.requires.value c.requires.at (sym c.go.ensures.test ∙ sure)
    (c.write.ensures ∙ ap (λ fs. with_local (c.args.turn.domain + c.args.next.at) (val_of c.args.next.then)
    (with_local (c.args.turn.value + 1) (val_of c.args.next.beside) (with_local c.args.turn.value (val_of c.args.next.value) fs)))
    (c.go.ensures.yes sure)) (spent_on (c.spend.ensures.leads spent going))
