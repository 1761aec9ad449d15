use Rattle.std.proofs.Common.{◌≡◌, ◌+◌, ◌∷◌, [], length, true, false, sym, ap, ◌∙◌, arith}
use Rattle.std.specs.Global.{Vec}
use Rattle.verse_meaning_state.specs.Waits.{eqn}
use Rattle.verse_verify_notes.specs.declared.sorts.Sort.{Sort}
use Rattle.verse_verify_notes.specs.View.{sorts_of, spot_of}
use Rattle.verse_verify_parts.specs.Heres.{spot_in, suited}
use Rattle.verse_verify_tasks.specs.Blocks.{leaves_in}
use Rattle.verse_verify_tasks.proofs.Leaving.{leave_none, leave_at, leave_stops, leave_misses, leave_further, not_found, is_found}
use Rattle.verse_verify_tasks.proofs.blocks.does_leave.Goals as goal

pub returns-in_default : goal.returns-in_default
returns-in_default c =
    c.does_go_behind.ensures ∙ leave_none c.args.here.now c.args.count (sorts_of c.defers.locals.now) c.defers.rest.now
    c.in_default.ensures.cases ∙ c.defers.invariant.0

pub returns-then-is_same_number : goal.returns-then-is_same_number
returns-then-is_same_number c =
    let h = c.args.here.now in
    let ls = sorts_of c.defers.locals.now in
    let rest = c.defers.rest.now in
    let yes : eqn c.args.count ((spot_in h).under + length rest) ≡ true = sym c.is_same_number.ensures ∙ c.if-is_same_number.true in
    c.does_go_behind-then-is_same_number.ensures ∙ leave_at h c.args.count ls rest c.in-Some.entry.now c.in-Some.more.now
    c.in-Some.ensures.cases.0 yes ∙ c.defers.invariant.0

pub returns-in_default-spot_at : goal.returns-in_default-spot_at
returns-in_default-spot_at c =
    let h = c.args.here.now in
    let ls = sorts_of c.defers.locals.now in
    let rest = c.defers.rest.now in
    let no : eqn c.args.count ((spot_in h).under + length rest) ≡ false = sym c.is_same_number.ensures ∙ c.if-is_same_number.false in
    leave_misses h c.args.count ls rest c.in-Some.entry.now c.in-Some.more.now c.in-Some.ensures.cases.0 no
    (not_found c.spot_at.result _ c.spot_at.ensures c.in_default-spot_at.is) ∙ c.defers.invariant.0

pub returns-then-not-does_block_begin : goal.returns-then-not-does_block_begin
returns-then-not-does_block_begin c =
    let h = c.args.here.now in
    let ls = sorts_of c.defers.locals.now in
    let rest = c.defers.rest.now in
    let no : eqn c.args.count ((spot_in h).under + length rest) ≡ false = sym c.is_same_number.ensures ∙ c.if-is_same_number.false in
    leave_stops h c.args.count ls rest c.in-Some.entry.now c.in-Some.more.now c.in-Some.ensures.cases.0 no (sym c.does_block_begin.ensures ∙
    c.if-not-does_block_begin.true) ∙ c.defers.invariant.0

pub defers-preserved : goal.defers-preserved
defers-preserved c =
    let h = c.args.here.now in
    let ls = sorts_of c.defers.locals.now in
    let rest = c.defers.rest.now in
    let other = spot_of c.in-Some-spot_at.other.now in
    let is = c.in-Some.ensures.cases.0 in
    let found = is_found c.spot_at.result c.in-Some-spot_at.other _ c.spot_at.ensures c.in-Some-spot_at.is in
    let no : eqn c.args.count ((spot_in h).under + length rest) ≡ false = sym c.is_same_number.ensures ∙ c.if-is_same_number.false in (
      ap (λ ks. suited h (leaves_in h c.args.count (sorts_of ks) c.in-Some.more.now))
          (c.as_slice-locals-in-defers.ensures.value ∙ ap (λ (v : Vec Sort). v.items) c.deref-in-defers.ensures) ∙
          leave_further h c.args.count ls rest c.in-Some.entry.now c.in-Some.more.now other is no found
          (sym c.does_block_begin.ensures ∙ c.if-not-does_block_begin.false) ∙ c.defers.invariant.0,
      omega (arith, ap length is, c.defers.invariant.1),
    )

pub returns : goal.returns
returns c =
    c.does_go_behind-2.ensures ∙ leave_none c.args.here.now c.args.count (sorts_of c.defers.locals.now) c.defers.rest.now (omega (
      arith,
      c.defers.invariant.1,
      c.defers-test.false,
      c.len-i-end.ensures,
    )) ∙ c.defers.invariant.0
