-- The lines, where they are asked for.
use Rattle.std.proofs.Common.{◌≡◌, false, [], cond, sym, subst, rules}
use Rattle.verse_outside.specs.Held.{with_more}
use Rattle.verse_meaning_state.specs.Texts.{heap_lines}
use Rattle.verse_top_exec.proofs.Takes.{more_nothing}
use Rattle.verse_top_exec.proofs.streams.write_lines.Goals as goal

pub returns-else-lines-clause-whole : goal.returns-else-lines-clause-whole
returns-else-lines-clause-whole g c =
    let no : c.args.lines ≡ false = search rules in
    subst (λ b. g.S.Sink.taken c.args.out.now ≡
    with_more (g.S.Sink.taken c.args.out.now) (cond b (heap_lines 0 (g.H.Heap.state c.args.heap.now).cells) [])) (sym no)
    (sym (more_nothing (g.S.Sink.taken c.args.out.now)))
