use Rattle.std.proofs.Common.{◌-◌, length, drop, sym, ap, ◌∙◌, arith}
use Rattle.verse_verify_faults.specs.Faults.{same_numbers}
use Rattle.verse_verify_parts.specs.Heres.{code_in, table_in, names_in}
use Rattle.verse_verify_parts.proofs.Naming.{longer, shorter}
use Rattle.verse_verify_parts.proofs.names.are_last_names.Goals as goal

pub returns-then-numbers-count : goal.returns-then-numbers-count
returns-then-numbers-count c =
    let h = c.args.here.now in
    sym (longer (code_in h) (table_in h) c.args.numbers.now (names_in h)
    (omega (arith, c.if-numbers-count.true, c.names_count-count.ensures)))

pub returns : goal.returns
returns c =
    let h = c.args.here.now in
    let xs = c.args.numbers.now in
    c.are_names_from.ensures ∙ ap (λ n. same_numbers xs (drop (n - length xs) (names_in h))) c.names_count-count.ensures ∙ sym (shorter
    (code_in h) (table_in h) xs (names_in h) (omega (arith, c.if-numbers-count.false, c.names_count-count.ensures)))
