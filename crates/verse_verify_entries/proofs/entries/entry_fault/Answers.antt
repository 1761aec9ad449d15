use Rattle.std.proofs.Common.{◌≤◌, ◌<◌, ℕ, length, sym, ap, subst, ◌∙◌}
use Rattle.verse_verify_faults.specs.Faults.{begins_at}
use Rattle.verse_verify_notes.specs.View.{table_of}
use Rattle.verse_verify_entries.proofs.Least.{least_most, least_first, least_broken}
use Rattle.verse_verify_entries.proofs.entries.entry_fault.Goals as goal

pub returns-clause-broken : goal.returns-clause-broken
returns-clause-broken c =
    let code = c.args.code.now in
    let t = table_of c.args.table.now in
    λ h. ap (begins_at code t 0 code.functions t.functions) c.least_entry.ensures ∙ least_broken code t (length code.ops) 0 code.functions
    t.functions (subst (λ i. i < length code.ops) c.least_entry.ensures h)

pub returns-clause-first : goal.returns-clause-first
returns-clause-first c =
    let code = c.args.code.now in
    let t = table_of c.args.table.now in
    λ index h. least_first code t (length code.ops) 0 code.functions t.functions index (subst (λ i. index < i) c.least_entry.ensures h)

pub returns-clause-within : goal.returns-clause-within
returns-clause-within c =
    let code = c.args.code.now in
    let t = table_of c.args.table.now in
    subst (λ i. i ≤ length code.ops) (sym c.least_entry.ensures) (least_most code t (length code.ops) 0 code.functions t.functions)
