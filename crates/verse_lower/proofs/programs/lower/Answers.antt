use Rattle.std.proofs.Common.{◌∙◌, ap, subst, sym}
use Rattle.verse_code.specs.Validity.{Valid}
use Rattle.verse_code_machine.specs.Runs.{mach}
use Rattle.verse_meaning.specs.Programs.{program_of}
use Rattle.verse_tree.specs.Sizes.{size_of}
use Rattle.lower_bounds.specs.Laws.{IsWithin}
use Rattle.lower_code.specs.Programs.{code_of}
use Rattle.lower_lookup.specs.Types.{differ_of}
use Rattle.verse_lower.proofs.programs.lower.Goals as goal

pub returns-clause-means : goal.returns-clause-means
returns-clause-means c h ns steps until =
    let made = c.args.program.now in
    ap (λ k. mach k ns steps until) c.in_ok-code_of.ensures
    ∙ c.code_means_the_same.ensures (program_of made) (differ_of made) made.tree.files h ns steps until

pub returns-clause-valid : goal.returns-clause-valid
returns-clause-valid c h =
    let made = c.args.program.now in
    subst Valid (sym c.in_ok-code_of.ensures)
    (c.code_is_valid.ensures (program_of made) (differ_of made) made.tree.files h)

pub returns-clause-within : goal.returns-clause-within
returns-clause-within c h =
    let made = c.args.program.now in
    let code = code_of (program_of made) (differ_of made) made.tree.files in
    subst (IsWithin (size_of made)) (sym c.in_ok-code_of.ensures)
    (subst (λ n. IsWithin n code) (c.size_stands.ensures made)
    (c.code_is_small.ensures (program_of made) (differ_of made) made.tree.files h))
