-- A file's name by its first byte.
use Rattle.std.proofs.Common.{subst, IsTrue, not, nat_eq, slice_index_or, ◌↔◌, List, ℕ}
use Rattle.verse_top_args.specs.Words.{IsFile}
use Rattle.verse_top_args.proofs.FileLemmas.{file_test}
use Rattle.verse_top_args.proofs.commands.is_file.Goals as goal

pub returns-in-len1-up : goal.returns-in-len1-up
returns-in-len1-up c = subst (λ (w : List ℕ). IsTrue (not (nat_eq (slice_index_or c.as_bytes.result.now 0 0) 45)) ↔ IsFile w)
    c.as_bytes.ensures.value (file_test c.as_bytes.result.now c.in-len1-up.len_at_least)
