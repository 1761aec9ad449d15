use Rattle.std.proofs.Common.{◌≡◌, drop}
use Rattle.verse_verify_faults.specs.Stepping as t
use Rattle.verse_verify_notes.specs.View.{sort_of}
use Rattle.verse_verify_parts.specs.Mades.{made_of, made_after}
use Rattle.verse_verify_parts.proofs.rows.made_after.Given as goal

-- what is left gives the answer
abbrev pub invariant-writes : goal.invariant-writes
invariant-writes l =
    made_after (made_of l.made) (drop l.write-index l.writes) l.local ≡ made_after (t.is (sort_of l.old)) l.writes l.local
