-- A code whose notes break no rule is never stuck.
use Rattle.verse_verify_kept.specs.Laws.{NeverStuck}
use Rattle.verse_verify_faults.specs.Spots.{notes_of}
use Rattle.verse_verify_laws.specs.Laws.{CleanNotes, PassingNotes}
use Rattle.verse_verify_laws.proofs.Parsed.{formed, no_fault}
use Rattle.verse_verify_laws.proofs.Tables.{verified}

pub clean : CleanNotes
clean c t valid as_many none = verified c t valid as_many none

pub passing : NeverStuck → PassingNotes
passing never c bytes valid e ns steps until =
    let x = no_fault c bytes e in
    never c (notes_of x.0) valid (verified c x.0 valid (formed c bytes x.0 x.1) x.2) ns steps until
