use Rattle.verse_lex.proofs.Unique.{one_cut, one_refusal, cut_or_refused}
use Rattle.verse_lex.proofs.laws.one_cut.Goals as goal

pub returns : goal.returns
returns c = record { tokens = one_cut; refusal = one_refusal; apart = cut_or_refused }
