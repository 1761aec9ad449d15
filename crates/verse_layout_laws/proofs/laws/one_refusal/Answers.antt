use Rattle.verse_layout_laws.proofs.Unique.{one_refusal, laid_or_refused}
use Rattle.verse_layout_laws.proofs.laws.one_refusal.Goals as goal

pub returns : goal.returns
returns c = record { refusal = one_refusal; apart = laid_or_refused }
