-- What the first tok is not.
use Rattle.std.proofs.Common.{◌≢◌, List, [], ◌∷◌, Some}
use Rattle.std.proofs.lemmas.Option.{same_Some}
use Rattle.verse_layout.specs.declared.toks.Tok.{Tok}
use Rattle.verse_layout.specs.declared.toks.TokKind.{TokKind}
use Rattle.verse_grammar.specs.Toks.{ahead}
use Rattle.verse_grammar.specs.Starts.{kind_of, fixed_at}
use Rattle.verse_grammar.specs.declared.starts.Fixed.{Fixed}
use Rattle.verse_grammar.proofs.Fixing.{other_kind}

pub none_ahead : (kind : TokKind) → ahead [] ≢ Some kind
none_ahead kind e = absurd (cc)

pub other_ahead : (k : Tok) (ks : List Tok) (f : Fixed) → fixed_at k.kind ≢ Some f → ahead (k ∷ ks) ≢ Some (kind_of f)
other_ahead k ks f h e = other_kind k.kind f h (same_Some k.kind (kind_of f) e)
