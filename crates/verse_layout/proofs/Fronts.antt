-- A tok more at the end of what is written.
use Rattle.std.proofs.Common.{◌≡◌, List, [], ◌∷◌, ◌++◌, Ok, Err, refl, ap, append_assoc}
use Rattle.verse_layout.specs.declared.toks.Tok.{Tok}
use Rattle.verse_layout.specs.Answers.{Answer, with_front}

pub front_more : (ks : List Tok) (k : Tok) (x : Answer) → with_front (ks ++ k ∷ []) x ≡ with_front ks (with_front (k ∷ []) x)
front_more ks k (Ok js) = ap Ok (append_assoc ks (k ∷ []) js)
front_more ks k (Err r) = refl
