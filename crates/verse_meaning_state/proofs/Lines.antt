-- What lines are, printed.
use Rattle.std.proofs.Common.{◌≡◌, List, [], ◌∷◌, ◌++◌, refl, sym, ap, ◌∙◌, append_assoc}
use Rattle.verse_base.specs.TraceLine.{line_bytes}
use Rattle.verse_value.specs.Runs.{Line}
use Rattle.verse_meaning_state.specs.Effects.{printed}

pub printed_both : (xs ys : List Line) → printed (xs ++ ys) ≡ printed xs ++ printed ys
printed_both [] ys = refl
printed_both (x ∷ xs) ys =
    ap (λ bs. line_bytes x.moment x.bytes ++ bs) (printed_both xs ys) ∙
    sym (append_assoc (line_bytes x.moment x.bytes) (printed xs) (printed ys))
