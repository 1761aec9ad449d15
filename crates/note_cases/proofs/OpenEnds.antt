-- Ends of arms that are open, from the last on.
use Rattle.std.proofs.Common.{◌≡◌, List, [], ◌∷◌, ◌++◌, map, refl, sym, ap, ◌∙◌}
use Rattle.std.proofs.lemmas.List.{map-append}
use Rattle.note_stretches.specs.Noted.{Noted}
use Rattle.note_cases.specs.Ends.{End, end_of, ended, all_ended}
use Rattle.note_cases.specs.declared.ends.End.{End as Made}

-- one more, which is the last
pub one_more_end : (es : List End) (e : End) (b : Noted) → all_ended (es ++ e ∷ []) b ≡ all_ended es (ended e b)
one_more_end [] e b = refl
one_more_end (f ∷ es) e b = ap (ended f) (one_more_end es e b)

-- the last ends, and then those that are left; or none is left
pub ends_next : (xs ys : List Made) (e : Made) (b c all : Noted) → xs ≡ ys ++ e ∷ [] → c ≡ ended (end_of e) b →
    all_ended (map end_of xs) b ≡ all → all_ended (map end_of ys) c ≡ all
ends_next xs ys e b c all h g is =
    ap (all_ended (map end_of ys)) g ∙ sym (one_more_end (map end_of ys) (end_of e) b)
    ∙ ap (λ k. all_ended k b) (sym (ap (map end_of) h ∙ map-append end_of ys (e ∷ []))) ∙ is

pub ends_done : (xs : List Made) (b all : Noted) → xs ≡ [] → all_ended (map end_of xs) b ≡ all → b ≡ all
ends_done xs b all h is = sym (ap (λ k. all_ended (map end_of k) b) h) ∙ is
