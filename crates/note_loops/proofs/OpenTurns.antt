-- Generators that are open, from the last on.
use Rattle.std.proofs.Common.{◌≡◌, List, [], ◌∷◌, ◌++◌, map, Option, refl, sym, ap, ◌∙◌}
use Rattle.std.proofs.lemmas.List.{map-append}
use Rattle.lower_notes.specs.States.{State}
use Rattle.note_states.specs.View.{standing_of}
use Rattle.note_states.specs.declared.standing.Standing.{Standing}
use Rattle.note_stretches.specs.Noted.{Noted, marked, resumed}
use Rattle.note_loops.specs.Turns.{turns_closed}

-- one more, which is the last
pub one_more_turn : (xs : List (Option State)) (x : Option State) (b : Noted) →
    turns_closed (xs ++ x ∷ []) b ≡ turns_closed xs (marked (resumed x b))
one_more_turn [] x b = refl
one_more_turn (y ∷ xs) x b = ap (λ k. marked (resumed y k)) (one_more_turn xs x b)

-- the last takes its next value, and then those that are left; or none is left
pub turns_next : (xs ys : List Standing) (x : Standing) (b c all : Noted) → xs ≡ ys ++ x ∷ [] →
    c ≡ marked (resumed (standing_of x) b) →
    turns_closed (map standing_of xs) b ≡ all → turns_closed (map standing_of ys) c ≡ all
turns_next xs ys x b c all h g is =
    ap (turns_closed (map standing_of ys)) g ∙ sym (one_more_turn (map standing_of ys) (standing_of x) b)
    ∙ ap (λ k. turns_closed k b) (sym (ap (map standing_of) h ∙ map-append standing_of ys (x ∷ []))) ∙ is

pub turns_done : (xs : List Standing) (b all : Noted) → xs ≡ [] → turns_closed (map standing_of xs) b ≡ all → b ≡ all
turns_done xs b all h is = sym (ap (λ k. turns_closed (map standing_of k) b) h) ∙ is
