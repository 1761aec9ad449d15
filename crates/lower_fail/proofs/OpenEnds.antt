-- Ends that are open, from the innermost on.
use Rattle.std.proofs.Common.{◌≡◌, ℕ, ◌+◌, ◌<◌, List, [], ◌∷◌, ◌++◌, length, take, get_or, refl, sym, ap, ◌∙◌}
use Rattle.std.proofs.lemmas.List.{take_more}
use Rattle.lower_expr.specs.Building.{Built, ended_here}
use Rattle.lower_fail.specs.declared.loops.Turn.{Turn}
use Rattle.lower_fail.specs.Attempts.{turns_ended, all_ended, turns_closed}

-- one more, which is the innermost
pub one_more_end : (js : List ℕ) (j : ℕ) (b : Built) → all_ended (js ++ j ∷ []) b ≡ all_ended js (ended_here j b)
one_more_end [] j b = refl
one_more_end (k ∷ js) j b = ap (ended_here k) (one_more_end js j b)

pub one_more_turn : (ts : List Turn) (t : Turn) (b : Built) →
    turns_closed (ts ++ t ∷ []) b ≡ turns_closed ts (turns_ended t.begun t.local b)
one_more_turn [] t b = refl
one_more_turn (u ∷ ts) t b = ap (turns_ended u.begun u.local) (one_more_turn ts t b)

pub ends_next : (js : List ℕ) (m n d : ℕ) (b c r : Built) → m ≡ n + 1 → n < length js → c ≡ ended_here (get_or js n d) b →
    all_ended (take m js) b ≡ r → all_ended (take n js) c ≡ r
ends_next js m n d b c r e h g f =
    ap (all_ended (take n js)) g ∙ sym (one_more_end (take n js) (get_or js n d) b) ∙ ap (λ k. all_ended k b) (sym (take_more js n d h))
    ∙ ap (λ k. all_ended (take k js) b) (sym e) ∙ f

pub turns_next : (ts : List Turn) (m n : ℕ) (d : Turn) (b c r : Built) → m ≡ n + 1 → n < length ts →
    c ≡ turns_ended (get_or ts n d).begun (get_or ts n d).local b → turns_closed (take m ts) b ≡ r → turns_closed (take n ts) c ≡ r
turns_next ts m n d b c r e h g f =
    ap (turns_closed (take n ts)) g ∙ sym (one_more_turn (take n ts) (get_or ts n d) b) ∙
    ap (λ k. turns_closed k b) (sym (take_more ts n d h)) ∙ ap (λ k. turns_closed (take k ts) b) (sym e) ∙ f
