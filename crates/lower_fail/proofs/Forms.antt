-- Whole forms, by the calls that stand between their parts.
use Rattle.std.proofs.Common.{◌≡◌, ℕ, suc, length, ap, ◌∙◌, arith}
use Rattle.std.proofs.Common.{length-append, [], ◌∷◌}
use Rattle.verse_base.specs.declared.places.Place.{Place}
use Rattle.verse_code.specs.declared.operations.Op.{Op}
use Rattle.verse_code.specs.declared.operations.Op.TheVariants as o
use Rattle.lower_code.specs.Pieces.{Maker, one, placed, numbering, put_away, ◌then◌, ahead, either, looping, turning, from_here}
use Rattle.lower_code.specs.Pieces.{using_locals}
use Rattle.lower_expr.specs.Building.{Built, pushed, with_place, with_local, ended_here, made, loop_ended}
use Rattle.lower_expr.proofs.Laws.{made_then, made_one, made_placed, made_numbering, made_put_away, made_jump, made_try, made_defer}
use Rattle.lower_expr.proofs.Laws.{made_either_try}
use Rattle.lower_expr.proofs.Laws.{made_either_same, made_from_here, made_using_locals}
use Rattle.lower_expr.proofs.Closing.{made_closing}
use Rattle.lower_fail.specs.Attempts.{other_begun, held, if_alone_ended, not_ended, or_false, option_ended, logic_ended, turned, loop_over}
use Rattle.lower_fail.specs.Attempts.{for_begun}
use Rattle.lower_fail.specs.Attempts.{for_ended, turns_begun, turns_ended, same_begun, defer_ended}

-- `if`, with the conditions and both parts
pub if_law : (cs f g : Maker) (b : Built) → made (either o.Try (cs then one o.Drop then one o.Commit then f) g) b ≡
    (let x = made f (held (made cs (pushed (o.Try 0) b))) in ended_here (length x.ops) (made g (other_begun (length b.ops) x)))
unfolding held other_begun
if_law cs f g b = search (made_then, made_one, made_either_try)

pub if_alone_law : (cs f : Maker) (b : Built) → made (either o.Try (cs then one o.Drop then one o.Commit then f) (one o.Unit)) b ≡
    if_alone_ended (length b.ops) (made f (held (made cs (pushed (o.Try 0) b))))
unfolding if_alone_ended
if_alone_law cs f b = if_law cs f (one o.Unit) b ∙ search (made_one)

pub or_law : (f g : Maker) (b : Built) → made (either o.Try (f then one o.Commit) g) b ≡
    (let x = pushed o.Commit (made f (pushed (o.Try 0) b)) in ended_here (length x.ops) (made g (other_begun (length b.ops) x)))
unfolding other_begun
or_law f g b = search (made_then, made_one, made_either_try)

pub not_law : (f : Maker) (b : Built) → made (ahead o.Try (f then one o.Drop then one o.Undo then one o.Fail) then one o.Unit) b ≡
    not_ended (length b.ops) (made f (pushed (o.Try 0) b))
unfolding not_ended
not_law f b = search (made_then, made_one, made_try)

pub option_law : (f : Maker) (p : Place) (b : Built) → made (either o.Try (f then one o.Commit then placed p o.Some) (one o.False)) b ≡
    option_ended (length b.ops) p (made f (pushed (o.Try 0) b))
unfolding option_ended or_false other_begun
option_law f p b = search (made_then, made_one, made_placed, made_either_try)

pub logic_law : (f : Maker) (b : Built) → made (either o.Try (f then one o.Drop then one o.Commit then one o.True) (one o.False)) b ≡
    logic_ended (length b.ops) (made f (pushed (o.Try 0) b))
unfolding logic_ended or_false other_begun held
logic_law f b = search (made_then, made_one, made_either_try)

pub defer_law : (f : Maker) (b : Built) → made (ahead o.Defer (f then one o.Drop then one o.DeferEnd) then one o.Unit) b ≡
    defer_ended (length b.ops) (made f (pushed (o.Defer 0) b))
unfolding defer_ended
defer_law f b = search (made_then, made_one, made_defer)

loop_turned : (f : Maker) (b : Built) →
    made (from_here (λ a. ahead o.Jump (f then one o.Drop) then one (o.Again (suc a)))) b ≡
    turned (length b.ops) (made f (pushed (o.Jump 0) b))
unfolding turned
loop_turned f b = made_from_here (λ a. ahead o.Jump (f then one o.Drop) then one (o.Again (suc a))) b ∙
    search (made_then, made_one, made_jump)

pub loop_law : (f : Maker) (b : Built) → made (looping f) b ≡ loop_over (length b.ops) (length b.exits) (made f (pushed (o.Jump 0) b))
unfolding loop_over
loop_law f b =
    made_closing (from_here (λ a. ahead o.Jump (f then one o.Drop) then one (o.Again (suc a)))) b ∙
    ap (loop_ended (length b.exits)) (loop_turned f b)

-- the arm of a pattern that is compared, with the arms behind it
pub same_law : (g : Maker) (l : ℕ) (f rest : Maker) (b : Built) → made (g then one (o.Get l) then either o.Same f rest) b ≡
    (let y = made g b in let x = made f (same_begun l y) in
    ended_here (length x.ops) (made rest (other_begun (length (pushed (o.Get l) y).ops) x)))
unfolding same_begun other_begun
same_law g l f rest b = search (made_then, made_one, made_either_same)

-- and of one that is not compared
pub any_law : (f rest : Maker) (b : Built) → made (f then ahead o.Jump rest) b ≡
    (let x = made f b in ended_here (length x.ops) (made rest (pushed (o.Jump 0) x)))
any_law f rest b = search (made_then, made_jump)

-- `for`, by what is in its attempt
pub for_law : (p : Place) (l : ℕ) (f : ℕ → Maker) (b : Built) →
    made (numbering p (λ m. one (o.Array 0 m) then put_away l then ahead o.Try (f m) then one (o.Get l))) b ≡
    for_ended (length (pushed (o.Put l) (with_local l (pushed (o.Array 0 (length b.places)) (with_place p b)))).ops) l
    (made (f (length b.places)) (for_begun p l b))
unfolding for_ended for_begun
for_law p l f b = made_numbering p (λ m. one (o.Array 0 m) then put_away l then ahead o.Try (f m) then one (o.Get l)) b ∙
    search (made_then, made_one, made_put_away, made_try)

using_four : (l : ℕ) (b : Built) → made (using_locals (suc (suc (suc (suc l))))) b ≡ with_local (suc (suc (suc l))) b
unfolding with_local
using_four l b = made_using_locals (suc (suc (suc (suc l)))) b

one_longer : (op : Op) (b : Built) → length (pushed op b).ops ≡ suc (length b.ops)
unfolding pushed
one_longer op b = omega (arith, length-append b.ops (op ∷ []))

pub turning_law : (op : Op) (l : ℕ) (f : Maker) (b : Built) → made (turning op l f) b ≡
    turns_ended (length (pushed op (pushed o.Commit (with_local (suc (suc (suc l))) b))).ops) l (made f (turns_begun op l b))
unfolding turns_ended turns_begun
turning_law op l f b =
    let x : Built = pushed op (pushed o.Commit (with_local (suc (suc (suc l))) b)) in
    let a : ℕ = length x.ops in
    let y : Built = pushed (o.Jump 0) x in
    let w : Built = made f (pushed (o.Try 0) y) in
    let steps : made (turning op l f) b ≡ pushed (o.Take l (suc (suc l)) (suc a)) (ended_here a (ended_here (length y.ops) w)) =
    search (made_from_here, using_four, made_then, made_one, made_jump, made_try) in
    steps ∙ ap (λ n. pushed (o.Take l (suc (suc l)) (suc a)) (ended_here a (ended_here n w))) (one_longer (o.Jump 0) x)
