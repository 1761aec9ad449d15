-- Loops, generators, arms and groups.
use Rattle.std.proofs.Common.{◌≡◌, ℕ, zero, suc, List, [], ◌∷◌, ◌++◌, length, map, max, Option, None, refl, sym, ap, ◌∙◌, arith}
use Rattle.std.proofs.lemmas.List.{append_assoc, map-append, length-append}
use Rattle.std.specs.Option.{option_map}
use Rattle.verse_base.proofs.Facts.{length_more}
use Rattle.verse_sorts.specs.Sorts.{Sort}
use Rattle.lower_code.specs.Pieces.{later}
use Rattle.lower_code.proofs.Standing.{later_is}
use Rattle.lower_notes.specs.States.{State, Change, gives, pops, untried, in_arm}
use Rattle.lower_notes.specs.Stretches.{Walk, one, same, last, ends, deeper, outs, out_with, closing, looping, turning}
use Rattle.lower_notes.specs.Stretches.{arm}
use Rattle.lower_notes.specs.Stretches.{◌then◌, ahead, always, attempt, unreached, grouped}
use Rattle.note_stretches.specs.Noted.{Noted, marked, skipped, nothing_seen, seen, resumed, stopped, changed, walked, loop_begun}
use Rattle.note_stretches.specs.Noted.{loop_ended}
use Rattle.note_stretches.specs.Noted.{outs_seen, outs_left}
use Rattle.note_stretches.specs.Forms.{turned, turn_state, turn_begun, group_state}
use Rattle.note_stretches.proofs.Steps.{deeper_none}
use Rattle.note_stretches.proofs.Laws.{most_of, same_is, changed_same, walked_then, walked_one, walked_last, walked_ends}
use Rattle.note_stretches.proofs.Laws.{walked_ahead}
use Rattle.note_stretches.proofs.Laws.{walked_attempt, walked_beginning}

outs_are : (n : ℕ) (left : Option ℕ) (x : Option State) → map seen (outs n left x) ≡ outs_seen n left x
outs_are zero left x = refl
outs_are (suc n) left x = ap (λ k. seen (out_with (suc n) left x) ∷ k) (outs_are n left x)

no_depth : (n : ℕ) → max 0 n ≡ n
no_depth n = omega arith

pub walked_closing : (f : Walk) (b : Noted) → walked (closing f) b ≡ loop_ended b.deep b.left b.exit (walked f (loop_begun b))
unfolding walked loop_begun loop_ended outs_left
walked_closing f b =
    let p = f (length b.spots) b.exit in
    let e1 : b.spots ++ map seen (p.states ++ outs p.deep p.left b.exit) ≡ (b.spots ++ map seen p.states) ++ outs_seen p.deep p.left
    b.exit =
    ap (λ k. b.spots ++ k) (map-append seen p.states (outs p.deep p.left b.exit))
    ∙ sym (append_assoc b.spots (map seen p.states) (map seen (outs p.deep p.left b.exit)))
    ∙ ap (λ k. (b.spots ++ map seen p.states) ++ k) (outs_are p.deep p.left b.exit) in
    ap (λ k. (record b { spots = k; exit = out_with 0 p.left b.exit; deep = max b.deep 0; left = deeper b.left None })) e1
    ∙ ap (λ n. (record b {
      spots = (b.spots ++ map seen p.states) ++ outs_seen p.deep p.left b.exit;
      exit = out_with 0 p.left b.exit;
      deep = n;
      left = deeper b.left None;
    })) (most_of b.deep)
    ∙ ap (λ n. (record b {
      spots = (b.spots ++ map seen p.states) ++ outs_seen p.deep p.left b.exit;
      exit = out_with 0 p.left b.exit;
      deep = b.deep;
      left = n;
    })) (deeper_none b.left)
    ∙ ap (λ n. (record b {
      spots = (b.spots ++ map seen p.states) ++ outs_seen n p.left b.exit;
      exit = out_with 0 p.left b.exit;
      deep = b.deep;
      left = b.left;
    })) (sym (no_depth p.deep))

resumed_twice : (x y : Option State) (b : Noted) → resumed x (resumed y b) ≡ resumed x b
unfolding resumed
resumed_twice x y b = refl

-- one turn of the body, with the jump before it
body_law : (f : Walk) (c : Noted) → walked (ahead (always same) (always same) (f then one (pops 1)) then ends) c ≡ turned c.exit
    (walked f (marked c))
body_law f c =
    walked_then (ahead (always same) (always same) (f then one (pops 1))) ends c
    ∙ ap (walked ends) (walked_ahead (always same) (always same) (f then one (pops 1)) c
    ∙ ap (λ x. resumed x (walked (f then one (pops 1)) (changed same (marked c)))) (same_is c.exit)
    ∙ ap (λ d. resumed c.exit (walked (f then one (pops 1)) d)) (changed_same (marked c))
    ∙ ap (resumed c.exit) (walked_then f (one (pops 1)) (marked c) ∙ walked_one (pops 1) (walked f (marked c))))
    ∙ walked_ends (resumed c.exit (changed (pops 1) (marked (walked f (marked c)))))

begun_exit : (b : Noted) → (loop_begun b).exit ≡ b.exit
unfolding loop_begun
begun_exit b = refl

pub walked_looping : (f : Walk) (b : Noted) → walked (looping f) b ≡
    loop_ended b.deep b.left b.exit (turned b.exit (walked f (marked (loop_begun b))))
walked_looping f b =
    walked_closing (ahead (always same) (always same) (f then one (pops 1)) then ends) b
    ∙ ap (loop_ended b.deep b.left b.exit) (body_law f (loop_begun b)
    ∙ ap (λ x. turned x (walked f (marked (loop_begun b)))) (begun_exit b))

pub walked_turning : (domain turn : Change) (f : Walk) (b : Noted) → walked (turning domain turn f) b ≡
    marked (resumed (turn_state domain b).exit (walked f (turn_begun turn (turn_state domain b))))
walked_turning domain turn f b =
    let g = ahead (always turn) (always same) (attempt f) in
    let d = turn_state domain b in
    let c = changed turn (marked d) in
    walked_then (one untried) (one domain then g then last) b
    ∙ ap (walked (one domain then g then last)) (walked_one untried b)
    ∙ walked_then (one domain) (g then last) (changed untried (marked b))
    ∙ ap (walked (g then last)) (walked_one domain (changed untried (marked b)))
    ∙ walked_then g last d ∙ walked_last (walked g d)
    ∙ ap marked (walked_ahead (always turn) (always same) (attempt f) d
    ∙ ap (λ x. resumed x (walked (attempt f) c)) (same_is d.exit)
    ∙ ap (resumed d.exit) (walked_attempt f c)
    ∙ resumed_twice d.exit c.exit (walked f (turn_begun turn d)))

pub walked_arm : (a : Sort) (f : Walk) (b : Noted) → walked (arm a f) b ≡ stopped (marked (walked f (changed (in_arm a) b)))
walked_arm a f b =
    walked_beginning (in_arm a) (f then ends) b
    ∙ walked_then f ends (changed (in_arm a) b) ∙ walked_ends (walked f (changed (in_arm a) b))

-- Arms of a group, which no operation reaches.
unreached_are : (n : ℕ) (xs : List (Option State)) → map seen (unreached n xs) ≡ nothing_seen n ++ map seen xs
unreached_are zero xs = refl
unreached_are (suc n) xs = ap (λ k. None ∷ k) (unreached_are n xs)

unseen_many : (n : ℕ) → length (nothing_seen n) ≡ n
unseen_many zero = refl
unseen_many (suc n) = ap suc (unseen_many n)

pub walked_grouped : (m : ℕ) (a : Sort) (f : Walk) (b : Noted) → walked (grouped m a f) b ≡
    resumed (group_state m a b).exit (walked f (resumed b.exit (group_state m a b)))
unfolding walked resumed marked changed skipped
walked_grouped m a f b =
    let here = length b.spots in
    let at = later m (suc (suc here)) in
    let y = option_map (gives 0 a) b.exit in
    let p = f at b.exit in
    let before = b.spots ++ seen b.exit ∷ [] in
    let arms = before ++ nothing_seen m in
    let all = arms ++ seen y ∷ [] in
    let there : length all ≡ at =
    omega (
      arith,
      length_more arms (seen y),
      length-append before (nothing_seen m),
      unseen_many m,
      length_more b.spots (seen b.exit),
      later_is m (suc (suc here)),
    ) in
    let e1 : b.spots ++ seen b.exit ∷ map seen (unreached m (y ∷ p.states)) ≡ all ++ map seen p.states =
    ap (λ k. b.spots ++ seen b.exit ∷ k) (unreached_are m (y ∷ p.states))
    ∙ sym (append_assoc b.spots (seen b.exit ∷ []) (nothing_seen m ++ seen y ∷ map seen p.states))
    ∙ sym (append_assoc before (nothing_seen m) (seen y ∷ map seen p.states))
    ∙ sym (append_assoc arms (seen y ∷ []) (map seen p.states)) in
    ap (λ k. (record b { spots = k; exit = y; deep = max b.deep p.deep; left = deeper b.left p.left })) e1
    ∙ ap (λ n. (record b {
      spots = all ++ map seen (f n b.exit).states;
      exit = y;
      deep = max b.deep (f n b.exit).deep;
      left = deeper b.left (f n b.exit).left;
    })) (sym there)
