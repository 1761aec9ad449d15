-- What a walk that is put together of others adds to what is noted so far.
use Rattle.std.proofs.Common.{◌≡◌, ℕ, suc, ◌<◌, List, [], ◌∷◌, ◌++◌, length, map, max, Bool, true, false, cond}
use Rattle.std.proofs.Common.{Option, Some, None, refl, sym, ap, ◌∙◌, arith}
use Rattle.std.proofs.lemmas.List.{append_assoc, append-nil, map-append, length-append, length-map}
use Rattle.std.specs.Option.{option_map}
use Rattle.verse_base.proofs.Facts.{length_more}
use Rattle.verse_meaning.specs.Programs.{or_else}
use Rattle.verse_tree.specs.Tree.{Bytes}
use Rattle.verse_sorts.specs.Sorts as s
use Rattle.verse_sorts.specs.Sorts.{Sort}
use Rattle.lower_code.specs.Pieces.{behind}
use Rattle.lower_code.proofs.Standing.{behind_is}
use Rattle.lower_notes.specs.States.{State, Change, gives, pops, tried}
use Rattle.lower_notes.specs.Stretches.{Stretch, Walk, straight, nothing, one, same, last, ends, leave_loop, when, deeper}
use Rattle.lower_notes.specs.Stretches.{joined}
use Rattle.lower_notes.specs.Stretches.{◌then◌, ◌beside◌, beginning, giving, widened, ahead, over, always, attempt, either, either_try}
use Rattle.lower_notes.specs.Stretches.{either_same}
use Rattle.lower_notes.specs.Noting.{text_if}
use Rattle.note_stretches.specs.Noted.{Noted, marked, seen, resumed, stopped, changed, met, valued, loop_left, depth_noted, with_stretch}
use Rattle.note_stretches.specs.Noted.{walked}
use Rattle.note_stretches.specs.Forms.{tried_begun, other_begun}
use Rattle.note_stretches.proofs.Steps.{deeper_none}

-- Depths.
pub deeper_more : (a b c : Option ℕ) → deeper a (deeper b c) ≡ deeper (deeper a b) c
deeper_more None b c = refl
deeper_more (Some a) None c = refl
deeper_more (Some a) (Some b) None = refl
deeper_more (Some a) (Some b) (Some c) = let e : max a (max b c) ≡ max (max a b) c = omega arith in ap Some e

pub most_of : (n : ℕ) → max n 0 ≡ n
most_of n = omega arith

pub same_is : (x : Option State) → option_map same x ≡ x
same_is None = refl
same_is (Some x) = refl

pub spots_behind : (b : Noted) (xs : List (Option State)) → length (b.spots ++ map seen xs) ≡ behind xs (length b.spots)
spots_behind b xs = omega (arith, length-append b.spots (map seen xs), length-map xs seen, behind_is xs (length b.spots))

pub with_joined : (b : Noted) (p q : Stretch) → with_stretch b (joined p q) ≡ with_stretch (with_stretch b p) q
with_joined b p q =
    let e1 : b.spots ++ map seen (p.states ++ q.states) ≡ (b.spots ++ map seen p.states) ++ map seen q.states =
    ap (λ k. b.spots ++ k) (map-append seen p.states q.states) ∙ sym (append_assoc b.spots (map seen p.states) (map seen q.states)) in
    let e2 : max b.deep (max p.deep q.deep) ≡ max (max b.deep p.deep) q.deep = omega arith in
    let e3 : deeper b.left (deeper p.left q.left) ≡ deeper (deeper b.left p.left) q.left = deeper_more b.left p.left q.left in
    cc (e1, e2, e3)

-- One behind the other.
pub walked_then : (f g : Walk) (b : Noted) → walked (f then g) b ≡ walked g (walked f b)
unfolding walked
walked_then f g b =
    let p = f (length b.spots) b.exit in
    with_joined b p (g (behind p.states (length b.spots)) p.exit)
    ∙ ap (λ n. with_stretch (with_stretch b p) (g n p.exit)) (sym (spots_behind b p.states))

pub walked_beside : (f g : Walk) (b : Noted) → walked (f beside g) b ≡ walked g (resumed b.exit (walked f b))
unfolding walked resumed
walked_beside f g b =
    let p = f (length b.spots) b.exit in
    with_joined b p (g (behind p.states (length b.spots)) b.exit)
    ∙ ap (λ n. with_stretch (with_stretch b p) (g n b.exit)) (sym (spots_behind b p.states))

-- what a stretch of no depth adds
straight_is : (b : Noted) (xs : List (Option State)) (y : Option State) →
    with_stretch b (straight xs y) ≡ record b { spots = b.spots ++ map seen xs; exit = y }
straight_is b xs y =
    ap (λ n. record b { spots = b.spots ++ map seen xs; exit = y; deep = n; left = deeper b.left None }) (most_of b.deep)
    ∙ ap (λ n. record b { spots = b.spots ++ map seen xs; exit = y; left = n }) (deeper_none b.left)

pub walked_nothing : (b : Noted) → walked nothing b ≡ b
unfolding walked
walked_nothing b = straight_is b [] b.exit ∙ ap (λ k. record b { spots = k }) (append-nil b.spots)

pub walked_one : (h : Change) (b : Noted) → walked (one h) b ≡ changed h (marked b)
unfolding walked changed marked
walked_one h b = straight_is b (b.exit ∷ []) (option_map h b.exit)

pub walked_last : (b : Noted) → walked last b ≡ marked b
unfolding walked marked
walked_last b =
    straight_is b (b.exit ∷ []) (option_map same b.exit)
    ∙ ap (λ x. record b { spots = b.spots ++ seen b.exit ∷ []; exit = x }) (same_is b.exit)

pub walked_ends : (b : Noted) → walked ends b ≡ stopped (marked b)
unfolding walked stopped marked
walked_ends b = straight_is b (b.exit ∷ []) None

pub walked_leave_loop : (n : ℕ) (b : Noted) → walked (leave_loop n) b ≡ loop_left n b
unfolding walked stopped marked depth_noted
walked_leave_loop n b = refl

pub walked_when : (t : Bool) (f : Walk) (b : Noted) → walked (when t f) b ≡ cond t (walked f b) b
unfolding walked
walked_when true f b = refl
walked_when false f b = walked_nothing b

pub walked_when_true : (t : Bool) (f : Walk) (b : Noted) → t ≡ true → walked (when t f) b ≡ walked f b
walked_when_true t f b e = walked_when t f b ∙ ap (λ t. cond t (walked f b) b) e

pub walked_when_false : (t : Bool) (f : Walk) (b : Noted) → t ≡ false → walked (when t f) b ≡ b
walked_when_false t f b e = walked_when t f b ∙ ap (λ t. cond t (walked f b) b) e

-- a text of no bytes is not there
pub no_text : (bs : Bytes) (b : Noted) → length bs < 1 → walked (text_if bs) b ≡ b
no_text [] b h = walked_when_false false (one (gives 0 (s.list s.char))) b refl
no_text (x ∷ xs) b h = absurd (omega (arith, h))

-- What it begins with, and what stands behind it.
pub walked_beginning : (h : Change) (f : Walk) (b : Noted) → walked (beginning h f) b ≡ walked f (changed h b)
unfolding walked changed
walked_beginning h f b = refl

pub walked_giving : (a : Sort) (f : Walk) (b : Noted) → walked (giving a f) b ≡ valued a b.exit (walked f b)
unfolding walked valued
walked_giving a f b = refl

pub walked_widened : (a : Sort) (f : Walk) (b : Noted) → walked (widened a f) b ≡ changed (gives 1 a) (walked f b)
unfolding walked changed
walked_widened a f b = refl

pub changed_same : (b : Noted) → changed same b ≡ b
unfolding changed
changed_same b = ap (λ x. record b { exit = x }) (same_is b.exit)

-- Labels.
-- an operation, and a stretch behind it, which begins with x and behind which y stands
pub with_ahead : (f : Walk) (x y : Option State) (b : Noted) →
    with_stretch b (record {
      states = b.exit ∷ (f (suc (length b.spots)) x).states;
      exit = y;
      deep = (f (suc (length b.spots)) x).deep;
      left = (f (suc (length b.spots)) x).left;
    }) ≡ resumed y (walked f (resumed x (marked b)))
unfolding walked resumed marked
with_ahead f x y b =
    let spots = b.spots ++ seen b.exit ∷ [] in
    let p = f (suc (length b.spots)) x in
    ap (λ k. (record b { spots = k; exit = y; deep = max b.deep p.deep; left = deeper b.left p.left }))
    (sym (append_assoc b.spots (seen b.exit ∷ []) (map seen p.states)))
    ∙ ap (λ n. (record b {
      spots = spots ++ map seen (f n x).states;
      exit = y;
      deep = max b.deep (f n x).deep;
      left = deeper b.left (f n x).left;
    })) (sym (length_more b.spots (seen b.exit)))

pub walked_ahead : (into past : ℕ → Change) (f : Walk) (b : Noted) → walked (ahead into past f) b ≡
    resumed (option_map (past (length b.spots)) b.exit) (walked f (changed (into (length b.spots)) (marked b)))
unfolding walked resumed marked changed
walked_ahead into past f b =
    with_ahead f (option_map (into (length b.spots)) b.exit) (option_map (past (length b.spots)) b.exit) b

pub walked_over : (f : Walk) (b : Noted) → walked (over f) b ≡ resumed b.exit (walked f (stopped (marked b)))
unfolding walked resumed marked stopped
walked_over f b = with_ahead f None b.exit b

pub walked_attempt : (f : Walk) (b : Noted) → walked (attempt f) b ≡ resumed b.exit (walked f (tried_begun b))
walked_attempt f b =
    walked_ahead tried (always same) f b ∙ ap (λ x. resumed x (walked f (tried_begun b))) (same_is b.exit)

-- two stretches, the second of which begins with z
pub with_either : (f g : Walk) (x z : Option State) (b : Noted) →
    with_stretch b (record {
      states = b.exit ∷ (f (suc (length b.spots)) x).states ++ (f (suc (length b.spots)) x).exit ∷
          (g (suc (behind (f (suc (length b.spots)) x).states (suc (length b.spots)))) z).states;
      exit = or_else (f (suc (length b.spots)) x).exit
          (g (suc (behind (f (suc (length b.spots)) x).states (suc (length b.spots)))) z).exit;
      deep = max (f (suc (length b.spots)) x).deep
          (g (suc (behind (f (suc (length b.spots)) x).states (suc (length b.spots)))) z).deep;
      left = deeper (f (suc (length b.spots)) x).left
          (g (suc (behind (f (suc (length b.spots)) x).states (suc (length b.spots)))) z).left;
    }) ≡ met (walked f (resumed x (marked b))).exit (walked g (resumed z (marked (walked f (resumed x (marked b))))))
unfolding walked resumed marked met
with_either f g x z b =
    let here = length b.spots in
    let p = f (suc here) x in
    let at = suc (behind p.states (suc here)) in
    let q = g at z in
    let before = b.spots ++ seen b.exit ∷ [] in
    let first = before ++ map seen p.states in
    let behind_it = first ++ seen p.exit ∷ [] in
    let one_on : length before ≡ suc here = length_more b.spots (seen b.exit) in
    let there : length behind_it ≡ at =
    omega (
      arith,
      length_more first (seen p.exit),
      length-append before (map seen p.states),
      length-map p.states seen,
      behind_is p.states
          (suc here),
      one_on,
    ) in
    let e1 : b.spots ++ seen b.exit ∷ map seen (p.states ++ p.exit ∷ q.states) ≡ behind_it ++ map seen q.states =
    ap (λ k. b.spots ++ seen b.exit ∷ k) (map-append seen p.states (p.exit ∷ q.states))
    ∙ sym (append_assoc b.spots (seen b.exit ∷ []) (map seen p.states ++ seen p.exit ∷ map seen q.states))
    ∙ sym (append_assoc before (map seen p.states) (seen p.exit ∷ map seen q.states))
    ∙ sym (append_assoc first (seen p.exit ∷ []) (map seen q.states)) in
    let e2 : max b.deep (max p.deep q.deep) ≡ max (max b.deep p.deep) q.deep = omega arith in
    let e3 : deeper b.left (deeper p.left q.left) ≡ deeper (deeper b.left p.left) q.left = deeper_more b.left p.left q.left in
    ap (λ k. (record b {
      spots = k;
      exit = or_else p.exit q.exit;
      deep = max b.deep (max p.deep q.deep);
      left = deeper b.left (deeper p.left q.left);
    })) e1
    ∙ ap (λ k. (record b {
      spots = behind_it ++ map seen q.states;
      exit = or_else p.exit q.exit;
      deep = k;
      left = deeper b.left (deeper p.left q.left);
    })) e2
    ∙ ap (λ k. (record b {
      spots = behind_it ++ map seen q.states;
      exit = or_else p.exit q.exit;
      deep = max (max b.deep p.deep) q.deep;
      left = k;
    })) e3
    ∙ ap (λ n. (record b {
      spots = behind_it ++ map seen (g n z).states;
      exit = or_else p.exit (g n z).exit;
      deep = max (max b.deep p.deep) (g n z).deep;
      left = deeper (deeper b.left p.left) (g n z).left;
    })) (sym there)
    ∙ ap (λ m. (record b {
      spots = ((before ++ map seen (f m x).states) ++ seen (f m x).exit ∷ []) ++
          map seen (g (length ((before ++ map seen (f m x).states) ++ seen (f m x).exit ∷ [])) z).states;
      exit = or_else (f m x).exit (g (length ((before ++ map seen (f m x).states) ++ seen (f m x).exit ∷ [])) z).exit;
      deep = max (max b.deep (f m x).deep) (g (length ((before ++ map seen (f m x).states) ++ seen (f m x).exit ∷ [])) z).deep;
      left = deeper (deeper b.left (f m x).left) (g (length ((before ++ map seen (f m x).states) ++ seen (f m x).exit ∷ [])) z).left;
    })) (sym one_on)

pub walked_either : (into other : ℕ → Change) (f g : Walk) (b : Noted) → walked (either into other f g) b ≡
    met (walked f (changed (into (length b.spots)) (marked b))).exit
    (walked g (other_begun (option_map (other (length b.spots)) b.exit) (walked f (changed (into (length b.spots)) (marked b)))))
unfolding walked resumed marked met changed
walked_either into other f g b =
    with_either f g (option_map (into (length b.spots)) b.exit) (option_map (other (length b.spots)) b.exit) b

pub walked_either_try : (f g : Walk) (b : Noted) → walked (either_try f g) b ≡
    met (walked f (tried_begun b)).exit (walked g (other_begun b.exit (walked f (tried_begun b))))
walked_either_try f g b =
    walked_either tried (always same) f g b
    ∙ ap (λ x. met (walked f (tried_begun b)).exit (walked g (other_begun x (walked f (tried_begun b))))) (same_is b.exit)

pub walked_either_same : (f g : Walk) (b : Noted) → walked (either_same f g) b ≡
    met (walked f (changed (pops 2) (marked b))).exit
    (walked g (other_begun (option_map (pops 2) b.exit) (walked f (changed (pops 2) (marked b)))))
walked_either_same f g b = walked_either (always (pops 2)) (always (pops 2)) f g b
