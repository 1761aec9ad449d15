-- What the toks of a writing are, as a function of it.
use Rattle.std.proofs.Common.{◌≡◌, Bool, true, false, not, ◌&&◌, ◌||◌, if◌then◌else◌, List, [], ◌∷◌, ◌++◌, Option, Some, None, refl, sym}
use Rattle.std.proofs.Common.{◌∙◌, ap, subst, append_assoc, append-nil}
use Rattle.verse_layout.specs.declared.toks.Tok.{Tok}
use Rattle.verse_layout.specs.Written.{Written, tok, sep, no_sep, is_open, is_close, is_gap, has_no_sep, gap_sep, sep_between, SpacedBehind}
use Rattle.verse_layout.specs.Written.{last_gap, next_tok, Spaced, only_gap, first_tok}
use Rattle.verse_layout.specs.Answers.{first_sep, kept_sep, spaced}

abbrev listed : Option Tok → List Tok
listed None = []
listed (Some s) = s ∷ []

-- the Sep that waits behind a gap
abbrev pub waits : Option Tok → List Written → Option Tok
waits w [] = w
waits w (sep s ∷ ws) = waits (first_sep w s) ws
waits w (no_sep ∷ ws) = waits None ws
waits w (tok k ∷ ws) = waits None ws

-- whether a Sep may stand there
abbrev pub can_behind : Bool → List Written → Bool
can_behind can [] = can
can_behind can (tok k ∷ ws) = can_behind (not (is_open k.kind)) ws
can_behind can (sep s ∷ ws) = can_behind can ws
can_behind can (no_sep ∷ ws) = can_behind can ws

kept_false : (w : Option Tok) → kept_sep false w ≡ []
kept_false None = refl
kept_false (Some s) = refl

if_same : {A : Type 0} (b : Bool) (x y z : A) → (if b then x else z) ≡ (if b then (if b then x else y) else z)
if_same true x y z = refl
if_same false x y z = refl

mutual
  gap_none : (ws : List Written) → is_gap ws ≡ true → listed (waits None ws) ≡ gap_sep ws
  gap_none [] g = refl
  gap_none (sep s ∷ ws) g = gap_some ws s g
  gap_none (no_sep ∷ ws) g = gap_none ws g
  gap_none (tok k ∷ ws) g = absurd (cc)

  gap_some : (ws : List Written) (s : Tok) → is_gap ws ≡ true → listed (waits (Some s) ws) ≡ (if has_no_sep ws then gap_sep ws else s ∷ [])
  gap_some [] s g = refl
  gap_some (sep r ∷ ws) s g = gap_some ws s g ∙ if_same (has_no_sep ws) (gap_sep ws) (r ∷ []) (s ∷ [])
  gap_some (no_sep ∷ ws) s g = gap_none ws g
  gap_some (tok k ∷ ws) s g = absurd (cc)

between : (o c : Bool) (w : Option Tok) (xs : List Tok) → listed w ≡ xs → (if o || c then [] else xs) ≡ kept_sep (not o && not c) w
between true c w xs e = sym (kept_false w)
between false true w xs e = sym (kept_false w)
between false false None xs e = sym e
between false false (Some s) xs e = sym e

spaced_end : (can : Bool) (w : Option Tok) (gap : List Written) → is_gap gap ≡ true → spaced can w gap ≡ []
spaced_end can w [] g = refl
spaced_end can w (sep s ∷ ws) g = spaced_end can (first_sep w s) ws g
spaced_end can w (no_sep ∷ ws) g = spaced_end can None ws g
spaced_end can w (tok k ∷ ws) g = absurd (cc)

spaced_tok : (can : Bool) (w : Option Tok) (gap : List Written) (k : Tok) (ws : List Written) → is_gap gap ≡ true →
    spaced can w (gap ++ tok k ∷ ws) ≡ kept_sep (can && not (is_close k.kind)) (waits w gap) ++ k ∷ spaced (not (is_open k.kind)) None ws
spaced_tok can w [] k ws g = refl
spaced_tok can w (sep s ∷ gap) k ws g = spaced_tok can (first_sep w s) gap k ws g
spaced_tok can w (no_sep ∷ gap) k ws g = spaced_tok can None gap k ws g
spaced_tok can w (tok j ∷ gap) k ws g = absurd (cc)

sep_is : (j : Tok) (gap : List Written) (k : Tok) → is_gap gap ≡ true →
    sep_between j gap k ≡ kept_sep (not (is_open j.kind) && not (is_close k.kind)) (waits None gap)
sep_is j gap k g = between (is_open j.kind) (is_close k.kind) (waits None gap) (gap_sep gap) (gap_none gap g)

behind_is : {j : Tok} {ws : List Written} {ks : List Tok} → SpacedBehind j ws ks → ks ≡ spaced (not (is_open j.kind)) None ws
behind_is {j = j} (last_gap {gap = gap} g) = sym (spaced_end (not (is_open j.kind)) None gap g)
behind_is {j = j} (next_tok {k = k} gap {ws = ws} {ks = ks} g r) =
    ap (λ xs. xs ++ k ∷ ks) (sep_is j gap k g)
    ∙ ap (λ xs. kept_sep (not (is_open j.kind) && not (is_close k.kind)) (waits None gap) ++ k ∷ xs) (behind_is r)
    ∙ sym (spaced_tok (not (is_open j.kind)) None gap k ws g)

pub spaced_is : {ws : List Written} {ks : List Tok} → Spaced ws ks → ks ≡ spaced false None ws
spaced_is (only_gap {gap = gap} g) = sym (spaced_end false None gap g)
spaced_is (first_tok {k = k} gap {ws = ws} {ks = ks} g r) =
    ap (λ xs. k ∷ xs) (behind_is r)
    ∙ ap (λ xs. xs ++ k ∷ spaced (not (is_open k.kind)) None ws) (sym (kept_false (waits None gap)))
    ∙ sym (spaced_tok false None gap k ws g)

gap_more : (gap : List Written) (w : Written) → is_gap gap ≡ true → is_gap (w ∷ []) ≡ true → is_gap (gap ++ w ∷ []) ≡ true
gap_more [] w g h = h
gap_more (sep s ∷ gap) w g h = gap_more gap w g h
gap_more (no_sep ∷ gap) w g h = gap_more gap w g h
gap_more (tok k ∷ gap) w g h = absurd (cc)

waits_sep : (v : Option Tok) (gap : List Written) (s : Tok) → waits v (gap ++ sep s ∷ []) ≡ first_sep (waits v gap) s
waits_sep v [] s = refl
waits_sep v (sep r ∷ gap) s = waits_sep (first_sep v r) gap s
waits_sep v (no_sep ∷ gap) s = waits_sep None gap s
waits_sep v (tok k ∷ gap) s = waits_sep None gap s

waits_no_sep : (v : Option Tok) (gap : List Written) → waits v (gap ++ no_sep ∷ []) ≡ None
waits_no_sep v [] = refl
waits_no_sep v (sep r ∷ gap) = waits_no_sep (first_sep v r) gap
waits_no_sep v (no_sep ∷ gap) = waits_no_sep None gap
waits_no_sep v (tok k ∷ gap) = waits_no_sep None gap

from_gap : (j : Tok) (gap ws : List Written) → is_gap gap ≡ true →
    SpacedBehind j (gap ++ ws) (spaced (not (is_open j.kind)) (waits None gap) ws)
from_gap j gap [] g = subst (λ us. SpacedBehind j us []) (sym (append-nil gap)) (last_gap g)
from_gap j gap (sep s ∷ ws) g =
    let more = from_gap j (gap ++ sep s ∷ []) ws (gap_more gap (sep s) g refl) in
    subst (λ w. SpacedBehind j (gap ++ sep s ∷ ws) (spaced (not (is_open j.kind)) w ws)) (waits_sep None gap s)
    (subst (λ us. SpacedBehind j us (spaced (not (is_open j.kind)) (waits None (gap ++ sep s ∷ [])) ws))
    (append_assoc gap (sep s ∷ []) ws) more)
from_gap j gap (no_sep ∷ ws) g =
    let more = from_gap j (gap ++ no_sep ∷ []) ws (gap_more gap no_sep g refl) in
    subst (λ w. SpacedBehind j (gap ++ no_sep ∷ ws) (spaced (not (is_open j.kind)) w ws)) (waits_no_sep None gap)
    (subst (λ us. SpacedBehind j us (spaced (not (is_open j.kind)) (waits None (gap ++ no_sep ∷ [])) ws))
    (append_assoc gap (no_sep ∷ []) ws) more)
from_gap j gap (tok k ∷ ws) g =
    subst (λ xs. SpacedBehind j (gap ++ tok k ∷ ws) (xs ++ k ∷ spaced (not (is_open k.kind)) None ws)) (sep_is j gap k g)
    (next_tok gap g (from_gap k [] ws refl))

first_gap : (gap ws : List Written) → is_gap gap ≡ true → Spaced (gap ++ ws) (spaced false (waits None gap) ws)
first_gap gap [] g = subst (λ us. Spaced us []) (sym (append-nil gap)) (only_gap g)
first_gap gap (sep s ∷ ws) g =
    let more = first_gap (gap ++ sep s ∷ []) ws (gap_more gap (sep s) g refl) in
    subst (λ w. Spaced (gap ++ sep s ∷ ws) (spaced false w ws)) (waits_sep None gap s)
    (subst (λ us. Spaced us (spaced false (waits None (gap ++ sep s ∷ [])) ws)) (append_assoc gap (sep s ∷ []) ws) more)
first_gap gap (no_sep ∷ ws) g =
    let more = first_gap (gap ++ no_sep ∷ []) ws (gap_more gap no_sep g refl) in
    subst (λ w. Spaced (gap ++ no_sep ∷ ws) (spaced false w ws)) (waits_no_sep None gap)
    (subst (λ us. Spaced us (spaced false (waits None (gap ++ no_sep ∷ [])) ws)) (append_assoc gap (no_sep ∷ []) ws) more)
first_gap gap (tok k ∷ ws) g =
    subst (λ xs. Spaced (gap ++ tok k ∷ ws) (xs ++ k ∷ spaced (not (is_open k.kind)) None ws)) (sym (kept_false (waits None gap)))
    (first_tok gap g (from_gap k [] ws refl))

pub is_spaced : (ws : List Written) → Spaced ws (spaced false None ws)
is_spaced ws = first_gap [] ws refl

pub spaced_append : (can : Bool) (w : Option Tok) (ws us : List Written) →
    spaced can w (ws ++ us) ≡ spaced can w ws ++ spaced (can_behind can ws) (waits w ws) us
spaced_append can w [] us = refl
spaced_append can w (sep s ∷ ws) us = spaced_append can (first_sep w s) ws us
spaced_append can w (no_sep ∷ ws) us = spaced_append can None ws us
spaced_append can w (tok k ∷ ws) us =
    let kept = kept_sep (can && not (is_close k.kind)) w in
    let more = spaced (not (is_open k.kind)) None ws in
    ap (λ xs. kept ++ k ∷ xs) (spaced_append (not (is_open k.kind)) None ws us)
    ∙ sym (append_assoc kept (k ∷ more) (spaced (can_behind (not (is_open k.kind)) ws) (waits None ws) us))
