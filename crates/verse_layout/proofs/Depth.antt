-- Toks that bring the load above its bound, and those that cannot.
use Rattle.std.proofs.Common.{◌≡◌, ◌<◌, ◌≤◌, ◌+◌, ◌⊎◌, inl, inr, Bool, true, false, not, ◌&&◌, List, [], ◌∷◌, ◌++◌, ℕ, Option, Some, None}
use Rattle.std.proofs.Common.{refl, sym, ◌∙◌, ap, subst, append_assoc, arith, nat_le, if◌then◌else◌}
use Rattle.std.proofs.lemmas.Bool.{leb-true, leb-false}
use Rattle.verse_base.specs.declared.limits.TheConstants.{MOST_LOAD}
use Rattle.verse_base.specs.declared.refusals.Refusal.{Refusal}
use Rattle.verse_layout.specs.declared.toks.Tok.{Tok}
use Rattle.verse_layout.specs.declared.toks.TokKind.{TokKind}
use Rattle.verse_layout.specs.declared.toks.TokKind.TheVariants as t
use Rattle.verse_layout.specs.declared.loads.Count.{Count}
use Rattle.verse_layout.specs.declared.loads.Weight.{Weight}
use Rattle.verse_layout.specs.declared.loads.Weight.TheVariants.{Keeps, Adds, Begins, Ends, Resets, ResetsHole}
use Rattle.verse_layout.specs.declared.rules.TheConstants.{NESTING}
use Rattle.verse_layout.specs.Weights.{weight_of}
use Rattle.verse_layout.specs.Loads.{Counts, load, moved, more, reset, reset_hole, sum_of, after_tok, at_start}
use Rattle.verse_layout.specs.Layouts.{IsWithin}
use Rattle.verse_layout.specs.Written.{Written, tok, sep, no_sep, is_open, is_close, refusal}
use Rattle.verse_layout.specs.Answers.{first_sep, kept_sep, spaced}
use Rattle.verse_layout.specs.Refusals.{IsTooDeep, loaded}
use Rattle.verse_layout.proofs.OpenBrackets.{Splits, first_shorter, first_longer, splits}
use Rattle.verse_layout.proofs.Outcomes.{Ending, AllAt}

abbrev AllSome : List Count → Type 0
AllSome [] = Unit {0}
AllSome (c ∷ cs) = (1 ≤ c.count) × AllSome cs

-- every count is at least 1
record Positive (s : Counts) : Type 0 where
  inner : 1 ≤ s.inner.count
  outer : AllSome s.outer

hole_some : (cs : List Count) → AllSome cs → AllSome (reset_hole cs)
hole_some [] a = tt
hole_some (c ∷ cs) a = by_hole c.is_hole (hole_some cs a.1)
  where
    by_hole : (b : Bool) → AllSome (reset_hole cs) → AllSome (if b then reset c ∷ cs else c ∷ reset_hole cs)
    by_hole true tail = (omega arith, a.1)
    by_hole false tail = (a.0, tail)

moved_positive : (w : Weight) (s : Counts) → Positive s → Positive (moved w s)
moved_positive Keeps s p = p
moved_positive Adds s p = record { inner = omega arith; outer = p.outer }
moved_positive (Begins b) s p = record { inner = omega arith; outer = (omega arith, p.outer) }
moved_positive Resets s p = record { inner = omega arith; outer = p.outer }
moved_positive Ends s p = by_outer s.outer p.outer
  where
    by_outer : (cs : List Count) → AllSome cs → Positive (moved Ends (record { inner = s.inner; outer = cs }))
    by_outer [] a = record { inner = p.inner; outer = tt }
    by_outer (c ∷ cs) a = record { inner = a.0; outer = a.1 }
moved_positive ResetsHole s p = by_hole s.inner.is_hole
  where
    by_hole : (b : Bool) → Positive (if b then record { inner = reset s.inner; outer = s.outer } else
        record { inner = s.inner; outer = reset_hole s.outer })
    by_hole true = record { inner = omega arith; outer = p.outer }
    by_hole false = record { inner = p.inner; outer = hole_some s.outer p.outer }

start_positive : Positive at_start
start_positive = record { inner = omega arith; outer = tt }

start_within : load at_start ≤ MOST_LOAD
start_within = omega arith

-- a Close or a Sep
abbrev pub Light : Tok → Type 0
Light k = (is_close k.kind ≡ true) ⊎ (k.kind ≡ t.Sep)

close_weight : (k : TokKind) → is_close k ≡ true → weight_of k ≡ Ends
close_weight t.Close e = refl
close_weight t.Open e = absurd (cc)
close_weight t.Sep e = absurd (cc)
close_weight (t.Plain x) e = absurd (cc)

ends_less : (s : Counts) → load (moved Ends s) ≤ load s
ends_less s = by_outer s.outer
  where
    by_outer : (cs : List Count) → load (moved Ends (record { inner = s.inner; outer = cs })) ≤ s.inner.count + sum_of cs
    by_outer [] = omega arith
    by_outer (c ∷ cs) = omega arith

light_less : (s : Counts) (k : Tok) → Positive s → Light k → load (after_tok k s) ≤ load s
light_less s k p (inl e) = let h = ends_less s in let g = ap (λ w. load (moved w s)) (close_weight k.kind e) in omega arith
light_less s k p (inr e) = let one = p.inner in let g = ap (λ x. load (moved (weight_of x) s)) e in omega arith

record Held (s : Counts) : Type 0 where
  positive : Positive s
  within : load s ≤ MOST_LOAD

held : (s : Counts) (ks : List Tok) → Held s → IsWithin s ks → Held (loaded s ks)
held s [] h w = h
held s (k ∷ ks) h w = held (after_tok k s) ks (record { positive = moved_positive (weight_of k.kind) s h.positive; within = w.0 }) w.1

not_deep : (ks : List Tok) (k : Tok) → IsWithin at_start ks → Light k → MOST_LOAD < load (after_tok k (loaded at_start ks)) → ⊥
not_deep ks k w l above =
    let h = held at_start ks (record { positive = start_positive; within = start_within }) w in
    let less = light_less (loaded at_start ks) k h.positive l in
    let within = h.within in
    omega arith

-- something holds of each tok
abbrev pub Each : (Tok → Type 0) → List Tok → Type 0
Each P [] = Unit {0}
Each P (k ∷ ks) = P k × Each P ks

each_append : (P : Tok → Type 0) (ks js : List Tok) → Each P ks → Each P js → Each P (ks ++ js)
each_append P [] js a b = b
each_append P (k ∷ ks) js a b = (a.0, each_append P ks js a.1 b)

each_at : (P : Tok → Type 0) (ks ms js : List Tok) (k : Tok) → Each P ks → ks ≡ ms ++ k ∷ js → P k
each_at P [] [] js k a e = absurd (cc)
each_at P [] (m ∷ ms) js k a e = absurd (cc)
each_at P (x ∷ ks) [] js k a e = let f : x ≡ k = cc in subst P f a.0
each_at P (x ∷ ks) (m ∷ ms) js k a e = let f : ks ≡ ms ++ k ∷ js = cc in each_at P ks ms js k a.1 f

close_falls : (can : Bool) (w : Option Tok) → kept_sep (can && false) w ≡ []
close_falls true None = refl
close_falls true (Some s) = refl
close_falls false None = refl
close_falls false (Some s) = refl

-- where nothing but Closes is written, no tok is heavy
pub ending_light : (can : Bool) (w : Option Tok) (vs : List Written) → Ending vs → Each Light (spaced can w vs)
ending_light can w [] e = tt
ending_light can w (sep s ∷ vs) e = ending_light can (first_sep w s) vs e
ending_light can w (no_sep ∷ vs) e = ending_light can None vs e
ending_light can w (tok k ∷ vs) e =
    let more = ending_light (not (is_open k.kind)) None vs e.1 in
    let falls : kept_sep (can && not (is_close k.kind)) w ≡ [] = ap (λ b. kept_sep (can && not b) w) e.0 ∙ close_falls can w in
    subst (λ ks. Each Light (ks ++ k ∷ spaced (not (is_open k.kind)) None vs)) (sym falls) (inl e.0, more)

-- a tok too deep stands before those that are not heavy
pub deep_front : (ks js : List Tok) (r : Refusal) → Each Light js → IsTooDeep at_start (ks ++ js) r → IsTooDeep at_start ks r
deep_front ks js r light d = by_split (splits d.before (d.tok ∷ d.behind) ks js (sym d.split))
  where
    heavy : (ms ns : List Tok) → js ≡ ms ++ d.tok ∷ ns → ⊥
    heavy ms ns e = not_deep d.before d.tok d.within (each_at Light js ms ns d.tok light e) d.above

    by_rest : (ms : List Tok) → ks ≡ d.before ++ ms → d.tok ∷ d.behind ≡ ms ++ js → IsTooDeep at_start ks r
    by_rest [] e f = absurd (heavy [] d.behind (sym f))
    by_rest (m ∷ ms) e f =
        let same : m ≡ d.tok = cc in
        record {
          before = d.before;
          tok = d.tok;
          behind = ms;
          split = e ∙ ap (λ x. d.before ++ x ∷ ms) same;
          within = d.within;
          above =
              d.above;
          refused = d.refused;
        }

    by_split : Splits d.before (d.tok ∷ d.behind) ks js → IsTooDeep at_start ks r
    by_split (first_shorter ms e f) = by_rest ms e f
    by_split (first_longer ms e f) = absurd (heavy ms d.behind f)

pub within_front : (s : Counts) (ks js : List Tok) → IsWithin s (ks ++ js) → IsWithin s ks
within_front s [] js w = tt
within_front s (k ∷ ks) js w = (w.0, within_front (after_tok k s) ks js w.1)

pub within_at : (s : Counts) (ks js : List Tok) (k : Tok) → IsWithin s (ks ++ k ∷ js) → load (after_tok k (loaded s ks)) ≤ MOST_LOAD
within_at s [] js k w = w.0
within_at s (x ∷ ks) js k w = within_at (after_tok x s) ks js k w.1

-- toks are within the load, or one of them is too deep
pub data Judged (s : Counts) (ks : List Tok) : Type 0 where
  all_within : IsWithin s ks → Judged s ks
  one_deep : (r : Refusal) → IsTooDeep s ks r → Judged s ks

pub judged : (s : Counts) (ks : List Tok) → Judged s ks
judged s [] = all_within tt
judged s (k ∷ ks) = by_test (nat_le (load (after_tok k s)) MOST_LOAD) refl (judged (after_tok k s) ks)
  where
    by_rest : load (after_tok k s) ≤ MOST_LOAD → Judged (after_tok k s) ks → Judged s (k ∷ ks)
    by_rest h (all_within w) = all_within (h, w)
    by_rest h (one_deep r d) = one_deep r (record {
      before = k ∷ d.before;
      tok = d.tok;
      behind = d.behind;
      split = ap (λ y. k ∷ y) d.split;
      within = (h, d.within);
      above =
          d.above;
      refused = d.refused;
    })

    by_test : (b : Bool) → nat_le (load (after_tok k s)) MOST_LOAD ≡ b → Judged (after_tok k s) ks → Judged s (k ∷ ks)
    by_test true h more = by_rest (leb-true _ MOST_LOAD h) more
    by_test false h more = one_deep (refusal NESTING k.place)
        (record { before = []; tok = k; behind = ks; split = refl; within = tt; above = leb-false _ MOST_LOAD h; refused = refl })

-- a Sep, or a tok at this offset
abbrev pub Stands : ℕ → Tok → Type 0
Stands n k = (k.kind ≡ t.Sep) ⊎ (k.start ≡ n)

abbrev pub WaitsSep : Option Tok → Type 0
WaitsSep None = Unit {0}
WaitsSep (Some s) = s.kind ≡ t.Sep

first_waits : (w : Option Tok) (s : Tok) → WaitsSep w → s.kind ≡ t.Sep → WaitsSep (first_sep w s)
first_waits None s a b = b
first_waits (Some r) s a b = a

kept_stands : (n : ℕ) (b : Bool) (w : Option Tok) → WaitsSep w → Each (Stands n) (kept_sep b w)
kept_stands n true None a = tt
kept_stands n true (Some s) a = (inl a, tt)
kept_stands n false None a = tt
kept_stands n false (Some s) a = tt

pub spaced_at : (n : ℕ) (can : Bool) (w : Option Tok) (us : List Written) → WaitsSep w → AllAt n us → Each (Stands n) (spaced can w us)
spaced_at n can w [] a b = tt
spaced_at n can w (sep s ∷ us) a b = spaced_at n can (first_sep w s) us (first_waits w s a b.0.1) b.1
spaced_at n can w (no_sep ∷ us) a b = spaced_at n can None us tt b.1
spaced_at n can w (tok k ∷ us) a b =
    each_append (Stands n) (kept_sep (can && not (is_close k.kind)) w) _ (kept_stands n (can && not (is_close k.kind)) w a)
    (inr b.0, spaced_at n (not (is_open k.kind)) None us tt b.1)

-- where a tok of these stands
data Where (k : Tok) (ks bs before : List Tok) : Type 0 where
  in_first : (ms : List Tok) → ks ≡ before ++ k ∷ ms → Where k ks bs before
  in_second : (ms ns : List Tok) → bs ≡ ms ++ k ∷ ns → Where k ks bs before

where_is : (k : Tok) (ks bs before behind : List Tok) → ks ++ bs ≡ before ++ k ∷ behind → Where k ks bs before
where_is k ks bs before behind e = by_split (splits ks bs before (k ∷ behind) e)
  where
    by_rest : (ms : List Tok) → ks ≡ before ++ ms → k ∷ behind ≡ ms ++ bs → Where k ks bs before
    by_rest [] f g = in_second [] behind (sym g)
    by_rest (m ∷ ms) f g = let same : m ≡ k = cc in in_first ms (f ∙ ap (λ x. before ++ x ∷ ms) same)

    by_split : Splits ks bs before (k ∷ behind) → Where k ks bs before
    by_split (first_shorter ms f g) = in_second ms behind g
    by_split (first_longer ms f g) = by_rest ms f g

-- Two lists go on in different ways behind the same toks: what both begin with is within the load where those toks are.
pub both_within : (ks front ls ls' bs bs' : List Tok) → IsWithin at_start front → Each (Stands 0) bs → Each (Stands 1) bs' →
    front ++ bs ≡ ks ++ ls → front ++ bs' ≡ ks ++ ls' → IsWithin at_start ks
both_within ks front ls ls' bs bs' w a b e f = by_judged (judged at_start ks)
  where
    no_tok : (r : Refusal) (d : IsTooDeep at_start ks r) → Where d.tok front bs d.before → Where d.tok front bs' d.before → ⊥
    no_tok r d (in_first ms g) y = let h = within_at at_start d.before ms d.tok (subst (IsWithin at_start) g w) in let over = d.above in
        omega arith
    no_tok r d (in_second ms ns g) (in_first ls g') = let h = within_at at_start d.before ls d.tok (subst (IsWithin at_start) g' w) in
        let over = d.above in omega arith
    no_tok r d (in_second ms ns g) (in_second ms' ns' g') =
        by_stands (each_at (Stands 0) bs ms ns d.tok a g) (each_at (Stands 1) bs' ms' ns' d.tok b g')
      where
        by_stands : Stands 0 d.tok → Stands 1 d.tok → ⊥
        by_stands (inl s) y = not_deep d.before d.tok d.within (inr s) d.above
        by_stands (inr x) (inl s) = not_deep d.before d.tok d.within (inr s) d.above
        by_stands (inr x) (inr y) = omega arith

    whole : (r : Refusal) (d : IsTooDeep at_start ks r) (ns : List Tok) → ks ++ ns ≡ d.before ++ d.tok ∷ (d.behind ++ ns)
    whole r d ns = ap (λ x. x ++ ns) d.split ∙ append_assoc d.before (d.tok ∷ d.behind) ns

    by_judged : Judged at_start ks → IsWithin at_start ks
    by_judged (all_within x) = x
    by_judged (one_deep r d) =
        absurd (no_tok r d (where_is d.tok front bs d.before (d.behind ++ ls) (e ∙ whole r d ls))
        (where_is d.tok front bs' d.before (d.behind ++ ls') (f ∙ whole r d ls')))
