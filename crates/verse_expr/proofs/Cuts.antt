-- What stands before the tok on which a rule sticks is nothing that the rule reads.
use Rattle.std.proofs.Common.{◌≡◌, ◌≢◌, ℕ, zero, suc, ◌+◌, ◌-◌, ◌≤◌, true, List, [], ◌∷◌, length, take, refl, sym, ap, subst, ◌∙◌, arith}
use Rattle.verse_layout.specs.declared.toks.TokKind.{TokKind}
use Rattle.verse_layout.specs.declared.toks.Tok.{Tok}
use Rattle.verse_grammar.specs.Toks.{ahead}
use Rattle.verse_grammar.specs.Begins.{IsWhole, a_phrase}
use Rattle.verse_grammar.specs.declared.phrases.Phrase.{Phrase}
use Rattle.verse_grammar.specs.Symbols.{Rule, Symbol, a, rule, takes, becomes, refuses, predict, program, phrase}
use Rattle.verse_grammar.specs.Reading.{Eats, eats_none, eats_tok, eats_rule, EatsRule, eats_takes, eats_becomes, Sticks, sticks_here}
use Rattle.verse_grammar.specs.Reading.{sticks_behind_tok, sticks_in_rule, sticks_behind_rule, SticksRule, sticks_refused, sticks_takes}
use Rattle.verse_grammar.specs.Reading.{sticks_becomes}
use Rattle.verse_grammar.proofs.CompletingStops.{whole_eaten}
use Rattle.verse_grammar.proofs.Moves.{becomes_becomes, takes_takes, takes_becomes, takes_refuses, becomes_refuses}
use Rattle.verse_grammar.proofs.Local.{predict_ahead, rule_within, sticks_rule_within}
use Rattle.verse_expr.proofs.Suffixes.{stuck_inside}
use Rattle.verse_expr.proofs.AtOnce.{at_once}
use Rattle.verse_expr.proofs.Plain.{plain, takes_plain, becomes_plain, plain_parts}

-- the toks but for the last so many
data Cut (left : ℕ) : List Tok → List Tok → Type 0 where
  cut_here : {ks : List Tok} → length ks ≡ left → Cut left ks []
  cut_more : {k : Tok} {ks ls : List Tok} → Cut left ks ls → Cut left (k ∷ ks) (k ∷ ls)

cut_of : (n left : ℕ) (ks : List Tok) → n + left ≡ length ks → Cut left ks (take n ks)
cut_of zero left [] e = cut_here (omega arith)
cut_of zero left (k ∷ ks) e = cut_here (omega arith)
cut_of (suc n) left [] e = absurd (omega arith)
cut_of (suc n) left (k ∷ ks) e = cut_more (cut_of n left ks (omega arith))

data CutStep (left : ℕ) (k : Tok) (ks : List Tok) : List Tok → Type 0 where
  cut_step : {ls : List Tok} → Cut left ks ls → CutStep left k ks (k ∷ ls)

step : {left : ℕ} {k : Tok} {ks ls : List Tok} → left ≤ length ks → Cut left (k ∷ ks) ls → CutStep left k ks ls
step n (cut_here h) = absurd (omega arith)
step n (cut_more c) = cut_step c

data CutView (left : ℕ) (ks ls : List Tok) : Type 0 where
  at_end : ls ≡ [] → length ks ≡ left → CutView left ks ls
  goes_on : ahead ks ≡ ahead ls → CutView left ks ls

view : {left : ℕ} {ks ls : List Tok} → Cut left ks ls → CutView left ks ls
view (cut_here h) = at_end refl h
view (cut_more c) = goes_on refl

cut_length : {left : ℕ} {ks ls : List Tok} → Cut left ks ls → length ls + left ≡ length ks
cut_length (cut_here h) = omega arith
cut_length (cut_more c) = let i = cut_length c in omega arith

nothing : (ls : List Tok) → length ls ≤ 0 → ls ≡ []
nothing [] h = refl
nothing (l ∷ ls) h = absurd (omega arith)

no_tok : {kind : TokKind} {Xs : List Symbol} {ls rest : List Tok} → length ls ≤ 0 → Eats (a kind ∷ Xs) ls rest → ⊥
no_tok h (eats_tok e y) = omega arith

none_eaten : {left : ℕ} {ks ls rest : List Tok} → Cut left ks ls → Eats [] ls rest → Cut left ks rest
none_eaten c eats_none = c

tok_cut : {left : ℕ} {Xs : List Symbol} {kind : TokKind} {k : Tok} {ks ms ls rest : List Tok} →
    ((ns : List Tok) → Cut left ks ns → Eats Xs ns rest → Cut left ms rest) → CutStep left k ks ls → Eats (a kind ∷ Xs) ls rest →
    Cut left ms rest
tok_cut f (cut_step c) (eats_tok e y) = f _ c y

rule_cut : {left : ℕ} {r : Rule} {Xs : List Symbol} {ms ls rest : List Tok} →
    ((ns : List Tok) → EatsRule r ls ns → Eats Xs ns rest → Cut left ms rest) → Eats (rule r ∷ Xs) ls rest → Cut left ms rest
rule_cut f (eats_rule {ls = ns} d y) = f ns d y

takes_cut : {left : ℕ} {r : Rule} {Ys : List Symbol} {k : Tok} {ks ms ls rest : List Tok} → predict r (k ∷ ks) ≡ takes Ys →
    ((ns : List Tok) → Cut left ks ns → Eats Ys ns rest → Cut left ms rest) → CutStep left k ks ls → EatsRule r ls rest → Cut left ms rest
takes_cut {r = r} {k = k} {ks = ks} {rest = rest} e f (cut_step {ls = ns} c) (eats_takes g y) =
    f ns c (subst (λ (Xs : List Symbol). Eats Xs ns rest) (takes_takes g (predict_ahead r (k ∷ ns) (k ∷ ks) refl ∙ e)) y)
takes_cut {r = r} {k = k} {ks = ks} e f (cut_step {ls = ns} c) (eats_becomes g y) =
    absurd (takes_becomes (predict_ahead r (k ∷ ns) (k ∷ ks) refl ∙ e) g)

becomes_cut : {left : ℕ} {r : Rule} {Ys : List Symbol} {ks ms ls rest : List Tok} → predict r ks ≡ becomes Ys → length ms ≤ length ks →
    left ≤ length ms → (Eats Ys ls rest → Cut left ms rest) → CutView left ks ls → EatsRule r ls rest → Cut left ms rest
becomes_cut {left = left} {ms = ms} {ls = ls} {rest = rest} e m n f (at_end h i) y =
    let j : length rest ≤ length ls = rule_within y in
    let z : length ls ≡ 0 = ap length h in
    subst (λ (ns : List Tok). Cut left ms ns) (sym (nothing rest (omega arith))) (cut_here (omega arith))
becomes_cut {r = r} {ks = ks} e m n f (goes_on h) (eats_takes {k = k} {ks = ns} g y) =
    absurd (takes_becomes g (predict_ahead r (k ∷ ns) ks (sym h) ∙ e))
becomes_cut {r = r} {ks = ks} {ls = ls} {rest = rest} e m n f (goes_on h) (eats_becomes g y) =
    f (subst (λ (Xs : List Symbol). Eats Xs ls rest) (becomes_becomes g (predict_ahead r ls ks (sym h) ∙ e)) y)

-- what is left of the first toks is what is left, but for as many
mutual
  eats_cut : {Xs : List Symbol} {ks ms : List Tok} → Eats Xs ks ms → (left : ℕ) (ls rest : List Tok) → left ≤ length ms → Cut left ks ls →
      Eats Xs ls rest → Cut left ms rest
  eats_cut eats_none left ls rest n c y = none_eaten c y
  eats_cut (eats_tok {ks = ks} {rest = ms} e x) left ls rest n c y =
      let i : length ms ≤ length ks = eats_within x in
      tok_cut (λ ns d z. eats_cut x left ns rest n d z) (step (omega arith) c) y
  eats_cut (eats_rule d x) left ls rest n c y =
      let i = eats_within x in
      rule_cut (λ ns z w. eats_cut x left ns rest n (rule_eats_cut d left ls ns (omega arith) c z) w) y

  rule_eats_cut : {r : Rule} {ks ms : List Tok} → EatsRule r ks ms → (left : ℕ) (ls rest : List Tok) → left ≤ length ms → Cut left ks ls →
      EatsRule r ls rest → Cut left ms rest
  rule_eats_cut (eats_takes {ks = ks} {rest = ms} e x) left ls rest n c y =
      let i : length ms ≤ length ks = eats_within x in
      takes_cut e (λ ns d z. eats_cut x left ns rest n d z) (step (omega arith) c) y
  rule_eats_cut (eats_becomes e x) left ls rest n c y = becomes_cut e (eats_within x) n (λ z. eats_cut x left ls rest n c z) (view c) y

  eats_within : {Xs : List Symbol} {ks rest : List Tok} → Eats Xs ks rest → length rest ≤ length ks
  eats_within eats_none = omega arith
  eats_within (eats_tok e x) = let i = eats_within x in omega arith
  eats_within (eats_rule d x) = let i = rule_within d in let j = eats_within x in omega arith

tok_stuck : {left : ℕ} {Xs : List Symbol} {kind : TokKind} {k : Tok} {ks ls rest : List Tok} →
    ((ns : List Tok) → Cut left ks ns → Eats Xs ns rest → ⊥) → CutStep left k ks ls → Eats (a kind ∷ Xs) ls rest → ⊥
tok_stuck f (cut_step c) (eats_tok e y) = f _ c y

rule_stuck : {r : Rule} {Xs : List Symbol} {ls rest : List Tok} → ((ns : List Tok) → EatsRule r ls ns → Eats Xs ns rest → ⊥) →
    Eats (rule r ∷ Xs) ls rest → ⊥
rule_stuck f (eats_rule {ls = ns} d y) = f ns d y

refused_stuck : {r : Rule} (ks : List Tok) {ls rest : List Tok} → predict r ks ≡ refuses → ahead ks ≡ ahead ls → EatsRule r ls rest → ⊥
refused_stuck {r = r} ks e h (eats_takes {k = k} {ks = ns} g y) = takes_refuses g (predict_ahead r (k ∷ ns) ks (sym h) ∙ e)
refused_stuck {r = r} ks {ls = ls} e h (eats_becomes g y) = becomes_refuses g (predict_ahead r ls ks (sym h) ∙ e)

takes_stuck : {left : ℕ} {r : Rule} {Ys : List Symbol} {k : Tok} {ks ls rest : List Tok} → predict r (k ∷ ks) ≡ takes Ys →
    ((ns : List Tok) → Cut left ks ns → Eats Ys ns rest → ⊥) → CutStep left k ks ls → EatsRule r ls rest → ⊥
takes_stuck {r = r} {k = k} {ks = ks} {rest = rest} e f (cut_step {ls = ns} c) (eats_takes g y) =
    f ns c (subst (λ (Xs : List Symbol). Eats Xs ns rest) (takes_takes g (predict_ahead r (k ∷ ns) (k ∷ ks) refl ∙ e)) y)
takes_stuck {r = r} {k = k} {ks = ks} e f (cut_step {ls = ns} c) (eats_becomes g y) =
    takes_becomes (predict_ahead r (k ∷ ns) (k ∷ ks) refl ∙ e) g

becomes_stuck : {r : Rule} {Ys : List Symbol} (ks : List Tok) {ls rest : List Tok} → predict r ks ≡ becomes Ys → ahead ks ≡ ahead ls →
    (Eats Ys ls rest → ⊥) → EatsRule r ls rest → ⊥
becomes_stuck {r = r} ks e h f (eats_takes {k = k} {ks = ns} g y) = takes_becomes g (predict_ahead r (k ∷ ns) ks (sym h) ∙ e)
becomes_stuck {r = r} ks {ls = ls} {rest = rest} e h f (eats_becomes g y) =
    f (subst (λ (Xs : List Symbol). Eats Xs ls rest) (becomes_becomes g (predict_ahead r ls ks (sym h) ∙ e)) y)

-- at the end of the first toks, or before
by_view : {left : ℕ} {r : Rule} {ks ls rest : List Tok} → r ≢ program → SticksRule r ks left → EatsRule r ls rest →
    (ahead ks ≡ ahead ls → ⊥) → CutView left ks ls → ⊥
by_view {left = left} {r = r} {ks = ks} {ls = ls} {rest = rest} n x y f (at_end h i) = at_once r n ks ls rest left (omega arith) h x y
by_view n x y f (goes_on h) = f h

mutual
  sticks_cut : {Xs : List Symbol} {ks : List Tok} {left : ℕ} → Sticks Xs ks left → plain Xs ≡ true → (ls rest : List Tok) → Cut left ks ls →
      Eats Xs ls rest → ⊥
  sticks_cut (sticks_here n) p ls rest c y = let i = cut_length c in no_tok (omega arith) y
  sticks_cut (sticks_behind_tok {Xs = Xs} {ks = ks} {left = left} e x) p ls rest c y =
      tok_stuck (λ ns d z. sticks_cut x p ns rest d z) (step (stuck_inside Xs ks left x) c) y
  sticks_cut (sticks_in_rule {r = r} {Xs = Xs} x) p ls rest c y = let q = plain_parts r Xs p in
      rule_stuck (λ ns d z. rule_sticks_cut x q.0 ls ns c d) y
  sticks_cut (sticks_behind_rule {r = r} {Xs = Xs} {ls = ms} {left = left} d x) p ls rest c y =
      let q = plain_parts r Xs p in
      rule_stuck (λ ns e z. sticks_cut x q.1 ns rest (rule_eats_cut d left ls ns (stuck_inside Xs ms left x) c e) z) y

  rule_sticks_cut : {r : Rule} {ks : List Tok} {left : ℕ} → SticksRule r ks left → r ≢ program → (ls rest : List Tok) → Cut left ks ls →
      EatsRule r ls rest → ⊥
  rule_sticks_cut (sticks_refused {ks = ks} e) n ls rest c y = by_view n (sticks_refused e) y (λ h. refused_stuck ks e h y) (view c)
  rule_sticks_cut (sticks_takes {r = r} {Ys = Ys} {k = k} {ks = ks} {left = left} e x) n ls rest c y =
      takes_stuck e (λ ns d z. sticks_cut x (takes_plain r (k ∷ ks) Ys e) ns rest d z) (step (stuck_inside Ys ks left x) c) y
  rule_sticks_cut (sticks_becomes {r = r} {Ys = Ys} {ks = ks} e x) n ls rest c y =
      by_view n (sticks_becomes e x) y (λ h. becomes_stuck ks e h (λ z. sticks_cut x (becomes_plain r ks Ys e) ls rest c z) y) (view c)

no_program : (q : Phrase) → phrase q ≢ program
no_program q e = cc

-- where a phrase sticks, the toks before are no such phrase
pub phrase_none : (q : Phrase) (ks : List Tok) (left : ℕ) → SticksRule (phrase q) ks left →
    IsWhole (a_phrase q) (take (length ks - left) ks) → ⊥
phrase_none q ks left x whole =
    let h : left ≤ length ks = sticks_rule_within x in
    rule_sticks_cut x (no_program q) (take (length ks - left) ks) [] (cut_of (length ks - left) left ks (omega arith)) (whole_eaten whole)
