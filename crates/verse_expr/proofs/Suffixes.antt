-- What a rule leaves is the end of what it was given.
use Rattle.std.proofs.Common.{◌≡◌, ℕ, ◌+◌, ◌-◌, ◌≤◌, List, [], ◌∷◌, ◌++◌, length, drop, refl, sym, ap, subst, ◌∙◌, append_assoc, arith}
use Rattle.std.proofs.Common.{length-append, length-drop}
use Rattle.std.proofs.Math.Seq.{drop-append_seam}
use Rattle.std.proofs.lemmas.List.{drop-drop}
use Rattle.verse_layout.specs.declared.toks.Tok.{Tok}
use Rattle.verse_grammar.specs.Symbols.{Rule, Symbol}
use Rattle.verse_grammar.specs.Reading.{Eats, EatsRule, Sticks, SticksRule, eats_none, eats_tok, eats_rule, eats_takes, eats_becomes}
use Rattle.verse_grammar.specs.Reading.{sticks_here, sticks_behind_tok, sticks_in_rule, sticks_behind_rule, sticks_refused, sticks_takes}
use Rattle.verse_grammar.specs.Reading.{sticks_becomes}

record Front (ks rest : List Tok) : Type 0 where
  front : List Tok
  is : ks ≡ front ++ rest

both : {ks ls rest : List Tok} → Front ks ls → Front ls rest → Front ks rest
both {ks} {ls} {rest} f g = record {
  front = f.front ++ g.front;
  is = f.is ∙ ap (λ (xs : List Tok). f.front ++ xs) g.is ∙ sym (append_assoc f.front g.front rest);
}

more : (k : Tok) {ks rest : List Tok} → Front ks rest → Front (k ∷ ks) rest
more k f = record { front = k ∷ f.front; is = ap (λ (xs : List Tok). k ∷ xs) f.is }

mutual
  eaten : {Xs : List Symbol} {ks rest : List Tok} → Eats Xs ks rest → Front ks rest
  eaten eats_none = record { front = []; is = refl }
  eaten (eats_tok {k = k} h e) = more k (eaten e)
  eaten (eats_rule r e) = both (eaten_rule r) (eaten e)

  eaten_rule : {r : Rule} {ks rest : List Tok} → EatsRule r ks rest → Front ks rest
  eaten_rule (eats_takes {k = k} h e) = more k (eaten e)
  eaten_rule (eats_becomes h e) = eaten e

left_of : (front rest : List Tok) → drop (length (front ++ rest) - length rest) (front ++ rest) ≡ rest
left_of front rest =
    let n : length (front ++ rest) - length rest ≡ length front = omega (arith, length-append front rest) in
    rw n (drop-append_seam front rest)

suffix_by : (ks rest : List Tok) → Front ks rest → drop (length ks - length rest) ks ≡ rest
suffix_by ks rest f = rw f.is (left_of f.front rest)

-- what a rule eats is at the front
pub suffix : {r : Rule} {ks rest : List Tok} → EatsRule r ks rest → drop (length ks - length rest) ks ≡ rest
suffix {r} {ks} {rest} e = suffix_by ks rest (eaten_rule e)

shorter : {ks rest : List Tok} → Front ks rest → length rest ≤ length ks
shorter {ks} {rest} f = rw f.is (omega (arith, length-append f.front rest))

mutual
  pub stuck_inside : (Xs : List Symbol) (ks : List Tok) (left : ℕ) → Sticks Xs ks left → left ≤ length ks
  stuck_inside _ ks _ (sticks_here h) = omega arith
  stuck_inside _ _ left (sticks_behind_tok {ks = ks} h x) = let i : left ≤ length ks = stuck_inside _ ks left x in omega arith
  stuck_inside _ ks left (sticks_in_rule {r = r} x) = stuck_within r ks left x
  stuck_inside _ ks left (sticks_behind_rule {ls = ls} e x) =
      let i : left ≤ length ls = stuck_inside _ ls left x in
      let j : length ls ≤ length ks = shorter (eaten_rule e) in omega arith

  -- what is left where a rule sticks is of what it was given
  pub stuck_within : (r : Rule) (ks : List Tok) (left : ℕ) → SticksRule r ks left → left ≤ length ks
  stuck_within r ks _ (sticks_refused h) = omega arith
  stuck_within r _ left (sticks_takes {ks = ks} h x) = let i : left ≤ length ks = stuck_inside _ ks left x in omega arith
  stuck_within r ks left (sticks_becomes h x) = stuck_inside _ ks left x

-- the same behind an index
pub suffix_at : {r : Rule} (ks rest : List Tok) (at : ℕ) → at ≤ length ks → EatsRule r (drop at ks) rest →
    drop (length ks - length rest) ks ≡ rest
suffix_at {r} ks rest at h e =
    let s : drop (length (drop at ks) - length rest) (drop at ks) ≡ rest = suffix e in
    let j : length rest ≤ length (drop at ks) = shorter (eaten_rule e) in
    let n : at + (length (drop at ks) - length rest) ≡ length ks - length rest = omega (arith, length-drop at ks) in
    subst (λ (k : ℕ). drop k ks ≡ rest) n (sym (drop-drop (length (drop at ks) - length rest) at ks) ∙ s)
