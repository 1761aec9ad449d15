-- The walk's answer is the layout.
use Rattle.std.proofs.Common.{◌≡◌, ◌≤◌, Bool, true, false, List, [], ◌∷◌, ℕ, Option, Some, None, Ok, Err, refl, sym, ◌∙◌, ap}
use Rattle.std.proofs.Common.{subst, nat_le}
use Rattle.std.proofs.lemmas.Bool.{leb-true, le-leb}
use Rattle.verse_base.specs.declared.refusals.Refusal.{Refusal}
use Rattle.verse_lex.specs.declared.tokens.Token.{Token}
use Rattle.verse_base.specs.declared.limits.TheConstants.{MOST_LOAD}
use Rattle.verse_layout.specs.declared.toks.Tok.{Tok}
use Rattle.verse_layout.specs.Cells.{cells_of}
use Rattle.verse_layout.specs.Layouts.{end_of}
use Rattle.verse_layout.specs.Loads.{Counts, load, after_tok, at_start}
use Rattle.verse_layout.specs.Written.{Spaced, refusal}
use Rattle.verse_layout.specs.Answers.{spaced, Answer, with_front, bounded}
use Rattle.verse_layout.specs.Frames.{Walk, walk, file_start, walk_answer}
use Rattle.verse_layout.specs.Layouts.{IsWithin, IsLayout, OneLayout}
use Rattle.verse_layout.specs.declared.rules.TheConstants.{NESTING}
use Rattle.verse_layout.proofs.Spacing.{spaced_is, is_spaced}
use Rattle.verse_layout.proofs.Walks.{if_true, if_false}
use Rattle.verse_layout.proofs.Blocks.{file_walk}
use Rattle.verse_layout.proofs.Files.{file_sound}

abbrev at_most : ℕ → Bool
at_most n = nat_le n MOST_LOAD

below : (n : ℕ) → at_most n ≡ true → n ≤ MOST_LOAD
below n e = leb-true n MOST_LOAD e

test : (n : ℕ) → n ≤ MOST_LOAD → at_most n ≡ true
test n h = le-leb n MOST_LOAD h

pub record Judged (s : Counts) (ks : List Tok) (stop : Option Refusal) (js : List Tok) : Type 0 where
  pub stops : stop ≡ None
  pub toks : js ≡ ks
  pub within : IsWithin s ks

ok_is : {ks js : List Tok} → (let x : Answer = Ok ks in x) ≡ Ok js → ks ≡ js
ok_is e = cc

front_ok : (k : Tok) (x : Answer) (js : List Tok) → with_front (k ∷ []) x ≡ Ok js → (ls : List Tok) × (x ≡ Ok ls) × (js ≡ k ∷ ls)
front_ok k (Ok ls) js e = (ls, refl, sym (ok_is e))
front_ok k (Err r) js e = absurd (cc)

pub bounded_ok : (s : Counts) (ks : List Tok) (stop : Option Refusal) (js : List Tok) → bounded s ks stop ≡ Ok js → Judged s ks stop js
bounded_ok s [] None js e = record { stops = refl; toks = sym (ok_is e); within = tt }
bounded_ok s [] (Some r) js e = absurd (cc)
bounded_ok s (k ∷ ks) stop js e = by_test (at_most (load (after_tok k s))) refl (λ ls g. bounded_ok (after_tok k s) ks stop ls g)
  where
    by_test : (b : Bool) → at_most (load (after_tok k s)) ≡ b →
        ((ls : List Tok) → bounded (after_tok k s) ks stop ≡ Ok ls → Judged (after_tok k s) ks stop ls) → Judged s (k ∷ ks) stop js
    by_test true h more =
        let x = front_ok k (bounded (after_tok k s) ks stop) js (sym (if_true _ _ _ h) ∙ e) in
        let y = more x.0 x.1 in
        record { stops = y.stops; toks = x.2 ∙ ap (λ z. k ∷ z) y.toks; within = (below _ h, y.within) }
    by_test false h more = let g = sym (if_false (at_most (load (after_tok k s))) (with_front (k ∷ []) (bounded (after_tok k s) ks stop))
        (Err (refusal NESTING k.place)) h) ∙ e in absurd (cc)

pub bounded_within : (s : Counts) (ks : List Tok) → IsWithin s ks → bounded s ks None ≡ Ok ks
bounded_within s [] w = refl
bounded_within s (k ∷ ks) w = if_true _ _ _ (test _ w.0) ∙ ap (with_front (k ∷ [])) (bounded_within (after_tok k s) ks w.1)

pub layout_of : (bytes : List ℕ) (tokens : List Token) (ks : List Tok) → walk_answer (end_of bytes tokens) (cells_of bytes tokens) ≡ Ok ks →
    IsLayout bytes tokens ks
layout_of bytes tokens ks e =
    let x = walk (end_of bytes tokens) file_start (cells_of bytes tokens) in
    let y = bounded_ok at_start (spaced false None x.written) x.stop ks e in
    record {
      written = x.written;
      block = file_sound (end_of bytes tokens) (cells_of bytes tokens) y.stops;
      written_out =
          subst (Spaced x.written) (sym y.toks) (is_spaced x.written);
      within = subst (IsWithin at_start) (sym y.toks) y.within;
    }

pub of_layout : (bytes : List ℕ) (tokens : List Token) (ks : List Tok) → IsLayout bytes tokens ks →
    walk_answer (end_of bytes tokens) (cells_of bytes tokens) ≡ Ok ks
of_layout bytes tokens ks l =
    let kept = spaced_is l.written_out in
    ap (λ (x : Walk). bounded at_start (spaced false None x.written) x.stop) (file_walk l.block)
    ∙ bounded_within at_start _ (subst (IsWithin at_start) kept l.within) ∙ ap Ok (sym kept)

pub one_layout : OneLayout
one_layout bytes tokens ks js x y = ok_is (sym (of_layout bytes tokens ks x) ∙ of_layout bytes tokens js y)

pub no_layout : (bytes : List ℕ) (tokens : List Token) (r : Refusal) (ks : List Tok) →
    walk_answer (end_of bytes tokens) (cells_of bytes tokens) ≡ Err r → IsLayout bytes tokens ks → ⊥
no_layout bytes tokens r ks e l = let f = of_layout bytes tokens ks l in absurd (cc)
