-- `case`
use Rattle.std.proofs.Common.{◌≡◌, ℕ, List, ◌∷◌, Some}
use Rattle.verse_lex.specs.declared.tokens.Mark.TheVariants as m
use Rattle.verse_layout.specs.declared.toks.TokKind.TheVariants as tok
use Rattle.verse_layout.specs.declared.toks.Tok.{Tok}
use Rattle.verse_tree.specs.Tree.{Tree, tree}
use Rattle.verse_tree.specs.Tree as t
use Rattle.verse_tree.specs.View.{trees}
use Rattle.verse_grammar.specs.Toks.{mark}
use Rattle.verse_grammar.specs.Starts.{primary_start}
use Rattle.verse_grammar.specs.Exprs.{Reads, Closed, cases}
use Rattle.verse_grammar.specs.Symbols.{phrase, closed}
use Rattle.verse_grammar.specs.Reading.{EatsRule, SticksRule}
use Rattle.verse_grammar.specs.declared.phrases.Phrase.TheVariants as p
use Rattle.verse_grammar.specs.declared.starts.PrimaryStart.TheVariants as primary
use Rattle.verse_grammar.proofs.Eating.{eats_primary_case, eats_case_rest}
use Rattle.verse_grammar.proofs.Sticking.{sticks_primary_case_1}
use Rattle.verse_grammar.proofs.StickingParts.{sticks_case_rest_5}

pub cases_by : {b : List ℕ} {k o c q : Tok} {ks mid ls rest : List Tok} {e : Tree} {es : List Tree} →
    primary_start k.kind ≡ Some primary.Case → o.kind ≡ mark m.RoundOpen → Reads b p.Expr ks e mid → mid ≡ c ∷ q ∷ ls →
    c.kind ≡ mark m.RoundClose → q.kind ≡ tok.Open →
    Closed b p.Arm tok.Sep tok.Close ls es rest → Reads b p.Primary (k ∷ o ∷ ks) (tree 0 k.place (t.Shape.cases e (trees es))) rest
cases_by s h r u i j c = cases s h (rw u at r) i j c

pub eats_cases_by : (k o c q : Tok) (ks mid ls rest : List Tok) → primary_start k.kind ≡ Some primary.Case → o.kind ≡ mark m.RoundOpen →
    EatsRule (phrase p.Expr) ks mid → mid ≡ c ∷ (q ∷ ls) → c.kind ≡ mark m.RoundClose → q.kind ≡ tok.Open →
    EatsRule (closed p.Arm tok.Sep tok.Close) ls rest →
    EatsRule (phrase p.Primary) (k ∷ (o ∷ ks)) rest
eats_cases_by k o c q ks mid ls rest s h e u i j a =
    eats_primary_case k (o ∷ ks) rest s (eats_case_rest o c q ks ls rest h (rw u at e) i j a)

pub sticks_cases_by : (left : ℕ) (k o c q : Tok) (ks mid at : List Tok) → primary_start k.kind ≡ Some primary.Case →
    o.kind ≡ mark m.RoundOpen → EatsRule (phrase p.Expr) ks mid → mid ≡ c ∷ (q ∷ at) → c.kind ≡ mark m.RoundClose → q.kind ≡ tok.Open →
    SticksRule (closed p.Arm tok.Sep tok.Close) at left →
    SticksRule (phrase p.Primary) (k ∷ (o ∷ ks)) left
sticks_cases_by left k o c q ks mid at s h e u i j x =
    sticks_primary_case_1 left k (o ∷ ks) s (sticks_case_rest_5 left o c q ks at h (rw u at e) i j x)

pub cases_made : {b : List ℕ} {k o c q : Tok} {all ks mid ls rest : List Tok} {e made : Tree} {es : List Tree} →
    primary_start k.kind ≡ Some primary.Case → all ≡ o ∷ ks → o.kind ≡ mark m.RoundOpen → Reads b p.Expr ks e mid → mid ≡ c ∷ q ∷ ls →
    c.kind ≡ mark m.RoundClose → q.kind ≡ tok.Open →
    Closed b p.Arm tok.Sep tok.Close ls es rest → made ≡ tree 0 k.place (t.Shape.cases e (trees es)) → Reads b p.Primary (k ∷ all) made rest
cases_made s a h r u i j x t = rw (a, t) (cases_by s h r u i j x)

pub cases_eaten : (k o c q : Tok) (all ks mid ls rest : List Tok) → primary_start k.kind ≡ Some primary.Case → all ≡ o ∷ ks →
    o.kind ≡ mark m.RoundOpen → EatsRule (phrase p.Expr) ks mid → mid ≡ c ∷ (q ∷ ls) → c.kind ≡ mark m.RoundClose → q.kind ≡ tok.Open →
    EatsRule (closed p.Arm tok.Sep tok.Close) ls rest → EatsRule (phrase p.Primary) (k ∷ all) rest
cases_eaten k o c q all ks mid ls rest s a h e u i j x = rw a (eats_cases_by k o c q ks mid ls rest s h e u i j x)

pub cases_stuck : (left : ℕ) (k o c q : Tok) (all ks mid at : List Tok) → primary_start k.kind ≡ Some primary.Case → all ≡ o ∷ ks →
    o.kind ≡ mark m.RoundOpen → EatsRule (phrase p.Expr) ks mid → mid ≡ c ∷ (q ∷ at) → c.kind ≡ mark m.RoundClose → q.kind ≡ tok.Open →
    SticksRule (closed p.Arm tok.Sep tok.Close) at left → SticksRule (phrase p.Primary) (k ∷ all) left
cases_stuck left k o c q all ks mid at s a h e u i j x = rw a (sticks_cases_by left k o c q ks mid at s h e u i j x)
