-- What stands behind the parameters of a function, as a part.
use Rattle.std.proofs.Common.{◌≡◌, ◌≢◌, ℕ, List, ◌∷◌, Some, length, refl}
use Rattle.verse_lex.specs.declared.tokens.Mark.TheVariants as m
use Rattle.verse_layout.specs.declared.toks.Tok.{Tok}
use Rattle.verse_tree.specs.Tree.{Written, Tree}
use Rattle.verse_tree.specs.ItemTree.{SpecTree, ParamTree}
use Rattle.verse_grammar.specs.Toks.{mark, name_at, ahead}
use Rattle.verse_grammar.specs.declared.phrases.Phrase.TheVariants as p
use Rattle.verse_grammar.specs.Items.{Params, FunRest}
use Rattle.verse_grammar.specs.Items as grammar
use Rattle.verse_grammar.specs.Symbols.{a, rule, a_type, phrase, specs, params_until, fun_rest}
use Rattle.verse_grammar.specs.Reading.{Eats, EatsRule, Sticks, SticksRule, eats_none, eats_tok, eats_rule, eats_becomes, sticks_here}
use Rattle.verse_grammar.specs.Reading.{sticks_behind_tok, sticks_in_rule, sticks_behind_rule, sticks_becomes}
use Rattle.verse_parse_parts.specs.Rests.{Signature, signature, signature_symbols}

pub fun_whole : {b : List ℕ} {n o : Tok} {ks ls rest : List Tok} {ss es : List SpecTree} {qs : List ParamTree} {u : Written} {e : Tree} →
    o.kind ≡ mark m.RoundOpen → Params b ks qs ls → Signature b ls es u e rest →
    FunRest b n ss (o ∷ ks) (record {
      number = 0;
      place = n.place;
      name = name_at b n;
      specs = ss;
      params = qs;
      effects = es;
      written =
          u;
      body = e;
    }) rest
fun_whole o q (signature s d t h e) = grammar.fun_rest o q s d t h e

pub eats_fun : (k : Tok) (ks ls rest : List Tok) → k.kind ≡ mark m.RoundOpen → EatsRule params_until ks ls →
    Eats signature_symbols ls rest → EatsRule fun_rest (k ∷ ks) rest
eats_fun k ks ls rest h e es = eats_becomes {r = fun_rest} {Ys = a (mark m.RoundOpen) ∷ rule params_until ∷ signature_symbols} {ks = k ∷ ks}
    refl (eats_tok h (eats_rule e es))

pub sticks_fun_1 : (at : List Tok) → ahead at ≢ Some (mark m.RoundOpen) → SticksRule fun_rest at (length at)
sticks_fun_1 at x = sticks_becomes {r = fun_rest} {Ys = a (mark m.RoundOpen) ∷ rule params_until ∷ signature_symbols} {ks = at} refl
    (sticks_here x)

pub sticks_fun_2 : (left : ℕ) (k : Tok) (at : List Tok) → k.kind ≡ mark m.RoundOpen → SticksRule params_until at left →
    SticksRule fun_rest (k ∷ at) left
sticks_fun_2 left k at h x = sticks_becomes {r = fun_rest} {Ys = a (mark m.RoundOpen) ∷ rule params_until ∷ signature_symbols} {ks = k ∷ at}
    refl (sticks_behind_tok h (sticks_in_rule x))

pub sticks_fun_3 : (left : ℕ) (k : Tok) (ks at : List Tok) → k.kind ≡ mark m.RoundOpen → EatsRule params_until ks at →
    Sticks signature_symbols at left → SticksRule fun_rest (k ∷ ks) left
sticks_fun_3 left k ks at h e x = sticks_becomes {r = fun_rest} {Ys = a (mark m.RoundOpen) ∷ rule params_until ∷ signature_symbols}
    {ks = k ∷ ks} refl (sticks_behind_tok h (sticks_behind_rule e x))

pub eats_signature : (d q : Tok) (ks ls ms rest : List Tok) → EatsRule specs ks (d ∷ ls) → d.kind ≡ mark m.Colon →
    EatsRule a_type ls (q ∷ ms) → q.kind ≡ mark m.Equals → EatsRule (phrase p.Body) ms rest → Eats signature_symbols ks rest
eats_signature d q ks ls ms rest s h t i e = eats_rule s (eats_tok h (eats_rule t (eats_tok i (eats_rule e eats_none))))

pub sticks_signature_1 : (left : ℕ) (at : List Tok) → SticksRule specs at left → Sticks signature_symbols at left
sticks_signature_1 left at x = sticks_in_rule x

pub sticks_signature_2 : (ks at : List Tok) → EatsRule specs ks at → ahead at ≢ Some (mark m.Colon) →
    Sticks signature_symbols ks (length at)
sticks_signature_2 ks at s x = sticks_behind_rule s (sticks_here x)

pub sticks_signature_3 : (left : ℕ) (d : Tok) (ks at : List Tok) → EatsRule specs ks (d ∷ at) → d.kind ≡ mark m.Colon →
    SticksRule a_type at left → Sticks signature_symbols ks left
sticks_signature_3 left d ks at s h x = sticks_behind_rule s (sticks_behind_tok h (sticks_in_rule x))

pub sticks_signature_4 : (d : Tok) (ks ls at : List Tok) → EatsRule specs ks (d ∷ ls) → d.kind ≡ mark m.Colon → EatsRule a_type ls at →
    ahead at ≢ Some (mark m.Equals) → Sticks signature_symbols ks (length at)
sticks_signature_4 d ks ls at s h t x = sticks_behind_rule s (sticks_behind_tok h (sticks_behind_rule t (sticks_here x)))

pub sticks_signature_5 : (left : ℕ) (d q : Tok) (ks ls at : List Tok) → EatsRule specs ks (d ∷ ls) → d.kind ≡ mark m.Colon →
    EatsRule a_type ls (q ∷ at) → q.kind ≡ mark m.Equals → SticksRule (phrase p.Body) at left → Sticks signature_symbols ks left
sticks_signature_5 left d q ks ls at s h t i x =
    sticks_behind_rule s (sticks_behind_tok h (sticks_behind_rule t (sticks_behind_tok i (sticks_in_rule x))))
