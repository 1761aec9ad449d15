-- What was read from an index, and where that stuck, by indices.
use Rattle.std.proofs.Common.{◌≡◌, ℕ, ◌-◌, ◌<◌, ◌≤◌, List, length, drop, subst, arith, length-drop}
use Rattle.verse_layout.specs.declared.toks.Tok.{Tok}
use Rattle.verse_tree.specs.Tree.{Tree}
use Rattle.verse_grammar.specs.Exprs.{Reads}
use Rattle.verse_grammar.specs.Symbols.{Rule, phrase}
use Rattle.verse_grammar.specs.Reading.{EatsRule, SticksRule}
use Rattle.verse_grammar.specs.declared.phrases.Phrase.{Phrase}
use Rattle.verse_tree.specs.View.{tree_of}
use Rattle.verse_tree.specs.declared.exprs.Expr.{Expr}
use Rattle.verse_expr_reader.specs.Nests.{IsRead}
use Rattle.verse_expr.proofs.Suffixes.{suffix, suffix_at, stuck_within}

pub phrase_index : (b : List ℕ) (q : Phrase) (t : Tree) (ks rest : List Tok) (at : ℕ) → at ≤ length ks → Reads b q (drop at ks) t rest →
    EatsRule (phrase q) (drop at ks) rest →
    Reads b q (drop at ks) t (drop (length ks - length rest) ks)
phrase_index b q t ks rest at h r e = rw (suffix_at ks rest at h e) r

pub eaten_index : (r : Rule) (ks rest : List Tok) (at : ℕ) → at ≤ length ks → EatsRule r (drop at ks) rest →
    EatsRule r (drop at ks) (drop (length ks - length rest) ks)
eaten_index r ks rest at h e = rw (suffix_at ks rest at h e) e

pub stuck_left : (r : Rule) (ks : List Tok) (at left : ℕ) → SticksRule r (drop at ks) left → left ≤ length ks
stuck_left r ks at left x =
    let i : left ≤ length (drop at ks) = stuck_within r (drop at ks) left x in omega (arith, length-drop at ks)

pub stuck_index : (r : Rule) (ks : List Tok) (at left index : ℕ) → index ≡ length ks - left → SticksRule r (drop at ks) left →
    SticksRule r (drop at ks) (length ks - index)
stuck_index r ks at left index h x =
    let i : left ≤ length ks = stuck_left r ks at left x in
    let e : left ≡ length ks - index = omega arith in
    subst (λ (n : ℕ). SticksRule r (drop at ks) n) e x

pub index_within : (r : Rule) (ks : List Tok) (at left index : ℕ) → at ≤ length ks → index ≡ length ks - left →
    SticksRule r (drop at ks) left → (at ≤ index) × (index ≤ length ks)
index_within r ks at left index h e x =
    let i : left ≤ length (drop at ks) = stuck_within r (drop at ks) left x in
    (omega (arith, length-drop at ks), omega arith)

-- what was read stands at the front, by the number of its toks
pub standing : (b : List ℕ) (q : Phrase) (ks rest : List Tok) (e : Expr) → Reads b q ks (tree_of e) rest → EatsRule (phrase q) ks rest →
    length rest < length ks → IsRead b q ks (e, length ks - length rest)
standing b q ks rest e r x h = record {
  spelled = rw (suffix x) r;
  eats = rw (suffix x) x;
  some = omega arith;
  within = omega arith;
}
