-- One more parameter is read; a row with one more is shorter.
use Rattle.std.proofs.Common.{◌≡◌, ℕ, ◌<◌, ◌≤◌, List, [], ◌∷◌, ◌++◌, length, map, ap, arith}
use Rattle.verse_base.proofs.Facts.{map_last}
use Rattle.verse_lex.specs.declared.tokens.Mark.TheVariants as m
use Rattle.verse_layout.specs.declared.toks.TokKind.TheVariants as tok
use Rattle.verse_layout.specs.declared.toks.Tok.{Tok}
use Rattle.verse_tree.specs.ItemView.{param_of, member_of}
use Rattle.verse_tree.specs.declared.items.Param.{Param}
use Rattle.verse_tree.specs.declared.items.Member.{Member}
use Rattle.verse_grammar.specs.Toks.{mark}
use Rattle.verse_grammar.specs.Items.{ParamRow, more_params, MemberRow, more_members}
use Rattle.verse_grammar.specs.Items as grammar
use Rattle.verse_grammar.specs.Symbols as rules_of
use Rattle.verse_grammar.specs.Reading.{EatsRule}
use Rattle.verse_grammar.specs.Loops.{Goes}
use Rattle.verse_grammar.proofs.GoingItems.{goes_params_tail_at, goes_members_tail_at}

pub row_shorter : (ks rest r1 r2 : List Tok) (s : Tok) → length rest ≤ length ks → rest ≡ s ∷ r1 → length r2 < length r1 →
    length r2 ≤ length ks
row_shorter ks rest r1 r2 s h e l = omega (arith, ap length e)

pub param_read : (b : List ℕ) (ks rest r1 r2 : List Tok) (s : Tok) (xs ys : List Param) (x : Param) → ParamRow b ks (map param_of xs) rest →
    rest ≡ s ∷ r1 → s.kind ≡ mark m.Comma → grammar.Param b r1 (param_of x) r2 → ys ≡ xs ++ x ∷ [] → ParamRow b ks (map param_of ys) r2
param_read b ks rest r1 r2 s xs ys x row e h one is =
    let t : ParamRow b ks (map param_of xs) (s ∷ r1) = rw (← e) row in
    rw (is, map_last param_of xs x) (more_params t h one)

pub param_goes : (ks rest r1 r2 : List Tok) (s : Tok) → Goes rules_of.params_tail ks rest → rest ≡ s ∷ r1 → s.kind ≡ mark m.Comma →
    EatsRule rules_of.param r1 r2 → Goes rules_of.params_tail ks r2
param_goes ks rest r1 r2 s g e h x =
    let t : Goes rules_of.params_tail ks (s ∷ r1) = rw (← e) g in
    goes_params_tail_at s ks r1 r2 t h x
