-- The keys of a map with their values, one pair after the other.
use Rattle.std.proofs.Common.{◌≡◌, ℕ, suc, ◌+◌, ◌<◌, ◌≤◌, List, [], ◌∷◌, length, map, get_or, refl, sym, ap, ◌∙◌}
use Rattle.verse_base.specs.declared.places.Place.{Place}
use Rattle.verse_tree.specs.Tree as t
use Rattle.verse_tree.specs.View.{pair_of, pairs}
use Rattle.verse_tree.specs.declared.exprs.Pair.{Pair}
use Rattle.verse_tree.specs.declared.programs.Program.{Program}
use Rattle.verse_meaning.specs.Programs.{program_of}
use Rattle.lower_code.specs.Pieces.{Maker, placed, ◌then◌}
use Rattle.lower_code.specs.Arounds.{up}
use Rattle.lower_code.specs.Lowering.{paired_args, pairs_in}
use Rattle.lower_code.specs.Scopes.{Scope}
use Rattle.lower_code.specs.declared.arounds.Around.{Around}
use Rattle.lower_lookup.specs.Types.{differ_of}
use Rattle.verse_code.specs.declared.operations.Op.TheVariants as o
use Rattle.lower_expr.specs.Building.{Built, made}
use Rattle.lower_expr.specs.Endings.{numbered}
use Rattle.lower_expr.proofs.Laws.{made_then, made_nothing}
use Rattle.lower_parts.specs.Parts.{form_code, tree_code}
use Rattle.lower_parts.proofs.Lists.{seen_next, seen_none}
use Rattle.lower_parts.proofs.Facts.{left_pairs}
use Rattle.lower_values.specs.Parts.{pair_code}

-- as many pairs as there are
pub pairs_counted : (xs : List Pair) → pairs_in (pairs (map pair_of xs)) ≡ length xs
pairs_counted [] = refl
pairs_counted (x ∷ xs) = ap suc (pairs_counted xs)

module _ (p : Program) (xs : List Pair) (i : ℕ) (sc : Scope) where
  abbrev code : t.Pairs → Around → Maker
  code ps a = paired_args (program_of p) (differ_of p) ps sc a

  -- behind one pair more, and where none is left
  pub pairs_next : (x : Pair) (here : Scope) (a above : Around) (b behind all : Built) → i < length xs →
      x ≡ get_or xs i x →
      here ≡ sc →
      behind ≡ made (pair_code p (pair_of x) here a) b → above ≡ up (up a) → made (code (left_pairs xs i) a) b ≡ all →
      made (code (left_pairs xs (i + 1)) above) behind ≡ all
  pairs_next x here a above b behind all h e k g f is =
      let f1 : Maker = tree_code p (pair_of x).0 sc a in
      let f2 : Maker = tree_code p (pair_of x).1 sc (up a) in
      let rest = left_pairs xs (i + 1) in
      ap (λ c. made (code rest c) behind) f
      ∙ ap (made (code rest (up (up a)))) (g ∙ ap (λ s. made (pair_code p (pair_of x) s a) b) k ∙ made_then f1 f2 b)
      ∙ sym (made_then f1 (f2 then code rest (up (up a))) b ∙ made_then f2 (code rest (up (up a))) (made f1 b))
      ∙ sym (ap (λ ps. made (code (pairs ps) a) b) (seen_next pair_of xs i x h e)) ∙ is

  pub pairs_done : (a : Around) (b all : Built) → length xs ≤ i → made (code (left_pairs xs i) a) b ≡ all → b ≡ all
  pairs_done a b all h is = sym (ap (λ ps. made (code (pairs ps) a) b) (seen_none pair_of xs i h) ∙ made_nothing b) ∙ is

-- a map, by what its steps make
pub map_done : (p : Program) (xs : List Pair) (place : Place) (sc : Scope) (a : Around) (n : ℕ)
    (b parts all : Built) → n ≡ length xs →
    parts ≡ made (paired_args (program_of p) (differ_of p) (pairs (map pair_of xs)) sc a) b →
    all ≡ made (placed place (numbered (o.Map n 0))) parts →
    all ≡ made (form_code p (t.Shape.mapping (pairs (map pair_of xs))) 0 place sc a) b
map_done p xs place sc a n b parts all e1 e2 e3 =
    let ps = pairs (map pair_of xs) in
    let f : Maker = paired_args (program_of p) (differ_of p) ps sc a in
    let g : ℕ → Maker = λ k. placed place (numbered (o.Map k 0)) in
    e3 ∙ ap (λ k. made (g k) parts) (e1 ∙ sym (pairs_counted xs)) ∙ ap (made (g (pairs_in ps))) e2
    ∙ sym (made_then f (g (pairs_in ps)) b)
