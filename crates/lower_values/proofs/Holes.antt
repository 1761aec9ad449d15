-- Pieces of texts with holes.
use Rattle.std.proofs.Common.{◌≡◌, ℕ, suc, ◌+◌, ◌<◌, ◌≤◌, List, length, get_or, Bool, true}
use Rattle.std.proofs.Common.{false, sym, ap, ◌∙◌, arith}
use Rattle.verse_base.specs.declared.places.Place.{Place}
use Rattle.verse_tree.specs.Tree as t
use Rattle.verse_tree.specs.Tree.{Bytes, Holes}
use Rattle.verse_tree.specs.View.{hole_of, holes}
use Rattle.verse_tree.specs.declared.exprs.Hole.{Hole}
use Rattle.verse_tree.specs.declared.programs.Program.{Program}
use Rattle.verse_meaning.specs.Programs.{program_of}
use Rattle.lower_code.specs.Pieces.{Maker, placed, ◌then◌}
use Rattle.lower_code.specs.Arounds.{up, raised}
use Rattle.lower_code.specs.Lowering.{is_text, text_if, one_if, holed, joined_parts}
use Rattle.lower_code.specs.Scopes.{Scope}
use Rattle.lower_code.specs.declared.arounds.Around.{Around}
use Rattle.lower_lookup.specs.Types.{differ_of}
use Rattle.lower_expr.specs.Building.{Built, made}
use Rattle.lower_expr.specs.Endings.{numbered}
use Rattle.verse_code.specs.declared.operations.Op.TheVariants as o
use Rattle.lower_expr.proofs.Laws.{made_then, made_nothing}
use Rattle.lower_parts.specs.Parts.{tree_code, form_code}
use Rattle.lower_parts.proofs.Lists.{seen_next, seen_none}
use Rattle.lower_parts.proofs.Facts.{left_holes}
use Rattle.lower_values.specs.Parts.{hole_code}

module _ (p : Program) (xs : List Hole) (i : ℕ) (sc : Scope) where
  abbrev code : Holes → Around → Maker
  code hs a = holed (program_of p) (differ_of p) hs sc a

  -- behind one hole more, and where none is left
  pub holes_next : (x : Hole) (here : Scope) (a above : Around) (b behind all : Built) → i < length xs →
      x ≡ get_or xs i x →
      here ≡ sc →
      behind ≡ made (hole_code p (hole_of x) here a) b → above ≡ raised (one_if (is_text (hole_of x).1) 0) (up a) →
      made (code (left_holes xs i) a) b ≡ all → made (code (left_holes xs (i + 1)) above) behind ≡ all
  holes_next x here a above b behind all h e k g f is =
      let f1 : Maker = tree_code p (hole_of x).0 sc a in
      let f2 : Maker = text_if (hole_of x).1 in
      let rest = left_holes xs (i + 1) in
      let next = raised (one_if (is_text (hole_of x).1) 0) (up a) in
      ap (λ c. made (code rest c) behind) f
      ∙ ap (made (code rest next)) (g ∙ ap (λ s. made (hole_code p (hole_of x) s a) b) k ∙ made_then f1 f2 b)
      ∙ sym (made_then f1 (f2 then code rest next) b ∙ made_then f2 (code rest next) (made f1 b))
      ∙ sym (ap (λ hs. made (code (holes hs) a) b) (seen_next hole_of xs i x h e)) ∙ is

  pub holes_done : (a : Around) (b all : Built) → length xs ≤ i → made (code (left_holes xs i) a) b ≡ all → b ≡ all
  holes_done a b all h is = sym (ap (λ hs. made (code (holes hs) a) b) (seen_none hole_of xs i h) ∙ made_nothing b) ∙ is

  pub parts_next : (x : Hole) (n m all : ℕ) → i < length xs → x ≡ get_or xs i x →
      m ≡ one_if (is_text (hole_of x).1) (n + 1) →
      n + joined_parts (left_holes xs i) ≡ all → m + joined_parts (left_holes xs (i + 1)) ≡ all
  parts_next x n m all h e g is =
      ap (λ k. k + joined_parts (left_holes xs (i + 1))) g
      ∙ moved (is_text (hole_of x).1) n (joined_parts (left_holes xs (i + 1)))
      ∙ sym (ap (λ hs. n + joined_parts (holes hs)) (seen_next hole_of xs i x h e)) ∙ is
    where
      moved : (c : Bool) (n k : ℕ) → one_if c (n + 1) + k ≡ n + suc (one_if c k)
      moved true n k = omega arith
      moved false n k = omega arith

  pub parts_done : (n all : ℕ) → length xs ≤ i → n + joined_parts (left_holes xs i) ≡ all → n ≡ all
  parts_done n all h is = omega (arith, ap (λ hs. n + joined_parts (holes hs)) (seen_none hole_of xs i h), is)

-- a text with holes, by what its steps make
pub text_done : (p : Program) (bs : Bytes) (hs : Holes) (place : Place) (sc : Scope) (a above : Around) (n : ℕ)
    (b first parts all : Built) →
    first ≡ made (text_if bs) b → above ≡ raised (one_if (is_text bs) 0) a →
    parts ≡ made (holed (program_of p) (differ_of p) hs sc above) first →
    n ≡ one_if (is_text bs) (joined_parts hs) → all ≡ made (placed place (numbered (o.Join n 0))) parts →
    all ≡ made (form_code p (t.Shape.holes bs hs) 0 place sc a) b
text_done p bs hs place sc a above n b first parts all e1 e2 e3 e4 e5 =
    let f : Maker = holed (program_of p) (differ_of p) hs sc (raised (one_if (is_text bs) 0) a) in
    let g : ℕ → Maker = λ k. placed place (numbered (o.Join k 0)) in
    let m = one_if (is_text bs) (joined_parts hs) in
    e5 ∙ ap (λ k. made (g k) parts) e4
    ∙ ap (made (g m)) (e3 ∙ ap (λ x. made (holed (program_of p) (differ_of p) hs sc x) first) e2 ∙ ap (made f) e1)
    ∙ sym (made_then (text_if bs) (f then g m) b ∙ made_then f (g m) (made (text_if bs) b))
