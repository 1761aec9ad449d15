-- Pieces of texts with holes.
use Rattle.std.proofs.Common.{◌≡◌, ℕ, ◌+◌, ◌<◌, ◌≤◌, List, length, get_or, sym, ap, ◌∙◌}
use Rattle.verse_tree.specs.Tree as t
use Rattle.verse_tree.specs.Tree.{Bytes, Holes}
use Rattle.verse_tree.specs.View.{hole_of, holes}
use Rattle.verse_tree.specs.declared.exprs.Hole.{Hole}
use Rattle.verse_tree.specs.declared.programs.Program.{Program}
use Rattle.verse_meaning.specs.Programs.{program_of}
use Rattle.lower_code.specs.Arounds.{up, raised}
use Rattle.lower_code.specs.Lowering.{is_text, one_if}
use Rattle.lower_code.specs.Scopes.{Scope}
use Rattle.lower_code.specs.declared.arounds.Around.{Around}
use Rattle.lower_lookup.specs.Types.{differ_of}
use Rattle.lower_parts.proofs.Lists.{seen_next, seen_none}
use Rattle.lower_parts.proofs.Facts.{left_holes}
use Rattle.lower_notes.specs.Stretches.{Walk, last, ◌then◌}
use Rattle.lower_notes.specs.Noting.{text_if, holed}
use Rattle.note_sorts.specs.Tabled.{found_of}
use Rattle.note_stretches.specs.Noted.{Noted, walked}
use Rattle.note_stretches.proofs.Laws.{walked_then, walked_nothing}
use Rattle.note_parts.specs.Parts.{tree_walk, form_walk, no_place}
use Rattle.note_values.specs.Parts.{hole_walk}

abbrev pub holes_walk : Program → Holes → Scope → Around → Walk
holes_walk p = holed (program_of p) (found_of p) (differ_of p)

module _ (p : Program) (xs : List Hole) (i : ℕ) (sc : Scope) where
  -- behind one hole more, and where none is left
  pub holes_next : (x : Hole) (here : Scope) (a above : Around) (b behind all : Noted) → i < length xs →
      x ≡ get_or xs i x → here ≡ sc →
      behind ≡ walked (hole_walk p (hole_of x) here a) b → above ≡ raised (one_if (is_text (hole_of x).1) 0) (up a) →
      walked (holes_walk p (left_holes xs i) sc a) b ≡ all → walked (holes_walk p (left_holes xs (i + 1)) sc above) behind ≡ all
  holes_next x here a above b behind all h e k g f is =
      let f1 : Walk = tree_walk p (hole_of x).0 sc a in
      let f2 : Walk = text_if (hole_of x).1 in
      let next = raised (one_if (is_text (hole_of x).1) 0) (up a) in
      let rest : Walk = holes_walk p (left_holes xs (i + 1)) sc next in
      ap (λ c. walked (holes_walk p (left_holes xs (i + 1)) sc c) behind) f
      ∙ ap (walked rest) (g ∙ ap (λ s. walked (hole_walk p (hole_of x) s a) b) k ∙ walked_then f1 f2 b)
      ∙ sym (walked_then f1 (f2 then rest) b ∙ walked_then f2 rest (walked f1 b))
      ∙ sym (ap (λ hs. walked (holes_walk p (holes hs) sc a) b) (seen_next hole_of xs i x h e)) ∙ is

  pub holes_done : (a : Around) (b all : Noted) → length xs ≤ i → walked (holes_walk p (left_holes xs i) sc a) b ≡ all → b ≡ all
  holes_done a b all h is =
      sym (ap (λ hs. walked (holes_walk p (holes hs) sc a) b) (seen_none hole_of xs i h) ∙ walked_nothing b) ∙ is

-- a text with holes, by what its steps make
pub text_done : (p : Program) (bs : Bytes) (hs : Holes) (sc : Scope) (a above : Around) (b first parts all : Noted) →
    first ≡ walked (text_if bs) b → above ≡ raised (one_if (is_text bs) 0) a →
    parts ≡ walked (holes_walk p hs sc above) first → all ≡ walked last parts →
    all ≡ walked (form_walk p (t.Shape.holes bs hs) 0 no_place sc a) b
text_done p bs hs sc a above b first parts all e1 e2 e3 e4 =
    let f : Walk = holes_walk p hs sc (raised (one_if (is_text bs) 0) a) in
    e4 ∙ ap (walked last) (e3 ∙ ap (λ x. walked (holes_walk p hs sc x) first) e2 ∙ ap (walked f) e1)
    ∙ sym (walked_then (text_if bs) (f then last) b ∙ walked_then f last (walked (text_if bs) b))
