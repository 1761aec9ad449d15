-- The keys of a map with their values, one pair after the other.
use Rattle.std.proofs.Common.{◌≡◌, ℕ, ◌+◌, ◌<◌, ◌≤◌, List, length, get_or, sym, ap, ◌∙◌}
use Rattle.verse_tree.specs.Tree as t
use Rattle.verse_tree.specs.View.{pair_of, pairs}
use Rattle.verse_tree.specs.declared.exprs.Pair.{Pair}
use Rattle.verse_tree.specs.declared.programs.Program.{Program}
use Rattle.verse_meaning.specs.Programs.{program_of}
use Rattle.verse_sorts.specs.Sorts.{Sort}
use Rattle.lower_code.specs.Arounds.{up}
use Rattle.lower_code.specs.Scopes.{Scope}
use Rattle.lower_code.specs.declared.arounds.Around.{Around}
use Rattle.lower_lookup.specs.Types.{differ_of}
use Rattle.lower_parts.proofs.Lists.{seen_next, seen_none}
use Rattle.lower_parts.proofs.Facts.{left_pairs}
use Rattle.lower_notes.specs.Stretches.{Walk, last, widened, ◌then◌}
use Rattle.lower_notes.specs.Noting.{key_in, paired_args}
use Rattle.note_sorts.specs.Tabled.{found_of}
use Rattle.note_stretches.specs.Noted.{Noted, walked}
use Rattle.note_stretches.proofs.Laws.{walked_then, walked_nothing}
use Rattle.note_parts.specs.Parts.{tree_walk, form_walk, no_place}
use Rattle.note_values.specs.Parts.{pair_walk}

abbrev pub pairs_walk : Program → Sort → t.Pairs → Scope → Around → Walk
pairs_walk p = paired_args (program_of p) (found_of p) (differ_of p)

module _ (p : Program) (key : Sort) (xs : List Pair) (i : ℕ) (sc : Scope) where
  -- behind one pair more, and where none is left
  pub pairs_next : (x : Pair) (here : Scope) (a above : Around) (b behind all : Noted) → i < length xs →
      x ≡ get_or xs i x → here ≡ sc →
      behind ≡ walked (pair_walk p key (pair_of x) here a) b → above ≡ up (up a) →
      walked (pairs_walk p key (left_pairs xs i) sc a) b ≡ all → walked (pairs_walk p key (left_pairs xs (i + 1)) sc above) behind ≡ all
  pairs_next x here a above b behind all h e k g f is =
      let f1 : Walk = widened key (tree_walk p (pair_of x).0 sc a) in
      let f2 : Walk = tree_walk p (pair_of x).1 sc (up a) in
      let rest : Walk = pairs_walk p key (left_pairs xs (i + 1)) sc (up (up a)) in
      ap (λ c. walked (pairs_walk p key (left_pairs xs (i + 1)) sc c) behind) f
      ∙ ap (walked rest) (g ∙ ap (λ s. walked (pair_walk p key (pair_of x) s a) b) k ∙ walked_then f1 f2 b)
      ∙ sym (walked_then f1 (f2 then rest) b ∙ walked_then f2 rest (walked f1 b))
      ∙ sym (ap (λ ps. walked (pairs_walk p key (pairs ps) sc a) b) (seen_next pair_of xs i x h e)) ∙ is

  pub pairs_done : (a : Around) (b all : Noted) → length xs ≤ i → walked (pairs_walk p key (left_pairs xs i) sc a) b ≡ all → b ≡ all
  pairs_done a b all h is =
      sym (ap (λ ps. walked (pairs_walk p key (pairs ps) sc a) b) (seen_none pair_of xs i h) ∙ walked_nothing b) ∙ is

-- a map, by what its steps make
pub map_by : (p : Program) (n : ℕ) (ps : t.Pairs) (sc : Scope) (a : Around) (b mid all : Noted) →
    mid ≡ walked (pairs_walk p (key_in ((found_of p).sort n)) ps sc a) b → all ≡ walked last mid →
    all ≡ walked (form_walk p (t.Shape.mapping ps) n no_place sc a) b
map_by p n ps sc a b mid all e is =
    let f : Walk = pairs_walk p (key_in ((found_of p).sort n)) ps sc a in
    is ∙ ap (walked last) e ∙ sym (walked_then f last b)
