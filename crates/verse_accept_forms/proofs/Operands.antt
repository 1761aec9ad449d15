-- Operands of calls and indices, by their number.
use Rattle.std.proofs.Common.{◌≡◌, ℕ, zero, suc, ◌+◌, Bool, true, ◌&&◌, nat_eq, List, [], ◌∷◌, refl, arith}
use Rattle.std.proofs.lemmas.Bool.Decides.{nat_tests}
use Rattle.std.specs.Prelude.{Some}
use Rattle.verse_base.proofs.Facts.{and_first, and_second}
use Rattle.verse_tree.specs.Tree.{Tree, tree, Shape, Trees, no_trees, more_trees}
use Rattle.verse_tree.specs.Tree as t
use Rattle.verse_tree.specs.ItemTree.{ItemTree}
use Rattle.verse_rules_types.specs.Types.{Ty}
use Rattle.verse_rules_walk.specs.Around.{Around, Used, used_as}
use Rattle.verse_names_scopes.specs.Visible.{World}
use Rattle.verse_check_typing.specs.Facts.{Facts, type_of}
use Rattle.verse_check_typing.specs.Parts.{count, first_from, second_from}
use Rattle.verse_check_typing.specs.Calls.{are_wanted, would_fit, would_be_int}
use Rattle.verse_sorts.specs.Sorts as s
use Rattle.verse_sorts.specs.Sorts.{Sort}
use Rattle.verse_sorts.specs.Typing.{AllFit, fit_no, fit_so}
use Rattle.verse_sorts_types.specs.SortOf.{sort_of}
use Rattle.verse_sorts_types.proofs.Fitting as fitting
use Rattle.verse_sound_rules.specs.Found.{Allowed}
use Rattle.verse_sound_rules.specs.Fine.{sorts_at}
use Rattle.verse_accept_rows.specs.Found.{final}
use Rattle.verse_accept_fine.specs.Sorted.{all_classes, up, sorted, program, Allows}
use Rattle.verse_accept_fine.proofs.Operators.{int_fits}

same_count : (n m : ℕ) → nat_eq n m ≡ true → m ≡ n
same_count n m e = grind (arith, nat_tests, e)

not_none : (e : Tree) (es : Trees) → are_wanted (Some 0) (count (more_trees e es)) ≡ true → ⊥
not_none e es h = omega (arith, same_count (count (more_trees e es)) 0 h)

pub not_one : (e d : Tree) (es : Trees) → are_wanted (Some 1) (count (more_trees e (more_trees d es))) ≡ true → ⊥
not_one e d es h = omega (arith, same_count (count (more_trees e (more_trees d es))) 1 h)

not_two : (e d c : Tree) (es : Trees) → are_wanted (Some 2) (count (more_trees e (more_trees d (more_trees c es)))) ≡ true → ⊥
not_two e d c es h = omega (arith, same_count (count (more_trees e (more_trees d (more_trees c es)))) 2 h)

module _ (is : List ItemTree) (arrays events : ℕ → Bool) where
  abbrev F : Facts
  F = final is

  abbrev pub sorts_of : Trees → List Sort
  sorts_of ts = sorts_at (program is arrays events) (sorted is) ts

  pub no_operands : (ts : Trees) → are_wanted (Some 0) (count ts) ≡ true → AllFit (up is) (sorts_of ts) []
  no_operands no_trees h = fit_no
  no_operands (more_trees e es) h = absurd (not_none e es h)

  pub one_operand : (ts : Trees) (u : Ty) → are_wanted (Some 1) (count ts) ≡ true → would_fit F (first_from F ts) u ≡ true →
      AllFit (up is) (sorts_of ts) (sort_of u ∷ [])
  one_operand no_trees u h f = absurd (cc)
  one_operand (more_trees (tree m q x) no_trees) u h f =
      fit_so (fitting.fits_sort (all_classes is) (type_of F (tree m q x)) u f) fit_no
  one_operand (more_trees e (more_trees d es)) u h f = absurd (not_one e d es h)

  pub two_ints : (ts : Trees) → are_wanted (Some 2) (count ts) ≡ true →
      (would_be_int (first_from F ts) && would_be_int (second_from F ts)) ≡ true → AllFit (up is) (sorts_of ts) (s.int ∷ s.int ∷ [])
  two_ints no_trees h f = absurd (cc)
  two_ints (more_trees e no_trees) h f = absurd (cc)
  two_ints (more_trees (tree m q x) (more_trees (tree k r y) no_trees)) h f =
      let e = tree m q x in
      let d = tree k r y in
      fit_so (int_fits is arrays events (type_of F e) (and_first (would_be_int (Some (type_of F e))) (would_be_int (Some (type_of F d))) f))
      (fit_so (int_fits is arrays events (type_of F d) (and_second (would_be_int (Some (type_of F e))) (would_be_int (Some
      (type_of F d))) f)) fit_no)
  two_ints (more_trees e (more_trees d (more_trees c es))) h f = absurd (not_two e d c es h)

  -- what is allowed at a node is allowed however it is used
  pub used_allows : (w : World) (a : Around) (b : Allowed) (u : Used) → Allows is w a b → Allows is w (used_as u a) b
  used_allows w a b u h = record {
    fails = h.fails;
    tried = h.tried;
    result = h.result;
    loop = h.loop;
    breaks = h.breaks;
    waits = h.waits;
    this = h.this;
  }
