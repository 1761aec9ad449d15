-- Where indices lead, in arrays and maps.
use Rattle.std.proofs.Common.{◌≡◌, ℕ, Bool, true, false, cond, nat_eq, List, refl, sym, subst, ◌∙◌}
use Rattle.verse_base.proofs.Facts.{and_first}
use Rattle.verse_tree.specs.Tree.{tree, Trees, no_trees, more_trees}
use Rattle.verse_tree.specs.ItemTree.{ItemTree}
use Rattle.verse_rules_types.specs.Types.{Ty}
use Rattle.verse_rules_types.specs.Types as ty
use Rattle.verse_rules_types.specs.Kinds.{is_key}
use Rattle.verse_check_typing.specs.Facts.{Facts, type_of}
use Rattle.verse_check_typing.specs.Keys.{has_keys}
use Rattle.verse_check_typing.specs.Parts.{count}
use Rattle.verse_check_typing.specs.Calls.{are_wanted, can_index, takes_one_index, element_of}
use Rattle.verse_meaning.specs.Programs.{Program}
use Rattle.verse_sorts.specs.Sorts as s
use Rattle.verse_sorts.specs.Sorts.{Sort}
use Rattle.verse_sorts_types.specs.SortOf.{sort_of}
use Rattle.verse_sorts_types.proofs.Fitting as fitting
use Rattle.verse_sound_rules.specs.Found as rules
use Rattle.verse_sound_rules.specs.Fine.{Reaches, reaches_element, reaches_value, reaches_nothing}
use Rattle.verse_accept_rows.specs.Found.{final}
use Rattle.verse_accept_fine.specs.Sorted.{all_classes, sorted, program}
use Rattle.verse_accept_fine.proofs.Operators.{int_fits, key_sort}
use Rattle.verse_accept_forms.proofs.Operands.{sorts_of, not_one}

pub same_never : (q : Bool) → cond q ty.never ty.never ≡ ty.never
same_never true = refl
same_never false = refl

module _ (is : List ItemTree) (arrays events : ℕ → Bool) where
  abbrev F : Facts
  F = final is

  abbrev whole : Program
  whole = program is arrays events

  abbrev found : rules.Found
  found = sorted is

  abbrev sorts : Trees → List Sort
  sorts ts = sorts_of is arrays events ts

  -- what is of the type u has by these indices what is of the type v
  pub reaches : (u : Ty) (ts : Trees) (v : Ty) → can_index F u ts ≡ true → are_wanted (takes_one_index u) (count ts) ≡ true →
      has_keys u ≡ true → v ≡ element_of u (count ts) → Reaches whole found (sort_of u) (sorts ts) (sort_of v)
  reaches ty.never ts v i one k r =
      subst (λ z. Reaches whole found s.never (sorts ts) (sort_of z)) (sym (r ∙ same_never (nat_eq (count ts) 1))) reaches_nothing
  reaches (ty.array u) no_trees v i one k r = absurd (cc)
  reaches (ty.array u) (more_trees (tree m q x) no_trees) v i one k r =
      subst (λ z. Reaches whole found (s.list (sort_of u)) (sorts (more_trees (tree m q x) no_trees)) (sort_of z)) (sym r)
      (reaches_element (int_fits is arrays events (type_of F (tree m q x)) i))
  reaches (ty.array u) (more_trees y (more_trees z ts)) v i one k r = absurd (not_one y z ts one)
  reaches (ty.mapping l u) no_trees v i one k r = absurd (cc)
  reaches (ty.mapping l u) (more_trees (tree m q x) no_trees) v i one k r =
      subst (λ z. Reaches whole found (s.map (sort_of l) (sort_of u)) (sorts (more_trees (tree m q x) no_trees)) (sort_of z)) (sym r)
      (reaches_value (key_sort is arrays events l (and_first (is_key l) (has_keys u) k))
      (fitting.fits_sort (all_classes is) (type_of F (tree m q x)) l i))
  reaches (ty.mapping l u) (more_trees y (more_trees z ts)) v i one k r = absurd (not_one y z ts one)
  reaches u ts v i one k r = absurd (cc)
