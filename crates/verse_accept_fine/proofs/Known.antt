-- No sort of a type is that of a local of which nothing is known.
use Rattle.std.proofs.Common.{◌≡◌, ℕ, zero, suc, ◌-◌, List, [], ◌∷◌, map, Option, subst}
use Rattle.std.specs.Prelude.{Some, None, slice_get}
use Rattle.verse_tree.specs.ItemTree.{ItemTree}
use Rattle.verse_tree.specs.declared.tables.FunInfo.{FunInfo}
use Rattle.verse_rules_types.specs.Types.{ty_of}
use Rattle.verse_names_declarations.specs.Known.{known}
use Rattle.verse_check_typing.specs.Members.{fields_of}
use Rattle.verse_check_typing.specs.Loops.{index_of}
use Rattle.verse_rules.specs.Sound.{completed}
use Rattle.verse_sorts.specs.Sorts.{Sort, IsKnown}
use Rattle.verse_sorts.specs.Typing.{at}
use Rattle.verse_sorts_types.proofs.Fitting.{sort_known}
use Rattle.verse_sound_rules.specs.Found.{AllKnown}
use Rattle.verse_accept_rows.specs.Found.{final}
use Rattle.verse_accept_classes.specs.Owners.{owned}
use Rattle.verse_accept_fine.specs.Sorted.{ty_at, made_sort, field_sort, class_in, signature_of, sorted}

each_known : {A : Type 0} (f : A → Sort) → ((x : A) → IsKnown (f x)) → (xs : List A) (i : ℕ) (q : Sort) →
    at (map f xs) i ≡ Some q → IsKnown q
each_known f h [] i q e = absurd (cc)
each_known f h (x ∷ xs) zero q e = let same : f x ≡ q = cc in subst IsKnown same (h x)
each_known f h (x ∷ xs) (suc i) q e = each_known f h xs i q e

params_known : (o : Option FunInfo) (c : Option ℕ) (i : ℕ) (q : Sort) → at (signature_of o c).params i ≡ Some q → IsKnown q
params_known None c i q e = absurd (cc)
params_known (Some g) c i q e = each_known made_sort (λ t. sort_known (ty_of t)) g.params i q e

result_known : (o : Option FunInfo) (c : Option ℕ) → IsKnown (signature_of o c).result
result_known None c = tt
result_known (Some g) c = sort_known (ty_of g.result)

-- what is found for nodes, fields and functions
pub sorted_known : (is : List ItemTree) → AllKnown (sorted is)
sorted_known is = record {
  sort = λ n. sort_known (ty_at is n);
  key = λ n. sort_known (index_of (ty_at is (n - 1)));
  slots = λ c i q e. each_known field_sort (λ f. sort_known (ty_of f.ty)) (fields_of (final is) c) i q e;
  params = λ g i q e. params_known (slice_get (completed is).funs g) (class_in (slice_get (owned (known is).items) g)) i q e;
  result = λ g. result_known (slice_get (completed is).funs g) (class_in (slice_get (owned (known is).items) g));
}
