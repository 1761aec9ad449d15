-- Nodes whose types do not differ are of one sort, but where one of them has no type.
use Rattle.std.proofs.Common.{◌≡◌, ℕ, zero, suc, Bool, true, false, cond, List, [], ◌∷◌, map, Option, Some, None, inl, inr}
use Rattle.std.proofs.Common.{refl, ap, ◌∙◌, subst}
use Rattle.std.specs.Prelude.{slice_get}
use Rattle.verse_tree.specs.ItemTree.{ItemTree}
use Rattle.verse_tree.specs.declared.tables.Ty.{Ty as Made}
use Rattle.verse_rules_types.specs.Types.{ty_of}
use Rattle.verse_rules_types.specs.Fitting.{is_same}
use Rattle.verse_check_typing.specs.Facts.{type_at}
use Rattle.verse_rules.specs.Sound.{types_of}
use Rattle.verse_sorts.specs.Sorts as s
use Rattle.verse_sorts.specs.Sorts.{Sort}
use Rattle.verse_sorts_types.specs.SortOf.{sort_of}
use Rattle.verse_sorts_types.proofs.Fitting.{same}
use Rattle.lower_lookup.specs.Types.{differ_in}
use Rattle.lower_pass_values.proofs.Assigned.{Alike}
use Rattle.verse_accept_fine.specs.Sorted.{sorted}

abbrev sort_in : Option Made → Sort
sort_in None = s.never
sort_in (Some u) = sort_of (ty_of u)

alike_in : (x y : Option Made) → differ_in x y ≡ false → Alike (sort_in x) (sort_in y)
alike_in None y h = inr (inl refl)
alike_in (Some u) None h = inl refl
alike_in (Some u) (Some v) h = inr (inr (ap sort_of (same (ty_of u) (ty_of v) (by (is_same (ty_of u) (ty_of v)) h))))
  where
    by : (b : Bool) → cond b false true ≡ false → b ≡ true
    by true h = refl
    by false h = cc

sort_is : (us : List Made) (n : ℕ) → sort_in (slice_get us n) ≡ sort_of (type_at (map ty_of us) n)
sort_is [] n = refl
sort_is (u ∷ us) zero = refl
sort_is (u ∷ us) (suc n) = sort_is us n

-- where these are the types of the nodes
pub nodes_alike : (is : List ItemTree) (us : List Made) → map ty_of us ≡ types_of is → (m n : ℕ) →
    differ_in (slice_get us m) (slice_get us n) ≡ false → Alike ((sorted is).sort m) ((sorted is).sort n)
nodes_alike is us e m n h =
    subst (λ q. Alike q ((sorted is).sort n)) (found m) (subst (Alike (sort_in (slice_get us m))) (found n)
    (alike_in (slice_get us m) (slice_get us n) h))
  where
    found : (n : ℕ) → sort_in (slice_get us n) ≡ (sorted is).sort n
    found n = sort_is us n ∙ ap (λ ts. sort_of (type_at ts n)) e
