-- What the tables have found is what the checker has found.
use Rattle.std.proofs.Common.{◌≡◌, ℕ, ◌-◌, map, Option, Some, None, refl, ap, ◌∙◌}
use Rattle.std.specs.Prelude.{slice_get}
use Rattle.verse_tree.specs.declared.tables.FunInfo.{FunInfo}
use Rattle.verse_tree.specs.declared.tables.Names.{Names}
use Rattle.verse_rules_types.specs.Types.{classes_of}
use Rattle.verse_rules_types.specs.Fitting.{parent_of}
use Rattle.verse_rules_walk.specs.Order.{InPostOrder}
use Rattle.verse_check_typing.specs.Facts.{type_at}
use Rattle.verse_check_typing.specs.Members.{fields_in}
use Rattle.verse_check_typing.specs.Loops.{index_of}
use Rattle.verse_rules.specs.Sound.{completed}
use Rattle.verse_sorts_types.specs.SortOf.{sort_of}
use Rattle.verse_accept_fine.specs.Sorted as found
use Rattle.note_sorts.specs.Tabled as tables
use Rattle.note_sorts.specs.Tabled.{items, found_of, field_sort}
use Rattle.note_sorts.specs.Owning.{owners, flat}
use Rattle.note_found.specs.Laws.{TablesAgree}
use Rattle.note_found.proofs.Nodes.{vars_agree}
use Rattle.note_found.proofs.Owners.{owners_agree}

same_signature : (f : Option FunInfo) (c : Option ℕ) → tables.signature_of f c ≡ found.signature_of f c
same_signature None c = refl
same_signature (Some f) c = refl

pub agree : InPostOrder → TablesAgree
unfolding found_of
agree order p names types = record {
  sort = λ n. ap (λ ts. sort_of (type_at ts n)) types;
  key = λ n. ap (λ ts. sort_of (index_of (type_at ts (n - 1)))) types;
  is_var = vars_agree order (items p);
  up = λ c. ap (λ (k : Names). parent_of (classes_of k.classes) c) names;
  slots = λ c. ap (λ (k : Names). map field_sort (fields_in (slice_get k.classes c))) names;
  signature = λ g.
      ap (λ (k : Names). tables.signature_of (slice_get k.funs g) (flat (slice_get (owners (items p)) g))) names
      ∙ ap (λ c. tables.signature_of (slice_get (completed (items p)).funs g) c) (owners_agree (items p) g)
      ∙ same_signature _ _;
}
