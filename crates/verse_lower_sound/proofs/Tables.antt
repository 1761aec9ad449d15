-- The tables of accepted items find each function and method, and each default is that of a field.
use Rattle.std.proofs.Common.{◌≡◌, ℕ, zero, suc, ◌+◌, Bool, List, [], ◌∷◌, length, map, Some, None, refl}
use Rattle.std.proofs.Common.{ap, ◌∙◌}
use Rattle.std.proofs.Common.{slice_get}
use Rattle.verse_base.proofs.Facts.{get_rest, get_mapped}
use Rattle.verse_tree.specs.ItemTree.{FieldTree, ClassTree, MemberTree, field, method, ItemTree, using, enumeration}
use Rattle.verse_tree.specs.ItemTree.{class, function}
use Rattle.verse_names_tables.specs.Counting.{counted, counts_after, no_counts}
use Rattle.verse_names_tables.specs.declared.counting.Counts.{Counts}
use Rattle.verse_names_declarations.specs.Known.{known}
use Rattle.verse_sorts.specs.Typing.{at}
use Rattle.verse_meaning_state.specs.Waits.{nth}
use Rattle.verse_meaning_state.proofs.Numbers.{nth_is}
use Rattle.verse_meaning.specs.Programs.{Program, classes, own_fields, fields_from, parent_of}
use Rattle.verse_sound_rules.specs.Forms.{is_default}
use Rattle.verse_sound_rules.specs.Found as rules
use Rattle.lower_bounds.proofs.Lists.{Each, each_first, each_rest}
use Rattle.lower_sound.specs.Programs.{FunctionFound, MethodFound, DefaultFound, MembersFound, ItemsFound}
use Rattle.verse_accept_classes.specs.Owners.{Owned, methods_owned, owned}
use Rattle.verse_accept_classes.specs.Referring as items
use Rattle.verse_accept_classes.specs.Laws.{Quiet, FunctionsStand, info_of}
use Rattle.verse_accept_classes.proofs.Tables.{fields_agree_all}
use Rattle.verse_accept_fine.specs.Sorted.{class_in, field_sort, sorted, program}
use Rattle.verse_accept_fine.proofs.Names.{get_map}
use Rattle.verse_accept_fine.proofs.Calls.{this_of}

-- each of a list has its place in it
abbrev At : {X : Type 0} → List X → X → Type 0
At xs x = (i : ℕ) × (slice_get xs i ≡ Some x)

further : {X : Type 0} (y : X) (xs ys : List X) → Each (At xs) ys → Each (At (y ∷ xs)) ys
further y xs [] h = tt
further y xs (z ∷ ys) h = ((suc h.0.0, h.0.1), further y xs ys h.1)

all_at : {X : Type 0} (xs : List X) → Each (At xs) xs
all_at [] = tt
all_at (x ∷ xs) = ((0, refl), further x xs xs (all_at xs))

module _ (is : List ItemTree) (quiet : Quiet is) (functions : FunctionsStand is) (arrays events : ℕ → Bool) where
  abbrev whole : Program
  whole = program is arrays events

  abbrev found : rules.Found
  found = sorted is

  abbrev all : List Owned
  all = owned (known is).items

  function_found : (o : Owned) → o.class ≡ None → At all o → FunctionFound whole found o.tree
  function_found o none h = record {
    number = h.0;
    found = functions.found h.0 o h.1;
    this = this_of is arrays events h.0 None (ap class_in h.1 ∙ none);
  }

  method_found : (o : Owned) → At all o → MethodFound whole found o.tree
  method_found o h = record { number = h.0; found = functions.found h.0 o h.1 }

  -- ---- the defaults of fields

  -- the fields of a class end with its own
  own_at : (n : ℕ) (cs : List ClassTree) (c : ClassTree) (i : ℕ) (d : FieldTree) → slice_get
      (own_fields c.members) i ≡ Some d →
      (j : ℕ) × (slice_get (fields_from n cs (Some c)) j ≡ Some d)
  own_at zero cs c i d e = (i, e)
  own_at (suc n) cs c i d e =
      let above = fields_from n cs (parent_of cs c.parent) in
      (i + length above, get_rest above (own_fields c.members) i ∙ e)

  default_found : (c : ClassTree) (d : FieldTree) → At (classes is) c → At (own_fields c.members) d →
      DefaultFound whole found d
  default_found c d h k b e =
      let there : nth (classes is) h.0 ≡ Some c = nth_is (classes is) h.0 ∙ h.1 in
      let own = own_at (length (classes is)) (classes is) c k.0 d k.1 in
      let field : slice_get (items.fields_of is h.0) own.0 ≡ Some d =
      ap (λ o. slice_get (fields_from (length (classes is)) (classes is) o) own.0) there ∙ own.1 in
      let slot : at (found.slots h.0) own.0 ≡ Some (field_sort (info_of is d)) =
      ap (λ l. at (map field_sort l) own.0) (fields_agree_all is quiet h.0)
      ∙ get_map field_sort (map (info_of is) (items.fields_of is h.0)) own.0 (info_of is d)
      (get_mapped (info_of is) (items.fields_of is h.0) own.0 d field) in
      (_, is_default h.0 own.0 d (nth_is (items.fields_of is h.0) own.0 ∙ field) e slot)

  -- ---- all items

  members_found : (c : ClassTree) (n : ℕ) → At (classes is) c → (ms : List MemberTree) → Each (At all)
      (methods_owned n ms) →
      Each (At (own_fields c.members)) (own_fields ms) → MembersFound whole found ms
  members_found c n h [] u v = tt
  members_found c n h (field d ∷ ms) u v = (default_found c d h v.0, members_found c n h ms u v.1)
  members_found c n h (method x ∷ ms) u v =
      (method_found (record { class = Some n; tree = x }) u.0, members_found c n h ms u.1 v)

  from_found : (js : List ItemTree) (n : Counts) → Each (At all) (owned (counted n js)) → Each (At (classes is))
      (classes js) →
      ItemsFound whole found js
  from_found [] n u v = tt
  from_found (using x ∷ js) n u v = from_found js (counts_after (using x) n) u v
  from_found (enumeration e ∷ js) n u v = from_found js (counts_after (enumeration e) n) u v
  from_found (class c ∷ js) n u v =
      let own = methods_owned n.classes c.members in
      let rest = owned (counted (counts_after (class c) n) js) in (
        members_found c n.classes v.0 c.members (each_first (At all) own rest u) (all_at (own_fields c.members)),
        from_found js (counts_after (class c) n) (each_rest (At all) own rest u) v.1,
      )
  from_found (function x ∷ js) n u v = (
    function_found (record { class = None; tree = x }) refl u.0,
    from_found js (counts_after (function x) n) u.1 v,
  )

  pub items_found : ItemsFound whole found is
  items_found = from_found is no_counts (all_at all) (all_at (classes is))
