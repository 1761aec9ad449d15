-- The function that a run starts with.
use Rattle.std.proofs.Common.{◌≡◌, ℕ, zero, suc, ◌+◌, Bool, true, false, cond, not, List, [], ◌∷◌, ◌++◌, map, length, Option, refl}
use Rattle.std.proofs.Common.{sym, ap, ◌∙◌, subst}
use Rattle.std.specs.Prelude.{Some, None, slice_get}
use Rattle.std.proofs.lemmas.Bool.{not-true}
use Rattle.verse_base.proofs.Facts.{and_first, and_second, get_mapped, guarded}
use Rattle.verse_tree.specs.ItemTree.{FunTree, MemberTree, field, method, ItemTree, using, enumeration, class, function}
use Rattle.verse_tree.specs.PostOrder.{items_order, program_place}
use Rattle.verse_rules_least.specs.Least.{Holds, other}
use Rattle.verse_rules_types.specs.Types.{Ty}
use Rattle.verse_rules_types.specs.Types as ty
use Rattle.verse_names_tables.specs.Functions.{Function, fun_function, param_type}
use Rattle.verse_names_tables.specs.Counting.{counted, counts_after, funs_after, no_counts}
use Rattle.verse_names_tables.specs.declared.counting.Counts.{Counts}
use Rattle.verse_names_declarations.specs.Known.{Known, known}
use Rattle.verse_names_items.specs.Rules.{is_main_name, has_main, is_ints, takes_inputs, is_void, is_start, can_start, misshapes_main}
use Rattle.verse_names_items.specs.Rules.{lacks_main}
use Rattle.verse_names_items.specs.Rules.{rules_at}
use Rattle.verse_names_items.specs.Rules as rules
use Rattle.verse_names_items.specs.Nodes.{one, fun_declared, item_declared, items_declared, ItemsBreak}
use Rattle.verse_rules.specs.Made.{made}
use Rattle.verse_meaning.specs.Programs.{main_name, main_in}
use Rattle.verse_meaning.proofs.Names.{same_bytes}
use Rattle.verse_sorts.specs.Sorts as s
use Rattle.verse_sorts_types.specs.SortOf.{sort_of}
use Rattle.verse_sound_rules.specs.Programs.{Inputs, no_inputs, has_inputs}
use Rattle.verse_accept_scopes.specs.Lists.{Each}
use Rattle.verse_accept_scopes.proofs.Rows.{each_first, each_rest}
use Rattle.verse_accept_classes.specs.Owners.{Owned, methods_owned, owned}
use Rattle.verse_accept_classes.proofs.Places.{Placed, all_placed}
use Rattle.verse_accept_classes.proofs.Functions.{functions_are}
use Rattle.verse_accept_classes.proofs.Circles.{Kept, program_kept, holds_here}
use Rattle.verse_accept_classes.proofs.Tables.{of_made}
use Rattle.verse_accept_fine.specs.Sorted.{made_sort}

-- ---- what Main takes

ints_are : (u : Ty) → is_ints u ≡ true → u ≡ ty.array ty.int
ints_are (ty.array ty.int) h = refl
ints_are (ty.array v) h = cc
ints_are u h = cc

inputs_of : (us : List Ty) → takes_inputs us ≡ true → Inputs (map made_sort (map made us))
inputs_of [] h = no_inputs
inputs_of (u ∷ []) h =
    let sort : made_sort (made u) ≡ s.list s.int = ap sort_of (of_made u) ∙ ap sort_of (ints_are u h) in
    subst (λ q. Inputs (q ∷ [])) (sym sort) has_inputs
inputs_of (u ∷ (v ∷ us)) h = cc

-- the function that Main is
pub record Starts (all : List ItemTree) (f : FunTree) : Type 0 where
  pub number : ℕ
  pub there : slice_get (owned (known all).items) number ≡ Some (record { class = None; tree = f })
  pub inputs : Inputs (map made_sort (map made (map (param_type (known all).index.types) f.params)))
  pub decides : (fun_function (known all).index.types f).effects.decides ≡ false

module _ (all : List ItemTree) where
  abbrev k : Known
  k = known all

  abbrev os : List Owned
  os = owned k.items

  shaped : (b : Bool) (n : ℕ) (f : FunTree) → misshapes_main k (rules.function n f) ≡ b →
      ((c : ℕ) → Holds (rules_at k (rules.function n f)) c → ⊥) → b ≡ false
  shaped true n f e h = absurd (h 44 (other (other (other (other (holds_here e))))))
  shaped false n f e h = refl

  function_at : (n : ℕ) (f : FunTree) → slice_get os n ≡ Some (record { class = None; tree = f }) →
      slice_get k.functions n ≡ Some (fun_function k.index.types f)
  function_at n f e =
      ap (λ fs. slice_get fs n) (functions_are k.index.types all no_counts)
      ∙ get_mapped (λ (o : Owned). fun_function k.index.types o.tree) os n (record { class = None; tree = f }) e

  starts_at : (n : ℕ) (f : FunTree) → slice_get os n ≡ Some (record { class = None; tree = f }) → is_main_name f.name ≡ true →
      misshapes_main k (rules.function n f) ≡ false → Starts all f
  starts_at n f e main h =
      let can = guarded (is_main_name f.name) (can_start (slice_get k.functions n)) h main in
      let start : is_start (fun_function k.index.types f) ≡ true = subst (λ o. can_start o ≡ true) (function_at n f e) can in
      let own = fun_function k.index.types f in
      record {
        number = n;
        there = e;
        inputs = inputs_of (map (param_type k.index.types) f.params) (and_first (takes_inputs own.params) _ start);
        decides = not-true own.effects.decides
            (and_second (is_void own.result) _ (and_second (takes_inputs own.params) _ start));
      }

  abbrev HasStart : List ItemTree → Type 0
  HasStart is = (f : FunTree) × (main_in is ≡ Some f) × Starts all f

  behind_methods : (c n : ℕ) (ms : List MemberTree) (us : List Owned) → Placed os n (methods_owned c ms ++ us) →
      Placed os (funs_after ms n) us
  behind_methods c n [] us h = h
  behind_methods c n (field d ∷ ms) us h = behind_methods c n ms us h
  behind_methods c n (method f ∷ ms) us h = behind_methods c (n + 1) ms us h.1

  find_start : (is : List ItemTree) (n : Counts) → Placed os n.funs (owned (counted n is)) →
      Each (Kept k) (items_declared k (counted n is)) → has_main is ≡ true → HasStart is
  find_start [] n p h m = cc
  find_start (using u ∷ is) n p h m = find_start is (counts_after (using u) n) p h.1 m
  find_start (enumeration e ∷ is) n p h m = find_start is (counts_after (enumeration e) n) p h.1 m
  find_start (class c ∷ is) n p h m =
      let own = item_declared k (class c) n in
      let rest = items_declared k (counted (counts_after (class c) n) is) in
      find_start is (counts_after (class c) n)
      (behind_methods n.classes n.funs c.members (owned (counted (counts_after (class c) n) is)) p) (each_rest (Kept k) own rest h) m
  find_start (function f ∷ is) n p h m =
      let rest = each_rest (Kept k) (item_declared k (function f) n) (items_declared k (counted (counts_after (function f) n) is)) h in
      by (is_main_name f.name) refl m (λ g. find_start is (counts_after (function f) n) p.1 rest g)
    where
      own : Kept k (record { number = f.number; place = f.place; subject = rules.function n.funs f })
      own = (each_rest (Kept k) (fun_declared f) (one f.number f.place (rules.function n.funs f))
          (each_first (Kept k) (item_declared k (function f) n) (items_declared k (counted (counts_after (function f) n) is)) h)).0

      named : (b : Bool) → is_main_name f.name ≡ b → main_in (function f ∷ is) ≡ cond b (Some f) (main_in is)
      named b e = ap (λ b. cond b (Some f) (main_in is)) (sym (same_bytes f.name main_name) ∙ e)

      by : (b : Bool) → is_main_name f.name ≡ b → cond b true (has_main is) ≡ true → (has_main is ≡ true → HasStart is) →
          HasStart (function f ∷ is)
      by true e g r = (
        f,
        named true e,
        starts_at n.funs f p.0 e (shaped (misshapes_main k (rules.function n.funs f)) n.funs f refl own),
      )
      by false e g r = let at = r g in (at.0, named false e ∙ at.1, at.2)

has_it : (k : Known) (is : List ItemTree) (b : Bool) → has_main is ≡ b → ((c : ℕ) → Holds (rules_at k (rules.program is)) c → ⊥) → b ≡ true
has_it k is true e h = refl
has_it k is false e h = absurd (h 43 (other (other (other (holds_here (ap not e))))))

pub main_starts : (is : List ItemTree) → ((n c : ℕ) → ItemsBreak is n c → ⊥) → HasStart is is
main_starts is h =
    let k = known is in
    let items = items_declared k k.items in
    let own = one (length (items_order is)) program_place (rules.program is) in
    let kept = program_kept is h in
    find_start is is no_counts (all_placed (owned k.items)) (each_first (Kept k) items own kept)
    (has_it k is (has_main is) refl (each_rest (Kept k) items own kept).0)
