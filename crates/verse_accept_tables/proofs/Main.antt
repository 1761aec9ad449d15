-- Where no rule of items and members is broken, there is a Main, and it takes nothing or the inputs.
use Rattle.std.proofs.Common.{◌≡◌, ℕ, ◌≤◌, List, [], ◌∷◌, length, Bool, true, false, cond, refl, sym, ap, ◌∙◌, subst, arith}
use Rattle.std.proofs.lemmas.List.{length-map}
use Rattle.std.proofs.lemmas.Option.{slice_get-map}
use Rattle.std.specs.Prelude.{Option, Some, slice_get, not, option_map}
use Rattle.verse_base.proofs.Facts.{and_first, guarded}
use Rattle.verse_tree.specs.ItemTree.{FunTree, ItemTree, using, enumeration, class, function}
use Rattle.verse_tree.specs.PostOrder.{items_order, program_place}
use Rattle.verse_rules_least.specs.Least.{Holds, other}
use Rattle.verse_rules_types.specs.Types.{Ty}
use Rattle.verse_names_tables.specs.Functions.{Function, fun_function, param_type}
use Rattle.verse_names_tables.specs.Counting.{counted, counts_after, no_counts}
use Rattle.verse_names_tables.specs.declared.counting.Counts.{Counts}
use Rattle.verse_names_declarations.specs.Known.{Known, known}
use Rattle.verse_names_items.specs.Rules.{is_main_name, is_main, has_main, takes_inputs, is_start, can_start, misshapes_main}
use Rattle.verse_names_items.specs.Rules.{lacks_main, rules_at}
use Rattle.verse_names_items.specs.Rules as rules
use Rattle.verse_names_items.specs.Nodes.{one, fun_declared, item_declared, items_declared, ItemsBreak}
use Rattle.verse_meaning.specs.Programs.{main_name, main_in}
use Rattle.verse_meaning.proofs.Names.{same_bytes}
use Rattle.verse_accept_scopes.specs.Lists.{Each}
use Rattle.verse_accept_scopes.proofs.Rows.{each_first, each_rest}
use Rattle.lower_simulation_runs.specs.Programs.{a_function, defined_in}
use Rattle.verse_accept_tables.proofs.Functions.{as_function, functions_are}
use Rattle.verse_accept_tables.proofs.Standing.{Last, next, whole}
use Rattle.verse_accept_classes.proofs.Circles.{Kept, program_kept, holds_here}

-- what takes no more than the inputs
few_types : (ts : List Ty) → takes_inputs ts ≡ true → length ts ≤ 1
few_types [] h = omega arith
few_types (t ∷ []) h = omega arith
few_types (t ∷ (u ∷ ts)) h = cc

started : (o : Option Function) (f : Function) → can_start o ≡ true → o ≡ Some f → length f.params ≤ 1
started o f h e =
    let s : is_start f ≡ true = subst (λ o. can_start o ≡ true) e h in
    few_types f.params (and_first (takes_inputs f.params) _ s)

module _ (all : List ItemTree) where
  abbrev k : Known
  k = known all

  shaped : (b : Bool) (n : ℕ) (f : FunTree) → misshapes_main k (rules.function n f) ≡ b →
      ((c : ℕ) → Holds (rules_at k (rules.function n f)) c → ⊥) → b ≡ false
  shaped true n f e h = absurd (h 44 (other (other (other (other (holds_here e))))))
  shaped false n f e h = refl

  function_at : (n : ℕ) (f : FunTree) → slice_get (defined_in all) n ≡ Some (a_function f) →
      slice_get k.functions n ≡ Some (fun_function k.index.types f)
  function_at n f e = ap (λ fs. slice_get fs n) (functions_are k.index.types all no_counts) ∙
      slice_get-map (as_function k.index.types) (defined_in all) n ∙ ap (option_map (as_function k.index.types)) e

  takes_few : (n : ℕ) (f : FunTree) → slice_get (defined_in all) n ≡ Some (a_function f) → is_main_name f.name ≡ true →
      misshapes_main k (rules.function n f) ≡ false → length f.params ≤ 1
  takes_few n f e main h =
      let start = guarded (is_main_name f.name) (can_start (slice_get k.functions n)) h main in
      let few = started (slice_get k.functions n) (fun_function k.index.types f) start (function_at n f e) in
      subst (λ n. n ≤ 1) (length-map f.params (param_type k.index.types)) few

  abbrev Found : List ItemTree → Type 0
  Found is = (f : FunTree) × (main_in is ≡ Some f) × (length f.params ≤ 1)

  found : (is : List ItemTree) (n : Counts) → Last all is n → Each (Kept k) (items_declared k (counted n is)) →
      has_main is ≡ true → Found is
  found [] n l h m = cc
  found (using u ∷ is) n l h m = found is (counts_after (using u) n) (next all is (using u) n l) h.1 m
  found (enumeration e ∷ is) n l h m = found is (counts_after (enumeration e) n) (next all is (enumeration e) n l) h.1 m
  found (class c ∷ is) n l h m =
      let own = item_declared k (class c) n in
      let rest = items_declared k (counted (counts_after (class c) n) is) in
      found is (counts_after (class c) n) (next all is (class c) n l) (each_rest (Kept k) own rest h) m
  found (function f ∷ is) n l h m =
      let rest = each_rest (Kept k) (item_declared k (function f) n) (items_declared k (counted (counts_after (function f) n) is)) h in
      by (is_main_name f.name) refl m (λ g. found is (counts_after (function f) n) (next all is (function f) n l) rest g)
    where
      own : Kept k (record { number = f.number; place = f.place; subject = rules.function n.funs f })
      own = (each_rest (Kept k) (fun_declared f) (one f.number f.place (rules.function n.funs f))
          (each_first (Kept k) (item_declared k (function f) n) (items_declared k (counted (counts_after (function f) n) is)) h)).0

      named : (b : Bool) → is_main_name f.name ≡ b → main_in (function f ∷ is) ≡ cond b (Some f) (main_in is)
      named b e = ap (λ b. cond b (Some f) (main_in is)) (sym (same_bytes f.name main_name) ∙ e)

      by : (b : Bool) → is_main_name f.name ≡ b → cond b true (has_main is) ≡ true → (has_main is ≡ true → Found is) →
          Found (function f ∷ is)
      by true e g r = (
        f,
        named true e,
        takes_few n.funs f l.functions.0 e (shaped (misshapes_main k (rules.function n.funs f)) n.funs f refl own),
      )
      by false e g r = let at = r g in (at.0, named false e ∙ at.1, at.2)

has_it : (k : Known) (is : List ItemTree) (b : Bool) → has_main is ≡ b → ((c : ℕ) → Holds (rules_at k (rules.program is)) c → ⊥) → b ≡ true
has_it k is true e h = refl
has_it k is false e h = absurd (h 43 (other (other (other (holds_here (ap not e))))))

pub main_found : (is : List ItemTree) → ((n c : ℕ) → ItemsBreak is n c → ⊥) → Found is is
main_found is h =
    let k = known is in
    let items = items_declared k k.items in
    let own = one (length (items_order is)) program_place (rules.program is) in
    let kept = program_kept is h in
    found is is no_counts (whole is) (each_first (Kept k) items own kept)
    (has_it k is (has_main is) refl (each_rest (Kept k) items own kept).0)
