-- What else is asked of what the checker has found: of functions, of Main, and of classes.
use Rattle.std.proofs.Common.{◌≡◌, ℕ, suc, ◌<◌, Bool, true, false, List, [], ◌∷◌, map, length, Option, Some, None, refl, sym, ap, ◌∙◌}
use Rattle.std.proofs.Common.{subst}
use Rattle.std.specs.Prelude.{slice_get}
use Rattle.std.proofs.lemmas.Option.{same_Some, none-some, slice_get_within}
use Rattle.verse_tree.specs.ItemTree.{ParamTree, FunTree, ItemTree}
use Rattle.verse_tree.specs.Shapes.{ItemsShaped}
use Rattle.verse_tree.specs.declared.tables.ClassInfo.{ClassInfo}
use Rattle.verse_rules_types.specs.Types.{Class, classes_of}
use Rattle.verse_rules_types.specs.Fitting.{parent_in}
use Rattle.verse_rules_walk.specs.Around.{outside}
use Rattle.verse_rules_walk.specs.Order.{AreNumbered}
use Rattle.verse_names_tables.specs.Names.{Table}
use Rattle.verse_names_tables.specs.Functions.{fun_function, param_type, spelled}
use Rattle.verse_names_declarations.specs.Known.{known}
use Rattle.verse_names_tables.specs.Words.{effects_of}
use Rattle.verse_names_scopes.specs.Visible.{World}
use Rattle.verse_names_scopes.specs.Subjects.{locals_behind}
use Rattle.verse_check_typing.specs.Members.{fields_in}
use Rattle.verse_rules.specs.Made.{made}
use Rattle.verse_rules.specs.Naming.{made_function}
use Rattle.verse_rules.specs.Sound.{completed, IsSound}
use Rattle.verse_meaning.specs.Programs.{Program, fun_at, main_in}
use Rattle.verse_sorts.specs.Sorts.{Sort}
use Rattle.verse_sorts.specs.Typing.{at}
use Rattle.verse_sorts_types.specs.SortOf.{sort_of}
use Rattle.verse_sound_rules.specs.Found.{Signature}
use Rattle.verse_sound_rules.specs.Found as rules
use Rattle.verse_sound_rules.specs.Programs.{Inputs}
use Rattle.lower_code.specs.Programs.{main_from}
use Rattle.lower_simulation_runs.specs.Programs.{Defined, a_function, defined_in}
use Rattle.lower_pass_programs.proofs.Telling.{param_sorts, HasThis, Told}
use Rattle.verse_accept_scopes.specs.Sites.{param_subject}
use Rattle.verse_accept_scopes.specs.Holding.{OnParams, OnFun}
use Rattle.verse_accept_rows.specs.Found.{Found}
use Rattle.verse_accept_rows.proofs.Whole.{items_found}
use Rattle.verse_accept_classes.specs.Owners.{Owned, owned, world_in}
use Rattle.verse_accept_classes.specs.Laws.{Quiet, FunctionsStand}
use Rattle.verse_accept_classes.proofs.Classes.{outline_many, classes_many}
use Rattle.verse_accept_classes.proofs.Functions.{on_owned}
use Rattle.verse_accept_classes.proofs.Parents.{parents_within}
use Rattle.verse_accept_classes.proofs.Tables.{of_made, names_stand, all_written_agrees, parents_are}
use Rattle.verse_accept_fine.specs.Sorted.{ty_at, made_sort, field_sort, class_in, signature_of, sorted, program}
use Rattle.verse_accept_sound.proofs.Main.{main_starts}
use Rattle.note_pass.proofs.Owned.{owner_of, has_this, alone, main_there}
use Rattle.note_pass.proofs.Effects.{no_both, effects_combine}

module _ (is : List ItemTree) (arrays events : ℕ → Bool) (shaped : ItemsShaped is) (numbered : AreNumbered is)
    (sound : IsSound is) (quiet : Quiet is) (functions : FunctionsStand is) where
  abbrev whole : Program
  whole = program is arrays events

  abbrev found : rules.Found
  found = sorted is

  abbrev types : Table
  types = (known is).index.types

  -- ---- functions

  abbrev own_signature : Option ℕ → FunTree → Signature
  own_signature c f = signature_of (Some (made_function (fun_function types f))) c

  signature_at : (g : ℕ) (o : Owned) → slice_get (owned (known is).items) g ≡ Some o →
      found.signature g ≡ own_signature o.class o.tree
  signature_at g o there =
      ap (λ x. signature_of x (class_in (slice_get (owned (known is).items) g))) (functions.info g o there)
      ∙ ap (λ x. own_signature (class_in x) o.tree) there

  this : (g : ℕ) (d : Defined) → slice_get (defined_in is) g ≡ Some d → HasThis d (found.signature g).this
  this g d e =
      let o = owner_of is g d e in
      subst (λ d. HasThis d (found.signature g).this) o.2
      (has_this o.0.class o.0.tree (found.signature g).this (ap (λ (s : Signature). s.this) (signature_at g o.0 o.1)))

  -- ---- their parameters

  abbrev params_of : List ParamTree → List Sort
  params_of ps = map made_sort (map made (map (param_type types) ps))

  params_are : (w : World) → w.types ≡ types → (xs : Table) (ps : List ParamTree) → OnParams (Found is) w xs ps →
      params_of ps ≡ param_sorts found ps
  params_are w names xs [] h = refl
  params_are w names xs (p ∷ ps) h =
      let own : ty_at is p.number ≡ spelled types p.written =
      h.1.type ∙ all_written_agrees is w names outside false xs p.written h.0 in
      ap (λ q. q ∷ params_of ps) (ap sort_of (of_made (spelled types p.written)) ∙ ap sort_of (sym own))
      ∙ ap (λ qs. found.sort p.number ∷ qs) (params_are w names (locals_behind w (param_subject p) xs) ps h.2)

  same_types : (c : Option ℕ) → (world_in (known is) c).types ≡ types
  same_types None = (names_stand is quiet).0.types
  same_types (Some c) = ((names_stand is quiet).1 c).types

  on_function : (g : ℕ) (o : Owned) → slice_get (owned (known is).items) g ≡ Some o →
      OnFun (Found is) (world_in (known is) o.class) [] o.tree
  on_function g o there = on_owned (Found is) (known is) (known is).items (items_found is shaped numbered sound) g o there

  params : (g : ℕ) (f : FunTree) → fun_at whole g ≡ Some f → (found.signature g).params ≡ param_sorts found f.params
  params g f e =
      let o = functions.owner g f e in
      ap (λ (s : Signature). s.params) (signature_at g o.0 o.1)
      ∙ params_are (world_in (known is) o.0.class) (same_types o.0.class) [] o.0.tree.params (on_function g o.0 o.1).0
      ∙ ap (λ (z : FunTree). param_sorts found z.params) o.2

  -- ---- what they may do

  either : (g : ℕ) (f : FunTree) → fun_at whole g ≡ Some f → (found.signature g).decides ≡ true →
      (found.signature g).lasts ≡ true → ⊥
  either g f e decides lasts =
      let o = functions.owner g f e in
      let sign = signature_at g o.0 o.1 in
      no_both (effects_of o.0.tree.effects) (effects_combine is shaped numbered sound g o.0 o.1)
      (ap (λ (s : Signature). s.decides) (sym sign) ∙ decides) (ap (λ (s : Signature). s.lasts) (sym sign) ∙ lasts)

  -- ---- Main

  main : (f : FunTree) → main_in is ≡ Some f →
      Inputs (found.signature (main_from 0 is)).params × ((found.signature (main_from 0 is)).decides ≡ false)
  main f e =
      let m = main_starts is quiet in
      let same : m.0 ≡ f = same_Some m.0 f (sym m.1 ∙ e) in
      let o = owner_of is (main_from 0 is) (a_function f) (main_there is f e) in
      let sign : found.signature (main_from 0 is) ≡ own_signature o.0.class f =
      signature_at (main_from 0 is) o.0 o.1 ∙ ap (own_signature o.0.class) (alone o.0 f o.2).1 in (
        subst Inputs (sym (ap (λ (s : Signature). s.params) sign))
            (subst (λ (g : FunTree). Inputs (params_of g.params)) same m.2.inputs),
        ap (λ (s : Signature). s.decides) sign
            ∙ subst (λ (g : FunTree). (fun_function types g).effects.decides ≡ false) same m.2.decides,
      )

  -- ---- classes

  abbrev infos : List ClassInfo
  infos = (completed is).classes

  slots : (c i : ℕ) (q : Sort) → at (found.slots c) i ≡ Some q → c < length infos
  slots c i q e = by (slice_get infos c) refl
    where
      by : (o : Option ClassInfo) → slice_get infos c ≡ o → c < length infos
      by None h = elim (none-some q (ap (λ o. at (map field_sort (fields_in o)) i) (sym h) ∙ e)) [ ]
      by (Some o) h = slice_get_within infos c o h

  below : (c d : ℕ) → found.up c ≡ Some d → c < length infos
  below c d e = by (slice_get (classes_of infos) c) refl
    where
      by : (o : Option Class) → slice_get (classes_of infos) c ≡ o → c < length infos
      by None h = elim (none-some d (ap parent_in (sym h) ∙ e)) [ ]
      by (Some o) h = subst (λ n. c < n) (many infos) (slice_get_within (classes_of infos) c o h)
        where
          many : (cs : List ClassInfo) → length (classes_of cs) ≡ length cs
          many [] = refl
          many (x ∷ cs) = ap suc (many cs)

  above : (c d : ℕ) → found.up c ≡ Some d → d < length infos
  above c d e =
      subst (λ n. d < n) (outline_many is ∙ sym (classes_many is)) (parents_within is c d (sym (parents_are is quiet c) ∙ e))

  pub told : Told whole found
  told = record {
    this = this;
    params = params;
    either = either;
    main = main;
    slots = slots;
    below = below;
    above = above;
  }
