-- What is found in the tables of a program.
use Rattle.std.proofs.Common.{◌≡◌, ℕ, suc, List, [], ◌∷◌, cond, Bool, map, length, refl, ap, sym, ◌∙◌}
use Rattle.std.specs.Prelude.{◌==◌, Option, Some, None, slice_get}
use Rattle.std.specs.Option.{option_map}
use Rattle.std.proofs.lemmas.Option.{slice_get-map}
use Rattle.std.proofs.lemmas.List.{length-map}
use denote.Ref.{Bor}
use Rattle.verse_tree.specs.Tree.{Bytes}
use Rattle.verse_tree.specs.ItemTree.{FunTree, ClassTree, FieldTree, ItemTree}
use Rattle.verse_tree.specs.declared.tables.FunInfo.{FunInfo}
use Rattle.verse_tree.specs.declared.items.ClassItem.{ClassItem}
use Rattle.verse_meaning_state.specs.Waits.{nth}
use Rattle.verse_meaning.specs.Programs.{Program, enums, fun_of_info, fun_numbered, named_value, fields_from, classes}
use Rattle.lower_code.specs.Lowering.{takes_params}
use Rattle.lower_declared.specs.Enums.{named_in}
use Rattle.lower_items.specs.Params.{params_of, count_at, is_count}
use Rattle.lower_declared.specs.Views.{class_now, class_here}
use Rattle.lower_declared.specs.Parts.{made_classes}
use Rattle.lower_declared.specs.Fields.{number_of_field, place_among}
use Rattle.lower_code.specs.Defaults.{field_place}
use Rattle.verse_tree.specs.ItemView.{item_of, class_of}
use Rattle.verse_tree.specs.declared.items.Item.{Item}
use Rattle.verse_tree.specs.declared.items.Item.TheVariants as item

pub named_is : (p : Program) (x : Bytes) (o : Option ℕ) → named_value p x o ≡ named_in (enums p.items) x o
named_is p x None = refl
named_is p x (Some e) = refl

module _ (p : Program) (differ : ℕ → ℕ → Bool) (is : List ItemTree) (n : ℕ) where
  takes_fun : (f : Option FunTree) → is_count (Some (params_of f)) n ≡ takes_params p differ f n
  takes_fun None = refl
  takes_fun (Some f) = refl

  takes_info : (o : Option FunInfo) → is_count (option_map (count_at is) o) n ≡ takes_params p differ (fun_of_info is o) n
  takes_info None = refl
  takes_info (Some info) = takes_fun (fun_numbered info.item is)

  pub takes_is : (fs : List FunInfo) (f : ℕ) →
      is_count (slice_get (map (count_at is) fs) f) n ≡ takes_params p differ (fun_of_info is (slice_get fs f)) n
  takes_is fs f = ap (λ o. is_count o n) (slice_get-map (count_at is) fs f) ∙ takes_info (slice_get fs f)

-- a list has as many classes as what it stands for
by_trees : (cs : List (Bor ClassItem)) (ds : List ClassTree) (c : ℕ) → map class_now cs ≡ ds →
    fields_from (length cs) (map class_now cs) (nth (map class_now cs) c) ≡ fields_from (length ds) ds (nth ds c)
by_trees cs ds c e = ap (λ n. fields_from n (map class_now cs) (nth (map class_now cs) c)) (sym (length-map cs class_now)) ∙
    ap (λ l. fields_from (length l) l (nth l c)) e

trees_of : (cs : List (Bor ClassItem)) → map class_now cs ≡ map class_of (map class_here cs)
trees_of [] = refl
trees_of (c ∷ cs) = ap (λ l. class_of c.now ∷ l) (trees_of cs)

made_trees : (is : List Item) → map class_of (made_classes is) ≡ classes (map item_of is)
made_trees [] = refl
made_trees (item.Using u ∷ is) = made_trees is
made_trees (item.Enum e ∷ is) = made_trees is
made_trees (item.Class c ∷ is) = ap (λ l. class_of c ∷ l) (made_trees is)
made_trees (item.Fun f ∷ is) = made_trees is

pub fields_is : (cs : List (Bor ClassItem)) (is : List Item) (c : ℕ) → map class_here cs ≡ made_classes is →
    fields_from (length cs) (map class_now cs) (nth (map class_now cs) c) ≡
    fields_from (length (classes (map item_of is))) (classes (map item_of is)) (nth (classes (map item_of is)) c)
fields_is cs is c e = by_trees cs (classes (map item_of is)) c (trees_of cs ∙ ap (map class_of) e ∙ made_trees is)

pub place_is : (x : ℕ) (fs : List FieldTree) (n : ℕ) → field_place x fs n ≡ place_among x (map number_of_field fs) n
place_is x [] n = refl
place_is x (f ∷ fs) n = ap (cond (x == f.number) n) (place_is x fs (suc n))
