-- The tables of a program tell of each node whether its type is an array or an event.
use Rattle.std.proofs.Common.{◌≡◌, ℕ, zero, suc, Bool, true, false, List, [], ◌∷◌, map, Option, refl, sym, ap, ◌∙◌}
use Rattle.std.specs.Prelude.{Some, None, slice_get}
use Rattle.verse_tree.specs.ItemTree.{ItemTree}
use Rattle.verse_tree.specs.declared.tables.Ty.{Ty as MadeTy, Ty-F, map-Ty, fold-roll-Ty, ind-Ty}
use Rattle.verse_tree.specs.declared.tables.Ty.TheOpen as layer
use Rattle.verse_tree.specs.declared.tables.MapOf.{MapOf, fold-MapOf}
use Rattle.verse_rules_types.specs.Types.{Ty, ty_step, two_tys, ty_of, map_of}
use Rattle.verse_check_typing.specs.Facts.{type_at}
use Rattle.verse_rules.specs.Sound.{types_of}
use Rattle.verse_meaning.specs.Programs.{array_step, event_step, no_map, is_array_type, is_event_type, of_type}
use Rattle.verse_accept_fine.specs.Sorted as sorted
use Rattle.verse_accept_trees.specs.Laws.{Told}

abbrev no_map_of : MapOf → Bool
no_map_of = fold-MapOf Bool Bool array_step no_map

abbrev no_event_map : MapOf → Bool
no_event_map = fold-MapOf Bool Bool event_step no_map

same_array : (x : Ty-F MadeTy MapOf) → array_step (map-Ty MadeTy MapOf Bool Bool is_array_type no_map_of x) ≡
    sorted.is_array_type (ty_step (map-Ty MadeTy MapOf Ty (Ty × Ty) ty_of map_of x))
same_array layer.Never = refl
same_array layer.Nil = refl
same_array layer.Void = refl
same_array layer.Int = refl
same_array layer.Logic = refl
same_array layer.Char = refl
same_array (layer.Enum e) = refl
same_array (layer.Class e) = refl
same_array (layer.Option u) = refl
same_array (layer.Array u) = refl
same_array (layer.Map m) = refl
same_array (layer.Tuple us) = refl
same_array (layer.Task u) = refl
same_array (layer.Event u) = refl

same_event : (x : Ty-F MadeTy MapOf) → event_step (map-Ty MadeTy MapOf Bool Bool is_event_type no_event_map x) ≡
    sorted.is_event_type (ty_step (map-Ty MadeTy MapOf Ty (Ty × Ty) ty_of map_of x))
same_event layer.Never = refl
same_event layer.Nil = refl
same_event layer.Void = refl
same_event layer.Int = refl
same_event layer.Logic = refl
same_event layer.Char = refl
same_event (layer.Enum e) = refl
same_event (layer.Class e) = refl
same_event (layer.Option u) = refl
same_event (layer.Array u) = refl
same_event (layer.Map m) = refl
same_event (layer.Tuple us) = refl
same_event (layer.Task u) = refl
same_event (layer.Event u) = refl

array_of : (u : MadeTy) → is_array_type u ≡ sorted.is_array_type (ty_of u)
array_of = ind-Ty (λ u. is_array_type u ≡ sorted.is_array_type (ty_of u)) (λ m. Unit {0})
    (λ x y e. fold-roll-Ty Bool Bool array_step no_map x ∙ same_array x
    ∙ sym (ap sorted.is_array_type (fold-roll-Ty Ty (Ty × Ty) ty_step two_tys x)))
    (λ x y e. tt)

event_of : (u : MadeTy) → is_event_type u ≡ sorted.is_event_type (ty_of u)
event_of = ind-Ty (λ u. is_event_type u ≡ sorted.is_event_type (ty_of u)) (λ m. Unit {0})
    (λ x y e. fold-roll-Ty Bool Bool event_step no_map x ∙ same_event x
    ∙ sym (ap sorted.is_event_type (fold-roll-Ty Ty (Ty × Ty) ty_step two_tys x)))
    (λ x y e. tt)

node_is : (f : MadeTy → Bool) (g : Ty → Bool) → ((u : MadeTy) → f u ≡ g (ty_of u)) → g Rattle.verse_rules_types.specs.Types.never ≡ false →
    (us : List MadeTy) (n : ℕ) → of_type f (slice_get us n) ≡ g (type_at (map ty_of us) n)
node_is f g same none [] n = sym none
node_is f g same none (u ∷ us) zero = same u
node_is f g same none (u ∷ us) (suc n) = node_is f g same none us n

pub tables_tell : (is : List ItemTree) (us : List MadeTy) → map ty_of us ≡ types_of is →
    Told is (λ n. of_type is_array_type (slice_get us n)) (λ n. of_type is_event_type (slice_get us n))
tables_tell is us e = record {
  of_arrays = λ n. node_is is_array_type sorted.is_array_type array_of refl us n ∙ ap (λ ts. sorted.is_array_type (type_at ts n)) e;
  of_events = λ n. node_is is_event_type sorted.is_event_type event_of refl us n ∙ ap (λ ts. sorted.is_event_type (type_at ts n)) e;
}
