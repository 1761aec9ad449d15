-- No function both fails and does what lasts.
use Rattle.std.proofs.Common.{◌≡◌, ℕ, zero, suc, Bool, true, false, not, ◌&&◌, ◌||◌, List, [], ◌∷◌, ◌++◌, ap, ◌∙◌, subst}
use Rattle.std.specs.Prelude.{Some, slice_get}
use Rattle.std.proofs.lemmas.Bool.{not-false}
use Rattle.std.proofs.lemmas.Option.{same_Some, none-some}
use Rattle.verse_base.proofs.Facts.{and_second}
use Rattle.verse_tree.specs.ItemTree.{FunTree, MemberTree, field, method, ItemTree, using, enumeration, class, function}
use Rattle.verse_tree.specs.Shapes.{ItemsShaped}
use Rattle.verse_tree.specs.declared.tables.Effects.{Effects}
use Rattle.verse_rules_walk.specs.Order.{AreNumbered}
use Rattle.verse_names_tables.specs.Counting.{Counted}
use Rattle.verse_names_tables.specs.declared.counting.Counts.{Counts}
use Rattle.verse_names_declarations.specs.Known.{Known, known}
use Rattle.verse_names_tables.specs.Words.{effects_of}
use Rattle.verse_names_scopes.specs.Visible.{World, inside, outside}
use Rattle.verse_effects.specs.Specifiers.{do_combine, do_fit, fun_fits}
use Rattle.verse_effects.specs.declared.specifiers.Spot.{Spot}
use Rattle.verse_effects.specs.declared.specifiers.Spot.TheVariants as spot
use Rattle.verse_rules.specs.Sound.{IsSound}
use Rattle.verse_accept_scopes.specs.Holding.{OnMembers, OnItem, OnItems}
use Rattle.verse_accept_rows.specs.Found.{Found}
use Rattle.verse_accept_rows.proofs.Quiet.{first_kept}
use Rattle.verse_accept_rows.proofs.Whole.{items_found}
use Rattle.verse_accept_classes.specs.Owners.{Owned, methods_owned, item_owned, owned}
use Rattle.verse_accept_fine.specs.Sorted.{lasts}
use Rattle.verse_accept_sound.proofs.Bodies.{same_effects}

-- ---- effects that are written together

none_both : (c t d s : Bool) → (not (c && t) && not (d && s) && (not d || c || t)) ≡ true → d ≡ true →
    (s || not (c || t)) ≡ true → ⊥
none_both c t false s h e l = cc
none_both true true true s h e l = cc
none_both true false true true h e l = cc
none_both true false true false h e l = cc
none_both false true true true h e l = cc
none_both false true true false h e l = cc
none_both false false true true h e l = cc
none_both false false true false h e l = cc

pub no_both : (e : Effects) → do_combine e ≡ true → e.decides ≡ true → lasts e ≡ true → ⊥
no_both e h d l = none_both e.computes e.transacts e.decides e.suspends h d l

-- ---- those of each function and method

abbrev pub Combined : Owned → Type 0
Combined o = do_combine (effects_of o.tree.effects) ≡ true

combined : (at : Spot) (f : FunTree) → fun_fits at f ≡ true → do_combine (effects_of f.effects) ≡ true
combined at f h =
    ap do_combine (same_effects f.effects)
    ∙ and_second (do_fit at f.specs && do_fit spot.Effect f.effects) _ h

get_both : {A : Type 0} (P : A → Type 0) (xs ys : List A) → ((i : ℕ) (x : A) → slice_get xs i ≡ Some x → P x) →
    ((i : ℕ) (x : A) → slice_get ys i ≡ Some x → P x) → (i : ℕ) (x : A) → slice_get (xs ++ ys) i ≡ Some x → P x
get_both P [] ys f g i x e = g i x e
get_both P (z ∷ xs) ys f g zero x e = f zero x e
get_both P (z ∷ xs) ys f g (suc i) x e = get_both P xs ys (λ j. f (suc j)) g i x e

module _ (is : List ItemTree) where
  abbrev k : Known
  k = known is

  methods_combine : (w v : World) (c : ℕ) (ms : List MemberTree) → OnMembers (Found is) w v [] ms → (i : ℕ) (o : Owned) →
      slice_get (methods_owned c ms) i ≡ Some o → Combined o
  methods_combine w v c [] h i o e = elim (none-some o e) [ ]
  methods_combine w v c (field d ∷ ms) h i o e = methods_combine w v c ms h.1 i o e
  methods_combine w v c (method f ∷ ms) h zero o e = subst Combined (same_Some _ o e)
      (combined spot.Method f (not-false _ (first_kept 64 (not (fun_fits spot.Method f)) [] h.0.1.effects)))
  methods_combine w v c (method f ∷ ms) h (suc i) o e = methods_combine w v c ms h.1 i o e

  item_combines : (x : ItemTree) (c : Counts) → OnItem (Found is) k [] x c → (i : ℕ) (o : Owned) →
      slice_get (item_owned x c) i ≡ Some o → Combined o
  item_combines (using u) c h i o e = elim (none-some o e) [ ]
  item_combines (enumeration d) c h i o e = elim (none-some o e) [ ]
  item_combines (class d) c h i o e = methods_combine (outside k) (inside k c.classes) c.classes d.members h.0 i o e
  item_combines (function f) c h zero o e = subst Combined (same_Some _ o e)
      (combined spot.Name f (not-false _ (first_kept 64 (not (fun_fits spot.Name f)) [] h.1.effects)))
  item_combines (function f) c h (suc i) o e = elim (none-some o e) [ ]

  all_combine : (js : List Counted) → OnItems (Found is) k [] js → (i : ℕ) (o : Owned) → slice_get (owned js) i ≡ Some o → Combined o
  all_combine [] h i o e = elim (none-some o e) [ ]
  all_combine (j ∷ js) h i o e =
      get_both Combined (item_owned j.item j.before) (owned js) (item_combines j.item j.before h.0) (all_combine js h.1) i o e

  -- where no rule is broken
  pub effects_combine : ItemsShaped is → AreNumbered is → IsSound is → (g : ℕ) (o : Owned) →
      slice_get (owned k.items) g ≡ Some o → Combined o
  effects_combine shaped numbered sound g o e = all_combine k.items (items_found is shaped numbered sound) g o e
