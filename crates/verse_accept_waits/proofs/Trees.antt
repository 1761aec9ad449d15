-- No tree waits in a function that does not suspend, by what is found at its nodes.
use Rattle.std.proofs.Common.{◌≡◌, ℕ, ◌+◌, Bool, true, false, not, ◌&&◌, ◌||◌, List, refl, sym, ap, ◌∙◌}
use Rattle.std.specs.Prelude.{None}
use Rattle.std.proofs.lemmas.Bool.{not-false}
use Rattle.verse_base.specs.declared.places.Place.{Place}
use Rattle.verse_tree.specs.Tree.{Tree, tree, Shape, Trees, no_trees, more_trees, Holes, no_holes, more_holes, Givens}
use Rattle.verse_tree.specs.Tree.{no_givens, more_givens}
use Rattle.verse_tree.specs.Tree as t
use Rattle.verse_tree.specs.ItemTree.{ItemTree}
use Rattle.verse_tree.specs.declared.exprs.Operator.TheVariants as op
use Rattle.verse_rules_types.specs.Types.{Ty}
use Rattle.verse_rules_walk.specs.Around.{Used, free, callee, object, argument, value, target, base, spawned, Around}
use Rattle.verse_rules_walk.specs.Around.{used_as}
use Rattle.verse_rules_walk.specs.Around as around
use Rattle.verse_rules_walk.specs.Nodes.{number_of_tree}
use Rattle.verse_names_tables.specs.Names.{Table}
use Rattle.verse_names_scopes.specs.Visible.{World}
use Rattle.verse_check_typing.specs.Sets.{has_number}
use Rattle.verse_check_typing.specs.Callees as types
use Rattle.verse_check_typing.specs.Calls.{can_call, can_index, indices_fit}
use Rattle.verse_effects.specs.Callees.{call_suspends}
use Rattle.verse_effects.specs.Forms.{is_async, is_spawned}
use Rattle.verse_rules.specs.Sound.{completed}
use Rattle.verse_meaning.specs.Programs.{Program}
use Rattle.verse_meaning.specs.Residuals as form
use Rattle.verse_meaning.specs.Evaluating.{picked}
use Rattle.verse_sound_rules.specs.Found.{Allowed}
use Rattle.verse_sound_rules.specs.Found as allowed
use Rattle.verse_sound_waits.specs.Waits as waits
use Rattle.verse_sound_waits.specs.Waits.{FormStays}
use Rattle.verse_accept_scopes.specs.Holding.{On, OnShape, OnPart, OnAll, OnEach, OnArguments, OnHoles, OnPairs}
use Rattle.verse_accept_scopes.specs.Holding.{OnGivens}
use Rattle.verse_accept_rows.specs.Found.{final, Found}
use Rattle.verse_accept_classes.specs.Referring.{Names}
use Rattle.verse_accept_classes.specs.Laws.{Quiet, FunctionsStand}
use Rattle.verse_accept_fine.specs.Needs.{InnerAllowed}
use Rattle.verse_accept_fine.specs.Sorted.{At, ty_at, sorted, program, Allows, is_event_type}
use Rattle.verse_accept_fine.proofs.Base as found
use Rattle.verse_accept_forms.proofs.CalleeKinds.{IsFixed, fixed_int, fixed_enum, kind_of}
use Rattle.verse_accept_forms.proofs.CallForms.{not_called}
use Rattle.verse_accept_waits.specs.Suspending.{suspending}
use Rattle.verse_accept_waits.proofs.Callees.{callee_stays, spawned_stays}

no : {A : Type 0} → true ≡ false → A
no h = cc

-- E062
no_async : (q r d : Bool) → (q && (not r || d)) ≡ false → r ≡ false → q ≡ false
no_async false r d h e = refl
no_async true true d h e = cc
no_async true false d h e = cc

picked_stays : (p : Program) (f : allowed.Found) (g : ℕ → Bool) (class : Rattle.std.specs.Prelude.Option ℕ) (ts : Trees)
    →
    FormStays p f g class (picked ts) Rattle.std.proofs.Common.[]
picked_stays p f g class no_trees = tt
picked_stays p f g class (more_trees b no_trees) = tt
picked_stays p f g class (more_trees b (more_trees d ts)) = tt

indexed_not_spawned : (u : Used) → is_spawned (around.indexed_use u) ≡ false
indexed_not_spawned free = refl
indexed_not_spawned callee = refl
indexed_not_spawned object = refl
indexed_not_spawned (argument f i) = refl
indexed_not_spawned (value w) = refl
indexed_not_spawned target = refl
indexed_not_spawned base = refl
indexed_not_spawned spawned = refl

module _ (is : List ItemTree) (arrays events : ℕ → Bool) (quiet : Quiet is) (functions : FunctionsStand is)
    (inner : InnerAllowed) (telling : (m : ℕ) → events m ≡ is_event_type (ty_at is m)) (w : World)
    (names : Names is w) where
  not_indexed : (u : Ty) (ts : Trees) → IsFixed u → can_index (final is) u ts ≡ false
  not_indexed u ts fixed_int = refl
  not_indexed u ts fixed_enum = refl

  -- in a function that does not suspend
  record Here (a : Around) (b : Allowed) : Type 0 where
    allows : Allows is w a b
    stays : a.owner.effects.suspends ≡ false

  abbrev whole : Program
  whole = program is arrays events

  abbrev Quietly : Tree → Type 0
  Quietly e = waits.NoWaits whole (sorted is) (suspending is) w.class e

  abbrev QuietlyIn : Shape → Place → Type 0
  QuietlyIn x p = waits.NoWaitsIn whole (sorted is) (suspending is) w.class x p

  abbrev AllQuietly : Trees → Type 0
  AllQuietly ts = waits.NoneWaits whole (sorted is) (suspending is) w.class ts

  module _ {a : Around} {b : Allowed} (c : Here a b) where
    freely : Here (around.freely a) b
    freely = record { allows = (inner is w a b c.allows).freely; stays = c.stays }

    repeated : Here (around.repeated a) b
    repeated = record { allows = (inner is w a b c.allows).repeated; stays = c.stays }

    caught : Here (around.caught a) (allowed.tried b)
    caught = record { allows = (inner is w a b c.allows).caught; stays = c.stays }

    looped : (n : ℕ) → Here (around.looped n a) (allowed.looped (has_number n (final is).left) b)
    looped n = record { allows = (inner is w a b c.allows).looped n; stays = c.stays }

    used : (u : Used) → Here (used_as u a) b
    used u = record {
      allows = record {
        fails = c.allows.fails;
        tried = c.allows.tried;
        result = c.allows.result;
        loop = c.allows.loop;
        breaks = c.allows.breaks;
        waits = c.allows.waits;
        this = c.allows.this;
      };
      stays = c.stays;
    }

    -- nothing async stands there
    settled : (xs : Table) (n : ℕ) (p : Place) (x : Shape) → At is w a xs n p x → is_async (completed is) a x ≡ false
    settled xs n p x h = no_async (is_async (completed is) a x) a.owner.effects.suspends a.is_deferred
        (found.effects is w a xs n p x h).suspends c.stays

  -- nothing of a fixed type is called
  no_call : (a : Around) (xs : Table) (n : ℕ) (p : Place) (e : Tree) (ts : Trees) → At is w a xs n p (t.Shape.call e ts)
      →
      (u : Ty) → IsFixed u → types.callee_of (final is) e ≡ types.value u → ⊥
  no_call a xs n p e ts h u f g = no (sym (ap can_call (sym g)
      ∙ not-false _ (found.types is w a xs n p (t.Shape.call e ts) h).callable) ∙ not_called u f)

  no_index : (a : Around) (xs : Table) (n : ℕ) (p : Place) (e : Tree) (ts : Trees) → At is w a xs n p
      (t.Shape.index e ts) →
      (u : Ty) → IsFixed u → types.callee_of (final is) e ≡ types.value u → ⊥
  no_index a xs n p e ts h u f g = no (sym (ap (λ z. indices_fit (final is) z ts) (sym g)
      ∙ not-false _ (found.types is w a xs n p (t.Shape.index e ts) h).matched) ∙ not_indexed u ts f)

  mutual
    shape_quiet : (x : Shape) (a : Around) (b : Allowed) → Here a b → is_spawned a.used ≡ false → (xs : Table) (n : ℕ)
        (p : Place) → OnShape (Found is) w n a xs x → At is w a xs n p x → QuietlyIn x p
    shape_quiet (t.Shape.block ts) a b c u xs n p h o = all_quiet ts (around.freely a) b (freely c) refl xs n h
    shape_quiet (t.Shape.definition x e) a b c u xs n p h o = part_quiet e (around.freely a) b (freely c) refl xs n h
    shape_quiet (t.Shape.typed x y e) a b c u xs n p h o = part_quiet e (used_as (value y) a) b (used c (value y)) refl
        xs n h.1
    shape_quiet (t.Shape.variable x y e) a b c u xs n p h o =
        part_quiet e (used_as (value y) a) b (used c (value y)) refl xs n h.1
    shape_quiet (t.Shape.assignment m e d) a b c u xs n p h o = (
      target_quiet e (used_as target a) b (used c target) refl xs n h.0,
      part_quiet d (around.freely a) b (freely c) refl xs n h.1,
    )
    shape_quiet (t.Shape.returned e) a b c u xs n p h o = part_quiet e (around.freely a) b (freely c) refl xs n h
    shape_quiet (t.Shape.if_else ts e d) a b c u xs n p h o = (
      part_quiet e (around.freely a) b (freely c) refl _ n h.1,
      part_quiet d (around.freely a) b (freely c) refl xs n h.2,
    )
    shape_quiet (t.Shape.if_alone ts e) a b c u xs n p h o = part_quiet e (around.freely a) b (freely c) refl _ n h.1
    shape_quiet (t.Shape.for_form ts e) a b c u xs n p h o = part_quiet e (around.repeated a) b (repeated c) refl _ n
        h.1
    shape_quiet (t.Shape.chained op.Or e d) a b c u xs n p h o = (
      part_quiet e (around.caught a) (allowed.tried b) (caught c) refl xs n h.0,
      part_quiet d (around.freely a) b (freely c) refl xs n h.1,
    )
    shape_quiet (t.Shape.chained op.And e d) a b c u xs n p h o = (
      part_quiet e (around.freely a) b (freely c) refl xs n h.0,
      part_quiet d (around.freely a) b (freely c) refl xs n h.1,
    )
    shape_quiet (t.Shape.chained op.Add e d) a b c u xs n p h o = (
      part_quiet e (around.freely a) b (freely c) refl xs n h.0,
      part_quiet d (around.freely a) b (freely c) refl xs n h.1,
    )
    shape_quiet (t.Shape.chained op.Sub e d) a b c u xs n p h o = (
      part_quiet e (around.freely a) b (freely c) refl xs n h.0,
      part_quiet d (around.freely a) b (freely c) refl xs n h.1,
    )
    shape_quiet (t.Shape.chained op.Mul e d) a b c u xs n p h o = (
      part_quiet e (around.freely a) b (freely c) refl xs n h.0,
      part_quiet d (around.freely a) b (freely c) refl xs n h.1,
    )
    shape_quiet (t.Shape.chained op.Div e d) a b c u xs n p h o = (
      part_quiet e (around.freely a) b (freely c) refl xs n h.0,
      part_quiet d (around.freely a) b (freely c) refl xs n h.1,
    )
    shape_quiet (t.Shape.compared x e d) a b c u xs n p h o = (
      part_quiet e (around.freely a) b (freely c) refl xs n h.0,
      part_quiet d (around.freely a) b (freely c) refl xs n h.1,
    )
    shape_quiet (t.Shape.minus e) a b c u xs n p h o = part_quiet e (around.freely a) b (freely c) refl xs n h
    shape_quiet (t.Shape.query e) a b c u xs n p h o = part_quiet e (around.freely a) b (freely c) refl xs n h
    shape_quiet (t.Shape.member e x) a b c u xs n p h o = part_quiet e (used_as object a) b (used c object) refl xs n h
    shape_quiet (t.Shape.call e ts) a b c u xs n p h o = (
      callee_stays is arrays events quiet functions w a xs b c.allows n p e (picked ts) p
          (picked_stays whole (sorted is) (suspending is) w.class ts)
          (ap (λ z. call_suspends z (Rattle.verse_accept_forms.proofs.CalleeKinds.effects_of is arrays events e))
          (sym u)
          ∙ settled c xs n p (t.Shape.call e ts) o) (no_call a xs n p e ts o)
          (kind_of is arrays events w a xs b c.allows n p functions quiet names (picked ts) p telling n
          (used_as callee a) e h.0),
      part_quiet e (used_as callee a) b (used c callee) refl xs n h.0,
      arguments_quiet ts a b c xs n (number_of_tree e) 0 h.1,
    )
    shape_quiet (t.Shape.index e ts) a b c u xs n p h o = (
      callee_stays is arrays events quiet functions w a xs b c.allows n p e form.indexing p tt
          (ap (λ z. call_suspends z (Rattle.verse_accept_forms.proofs.CalleeKinds.effects_of is arrays events e))
          (sym u)
          ∙ settled c xs n p (t.Shape.index e ts) o) (no_index a xs n p e ts o)
          (kind_of is arrays events w a xs b c.allows n p functions quiet names form.indexing p telling n
          (around.indexed a) e h.0),
      part_quiet e (around.indexed a) b (used c (around.indexed_use a.used)) (indexed_not_spawned a.used) xs n h.0,
      arguments_quiet ts a b c xs n (number_of_tree e) 0 h.1,
    )
    shape_quiet (t.Shape.holes x hs) a b c u xs n p h o = holes_quiet hs (around.freely a) b (freely c) refl xs n h
    shape_quiet (t.Shape.tuple ts) a b c u xs n p h o = each_quiet ts (around.freely a) b (freely c) refl xs n h
    shape_quiet (t.Shape.array ts) a b c u xs n p h o = each_quiet ts (around.freely a) b (freely c) refl xs n h
    shape_quiet (t.Shape.mapping ps) a b c u xs n p h o = pairs_quiet ps (around.freely a) b (freely c) refl xs n h
    shape_quiet (t.Shape.instance x gs) a b c u xs n p h o = givens_quiet gs (around.freely a) b (freely c) refl xs n h
    shape_quiet (t.Shape.loop_form e) a b c u xs n p h o = part_quiet e (around.looped n a) _ (looped c n) refl xs n h
    shape_quiet (t.Shape.block_form e) a b c u xs n p h o = part_quiet e (around.freely a) b (freely c) refl xs n h
    shape_quiet (t.Shape.cases e ts) a b c u xs n p h o = (
      part_quiet e (around.freely a) b (freely c) refl xs n h.0,
      each_quiet ts (around.freely a) b (freely c) refl xs n h.1,
    )
    shape_quiet (t.Shape.arm e d) a b c u xs n p h o = part_quiet d (around.freely a) b (freely c) refl xs n h.1
    shape_quiet (t.Shape.branch e) a b c u xs n p h o = no (settled c xs n p (t.Shape.branch e) o)
    shape_quiet (t.Shape.sync ts) a b c u xs n p h o = no (settled c xs n p (t.Shape.sync ts) o)
    shape_quiet (t.Shape.race ts) a b c u xs n p h o = no (settled c xs n p (t.Shape.race ts) o)
    shape_quiet (t.Shape.rush ts) a b c u xs n p h o = no (settled c xs n p (t.Shape.rush ts) o)
    shape_quiet (t.Shape.spawn e) a b c u xs n p h o = spawned_quiet e (used_as spawned a) b (used c spawned) refl xs n
        h
    shape_quiet (t.Shape.sleep d) a b c u xs n p h o = no (settled c xs n p (t.Shape.sleep d) o)
    shape_quiet t.Shape.sleep_forever a b c u xs n p h o = no (settled c xs n p t.Shape.sleep_forever o)
    shape_quiet x a b c u xs n p h o = tt

    part_quiet : (e : Tree) (a : Around) (b : Allowed) → Here a b → is_spawned a.used ≡ false → (xs : Table) (n : ℕ) →
        OnPart (Found is) w n a xs e → Quietly e
    part_quiet (tree m q x) a b c u xs n h = shape_quiet x a b c u xs m q h.1 h.2

    all_quiet : (ts : Trees) (a : Around) (b : Allowed) → Here a b → is_spawned a.used ≡ false → (xs : Table) (n : ℕ) →
        OnAll (Found is) w n a xs ts → AllQuietly ts
    all_quiet no_trees a b c u xs n h = tt
    all_quiet (more_trees e es) a b c u xs n h = (part_quiet e a b c u xs n h.0, all_quiet es a b c u _ n h.1)

    each_quiet : (ts : Trees) (a : Around) (b : Allowed) → Here a b → is_spawned a.used ≡ false → (xs : Table) (n : ℕ) →
        OnEach (Found is) w n a xs ts → AllQuietly ts
    each_quiet no_trees a b c u xs n h = tt
    each_quiet (more_trees e es) a b c u xs n h = (part_quiet e a b c u xs n h.0, each_quiet es a b c u xs n h.1)

    arguments_quiet : (ts : Trees) (a : Around) (b : Allowed) → Here a b → (xs : Table) (n f i : ℕ) →
        OnArguments (Found is) w n a xs f i ts → AllQuietly ts
    arguments_quiet no_trees a b c xs n f i h = tt
    arguments_quiet (more_trees e es) a b c xs n f i h = (
      part_quiet e (used_as (argument f i) a) b (used c (argument f i)) refl xs n h.0,
      arguments_quiet es a b c xs n f (i + 1) h.1,
    )

    holes_quiet : (hs : Holes) (a : Around) (b : Allowed) → Here a b → is_spawned a.used ≡ false → (xs : Table) (n : ℕ)
        →
        OnHoles (Found is) w n a xs hs → waits.NoHoleWaits whole (sorted is) (suspending is) w.class hs
    holes_quiet no_holes a b c u xs n h = tt
    holes_quiet (more_holes e x hs) a b c u xs n h = (part_quiet e a b c u xs n h.0, holes_quiet hs a b c u xs n h.1)

    pairs_quiet : (ps : t.Pairs) (a : Around) (b : Allowed) → Here a b → is_spawned a.used ≡ false → (xs : Table)
        (n : ℕ) →
        OnPairs (Found is) w n a xs ps → waits.NoPairWaits whole (sorted is) (suspending is) w.class ps
    pairs_quiet t.Pairs.no_pairs a b c u xs n h = tt
    pairs_quiet (t.Pairs.more_pairs e d ps) a b c u xs n h = (
      part_quiet e a b c u xs n h.0,
      part_quiet d a b c u xs n h.1,
      pairs_quiet ps a b c u xs n h.2,
    )

    givens_quiet : (gs : Givens) (a : Around) (b : Allowed) → Here a b → is_spawned a.used ≡ false → (xs : Table)
        (n : ℕ) →
        OnGivens (Found is) w n a xs gs → waits.NoGivenWaits whole (sorted is) (suspending is) w.class gs
    givens_quiet no_givens a b c u xs n h = tt
    givens_quiet (more_givens x e gs) a b c u xs n h = (part_quiet e a b c u xs n h.0, givens_quiet gs a b c u xs n h.1)

    -- what `set` writes to
    target_quiet : (e : Tree) (a : Around) (b : Allowed) → Here a b → is_spawned a.used ≡ false → (xs : Table) (n : ℕ) →
        OnPart (Found is) w n a xs e → waits.NoTargetWaits whole (sorted is) (suspending is) w.class e
    target_quiet (tree m q x) a b c u xs n h = target_shape_quiet x a b c u xs m h.1

    target_shape_quiet : (x : Shape) (a : Around) (b : Allowed) → Here a b → is_spawned a.used ≡ false → (xs : Table)
        (n : ℕ) → OnShape (Found is) w n a xs x → waits.NoTargetWaitsIn whole (sorted is) (suspending is) w.class x
    target_shape_quiet (t.Shape.member e x) a b c u xs n h = part_quiet e (used_as object a) b (used c object) refl xs n
        h
    target_shape_quiet (t.Shape.index e ts) a b c u xs n h = (
      target_quiet e (around.indexed a) b (used c (around.indexed_use a.used)) (indexed_not_spawned a.used) xs n h.0,
      arguments_quiet ts a b c xs n (number_of_tree e) 0 h.1,
    )
    target_shape_quiet x a b c u xs n h = tt

    -- the call that a `spawn` starts
    spawned_quiet : (e : Tree) (a : Around) (b : Allowed) → Here a b → is_spawned a.used ≡ true → (xs : Table) (n : ℕ) →
        OnPart (Found is) w n a xs e → waits.NoSpawnedWaits whole (sorted is) (suspending is) w.class e
    spawned_quiet (tree m q x) a b c u xs n h = spawned_shape_quiet x a b c u xs m q h.1 h.2

    spawned_shape_quiet : (x : Shape) (a : Around) (b : Allowed) → Here a b → is_spawned a.used ≡ true → (xs : Table)
        (n : ℕ) (p : Place) → OnShape (Found is) w n a xs x → At is w a xs n p x →
        waits.NoSpawnedWaitsIn whole (sorted is) (suspending is) w.class x p
    spawned_shape_quiet (t.Shape.call e ts) a b c u xs n p h o = (
      spawned_stays is arrays events quiet functions w a xs b c.allows n p e (form.picking None) p
          (ap (λ z. call_suspends z (Rattle.verse_accept_forms.proofs.CalleeKinds.effects_of is arrays events e))
          (sym u)
          ∙ settled c xs n p (t.Shape.call e ts) o) (no_call a xs n p e ts o)
          (kind_of is arrays events w a xs b c.allows n p functions quiet names (form.picking None) p telling n
          (used_as callee a)
          e h.0),
      part_quiet e (used_as callee a) b (used c callee) refl xs n h.0,
      arguments_quiet ts a b c xs n (number_of_tree e) 0 h.1,
    )
    spawned_shape_quiet x a b c u xs n p h o = tt

  -- a body
  pub tree_quiet : (e : Tree) (a : Around) (b : Allowed) → Allows is w a b → a.owner.effects.suspends ≡ false →
      is_spawned a.used ≡ false → (xs : Table) → On (Found is) w a xs e → Quietly e
  tree_quiet (tree n p x) a b allows stays u xs h =
      shape_quiet x a b (record { allows = allows; stays = stays }) u xs n p h.0 h.1
