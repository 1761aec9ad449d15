-- A function without `suspends` is never suspended in an accepted program.
use Rattle.std.proofs.Common.{◌≡◌, ◌∙◌, ℕ, Bool, false, true, List, [], Option, refl, sym, ap, subst}
use Rattle.std.specs.Prelude.{Some, None, slice_get, option_map}
use Rattle.verse_tree.specs.ItemTree.{ItemTree}
use Rattle.verse_tree.specs.Shapes.{ItemsShaped}
use Rattle.verse_tree.specs.declared.tables.Effects.{Effects}
use Rattle.verse_names_declarations.specs.Known.{known}
use Rattle.verse_names_scopes.specs.Visible.{World}
use Rattle.verse_rules.specs.Sound.{IsSound}
use Rattle.verse_rules_walk.specs.Nodes.{round_body}
use Rattle.verse_rules_walk.specs.Order.{InPostOrder, AreNumbered}
use Rattle.verse_sorts.specs.Typing.{Are}
use Rattle.verse_sound_rules.specs.Found.{Allowed, Signature}
use Rattle.verse_sound_waits.specs.Waits.{NoWaits}
use Rattle.verse_sound_waits.specs.Calls.{Marked, CallsNeverRest}
use Rattle.verse_accept_nodes.specs.Laws.{AcceptedShaped}
use Rattle.verse_accept_scopes.specs.Sites as sites
use Rattle.verse_accept_scopes.specs.Holding.{OnFun}
use Rattle.verse_accept_rows.specs.Found.{Found}
use Rattle.verse_accept_rows.proofs.Whole as rows
use Rattle.verse_accept_classes.specs.Owners.{Owned, owned, world_in}
use Rattle.verse_accept_classes.specs.Referring.{Names}
use Rattle.verse_accept_classes.specs.Laws.{Quiet, FunctionsStand}
use Rattle.verse_accept_classes.proofs.Functions.{on_owned}
use Rattle.verse_accept_classes.proofs.Tables.{names_stand, functions_found}
use Rattle.verse_accept_fine.specs.Needs.{InnerAllowed}
use Rattle.verse_accept_fine.specs.Sorted.{up, sorted, program, class_in, signature_of, Allows, written_sort}
use Rattle.verse_accept_fine.proofs.Calls as calls
use Rattle.verse_accept_trees.specs.Laws.{Told}
use Rattle.verse_accept_sound.specs.Programs.{ProgramsAreFine}
use Rattle.verse_accept_sound.proofs.Bodies.{same_effects}
use Rattle.verse_accept_sound.proofs.Whole as accepted
use Rattle.verse_accept_waits.specs.Suspending.{suspends_in, suspending}
use Rattle.verse_accept_waits.specs.Laws.{AcceptedCallsNeverRest}
use Rattle.verse_accept_waits.proofs.Callees.{same_suspending}
use Rattle.verse_accept_waits.proofs.Trees.{tree_quiet}

no : {A : Type 0} → false ≡ true → A
no h = cc

module _ (inner : InnerAllowed) (is : List ItemTree) (arrays events : ℕ → Bool) (told : Told is arrays events)
    (shaped : ItemsShaped is) (numbered : AreNumbered is) (sound : IsSound is) (quiet : Quiet is)
    (functions : FunctionsStand is) where
  world_names : (c : Option ℕ) → Names is (world_in (known is) c)
  world_names None = (names_stand is quiet).0
  world_names (Some c) = (names_stand is quiet).1 c

  this_is : (c : Option ℕ) → c ≡ (world_in (known is) c).class
  this_is None = refl
  this_is (Some c) = refl

  module _ (g : ℕ) (o : Owned) (there : slice_get (owned (known is).items) g ≡ Some o) where
    abbrev W : World
    W = world_in (known is) o.class

    on_body : OnFun (Found is) W [] o.tree
    on_body = on_owned (Found is) (known is) (known is).items (rows.items_found is shaped numbered sound) g o there

    abbrev may : Allowed
    may = record {
      fails = true;
      result = option_map (written_sort is) (Some o.tree.written);
      breaks = false;
      waits = true;
      this = W.class;
    }

    body_allows : Allows is W (round_body o.tree) may
    body_allows = record {
      fails = λ e. refl;
      tried = λ e. e;
      result = λ e. refl;
      loop = λ e. no e;
      breaks = λ e. no e;
      waits = λ t d l. refl;
      this = refl;
    }

    body_stays : suspending is g ≡ false →
        NoWaits (program is arrays events) (sorted is) (suspending is) ((sorted is).signature g).this o.tree.body
    body_stays h =
        subst (λ c. NoWaits (program is arrays events) (sorted is) (suspending is) c o.tree.body)
        (sym (calls.this_of is arrays events g o.class (ap class_in there) ∙ this_is o.class))
        (tree_quiet is arrays events quiet functions inner told.of_events W (world_names o.class) o.tree.body
        (round_body o.tree) may body_allows
        (sym (ap (λ (x : Effects). x.suspends) (same_effects o.tree.effects))
        ∙ sym (ap suspends_in (functions.info g o there)) ∙ h) refl (sites.params_behind W o.tree.params []) on_body.2)

  marked : Marked (program is arrays events) (sorted is) (suspending is)
  marked = record {
    bodies = λ g f e h.
        let o = functions.owner g f e in
        subst (λ f. NoWaits (program is arrays events) (sorted is) (suspending is) ((sorted is).signature g).this
        f.body) o.2
        (body_stays g o.0 o.1 h);
    overrides = λ c d g by m above e h s. same_suspending is arrays events quiet functions c d g by m above e h ∙ s;
  }

pub accepted_never_rest : InPostOrder → AcceptedShaped → ProgramsAreFine → InnerAllowed → CallsNeverRest →
    AcceptedCallsNeverRest
accepted_never_rest order shapes programs inner rest files is a arrays events told n fuel t g info function o vs m e w
    there
    at stays may this args kept =
    let sign : (sorted is).signature g ≡ signature_of (Some info) (class_in (slice_get (owned (known is).items) g)) =
    ap (λ i. signature_of i (class_in (slice_get (owned (known is).items) g))) there in
    rest (program is arrays events)
    (record { found = sorted is; fine = accepted.items_found order shapes programs files is a arrays events told })
    (suspending is) (marked inner is arrays events told (shapes files is a) numbered sound quiet
    (functions_found is numbered)) n fuel t g function o vs m e w at (ap suspends_in there ∙ stays)
    (λ l. may (sym (ap (λ (s : Signature). s.lasts) sign) ∙ l)) this
    (subst (Are (up is) t vs) (sym (ap (λ (s : Signature). s.params) sign)) args) kept
  where
    numbered : AreNumbered is
    numbered = accepted.numbered order shapes programs files is a

    sound : IsSound is
    sound = accepted.sound order shapes programs files is a

    quiet : Quiet is
    quiet n c b = sound.named n c (Rattle.std.proofs.Common.inl b)
