-- The rules of a form, each of them kept.
use Rattle.std.proofs.Common.{◌≡◌, ℕ, Bool, true, false, ◌||◌, List, refl}
use Rattle.std.specs.Prelude.{None}
use Rattle.verse_tree.specs.Tree.{Shape}
use Rattle.verse_tree.specs.declared.tables.Names.{Names}
use Rattle.verse_rules_least.specs.Least.{first_true}
use Rattle.verse_rules_walk.specs.Around.{Around}
use Rattle.verse_check_typing.specs.Facts.{Facts}
use Rattle.verse_check_typing.specs.Rows.{row}
use Rattle.verse_check_typing.specs.TypeRules.{mismatched, uncallable, miscounted, incomparable, unsettable, lacking, memberless, alone}
use Rattle.verse_check_typing.specs.TypeRules.{uncovered}
use Rattle.verse_check_typing.specs.TypeRules.{unrounded, is_keyless}
use Rattle.verse_check_typing.specs.Steps as types
use Rattle.verse_effects.specs.Rules as effects
use Rattle.verse_effects.specs.Rules.{fails_uncaught, lasts_wrongly, suspends_wrongly, suspends_tried, computes_more, begins_again}
use Rattle.verse_effects.specs.Forms.{leaves, wrong_brackets}
use Rattle.verse_accept_rows.proofs.Quiet.{no_rule}

pub record TypesKept (f : Facts) (a : Around) (n : ℕ) (x : Shape) : Type 0 where
  pub matched : mismatched f a n x ≡ false
  pub callable : uncallable f a n x ≡ false
  pub counted : miscounted f x ≡ false
  pub compared : incomparable f x ≡ false
  pub keyed : is_keyless (row f n x) ≡ false
  pub settable : unsettable f x ≡ false
  pub given : lacking f n x ≡ false
  pub member : memberless f a n x ≡ false
  pub several : alone x ≡ false
  pub covered : uncovered f x ≡ false
  pub rounded : unrounded f a x ≡ false

pub types_kept : (f : Facts) (a : Around) (n : ℕ) (x : Shape) → first_true (types.expression_rules f a n x) ≡ None → TypesKept f a n x
types_kept f a n x h =
    let rs = types.expression_rules f a n x in
    record {
      matched = no_rule rs h 0 _ refl;
      callable = no_rule rs h 1 _ refl;
      counted = no_rule rs h 2 _ refl;
      compared = no_rule rs h 3 _ refl;
      keyed = no_rule rs h 4 _ refl;
      settable = no_rule rs h 5 _ refl;
      given = no_rule rs h 6 _ refl;
      member = no_rule rs h 7 _ refl;
      several = no_rule rs h 8 _ refl;
      covered = no_rule rs h 9 _ refl;
      rounded = no_rule rs h 10 _ refl;
    }

pub record EffectsKept (k : Names) (vars : List Bool) (a : Around) (n : ℕ) (x : Shape) : Type 0 where
  pub caught : fails_uncaught k a x ≡ false
  pub undone : lasts_wrongly k a x ≡ false
  pub suspends : suspends_wrongly k a x ≡ false
  pub tried : suspends_tried k a x ≡ false
  pub computes : computes_more k vars a n x ≡ false
  pub stays : leaves a x ≡ false
  pub brackets : wrong_brackets k x ≡ false
  pub once : begins_again a x ≡ false

pub effects_kept : (k : Names) (vars : List Bool) (a : Around) (n : ℕ) (x : Shape) →
    first_true (effects.expression_rules k vars a n x) ≡ None →
    EffectsKept k vars a n x
effects_kept k vars a n x h =
    let rs = effects.expression_rules k vars a n x in
    record {
      caught = no_rule rs h 0 _ refl;
      undone = no_rule rs h 1 _ refl;
      suspends = no_rule rs h 2 _ refl;
      tried = no_rule rs h 3 _ refl;
      computes = no_rule rs h 4 _ refl;
      stays = no_rule rs h 5 _ refl;
      brackets = no_rule rs h 6 _ refl;
      once = no_rule rs h 7 _ refl;
    }

-- ---- tests

pub or_left : (a b : Bool) → (a || b) ≡ false → a ≡ false
or_left true b h = cc
or_left false b h = refl

pub or_right : (a b : Bool) → (a || b) ≡ false → b ≡ false
or_right true b h = cc
or_right false b h = h
