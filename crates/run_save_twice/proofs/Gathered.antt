-- Where arms are gathered there is a group, and its place in the source is there.
use Rattle.std.proofs.Common.{◌≡◌, ℕ, ◌+◌, ◌<◌, Bool, true, false, length, Option, Some, None, refl, sym, ap}
use Rattle.std.proofs.Common.{◌∙◌}
use Rattle.std.proofs.lemmas.Bool.{ltb-true}
use Rattle.std.specs.Prelude.{slice_get, nat_le, nat_lt, ◌&&◌}
use Rattle.verse_base.proofs.Facts.{get_within}
use Rattle.verse_code.specs.declared.codes.Code.{Code}
use Rattle.verse_code.specs.declared.operations.Op.{Op}
use Rattle.verse_code.specs.declared.operations.Op.TheVariants as o
use Rattle.verse_code.specs.Validity.{Valid}
use Rattle.verse_code_machine.specs.Acts.{place_at}
use Rattle.run_save_shots.specs.Fitting.{gathers, goes_on, stand_of, stand_in, stand_at}
use Rattle.run_save_shots.specs.Spelling.{or_nowhere}
use Rattle.run_save_trees.proofs.Groups.{group_of}

-- it has a place in the source
pub source_there : (c : Code) (at k m p : ℕ) → Valid c → stand_at c at ≡ gathers k m p → place_at c p ≡ Some (or_nowhere (place_at c p))
source_there c at k m p valid e = by (slice_get c.ops at) refl
  where
    within : slice_get c.ops at ≡ Some (o.Group k m p) → p < length c.places
    within f =
        ltb-true p (length c.places) (third (nat_le k 2) (nat_lt (at + m) (length c.ops)) (nat_lt p (length c.places))
        (valid.operations at (o.Group k m p) f))
      where
        third : (a b d : Bool) → (a && b && d) ≡ true → d ≡ true
        third true true d h = h
        third true false d h = absurd (cc)
        third false b d h = absurd (cc)

    found : p < length c.places → place_at c p ≡ Some (or_nowhere (place_at c p))
    found l = let x = get_within c.places p l in x.1 ∙ ap (λ q. Some (or_nowhere q)) (sym x.1)

    by : (q : Option Op) → slice_get c.ops at ≡ q → place_at c p ≡ Some (or_nowhere (place_at c p))
    by None f = let none : goes_on ≡ gathers k m p = sym (ap stand_in f) ∙ e in absurd (cc)
    by (Some op) f = found (within (f ∙ ap (λ x. Some x) (group_of op k m p (sym (ap stand_in f) ∙ e))))
