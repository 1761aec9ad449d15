use Rattle.std.proofs.Common.{◌≡◌, ℕ, Option, Some, arith, sym, ap, subst, ◌∙◌}
use Rattle.std.proofs.lemmas.Result.{IfOk-weaker, on_err_weaker}
use Rattle.verse_value.specs.Val.{Val, Vals, Pairs, unit, array, mapping}
use Rattle.verse_value.specs.View.{val_of, vals_of}
use Rattle.verse_value.specs.Keys.{key_of}
use Rattle.verse_value.specs.Parts.{pair_set}
use Rattle.verse_value.specs.Operations.{count, entry_count}
use Rattle.verse_value.specs.Places.{End, Allows, applied, with_nth}
use Rattle.verse_value.proofs.Steps.{on_ok}
use Rattle.verse_value.proofs.Stepping.{array_none, array_misfit, map_none, map_misfit}
use Rattle.verse_value_writes.specs.Changes.{change_of, Replaced}
use Rattle.verse_value_writes.proofs.Inside.{key_at, array_at, array_leads, put_back, put_same, nth_count, map_leads, map_put_back}
use Rattle.verse_value_writes.proofs.Inside.{map_put_same}
use Rattle.verse_value_writes.proofs.Inside.{pair_set_count, key_within}
use Rattle.verse_value_writes.proofs.Along.{end_inside, not_outside, not_misfit, not_absent}
use Rattle.verse_value_writes.proofs.changes.+apply.Goals as goal

pub apply_to_part-replace-part-requires : goal.apply_to_part-replace-part-requires
apply_to_part-replace-part-requires t c =
    let at = array_at (val_of c.args.index.now) c.len.result c.in-Some-Some.at
    (sym (c.in-Some-Some.is ∙ ap (λ (o : Option ℕ). Some o) c.in-Some-Some.field-0-is) ∙ c.part_place.ensures) in
    omega (arith, at.1, c.len.ensures)

pub apply_to_part-apply-outcome-requires : goal.apply_to_part-apply-outcome-requires
apply_to_part-apply-outcome-requires t c =
    let at = array_at (val_of c.args.index.now) c.len.result c.in-Some-Some.at
    (sym (c.in-Some-Some.is ∙ ap (λ (o : Option ℕ). Some o) c.in-Some-Some.field-0-is) ∙ c.part_place.ensures) in
    let leads = array_leads c.args.parts.now (val_of c.args.index.now) c.in-Some-Some.at
    (val_of c.replace-part.result) at.0 c.replace-part.ensures.old in (
      omega arith,
      subst (λ (e : End). Allows e (change_of c.args.made))
          (end_inside (vals_of c.args.path.now) (val_of c.args.index.now) (array c.args.parts.now) (val_of c.replace-part.result) leads)
          c.requires,
    )

pub apply_to_part-replace-requires : goal.apply_to_part-replace-requires
apply_to_part-replace-requires t c =
    let at = array_at (val_of c.args.index.now) c.len.result c.in-Some-Some.at
    (sym (c.in-Some-Some.is ∙ ap (λ (o : Option ℕ). Some o) c.in-Some-Some.field-0-is) ∙ c.part_place.ensures) in
    omega (arith, at.1, c.len.ensures, ap count c.replace-part.ensures.new, nth_count c.args.parts.now c.in-Some-Some.at (λ _. unit))

pub apply_to_part-unreachable-requires : goal.apply_to_part-unreachable-requires
apply_to_part-unreachable-requires t c =
    not_outside (vals_of c.args.path.now) (val_of c.args.index.now) (array c.args.parts.now) (change_of c.args.made)
    (array_none c.args.parts.now (val_of c.args.index.now) c.len.result c.part_place.result c.len.ensures c.part_place.ensures
    (c.in-Some-None.is ∙ ap (λ (o : Option ℕ). Some o) c.in-Some-None.field-0-is)) c.requires

pub apply_to_part-unreachable-requires-in-None : goal.apply_to_part-unreachable-requires-in-None
apply_to_part-unreachable-requires-in-None t c =
    not_misfit (vals_of c.args.path.now) (val_of c.args.index.now) (array c.args.parts.now) (change_of c.args.made)
    (array_misfit c.args.parts.now (val_of c.args.index.now) c.len.result c.part_place.result c.len.ensures c.part_place.ensures
    c.in-None.is) c.requires

pub apply_to_part-returns-clause-ok : goal.apply_to_part-returns-clause-ok
apply_to_part-returns-clause-ok t c =
    let at = array_at (val_of c.args.index.now) c.len.result c.in-Some-Some.at
    (sym (c.in-Some-Some.is ∙ ap (λ (o : Option ℕ). Some o) c.in-Some-Some.field-0-is) ∙ c.part_place.ensures) in
    let w : Val = val_of c.apply-outcome.new.slot in
    let seen : c.replace.new.self ≡ with_nth (with_nth c.args.parts.now c.in-Some-Some.at (λ _. unit)) c.in-Some-Some.at (λ _. w) =
    c.replace.ensures.new ∙ ap (λ (vs : Vals). with_nth vs c.in-Some-Some.at (λ _. w)) c.replace-part.ensures.new in
    on_ok c.apply-outcome.result (λ h. ap array seen ∙ put_back c.args.parts.now (val_of c.args.index.now) c.in-Some-Some.at
    (val_of c.replace-part.result) unit w (applied (vals_of c.args.path.now) (change_of c.args.made)) at.0 c.replace-part.ensures.old h)
    c.apply-outcome.ensures.ok

pub apply_to_part-returns-clause-old : goal.apply_to_part-returns-clause-old
apply_to_part-returns-clause-old t c =
    let at = array_at (val_of c.args.index.now) c.len.result c.in-Some-Some.at
    (sym (c.in-Some-Some.is ∙ ap (λ (o : Option ℕ). Some o) c.in-Some-Some.field-0-is) ∙ c.part_place.ensures) in
    let leads = array_leads c.args.parts.now (val_of c.args.index.now) c.in-Some-Some.at
    (val_of c.replace-part.result) at.0 c.replace-part.ensures.old in
    IfOk-weaker c.apply-outcome.result _ _ (λ old r. subst (λ (e : End). Replaced (change_of c.args.made) old e)
    (sym (end_inside (vals_of c.args.path.now) (val_of c.args.index.now) (array c.args.parts.now) (val_of c.replace-part.result) leads))
    r) c.apply-outcome.ensures.old

pub apply_to_part-returns-clause-err : goal.apply_to_part-returns-clause-err
apply_to_part-returns-clause-err t c =
    let w : Val = val_of c.apply-outcome.new.slot in
    let seen : c.replace.new.self ≡ with_nth (with_nth c.args.parts.now c.in-Some-Some.at (λ _. unit)) c.in-Some-Some.at (λ _. w) =
    c.replace.ensures.new ∙ ap (λ (vs : Vals). with_nth vs c.in-Some-Some.at (λ _. w)) c.replace-part.ensures.new in
    on_err_weaker c.apply-outcome.result (λ h. seen ∙
    put_same c.args.parts.now c.in-Some-Some.at (val_of c.replace-part.result) unit w c.replace-part.ensures.old h)
    c.apply-outcome.ensures.err

pub apply_to_entry-replace-value-requires : goal.apply_to_entry-replace-value-requires
apply_to_entry-replace-value-requires t c =
    let at = key_at c.args.entries.now c.in-Some-Some.at (key_of (val_of c.args.index.now))
    (sym (c.in-Some-Some.is ∙ ap (λ (o : Option ℕ). Some o) c.in-Some-Some.field-0-is) ∙ c.map_place.ensures) in
    key_within c.args.entries.now c.in-Some-Some.at (key_of (val_of c.args.index.now)) at

pub apply_to_entry-apply-outcome-requires : goal.apply_to_entry-apply-outcome-requires
apply_to_entry-apply-outcome-requires t c =
    let at = key_at c.args.entries.now c.in-Some-Some.at (key_of (val_of c.args.index.now))
    (sym (c.in-Some-Some.is ∙ ap (λ (o : Option ℕ). Some o) c.in-Some-Some.field-0-is) ∙ c.map_place.ensures) in
    let leads = map_leads c.args.entries.now (val_of c.args.index.now) c.in-Some-Some.at
    (val_of c.replace-value.result) at c.replace-value.ensures.old in (
      omega arith,
      subst (λ (e : End). Allows e (change_of c.args.made))
          (end_inside (vals_of c.args.path.now) (val_of c.args.index.now) (mapping c.args.entries.now)
          (val_of c.replace-value.result) leads)
          c.requires,
    )

pub apply_to_entry-replace-requires : goal.apply_to_entry-replace-requires
apply_to_entry-replace-requires t c =
    let at = key_at c.args.entries.now c.in-Some-Some.at (key_of (val_of c.args.index.now))
    (sym (c.in-Some-Some.is ∙ ap (λ (o : Option ℕ). Some o) c.in-Some-Some.field-0-is) ∙ c.map_place.ensures) in
    omega (
      arith,
      key_within c.args.entries.now c.in-Some-Some.at (key_of (val_of c.args.index.now)) at,
      ap entry_count c.replace-value.ensures.new,
      pair_set_count c.args.entries.now c.in-Some-Some.at unit,
    )

pub apply_to_entry-unreachable-requires : goal.apply_to_entry-unreachable-requires
apply_to_entry-unreachable-requires t c =
    not_absent (vals_of c.args.path.now) (val_of c.args.index.now) (mapping c.args.entries.now) (change_of c.args.made)
    (map_none c.args.entries.now (key_of (val_of c.args.index.now)) c.map_place.result c.map_place.ensures
    (c.in-Some-None.is ∙ ap (λ (o : Option ℕ). Some o) c.in-Some-None.field-0-is)) c.requires

pub apply_to_entry-unreachable-requires-in-None : goal.apply_to_entry-unreachable-requires-in-None
apply_to_entry-unreachable-requires-in-None t c =
    not_misfit (vals_of c.args.path.now) (val_of c.args.index.now) (mapping c.args.entries.now) (change_of c.args.made)
    (map_misfit c.args.entries.now (key_of (val_of c.args.index.now)) c.map_place.result c.map_place.ensures c.in-None.is) c.requires

pub apply_to_entry-returns-clause-ok : goal.apply_to_entry-returns-clause-ok
apply_to_entry-returns-clause-ok t c =
    let at = key_at c.args.entries.now c.in-Some-Some.at (key_of (val_of c.args.index.now))
    (sym (c.in-Some-Some.is ∙ ap (λ (o : Option ℕ). Some o) c.in-Some-Some.field-0-is) ∙ c.map_place.ensures) in
    let w : Val = val_of c.apply-outcome.new.slot in
    let seen : c.replace.new.self ≡ pair_set (pair_set c.args.entries.now c.in-Some-Some.at unit) c.in-Some-Some.at w =
    c.replace.ensures.new ∙ ap (λ (ps : Pairs). pair_set ps c.in-Some-Some.at w) c.replace-value.ensures.new in
    on_ok c.apply-outcome.result (λ h. ap mapping seen ∙ map_put_back c.args.entries.now (val_of c.args.index.now) c.in-Some-Some.at
    (val_of c.replace-value.result) unit w (applied (vals_of c.args.path.now) (change_of c.args.made)) at c.replace-value.ensures.old h)
    c.apply-outcome.ensures.ok

pub apply_to_entry-returns-clause-old : goal.apply_to_entry-returns-clause-old
apply_to_entry-returns-clause-old t c =
    let at = key_at c.args.entries.now c.in-Some-Some.at (key_of (val_of c.args.index.now))
    (sym (c.in-Some-Some.is ∙ ap (λ (o : Option ℕ). Some o) c.in-Some-Some.field-0-is) ∙ c.map_place.ensures) in
    let leads = map_leads c.args.entries.now (val_of c.args.index.now) c.in-Some-Some.at
    (val_of c.replace-value.result) at c.replace-value.ensures.old in
    IfOk-weaker c.apply-outcome.result _ _ (λ old r. subst (λ (e : End). Replaced (change_of c.args.made) old e)
    (sym (end_inside (vals_of c.args.path.now) (val_of c.args.index.now) (mapping c.args.entries.now)
    (val_of c.replace-value.result) leads)) r) c.apply-outcome.ensures.old

pub apply_to_entry-returns-clause-err : goal.apply_to_entry-returns-clause-err
apply_to_entry-returns-clause-err t c =
    let w : Val = val_of c.apply-outcome.new.slot in
    let seen : c.replace.new.self ≡ pair_set (pair_set c.args.entries.now c.in-Some-Some.at unit) c.in-Some-Some.at w =
    c.replace.ensures.new ∙ ap (λ (ps : Pairs). pair_set ps c.in-Some-Some.at w) c.replace-value.ensures.new in
    on_err_weaker c.apply-outcome.result (λ h. seen ∙
    map_put_same c.args.entries.now c.in-Some-Some.at (val_of c.replace-value.result) unit w c.replace-value.ensures.old h)
    c.apply-outcome.ensures.err
