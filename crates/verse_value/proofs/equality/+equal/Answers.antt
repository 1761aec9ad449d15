use Rattle.std.proofs.Common.{◌≡◌, true, arith, refl, sym, ap, ◌∙◌}
use Rattle.verse_value.specs.View.{vals_of}
use Rattle.verse_value.specs.Val.{vals}
use Rattle.verse_value.specs.Bulk.{bulks}
use Rattle.verse_value.specs.Parts.{keys_in, vals_in}
use Rattle.verse_value.proofs.Seen.{count_is, item_bulk, bulks_in, same_pairs}
use Rattle.verse_value.proofs.equality.+equal.Goals as goal

-- lists of one value each are as long as one another
pub equal_all-returns-then-xs-ys : goal.equal_all-returns-then-xs-ys
equal_all-returns-then-xs-ys t c = (
  λ h. cc,
  λ e. absurd (c.if-xs-ys.true (count_is c.args.xs.now (vals (vals_of c.args.ys.now)) e ∙
      sym (count_is c.args.ys.now (vals (vals_of c.args.ys.now)) refl))),
)

pub equal_all-equal-requires : goal.equal_all-equal-requires
equal_all-equal-requires t c = (
  omega (arith, item_bulk c.args.xs.now c.values.i c.index-xs-i.result c.values-test.true c.index-xs-i.is),
  tt,
)

pub equal_maps-equal_all-requires : goal.equal_maps-equal_all-requires
equal_maps-equal_all-requires t c = (omega (arith, ap bulks c.values.ensures, bulks_in c.args.xs.now), tt)

pub equal_maps-returns : goal.equal_maps-returns
equal_maps-returns t c =
    let same : c.equal_keys.result ≡ true = cc in
    let keys : keys_in c.args.xs.now ≡ keys_in c.args.ys.now = sym c.keys.ensures ∙ c.equal_keys.ensures.0 same ∙ c.keys-2.ensures in (
      λ h. same_pairs c.args.xs.now c.args.ys.now keys (sym c.values.ensures ∙ c.equal_all.ensures.0 h ∙ c.values-2.ensures),
      λ e. c.equal_all.ensures.1 (c.values.ensures ∙ ap vals_in e ∙ sym c.values-2.ensures),
    )
