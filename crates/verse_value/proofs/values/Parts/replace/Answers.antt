use Rattle.std.proofs.Common.{◌≡◌, ◌<◌, length, slice_set, Some, arith, sym, ap, ◌∙◌}
use Rattle.verse_value.specs.declared.values.Value.{Value}
use Rattle.verse_value.specs.Val.{vals}
use Rattle.verse_value.specs.View.{val_of, vals_of}
use Rattle.verse_value.specs.Places.{nth, with_nth}
use Rattle.verse_value.proofs.Seen.{count_is, nth_here, set_seen}
use Rattle.verse_value.proofs.Sums.{set_kept}
use Rattle.verse_value.proofs.values.Parts.replace.Goals as goal

pub index_mut-requires : goal.index_mut-requires
index_mut-requires c = omega (arith, c.requires, count_is c.self.inside.items.items c.args.self.now c.self.view_is)

pub invariant_of-self : goal.invariant_of-self
invariant_of-self c =
    let within : c.args.at < length c.self.inside.items.items =
    omega (arith, c.requires, count_is c.self.inside.items.items c.args.self.now c.self.view_is) in
    let here : Some (val_of c.replace-old.result) ≡ nth (vals (vals_of c.self.inside.items.items)) c.args.at =
    ap (λ (v : Value). Some (val_of v)) c.replace-old.ensures.value ∙
    nth_here c.self.inside.items.items c.args.at c.index_mut.result.now within c.index_mut.ensures.value in
    set_kept c.self.inside.items.items (slice_set c.self.inside.items.items c.args.at c.replace-old.new.dest) c.self.inside.size
    c.size.result c.size-after.result c.resized-self-inside.result c.self.invariant c.as_slice.result.now c.as_slice.ensures.value
    c.resized-self-inside.ensures
    c.args.at c.replace-old.result c.args.part
    (ap (λ (v : Value). slice_set c.self.inside.items.items c.args.at v) c.replace-old.ensures.after) here c.size.ensures
    c.size-after.ensures

pub returns-clause-old : goal.returns-clause-old
returns-clause-old c =
    let within : c.args.at < length c.self.inside.items.items =
    omega (arith, c.requires, count_is c.self.inside.items.items c.args.self.now c.self.view_is) in
    sym (ap (λ (v : Value). Some (val_of v)) c.replace-old.ensures.value ∙
    nth_here c.self.inside.items.items c.args.at c.index_mut.result.now within c.index_mut.ensures.value ∙
    ap (λ vs. nth vs c.args.at) c.self.view_is)

pub returns-clause-new : goal.returns-clause-new
returns-clause-new c =
    set_seen c.self.inside.items.items c.args.at c.replace-old.new.dest ∙
    (λ i. with_nth (c.self.view_is i) c.args.at (λ _. val_of (c.replace-old.ensures.after i)))
