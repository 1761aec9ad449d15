use Rattle.std.proofs.Common.{◌≡◌, OnOk, arith, sym, subst, ◌∙◌}
use Rattle.verse_value.specs.Val.{Pairs}
use Rattle.verse_value.specs.View.{val_of}
use Rattle.verse_value.proofs.Seen.{key_count_in}
use Rattle.verse_value.proofs.KeyPlaces.{place_within, with_entry_present, with_entry_absent}
use Rattle.verse_value.specs.Parts.{keys_in}
use Rattle.verse_value.proofs.values.Entries.insert.Goals as goal

pub replace-requires : goal.replace-requires
replace-requires c =
    omega (arith, place_within (keys_in c.args.self.now) c.args.key c.in-Some.at (sym c.in-Some.ensures), key_count_in c.args.self.now)

pub returns-in-Some-clause-ok : goal.returns-in-Some-clause-ok
returns-in-Some-clause-ok c =
    c.replace.ensures.new ∙ sym (with_entry_present c.args.self.now c.args.key (val_of c.args.value) c.in-Some.at (sym c.in-Some.ensures))

pub returns-in-None-clause-ok : goal.returns-in-None-clause-ok
returns-in-None-clause-ok c =
    subst (λ (ps : Pairs). OnOk c.push.result (c.push.new.self ≡ ps))
    (sym (with_entry_absent c.args.self.now c.args.key (val_of c.args.value) (sym c.in-None.ensures))) c.push.ensures.ok
