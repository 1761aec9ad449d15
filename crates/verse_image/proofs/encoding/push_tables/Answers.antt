use Rattle.std.proofs.Common.{ℕ, List, subst}
use Rattle.verse_base.specs.declared.places.Place.{Place}
use Rattle.verse_code.specs.declared.codes.Func.{Func}
use Rattle.verse_code.specs.declared.codes.Class.{Class}
use Rattle.verse_image.specs.Format.{◌⨾◌, number, text, place, function, class, table}
use Rattle.verse_image.specs.Writing.{Writes}
use Rattle.verse_image.proofs.WritingLemmas.{writes_then, writes_four}
use Rattle.verse_image.proofs.encoding.push_tables.Goals as goal

pub returns : goal.returns
returns c =
    let texts : Writes (table text c.args.code.now.texts) c.args.out.now.items c.push_texts.new.out.items =
    subst (λ (xs : List (List ℕ)). Writes (table text xs) c.args.out.now.items c.push_texts.new.out.items) c.as_slice.ensures
    c.in_ok-push_texts.ensures in
    let places : Writes (table place c.args.code.now.places) c.push_texts.new.out.items c.push_places.new.out.items =
    subst (λ (xs : List Place). Writes (table place xs) c.push_texts.new.out.items c.push_places.new.out.items) c.as_slice-2.ensures
    c.in_ok-push_places.ensures in
    let functions : Writes (table function c.args.code.now.functions) c.push_places.new.out.items c.push_functions.new.out.items =
    subst (λ (xs : List Func). Writes (table function xs) c.push_places.new.out.items c.push_functions.new.out.items) c.as_slice-3.ensures
    c.in_ok-push_functions.ensures in
    let classes : Writes (table class c.args.code.now.classes) c.push_functions.new.out.items c.push_classes.new.out.items =
    subst (λ (xs : List Class). Writes (table class xs) c.push_functions.new.out.items c.push_classes.new.out.items) c.as_slice-4.ensures
    c.in_ok-push_classes.ensures in
    writes_then (table text c.args.code.now.texts ⨾ table place c.args.code.now.places ⨾ table function c.args.code.now.functions ⨾ table
    class c.args.code.now.classes) (number c.args.code.now.main) _ _ _
    (writes_four (table text c.args.code.now.texts) (table place c.args.code.now.places) (table function c.args.code.now.functions)
    (table class c.args.code.now.classes) _ _ _ _ _ texts places functions classes)
    c.in_ok-push_number.ensures
