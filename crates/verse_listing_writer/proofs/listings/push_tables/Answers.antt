use Rattle.std.proofs.Common.{List, ℕ, ap, map, ◌++◌, ◌∙◌}
use Rattle.verse_base.specs.declared.places.Place.{Place}
use Rattle.verse_code.specs.declared.codes.Func.{Func}
use Rattle.verse_code.specs.declared.codes.Class.{Class}
use Rattle.verse_listing_format.specs.Format.{class_line, function_line, place_line, spelled, text_line}
use Rattle.verse_listing_writer.proofs.LineLemmas.{spelled_then}
use Rattle.verse_listing_writer.proofs.listings.push_tables.Goals as goal

pub returns-clause-written : goal.returns-clause-written
returns-clause-written c =
    let code = c.args.code.now in
    spelled_then (map text_line code.texts)
    (map place_line code.places ++ (map function_line code.functions ++ map class_line code.classes)) _ _ _
    (c.in_ok-push_texts.ensures.written ∙
    ap (λ (xs : List (List ℕ)). c.args.out.now.items ++ spelled (map text_line xs)) c.as_slice.ensures)
    (spelled_then (map place_line code.places) (map function_line code.functions ++ map class_line code.classes) _ _ _
    (c.in_ok-push_places.ensures.written ∙
    ap (λ (xs : List Place). c.push_texts.new.out.items ++ spelled (map place_line xs)) c.as_slice-2.ensures)
    (spelled_then (map function_line code.functions) (map class_line code.classes) _ _ _
    (c.in_ok-push_functions.ensures ∙
    ap (λ (xs : List Func). c.push_places.new.out.items ++ spelled (map function_line xs)) c.as_slice-3.ensures)
    (c.in_ok-push_classes.ensures.written ∙
    ap (λ (xs : List Class). c.push_functions.new.out.items ++ spelled (map class_line xs)) c.as_slice-4.ensures)))
