use Rattle.std.proofs.Common.{All, List, [], ◌∷◌, ℕ, ap, length, subst, ◌++◌, ◌∙◌}
use Rattle.verse_code.specs.declared.operations.Op.{Op}
use Rattle.verse_code.specs.Operations.{operands_of}
use Rattle.verse_listing_format.specs.Format.{AreSized, files_line, main_line, op_lines, ops_line, spelled, table_lines}
use Rattle.verse_listing_writer.specs.Writing.{line_text}
use Rattle.verse_listing_writer.proofs.LineLemmas.{spelled_then}
use Rattle.verse_listing_writer.proofs.listings.list.Goals as goal

pub returns : goal.returns
returns c =
    let code = c.args.code.now in
    let tables : List (List (List ℕ)) = table_lines code.texts code.places code.functions code.classes in
    let ops : List (List (List ℕ)) = op_lines 0 code.ops in
    let fits = c.in_ok-push_tables.ensures.sized in
    record {
      valid = c.requires;
      sized = record {
        texts = fits.texts;
        places = fits.places;
        classes = fits.classes;
        operations = subst (λ (xs : List Op). All (λ op. AreSized (operands_of op)) xs) c.as_slice.ensures
            c.in_ok-push_operations.ensures.sized;
      };
      spelled = spelled_then (files_line code.files ∷ []) (ops_line (length code.ops) ∷ (tables ++ main_line code.main ∷ ops)) [] _ _
          (c.in_ok-push_files.ensures ∙ ap (λ (w : List ℕ). w ++ line_text (files_line code.files)) c.new-out.ensures.items)
          (spelled_then (ops_line (length code.ops) ∷ []) (tables ++ main_line code.main ∷ ops) _ _ _
          (c.in_ok-push_ops.ensures ∙ ap (λ (n : ℕ). c.push_files.new.out.items ++ line_text (ops_line n)) c.len.ensures)
          (spelled_then tables (main_line code.main ∷ ops) _ _ _ c.in_ok-push_tables.ensures.written
          (spelled_then (main_line code.main ∷ []) ops _ _ _ c.in_ok-push_main.ensures
          (c.in_ok-push_operations.ensures.written ∙
          ap (λ (xs : List Op). c.push_main.new.out.items ++ spelled (op_lines 0 xs)) c.as_slice.ensures))));
    }
