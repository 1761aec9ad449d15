-- The rows, computed.
use Rattle.std.proofs.Common.{refl}
use Rattle.verse_listing_format.specs.Names.{names, place_among}
use Rattle.verse_listing_lines.specs.Lines.{pieces, numbers, numbers_behind, files_of, ops_of, function_of, main_of}
use Rattle.verse_listing_lines.specs.Lines.{function_told, main_told}
use Rattle.verse_listing_lines.specs.Lines.{told, operand_at, parts_at, formed, named, op_of}
use Rattle.verse_listing.specs.Reading.{step, ended, read_lines}
use Rattle.verse_listing.specs.Rows.{Rows}

pub rows_hold : Rows
unfolding names place_among pieces numbers numbers_behind files_of ops_of function_of main_of function_told main_told told operand_at parts_at formed named op_of step ended read_lines
rows_hold = record { listed = refl; unknown_name = refl; wrong_operand = refl; wrong_index = refl; missing_line = refl }
