-- Reading a listing line by line, up to the first failing line.
use Rattle.std.specs.Prelude.{ℕ, suc, nat_lt, List, [], ◌∷◌, ◌++◌, length, Some, None, Result, Ok}
use Rattle.std.specs.Prelude.{Err}
use Rattle.std.specs.Prelude.{if◌then◌else◌}
use Rattle.verse_code.specs.declared.operations.Op.{Op}
use Rattle.verse_code.specs.declared.codes.Code.{Code}
use Rattle.verse_listing_lines.specs.declared.tables.Tables.{Tables}
use Rattle.verse_listing_lines.specs.Lines.{◌>>=◌, pieces, words, files_of, ops_of, op_of}
use Rattle.verse_listing_lines.specs.Lines.{no_tables, sizes_with, Told, table_line_of}
use Rattle.verse_listing.specs.declared.faults.Flaw.{Flaw}

-- where a line stands: what the lines before it gave
pub data Stage : Type 0 where
  first : Stage
  second : (files : ℕ) → Stage
  among_tables : (files ops : ℕ) → Tables → Stage
  among_operations : (files ops : ℕ) → Tables → (main : ℕ) → List Op → Stage

-- behind the tables stand the operations
abbrev pub stage_with : ℕ → ℕ → Told → Stage
stage_with files ops (t, None) = among_tables files ops t
stage_with files ops (t, Some main) = among_operations files ops t main []

-- what the stage is behind a line
unfoldable pub step : Stage → List ℕ → Result Stage ℕ
step first line = files_of (words line) >>= λ files. Ok (second files)
step (second files) line = ops_of (words line) >>= λ ops. Ok (among_tables files ops no_tables)
step (among_tables files ops t) line =
    table_line_of files ops t (words line) >>= λ told. Ok (stage_with files ops told)
step (among_operations files ops t main done) line =
    if nat_lt (length done) ops
    then (op_of (sizes_with ops t) (length done) (words line) >>= λ op. Ok
    (among_operations files ops t main (done ++ op ∷ []))) else Err 1

-- ---- the listing

abbrev pub flaw : ℕ → ℕ → Flaw
flaw rule line = record { rule = rule; line = line }

abbrev pub code_with : ℕ → Tables → ℕ → List Op → Code
code_with files t main ops = record {
  files = files;
  texts = t.texts;
  places = t.places;
  functions = t.functions;
  classes = t.classes;
  main = main;
  ops = ops;
}

-- the lines end where this line would stand; behind the last line feed stands what is last
unfoldable pub ended : ℕ → List ℕ → Stage → Result Code Flaw
ended n [] (among_operations files ops t main done) =
    if nat_lt (length done) ops then Err (flaw 1 n) else Ok (code_with files t main done)
ended n last stage = Err (flaw 1 n)

abbrev pub on_line : ℕ → Result Stage ℕ → (Stage → Result Code Flaw) → Result Code Flaw
on_line n (Ok stage) go = go stage
on_line n (Err rule) go = Err (flaw rule n)

-- from this stage and the line of this number on
unfoldable pub read_lines : Stage → ℕ → List (List ℕ) → List ℕ → Result Code Flaw
read_lines stage n [] last = ended n last stage
read_lines stage n (line ∷ others) last =
    on_line n (step stage line) (λ next. read_lines next (suc n) others last)

abbrev pub read_on : Stage → ℕ → List ℕ → Result Code Flaw
read_on stage n bytes = read_lines stage n (pieces 10 bytes).0 (pieces 10 bytes).1

-- the code whose listing the bytes are, or the first failing line, counted from 1, with the rule
-- that it breaks
abbrev pub listing_at : List ℕ → Result Code Flaw
listing_at bytes = read_on first 1 bytes
