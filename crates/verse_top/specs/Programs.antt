-- Which commands are over the files of a program, and what is known of one that is accepted.
use Rattle.std.specs.Prelude.{◌≡◌, ℕ, ◌≤◌, List, length, map}
use Rattle.verse_tree.specs.ItemView.{item_of}
use Rattle.verse_tree.specs.Numbering.{program_nodes}
use Rattle.verse_tree.specs.declared.programs.Program.{Program as Made}
use Rattle.verse_rules_types.specs.Types.{ty_of}
use Rattle.verse_rules.specs.Sound.{completed, types_of}
use Rattle.verse_accept.specs.Fronts.{Accepts}
use Rattle.verse_top_args.specs.Words.{Command, run, exec, save, resume, check, build, note}
use Rattle.verse_top_args.specs.Words.{list, assemble, verify, load}
use Rattle.verse_top_args.specs.declared.commands.Request.{Request}
use Rattle.verse_top_args.specs.declared.commands.Request.TheVariants as request

abbrev pub IsProgram : Command → Type 0
IsProgram (run files o) = Unit {0}
IsProgram (exec file o) = ⊥
IsProgram (save file o) = ⊥
IsProgram (resume file until heap) = ⊥
IsProgram (check files) = Unit {0}
IsProgram (build files) = Unit {0}
IsProgram (note files) = Unit {0}
IsProgram (list file) = ⊥
IsProgram (assemble file) = ⊥
IsProgram (verify image notes) = ⊥
IsProgram (load n) = ⊥

abbrev pub IsForProgram : Request → Type 0
IsForProgram (request.Run r) = Unit {0}
IsForProgram (request.Exec r) = ⊥
IsForProgram (request.Save r) = ⊥
IsForProgram (request.Resume r) = ⊥
IsForProgram (request.Check files) = Unit {0}
IsForProgram (request.Build files) = Unit {0}
IsForProgram (request.Note files) = Unit {0}
IsForProgram (request.List files) = ⊥
IsForProgram (request.Assemble files) = ⊥
IsForProgram (request.Verify files) = ⊥
IsForProgram (request.Load n) = ⊥

-- it is over one file that is no program
abbrev pub IsForFile : Request → Type 0
IsForFile (request.Run r) = ⊥
IsForFile (request.Exec r) = Unit {0}
IsForFile (request.Save r) = Unit {0}
IsForFile (request.Resume r) = Unit {0}
IsForFile (request.Check files) = ⊥
IsForFile (request.Build files) = ⊥
IsForFile (request.Note files) = ⊥
IsForFile (request.List files) = Unit {0}
IsForFile (request.Assemble files) = Unit {0}
IsForFile (request.Verify files) = ⊥
IsForFile (request.Load n) = ⊥

-- the files are accepted, as this program with its names and types
pub record IsAccepted (files : List (List ℕ)) (p : Made) : Type 0 where
  pub some : 1 ≤ length files
  pub few : length files ≤ 16
  pub accepts : Accepts files (map item_of p.tree.items)
  pub files_are : p.tree.files ≡ length files
  pub counted : p.tree.nodes ≡ program_nodes (map item_of p.tree.items)
  pub named : p.names ≡ completed (map item_of p.tree.items)
  pub typed : map ty_of p.typed.types ≡ types_of (map item_of p.tree.items)
