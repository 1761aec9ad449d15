-- What comes of the files of a program.
use Rattle.std.specs.Prelude.{◌≡◌, ℕ, List}
use Rattle.verse_base.specs.declared.refusals.Refusal.{Refusal}
use Rattle.verse_outside.specs.Held.{Holding}
use Rattle.verse_top_args.specs.Words.{Command, files_of}
use Rattle.verse_top_texts.specs.Refusals.{refusal_line}
use Rattle.verse_accept.specs.Fronts.{IsRefused}
use Rattle.verse_top.specs.Ends.{Replies}
use Rattle.verse_top.specs.Loading.{AreLoaded}
use Rattle.verse_top.specs.Programs.{IsAccepted, IsProgram}
use Rattle.verse_top.specs.declared.fronts.Fronted.{Fronted}
use Rattle.verse_top.specs.declared.fronts.Fronted.TheVariants as f

-- the files of these names are an accepted program, or each command over them has this reply
abbrev pub Fronts : Holding → (before now : ℕ) → List (List ℕ) → Fronted → Type 0
Fronts held before now names (f.Accepted p) = (files : List (List ℕ)) ×
    (AreLoaded held names files × IsAccepted files p)
Fronts held before now names (f.Refused a) =
    (c : Command) → IsProgram c → files_of c ≡ names →
    Replies c held before now a.status a.text.items

-- the files that hold these bytes are an accepted program, or they are refused
abbrev pub Judged : (names files : List (List ℕ)) → Fronted → Type 0
Judged names files (f.Accepted p) = IsAccepted files p
Judged names files (f.Refused a) = (a.status ≡ 1) ×
    ((r : Refusal) × (IsRefused files r × (a.text.items ≡ refusal_line names r)))
