-- Files between two layers of the front end.
use Rattle.verse_accept.specs.Fronts.{Cut, Laid}
use Rattle.verse_accept.specs.declared.files.CutFile.{CutFile}
use Rattle.verse_accept.specs.declared.files.LaidFile.{LaidFile}

abbrev pub cut_of : CutFile → Cut
cut_of f = record { bytes = f.bytes.now; tokens = f.tokens.items }

abbrev pub laid_of : LaidFile → Laid
laid_of f = record { bytes = f.bytes.now; toks = f.toks.items }
