use Rattle.std.proofs.Common.{ap, ◌∙◌, map}
use Rattle.verse_names_tables.specs.Views.{entry_of}
use Rattle.verse_names_tables.proofs.Looking.{put_map}
use Rattle.verse_names_tables.proofs.dictionaries.Dict.put.Goals as goal

pub returns : goal.returns
returns c = ap (map entry_of) c.in_ok-insert.ensures.entries ∙ put_map c.args.name c.args.to c.args.self.now.map.entries
