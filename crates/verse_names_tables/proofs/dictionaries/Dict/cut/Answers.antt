use Rattle.std.proofs.Common.{ap, sym, ◌∙◌, map}
use Rattle.std.proofs.lemmas.List.{take-map}
use Rattle.verse_names_tables.specs.Views.{entry_of}
use Rattle.verse_names_tables.proofs.dictionaries.Dict.cut.Goals as goal

pub returns : goal.returns
returns c = ap (map entry_of) c.truncate.ensures.entries ∙ sym (take-map entry_of c.args.count c.args.self.now.map.entries)
