use Rattle.std.proofs.Common.{◌≡◌, map, ap, ◌∙◌}
use Rattle.verse_check_typing.specs.Views.{bytes_of}
use Rattle.verse_check_typing.proofs.InSets.{insert_name}
use Rattle.verse_check_typing.proofs.sets.NameSet.add.Goals as goal

pub returns : goal.returns
returns c = ap (map bytes_of) c.in_ok-insert.ensures.keys ∙ insert_name c.args.name c.args.self.now.names.keys
