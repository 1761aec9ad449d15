use Rattle.std.proofs.Common.{ap, sym, ◌∙◌}
use Rattle.verse_names_tables.specs.Names.{Table}
use Rattle.verse_names_tables.specs.Views.{table_of}
use Rattle.verse_names_scopes.specs.Naming as n
use Rattle.verse_names_scopes.specs.Views.{world_of}
use Rattle.verse_names_scopes.proofs.Adding.{put_local}
use Rattle.verse_names_scopes.proofs.naming.Naming.add.Goals as goal

pub returns-in_ok-put-in-None-clause-added : goal.returns-in_ok-put-in-None-clause-added
returns-in_ok-put-in-None-clause-added c =
    let with_locals : Table → n.Naming = λ s. record { locals = s; refs = c.args.self.now.refs; fault = c.args.self.now.fault } in
    let absent = sym c.find.ensures ∙ c.in-None.is in
    let last = put_local (world_of c.args.world.now) c.args.name.now c.args.to (table_of c.args.self.now.locals) absent in
    ap with_locals (c.in_ok-put-in-None.ensures ∙ last)
