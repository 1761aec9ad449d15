use Rattle.std.proofs.Common.{◌≡◌, subst, sym, ◌∙◌, IfOk}
use Rattle.verse_names_tables.proofs.Sharing.{put_last}
use Rattle.verse_names_tables.proofs.shared_names.SharedNames.with.Goals as goal

pub returns-in-None : goal.returns-in-None
returns-in-None c = subst (λ l. IfOk c.added.result (λ r. r ≡ l))
    (put_last c.args.name.now c.args.number c.args.self.now (sym c.place.ensures ∙ c.in-None.is)) c.added.ensures
