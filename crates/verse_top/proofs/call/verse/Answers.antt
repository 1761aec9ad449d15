use Rattle.std.proofs.Common.{map, string_bytes}
use Rattle.verse_top.specs.Answers.{words_line}
use Rattle.verse_top.specs.Ends.{no_command}
use Rattle.verse_top.proofs.CallLaws.{ends_with}
use Rattle.verse_top.proofs.StatusLaws.{never_stuck, no_status}
use Rattle.verse_top.proofs.call.verse.Goals as goal

pub returns-in_default-clause-ends : goal.returns-in_default-clause-ends
returns-in_default-clause-ends g c =
    ends_with (map string_bytes c.args.words.now) (g.F.Files.holds c.args.files.now) _ _ 2 words_line c.finish.result _ _ _ _
    (no_command c.in_default.ensures.asks) c.finish.ensures.either

pub returns-clause-ends : goal.returns-clause-ends
returns-clause-ends g c =
    let said = c.in-Some.ensures.asks in
    c.tell.ensures.ends (map string_bytes c.args.words.now) said.0 said.1 said.2

pub returns-in_default-clause-never_stuck : goal.returns-in_default-clause-never_stuck
returns-in_default-clause-never_stuck g c d runs says = no_status c.finish.result c.finish.ensures.either

pub returns-clause-never_stuck : goal.returns-clause-never_stuck
returns-clause-never_stuck g c =
    let said = c.in-Some.ensures.asks in
    never_stuck c.accepted_items_are_never_stuck.ensures (map string_bytes c.args.words.now)
    (g.F.Files.holds c.args.files.now) _ _ _ _ _ _ _
    (c.tell.ensures.ends (map string_bytes c.args.words.now) said.0 said.1 said.2)
