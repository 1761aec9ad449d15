-- The code runs as the program means, and so is told in short.
use Rattle.std.proofs.Common.{map}
use Rattle.verse_tree.specs.ItemView.{item_of}
use Rattle.verse_top_exec.specs.Counts.{Counts}
use Rattle.verse_top.specs.Answers.{MeansInShort}
use Rattle.verse_top.specs.Meaning.{default_options}
use Rattle.verse_top.proofs.AnswerLaws.{ok_then}
use Rattle.verse_top.proofs.ProgramLaws.{short_means}
use Rattle.verse_top.proofs.loads.counted.Goals as goal

pub returns : goal.returns
returns c =
    let is = map item_of c.args.program.tree.items in
    let files = c.args.program.tree.files in
    let code = c.in_ok-code.code in
    ok_then c.count_run.result (λ a. Counts code default_options a.status a.text.items)
    (λ a. MeansInShort is default_options files a.status a.text.items)
    (λ a p. short_means is files code default_options a.status a.text.items c.in_ok-code.ensures.code c.in_ok-code.ensures.does p)
    c.count_run.ensures
