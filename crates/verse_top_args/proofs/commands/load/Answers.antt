-- One word, a number from 2 to 1000.
use Rattle.std.proofs.Common.{◌≡◌, [], ◌∷◌, map, string_bytes, sym, ap, ◌∙◌, rules}
use Rattle.verse_top_args.proofs.CommandLemmas.{is_load, no_load, one_word}
use Rattle.verse_top_args.proofs.commands.load.Goals as goal

pub returns-then-functions-lt-LEAST_LOAD-clause-asks : goal.returns-then-functions-lt-LEAST_LOAD-clause-asks
returns-then-functions-lt-LEAST_LOAD-clause-asks c =
    let one : map string_bytes c.args.words.now ≡ c.as_str.result.now ∷ [] =
    one_word string_bytes c.args.words.now c.word-item.result _ c.in-len1.len_at_least c.in-len1.len_below c.word-item.is ∙
    ap (λ v. v ∷ []) (sym c.as_str.ensures.value) in
    no_load (map string_bytes c.args.words.now) c.as_str.result.now c.in_ok-functions.functions one c.in_ok-functions.ensures
    c.if-functions-lt-LEAST_LOAD.true

pub returns-clause-asks : goal.returns-clause-asks
returns-clause-asks c =
    let one : map string_bytes c.args.words.now ≡ c.as_str.result.now ∷ [] =
    one_word string_bytes c.args.words.now c.word-item.result _ c.in-len1.len_at_least c.in-len1.len_below c.word-item.is ∙
    ap (λ v. v ∷ []) (sym c.as_str.ensures.value) in
    is_load (map string_bytes c.args.words.now) c.as_str.result.now c.in_ok-functions.functions one c.in_ok-functions.ensures
    (search rules)
