use Rattle.std.proofs.Common.{◌≡◌, ◌∙◌, sym, take, drop, None}
use Rattle.verse_lex.specs.Words.{words, look_up}
use Rattle.verse_lex.proofs.Tables.{look_up_front, look_up_behind, no_some}
use Rattle.verse_lex.proofs.words.word.Goals as goal

pub returns-in-Some : goal.returns-in-Some
returns-in-Some c = sym (look_up_front 10 words c.args.name.now c.in-Some.word (sym c.in-Some.ensures))

pub returns-in-Some-words_e_to_m : goal.returns-in-Some-words_e_to_m
returns-in-Some-words_e_to_m c =
    let first : look_up (take 10 words) c.args.name.now ≡ None =
    sym c.words_a_to_e.ensures ∙ no_some c.words_a_to_e.result c.in_default.not-Some in
    let found = look_up_front 10 (drop 10 words) c.args.name.now c.in-Some-words_e_to_m.word (sym c.in-Some-words_e_to_m.ensures) in
    sym (look_up_behind 10 words c.args.name.now first ∙ found)

pub returns-in-Some-words_n_to_s : goal.returns-in-Some-words_n_to_s
returns-in-Some-words_n_to_s c =
    let first : look_up (take 10 words) c.args.name.now ≡ None =
    sym c.words_a_to_e.ensures ∙ no_some c.words_a_to_e.result c.in_default.not-Some in
    let second : look_up (take 10 (drop 10 words)) c.args.name.now ≡ None =
    sym c.words_e_to_m.ensures ∙ no_some c.words_e_to_m.result c.in_default-words_e_to_m.not-Some in
    let found = look_up_front 10 (drop 20 words) c.args.name.now c.in-Some-words_n_to_s.word (sym c.in-Some-words_n_to_s.ensures) in
    sym (look_up_behind 10 words c.args.name.now first ∙ (look_up_behind 10 (drop 10 words) c.args.name.now second ∙ found))

pub returns : goal.returns
returns c =
    let first : look_up (take 10 words) c.args.name.now ≡ None =
    sym c.words_a_to_e.ensures ∙ no_some c.words_a_to_e.result c.in_default.not-Some in
    let second : look_up (take 10 (drop 10 words)) c.args.name.now ≡ None =
    sym c.words_e_to_m.ensures ∙ no_some c.words_e_to_m.result c.in_default-words_e_to_m.not-Some in
    let third : look_up (take 10 (drop 20 words)) c.args.name.now ≡ None =
    sym c.words_n_to_s.ensures ∙ no_some c.words_n_to_s.result c.in_default-words_n_to_s.not-Some in
    c.words_s_to_v.ensures ∙
    sym (look_up_behind 10 words c.args.name.now first ∙
    (look_up_behind 10 (drop 10 words) c.args.name.now second ∙ look_up_behind 10 (drop 20 words) c.args.name.now third))
