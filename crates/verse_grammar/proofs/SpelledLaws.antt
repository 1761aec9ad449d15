-- The laws of what is spelled.
use Rattle.std.proofs.Common.{◌≡◌, ◌≤◌, true, List, refl, ap, arith}
use Rattle.std.proofs.lemmas.Bool.{leb-true}
use Rattle.verse_layout.specs.declared.toks.Tok.{Tok}
use Rattle.verse_tree.specs.Tree.{Written, Tree}
use Rattle.verse_tree.specs.ItemTree.{ItemTree}
use Rattle.verse_grammar.specs.Toks.{ahead}
use Rattle.verse_grammar.specs.Follows.{rank_ahead, needs, may_follow}
use Rattle.verse_grammar.specs.SpelledLaws.{PhraseEaten, SpelledEaten, TypeEaten, ProgramEaten, OnePhrase, OneTree, OneType, OneProgram}
use Rattle.verse_grammar.specs.declared.phrases.Phrase.{Phrase}
use Rattle.verse_grammar.specs.declared.phrases.Phrase.TheVariants as p
use Rattle.verse_grammar.proofs.SpelledValues.{v_type, v_tree, v_items, as_type, as_tree, as_items, gives_eats, Same, same_value}
use Rattle.verse_grammar.proofs.SpelledTypes.{spelled_type}
use Rattle.verse_grammar.proofs.SpelledReads.{spelled}
use Rattle.verse_grammar.proofs.SpelledItems.{spelled_program}

-- the end may follow every phrase
end_follows : (q : Phrase) → needs q ≤ 9
end_follows p.Block = omega arith
end_follows _ = omega arith

follows : (q : Phrase) (ks : List Tok) → may_follow q (ahead ks) ≡ true → needs q ≤ rank_ahead (ahead ks)
follows q ks h = leb-true (needs q) (rank_ahead (ahead ks)) h

pub phrase_eaten : PhraseEaten
phrase_eaten b q ks rest t d h = gives_eats (spelled d (follows q rest h))

pub spelled_eaten : SpelledEaten
spelled_eaten b q ks t d = gives_eats (spelled d (end_follows q))

pub type_eaten : TypeEaten
type_eaten b ks rest u d = gives_eats (spelled_type d)

pub program_eaten : ProgramEaten
program_eaten b ks is d = gives_eats (spelled_program d refl)

same_trees : {t u : Tree} {rest end : List Tok} → Same (v_tree t) (v_tree u) rest end → (t ≡ u) × (rest ≡ end)
same_trees s = (ap as_tree s.value, s.behind)

same_types : {u v : Written} {rest end : List Tok} → Same (v_type u) (v_type v) rest end → (u ≡ v) × (rest ≡ end)
same_types s = (ap as_type s.value, s.behind)

same_items : {is js : List ItemTree} {rest end : List Tok} → Same (v_items is) (v_items js) rest end → is ≡ js
same_items s = ap as_items s.value

pub one_phrase : OnePhrase
one_phrase b q ks rest end t u d h e i = same_trees (same_value (spelled d (follows q rest h)) (spelled e (follows q end i)))

pub one_tree : OneTree
one_tree b q ks t u d e = let s = same_trees (same_value (spelled d (end_follows q)) (spelled e (end_follows q))) in s.0

pub one_type : OneType
one_type b ks rest end u v d e = same_types (same_value (spelled_type d) (spelled_type e))

pub one_program : OneProgram
one_program b ks is js d e = same_items (same_value (spelled_program d refl) (spelled_program e refl))
