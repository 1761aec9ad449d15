-- A word with what stands behind it.
use Rattle.std.proofs.Common.{◌≡◌, ◌≢◌, ℕ, List, ◌∷◌, Some, length}
use Rattle.verse_layout.specs.declared.toks.TokKind.TheVariants as tok
use Rattle.verse_layout.specs.declared.toks.Tok.{Tok}
use Rattle.verse_tree.specs.Tree.{Tree, tree}
use Rattle.verse_tree.specs.View.{trees}
use Rattle.verse_grammar.specs.Toks.{ahead}
use Rattle.verse_grammar.specs.Starts.{primary_start}
use Rattle.verse_grammar.specs.Exprs.{Reads, array, option, logic, sync, race, rush, loop_form, block_form, branch}
use Rattle.verse_grammar.specs.Symbols.{phrase}
use Rattle.verse_grammar.specs.Reading.{EatsRule, SticksRule}
use Rattle.verse_grammar.specs.declared.phrases.Phrase.TheVariants as p
use Rattle.verse_grammar.proofs.Eating.{eats_primary_array, eats_primary_option, eats_primary_logic, eats_primary_sync, eats_primary_race}
use Rattle.verse_grammar.proofs.Eating.{eats_primary_rush, eats_primary_loop, eats_primary_block, eats_primary_branch}
use Rattle.verse_grammar.proofs.Sticking.{sticks_primary_array_1, sticks_primary_array_2, sticks_primary_option_1, sticks_primary_option_2}
use Rattle.verse_grammar.proofs.Sticking.{sticks_primary_logic_1, sticks_primary_logic_2, sticks_primary_sync_1, sticks_primary_sync_2}
use Rattle.verse_grammar.proofs.Sticking.{sticks_primary_race_1, sticks_primary_race_2, sticks_primary_rush_1, sticks_primary_rush_2}
use Rattle.verse_grammar.proofs.Sticking.{sticks_primary_loop_1, sticks_primary_block_1, sticks_primary_branch_1}
use Rattle.verse_expr_keywords.specs.declared.words.ListWord.{ListWord}
use Rattle.verse_expr_keywords.specs.declared.words.ListWord.TheVariants as list
use Rattle.verse_expr_keywords.specs.declared.words.BodyWord.{BodyWord}
use Rattle.verse_expr_keywords.specs.declared.words.BodyWord.TheVariants as body
use Rattle.verse_expr_keywords.specs.Words.{list_start, list_shape, list_rule, IsList, body_start, body_shape}

pub list_reads : {b : List ℕ} {k o : Tok} {ks rest : List Tok} (w : ListWord) (es : List Tree) →
    primary_start k.kind ≡ Some (list_start w) → o.kind ≡ tok.Open → IsList b w ks es rest →
    Reads b p.Primary (k ∷ o ∷ ks) (tree 0 k.place (list_shape w (trees es))) rest
list_reads list.Array es s h r = array s h r
list_reads list.Option es s h r = option s h r
list_reads list.Logic es s h r = logic s h r
list_reads list.Sync es s h r = sync s h r
list_reads list.Race es s h r = race s h r
list_reads list.Rush es s h r = rush s h r

pub list_eaten : (w : ListWord) (k o : Tok) (ks rest : List Tok) → primary_start k.kind ≡ Some (list_start w) → o.kind ≡ tok.Open →
    EatsRule (list_rule w) ks rest → EatsRule (phrase p.Primary) (k ∷ (o ∷ ks)) rest
list_eaten list.Array k o ks rest s h e = eats_primary_array k o ks rest s h e
list_eaten list.Option k o ks rest s h e = eats_primary_option k o ks rest s h e
list_eaten list.Logic k o ks rest s h e = eats_primary_logic k o ks rest s h e
list_eaten list.Sync k o ks rest s h e = eats_primary_sync k o ks rest s h e
list_eaten list.Race k o ks rest s h e = eats_primary_race k o ks rest s h e
list_eaten list.Rush k o ks rest s h e = eats_primary_rush k o ks rest s h e

pub list_stuck_before : (w : ListWord) (k : Tok) (at : List Tok) → primary_start k.kind ≡ Some (list_start w) → ahead at ≢ Some tok.Open →
    SticksRule (phrase p.Primary) (k ∷ at) (length at)
list_stuck_before list.Array k at s n = sticks_primary_array_1 k at s n
list_stuck_before list.Option k at s n = sticks_primary_option_1 k at s n
list_stuck_before list.Logic k at s n = sticks_primary_logic_1 k at s n
list_stuck_before list.Sync k at s n = sticks_primary_sync_1 k at s n
list_stuck_before list.Race k at s n = sticks_primary_race_1 k at s n
list_stuck_before list.Rush k at s n = sticks_primary_rush_1 k at s n

pub list_stuck_inside : (w : ListWord) (left : ℕ) (k o : Tok) (at : List Tok) → primary_start k.kind ≡ Some (list_start w) →
    o.kind ≡ tok.Open → SticksRule (list_rule w) at left → SticksRule (phrase p.Primary) (k ∷ (o ∷ at)) left
list_stuck_inside list.Array left k o at s h x = sticks_primary_array_2 left k o at s h x
list_stuck_inside list.Option left k o at s h x = sticks_primary_option_2 left k o at s h x
list_stuck_inside list.Logic left k o at s h x = sticks_primary_logic_2 left k o at s h x
list_stuck_inside list.Sync left k o at s h x = sticks_primary_sync_2 left k o at s h x
list_stuck_inside list.Race left k o at s h x = sticks_primary_race_2 left k o at s h x
list_stuck_inside list.Rush left k o at s h x = sticks_primary_rush_2 left k o at s h x

pub body_reads : {b : List ℕ} {k : Tok} {ks rest : List Tok} {e : Tree} (w : BodyWord) → primary_start k.kind ≡ Some (body_start w) →
    Reads b p.Block ks e rest → Reads b p.Primary (k ∷ ks) (tree 0 k.place (body_shape w e)) rest
body_reads body.Loop s r = loop_form s r
body_reads body.Block s r = block_form s r
body_reads body.Branch s r = branch s r

pub body_eaten : (w : BodyWord) (k : Tok) (ks rest : List Tok) → primary_start k.kind ≡ Some (body_start w) →
    EatsRule (phrase p.Block) ks rest → EatsRule (phrase p.Primary) (k ∷ ks) rest
body_eaten body.Loop k ks rest s e = eats_primary_loop k ks rest s e
body_eaten body.Block k ks rest s e = eats_primary_block k ks rest s e
body_eaten body.Branch k ks rest s e = eats_primary_branch k ks rest s e

pub body_stuck : (w : BodyWord) (left : ℕ) (k : Tok) (at : List Tok) → primary_start k.kind ≡ Some (body_start w) →
    SticksRule (phrase p.Block) at left → SticksRule (phrase p.Primary) (k ∷ at) left
body_stuck body.Loop left k at s x = sticks_primary_loop_1 left k at s x
body_stuck body.Block left k at s x = sticks_primary_block_1 left k at s x
body_stuck body.Branch left k at s x = sticks_primary_branch_1 left k at s x
