-- What is spelled has the shapes of the grammar, and numbering keeps them.
use Rattle.std.specs.Prelude.{ℕ, List}
use Rattle.verse_layout.specs.declared.toks.Tok.{Tok}
use Rattle.verse_tree.specs.Tree.{Written, Tree}
use Rattle.verse_tree.specs.ItemTree.{ItemTree}
use Rattle.verse_tree.specs.Numbering.{items_numbered}
use Rattle.verse_tree.specs.Shapes.{Stand, as_block, as_part, as_statement, as_body, as_expression}
use Rattle.verse_tree.specs.Shapes.{as_generator, as_clause, as_arm}
use Rattle.verse_tree.specs.Shapes.{as_pattern, WrittenShaped, Shaped, ItemsShaped}
use Rattle.verse_grammar.specs.Types.{IsType}
use Rattle.verse_grammar.specs.Exprs.{Reads}
use Rattle.verse_grammar.specs.Items.{Program}
use Rattle.verse_grammar.specs.declared.phrases.Phrase.{Phrase}
use Rattle.verse_grammar.specs.declared.phrases.Phrase.TheVariants as p

-- where a phrase of this kind stands
abbrev pub stand_of : Phrase → Stand
stand_of p.Block = as_block
stand_of p.Part = as_part
stand_of p.Stmt = as_statement
stand_of p.Body = as_body
stand_of p.Generator = as_generator
stand_of p.Clause = as_clause
stand_of p.Arm = as_arm
stand_of p.Pattern = as_pattern
stand_of _ = as_expression

abbrev pub PhrasesAreShaped : Type 0
PhrasesAreShaped = (b : List ℕ) (q : Phrase) (ks rest : List Tok) (t : Tree) → Reads b q ks t rest →
    Shaped (stand_of q) t

abbrev pub TypesAreShaped : Type 0
TypesAreShaped = (b : List ℕ) (ks rest : List Tok) (w : Written) → IsType b ks w rest →
    WrittenShaped w

abbrev pub ProgramsAreShaped : Type 0
ProgramsAreShaped = (b : List ℕ) (ks rest : List Tok) (is : List ItemTree) → Program b ks is rest →
    ItemsShaped is

abbrev pub NumberingKeepsShapes : Type 0
NumberingKeepsShapes = (is : List ItemTree) (next : ℕ) → ItemsShaped is →
    ItemsShaped (items_numbered is next)
