-- Arms of a `case`.
use Rattle.std.proofs.Common.{◌≡◌, ℕ, List, [], ◌∷◌}
use Rattle.verse_layout.specs.declared.toks.Tok.{Tok}
use Rattle.verse_tree.specs.Tree.{Tree}
use Rattle.verse_grammar.specs.Exprs.{Reads, arm}
use Rattle.verse_grammar.specs.Symbols.{phrase}
use Rattle.verse_grammar.specs.Reading.{SticksRule}
use Rattle.verse_grammar.specs.declared.phrases.Phrase.TheVariants as p
use Rattle.verse_grammar.proofs.Sticking.{sticks_arm_1, sticks_pattern_end}
use Rattle.verse_expr_patterns.specs.Arms.{IsArm, is_arm}

pub sticks_arm_end : SticksRule (phrase p.Arm) [] 0
sticks_arm_end = sticks_arm_1 0 [] sticks_pattern_end

-- the place is that of its first tok
pub arm_reads : {b : List ℕ} {k : Tok} {ks all rest : List Tok} {e : Tree} → all ≡ k ∷ ks → IsArm b k.place all e rest →
    Reads b p.Arm all e rest
arm_reads q (is_arm r h s) = rw q (arm (rw q at r) h s)
