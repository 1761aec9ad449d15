-- Where the reading of a program stops no program goes on.
use Rattle.std.proofs.Common.{◌≡◌, ℕ, ◌-◌, ◌≤◌, List, [], ◌∷◌, length, subst}
use Rattle.verse_layout.specs.declared.toks.Tok.{Tok}
use Rattle.verse_tree.specs.ItemTree.{ItemTree}
use Rattle.verse_grammar.specs.Items.{Program}
use Rattle.verse_grammar.specs.Begins.{Stops, a_program}
use Rattle.verse_grammar.specs.Symbols.{program}
use Rattle.verse_grammar.specs.Reading.{EatsRule}
use Rattle.verse_grammar.proofs.CompletingStops.{stuck_stops, left_stops}
use Rattle.verse_grammar.proofs.SpelledLaws.{one_program}
use Rattle.verse_grammar.proofs.Local.{rule_within, sticks_rule_within}
use Rattle.verse_parse.specs.StopsWith.{StopsWith, stuck_inside, left_behind}

behind_stops : (ks rest behind : List Tok) (k : Tok) → EatsRule program ks rest → rest ≡ k ∷ behind →
    Stops a_program ks (length ks - length rest)
behind_stops ks rest behind k x e = rw e (left_stops a_program k ks behind (subst (λ (ls : List Tok). EatsRule program ks ls) e x))

pub left_stops_program : (ks : List Tok) (left : ℕ) → StopsWith ks left → Stops a_program ks (length ks - left)
left_stops_program ks left (stuck_inside x) = stuck_stops a_program ks left x
left_stops_program ks left (left_behind {k = k} {rest = rest} {behind = behind} x e h) = rw h (behind_stops ks rest behind k x e)

pub left_within : (ks : List Tok) (left : ℕ) → StopsWith ks left → left ≤ length ks
left_within ks left (stuck_inside x) = sticks_rule_within x
left_within ks left (left_behind x e h) = rw h (rule_within x)

pub program_once : (b : List ℕ) (ks : List Tok) (is : List ItemTree) → Program b ks is [] → (js : List ItemTree) → Program b ks js [] →
    js ≡ is
program_once b ks is r js s = one_program b ks js is s r
