-- Where a type or a phrase ends, and where none goes on, by index.
use Rattle.std.proofs.Common.{◌≡◌, ℕ, ◌+◌, ◌-◌, ◌<◌, ◌≤◌, List, [], ◌∷◌, length, drop, take, refl, subst, arith, length-drop}
use Rattle.verse_layout.specs.declared.toks.Tok.{Tok}
use Rattle.verse_tree.specs.Tree.{Written}
use Rattle.verse_grammar.specs.Types.{IsType}
use Rattle.verse_grammar.specs.Begins.{Whole, IsWhole, Begins, Stops}
use Rattle.verse_grammar.specs.Begins as whole
use Rattle.verse_grammar.specs.Symbols.{a_type, phrase}
use Rattle.verse_grammar.specs.Reading.{EatsRule, SticksRule}
use Rattle.verse_grammar.specs.Wholes.{rule_of}
use Rattle.verse_grammar.specs.declared.phrases.Phrase.{Phrase}
use Rattle.verse_grammar.proofs.CompletingStops.{stuck_stops, left_stops}
use Rattle.verse_grammar.proofs.SpelledLaws.{one_type, type_eaten}
use Rattle.verse_grammar.proofs.Local.{reads_one_way}
use Rattle.verse_expr.proofs.Cuts.{phrase_none}

stops_by : (w : Whole) (ks : List Tok) (at index : ℕ) → at ≤ index → index ≤ length ks →
    SticksRule (rule_of w) (drop at ks) (length ks - index) → Stops w (drop at ks) (index - at)
stops_by w ks at index h i x =
    let n : length (drop at ks) - (length ks - index) ≡ index - at = omega (arith, length-drop at ks) in
    subst (λ (k : ℕ). Stops w (drop at ks) k) n (stuck_stops w (drop at ks) (length ks - index) x)

pub type_stops : (ks : List Tok) (at index : ℕ) → at ≤ index → index ≤ length ks → SticksRule a_type (drop at ks) (length ks - index) →
    Stops whole.a_type (drop at ks) (index - at)
type_stops ks at index h i x = stops_by whole.a_type ks at index h i x

pub phrase_stops : (q : Phrase) (ks : List Tok) (at index : ℕ) → at ≤ index → index ≤ length ks →
    SticksRule (phrase q) (drop at ks) (length ks - index) → Stops (whole.a_phrase q) (drop at ks) (index - at)
phrase_stops q ks at index h i x = stops_by (whole.a_phrase q) ks at index h i x

pub type_once : (b : List ℕ) (ks : List Tok) (at behind : ℕ) (u : Written) → IsType b (drop at ks) u (drop behind ks) →
    (v : Written) (rest : List Tok) → IsType b (drop at ks) v rest →
    (v ≡ u) × (rest ≡ drop behind ks)
type_once b ks at behind u r v rest s = one_type b (drop at ks) rest (drop behind ks) v u s r

-- where the rule of types sticks, the toks begin with no type
pub type_none : (b : List ℕ) (ks : List Tok) (left : ℕ) → SticksRule a_type ks left → (v : Written) (rest : List Tok) → IsType b ks v rest →
    ⊥
type_none b ks left x v rest r = (reads_one_way a_type ks).either rest left (type_eaten b ks rest v r) x

none_left : (rest : List Tok) → 0 < length rest → rest ≡ [] → ⊥
none_left rest h e = let l : 0 < length {A = Tok} [] = rw e at h in omega (arith, l)

greatest_by : (w : Whole) (ks rest : List Tok) (n : ℕ) → 0 < length rest → length ks - length rest ≡ n → EatsRule (rule_of w) ks rest →
    n < length ks → Begins w (take (n + 1) ks) → ⊥
greatest_by w ks [] n h e x i begun = none_left [] h refl
greatest_by w ks (k ∷ rest) n h e x i begun =
    let s : Stops w ks n = subst (λ (j : ℕ). Stops w ks j) e (left_stops w k ks rest x) in
    s.beyond i begun

greatest_at : (w : Whole) (ks : List Tok) (at behind : ℕ) → at < behind → behind < length ks →
    EatsRule (rule_of w) (drop at ks) (drop behind ks) → Begins w (take (behind - at + 1) (drop at ks)) → ⊥
greatest_at w ks at behind h i x begun =
    greatest_by w (drop at ks) (drop behind ks) (behind - at) (omega (arith, length-drop behind ks))
    (omega (arith, length-drop behind ks, length-drop at ks)) x (omega (arith, length-drop at ks)) begun

-- with the tok behind a type no type goes on
pub type_greatest : (ks : List Tok) (at behind : ℕ) → at < behind → behind < length ks → EatsRule a_type (drop at ks) (drop behind ks) →
    Begins whole.a_type (take (behind - at + 1) (drop at ks)) → ⊥
type_greatest ks at behind h i x begun = greatest_at whole.a_type ks at behind h i x begun

-- with the tok behind a phrase no such phrase goes on
pub phrase_greatest : (q : Phrase) (ks : List Tok) (at behind : ℕ) → at < behind → behind < length ks →
    EatsRule (phrase q) (drop at ks) (drop behind ks) → Begins (whole.a_phrase q) (take (behind - at + 1) (drop at ks)) → ⊥
phrase_greatest q ks at behind h i x begun = greatest_at (whole.a_phrase q) ks at behind h i x begun

-- where a phrase sticks, the toks before are no such phrase
pub phrase_refused : (q : Phrase) (ks : List Tok) (at index : ℕ) → at ≤ index → index ≤ length ks →
    SticksRule (phrase q) (drop at ks) (length ks - index) → IsWhole (whole.a_phrase q) (take (index - at) (drop at ks)) → ⊥
phrase_refused q ks at index h i x =
    let n : length (drop at ks) - (length ks - index) ≡ index - at = omega (arith, length-drop at ks) in
    subst (λ (k : ℕ). IsWhole (whole.a_phrase q) (take k (drop at ks)) → ⊥) n (phrase_none q (drop at ks) (length ks - index) x)
