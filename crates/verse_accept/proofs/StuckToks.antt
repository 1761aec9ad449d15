-- Toks that are stuck are stuck in one place, and are no items.
use Rattle.std.proofs.Common.{◌≡◌, ℕ, ◌+◌, ◌<◌, ◌≤◌, List, [], ◌++◌, inl, inr, length, take, drop, sym, ap, subst, ◌∙◌, append_assoc, arith}
use Rattle.std.proofs.lemmas.List.{map-append, take-append-drop, take-append-le, length-take-le}
use Rattle.std.proofs.lemmas.Bool.{cases_order}
use Rattle.verse_layout.specs.declared.toks.Tok.{Tok}
use Rattle.verse_tree.specs.ItemTree.{ItemTree}
use Rattle.verse_grammar.specs.Items.{Program}
use Rattle.verse_grammar.specs.Begins.{a_program, is_program, kinds, Begins}
use Rattle.verse_accept.specs.Fronts.{IsStuck}

-- what begins a program begins it with less of it too
shorter : (xs ys : List Tok) → Begins a_program (xs ++ ys) → Begins a_program xs
shorter xs ys h = record {
  all = h.all;
  behind = kinds ys ++ h.behind;
  is_whole = h.is_whole;
  begins = h.begins ∙ ap (λ ks. ks ++ h.behind) (map-append (λ (k : Tok). k.kind) xs ys) ∙ append_assoc (kinds xs) (kinds ys) h.behind;
}

begins_less : (ks : List Tok) (i j : ℕ) → i ≤ j → j ≤ length ks → Begins a_program (take j ks) → Begins a_program (take i ks)
begins_less ks i j less within h =
    let room : i ≤ length (take j ks) = omega (arith, length-take-le j ks within) in
    let e : take i ks ≡ take i (take j ks) =
    ap (λ (xs : List Tok). take i xs) (sym (take-append-drop j ks)) ∙ take-append-le i (take j ks) (drop j ks) room in
    subst (λ (xs : List Tok). Begins a_program xs) (sym e)
    (shorter (take i (take j ks)) (drop i (take j ks))
    (subst (λ (xs : List Tok). Begins a_program xs) (sym (take-append-drop i (take j ks))) h))

begins_whole : (b : List ℕ) (ks : List Tok) (is : List ItemTree) (i : ℕ) → Program b ks is [] → Begins a_program (take i ks)
begins_whole b ks is i p = record {
  all = ks;
  behind = kinds (drop i ks);
  is_whole = is_program p;
  begins = ap kinds (sym (take-append-drop i ks)) ∙ map-append (λ (k : Tok). k.kind) (take i ks) (drop i ks);
}

no_later : (ks : List Tok) (i j : ℕ) → i < j → IsStuck ks i → IsStuck ks j → ⊥
no_later ks i j below p q =
    let inside : j ≤ length ks = q.within in
    p.stops.beyond (omega arith) (begins_less ks (i + 1) j (omega arith) inside q.stops.before)

pub stuck_once : (ks : List Tok) (i j : ℕ) → IsStuck ks i → IsStuck ks j → i ≡ j
stuck_once ks i j p q = elim (cases_order i j) [
  | inl same ↦ same
  | inr rest ↦ elim rest [ inl below ↦ absurd (no_later ks i j below p q) | inr above ↦ absurd (no_later ks j i above q p) ]
]

-- toks that are items are not stuck
pub stuck_or_spelled : (bytes : List ℕ) (ks : List Tok) (is : List ItemTree) (i : ℕ) → Program bytes ks is [] → IsStuck ks i → ⊥
stuck_or_spelled bytes ks is i p s = elim (cases_order i (length ks)) [
  | inl same ↦ s.stops.ended same (is_program p)
  | inr rest ↦ elim rest [
    | inl below ↦ s.stops.beyond below (begins_whole bytes ks is (i + 1) p)
    | inr above ↦ let w : i ≤ length ks = s.within in absurd (omega arith)
  ]
]
