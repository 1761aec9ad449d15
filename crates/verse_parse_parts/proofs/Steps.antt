-- One more of a list is read.
use Rattle.std.proofs.Common.{◌≡◌, ℕ, ◌≤◌, List, [], ◌∷◌, ◌++◌, length, map, ap, arith}
use Rattle.verse_base.proofs.Facts.{map_last}
use Rattle.verse_lex.specs.declared.tokens.Mark.TheVariants as m
use Rattle.verse_layout.specs.declared.toks.Tok.{Tok}
use Rattle.verse_tree.specs.ItemView.{spec_of}
use Rattle.verse_tree.specs.declared.items.Spec.{Spec}
use Rattle.verse_grammar.specs.Toks.{mark, name, name_at}
use Rattle.verse_grammar.specs.Items.{Specs, more_specs}
use Rattle.verse_grammar.specs.Symbols as rules_of
use Rattle.verse_grammar.specs.Loops.{Goes}
use Rattle.verse_grammar.proofs.GoingItems.{goes_specs_at}

pub spec_read : (b : List ℕ) (ks rest r1 r2 r3 : List Tok) (o n c : Tok) (xs ys : List Spec) (x : Spec) (v : List ℕ) →
    Specs b ks (map spec_of xs) rest → rest ≡ o ∷ r1 → o.kind ≡ mark m.Below → r1 ≡ n ∷ r2 → n.kind ≡ name →
    r2 ≡ c ∷ r3 → c.kind ≡ mark m.Above → spec_of x ≡ record { place = n.place; name = v } → v ≡ name_at b n → ys ≡ xs ++ x ∷ [] →
    Specs b ks (map spec_of ys) r3
spec_read b ks rest r1 r2 r3 o n c xs ys x v s e1 h1 e2 h2 e3 h3 made is e =
    let t : Specs b ks (map spec_of xs) (o ∷ n ∷ c ∷ r3) = rw (← e3) (rw (← e2) (rw (← e1) s)) in
    rw (e, map_last spec_of xs x, made, is) (more_specs t h1 h2 h3)

pub spec_goes : (ks rest r1 r2 r3 : List Tok) (o n c : Tok) → Goes rules_of.specs ks rest → rest ≡ o ∷ r1 → o.kind ≡ mark m.Below →
    r1 ≡ n ∷ r2 → n.kind ≡ name → r2 ≡ c ∷ r3 → c.kind ≡ mark m.Above → Goes rules_of.specs ks r3
spec_goes ks rest r1 r2 r3 o n c g e1 h1 e2 h2 e3 h3 =
    let t : Goes rules_of.specs ks (o ∷ n ∷ c ∷ r3) = rw (← e3) (rw (← e2) (rw (← e1) g)) in
    goes_specs_at o n c ks r3 t h1 h2 h3

pub spec_shorter : (ks rest r1 r2 r3 : List Tok) (o n c : Tok) → length rest ≤ length ks → rest ≡ o ∷ r1 → r1 ≡ n ∷ r2 → r2 ≡ c ∷ r3 →
    length r3 ≤ length ks
spec_shorter ks rest r1 r2 r3 o n c h e1 e2 e3 = omega (arith, ap length e1, ap length e2, ap length e3)
