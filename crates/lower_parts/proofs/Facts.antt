-- Scopes that have grown, texts that are there, and lists from a place on.
use denote.Ref.{Bor}
use Rattle.std.proofs.Common.{[], refl, ◌≡◌, ◌∷◌, ap, ◌∙◌, length, ◌≢◌, true, false, ℕ, List, map, drop}
use Rattle.verse_tree.specs.Tree as t
use Rattle.verse_tree.specs.Tree.{Bytes, Givens, Holes}
use Rattle.verse_tree.specs.ItemTree.{FieldTree}
use Rattle.verse_tree.specs.declared.items.Field.{Field}
use Rattle.verse_tree.specs.View.{given_of, givens, hole_of, holes, pair_of, pairs}
use Rattle.verse_tree.specs.declared.exprs.Given.{Given}
use Rattle.verse_tree.specs.declared.exprs.Hole.{Hole}
use Rattle.verse_tree.specs.declared.exprs.Pair.{Pair}
use Rattle.lower_code.specs.Scopes.{Scope, hidden}
use Rattle.lower_code.specs.Lowering.{is_text}
use Rattle.lower_expr.specs.Locals.{cut_to}
use Rattle.lower_expr.proofs.Scoping.{cut_back}
use Rattle.lower_declared.specs.Views.{field_now}
use Rattle.lower_parts.specs.Parts.{Grown}

pub grown_none : (sc : Scope) → Grown sc sc
grown_none sc = ([], refl)

pub grown_more : (sc here new : Scope) → Grown sc here → new ≡ hidden ∷ here → Grown sc new
grown_more sc here new g e = (hidden ∷ g.0, e ∙ ap (λ k. hidden ∷ k) g.1)

pub grown_cut : (sc new : Scope) → Grown sc new → cut_to (length sc) new ≡ sc
grown_cut sc new g = ap (cut_to (length sc)) g.1 ∙ cut_back g.0 sc

pub some_text : (bs : Bytes) → bs ≢ [] → is_text bs ≡ true
some_text [] h = absurd (h refl)
some_text (b ∷ bs) h = refl

pub none_text : (bs : Bytes) → bs ≡ [] → is_text bs ≡ false
none_text bs h = ap is_text h

abbrev pub left_fields : List (Bor Field) → ℕ → List FieldTree
left_fields xs i = map field_now (drop i xs)

abbrev pub left_givens : List Given → ℕ → Givens
left_givens xs i = givens (map given_of (drop i xs))

abbrev pub left_holes : List Hole → ℕ → Holes
left_holes xs i = holes (map hole_of (drop i xs))

abbrev pub left_pairs : List Pair → ℕ → t.Pairs
left_pairs xs i = pairs (map pair_of (drop i xs))
