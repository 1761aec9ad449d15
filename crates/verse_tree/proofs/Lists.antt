-- The lists of a tree are numbered as lists.
use Rattle.std.proofs.Common.{◌≡◌, ℕ, ◌+◌, List, [], ◌∷◌, refl, ap}
use Rattle.verse_tree.specs.Tree.{Bytes, Written, more_writtens, Tree, more_trees, more_holes, more_pairs, more_givens}
use Rattle.verse_tree.specs.View.{writtens, trees, holes, pairs, givens}
use Rattle.verse_tree.specs.Numbering.{written_nodes, writtens_nodes, written_numbered, writtens_numbered, nodes, numbered, trees_nodes}
use Rattle.verse_tree.specs.Numbering.{trees_numbered, holes_nodes, holes_numbered, pairs_nodes, pairs_numbered, givens_nodes}
use Rattle.verse_tree.specs.Numbering.{givens_numbered, list_nodes, list_numbered}
use Rattle.verse_tree.specs.PartNumbering.{hole_nodes, hole_numbered, pair_nodes, pair_numbered, given_nodes, given_numbered}

pub writtens_nodes_listed : (xs : List Written) → writtens_nodes (writtens xs) ≡ list_nodes written_nodes xs
writtens_nodes_listed [] = refl
writtens_nodes_listed (x ∷ xs) = ap (λ k. written_nodes x + k) (writtens_nodes_listed xs)

pub writtens_listed : (xs : List Written) (next : ℕ) →
    writtens_numbered (writtens xs) next ≡ writtens (list_numbered written_numbered written_nodes xs next)
writtens_listed [] next = refl
writtens_listed (x ∷ xs) next = ap (more_writtens (written_numbered x next)) (writtens_listed xs (next + written_nodes x))

pub trees_nodes_listed : (xs : List Tree) → trees_nodes (trees xs) ≡ list_nodes nodes xs
trees_nodes_listed [] = refl
trees_nodes_listed (x ∷ xs) = ap (λ k. nodes x + k) (trees_nodes_listed xs)

pub trees_listed : (xs : List Tree) (next : ℕ) → trees_numbered (trees xs) next ≡ trees (list_numbered numbered nodes xs next)
trees_listed [] next = refl
trees_listed (x ∷ xs) next = ap (more_trees (numbered x next)) (trees_listed xs (next + nodes x))

pub holes_nodes_listed : (xs : List (Tree × Bytes)) → holes_nodes (holes xs) ≡ list_nodes hole_nodes xs
holes_nodes_listed [] = refl
holes_nodes_listed (x ∷ xs) = ap (λ k. hole_nodes x + k) (holes_nodes_listed xs)

pub holes_listed : (xs : List (Tree × Bytes)) (next : ℕ) →
    holes_numbered (holes xs) next ≡ holes (list_numbered hole_numbered hole_nodes xs next)
holes_listed [] next = refl
holes_listed (x ∷ xs) next = ap (more_holes (numbered x.0 next) x.1) (holes_listed xs (next + hole_nodes x))

pub pairs_nodes_listed : (xs : List (Tree × Tree)) → pairs_nodes (pairs xs) ≡ list_nodes pair_nodes xs
pairs_nodes_listed [] = refl
pairs_nodes_listed (x ∷ xs) = ap (λ k. pair_nodes x + k) (pairs_nodes_listed xs)

pub pairs_listed : (xs : List (Tree × Tree)) (next : ℕ) →
    pairs_numbered (pairs xs) next ≡ pairs (list_numbered pair_numbered pair_nodes xs next)
pairs_listed [] next = refl
pairs_listed (x ∷ xs) next = ap (more_pairs (numbered x.0 next) (numbered x.1 (next + nodes x.0))) (pairs_listed xs (next + pair_nodes x))

pub givens_nodes_listed : (xs : List (Bytes × Tree)) → givens_nodes (givens xs) ≡ list_nodes given_nodes xs
givens_nodes_listed [] = refl
givens_nodes_listed (x ∷ xs) = ap (λ k. given_nodes x + k) (givens_nodes_listed xs)

pub givens_listed : (xs : List (Bytes × Tree)) (next : ℕ) →
    givens_numbered (givens xs) next ≡ givens (list_numbered given_numbered given_nodes xs next)
givens_listed [] next = refl
givens_listed (x ∷ xs) next = ap (more_givens x.0 (numbered x.1 next)) (givens_listed xs (next + given_nodes x))
