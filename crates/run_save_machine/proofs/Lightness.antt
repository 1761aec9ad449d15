-- Cells that are light are few.
use Rattle.std.proofs.Common.{◌≡◌, ℕ, suc, ◌+◌, ◌<◌, List, [], ◌∷◌, ◌++◌, length, map, reverse, refl, sym, ap, subst, ◌∙◌, arith}
use Rattle.std.proofs.lemmas.List.{length-append, reverse-append, append_assoc}
use Rattle.verse_value.specs.declared.runs.CellKind.{CellKind}
use Rattle.verse_value.specs.declared.values.Value.{Value}
use Rattle.verse_value.specs.Store.{Cell, Store, store_weight, with_cell}
use Rattle.std.specs.Global.{Vec}
use Rattle.verse_cells.proofs.Weights.{length_store_weight}
use Rattle.tx_heap.specs.State.{IsLight}
use Rattle.run_save_shots.specs.View.{cell_of}

pub few : (cells : Store) (c : Cell) → IsLight (with_cell cells c) → length cells < 4294967295
few cells c light = omega (arith, light, length_store_weight (with_cell cells c), length-append cells (c ∷ []))

weight_append : (xs ys : Store) → store_weight (xs ++ ys) ≡ store_weight xs + store_weight ys
weight_append [] ys = omega arith
weight_append (x ∷ xs) ys = omega (arith, weight_append xs ys)

-- the cell that comes next
next : (cells rest : List (CellKind × Vec Value)) (c : CellKind × Vec Value) (done all : Store) → cells ≡ rest ++ c ∷ [] →
    done ++ map cell_of (reverse cells) ≡ all → with_cell done (cell_of c) ++ map cell_of (reverse rest) ≡ all
next cells rest c done all e so_far =
    append_assoc done (cell_of c ∷ []) (map cell_of (reverse rest)) ∙
    (ap (λ xs. done ++ map cell_of xs) (sym (ap reverse e ∙ reverse-append rest (c ∷ []))) ∙ so_far)

light : (done rest all : Store) → done ++ rest ≡ all → IsLight all → IsLight done
light done rest all e l = omega (arith, l, weight_append done rest, ap store_weight e)

-- and the cells with it are light
pub light_next : (cells rest : List (CellKind × Vec Value)) (c : CellKind × Vec Value) (done all : Store) → cells ≡ rest ++ c ∷ [] →
    done ++ map cell_of (reverse cells) ≡ all → IsLight all → IsLight (with_cell done (cell_of c))
light_next cells rest c done all e so_far l =
    light (with_cell done (cell_of c)) (map cell_of (reverse rest)) all (next cells rest c done all e so_far) l
