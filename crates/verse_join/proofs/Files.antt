-- Groups of items are numbered one after the other.
use Rattle.std.proofs.Common.{◌≡◌, ℕ, ◌+◌, ◌<◌, ◌≤◌, List, [], ◌∷◌, ◌++◌, map, length, get_or, drop, drop-cons, add-one, sym, ap, ◌∙◌}
use Rattle.std.proofs.Common.{append_assoc, arith}
use Rattle.std.specs.List.{flat_map}
use Rattle.std.proofs.lemmas.List.{map-append}
use Rattle.std.proofs.lemmas.List.Concat.{flat_map-cons}
use Rattle.verse_tree.specs.Numbering.{list_numbered, list_nodes}

list_nodes-append : {Y : Type 0} (size : Y → ℕ) (xs ys : List Y) → list_nodes size (xs ++ ys) ≡ list_nodes size xs + list_nodes size ys
list_nodes-append size [] ys = omega arith
list_nodes-append size (x ∷ xs) ys = let h : list_nodes size (xs ++ ys) ≡ list_nodes size xs + list_nodes size ys =
    list_nodes-append size xs ys in omega (arith, h)

list_numbered-append : {Y : Type 0} (step : Y → ℕ → Y) (size : Y → ℕ) (xs ys : List Y) (at : ℕ) →
    list_numbered step size (xs ++ ys) at ≡ list_numbered step size xs at ++ list_numbered step size ys (at + list_nodes size xs)
list_numbered-append step size [] ys at = let e : at ≡ at + 0 = omega arith in ap (list_numbered step size ys) e
list_numbered-append step size (x ∷ xs) ys at =
    let e : (at + size x) + list_nodes size xs ≡ at + (size x + list_nodes size xs) = omega arith in
    ap (λ l. step x at ∷ l) (list_numbered-append step size xs ys (at + size x) ∙
    ap (λ k. list_numbered step size xs (at + size x) ++ list_numbered step size ys k) e)

-- the group at `i`, with the items `ys`, is the first of those that are left
module _ {F Y : Type 0} (h : F → List Y) (files : List F) (i : ℕ) (file : F) (ys : List Y) (is : file ≡ get_or files i file)
    (within : i < length files) (given : ys ≡ h file) where
  first_left : flat_map h (drop i files) ≡ ys ++ flat_map h (drop (i + 1) files)
  first_left =
      let e : drop i files ≡ get_or files i file ∷ drop (i + 1) files = rw (add-one, drop-cons files i file) in
      let f : drop i files ≡ file ∷ drop (i + 1) files = e ∙ ap (λ x. x ∷ drop (i + 1) files) (sym is) in
      ap (flat_map h) f ∙ flat_map-cons h file (drop (i + 1) files) ∙ ap (λ l. l ++ flat_map h (drop (i + 1) files)) (sym given)

  module _ (size : Y → ℕ) (at : ℕ) where
    first_nodes : list_nodes size (flat_map h (drop i files)) ≡ list_nodes size ys + list_nodes size (flat_map h (drop (i + 1) files))
    first_nodes = ap (list_nodes size) first_left ∙ list_nodes-append size ys (flat_map h (drop (i + 1) files))

    pub group_fits : (total limit : ℕ) → at + list_nodes size (flat_map h (drop i files)) ≡ total → total ≤ limit →
        at + list_nodes size ys ≤ limit
    group_fits total limit e f = let s = first_nodes in omega (arith, s)

    pub more_nodes : (behind : ℕ) → behind ≡ at + list_nodes size ys → behind + list_nodes size (flat_map h (drop (i + 1) files)) ≡
        at + list_nodes size (flat_map h (drop i files))
    more_nodes behind e = let s = first_nodes in omega (arith, s)

    module _ {X : Type 0} (g : X → Y) (step : Y → ℕ → Y) (done new more : List X) (behind : ℕ) where
      pub more_done : new ≡ done ++ more → map g more ≡ list_numbered step size ys at → behind ≡ at + list_nodes size ys →
          map g new ++ list_numbered step size (flat_map h (drop (i + 1) files)) behind ≡ map g done ++
          list_numbered step size (flat_map h (drop i files)) at
      more_done n s f =
          let m : map g new ≡ map g done ++ map g more = ap (map g) n ∙ map-append g done more in
          let a : map g new ++ list_numbered step size (flat_map h (drop (i + 1) files)) behind ≡ map g done ++
          (map g more ++ list_numbered step size (flat_map h (drop (i + 1) files)) behind) =
          ap (λ l. l ++ list_numbered step size (flat_map h (drop (i + 1) files)) behind) m ∙
          append_assoc (map g done) (map g more) _ in
          let b : list_numbered step size (flat_map h (drop i files)) at ≡ list_numbered step size ys at ++
          list_numbered step size (flat_map h (drop (i + 1) files)) (at + list_nodes size ys) =
          ap (λ l. list_numbered step size l at) first_left ∙ list_numbered-append step size ys (flat_map h (drop (i + 1) files)) at in
          cc
