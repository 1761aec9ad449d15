-- A list through a view of its members, from the i-th on.
use Rattle.std.proofs.Common.{◌≡◌, ℕ, ◌+◌, ◌<◌, ◌≤◌, List, [], ◌∷◌, length, map, drop, get_or, sym, ap, ◌∙◌}
use Rattle.std.proofs.lemmas.List.{at_drop_more, at_drop_all}

module _ {A B : Type 0} (view : A → B) (xs : List A) (i : ℕ) where
  pub seen_next : (x : A) → i < length xs → x ≡ get_or xs i x →
      map view (drop i xs) ≡ view x ∷ map view (drop (i + 1) xs)
  seen_next x h e = at_drop_more (map view) xs i x h ∙ ap (λ k. view k ∷ map view (drop (i + 1) xs)) (sym e)

  pub seen_none : length xs ≤ i → map view (drop i xs) ≡ []
  seen_none h = at_drop_all (map view) xs i h
