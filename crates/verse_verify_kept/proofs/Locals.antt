-- Locals that are written and read.
use Rattle.std.proofs.Common.{◌≡◌, ℕ, zero, suc, List, ◌∷◌, ◌++◌, Option, Some, None, refl, sym, subst, ap}
use Rattle.std.proofs.lemmas.Option.{same_Some, none-some}
use Rattle.verse_value.specs.Val.{Val}
use Rattle.verse_meaning_state.specs.Waits.{nth}
use Rattle.verse_code_machine.specs.Frames.{put, behind, units}
use Rattle.verse_sorts.specs.Sorts as s
use Rattle.verse_sorts.specs.Sorts.{Sort, Fits}
use Rattle.verse_sorts.specs.Typing.{at, Typing, Is, is_none, Are, are_no, are_so}
use Rattle.verse_verify_kept.specs.Rules.{nones}

module _ (up : ℕ → Option ℕ) (t : Typing) where
  pub data Got (vs : List Val) (l : ℕ) (a : Sort) : Type 0 where
    got : {v : Val} → nth vs l ≡ Some v → Is up t v a → Got vs l a

  pub gets : {vs : List Val} {xs : List Sort} {a : Sort} (l : ℕ) → Are up t vs xs → at xs l ≡ Some a → Got vs l a
  gets l are_no e = elim (none-some _ e) [ ]
  gets zero (are_so {w = w} i r) e = got refl (subst (Is up t w) (same_Some _ _ e) i)
  gets (suc l) (are_so {w = w} {vs = vs} i r) e = more (gets l r e)
    where
      more : {a : Sort} → Got vs l a → Got (w ∷ vs) (suc l) a
      more (got e i) = got e i

  -- a value of a sort is put
  pub data Put (vs : List Val) (l : ℕ) (v : Val) (xs : List Sort) : Type 0 where
    puts : {ws : List Val} → put vs l v ≡ Some ws → Are up t ws xs → Put vs l v xs

  pub put_there : {vs : List Val} {xs ys : List Sort} {v : Val} {a : Sort} (l : ℕ) → Are up t vs xs → put xs l a ≡ Some ys → Is up t v a →
      Put vs l v ys
  put_there l are_no e i = elim (none-some _ e) [ ]
  put_there {v = v} zero (are_so {vs = vs} j r) e i = puts refl (subst (Are up t (v ∷ vs)) (same_Some _ _ e) (are_so i r))
  put_there {v = v} {a = a} (suc l) (are_so {w = w} {vs = vs} {a = b} {xs = xs} j r) e i = go (put xs l a) (λ zs f. put_there l r f i) e
    where
      more : {zs : List Sort} → Put vs l v zs → Put (w ∷ vs) (suc l) v (b ∷ zs)
      more (puts g k) = puts (ap (behind w) g) (are_so j k)

      go : {ys : List Sort} (m : Option (List Sort)) → ((zs : List Sort) → m ≡ Some zs → Put vs l v zs) → behind b m ≡ Some ys →
          Put (w ∷ vs) (suc l) v ys
      go None f e = elim (none-some _ e) [ ]
      go (Some zs) f e = subst (Put (w ∷ vs) (suc l) v) (same_Some _ _ e) (more (f zs refl))

  -- where nothing is asked of it
  pub put_anything : {vs ws : List Val} {xs : List Sort} (v : Val) (l : ℕ) → Are up t vs xs → put vs l v ≡ Some ws →
      ((a : Sort) → at xs l ≡ Some a → a ≡ s.none) → Are up t ws xs
  put_anything v l are_no e h = elim (none-some _ e) [ ]
  put_anything v zero (are_so {vs = vs} {a = a} {xs = xs} i r) e h =
      subst (λ ws. Are up t ws (a ∷ xs)) (same_Some _ _ e) (subst (λ a. Are up t (v ∷ vs) (a ∷ xs)) (sym (h a refl)) (are_so is_none r))
  put_anything v (suc l) (are_so {w = w} {vs = vs} {a = a} {xs = xs} i r) e h = go (put vs l v) (λ zs f. put_anything v l r f h) e
    where
      go : {ws : List Val} (m : Option (List Val)) → ((zs : List Val) → m ≡ Some zs → Are up t zs xs) → behind w m ≡ Some ws →
          Are up t ws (a ∷ xs)
      go None f e = elim (none-some _ e) [ ]
      go (Some zs) f e = subst (λ ws. Are up t ws (a ∷ xs)) (same_Some _ _ e) (are_so i (f zs refl))

  pub units_are : (k : ℕ) → Are up t (units k) (nones k)
  units_are zero = are_no
  units_are (suc k) = are_so is_none (units_are k)

  pub joined_are : {vs ws : List Val} {xs ys : List Sort} → Are up t vs xs → Are up t ws ys → Are up t (vs ++ ws) (xs ++ ys)
  joined_are are_no b = b
  joined_are (are_so i r) b = are_so i (joined_are r b)
