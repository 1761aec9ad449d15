-- Files are loaded one after another: what was loaded and what is left are all.
use Rattle.std.proofs.Common.{◌≡◌, ℕ, zero, suc, ◌+◌, ◌<◌, ◌≤◌, List, [], ◌∷◌, ◌++◌, length, map, slice_index_or, refl, sym, ◌∙◌, ap}
use Rattle.std.proofs.Common.{subst, inl, inr, append_assoc, append-nil, arith}
use Rattle.verse_base.specs.declared.limits.TheConstants.{MOST_FILE_BYTES}
use Rattle.verse_outside.specs.Held.{Holding, Lacks, Loads}
use Rattle.verse_top.specs.Loading.{AreLoaded, IsAbsent, IsAmong, IsTooLarge, most_bytes}

module _ (held : Holding) (names : List (List ℕ)) where
  -- where the loop stands: at a name of a number, with the names that are left and the files that were loaded
  pub record LoadsOn (index number : ℕ) (rest loaded : List (List ℕ)) : Type 0 where
    pub at : number ≡ index
    pub all : (bs : List (List ℕ)) → AreLoaded held rest bs → AreLoaded held names (loaded ++ bs)
    pub large : (file : ℕ) → IsTooLarge held number rest file → IsTooLarge held 0 names file
    pub absent : (name : List ℕ) → IsAbsent held rest name → IsAbsent held names name

  pub loads_first : LoadsOn 0 0 names []
  loads_first = record { at = refl; all = λ bs x. x; large = λ file x. x; absent = λ name x. x }

  pub loads_next : (i n j m : ℕ) (rest more loaded longer : List (List ℕ)) (f b : List ℕ) → LoadsOn i n rest loaded → rest ≡ f ∷ more →
      longer ≡ loaded ++ b ∷ [] →
      j ≡ i + 1 → m ≡ n + 1 → Loads held f most_bytes b → length b ≤ MOST_FILE_BYTES → LoadsOn j m more longer
  loads_next i n j m rest more loaded longer f b x e g h k loads small =
      let at = x.at in
      let next : suc n ≡ m = omega arith in
      record {
        at = omega arith;
        all = λ bs y. subst (λ fs. AreLoaded held names fs) (sym (append_assoc loaded (b ∷ []) bs) ∙ ap (λ fs. fs ++ bs) (sym g))
            (x.all (b ∷ bs) (subst (λ r. AreLoaded held r (b ∷ bs)) (sym e) (loads, (small, y))));
        large = λ file y. x.large file (subst (λ r. IsTooLarge held n r file) (sym e)
            (b, (loads, inr (small, subst (λ o. IsTooLarge held o more file) (sym next) y))));
        absent = λ name y. x.absent name (subst (λ r. IsAbsent held r name) (sym e) (inr (b, (loads, (small, y)))));
      }

  pub loads_large : (i n : ℕ) (rest more loaded : List (List ℕ)) (f b : List ℕ) → LoadsOn i n rest loaded → rest ≡ f ∷ more →
      Loads held f most_bytes b →
      MOST_FILE_BYTES < length b → IsTooLarge held 0 names n
  loads_large i n rest more loaded f b x e loads big = x.large n (subst (λ r. IsTooLarge held n r n) (sym e) (b, (loads, inl (big, refl))))

  pub loads_absent : (i n : ℕ) (rest more loaded : List (List ℕ)) (f : List ℕ) → LoadsOn i n rest loaded → rest ≡ f ∷ more → Lacks held f →
      IsAbsent held names f
  loads_absent i n rest more loaded f x e lacks = x.absent f (subst (λ r. IsAbsent held r f) (sym e) (inl (lacks, refl)))

  pub loads_all : (i n : ℕ) (rest loaded : List (List ℕ)) → LoadsOn i n rest loaded → rest ≡ [] → AreLoaded held names loaded
  loads_all i n rest loaded x e = subst (λ fs. AreLoaded held names fs) (append-nil loaded)
      (x.all [] (subst (λ r. AreLoaded held r []) (sym e) tt))

pub name_at : {A : Type 0} (text : A → List ℕ) (words : List A) (i : ℕ) (d : A) → i < length words → d ≡ slice_index_or words i d →
    slice_index_or (map text words) i [] ≡ text d
name_at text [] i d low e = absurd (omega arith)
name_at text (w ∷ ws) zero d low e = ap text (sym e)
name_at text (w ∷ ws) (suc i) d low e = name_at text ws i d (omega arith) e

pub among_at : (names : List (List ℕ)) (i : ℕ) (name : List ℕ) → i < length names → slice_index_or names i [] ≡ name → IsAmong name names
among_at [] i name low e = absurd (omega arith)
among_at (n ∷ ns) zero name low e = inl (sym e)
among_at (n ∷ ns) (suc i) name low e = inr (among_at ns i name (omega arith) e)
