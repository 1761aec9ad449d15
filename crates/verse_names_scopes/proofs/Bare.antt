-- What a bare name stands for in a method: a field, or else a method.
use Rattle.std.proofs.Common.{◌≡◌, ℕ, ◌+◌, Bool, true, false, cond, bytes_eq, [], ◌∷◌, Option, refl, ap, sym, ◌∙◌, subst, arith}
use Rattle.std.specs.Prelude.{Some, None}
use Rattle.std.proofs.lemmas.Slice.Eq.{bytes_eq-Decides}
use Rattle.verse_tree.specs.Tree.{Bytes}
use Rattle.verse_tree.specs.declared.tables.Ref.{Ref}
use Rattle.verse_tree.specs.declared.tables.Ref.TheVariants as ref
use Rattle.verse_names_tables.specs.Names.{Table, look, place, one_further, put, put_absent, keep, names}
use Rattle.verse_names_declarations.specs.Members.{Members, or_method, bare}
use Rattle.verse_names_scopes.specs.Visible.{with_methods, bare_table}

put_same : (x : Bytes) (r : Ref) (t : Table) → look x (put x r t) ≡ Some r
put_same x r [] = ap (λ b. cond b (Some r) None) ((bytes_eq-Decides x x).1 refl)
put_same x r (e ∷ t) = by (bytes_eq x e.0) refl (put_same x r t)
  where
    by : (b : Bool) → bytes_eq x e.0 ≡ b → look x (put x r t) ≡ Some r → look x (cond b ((e.0, r) ∷ t) (e ∷ put x r t)) ≡ Some r
    by true q h = ap (λ b. cond b (Some r) (look x t)) q
    by false q h = ap (λ b. cond b (Some e.1) (look x (put x r t))) q ∙ h

put_other : (x y : Bytes) (r : Ref) (t : Table) → bytes_eq x y ≡ false → look x (put y r t) ≡ look x t
put_other x y r [] h = ap (λ b. cond b (Some r) None) h
put_other x y r (e ∷ t) h = by (bytes_eq y e.0) refl (put_other x y r t h)
  where
    by : (b : Bool) → bytes_eq y e.0 ≡ b → look x (put y r t) ≡ look x t →
        look x (cond b ((e.0, r) ∷ t) (e ∷ put y r t)) ≡ cond (bytes_eq x e.0) (Some e.1) (look x t)
    by true q k =
        let other : bytes_eq x e.0 ≡ false = ap (bytes_eq x) (sym ((bytes_eq-Decides y e.0).0 q)) ∙ h in
        ap (λ b. cond b (Some r) (look x t)) other ∙ sym (ap (λ b. cond b (Some e.1) (look x t)) other)
    by false q k = ap (cond (bytes_eq x e.0) (Some e.1)) k

module _ (c : ℕ) (x : Bytes) where
  -- the place of a method, i further
  abbrev shifted : ℕ → Option ℕ → Option ℕ
  shifted i None = None
  shifted i (Some j) = Some (i + j)

  kept_same : (o : Option Ref) (i : ℕ) (t : Table) → look x t ≡ o → (p : Option ℕ) →
      or_method (look x (put_absent o x (ref.Method c i) t)) c p ≡ or_method o c (Some (i + 0))
  kept_same None i t h p = ap (λ q. or_method q c p) (put_same x (ref.Method c i) t) ∙
      ap (λ j. Some (ref.Method c j)) (let same : i ≡ i + 0 = omega arith in same)
  kept_same (Some r) i t h p = ap (λ q. or_method q c p) h

  kept_other : (y : Bytes) (o : Option Ref) (r : Ref) (t : Table) → bytes_eq x y ≡ false → look x (put_absent o y r t) ≡ look x t
  kept_other y None r t h = put_other x y r t h
  kept_other y (Some q) r t h = refl

  further : (i : ℕ) (o : Option ℕ) → shifted (i + 1) o ≡ shifted i (one_further o)
  further i None = refl
  further i (Some j) = ap Some (let same : (i + 1) + j ≡ i + (j + 1) = omega arith in same)

  all_methods : (i : ℕ) (es t : Table) → look x (with_methods c i (names es) t) ≡ or_method (look x t) c (shifted i (place x es))
  all_methods i [] t = by (look x t)
    where
      by : (o : Option Ref) → o ≡ or_method o c None
      by None = refl
      by (Some r) = refl
  all_methods i (e ∷ es) t = all_methods (i + 1) es (keep e.0 (ref.Method c i) t) ∙ by (bytes_eq x e.0) refl
    where
      by : (b : Bool) → bytes_eq x e.0 ≡ b →
          or_method (look x (keep e.0 (ref.Method c i) t)) c (shifted (i + 1) (place x es)) ≡
          or_method (look x t) c (shifted i (cond b (Some 0) (one_further (place x es))))
      by true q =
          let same : x ≡ e.0 = (bytes_eq-Decides x e.0).0 q in
          subst (λ y. or_method (look x (keep y (ref.Method c i) t)) c (shifted (i + 1) (place x es)) ≡
          or_method (look x t) c (Some (i + 0))) same (kept_same (look x t) i t refl (shifted (i + 1) (place x es)))
      by false q = ap (λ o. or_method o c (shifted (i + 1) (place x es))) (kept_other e.0 (look e.0 t) (ref.Method c i) t q) ∙
          ap (or_method (look x t) c) (further i (place x es))

  from_first : (o : Option ℕ) → shifted 0 o ≡ o
  from_first None = refl
  from_first (Some j) = ap Some (let same : 0 + j ≡ j = omega arith in same)

  pub bare_is : (m : Members) → bare x c m ≡ look x (bare_table c m)
  bare_is m = sym (all_methods 0 m.methods m.fields ∙ ap (or_method (look x m.fields) c) (from_first (place x m.methods)))
