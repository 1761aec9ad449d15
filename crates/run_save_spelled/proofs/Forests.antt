-- Tasks of trees, in another order.
use Rattle.std.proofs.Common.{◌≡◌, ℕ, ◌+◌, ◌<◌, List, [], ◌∷◌, ◌++◌, refl, sym, ap, subst, ◌∙◌, append_assoc, arith, ◌⊎◌, inl, inr}
use Rattle.std.proofs.lemmas.List.{append-nil}
use Rattle.verse_code_machine.specs.Tasks.{Task}
use Rattle.verse_code_machine.specs.Runs.{Forest}
use Rattle.run_save_shots.specs.Lists.{Each, Reordered, no_elements, one_more}
use Rattle.run_save_spelled.specs.Growing.{number_of, flat, In, first_in, later_in}

module _ {A : Type 0} where
  pub each_append : (P : A → Type 0) (xs ys : List A) → Each P xs → Each P ys → Each P (xs ++ ys)
  each_append P [] ys e f = f
  each_append P (x ∷ xs) ys e f = (e.0, each_append P xs ys e.1 f)

  pub each_parts : (P : A → Type 0) (xs ys : List A) → Each P (xs ++ ys) → Each P xs × Each P ys
  each_parts P [] ys e = (tt, e)
  each_parts P (x ∷ xs) ys e = let r = each_parts P xs ys e.1 in ((e.0, r.0), r.1)

  pub each_weaker : (P Q : A → Type 0) (xs : List A) → ((x : A) → P x → Q x) → Each P xs → Each Q xs
  each_weaker P Q [] f e = tt
  each_weaker P Q (x ∷ xs) f e = (f x e.0, each_weaker P Q xs f e.1)

  pub each_in : (P : A → Type 0) (x : A) (xs : List A) → Each P xs → In x xs → P x
  each_in P x xs e first_in = e.0
  each_in P x xs e (later_in {xs = ys} y i) = each_in P x ys e.1 i

  pub in_left : (x : A) (xs ys : List A) → In x xs → In x (xs ++ ys)
  in_left x xs ys first_in = first_in
  in_left x xs ys (later_in {xs = zs} z i) = later_in z (in_left x zs ys i)

  pub in_right : (x : A) (xs ys : List A) → In x ys → In x (xs ++ ys)
  in_right x [] ys i = i
  in_right x (z ∷ xs) ys i = later_in z (in_right x xs ys i)

  pub in_parts : (x : A) (xs ys : List A) → In x (xs ++ ys) → In x xs ⊎ In x ys
  in_parts x [] ys i = inr i
  in_parts x (z ∷ xs) ys first_in = inl first_in
  in_parts x (z ∷ xs) ys (later_in y i) = elim (in_parts x xs ys i) [ inl j ↦ inl (later_in z j) | inr j ↦ inr j ]

  pub record Split (x : A) (xs : List A) : Type 0 where
    pub before : List A
    pub behind : List A
    pub is : xs ≡ before ++ x ∷ behind

  pub split : (x : A) (xs : List A) → In x xs → Split x xs
  split x xs (first_in {xs = ys}) = record { before = []; behind = ys; is = refl }
  split x xs (later_in {xs = ys} y i) =
      let r = split x ys i in record { before = y ∷ r.before; behind = r.behind; is = ap (λ w. y ∷ w) r.is }

  pub reordered_in : (x : A) (xs zs : List A) → Reordered xs zs → In x xs → In x zs
  reordered_in x xs zs no_elements i = i
  reordered_in x xs zs (one_more {xs = ys} front back e r) first_in = subst (λ w. In x w) (sym e) (in_right x front (x ∷ back) first_in)
  reordered_in x xs zs (one_more {x = y} {xs = ys} front back e r) (later_in z i) =
      subst (λ w. In x w) (sym e) (elim (in_parts x front back (reordered_in x ys (front ++ back) r i)) [
        | inl j ↦ in_left x front (y ∷ back) j
        | inr j ↦ in_right x front (y ∷ back) (later_in y j)
      ])

  pub reordered_each : (P : A → Type 0) (xs zs : List A) → Reordered xs zs → Each P xs → Each P zs
  reordered_each P xs zs no_elements e = tt
  reordered_each P xs zs (one_more {x = x} {xs = ys} front back e r) ps =
      let parts = each_parts P front back (reordered_each P ys (front ++ back) r ps.1) in
      subst (λ w. Each P w) (sym e) (each_append P front (x ∷ back) parts.0 (ps.0, parts.1))

  pub reordered_sum : (f : A → ℕ) (sum : List A → ℕ) → (sum [] ≡ 0) → ((x : A) (xs : List A) → sum (x ∷ xs) ≡ f x + sum xs) →
      (xs zs : List A) → Reordered xs zs → sum xs ≡ sum zs
  reordered_sum f sum none step xs zs no_elements = refl
  reordered_sum f sum none step xs zs (one_more {x = x} {xs = ys} front back e r) =
      step x ys ∙ (ap (λ n. f x + n) (reordered_sum f sum none step ys (front ++ back) r) ∙ (between front ∙ ap sum (sym e)))
    where
      between : (front : List A) → f x + sum (front ++ back) ≡ sum (front ++ x ∷ back)
      between [] = sym (step x back)
      between (z ∷ front) = omega (arith, step z (front ++ back), step z (front ++ x ∷ back), between front)

-- ---- no number stands twice

abbrev pub AllApart : List Task → Type 0
AllApart [] = Unit {0}
AllApart (x ∷ xs) = Each (λ z. number_of z ≡ number_of x → ⊥) xs × AllApart xs

pub apart_around : (xs : List Task) (x : Task) (ys : List Task) → AllApart (xs ++ x ∷ ys) →
    Each (λ z. number_of z ≡ number_of x → ⊥) xs × Each (λ z. number_of z ≡ number_of x → ⊥) ys
apart_around [] x ys a = (tt, a.0)
apart_around (z ∷ xs) x ys a =
    let r = apart_around xs x ys a.1 in
    let here = (each_parts (λ u. number_of u ≡ number_of z → ⊥) xs (x ∷ ys) a.0).1.0 in
    (((λ e. here (sym e)), r.0), r.1)

apart_more : (xs : List Task) (x : Task) (ys : List Task) → AllApart (xs ++ ys) →
    Each (λ z. number_of z ≡ number_of x → ⊥) (xs ++ ys) → AllApart (xs ++ x ∷ ys)
apart_more [] x ys a e = (e, a)
apart_more (z ∷ xs) x ys a e =
    let parts = each_parts (λ u. number_of u ≡ number_of z → ⊥) xs ys a.0 in
    (each_append (λ u. number_of u ≡ number_of z → ⊥) xs (x ∷ ys) parts.0 ((λ f. e.0 (sym f)), parts.1), apart_more xs x ys a.1 e.1)

pub reordered_apart : (xs zs : List Task) → Reordered xs zs → AllApart xs → AllApart zs
reordered_apart xs zs no_elements a = tt
reordered_apart xs zs (one_more {x = x} {xs = ys} front back e r) a =
    subst (λ w. AllApart w) (sym e) (apart_more front x back (reordered_apart ys (front ++ back) r a.1)
    (reordered_each (λ z. number_of z ≡ number_of x → ⊥) ys (front ++ back) r a.0))

-- ---- trees

pub flat_append : (xss yss : Forest) → flat (xss ++ yss) ≡ flat xss ++ flat yss
flat_append [] yss = refl
flat_append (ts ∷ xss) yss = ap (λ w. ts ++ w) (flat_append xss yss) ∙ sym (append_assoc ts (flat xss) (flat yss))

pub flat_around : (front : Forest) (before behind : List Task) (back : Forest) →
    flat (front ++ (before ++ behind) ∷ back) ≡ (flat front ++ before) ++ (behind ++ flat back)
flat_around front before behind back =
    flat_append front ((before ++ behind) ∷ back) ∙
    (ap (λ w. flat front ++ w) (append_assoc before behind (flat back)) ∙ sym (append_assoc (flat front) before (behind ++ flat back)))

pub flat_last : (tss : Forest) (y : Task) → flat (tss ++ (y ∷ []) ∷ []) ≡ flat tss ++ y ∷ []
flat_last tss y = flat_append tss ((y ∷ []) ∷ [])

pub record Placed (x : Task) (tss : Forest) : Type 0 where
  pub front : Forest
  pub before : List Task
  pub behind : List Task
  pub back : Forest
  pub is : tss ≡ front ++ (before ++ x ∷ behind) ∷ back

pub placed : (x : Task) (tss : Forest) → In x (flat tss) → Placed x tss
placed x (ts ∷ tss) i = elim (in_parts x ts (flat tss) i) [
  | inl j ↦
      let r = split x ts j in
      record { front = []; before = r.before; behind = r.behind; back = tss; is = ap (λ w. w ∷ tss) r.is }
  | inr j ↦
      let r = placed x tss j in
      record { front = ts ∷ r.front; before = r.before; behind = r.behind; back = r.back; is = ap (λ w. ts ∷ w) r.is }
]
placed x [] i = absurd (none i)
  where
    none : In x [] → ⊥
    none r = elim r [ ]
