-- Plain lists.
use Rattle.std.proofs.Common.{◌≡◌, List, [], ◌∷◌, ◌++◌, refl, sym, ap, ◌∙◌, map}
use Rattle.verse_code_machine.specs.Tasks as m
use Rattle.task_tree.specs.Tasks.{Task}
use Rattle.vm_tasks_laws.specs.Slots.{slept}

abbrev pub Each : {A : Type 0} → (A → Type 0) → List A → Type 0
Each P [] = Unit {0}
Each P (x ∷ xs) = P x × Each P xs

module _ {A : Type 0} where
  pub each_append : (P : A → Type 0) (a b : List A) → Each P a → Each P b → Each P (a ++ b)
  each_append P [] b e f = f
  each_append P (x ∷ xs) b e f = (e.0, each_append P xs b e.1 f)

  pub each_parts : (P : A → Type 0) (a b : List A) → Each P (a ++ b) → Each P a × Each P b
  each_parts P [] b e = (tt, e)
  each_parts P (x ∷ xs) b e = let r = each_parts P xs b e.1 in ((e.0, r.0), r.1)

  pub each_weaker : (P Q : A → Type 0) (xs : List A) → ((x : A) → P x → Q x) → Each P xs → Each Q xs
  each_weaker P Q [] f e = tt
  each_weaker P Q (x ∷ xs) f e = (f x e.0, each_weaker P Q xs f e.1)

  pub no_split : (front : List A) (x : A) (back : List A) → [] ≡ front ++ x ∷ back → ⊥
  no_split [] x back e = absurd (cc)
  no_split (y ∷ ys) x back e = absurd (cc)

  -- where an element of two lists with one between them stands
  pub data Cut (a : List A) (y : A) (b front : List A) (x : A) (back : List A) : Type 0 where
    in_first : (m : List A) → a ≡ front ++ x ∷ m → back ≡ m ++ y ∷ b → Cut a y b front x back
    between : a ≡ front → y ≡ x → b ≡ back → Cut a y b front x back
    in_second : (m : List A) → front ≡ a ++ y ∷ m → b ≡ m ++ x ∷ back → Cut a y b front x back

  pub cut : (a : List A) (y : A) (b front : List A) (x : A) (back : List A) → a ++ y ∷ b ≡ front ++ x ∷ back → Cut a y b front x back
  cut [] y b [] x back e = between refl (cc) (cc)
  cut [] y b (z ∷ zs) x back e = let same : y ≡ z = cc in let tails : b ≡ zs ++ x ∷ back = cc in
      in_second zs (ap (λ w. w ∷ zs) (sym same)) tails
  cut (u ∷ us) y b [] x back e = let same : u ≡ x = cc in let tails : us ++ y ∷ b ≡ back = cc in
      in_first us (ap (λ w. w ∷ us) same) (sym tails)
  cut (u ∷ us) y b (z ∷ zs) x back e =
      let same : u ≡ z = cc in
      let tails : us ++ y ∷ b ≡ zs ++ x ∷ back = cc in
      elim (cut us y b zs x back tails) [
        | in_first m p q ↦ in_first m (ap (λ w. w ∷ us) same ∙ ap (λ w. z ∷ w) p) q
        | between p q r ↦ between (ap (λ w. w ∷ us) same ∙ ap (λ w. z ∷ w) p) q r
        | in_second m p q ↦ in_second m (ap (λ w. z ∷ w) p ∙ ap (λ w. w ∷ (us ++ y ∷ m)) (sym same)) q
      ]

pub map_parts : (a : List m.Task) (y : m.Task) (b : List m.Task) → map slept (a ++ y ∷ b) ≡ map slept a ++ slept y ∷ map slept b
map_parts [] y b = refl
map_parts (x ∷ a) y b = ap (λ w. slept x ∷ w) (map_parts a y b)
