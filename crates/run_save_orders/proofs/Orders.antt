-- Lists in another order.
use Rattle.std.proofs.Common.{◌≡◌, List, [], ◌∷◌, ◌++◌, length, refl, sym, subst, ap, ◌∙◌, append_assoc, length-append, arith}
use Rattle.verse_code_machine.specs.Tasks.{Task}
use Rattle.verse_code_machine.specs.Runs.{Forest}
use Rattle.run_save_shots.specs.Lists.{Reordered, no_elements, one_more}
use Rattle.run_save_kept.specs.Growing.{filled}

head_is : {A : Type 0} {i j : A} {p q : List A} → i ∷ p ≡ j ∷ q → i ≡ j
head_is e = cc

tail_is : {A : Type 0} {i j : A} {p q : List A} → i ∷ p ≡ j ∷ q → p ≡ q
tail_is e = cc

both_are : {A : Type 0} {i j : A} {p q : List A} → i ≡ j → p ≡ q → i ∷ p ≡ j ∷ q
both_are e f = cc

pub none_is : {A B : Type 0} (a : List A) (x : A) (b : List A) → [] ≡ a ++ x ∷ b → B
none_is [] x b e = cc
none_is (i ∷ a) x b e = cc

module _ {A : Type 0} where
  -- an element stands in the first part or in the second
  pub data Place (c d front : List A) (y : A) (back : List A) : Type 0 where
    first : (rest : List A) → c ≡ front ++ y ∷ rest → back ≡ rest ++ d → Place c d front y back
    second : (rest : List A) → d ≡ rest ++ y ∷ back → front ≡ c ++ rest → Place c d front y back

  place : (c d front : List A) (y : A) (back : List A) → c ++ d ≡ front ++ y ∷ back → Place c d front y back
  place [] d front y back e = second front e refl
  place (x ∷ c) d [] y back e = first c (both_are (head_is e) refl) (sym (tail_is e))
  place (x ∷ c) d (z ∷ front) y back e = onwards (head_is e) (place c d front y back (tail_is e))
    where
      onwards : x ≡ z → Place c d front y back → Place (x ∷ c) d (z ∷ front) y back
      onwards h (first rest f g) = first rest (both_are h f) g
      onwards h (second rest f g) = second rest f (both_are (sym h) g)

  -- one element and the others
  pub record Taken (x : A) (xs zs : List A) : Type 0 where
    pub front : List A
    pub back : List A
    pub is : zs ≡ front ++ x ∷ back
    pub rest : Reordered xs (front ++ back)

  pub taken : {x : A} {xs zs : List A} → Reordered (x ∷ xs) zs → Taken x xs zs
  taken (one_more front back e r) = record { front = front; back = back; is = e; rest = r }

  -- with one element more
  pub insert : (x : A) (a b c d : List A) → Reordered (a ++ b) (c ++ d) → Reordered (a ++ x ∷ b) (c ++ x ∷ d)
  insert x [] b c d r = one_more c d refl r
  insert x (y ∷ a) b c d r = by_place (λ c d r. insert x a b c d r) (taken r)
    where
      by_place : ((c d : List A) → Reordered (a ++ b) (c ++ d) → Reordered (a ++ x ∷ b) (c ++ x ∷ d)) → Taken y (a ++ b) (c ++ d) →
          Reordered (y ∷ (a ++ x ∷ b)) (c ++ x ∷ d)
      by_place more t = at (place c d t.front y t.back t.is)
        where
          at : Place c d t.front y t.back → Reordered (y ∷ (a ++ x ∷ b)) (c ++ x ∷ d)
          at (first rest e f) = one_more t.front (rest ++ x ∷ d) (ap (λ w. w ++ x ∷ d) e ∙ append_assoc t.front (y ∷ rest) (x ∷ d))
              (subst (λ w. Reordered (a ++ x ∷ b) w) (append_assoc t.front rest (x ∷ d)) (more (t.front ++ rest) d
              (subst (λ w. Reordered (a ++ b) w) (ap (λ w. t.front ++ w) f ∙ sym (append_assoc t.front rest d)) t.rest)))
          at (second rest e f) = one_more (c ++ x ∷ rest) t.back (ap (λ w. c ++ x ∷ w) e ∙ sym (append_assoc c (x ∷ rest) (y ∷ t.back)))
              (subst (λ w. Reordered (a ++ x ∷ b) w) (sym (append_assoc c (x ∷ rest) t.back)) (more c (rest ++ t.back)
              (subst (λ w. Reordered (a ++ b) w) (ap (λ w. w ++ t.back) f ∙ append_assoc c rest t.back) t.rest)))

  -- without one
  pub extract : (x : A) (a b zs : List A) → Reordered (a ++ x ∷ b) zs → Taken x (a ++ b) zs
  extract x [] b zs r = taken r
  extract x (y ∷ a) b zs r = by_place (λ zs r. extract x a b zs r) (taken r)
    where
      by_place : ((zs : List A) → Reordered (a ++ x ∷ b) zs → Taken x (a ++ b) zs) → Taken y (a ++ x ∷ b) zs → Taken x (y ∷ (a ++ b)) zs
      by_place less t = further (less (t.front ++ t.back) t.rest)
        where
          further : Taken x (a ++ b) (t.front ++ t.back) → Taken x (y ∷ (a ++ b)) zs
          further v = at (place t.front t.back v.front x v.back v.is)
            where
              at : Place t.front t.back v.front x v.back → Taken x (y ∷ (a ++ b)) zs
              at (first rest e f) = record {
                front = v.front;
                back = rest ++ y ∷ t.back;
                is = t.is ∙ (ap (λ w. w ++ y ∷ t.back) e ∙ append_assoc v.front (x ∷ rest) (y ∷ t.back));
                rest = one_more (v.front ++ rest) t.back (sym (append_assoc v.front rest (y ∷ t.back)))
                    (subst (λ w. Reordered (a ++ b) w) (ap (λ w. v.front ++ w) f ∙ sym (append_assoc v.front rest t.back)) v.rest);
              }
              at (second rest e f) = record {
                front = t.front ++ y ∷ rest;
                back = v.back;
                is = t.is ∙ (ap (λ w. t.front ++ y ∷ w) e ∙ sym (append_assoc t.front (y ∷ rest) (x ∷ v.back)));
                rest = one_more t.front (rest ++ v.back) (append_assoc t.front (y ∷ rest) v.back)
                    (subst (λ w. Reordered (a ++ b) w) (ap (λ w. w ++ v.back) f ∙ append_assoc t.front rest v.back) v.rest);
              }

  pub with_block : (ys xs a b : List A) → Reordered xs (a ++ b) → Reordered (ys ++ xs) (a ++ (ys ++ b))
  with_block [] xs a b r = r
  with_block (y ∷ ys) xs a b r = one_more a (ys ++ b) refl (with_block ys xs a b r)

  pub same_length : {xs zs : List A} → Reordered xs zs → length xs ≡ length zs
  same_length no_elements = refl
  same_length (one_more {x = x} {xs = xs} front back e r) =
      let h = same_length r in omega (arith, h, ap length e, length-append front (x ∷ back), length-append front back)

  none_behind : (xs : List A) → xs ++ [] ≡ xs
  none_behind [] = refl
  none_behind (x ∷ xs) = ap (λ w. x ∷ w) (none_behind xs)

  pub at_end : (x : A) (xs zs : List A) → Reordered xs zs → Reordered (xs ++ x ∷ []) (zs ++ x ∷ [])
  at_end x xs zs r = insert x xs [] zs [] (subst (λ w. Reordered w (zs ++ [])) (sym (none_behind xs))
      (subst (λ w. Reordered xs w) (sym (none_behind zs)) r))

-- ---- trees

pub filled_join : (a b : Forest) → filled (a ++ b) ≡ filled a ++ filled b
filled_join [] b = refl
filled_join ([] ∷ a) b = filled_join a b
filled_join ((t ∷ ts) ∷ a) b = ap (λ w. (t ∷ ts) ∷ w) (filled_join a b)

-- a tree that is not empty, among the others
pub record Stood (f : Forest) (ts : List Task) (b uss : Forest) : Type 0 where
  pub front : Forest
  pub back : Forest
  pub is : uss ≡ front ++ ts ∷ back
  pub before : filled front ≡ f
  pub behind : filled back ≡ b

pub stood : (uss f : Forest) (ts : List Task) (b : Forest) → filled uss ≡ f ++ ts ∷ b → Stood f ts b uss
stood [] f ts b e = none_is f ts b e
stood ([] ∷ uss) f ts b e = further (stood uss f ts b e)
  where
    further : Stood f ts b uss → Stood f ts b ([] ∷ uss)
    further a = record { front = [] ∷ a.front; back = a.back; is = ap (λ w. [] ∷ w) a.is; before = a.before; behind = a.behind }
stood ((t ∷ us) ∷ uss) [] ts b e = record { front = []; back = uss; is = both_are (head_is e) refl; before = refl; behind = tail_is e }
stood ((t ∷ us) ∷ uss) (y ∷ f) ts b e = further (stood uss f ts b (tail_is e))
  where
    further : Stood f ts b uss → Stood (y ∷ f) ts b ((t ∷ us) ∷ uss)
    further a = record {
      front = (t ∷ us) ∷ a.front;
      back = a.back;
      is = ap (λ w. (t ∷ us) ∷ w) a.is;
      before = both_are (head_is e) a.before;
      behind = a.behind;
    }

-- one tree more, behind the others or among them
pub one_among : (ts : List Task) (a b c d : Forest) → Reordered (filled (a ++ b)) (filled (c ++ d)) →
    Reordered (filled (a ++ ts ∷ b)) (filled (c ++ ts ∷ d))
one_among ts a b c d r = subst (λ w. Reordered w (filled (c ++ ts ∷ d))) (sym (filled_join a (ts ∷ b)))
    (subst (λ w. Reordered (filled a ++ filled (ts ∷ b)) w) (sym (filled_join c (ts ∷ d)))
    (by_tree ts (subst (λ w. Reordered w (filled c ++ filled d)) (filled_join a b)
    (subst (λ w. Reordered (filled (a ++ b)) w) (filled_join c d) r))))
  where
    by_tree : (ts : List Task) → Reordered (filled a ++ filled b) (filled c ++ filled d) →
        Reordered (filled a ++ filled (ts ∷ b)) (filled c ++ filled (ts ∷ d))
    by_tree [] q = q
    by_tree (t ∷ ts) q = insert (t ∷ ts) (filled a) (filled b) (filled c) (filled d) q
