-- A layer over the files in turn: what was done and what is left are all.
use Rattle.std.proofs.Common.{◌+◌, ◌≤◌, ◌<◌, zero, length, arith, ◌∙◌, ap, ◌≡◌, ℕ, suc, List, [], ◌∷◌, ◌++◌, refl, sym, subst, inl, inr}
use Rattle.std.proofs.Common.{append_assoc, append-nil, map, drop, slice_index_or}
use Rattle.std.proofs.lemmas.List.{map-append}
use Rattle.verse_base.specs.declared.refusals.Refusal.{Refusal}
use Rattle.verse_accept.specs.Stages.{Stage, makes_each, refuses_first}
use Rattle.verse_base.specs.declared.limits.TheConstants.{MOST_FILE_BYTES}
use Rattle.verse_base.proofs.Facts.{length_more}
use Rattle.verse_lex.specs.Cut.{first_place}
use Rattle.verse_accept.specs.Fronts.{sized, refusal}
use Rattle.verse_accept.specs.Ready.{Each, IsSmall}

module _ {A B : Type 0} (s : ℕ → Stage A B) where
  -- these files were made of all, and the rest is left, from this number on
  pub record Goes (all : List A) (n : ℕ) (rest : List A) (made : List B) : Type 0 where
    pub makes : (bs : List B) → makes_each s n rest bs → makes_each s 0 all (made ++ bs)
    pub refuses : (r : Refusal) → refuses_first s n rest r → refuses_first s 0 all r

  pub goes_first : (all : List A) → Goes all 0 all []
  goes_first all = record { makes = λ bs x. x; refuses = λ r x. x }

  pub goes_on : {all : List A} {n : ℕ} {a : A} {rest : List A} {made : List B} {b : B} → Goes all n (a ∷ rest) made → (s n).makes a b →
      Goes all (suc n) rest (made ++ b ∷ [])
  goes_on {all = all} {made = made} {b = b} g x = record {
    makes = λ bs y. subst (λ cs. makes_each s 0 all cs) (sym (append_assoc made (b ∷ []) bs)) (g.makes (b ∷ bs) (x, y));
    refuses = λ r y. g.refuses r (inr (b, x, y));
  }

  pub goes_wrong : {all : List A} {n : ℕ} {a : A} {rest : List A} {made : List B} {r : Refusal} → Goes all n (a ∷ rest) made →
      (s n).refuses a r →
      refuses_first s 0 all r
  goes_wrong {r = r} g x = g.refuses r (inl x)

pub each_more : {A : Type 0} (P : A → Type 0) (as1 : List A) (a : A) → Each P as1 → P a → Each P (as1 ++ a ∷ [])
each_more P [] a x y = (y, tt)
each_more P (b ∷ bs) a x y = (x.0, each_more P bs a x.1 y)

module _ {A B : Type 0} (s : ℕ → Stage A B) (P : A → Type 0) (Q : B → Type 0) where
  -- where a loop stands: at a file of a number, with what is left and what was made
  pub record Stands (all : List A) (index number : ℕ) (rest : List A) (made : List B) : Type 0 where
    pub at : number ≡ index
    pub goes : Goes s all number rest made
    pub ready : Each P rest
    pub done : Each Q made
    pub count : length made ≡ index

  pub stands_first : (all : List A) → Each P all → Stands all 0 0 all []
  stands_first all ready = record { at = refl; goes = goes_first s all; ready = ready; done = tt; count = refl }

  pub stands_on : (all : List A) (i n j m : ℕ) (rest more : List A) (made longer : List B) (a : A) (b : B) → Stands all i n rest made →
      rest ≡ a ∷ more →
      longer ≡ made ++ b ∷ [] → j ≡ i + 1 → m ≡ n + 1 → (s n).makes a b → Q b → Stands all j m more longer
  stands_on all i n j m rest more made longer a b x e f g h makes good =
      let next : m ≡ suc n = omega arith in
      let here : Goes s all n (a ∷ more) made = subst (λ r. Goes s all n r made) e x.goes in
      let far : Each P (a ∷ more) = subst (Each P) e x.ready in
      let long : length longer ≡ suc (length made) = ap length f ∙ length_more made b in
      let count = x.count in
      let at = x.at in
      record {
        at = omega arith;
        goes = subst (λ k. Goes s all k more longer) (sym next) (subst (λ l. Goes s all (suc n) more l) (sym f) (goes_on s here makes));
        ready = far.1;
        done = subst (Each Q) (sym f) (each_more Q made b x.done good);
        count = omega arith;
      }

  pub stands_wrong : (all : List A) (i n : ℕ) (rest more : List A) (made : List B) (a : A) (r : Refusal) → Stands all i n rest made →
      rest ≡ a ∷ more →
      (s n).refuses a r → refuses_first s 0 all r
  stands_wrong all i n rest more made a r x e wrong = goes_wrong s (subst (λ t. Goes s all n t made) e x.goes) wrong

  pub stands_ready : (all : List A) (i n : ℕ) (rest more : List A) (made : List B) (a : A) → Stands all i n rest made → rest ≡ a ∷ more →
      P a
  stands_ready all i n rest more made a x e = (subst (Each P) e x.ready).0

  pub stands_end : (all : List A) (i n : ℕ) (rest : List A) (made : List B) → Stands all i n rest made → rest ≡ [] → makes_each s 0 all made
  stands_end all i n rest made x e =
      subst (λ bs. makes_each s 0 all bs) (append-nil made) (x.goes.makes [] (subst (λ r. makes_each s n r []) (sym e) tt))

-- no file up to here is too large, and what is left decides
pub record Sized (all : List (List ℕ)) (number : ℕ) (rest : List (List ℕ)) : Type 0 where
  pub refuses : (r : Refusal) → refuses_first sized number rest r → refuses_first sized 0 all r
  pub makes : makes_each sized number rest rest → makes_each sized 0 all all
  pub small : Each IsSmall rest → Each IsSmall all

pub sized_first : (all : List (List ℕ)) → Sized all 0 all
sized_first all = record { refuses = λ r x. x; makes = λ x. x; small = λ x. x }

pub sized_on : (all rest more : List (List ℕ)) (n m : ℕ) (bytes : List ℕ) → Sized all n rest → rest ≡ bytes ∷ more → m ≡ n + 1 →
    length bytes ≤ MOST_FILE_BYTES →
    Sized all m more
sized_on all rest more n m bytes x e h small =
    let next : suc n ≡ m = omega arith in
    subst (λ k. Sized all k more) next (record {
      refuses = λ r y. x.refuses r (subst (λ fs. refuses_first sized n fs r) (sym e) (inr (bytes, (refl, small), y)));
      makes = λ y. x.makes (subst (λ fs. makes_each sized n fs fs) (sym e) ((refl, small), y));
      small = λ y. x.small (subst (Each IsSmall) (sym e) (small, y));
    })

pub sized_wrong : (all rest more : List (List ℕ)) (n : ℕ) (bytes : List ℕ) → Sized all n rest → rest ≡ bytes ∷ more →
    MOST_FILE_BYTES < length bytes →
    refuses_first sized 0 all (refusal 2 (first_place n))
sized_wrong all rest more n bytes x e big =
    x.refuses _ (subst (λ fs. refuses_first sized n fs (refusal 2 (first_place n))) (sym e) (inl (big, refl)))

pub sized_end : (all rest : List (List ℕ)) (n : ℕ) → Sized all n rest → rest ≡ [] → makes_each sized 0 all all × Each IsSmall all
sized_end all rest n x e = (x.makes (subst (λ fs. makes_each sized n fs fs) (sym e) tt), x.small (subst (Each IsSmall) (sym e) tt))

-- ---- lists of files

further : {A B : Type 0} (f : A → B) (xs : List A) (i : ℕ) (x : A) → i < length xs → x ≡ slice_index_or xs i x →
    map f (drop i xs) ≡ f x ∷ map f (drop (suc i) xs)
further f [] i x low e = absurd (omega arith)
further f (y ∷ ys) zero x low e = ap (λ z. f z ∷ map f ys) (sym e)
further f (y ∷ ys) (suc i) x low e = further f ys i x (omega arith) e

-- the file of an index is the first of those that are left there
pub next_file : {A B : Type 0} (f : A → B) (xs : List A) (i : ℕ) (x : A) → i < length xs → x ≡ slice_index_or xs i x →
    map f (drop i xs) ≡ f x ∷ map f (drop (i + 1) xs)
next_file f xs i x low e = let next : suc i ≡ i + 1 = omega arith in
    subst (λ j. map f (drop i xs) ≡ f x ∷ map f (drop j xs)) next (further f xs i x low e)

pub no_file : {A B : Type 0} (f : A → B) (xs : List A) (i : ℕ) → length xs ≤ i → map f (drop i xs) ≡ []
no_file f [] zero low = refl
no_file f [] (suc i) low = refl
no_file f (x ∷ xs) zero low = absurd (omega arith)
no_file f (x ∷ xs) (suc i) low = no_file f xs i (omega arith)

pub pushed : {A B : Type 0} (f : A → B) (old new : List A) (x : A) → new ≡ old ++ x ∷ [] → map f new ≡ map f old ++ f x ∷ []
pushed f old new x e = ap (map f) e ∙ map-append f old (x ∷ [])
