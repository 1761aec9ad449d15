-- Layers that have at most one result each have at most one together.
use Rattle.std.proofs.Common.{◌≡◌, ℕ, suc, List, [], ◌∷◌, inl, inr, refl, subst}
use Rattle.verse_base.specs.declared.refusals.Refusal.{Refusal}
use Rattle.verse_accept.specs.Stages.{Stage, followed, in_turn, makes_each, refuses_first, OneResult}

module _ {A B C : Type 0} (s : Stage A B) (t : Stage B C) (p : OneResult s) (q : OneResult t) where
  -- what the first one makes is the same
  moved : (a : A) (b c : B) (r : Refusal) → s.makes a b → s.makes a c → t.refuses c r → t.refuses b r
  moved a b c r x y z = subst (λ d. t.refuses d r) (p.value a c b y x) z

  made : (a : A) (b c : B) (d : C) → s.makes a b → s.makes a c → t.makes c d → t.makes b d
  made a b c d x y z = subst (λ e. t.makes e d) (p.value a c b y x) z

  one_refusal : (a : A) (r u : Refusal) → (followed s t).refuses a r → (followed s t).refuses a u → r ≡ u
  one_refusal a r u (inl x) (inl y) = p.refusal a r u x y
  one_refusal a r u (inl x) (inr y) = absurd (p.apart a y.0 r y.1 x)
  one_refusal a r u (inr x) (inl y) = absurd (p.apart a x.0 u x.1 y)
  one_refusal a r u (inr x) (inr y) = q.refusal x.0 r u x.2 (moved a x.0 y.0 u x.1 y.1 y.2)

  no_refusal : (a : A) (c : C) (r : Refusal) → (followed s t).makes a c → (followed s t).refuses a r → ⊥
  no_refusal a c r x (inl y) = p.apart a x.0 r x.1 y
  no_refusal a c r x (inr y) = q.apart x.0 c r x.2 (moved a x.0 y.0 r x.1 y.1 y.2)

  pub one_followed : OneResult (followed s t)
  one_followed = record {
    value = λ a c d x y. q.value x.0 c d x.2 (made a x.0 y.0 d x.1 y.1 y.2);
    refusal = one_refusal;
    apart = no_refusal;
  }

-- a layer that has at most one result for each file has at most one for all
module _ {A B : Type 0} (s : ℕ → Stage A B) (p : (n : ℕ) → OneResult (s n)) where
  each_once : (n : ℕ) (as1 : List A) (bs cs : List B) → makes_each s n as1 bs → makes_each s n as1 cs → bs ≡ cs
  each_once n [] [] [] x y = refl
  each_once n [] [] (c ∷ cs) x y = absurd y
  each_once n [] (b ∷ bs) cs x y = absurd x
  each_once n (a ∷ as1) [] cs x y = absurd x
  each_once n (a ∷ as1) (b ∷ bs) [] x y = absurd y
  each_once n (a ∷ as1) (b ∷ bs) (c ∷ cs) x y = cc ((p n).value a b c x.0 y.0, each_once (suc n) as1 bs cs x.1 y.1)

  first_once : (n : ℕ) (as1 : List A) (r q : Refusal) → refuses_first s n as1 r → refuses_first s n as1 q → r ≡ q
  first_once n [] r q x y = absurd x
  first_once n (a ∷ as1) r q (inl x) (inl y) = (p n).refusal a r q x y
  first_once n (a ∷ as1) r q (inl x) (inr y) = absurd ((p n).apart a y.0 r y.1 x)
  first_once n (a ∷ as1) r q (inr x) (inl y) = absurd ((p n).apart a x.0 q x.1 y)
  first_once n (a ∷ as1) r q (inr x) (inr y) = first_once (suc n) as1 r q x.2 y.2

  each_or_first : (n : ℕ) (as1 : List A) (bs : List B) (r : Refusal) → makes_each s n as1 bs → refuses_first s n as1 r → ⊥
  each_or_first n [] bs r x y = y
  each_or_first n (a ∷ as1) [] r x y = x
  each_or_first n (a ∷ as1) (b ∷ bs) r x (inl y) = (p n).apart a b r x.0 y
  each_or_first n (a ∷ as1) (b ∷ bs) r x (inr y) = each_or_first (suc n) as1 bs r x.1 y.2

  pub one_in_turn : OneResult (in_turn s)
  one_in_turn = record {
    value = λ as1 bs cs x y. each_once 0 as1 bs cs x y;
    refusal = λ as1 r q x y. first_once 0 as1 r q x y;
    apart = λ as1 bs r x y. each_or_first 0 as1 bs r x y;
  }
