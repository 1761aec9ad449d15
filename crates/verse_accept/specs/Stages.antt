-- Layers that stand one behind the other: each makes something of what it is given, or refuses it.
use Rattle.std.specs.Prelude.{◌≡◌, ◌⊎◌, ℕ, suc, List, [], ◌∷◌}
use Rattle.verse_base.specs.declared.refusals.Refusal.{Refusal}

pub record Stage (A B : Type 0) : Type 1 where
  pub makes : A → B → Type 0
  pub refuses : A → Refusal → Type 0

-- one layer, and then another with what the first one makes
abbrev pub followed : {A B C : Type 0} → Stage A B → Stage B C → Stage A C
followed {A} {B} {C} s t = record {
  makes = λ (a : A) (c : C). (b : B) × s.makes a b × t.makes b c;
  refuses = λ (a : A) (r : Refusal). s.refuses a r ⊎ ((b : B) × s.makes a b × t.refuses b r);
}

-- a layer has at most one result: one thing that it makes, or one refusal
pub record OneResult {A B : Type 0} (s : Stage A B) : Type 0 where
  pub value : (a : A) (b c : B) → s.makes a b → s.makes a c → b ≡ c
  pub refusal : (a : A) (r q : Refusal) → s.refuses a r → s.refuses a q → r ≡ q
  pub apart : (a : A) (b : B) (r : Refusal) → s.makes a b → s.refuses a r → ⊥

module _ {A B : Type 0} (s : ℕ → Stage A B) where
  -- what a layer makes of each file, the first of which has the number n
  abbrev pub makes_each : ℕ → List A → List B → Type 0
  makes_each n [] [] = Unit {0}
  makes_each n [] (b ∷ bs) = ⊥
  makes_each n (a ∷ as1) [] = ⊥
  makes_each n (a ∷ as1) (b ∷ bs) = (s n).makes a b × makes_each (suc n) as1 bs

  -- the first file that it refuses
  abbrev pub refuses_first : ℕ → List A → Refusal → Type 0
  refuses_first n [] r = ⊥
  refuses_first n (a ∷ as1) r = (s n).refuses a r ⊎
      ((b : B) × (s n).makes a b × refuses_first (suc n) as1 r)

  -- a layer over the files in turn
  abbrev pub in_turn : Stage (List A) (List B)
  in_turn = record { makes = makes_each 0; refuses = refuses_first 0 }
