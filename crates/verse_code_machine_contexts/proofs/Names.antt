-- What the tests of names say: what a frame has begun, and what is beneath an arm.
use Rattle.std.proofs.Common.{◌≡◌, ℕ, ◌<◌, List, [], ◌∷◌, ◌++◌, Bool, true, false, cond, refl, sym, subst}
use Rattle.std.proofs.lemmas.Bool.{cond_both}
use Rattle.verse_meaning_state.specs.Waits.{eqn}
use Rattle.verse_meaning_state.proofs.Numbers.{eqn_is, eqn_same, ltn_is, ltn_yes}
use Rattle.verse_code_machine.specs.Tasks.{Part, did, runs, Machine, starts, since, beneath_arms}
use Rattle.verse_code_machine.specs.Ends.{is_run}
use Rattle.verse_code_machine_parents.proofs.Lists.{no_both}
use Rattle.verse_code_machine_contexts.specs.Scopes.{BegunBy, NamesBegun}
use Rattle.verse_code_machine_contexts.specs.Races.{BeneathArm, NamesBeneath}

-- a test that two conditions pass, each of them
both_true : (b c : Bool) → cond b c false ≡ true → (b ≡ true) × (c ≡ true)
both_true true c e = (refl, e)
both_true false c e = no_both (sym e)

one_more : {i j : ℕ} {a x : List ℕ} → i ≡ j → x ≡ a → j ∷ x ≡ i ∷ a
one_more e h = cc

-- ---- begun since

-- a name beneath a path, by a number that is less
record Since (a : List ℕ) (n : ℕ) (x : List ℕ) : Type 0 where
  number : ℕ
  rest : List ℕ
  beneath : x ≡ a ++ number ∷ rest
  less : number < n

since_is : (a : List ℕ) (n : ℕ) (x : List ℕ) → since a n x ≡ true → Since a n x
since_is [] n [] e = no_both (sym e)
since_is [] n (k ∷ x) e = record { number = k; rest = x; beneath = refl; less = ltn_is k n e }
since_is (i ∷ a) n [] e = no_both (sym e)
since_is (i ∷ a) n (j ∷ x) e = longer (both_true (eqn i j) (since a n x) e) (since_is a n x)
  where
    longer : (eqn i j ≡ true) × (since a n x ≡ true) → (since a n x ≡ true → Since a n x) → Since (i ∷ a) n (j ∷ x)
    longer b go =
        let r = go b.1 in
        record { number = r.number; rest = r.rest; beneath = one_more (eqn_is i j b.0) r.beneath; less = r.less }

since_all : (a : List ℕ) (n k : ℕ) (rest : List ℕ) → k < n → since a n (a ++ k ∷ rest) ≡ true
since_all [] n k rest l = ltn_yes k n l
since_all (i ∷ a) n k rest l = rw (eqn_same i) (since_all a n k rest l)

pub names_begun : (m : Machine) → NamesBegun m
names_begun m = record {
  are = λ x e. begun (since_is m.who.path m.frame.life.born x e);
  all = λ x b. subst (λ x. since m.who.path m.frame.life.born x ≡ true) (sym b.beneath)
      (since_all m.who.path m.frame.life.born b.number b.rest b.since);
}
  where
    begun : {x : List ℕ} → Since m.who.path m.frame.life.born x → BegunBy m x
    begun s = record { number = s.number; rest = s.rest; beneath = s.beneath; since = s.less }

-- ---- beneath an arm

starts_is : (a : List ℕ) (n : ℕ) (x : List ℕ) → starts (a ++ n ∷ []) x ≡ true → (rest : List ℕ) × (x ≡ a ++ n ∷ rest)
starts_is [] n [] e = no_both (sym e)
starts_is [] n (j ∷ x) e = (x, one_more (eqn_is n j (both_true (eqn n j) true e).0) refl)
starts_is (i ∷ a) n [] e = no_both (sym e)
starts_is (i ∷ a) n (j ∷ x) e = longer (both_true (eqn i j) (starts (a ++ n ∷ []) x) e) (starts_is a n x)
  where
    longer : (eqn i j ≡ true) × (starts (a ++ n ∷ []) x ≡ true) → (starts (a ++ n ∷ []) x ≡ true → (rest : List ℕ) × (x
        ≡ a ++
        n ∷ rest)) → (rest : List ℕ) × (j ∷ x ≡ i ∷ (a ++ n ∷ rest))
    longer b go = let r = go b.1 in (r.0, one_more (eqn_is i j b.0) r.1)

starts_all : (a : List ℕ) (n : ℕ) (rest : List ℕ) → starts (a ++ n ∷ []) (a ++ n ∷ rest) ≡ true
starts_all [] n rest = rw (eqn_same n) refl
starts_all (i ∷ a) n rest = rw (eqn_same i) (starts_all a n rest)

-- an arm of the others is an arm
later_arm : (n m : ℕ) (gs : List Part) → is_run n gs ≡ true → is_run n (runs m ∷ gs) ≡ true
later_arm n m gs e = cond_both (eqn n m) true (is_run n gs) (λ b. b ≡ true) (λ h. refl) (λ h. e)

beneath_is : (path : List ℕ) (gs : List Part) (x : List ℕ) → beneath_arms path gs x ≡ true → BeneathArm path gs x
beneath_is path [] x e = no_both (sym e)
beneath_is path (did v ∷ gs) x e = let r = beneath_is path gs x e in
    record { number = r.number; rest = r.rest; is_arm = r.is_arm; beneath = r.beneath }
beneath_is path (runs n ∷ gs) x e =
    cond_both (starts (path ++ n ∷ []) x) true (beneath_arms path gs x) (λ b. b ≡ true → BeneathArm path (runs n ∷ gs)
    x) (λ h i. first (starts_is path n x h)) (λ h i. later (beneath_is path gs x i)) e
  where
    first : (rest : List ℕ) × (x ≡ path ++ n ∷ rest) → BeneathArm path (runs n ∷ gs) x
    first r = record { number = n; rest = r.0; is_arm = rw (eqn_same n) refl; beneath = r.1 }

    later : BeneathArm path gs x → BeneathArm path (runs n ∷ gs) x
    later r = record {
      number = r.number;
      rest = r.rest;
      is_arm = later_arm r.number n gs r.is_arm;
      beneath = r.beneath;
    }

beneath_all : (path : List ℕ) (gs : List Part) (n : ℕ) (rest : List ℕ) → is_run n gs ≡ true →
    beneath_arms path gs (path ++ n ∷ rest) ≡ true
beneath_all path [] n rest e = no_both (sym e)
beneath_all path (did v ∷ gs) n rest e = beneath_all path gs n rest e
beneath_all path (runs m ∷ gs) n rest e =
    cond_both (eqn n m) true (is_run n gs) (λ b. b ≡ true → beneath_arms path (runs m ∷ gs) (path ++ n ∷ rest) ≡ true)
    (λ h i. first (eqn_is n m h)) (λ h i. cond_both (starts (path ++ m ∷ []) (path ++ n ∷ rest)) true (beneath_arms path
    gs (path ++ n ∷ rest)) (λ b. b ≡ true) (λ j. refl) (λ j. beneath_all path gs n rest i)) e
  where
    first : n ≡ m → beneath_arms path (runs m ∷ gs) (path ++ n ∷ rest) ≡ true
    first h = rw (h, starts_all path m rest) refl

pub names_beneath : (path : List ℕ) (gs : List Part) → NamesBeneath path gs
names_beneath path gs = record {
  are = beneath_is path gs;
  all = λ x b. subst (λ x. beneath_arms path gs x ≡ true) (sym b.beneath) (beneath_all path gs b.number b.rest
      b.is_arm);
}
