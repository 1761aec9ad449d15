-- A task that is cancelled leaves nothing beneath it.
use Rattle.std.proofs.Common.{◌≡◌, ℕ, Bool, true, false, cond, List, [], ◌∷◌, ◌++◌, refl, sym, ap, subst, ◌∙◌}
use Rattle.std.proofs.lemmas.Bool.{cond_both}
use Rattle.verse_meaning_state.specs.Waits.{eqn, ltn}
use Rattle.verse_meaning_state.proofs.Numbers.{eqn_is}
use Rattle.verse_code_machine.specs.Tasks as m
use Rattle.verse_code_machine.specs.Tasks.{Part, did, runs, World, starts, since, beneath_arms}
use Rattle.verse_code_machine.specs.Cancelling.{without, world_without, inserted, gone_before, gone_behind, cancelled}
use Rattle.vm_scheduler.specs.Going.{NoneBeneath, NothingUnder}

abbrev Closed : (List ℕ → Bool) → Type 0
Closed f = (y x : List ℕ) → f y ≡ true → starts y x ≡ true → f x ≡ true

cond_true : (b c : Bool) → cond b c false ≡ true → (b ≡ true) × (c ≡ true)
cond_true true c e = (refl, e)
cond_true false c e = absurd (cc)

pub closed_since : (a : List ℕ) (n : ℕ) → Closed (since a n)
closed_since [] n [] x e s = absurd (cc)
closed_since [] n (k ∷ y) [] e s = absurd (cc)
closed_since [] n (k ∷ y) (j ∷ x) e s = let same : k ≡ j = eqn_is k j (cond_true (eqn k j) (starts y x) s).0 in
    subst (λ z. ltn z n ≡ true) same e
closed_since (i ∷ a) n [] x e s = absurd (cc)
closed_since (i ∷ a) n (j ∷ y) [] e s = absurd (cc)
closed_since (i ∷ a) n (j ∷ y) (l ∷ x) e s =
    let p = cond_true (eqn i j) (since a n y) e in
    let q = cond_true (eqn j l) (starts y x) s in
    let same : j ≡ l = eqn_is j l q.0 in
    ap (λ b. cond b (since a n x) false) (subst (λ z. eqn i z ≡ true) same p.0) ∙ closed_since a n y x p.1 q.1

starts_on : (p y x : List ℕ) → starts p y ≡ true → starts y x ≡ true → starts p x ≡ true
starts_on [] y x e s = refl
starts_on (i ∷ p) [] x e s = absurd (cc)
starts_on (i ∷ p) (j ∷ y) [] e s = absurd (cc)
starts_on (i ∷ p) (j ∷ y) (l ∷ x) e s =
    let a = cond_true (eqn i j) (starts p y) e in
    let b = cond_true (eqn j l) (starts y x) s in
    let same : j ≡ l = eqn_is j l b.0 in
    ap (λ z. cond z (starts p x) false) (subst (λ z. eqn i z ≡ true) same a.0) ∙ starts_on p y x a.1 b.1

pub closed_arms : (a : List ℕ) (gs : List Part) → Closed (beneath_arms a gs)
closed_arms a [] y x e s = absurd (cc)
closed_arms a (did v ∷ gs) y x e s = closed_arms a gs y x e s
closed_arms a (runs n ∷ gs) y x e s = arms_go (a ++ n ∷ []) y x (beneath_arms a gs y) (beneath_arms a gs x)
    (starts (a ++ n ∷ []) y) refl e s (λ k. closed_arms a gs y x k s)
  where
    both : (b : Bool) → cond b true true ≡ true
    both true = refl
    both false = refl

    arms_go : (p y x : List ℕ) (u v b : Bool) → starts p y ≡ b → cond b true u ≡ true → starts y x ≡ true → (u ≡ true → v ≡ true) →
        cond (starts p x) true v ≡ true
    arms_go p y x u v true is e s h = ap (λ b. cond b true v) (starts_on p y x is s)
    arms_go p y x u v false is e s h = ap (λ b. cond (starts p x) true b) (h e) ∙ both (starts p x)

-- each has such a name
abbrev Named : (List ℕ → Bool) → List m.Task → Type 0
Named f [] = Unit {0}
Named f (t ∷ ts) = (f t.thread.who.path ≡ true) × Named f ts

inserted_named : (f : List ℕ → Bool) (t : m.Task) (ts : List m.Task) → f t.thread.who.path ≡ true → Named f ts → Named f (inserted t ts)
inserted_named f t [] e n = (e, tt)
inserted_named f t (x ∷ xs) e n =
    cond_both (starts t.thread.who.path x.thread.who.path) (x ∷ inserted t xs) (t ∷ x ∷ xs) (Named f)
    (λ k. (n.0, inserted_named f t xs e n.1)) (λ k. (e, n))

before_named : (f : List ℕ → Bool) (ts : List m.Task) → Named f (gone_before f ts)
before_named f [] = tt
before_named f (t ∷ ts) =
    cond_both (f t.thread.who.path) (inserted t (gone_before f ts)) (gone_before f ts) (Named f)
    (λ e. inserted_named f t (gone_before f ts) e (before_named f ts)) (λ e. before_named f ts)

behind_named : (f : List ℕ → Bool) (ts : List m.Task) → Named f (gone_behind f ts)
behind_named f [] = tt
behind_named f (t ∷ ts) = cond_both (f t.thread.who.path) (t ∷ gone_behind f ts) (gone_behind f ts) (Named f) (λ e. (e, behind_named f ts))
    (λ e. behind_named f ts)

named_append : (f : List ℕ → Bool) (a b : List m.Task) → Named f a → Named f b → Named f (a ++ b)
named_append f [] b x y = y
named_append f (t ∷ a) b x y = (x.0, named_append f a b x.1 y)

true_not : true ≡ false → ⊥
true_not p = absurd (cc)

not_under : (f : List ℕ → Bool) (y x : List ℕ) (b : Bool) → Closed f → f y ≡ true → starts y x ≡ b → f x ≡ false → b ≡ false
not_under f y x true c e s n = absurd (true_not (sym (c y x e s) ∙ n))
not_under f y x false c e s n = refl

none_left : (f : List ℕ → Bool) (y : List ℕ) (ts : List m.Task) → Closed f → f y ≡ true → NoneBeneath y (without f ts)
none_left f y [] c e = tt
none_left f y (t ∷ ts) c e =
    cond_both (f t.thread.who.path) (without f ts) (t ∷ without f ts) (NoneBeneath y) (λ n. none_left f y ts c e)
    (λ n. (not_under f y t.thread.who.path (starts y t.thread.who.path) c e refl n, none_left f y ts c e))

nothing_of : (f : List ℕ → Bool) (o : World) (ts : List m.Task) → Closed f → Named f ts → NothingUnder (world_without f o) ts
nothing_of f o [] c n = tt
nothing_of f o (t ∷ ts) c n = (
  none_left f t.thread.who.path o.pre c n.0,
  none_left f t.thread.who.path o.post c n.0,
  nothing_of f o ts c n.1,
)

pub nothing_under : (f : List ℕ → Bool) (o : World) → Closed f → NothingUnder (world_without f o) (cancelled f o)
nothing_under f o c = nothing_of f o (cancelled f o) c
    (named_append f (gone_before f o.pre) (gone_behind f o.post) (before_named f o.pre) (behind_named f o.post))

-- of those that are cancelled later, and of one of them
pub later_under : (o : World) (front : List m.Task) (t : m.Task) (later : List m.Task) → NothingUnder o (front ++ t ∷ later) →
    NoneBeneath t.thread.who.path o.pre × NoneBeneath t.thread.who.path o.post × NothingUnder o later
later_under o [] t later n = n
later_under o (x ∷ front) t later n = later_under o front t later n.2
