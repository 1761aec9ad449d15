-- Names of tasks: which begin with which, and lists of tasks.
use Rattle.std.proofs.Common.{◌≡◌, ℕ, zero, suc, ◌<◌, List, [], ◌∷◌, ◌++◌, Bool, true, false, cond, refl, sym, ap, ◌∙◌, subst, arith}
use Rattle.verse_meaning_state.specs.Waits.{eqn, ltn}
use Rattle.verse_meaning_state.proofs.Numbers.{eqn_is, eqn_same, ltn_yes}
use Rattle.verse_code_machine.specs.Tasks.{Task, Rest, asleep, group, onto, waits_of, waits_with, starts, same_path, since}
use Rattle.verse_code_machine.specs.Cancelling.{without, inserted, gone_before, gone_behind}

-- in the order of cancelling, before those of the first list
abbrev pub ordered : List Task → List Task → List Task
ordered acc [] = acc
ordered acc (t ∷ ts) = ordered (inserted t acc) ts

both_false : (b p q : Bool) → (p ≡ false → q ≡ false) → cond b p false ≡ false → cond b q false ≡ false
both_false true p q f h = f h
both_false false p q f h = refl

and_false : (b p : Bool) → p ≡ false → cond b p false ≡ false
and_false true p h = h
and_false false p h = refl

and_true : (b p q : Bool) → (p ≡ true → q ≡ false) → cond b p false ≡ true → cond b q false ≡ false
and_true true p q f h = f h
and_true false p q f h = refl

both_true : (b p q : Bool) → (p ≡ true → q ≡ true) → cond b p false ≡ true → cond b q false ≡ true
both_true true p q f h = f h
both_true false p q f h = h

-- what does not begin with a name, does not begin with a longer one
pub starts_longer : (a b x : List ℕ) → starts a x ≡ false → starts (a ++ b) x ≡ false
starts_longer [] b x h = cc
starts_longer (i ∷ a) b [] h = refl
starts_longer (i ∷ a) b (j ∷ x) h = both_false (eqn i j) _ _ (starts_longer a b x) h

differ : (k l j : ℕ) → k < l → cond (eqn k j) true false ≡ true → cond (eqn l j) true false ≡ false
differ zero zero j lt h = absurd (omega (arith, lt))
differ zero (suc l) zero lt h = refl
differ zero (suc l) (suc j) lt h = cc
differ (suc k) zero j lt h = absurd (omega (arith, lt))
differ (suc k) (suc l) zero lt h = cc
differ (suc k) (suc l) (suc j) lt h = differ k l j (omega (arith, lt)) h

differ_back : (k l j : ℕ) → l < k → cond (eqn k j) true false ≡ true → cond (eqn l j) true false ≡ false
differ_back zero l j lt h = absurd (omega (arith, lt))
differ_back (suc k) zero zero lt h = cc
differ_back (suc k) zero (suc j) lt h = refl
differ_back (suc k) (suc l) zero lt h = cc
differ_back (suc k) (suc l) (suc j) lt h = differ_back k l j (omega (arith, lt)) h

pub starts_shorter : (a b x : List ℕ) → starts (a ++ b) x ≡ true → starts a x ≡ true
starts_shorter [] b x h = refl
starts_shorter (i ∷ a) b [] h = cc
starts_shorter (i ∷ a) b (j ∷ x) h = both_true (eqn i j) _ _ (starts_shorter a b x) h

-- not beneath a task of its own, then the parent is not
pub starts_root : (k : ℕ) (a b : List ℕ) → starts (k ∷ []) (a ++ b) ≡ false → starts (k ∷ []) a ≡ false
starts_root k [] b h = refl
starts_root k (i ∷ a) b h = h

-- beneath one child is not beneath another
pub starts_other : (a x : List ℕ) (k l : ℕ) → k < l → starts (a ++ k ∷ []) x ≡ true → starts (a ++ l ∷ []) x ≡ false
starts_other [] [] k l lt h = cc
starts_other [] (j ∷ x) k l lt h = differ k l j lt h
starts_other (i ∷ a) [] k l lt h = cc
starts_other (i ∷ a) (j ∷ x) k l lt h = and_true (eqn i j) _ _ (starts_other a x k l lt) h

pub starts_earlier : (a x : List ℕ) (k l : ℕ) → l < k → starts (a ++ k ∷ []) x ≡ true → starts (a ++ l ∷ []) x ≡ false
starts_earlier [] [] k l lt h = cc
starts_earlier [] (j ∷ x) k l lt h = differ_back k l j lt h
starts_earlier (i ∷ a) [] k l lt h = cc
starts_earlier (i ∷ a) (j ∷ x) k l lt h = and_true (eqn i j) _ _ (starts_earlier a x k l lt) h

-- a parent is not beneath its child
pub starts_parent : (a : List ℕ) (k : ℕ) → starts (a ++ k ∷ []) a ≡ false
starts_parent [] k = refl
starts_parent (i ∷ a) k = and_false (eqn i i) _ (starts_parent a k)

pub same_child : (a x : List ℕ) (k : ℕ) → starts (a ++ k ∷ []) x ≡ true → same_path a x ≡ false
same_child [] [] k h = cc
same_child [] (j ∷ x) k h = refl
same_child (i ∷ a) [] k h = cc
same_child (i ∷ a) (j ∷ x) k h = and_true (eqn i j) _ _ (same_child a x k) h

pub starts_self : (a : List ℕ) → starts a a ≡ true
starts_self [] = refl
starts_self (i ∷ a) = subst (λ b. cond b (starts a a) false ≡ true) (sym (eqn_same i)) (starts_self a)

-- not beneath any child below n
begun_before : (b : Bool) (n : ℕ) (a x : List ℕ) → ((k : ℕ) → k < n → cond b (starts (a ++ k ∷ []) x) false ≡ false) →
    (((k : ℕ) → k < n → starts (a ++ k ∷ []) x ≡ false) → since a n x ≡ false) → cond b (since a n x) false ≡ false
begun_before true n a x h f = f h
begun_before false n a x h f = refl

eqn_true : (n : ℕ) → cond (eqn n n) true false ≡ true
eqn_true zero = refl
eqn_true (suc n) = eqn_true n

pub lt_false : (j n : ℕ) → (j < n → ⊥) → ltn j n ≡ false
lt_false j zero f = refl
lt_false zero (suc n) f = absurd (f (omega arith))
lt_false (suc j) (suc n) f = lt_false j n (λ x. f (omega (arith, x)))

pub since_none : (a : List ℕ) (n : ℕ) (x : List ℕ) → ((k : ℕ) → k < n → starts (a ++ k ∷ []) x ≡ false) → since a n x ≡ false
since_none [] n [] h = refl
since_none [] n (j ∷ x) h = lt_false j n (λ lt. let no = h j lt in let yes = eqn_true j in cc)
since_none (i ∷ a) n [] h = refl
since_none (i ∷ a) n (j ∷ x) h = begun_before (eqn i j) n a x h (since_none a n x)

begun_after : (b : Bool) (n : ℕ) (p q : Bool) → (p ≡ true → q ≡ true) → cond b p false ≡ true → cond b q false ≡ true
begun_after true n p q f h = f h
begun_after false n p q f h = h

of_eqn : (k j : ℕ) → cond (eqn k j) true false ≡ true → k ≡ j
of_eqn zero zero h = refl
of_eqn zero (suc j) h = cc
of_eqn (suc k) zero h = cc
of_eqn (suc k) (suc j) h = ap suc (of_eqn k j h)

-- beneath a child below n
pub since_one : (a : List ℕ) (k n : ℕ) (x : List ℕ) → k < n → starts (a ++ k ∷ []) x ≡ true → since a n x ≡ true
since_one [] k n [] lt h = cc
since_one [] k n (j ∷ x) lt h = subst (λ z. ltn z n ≡ true) (of_eqn k j h) (ltn_yes k n lt)
since_one (i ∷ a) k n [] lt h = cc
since_one (i ∷ a) k n (j ∷ x) lt h = begun_after (eqn i j) n _ _ (since_one a k n x lt) h

-- each task of a list
abbrev pub Each : (Task → Type 0) → List Task → Type 0
Each P [] = Unit {0}
Each P (t ∷ ts) = P t × Each P ts

pub each_both : (P : Task → Type 0) (xs ys : List Task) → Each P xs → Each P ys → Each P (xs ++ ys)
each_both P [] ys p q = q
each_both P (x ∷ xs) ys p q = (p.0, each_both P xs ys p.1 q)

pub each_onto : (P : Task → Type 0) (xs ys : List Task) → Each P xs → Each P ys → Each P (onto xs ys)
each_onto P [] ys p q = q
each_onto P (x ∷ xs) ys p q = each_onto P xs (x ∷ ys) p.1 (p.0, q)

pub each_map : (P Q : Task → Type 0) (xs : List Task) → ((t : Task) → P t → Q t) → Each P xs → Each Q xs
each_map P Q [] f p = tt
each_map P Q (x ∷ xs) f p = (f x p.0, each_map P Q xs f p.1)

pub onto_both : (xs ys zs : List Task) → onto (xs ++ ys) zs ≡ onto ys (onto xs zs)
onto_both [] ys zs = refl
onto_both (x ∷ xs) ys zs = onto_both xs ys (x ∷ zs)

-- the order of the table
pub onto_onto : (xs pre post : List Task) → onto (onto xs pre) post ≡ onto pre (xs ++ post)
onto_onto [] pre post = refl
onto_onto (x ∷ xs) pre post = onto_onto xs (x ∷ pre) post

-- what a filter takes goes, and the rest stays
pub without_none : (f : List ℕ → Bool) (ts : List Task) → Each (λ t. f t.thread.who.path ≡ false) ts → without f ts ≡ ts
without_none f [] p = refl
without_none f (t ∷ ts) p =
    subst (λ b. cond b (without f ts) (t ∷ without f ts) ≡ t ∷ ts) (sym p.0) (ap (λ z. t ∷ z) (without_none f ts p.1))

without_more : (f : List ℕ → Bool) (x : Task) (ts : List Task) → f x.thread.who.path ≡ true → without f (x ∷ ts) ≡ without f ts
without_more f x ts p = subst (λ b. cond b (without f ts) (x ∷ without f ts) ≡ without f ts) (sym p) refl

pub without_onto : (f : List ℕ → Bool) (xs ts : List Task) → Each (λ t. f t.thread.who.path ≡ true) xs →
    without f (onto xs ts) ≡ without f ts
without_onto f [] ts p = refl
without_onto f (x ∷ xs) ts p = without_onto f xs (x ∷ ts) p.1 ∙ without_more f x ts p.0

waits_first : (r : Rest) (xs ys : List Task) → waits_of (xs ++ ys) ≡ waits_of xs ++ waits_of ys → waits_with r (waits_of (xs ++ ys)) ≡
    waits_with r (waits_of xs) ++ waits_of ys
waits_first (asleep w) xs ys h = ap (λ z. w ∷ z) h
waits_first (group k p gs) xs ys h = h

pub waits_both : (xs ys : List Task) → waits_of (xs ++ ys) ≡ waits_of xs ++ waits_of ys
waits_both [] ys = refl
waits_both (x ∷ xs) ys = waits_first x.rest xs ys (waits_both xs ys)

-- what begins with a longer name, begins with a shorter
starts_split : {A : Type 0} (b p : Bool) → cond b p false ≡ true → (b ≡ true → p ≡ true → A) → A
starts_split true p h f = f refl h
starts_split false p h f = cc

pub starts_through : (p t x : List ℕ) → starts p t ≡ true → starts p x ≡ false → starts t x ≡ false
starts_through [] t x h nb = cc
starts_through (i ∷ p) [] x h nb = cc
starts_through (i ∷ p) (j ∷ t) [] h nb = refl
starts_through (i ∷ p) (j ∷ t) (k ∷ x) h nb = starts_split (eqn i j) (starts p t) h (λ e f.
    let alike : i ≡ j = eqn_is i j e in
    subst (λ z. cond (eqn z k) (starts t x) false ≡ false) alike
    (both_false (eqn i k) (starts p x) (starts t x) (λ nb. starts_through p t x f nb) nb))

not_eqn : (k j l : ℕ) → cond (eqn k j) true false ≡ false → k ≡ l → eqn j l ≡ false
not_eqn k j l h e = by (eqn j l) refl
  where
    by : (b : Bool) → eqn j l ≡ b → eqn j l ≡ false
    by false f = f
    by true f = let s : j ≡ l = eqn_is j l f in let t : k ≡ j = e ∙ sym s in let u : cond (eqn k k) true false ≡
        false = subst (λ z. cond (eqn k z) true false ≡ false) (sym t) h in let w = eqn_true k in cc

first_false : (b p : Bool) → b ≡ false → cond b p false ≡ false
first_false b p e = subst (λ z. cond z p false ≡ false) (sym e) refl

under : (b p : Bool) → b ≡ true → cond b p false ≡ false → p ≡ false
under true p e h = h
under false p e h = cc

-- strictly beneath a, and not beneath its child k, is no ancestor of what is beneath that child
pub starts_beside : (a t x : List ℕ) (k : ℕ) → starts a t ≡ true → same_path a t ≡ false → starts (a ++ k ∷ []) t ≡ false →
    starts (a ++ k ∷ []) x ≡ true → starts t x ≡ false
starts_beside [] [] x k h s nb yb = cc
starts_beside [] (j ∷ t) [] k h s nb yb = refl
starts_beside [] (j ∷ t) (l ∷ x) k h s nb yb = first_false (eqn j l) (starts t x) (not_eqn k j l nb (of_eqn k l yb))
starts_beside (i ∷ a) [] x k h s nb yb = cc
starts_beside (i ∷ a) (j ∷ t) [] k h s nb yb = refl
starts_beside (i ∷ a) (j ∷ t) (l ∷ x) k h s nb yb = starts_split (eqn i j) (starts a t) h
    (λ e h2. starts_split (eqn i l) (starts (a ++ k ∷ []) x) yb (λ e2 yy.
    and_false (eqn j l) (starts t x) (starts_beside a t x k h2 (under (eqn i j) (same_path a t) e s)
    (under (eqn i j) (starts (a ++ k ∷ []) t) e nb) yy)))

-- the order of cancelling
pub ordered_both : (acc xs ys : List Task) → ordered acc (xs ++ ys) ≡ ordered (ordered acc xs) ys
ordered_both acc [] ys = refl
ordered_both acc (x ∷ xs) ys = ordered_both (inserted x acc) xs ys

each_cond : (P : Task → Type 0) (b : Bool) (t x : Task) (xs ys : List Task) → P t → P x → Each P xs → Each P ys →
    Each P (cond b (x ∷ ys) (t ∷ x ∷ xs))
each_cond P true t x xs ys p q r s = (q, s)
each_cond P false t x xs ys p q r s = (p, (q, r))

pub each_insert : (P : Task → Type 0) (t : Task) (xs : List Task) → P t → Each P xs → Each P (inserted t xs)
each_insert P t [] p q = (p, tt)
each_insert P t (x ∷ xs) p q = each_cond P (starts t.thread.who.path x.thread.who.path) t x xs (inserted t xs) p q.0 q.1
    (each_insert P t xs p q.1)

pub each_ordered : (P : Task → Type 0) (acc ts : List Task) → Each P acc → Each P ts → Each P (ordered acc ts)
each_ordered P acc [] p q = p
each_ordered P acc (t ∷ ts) p q = each_ordered P (inserted t acc) ts (each_insert P t acc q.0 p) q.1

each_if : (P : Task → Type 0) (b : Bool) (xs ys : List Task) → Each P xs → Each P ys → Each P (cond b xs ys)
each_if P true xs ys p q = p
each_if P false xs ys p q = q

pub each_gone : (P : Task → Type 0) (f : List ℕ → Bool) (ts : List Task) → Each P ts → Each P (gone_before f ts)
each_gone P f [] p = tt
each_gone P f (t ∷ ts) p = each_if P (f t.thread.who.path) _ _ (each_insert P t (gone_before f ts) p.0 (each_gone P f ts p.1))
    (each_gone P f ts p.1)

pub each_without : (P : Task → Type 0) (f : List ℕ → Bool) (ts : List Task) → Each P ts → Each P (without f ts)
each_without P f [] p = tt
each_without P f (t ∷ ts) p = each_if P (f t.thread.who.path) _ _ (each_without P f ts p.1) (p.0, each_without P f ts p.1)

-- no ancestor of any of them
abbrev pub NotOver : List Task → Task → Type 0
NotOver acc t = Each (λ x. starts t.thread.who.path x.thread.who.path ≡ false) acc

insert_on : (t : Task) (xs acc : List Task) → NotOver acc t → inserted t (xs ++ acc) ≡ inserted t xs ++ acc
insert_on t [] [] h = refl
insert_on t [] (y ∷ acc) h = subst (λ b. cond b (y ∷ inserted t acc) (t ∷ y ∷ acc) ≡ t ∷ y ∷ acc) (sym h.0) refl
insert_on t (x ∷ xs) acc h = insert_by (starts t.thread.who.path x.thread.who.path) (insert_on t xs acc h)
  where
    insert_by : (b : Bool) → inserted t (xs ++ acc) ≡ inserted t xs ++ acc → cond b (x ∷ inserted t (xs ++ acc)) (t ∷ x ∷ (xs ++ acc)) ≡
        cond b (x ∷ inserted t xs) (t ∷ x ∷ xs) ++ acc
    insert_by true e = ap (λ z. x ∷ z) e
    insert_by false e = refl

pub ordered_on : (xs acc ts : List Task) → Each (NotOver acc) ts → ordered (xs ++ acc) ts ≡ ordered xs ts ++ acc
ordered_on xs acc [] h = refl
ordered_on xs acc (t ∷ ts) h = ap (λ z. ordered z ts) (insert_on t xs acc h.0) ∙ ordered_on (inserted t xs) acc ts h.1

pub ordered_apart : (xs ys : List Task) → Each (NotOver (ordered [] xs)) ys → ordered [] (xs ++ ys) ≡ ordered [] ys ++ ordered [] xs
ordered_apart xs ys h = ordered_both [] xs ys ∙ ordered_on [] (ordered [] xs) ys h

pub insert_last : (t : Task) (xs : List Task) → Each (λ x. starts t.thread.who.path x.thread.who.path ≡ true) xs →
    inserted t xs ≡ xs ++ t ∷ []
insert_last t [] h = refl
insert_last t (x ∷ xs) h = subst (λ b. cond b (x ∷ inserted t xs) (t ∷ x ∷ xs) ≡ x ∷ (xs ++ t ∷ [])) (sym h.0)
    (ap (λ z. x ∷ z) (insert_last t xs h.1))

pub gone_onto : (f : List ℕ → Bool) (ts pre : List Task) → Each (λ t. f t.thread.who.path ≡ true) ts → gone_before f (onto ts pre) ≡
    ordered (gone_before f pre) ts
gone_onto f [] pre h = refl
gone_onto f (t ∷ ts) pre h = gone_onto f ts (t ∷ pre) h.1 ∙
    ap (λ z. ordered z ts) (subst (λ b. cond b (inserted t (gone_before f pre)) (gone_before f pre) ≡ inserted t (gone_before f pre))
    (sym h.0) refl)

pub gone_none : (f : List ℕ → Bool) (ts : List Task) → Each (λ t. f t.thread.who.path ≡ false) ts → gone_before f ts ≡ []
gone_none f [] h = refl
gone_none f (t ∷ ts) h = subst (λ b. cond b (inserted t (gone_before f ts)) (gone_before f ts) ≡ []) (sym h.0) (gone_none f ts h.1)

pub gone_none_behind : (f : List ℕ → Bool) (ts : List Task) → Each (λ t. f t.thread.who.path ≡ false) ts → gone_behind f ts ≡ []
gone_none_behind f [] h = refl
gone_none_behind f (t ∷ ts) h = subst (λ b. cond b (t ∷ gone_behind f ts) (gone_behind f ts) ≡ []) (sym h.0) (gone_none_behind f ts h.1)
