-- What holds of what is read.
use Rattle.std.proofs.Common.{◌≡◌, ℕ, zero, suc, ◌-◌, ◌<◌, ◌≤◌, Bool, true, false, cond, ltb, leb, ◌&&◌, List}
use Rattle.std.proofs.Common.{[], ◌∷◌, length, take}
use Rattle.std.proofs.Common.{Option, Some, None, slice_get, Result, Ok, Err, refl, sym, ap, subst, ◌∙◌, arith}
use Rattle.std.proofs.lemmas.Bool.{ltb-true, leb-true, ltb-false}
use Rattle.std.specs.Prelude.{ℤ}
use Rattle.verse_base.proofs.Facts.{and_first, and_second}
use Rattle.verse_image.specs.declared.faults.Flaw.{Flaw}
use Rattle.verse_image.specs.Numbers.{IsBytes}
use Rattle.verse_image.specs.Reading.{◌>>=◌, Reader, flaw, integer_at}
use Rattle.verse_image.proofs.NumberLaws.{digits_take, integer_take}
use Rattle.run_save_format.specs.Values.{wide_at, number_in, small_where, optional_at, none_or, chosen, choice_at}
use Rattle.run_save_format.specs.Values.{each_at, flag_at, small_at}
use Rattle.run_save_format.specs.Reading.{many_at, maybe_at}

abbrev pub Meets : {A : Type 0} → (A → Type 0) → Result A Flaw → Type 0
Meets P (Ok x) = P x
Meets P (Err f) = Unit {0}

pub meets_then : {A B : Type 0} (P : A → Type 0) (Q : B → Type 0) (r : Result A Flaw) (f : A → Result B Flaw) → Meets P r →
    ((x : A) → P x → Meets Q (f x)) → Meets Q (r >>= f)
meets_then P Q (Ok x) f p h = h x p
meets_then P Q (Err e) f p h = tt

-- what is given where a test is passed, and where it is not
pub meets_if : {A : Type 0} (Q : A → Type 0) (b : Bool) (r : Result A Flaw) (e : Flaw) → (b ≡ true → Meets Q r) →
    Meets Q (cond b r (Err e))
meets_if Q true r e h = h refl
meets_if Q false r e h = tt

pub meets_else : {A : Type 0} (Q : A → Type 0) (b : Bool) (e : Flaw) (r : Result A Flaw) → (b ≡ false → Meets Q r) →
    Meets Q (cond b (Err e) r)
meets_else Q true e r h = tt
meets_else Q false e r h = h refl

pub meets_of : {A : Type 0} (P : A → Type 0) (r : Result A Flaw) → ((x : A) → r ≡ Ok x → P x) → Meets P r
meets_of P (Ok x) h = h x refl
meets_of P (Err e) h = tt

pub meets_is : {A : Type 0} (P : A → Type 0) (r : Result A Flaw) (x : A) → r ≡ Ok x → Meets P r → P x
meets_is P (Ok y) x e p = let same : y ≡ x = cc in subst P same p
meets_is P (Err f) x e p = absurd (cc)

pub meets_as : {A : Type 0} (P Q : A → Type 0) (r : Result A Flaw) → ((x : A) → P x → Q x) → Meets P r → Meets Q r
meets_as P Q (Ok x) h p = h x p
meets_as P Q (Err e) h p = tt

-- with bytes behind it
abbrev pub And : {A : Type 0} → (A → Type 0) → A × List ℕ → Type 0
And P x = P x.0 × IsBytes x.1

abbrev pub Reads : {A : Type 0} → (A → Type 0) → Reader A → Type 0
Reads P read = (bytes : List ℕ) → IsBytes bytes → Meets (And P) (read bytes)

any_chosen : {A : Type 0} (left : ℕ) (o : Option A) → Meets (λ (x : A). Unit {0}) (chosen left o)
any_chosen left None = tt
any_chosen left (Some x) = tt

-- ---- numbers

pub reads_wide : Reads (λ (n : ℕ). Unit {0}) wide_at
unfolding wide_at
reads_wide bytes b =
    meets_of (And (λ (n : ℕ). Unit {0})) (wide_at bytes)
    (λ x e. (tt, (digits_take 10 18446744073709551616 (length bytes) bytes x (omega arith) b e).fits))

pub reads_integer : Reads (λ (n : ℤ). Unit {0}) integer_at
reads_integer bytes b = meets_of (And (λ (n : ℤ). Unit {0})) (integer_at bytes) (λ x e. (tt, (integer_take bytes x b e).fits))

pub reads_in : (rule least most : ℕ) → Reads (λ n. (least ≤ n) × (n ≤ most)) (number_in rule least most)
unfolding number_in
reads_in rule least most bytes b =
    meets_then (And (λ (n : ℕ). Unit {0})) (And (λ n. (least ≤ n) × (n ≤ most))) (wide_at bytes)
    (λ n. cond (leb least n.0 && leb n.0 most) (Ok n) (Err (flaw rule (length bytes)))) (reads_wide bytes b)
    (λ n p. meets_if (And (λ n. (least ≤ n) × (n ≤ most))) (leb least n.0 && leb n.0 most) (Ok n) (flaw rule (length bytes))
    (λ t. ((leb-true _ _ (and_first _ _ t), leb-true _ _ (and_second _ _ t)), p.1)))

pub reads_flag : Reads (λ n. (0 ≤ n) × (n ≤ 1)) flag_at
reads_flag = reads_in 4 0 1

pub reads_small : Reads (λ n. (0 ≤ n) × (n ≤ 4294967295)) small_at
reads_small = reads_in 4 0 4294967295

pub reads_where : (test : ℕ → Bool) → Reads (λ n. test n ≡ true) (small_where test)
unfolding small_where
reads_where test bytes b =
    meets_then (And (λ n. (0 ≤ n) × (n ≤ 4294967295))) (And (λ n. test n ≡ true)) (small_at bytes)
    (λ n. cond (test n.0) (Ok n) (Err (flaw 5 (length bytes)))) (reads_small bytes b)
    (λ n p. meets_if (And (λ n. test n ≡ true)) (test n.0) (Ok n) (flaw 5 (length bytes)) (λ t. (t, p.1)))

pub reads_optional : Reads (λ (n : Option ℕ). Unit {0}) optional_at
unfolding optional_at
reads_optional bytes b =
    meets_then (And (λ n. (0 ≤ n) × (n ≤ 4294967296))) (And (λ (n : Option ℕ). Unit {0})) (number_in 4 0 4294967296 bytes)
    (λ n. Ok (none_or n.0, n.1)) (reads_in 4 0 4294967296 bytes b) (λ n p. (tt, p.1))

pub reads_choice : {A : Type 0} (forms : List A) → Reads (λ (x : A). Unit {0}) (choice_at forms)
unfolding choice_at
reads_choice {A} forms bytes b =
    meets_then (And (λ (n : ℕ). Unit {0})) (And (λ (x : A). Unit {0})) (wide_at bytes)
    (λ n. chosen (length bytes) (slice_get forms n.0) >>= λ form. Ok (form, n.1)) (reads_wide bytes b)
    (λ n p. meets_then (λ (x : A). Unit {0}) (And (λ (x : A). Unit {0})) (chosen (length bytes) (slice_get forms n.0))
    (λ form. Ok (form, n.1))
    (any_chosen (length bytes) (slice_get forms n.0)) (λ form q. (tt, p.1)))

-- ---- lists

-- one after the other, from a state to a state
abbrev pub Steps : {A S : Type 0} → (S → A → S → Type 0) → S → List A → S → Type 0
Steps One s [] t = s ≡ t
Steps {A} {S} One s (x ∷ xs) t = (u : S) × One s x u × Steps One u xs t

-- from a state on
abbrev pub ReadsFrom : {A S : Type 0} → (S → A → S → Type 0) → S → Reader (A × S) → Type 0
ReadsFrom One s read = Reads (λ x. One s x.0 x.1) read

pub reads_each : {A S : Type 0} (One : S → A → S → Type 0) (one : S → Reader (A × S)) → ((s : S) → ReadsFrom One s (one s)) → (n : ℕ) →
    (s : S) → ReadsFrom (λ s xs t. (length xs ≡ n) × Steps One s xs t) s (each_at one n s)
unfolding each_at
reads_each One one h zero s bytes b = ((refl, refl), b)
reads_each {A} {S} One one h (suc n) s bytes b =
    let All : S → List A → S → Type 0 = λ s xs t. (length xs ≡ suc n) × Steps One s xs t in
    meets_then (And (λ x. One s x.0 x.1)) (And (λ x. All s x.0 x.1)) (one s bytes)
    (λ first. each_at one n first.0.1 first.1 >>= λ others. Ok ((first.0.0 ∷ others.0.0, others.0.1), others.1)) (h s bytes b)
    (λ first p. meets_then (And (λ x. (length x.0 ≡ n) × Steps One first.0.1 x.0 x.1)) (And (λ x. All s x.0 x.1))
    (each_at one n first.0.1 first.1) (λ others. Ok ((first.0.0 ∷ others.0.0, others.0.1), others.1))
    (reads_each One one h n first.0.1 first.1 p.1)
    (λ others q. ((ap suc q.0.0, (first.0.1, p.0, q.0.1)), q.1)))

abbrev pub Every : {A : Type 0} → (A → Type 0) → List A → Type 0
Every P [] = Unit {0}
Every P (x ∷ xs) = P x × Every P xs

pub reads_many : {A : Type 0} (P : A → Type 0) (one : Reader A) → Reads P one → (n : ℕ) →
    Reads (λ xs. (length xs ≡ n) × Every P xs) (many_at one n)
unfolding many_at
reads_many P one h zero bytes b = ((refl, tt), b)
reads_many {A} P one h (suc n) bytes b =
    meets_then (And P) (And (λ xs. (length xs ≡ suc n) × Every P xs)) (one bytes)
    (λ first. many_at one n first.1 >>= λ others. Ok (first.0 ∷ others.0, others.1)) (h bytes b)
    (λ first p. meets_then (And (λ xs. (length xs ≡ n) × Every P xs)) (And (λ xs. (length xs ≡ suc n) × Every P xs))
    (many_at one n first.1) (λ others. Ok (first.0 ∷ others.0, others.1)) (reads_many P one h n first.1 p.1)
    (λ others q. ((ap suc q.0.0, (p.0, q.0.1)), q.1)))
