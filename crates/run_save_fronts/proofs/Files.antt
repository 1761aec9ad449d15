-- A front that reaches to a failing place begins with the line that all begin with; and so it has no fault.
use Rattle.std.proofs.Common.{◌≡◌, ℕ, zero, suc, ◌<◌, ◌≤◌, Bool, true, false, eqb, ◌&&◌, ◌||◌, ◌⊎◌, inl, inr, List, [], ◌∷◌, ◌++◌}
use Rattle.std.proofs.Common.{length, if◌then◌else◌, Result, Ok, Err, refl, sym, ap, subst, ◌∙◌, arith}
use Rattle.std.proofs.lemmas.Bool.{and_parts, eqb-true}
use Rattle.verse_code.specs.declared.codes.Code.{Code}
use Rattle.verse_image.specs.declared.faults.Flaw.{Flaw}
use Rattle.verse_image.specs.Reading.{◌>>=◌, flaw}
use Rattle.run_save_shots.specs.Kept.{Kept}
use Rattle.run_save_format.specs.Faults.{FrontOf, FrontHasNoFault}
use Rattle.run_save_format.specs.Format.{saved_word}
use Rattle.run_save_format.specs.Whole.{behind_word, start_at, run_at, file_at}
use Rattle.run_save_fronts.proofs.Staying.{Stays, reads, ends, fails, no_code, breaks}
use Rattle.run_save_fronts.proofs.Whole.{run_stays}

-- ---- the word

-- a word that stands in a front stands in all
word_stays : (word front more : List ℕ) → behind_word word front ≡ true → behind_word word (front ++ more) ≡ true
word_stays [] front more e = refl
word_stays (w ∷ word) [] more e = absurd (cc)
word_stays (w ∷ word) (b ∷ front) more e =
    let both = and_parts (eqb w b) (behind_word word front) e in
    let on = word_stays word front more both.1 in
    let first = both.0 in
    rw (first, on) refl

-- no byte of it ends a line
abbrev HasNoFeed : List ℕ → Type 0
HasNoFeed [] = Unit {0}
HasNoFeed (w ∷ word) = (eqb w 10 ≡ false) × HasNoFeed word

-- a word that the front cuts short is all of the front, and no line ends there
cut_word : (word front more : List ℕ) → HasNoFeed word → behind_word word front ≡ false → behind_word word (front ++ more) ≡ true →
    start_at false true front ≡ Err (flaw 1 0)
unfolding start_at
cut_word [] front more p e h = absurd (cc)
cut_word (w ∷ word) [] more p e h = refl
cut_word (w ∷ word) (b ∷ front) more p e h =
    let both = and_parts (eqb w b) (behind_word word (front ++ more)) h in
    let same : w ≡ b = eqb-true w b both.0 in
    let feed : eqb b 10 ≡ false = subst (λ n. eqb n 10 ≡ false) same p.0 in
    let first = both.0 in
    let rest : behind_word word front ≡ false = subst (λ t. t && behind_word word front ≡ false) first e in
    rw feed (cut_word word front more p.1 rest both.1)

-- ---- the line

-- behind a byte: whether the line begins with the word, and whether it ends
abbrev step : (word feed : Bool) → List ℕ → Result (List ℕ) Flaw
step word feed file = if word then (if feed then Ok file else start_at false true file) else start_at feed false file

-- what stands behind a line is shorter than the bytes with it
shorter_behind : (word feed : Bool) (file bytes : List ℕ) →
    ((begins is : Bool) → start_at begins is file ≡ Ok bytes → length bytes < length file) → step word feed file ≡ Ok bytes →
    length bytes < suc (length file)
shorter_behind true true file bytes on e = let same : file ≡ bytes = cc in rw same (omega arith)
shorter_behind true false file bytes on e = let low = on false true e in omega arith
shorter_behind false feed file bytes on e = let low = on feed false e in omega arith

start_shorter : (begins is : Bool) (file bytes : List ℕ) → start_at begins is file ≡ Ok bytes → length bytes < length file
unfolding start_at
start_shorter begins is [] bytes e = absurd (cc)
start_shorter begins is (b ∷ file) bytes e =
    shorter_behind (is || begins && behind_word saved_word (b ∷ file)) (eqb b 10) file bytes
    (λ begins is h. start_shorter begins is file bytes h) e

-- without such a line nothing is left
none_behind : (word feed : Bool) (file : List ℕ) (f : Flaw) → ((begins is : Bool) → start_at begins is file ≡ Err f → f.left ≡ 0) →
    step word feed file ≡ Err f → f.left ≡ 0
none_behind true true file f on e = absurd (cc)
none_behind true false file f on e = on false true e
none_behind false feed file f on e = on feed false e

no_start : (begins is : Bool) (file : List ℕ) (f : Flaw) → start_at begins is file ≡ Err f → f.left ≡ 0
unfolding start_at
no_start begins is [] f e = let same : flaw 1 0 ≡ f = cc in ap (λ (g : Flaw). g.left) (sym same)
no_start begins is (b ∷ file) f e =
    none_behind (is || begins && behind_word saved_word (b ∷ file)) (eqb b 10) file f (λ begins is h. no_start begins is file f h) e

-- what is found in all stands in a front too, but for the bytes behind the front
record Found (r : Result (List ℕ) Flaw) (more bytes : List ℕ) : Type 0 where
  behind : List ℕ
  found : r ≡ Ok behind
  same : bytes ≡ behind ++ more

abbrev Finds : (front more bytes : List ℕ) → Type 0
Finds front more bytes =
    (begins is : Bool) → start_at begins is (front ++ more) ≡ Ok bytes → Found (start_at begins is front) more bytes

same_word : (word feed : Bool) (front more bytes : List ℕ) → Finds front more bytes → step word feed (front ++ more) ≡ Ok bytes →
    Found (step word feed front) more bytes
same_word true true front more bytes on e =
    let same : front ++ more ≡ bytes = cc in record { behind = front; found = refl; same = sym same }
same_word true false front more bytes on e = on false true e
same_word false feed front more bytes on e = on feed false e

-- whether the word stands in the front, and in all
by_word : (begins is front_word word feed : Bool) (front more bytes : List ℕ) → Finds front more bytes →
    (front_word ≡ true → word ≡ true) → (front_word ≡ false → word ≡ true → step true feed front ≡ Err (flaw 1 0)) →
    step (is || begins && word) feed (front ++ more) ≡ Ok bytes → Found (step (is || begins && front_word) feed front) more bytes
by_word begins true s t feed front more bytes on longer cut e = same_word true feed front more bytes on e
by_word false false s t feed front more bytes on longer cut e = same_word false feed front more bytes on e
by_word true false true true feed front more bytes on longer cut e = same_word true feed front more bytes on e
by_word true false false false feed front more bytes on longer cut e = same_word false feed front more bytes on e
by_word true false true false feed front more bytes on longer cut e = let other = longer refl in absurd (cc)
by_word true false false true feed front more bytes on longer cut e =
    let here = same_word true feed front more bytes on e in
    let found = here.found in
    let none = cut refl refl in
    absurd (cc)

start_front : (front more bytes : List ℕ) → length more ≤ length bytes → Finds front more bytes
unfolding start_at
start_front [] more bytes low begins is e = let less = start_shorter begins is more bytes e in absurd (omega arith)
start_front (b ∷ front) more bytes low begins is e =
    by_word begins is (behind_word saved_word (b ∷ front)) (behind_word saved_word (b ∷ front ++ more)) (eqb b 10) front more bytes
    (start_front front more bytes low) (word_stays saved_word (b ∷ front) more)
    (cut_word saved_word (b ∷ front) more (refl, (refl, (refl, (refl, (refl, (refl, (refl, (refl, tt))))))))) e

-- ---- the failing place

-- no more bytes are left from it on than there are
fault_low : {more : List ℕ} {most : ℕ} {A B : Type 0} {P : A → Type 0} {h : A → Result B Flaw} {r : Result A Flaw} {s : Result B Flaw}
    (f : Flaw) → Stays more most P h r s → r ≡ Err f → f.left ≤ most
fault_low f (reads p) e = absurd (cc)
fault_low {most = most} f ends e = let same : flaw 3 0 ≡ f = cc in subst (λ (g : Flaw). g.left ≤ most) same (omega arith)
fault_low {most = most} f (fails {rule = rule} {left = left} at) e =
    let same : flaw rule left ≡ f = cc in subst (λ (g : Flaw). g.left ≤ most) same at.few
fault_low {most = most} f (no_code {left = left} low i) e =
    let same : flaw 2 left ≡ f = cc in subst (λ (g : Flaw). g.left ≤ most) same low
fault_low {most = most} f (breaks {left = left} low) e =
    let same : flaw 5 left ≡ f = cc in subst (λ (g : Flaw). g.left ≤ most) same low

abbrev Failed : Flaw → Result (Code × Kept) Flaw
Failed f = Err f

rule_is : (rule left : ℕ) (f : Flaw) → Failed (flaw rule left) ≡ Failed f → (f.rule ≡ rule) × (f.left ≡ left)
rule_is rule left f e =
    let same : flaw rule left ≡ f = cc in (ap (λ (g : Flaw). g.rule) (sym same), ap (λ (g : Flaw). g.left) (sym same))

front_is : {more : List ℕ} {most : ℕ} {P : Code × Kept → Type 0} {r s : Result (Code × Kept) Flaw} (f : Flaw) →
    Stays more most P (λ x. Err (flaw 6 (length more))) r s → s ≡ Err f → length more ≡ f.left → FrontOf f.rule r
front_is {more = more} f (reads p) e long = (rule_is 6 (length more) f e).0
front_is f ends e long = inl refl
front_is f (fails {rule = rule} {left = left} {all = all} at) e long =
    let is = (rule_is rule all f e).1 in
    let some = at.some in
    let same = at.same in
    absurd (omega arith)
front_is f (no_code {left = left} {all = all} low same) e long =
    let is = rule_is 2 all f e in
    let left_is = is.1 in
    let none : left ≡ 0 = omega arith in
    inr (inr (is.0, ap (λ n. flaw 2 n) none))
front_is {more = more} f (breaks low) e long = inr (inl ((rule_is 6 (length more) f e).0, refl))

-- of a front that ends where so many bytes are left
at_place : (f : Flaw) (file bytes front behind : List ℕ) → start_at true false file ≡ Ok bytes → run_at bytes ≡ Err f →
    f.left ≤ length bytes → 0 < f.left → file ≡ front ++ behind → length behind ≡ f.left → FrontOf f.rule (file_at front)
unfolding file_at
at_place f file bytes front [] i e low some split long = absurd (omega arith)
at_place f file bytes front (b ∷ more) i e low some split long =
    let found = start_front front (b ∷ more) bytes (omega arith) true false (ap (start_at true false) (sym split) ∙ i) in
    let rest = found.behind in
    let few : length rest ≤ length rest = omega arith in
    subst (λ (r : Result (List ℕ) Flaw). FrontOf f.rule (r >>= run_at)) (sym found.found)
    (front_is f (run_stays {b = b} {more = more} {most = length rest} rest few) (ap run_at (sym found.same) ∙ e) long)

abbrev IsFirst : List ℕ → Flaw → Type 0
IsFirst file f = (f.left ≡ 0) ⊎ ((f.left ≤ length file) × ((front behind : List ℕ) →
    file ≡ front ++ behind → length behind ≡ f.left → FrontOf f.rule (file_at front)))

-- whether bytes are left from the failing place on
first_by_left : (f : Flaw) (file bytes : List ℕ) → start_at true false file ≡ Ok bytes → run_at bytes ≡ Err f → (n : ℕ) → f.left ≡ n →
    IsFirst file f
first_by_left f file bytes i e zero left = inl left
first_by_left f file bytes i e (suc n) left =
    let few : length bytes ≤ length bytes = omega arith in
    let low = fault_low f (run_stays {b = 0} {more = []} {most = length bytes} bytes few) e in
    let less = start_shorter true false file bytes i in
    let some : 0 < f.left = omega arith in
    inr (omega arith, λ front behind split long. at_place f file bytes front behind i e low some split long)

pub front_has_no_fault : FrontHasNoFault
unfolding file_at
front_has_no_fault file f e = by_start (start_at true false file) refl e
  where
    by_start : (r : Result (List ℕ) Flaw) → start_at true false file ≡ r → (r >>= run_at) ≡ Err f → IsFirst file f
    by_start (Err g) i h = let same : g ≡ f = cc in inl (no_start true false file f (i ∙ ap (λ (k : Flaw). Err k) same))
    by_start (Ok bytes) i h = first_by_left f file bytes i h f.left refl
