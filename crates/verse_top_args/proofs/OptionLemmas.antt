-- What the first words give, and that words give the options in one way.
use Rattle.std.proofs.Common.{◌≡◌, ℕ, ◌≤◌, true, false, Option, Some, None, List, [], ◌∷◌, codes, refl, sym, ◌∙◌, ap, subst, arith, length}
use Rattle.std.proofs.Common.{map}
use Rattle.verse_top_args.specs.Words.{Given, Gives, IsNumber, none_left, steps, until, inputs}
use Rattle.verse_top_args.specs.Words.{heap}
use Rattle.verse_top_args.specs.Settings.{Continues}
use Rattle.verse_top_args.proofs.NumberLemmas.{number_once}
use Rattle.std.proofs.lemmas.Slice.Eq.{bytes_eq-Decides}
use Rattle.std.specs.Str.{bytes_eq}

abbrev Words : Type 0
Words = List (List ℕ)

-- no word is two different texts
apart : (a b word : List ℕ) → bytes_eq a b ≡ false → word ≡ a → word ≡ b → ⊥
apart a b word different e f = let same : bytes_eq a b ≡ true = (bytes_eq-Decides a b).1 (sym e ∙ f) in cc

record Steps (g : Given) (behind : Words) (h : Given) : Type 0 where
  value : List ℕ
  words : Words
  n : ℕ
  is : behind ≡ value ∷ words
  fresh : g.steps ≡ None
  number : IsNumber 100000000 value n
  on : Gives (record g { steps = Some n }) words h

record Until (g : Given) (behind : Words) (h : Given) : Type 0 where
  value : List ℕ
  words : Words
  n : ℕ
  is : behind ≡ value ∷ words
  fresh : g.until ≡ None
  number : IsNumber 1000000000000 value n
  on : Gives (record g { until = Some n }) words h

record Inputs (g : Given) (behind : Words) (h : Given) : Type 0 where
  value : List ℕ
  words : Words
  is : behind ≡ value ∷ words
  fresh : g.inputs ≡ None
  on : Gives (record g { inputs = Some value }) words h

record Heap (g : Given) (behind : Words) (h : Given) : Type 0 where
  fresh : g.heap ≡ false
  on : Gives (record g { heap = true }) behind h

-- what stands first
data First (g : Given) (word : List ℕ) (behind : Words) (h : Given) : Type 0 where
  first_steps : word ≡ codes "--steps" → Steps g behind h → First g word behind h
  first_until : word ≡ codes "--until" → Until g behind h → First g word behind h
  first_inputs : word ≡ codes "--in" → Inputs g behind h → First g word behind h
  first_heap : word ≡ codes "--heap" → Heap g behind h → First g word behind h

first : {g h : Given} {words : Words} → Gives g words h → (word : List ℕ) (behind : Words) → words ≡ word ∷ behind → First g word behind h
first none_left word behind e = cc
first (steps {g = g} {h = h} {value = value} {words = words} n fresh number on) word behind e =
    let p : Steps g behind h = record { value = value; words = words; n = n; is = cc; fresh = fresh; number = number; on = on } in
    first_steps (cc) p
first (until {g = g} {h = h} {value = value} {words = words} n fresh number on) word behind e =
    let p : Until g behind h = record { value = value; words = words; n = n; is = cc; fresh = fresh; number = number; on = on } in
    first_until (cc) p
first (inputs {g = g} {h = h} {value = value} {words = words} fresh on) word behind e =
    let p : Inputs g behind h = record { value = value; words = words; is = cc; fresh = fresh; on = on } in first_inputs (cc) p
first (heap {g = g} {h = h} {words = words} fresh on) word behind e =
    let same : words ≡ behind = cc in
    let p : Heap g behind h = record { fresh = fresh; on = subst (λ ws. Gives (record g { heap = true }) ws h) same on } in
    first_heap (cc) p

at_steps : {g h : Given} {behind : Words} {word : List ℕ} → First g word behind h → word ≡ codes "--steps" → Steps g behind h
at_steps (first_steps w p) e = p
at_steps {word = word} (first_until w p) e = absurd (apart (codes "--until") (codes "--steps") word refl w e)
at_steps {word = word} (first_inputs w p) e = absurd (apart (codes "--in") (codes "--steps") word refl w e)
at_steps {word = word} (first_heap w p) e = absurd (apart (codes "--heap") (codes "--steps") word refl w e)

at_until : {g h : Given} {behind : Words} {word : List ℕ} → First g word behind h → word ≡ codes "--until" → Until g behind h
at_until {word = word} (first_steps w p) e = absurd (apart (codes "--steps") (codes "--until") word refl w e)
at_until (first_until w p) e = p
at_until {word = word} (first_inputs w p) e = absurd (apart (codes "--in") (codes "--until") word refl w e)
at_until {word = word} (first_heap w p) e = absurd (apart (codes "--heap") (codes "--until") word refl w e)

at_inputs : {g h : Given} {behind : Words} {word : List ℕ} → First g word behind h → word ≡ codes "--in" → Inputs g behind h
at_inputs {word = word} (first_steps w p) e = absurd (apart (codes "--steps") (codes "--in") word refl w e)
at_inputs {word = word} (first_until w p) e = absurd (apart (codes "--until") (codes "--in") word refl w e)
at_inputs (first_inputs w p) e = p
at_inputs {word = word} (first_heap w p) e = absurd (apart (codes "--heap") (codes "--in") word refl w e)

at_heap : {g h : Given} {behind : Words} {word : List ℕ} → First g word behind h → word ≡ codes "--heap" → Heap g behind h
at_heap {word = word} (first_steps w p) e = absurd (apart (codes "--steps") (codes "--heap") word refl w e)
at_heap {word = word} (first_until w p) e = absurd (apart (codes "--until") (codes "--heap") word refl w e)
at_heap {word = word} (first_inputs w p) e = absurd (apart (codes "--in") (codes "--heap") word refl w e)
at_heap (first_heap w p) e = p

at_end : {g h : Given} {words : Words} → Gives g words h → words ≡ [] → g ≡ h
at_end none_left e = refl
at_end (steps n fresh number on) e = cc
at_end (until n fresh number on) e = cc
at_end (inputs fresh on) e = cc
at_end (heap fresh on) e = cc

-- words give the options in one way
pub gives_once : {g h k : Given} {words : Words} → Gives g words h → Gives g words k → h ≡ k
gives_once none_left other = at_end other refl
gives_once {k = k} (steps {g = g} {value = value} {words = words} n fresh number on) other =
    let p = at_steps (first other _ _ refl) refl in
    let word : p.value ≡ value = cc in
    let same : p.n ≡ n = number_once 100000000 value p.n n (omega arith) (subst (λ w. IsNumber 100000000 w p.n) word p.number) number in
    let rest : p.words ≡ words = cc in
    gives_once on (subst (λ ws. Gives (record g { steps = Some n }) ws k) rest
    (subst (λ m. Gives (record g { steps = Some m }) p.words k) same p.on))
gives_once {k = k} (until {g = g} {value = value} {words = words} n fresh number on) other =
    let p = at_until (first other _ _ refl) refl in
    let word : p.value ≡ value = cc in
    let same : p.n ≡ n = number_once 1000000000000 value p.n n (omega arith) (subst (λ w. IsNumber 1000000000000 w p.n) word p.number)
    number in
    let rest : p.words ≡ words = cc in
    gives_once on (subst (λ ws. Gives (record g { until = Some n }) ws k) rest
    (subst (λ m. Gives (record g { until = Some m }) p.words k) same p.on))
gives_once {k = k} (inputs {g = g} {value = value} {words = words} fresh on) other =
    let p = at_inputs (first other _ _ refl) refl in
    let word : p.value ≡ value = cc in
    let rest : p.words ≡ words = cc in
    gives_once on (subst (λ ws. Gives (record g { inputs = Some value }) ws k) rest
    (subst (λ w. Gives (record g { inputs = Some w }) p.words k) word p.on))
gives_once (heap fresh on) other = let p = at_heap (first other _ _ refl) refl in gives_once on p.on

-- the first word that is left is taken, with its value
pub on_steps : (g now : Given) (word value : List ℕ) (behind left : Words) (n : ℕ) → word ≡ codes "--steps" → behind ≡ value ∷ left →
    g.steps ≡ None → IsNumber 100000000 value n → now ≡ record g { steps = Some n } → Continues g (word ∷ behind) now left
on_steps g now word value behind left n w split fresh number e h = (
  λ (a : Gives g (word ∷ behind) h). (
      let p = at_steps (first a word behind refl) w in
      let same : p.value ≡ value = cc in
      let m : p.n ≡ n = number_once 100000000 value p.n n (omega arith) (subst (λ v. IsNumber 100000000 v p.n) same p.number) number in
      let rest : p.words ≡ left = cc in
      let given : record g { steps = Some p.n } ≡ now = ap (λ k. record g { steps = Some k }) m ∙ sym e in
      subst (λ k. Gives k left h) given (subst (λ ws. Gives (record g { steps = Some p.n }) ws h) rest p.on)),
  λ (b : Gives now left h). (
      let words : codes "--steps" ∷ value ∷ left ≡ word ∷ behind = cc in
      subst (λ ws. Gives g ws h) words (steps n fresh number (subst (λ k. Gives k left h) e b))),
)

pub on_until : (g now : Given) (word value : List ℕ) (behind left : Words) (n : ℕ) → word ≡ codes "--until" → behind ≡ value ∷ left →
    g.until ≡ None → IsNumber 1000000000000 value n → now ≡ record g { until = Some n } → Continues g (word ∷ behind) now left
on_until g now word value behind left n w split fresh number e h = (
  λ (a : Gives g (word ∷ behind) h). (
      let p = at_until (first a word behind refl) w in
      let same : p.value ≡ value = cc in
      let m : p.n ≡ n = number_once 1000000000000 value p.n n (omega arith) (subst (λ v. IsNumber 1000000000000 v p.n) same p.number) number
      in
      let rest : p.words ≡ left = cc in
      let given : record g { until = Some p.n } ≡ now = ap (λ k. record g { until = Some k }) m ∙ sym e in
      subst (λ k. Gives k left h) given (subst (λ ws. Gives (record g { until = Some p.n }) ws h) rest p.on)),
  λ (b : Gives now left h). (
      let words : codes "--until" ∷ value ∷ left ≡ word ∷ behind = cc in
      subst (λ ws. Gives g ws h) words (until n fresh number (subst (λ k. Gives k left h) e b))),
)

pub on_inputs : (g now : Given) (word value : List ℕ) (behind left : Words) → word ≡ codes "--in" → behind ≡ value ∷ left →
    g.inputs ≡ None → now ≡ record g { inputs = Some value } → Continues g (word ∷ behind) now left
on_inputs g now word value behind left w split fresh e h = (
  λ (a : Gives g (word ∷ behind) h). (
      let p = at_inputs (first a word behind refl) w in
      let same : p.value ≡ value = cc in
      let rest : p.words ≡ left = cc in
      let given : record g { inputs = Some p.value } ≡ now = ap (λ k. record g { inputs = Some k }) same ∙ sym e in
      subst (λ k. Gives k left h) given (subst (λ ws. Gives (record g { inputs = Some p.value }) ws h) rest p.on)),
  λ (b : Gives now left h). (
      let words : codes "--in" ∷ value ∷ left ≡ word ∷ behind = cc in
      subst (λ ws. Gives g ws h) words (inputs fresh (subst (λ k. Gives k left h) e b))),
)

pub on_heap : (g now : Given) (word : List ℕ) (left : Words) → word ≡ codes "--heap" → g.heap ≡ false → now ≡ record g { heap = true } →
    Continues g (word ∷ left) now left
on_heap g now word left w fresh e h = (
  λ (a : Gives g (word ∷ left) h). (
      let p = at_heap (first a word left refl) w in
      subst (λ k. Gives k left h) (sym e) p.on),
  λ (b : Gives now left h). (
      subst (λ v. Gives g (v ∷ left) h) (sym w) (heap fresh (subst (λ k. Gives k left h) e b))),
)

-- no words are left
pub all_taken : {A : Type 0} → (text : A → List ℕ) (g now : Given) (words : Words) (left : List A) → length left ≡ 0 →
    Continues g words now (map text left) → Gives g words now
all_taken text g now words [] e on = (on now).1 none_left
all_taken text g now words (a ∷ left) e on = absurd (omega arith)

abbrev pub AtMost : ℕ → Option ℕ → Type 0
AtMost most None = Unit {0}
AtMost most (Some n) = n ≤ most

-- each number that is given is within its limit
pub given_within : {g h : Given} {words : List (List ℕ)} → Gives g words h → AtMost 100000000 g.steps → AtMost 1000000000000 g.until →
    AtMost 100000000 h.steps × AtMost 1000000000000 h.until
given_within none_left a b = (a, b)
given_within (steps n fresh number on) a b = given_within on number.within b
given_within (until n fresh number on) a b = given_within on a number.within
given_within (inputs fresh on) a b = given_within on a b
given_within (heap fresh on) a b = given_within on a b
