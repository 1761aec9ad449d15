-- What the arms of a group gave, one after the other.
use Rattle.std.proofs.Common.{◌≡◌, ◌≢◌, ℕ, List, [], ◌∷◌, ◌++◌, map, reverse, Option, Some, None, is_some, refl, sym, ap, ◌∙◌}
use Rattle.std.proofs.lemmas.List.{append-nil, reverse-append, map-append}
use Rattle.verse_value.specs.Val.{Val}
use Rattle.verse_value.specs.View.{val_of, vals_of}
use Rattle.verse_value.specs.declared.values.Value.{Value}
use Rattle.verse_code_machine.specs.Tasks.{Part, did, runs}
use Rattle.verse_code_machine.specs.Frames.{behind}
use Rattle.verse_code_machine.specs.Ends.{all_did, first_did}
use Rattle.vm_tasks.specs.declared.slots.Arm.{Arm}
use Rattle.vm_tasks.specs.declared.slots.Arm.TheVariants.{Did, Runs}
use Rattle.vm_tasks.specs.View.{part_of}

pub behind_some : (v : Val) (o : Option (List Val)) → is_some (behind v o) ≡ is_some o
behind_some v None = refl
behind_some v (Some vs) = refl

-- the first value, or another

abbrev pub first_or : List Part → Option Val → Option Val
first_or [] o = o
first_or (did v ∷ gs) o = Some v
first_or (runs n ∷ gs) o = first_or gs o

pub first_none : (gs : List Part) → first_or gs None ≡ first_did gs
first_none [] = refl
first_none (did v ∷ gs) = refl
first_none (runs n ∷ gs) = first_none gs

first_last : (gs : List Part) (v : Val) (o : Option Val) → first_or (gs ++ did v ∷ []) o ≡ first_or gs (Some v)
first_last [] v o = refl
first_last (did w ∷ gs) v o = refl
first_last (runs n ∷ gs) v o = first_last gs v o

first_past : (gs : List Part) (n : ℕ) (o : Option Val) → first_or (gs ++ runs n ∷ []) o ≡ first_or gs o
first_past [] n o = refl
first_past (did w ∷ gs) n o = refl
first_past (runs k ∷ gs) n o = first_past gs n o

pub first_did_last : (arms rest : List Arm) (v : Value) (o : Option Val) → arms ≡ rest ++ Did v ∷ [] →
    first_or (map part_of arms) o ≡ first_or (map part_of rest) (Some (val_of v))
first_did_last arms rest v o e = ap (λ z. first_or (map part_of z) o) e ∙
    (ap (λ z. first_or z o) (map-append part_of rest (Did v ∷ [])) ∙ first_last (map part_of rest) (val_of v) o)

pub first_runs_last : (arms rest : List Arm) (n : ℕ) (o : Option Val) → arms ≡ rest ++ Runs n ∷ [] →
    first_or (map part_of arms) o ≡ first_or (map part_of rest) o
first_runs_last arms rest n o e = ap (λ z. first_or (map part_of z) o) e ∙
    (ap (λ z. first_or z o) (map-append part_of rest (Runs n ∷ [])) ∙ first_past (map part_of rest) n o)

-- the values of all, before others

abbrev pub with_more : Option (List Val) → List Val → Option (List Val)
with_more None vs = None
with_more (Some us) vs = Some (us ++ vs)

pub with_none : (o : Option (List Val)) → with_more o [] ≡ o
with_none None = refl
with_none (Some us) = ap (λ z. Some z) (append-nil us)

behind_more : (v : Val) (o : Option (List Val)) (vs : List Val) → with_more (behind v o) vs ≡ behind v (with_more o vs)
behind_more v None vs = refl
behind_more v (Some us) vs = refl

all_last : (gs : List Part) (v : Val) (vs : List Val) → with_more (all_did (gs ++ did v ∷ [])) vs ≡ with_more (all_did gs) (v ∷ vs)
all_last [] v vs = refl
all_last (did w ∷ gs) v vs = behind_more w (all_did (gs ++ did v ∷ [])) vs ∙
    (ap (λ z. behind w z) (all_last gs v vs) ∙ sym (behind_more w (all_did gs) (v ∷ vs)))
all_last (runs n ∷ gs) v vs = refl

all_not : (gs : List Part) (n : ℕ) → all_did (gs ++ runs n ∷ []) ≡ None
all_not [] n = refl
all_not (did w ∷ gs) n = ap (λ z. behind w z) (all_not gs n)
all_not (runs k ∷ gs) n = refl

vals_append : (a b : List Value) → vals_of (a ++ b) ≡ vals_of a ++ vals_of b
vals_append [] b = refl
vals_append (x ∷ a) b = ap (λ w. val_of x ∷ w) (vals_append a b)

pub all_did_last : (arms rest : List Arm) (v : Value) (values more : List Value) → arms ≡ rest ++ Did v ∷ [] → more ≡ values ++ v ∷ [] →
    with_more (all_did (map part_of arms)) (vals_of (reverse values)) ≡ with_more (all_did (map part_of rest)) (vals_of (reverse more))
all_did_last arms rest v values more e is =
    ap (λ z. with_more (all_did (map part_of z)) (vals_of (reverse values))) e ∙
    (ap (λ z. with_more (all_did z) (vals_of (reverse values))) (map-append part_of rest (Did v ∷ [])) ∙
    (all_last (map part_of rest) (val_of v) (vals_of (reverse values)) ∙ ap (λ z. with_more (all_did (map part_of rest)) (vals_of z))
    (sym (ap (λ z. reverse z) is ∙ reverse-append values (v ∷ [])))))

pub all_runs_last : (arms rest : List Arm) (n : ℕ) (values : List Value) (o : Option (List Val)) → arms ≡ rest ++ Runs n ∷ [] →
    with_more (all_did (map part_of arms)) (vals_of (reverse values)) ≡ o → o ≢ None → ⊥
all_runs_last arms rest n values o e is some =
    some (sym is ∙ (ap (λ z. with_more (all_did (map part_of z)) (vals_of (reverse values))) e ∙
    (ap (λ z. with_more (all_did z) (vals_of (reverse values))) (map-append part_of rest (Runs n ∷ [])) ∙
    ap (λ z. with_more z (vals_of (reverse values))) (all_not (map part_of rest) n))))
