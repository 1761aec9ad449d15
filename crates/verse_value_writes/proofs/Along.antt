-- A change at the end of a path.
use Rattle.std.proofs.Common.{◌≡◌, List, [], ◌∷◌, refl, sym, ap, subst, ◌∙◌}
use Rattle.verse_value.specs.Val.{Val, unit, falsity, truth, int, char, enum, object, event, task, some, array, mapping, tuple, Vals}
use Rattle.verse_value.specs.Val.{no_vals, more_vals, Pairs, no_pairs, more_pairs}
use Rattle.verse_value.specs.Parts.{joined, first}
use Rattle.verse_value.specs.Operations.{count}
use Rattle.verse_value.specs.declared.keys.Key.{Key}
use Rattle.verse_value.specs.Places.{Step, part, outside, absent, misfit, step_in, End, there, new_key, nowhere, unfit, end_from, end_of}
use Rattle.verse_value.specs.Places.{at_absent, Change, put, push, pop, extend, shorten, applied, changed_here, Allows, HasKeys, LacksKey}
use Rattle.verse_value.specs.Places.{with_last}
use Rattle.verse_value.proofs.Seen.{without_with}
use Rattle.verse_value_writes.specs.Growing.{grown, parts_there}
use Rattle.verse_value_writes.proofs.Inside.{Inside, inside}

-- where a path leads to a value, its first index leads to a part
abbrev Leads : Val → Val → List Val → Val → Type 0
Leads v i path w = (x : Val) × (step_in v i ≡ part x) × (end_of path x ≡ there w)

absent_never : (path : List Val) (w : Val) → at_absent path ≡ there w → ⊥
absent_never [] w e = cc
absent_never (i ∷ path) w e = cc

leads_cases : (v i : Val) (path : List Val) (w : Val) (s : Step) → step_in v i ≡ s → end_from s path (end_of path) ≡ there w →
    Leads v i path w
leads_cases v i path w (part x) h e = (x, h, e)
leads_cases v i path w outside h e = absurd (cc)
leads_cases v i path w absent h e = absurd (absent_never path w e)
leads_cases v i path w misfit h e = absurd (cc)

leads : (v i : Val) (path : List Val) (w : Val) → end_of (i ∷ path) v ≡ there w → Leads v i path w
leads v i path w e = leads_cases v i path w (step_in v i) refl e

-- the path leads to what was made of the value that stood there
pub lands : (path : List Val) (change : Change) (v w : Val) → end_of path v ≡ there w →
    end_of path (applied path change v) ≡ there (changed_here change w)
lands [] change v w e = let same : v ≡ w = cc in ap (λ x. there (changed_here change x)) same
lands (i ∷ path) change v w e =
    let l : Leads v i path w = leads v i path w e in
    let is : Inside v i l.0 = inside v i l.0 l.1 in
    ap (λ s. end_from s path (end_of path)) (is.step (applied path change)) ∙ lands path change l.0 w l.2

-- two changes that make the same of the value make the same of the whole
pub alike : (path : List Val) (one other : Change) (v w : Val) → end_of path v ≡ there w → changed_here one w ≡ changed_here other w →
    applied path one v ≡ applied path other v
alike [] one other v w e h = let same : v ≡ w = cc in ap (changed_here one) same ∙ h ∙ ap (changed_here other) (sym same)
alike (i ∷ path) one other v w e h =
    let l : Leads v i path w = leads v i path w e in
    (inside v i l.0 l.1).alike (applied path one) (applied path other) (alike path one other l.0 w l.2 h)

-- a change that makes of the new value the old one undoes the change
pub undoing : (path : List Val) (change back : Change) (v w : Val) → end_of path v ≡ there w →
    changed_here back (changed_here change w) ≡ w → applied path back (applied path change v) ≡ v
undoing [] change back v w e h = let same : v ≡ w = cc in ap (λ x. changed_here back (changed_here change x)) same ∙ h ∙ sym same
undoing (i ∷ path) change back v w e h =
    let l : Leads v i path w = leads v i path w e in
    let is : Inside v i l.0 = inside v i l.0 l.1 in
    is.twice (applied path change) (applied path back) ∙ is.kept (λ x. applied path back (applied path change x))
    (undoing path change back l.0 w l.2 h)

-- a change is made only of a value that is there
pub allowed_there : (end : End) (change : Change) → Allows end change → (w : Val) × (end ≡ there w)
allowed_there (there w) change h = (w, refl)
allowed_there new_key change h = absurd (h)
allowed_there nowhere change h = absurd (h)
allowed_there unfit change h = absurd (h)

pub not_outside : (path : List Val) (index : Val) (v : Val) (change : Change) → outside ≡ step_in v index →
    Allows (end_of (index ∷ path) v) change → ⊥
not_outside path index v change e h = subst (λ (s : Step). Allows (end_from s path (end_of path)) change) (sym e) h

pub not_misfit : (path : List Val) (index : Val) (v : Val) (change : Change) → misfit ≡ step_in v index →
    Allows (end_of (index ∷ path) v) change → ⊥
not_misfit path index v change e h = subst (λ (s : Step). Allows (end_from s path (end_of path)) change) (sym e) h

absent_refused : (path : List Val) (change : Change) → Allows (at_absent path) change → ⊥
absent_refused [] change h = h
absent_refused (i ∷ path) change h = h

pub not_absent : (path : List Val) (index : Val) (v : Val) (change : Change) → absent ≡ step_in v index →
    Allows (end_of (index ∷ path) v) change → ⊥
not_absent path index v change e h = absent_refused path change
    (subst (λ (s : Step). Allows (end_from s path (end_of path)) change) (sym e) h)

pub end_inside : (path : List Val) (index v x : Val) → step_in v index ≡ part x → end_of (index ∷ path) v ≡ end_of path x
end_inside path index v x e = ap (λ s. end_from s path (end_of path)) e

-- a key at the end of a map
has_last : (ps : Pairs) (k : Key) (v : Val) → HasKeys (mapping (with_last ps k v))
has_last no_pairs k v = tt
has_last (more_pairs l w ps) k v = tt

push_back : (k : Key) (new w : Val) → LacksKey k w → changed_here pop (changed_here (push k new) w) ≡ w
push_back k new (mapping ps) h = ap mapping (without_with ps k new)
push_back k new unit h = absurd (h)
push_back k new falsity h = absurd (h)
push_back k new truth h = absurd (h)
push_back k new (int n) h = absurd (h)
push_back k new (char n) h = absurd (h)
push_back k new (enum n m) h = absurd (h)
push_back k new (object n) h = absurd (h)
push_back k new (event n) h = absurd (h)
push_back k new (task n) h = absurd (h)
push_back k new (some v) h = absurd (h)
push_back k new (array vs) h = absurd (h)
push_back k new (tuple vs) h = absurd (h)

push_keys : (k : Key) (new w : Val) → LacksKey k w → HasKeys (changed_here (push k new) w)
push_keys k new (mapping ps) h = has_last ps k new
push_keys k new unit h = h
push_keys k new falsity h = h
push_keys k new truth h = h
push_keys k new (int n) h = h
push_keys k new (char n) h = h
push_keys k new (enum n m) h = h
push_keys k new (object n) h = h
push_keys k new (event n) h = h
push_keys k new (task n) h = h
push_keys k new (some v) h = h
push_keys k new (array vs) h = h
push_keys k new (tuple vs) h = h

lacks_there : (end : End) (k : Key) (new w : Val) → end ≡ there w → Allows end (push k new) → LacksKey k w
lacks_there end k new w e h = subst (λ (d : End). Allows d (push k new)) e h

module _ (path : List Val) (k : Key) (new before : Val) (h : Allows (end_of path before) (push k new)) where
  pub key_can_go : Allows (end_of path (applied path (push k new) before)) pop
  key_can_go =
      let w : (w : Val) × (end_of path before ≡ there w) = allowed_there (end_of path before) (push k new) h in
      subst (λ (e : End). Allows e pop) (sym (lands path (push k new) before w.0 w.1))
      (push_keys k new w.0 (lacks_there (end_of path before) k new w.0 w.1 h))

  pub key_goes : applied path pop (applied path (push k new) before) ≡ before
  key_goes =
      let w : (w : Val) × (end_of path before ≡ there w) = allowed_there (end_of path before) (push k new) h in
      undoing path (push k new) pop before w.0 w.1 (push_back k new w.0 (lacks_there (end_of path before) k new w.0 w.1 h))

-- parts at the end of an array
first_joined : (vs ws : Vals) → first (count vs) (joined vs ws) ≡ vs
first_joined no_vals ws = refl
first_joined (more_vals v vs) ws = ap (more_vals v) (first_joined vs ws)

-- the array that is there
array_there : (w : Val) (more : Vals) → Allows (there w) (extend more) → (vs : Vals) × (w ≡ array vs)
array_there (array vs) more h = (vs, refl)
array_there unit more h = absurd (h)
array_there falsity more h = absurd (h)
array_there truth more h = absurd (h)
array_there (int n) more h = absurd (h)
array_there (char n) more h = absurd (h)
array_there (enum n m) more h = absurd (h)
array_there (object n) more h = absurd (h)
array_there (event n) more h = absurd (h)
array_there (task n) more h = absurd (h)
array_there (some v) more h = absurd (h)
array_there (mapping ps) more h = absurd (h)
array_there (tuple vs) more h = absurd (h)

array_at_end : (end : End) (more : Vals) → Allows end (extend more) → (vs : Vals) × (end ≡ there (array vs))
array_at_end (there w) more h = let a : (vs : Vals) × (w ≡ array vs) = array_there w more h in (a.0, ap there a.1)
array_at_end new_key more h = absurd (h)
array_at_end nowhere more h = absurd (h)
array_at_end unfit more h = absurd (h)

module _ (path : List Val) (before after : Val) (more : Vals) (is : after ≡ applied path (extend more) before)
    (h : Allows (end_of path before) (extend more)) where
  found : (vs : Vals) × (end_of path before ≡ there (array vs))
  found = array_at_end (end_of path before) more h

  pub grown_is : after ≡ applied path (put (grown (end_of path before) more)) before
  grown_is = is ∙ alike path (extend more) (put (array (joined found.0 more))) before (array found.0) found.1 refl ∙
      ap (λ (e : End). applied path (put (grown e more)) before) (sym found.1)

  pub grown_there : end_of path after ≡ there (grown (end_of path before) more)
  grown_there = ap (end_of path) is ∙ lands path (extend more) before (array found.0) found.1 ∙
      ap (λ (e : End). there (grown e more)) (sym found.1)

  pub grown_can_be_taken : Allows (end_of path after) (shorten (parts_there (end_of path before)))
  grown_can_be_taken =
      subst (λ (e : End). Allows e (shorten (parts_there (end_of path before))))
      (sym (ap (end_of path) is ∙ lands path (extend more) before (array found.0) found.1)) tt

  pub grown_taken_again : applied path (shorten (parts_there (end_of path before))) after ≡ before
  grown_taken_again =
      ap (λ (e : End). applied path (shorten (parts_there e)) after) found.1 ∙ ap (applied path (shorten (count found.0))) is ∙
      undoing path (extend more) (shorten (count found.0)) before (array found.0) found.1 (ap array (first_joined found.0 more))

-- to put a value where one is
pub put_lands : (path : List Val) (new before old : Val) → end_of path before ≡ there old →
    end_of path (applied path (put new) before) ≡ there new
put_lands path new before old e = lands path (put new) before old e

pub put_goes : (path : List Val) (new before old : Val) → end_of path before ≡ there old →
    applied path (put old) (applied path (put new) before) ≡ before
put_goes path new before old e = undoing path (put new) (put old) before old e refl

-- the same, told of the value before and after
module _ (path : List Val) (before after : Val) where
  pub put_there : (new old : Val) → after ≡ applied path (put new) before → end_of path before ≡ there old → end_of path after ≡ there new
  put_there new old is e = ap (end_of path) is ∙ put_lands path new before old e

  pub put_back_again : (new old : Val) → after ≡ applied path (put new) before → end_of path before ≡ there old →
      applied path (put old) after ≡ before
  put_back_again new old is e = ap (applied path (put old)) is ∙ put_goes path new before old e

  pub key_can_be_taken : (k : Key) (new : Val) → after ≡ applied path (push k new) before → Allows (end_of path before) (push k new) →
      Allows (end_of path after) pop
  key_can_be_taken k new is h = subst (λ (v : Val). Allows (end_of path v) pop) (sym is) (key_can_go path k new before h)

  pub key_taken_again : (k : Key) (new : Val) → after ≡ applied path (push k new) before → Allows (end_of path before) (push k new) →
      applied path pop after ≡ before
  key_taken_again k new is h = ap (applied path pop) is ∙ key_goes path k new before h
