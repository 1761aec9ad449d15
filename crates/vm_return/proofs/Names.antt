-- Where nothing is cancelled.
use Rattle.std.proofs.Common.{◌≡◌, ℕ, Bool, true, false, cond, List, [], ◌∷◌, ◌++◌, map, reverse, refl, sym, ap, ◌∙◌}
use Rattle.std.proofs.lemmas.List.{reverse-reverse}
use Rattle.verse_meaning_state.specs.Waits.{eqn}
use Rattle.verse_code_machine.specs.Tasks as m
use Rattle.verse_code_machine.specs.Tasks.{World, world, starts, since}
use Rattle.verse_code_machine.specs.Cancelling.{without, world_without, inserted, gone_before, gone_behind, cancelled}
use Rattle.verse_code_machine.specs.Tasks.{Frame}
use Rattle.vm_frames.specs.Framed.{Framed}
use Rattle.vm_tasks.specs.Deferring.{deferring}
use Rattle.vm_scheduler.specs.Frames.{frames_in}
use Rattle.vm_scheduler.specs.Going.{NoneBeneath, frames_at}

none_since : (a : List ℕ) (n : ℕ) (x : List ℕ) → starts a x ≡ false → since a n x ≡ false
none_since [] n x e = absurd (cc)
none_since (i ∷ a) n [] e = refl
none_since (i ∷ a) n (j ∷ x) e = go (eqn i j) e (λ k. none_since a n x k)
  where
    go : (b : Bool) → cond b (starts a x) false ≡ false → (starts a x ≡ false → since a n x ≡ false) → cond b (since a n x) false ≡ false
    go true e h = h e
    go false e h = refl

-- none has such a name
abbrev NoneNamed : (List ℕ → Bool) → List m.Task → Type 0
NoneNamed f [] = Unit {0}
NoneNamed f (t ∷ ts) = (f t.thread.who.path ≡ false) × NoneNamed f ts

beneath_none : (a : List ℕ) (n : ℕ) (ts : List m.Task) → NoneBeneath a ts → NoneNamed (since a n) ts
beneath_none a n [] h = tt
beneath_none a n (t ∷ ts) h = (none_since a n t.thread.who.path h.0, beneath_none a n ts h.1)

before_none : (f : List ℕ → Bool) (ts : List m.Task) → NoneNamed f ts → gone_before f ts ≡ []
before_none f [] h = refl
before_none f (t ∷ ts) h = ap (λ b. cond b (inserted t (gone_before f ts)) (gone_before f ts)) h.0 ∙ before_none f ts h.1

behind_none : (f : List ℕ → Bool) (ts : List m.Task) → NoneNamed f ts → gone_behind f ts ≡ []
behind_none f [] h = refl
behind_none f (t ∷ ts) h = ap (λ b. cond b (t ∷ gone_behind f ts) (gone_behind f ts)) h.0 ∙ behind_none f ts h.1

all_stay : (f : List ℕ → Bool) (ts : List m.Task) → NoneNamed f ts → without f ts ≡ ts
all_stay f [] h = refl
all_stay f (t ∷ ts) h = ap (λ b. cond b (without f ts) (t ∷ without f ts)) h.0 ∙ ap (λ z. t ∷ z) (all_stay f ts h.1)

inserted_some : (t : m.Task) (ts : List m.Task) → inserted t ts ≡ [] → ⊥
inserted_some t [] e = absurd (cc)
inserted_some t (x ∷ xs) e = go (starts t.thread.who.path x.thread.who.path) e
  where
    go : (b : Bool) → cond b (x ∷ inserted t xs) (t ∷ x ∷ xs) ≡ [] → ⊥
    go true e = absurd (cc)
    go false e = absurd (cc)

none_before : (f : List ℕ → Bool) (ts : List m.Task) → gone_before f ts ≡ [] → NoneNamed f ts
none_before f [] e = tt
none_before f (t ∷ ts) e = go (f t.thread.who.path) refl e (λ k. none_before f ts k)
  where
    go : (b : Bool) → f t.thread.who.path ≡ b → cond b (inserted t (gone_before f ts)) (gone_before f ts) ≡ [] →
        (gone_before f ts ≡ [] → NoneNamed f ts) → NoneNamed f (t ∷ ts)
    go true is e h = absurd (inserted_some t (gone_before f ts) e)
    go false is e h = (is, h e)

none_behind : (f : List ℕ → Bool) (ts : List m.Task) → gone_behind f ts ≡ [] → NoneNamed f ts
none_behind f [] e = tt
none_behind f (t ∷ ts) e = go (f t.thread.who.path) refl e (λ k. none_behind f ts k)
  where
    go : (b : Bool) → f t.thread.who.path ≡ b → cond b (t ∷ gone_behind f ts) (gone_behind f ts) ≡ [] →
        (gone_behind f ts ≡ [] → NoneNamed f ts) → NoneNamed f (t ∷ ts)
    go true is e h = absurd (cc)
    go false is e h = (is, h e)

none_parts : (a b : List m.Task) → a ++ b ≡ [] → (a ≡ []) × (b ≡ [])
none_parts [] b e = (refl, e)
none_parts (x ∷ a) b e = absurd (cc)

-- the world stays as it is
pub world_stays : (f : List ℕ → Bool) (o : World) → cancelled f o ≡ [] → world_without f o ≡ o
world_stays f o e =
    let p = none_parts (gone_before f o.pre) (gone_behind f o.post) e in
    ap (λ z. world z (without f o.post) o.ups o.trees) (all_stay f o.pre (none_before f o.pre p.0)) ∙
    ap (λ z. world o.pre z o.ups o.trees) (all_stay f o.post (none_behind f o.post p.1))

-- nothing stands beneath the task
pub none_cancelled : (a : List ℕ) (n : ℕ) (o : World) → NoneBeneath a o.pre → NoneBeneath a o.post → cancelled (since a n) o ≡ []
none_cancelled a n o x y = ap (λ z. z ++ gone_behind (since a n) o.post) (before_none (since a n) o.pre (beneath_none a n o.pre x)) ∙
    behind_none (since a n) o.post (beneath_none a n o.post y)

-- nor when some are gone
none_then : (f g : List ℕ → Bool) (ts : List m.Task) → NoneNamed g ts → NoneNamed g (without f ts)
none_then f g [] h = tt
none_then f g (t ∷ ts) h = go (f t.thread.who.path) (none_then f g ts h.1)
  where
    go : (b : Bool) → NoneNamed g (without f ts) → NoneNamed g (cond b (without f ts) (t ∷ without f ts))
    go true later = later
    go false later = (h.0, later)

pub none_less : (f g : List ℕ → Bool) (o : World) → cancelled g o ≡ [] → cancelled g (world_without f o) ≡ []
none_less f g o e =
    let p = none_parts (gone_before g o.pre) (gone_behind g o.post) e in
    ap (λ z. z ++ gone_behind g (without f o.post)) (before_none g (without f o.pre) (none_then f g o.pre (none_before g o.pre p.0))) ∙
    behind_none g (without f o.post) (none_then f g o.post (none_behind g o.post p.1))

no_frames : (fss : List (List Framed)) → map frames_in fss ≡ [] → fss ≡ []
no_frames [] e = refl
no_frames (fs ∷ fss) e = absurd (cc)

pub none_to_clear : (ts : List m.Task) (fss : List (List Framed)) → map frames_in (reverse fss) ≡ map frames_at (deferring ts) → ts ≡ [] →
    fss ≡ []
none_to_clear ts fss e none =
    sym (reverse-reverse fss) ∙
    ap (λ z. reverse z) (no_frames (reverse fss) (e ∙ ap (λ z. map frames_at (deferring z)) none))
