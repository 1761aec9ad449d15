-- The frames of a task since a moment: the one that then was on top, and those that were called since. Of that frame it
-- is
-- said which notes and contexts it had, of the others that they began since.
use Rattle.std.proofs.Common.{◌≡◌, ℕ, suc, ◌+◌, ◌≤◌, ◌<◌, length, List, [], ◌∷◌, ◌++◌, ◌⊎◌, inl, inr, Bool, true}
use Rattle.std.proofs.Common.{false}
use Rattle.std.proofs.Common.{refl, sym, subst, arith, ap}
use Rattle.verse_value.specs.Val.{Val}
use Rattle.verse_meaning_state.specs.Waits.{ltn}
use Rattle.verse_meaning_state.proofs.Numbers.{eqn_same, eqn_less, ltn_is}
use Rattle.verse_code_machine.specs.Tasks.{Handler, Frame, Note, to, Task, World, since}
use Rattle.verse_code_machine.specs.Frames.{free, kept_noted}
use Rattle.verse_code_machine.specs.Cancelling.{without, world_without, gone_before, gone_behind, cancelled}
use Rattle.verse_code_machine_parents.specs.Parents.{EachTask}
use Rattle.verse_code_machine_contexts.specs.Contexts.{open_in, locals_above}

-- more noted places than these
pub data Notes (base : List Note) : List Note → Type 0 where
  none : Notes base base
  more : {q : ℕ} {ns : List Note} → Notes base ns → Notes base (to q ∷ ns)

pub data IsPlace : Note → Type 0 where
  place : {q : ℕ} → IsPlace (to q)

same_less : {m n : ℕ} → m ≤ n → m ≤ suc n
same_less e = omega (arith, e)

pub notes_longer : {base ns : List Note} → Notes base ns → length base ≤ length ns
notes_longer none = omega arith
notes_longer (more a) = same_less (notes_longer a)

-- the last noted place was noted since, or nothing was
notes_tail : {base ns : List Note} {y : Note} → Notes base (y ∷ ns) → (IsPlace y × Notes base ns) ⊎ (y ∷ ns ≡ base)
notes_tail none = inr refl
notes_tail (more a) = inl (place, a)

-- what tasks have begun since a number was the count of steps
abbrev pub Fresh : List ℕ → World → ℕ → Type 0
Fresh path o n = EachTask (λ t. since path n t.thread.who.path ≡ false) (o.pre ++ o.post)

-- the contexts of a frame that was called since
abbrev pub Called : (ℕ → Type 0) → List Handler → Type 0
Called fresh [] = Unit {0}
Called fresh (h ∷ hs) = (Notes [] h.life.noted × fresh h.life.born) × Called fresh hs

-- the contexts of the frame that was on top: those that it had, or some more
pub data Holds (base : List Note) (root : List Handler) : List Handler → Type 0 where
  its : {hs : List Handler} → hs ≡ root → Holds base root hs
  inner : {h : Handler} {hs : List Handler} → Notes base h.life.noted → Holds base root hs → Holds base root (h ∷ hs)

pub data Frames (fresh : ℕ → Type 0) (base : List Note) (root : List Handler) (under : List Frame) :
    (born : ℕ) → List Note → List Handler → List Frame → Type 0 where
  own : {born : ℕ} {ns : List Note} {hs : List Handler} {bl : List Frame} → bl ≡ under → Notes base ns →
      Holds base root hs → Frames fresh base root under born ns hs bl
  above : {born : ℕ} {ns : List Note} {hs : List Handler} {f : Frame} {fs : List Frame} → Notes [] ns → fresh born →
      Called fresh hs → Frames fresh base root under f.life.born f.life.noted f.handlers fs →
      Frames fresh base root under born ns hs (f ∷ fs)

pub some_less : (n : ℕ) → 0 < suc n
some_less n = omega arith

as_many : {i j : ℕ} → i ≡ j → i ≤ j
as_many e = omega (arith, e)

under_more : {n i : ℕ} (l : ℕ) → n ≤ i → n ≤ l + i
under_more l e = omega (arith, e)

both_more : {i j k l : ℕ} → i ≤ j → k ≡ l → i + k ≤ j + l
both_more e h = omega (arith, e, h)

not_free_above : (hs : List Handler) (ns : List Note) (f : Frame) (fs : List Frame) →
    free f.handlers f.life.noted fs ≡ false → free hs ns (f ∷ fs) ≡ false
not_free_above (h ∷ hs) ns f fs e = refl
not_free_above [] (n ∷ ns) f fs e = refl
not_free_above [] [] f fs e = e

pub not_less : {i j k : ℕ} → i ≤ j → k ≤ i → ltn j k ≡ true → ⊥
not_less {i} {j} {k} l h e = omega (arith, l, h, ltn_is j k e)

module _ (fresh : ℕ → Type 0) (base : List Note) (root : List Handler) (under : List Frame) where
  abbrev Is : ℕ → List Note → List Handler → List Frame → Type 0
  Is = Frames fresh base root under

  -- ---- how many contexts are open

  holds_more : {hs : List Handler} → Holds base root hs → length root ≤ length hs
  holds_more (its e) = as_many (sym (ap length e))
  holds_more (inner a h) = same_less (holds_more h)

  pub more_open : {born : ℕ} {ns : List Note} {hs : List Handler} {bl : List Frame} → Is born ns hs bl →
      length root + open_in under ≤ length hs + open_in bl
  more_open (own e a h) = both_more (holds_more h) (sym (ap open_in e))
  more_open (above {hs = hs} a f c r) = under_more (length hs) (more_open r)

  -- ---- the task is not free

  not_free_own : {hs : List Handler} {ns : List Note} → ((ns : List Note) → Notes base ns → free root ns under ≡ false)
      →
      Notes base ns → Holds base root hs → free hs ns under ≡ false
  not_free_own {ns = ns} n a (its e) = rw e (n ns a)
  not_free_own n a (inner b h) = refl

  pub not_free : {born : ℕ} {ns : List Note} {hs : List Handler} {bl : List Frame} →
      ((ns : List Note) → Notes base ns → free root ns under ≡ false) → Is born ns hs bl → free hs ns bl ≡ false
  not_free n (own e a h) = rw e (not_free_own n a h)
  not_free n (above {ns = ns} {hs = hs} {f = f} {fs = fs} a b c r) = not_free_above hs ns f fs (not_free n r)

  -- ---- noted places

  pub noted_more : {born : ℕ} {ns : List Note} {hs : List Handler} {bl : List Frame} (q : ℕ) → Is born ns hs bl →
      Is born (to q ∷ ns) hs bl
  noted_more q (own e a h) = own e (more a) h
  noted_more q (above a b c r) = above (more a) b c r

  -- the frame that was on top, with its contexts and notes as they were
  pub record AsItWas (ns : List Note) (hs : List Handler) (bl : List Frame) : Type 0 where
    pub notes : ns ≡ base
    pub holds : hs ≡ root
    pub below : bl ≡ under

  no_fewer : (h : Handler) (hs : List Handler) {ns : List Note} → Notes base h.life.noted → ns ≡ base →
      ltn (kept_noted (h ∷ hs)) (length ns) ≡ true → ⊥
  no_fewer h hs a e l = not_less (notes_longer a) (as_many (ap length e)) l

  own_fewer : {born : ℕ} {y : Note} {ns : List Note} {hs : List Handler} {bl : List Frame} → bl ≡ under →
      Holds base root hs → ltn (kept_noted hs) (length (y ∷ ns)) ≡ true → (IsPlace y × Notes base ns) ⊎ (y ∷ ns ≡ base)
      → (IsPlace y × Is born ns hs bl) ⊎ AsItWas (y ∷ ns) hs bl
  own_fewer e h l (inl n) = inl (n.0, own e n.1 h)
  own_fewer e (its i) l (inr n) = inr (record { notes = n; holds = i; below = e })
  own_fewer e (inner {h = h} {hs = hs} a x) l (inr n) = absurd (no_fewer h hs a n l)

  above_fewer : {born : ℕ} {y : Note} {ns : List Note} {hs : List Handler} {f : Frame} {fs : List Frame} → fresh born →
      Called fresh hs → Is f.life.born f.life.noted f.handlers fs → (IsPlace y × Notes [] ns) ⊎ (y ∷ ns ≡ []) →
      (IsPlace y × Is born ns hs (f ∷ fs)) ⊎ AsItWas (y ∷ ns) hs (f ∷ fs)
  above_fewer b c r (inl n) = inl (n.0, above n.1 b c r)
  above_fewer b c r (inr n) = cc

  pub noted_fewer : {born : ℕ} {y : Note} {ns : List Note} {hs : List Handler} {bl : List Frame} →
      Is born (y ∷ ns) hs bl → ltn (kept_noted hs) (length (y ∷ ns)) ≡ true →
      (IsPlace y × Is born ns hs bl) ⊎ AsItWas (y ∷ ns) hs bl
  noted_fewer (own e a h) l = own_fewer e h l (notes_tail a)
  noted_fewer (above a b c r) l = above_fewer b c r (notes_tail a)

  -- ---- contexts that open and close

  pub opens : {born : ℕ} {ns : List Note} {hs : List Handler} {bl : List Frame} (h : Handler) → h.life.born ≡ born →
      h.life.noted ≡ ns → Is born ns hs bl → Is born ns (h ∷ hs) bl
  opens h i j (own e a x) = own e a (inner (subst (Notes base) (sym j) a) x)
  opens h i j (above a b c r) = above a b ((subst (Notes []) (sym j) a, subst fresh (sym i) b), c) r

  -- the innermost context of a frame is of those that there were, or was opened since
  pub data Innermost (h : Handler) (hs : List Handler) (bl : List Frame) (born : ℕ) (ns : List Note) : Type 0 where
    of_those : h ∷ hs ≡ root → bl ≡ under → Innermost h hs bl born ns
    deeper : Is h.life.born h.life.noted hs bl → Is born ns hs bl → Innermost h hs bl born ns

  holds_innermost : {born : ℕ} {ns : List Note} {h : Handler} {hs : List Handler} {bl : List Frame} → bl ≡ under →
      Notes base ns → Holds base root (h ∷ hs) → Innermost h hs bl born ns
  holds_innermost e a (its i) = of_those i e
  holds_innermost e a (inner b x) = deeper (own e b x) (own e a x)

  pub innermost : {born : ℕ} {ns : List Note} {h : Handler} {hs : List Handler} {bl : List Frame} →
      Is born ns (h ∷ hs) bl → Innermost h hs bl born ns
  innermost (own e a x) = holds_innermost e a x
  innermost (above a b c r) = deeper (above c.0.0 c.0.1 c.1 r) (above a b c.1 r)

  no_holds : Holds base root [] → [] ≡ root
  no_holds (its e) = e

  -- a frame without a context was called by the one below it, or is the one that was on top
  pub data Under (born : ℕ) (ns : List Note) : List Frame → Type 0 where
    of_top : {bl : List Frame} → [] ≡ root → bl ≡ under → Notes base ns → Under born ns bl
    called_by : {f : Frame} {fs : List Frame} → fresh born → Is f.life.born f.life.noted f.handlers fs →
        Under born ns (f ∷ fs)

  pub under_it : {born : ℕ} {ns : List Note} {bl : List Frame} → Is born ns [] bl → Under born ns bl
  under_it (own e a x) = of_top (no_holds x) e a
  under_it (above a b c r) = called_by b r

  -- ---- the locals of the frame that was on top

  longer : {born : ℕ} {ns : List Note} {hs : List Handler} {bl : List Frame} → Is born ns hs bl →
      length under ≤ length bl
  longer (own e a x) = as_many (sym (ap length e))
  longer (above a b c r) = same_less (longer r)

  pub locals_under : (f : Frame) (fs : List Frame) (ls : List Val) → Is f.life.born f.life.noted f.handlers fs →
      locals_above (length under) ls (f ∷ fs) ≡ locals_above (length under) f.locals fs
  locals_under f fs ls r = rw (eqn_less (length under) (suc (length fs)) (behind (longer r))) refl
    where
      behind : {a b : ℕ} → a ≤ b → a < suc b
      behind e = omega (arith, e)

pub locals_own : (ls : List Val) (bl : List Frame) → locals_above (length bl) ls bl ≡ ls
locals_own ls [] = refl
locals_own ls (f ∷ fs) = rw (eqn_same (length fs)) refl

-- ---- a frame that returns has begun nothing that stands

module _ (f : List ℕ → Bool) where
  abbrev None : List Task → Type 0
  None = EachTask (λ t. f t.thread.who.path ≡ false)

  none_before : (ts : List Task) → None ts → gone_before f ts ≡ []
  none_before [] a = refl
  none_before (t ∷ ts) a = rw a.0 (none_before ts a.1)

  none_behind : (ts : List Task) → None ts → gone_behind f ts ≡ []
  none_behind [] a = refl
  none_behind (t ∷ ts) a = rw a.0 (none_behind ts a.1)

  none_without : (ts : List Task) → None ts → without f ts ≡ ts
  none_without [] a = refl
  none_without (t ∷ ts) a = rw (a.0, none_without ts a.1) refl

  both : (ts us : List Task) → None (ts ++ us) → None ts × None us
  both [] us a = (tt, a)
  both (t ∷ ts) us a = let r = both ts us a.1 in ((a.0, r.0), r.1)

  pub none_cancelled : (o : World) → None (o.pre ++ o.post) → (cancelled f o ≡ []) × (world_without f o ≡ o)
  none_cancelled o a =
      let r = both o.pre o.post a in (
        rw (none_before o.pre r.0, none_behind o.post r.1) refl,
        rw (none_without o.pre r.0, none_without o.post r.1)
            refl,
      )
