-- The frames of a task that may wait: none has a handler, and what holds beneath the first of them can be taken out and put back.
use Rattle.std.proofs.Common.{◌≡◌, ℕ, List, [], ◌∷◌, Option, Some, None, Bool, true, false, refl, sym, subst}
use Rattle.std.proofs.Common.{ap, ◌∙◌}
use Rattle.std.specs.Prelude.{slice_get}
use Rattle.std.proofs.lemmas.Option.{none-some}
use Rattle.verse_code.specs.declared.codes.Code.{Code}
use Rattle.verse_value.specs.Val.{Val}
use Rattle.verse_meaning_state.specs.State.{State}
use Rattle.verse_code_machine.specs.Tasks.{Handler, Frame, Note, Thread, World}
use Rattle.verse_code_machine.specs.Frames.{free}
use Rattle.verse_code_machine.specs.Ends.{resumes}
use Rattle.verse_sorts.specs.Sorts.{Sort}
use Rattle.verse_sorts.specs.Typing.{Typing, Grows, Adds, are_so}
use Rattle.verse_sorts.proofs.Fitting.{are_more, is_up, adds_itself}
use Rattle.verse_verify_kept.specs.Notes.{Point, Notes, parent_of}
use Rattle.verse_verify_kept.specs.Rules.{Kin, MayWait}
use Rattle.verse_verify_kept.specs.Kept.{Giver, func_gives, arm_gives, giver, Of, All, StoreIs, own, Plain, Beneath, plain, trying, within}
use Rattle.verse_verify_kept.specs.Kept.{dying}
use Rattle.verse_verify_kept.specs.Kept.{without_top, Below}
use Rattle.verse_verify_kept.specs.Others.{World_is}
use Rattle.verse_verify_kept.proofs.Places.{moves, kin_itself, tries_itself}
use Rattle.verse_verify_kept.proofs.Going.{Good, next, Fresh}

module _ (c : Code) (n : Notes) where
  pub giver_waits : (p : Point) → MayWait c n p → (giver n p).may_wait ≡ true
  giver_waits p m = by_arm p.arm
    where
      by_arm : (a : Option Sort) → (arm_gives a (func_gives (slice_get n.functions p.func))).may_wait ≡ true
      by_arm None = subst (λ f. (func_gives f).may_wait ≡ true) (sym m.is_func) m.holds
      by_arm (Some r) = subst (λ f. (func_gives f).may_wait ≡ true) (sym m.is_func) m.holds

  -- outside of Trys and blocks
  pub data Plainly (rest : Bool → Typing → Type 0) (t : Typing) (p : Point) (ds : List ℕ) :
      List Val → List Handler → List ℕ → List Note → Type 0 where
    plainly : {u : Typing} → Plain c n p → Adds u t → rest false u → Plainly rest t p ds [] [] ds []

  pub plain_here : {rest : Bool → Typing → Type 0} {t : Typing} {p : Point} {ds all : List ℕ} {ls more : List Val} {hs : List Handler}
      {ns : List Note} → Beneath c n rest t p ds ls more hs all ns → p.tries ≡ [] → p.block ≡ None → Plainly rest t p ds more hs all ns
  plain_here (plain y g r) e f = plainly y g r
  plain_here (trying y b) e f = elim (no_nil (sym e ∙ y.tries)) [ ]
    where
      no_nil : {A : Type 0} {x : A} {xs : List A} → [] ≡ x ∷ xs → ⊥
      no_nil e = cc
  plain_here (within y m b) e f = elim (none-some _ (sym f ∙ y.block)) [ ]
  plain_here (dying y g r) e f = elim (none-some _ (sym f ∙ y.block)) [ ]

  pub plain_rest : {rest : Bool → Typing → Type 0} {t : Typing} {p : Point} {ds all : List ℕ} {more : List Val} {hs : List Handler}
      {ns : List Note} → Plainly rest t p ds more hs all ns → (u : Typing) × Adds u t × rest false u
  plain_rest (plainly {u = u} y w r) = (u, w, r)

  pub plain_back : {rest : Bool → Typing → Type 0} {t v : Typing} {p : Point} {ds all : List ℕ} {ls more : List Val} {hs : List Handler}
      {ns : List Note} (other : Bool → Typing → Type 0) → Plainly rest t p ds more hs all ns → other false v →
      Beneath c n other v p ds ls more hs all ns
  plain_back other (plainly y w r) b = plain y adds_itself b

  pub plain_free : {rest : Bool → Typing → Type 0} {t : Typing} {p : Point} {ds all : List ℕ} {more : List Val} {hs : List Handler}
      {ns : List Note} → Plainly rest t p ds more hs all ns → (hs ≡ []) × (ns ≡ [])
  plain_free (plainly y w r) = (refl, refl)

  pub free_more : {hs : List Handler} {ns : List Note} (fs : List Frame) → (hs ≡ []) × (ns ≡ []) → free [] [] fs ≡ true →
      free hs ns fs ≡ true
  free_more {ns = ns} fs e f = subst (λ hs. free hs ns fs ≡ true) (sym e.0) (subst (λ ns. free [] ns fs ≡ true) (sym e.1) f)

  abbrev pub Grown : (Giver → Bool → Typing → Type 0) → Type 0
  Grown bottom = (g : Giver) (t u : Typing) → bottom g false t → Adds t u → bottom g false u

  pub below_more : (bottom : Giver → Bool → Typing → Type 0) (grown : Grown bottom) (g : Giver) (fs : List Frame) (t u : Typing) →
      Below c n bottom g fs false t → Adds t u → Below c n bottom g fs false u
  below_more bottom grown g [] t u r w = grown g t u r w
  below_more bottom grown g (f ∷ fs) t u r w = (
    r.0,
    record {
      live = r.1.live;
      whole = r.1.whole;
      top = r.1.top;
      st = r.1.st;
      stack = r.1.stack;
      fits = r.1.fits;
      fails = r.1.fails;
      waits = r.1.waits;
      stands = record {
        above = r.1.stands.above;
        more = r.1.stands.more;
        split = r.1.stands.split;
        locals = are_more (parent_of n) w.grows r.1.stands.locals;
        stack = are_more (parent_of n) w.grows r.1.stands.stack;
        beneath = moves c n r.1.stands.beneath (kin_itself _) (tries_itself c n _) w;
      };
    },
  )

  -- what holds beneath the first of the frames
  pub record Openly (bottom : Giver → Bool → Typing → Type 0) (g : Giver) (fs : List Frame) (t : Typing) : Type 1 where
    pub first : Giver
    pub here : bottom first false t
    pub back : (other : Giver → Bool → Typing → Type 0) (u : Typing) → Grows t u → other first false u → Below c n other g fs false u
    pub no_handler : free [] [] fs ≡ true

  pub opens_chain : (bottom : Giver → Bool → Typing → Type 0) (grown : Grown bottom) (fs : List Frame) (g : Giver) (t : Typing) →
      Below c n bottom g fs false t → g.may_wait ≡ true → Openly bottom g fs t
  opens_chain bottom grown [] g t r e = record { first = g; here = r; back = λ other u w b. b; no_handler = refl }
  opens_chain bottom grown (f ∷ fs) g t r e =
      more (opens_chain bottom grown fs (giver n r.0) t (below_more bottom grown (giver n r.0) fs rest.0 t rest.2 rest.1) (giver_waits r.0
      may))
    where
      may : MayWait c n r.0
      may = r.1.waits e

      q : Plainly (λ b u. Below c n bottom (giver n r.0) fs b u) t (without_top c n r.0 r.1.st) r.0.defers r.1.stands.more f.handlers
          f.life.defers f.life.noted
      q = plain_here r.1.stands.beneath may.tries may.block

      rest : (u : Typing) × Adds u t × Below c n bottom (giver n r.0) fs false u
      rest = plain_rest q

      more : Openly bottom (giver n r.0) fs t → Openly bottom g (f ∷ fs) t
      more w = record {
        first = w.first;
        here = w.here;
        back = λ other u grows b. (
          r.0,
          record {
            live = r.1.live;
            whole = r.1.whole;
            top = r.1.top;
            st = r.1.st;
            stack = r.1.stack;
            fits = r.1.fits;
            fails = r.1.fails;
            waits = r.1.waits;
            stands = record {
              above = r.1.stands.above;
              more = r.1.stands.more;
              split = r.1.stands.split;
              locals = are_more (parent_of n) grows r.1.stands.locals;
              stack = are_more (parent_of n) grows r.1.stands.stack;
              beneath = plain_back (λ b u. Below c n other (giver n r.0) fs b u) q (w.back other u grows b);
            };
          },
        );
        no_handler = free_more fs (plain_free q) w.no_handler;
      }

  -- a task goes on with a value
  pub resume_good : (y : Thread) (v : Val) (o : World) (s : State) (t : Typing) (g : Giver) →
      Below c n (World_is c n y.who o s.clock.results s.clock.signals s.clock.next) g (y.frame ∷ y.below) false t →
      Of c n t v g.result → StoreIs c n t s.memory.store → Fresh c n (World_is c n) t s.clock.left →
      Good c n (World_is c n) (resumes y v o s)
  resume_good y v o s t g r i z f = next (record {
    typing = t;
    point = r.0;
    locals = r.0.locals;
    ds = r.0.defers;
    live = r.1.live;
    own = own;
    store = z;
    fresh = f;
    stands = record {
      above = v ∷ r.1.stands.above;
      more = r.1.stands.more;
      split = ap (λ st. v ∷ st) r.1.stands.split;
      locals = r.1.stands.locals;
      stack = subst (All c n t (v ∷ r.1.stands.above)) (sym r.1.stack) (are_so (is_up (parent_of n) i r.1.fits) r.1.stands.stack);
      beneath = moves c n r.1.stands.beneath (kin r.0 r.1.st) (tries_itself c n r.0.tries) adds_itself;
    };
  })
    where
      kin : (p : Point) (st : List Sort) → Kin (without_top c n p st) p
      kin p st = record { func = refl; arm = refl; block = refl; outer = refl; under = refl }
