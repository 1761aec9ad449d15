-- A frame goes on: at a place, at the label of a Try that fails, in a new frame.
use Rattle.std.proofs.Common.{◌≡◌, ℕ, ◌≤◌, List, [], ◌∷◌, ◌++◌, Option, Some, None, Bool, true, false, refl, sym, subst}
use Rattle.std.proofs.Common.{◌∙◌}
use Rattle.std.specs.Prelude.{slice_get}
use Rattle.std.proofs.lemmas.Option.{none-some}
use Rattle.verse_code.specs.declared.operations.Op.TheVariants as o
use Rattle.verse_code.specs.declared.codes.Code.{Code}
use Rattle.verse_value.specs.Val.{Val}
use Rattle.verse_value.specs.declared.runs.Ending.{Ending}
use Rattle.verse_meaning_state.specs.State.{State, Given, Signal, restored}
use Rattle.verse_code_machine.specs.Tasks.{Life, Handler, Frame, Note, Who, World, Machine, Step, Next, Over, Turn, machine}
use Rattle.verse_code_machine.specs.Runs.{Forest}
use Rattle.verse_verify_kept.specs.Others.{ForestFits}
use Rattle.verse_code_machine.specs.Frames.{only_where, goes, failing}
use Rattle.verse_sorts.specs.Sorts.{Sort}
use Rattle.verse_sorts.specs.Typing.{Typing, Adds}
use Rattle.verse_sorts.proofs.Fitting.{are_up, adds_itself}
use Rattle.verse_verify_kept.specs.Notes.{FuncNote, Open, Point, Notes, parent_of, point_at}
use Rattle.verse_verify_kept.specs.Known.{Known}
use Rattle.verse_verify_kept.specs.Rules.{Kin, Leads, To, MayFail, in_try, in_function}
use Rattle.verse_verify_kept.specs.Kept.{Giver, func_gives, arm_gives, giver, All, StoreIs, Own, own, Plain, Held, Tried, Beneath, plain}
use Rattle.verse_verify_kept.specs.Kept.{trying}
use Rattle.verse_verify_kept.specs.Kept.{within, dying, without_top, Below, Bottom, MachineFits, Runs_on}
use Rattle.verse_verify_kept.proofs.Places.{same_in, fits_there, handles, moves}

module _ (c : Code) (n : Notes) where
  pub giver_same : (p q : Point) → p.func ≡ q.func → p.arm ≡ q.arm → giver n p ≡ giver n q
  giver_same p q e f = two p.arm q.arm p.func q.func f e
    where
      two : (a b : Option Sort) (f h : ℕ) → a ≡ b → f ≡ h →
          arm_gives a (func_gives (slice_get n.functions f)) ≡ arm_gives b (func_gives (slice_get n.functions h))
      two a b f h d e = cc

  pub same_giver : {p q : Point} → Kin p q → giver n p ≡ giver n q
  same_giver {p = p} {q = q} k = giver_same p q k.func k.arm

  pub fails_below : {p : Point} {st : List Sort} → MayFail c n p → MayFail c n (without_top c n p st)
  fails_below (in_try e) = in_try e
  fails_below (in_function a b d e) = in_function a b d e

  giver_fails : (p : Point) (f : FuncNote) → p.arm ≡ None → slice_get n.functions p.func ≡ Some f → f.may_fail ≡ true →
      (giver n p).may_fail ≡ true
  giver_fails p f a e h =
      subst (λ a. (arm_gives a (func_gives (slice_get n.functions p.func))).may_fail ≡ true) (sym a) (subst (λ m. (func_gives m).may_fail ≡
      true) (sym e) h)

  module _ (bottom : Bottom c n) where
    pub data Good : Step → Type 0 where
      next : {m : Machine} → MachineFits c n bottom m → Good (Next m)
      over : {e : Ending} {s : State} → Runs_on c n e → Good (Over e s)
      turned : {s : State} {tss : Forest} → ForestFits c n s tss → Good (Turn s tss)

    abbrev pub Rest : Who → World → State → Giver → List Frame → Bool → Typing → Type 0
    Rest w x s g bl b t = Below c n (bottom w x s.clock.results s.clock.signals s.clock.next) g bl b t

    abbrev pub Fresh : Typing → ℕ → Type 0
    Fresh t left = (i : ℕ) (a : Sort) → t.parts i ≡ Some a → left ≤ i

    pub only_good : {b : Bool} (s : State) (q : Step) → b ≡ true → Good q → Good (only_where b s q)
    only_good s q e a = subst (λ b. Good (only_where b s q)) (sym e) a

    -- the bottom frame of a task does not fail
    abbrev pub Ends : Type 0
    Ends = (w : Who) (x : World) (rs : List (Option Given)) (gs : List Signal) (k : ℕ) (g : Giver) (t : Typing) →
        bottom w x rs gs k g false t → g.may_fail ≡ true → ⊥

    module _ (ok : Known c n) (w : Who) (x : World) where
      leads_beneath : {p : Point} {fs st : List Sort} {ts : List Open} {ds all : List ℕ} {i : ℕ} {ls more : List Val}
          {hs : List Handler} {t : Typing} {ns : List Note} (u : State) (bl : List Frame) (l : Leads c n p fs st ts ds i) →
          Beneath c n (Rest w x u (giver n p) bl) t (record p { tries = ts }) ds ls more hs all ns →
          Beneath c n (Rest w x u (giver n l.point) bl) t l.point ds ls more hs all ns
      leads_beneath {p = p} {ts = ts} {ds = ds} {all = all} {ls = ls} {more = more} {hs = hs} {t = t} {ns = ns} u bl l k =
          subst (λ v. Beneath c n (Rest w x u v bl) t l.point ds ls more hs all ns) (same_giver l.kin) (moves c n k kin l.tries
          adds_itself)
        where
          kin : Kin (record p { tries = ts }) l.point
          kin = record { func = l.kin.func; arm = l.kin.arm; block = l.kin.block; outer = l.kin.outer; under = l.kin.under }

      pub goes_at : (s u : State) (g : Life) (ls above more : List Val) (i : ℕ) (hs : List Handler) (bl : List Frame) (t : Typing)
          (q : Point) (fs : List Sort) (ds : List ℕ) → point_at n i ≡ Some q → Own c n i q fs ds → All c n t ls fs →
          All c n t above q.stack →
          Beneath c n (Rest w x u (giver n q) bl) t q ds ls more hs g.defers g.noted → StoreIs c n t u.memory.store →
          Fresh t u.clock.left → Good (goes w x s u g ls (above ++ more) i hs bl)
      goes_at s u g ls above more i hs bl t q fs ds e d a b k z f =
          only_good s _ (fits_there c n (handles c n k) (ok.live i q e).around) (next (record {
            typing = t;
            point = q;
            locals = fs;
            ds = ds;
            live = e;
            own = d;
            store = z;
            fresh = f;
            stands = record { above = above; more = more; split = refl; locals = a; stack = b; beneath = k };
          }))

      -- as the notes lead on
      pub next_to : {p : Point} {fs st : List Sort} {ts : List Open} {ds : List ℕ} {i : ℕ} (u : State) (g : Life) (ls above
          more : List Val) (hs : List Handler) (bl : List Frame) (t : Typing) → Leads c n p fs st ts ds i → All c n t ls fs →
          All c n t above st → Beneath c n (Rest w x u (giver n p) bl) t (record p { tries = ts }) ds ls more hs g.defers g.noted →
          StoreIs c n t u.memory.store → Fresh t u.clock.left → Good (Next (machine w x u g ls (above ++ more) i hs bl))
      next_to {p = p} {ts = ts} {ds = ds} {i = i} u g ls above more hs bl t l a b k z f = next (record {
        typing = t;
        point = l.point;
        locals = l.point.locals;
        ds = ds;
        live = l.live;
        own = subst (Own c n i l.point l.point.locals) (sym l.defers) own;
        store = z;
        fresh = f;
        stands = record {
          above = above;
          more = more;
          split = refl;
          locals = are_up (parent_of n) a l.locals;
          stack = are_up (parent_of n) b l.stack;
          beneath = leads_beneath u bl l k;
        };
      })

      pub goes_to : {p : Point} {fs st : List Sort} {ts : List Open} {ds : List ℕ} {i : ℕ} (s u : State) (g : Life) (ls above
          more : List Val) (hs : List Handler) (bl : List Frame) (t : Typing) → Leads c n p fs st ts ds i → All c n t ls fs →
          All c n t above st → Beneath c n (Rest w x u (giver n p) bl) t (record p { tries = ts }) ds ls more hs g.defers g.noted →
          StoreIs c n t u.memory.store → Fresh t u.clock.left → Good (goes w x s u g ls (above ++ more) i hs bl)
      goes_to {p = p} {ts = ts} {ds = ds} {i = i} s u g ls above more hs bl t l a b k z f =
          only_good s _ (fits_there c n (handles c n (leads_beneath u bl l k)) (ok.live i l.point l.live).around)
          (next_to u g ls above more hs bl t l a b k z f)

      pub less_fresh : {t u : Typing} (left : ℕ) → Adds u t → Fresh t left → Fresh u left
      less_fresh left g f = λ i a e. f i a (g.grows.parts i a e)

      fail_in : {t : Typing} {p : Point} {ds all : List ℕ} {ls : List Val} {h : Handler} {ns : List Note} (s : State) (hs : List Handler)
          (bl : List Frame) (y : Tried c n t p ds ls h all ns) →
          Beneath c n (Rest w x s (giver n p) bl) y.held.typing y.held.point y.held.point.defers ls y.held.more hs h.life.defers ns →
          Fresh t s.clock.left → Good (goes w x s (restored h.memory s) h.life ls h.stack h.label hs bl)
      fail_in {p = p} {ls = ls} {h = h} {ns = ns} s hs bl y b f =
          subst (λ st. Good (goes w x s (restored h.memory s) h.life ls st h.label hs bl)) (sym held.split) (goes_at s (restored h.memory
          s) h.life ls held.above held.more h.label hs bl held.typing l.point l.point.locals q.defers
          l.live (subst (Own c n h.label l.point l.point.locals) (sym
          l.defers) own) (subst (λ (p : Point). All c n held.typing ls p.locals) (same_in held.is_label l.live) held.locals) (are_up
          (parent_of n) held.stack l.stack) (subst (λ ns. Beneath c n (Rest w x s (giver n l.point) bl) held.typing l.point q.defers ls
          held.more hs h.life.defers ns) (sym y.noted) (subst (λ v. Beneath c n (Rest w x s v bl) held.typing l.point q.defers ls held.more
          hs h.life.defers ns) (sym (same_giver y.kin) ∙ same_giver l.kin) (moves c n b l.kin l.tries adds_itself))) held.store (less_fresh
          s.clock.left y.grows f))
        where
          held : Held c n ls h
          held = y.held

          q : Point
          q = y.held.point

          l : To c n q q.stack h.label
          l = y.held.leads

      no_fail : {p : Point} {e : ℕ} → p.tries ≡ [] → p.block ≡ Some e → MayFail c n p → ⊥
      no_fail a b (in_try e) = no_cons (sym a ∙ e)
        where
          no_cons : {t : Open} {ts : List Open} → [] ≡ t ∷ ts → ⊥
          no_cons e = cc
      no_fail a b (in_function d e f g) = none-some _ (sym e ∙ b)

      no_try : {p : Point} → Plain c n p → MayFail c n p → (giver n p).may_fail ≡ true
      no_try y (in_try e) = no_cons (sym y.tries ∙ e)
        where
          no_cons : {t : Open} {ts : List Open} {a : Bool} → [] ≡ t ∷ ts → a ≡ true
          no_cons e = cc
      no_try {p = p} y (in_function {f = f} d e h g) = giver_fails p f d h g

      -- a failure is taken
      pub failing_good : (ends : Ends) (s : State) (ls : List Val) (hs : List Handler) (bl : List Frame) {t : Typing} {p : Point}
          {ds all : List ℕ} {more : List Val} {ns : List Note} → Beneath c n (Rest w x s (giver n p) bl) t p ds ls more hs all ns →
          MayFail c n p → Fresh t s.clock.left → Good (failing w x s ls hs bl)
      failing_good ends s ls (h ∷ hs) bl (trying y b) m f = fail_in s hs bl y b f
      failing_good ends s ls hs bl (within y h b) m f = elim (no_fail y.tries y.block m) [ ]
      failing_good ends s ls [] bl (dying y g r) m f = elim (no_fail y.tries y.block m) [ ]
      failing_good ends s ls [] [] (plain y g r) m f = elim (ends w x _ _ _ _ _ r (no_try y m)) [ ]
      failing_good ends s ls [] (b ∷ bl) (plain y g r) m f =
          failing_good ends s b.locals b.handlers bl r.1.stands.beneath (fails_below (r.1.fails (no_try y m))) (less_fresh s.clock.left g f)
