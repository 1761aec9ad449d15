-- Deferred blocks: a Leave runs them, their end comes back or goes down.
use Rattle.std.proofs.Common.{◌≡◌, ℕ, suc, ◌+◌, ◌≤◌, ◌<◌, length, List, [], ◌∷◌, ◌++◌, Some, Bool, true}
use Rattle.std.proofs.Common.{subst, ap, arith, ◌∙◌, refl, sym}
use Rattle.std.specs.Prelude.{slice_get, not}
use Rattle.std.proofs.lemmas.Option.{same_Some}
use Rattle.verse_code.specs.declared.operations.Op.TheVariants as o
use Rattle.verse_code.specs.declared.codes.Code.{Code}
use Rattle.verse_value.specs.Val.{Val}
use Rattle.verse_value.specs.declared.runs.Ending.TheVariants as ending
use Rattle.verse_meaning_state.specs.State.{State, spending}
use Rattle.verse_meaning_state.specs.Waits.{ltn}
use Rattle.verse_meaning_state.proofs.Numbers.{ltn_yes, ltn_no}
use Rattle.verse_code_machine.specs.Tasks.{Life, Handler, Frame, Note, to, gone, Who, World, Step, Next, Over, machine}
use Rattle.verse_code_machine.specs.Frames.{only_where, fits, goes, kept_defers, kept_noted}
use Rattle.verse_code_machine.specs.Acts.{frame, on_defer, leaves, act}
use Rattle.verse_code_machine.specs.Cancelling.{clears_frames, clears_frame, on_deferred}
use Rattle.verse_code_machine.specs.Ends.{cleared}
use Rattle.verse_sorts.specs.Sorts.{Sort}
use Rattle.verse_sorts.specs.Typing.{Typing, Adds, are_no}
use Rattle.verse_sorts.proofs.Fitting.{are_more, are_up, adds_on, adds_itself}
use Rattle.verse_verify_kept.specs.Notes.{Point, Notes, parent_of, point_at, indices, names}
use Rattle.verse_verify_kept.specs.Known.{Known}
use Rattle.verse_verify_kept.specs.Rules.{Kin, Each, Leads, Runs, runs_no, runs_so, Keeps, Ready, ready_no, ready_so, Passes}
use Rattle.verse_verify_kept.specs.Rules as r
use Rattle.verse_verify_kept.specs.Kept.{Giver, giver, All, StoreIs, Own, own, own_left, Plain, Beneath, within, dying, Bottom}
use Rattle.verse_verify_kept.proofs.Places.{same_in, fits_there, handles, moves, kin_itself, tries_itself, Based, based, bases, counts, with_defers}
use Rattle.verse_verify_kept.proofs.Places.{kept_noted_most, kept_defers_most, Blocked, comes_back, comes_down, blocks}
use Rattle.verse_verify_kept.proofs.Going.{Good, next, only_good, goes_at, goes_to, giver_same, Rest, Fresh}
use Rattle.verse_verify_kept.proofs.Acts.{spends, stepped_fresh}

module _ (c : Code) (n : Notes) (bottom : Bottom c n) (ok : Known c n) (w : Who) (x : World) where
  -- what holds where the last frame of a cancelled task has gone
  abbrev pub Clears : (State → Step) → State → Typing → Type 0
  Clears after s t = (u : Typing) (g : Giver) → bottom w x s.clock.results s.clock.signals s.clock.next g true u → Adds u t →
      Good c n bottom (after s)

  no_nil : {A : Type 0} {y : A} {ys : List A} → [] ≡ y ∷ ys → ⊥
  no_nil e = cc

  -- at the end it is not looked at what a frame gives
  abbrev pub Gives_any : Type 0
  Gives_any = (s : State) (u : Typing) (g h : Giver) → bottom w x s.clock.results s.clock.signals s.clock.next g true u →
      bottom w x s.clock.results s.clock.signals s.clock.next h true u

  below_any : (any : Gives_any) (s : State) (u : Typing) (g h : Giver) (fs : List Frame) → Rest c n bottom w x s g fs true u →
      Rest c n bottom w x s h fs true u
  below_any any s u g h [] r = any s u g h r
  below_any any s u g h (f ∷ fs) r = (r.0, r.1, r.2, below_any any s r.1 g h fs r.3)

  nothing_before : (a b : List ℕ) → a ++ b ≡ [] → b ≡ []
  nothing_before [] b e = e
  nothing_before (y ∷ a) b e = elim (no_nil (sym e)) [ ]

  -- the frames of a cancelled task go, each when its deferred blocks have run
  pub clears_good : (after : State → Step) (any : Gives_any) (fs : List Frame) (s : State) (u t : Typing) (g : Giver)
      (clears : Clears after s t) →
      Rest c n bottom w x s g fs true u → Adds u t → StoreIs c n t s.memory.store → Fresh c n bottom t s.clock.left →
      Good c n bottom (clears_frames after w x s fs)
  clears_good after any [] s u t g clears r w z f = clears u g r w
  clears_good after any (h ∷ fs) s u t g clears r grows z f =
      go r.0.ready (clears_good after any fs s r.1 t g clears r.3 (adds_on r.2 grows) z f)
    where
      go : {ds : List ℕ} → Ready c n r.0.point r.0.sorts ds → Good c n bottom (clears_frames after w x
          s fs) → Good c n bottom (on_deferred ds (clears_frames after w x s fs) (λ q ds.
          clears_frame w x s h fs q ds))
      go ready_no done = done
      go (ready_so {e = e} {point = point} {ds = ds} more en suffix fit rd) done =
          spends c n bottom s _ (λ l left. next (record {
            typing = t;
            point = point;
            locals = point.locals;
            ds = [];
            live = en.live;
            own = subst (λ ds. Own c n e point point.locals ds) en.defers own;
            store = z;
            fresh = stepped_fresh c n bottom t left f;
            stands = record {
              above = [];
              more = h.stack;
              split = refl;
              locals = are_up (parent_of n) (are_more (parent_of n) grows.grows r.0.locals) fit;
              stack = subst (λ st. All c n t [] st) (sym en.stack) are_no;
              beneath = subst (λ ns. Beneath c n (Rest c n bottom w x s (giver n point) fs) t point [] h.locals h.stack [] ds (gone ∷ ns))
                  (sym r.0.noted) (dying (record {
                    tries = en.tries;
                    entry = e;
                    block = en.block;
                    outer = nothing_before more point.outer (suffix ∙ no_names r.0.point r.0.plain);
                    first = point;
                    is_entry = en.live;
                    base = ds;
                    under = plain_sum point.under r.0.point.under (length ds) en.under r.0.plain.under;
                    defers = refl;
                    from = r.0.point;
                    plain = r.0.plain;
                    ready = rd;
                  }) (adds_on r.2 grows) (below_any any s r.1 g (giver n point) fs r.3));
            };
          }))
        where
          plain_sum : (a b d : ℕ) → a ≡ b + d → b ≡ 0 → a ≡ d
          plain_sum a b d e f = omega (arith, e, f)

          no_names : (p : Point) → Plain c n p → names p ≡ []
          no_names p y = ap (λ ts. indices ts ++ p.outer) y.tries ∙ y.outer

module _ (c : Code) (n : Notes) (bottom : Bottom c n) (ok : Known c n) (w : Who) (x : World) (s : State) (pc : ℕ) (bl : List Frame)
    (t : Typing) (p : Point) (z : StoreIs c n t s.memory.store) (f : Fresh c n bottom t s.clock.left) where
  pub left_runs : {m : ℕ} {fs : List Sort} {ds : List ℕ} (g : Life) (ls above more : List Val) (hs : List Handler) →
      slice_get c.ops pc ≡ Some (o.Leave m) → point_at n pc ≡ Some p →
      Beneath c n (Rest c n bottom w x s (giver n p) bl) t p ds ls more hs g.defers g.noted → All c n t ls fs →
      All c n t above p.stack → Keeps c n p m → Runs c n p pc m fs ds →
      Good c n bottom (act c (o.Leave m) w x s g ls (above ++ more) pc hs bl)
  left_runs {m = m} {ds = ds} g ls above more hs op live k a b keeps runs =
      only_good c n bottom s _ (ap not (ltn_no (length g.defers) m at_most)) (only_good c n bottom s _ (ap not (ltn_no m (kept_defers
      hs) (kept_defers_most c n m k keeps (at_least runs)))) (runs_good runs a k count))
    where
      count : length g.defers ≡ p.under + length ds
      count = counts c n k

      below : {fs : List Sort} {ds : List ℕ} → Runs c n p pc m fs ds → m ≤ p.under + length ds
      below (runs_no e l) = omega (arith, e)
      below (runs_so {ds = ds} lt en nm h rs) = less m p.under (length ds) lt
        where
          less : (m u k : ℕ) → m < u + suc k → m ≤ u + suc k
          less m u k h = omega (arith, h)

      at_most : m ≤ length g.defers
      at_most = omega (arith, below runs, count)

      at_least : {fs : List Sort} {ds : List ℕ} → Runs c n p pc m fs ds → p.under ≤ m
      at_least (runs_no {ds = ds} e l) = omega (arith, e)
      at_least (runs_so lt en nm h rs) = at_least rs

      on_leaves : {b : Bool} → ltn m (length g.defers) ≡ b → Good c n bottom (leaves b w x s g ls (above ++ more) pc hs bl) →
          Good c n bottom (leaves (ltn m (length g.defers)) w x s g ls (above ++ more) pc hs bl)
      on_leaves e q = subst (λ b. Good c n bottom (leaves b w x s g ls (above ++ more) pc hs bl)) (sym e) q

      runs_good : {fs : List Sort} {ds : List ℕ} → Runs c n p pc m fs ds → All c n t ls fs →
          Beneath c n (Rest c n bottom w x s (giver n p) bl) t p ds ls more hs g.defers g.noted →
          length g.defers ≡ p.under + length ds →
          Good c n bottom (leaves (ltn m (length g.defers)) w x s g ls (above ++ more) pc hs bl)
      runs_good {ds = ds} (runs_no e l) a k sum =
          on_leaves (ltn_no m (length g.defers) (omega (arith, e, sum))) (goes_to c n bottom ok w x s s g ls above more hs bl t l a b k
          z f)
      runs_good (runs_so {e = e} {point = point} {ds = ds} lt en nm fit rs) a k sum =
          on_leaves (ltn_yes m (length g.defers) (omega (arith, lt, sum))) (with_base (bases c n k))
        where
          with_base : Based (e ∷ ds) g.defers → Good c n bottom (leaves true w x s g ls (above ++ more) pc hs bl)
          with_base (based base h) =
              subst (λ all. Good c n bottom (on_defer all s (λ q ds. only_where (fits hs q) s (spending s.clock.left s (Over ending.Steps s)
              (λ u. Next (machine w x u (record { born = g.born; defers = ds; noted = to pc ∷ g.noted }) ls (above ++ more) q hs bl))))))
              (sym h) (only_good c n bottom s _ (fits_there c n (handles c n now) (ok.live e point en.live).around) (spends c n bottom s _
              (λ l left. next (record {
                typing = t;
                point = point;
                locals = point.locals;
                ds = [];
                live = en.live;
                own = subst (λ ds. Own c n e point point.locals ds) en.defers own;
                store = z;
                fresh = stepped_fresh c n bottom t left f;
                stands = record {
                  above = [];
                  more = above ++ more;
                  split = refl;
                  locals = are_up (parent_of n) a fit;
                  stack = subst (λ st. All c n t [] st) (sym en.stack) are_no;
                  beneath = now;
                };
              }))))
            where
              inner : Beneath c n (Rest c n bottom w x s (giver n p) bl) t p ds ls more hs (ds ++ base) g.noted
              inner = with_defers c n ds base h k

              keeps_left : kept_defers hs ≤ length (ds ++ base)
              keeps_left =
                  subst (λ k. kept_defers hs ≤ k) (sym (counts c n inner)) (less (kept_defers hs) m p.under (length ds) (kept_defers_most c
                  n m k keeps (at_least rs)) lt)
                where
                  less : (a m u d : ℕ) → a ≤ m → m < u + suc d → a ≤ u + d
                  less a m u d f g = omega (arith, f, g)

              now : Beneath c n (Rest c n bottom w x s (giver n point) bl) t point [] ls (above ++ more) hs (ds ++ base) (to pc ∷ g.noted)
              now =
                  within (record {
                    back = record {
                      point = p;
                      live = live;
                      locals = point.locals;
                      left = ds;
                      own = own_left op keeps rs;
                      typing = t;
                      above = above;
                      more = more;
                      split = refl;
                      stack = b;
                    };
                    tries = en.tries;
                    entry = e;
                    block = en.block;
                    first = point;
                    is_entry = en.live;
                    func = sym en.func;
                    arm = sym en.arm;
                    outer = sym nm;
                    locals = refl;
                    base = ds ++ base;
                    under = en.under ∙ sym (counts c n inner);
                    defers = refl;
                    grows = adds_itself;
                  }) keeps_left (subst (λ v. Beneath c n (Rest c n bottom w x s v bl) t p ds ls more hs (ds ++ base) g.noted) (giver_same c
                  n p point en.func en.arm) inner)

  -- the end of a deferred block
  pub block_ends : (clears : Clears c n bottom ok w x (λ s. cleared x.ups x.pre x.post x.trees s) s t) (any : Gives_any c n bottom ok w x)
      {all : List ℕ} {ns : List Note} (born : ℕ) (ls above more : List Val) (hs : List Handler) →
      Beneath c n (Rest c n bottom w x s (giver n p) bl) t p p.defers ls more hs all ns → All c n t ls p.locals → All c n t above p.stack →
      Passes c n pc p o.DeferEnd → Good c n bottom (act c o.DeferEnd w x s (record { born = born; defers = all; noted = ns }) ls (above ++
      more) pc hs bl)
  block_ends clears any {all = all} {ns = ns} born ls above more hs k a b
      (r.of_defer_end {e = e} {point = point} block tries stack defers live
      fit) = ending (subst (All c n t above) stack b) (blocks c n k block tries)
    where
      ending : {above more : List Val} {hs : List Handler} {ns : List Note} → All c n t above [] →
          Blocked c n (Rest c n bottom w x s (giver n
          p) bl) t p p.defers ls more hs all ns → Good c n bottom (act c o.DeferEnd w x s (record {
            born = born;
            defers = all;
            noted = ns;
          }) ls (above ++ more) pc hs bl)
      ending {hs = hs} are_no (comes_back {i = i} {ns = ns} y kept inner) =
          only_good c n bottom s _ (ltn_yes (kept_noted hs) (suc (length ns)) (more_room (kept_noted hs) (length ns) (kept_noted_most c n
          inner))) (subst (λ st. Good c n bottom (goes w x s s (record { born = born; defers = all; noted = ns }) ls st i hs bl)) (sym
          y.back.split)
          (goes_at c n bottom ok w x s s (record { born = born; defers = all; noted = ns }) ls y.back.above y.back.more i hs bl
          t y.back.point y.back.locals y.back.left y.back.live y.back.own (are_up (parent_of n) a (subst (λ fs. Each c n p.locals fs)
          (ap (λ (q : Point). q.locals) same ∙ y.locals) fit)) (are_more (parent_of n) y.grows.grows y.back.stack) (subst (λ all.
          Beneath c n (Rest c n bottom w x s (giver n y.back.point) bl) t y.back.point y.back.left ls y.back.more hs all ns) (sym no_more)
          (subst (λ v. Beneath c n (Rest c
          n bottom w x s v bl) t y.back.point y.back.left ls y.back.more hs y.base ns) (giver_same c n p y.back.point y.func y.arm) (moves c
          n inner (kin_itself y.back.point) (tries_itself c n y.back.point.tries) y.grows))) z f))
        where
          more_room : (a b : ℕ) → a ≤ b → a < suc b
          more_room a b h = omega (arith, h)

          same : point ≡ y.first
          same = same_in (subst (λ e. point_at n e ≡ Some point) (same_Some _ _ (sym block ∙ y.block)) live) y.is_entry

          no_more : all ≡ y.base
          no_more = y.defers ∙ ap (λ ds. ds ++ y.base) defers
      ending {more = more} {hs = hs} are_no (comes_down {u = u} none y g r) =
          only_good c n bottom s _ (ap (λ hs. ltn (kept_noted hs) 1) none)
          (clears_good c n bottom ok w x (λ s. cleared x.ups x.pre x.post x.trees s) any (frame (record {
            born = born;
            defers = all;
            noted = [];
          }) ls more pc hs ∷ bl) s t t (giver n p) clears (
            record {
              point = y.from;
              plain = y.plain;
              sorts = point.locals;
              locals = are_up (parent_of n) a fit;
              ready =
                  subst (Ready c n y.from point.locals) (sym (y.defers ∙ ap (λ ds. ds ++ y.base) defers)) (subst (λ (q : Point). Ready c n
                  y.from q.locals y.base) (sym same) y.ready);
              noted = refl;
            },
            u,
            g,
            r,
          ) adds_itself z f)
        where
          same : point ≡ y.first
          same = same_in (subst (λ e. point_at n e ≡ Some point) (same_Some _ _ (sym block ∙ y.block)) live) y.is_entry
