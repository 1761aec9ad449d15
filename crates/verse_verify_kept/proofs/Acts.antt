-- Operations within a frame.
use Rattle.std.proofs.Common.{◌≡◌, ℕ, zero, suc, ◌-◌, List, [], ◌∷◌, ◌++◌, Option, Some, None, Bool, true, false, refl, sym, ℤ}
use Rattle.std.proofs.Common.{subst, ap, arith, ◌∙◌}
use Rattle.std.specs.Prelude.{slice_get}
use Rattle.std.proofs.lemmas.Bool.{cond_both}
use Rattle.std.proofs.lemmas.List.{append_assoc, append-nil}
use Rattle.verse_base.specs.declared.refusals.Kind.{Kind as Error}
use Rattle.verse_code.specs.declared.operations.Op.TheVariants as o
use Rattle.verse_code.specs.declared.codes.Func.{Func}
use Rattle.verse_code.specs.declared.codes.Code.{Code}
use Rattle.verse_value.specs.Val.{Val}
use Rattle.verse_value.specs.Equality.{val_eq}
use Rattle.verse_value.specs.Answer.{Answer, gives, fails, error}
use Rattle.verse_value.specs.declared.runs.Ending.TheVariants as ending
use Rattle.verse_meaning_state.specs.State.{State, spending, stepped, restored}
use Rattle.verse_code_machine.specs.Tasks.{Life, Handler, Frame, Note, Who, World, Step, Over}
use Rattle.verse_code_machine.specs.Frames.{on_many, on_there, only_where, fits, goes}
use Rattle.verse_code_machine.specs.Frames.{enters}
use Rattle.verse_code_machine.specs.Acts.{frame, act}
use Rattle.verse_sorts.specs.Sorts.{Sort}
use Rattle.verse_sorts.specs.Typing.{Typing, Adds, are_no, are_so, is_int}
use Rattle.verse_sorts.specs.Typing.{fit_so}
use Rattle.verse_sorts.proofs.Fitting.{all_itself, are_more, are_up, adds_itself}
use Rattle.verse_verify_kept.specs.Notes.{FuncNote, Open, Point, Notes, parent_of, point_at}
use Rattle.verse_verify_kept.specs.Known.{Known}
use Rattle.verse_verify_kept.specs.Rules.{Kin, Fit, Each, TriesFit, Leads, To, MayFail, in_try, in_function, tries_so, MayWait, MayCall}
use Rattle.verse_verify_kept.specs.Rules.{Around, Sound, Begins, Passes, Pops}
use Rattle.verse_verify_kept.specs.Rules.{pops_no, pops_so, Quiet, nones}
use Rattle.verse_verify_kept.specs.Rules as r
use Rattle.verse_verify_kept.specs.Kept.{Giver, func_gives, arm_gives, giver, All, StoreIs, Own, own, Tried, Beneath, plain, trying}
use Rattle.verse_verify_kept.specs.Kept.{without_top, Waits, Below, Bottom}
use Rattle.verse_verify_kept.proofs.Locals.{gets, Got, got, put_there, Put, puts, units_are, joined_are}
use Rattle.verse_verify_kept.proofs.Places.{try_live, same_in, none_left, try_label, fits_there, handles, moves, written, tries_itself}
use Rattle.verse_verify_kept.proofs.Places.{Based, based, bases, Opened, opened, opens, with_defers}
use Rattle.verse_verify_kept.proofs.Going.{Good, next, over, only_good, next_to, Rest, Fresh, goes_to, failing_good, Ends, same_giver}
use Rattle.verse_verify_kept.proofs.Going.{less_fresh}

-- the top operand and what lies beneath it
pub data Topped (c : Code) (n : Notes) (a : Sort) (xs zs : List Sort) : Type 0 where
  topped : (b : Sort) (ys : List Sort) → zs ≡ b ∷ ys → Fit c n a b → Each c n xs ys → Topped c n a xs zs

pub split_top : {c : Code} {n : Notes} {a : Sort} {xs ys : List Sort} → Each c n (a ∷ xs) ys → Topped c n a xs ys
split_top (fit_so {b = b} {ys = ys} f r) = topped b ys refl f r

pub fail_on : {c : Code} {n : Notes} {p q : Point} → Kin p q → TriesFit c n p.tries q.tries → MayFail c n p → MayFail c n q
fail_on {c = c} {n = n} {p = p} {q = q} k t (in_try {t = a} {ts = ts} e) = in_some (subst (λ ts. TriesFit c n ts q.tries) e t) refl
  where
    in_some : {ts us : List Open} → TriesFit c n (a ∷ ts) us → q.tries ≡ us → MayFail c n q
    in_some (tries_so f g h) e = in_try e
fail_on {n = n} k t (in_function {f = f} a b d e) =
    in_function (sym k.arm ∙ a) (sym k.block ∙ b) (subst (λ i. slice_get n.functions i ≡ Some f) k.func d) e

pub wait_on : {c : Code} {n : Notes} {p q : Point} → Kin p q → TriesFit c n p.tries q.tries → MayWait c n p → MayWait c n q
wait_on {c = c} {n = n} k t m = record {
  tries = none_left c n m.tries t;
  block = sym k.block ∙ m.block;
  func = m.func;
  is_func = subst (λ i. slice_get n.functions i ≡ Some m.func) k.func m.is_func;
  holds = m.holds;
}

pub giver_is : (n : Notes) (p : Point) (f : FuncNote) → p.arm ≡ None → slice_get n.functions p.func ≡ Some f →
    giver n p ≡ record { result = f.result; part = false; may_fail = f.may_fail; may_wait = f.may_wait }
giver_is n p f a e = ap (λ a. arm_gives a (func_gives (slice_get n.functions p.func))) a ∙ ap func_gives e

-- what an operation comes to: it is not stuck, fails only where it may, and errs only where it has a place
pub data Fine {A : Type 0} (F E : Type 0) (R : A → Type 0) : Answer A → Type 0 where
  fine_gives : {x : A} → R x → Fine F E R (gives x)
  fine_fails : F → Fine F E R fails
  fine_error : {k : Error} → E → Fine F E R (error k)

pieces : (a m b d : List Val) → m ≡ b ++ d → (a ++ []) ++ m ≡ (a ++ b) ++ d
pieces a m b d e = ap (λ a. a ++ m) (append-nil a) ∙ (ap (λ m. a ++ m) e ∙ sym (append_assoc a b d))

module _ (c : Code) (n : Notes) {rest : Bool → Typing → Type 0} where
  -- what stands beneath a Try stands there when it is taken off
  beneath_in : {t u : Typing} {p q : Point} {ds all : List ℕ} {ls : List Val} {h : Handler} {hs : List Handler} {ns : List Note} {a : Open}
      {ts : List Open} (y : Tried c n t p ds ls h all ns) → y.head ≡ a → y.tail ≡ ts → point_at n a.index ≡ Some q → q.defers ≡ ds →
      Beneath c n rest y.held.typing y.held.point y.held.point.defers ls y.held.more hs h.life.defers ns → Adds y.held.typing u →
      Beneath c n rest u (record p { tries = ts }) ds ls y.held.more hs all ns
  beneath_in {u = u} {p = p} {q = q} {ds = ds} {all = all} {ls = ls} {h = h} {hs = hs} {ns = ns} {a = a} {ts = ts} y e f d same b w =
      subst (λ all. Beneath c n rest u (record p { tries = ts }) ds ls y.held.more hs all ns) (y.kept ∙ (ap (λ ds. ds ++ y.base) now ∙ sym
      y.defers)) (subst (λ ds. Beneath c n rest u (record p { tries = ts }) ds ls y.held.more hs h.life.defers ns) now (moves c n b kin
      (subst (TriesFit c n y.held.point.tries) f y.others) w))
    where
      now : y.held.point.defers ≡ ds
      now = subst (λ (q : Point). q.defers ≡ ds) (same_in (subst (λ i. point_at n i ≡ Some q) (sym (ap (λ (a : Open). a.index) e) ∙ y.made)
          d) y.held.live) same

      kin : Kin y.held.point (record p { tries = ts })
      kin = record { func = y.kin.func; arm = y.kin.arm; block = y.kin.block; outer = y.kin.outer; under = y.kin.under }

module _ (c : Code) (n : Notes) (bottom : Bottom c n) where
  pub there_good : {A : Type 0} {m : Option A} {y : A} (s : State) (go : A → Step) → m ≡ Some y → Good c n bottom (go y) →
      Good c n bottom (on_there m s go)
  there_good s go e a = subst (λ m. Good c n bottom (on_there m s go)) (sym e) a

  pub spends : {k : ℕ} (s : State) (go : State → Step) → ((l : ℕ) → k ≡ suc l → Good c n bottom (go (stepped l s))) →
      Good c n bottom (spending k s (Over ending.Steps s) go)
  spends {k = zero} s go f = over tt
  spends {k = suc l} s go f = f l refl

  pub stepped_fresh : (t : Typing) {k l : ℕ} → k ≡ suc l → Fresh c n bottom t k → Fresh c n bottom t l
  stepped_fresh t e f = λ i a h. omega (arith, e, f i a h)

  module _ (ok : Known c n) (ends : Ends c n bottom) (w : Who) (x : World) (s : State) (g : Life) (pc : ℕ) (bl : List Frame)
      (t : Typing) (p : Point) (z : StoreIs c n t s.memory.store) (f : Fresh c n bottom t s.clock.left) where
    abbrev All_else : Bool → Typing → Type 0
    All_else = Rest c n bottom w x s (giver n p) bl

    abbrev Here : List Val → List Val → List Handler → Type 0
    Here ls more hs = Beneath c n (Rest c n bottom w x s (giver n p) bl) t p p.defers ls more hs g.defers g.noted

    module _ (ls more : List Val) (hs : List Handler) (k : Here ls more hs) (a : All c n t ls p.locals) where
      -- the operation leads on with these operands
      pub to_good : {i : ℕ} {st : List Sort} {above : List Val} → To c n p st i → All c n t above st →
          Good c n bottom (goes w x s s g ls (above ++ more) i hs bl)
      to_good {above = above} l b = goes_to c n bottom ok w x s s g ls above more hs bl t l a b k z f

      pub fits_to : {i : ℕ} {st : List Sort} → To c n p st i → fits hs i ≡ true
      fits_to {i = i} l = fits_there c n (handles c n (moves c n k l.kin l.tries adds_itself)) (ok.live i l.point l.live).around

      pub int_good : {j : ℤ} {above : List Val} → All c n t above p.stack → Passes c n pc p (o.Int j) →
          Good c n bottom (act c (o.Int j) w x s g ls (above ++ more) pc hs bl)
      int_good b (r.of_int l) = to_good l (are_so is_int b)

      pub get_good : {j : ℕ} {above : List Val} → All c n t above p.stack → Passes c n pc p (o.Get j) →
          Good c n bottom (act c (o.Get j) w x s g ls (above ++ more) pc hs bl)
      get_good {j = j} {above = above} b (r.of_get {a = y} e h l) = have (gets (parent_of n) t j a e)
        where
          have : Got (parent_of n) t ls j y → Good c n bottom (act c (o.Get j) w x s g ls (above ++ more) pc hs bl)
          have (got e i) = there_good s _ e (to_good l (are_so i b))

      pub put_good : {j : ℕ} {above : List Val} → All c n t above p.stack → Passes c n pc p (o.Put j) →
          Good c n bottom (act c (o.Put j) w x s g ls (above ++ more) pc hs bl)
      put_good {j = j} {above = above} b (r.of_put {a = y} {st = st} {ls = ms} e h q l) = have (subst (All c n t above) e b)
        where
          have : {above : List Val} → All c n t above (y ∷ st) → Good c n bottom (act c (o.Put j) w x s g ls (above ++ more) pc hs bl)
          have (are_so {w = v} {vs = vs} i b) = into (put_there (parent_of n) t j a h i)
            where
              into : Put (parent_of n) t ls j v ms → Good c n bottom (act c (o.Put j) w x s g ls (v ∷ vs ++ more) pc hs bl)
              into (puts {ws = ws} e m) =
                  there_good s _ e (goes_to c n bottom ok w x s s g ws vs more hs bl t l m b (written c n j v k q e) z f)

      pub jump_good : {j : ℕ} {above : List Val} → All c n t above p.stack → Passes c n pc p (o.Jump j) →
          Good c n bottom (act c (o.Jump j) w x s g ls (above ++ more) pc hs bl)
      jump_good b (r.of_jump l) = to_good l b

      pub try_good : {j : ℕ} {above : List Val} → All c n t above p.stack → slice_get c.ops pc ≡ Some (o.Try j) → point_at n pc ≡ Some p →
          Passes c n pc p (o.Try j) → Good c n bottom (act c (o.Try j) w x s g ls (above ++ more) pc hs bl)
      try_good {j = j} {above = above} b e d (r.of_try l m) = with_base (bases c n k)
        where
          with_base : Based p.defers g.defers → Good c n bottom (act c (o.Try j) w x s g ls (above ++ more) pc hs bl)
          with_base (based base h) =
              goes_to c n bottom ok w x s s g ls [] [] (record { made = pc; label = j; stack = above ++ more; memory = s.memory; life = g }
              ∷ hs) bl t l a are_no (trying (record {
                held = record {
                  point = p;
                  live = d;
                  label = m.point;
                  is_try = e;
                  is_label = m.live;
                  leads = m;
                  typing = t;
                  locals = are_up (parent_of n) a m.locals;
                  store = z;
                  above = above;
                  more = more;
                  split = refl;
                  stack = b;
                };
                head = record { index = pc; beneath = p.stack };
                tail = p.tries;
                tries = refl;
                made = refl;
                kin = record { func = refl; arm = refl; block = refl; outer = refl; under = refl };
                operands = all_itself (parent_of n) p.stack;
                others = tries_itself c n p.tries;
                grows = adds_itself;
                base = base;
                defers = h;
                kept = h;
                noted = refl;
              }) k) z f

      pub fail_good : (st : List Val) → Passes c n pc p o.Fail → Good c n bottom (act c o.Fail w x s g ls st pc hs bl)
      fail_good st (r.of_fail m) = failing_good c n bottom ok w x ends s ls hs bl k m f

      pub drop_good : {above : List Val} → All c n t above p.stack → Passes c n pc p o.Drop →
          Good c n bottom (act c o.Drop w x s g ls (above ++ more) pc hs bl)
      drop_good {above = above} b (r.of_drop {a = y} {st = st} e l) = have (subst (All c n t above) e b)
        where
          have : {above : List Val} → All c n t above (y ∷ st) → Good c n bottom (act c o.Drop w x s g ls (above ++ more) pc hs bl)
          have (are_so i b) = to_good l b

      pub again_good : {j : ℕ} {above : List Val} → All c n t above p.stack → Passes c n pc p (o.Again j) →
          Good c n bottom (act c (o.Again j) w x s g ls (above ++ more) pc hs bl)
      again_good {j = j} {above = above} b (r.of_again l) =
          only_good c n bottom s _ (fits_to l) (spends s _ (λ m e. next_to c n bottom ok w x (stepped m s) g ls above more hs bl t l a b k z
          (stepped_fresh t e f)))

      pub commit_good : {above : List Val} → All c n t above p.stack → Passes c n pc p o.Commit →
          Good c n bottom (act c o.Commit w x s g ls (above ++ more) pc hs bl)
      commit_good {above = above} b (r.of_commit {t = r} {ts = ts} e h l) = with_try (opens c n k e)
        where
          with_try : {more : List Val} {hs : List Handler} → Opened c n (Rest c n bottom w x s (giver n p) bl) t p p.defers ls g.defers
              g.noted r ts more hs → Good c n bottom (act c o.Commit w x s g ls (above ++ more) pc hs bl)
          with_try (opened {h = i} {hs = hs} y head tail j) =
              subst (λ st. Good c n bottom (goes w x s s g ls st (suc pc) hs bl)) (sym (pieces above i.stack y.held.above y.held.more
              y.held.split)) (goes_to c n bottom ok w x s s g ls (above ++ y.held.above) y.held.more hs bl t l a (joined_are (parent_of n) t
              b (are_up (parent_of n) (are_more (parent_of n) y.grows.grows y.held.stack) (subst (λ (r : Open). Each c n y.held.point.stack
              r.beneath) head y.operands))) (beneath_in c n y head tail (try_live c n y head) (h y.held.point (try_live c n y head)) j
              y.grows) z f)

      pub undo_good : {above : List Val} → All c n t above p.stack → Passes c n pc p o.Undo →
          Good c n bottom (act c o.Undo w x s g ls (above ++ more) pc hs bl)
      undo_good {above = above} b (r.of_undo {t = r} {ts = ts} {label = label} e none h lab l) =
          with_try (subst (All c n t above) none b) (opens c n k e)
        where
          with_try : {above more : List Val} {hs : List Handler} → All c n t above [] → Opened c n (Rest c n bottom w x s (giver n p) bl) t
              p p.defers ls g.defers g.noted r ts more hs → Good c n bottom (act c o.Undo w x s g ls (above ++ more) pc hs bl)
          with_try are_no (opened {h = i} {hs = hs} y head tail j) =
              subst (λ st. Good c n bottom (goes w x s (restored i.memory s) g ls st (suc pc) hs bl)) (sym y.held.split) (goes_to c n bottom
              ok w x s (restored i.memory s) g ls y.held.above y.held.more hs bl y.held.typing (l y.held.label at_label) y.held.locals
              (are_up (parent_of n) y.held.stack (subst (λ (r : Open). Each c n y.held.point.stack r.beneath) head y.operands))
              (beneath_in c n y head tail (try_live c n y head) (h y.held.point (try_live c n y head)) j adds_itself) y.held.store
              (less_fresh c n bottom ok w x s.clock.left y.grows f))
            where
              at_label : point_at n label ≡ Some y.held.label
              at_label =
                  subst (λ l. point_at n l ≡ Some y.held.label) (sym (try_label label i.label (same_in (subst (λ k. slice_get c.ops k ≡ Some
                  (o.Try label)) (sym (ap (λ (a : Open). a.index) head) ∙ y.made) lab) y.held.is_try))) y.held.is_label

      -- so many operands are popped
      pub many_good : {m : ℕ} {sts xs ys rest : List Sort} (above vs : List Val) (go : List Val → List Val → Step) → Pops m sts xs ys rest →
          All c n t above sts → All c n t vs xs → ((ws above : List Val) → All c n t ws ys → All c n t above rest →
          Good c n bottom (go ws (above ++ more))) → Good c n bottom (on_many m (above ++ more) vs s go)
      many_good above vs go pops_no b d h = h vs above d b
      many_good above vs go (pops_so q) (are_so {w = v} {vs = us} i b) d h = many_good us (v ∷ vs) go q b (are_so i d) h

      -- a call begins a frame
      pub enter_good : {fn : Func} {gn : FuncNote} {st : List Sort} (j : ℕ) (vs above : List Val) → slice_get c.functions j ≡ Some fn →
          slice_get n.functions j ≡ Some gn → All c n t vs gn.params → MayCall c n p gn → To c n p (gn.result ∷ st) (suc pc) →
          All c n t above st → Good c n bottom (only_where (fits hs (suc pc)) s (enters fn vs w x s (frame g ls (above ++ more) (suc pc) hs
          ∷ bl)))
      enter_good {fn = fn} {gn = gn} {st = st} j vs above e d h may l b =
          only_good c n bottom s _ (fits_to l) (spends s _ (λ m left. next (record {
            typing = t;
            point = first.point;
            locals = first.point.locals;
            ds = [];
            live = first.live;
            own = subst (Own c n fn.entry first.point first.point.locals) first.defers own;
            store = z;
            fresh = stepped_fresh t left f;
            stands = record {
              above = [];
              more = [];
              split = refl;
              locals = are_up (parent_of n) (joined_are (parent_of n) t h (units_are (parent_of n) t (fn.locals - fn.params))) first.locals;
              stack = subst (All c n t []) (sym first.stack) are_no;
              beneath = plain (record {
                tries = first.tries;
                block = first.block;
                outer = first.outer;
                under = first.under;
              }) adds_itself (l.point, waits (split_top l.stack));
            };
          })))
        where
          first : Begins c n fn j gn
          first = ok.begins j fn gn e d

          gives_of : giver n first.point ≡ record { result = gn.result; part = false; may_fail = gn.may_fail; may_wait = gn.may_wait }
          gives_of = giver_is n first.point gn first.arm (subst (λ f. slice_get n.functions f ≡ Some gn) (sym first.func) d)

          fits_of : Giver → Type 0
          fits_of v = (v.result ≡ gn.result) × (v.may_fail ≡ gn.may_fail) × (v.may_wait ≡ gn.may_wait) × (v.part ≡ false)

          same : fits_of (giver n first.point)
          same = subst fits_of (sym gives_of) (refl, refl, refl, refl)

          waits : Topped c n gn.result st l.point.stack → Waits c n (λ b u. Below c n (bottom w x s.clock.results s.clock.signals
              s.clock.next) (giver n l.point) bl b u) t (giver n first.point) (frame g ls (above ++ more) (suc pc) hs) l.point
          waits (topped top ys is fit each) = record {
            live = l.live;
            whole = same.3;
            top = top;
            st = ys;
            stack = is;
            fits = subst (λ a. Fit c n a top) (sym same.0) fit;
            fails = λ e. fail_on l.kin l.tries (may.fails (sym same.1 ∙ e));
            waits = λ e. wait_on l.kin l.tries (may.waits (sym same.2 ∙ e));
            stands = record {
              above = above;
              more = more;
              split = refl;
              locals = are_up (parent_of n) a l.locals;
              stack = are_up (parent_of n) b each;
              beneath = subst (λ ds. Beneath c n (Rest c n bottom w x s (giver n l.point) bl) t (without_top c n l.point ys) ds ls more hs
                  g.defers g.noted) l.defers (subst (λ v. Beneath c n (Rest c n bottom w x s v bl) t (without_top c n l.point ys) p.defers
                  ls more hs g.defers g.noted) (same_giver c n l.kin) (moves c n k kin l.tries adds_itself));
            };
          }
            where
              kin : Kin p (without_top c n l.point ys)
              kin = record { func = l.kin.func; arm = l.kin.arm; block = l.kin.block; outer = l.kin.outer; under = l.kin.under }

      pub call_good : {j : ℕ} {above : List Val} → All c n t above p.stack → Passes c n pc p (o.Call j) →
          Good c n bottom (act c (o.Call j) w x s g ls (above ++ more) pc hs bl)
      call_good {j = j} {above = above} b (r.of_call {q = fn} {g = gn} e d q fit may l) =
          there_good s _ e (many_good above [] _ q b are_no
          (λ vs above h b. enter_good j vs above e d (are_up (parent_of n) h fit) may l b))

      pub same_good : {j : ℕ} {above : List Val} → All c n t above p.stack → Passes c n pc p (o.Same j) →
          Good c n bottom (act c (o.Same j) w x s g ls (above ++ more) pc hs bl)
      same_good {j = j} {above = above} b (r.of_same {a = d} {b = e} {st = st} h l m) = have (subst (All c n t above) h b)
        where
          have : {above : List Val} → All c n t above (e ∷ d ∷ st) → Good c n bottom (act c (o.Same j) w x s g ls (above ++ more) pc hs bl)
          have (are_so {w = v} i (are_so {w = u} {vs = vs} k b)) =
              cond_both (val_eq u v) (suc pc) j (λ i. Good c n bottom (goes w x s s g ls (vs ++ more) i hs bl)) (λ e. to_good l b) (λ e.
              to_good m b)

      -- one block more is deferred
      pub defer_good : {j : ℕ} {above : List Val} → All c n t above p.stack → Passes c n pc p (o.Defer j) →
          Good c n bottom (act c (o.Defer j) w x s g ls (above ++ more) pc hs bl)
      defer_good {j = j} {above = above} b (r.of_defer en nm e l) = with_base (bases c n k)
        where
          with_base : Based p.defers g.defers → Good c n bottom (act c (o.Defer j) w x s g ls (above ++ more) pc hs bl)
          with_base (based base h) =
              goes_to c n bottom ok w x s s (record g { defers = suc pc ∷ g.defers }) ls above more hs bl t l a b (subst (λ all. Beneath c n
              (Rest c n bottom w x s (giver n p) bl) t p (suc pc ∷ p.defers) ls more hs all g.noted) (ap (λ ds. suc pc ∷ ds) (sym h))
              (with_defers c n (suc pc ∷ p.defers) base h k)) z f
