-- Calls of methods: of the class that the object has.
use Rattle.std.proofs.Common.{◌≡◌, ℕ, zero, suc, ◌+◌, length, List, [], ◌∷◌, ◌++◌, Some, None, cond, refl, sym, subst, ap}
use Rattle.std.proofs.Common.{◌∙◌, arith}
use Rattle.std.specs.Prelude.{slice_get}
use Rattle.std.proofs.lemmas.Option.{same_Some, none-some}
use Rattle.verse_code.specs.declared.operations.Op.TheVariants as o
use Rattle.verse_code.specs.declared.codes.Code.{Code}
use Rattle.verse_value.specs.Val as v
use Rattle.verse_value.specs.Val.{Val}
use Rattle.verse_value.specs.Store.{Cell}
use Rattle.verse_value.specs.declared.runs.CellKind.{CellKind}
use Rattle.verse_meaning_state.specs.State.{State}
use Rattle.verse_meaning_state.specs.Waits.{eqn}
use Rattle.verse_meaning_state.specs.Effects.{class_in, class_at}
use Rattle.verse_meaning_state.proofs.Numbers.{eqn_same}
use Rattle.verse_code_machine.specs.Tasks.{Life, Handler, Frame, Who, World, Step}
use Rattle.verse_code_machine.specs.Frames.{on_top, on_there, only_where, fits, enters, taking, classed, method_in, numbered, method_of}
use Rattle.verse_code_machine.specs.Acts.{frame, act}
use Rattle.verse_sorts.specs.Sorts as sort
use Rattle.verse_sorts.specs.Sorts.{Sort, Inherits, itself, fits_obj}
use Rattle.verse_sorts.specs.Typing.{at, Typing, is_object, are_no, are_so, fit_so}
use Rattle.verse_sorts.proofs.Fitting.{is_up, are_up, fits_on}
use Rattle.verse_verify_kept.specs.Notes.{FuncNote, Point, Notes, parent_of}
use Rattle.verse_verify_kept.specs.Known.{Known}
use Rattle.verse_verify_kept.specs.Known.{Called}
use Rattle.verse_verify_kept.specs.Rules.{Each, Leads, To, MayCall, Passes, Pops, pops_no, pops_so, Method, method, Overrides, Begins}
use Rattle.verse_verify_kept.specs.Rules.{rest_of}
use Rattle.verse_verify_kept.specs.Rules as r
use Rattle.verse_verify_kept.specs.Kept.{giver, Of, All, CellIs, var_is, object_is, event_is, CellsAre, cells_no, cells_so, StoreIs}
use Rattle.verse_verify_kept.specs.Kept.{Beneath, Bottom}
use Rattle.verse_verify_kept.proofs.Going.{Good, Ends, Rest, Fresh}
use Rattle.verse_verify_kept.proofs.Acts.{many_good, enter_good}

module _ (c : Code) (n : Notes) (t : Typing) where
  obj_same : (a b : ℕ) → sort.obj a ≡ sort.obj b → a ≡ b
  obj_same a b e = cc

  class_there : {cells : List Cell} {xs : List Sort} {class : ℕ} (i : ℕ) → CellsAre c n t cells xs → at xs i ≡ Some (sort.obj class) →
      class_at (slice_get cells i) ≡ Some class
  class_there i cells_no e = elim (none-some _ e) [ ]
  class_there {class = class} zero (cells_so i r) e = by_cell i (same_Some _ _ e)
    where
      by_cell : {kd : CellKind} {us : List Val} {b : Sort} → CellIs c n t kd us b → b ≡ sort.obj class → class_in kd ≡ Some class
      by_cell (object_is {class = other} g j) e = ap Some (obj_same other class e)
      by_cell (var_is i) e = not_var e
        where
          not_var : {A : Type 0} {b : Sort} → sort.var b ≡ sort.obj class → A
          not_var e = cc
      by_cell event_is e = not_event e
        where
          not_event : {A : Type 0} {b : Sort} → sort.event b ≡ sort.obj class → A
          not_event e = cc
  class_there (suc i) (cells_so j r) e = class_there i r e

  args_count : {us : List Val} {xs : List Sort} → All c n t us xs → length us ≡ length xs
  args_count are_no = refl
  args_count (are_so i r) = ap suc (args_count r)

pub pops_count : {m : ℕ} {st xs ys rest : List Sort} → Pops m st xs ys rest → length ys ≡ m + length xs
pops_count pops_no = omega arith
pops_count (pops_so {n = n} {xs = xs} {ys = ys} q) = more (length ys) n (length xs) (pops_count q)
  where
    more : (a b d : ℕ) → a ≡ b + suc d → a ≡ suc b + d
    more a b d e = omega (arith, e)

module _ (c : Code) (n : Notes) (bottom : Bottom c n) (ok : Known c n) (ends : Ends c n bottom) (w : Who) (x : World) (s : State)
    (g : Life) (pc : ℕ) (bl : List Frame) (t : Typing) (p : Point) (z : StoreIs c n t s.memory.store) (f : Fresh c n bottom t s.clock.left)
    (ls more : List Val) (hs : List Handler) (k : Beneath c n (Rest c n bottom w x s (giver n p) bl) t p p.defers ls more hs g.defers
    g.noted) (a : All c n t ls p.locals) {above : List Val} (b : All c n t above p.stack) where
  -- the method that is called is there, and takes as many arguments
  pub called_there : {m j heir : ℕ} {gn : FuncNote} (i : ℕ) → at t.cells i ≡ Some (sort.obj heir) → (q : Called c n heir m gn) →
      q.func.params ≡ suc j → method_of c m j (v.object i) s ≡ Some q.func
  called_there {m = m} {j = j} {heir = heir} i h q count =
      ap (λ class. taking (suc j) (classed c m class)) (class_there c n t i z h) ∙ (ap (λ k. taking (suc j) (method_in c.functions m k))
      q.is_class ∙ (ap (λ f. taking (suc j) (numbered c.functions f)) q.is_method ∙ (ap (λ f. taking (suc j) f) q.is_func ∙ (ap (λ b. cond b
      (Some q.func) None) (ap (λ k. eqn k (suc j)) count ∙ eqn_same (suc j))))))

  pub weaker : {i : ℕ} {d e : Sort} {st : List Sort} → r.Fit c n d e → To c n p (e ∷ st) i → To c n p (d ∷ st) i
  weaker {d = d} {e = e} {st = st} fit l = record {
    point = l.point;
    live = l.live;
    kin = l.kin;
    locals = l.locals;
    stack = first l.stack;
    tries = l.tries;
    defers = l.defers;
  }
    where
      first : {ys : List Sort} → Each c n (e ∷ st) ys → Each c n (d ∷ st) ys
      first (fit_so h r) = fit_so (fits_on (parent_of n) fit h) r

  -- what is called takes the arguments, and gives what is noted
  pub record Takes {m : ℕ} {gn : FuncNote} {class : ℕ} (q : Called c n class m gn) (j : ℕ) (u : Val) (vs : List Val) : Type 0 where
    pub args : All c n t (u ∷ vs) q.note.params
    pub count : q.func.params ≡ suc j

  pub takes : {m j i heir : ℕ} {gn : FuncNote} {vs : List Val} {xs ps : List Sort} {d : Sort} → at t.cells i ≡ Some (sort.obj heir) →
      (q : Called c n heir m gn) → gn.params ≡ ps → Each c n (d ∷ xs) ps → All c n t vs xs → length xs ≡ j + 0 → Takes q j (v.object i) vs
  takes {j = j} {i = i0} {vs = vs} {xs = xs} h q same (fit_so {ys = ys} fit r) i count = record {
    args = args;
    count = sums (length q.note.params) q.func.params (length vs) (length xs) j (ok.begins q.number q.func q.note q.is_func
        q.is_note).count (sym (args_count c n t args)) (args_count c n t i) count;
  }
    where
      args : All c n t (v.object i0 ∷ vs) q.note.params
      args =
          subst (All c n t (v.object i0 ∷ vs)) (sym (q.params ∙ ap (λ ps. q.first ∷ rest_of ps) same)) (are_so (is_up (parent_of n)
          (is_object h itself) q.fits) (are_up (parent_of n) i r))

      sums : (a b d e j : ℕ) → a ≡ b → a ≡ suc d → d ≡ e → e ≡ j + 0 → b ≡ suc j
      sums a b d e j f g h i = omega (arith, f, g, h, i)

  pub method_good : {m j : ℕ} → Passes c n pc p (o.Method m j) → Good c n bottom (act c (o.Method m j) w x s g ls (above ++ more) pc hs bl)
  method_good {m = m} {j = j} (r.of_method {a = d} {g = gn} {xs = xs} {st = st} pops is_method fit may l) =
      many_good c n bottom ok ends w x s g pc bl t p z f ls more hs k a above [] _ pops b are_no (λ vs rest i r. have i r)
    where
      by_object : {u : Val} {d : Sort} {vs rest : List Val} → Method c n d m gn → Of c n t u d → Each c n (d ∷ xs) gn.params →
          All c n t vs xs → All c n t rest st → Good c n bottom
          (on_there (method_of c m j u s) s (λ f. only_where (fits hs (suc pc)) s
          (enters f (u ∷ vs) w x s (frame g ls (rest ++ more) (suc pc) hs ∷ bl))))
      by_object {vs = vs} {rest = rest} (method {class = class} e e2 e3) (is_object {i = o} {c = heir} h up) fit i r = go (ok.methods heir
          class m gn up (method e e2 e3))
        where
          go : Called c n heir m gn → Good c n bottom (on_there (method_of c m j (v.object o) s) s (λ f. only_where (fits hs (suc pc)) s
              (enters f (v.object o ∷ vs) w x s (frame g ls (rest ++ more) (suc pc) hs ∷ bl))))
          go q = into (takes h q refl fit i (pops_count pops))
            where
              into : Takes q j (v.object o) vs → Good c n bottom (on_there (method_of c m j (v.object o) s) s (λ f. only_where (fits hs (suc
                  pc)) s (enters f (v.object o ∷ vs) w x s (frame g ls (rest ++ more) (suc pc) hs ∷ bl))))
              into y =
                  subst (λ m. Good c n bottom (on_there m s (λ f. only_where (fits hs (suc pc)) s (enters f (v.object o ∷ vs) w x s (frame g
                  ls (rest ++ more) (suc pc) hs ∷ bl))))) (sym (called_there o h q y.count))
                  (enter_good c n bottom ok ends w x s g pc bl t p z f ls more hs k a q.number (v.object o ∷ vs) rest q.is_func q.is_note
                  y.args (record {
                    fails = λ e. may.fails (q.overrides.fails e);
                    waits = λ e. may.waits (q.overrides.waits e);
                  }) (weaker q.overrides.result l) r)

      have : {vs rest : List Val} → All c n t vs xs → All c n t rest (d ∷ st) → Good c n bottom (on_top (rest ++ more) s (λ v st. on_there
          (method_of c m j v s) s (λ f. only_where (fits hs (suc pc)) s (enters f (v ∷ vs) w x s (frame g ls st (suc pc) hs ∷ bl)))))
      have i (are_so {w = u} {vs = rest} o r) = by_object is_method o fit i r
  method_good {m = m} {j = j} (r.of_no_method {xs = xs} {st = st} pops l) =
      many_good c n bottom ok ends w x s g pc bl t p z f ls more hs k a above [] _ pops b are_no (λ vs rest i r. none _ r)
    where
      none : {rest : List Val} (go : Val → List Val → Step) → All c n t rest (sort.never ∷ st) →
          Good c n bottom (on_top (rest ++ more) s go)
      none go (are_so i r) = elim i [ ]
