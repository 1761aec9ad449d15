-- What it comes to that an operation breaks no rule: each thing that it asks is so.
use Rattle.std.proofs.Common.{◌≡◌, ℕ, zero, suc, List, [], ◌∷◌, Option, Some, None, Bool, true, false, cond, refl, sym}
use Rattle.std.proofs.Common.{ap, ◌∙◌}
use Rattle.std.specs.Prelude.{◌&&◌, ◌||◌, not}
use Rattle.std.proofs.lemmas.Option.{none-some}
use Rattle.std.proofs.lemmas.Bool.{and_parts}
use Rattle.verse_code.specs.declared.operations.Op.{Op}
use Rattle.verse_code.specs.declared.codes.Code.{Code}
use Rattle.verse_sorts.specs.Sorts as s
use Rattle.verse_sorts.specs.Sorts.{Sort}
use Rattle.verse_verify_kept.specs.Notes.{FuncNote}
use Rattle.verse_verify_kept.specs.Rules.{Fit, Pops, pops_no, pops_so}
use Rattle.verse_verify_faults.specs.Spots.{Spot, Table}
use Rattle.verse_verify_faults.specs.Stepping.{Goes, Stepped, leads, need, on_there, pop, pop_all, ints}
use Rattle.verse_verify_faults.specs.Faults.{all_suit, all_around, all_quiet, can_fail, callee_is, by_step, implies}
use Rattle.verse_verify_faults.specs.Faults.{is_call, is_spawn, can_wait}
use Rattle.verse_verify_faults.specs.Faults.{keeps_8, keeps_9, may_fail, may_wait, parts_fit, ready, tries_fit}
use Rattle.verse_verify_faults.specs.Faults.{tries_of}
use Rattle.verse_verify_faults.proofs.Fitting.{fit_is}
use Rattle.verse_verify_faults.proofs.Leading.{notes}

cond_none : (b : Bool) (x : Option ℕ) (k : ℕ) → cond b x (Some k) ≡ None → (b ≡ true) × (x ≡ None)
cond_none true x k e = (refl, e)
cond_none false x k e = elim (none-some _ (sym e)) [ ]

module _ (c : Code) (t : Table) (p : Spot) (i : ℕ) (op : Op) where
  pub record Fine (q : Stepped) : Type 0 where
    pub none : by_step c t i p op q ≡ None

  -- it leads to states that suit, and V8 and V9 hold
  pub record Led (gs : List Goes) (ws : List ℕ) (callee : Option FuncNote) : Type 0 where
    pub suit : all_suit c t p gs ≡ true
    pub around : all_around c t i (tries_of c t p) ≡ true
    pub fit : tries_fit c t p op ≡ true
    pub fails : implies c t (can_fail c t op || (is_call c t op && callee_is c t callee (λ g. g.may_fail))) (may_fail c
        t p) ≡ true
    pub quiet : all_quiet c t (tries_of c t p) ws ≡ true
    pub ready : ready c t p p.locals p.defers ≡ true
    pub waits : implies c t (can_wait c t op || (is_call c t op && callee_is c t callee (λ g. g.may_wait))) (may_wait c
        t p) ≡ true
    pub sure : not (is_spawn c t op && callee_is c t callee (λ g. g.may_fail)) ≡ true
    pub parts : parts_fit c t i p op ≡ true

  pub led : {gs : List Goes} {ws : List ℕ} {callee : Option FuncNote} → Fine (leads gs ws callee) → Led gs ws callee
  led {gs = gs} {ws = ws} {callee = g} f =
      let one = cond_none (all_suit c t p gs) _ 7 f.none in
      let two = cond_none (keeps_8 c t i p op ws g) _ 8 one.1 in
      let three = cond_none (keeps_9 c t i p op g) None 9 two.1 in
      let a = and_parts _ _ two.0 in
      let b = and_parts _ _ a.0 in
      let d = and_parts _ _ b.0 in
      let e = and_parts _ _ d.0 in
      let m = and_parts _ _ three.0 in
      let n = and_parts _ _ m.0 in
      record {
        suit = one.0;
        around = e.0;
        fit = e.1;
        fails = d.1;
        quiet = b.1;
        ready = a.1;
        waits = n.0;
        sure = n.1;
        parts = m.1;
      }

  pub record Needed (b : Bool) (q : Stepped) : Type 0 where
    pub is : b ≡ true
    pub next : Fine q

  pub needed : (rule : ℕ) {b : Bool} {q : Stepped} → Fine (need rule b q) → Needed b q
  needed rule {b = true} f = record { is = refl; next = record { none = f.none } }
  needed rule {b = false} f = elim (none-some _ (sym f.none)) [ ]

  pub record There {A : Type 0} (m : Option A) (go : A → Stepped) : Type 0 where
    pub it : A
    pub is : m ≡ Some it
    pub next : Fine (go it)

  pub there : (rule : ℕ) {A : Type 0} {m : Option A} {go : A → Stepped} → Fine (on_there rule m go) → There m go
  there rule {m = None} f = elim (none-some _ (sym f.none)) [ ]
  there rule {m = Some x} f = record { it = x; is = refl; next = record { none = f.none } }

  pub record Popped (st : List Sort) (go : Sort → List Sort → Stepped) : Type 0 where
    pub top : Sort
    pub rest : List Sort
    pub is : st ≡ top ∷ rest
    pub next : Fine (go top rest)

  pub popped : {st : List Sort} {go : Sort → List Sort → Stepped} → Fine (pop st go) → Popped st go
  popped {st = []} f = elim (none-some _ (sym f.none)) [ ]
  popped {st = a ∷ st} f = record { top = a; rest = st; is = refl; next = record { none = f.none } }

  pub record Many (n : ℕ) (st xs : List Sort) (go : List Sort → List Sort → Stepped) : Type 0 where
    pub sorts : List Sort
    pub rest : List Sort
    pub pops : Pops n st xs sorts rest
    pub next : Fine (go sorts rest)

  pub many : (n : ℕ) (st xs : List Sort) (go : List Sort → List Sort → Stepped) → Fine (pop_all n st xs go) → Many n st
      xs go
  many zero st xs go f = record { sorts = xs; rest = st; pops = pops_no; next = record { none = f.none } }
  many (suc n) [] xs go f = elim (none-some _ (sym f.none)) [ ]
  many (suc n) (a ∷ st) xs go f = with_more (many n st (a ∷ xs) go (record { none = f.none }))
    where
      with_more : Many n st (a ∷ xs) go → Many (suc n) (a ∷ st) xs go
      with_more m = record { sorts = m.sorts; rest = m.rest; pops = pops_so m.pops; next = m.next }

  -- two ints
  pub record Ints (st : List Sort) (go : List Sort → Stepped) : Type 0 where
    pub first : Sort
    pub second : Sort
    pub rest : List Sort
    pub is : st ≡ second ∷ first ∷ rest
    pub one : Fit c (notes c t) first s.int
    pub two : Fit c (notes c t) second s.int
    pub next : Fine (go rest)

  pub two_ints : {st : List Sort} {go : List Sort → Stepped} → Fine (ints c t p i st go) → Ints st go
  two_ints f =
      let x = popped f in
      let y = popped x.next in
      let n = needed _ y.next in
      let fits = and_parts _ _ n.is in
      record {
        first = y.top;
        second = x.top;
        rest = y.rest;
        is = x.is ∙ ap (λ zs. x.top ∷ zs) y.is;
        one = fit_is t.classes y.top s.int fits.0;
        two = fit_is t.classes x.top s.int fits.1;
        next = n.next;
      }
