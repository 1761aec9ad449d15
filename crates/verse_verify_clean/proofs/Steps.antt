-- What it takes that an operation breaks no rule.
use Rattle.std.proofs.Common.{◌≡◌, ℕ, length, List, ◌∷◌, Option, Some, None, Bool, true, false, cond, refl, sym, subst}
use Rattle.std.specs.Prelude.{◌&&◌, ◌||◌, not}
use Rattle.std.proofs.lemmas.Bool.{and_from}
use Rattle.verse_code.specs.declared.operations.Op.{Op}
use Rattle.verse_code.specs.declared.codes.Code.{Code}
use Rattle.verse_sorts.specs.Sorts as s
use Rattle.verse_sorts.specs.Sorts.{Sort}
use Rattle.verse_verify_kept.specs.Notes.{FuncNote}
use Rattle.verse_verify_kept.specs.Rules.{Fit, Pops, pops_no, pops_so}
use Rattle.verse_verify_faults.specs.Fitting.{fit}
use Rattle.verse_verify_faults.specs.Spots.{Spot, Table, spot_at, even}
use Rattle.verse_verify_faults.specs.Stepping.{Goes, Stepped, leads, need, on_there, pop, pop_all, ints}
use Rattle.verse_verify_faults.specs.Faults.{all_suit, all_around, all_quiet, can_fail, callee_is, implies}
use Rattle.verse_verify_faults.specs.Faults.{is_call, is_spawn, can_wait}
use Rattle.verse_verify_faults.specs.Faults.{keeps_8, keeps_9, may_fail, may_wait, parts_fit, ready, tries_fit}
use Rattle.verse_verify_faults.specs.Faults.{tries_of}
use Rattle.verse_verify_faults.proofs.Leading.{notes}
use Rattle.verse_verify_laws.proofs.Steps.{Fine}
use Rattle.verse_verify_clean.specs.Laws.{Told}
use Rattle.verse_verify_clean.proofs.Leading as leading
use Rattle.verse_verify_clean.proofs.Leading.{SuitAll, suit_all}

cond_first : (b : Bool) (x y : Option ℕ) → b ≡ true → x ≡ None → cond b x y ≡ None
cond_first true x y e f = f
cond_first false x y e f = cc

pub implied : (a b : Bool) → (a ≡ true → b ≡ true) → (not a || b) ≡ true
implied true b h = h refl
implied false b h = refl

-- what is known of the state at an operation
pub record Here (c : Code) (t : Table) (p : Spot) (i : ℕ) : Type 0 where
  pub told : Told c t
  pub there : spot_at t i ≡ Some p
  pub around : all_around c t i (tries_of c t p) ≡ true
  pub ready : ready c t p p.locals p.defers ≡ true

module _ (c : Code) (t : Table) (p : Spot) (i : ℕ) (here : Here c t p i) where
  pub evenly : even (length p.stack) p.tries ≡ true
  evenly = here.told.even i p here.there

  module _ (op : Op) where
    -- it leads to states that suit
    pub led : {gs : List Goes} {ws : List ℕ} {callee : Option FuncNote} → SuitAll c t here.told p gs →
        tries_fit c t p op ≡ true →
        implies c t (can_fail c t op || (is_call c t op && callee_is c t callee (λ g. g.may_fail))) (may_fail c t p) ≡ true →
        all_quiet c t (tries_of c t p) ws ≡ true →
        implies c t (can_wait c t op || (is_call c t op && callee_is c t callee (λ g. g.may_wait))) (may_wait c t p) ≡ true →
        not (is_spawn c t op && callee_is c t callee (λ g. g.may_fail)) ≡ true → parts_fit c t i p op ≡ true →
        Fine c t p i op (leads gs ws callee)
    led {gs = gs} {ws = ws} {callee = g} suit fit fails quiet waits sure parts = record {
      none = cond_first (all_suit c t p gs) _ _ (suit_all c t here.told p gs suit)
          (cond_first (keeps_8 c t i p op ws g) _ _
          (and_from _ _ (and_from _ _ (and_from _ _ (and_from _ _ here.around fit) fails) quiet) here.ready)
          (cond_first (keeps_9 c t i p op g) None _ (and_from _ _ (and_from _ _ waits sure) parts) refl));
    }

    pub needed : (rule : ℕ) {b : Bool} {q : Stepped} → b ≡ true → Fine c t p i op q → Fine c t p i op (need rule b q)
    needed rule {b = true} e f = record { none = f.none }
    needed rule {b = false} e f = cc

    pub there : (rule : ℕ) {A : Type 0} {m : Option A} {x : A} (go : A → Stepped) → m ≡ Some x → Fine c t p i op (go x) →
        Fine c t p i op (on_there rule m go)
    there rule go e f = subst (λ m. Fine c t p i op (on_there rule m go)) (sym e) (record { none = f.none })

    pub popped : {st rest : List Sort} {a : Sort} (go : Sort → List Sort → Stepped) → st ≡ a ∷ rest → Fine c t p i op (go a rest) →
        Fine c t p i op (pop st go)
    popped go e f = subst (λ st. Fine c t p i op (pop st go)) (sym e) (record { none = f.none })

    pub many : {n : ℕ} {st xs ys rest : List Sort} (go : List Sort → List Sort → Stepped) → Pops n st xs ys rest →
        Fine c t p i op (go ys rest) → Fine c t p i op (pop_all n st xs go)
    many go pops_no f = record { none = f.none }
    many go (pops_so r) f = record { none = (many go r f).none }

    pub two_ints : {st rest : List Sort} {a b : Sort} (go : List Sort → Stepped) → st ≡ b ∷ a ∷ rest →
        Fit c (notes c t) a s.int → Fit c (notes c t) b s.int → Fine c t p i op (go rest) → Fine c t p i op (ints c t p i st go)
    two_ints {a = a} {b = b} go e f g h =
        subst (λ st. Fine c t p i op (ints c t p i st go)) (sym e)
        (record {
          none = (needed 5 (and_from (fit t.classes a s.int) (fit t.classes b s.int)
              (leading.fits c t here.told f) (leading.fits c t here.told g)) h).none;
        })
