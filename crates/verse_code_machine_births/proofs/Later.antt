-- What a task begins counts as begun since each of its frames.
use Rattle.std.proofs.Common.{◌≡◌, ◌<◌, ◌≤◌, ℕ, zero, suc, List, [], ◌∷◌, ◌++◌, Option, Some, None, Bool, true, false}
use Rattle.std.proofs.Common.{cond, refl, sym, ap, subst}
use Rattle.std.proofs.Common.{◌∙◌, arith}
use Rattle.std.specs.Prelude.{slice_get}
use Rattle.verse_value.specs.declared.runs.Ending.TheVariants as ending
use Rattle.verse_code.specs.declared.operations.Op.TheVariants as o
use Rattle.verse_meaning_state.specs.State.{State, spending}
use Rattle.verse_meaning_state.specs.Waits.{eqn}
use Rattle.verse_meaning_state.proofs.Numbers.{eqn_same, ltn_yes}
use Rattle.verse_code_machine.specs.Tasks.{Frame, Machine, Step, Next, Over, since}
use Rattle.verse_code_machine.specs.Frames.{on_there, only_where}
use Rattle.verse_code_machine_births.specs.Births.{FramesBorn}
use Rattle.verse_code_machine_births.specs.Later.{SinceEach, LaterSince, BranchSince, ArmSince}

cond_true : (b : Bool) (x y : Bool) → b ≡ true → cond b x y ≡ x
cond_true true x y e = refl
cond_true false x y e = absurd (cc)

-- beneath a child with a number below the bound
beneath : (path rest : List ℕ) (born number : ℕ) → number < born → since path born (path ++ number ∷ rest) ≡ true
beneath [] rest born number h = ltn_yes number born h
beneath (i ∷ path) rest born number h =
    cond_true (eqn i i) (since path born (path ++ number ∷ rest)) false (eqn_same i) ∙ beneath path rest born number
    h

since_each : (left number : ℕ) (path rest : List ℕ) (fs : List Frame) → number < left → FramesBorn left fs →
    SinceEach path (path ++ number ∷ rest) fs
since_each left number path rest [] h b = tt
since_each left number path rest (f ∷ fs) h b =
    (beneath path rest f.life.born number (above h b.0.0), since_each left number path rest fs h b.1)
  where
    above : {n : ℕ} → number < left → left ≤ n → number < n
    above h g = omega (arith, h, g)

pub later_since : LaterSince
later_since m number rest b h = since_each m.state.clock.left number m.who.path rest (m.frame ∷ m.below) h (
  b.frame,
  b.below,
)

no_next : {A : Type 0} {e : _} {s : State} {n : Machine} → Over e s ≡ Next n → A
no_next e = cc

same_next : {k n : Machine} → Next k ≡ Next n → k ≡ n
same_next e = cc

-- what begins when a step is spent
spent_next : (left : ℕ) (s : State) (go : State → Machine) (n : Machine) (Q : Machine → Type 0) → ((l : ℕ) → left ≡
    suc l →
    Q (go (Rattle.verse_meaning_state.specs.State.stepped l s))) → spending left s (Over ending.Steps s) (λ s. Next
    (go s)) ≡ Next n → Q n
spent_next zero s go n Q f e = no_next e
spent_next (suc l) s go n Q f e = subst Q (same_next e) (f l refl)

pub arm_since : ArmSince
arm_since k p gs l ls x pre post us trees s stands n b e =
    spent_next s.clock.left s _ n (λ n. SinceEach x.who.path n.who.path (x.frame ∷ x.below)) (λ j left. since_each
    s.clock.left j
    x.who.path [] (x.frame ∷ x.below) (omega (arith, left)) b) e

only_next : (b : Bool) (s : State) (q : Step) (n : Machine) → only_where b s q ≡ Next n → q ≡ Next n
only_next true s q n e = e
only_next false s q n e = no_next e

there_next : {A : Type 0} (x : Option A) (y : A) (s : State) (go : A → Step) → x ≡ Some y → on_there x s go ≡ go y
there_next None y s go e = absurd (cc)
there_next (Some z) y s go e = ap go (inner e)
  where
    inner : {A : Type 0} {z y : A} → Some z ≡ Some y → z ≡ y
    inner e = cc

pub branch_since : BranchSince
branch_since c m n l b is e =
    spent_next m.state.clock.left m.state _ n (λ n. SinceEach m.who.path n.who.path (m.frame ∷ m.below)) (λ j left.
    since_each
    m.state.clock.left j m.who.path [] (m.frame ∷ m.below) (omega (arith, left)) (b.frame, b.below)) (only_next _
    m.state _ n (sym
    (there_next (slice_get c.ops m.frame.place) (o.Branch l) m.state _ is) ∙ e))
