-- A clock's waits are those of the definition, and are due when those are.
use Rattle.std.proofs.Common.{◌≡◌, ℕ, Bool, true, false, cond, if◌then◌else◌, nat_lt, List, [], ◌∷◌, ◌++◌, length, Option, Some, None, refl}
use Rattle.std.proofs.Common.{sym, ap, subst, ◌∙◌, arith}
use Rattle.std.proofs.lemmas.Bool.Decides.{nat_tests}
use Rattle.task_tree.specs.Tasks.{Task}
use Rattle.verse_meaning_state.specs.State.{State, Given}
use Rattle.verse_meaning_state.specs.Waits.{Wait, Due, due_of, sooner, sooner_of, least}
use Rattle.verse_code_machine.specs.Tasks as m
use Rattle.verse_code_machine.specs.Tasks.{tree_waits}
use Rattle.sim_clock.specs.declared.waits.Wake.{Wake}
use Rattle.sim_clock.specs.declared.waits.Due.{Due as ClockDue}
use Rattle.sim_clock.specs.declared.waits.Pending.{Pending}
use Rattle.sim_clock.specs.Pending.{due_from, comes_before, earlier, first_due}
use Rattle.vm_tasks_laws.specs.Slots.{Slot}
use Rattle.vm_tasks_laws.specs.Standing.{Deal, none_dealt, one_dealt, Rests}
use Rattle.vm_tasks_laws.specs.Clocks.{cause_of, value_for, IsDue, AllTimed, AllAbove, Rising, told, waits_told, sleeping, Timed, NextIs}
use Rattle.vm_tasks_laws.specs.Clocks.{SameNext}
use Rattle.vm_tasks_laws.proofs.Lists.{Each}
use Rattle.vm_tasks_laws.proofs.Deals.{deal_length, Unlike, deal_unlike, least_deal, waits_all, trees_deal, shown_waits}

above_differs : (n : ℕ) (ps : List Pending) → AllAbove n ps → Each (λ (v : Wait). v.number ≡ n → ⊥) (waits_told (told ps))
above_differs n [] a = tt
above_differs n (p ∷ ps) a = ((λ e. omega (arith, a.0, e)), above_differs n ps a.1)

pub rising_unlike : (ps : List Pending) → Rising ps → Unlike (waits_told (told ps))
rising_unlike [] r = tt
rising_unlike (p ∷ ps) r = (above_differs p.wait.number ps r.0, rising_unlike ps r.1)

-- the sooner of a wait and the one that is due next of the others
further : (s : State) (p : Pending) (ps : List Pending) (d : Due) (e : ClockDue) → NextIs s ps d e → NextIs s (p ∷ ps) d e
further s p ps d e n = record {
  front = p ∷ n.front;
  wait = n.wait;
  back = n.back;
  is = ap (λ w. p ∷ w) n.is;
  number = n.number;
  its_number = n.its_number;
  task = n.task;
  moment = n.moment;
  value = n.value;
}

own : (s : State) (p : Pending) (ps : List Pending) (g : Given) (w : Wake) →
    (g.moment ≡ w.at) × (value_for s (cause_of p.wait.kind) w.cause ≡ Some g.value) →
    NextIs s (p ∷ ps) (record { number = p.wait.number; given = g })
    (record { at = w.at; number = p.wait.number; task = p.wait.task; cause = w.cause })
own s p ps g w h = record {
  front = [];
  wait = p;
  back = ps;
  is = refl;
  number = refl;
  its_number = refl;
  task = refl;
  moment = h.0;
  value =
      h.1;
}

either : (s : State) (p : Pending) (ps : List Pending) (g : Given) (w : Wake) (d : Due) (e : ClockDue) →
    (g.moment ≡ w.at) × (value_for s (cause_of p.wait.kind) w.cause ≡ Some g.value) → NextIs s ps d e →
    SameNext s (p ∷ ps) (sooner p.wait.number g (Some d))
    (earlier (Some (record { at = w.at; number = p.wait.number; task = p.wait.task; cause = w.cause })) (Some e))
either s p ps g w d e h n = go (nat_lt d.given.moment g.moment) (nat_lt g.moment d.given.moment)
    (nat_lt d.number p.wait.number) refl refl refl
  where
    x : ClockDue
    x = record { at = w.at; number = p.wait.number; task = p.wait.task; cause = w.cause }

    go : (a b c : Bool) → nat_lt d.given.moment g.moment ≡ a → nat_lt g.moment d.given.moment ≡ b → nat_lt d.number p.wait.number ≡ c →
        SameNext s (p ∷ ps) (cond a (Some d) (cond b (Some (record { number = p.wait.number; given = g }))
        (cond c (Some d) (Some (record { number = p.wait.number; given = g })))))
        (earlier (Some (record { at = w.at; number = p.wait.number; task = p.wait.task; cause = w.cause })) (Some e))
    go true b c i j k =
        let later : comes_before e (record { at = w.at; number = p.wait.number; task = p.wait.task; cause = w.cause }) ≡ true =
        grind (arith, nat_tests, i, n.moment, h.0) in
        subst (λ z. SameNext s (p ∷ ps) (Some d)
        (if z then Some e else Some (record { at = w.at; number = p.wait.number; task = p.wait.task; cause = w.cause }))) (sym later)
        (further s p ps d e n)
    go false true c i j k =
        let later : comes_before e (record { at = w.at; number = p.wait.number; task = p.wait.task; cause = w.cause }) ≡ false =
        grind (arith, nat_tests, i, j, n.moment, h.0) in
        subst (λ z. SameNext s (p ∷ ps) (Some (record { number = p.wait.number; given = g }))
        (if z then Some e else Some (record { at = w.at; number = p.wait.number; task = p.wait.task; cause = w.cause }))) (sym later)
        (own s p ps g w h)
    go false false true i j k =
        let later : comes_before e (record { at = w.at; number = p.wait.number; task = p.wait.task; cause = w.cause }) ≡ true =
        grind (arith, nat_tests, i, j, k, n.moment, n.number, n.its_number, h.0) in
        subst (λ z. SameNext s (p ∷ ps) (Some d)
        (if z then Some e else Some (record { at = w.at; number = p.wait.number; task = p.wait.task; cause = w.cause }))) (sym later)
        (further s p ps d e n)
    go false false false i j k =
        let later : comes_before e (record { at = w.at; number = p.wait.number; task = p.wait.task; cause = w.cause }) ≡ false =
        grind (arith, nat_tests, i, j, k, n.moment, n.number, n.its_number, h.0) in
        subst (λ z. SameNext s (p ∷ ps) (Some (record { number = p.wait.number; given = g }))
        (if z then Some e else Some (record { at = w.at; number = p.wait.number; task = p.wait.task; cause = w.cause }))) (sym later)
        (own s p ps g w h)

pub next_told : (s : State) (ps : List Pending) → AllTimed s ps → SameNext s ps (least s (waits_told (told ps))) (first_due ps)
next_told s [] a = tt
next_told s (p ∷ ps) a = go (due_of s p.wait.number (cause_of p.wait.kind)) p.wake (least s (waits_told (told ps))) (first_due ps) a.0
    (next_told s ps a.1)
  where
    go : (o : Option Given) (w : Option Wake) (d : Option Due) (e : Option ClockDue) → IsDue o s (cause_of p.wait.kind) w →
        SameNext s ps d e →
        SameNext s (p ∷ ps) (sooner_of p.wait.number o d) (earlier (due_from p.wait w) e)
    go None None None None h n = tt
    go None None (Some d) (Some e) h n = further s p ps d e n
    go None None None (Some e) h n = absurd n
    go None None (Some d) None h n = absurd n
    go None (Some w) d e h n = absurd h
    go (Some g) None d e h n = absurd h
    go (Some g) (Some w) None None h n = own s p ps g w h
    go (Some g) (Some w) None (Some e) h n = absurd n
    go (Some g) (Some w) (Some d) None h n = absurd n
    go (Some g) (Some w) (Some d) (Some e) h n = either s p ps g w d e h n

module _ {T : Type 0} (slot : T → Slot) where
  pub live_waits : (tasks : List (Task T)) (tss : List (List m.Task)) → Rests slot tasks tss →
      Deal (tree_waits tss) (waits_told (sleeping slot tasks))
  live_waits tasks tss r =
      subst (λ w. Deal w (waits_told (sleeping slot tasks))) (shown_waits slot r.trees tss r.trees_are)
      (subst (λ ts. Deal (waits_all slot r.trees) (waits_told (sleeping slot ts))) (sym r.tasks_are)
      (trees_deal slot r.trees r.roots r.dealt r.good))

  pub told_deal : (xs zs : List (ℕ × Wait)) → Deal xs zs → Deal (waits_told xs) (waits_told zs)
  told_deal xs zs none_dealt = none_dealt
  told_deal xs zs (one_dealt {x = x} {xs = ys} f g p h) =
      one_dealt (waits_told f) (waits_told g) (ap (λ w. waits_told w) p ∙ parts f (x ∷ g))
      (subst (λ w. Deal (waits_told ys) w) (parts f g) (told_deal ys (f ++ g) h))
    where
      parts : (a b : List (ℕ × Wait)) → waits_told (a ++ b) ≡ waits_told a ++ waits_told b
      parts [] b = refl
      parts (y ∷ a) b = ap (λ w. y.1 ∷ w) (parts a b)

  -- the clock's next wait is the definition's
  pub next_is : (tasks : List (Task T)) (tss : List (List m.Task)) (ps : List Pending) (s : State) → Rests slot tasks tss →
      Timed (sleeping slot tasks) ps s → SameNext s ps (least s (tree_waits tss)) (first_due ps)
  next_is tasks tss ps s r t =
      let apart = rising_unlike ps t.rising in
      let second = told_deal (sleeping slot tasks) (told ps) t.each in
      let e = least_deal s (tree_waits tss) (waits_told (sleeping slot tasks)) (live_waits tasks tss r)
      (deal_unlike (waits_told (sleeping slot tasks)) (waits_told (told ps)) second apart) ∙
      least_deal s (waits_told (sleeping slot tasks)) (waits_told (told ps)) second apart in
      subst (λ o. SameNext s ps o (first_due ps)) (sym e) (next_told s ps t.timed)

  -- and there are as many
  pub live_is : (tasks : List (Task T)) (tss : List (List m.Task)) (ps : List Pending) (s : State) → Rests slot tasks tss →
      Timed (sleeping slot tasks) ps s → length (tree_waits tss) ≡ length ps
  live_is tasks tss ps s r t =
      deal_length (tree_waits tss) (waits_told (sleeping slot tasks)) (live_waits tasks tss r) ∙
      (deal_length (waits_told (sleeping slot tasks)) (waits_told (told ps)) (told_deal (sleeping slot tasks) (told ps) t.each) ∙ count ps)
    where
      count : (ps : List Pending) → length (waits_told (told ps)) ≡ length ps
      count [] = refl
      count (p ∷ ps) = omega (arith, count ps)
