-- Tasks that begin.
use Rattle.std.proofs.Common.{◌≡◌, ◌≢◌, ℕ, zero, suc, ◌+◌, ◌≤◌, Option, Some, None, List, [], ◌∷◌, ◌++◌, length, option_map, slice_get}
use Rattle.std.proofs.Common.{refl, sym, ap, subst, ◌∙◌, arith}
use Rattle.verse_base.specs.declared.places.Place.{Place}
use Rattle.verse_code.specs.declared.codes.Func.{Func}
use Rattle.verse_code.specs.declared.codes.Code.{Code}
use Rattle.verse_code.specs.declared.operations.Op.{Op}
use Rattle.verse_value.specs.Val.{Val}
use Rattle.verse_value.specs.View.{vals_of}
use Rattle.verse_value.specs.declared.values.Value.{Value}
use Rattle.std.specs.Global.{Vec}
use Rattle.verse_value.specs.declared.runs.Ending.TheVariants as ending
use Rattle.verse_meaning_state.specs.State.{State}
use Rattle.verse_code_machine.specs.Tasks.{world, branching, Step, Next, thread, machine, life_from, child_named}
use Rattle.verse_code_machine.specs.Frames.{on_there, on_many, on_top, method_of}
use Rattle.verse_code_machine.specs.Acts.{spawns, frame, labels, label_of, on_label, after_arms, groups, kind_of}
use Rattle.tx_heap.specs.State.{State as Kept}
use Rattle.trace_buf.specs.Trace.{Trace}
use Rattle.vm_frames.specs.Framed.{Framed, place_of}
use Rattle.vm_frames.specs.Calls.{moved}
use Rattle.vm_frames.specs.Machine.{frame_with, frames_with, beyond}
use Rattle.vm_running.specs.declared.runners.Did.TheVariants as did
use Rattle.vm_running.specs.Views.{View, Ready, state_of, memories}
use Rattle.vm_running.specs.Doings.{Doing, spends, popping_many}
use Rattle.vm_running.specs.Comes.{done, Leads}
use Rattle.vm_running.proofs.Steps.{at, stays, sticks, many_more}
use Rattle.vm_exec_calls.specs.Calling.{chosen_of}
use Rattle.vm_exec_tasks.specs.declared.asked.Asked.{Asked}
use Rattle.vm_exec_tasks.specs.declared.asked.Asked.TheVariants as asked
use Rattle.vm_exec_tasks.specs.declared.asked.Arms.{Arms}
use Rattle.vm_exec_tasks.specs.declared.asked.Call.{Call}
use Rattle.vm_exec_tasks.specs.Asking.{Asks, Settled, spawning_of, branching_of, arms_of}
use Rattle.vm_exec_tasks.proofs.Asking.{asks_nothing, asks_by, asks_next, asks_same, after_next}

-- a task of its own begins with a call
abbrev pub begins : Func → List Val → Doing
begins g vs = after_next (spawning_of g vs)

abbrev pub called : Func → Vec Value → Call
called g vs = record { func = g; args = vs }

-- the method of the first value begins with all of them
abbrev pub begins_method : Code → (i k : ℕ) → List Val → Doing
begins_method c i k vs w x s f fs = on_there (chosen_of c i k vs s) s (λ g. begins g vs w x s f fs)

-- as the machine's definition has it: the object is taken off behind the arguments
abbrev pub pops_method : Code → (i k : ℕ) → Doing
pops_method c i k w x s f fs =
    on_many k f.stack [] s (λ vs st. on_top st s
    (λ v st. on_there (method_of c i k v s) s
    (λ g. spawns g (v ∷ vs) (thread w (frame f.life f.locals st (suc f.place) f.handlers) fs) x s)))

-- a task behind begins at the next place
abbrev pub branched : ℕ → Doing
branched label w x s f fs =
    Next (machine (child_named w s.clock.left) (world x.pre x.post (branching (thread w (record f { place = label }) fs) ∷ x.ups) x.trees) s
    (life_from s.clock.left) f.locals [] (suc f.place) [] [])

-- the arms at the operations that follow
abbrev pub grouped : Code → ℕ → ℕ → Place → Doing
grouped c k count p w x s f fs =
    on_there (labels c.ops (suc f.place) count) s
    (λ ls. groups (kind_of k) p ls (after_arms (suc f.place) count) w x s f.life f.locals f.stack f.handlers fs)

after_is : (a count : ℕ) → after_arms a count ≡ a + count
after_is a zero = omega arith
after_is a (suc count) = let more = after_is (suc a) count in omega (arith, more)

-- the labels of the arms

abbrev pub onto : List ℕ → Option (List ℕ) → Option (List ℕ)
onto ls None = None
onto ls (Some ms) = Some (ls ++ ms)

onto_behind : (ls : List ℕ) (l : ℕ) (r : Option (List ℕ)) → onto (ls ++ (l ∷ [])) r ≡ onto ls (on_label (Some l) r)
onto_behind ls l None = refl
onto_behind [] l (Some ms) = refl
onto_behind (k ∷ ls) l (Some ms) = ap (onto (k ∷ [])) (onto_behind ls l (Some ms))

onto_none : (o : Option (List ℕ)) → onto [] o ≡ o
onto_none None = refl
onto_none (Some ms) = refl

onto_all : (ls : List ℕ) → onto ls (Some []) ≡ Some ls
onto_all [] = refl
onto_all (k ∷ ls) = ap (onto (k ∷ [])) (onto_all ls)

pub labels_begin : (ops : List Op) (a b m : ℕ) → a ≡ b → onto [] (labels ops a m) ≡ labels ops b m
labels_begin ops a b m e = onto_none (labels ops a m) ∙ ap (λ a. labels ops a m) e

pub labels_stop : (ops : List Op) (ls : List ℕ) (a k m : ℕ) (to : Option (List ℕ)) → m ≡ suc k → label_of (slice_get ops a) ≡ None →
    onto ls (labels ops a m) ≡ to → None ≡ to
labels_stop ops ls a k m to more none e = sym (ap (λ m. onto ls (labels ops a m)) more ∙
    ap (λ o. onto ls (on_label o (labels ops (suc a) k))) none) ∙ e

pub labels_step : (ops : List Op) (ls : List ℕ) (l a b k m : ℕ) (to : Option (List ℕ)) → m ≡ suc k → b ≡ suc a →
    label_of (slice_get ops a) ≡ Some l → onto ls (labels ops a m) ≡ to → onto (ls ++ (l ∷ [])) (labels ops b k) ≡ to
labels_step ops ls l a b k m to more next there e =
    ap (λ b. onto (ls ++ (l ∷ [])) (labels ops b k)) next ∙
    (onto_behind ls l (labels ops (suc a) k) ∙
    (sym (ap (λ m. onto ls (labels ops a m)) more ∙ ap (λ o. onto ls (on_label o (labels ops (suc a) k))) there) ∙ e))

pub labels_done : (ops : List Op) (ls : List ℕ) (a m : ℕ) (to : Option (List ℕ)) → m ≡ 0 → onto ls (labels ops a m) ≡ to → Some ls ≡ to
labels_done ops ls a m to none e = sym (ap (λ m. onto ls (labels ops a m)) none ∙ onto_all ls) ∙ e

label_rest : (o : Option ℕ) (r : Option (List ℕ)) (ls : List ℕ) → Some ls ≡ on_label o r →
    (ms : List ℕ) × ((Some ms ≡ r) × (length ls ≡ suc (length ms)))
label_rest None r ls e = absurd (cc)
label_rest (Some l) None ls e = absurd (cc)
label_rest (Some l) (Some ms) ls e = let same : ls ≡ l ∷ ms = cc in (ms, (refl, ap length same))

label_there : (ops : List Op) (a : ℕ) (r : Option (List ℕ)) (ls : List ℕ) → Some ls ≡ on_label (label_of (slice_get ops a)) r →
    suc a ≤ length ops
label_there [] a r ls e = absurd (cc)
label_there (o ∷ ops) zero r ls e = omega arith
label_there (o ∷ ops) (suc a) r ls e = let more = label_there ops a r ls e in omega (arith, more)

pub labels_length : (ops : List Op) (a m : ℕ) (ls : List ℕ) → Some ls ≡ labels ops a m → length ls ≡ m
labels_length ops a zero ls e = let same : ls ≡ [] = cc in ap length same
labels_length ops a (suc m) ls e =
    let rest = label_rest (label_of (slice_get ops a)) (labels ops (suc a) m) ls e in
    let more = labels_length ops (suc a) m rest.0 rest.1.0 in
    rest.1.1 ∙ ap suc more

pub labels_fit : (ops : List Op) (a m : ℕ) (ls : List ℕ) → Some ls ≡ labels ops a m → (length ls ≡ 0 → ⊥) → a + m ≤ length ops
labels_fit ops a zero ls e some = let same : ls ≡ [] = cc in absurd (some (ap length same))
labels_fit ops a (suc zero) ls e some = let there = label_there ops a (labels ops (suc a) zero) ls e in omega (arith, there)
labels_fit ops a (suc (suc m)) ls e some =
    let rest = label_rest (label_of (slice_get ops a)) (labels ops (suc a) (suc m)) ls e in
    let count = labels_length ops (suc a) (suc m) rest.0 rest.1.0 in
    let more = labels_fit ops (suc a) (suc m) rest.0 rest.1.0 (λ none. absurd (omega (arith, none, count))) in
    omega (arith, more)

pub told_none : {V : Type 0} (items : V → List ℕ) (o : Option V) (r : Option (List ℕ)) → o ≡ None → option_map items o ≡ r → None ≡ r
told_none items None r is e = e
told_none items (Some v) r is e = absurd (cc)

pub told_some : {V : Type 0} (items : V → List ℕ) (o : Option V) (v : V) (r : Option (List ℕ)) → o ≡ Some v → option_map items o ≡ r →
    Some (items v) ≡ r
told_some items o v r is e = sym (ap (option_map items) is) ∙ e

module _ {h : Kept} {tr : Trace} {l s n : ℕ} where
  pub method_leads : (c : Code) (i k : ℕ) (fs : List Framed) → Ready (at h tr l s n fs) →
      Leads (pops_method c i k) (at h tr l s n fs) (popping_many (suc k) (begins_method c i k)) (at h tr l s n fs)
  method_leads c i k [] r = absurd (r.some refl)
  method_leads c i k (f ∷ fs) r =
      stays r (λ a w x. many_more k f.frame.stack [] (state_of a (at h tr l s n (f ∷ fs)))
      (λ vs st. begins_method c i k vs w x (state_of a (at h tr l s n (f ∷ fs)))
      (record (frame_with f (memories a.past h.copies tr.marks)) { stack = st })
      (frames_with fs (beyond f.frame.handlers (memories a.past h.copies tr.marks)))))

  method_there : (c : Code) (i k : ℕ) (vs : List Val) (g : Func) (fs : List Framed) → Ready (at h tr l s n fs) →
      ((t : State) → t.memory.store ≡ h.cells → Some g ≡ chosen_of c i k vs t) →
      Leads (begins_method c i k vs) (at h tr l s n fs) (begins g vs) (at h tr l s n fs)
  method_there c i k vs g [] r is = absurd (r.some refl)
  method_there c i k vs g (f ∷ fs) r is =
      stays r (λ a w x. ap (λ o. on_there o (state_of a (at h tr l s n (f ∷ fs))) (λ g. done (begins g vs) a w x (at h tr l s n (f ∷ fs))))
      (sym (is (state_of a (at h tr l s n (f ∷ fs))) refl)))

  method_none : (c : Code) (i k : ℕ) (vs : List Val) (fs gs : List Framed) →
      ((t : State) → t.memory.store ≡ h.cells → None ≡ chosen_of c i k vs t) →
      Asks (begins_method c i k vs) (asked.Nothing (did.Over ending.Stuck)) (at h tr l s n fs) (at h tr l s n gs)
  method_none c i k vs [] gs is = asks_nothing _ (sticks (begins_method c i k vs) [] gs (λ a w x. refl))
  method_none c i k vs (f ∷ fs) gs is =
      asks_nothing _ (sticks (begins_method c i k vs) (f ∷ fs) gs
      (λ a w x. ap (λ o. on_there o (state_of a (at h tr l s n (f ∷ fs))) (λ g. done (begins g vs) a w x (at h tr l s n (f ∷ fs))))
      (sym (is (state_of a (at h tr l s n (f ∷ fs))) refl))))

  pub method_stuck : {i : Kept} (c : Code) (j k : ℕ) (vs : List Val) (fs gs : List Framed) → i ≡ h →
      ((t : State) → t.memory.store ≡ h.cells → None ≡ chosen_of c j k vs t) →
      Asks (begins_method c j k vs) (asked.Nothing (did.Over ending.Stuck)) (at h tr l s n fs) (at i tr l s n gs)
  method_stuck c j k vs fs gs same is = subst (λ i. Asks (begins_method c j k vs) (asked.Nothing (did.Over ending.Stuck)) (at h tr l s n fs)
      (at i tr l s n gs)) (sym same) (method_none c j k vs fs gs is)

  pub method_asks : {i : Kept} (c : Code) (j k : ℕ) (vs : List Val) (g : Func) (d : Asked) (z : View) (fs : List Framed) →
      Ready (at h tr l s n fs) → i ≡ h → ((t : State) → t.memory.store ≡ h.cells → Some g ≡ chosen_of c j k vs t) →
      Asks (begins g vs) d (at i tr l s n fs) z → Asks (begins_method c j k vs) d (at h tr l s n fs) z
  method_asks c j k vs g d z fs ready same is more = asks_by (method_there c j k vs g fs ready is) (asks_same same more)

  pub spawn_asks : (g : Func) (c : Call) (fs gs : List Framed) → fs ≢ [] → gs ≡ moved (place_of fs + 1) fs → Settled (at h tr l s n gs) →
      c.func ≡ g → Asks (begins g (vals_of c.args.items)) (asked.Spawn c) (at h tr l s n fs) (at h tr l s n gs)
  spawn_asks g c fs gs some to settled e =
      asks_next (spawning_of g (vals_of c.args.items)) (asked.Spawn c) (at h tr l s n gs) fs gs some to (record {
        asks = λ a w x past. ap (λ g. done (spawning_of g (vals_of c.args.items)) a w x (at h tr l s n gs)) (sym e);
        ready = settled;
      })

  pub branch_asks : (label q : ℕ) (fs gs : List Framed) → Ready (at h tr l s n fs) → q ≡ place_of fs + 1 → gs ≡ moved label fs →
      Settled (at h tr l s n gs) → Asks (spends (branched label)) (asked.Branch q) (at h tr l s n fs) (at h tr l s n gs)
  branch_asks label q [] gs r next to settled = absurd (r.some refl)
  branch_asks label q (f ∷ fs) gs r next to settled =
      let one : q ≡ suc f.frame.place = omega (arith, next) in
      record {
        asks = λ a w x past. ap (λ q. done (branching_of q) a w x (at h tr l s n (moved label (f ∷ fs)))) (sym one) ∙
            ap (λ gs. done (branching_of q) a w x (at h tr l s n gs)) (sym to);
        ready = settled;
      }

  pub group_none : (c : Code) (k count q : ℕ) (p : Place) (fs gs : List Framed) → q ≡ place_of fs + 1 → None ≡ labels c.ops q count →
      Asks (grouped c k count p) (asked.Nothing (did.Over ending.Stuck)) (at h tr l s n fs) (at h tr l s n gs)
  group_none c k count q p [] gs next is = asks_nothing _ (sticks (grouped c k count p) [] gs (λ a w x. refl))
  group_none c k count q p (f ∷ fs) gs next is =
      let one : q ≡ suc f.frame.place = omega (arith, next) in
      let none : labels c.ops (suc f.frame.place) count ≡ None = ap (λ q. labels c.ops q count) (sym one) ∙ sym is in
      asks_nothing _ (sticks (grouped c k count p) (f ∷ fs) gs
      (λ a w x. ap (λ o. on_there o (state_of a (at h tr l s n (f ∷ fs)))
      (λ ls. groups (kind_of k) p ls (after_arms (suc f.frame.place) count) w x (state_of a (at h tr l s n (f ∷ fs)))
      (frame_with f (memories a.past h.copies tr.marks)).life f.frame.locals f.frame.stack
      (frame_with f (memories a.past h.copies tr.marks)).handlers
      (frames_with fs (beyond f.frame.handlers (memories a.past h.copies tr.marks))))) none))

  pub group_empty : (c : Code) (k count q : ℕ) (p : Place) (ls : List ℕ) (fs gs : List Framed) → q ≡ place_of fs + 1 →
      Some ls ≡ labels c.ops q count → length ls ≡ 0 →
      Asks (grouped c k count p) (asked.Nothing (did.Over ending.Stuck)) (at h tr l s n fs) (at h tr l s n gs)
  group_empty c k count q p (b ∷ ls) fs gs next is none = absurd (omega (arith, none))
  group_empty c k count q p [] [] gs next is none = asks_nothing _ (sticks (grouped c k count p) [] gs (λ a w x. refl))
  group_empty c k count q p [] (f ∷ fs) gs next is none =
      let one : q ≡ suc f.frame.place = omega (arith, next) in
      let there : labels c.ops (suc f.frame.place) count ≡ Some [] = ap (λ q. labels c.ops q count) (sym one) ∙ sym is in
      asks_nothing _ (sticks (grouped c k count p) (f ∷ fs) gs
      (λ a w x. ap (λ o. on_there o (state_of a (at h tr l s n (f ∷ fs)))
      (λ ls. groups (kind_of k) p ls (after_arms (suc f.frame.place) count) w x (state_of a (at h tr l s n (f ∷ fs)))
      (frame_with f (memories a.past h.copies tr.marks)).life f.frame.locals f.frame.stack
      (frame_with f (memories a.past h.copies tr.marks)).handlers
      (frames_with fs (beyond f.frame.handlers (memories a.past h.copies tr.marks))))) there))

  pub group_asks : (c : Code) (k count q to : ℕ) (p : Place) (arms : Arms) (fs gs : List Framed) → Ready (at h tr l s n fs) →
      q ≡ place_of fs + 1 → Some arms.labels.items ≡ labels c.ops q count → arms.kind ≡ k → arms.place ≡ p → to ≡ q + count →
      gs ≡ moved to fs → Settled (at h tr l s n gs) → Asks (grouped c k count p) (asked.Arms arms) (at h tr l s n fs) (at h tr l s n gs)
  group_asks c k count q to p arms [] gs r next is same_kind same_place there e settled = absurd (r.some refl)
  group_asks c k count q to p arms (f ∷ fs) gs r next is same_kind same_place there e settled =
      let one : q ≡ suc f.frame.place = omega (arith, next) in
      let found : labels c.ops (suc f.frame.place) count ≡ Some arms.labels.items = ap (λ q. labels c.ops q count) (sym one) ∙ sym is in
      let place : after_arms (suc f.frame.place) count ≡ to = let more = after_is (suc f.frame.place) count in
      omega (arith, more, one, there) in
      record {
        asks = λ a w x past.
            let st = state_of a (at h tr l s n (f ∷ fs)) in
            let g = frame_with f (memories a.past h.copies tr.marks) in
            let bl = frames_with fs (beyond f.frame.handlers (memories a.past h.copies tr.marks)) in
            ap (λ o. on_there o st (λ ls. groups (kind_of k) p ls (after_arms (suc f.frame.place) count) w x st g.life f.frame.locals
            f.frame.stack g.handlers bl)) found ∙
            (ap (λ q. groups (kind_of k) p arms.labels.items q w x st g.life f.frame.locals f.frame.stack g.handlers bl) place ∙
            (ap (λ k. done (arms_of k p arms.labels.items) a w x (at h tr l s n (moved to (f ∷ fs)))) (sym same_kind) ∙
            (ap (λ p. done (arms_of arms.kind p arms.labels.items) a w x (at h tr l s n (moved to (f ∷ fs)))) (sym same_place) ∙
            ap (λ gs. done (arms_of arms.kind arms.place arms.labels.items) a w x (at h tr l s n gs)) (sym e))));
        ready = settled;
      }
