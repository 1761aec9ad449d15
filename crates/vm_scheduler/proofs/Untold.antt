-- Spawned tasks that are live have given nothing yet.
use Rattle.std.proofs.Common.{◌≡◌, ℕ, zero, suc, ◌<◌, Bool, true, false, cond, List, [], ◌∷◌, ◌++◌, length, Option, Some, None, refl, sym}
use Rattle.std.proofs.Common.{ap, subst, ◌∙◌, arith}
use Rattle.task_tree.specs.Tasks.{Task, task_at, with_item, without}
use Rattle.task_tree.specs.Nested.{IsTree, Distinct}
use Rattle.task_tree.specs.Removing.{Added}
use Rattle.task_tree.proofs.Standing.{found, beside, changed_here, without_at, absent_both, absent_head}
use Rattle.verse_meaning_state.specs.State.{set_at}
use Rattle.verse_meaning_state.specs.Waits.{eqn, nth}
use Rattle.verse_meaning_state.proofs.Numbers.{eqn_is, eqn_same, nth_within}
use Rattle.vm_frames.specs.Framed.{Framed}
use Rattle.vm_tasks_laws.proofs.Lists.{Each, each_append, each_parts, each_weaker}
use Rattle.vm_tasks_laws.proofs.Wakings.{added_each, without_each}
use Rattle.vm_tasks.specs.declared.slots.Slot.{Slot}
use Rattle.vm_tasks.specs.declared.slots.Root.{Root}
use Rattle.vm_tasks.specs.declared.slots.Root.TheVariants.{Part as APart, Main, Spawned}
use Rattle.vm_tasks.specs.declared.slots.Held.{Held}
use Rattle.vm_tasks.specs.Gone.{In, first_in, later_in}
use Rattle.vm_tasks.specs.Begun.{Reheld}
use Rattle.vm_tasks.specs.View.{slot_of}
use Rattle.vm_scheduler.specs.declared.tasks.Given.{Given}
use Rattle.vm_scheduler.specs.Frames.{frames_in}
use Rattle.vm_scheduler.specs.Standing.{Tree, OfEntry, AllUntold, Untold, NoneOf}

abbrev TreeTask : Type 0
TreeTask = Task (Slot (List Framed))

abbrev UntoldTask : List (Option Given) → (ℕ → ℕ) → TreeTask → Type 0
UntoldTask rs n t = OfEntry (λ e. (nth rs e ≡ Some None) × (n e ≡ t.number)) t.item.root

of_weaker : (P Q : ℕ → Type 0) (r : Root) → ((e : ℕ) → r ≡ Spawned e → P e → Q e) → OfEntry P r → OfEntry Q r
of_weaker P Q APart f h = tt
of_weaker P Q Main f h = tt
of_weaker P Q (Spawned e) f h = f e refl h

each_untold : (rs : List (Option Given)) (n : ℕ → ℕ) (ts : Tree) → AllUntold rs n ts → Each (UntoldTask rs n) ts
each_untold rs n [] a = tt
each_untold rs n (t ∷ ts) a = (a.0, each_untold rs n ts a.1)

all_untold : (rs : List (Option Given)) (n : ℕ → ℕ) (ts : Tree) → Each (UntoldTask rs n) ts → AllUntold rs n ts
all_untold rs n [] a = tt
all_untold rs n (t ∷ ts) a = (a.0, all_untold rs n ts a.1)

none_of : (e : ℕ) (ts : Tree) → Each (λ (t : TreeTask). t.item.root ≡ Spawned e → ⊥) ts → NoneOf e ts
none_of e [] a = tt
none_of e (t ∷ ts) a = (a.0, none_of e ts a.1)

-- a part is added, or Main

pub untold_added : (rs : List (Option Given)) (old new : Tree) (u : TreeTask) → Added u old new →
    ((P : ℕ → Type 0) → OfEntry P u.item.root) → Untold rs old → Untold rs new
untold_added rs old new u added not h = record {
  number = h.number;
  all = all_untold rs h.number new (added_each (slot_of frames_in) (UntoldTask rs h.number) old new u added
      (not (λ e. (nth rs e ≡ Some None) × (h.number e ≡ u.number))) (each_untold rs h.number old h.all));
}

-- a task is gone, or some

pub untold_without : (rs : List (Option Given)) (id : ℕ) (ts : Tree) → Untold rs ts → Untold rs (without id ts)
untold_without rs id ts h = record {
  number = h.number;
  all =
      all_untold rs h.number (without id ts) (without_each (slot_of frames_in) (UntoldTask rs h.number) ts id
      (each_untold rs h.number ts h.all));
}

untold_in : (rs : List (Option Given)) (n : ℕ → ℕ) (ts : Tree) (t : TreeTask) → AllUntold rs n ts → In t ts → UntoldTask rs n t
untold_in rs n [] t a i = elim i [ ]
untold_in rs n (u ∷ ts) t a first_in = a.0
untold_in rs n (u ∷ ts) t a (later_in _ i) = untold_in rs n ts t a.1 i

untold_of : (rs : List (Option Given)) (n : ℕ → ℕ) (ts : Tree) → ((t : TreeTask) → In t ts → UntoldTask rs n t) → AllUntold rs n ts
untold_of rs n [] f = tt
untold_of rs n (t ∷ ts) f = (f t first_in, untold_of rs n ts (λ u i. f u (later_in t i)))

pub untold_kept : (rs : List (Option Given)) (old new : Tree) → ((t : TreeTask) → In t new → In t old) → Untold rs old → Untold rs new
untold_kept rs old new was h = record {
  number = h.number;
  all =
      untold_of rs h.number new (λ t i. untold_in rs h.number old t h.all (was t i));
}

-- a task of the tree is changed

pub untold_item : (rs : List (Option Given)) (id : ℕ) (ts : Tree) (t : TreeTask) (item : Slot (List Framed)) → IsTree ts →
    task_at id ts ≡ Some t → item.root ≡ t.item.root → Untold rs ts → Untold rs (with_item id ts item)
untold_item rs id ts t item tree at same h =
    let p = found id ts t at in
    let n = h.number in
    let alone = beside p.front p.back t (subst (λ z. Distinct z) p.was tree.distinct) in
    let parts = each_parts (UntoldTask rs n) p.front (t ∷ p.back) (subst (λ w. Each (UntoldTask rs n) w) p.was (each_untold rs n ts h.all))
    in
    let list : with_item id ts item ≡ p.front ++ record t { item = item } ∷ p.back =
    ap (λ n. with_item n ts item) (sym p.number) ∙
    (ap (λ z. with_item t.number z item) p.was ∙ changed_here p.front p.back t (λ u. record u { item = item }) alone.0) in
    let it : UntoldTask rs n (record t { item = item }) =
    subst (λ r. OfEntry (λ e. (nth rs e ≡ Some None) × (n e ≡ t.number)) r) (sym same) parts.1.0 in
    record {
      number = n;
      all = subst (λ w. AllUntold rs n w) (sym list)
          (all_untold rs n (p.front ++ record t { item = item } ∷ p.back)
          (each_append (UntoldTask rs n) p.front (record t { item = item } ∷ p.back) parts.0 (it, parts.1.1)));
    }

pub untold_reheld : (rs : List (Option Given)) (tree new : Tree) (id : ℕ) (h : Held (List Framed)) → IsTree tree → Reheld tree new id h →
    Untold rs tree → Untold rs new
untold_reheld rs tree new id h nested r u =
    subst (λ z. Untold rs z) (sym r.is) (untold_item rs id tree r.task (record r.task.item { held = h }) nested r.at_it refl u)

-- a task of a new entry begins

unset_more : (rs : List (Option Given)) (e : ℕ) → nth rs e ≡ Some None → nth (rs ++ None ∷ []) e ≡ Some None
unset_more [] e k = absurd (cc)
unset_more (r ∷ rs) zero k = k
unset_more (r ∷ rs) (suc e) k = unset_more rs e k

unset_last : (rs : List (Option Given)) → nth (rs ++ None ∷ []) (length rs) ≡ Some None
unset_last [] = refl
unset_last (r ∷ rs) = unset_last rs

abbrev numbered : (ℕ → ℕ) → (entry id : ℕ) → ℕ → ℕ
numbered n entry id e = cond (eqn e entry) id (n e)

numbered_other : (n : ℕ → ℕ) (entry id e : ℕ) → e < entry → numbered n entry id e ≡ n e
numbered_other n entry id e less = other (eqn e entry) refl
  where
    other : (b : Bool) → eqn e entry ≡ b → cond b id (n e) ≡ n e
    other true same = let is : e ≡ entry = eqn_is e entry same in absurd (omega (arith, less, is))
    other false same = refl

pub untold_spawned : (rs : List (Option Given)) (old new : Tree) (u : TreeTask) (entry : ℕ) → Added u old new →
    u.item.root ≡ Spawned entry → entry ≡ length rs → Untold rs old → Untold (rs ++ None ∷ []) new
untold_spawned rs old new u entry added is last h =
    let more = rs ++ None ∷ [] in
    let n = numbered h.number entry u.number in
    let it : UntoldTask more n u = subst (λ r. OfEntry (λ e. (nth more e ≡ Some None) × (n e ≡ u.number)) r) (sym is)
    (ap (λ k. nth more k) last ∙ unset_last rs, ap (λ b. cond b u.number (h.number entry)) (eqn_same entry)) in
    let others : Each (UntoldTask more n) old =
    each_weaker (UntoldTask rs h.number) (UntoldTask more n) old
    (λ t k. of_weaker (λ e. (nth rs e ≡ Some None) × (h.number e ≡ t.number)) (λ e. (nth more e ≡ Some None) × (n e ≡ t.number)) t.item.root
    (λ e same k. (
      unset_more rs e k.0,
      numbered_other h.number entry u.number e (subst (λ z. e < z) (sym last) (nth_within rs e None k.0)) ∙
          k.1,
    )) k) (each_untold rs h.number old h.all) in
    record { number = n; all = all_untold more n new (added_each (slot_of frames_in) (UntoldTask more n) old new u added it others) }

-- the task of an entry is over

absent_without : (id : ℕ) (ts : Tree) (t : TreeTask) → IsTree ts → task_at id ts ≡ Some t → task_at id (without id ts) ≡ None
absent_without id ts t tree at =
    let p = found id ts t at in
    let alone = beside p.front p.back t (subst (λ z. Distinct z) p.was tree.distinct) in
    let list : without id ts ≡ p.front ++ p.back =
    ap (λ n. without n ts) (sym p.number) ∙ (ap (λ z. without t.number z) p.was ∙ without_at p.front p.back t alone.0) in
    ap (λ z. task_at id z) list ∙ absent_both id p.front p.back p.absent (subst (λ k. task_at k p.back ≡ None) p.number alone.1)

not_entry : (rs : List (Option Given)) (n : ℕ → ℕ) (entry id : ℕ) (ts : Tree) → n entry ≡ id → task_at id ts ≡ None →
    Each (UntoldTask rs n) ts → NoneOf entry ts
not_entry rs n entry id [] is none a = tt
not_entry rs n entry id (t ∷ ts) is none a =
    let p = absent_head id t ts none in (
      λ same.
          let k : (nth rs entry ≡ Some None) × (n entry ≡ t.number) =
          subst (λ r. OfEntry (λ e. (nth rs e ≡ Some None) × (n e ≡ t.number)) r) same a.0 in
          p.0 (sym k.1 ∙ is),
      not_entry rs n entry id ts is p.1 a.1,
    )

pub untold_over : (rs : List (Option Given)) (id entry : ℕ) (ts : Tree) (t : TreeTask) → IsTree ts → task_at id ts ≡ Some t →
    t.item.root ≡ Spawned entry → Untold rs ts → (nth rs entry ≡ Some None) × NoneOf entry (without id ts)
untold_over rs id entry ts t tree at is h =
    let p = found id ts t at in
    let n = h.number in
    let each = each_untold rs n ts h.all in
    let parts = each_parts (UntoldTask rs n) p.front (t ∷ p.back) (subst (λ w. Each (UntoldTask rs n) w) p.was each) in
    let it : (nth rs entry ≡ Some None) × (n entry ≡ t.number) =
    subst (λ r. OfEntry (λ e. (nth rs e ≡ Some None) × (n e ≡ t.number)) r) is parts.1.0 in (
      it.0,
      not_entry rs n entry id (without id ts) (it.1 ∙ p.number) (absent_without id ts t tree at)
          (without_each (slot_of frames_in) (UntoldTask rs n) ts id each),
    )

-- and has given its value

nth_other : {A : Type 0} (xs : List A) (i e : ℕ) (x : A) → (e ≡ i → ⊥) → nth (set_at xs i x) e ≡ nth xs e
nth_other [] i e x not = refl
nth_other (y ∷ xs) zero zero x not = absurd (not refl)
nth_other (y ∷ xs) zero (suc e) x not = refl
nth_other (y ∷ xs) (suc i) zero x not = refl
nth_other (y ∷ xs) (suc i) (suc e) x not = nth_other xs i e x (λ same. not (ap (λ k. suc k) same))

told_all : (rs : List (Option Given)) (n : ℕ → ℕ) (ts : Tree) (entry : ℕ) (g : Option Given) → NoneOf entry ts → AllUntold rs n ts →
    AllUntold (set_at rs entry g) n ts
told_all rs n [] entry g none a = tt
told_all rs n (t ∷ ts) entry g none a = (
  of_weaker (λ e. (nth rs e ≡ Some None) × (n e ≡ t.number)) (λ e. (nth (set_at rs entry g) e ≡ Some None) × (n e ≡ t.number)) t.item.root
      (λ e is k. (nth_other rs entry e g (λ same. none.0 (is ∙ ap (λ z. Spawned z) same)) ∙ k.0, k.1)) a.0,
  told_all rs n ts entry g none.1 a.1,
)

pub untold_told : (rs : List (Option Given)) (ts : Tree) (entry : ℕ) (g : Option Given) → NoneOf entry ts → Untold rs ts →
    Untold (set_at rs entry g) ts
untold_told rs ts entry g none h = record { number = h.number; all = told_all rs h.number ts entry g none h.all }
