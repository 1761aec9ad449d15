-- Tasks that were spawned, by their entries.
use Rattle.std.proofs.Common.{◌≡◌, ℕ, zero, suc, ◌+◌, ◌<◌, ◌≤◌, Bool, true, false, ◌&&◌, cond, eqb, List, [], ◌∷◌, ◌++◌, length, map}
use Rattle.std.proofs.Common.{Option, Some}
use Rattle.std.proofs.Common.{None, option_map, refl, sym, ap, subst, ◌∙◌, arith, ◌⊎◌, inl, inr}
use Rattle.std.proofs.lemmas.Bool.{eq-eqb, ne_eqb, cases_lt}
use Rattle.std.proofs.lemmas.List.{append_assoc}
use Rattle.task_tree.specs.Tasks.{Task, is_child}
use Rattle.verse_code.specs.declared.codes.Code.{Code}
use Rattle.verse_meaning_state.specs.State as state
use Rattle.verse_meaning_state.specs.Waits.{nth}
use Rattle.vm_frames.specs.Framed.{Framed}
use Rattle.vm_tasks.specs.declared.slots.Slot.{Slot}
use Rattle.vm_tasks.specs.declared.slots.Root.{Root}
use Rattle.vm_tasks.specs.declared.slots.Root.TheVariants.{Part as APart, Main, Spawned}
use Rattle.vm_scheduler.specs.declared.tasks.Given.{Given}
use Rattle.vm_scheduler.specs.Standing.{Tree, given_of, OfEntry, AllUntold, Untold}
use Rattle.run_save_shots.specs.Lists.{EachAt, count}
use Rattle.run_save_shots.specs.Kept.{KeptTask, Kept}
use Rattle.run_save_shots.specs.Fitting.{RootFits, TaskFits, is_root, runs_once, HasRoot, Fits}
use Rattle.run_save_spelled.proofs.Forests.{each_weaker}
use Rattle.run_save_slots.specs.Slots.{root_of}
use Rattle.run_save_trees.proofs.Lists.{count_none, count_between}

abbrev pub is_of : ℕ → Root → Bool
is_of entry APart = false
is_of entry Main = false
is_of entry (Spawned e) = eqb entry e

abbrev pub is_spawned : ℕ → Task (Slot (List Framed)) → Bool
is_spawned entry t = is_of entry t.item.root

pub same_entry : (entry : ℕ) (q e : Option ℕ) → is_of entry (root_of q e) ≡ (is_child None q && is_child (Some entry) e)
same_entry entry None None = refl
same_entry entry None (Some e) = refl
same_entry entry (Some p) e = refl

-- the number in the tree of the first task of the entry
abbrev first_of : ℕ → Tree → ℕ
first_of entry [] = 0
first_of entry (t ∷ ts) = cond (is_spawned entry t) t.number (first_of entry ts)

some_of : (entry : ℕ) (before : Tree) (x : Task (Slot (List Framed))) (xs : Tree) → is_spawned entry x ≡ true →
    1 ≤ count (is_spawned entry) (before ++ x ∷ xs)
some_of entry before x xs e =
    omega (
      arith,
      count_between (is_spawned entry) before x xs ∙
          ap (λ b. cond b (suc (count (is_spawned entry) (before ++ xs))) (count (is_spawned entry) (before ++ xs))) e,
    )

first_is : (entry : ℕ) (before : Tree) (x : Task (Slot (List Framed))) (xs : Tree) → count (is_spawned entry) (before ++ x ∷ xs) ≤ 1 →
    is_spawned entry x ≡ true → first_of entry (before ++ x ∷ xs) ≡ x.number
first_is entry [] x xs l e = ap (λ b. cond b x.number (first_of entry xs)) e
first_is entry (y ∷ before) x xs l e = by (is_spawned entry y) l (λ k. first_is entry before x xs k e)
  where
    by : (b : Bool) → cond b (suc (count (is_spawned entry) (before ++ x ∷ xs))) (count (is_spawned entry) (before ++ x ∷ xs)) ≤ 1 →
        (count (is_spawned entry) (before ++ x ∷ xs) ≤ 1 → first_of entry (before ++ x ∷ xs) ≡ x.number) →
        cond b y.number (first_of entry (before ++ x ∷ xs)) ≡ x.number
    by true l rest = absurd (omega (arith, l, some_of entry before x xs e))
    by false l rest = rest l

module _ (results : List (Option Given)) (all : Tree)
    (known : (entry : ℕ) → 1 ≤ count (is_spawned entry) all → (nth results entry ≡ Some None) × (count (is_spawned entry) all ≤ 1)) where
  abbrev number : ℕ → ℕ
  number entry = first_of entry all

  one_untold : (before : Tree) (x : Task (Slot (List Framed))) (xs : Tree) → all ≡ before ++ x ∷ xs → (r : Root) → x.item.root ≡ r →
      OfEntry (λ entry. (nth results entry ≡ Some None) × (number entry ≡ x.number)) r
  one_untold before x xs e APart f = tt
  one_untold before x xs e Main f = tt
  one_untold before x xs e (Spawned entry) f =
      let here : is_spawned entry x ≡ true = ap (is_of entry) f ∙ eq-eqb entry entry refl in
      let k = known entry (subst (λ ys. 1 ≤ count (is_spawned entry) ys) (sym e) (some_of entry before x xs here)) in
      (k.0, ap (first_of entry) e ∙ first_is entry before x xs (subst (λ ys. count (is_spawned entry) ys ≤ 1) e k.1) here)

  all_untold : (before xs : Tree) → all ≡ before ++ xs → AllUntold results number xs
  all_untold before [] e = tt
  all_untold before (x ∷ xs) e = (
    one_untold before x xs e x.item.root refl,
    all_untold (before ++ x ∷ []) xs (e ∙ sym (append_assoc before (x ∷ []) xs)),
  )

  are_untold : Untold results all
  are_untold = record { number = number; all = all_untold [] all refl }

-- ---- entries of a fitting shot

entry_at : {A : Type 0} (P : ℕ → A → Type 0) (n : ℕ) (xs : List A) (i : ℕ) → EachAt P n xs → i < length xs →
    (x : A) × (nth xs i ≡ Some x) × P (n + i) x
entry_at P n [] i e l = absurd (omega (arith, l))
entry_at P n (x ∷ xs) zero e l = let same : n ≡ n + 0 = omega arith in (x, refl, subst (λ k. P k x) same e.0)
entry_at P n (x ∷ xs) (suc i) e l =
    let r = entry_at P (suc n) xs i e.1 (omega (arith, l)) in
    let same : suc n + i ≡ n + suc i = omega arith in (r.0, r.1, subst (λ k. P k r.0) same r.2)

module _ (c : Code) (s : Kept) (fits : Fits c s) where
  beyond : (entry : ℕ) → length s.spawned ≤ entry → (t : KeptTask) → TaskFits c s t → is_root (Some entry) t ≡ false
  beyond entry l t f = by t.parent t.root f.root
    where
      by : (q e : Option ℕ) → RootFits (length s.spawned) q e → (is_child None q && is_child (Some entry) e) ≡ false
      by None None r = refl
      by None (Some e) r = ne_eqb entry e (λ k. omega (arith, k, r, l))
      by (Some p) e r = refl

  running : (entry : ℕ) → 1 ≤ count (is_root (Some entry)) s.tasks →
      (nth s.spawned entry ≡ Some None) × (count (is_root (Some entry)) s.tasks ≤ 1)
  running entry some = by (cases_lt entry (length s.spawned))
    where
      of : (g : Option state.Given) → nth s.spawned entry ≡ Some g → count (is_root (Some entry)) s.tasks ≡ runs_once g →
          (nth s.spawned entry ≡ Some None) × (count (is_root (Some entry)) s.tasks ≤ 1)
      of None e n = (e, omega (arith, n))
      of (Some g) e n = absurd (omega (arith, n, some))

      by : (entry < length s.spawned) ⊎ (length s.spawned ≤ entry) →
          (nth s.spawned entry ≡ Some None) × (count (is_root (Some entry)) s.tasks ≤ 1)
      by (inl l) =
          let r = entry_at (HasRoot s.tasks) 0 s.spawned entry fits.roots l in
          let same : 0 + entry ≡ entry = omega arith in
          of r.0 r.1 (subst (λ k. count (is_root (Some k)) s.tasks ≡ runs_once r.0) same r.2)
      by (inr l) =
          absurd (omega (
            arith,
            some,
            count_none (is_root (Some entry)) s.tasks
                (each_weaker (TaskFits c s) (λ t. is_root (Some entry) t ≡ false) s.tasks (beyond entry l) fits.tasks),
          ))

  given_none : (rs : List (Option Given)) (entry : ℕ) → nth (map (λ o. option_map given_of o) rs) entry ≡ Some None →
      nth rs entry ≡ Some None
  given_none [] entry e = absurd (cc)
  given_none (None ∷ rs) zero e = refl
  given_none (Some g ∷ rs) zero e = absurd (cc)
  given_none (r ∷ rs) (suc entry) e = given_none rs entry e

  pub roots_untold : (tree : Tree) → ((entry : ℕ) → count (is_spawned entry) tree ≡ count (is_root (Some entry)) s.tasks) →
      (results : List (Option Given)) → s.spawned ≡ map (λ o. option_map given_of o) results → Untold results tree
  roots_untold tree same results given = are_untold results tree (λ entry some.
      let r = running entry (omega (arith, some, same entry)) in
      (given_none results entry (sym (ap (λ gs. nth gs entry) given) ∙ r.0), omega (arith, r.1, same entry)))
