-- What breaks no rule on the whole list fits.
use Rattle.std.proofs.Common.{◌≡◌, ◌⊎◌, inl, inr, ℕ, suc, ◌+◌, ◌<◌, ◌≤◌, Bool, true, false, cond, ltb, leb, eqb, ◌&&◌, ◌||◌}
use Rattle.std.proofs.Common.{List, [], ◌∷◌, ◌++◌, length, Option, Some, None, slice_get, refl, sym, ap, subst, ◌∙◌, arith, length-append}
use Rattle.std.proofs.Common.{append_assoc, append-nil}
use Rattle.std.proofs.lemmas.Bool.{ltb-false, leb-false, leb-true, eqb-true, eq-eqb, or_parts, not-false}
use Rattle.verse_base.proofs.Facts.{cond_none}
use Rattle.task_tree.specs.declared.tasks.Role.{Role}
use Rattle.task_tree.specs.declared.tasks.Role.TheVariants.{Root, Arm, Behind}
use Rattle.task_tree.specs.Tasks.{is_child}
use Rattle.verse_code.specs.declared.codes.Code.{Code}
use Rattle.verse_value.specs.Val.{Val, vals}
use Rattle.verse_value.specs.Store.{Cell, Store}
use Rattle.verse_meaning_state.specs.State.{Given}
use Rattle.run_save_shots.specs.Lists.{Each, EachAt, EachTwo, count}
use Rattle.run_save_shots.specs.Kept.{KeptRest, leaf, group, KeptTask}
use Rattle.run_save_shots.specs.Fitting.{ArmsRun, DepthFits, GroupStands, HasRoot, InOrder, MayFollow, ParentBefore}
use Rattle.run_save_shots.specs.Fitting.{Stand, arms_of, calls, sleeps}
use Rattle.run_save_shots.specs.Fitting.{stays, awaits_task, awaits_event, gathers, goes_on, frames_in, frames_of}
use Rattle.run_save_shots.specs.Fitting.{is_arm_of, is_child_of, is_root}
use Rattle.run_save_shots.specs.Fitting.{is_running, runs_once, task_stand, unfinished, ValueFits, ValuesFit}
use Rattle.run_save_shots.proofs.Lists.{get_some}
use Rattle.run_save_format.specs.Whole.{any, arms_break, breaks_cell, breaks_entry, breaks_task, broken_cell, broken_entry, broken_task}
use Rattle.run_save_format.specs.Whole.{child_breaks, group_breaks, is_beyond, is_disordered, is_group, is_later}
use Rattle.run_save_format.specs.Whole.{left_at, may_follow, name_none}
use Rattle.run_save_format.specs.Whole.{names_none, or_else, rest_breaks, role_breaks}
use Rattle.run_save_reads.proofs.Stores.{SlotRead}

-- ---- words on lists

pub at_place : {A : Type 0} (before : List A) (x : A) (xs : List A) → slice_get (before ++ x ∷ xs) (length before) ≡ Some x
at_place [] x xs = refl
at_place (y ∷ before) x xs = at_place before x xs

pub none_counted : {A : Type 0} (test : A → Bool) (xs : List A) → any test xs ≡ false → count test xs ≡ 0
none_counted test [] e = refl
none_counted test (x ∷ xs) e =
    let p = or_parts (test x) (any test xs) e in
    ap (λ b. cond b (suc (count test xs)) (count test xs)) p.0 ∙ none_counted test xs p.1

-- ---- where a place is told, it is within the list

left_none : (lefts : List ℕ) (n : ℕ) (o : Option ℕ) → ((p : ℕ) → o ≡ Some p → p < n) → length lefts ≡ n → left_at lefts o ≡ None → o ≡ None
left_none lefts n None low e f = refl
left_none lefts n (Some p) low e f = let within = low p refl in absurd (get_some lefts p (omega arith) f)

pub both_none : (a b : Option ℕ) → or_else a b ≡ None → (a ≡ None) × (b ≡ None)
both_none None b e = (refl, e)
both_none (Some n) b e = absurd (cc)

cell_within : (n address : ℕ) (cells : Store) (p : ℕ) → broken_cell n address cells ≡ Some p → p < address + length cells
cell_within n address [] p e = absurd (cc)
cell_within n address (c ∷ cells) p e = two (breaks_cell n c) (cell_within n (suc address) cells p) e
  where
    two : (b : Bool) → (broken_cell n (suc address) cells ≡ Some p → p < suc address + length cells) →
        cond b (Some address) (broken_cell n (suc address) cells) ≡ Some p → p < address + suc (length cells)
    two true h f = (let same : address ≡ p = cc in omega arith)
    two false h f = (let low = h f in omega arith)

entry_within : (ts : List KeptTask) (entry : ℕ) (gs : List (Option Given)) (p : ℕ) → broken_entry ts entry gs ≡ Some p →
    p < entry + length gs
entry_within ts entry [] p e = absurd (cc)
entry_within ts entry (g ∷ gs) p e = two (breaks_entry ts entry g) (entry_within ts (suc entry) gs p) e
  where
    two : (b : Bool) → (broken_entry ts (suc entry) gs ≡ Some p → p < suc entry + length gs) →
        cond b (Some entry) (broken_entry ts (suc entry) gs) ≡ Some p → p < entry + suc (length gs)
    two true h f = (let same : entry ≡ p = cc in omega arith)
    two false h f = (let low = h f in omega arith)

task_within : (c : Code) (spent : ℕ) (all before : List KeptTask) (frames : ℕ) (ts : List KeptTask) (p : ℕ) →
    broken_task c spent all before frames ts ≡ Some p → p < length before + length ts
task_within c spent all before frames [] p e = absurd (cc)
task_within c spent all before frames (t ∷ ts) p e =
    two (breaks_task c spent all before frames t) (task_within c spent all (before ++ t ∷ []) (frames + length t.frames) ts p) e
  where
    two : (b : Bool) → (broken_task c spent all (before ++ t ∷ []) (frames + length t.frames) ts ≡ Some p →
        p < length (before ++ t ∷ []) + length ts) →
        cond b (Some (length before)) (broken_task c spent all (before ++ t ∷ []) (frames + length t.frames) ts) ≡ Some p →
        p < length before + suc (length ts)
    two true h f = (let same : length before ≡ p = cc in omega arith)
    two false h f = (let low = h f in let long = length-append before (t ∷ []) in omega arith)

pub no_cell_broken : (n : ℕ) (cells : Store) (lefts : List ℕ) → length lefts ≡ length cells → left_at lefts (broken_cell n 0 cells) ≡ None →
    broken_cell n 0 cells ≡ None
no_cell_broken n cells lefts e f =
    left_none lefts (length cells) (broken_cell n 0 cells) (λ p g. (let low = cell_within n 0 cells p g in omega arith)) e f

pub no_entry_broken : (ts : List KeptTask) (gs : List (Option Given)) (lefts : List ℕ) → length lefts ≡ length gs →
    left_at lefts (broken_entry ts 0 gs) ≡ None → broken_entry ts 0 gs ≡ None
no_entry_broken ts gs lefts e f =
    left_none lefts (length gs) (broken_entry ts 0 gs) (λ p g. (let low = entry_within ts 0 gs p g in omega arith)) e f

pub no_task_broken : (c : Code) (spent : ℕ) (ts : List KeptTask) (lefts : List ℕ) → length lefts ≡ length ts →
    left_at lefts (broken_task c spent ts [] 0 ts) ≡ None → broken_task c spent ts [] 0 ts ≡ None
no_task_broken c spent ts lefts e f =
    left_none lefts (length ts) (broken_task c spent ts [] 0 ts) (λ p g. (let low = task_within c spent ts [] 0 ts p g in omega arith)) e f

-- ---- cells

slots_fit : (n : ℕ) (vs : List Val) → Each SlotRead vs → name_none n (vals vs) ≡ false → ValuesFit n vs
slots_fit n [] p e = tt
slots_fit n (v ∷ vs) p e =
    let q = or_parts (names_none n v) (name_none n (vals vs)) e in
    (record { small = p.0.0; sound = p.0.1 n q.0 }, slots_fit n vs p.1 q.1)

pub cells_fit : (n address : ℕ) (cells : Store) → Each (λ (c : Cell). Each SlotRead c.slots) cells → broken_cell n address cells ≡ None →
    Each (λ (c : Cell). ValuesFit n c.slots) cells
cells_fit n address [] p e = tt
cells_fit n address (c ∷ cells) p e =
    let q = cond_none (breaks_cell n c) address (broken_cell n (suc address) cells) e in
    (slots_fit n c.slots p.0 q.0, cells_fit n (suc address) cells p.1 q.1)

-- ---- spawned entries

pub entries_rooted : (ts : List KeptTask) (entry : ℕ) (gs : List (Option Given)) → broken_entry ts entry gs ≡ None →
    EachAt (HasRoot ts) entry gs
entries_rooted ts entry [] e = tt
entries_rooted ts entry (g ∷ gs) e =
    let q = cond_none (breaks_entry ts entry g) entry (broken_entry ts (suc entry) gs) e in
    (eqb-true _ _ (not-false (eqb (count (is_root (Some entry)) ts) (runs_once g)) q.0), entries_rooted ts (suc entry) gs q.1)

-- ---- tasks

-- a task at which no rule is broken
pub record Stands (c : Code) (spent : ℕ) (all before : List KeptTask) (frames : ℕ) (t : KeptTask) : Type 0 where
  pub later : is_later (length before) t.parent ≡ false
  pub main : (is_root None t && any (is_root None) before) ≡ false
  pub child : child_breaks all t.parent t.role ≡ false
  pub order : any (is_disordered t.parent t.role) before ≡ false
  pub rest : rest_breaks c all (length before) t t.rest ≡ false
  pub few : frames + length t.frames ≤ suc spent

stands : (c : Code) (spent : ℕ) (all before : List KeptTask) (frames : ℕ) (t : KeptTask) → breaks_task c spent all before frames t ≡ false →
    Stands c spent all before frames t
stands c spent all before frames t e =
    let a = is_later (length before) t.parent in
    let b = is_root None t && any (is_root None) before in
    let d = child_breaks all t.parent t.role in
    let f = any (is_disordered t.parent t.role) before in
    let g = rest_breaks c all (length before) t t.rest in
    let h = ltb (suc spent) (frames + length t.frames) in
    let p = or_parts (a || b || d || f || g) h e in
    let q = or_parts (a || b || d || f) g p.0 in
    let r = or_parts (a || b || d) f q.0 in
    let u = or_parts (a || b) d r.0 in
    let v = or_parts a b u.0 in
    record { later = v.0; main = v.1; child = u.1; order = r.1; rest = q.1; few = ltb-false _ _ p.1 }

abbrev pub AllStand : Code → (spent : ℕ) → (all before : List KeptTask) → (frames : ℕ) → List KeptTask → Type 0
AllStand c spent all before frames [] = Unit {0}
AllStand c spent all before frames (t ∷ ts) =
    Stands c spent all before frames t × AllStand c spent all (before ++ t ∷ []) (frames + length t.frames) ts

pub all_stand : (c : Code) (spent : ℕ) (all before : List KeptTask) (frames : ℕ) (ts : List KeptTask) →
    broken_task c spent all before frames ts ≡ None → AllStand c spent all before frames ts
all_stand c spent all before frames [] e = tt
all_stand c spent all before frames (t ∷ ts) e =
    let q = cond_none (breaks_task c spent all before frames t) (length before)
    (broken_task c spent all (before ++ t ∷ []) (frames + length t.frames) ts) e in
    (stands c spent all before frames t q.0, all_stand c spent all (before ++ t ∷ []) (frames + length t.frames) ts q.1)
