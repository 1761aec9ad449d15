-- The numbers of tasks, frames and arms that are spelled.
use Rattle.std.proofs.Common.{◌≡◌, ℕ, zero, suc, ◌+◌, ◌*◌, length, map, List, [], ◌∷◌, ◌++◌, Option, Some, None, refl}
use Rattle.std.proofs.Common.{sym}
use Rattle.std.proofs.Common.{subst, ap, ◌∙◌, arith}
use Rattle.std.proofs.lemmas.List.{length-map}
use Rattle.verse_code.specs.declared.codes.Code.{Code}
use Rattle.verse_code_machine.specs.Tasks.{Frame, Who, Task}
use Rattle.verse_code_machine_parents.specs.Parents.{whos, Still}
use Rattle.run_save_shots.specs.Lists.{Each}
use Rattle.run_save_shots.specs.Kept.{KeptFrame, KeptTask, Kept}
use Rattle.run_save_shots.specs.Keeping as kp
use Rattle.run_save_shots.specs.Naming.{number_at, named, parent_in}
use Rattle.run_save_shots.specs.Spelling as sp
use Rattle.run_save_shots.specs.Spelling.{frames_from, with_frames, who, tasks_from}
use Rattle.run_save_moves.specs.Fine.{Scene}
use Rattle.run_save_fits.specs.Held.{TaskFine}
use Rattle.run_save_fits.proofs.KeptTasks.{frames_number}
use Rattle.run_save_births.specs.Births.{births, births_of}
use Rattle.run_save_same.proofs.Framing.{all_rested, Made, made}
use Rattle.run_save_same.proofs.Spelled.{whos_end}

head_is : {A : Type 0} {x y : A} {xs ys : List A} → x ∷ xs ≡ y ∷ ys → x ≡ y
head_is e = cc

none_is : {A B : Type 0} {y : A} {ys : List A} → [] ≡ y ∷ ys → B
none_is e = cc

-- the task that is made of frames
with_is : (c : Code) (x : Kept) (at : ℕ) (t : KeptTask) (ts : List KeptTask) (w : Who) (fs : List Frame) (v : Task) →
    with_frames c x at t ts w fs ≡ v ∷ [] →
    (v.thread.who ≡ w) × (fs ≡ v.thread.frame ∷ v.thread.below) × (v.rest ≡ sp.rest c x at t ts t.rest)
with_is c x at t ts w [] v e = none_is e
with_is c x at t ts w (f ∷ fs) v e = let h = head_is e in (
  ap (λ (z : Task). z.thread.who) (sym h),
  ap (λ (z : Task). z.thread.frame ∷ z.thread.below) h,
  ap (λ (z : Task). z.rest) (sym h),
)

-- a name ends with the task's number
named_path : (o : Option Who) (entry : Option ℕ) (n : ℕ) →
    (named o entry n).path ≡ (named o entry n).up ++ (named o entry n).number ∷ []
named_path None entry n = refl
named_path (Some w) entry n = refl

named_number : (o : Option Who) (entry : Option ℕ) (n : ℕ) → (named o entry n).number ≡ n
named_number None entry n = refl
named_number (Some w) entry n = refl

module _ (c : Code) (x : Kept) (ys : List Task) where
  abbrev pub kept_of : List Task → List KeptTask
  kept_of zs = map (kp.task ys) zs

  -- of the first of so many tasks
  abbrev pub number_of : ℕ → ℕ
  number_of n = x.left + suc x.spent * n

  pub number_is : (ts : List KeptTask) (n : ℕ) → length ts ≡ n → number_at x ts ≡ number_of n
  number_is ts n e = ap number_of e

  pub number_kept : (zs : List Task) → number_at x (kept_of zs) ≡ number_of (length zs)
  number_kept zs = number_is (kept_of zs) (length zs) (length-map zs (kp.task ys))

  -- the births of the n lowest frames of the task at a place, the topmost of them first, behind k - 1 above them
  abbrev pub births_made : (at : ℕ) (own ts : List KeptTask) (k n : ℕ) → List ℕ
  births_made at own ts k zero = []
  births_made at own ts k (suc n) = sp.born x at n own k ts ∷ births_made at own ts (suc k) n

  births_from : (at : ℕ) (t : KeptTask) (ts : List KeptTask) (depth m : ℕ) (fs : List KeptFrame)
      (below : List Frame) → m ≡ length fs + depth →
      births below ≡ births_made at (t ∷ ts) ts (suc (length fs)) depth →
      births (frames_from c x at t ts depth fs below) ≡ births_made at (t ∷ ts) ts 1 m
  births_from at t ts depth m [] below e h = h ∙ ap (births_made at (t ∷ ts) ts 1) (same depth m e)
    where
      same : (i j : ℕ) → j ≡ 0 + i → i ≡ j
      same i j e = omega (arith, e)
  births_from at t ts depth m (f ∷ fs) below e h =
      births_from at t ts (suc depth) m fs _ (further (length fs) depth m e)
      (ap (λ ns. sp.born x at depth (t ∷ ts) (suc (length fs)) ts ∷ ns) h)
    where
      further : (i d m : ℕ) → m ≡ suc i + d → m ≡ i + suc d
      further i d m e = omega (arith, e)

  -- a task and what is spelled for it; those are behind it
  pub record IsSpelt (at : ℕ) (z : Task) (zs : List Task) (v : Task) : Type 0 where
    pub number : v.thread.who.number ≡ number_of (suc (length zs))
    pub path : v.thread.who.path ≡ v.thread.who.up ++ v.thread.who.number ∷ []
    pub births : births_of v.thread ≡ births_made at (kept_of (z ∷ zs)) (kept_of zs) 1 (suc (length z.thread.below))
    pub rest : v.rest ≡ sp.rest c x at (kp.task ys z) (kept_of zs) (kp.rest z.rest)

  abbrev pub Spelt : ℕ → List Task → List Task → Type 0
  Spelt at [] [] = Unit {0}
  Spelt at (z ∷ zs) (v ∷ vs) = IsSpelt at z zs v × Spelt (suc at) zs vs
  Spelt at [] (v ∷ vs) = ⊥
  Spelt at (z ∷ zs) [] = ⊥

  is_spelt : (at : ℕ) (z : Task) (zs : List Task) (ws : List Who) (v : Task) →
      sp.task c x at (kp.task ys z) (kept_of zs) ws ≡ v ∷ [] → IsSpelt at z zs v
  is_spelt at z zs ws v e =
      let h = with_is c x at (kp.task ys z) (kept_of zs) (who c x at (kp.task ys z) (kept_of zs) ws)
      (frames_from c x at (kp.task ys z) (kept_of zs) 0
      (kp.task ys z).frames []) v e in
      let o = parent_in ws (kp.task ys z).parent in
      record {
        number = ap (λ (w : Who). w.number) h.0 ∙ (named_number o (kp.task ys z).root _ ∙ number_kept (z ∷ zs));
        path = subst (λ (w : Who). w.path ≡ w.up ++ w.number ∷ []) (sym h.0) (named_path o (kp.task ys z).root _);
        births = ap births (sym h.1) ∙ births_from at (kp.task ys z) (kept_of zs) 0 (suc (length z.thread.below))
            (kp.task ys z).frames [] (count
            (length (kp.task ys z).frames) (length z.thread.below) (frames_number c z)) refl;
        rest = h.2;
      }
    where
      count : (i n : ℕ) → i ≡ suc n → suc n ≡ i + 0
      count i n e = omega (arith, e)

  module _ (scene : Scene) (next : ℕ) where
    abbrev Given : Task → Type 0
    Given y = TaskFine c scene next y × Still y.thread

    abbrev More : List Task → List Task → List Task
    More fu zs = tasks_from c x (whos fu) (kept_of zs)

    -- of a rest of the list, where these were spelled before
    spelt_from : (fu zs : List Task) (at : ℕ) → length (whos fu) ≡ at → Each Given zs → Spelt at zs (More fu zs)
    spelt_from fu [] at e g = tt
    spelt_from fu (z ∷ zs) at e g = subst (Spelt at (z ∷ zs)) (sym step) (
      subst (λ i. IsSpelt i z zs m.task) e (is_spelt (length (whos fu)) z zs (whos fu) m.task m.is),
      spelt_from (fu ++ m.task ∷ []) zs (suc at) (longer_whos fu m.task ∙ ap suc e) g.1,
    )
      where
        m : Made c x (length (whos fu)) (kp.task ys z) (kept_of zs) (whos fu) z
        m = made c x scene next ys z g.0.0 (all_rested z.thread.frame z.thread.below g.0.1.free) (length (whos fu))
            (kept_of zs) (whos fu)

        longer_whos : (us : List Task) (u : Task) → length (whos (us ++ u ∷ [])) ≡ suc (length (whos us))
        longer_whos [] u = refl
        longer_whos (v ∷ us) u = ap suc (longer_whos us u)

        step : More fu (z ∷ zs) ≡ m.task ∷ More (fu ++ m.task ∷ []) zs
        step = ap (λ l. l ++ tasks_from c x
            (whos fu ++ who c x (length (whos fu)) (kp.task ys z) (kept_of zs) (whos fu) ∷ []) (kept_of zs)) m.is ∙
            ap (λ ws. m.task ∷ tasks_from c x ws (kept_of zs)) (ap (λ w. whos fu ++ w ∷ []) (sym m.who_is) ∙
            sym (whos_end fu m.task))

    pub all_spelt : (zs : List Task) → Each Given zs → Spelt 0 zs (tasks_from c x [] (kept_of zs))
    all_spelt zs g = spelt_from [] zs 0 refl g
