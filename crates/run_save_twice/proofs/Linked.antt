-- Each task that is spelled, beside the one that is kept.
use Rattle.std.proofs.Common.{◌≡◌, ℕ, zero, suc, ◌<◌, ◌≤◌, List, [], ◌∷◌, ◌++◌, length, Some, None, refl, sym, ap, subst}
use Rattle.std.proofs.Common.{◌∙◌, append_assoc, arith, ◌⊎◌, inl, inr}
use Rattle.std.proofs.lemmas.Bool.{cases_lt}
use Rattle.std.proofs.lemmas.List.{length-append}
use Rattle.verse_code.specs.declared.codes.Code.{Code}
use Rattle.verse_meaning_state.specs.Waits.{nth}
use Rattle.verse_code_machine.specs.Tasks.{Task, Who, root_named, child_named}
use Rattle.run_save_shots.specs.Lists.{EachAt}
use Rattle.run_save_shots.specs.Lists.{Each}
use Rattle.run_save_shots.specs.Kept.{KeptTask, Kept}
use Rattle.run_save_shots.specs.Fitting.{ParentBefore, Fits}
use Rattle.run_save_shots.specs.Naming.{number_at, named, parent_in}
use Rattle.run_save_shots.specs.Spelling.{frames_from, rest, who, tasks_from}
use Rattle.run_save_spelled.specs.Growing.{number_of, In, first_in, later_in}
use Rattle.run_save_spelled.proofs.Sprouting.{HasFrames, spelled, who_number, have_frames}

-- ---- lists

module _ {A : Type 0} where
  pub nth_front : (xs ys : List A) (p : ℕ) (x : A) → nth xs p ≡ Some x → nth (xs ++ ys) p ≡ Some x
  nth_front [] ys p x e = absurd (cc)
  nth_front (z ∷ xs) ys zero x e = e
  nth_front (z ∷ xs) ys (suc p) x e = nth_front xs ys p x e

  pub nth_end : (xs : List A) (y : A) (ys : List A) → nth (xs ++ y ∷ ys) (length xs) ≡ Some y
  nth_end [] y ys = refl
  nth_end (x ∷ xs) y ys = nth_end xs y ys

  pub nth_in : (xs : List A) (p : ℕ) (x : A) → nth xs p ≡ Some x → In x xs
  nth_in [] p x e = absurd (cc)
  nth_in (y ∷ xs) zero x e = let same : y ≡ x = cc in subst (λ z. In x (z ∷ xs)) (sym same) first_in
  nth_in (y ∷ xs) (suc p) x e = later_in y (nth_in xs p x e)

  pub nth_long : (xs : List A) (p : ℕ) (x : A) → nth xs p ≡ Some x → p < length xs
  nth_long [] p x e = absurd (cc)
  nth_long (y ∷ xs) zero x e = omega arith
  nth_long (y ∷ xs) (suc p) x e = let l = nth_long xs p x e in omega (arith, l)

  -- the same place
  pub record SamePlace (xs : List A) (t : A) (ts zs : List A) (u : A) (us : List A) : Type 0 where
    pub before : xs ≡ zs
    pub it : t ≡ u
    pub behind : ts ≡ us

  pub same_place : (xs : List A) (t : A) (ts zs : List A) (u : A) (us : List A) → xs ++ t ∷ ts ≡ zs ++ u ∷ us →
      length xs ≡ length zs → SamePlace xs t ts zs u us
  same_place [] t ts [] u us e l = record { before = refl; it = cc; behind = cc }
  same_place [] t ts (z ∷ zs) u us e l = absurd (omega (arith, l))
  same_place (x ∷ xs) t ts [] u us e l = absurd (omega (arith, l))
  same_place (x ∷ xs) t ts (z ∷ zs) u us e l =
      let tails : xs ++ t ∷ ts ≡ zs ++ u ∷ us = cc in
      let heads : x ≡ z = cc in
      let r = same_place xs t ts zs u us tails (omega (arith, l)) in
      record { before = ap (λ y. y ∷ xs) heads ∙ ap (λ ys. z ∷ ys) r.before; it = r.it; behind = r.behind }

-- ---- a task

-- it is spelled of the task that is kept at a place; these are all tasks that are spelled
pub record IsOf (c : Code) (s : Kept) (ys : List Task) (before : List KeptTask) (t : KeptTask) (ts : List KeptTask) (y : Task) : Type 0
  where
    pub all : s.tasks ≡ before ++ t ∷ ts
    pub at : nth ys (length before) ≡ Some y
    pub number : number_of y ≡ number_at s (t ∷ ts)
    pub rest_is : y.rest ≡ rest c s (length before) t ts t.rest
    pub frames : y.thread.frame ∷ y.thread.below ≡ frames_from c s (length before) t ts 0 t.frames []
    pub own : t.parent ≡ None → y.thread.who ≡ root_named (number_of y) t.root
    pub under : (p : ℕ) → t.parent ≡ Some p → (x : Task) × (nth ys p ≡ Some x) × (y.thread.who ≡ child_named x.thread.who (number_of y))

-- and so each of the rest
abbrev pub Along : (c : Code) (s : Kept) (ys : List Task) → (before ts : List KeptTask) → List Task → Type 0
Along c s ys before [] [] = Unit {0}
Along c s ys before [] (z ∷ zs) = ⊥
Along c s ys before (t ∷ ts) [] = ⊥
Along c s ys before (t ∷ ts) (z ∷ zs) = IsOf c s ys before t ts z × Along c s ys (before ++ t ∷ []) ts zs

-- the names of the tasks so far
abbrev Names : List Who → List Task → Type 0
Names ws done = (p : ℕ) → p < length ws → (x : Task) × (nth done p ≡ Some x) × (nth ws p ≡ Some x.thread.who)

one_name : (ws : List Who) (done : List Task) (y : Task) (w : Who) → length ws ≡ length done → y.thread.who ≡ w → Names ws done →
    Names (ws ++ w ∷ []) (done ++ y ∷ [])
one_name ws done y w long e ns p lt = by (cases_lt p (length ws))
  where
    by : (p < length ws) ⊎ (length ws ≤ p) →
        (x : Task) × (nth (done ++ y ∷ []) p ≡ Some x) × (nth (ws ++ w ∷ []) p ≡ Some x.thread.who)
    by (inl l) = let n = ns p l in
        (n.0, nth_front done (y ∷ []) p n.0 n.1, nth_front ws (w ∷ []) p n.0.thread.who n.2)
    by (inr l) =
        let last : p ≡ length ws = omega (arith, l, lt, length-append ws (w ∷ [])) in (
          y,
          ap (λ k. nth (done ++ y ∷ []) k) (last ∙ long) ∙ nth_end done y [],
          ap (λ k. nth (ws ++ w ∷ []) k) last ∙ (nth_end ws w [] ∙ ap Some (sym e)),
        )

module _ (c : Code) (s : Kept) where
  abbrev pub ys : List Task
  ys = tasks_from c s [] s.tasks

  own_name : (t : KeptTask) (ts : List KeptTask) (ws : List Who) (y : Task) → y.thread.who ≡ who c s (length ws) t ts ws →
      number_of y ≡ number_at s (t ∷ ts) → t.parent ≡ None → y.thread.who ≡ root_named (number_of y) t.root
  own_name t ts ws y e n f =
      e ∙ (ap (λ p. named (parent_in ws p) t.root (number_at s (t ∷ ts))) f ∙ ap (λ k. root_named k t.root) (sym n))

  under_name : (t : KeptTask) (ts : List KeptTask) (ws : List Who) (done : List Task) (y : Task) →
      y.thread.who ≡ who c s (length ws) t ts ws → number_of y ≡ number_at s (t ∷ ts) → ParentBefore (length ws) t → Names ws done →
      (p : ℕ) → t.parent ≡ Some p →
      (x : Task) × (nth done p ≡ Some x) × (y.thread.who ≡ child_named x.thread.who (number_of y))
  under_name t ts ws done y e n earlier ns p f =
      let x = ns p (earlier p f) in (
        x.0,
        x.1,
        e ∙ (ap (λ q. named (parent_in ws q) t.root (number_at s (t ∷ ts))) f ∙
            (ap (λ w. named w t.root (number_at s (t ∷ ts))) x.2 ∙ ap (λ k. child_named x.0.thread.who k) (sym n))),
      )

  along_from : (before ts : List KeptTask) (ws : List Who) (done : List Task) → s.tasks ≡ before ++ ts → ys ≡ done ++ tasks_from c s ws ts →
      length ws ≡ length before → length done ≡ length before → Each HasFrames ts → EachAt ParentBefore (length ws) ts → Names ws done →
      Along c s ys before ts (tasks_from c s ws ts)
  along_from before [] ws done all is wide long fs ps ns = tt
  along_from before (t ∷ ts) ws done all is wide long fs ps ns =
      let d = spelled c s (length ws) t ts ws fs.0 in
      let w = who c s (length ws) t ts ws in
      let more = tasks_from c s (ws ++ w ∷ []) ts in
      let number : number_of d.it ≡ number_at s (t ∷ ts) = ap (λ (v : Who). v.number) d.who_is ∙ who_number c s (length ws) t ts ws in
      let whole : ys ≡ done ++ d.it ∷ more = is ∙ ap (λ xs. done ++ (xs ++ more)) d.is in
      let at : nth ys (length before) ≡ Some d.it =
      ap (λ xs. nth xs (length before)) whole ∙ (ap (λ k. nth (done ++ d.it ∷ more) k) (sym long) ∙ nth_end done d.it more) in
      let one : IsOf c s ys before t ts d.it = record {
        all = all;
        at = at;
        number = number;
        rest_is = d.rest_is ∙ ap (λ k. rest c s k t ts t.rest) wide;
        frames = d.frames ∙ ap (λ k. frames_from c s k t ts 0 t.frames []) wide;
        own = own_name t ts ws d.it d.who_is number;
        under = λ p f.
            let x = under_name t ts ws done d.it d.who_is number ps.0 ns p f in
            (x.0, ap (λ xs. nth xs p) whole ∙ nth_front done (d.it ∷ more) p x.0 x.1, x.2);
      } in
      let longer : length (ws ++ w ∷ []) ≡ suc (length ws) = length-append ws (w ∷ []) ∙ omega arith in
      let rest : Along c s ys (before ++ t ∷ []) ts more =
      along_from (before ++ t ∷ []) ts (ws ++ w ∷ []) (done ++ d.it ∷ [])
      (all ∙ sym (append_assoc before (t ∷ []) ts)) (whole ∙ sym (append_assoc done (d.it ∷ []) more))
      (omega (arith, longer, wide, length-append before (t ∷ [])))
      (omega (arith, long, length-append done (d.it ∷ []), length-append before (t ∷ []))) fs.1
      (subst (λ n. EachAt ParentBefore n ts) (sym longer) ps.1)
      (one_name ws done d.it w (omega (arith, wide, long)) d.who_is ns) in
      subst (λ xs. Along c s ys before (t ∷ ts) (xs ++ more)) (sym d.is) (one, rest)

  pub along : Fits c s → Along c s ys [] s.tasks ys
  along fits = along_from [] s.tasks [] [] refl refl refl refl (have_frames c s s.tasks fits.tasks) fits.parents (λ p l. absurd (omega
      (arith, l)))

-- ---- what holds of each

module _ (c : Code) (s : Kept) (ys : List Task) where
  pub each_along : (P : Task → Type 0) → ((before : List KeptTask) (t : KeptTask) (ts : List KeptTask) (y : Task) →
      IsOf c s ys before t ts y → P y) →
      (before ts : List KeptTask) (zs : List Task) → Along c s ys before ts zs → Each P zs
  each_along P f before [] [] a = tt
  each_along P f before [] (z ∷ zs) a = absurd a
  each_along P f before (t ∷ ts) [] a = absurd a
  each_along P f before (t ∷ ts) (z ∷ zs) a = (f before t ts z a.0, each_along P f (before ++ t ∷ []) ts zs a.1)

  -- what is spelled of the kept task there
  pub record Found (before : List KeptTask) (t : KeptTask) (ts : List KeptTask) : Type 0 where
    pub task : Task
    pub is : IsOf c s ys before t ts task

  pub found : (start before : List KeptTask) (t : KeptTask) (ts : List KeptTask) (zs : List Task) →
      Along c s ys start (before ++ t ∷ ts) zs →
      Found (start ++ before) t ts
  found start [] t ts [] a = absurd a
  found start [] t ts (z ∷ zs) a = record { task = z; is = subst (λ xs. IsOf c s ys xs t ts z) (sym (no_more start)) a.0 }
    where
      no_more : (xs : List KeptTask) → xs ++ [] ≡ xs
      no_more [] = refl
      no_more (x ∷ xs) = ap (λ w. x ∷ w) (no_more xs)
  found start (x ∷ before) t ts [] a = absurd a
  found start (x ∷ before) t ts (z ∷ zs) a =
      subst (λ xs. Found xs t ts) (append_assoc start (x ∷ []) before) (found (start ++ x ∷ []) before t ts zs a.1)
