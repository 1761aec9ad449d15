-- What the operations of a generator ask: Each, Range and Take.
use Rattle.std.proofs.Common.{◌≡◌, ℕ, zero, suc, ◌+◌, ◌<◌, length, List, [], ◌∷◌, Some, ◌⊎◌, inl, inr, refl, sym, ◌∙◌, subst, ap}
use Rattle.std.proofs.Common.{arith}
use Rattle.std.proofs.lemmas.Option.{same_Some}
use Rattle.verse_code.specs.declared.codes.Code.{Code}
use Rattle.verse_code.specs.declared.operations.Op.TheVariants as o
use Rattle.verse_sorts.specs.Sorts as s
use Rattle.verse_sorts.specs.Sorts.{Sort, Fits, fits_int}
use Rattle.verse_sorts.specs.Typing.{at, AllFit}
use Rattle.verse_sorts.proofs.Fitting.{all_itself, all_fit_on}
use Rattle.verse_verify_kept.specs.Notes.{Notes, names, parent_of}
use Rattle.verse_verify_kept.specs.Rules as r
use Rattle.verse_verify_kept.specs.Rules.{AnyNever, first_never, Leads, Asked, asked, no_operand, no_local, Quiet, TriesFit, Counted}
use Rattle.verse_verify_kept.specs.Rules.{Domain}
use Rattle.lower_notes.specs.States.{State, with_local, takes_domain, takes_range, turns_with}
use Rattle.lower_pass_states.proofs.Points.{pt, Even, over, stack_over, tries_over, names_of, opened, drop_none}
use Rattle.lower_pass_states.proofs.Locals.{put_is, with_many, with_other}
use Rattle.lower_pass_states.proofs.Meeting.{LeadsTo, Meets, no_value, leads_to, entries}
use Rattle.lower_pass_states.proofs.Writes.{with_locals, never_written, with_each}

-- a local is written with what it holds
pub still : (l : ℕ) (ls : List Sort) {a : Sort} → at ls l ≡ Some a → with_local l a ls ≡ ls
still l [] e = refl
still zero (b ∷ ls) e = ap (λ z. z ∷ ls) (sym (same_Some b _ e))
still (suc l) (b ∷ ls) e = ap (λ zs. b ∷ zs) (still l ls e)

-- two locals are written
abbrev pub with_two : ℕ → (first second : Sort) → List Sort → List Sort
with_two l a b ls = with_local (suc l) b (with_local l a ls)

never_two : (l : ℕ) (a b : Sort) (ls : List Sort) → AnyNever (with_two l a b ls) → (b ≡ s.never) ⊎ ((a ≡ s.never) ⊎ AnyNever ls)
never_two l a b ls h = first (never_written (suc l) b (with_local l a ls) h)
  where
    first : (b ≡ s.never) ⊎ AnyNever (with_local l a ls) → (b ≡ s.never) ⊎ ((a ≡ s.never) ⊎ AnyNever ls)
    first (inl e) = inl e
    first (inr k) = inr (never_written l a ls k)

module _ (code : Code) (notes : Notes) (y : State) (even : Even y) where
  abbrev Fit : Sort → Sort → Type 0
  Fit = Fits (parent_of notes)

  -- where the state with other locals, and fewer operands, leads
  written : (qs ls ms : List Sort) {j : ℕ} → AllFit (parent_of notes) ls ms → LeadsTo code notes (with_locals ms y) j →
      Leads code notes (pt (over qs y)) ls (pt y).stack (pt (over qs y)).tries (entries y.defers) j
  written qs ls ms f l = record {
    point = l.point;
    live = l.live;
    kin = record { func = l.kin.func; arm = l.kin.arm; block = l.kin.block; outer = l.kin.outer; under = l.kin.under };
    locals = all_fit_on (parent_of notes) f l.locals;
    stack = l.stack;
    tries = subst (λ zs. TriesFit code notes zs l.point.tries) (sym (tries_over y even qs)) l.tries;
    defers = l.defers;
  }

  quiet_over : (qs : List Sort) {l : ℕ} → Quiet code notes l (opened y) → Quiet code notes l (names (pt (over qs y)))
  quiet_over qs {l} h = subst (Quiet code notes l) (sym (names_of (over qs y))) h

  -- the domain goes into a local, and a count into the next one
  pub each_asked : (l : ℕ) {a : Sort} {i : ℕ} → Counted code notes a → Meets code notes (takes_domain l (over (a ∷ []) y)) (suc i) →
      suc l < length y.locals → Quiet code notes l (opened y) → Quiet code notes (suc l) (opened y) →
      Asked code notes i (pt (over (a ∷ []) y)) (o.Each l)
  each_asked l {a} {i} counted m h quiet next = by_meeting
      (subst (λ st. Meets code notes (record y { stack = st; locals = with_two l a s.int y.locals }) (suc i)) (drop_none y.stack) m)
    where
      less : {n : ℕ} → suc l < n → l < n
      less k = omega (arith, k)

      by_never : (s.int ≡ s.never) ⊎ ((a ≡ s.never) ⊎ AnyNever y.locals) → Asked code notes i (pt (over (a ∷ []) y)) (o.Each l)
      by_never (inl e) = absurd (cc)
      by_never (inr (inl e)) = no_operand (subst AnyNever (sym (stack_over y even (a ∷ [])))
          (subst (λ b. AnyNever (b ∷ (pt y).stack)) (sym e) first_never))
      by_never (inr (inr k)) = no_local k

      by_meeting : Meets code notes (with_locals (with_two l a s.int y.locals) y) (suc i) →
          Asked code notes i (pt (over (a ∷ []) y)) (o.Each l)
      by_meeting (no_value n) = by_never (never_two l a s.int y.locals n)
      by_meeting (leads_to t) = asked (r.of_each (stack_over y even (a ∷ [])) counted (put_is y.locals l a (less h))
          (put_is (with_local l a y.locals) (suc l) s.int (subst (λ k. suc l < k) (sym (with_many l a y.locals)) h))
          (quiet_over (a ∷ []) quiet) (quiet_over (a ∷ []) next)
          (written (a ∷ []) (with_two l a s.int y.locals) (with_two l a s.int y.locals)
          (all_itself (parent_of notes) (with_two l a s.int y.locals)) t))

  -- both ends of a range
  pub range_asked : (l : ℕ) {a b : Sort} {i : ℕ} → Fit a s.int → Fit b s.int →
      Meets code notes (takes_range l (over (b ∷ a ∷ []) y)) (suc i) → suc l < length y.locals →
      Quiet code notes l (opened y) → Quiet code notes (suc l) (opened y) → Asked code notes i (pt (over (b ∷ a ∷ []) y)) (o.Range l)
  range_asked l {a} {b} {i} f g m h quiet next = by_meeting
      (subst (λ st. Meets code notes (record y { stack = st; locals = with_two l s.span s.int y.locals }) (suc i)) (drop_none y.stack) m)
    where
      less : {n : ℕ} → suc l < n → l < n
      less k = omega (arith, k)

      by_never : (s.int ≡ s.never) ⊎ ((s.span ≡ s.never) ⊎ AnyNever y.locals) → Asked code notes i (pt (over (b ∷ a ∷ []) y)) (o.Range l)
      by_never (inl e) = absurd (cc)
      by_never (inr (inl e)) = absurd (cc)
      by_never (inr (inr k)) = no_local k

      by_meeting : Meets code notes (with_locals (with_two l s.span s.int y.locals) y) (suc i) →
          Asked code notes i (pt (over (b ∷ a ∷ []) y)) (o.Range l)
      by_meeting (no_value n) = by_never (never_two l s.span s.int y.locals n)
      by_meeting (leads_to t) = asked (r.of_range (stack_over y even (b ∷ a ∷ [])) f g (put_is y.locals l s.span (less h))
          (put_is (with_local l s.span y.locals) (suc l) s.int (subst (λ k. suc l < k) (sym (with_many l s.span y.locals)) h))
          (quiet_over (b ∷ a ∷ []) quiet) (quiet_over (b ∷ a ∷ []) next)
          (written (b ∷ a ∷ []) (with_two l s.span s.int y.locals) (with_two l s.span s.int y.locals)
          (all_itself (parent_of notes) (with_two l s.span s.int y.locals)) t))

  -- What a turn takes goes into two locals, which are noted as of wider sorts; of the two of the domain, what is written
  -- is of the sort that they hold.
  pub take_asked : (l m : ℕ) {a v k x p q : Sort} {i j : ℕ} → Domain code notes a v k m x → at y.locals l ≡ Some a →
      at y.locals (suc l) ≡ Some s.int → at y.locals (l + m) ≡ Some x → l + m < suc (suc l) → Fit v p → Fit k q →
      Meets code notes y (suc i) → LeadsTo code notes (turns_with (suc (suc l)) p q y) j → suc (suc (suc l)) < length y.locals →
      ((z : ℕ) → l < suc z → Quiet code notes z (opened y)) → Asked code notes i (pt y) (o.Take l (suc (suc l)) j)
  take_asked l m {a} {v} {k} {x} {p} {q} {i} {j} domain here next holds less f g meets turn h quiet = by_meeting meets
    where
      d : ℕ
      d = suc (suc l)

      ls : List Sort
      ls = y.locals

      not_same : {n i : ℕ} → n < i → n ≡ i → ⊥
      not_same h e = omega (arith, h, e)

      fewer : {n i : ℕ} → n < i → n < suc i
      fewer h = omega (arith, h)

      first : d < length ls
      first = omega (arith, h)

      second : suc d < length (with_local d v ls)
      second = subst (λ n. suc d < n) (sym (with_many d v ls)) h

      many : length (with_two d v k ls) ≡ length ls
      many = with_many (suc d) k (with_local d v ls) ∙ with_many d v ls

      third : l + m < length (with_two d v k ls)
      third = subst (λ n. l + m < n) (sym many) (within less h)
        where
          within : {c n : ℕ} → c < suc (suc l) → suc (suc (suc l)) < n → c < n
          within h k = omega (arith, h, k)

      same : with_local (l + m) x (with_two d v k ls) ≡ with_two d v k ls
      same = still (l + m) (with_two d v k ls) (with_other (suc d) (l + m) k (with_local d v ls) (not_same (fewer less)) ∙
          with_other d (l + m) v ls (not_same less) ∙ holds)

      by_meeting : Meets code notes y (suc i) → Asked code notes i (pt y) (o.Take l (suc (suc l)) j)
      by_meeting (no_value n) = no_local n
      by_meeting (leads_to t) = asked (r.of_take here next fits_int domain (put_is ls d v first)
          (put_is (with_local d v ls) (suc d) k second) (put_is (with_two d v k ls) (l + m) x third)
          (quiet_over [] (quiet l (omega arith))) (quiet_over [] (quiet (suc l) (omega arith))) (quiet_over [] (quiet d (omega arith)))
          (quiet_over [] (quiet (suc d) (omega arith))) t
          (written [] (with_local (l + m) x (with_two d v k ls)) (with_two d p q ls)
          (subst (λ zs. AllFit (parent_of notes) zs (with_two d p q ls)) (sym same)
          (with_each (parent_of notes) (suc d) g (with_each (parent_of notes) d f (all_itself (parent_of notes) ls)))) turn))
