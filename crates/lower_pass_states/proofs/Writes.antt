-- What an operation that writes a local asks.
use Rattle.std.proofs.Common.{◌≡◌, ℕ, zero, suc, ◌<◌, length, List, [], ◌∷◌, Option, Some, ◌⊎◌, inl, inr, refl, sym, subst, ap}
use Rattle.std.proofs.lemmas.Option.{same_Some}
use Rattle.verse_code.specs.declared.codes.Code.{Code}
use Rattle.verse_code.specs.declared.operations.Op.TheVariants as o
use Rattle.verse_sorts.specs.Sorts as s
use Rattle.verse_sorts.specs.Sorts.{Sort, Fits, from_never}
use Rattle.verse_sorts.specs.Typing.{at, AllFit, fit_no, fit_so}
use Rattle.verse_sorts.proofs.Fitting.{fits_itself, all_itself, all_fit_on}
use Rattle.verse_verify_kept.specs.Notes.{Notes, names, parent_of}
use Rattle.verse_verify_kept.specs.Rules as r
use Rattle.verse_verify_kept.specs.Rules.{AnyNever, first_never, later_never, Leads, Asked, asked, no_operand, no_local, Quiet, TriesFit}
use Rattle.verse_verify_kept.specs.Rules.{Counted, Passes}
use Rattle.lower_notes.specs.States.{State, with_local, puts}
use Rattle.lower_pass_states.proofs.Points.{pt, Even, over, stack_over, tries_over, names_of, opened, drop_none}
use Rattle.lower_pass_states.proofs.Locals.{put_is}
use Rattle.lower_pass_states.proofs.Meeting.{LeadsTo, Meets, no_value, leads_to, entries}

-- with other locals
abbrev pub with_locals : List Sort → State → State
with_locals ls y = record y { locals = ls }

-- what was written has no value, or another local has none
pub never_written : (l : ℕ) (a : Sort) (ls : List Sort) → AnyNever (with_local l a ls) → (a ≡ s.never) ⊎ AnyNever ls
never_written l a [] h = inr h
never_written zero a (b ∷ ls) first_never = inl refl
never_written zero a (b ∷ ls) (later_never h) = inr (later_never h)
never_written (suc l) a (b ∷ ls) first_never = inr first_never
never_written (suc l) a (b ∷ ls) (later_never h) = behind (never_written l a ls h)
  where
    behind : (a ≡ s.never) ⊎ AnyNever ls → (a ≡ s.never) ⊎ AnyNever (b ∷ ls)
    behind (inl e) = inl e
    behind (inr k) = inr (later_never k)

module _ (up : ℕ → Option ℕ) where
  pub with_fit : (l : ℕ) {a q : Sort} (ls : List Sort) → Fits up a q → AllFit up (with_local l a ls) (with_local l q ls)
  with_fit l [] f = fit_no
  with_fit zero (b ∷ ls) f = fit_so f (all_itself up ls)
  with_fit (suc l) (b ∷ ls) f = fit_so (fits_itself up b) (with_fit l ls f)

  pub with_each : (l : ℕ) {a q : Sort} {ls ms : List Sort} → Fits up a q → AllFit up ls ms →
      AllFit up (with_local l a ls) (with_local l q ms)
  with_each l f fit_no = fit_no
  with_each zero f (fit_so g h) = fit_so f h
  with_each (suc l) f (fit_so g h) = fit_so g (with_each l f h)

  never_at : {a : Sort} → Fits up a s.never → a ≡ s.never
  never_at from_never = refl

module _ (code : Code) (notes : Notes) (y : State) (even : Even y) where
  abbrev Fit : Sort → Sort → Type 0
  Fit = Fits (parent_of notes)

  -- where the state with other locals, and fewer operands, leads
  leads_with : (qs ls ms : List Sort) {j : ℕ} → AllFit (parent_of notes) ls ms → LeadsTo code notes (with_locals ms y) j →
      Leads code notes (pt (over qs y)) ls (pt y).stack (pt (over qs y)).tries (entries y.defers) j
  leads_with qs ls ms f l = record {
    point = l.point;
    live = l.live;
    kin = record { func = l.kin.func; arm = l.kin.arm; block = l.kin.block; outer = l.kin.outer; under = l.kin.under };
    locals = all_fit_on (parent_of notes) f l.locals;
    stack = l.stack;
    tries = subst (λ zs. TriesFit code notes zs l.point.tries) (sym (tries_over y even qs)) l.tries;
    defers = l.defers;
  }

  names_over : (qs : List Sort) → names (pt (over qs y)) ≡ opened y
  names_over qs = names_of (over qs y)

  -- an operand goes into a local, which is noted as of a wider sort
  pub put_asked : (l : ℕ) {a : Sort} (q : Sort) {i : ℕ} → Meets code notes (puts l q (over (a ∷ []) y)) (suc i) → Fit a q →
      l < length y.locals → Quiet code notes l (opened y) → Asked code notes i (pt (over (a ∷ []) y)) (o.Put l)
  put_asked l {a} q {i} m f h quiet = by_meeting (subst (λ st. Meets code notes (record y { stack = st; locals = with_local l q y.locals })
      (suc i)) (drop_none y.stack) m)
    where
      by_meeting : Meets code notes (with_locals (with_local l q y.locals) y) (suc i) → Asked code notes i (pt (over (a ∷ []) y)) (o.Put l)
      by_meeting (no_value n) = by_never (never_written l q y.locals n)
        where
          by_never : (q ≡ s.never) ⊎ AnyNever y.locals → Asked code notes i (pt (over (a ∷ []) y)) (o.Put l)
          by_never (inl e) = no_operand (subst AnyNever (sym (stack_over y even (a ∷ [])))
              (subst (λ b. AnyNever (b ∷ (pt y).stack)) (sym (never_at (parent_of notes) (subst (λ z. Fit a z) e f))) first_never))
          by_never (inr k) = no_local k
      by_meeting (leads_to t) = asked (r.of_put (stack_over y even (a ∷ [])) (put_is y.locals l a h)
          (subst (Quiet code notes l) (sym (names_over (a ∷ []))) quiet)
          (leads_with (a ∷ []) (with_local l a y.locals) (with_local l q y.locals) (with_fit (parent_of notes) l y.locals f) t))

  -- a value goes behind those of the list in a local
  pub append_asked : (l k : ℕ) {a u : Sort} {i : ℕ} → Meets code notes y (suc i) → at y.locals l ≡ Some (s.list u) → Fit a u →
      l < length y.locals → Quiet code notes l (opened y) → Asked code notes i (pt (over (a ∷ []) y)) (o.Append l k)
  append_asked l k {a} {u} {i} m e f h quiet = by_meeting m
    where
      still : (l : ℕ) (ls : List Sort) {c : Sort} → at ls l ≡ Some c → with_local l c ls ≡ ls
      still l [] e = refl
      still zero (b ∷ ls) e = ap (λ z. z ∷ ls) (sym (same_Some b _ e))
      still (suc l) (b ∷ ls) e = ap (λ zs. b ∷ zs) (still l ls e)

      by_meeting : Meets code notes y (suc i) → Asked code notes i (pt (over (a ∷ []) y)) (o.Append l k)
      by_meeting (no_value n) = no_local n
      by_meeting (leads_to t) = asked (r.of_append (stack_over y even (a ∷ [])) e (fits_itself (parent_of notes) (s.list u)) f
          (put_is y.locals l (s.list u) h) (subst (Quiet code notes l) (sym (names_over (a ∷ []))) quiet)
          (leads_with (a ∷ []) (with_local l (s.list u) y.locals) y.locals
          (subst (λ ls. AllFit (parent_of notes) ls y.locals) (sym (still l y.locals e)) (all_itself (parent_of notes) y.locals)) t))
