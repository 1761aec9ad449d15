-- Deferred blocks that run where a stretch is left.
use Rattle.std.proofs.Common.{◌≡◌, ℕ, zero, suc, ◌+◌, ◌-◌, ◌≤◌, ◌<◌, length, drop, List, [], ◌∷◌, refl, sym, ◌∙◌, subst, ap, arith}
use Rattle.verse_code.specs.declared.codes.Code.{Code}
use Rattle.verse_code.specs.declared.operations.Op.TheVariants as o
use Rattle.verse_names_tables.specs.Names.{Table}
use Rattle.verse_sorts.specs.Sorts.{Sort}
use Rattle.verse_sorts.specs.Typing.{AllFit}
use Rattle.verse_sound_rules.specs.Found as rules
use Rattle.verse_sound_rules.specs.Found.{Allowed}
use Rattle.verse_verify_kept.specs.Notes.{Notes, Point, names, parent_of}
use Rattle.verse_verify_kept.specs.Rules as r
use Rattle.verse_verify_kept.specs.Rules.{AnyNever, Asked, asked, no_local, Leads, Runs, runs_no, runs_so, Keeps}
use Rattle.lower_code.specs.declared.arounds.Around.{Around}
use Rattle.lower_code.specs.Scopes.{Scope}
use Rattle.lower_notes.specs.States.{State, Deferred, locals_behind, left_behind, left_with}
use Rattle.lower_pass_states.proofs.Points.{pt, drop_none, names_of}
use Rattle.lower_pass_states.proofs.Meeting.{Meets, no_value, leads_to, entries, never_fits}
use Rattle.lower_pass_stretches.proofs.Going.{Way, Steady}
use Rattle.lower_pass_stretches.proofs.Inside.{Inside, Blocks, blocks_before, blocks_so, blocks_moved, ready_of, keeps_more}

many_entries : (ds : List Deferred) → length (entries ds) ≡ length ds
many_entries [] = refl
many_entries (d ∷ ds) = ap suc (many_entries ds)

module _ (code : Code) (notes : Notes) where
  -- the locals behind blocks hold less than those before
  never_behind : {p : Point} {ts : List ℕ} {j : ℕ} {ds : List Deferred} {ls : List Sort} (k : ℕ) → k ≤ j → Blocks code notes p ts j ds ls →
      AnyNever (locals_behind k ds ls) → AnyNever ls
  never_behind zero l h n = n
  never_behind (suc k) l (blocks_before h) n = absurd (omega (arith, l))
  never_behind (suc k) l (blocks_so point e q i f h) n = never_fits (parent_of notes) f (never_behind k (omega (arith, l)) h n)

  -- those that have run are gone
  pub blocks_left : {p : Point} {ts : List ℕ} {j : ℕ} {ds : List Deferred} {ls : List Sort} (k : ℕ) → k ≤ j →
      Blocks code notes p ts j ds ls → Blocks code notes p ts (j - k) (drop k ds) (locals_behind k ds ls)
  blocks_left {p} {ts} {j} {ds} {ls} zero l h =
      let z : j - 0 ≡ j = omega arith in
      subst (λ i. Blocks code notes p ts i (drop 0 ds) ls) (sym z)
      (subst (λ es. Blocks code notes p ts j es ls) (sym (drop_none ds)) h)
  blocks_left (suc k) l (blocks_before h) = absurd (omega (arith, l))
  blocks_left {p} {ts} (suc k) l (blocks_so {k = i} {d = d} {ds = ds} point e q g f h) =
      let z : i - k ≡ suc i - suc k = omega arith in
      subst (λ b. Blocks code notes p ts b (drop k ds) (locals_behind k ds d.locals)) z (blocks_left k (omega (arith, l)) h)

  module _ (p : Point) (i m : ℕ) where
    runs : {ts : List ℕ} {j : ℕ} (ds : List Deferred) (ls : List Sort) (k : ℕ) → k ≤ j → names p ≡ ts → Blocks code notes p ts j ds ls →
        m + k ≡ p.under + length ds →
        Leads code notes p (locals_behind k ds ls) p.stack p.tries (entries (drop k ds)) (suc i) → Runs code notes p i m ls (entries ds)
    runs ds ls zero l n h e t = runs_no (even m p.under (length ds) (length (entries ds)) e (many_entries ds))
        (subst (λ es. Leads code notes p ls p.stack p.tries (entries es) (suc i)) (drop_none ds) t)
      where
        even : (m u a b : ℕ) → m + 0 ≡ u + a → b ≡ a → m ≡ u + b
        even m u a b e f = omega (arith, e, f)
    runs ds ls (suc k) l n (blocks_before h) e t = absurd (omega (arith, l))
    runs (d ∷ ds) ls (suc k) l n (blocks_so point b q g f h) e t =
        runs_so (less m k p.under (length ds) (length (entries ds)) e (many_entries ds)) b (n ∙ sym q)
        (subst (λ zs. AllFit (parent_of notes) ls zs) (sym g) f) (subst (λ zs. Runs code notes p i m zs (entries ds)) (sym g)
        (runs ds d.locals k (omega (arith, l)) n h (fewer m k p.under (length ds) e) t))
      where
        less : (m k u a b : ℕ) → m + suc k ≡ u + suc a → b ≡ a → m < u + suc b
        less m k u a b e f = omega (arith, e, f)

        fewer : (m k u a : ℕ) → m + suc k ≡ u + suc a → m + k ≡ u + a
        fewer m k u a e = omega (arith, e)

  module _ {found : rules.Found} {w : Way} {ts : List ℕ} {al : Allowed} {xs : Table} {sc : Scope} {a : Around} {y : State}
      (h : Inside code notes found w ts al xs sc a y) where
    -- those behind the first m blocks run
    pub leave_asked : (m : ℕ) {i : ℕ} → a.base ≤ m → m ≤ a.defers → Meets code notes (left_with m y) (suc i) →
        Asked code notes i (pt y) (o.Leave m)
    leave_asked m {i} base l t = by_meeting (subst (λ k. Meets code notes (left_behind k y) (suc i)) (sym many) t)
      where
        k : ℕ
        k = a.defers - m

        many : a.defers - m ≡ y.under + length y.defers - m
        many = ap (λ z. z - m) h.count

        few : k ≤ a.defers - a.base
        few = omega (arith, base, l)

        whole : m + k ≡ y.under + length y.defers
        whole = omega (arith, l, h.count)

        by_meeting : Meets code notes (left_behind k y) (suc i) → Asked code notes i (pt y) (o.Leave m)
        by_meeting (no_value n) = no_local (never_behind k few h.blocks n)
        by_meeting (leads_to d) = asked (r.of_leave (keeps_more code notes base h.keeps)
            (runs (pt y) i m y.defers y.locals k few (names_of y ∙ h.names) h.blocks whole (record {
              point = d.point;
              live = d.live;
              kin = record { func = d.kin.func; arm = d.kin.arm; block = d.kin.block; outer = d.kin.outer; under = d.kin.under };
              locals = d.locals;
              stack = d.stack;
              tries = d.tries;
              defers = d.defers;
            })))

    -- the state behind it
    pub steady_left : (m : ℕ) → a.base ≤ m → m ≤ a.defers → Steady code notes ts (left_with m y)
    steady_left m base l = subst (λ k. Steady code notes ts (left_behind k y)) many (record {
      even = h.even;
      names = h.names;
      stood = h.stood;
      ready = ready_of code notes (sym h.names ∙ sym (names_of y))
          (blocks_moved code notes (record { func = refl; arm = refl; under = refl }) refl (blocks_left (a.defers - m) few h.blocks));
    })
      where
        many : a.defers - m ≡ y.under + length y.defers - m
        many = ap (λ z. z - m) h.count

        few : a.defers - m ≤ a.defers - a.base
        few = omega (arith, base, l)
