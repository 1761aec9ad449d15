-- A local more is known: what is known of a state stays.
use Rattle.std.proofs.Common.{◌≡◌, ℕ, zero, suc, ◌≤◌, ◌<◌, length, List, ◌∷◌, Option, Some, refl, sym, ◌∙◌, subst, ap, arith}
use Rattle.std.proofs.lemmas.Option.{same_Some}
use Rattle.verse_code.specs.declared.codes.Code.{Code}
use Rattle.verse_names_tables.specs.Names.{Table}
use Rattle.verse_sorts.specs.Sorts as s
use Rattle.verse_sorts.specs.Sorts.{Sort, Fits, to_none, to_any}
use Rattle.verse_sorts.specs.Typing.{at, AllFit, fit_no, fit_so}
use Rattle.verse_sound_rules.specs.Found as rules
use Rattle.verse_sound_rules.specs.Found.{Allowed}
use Rattle.verse_verify_kept.specs.Notes.{Notes, Point, parent_of}
use Rattle.verse_verify_kept.specs.Rules.{Ready, ready_no, ready_so, MayFail, in_try, in_function}
use Rattle.lower_code.specs.declared.arounds.Around.{Around}
use Rattle.lower_code.specs.Scopes.{Scope, Slot}
use Rattle.lower_notes.specs.States.{State, Deferred, with_local}
use Rattle.lower_pass_states.proofs.Points.{pt}
use Rattle.lower_pass_states.proofs.Locals.{with_many, with_other, is_at}
use Rattle.lower_pass_states.proofs.Writes.{with_locals}
use Rattle.lower_pass_stretches.proofs.Names.{Sees}
use Rattle.lower_pass_stretches.proofs.Going.{Way}
use Rattle.lower_pass_stretches.proofs.Inside.{Inside, Blocks, blocks_before, blocks_so, blocks_moved, keeps_moved}

module _ (up : ℕ → Option ℕ) where
  -- of what nothing is known, anything may be
  anything : {b : Sort} (r : Sort) → Fits up s.none b → Fits up r b
  anything r to_none = to_none
  anything r (to_any k) = elim k [ ]

  pub with_more : (l : ℕ) (r : Sort) {ls ms : List Sort} → AllFit up ls ms → at ls l ≡ Some s.none → AllFit up (with_local l r ls) ms
  with_more l r fit_no e = fit_no
  with_more zero r (fit_so {b = b} f h) e = fit_so (anything r (subst (λ a. Fits up a b) (same_Some _ _ e) f)) h
  with_more (suc l) r (fit_so f h) e = fit_so f (with_more l r h e)

module _ (code : Code) (notes : Notes) where
  -- the locals of a state may be written where nothing is known of them
  pub ready_with : {p : Point} {ls : List Sort} {ds : List ℕ} (l : ℕ) (r : Sort) → at ls l ≡ Some s.none → Ready code notes p ls ds →
      Ready code notes p (with_local l r ls) ds
  ready_with l r e ready_no = ready_no
  ready_with l r e (ready_so more k o f h) = ready_so more k o (with_more (parent_of notes) l r f e) h

  blocks_with : {p : Point} {ts : List ℕ} {k : ℕ} {ds : List Deferred} {ls : List Sort} (l : ℕ) (r : Sort) → at ls l ≡ Some s.none →
      Blocks code notes p ts k ds ls → Blocks code notes p ts k ds (with_local l r ls)
  blocks_with l r e (blocks_before h) = blocks_before (ready_with l r e h)
  blocks_with l r e (blocks_so point k o f g h) = blocks_so point k o f (with_more (parent_of notes) l r g e) h

  module _ {found : rules.Found} {w : Way} {ts : List ℕ} {al : Allowed} {xs : Table} {sc : Scope} {a : Around} {y : State} where
    -- a local is written, for which there is a slot from here on
    pub inside_with : (slot : Slot) (ys : Table) (r : Sort) → length sc < w.size → Inside code notes found w ts al xs sc a y →
        Sees found al.this ys (slot ∷ sc) (with_local (length sc) r y.locals) →
        Inside code notes found w ts al ys (slot ∷ sc) a (with_locals (with_local (length sc) r y.locals) y)
    inside_with slot ys r free h sees =
        let l = length sc in
        let there = is_at y.locals l (within w.size (length y.locals) l free h.room) in
        let none : at y.locals l ≡ Some s.none = there.1 ∙ ap Some (h.blank l there.0 (same l) there.1) in
        record {
          even = h.even;
          names = h.names;
          stood = h.stood;
          blocks = blocks_moved code notes (record { func = refl; arm = refl; under = refl }) refl
              (blocks_with l r none h.blocks);
          count = h.count;
          order = h.order;
          keeps = keeps_moved code notes refl h.keeps;
          sees = sees;
          blank = λ k q i e. h.blank k q (less i) (sym (with_other l k r y.locals (λ f. not_less (subst (λ z. suc l ≤ z) f i))) ∙ e);
          quiet = λ k i. h.quiet k (less i);
          room = subst (λ k. w.size ≤ k) (sym (with_many l r y.locals)) h.room;
          fails = λ e. fails_with (h.fails e);
          waits = λ e. let g = h.waits e in record {
            tries = g.tries;
            block = g.block;
            func = g.func;
            is_func = g.is_func;
            holds =
                g.holds;
          };
          returns = λ res e. let g = h.returns res e in record {
            may = g.may;
            base = g.base;
            arm = g.arm;
            block = g.block;
            tries = g.tries;
            under = g.under;
            func = g.func;
            is_func = g.is_func;
            result = g.result;
          };
          breaks = λ e. let g = h.breaks e in record {
            in_loop = g.in_loop;
            may = g.may;
            func = g.func;
            arm = g.arm;
            block = g.block;
            outer = g.outer;
            under = g.under;
            tries = g.tries;
            stack = g.stack;
            locals = with_more (parent_of notes) l r g.locals none;
            since = g.since;
          };
        }
      where
        within : (n m l : ℕ) → l < n → n ≤ m → l < m
        within n m l h k = omega (arith, h, k)

        same : (k : ℕ) → k ≤ k
        same k = omega arith

        less : {k l : ℕ} → suc l ≤ k → l ≤ k
        less h = omega (arith, h)

        not_less : {l : ℕ} → suc l ≤ l → ⊥
        not_less h = omega (arith, h)

        fails_with : {ls : List Sort} → MayFail code notes (pt y) → MayFail code notes (pt (with_locals ls y))
        fails_with (in_try e) = in_try e
        fails_with (in_function a b f e) = in_function a b f e
