-- Loops: where one is left, and how often.
use Rattle.std.proofs.Common.{◌≡◌, ℕ, zero, suc, ◌+◌, ◌-◌, ◌≤◌, ◌<◌, map, List, [], ◌∷◌, Option, Some, None, Bool, true, false}
use Rattle.std.proofs.Common.{cond, refl, sym, ◌∙◌, subst, ap, arith, le-leb}
use Rattle.std.specs.Prelude.{option_map, nat_le, slice_get}
use Rattle.std.proofs.lemmas.Bool.{leb-true}
use Rattle.verse_code.specs.declared.codes.Code.{Code}
use Rattle.verse_code.specs.declared.operations.Op.TheVariants as o
use Rattle.verse_sorts.specs.Sorts as s
use Rattle.verse_sorts.specs.Sorts.{Sort, Fits}
use Rattle.verse_verify_kept.specs.Notes.{Notes, parent_of}
use Rattle.lower_code.specs.Pieces as c
use Rattle.lower_code.specs.Pieces.{Spot, Piece, Maker, Item, sure, past, behind, later, deepest, drops}
use Rattle.lower_code.proofs.Standing.{Lie, closing_stands, behind_more, behind_least, behind_closed, later_is}
use Rattle.lower_notes.specs.States.{State, spot_of}
use Rattle.lower_notes.specs.Stretches as n
use Rattle.lower_notes.specs.Stretches.{Stretch, Walk, with_value, above, anys, outs, out_with, is_left}
use Rattle.lower_notes.specs.Laws.{Beside}
use Rattle.verse_verify_faults.specs.Spots.{point_of}
use Rattle.lower_pass_states.proofs.Points.{Even, over, gives_is, even_over, names_of}
use Rattle.lower_pass_states.proofs.Meeting.{Stood, Meets, leads_to, MeetsAt, Noted, SoundAt, AllSound, leads_itself}
use Rattle.lower_pass_stretches.proofs.Going.{Way, itself, Lies, Within, within_less, Steady, sound_of, Going, everywhere, noted_first}
use Rattle.lower_pass_stretches.proofs.Going.{noted_rest, behind_same, all_more}
use Rattle.lower_pass_states.proofs.Steps.{drop_asked, unit_asked}
use Rattle.lower_pass_stretches.proofs.Inside.{ready_moved}

-- more operands above a state
pub above_suc : (m : ℕ) (y : State) → above (suc m) y ≡ over (s.any ∷ []) (above m y)
above_suc m y = refl

pub above_zero : (y : State) → above 0 y ≡ y
above_zero y = refl

not_left : (m d : ℕ) → nat_le (suc m) d ≡ true → nat_le m d ≡ true
not_left m d h = le-leb m d (less (leb-true (suc m) d h))
  where
    less : {a b : ℕ} → suc a ≤ b → a ≤ b
    less l = omega (arith, l)

fewer : (m : ℕ) (left : Option ℕ) → is_left (suc m) left ≡ true → is_left m left ≡ true
fewer m None h = absurd (cc)
fewer m (Some d) h = not_left m d h

module _ (code : Code) (notes : Notes) (ts : List ℕ) where
  pub even_above : (m : ℕ) (y : State) → Even y → Even (above m y)
  even_above zero y e = e
  even_above (suc m) y e = even_over (above m y) (even_above m y e) (s.any ∷ [])

  stood_above : (m : ℕ) (y : State) → Stood code notes ts y → Stood code notes ts (above m y)
  stood_above m y h = h

  pub steady_above : (m : ℕ) (y : State) → Steady code notes ts y → Steady code notes ts (above m y)
  steady_above m y h = record {
    even = even_above m y h.even;
    names = h.names;
    stood = stood_above m y h.stood;
    ready = ready_moved code notes [] (record { func = refl; arm = refl; under = refl })
        (names_of (above m y) ∙ sym (names_of y)) h.ready;
  }

  module _ (y : State) (steady : Steady code notes ts y) (left : Option ℕ) where
    -- the state at a Drop, if the loop is left from as deep
    state_at : (m : ℕ) → is_left m left ≡ true → out_with m left (Some y) ≡ Some (above m y)
    state_at m h = ap (λ b. cond b (Some (above m y)) None) h

    none_at : (m : ℕ) → is_left m left ≡ false → out_with m left (Some y) ≡ None
    none_at m h = ap (λ b. cond b (Some (above m y)) None) h

    met_there : (m i : ℕ) → is_left m left ≡ true →
        slice_get notes.points i ≡ Some (point_of (option_map spot_of (out_with m left (Some y)))) → Meets code notes (above m y) i
    met_there m i e h = leads_to (leads_itself code notes (above m y) i (even_above m y steady.even)
        (subst (λ x. slice_get notes.points i ≡ Some (point_of (option_map spot_of x))) (state_at m e) h))

    -- what stands at the Drops and the Unit is met
    pub outs_lead : (d i m k : ℕ) → Noted code notes i (outs d left (Some y)) → k + m ≡ d → is_left m left ≡ true →
        Meets code notes (above m y) (k + i)
    outs_lead zero i zero zero h l e =
        let z : i ≡ 0 + i = omega arith in subst (λ j. Meets code notes (above 0 y) j) z (met_there 0 i e h.0)
    outs_lead zero i (suc m) k h l e = absurd (omega (arith, l))
    outs_lead zero i zero (suc k) h l e = absurd (omega (arith, l))
    outs_lead (suc d) i m zero h l e =
        let z : i ≡ 0 + i = omega arith in
        let f : suc d ≡ m = omega (arith, l) in
        subst (λ j. Meets code notes (above m y) j) z (subst (λ j. is_left j left ≡ true → Meets code notes (above j y) i) f
        (λ e. met_there (suc d) i e h.0) e)
    outs_lead (suc d) i m (suc k) h l e =
        let z : k + suc i ≡ suc k + i = omega arith in
        subst (λ j. Meets code notes (above m y) j) z (outs_lead d (suc i) m k h.1 (omega (arith, l)) e)

    first_met : (d i : ℕ) → Noted code notes i (outs d left (Some y)) → is_left d left ≡ true → Meets code notes (above d y) i
    first_met d i h e =
        let z : 0 + i ≡ i = omega arith in
        subst (λ j. Meets code notes (above d y) j) z (outs_lead d i d 0 h (omega arith) e)

    -- a Drop, or the Unit
    drop_sound : (d i b : ℕ) (c : Bool) → is_left (suc d) left ≡ c → Noted code notes (suc i) (outs d left (Some y)) →
        slice_get code.ops i ≡ Some o.Drop → Within code notes ts i b → i < b → SoundAt code notes i (out_with (suc d) left (Some y))
    drop_sound d i b true e h is v l = subst (SoundAt code notes i) (sym (state_at (suc d) e))
        (sound_of code notes (above (suc d) y) (steady_above (suc d) y steady) v l is
        (drop_asked code notes (above d y) (even_above d y steady.even) s.any (first_met d (suc i) h (fewer d left e))))
    drop_sound d i b false e h is v l = subst (SoundAt code notes i) (sym (none_at (suc d) e)) tt

    module _ (q : Sort) (unit : is_left 0 left ≡ true → Fits (parent_of notes) s.unit q) where
      unit_sound : (i b : ℕ) (c : Bool) → is_left 0 left ≡ c → slice_get code.ops i ≡ Some o.Unit → Within code notes ts i b → i < b →
          MeetsAt code notes (with_value q (Some y) (out_with 0 left (Some y))) (suc i) →
          SoundAt code notes i (out_with 0 left (Some y))
      unit_sound i b true e is v l m = subst (SoundAt code notes i) (sym (state_at 0 e))
          (sound_of code notes y steady v l is (unit_asked code notes y steady.even
          (subst (λ u. Meets code notes u (suc i)) (gives_is q y)
          (subst (λ x. MeetsAt code notes (with_value q (Some y) x) (suc i)) (state_at 0 e) m)) (unit e)))
      unit_sound i b false e is v l m = subst (SoundAt code notes i) (sym (none_at 0 e)) tt

      -- those operations pass, where what is behind the loop is met
      pub outs_pass : (d i b out : ℕ) → Noted code notes i (outs d left (Some y)) →
          Lie code.ops (everywhere code notes) out (drops d (sure o.Unit ∷ [])) i → b ≡ suc (d + i) → Within code notes ts i b →
          MeetsAt code notes (with_value q (Some y) (out_with 0 left (Some y))) b →
          AllSound code notes i (outs d left (Some y))
      outs_pass zero i b out h l e v m = (
        unit_sound i b (is_left 0 left) refl l.0.is v (omega (arith, e))
            (subst (λ j. MeetsAt code notes (with_value q (Some y) (out_with 0 left (Some y))) j) (omega (arith, e)) m),
        tt,
      )
      outs_pass (suc d) i b out h l e v m = (
        drop_sound d i b (is_left (suc d) left) refl h.1 l.0.is v (omega (arith, e)),
        outs_pass d (suc i) b out h.1 l.1 (omega (arith, e)) (within_less code notes ts v (omega arith) (omega arith)) m,
      )

  -- ---- what is left goes on behind it

  -- where a loop is left: at the Unit behind its Drops
  abbrev pub way_out : Spot → Piece → State → (may_leave : Bool) → (size : ℕ) → Way
  way_out s p y c size = record { out = later (deepest p.items) (past s p).at; state = y; may_leave = c; size = size }

  module _ (w : Way) {y : State} {f : Maker} {g : Walk} {Q : State → Type 0} (q : Sort) (may : Bool) (beside : Beside f g)
      (steady : Steady code notes ts y) (unit : may ≡ true → Fits (parent_of notes) s.unit q)
      (inner : (s : Spot) → Going code notes (way_out s (f s) y may w.size) ts (Some y) f g itself Q)
      (none : (s : Spot) → (g s.at (Some y)).exit ≡ None) where
    abbrev part : Spot → Piece
    part s = f s

    abbrev run : Spot → Stretch
    run s = g s.at (Some y)

    abbrev deep : Spot → ℕ
    deep s = deepest (f s).items

    abbrev behind_them : Spot → List (Option State)
    behind_them s = outs (run s).deep (run s).left (Some y)

    same : (s : Spot) → behind (run s).states s.at ≡ (past s (f s)).at
    same s = behind_same (run s).states (f s).items s.at (sym (beside.count s s.at (Some y)))

    deep_is : (s : Spot) → deep s ≡ (run s).deep
    deep_is s = beside.deep s s.at (Some y)

    noted : (s : Spot) → Lies code notes w s (c.closing f s) (n.closing g s.at (Some y)) →
        Noted code notes (past s (f s)).at (outs (deep s) (run s).left (Some y))
    noted s l = subst (λ d. Noted code notes (past s (f s)).at (outs d (run s).left (Some y))) (sym (deep_is s))
        (subst (λ i. Noted code notes i (behind_them s)) (same s) (noted_rest code notes (run s).states (behind_them s) s.at l.states))

    out_is : (s : Spot) (m k : ℕ) → k + m ≡ deep s → k + (past s (f s)).at ≡ later (deep s) (past s (f s)).at - m
    out_is s m k e = omega (arith, e, later_is (deep s) (past s (f s)).at)

    inner_lies : (s : Spot) → Lies code notes w s (c.closing f s) (n.closing g s.at (Some y)) →
        Lies code notes (way_out s (f s) y may w.size) s (f s) (run s)
    inner_lies s l = record {
      stands = (closing_stands f l.stands).inside;
      states = noted_first code notes (run s).states (behind_them s) s.at l.states;
      left = λ m d e.
          let f1 : (deep s - m) + m ≡ deep s = omega (arith, d, deep_is s) in
          subst (λ i. Meets code notes (above m y) i) (out_is s m (deep s - m) f1)
          (outs_lead y steady (run s).left (deep s) (past s (f s)).at m (deep s - m) (noted s l) f1 e);
      room = l.room;
    }

    end_is : (s : Spot) → (past s (c.closing f s)).at ≡ suc (deep s + (past s (f s)).at)
    end_is s =
        let out = later (deep s) (past s (f s)).at in
        omega (
          arith,
          behind_more (map (c.closed out) (f s).items) (drops (deep s) (sure o.Unit ∷ [])) s.at,
          behind_closed out (f s).items s.at,
          behind_drops (deep s) (behind (map (c.closed out) (f s).items) s.at),
        )
      where
        behind_drops : (d i : ℕ) → behind (drops d (sure o.Unit ∷ [])) i ≡ suc (d + i)
        behind_drops zero i = omega arith
        behind_drops (suc d) i = omega (arith, behind_drops d (suc i))

    pub closing_goes : Going code notes w ts (Some y) (c.closing f) (n.closing g) (with_value q (Some y)) (λ z. Unit {0})
    closing_goes = record {
      leaves = λ s l v e. absurd (cc);
      exits = λ s l v z e. tt;
      goes = λ s l v m.
          let p = (past s (f s)).at in
          let e = end_is s in
          let least = behind_least (f s).items s.at in
          let v1 : Within code notes ts s.at p = within_less code notes ts v (omega arith) (omega (arith, e)) in
          let v2 : Within code notes ts p (past s (c.closing f s)).at = within_less code notes ts v least (omega arith) in
          let a = (inner s).goes s (inner_lies s l) v1 (subst (λ x. MeetsAt code notes x p) (sym (none s)) tt) in
          let b = outs_pass y steady (run s).left q (λ e. unit ((inner s).leaves s (inner_lies s l) v1 e)) (deep s) p
          (past s (c.closing f s)).at w.out (noted s l)
          (closing_stands f l.stands).dropping e v2 m in (
            a.0,
            all_more code notes (run s).states (behind_them s) s.at a.1
                (subst (λ i. AllSound code notes i (behind_them s)) (sym (same s))
                (subst (λ d. AllSound code notes p (outs d (run s).left (Some y))) (deep_is s) b)),
          );
    }

  -- where no state is, none is behind
  outs_nothing : (d i : ℕ) (left : Option ℕ) → AllSound code notes i (outs d left None)
  outs_nothing zero i left = (nothing (is_left 0 left), tt)
    where
      nothing : (b : Bool) → SoundAt code notes i (cond b None None)
      nothing true = tt
      nothing false = tt
  outs_nothing (suc d) i left = (nothing (is_left (suc d) left), outs_nothing d (suc i) left)
    where
      nothing : (b : Bool) → SoundAt code notes i (cond b None None)
      nothing true = tt
      nothing false = tt
