-- A block that is deferred.
use Rattle.std.proofs.Common.{◌≡◌, ℕ, suc, ◌+◌, ◌-◌, ◌≤◌, length, List, [], Option, Some, refl, sym, subst, ap, arith}
use Rattle.std.specs.Prelude.{option_map, slice_get}
use Rattle.std.proofs.lemmas.Option.{none-some, same_Some}
use Rattle.verse_code.specs.declared.codes.Code.{Code}
use Rattle.verse_code.specs.declared.operations.Op.TheVariants as o
use Rattle.verse_names_tables.specs.Names.{Table}
use Rattle.verse_sorts.proofs.Fitting.{all_itself}
use Rattle.verse_sound_rules.specs.Found as rules
use Rattle.verse_sound_rules.specs.Found.{Allowed}
use Rattle.verse_verify_kept.specs.Notes.{Notes, parent_of}
use Rattle.verse_verify_kept.specs.Rules as r
use Rattle.verse_verify_kept.specs.Rules.{Asked, asked, no_local, Entry, ready_no, keeps_all}
use Rattle.verse_verify_faults.specs.Spots.{point_of}
use Rattle.lower_code.specs.declared.arounds.Around.{Around}
use Rattle.lower_code.specs.Arounds.{enclosed, deferring}
use Rattle.lower_code.specs.Scopes.{Scope}
use Rattle.lower_notes.specs.States.{State, spot_of, in_block, deferred}
use Rattle.lower_pass_states.proofs.Points.{pt, names_of}
use Rattle.lower_pass_states.proofs.Meeting.{Meets, no_value, leads_to, entries, noted_point, InBlock}
use Rattle.lower_pass_stretches.proofs.Going.{Way}
use Rattle.lower_pass_stretches.proofs.Inside.{Inside, Since, Blocks, blocks_before, blocks_so, blocks_moved, entry_moved, keeps_moved}
use Rattle.lower_pass_contexts.proofs.Contexts.{many_entries}

module _ (code : Code) (notes : Notes) where
  -- the first state of the block that the operation of index i defers is noted
  abbrev pub BlockNoted : Option State → ℕ → Type 0
  BlockNoted x i = slice_get notes.points (suc i) ≡ Some (point_of (option_map spot_of (option_map (in_block i) x)))

  pub entry_of : (y : State) (i : ℕ) → BlockNoted (Some y) i →
      Entry code notes (pt y) (suc i) (length (entries y.defers)) (pt (in_block i y))
  entry_of y i h = record {
    live = noted_point code notes (in_block i y) (suc i) refl h;
    func = refl;
    arm = refl;
    block = refl;
    stack = refl;
    tries = refl;
    defers = refl;
    under = ap (λ k. y.under + k) (sym (many_entries y.defers));
  }

  module _ {found : rules.Found} {w : Way} {ts : List ℕ} {al : Allowed} {xs : Table} {sc : Scope} {a : Around} {y : State}
      (h : Inside code notes found w ts al xs sc a y) where
    -- what is known in the block
    pub inside_block : (i : ℕ) → BlockNoted (Some y) i → Inside code notes found w ts (rules.deferred al) xs sc (enclosed a) (in_block i y)
    inside_block i b = record {
      even = refl;
      names = h.names;
      stood = record {
        tries = h.stood.tries;
        lasts = h.stood.lasts;
        within = λ e f. subst (λ e. InBlock code notes e y.func y.arm (in_block i y).outer (in_block i y).under) (same_Some (suc i) e f)
            (record {
              point = pt (in_block i y);
              live = noted_point code notes (in_block i y) (suc i) refl b;
              same_func = refl;
              same_arm = refl;
              block = refl;
              same_outer = refl;
              same_under = refl;
              stack = refl;
              tries = refl;
              defers = refl;
            });
      };
      blocks = subst (λ k. Blocks code notes (pt (in_block i y)) ts k [] y.locals) (sym (none a.defers)) (blocks_before ready_no);
      count = more a.defers (y.under + length y.defers) h.count;
      order = (same a.defers, same a.defers);
      keeps = keeps_all refl;
      sees = h.sees;
      blank = h.blank;
      quiet = h.quiet;
      room = h.room;
      fails = λ e. absurd (cc);
      waits = λ e. absurd (cc);
      returns = λ res e. absurd (none-some res e);
      breaks = λ e. absurd (cc);
    }
      where
        none : (k : ℕ) → k - k ≡ 0
        none k = omega arith

        same : (k : ℕ) → k ≤ k
        same k = omega arith

        more : (d n : ℕ) → d ≡ n → d ≡ n + 0
        more d n e = omega (arith, e)

    -- a block is deferred
    pub defer_asked : (i l : ℕ) → BlockNoted (Some y) i → Meets code notes (deferred i y) l → Asked code notes i (pt y) (o.Defer l)
    defer_asked i l b (no_value n) = no_local n
    defer_asked i l b (leads_to t) = asked (r.of_defer (entry_of y i b) (names_of y) (all_itself (parent_of notes) y.locals) (record {
      point = t.point;
      live = t.live;
      kin = record { func = t.kin.func; arm = t.kin.arm; block = t.kin.block; outer = t.kin.outer; under = t.kin.under };
      locals = t.locals;
      stack = t.stack;
      tries = t.tries;
      defers = t.defers;
    }))

    -- it has run
    pub defer_end_asked : (i j : ℕ) → BlockNoted (Some y) i → Asked code notes j (pt (in_block i y)) o.DeferEnd
    defer_end_asked i j b = asked (r.of_defer_end refl refl refl refl (noted_point code notes (in_block i y) (suc i) refl b)
        (all_itself (parent_of notes) y.locals))

    -- what is known behind it
    pub inside_deferring : (i : ℕ) → BlockNoted (Some y) i → Inside code notes found w ts al xs sc (deferring a) (deferred i y)
    inside_deferring i b = record {
      even = h.even;
      names = h.names;
      stood = h.stood;
      blocks = subst (λ k. Blocks code notes (pt (deferred i y)) ts k (deferred i y).defers y.locals) (one_more a.defers a.base h.order)
          (blocks_so (pt (in_block i y)) (entry_moved code notes (record { func = refl; arm = refl; under = refl }) (entry_of y i b))
          h.names refl (all_itself (parent_of notes) y.locals)
          (blocks_moved code notes (record { func = refl; arm = refl; under = refl }) refl h.blocks));
      count = up a.defers y.under (length y.defers) h.count;
      order = (h.order.0, less h.order.1);
      keeps = keeps_moved code notes refl h.keeps;
      sees = h.sees;
      blank = h.blank;
      quiet = h.quiet;
      room = h.room;
      fails = λ e. fails_still (h.fails e);
      waits = λ e. let g = h.waits e in record { tries = g.tries; block = g.block; func = g.func; is_func = g.is_func; holds = g.holds };
      returns = λ res e. let g = h.returns res e in record {
        may = g.may;
        base = g.base;
        arm = g.arm;
        block = g.block;
        tries = g.tries;
        under = g.under;
        func = g.func;
        is_func = g.is_func;
        result = g.result;
      };
      breaks = λ e. let g = h.breaks e in record {
        in_loop = g.in_loop;
        may = g.may;
        func = g.func;
        arm = g.arm;
        block = g.block;
        outer = g.outer;
        under = g.under;
        tries = g.tries;
        stack = g.stack;
        locals = g.locals;
        since = subst (λ k. Since code notes w.state k (deferred i y).defers) (floor_more a.defers a.floor h.order.1)
            (g.locals, g.since);
      };
    }
      where
        one_more : (d b : ℕ) {f : ℕ} → (b ≤ f) × (f ≤ d) → suc (d - b) ≡ suc d - b
        one_more d b l = omega (arith, l.0, l.1)

        floor_more : (d f : ℕ) → f ≤ d → suc (d - f) ≡ suc d - f
        floor_more d f l = omega (arith, l)

        up : (d u n : ℕ) → d ≡ u + n → suc d ≡ u + suc n
        up d u n e = omega (arith, e)

        less : {f d : ℕ} → f ≤ d → f ≤ suc d
        less l = omega (arith, l)

        fails_still : r.MayFail code notes (pt y) → r.MayFail code notes (pt (deferred i y))
        fails_still (r.in_try e) = r.in_try e
        fails_still (r.in_function b c f e) = r.in_function b c f e
