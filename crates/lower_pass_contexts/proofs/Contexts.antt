-- Failure contexts: what is known of a state within a Try.
use Rattle.std.proofs.Common.{◌≡◌, ℕ, suc, ◌+◌, ◌-◌, ◌≤◌, length, List, [], ◌∷◌, Some, refl, sym, ◌∙◌, subst, ap, arith}
use Rattle.std.specs.Prelude.{option_map, slice_get}
use Rattle.std.proofs.lemmas.Option.{none-some}
use Rattle.verse_code.specs.declared.codes.Code.{Code}
use Rattle.verse_code.specs.declared.operations.Op.TheVariants as o
use Rattle.verse_names_tables.specs.Names.{Table}
use Rattle.verse_sorts.specs.Typing.{at}
use Rattle.verse_sound_rules.specs.Found as rules
use Rattle.verse_sound_rules.specs.Found.{Allowed, tried}
use Rattle.verse_verify_kept.specs.Notes.{Notes, Point, point_at}
use Rattle.verse_verify_kept.specs.Rules.{in_try, Quiet, quiet_so, keeps_some}
use Rattle.verse_verify_faults.specs.Spots.{point_of}
use Rattle.verse_verify_kept.proofs.Places.{same_in}
use Rattle.lower_code.specs.declared.arounds.Around.{Around}
use Rattle.lower_code.specs.Arounds.{enclosed}
use Rattle.lower_code.specs.Scopes.{Scope}
use Rattle.lower_notes.specs.States.{State, spot_of}
use Rattle.lower_notes.specs.States as states
use Rattle.lower_pass_states.proofs.Points.{pt, Even, names_of, tries_tried, even_tried}
use Rattle.lower_pass_states.proofs.Meeting.{entries, noted_point, Opened}
use Rattle.lower_pass_stretches.proofs.Going.{Way}
use Rattle.lower_pass_stretches.proofs.Combined.{Led}
use Rattle.lower_pass_stretches.proofs.Inside.{Inside, Blocks, blocks_before, ready_moved, ready_of}

pub many_entries : (ds : List states.Deferred) → length (entries ds) ≡ length ds
many_entries [] = refl
many_entries (d ∷ ds) = ap suc (many_entries ds)

-- a state that is noted is the one
pub noted_is : (notes : Notes) (code : Code) (z : State) (i : ℕ) (p : Point) → Even z →
    slice_get notes.points i ≡ Some (point_of (option_map spot_of (Some z))) → point_at notes i ≡ Some p → pt z ≡ p
noted_is notes code z i p e h k = same_in (noted_point code notes z i e h) k

-- a Try and its label are reached
pub opened_try : (code : Code) (notes : Notes) (i label : ℕ) {x y : State} → Even x → Even y →
    Led code notes o.Try (Some x) (Some y) i label → Opened code notes i
opened_try code notes i label {x} {y} e f led = record {
  label = label;
  is_try = led.operation;
  here = (pt x, noted_point code notes x i e led.here);
  there = (pt y, noted_point code notes y label f led.there);
}

module _ (code : Code) (notes : Notes) {found : rules.Found} {w : Way} {ts : List ℕ} {al : Allowed} {xs : Table} {sc : Scope}
    {a : Around} {y : State} where
  -- a failure leads to the state at the Try, in which no more is known of the locals
  pub quiet_try : (i label : ℕ) → Led code notes o.Try (Some y) (Some y) i label → Inside code notes found w ts al xs sc a y →
      (l : ℕ) → length sc ≤ l → Quiet code notes l (i ∷ ts)
  quiet_try i label led h l k = quiet_so led.operation
      (λ p q e f. h.blank l q k (subst (λ (p : Point). at p.locals l ≡ Some q) (sym (noted_is notes code y label p h.even led.there e)) f))
      (h.quiet l k)

  -- in the Try
  pub inside_try : (i label : ℕ) → Led code notes o.Try (Some y) (Some y) i label → Inside code notes found w ts al xs sc a y →
      Inside code notes found w (i ∷ ts) (tried al) xs sc (enclosed a) (states.tried i y)
  inside_try i label led h = record {
    even = even_tried i y h.even;
    names = ap (λ zs. i ∷ zs) h.names;
    stood = record {
      tries = (opened_try code notes i label h.even h.even led, h.stood.tries);
      lasts = h.stood.lasts;
      within = h.stood.within;
    };
    blocks = subst (λ k. Blocks code notes (pt (states.tried i y)) (i ∷ ts) k y.defers y.locals) (sym (none a.defers))
        (blocks_before (ready_moved code notes (i ∷ []) (record { func = refl; arm = refl; under = refl })
        (names_of (states.tried i y) ∙ ap (λ zs. i ∷ zs) (sym (names_of y)))
        (ready_of code notes (sym h.names ∙ sym (names_of y)) h.blocks)));
    count = h.count;
    order = (same a.defers, same a.defers);
    keeps = keeps_some (tries_tried i y) (λ q e. subst (λ (p : Point). p.under + length p.defers ≤ a.defers)
        (noted_is notes code y i q h.even led.here e) (fewer y.under (many_entries y.defers) h.count));
    sees = h.sees;
    blank = h.blank;
    quiet = quiet_try i label led h;
    room = h.room;
    fails = λ e. in_try (tries_tried i y);
    waits = λ e. absurd (cc);
    returns = λ res e. absurd (none-some res e);
    breaks = λ e. absurd (cc);
  }
    where
      none : (k : ℕ) → k - k ≡ 0
      none k = omega arith

      same : (k : ℕ) → k ≤ k
      same k = omega arith

      fewer : (k : ℕ) {m n d : ℕ} → m ≡ n → d ≡ k + n → k + m ≤ d
      fewer k e f = omega (arith, e, f)
