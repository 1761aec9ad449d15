-- A state that is suited, and of which it is told where it stands, can be spelled.
use Rattle.std.proofs.Common.{◌≡◌, ℕ, suc, ◌≤◌, ◌<◌, length, List, [], ◌∷◌, ◌++◌, Option, Some, None, Bool, true, false, not, refl}
use Rattle.std.proofs.Common.{sym, ap, ◌∙◌, subst, arith}
use Rattle.std.specs.Prelude.{slice_get, IfSome}
use Rattle.std.proofs.lemmas.Bool.{leb-true, and_parts}
use Rattle.std.proofs.lemmas.Option.{slice_get_within}
use Rattle.verse_code.specs.declared.codes.Code.{Code}
use Rattle.verse_code.specs.declared.operations.Op.TheVariants as o
use Rattle.verse_sorts.specs.Sorts.{Sort}
use Rattle.verse_verify_kept.specs.Notes.{Notes, Point, point_at}
use Rattle.verse_verify_kept.specs.Rules.{Around, around_so, Ready, ready_so}
use Rattle.verse_verify_faults.specs.Spots.{Mark, even}
use Rattle.verse_verify_faults.specs.Reading.{defers_in, locals_of}
use Rattle.verse_verify_bytes.specs.Suits.{IsNumber, SuitsSort, IsIndex, SuitsMark, Blocks, SuitsSpot}
use Rattle.lower_bounds.proofs.Lists.{Each, each_first, each_rest}
use Rattle.lower_bounds.proofs.Bodies.{each_all}
use Rattle.lower_notes.specs.States.{State, Deferred, spot_of, indices}
use Rattle.lower_pass_states.proofs.Points.{pt, opened, names_of}
use Rattle.lower_pass_states.proofs.Meeting.{Held, entries}
use Rattle.lower_pass_programs.proofs.Whole.{live_is}
use Rattle.lower_pass_suits.proofs.Suited.{Suited, HasNone}
use Rattle.lower_pass_suits.proofs.Sorted.{kind}

pub if_some : {A : Type 0} (P : A → Type 0) (x : Option A) → ((a : A) → x ≡ Some a → P a) → IfSome x P
if_some P None h = tt
if_some P (Some a) h = h a refl

entries_length : (ds : List Deferred) → length (entries ds) ≡ length ds
entries_length [] = refl
entries_length (d ∷ ds) = ap suc (entries_length ds)

module _ (c : Code) (n : Notes) (many : length n.points ≡ length c.ops) where
  there : (e : ℕ) (q : Point) → point_at n e ≡ Some q → IsIndex c e
  there e q h =
      subst (λ m. e < m) many (slice_get_within n.points e (Some q) (live_is (slice_get n.points e) q h))

  open_indices : (i : ℕ) (ts : List ℕ) → Around c n i ts → Each (IsIndex c) ts
  open_indices i [] h = tt
  open_indices i (t ∷ ts) (around_so {label = label} l u e h) =
      (slice_get_within c.ops t (o.Try label) e, open_indices i ts h)

  block_indices : (p : Point) (ls : List Sort) (ds : List ℕ) → Ready c n p ls ds → Each (IsIndex c) ds
  block_indices p ls [] h = tt
  block_indices p ls (e ∷ ds) (ready_so {point = point} more entry m f h) =
      (there e point entry.live, block_indices p point.locals ds h)

  marks : (k : ℕ) (ms : List Mark) → IsNumber k → even k ms ≡ true → Each (IsIndex c) (indices ms) → Each (SuitsMark c) ms
  marks k [] l e h = tt
  marks k (m ∷ ms) l e h =
      let both = and_parts _ _ e in
      let low : m.height ≤ 4294967295 = lower (leb-true m.height k both.0) l in
      (record { index = h.0; height = low }, marks m.height ms low both.1 h.1)
    where
      lower : {a b d : ℕ} → a ≤ b → b ≤ d → a ≤ d
      lower h i = omega (arith, h, i)

  -- of a state in a function, of no more than so many
  module _ (size : ℕ) (small : IsNumber size) (i : ℕ) (x : State) (held : Held c n i x) (k : ℕ) (there_is : k < length c.functions)
      (s : Suited (kind c k) size x) where
    within : {m : ℕ} → m ≤ size → IsNumber m
    within l = omega (arith, l, small)

    open_are : Each (IsIndex c) (indices x.tries ++ x.outer)
    open_are = open_indices i (opened x) (subst (Around c n i) (names_of x) held.sound.around)

    deferred_are : Each (IsIndex c) (entries x.defers)
    deferred_are = block_indices (pt x) x.locals (entries x.defers) held.sound.ready

    blocks_of : (b : Bool) → (not b ≡ true → HasNone x) → Blocks c b (spot_of x)
    blocks_of true h = record {
      block = if_some (IsIndex c) x.block (λ e f. let w = held.stood.within e f in there e w.point w.live);
      outer = (
        within (omega (arith, s.tries)),
        each_all (IsIndex c) x.outer (each_rest (IsIndex c) (indices x.tries) x.outer open_are),
      );
      under = within (omega (arith, s.blocks));
      defers = (
        within (omega (arith, s.blocks, entries_length x.defers)),
        each_all (IsIndex c) (entries x.defers) deferred_are,
      );
    }
    blocks_of false h =
        let z = h refl in
        record { block = z.block; outer = z.outer; under = z.under; defers = ap entries z.defers }

    pub suits_spot : SuitsSpot c (spot_of x)
    suits_spot = record {
      func = subst (λ m. m < length c.functions) (sym s.func) there_is;
      arm = s.arm;
      locals = (
        s.locals.0 ∙ ap (λ m. locals_of c (slice_get c.functions m)) (sym s.func),
        each_all (SuitsSort c) x.locals s.locals.1,
      );
      stack = (within s.operands, each_all (SuitsSort c) x.stack s.stack);
      tries = (
        within (omega (arith, s.tries)),
        each_all (SuitsMark c) x.tries (marks (length x.stack) x.tries (within s.operands) held.even
            (each_first (IsIndex c) (indices x.tries) x.outer open_are)),
      );
      blocks = blocks_of (defers_in c c.ops) s.none;
    }
