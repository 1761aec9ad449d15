-- Pieces that add no operation: a new place, locals that are used, and what goes by its index.
use Rattle.std.proofs.Common.{ℕ, ◌≤◌, List, [], ◌∷◌, Option}
use Rattle.std.proofs.Math.Nat.{le_trans, le-max_left, le-max_right}
use Rattle.verse_base.specs.declared.places.Place.{Place}
use Rattle.verse_code.specs.declared.codes.Code.{Code}
use Rattle.verse_code.specs.declared.operations.Op.TheVariants as o
use Rattle.verse_verify_kept.specs.Notes.{Notes}
use Rattle.verse_verify_kept.specs.Rules as r
use Rattle.verse_verify_kept.specs.Rules.{Asked, asked, no_local}
use Rattle.lower_code.specs.Pieces as c
use Rattle.lower_code.specs.Pieces.{Spot, Piece, Maker, past}
use Rattle.lower_code.proofs.Standing.{rest_stands}
use Rattle.lower_notes.specs.States.{State}
use Rattle.lower_notes.specs.Stretches.{Stretch, Walk}
use Rattle.lower_notes.proofs.Counted.{code_then}
use Rattle.lower_pass_states.proofs.Points.{pt}
use Rattle.lower_pass_states.proofs.Meeting.{Meets, no_value, leads_to}
use Rattle.lower_pass_stretches.proofs.Going.{Way, Lies, Going}

module _ (code : Code) (notes : Notes) where
  module _ {w : Way} {ts : List ℕ} {x : Option State} {g : Walk} {k : Option State → Option State} {Q : State → Type 0} where
    -- a new place
    module _ (pl : Place) (f : ℕ → Maker) (goes : (m : ℕ) → Going code notes w ts x (f m) g k Q) where
      abbrev new_place : Piece
      new_place = record { items = []; places = pl ∷ []; texts = []; locals = 0 }

      abbrev numbered : Spot → Piece
      numbered s = f s.place (past s new_place)

      numbered_lies : (s : Spot) {u : Stretch} → Lies code notes w s (c.numbering pl f s) u →
          Lies code notes w (past s new_place) (numbered s) u
      numbered_lies s l = record {
        stands = rest_stands new_place (numbered s) l.stands;
        states = l.states;
        left = l.left;
        room = le_trans (le-max_right 0 (numbered s).locals) l.room;
      }

      pub numbered_goes : Going code notes w ts x (c.numbering pl f) g k Q
      numbered_goes = record {
        leaves = λ s l v e. (goes s.place).leaves (past s new_place) (numbered_lies s l) v e;
        exits = λ s l v. (goes s.place).exits (past s new_place) (numbered_lies s l) v;
        goes = λ s l v m. (goes s.place).goes (past s new_place) (numbered_lies s l) v m;
      }

    -- the locals below n are used
    module _ (n : ℕ) (f : Maker) (goes : n ≤ w.size → Going code notes w ts x f g k Q) where
      abbrev used : Spot → Piece
      used s = c.using_locals n s

      abbrev there : Spot → Piece
      there s = f (past s (used s))

      room : (s : Spot) {u : Stretch} → Lies code notes w s (code_then (c.using_locals n) f s) u → n ≤ w.size
      room s l = le_trans (le-max_left n (there s).locals) l.room

      used_lies : (s : Spot) {u : Stretch} → Lies code notes w s (code_then (c.using_locals n) f s) u →
          Lies code notes w (past s (used s)) (there s) u
      used_lies s l = record {
        stands = rest_stands (used s) (there s) l.stands;
        states = l.states;
        left = l.left;
        room = le_trans (le-max_right n (there s).locals) l.room;
      }

      pub using_goes : Going code notes w ts x (code_then (c.using_locals n) f) g k Q
      using_goes = record {
        leaves = λ s l v e. (goes (room s l)).leaves (past s (used s)) (used_lies s l) v e;
        exits = λ s l v. (goes (room s l)).exits (past s (used s)) (used_lies s l) v;
        goes = λ s l v m. (goes (room s l)).goes (past s (used s)) (used_lies s l) v m;
      }

    -- by the index at which it stands, of which this is known
    pub here_goes : (f : ℕ → Maker) (Facts : ℕ → Type 0) →
        ((s : Spot) → Lies code notes w s (f s.at s) (g s.at x) → Facts s.at) →
        ((i : ℕ) → Facts i → Going code notes w ts x (f i) g k Q) → Going code notes w ts x (c.from_here f) g k Q
    here_goes f Facts facts goes = record {
      leaves = λ s l v e. (goes s.at (facts s l)).leaves s l v e;
      exits = λ s l v. (goes s.at (facts s l)).exits s l v;
      goes = λ s l v m. (goes s.at (facts s l)).goes s l v m;
    }

  -- an Again to what a state meets
  pub again_asked : (z : State) (i j : ℕ) → Meets code notes z j → Asked code notes i (pt z) (o.Again j)
  again_asked z i j (no_value h) = no_local h
  again_asked z i j (leads_to l) = asked (r.of_again l)
