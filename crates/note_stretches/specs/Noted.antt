-- What is noted so far, what the calls make of it, and what a walk adds to it.
use Rattle.std.specs.Prelude.{ℕ, zero, suc, List, [], ◌∷◌, ◌++◌, length, map, max, Option, Some}
use Rattle.std.specs.Prelude.{None, option_map}
use Rattle.verse_meaning.specs.Programs.{or_else}
use Rattle.verse_sorts.specs.Sorts.{Sort}
use Rattle.verse_verify_faults.specs.Spots.{Spot}
use Rattle.verse_verify_notes.specs.View as v
use Rattle.lower_notes.specs.States.{State, Change, spot_of}
use Rattle.lower_notes.specs.Stretches.{Stretch, Walk, with_value, deeper, out_with}
use Rattle.note_states.specs.View.{standing_of}
use Rattle.note_stretches.specs.declared.noting.Noting.{Noting}

-- the spots so far, the state that stands now, and with how many operands above its own the
-- innermost loop is left, at most, and at most where that is reached
pub record Noted : Type 0 where
  pub spots : List (Option Spot)
  pub exit : Option State
  pub deep : ℕ
  pub left : Option ℕ

unfoldable pub noted : Noting → Noted
noted b = record {
  spots = map (option_map v.spot_of) b.spots.items;
  exit = standing_of b.standing;
  deep = b.deep;
  left = b.left;
}

abbrev pub empty : Noted
empty = record { spots = []; exit = None; deep = 0; left = None }

abbrev pub seen : Option State → Option Spot
seen = option_map spot_of

-- What the calls make of it.

-- an operation, with the state that stands at it
unfoldable pub marked : Noted → Noted
marked b = record b { spots = b.spots ++ seen b.exit ∷ [] }

-- so many that are never reached
abbrev pub nothing_seen : ℕ → List (Option Spot)
nothing_seen zero = []
nothing_seen (suc n) = None ∷ nothing_seen n

unfoldable pub skipped_one : Noted → Noted
skipped_one b = record b { spots = b.spots ++ None ∷ [] }

unfoldable pub skipped : ℕ → Noted → Noted
skipped n b = record b { spots = b.spots ++ nothing_seen n }

-- what stands now
unfoldable pub resumed : Option State → Noted → Noted
resumed x b = record b { exit = x }

unfoldable pub stopped : Noted → Noted
stopped b = record b { exit = None }

unfoldable pub changed : Change → Noted → Noted
changed h b = record b { exit = option_map h b.exit }

-- what stands now, or what stood behind another stretch, goes on
unfoldable pub met : Option State → Noted → Noted
met x b = record b { exit = or_else x b.exit }

-- behind a form that began with x, and whose value is of this sort
unfoldable pub valued : Sort → Option State → Noted → Noted
valued a x b = record b { exit = with_value a x b.exit }

-- the innermost loop is left with so many operands above its own
unfoldable pub depth_noted : ℕ → Noted → Noted
depth_noted n b = record b {
  deep = max b.deep n;
  left = deeper b.left (option_map (λ s. n) b.exit);
}

abbrev pub loop_left : ℕ → Noted → Noted
loop_left n b = stopped (depth_noted n (marked b))

unfoldable pub loop_begun : Noted → Noted
loop_begun b = record b { deep = 0; left = None }

-- at a Drop behind a loop that began with x, and at all of them and the Unit behind them
abbrev pub out_marked : (n : ℕ) → Option State → Noted → Noted
out_marked n x b = marked (resumed (out_with n b.left x) b)

abbrev pub outs_seen : (n : ℕ) → Option ℕ → Option State → List (Option Spot)
outs_seen zero left x = seen (out_with 0 left x) ∷ []
outs_seen (suc n) left x = seen (out_with (suc n) left x) ∷ outs_seen n left x

unfoldable pub outs_left : (n : ℕ) → Option State → Noted → Noted
outs_left n x b = record b {
  spots = b.spots ++ outs_seen n b.left x;
  exit = out_with 0 b.left x;
}

abbrev pub outs_marked : Option State → Noted → Noted
outs_marked x b = outs_left b.deep x b

-- around it one was left with so many
unfoldable pub loop_ended : (deep : ℕ) → (left : Option ℕ) → Option State → Noted → Noted
loop_ended deep left x b = record (outs_marked x b) { deep = deep; left = left }

-- What a stretch adds, and a walk.
abbrev pub with_stretch : Noted → Stretch → Noted
with_stretch b p = record {
  spots = b.spots ++ map seen p.states;
  exit = p.exit;
  deep = max b.deep p.deep;
  left = deeper b.left p.left;
}

unfoldable pub walked : Walk → Noted → Noted
walked f b = with_stretch b (f (length b.spots) b.exit)
