-- What a block's writing becomes: its toks, with a Sep only where one stands.
use Rattle.std.specs.Prelude.{◌≡◌, Bool, true, false, ◌||◌, if◌then◌else◌, List, [], ◌∷◌, ◌++◌}
use Rattle.verse_base.specs.declared.places.Place.{Place}
use Rattle.verse_base.specs.declared.refusals.Refusal.{Refusal}
use Rattle.verse_base.specs.declared.refusals.Rule.{Rule}
use Rattle.verse_layout.specs.declared.toks.Tok.{Tok}
use Rattle.verse_layout.specs.declared.toks.TokKind.{TokKind}
use Rattle.verse_layout.specs.declared.toks.TokKind.TheVariants as t

-- a tok; a Sep, which may fall; or a place where no Sep stands
pub data Written : Type 0 where
  tok : Tok → Written
  sep : Tok → Written
  no_sep : Written

abbrev pub is_open : TokKind → Bool
is_open t.Open = true
is_open _ = false

abbrev pub is_close : TokKind → Bool
is_close t.Close = true
is_close _ = false

-- what is written between two toks: none of it is a tok
abbrev pub is_gap : List Written → Bool
is_gap [] = true
is_gap (tok k ∷ ws) = false
is_gap (sep s ∷ ws) = is_gap ws
is_gap (no_sep ∷ ws) = is_gap ws

abbrev pub has_no_sep : List Written → Bool
has_no_sep [] = false
has_no_sep (no_sep ∷ ws) = true
has_no_sep (_ ∷ ws) = has_no_sep ws

-- Of the Seps between two toks the first stands; those before an `else`'s line fall.
abbrev pub gap_sep : List Written → List Tok
gap_sep [] = []
gap_sep (sep s ∷ ws) = if has_no_sep ws then gap_sep ws else s ∷ []
gap_sep (_ ∷ ws) = gap_sep ws

-- No Sep stands behind an Open or before a Close.
abbrev pub sep_between : Tok → List Written → Tok → List Tok
sep_between j gap k = if is_open j.kind || is_close k.kind then [] else gap_sep gap

-- What is written behind a tok, and the toks that it becomes. No Sep stands at the end.
pub data SpacedBehind : Tok → List Written → List Tok → Type 0 where
  last_gap : {j : Tok} {gap : List Written} → is_gap gap ≡ true → SpacedBehind j gap []
  next_tok : {j k : Tok} (gap : List Written) {ws : List Written} {ks : List Tok} →
      is_gap gap ≡ true → SpacedBehind k ws ks →
      SpacedBehind j (gap ++ tok k ∷ ws) (sep_between j gap k ++ k ∷ ks)

-- What is written, and the toks that it becomes. No Sep stands at the beginning.
pub data Spaced : List Written → List Tok → Type 0 where
  only_gap : {gap : List Written} → is_gap gap ≡ true → Spaced gap []
  first_tok : {k : Tok} (gap : List Written) {ws : List Written} {ks : List Tok} →
      is_gap gap ≡ true → SpacedBehind k ws ks → Spaced (gap ++ tok k ∷ ws) (k ∷ ks)

abbrev pub refusal : Rule → Place → Refusal
refusal rule place = record { rule = rule; place = place }
