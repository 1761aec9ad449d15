-- The toks of what is written, one after the other, and the answer within the load: a form between
-- the blocks and the code.
use Rattle.std.specs.Prelude.{Bool, true, false, not, ◌&&◌, if◌then◌else◌, nat_le, List, [], ◌∷◌}
use Rattle.std.specs.Prelude.{◌++◌, Option, Some, None, Result, Ok, Err}
use Rattle.verse_base.specs.declared.limits.TheConstants.{MOST_LOAD}
use Rattle.verse_base.specs.declared.refusals.Refusal.{Refusal}
use Rattle.verse_layout.specs.declared.toks.Tok.{Tok}
use Rattle.verse_layout.specs.declared.rules.TheConstants.{NESTING}
use Rattle.verse_layout.specs.Loads.{Counts, load, after_tok}
use Rattle.verse_layout.specs.Written.{Written, tok, sep, no_sep, is_open, is_close, refusal}

-- of several Seps the first
abbrev pub first_sep : Option Tok → Tok → Option Tok
first_sep None s = Some s
first_sep (Some r) s = Some r

abbrev pub kept_sep : Bool → Option Tok → List Tok
kept_sep true (Some s) = s ∷ []
kept_sep true None = []
kept_sep false _ = []

-- given: whether a Sep may stand behind the tok before, and the Sep that waits for the next tok
abbrev pub spaced : Bool → Option Tok → List Written → List Tok
spaced can waiting [] = []
spaced can waiting (sep s ∷ ws) = spaced can (first_sep waiting s) ws
spaced can waiting (no_sep ∷ ws) = spaced can None ws
spaced can waiting (tok k ∷ ws) =
    kept_sep (can && not (is_close k.kind)) waiting ++ k ∷ spaced (not (is_open k.kind)) None ws

-- the toks, or why there are none
abbrev pub Answer : Type 0
Answer = Result (List Tok) Refusal

abbrev pub with_front : List Tok → Answer → Answer
with_front ks (Ok js) = Ok (ks ++ js)
with_front ks (Err r) = Err r

abbrev pub ended : Option Refusal → Answer
ended None = Ok []
ended (Some r) = Err r

-- the toks, unless one of them brings the load above its bound; then why the list ends there, if so
abbrev pub bounded : Counts → List Tok → Option Refusal → Answer
bounded s [] stop = ended stop
bounded s (k ∷ ks) stop =
    if nat_le (load (after_tok k s)) MOST_LOAD then with_front (k ∷ [])
    (bounded (after_tok k s) ks stop) else Err (refusal NESTING k.place)
