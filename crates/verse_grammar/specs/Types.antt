-- How types are written. `IsType b ks w rest`: the toks begin with the type, and the rest is behind
-- it; b is the file.
use Rattle.std.specs.Prelude.{◌≡◌, ℕ, List, [], ◌∷◌, ◌++◌, Some}
use Rattle.verse_lex.specs.declared.tokens.Mark.TheVariants as m
use Rattle.verse_layout.specs.declared.toks.Tok.{Tok}
use Rattle.verse_tree.specs.Tree.{Written, named}
use Rattle.verse_tree.specs.Tree as t
use Rattle.verse_tree.specs.View.{writtens}
use Rattle.verse_grammar.specs.Toks.{mark, name_at}
use Rattle.verse_grammar.specs.Starts.{type_start}
use Rattle.verse_grammar.specs.declared.starts.TypeStart.TheVariants as type

mutual
  pub data IsType (b : List ℕ) : List Tok → Written → List Tok → Type 0 where
    type_int : {k : Tok} {rest : List Tok} → type_start k.kind ≡ Some type.Int →
        IsType b (k ∷ rest) t.Written.int rest
    type_logic : {k : Tok} {rest : List Tok} → type_start k.kind ≡ Some type.Logic →
        IsType b (k ∷ rest) t.Written.logic rest
    type_char : {k : Tok} {rest : List Tok} → type_start k.kind ≡ Some type.Char →
        IsType b (k ∷ rest) t.Written.char rest
    type_string : {k : Tok} {rest : List Tok} → type_start k.kind ≡ Some type.String →
        IsType b (k ∷ rest) t.Written.string rest
    type_void : {k : Tok} {rest : List Tok} → type_start k.kind ≡ Some type.Void →
        IsType b (k ∷ rest) t.Written.void rest
    type_name : {k : Tok} {rest : List Tok} → type_start k.kind ≡ Some type.Name →
        IsType b (k ∷ rest) (named 0 k.place (name_at b k)) rest
    -- `?t`
    type_option : {k : Tok} {ks rest : List Tok} {w : Written} →
        type_start k.kind ≡ Some type.Option → IsType b ks w rest →
        IsType b (k ∷ ks) (t.Written.option w) rest
    -- `[]t`
    type_array : {k c : Tok} {ks rest : List Tok} {w : Written} →
        type_start k.kind ≡ Some type.Bracket → c.kind ≡ mark m.SquareClose → IsType b ks w rest →
        IsType b (k ∷ c ∷ ks) (t.Written.array w) rest
    -- `[t]u`
    type_map : {k c : Tok} {ks ls rest : List Tok} {v w : Written} →
        type_start k.kind ≡ Some type.Bracket → IsType b ks v (c ∷ ls) →
        c.kind ≡ mark m.SquareClose → IsType b ls w rest →
        IsType b (k ∷ ks) (t.Written.map v w) rest
    -- `tuple(t, u)`, of two types or more
    type_tuple : {k o s c : Tok} {ks ls rest : List Tok} {w : Written} {ws : List Written} →
        type_start k.kind ≡ Some type.Tuple → o.kind ≡ mark m.RoundOpen → IsType b ks w (s ∷ ls) →
        s.kind ≡ mark m.Comma → AreTypes b ls ws (c ∷ rest) → c.kind ≡ mark m.RoundClose →
        IsType b (k ∷ o ∷ ks) (t.Written.tuple (writtens (w ∷ ws))) rest
    -- `task(t)`
    type_task : {k o c : Tok} {ks rest : List Tok} {w : Written} →
        type_start k.kind ≡ Some type.Task → o.kind ≡ mark m.RoundOpen → IsType b ks w (c ∷ rest) →
        c.kind ≡ mark m.RoundClose → IsType b (k ∷ o ∷ ks) (t.Written.task w) rest
    -- `event(t)` and `event()`
    type_event : {k o c : Tok} {ks rest : List Tok} {w : Written} →
        type_start k.kind ≡ Some type.Event → o.kind ≡ mark m.RoundOpen → IsType b ks w (c ∷ rest) →
        c.kind ≡ mark m.RoundClose → IsType b (k ∷ o ∷ ks) (t.Written.event w) rest
    type_bare_event : {k o c : Tok} {rest : List Tok} → type_start k.kind ≡ Some type.Event →
        o.kind ≡ mark m.RoundOpen → c.kind ≡ mark m.RoundClose →
        IsType b (k ∷ o ∷ c ∷ rest) t.Written.bare_event rest

  -- one or more types with commas between them
  pub data AreTypes (b : List ℕ) : List Tok → List Written → List Tok → Type 0 where
    one_type : {ks rest : List Tok} {w : Written} → IsType b ks w rest → AreTypes b ks (w ∷ []) rest
    more_types : {s : Tok} {ks ls rest : List Tok} {ws : List Written} {w : Written} →
        AreTypes b ks ws (s ∷ ls) → s.kind ≡ mark m.Comma → IsType b ls w rest →
        AreTypes b ks (ws ++ w ∷ []) rest
