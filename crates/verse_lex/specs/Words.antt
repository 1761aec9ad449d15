-- Words, left-out words and names.
use Rattle.std.specs.Prelude.{ℕ, Bool, true, false, if◌then◌else◌, List, [], ◌∷◌, Option, Some}
use Rattle.std.specs.Prelude.{None, codes, nat_eq}
use Rattle.std.specs.Cmp.Lexicographic.{pointwise}
use Rattle.verse_lex.specs.declared.tokens.Word.{Word}
use Rattle.verse_lex.specs.declared.tokens.Word.TheVariants as w
use Rattle.verse_lex.specs.declared.tokens.TokenKind.{TokenKind}
use Rattle.verse_lex.specs.declared.tokens.TokenKind.TheVariants as k

-- the words and how they are spelled
abbrev pub words : List (List ℕ × Word)
words =
    (codes "array", w.Array) ∷
    (codes "and", w.And) ∷
    (codes "block", w.Block) ∷
    (codes "branch", w.Branch) ∷
    (codes "break", w.Break) ∷
    (codes "case", w.Case) ∷
    (codes "char", w.Char) ∷
    (codes "class", w.Class) ∷
    (codes "defer", w.Defer) ∷
    (codes "else", w.Else) ∷
    (codes "enum", w.Enum) ∷
    (codes "event", w.Event) ∷
    (codes "false", w.False) ∷
    (codes "for", w.For) ∷
    (codes "if", w.If) ∷
    (codes "Inf", w.Inf) ∷
    (codes "int", w.Int) ∷
    (codes "logic", w.Logic) ∷
    (codes "loop", w.Loop) ∷
    (codes "map", w.Map) ∷
    (codes "not", w.Not) ∷
    (codes "option", w.Option) ∷
    (codes "or", w.Or) ∷
    (codes "race", w.Race) ∷
    (codes "return", w.Return) ∷
    (codes "rush", w.Rush) ∷
    (codes "Self", w.This) ∷
    (codes "set", w.Set) ∷
    (codes "Sleep", w.Sleep) ∷
    (codes "spawn", w.Spawn) ∷
    (codes "string", w.String) ∷
    (codes "sync", w.Sync) ∷
    (codes "task", w.Task) ∷
    (codes "then", w.Then) ∷
    (codes "true", w.True) ∷
    (codes "tuple", w.Tuple) ∷
    (codes "using", w.Using) ∷
    (codes "var", w.Var) ∷
    (codes "void", w.Void) ∷
    (codes "_", w.Wild) ∷
    []

-- the words of Verse that are left out
abbrev pub left_out : List (List ℕ)
left_out =
    codes "allocates" ∷
    codes "await" ∷
    codes "char32" ∷
    codes "converges" ∷
    codes "do" ∷
    codes "float" ∷
    codes "interface" ∷
    codes "live" ∷
    codes "module" ∷
    codes "profile" ∷
    codes "rational" ∷
    codes "reads" ∷
    codes "struct" ∷
    codes "super" ∷
    codes "type" ∷
    codes "upon" ∷
    codes "varies" ∷
    codes "weak_map" ∷
    codes "when" ∷
    codes "where" ∷
    codes "writes" ∷
    []

-- what a table has beside this spelling
module _ {A : Type 0} where
  abbrev pub look_up : List (List ℕ × A) → List ℕ → Option A
  look_up [] spelling = None
  look_up (row ∷ rows) spelling =
      if pointwise nat_eq spelling row.0 then Some row.1 else look_up rows spelling

abbrev pub is_among : List (List ℕ) → List ℕ → Bool
is_among [] spelling = false
is_among (row ∷ rows) spelling =
    if pointwise nat_eq spelling row then true else is_among rows spelling

-- a word, or else a left-out word or a name
abbrev pub kind_of : Option Word → Bool → TokenKind
kind_of (Some word) is_left_out = k.Word word
kind_of None is_left_out = if is_left_out then k.LeftOut else k.Name

abbrev pub name_kind : List ℕ → TokenKind
name_kind name = kind_of (look_up words name) (is_among left_out name)
