-- A function value that reads phrases from fewer toks.
use Rattle.std.specs.Prelude.{◌≡◌, ℕ, ◌<◌, ◌≤◌, List, Result, IfOk, length, drop}
use Rattle.std.specs.Result.{IsErrOf}
use Rattle.std.specs.declared.alloc.Global.{Global}
use denote.Ref.{Bor}
use Rattle.verse_layout.specs.declared.toks.Tok.{Tok}
use Rattle.verse_tree.specs.declared.exprs.Expr.{Expr}
use Rattle.verse_tree.specs.View.{tree_of}
use Rattle.verse_grammar.specs.Exprs.{Reads}
use Rattle.verse_grammar.specs.Symbols.{phrase}
use Rattle.verse_grammar.specs.Reading.{EatsRule, SticksRule}
use Rattle.verse_grammar.specs.declared.phrases.Phrase.{Phrase}
use Rattle.verse_expr_reader.specs.declared.steps.ReadFault.{ReadFault}
use Rattle.verse_expr_reader.specs.declared.steps.ReadFault.TheVariants as read_fault

-- so many toks at the front are the phrase
pub record IsRead (b : List ℕ) (q : Phrase) (ks : List Tok) (found : Expr × ℕ) : Type 0 where
  pub spelled : Reads b q ks (tree_of found.0) (drop found.1 ks)
  pub eats : EatsRule (phrase q) ks (drop found.1 ks)
  pub some : 0 < found.1
  pub within : found.1 ≤ length ks

pub record Nests (b : List ℕ) (most : ℕ)
    (pre : Global → Bor (List ℕ) → Phrase → Bor (List Tok) → Type 0)
    (post : Global → Bor (List ℕ) → Phrase → Bor (List Tok) → Result (Expr × ℕ) ReadFault →
    Type 0) : Type 0 where
  pub callable : (alloc : Global) (bs : Bor (List ℕ)) (q : Phrase) (ts : Bor (List Tok)) →
      bs.now ≡ b → length ts.now < most → pre alloc bs q ts
  pub reads : (alloc : Global) (bs : Bor (List ℕ)) (q : Phrase) (ts : Bor (List Tok))
      (r : Result (Expr × ℕ) ReadFault) → bs.now ≡ b → post alloc bs q ts r →
      IfOk r (IsRead b q ts.now)
  pub sticks : (alloc : Global) (bs : Bor (List ℕ)) (q : Phrase) (ts : Bor (List Tok))
      (r : Result (Expr × ℕ) ReadFault) (left : ℕ) → bs.now ≡ b → post alloc bs q ts r →
      IsErrOf r (read_fault.Stuck left) → SticksRule (phrase q) ts.now left
