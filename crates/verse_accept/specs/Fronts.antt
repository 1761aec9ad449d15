-- What the front end makes of the files of a program: its items, or a refusal with its place, layer
-- by layer. Each layer goes over all files before the next one begins.
use Rattle.std.specs.Prelude.{◌≡◌, ℕ, ◌<◌, ◌≤◌, List, [], Option, Some, None, length, slice_get}
use Rattle.std.specs.Prelude.{drop}
use Rattle.std.specs.List.{flat_map}
use Rattle.verse_base.specs.declared.limits.TheConstants.{MOST_FILE_BYTES}
use Rattle.verse_base.specs.declared.places.Place.{Place}
use Rattle.verse_base.specs.declared.refusals.Refusal.{Refusal}
use Rattle.verse_lex.specs.declared.tokens.Token.{Token}
use Rattle.verse_lex.specs.Cut.{AreTokens, first_place, place_at}
use Rattle.verse_lex.specs.Cut as tokens
use Rattle.verse_layout.specs.declared.toks.Tok.{Tok}
use Rattle.verse_layout.specs.Layouts.{IsLayout}
use Rattle.verse_layout.specs.Refusals as layout
use Rattle.verse_tree.specs.ItemTree.{ItemTree}
use Rattle.verse_grammar.specs.Items.{Program}
use Rattle.verse_grammar.specs.Begins.{a_program, Stops}
use Rattle.verse_grammar.specs.Toks.{ahead}
use Rattle.verse_expr.specs.Faults.{stop_rule}
use Rattle.verse_tree.specs.PostOrder.{program_place}
use Rattle.verse_tree.specs.Numbering.{items_numbered}
use Rattle.verse_rules.specs.Breaking.{NamesBreak, IsMisnamed}
use Rattle.verse_rules.specs.Sound.{BodiesBreak, IsMistyped, size_of, most_size}
use Rattle.verse_accept.specs.Stages.{Stage, followed, in_turn, OneResult}

-- the toks go on up to this one, or to their end, and not further
pub record IsStuck (toks : List Tok) (index : ℕ) : Type 0 where
  pub within : index ≤ length toks
  pub stops : Stops a_program toks index

abbrev pub place_or : Option Tok → Place → Place
place_or None place = place
place_or (Some k) place = k.place

-- the place of the tok of this index, or the file's end
abbrev pub tok_place : ℕ → List ℕ → List Tok → ℕ → Place
tok_place file bytes toks index =
    place_or (slice_get toks index) (place_at file bytes (length bytes))

abbrev pub refusal : ℕ → Place → Refusal
refusal rule place = record { rule = record { 0 = rule }; place = place }

-- a file that is cut into tokens
pub record Cut : Type 0 where
  pub bytes : List ℕ
  pub tokens : List Token

-- a file that is laid out
pub record Laid : Type 0 where
  pub bytes : List ℕ
  pub toks : List Tok

-- ---- the layers, each over a file of a number

-- a file is no larger than a file may be
abbrev pub sized : ℕ → Stage (List ℕ) (List ℕ)
sized file = record {
  makes = λ (bs : List ℕ) (cs : List ℕ). (cs ≡ bs) × (length bs ≤ MOST_FILE_BYTES);
  refuses = λ (bs : List ℕ) (r : Refusal). (MOST_FILE_BYTES < length bs) ×
      (r ≡ refusal 2 (first_place file));
}

abbrev pub cutting : ℕ → Stage (List ℕ) Cut
cutting file = record {
  makes = λ (bs : List ℕ) (c : Cut). (c.bytes ≡ bs) × AreTokens file bs c.tokens;
  refuses = λ (bs : List ℕ) (r : Refusal). tokens.IsRefused file bs r;
}

abbrev pub laying : ℕ → Stage Cut Laid
laying file = record {
  makes = λ (c : Cut) (l : Laid). (l.bytes ≡ c.bytes) × IsLayout c.bytes c.tokens l.toks;
  refuses = λ (c : Cut) (r : Refusal). layout.IsRefused c.bytes c.tokens r;
}

-- the items that the toks spell, which no other items are
abbrev pub spelling : ℕ → Stage Laid (List ItemTree)
spelling file = record {
  makes = λ (l : Laid) (is : List ItemTree). Program l.bytes l.toks is [] ×
      ((js : List ItemTree) → Program l.bytes l.toks js [] → js ≡ is);
  refuses = λ (l : Laid) (r : Refusal).
      (index : ℕ) × IsStuck l.toks index ×
      (r ≡ refusal (stop_rule (ahead (drop index l.toks))) (tok_place file l.bytes l.toks index));
}

-- ---- the layers over the whole program

abbrev pub all_items : List (List ItemTree) → List ItemTree
all_items iss = flat_map (λ (is : List ItemTree). is) iss

-- the items of all files, their nodes numbered in written post-order
abbrev pub joining : Stage (List (List ItemTree)) (List ItemTree)
joining = record {
  makes = λ (iss : List (List ItemTree)) (is : List ItemTree). is ≡
      items_numbered (all_items iss) 0;
  refuses = λ (iss : List (List ItemTree)) (r : Refusal). ⊥;
}

-- a program that breaks no rule of names
abbrev pub naming : Stage (List ItemTree) (List ItemTree)
naming = record {
  makes = λ (is : List ItemTree) (js : List ItemTree). (js ≡ is) ×
      ((n c : ℕ) → NamesBreak is n c → ⊥);
  refuses = λ (is : List ItemTree) (r : Refusal). IsMisnamed is r;
}

-- a program that breaks no rule of types or effects
abbrev pub typing : Stage (List ItemTree) (List ItemTree)
typing = record {
  makes = λ (is : List ItemTree) (js : List ItemTree). (js ≡ is) ×
      ((n c : ℕ) → BodiesBreak is n c → ⊥);
  refuses = λ (is : List ItemTree) (r : Refusal). IsMistyped is r;
}

-- a program that is no larger than a program may be
abbrev pub bounding : Stage (List ItemTree) (List ItemTree)
bounding = record {
  makes = λ (is : List ItemTree) (js : List ItemTree). (js ≡ is) × (size_of is ≤ most_size);
  refuses = λ (is : List ItemTree) (r : Refusal). (most_size < size_of is) ×
      (r ≡ refusal 98 program_place);
}

-- the rules over the whole program, one group behind the other
abbrev pub testing : Stage (List ItemTree) (List ItemTree)
testing = followed (followed naming typing) bounding

-- ---- the front end: the layers one behind the other; a further one is one more line

abbrev pub to_sized : Stage (List (List ℕ)) (List (List ℕ))
to_sized = in_turn sized

abbrev pub to_cut : Stage (List (List ℕ)) (List Cut)
to_cut = followed to_sized (in_turn cutting)

abbrev pub to_laid : Stage (List (List ℕ)) (List Laid)
to_laid = followed to_cut (in_turn laying)

abbrev pub to_spelled : Stage (List (List ℕ)) (List (List ItemTree))
to_spelled = followed to_laid (in_turn spelling)

abbrev pub to_joined : Stage (List (List ℕ)) (List ItemTree)
to_joined = followed to_spelled joining

abbrev pub front_end : Stage (List (List ℕ)) (List ItemTree)
front_end = followed to_joined testing

-- the files are a program that is accepted, of these items
abbrev pub Accepts : List (List ℕ) → List ItemTree → Type 0
Accepts files is = front_end.makes files is

-- the first layer that refuses a file, and where
abbrev pub IsRefused : List (List ℕ) → Refusal → Type 0
IsRefused files r = front_end.refuses files r

-- files have at most one result: items or a refusal
abbrev pub AcceptedOnce : Type 0
AcceptedOnce = OneResult front_end
