-- One state for each operation of a whole code, and as many functions and classes.
use Rattle.std.proofs.Common.{◌≡◌, ℕ, suc, List, [], ◌∷◌, map, length, Bool, Some, None, refl, arith}
use Rattle.std.proofs.Common.{length-append}
use Rattle.std.proofs.Common.{inl, inr}
use Rattle.std.specs.Prelude.{Option, option_map}
use Rattle.std.proofs.lemmas.List.{length-map}
use Rattle.verse_tree.specs.Tree.{Tree, tree}
use Rattle.verse_tree.specs.declared.tables.ClassInfo.{ClassInfo}
use Rattle.verse_code.specs.declared.codes.Code.{Code}
use Rattle.verse_meaning.specs.Programs.{Program}
use Rattle.verse_meaning.specs.Evaluating.{number_of}
use Rattle.verse_sorts.specs.Sorts.{Sort}
use Rattle.verse_sound_rules.specs.Found.{Found}
use Rattle.lower_code.specs.declared.arounds.Around.{Around}
use Rattle.lower_code.specs.Scopes.{Scope}
use Rattle.lower_code.specs.Pieces.{Spot, past}
use Rattle.lower_code.specs.Arounds.{fresh}
use Rattle.lower_code.specs.Defaults.{defaults_in}
use Rattle.lower_code.specs.Programs as c
use Rattle.lower_code.specs.Programs.{Body, bodies_in, default_bodies, all_bodies, first_spot, class_of, item_op}
use Rattle.lower_code.specs.Programs.{funcs_from, code_of}
use Rattle.lower_notes.specs.States.{State, spot_of}
use Rattle.lower_notes.specs.Stretches.{with_value}
use Rattle.lower_notes.specs.Noting.{walk, shape_walk}
use Rattle.lower_notes.specs.Programs as n
use Rattle.lower_notes.specs.Laws.{Beside, SameCounts, Exits, OneForEach}
use Rattle.lower_notes.proofs.Counted.{both, none, just_ends}
use Rattle.lower_notes.proofs.Forms.{trees}

classes_many : (found : Found) (k : ℕ) (cs : List ClassInfo) → length (n.class_notes found k cs) ≡ length cs
classes_many found k [] = refl
classes_many found k (c ∷ cs) = omega (arith, classes_many found (suc k) cs)

declared_many : (found : Found) (k : ℕ) (bs : List Body) → length (n.declared found k bs) ≡ length bs
declared_many found k [] = refl
declared_many found k (b ∷ bs) = omega (arith, declared_many found (suc k) bs)

module _ (p : Program) (found : Found) (differ : ℕ → ℕ → Bool) where
  functions_many : (bs : List Body) (s : Spot) → length (funcs_from p differ bs s) ≡ length bs
  functions_many [] s = refl
  functions_many (b ∷ bs) s = omega (arith, functions_many bs (past s (c.body_piece p differ b s)))

  -- a body begins with the state of its function
  body : (code : Code) (k : ℕ) (b : Body) → Beside (c.body_piece p differ b)
      (n.body_walk p found differ code k b)
  body code k b =
      let h = both (trees p found differ b.body b.scope fresh) just_ends in
      record {
        count = λ s at x. h.count s at (Some (n.entry_state p found differ code k));
        deep = λ s at x. h.deep s at (Some (n.entry_state p found differ code k));
      }

  bodies : (code : Code) (k : ℕ) (bs : List Body) → Beside (c.bodies_from p differ bs)
      (n.bodies_from p found differ code k bs)
  bodies code k [] = none
  bodies code k (b ∷ bs) = both (body code k b) (bodies code (suc k) bs)

  whole : (code : Code) → length (n.whole p found differ code).states ≡ length (c.whole p differ).items
  whole code = omega (arith, (bodies code 0 (all_bodies p.items)).count first_spot 0 None)

  same_counts : (files : ℕ) → SameCounts (code_of p differ files) (n.notes_of p found differ
      (code_of p differ files))
  same_counts files =
      let code = code_of p differ files in
      let ds = default_bodies (defaults_in p.items) in
      record {
        classes = omega (arith, classes_many found 0 p.names.classes, length-map p.names.classes class_of);
        functions = omega (
          arith,
          functions_many (all_bodies p.items) first_spot,
          length-append (bodies_in p.items) ds,
          length-append (n.declared found 0 (bodies_in p.items))
              (map (n.default_note p found differ code) ds),
          declared_many found 0 (bodies_in p.items),
          length-map ds (n.default_note p found differ code),
        );
        spots = omega (
          arith,
          length-map (c.whole p differ).items item_op,
          length-map (n.whole p found differ code).states (option_map spot_of),
          whole code,
        );
      }

with_value_so : (q : Sort) (x y : Option State) → Exits q x (with_value q x y)
with_value_so q x None = inl refl
with_value_so q x (Some y) = inr refl

exits : (p : Program) (found : Found) (differ : ℕ → ℕ → Bool) (b : Tree) (sc : Scope) (a : Around) (at : ℕ)
    (x : Option State) → Exits (found.sort (number_of b)) x (walk p found differ b sc a at x).exit
exits p found differ (tree i pl s) sc a at x =
    with_value_so (found.sort i) x (shape_walk p found differ s i pl sc a at x).exit

pub one_for_each : OneForEach
one_for_each p found differ = record {
  trees = trees p found differ;
  exits = exits p found differ;
  whole = same_counts p found differ;
}
