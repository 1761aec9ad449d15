-- The bodies of a program stand in its code.
use Rattle.std.proofs.Common.{◌≡◌, ℕ, zero, suc, ◌≤◌, List, [], ◌∷◌, ◌++◌, length, map, Some, Bool, refl, subst, arith}
use Rattle.std.specs.Prelude.{slice_get}
use Rattle.std.proofs.Math.Nat.{le-max_left, le-max_right}
use Rattle.verse_tree.specs.Tree.{Tree}
use Rattle.verse_code.specs.declared.operations.Op.{Op}
use Rattle.verse_code.specs.declared.operations.Op.TheVariants as o
use Rattle.verse_code.specs.declared.codes.Func.{Func}
use Rattle.verse_code.specs.declared.codes.Code.{Code}
use Rattle.verse_meaning.specs.Programs.{Program}
use Rattle.verse_code_machine.specs.Frames.{fits}
use Rattle.lower_code.specs.Pieces.{Spot, Item, sure, leaving, Piece, past, joined, behind, deepest, one, ◌then◌}
use Rattle.lower_code.specs.Scopes.{Scope as Names}
use Rattle.lower_code.specs.Arounds.{fresh}
use Rattle.lower_code.specs.Lowering.{piece}
use Rattle.lower_code.specs.Programs.{Body, item_op, all_bodies, body_piece, bodies_from, func_of, funcs_from, first_spot, whole, code_of}
use Rattle.lower_code.proofs.Standing.{Entries, entries_first, entries_rest}
use Rattle.lower_simulation.proofs.Claims.{Way, Setting}
use Rattle.lower_simulation.proofs.Standing.{Stands, HasItems}
use Rattle.lower_simulation_runs.proofs.Firm.{Sures, and, one_firm}
use Rattle.lower_simulation_runs.proofs.FirmForms.{piece_firm}

-- items as operations of a code, from a on
abbrev pub Lie : List Op → List Item → ℕ → Type 0
Lie ops [] a = Unit {0}
Lie ops (i ∷ is) a = (slice_get ops a ≡ Some (item_op i)) × Lie ops is (suc a)

lie_later : (x : Op) (ops : List Op) (is : List Item) (a : ℕ) → Lie ops is a → Lie (x ∷ ops) is (suc a)
lie_later x ops [] a h = tt
lie_later x ops (i ∷ is) a h = (h.0, lie_later x ops is (suc a) h.1)

lie_all : (is : List Item) → Lie (map item_op is) is 0
lie_all [] = tt
lie_all (i ∷ is) = (refl, lie_later (item_op i) (map item_op is) is 0 (lie_all is))

lie_both : (ops : List Op) (is js : List Item) (a : ℕ) → Lie ops (is ++ js) a → Lie ops is a × Lie ops js (behind is a)
lie_both ops [] js a h = (tt, h)
lie_both ops (i ∷ is) js a h = let r = lie_both ops is js (suc a) h.1 in ((h.0, r.0), r.1)

entries_later : {A : Type 0} (x : A) (xs ys : List A) (n : ℕ) → Entries xs ys n → Entries (x ∷ xs) ys (suc n)
entries_later x xs [] n h = tt
entries_later x xs (y ∷ ys) n h = (h.0, entries_later x xs ys (suc n) h.1)

entries_all : {A : Type 0} (xs : List A) → Entries xs xs 0
entries_all [] = tt
entries_all (x ∷ xs) = (refl, entries_later x xs xs 0 (entries_all xs))

-- where nothing leaves a loop, that is so for all ways out of loops
lie_items : (out : Way) (ops : List Op) (is : List Item) (a : ℕ) → Sures is → Lie ops is a → HasItems out ops a is
lie_items out ops [] a p h = tt
lie_items out ops (sure x ∷ is) a p h = (h.0, lie_items out ops is (suc a) p h.1)
lie_items out ops (leaving n ∷ is) a p h = absurd p

none_deep : (is : List Item) → Sures is → deepest is ≤ 0
none_deep [] p = omega arith
none_deep (sure x ∷ is) p = none_deep is p
none_deep (leaving n ∷ is) p = absurd p

-- a piece lies in a code
pub record Lies (c : Code) (s : Spot) (p : Piece) : Type 0 where
  pub ops : Lie c.ops p.items s.at
  pub places : Entries c.places p.places s.place
  pub texts : Entries c.texts p.texts s.text

pub lies_both : {c : Code} {s : Spot} (p q : Piece) → Lies c s (joined p q) → Lies c s p × Lies c (past s p) q
lies_both {c} {s} p q h =
    let r = lie_both c.ops p.items q.items s.at h.ops in (
      record {
        ops = r.0;
        places = entries_first c.places p.places q.places s.place h.places;
        texts = entries_first c.texts p.texts q.texts s.text h.texts;
      },
      record {
        ops = r.1;
        places = entries_rest c.places p.places q.places s.place h.places;
        texts = entries_rest c.texts p.texts q.texts s.text h.texts;
      },
    )

-- the code of a function, whose body is x behind the names ss of its parameters
pub record Stood (z : Setting) (differ : ℕ → ℕ → Bool) (fc : Func) (x : Tree) (ss : Names) : Type 0 where
  pub begins : Spot
  pub ends : Spot
  pub way : Way
  pub entry : fc.entry ≡ begins.at
  pub params : fc.params ≡ length ss
  pub room : fc.params ≤ fc.locals
  pub stands : Stands z (fits []) fc.locals way begins ((piece z.program differ x ss fresh then one o.Return) begins) ends

module _ (p : Program) (differ : ℕ → ℕ → Bool) (files steps until : ℕ) where
  -- the run of the code of a program
  abbrev pub setting : Setting
  setting = record { program = p; code = code_of p differ files; steps = steps; until = until }

  abbrev code : Code
  code = code_of p differ files

  whole_lies : Lies code first_spot (whole p differ)
  whole_lies = record {
    ops = lie_all (whole p differ).items;
    places = entries_all (whole p differ).places;
    texts = entries_all (whole p differ).texts;
  }

  body_stands : (b : Body) (s : Spot) → Lies code s (body_piece p differ b s) →
      Stood setting differ (func_of p differ s b (body_piece p differ b s)) b.body b.scope
  body_stands b s h =
      let q : Piece = body_piece p differ b s in
      let firm = (and (piece_firm p differ b.body b.scope fresh refl) (one_firm o.Return)).sures s in
      let way : Way = record { label = 0; most = 0 } in
      record {
        begins = s;
        ends = past s q;
        way = way;
        entry = refl;
        params = refl;
        room = le-max_left (length b.scope) q.locals;
        stands = record {
          ops = lie_items way code.ops q.items s.at firm h.ops;
          places = h.places;
          texts = h.texts;
          fit = λ q i j. refl;
          room = le-max_right (length b.scope) q.locals;
          deep = none_deep q.items firm;
          ends = refl;
        };
      }

  -- each body of a list that lies in the code is the code of a function
  bodies_stand : (bs : List Body) (s : Spot) → Lies code s (bodies_from p differ bs s) → (i : ℕ) (b : Body) → slice_get bs i ≡ Some b →
      (fc : Func) × (slice_get (funcs_from p differ bs s) i ≡ Some fc) × Stood setting differ fc b.body b.scope
  bodies_stand [] s h i b e = cc
  bodies_stand (x ∷ bs) s h zero b e =
      let q = body_piece p differ x s in
      let r = lies_both q (bodies_from p differ bs (past s q)) h in (
        func_of p differ s x q,
        refl,
        subst (λ (b : Body). Stood setting differ (func_of p differ s x q) b.body b.scope) (some_is e)
            (body_stands x s r.0),
      )
    where
      some_is : {a c : Body} → Some a ≡ Some c → a ≡ c
      some_is e = cc
  bodies_stand (x ∷ bs) s h (suc i) b e =
      let q = body_piece p differ x s in
      let r = lies_both q (bodies_from p differ bs (past s q)) h in
      bodies_stand bs (past s q) r.1 i b e

  -- the code has a function for each body, at its place
  pub function_stands : (i : ℕ) (b : Body) → slice_get (all_bodies p.items) i ≡ Some b →
      (fc : Func) × (slice_get code.functions i ≡ Some fc) × Stood setting differ fc b.body b.scope
  function_stands i b e = bodies_stand (all_bodies p.items) first_spot whole_lies i b e
