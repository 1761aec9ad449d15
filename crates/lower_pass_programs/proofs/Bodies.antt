-- The states of all bodies pass, and each body begins with the state of its function's entry.
use Rattle.std.proofs.Common.{◌≡◌, ℕ, zero, suc, ◌+◌, ◌-◌, max, List, [], ◌∷◌, ◌++◌, length, Option, Some, None, Bool, false}
use Rattle.std.proofs.Common.{refl, sym, ap, ap₂, ◌∙◌, subst, arith}
use Rattle.std.specs.Prelude.{slice_get, option_map}
use Rattle.std.proofs.Math.Nat.{le-max_right}
use Rattle.std.proofs.lemmas.Option.{same_Some, none-some}
use Rattle.verse_tree.specs.Tree.{Tree}
use Rattle.verse_tree.specs.PostOrder.{post_order}
use Rattle.verse_code.specs.declared.codes.Func.{Func}
use Rattle.verse_code.specs.declared.codes.Code.{Code}
use Rattle.verse_code.specs.declared.operations.Op.TheVariants as o
use Rattle.verse_names_tables.specs.Names as table
use Rattle.verse_sorts.specs.Sorts as s
use Rattle.verse_sorts.specs.Sorts.{Sort}
use Rattle.verse_sorts.proofs.Fitting.{all_itself}
use Rattle.verse_meaning.specs.Programs.{Program}
use Rattle.verse_meaning.specs.Evaluating.{number_of}
use Rattle.verse_sound_rules.specs.Found as rules
use Rattle.verse_sound_rules.specs.Found.{Allowed}
use Rattle.verse_sound_rules.specs.Fine.{Fine}
use Rattle.verse_verify_kept.specs.Notes.{Notes, FuncNote, parent_of}
use Rattle.verse_verify_kept.specs.Rules as r
use Rattle.verse_verify_kept.specs.Rules.{Asked, asked, first_never, nones, ready_no}
use Rattle.verse_verify_faults.specs.Spots.{point_of}
use Rattle.verse_verify_faults.specs.Reading.{locals_of}
use Rattle.lower_code.specs.Pieces.{Spot, Piece, behind, past, one}
use Rattle.lower_code.specs.declared.arounds.Around.{Around}
use Rattle.lower_code.specs.Arounds.{fresh}
use Rattle.lower_code.specs.Scopes.{Scope}
use Rattle.lower_code.specs.Lowering.{piece}
use Rattle.lower_code.specs.Programs as c
use Rattle.lower_code.specs.Programs.{Body, body_piece, func_of, funcs_from}
use Rattle.lower_code.proofs.Standing.{Stands, first_stands, rest_stands}
use Rattle.lower_bounds.proofs.Lists.{Each}
use Rattle.lower_simulation_runs.specs.Programs.{NodeStands}
use Rattle.lower_notes.specs.States.{State, spot_of}
use Rattle.lower_notes.specs.Stretches.{Walk, ends}
use Rattle.lower_notes.specs.Noting.{walk}
use Rattle.lower_notes.specs.Programs as n
use Rattle.lower_notes.specs.Programs.{at_entry, params_of}
use Rattle.lower_notes.proofs.Counted as counted
use Rattle.lower_notes.proofs.Counted.{code_then, walk_then}
use Rattle.lower_notes.proofs.Forms.{trees}
use Rattle.lower_pass_states.proofs.Points.{pt, over}
use Rattle.lower_pass_states.proofs.Meeting.{no_value, Noted, AllSound, noted_point, stands_bare}
use Rattle.lower_pass_stretches.proofs.Begins.{Starts, starts, tree_begins}
use Rattle.lower_pass_stretches.proofs.Going.{Way, If, itself, behind_same, tables, everywhere, Lies, Steady, Going, then_goes}
use Rattle.lower_pass_stretches.proofs.Going.{noted_first, noted_rest, all_more}
use Rattle.lower_pass_stretches.proofs.Single.{ends_goes, IsValue}
use Rattle.lower_pass_stretches.proofs.Inside.{Inside}
use Rattle.lower_pass_forms.proofs.Applied.{noted_found}
use Rattle.lower_pass_programs.proofs.Declared as declared
use Rattle.lower_pass_programs.proofs.Entries.{Known, entry_inside}

-- nothing is asked of this state: no loop is left in the body of a function
abbrev no_state : State
no_state = record {
  func = 0;
  arm = None;
  locals = s.never ∷ [];
  stack = [];
  tries = [];
  block = None;
  outer = [];
  under = 0;
  defers = [];
}

module _ (p : Program) (found : rules.Found) (differ : ℕ → ℕ → Bool) (files : ℕ) where
  abbrev code : Code
  code = declared.code p found differ files

  abbrev notes : Notes
  notes = declared.notes p found differ files

  abbrev F : rules.Found
  F = noted_found notes found

  -- of each fine tree the states pass
  abbrev pub Knot : Type 0
  Knot = (b : Tree) → Each (NodeStands p) (post_order b) → (w : Way) (ts : List ℕ) (al : Allowed) (xs : table.Table)
      (sc : Scope) (z : Around) (x : Option State) → Fine p F al xs b →
      If x (Inside code notes F w ts al xs sc z) →
      Going code notes w ts x (piece p differ b sc z) (walk p found differ b sc z) itself
      (IsValue code notes (found.sort (number_of b)) x)

  -- ---- the body of a function

  module _ (knot : Knot) (g : ℕ) (b : Body) (k : Known p found differ files g b) (s : Spot)
      (is_func : slice_get code.functions g ≡ Some (func_of p differ s b (body_piece p differ b s))) where
    abbrev size : ℕ
    size = max (length b.scope) (body_piece p differ b s).locals

    abbrev w : Way
    w = record { out = 0; state = no_state; may_leave = false; size = size }

    abbrev entry : State
    entry = at_entry g k.note.params size

    abbrev walked : Walk
    walked = walk_then (walk p found differ b.body b.scope fresh) ends

    entry_is : n.entry_state p found differ code g ≡ entry
    entry_is = ap₂ (λ x f. at_entry g (params_of x) (locals_of code f)) k.is_note is_func

    tree_goes : Going code notes w [] (Some entry) (piece p differ b.body b.scope fresh)
        (walk p found differ b.body b.scope fresh) itself
        (IsValue code notes (found.sort (number_of b.body)) (Some entry))
    tree_goes = knot b.body k.stands w [] k.allowed k.names b.scope fresh (Some entry) k.fine (λ y e. subst
        (Inside code notes F w [] k.allowed k.names b.scope fresh)
        (same_Some entry y e) (entry_inside p found differ files w g b k))

    abbrev IsLeft : State → Type 0
    IsLeft = IsValue code notes (found.sort (number_of b.body)) (Some entry)

    abbrev left : State
    left = over (found.sort (number_of b.body) ∷ []) entry

    left_is : (z : State) → IsLeft z → left ≡ z
    left_is z h = ap (over (found.sort (number_of b.body) ∷ [])) (same_Some entry h.0 h.1.0) ∙ sym h.1.1

    steady : (z : State) → IsLeft z → Steady code notes [] z
    steady z h = subst (Steady code notes []) (left_is z h) (record {
      even = refl;
      names = refl;
      ready = ready_no;
      stood = stands_bare code notes g [] 0;
    })

    returns : (z : State) → IsLeft z → (i : ℕ) → Asked code notes i (pt z) o.Return
    returns z h i = subst (λ u. Asked code notes i (pt u) o.Return) (left_is z h)
        (asked (r.of_return refl refl refl refl refl k.is_note k.fits))

    body_goes : Going code notes w [] (Some entry) (body_piece p differ b) walked itself (λ z. Unit {0})
    body_goes = then_goes code notes (trees p found differ b.body b.scope fresh) tree_goes
        (λ u h. ends_goes code notes (one o.Return) (λ s. o.Return) (λ s. refl)
        (λ z e. steady z (h z e)) (λ z e s. returns z (h z e) s.at))

    module _ (stands : Stands (tables code notes) (everywhere code notes) 0 s (body_piece p differ b s))
        (states : Noted code notes s.at (walked s.at (Some entry)).states) where
      lies : Lies code notes w s (body_piece p differ b s) (walked s.at (Some entry))
      lies = record {
        stands = stands;
        states = states;
        left = λ m d h. no_value first_never;
        room = le-max_right (length b.scope) (body_piece p differ b s).locals;
      }

      body_sound : AllSound code notes s.at (walked s.at (Some entry)).states
      body_sound = (body_goes.goes s lies tt tt).1

      first_noted : slice_get notes.points s.at ≡ Some (point_of (option_map spot_of (Some entry)))
      first_noted = by _ (tree_begins p found differ b.body b.scope fresh s.at (Some entry)) states
        where
          by : {xs : List (Option State)} (ys : List (Option State)) → Starts (Some entry) xs →
              Noted code notes s.at (xs ++ ys) →
              slice_get notes.points s.at ≡ Some (point_of (option_map spot_of (Some entry)))
          by ys starts h = h.0

      body_begins : (note : FuncNote) → slice_get notes.functions g ≡ Some note →
          r.Begins code notes (func_of p differ s b (body_piece p differ b s)) g note
      body_begins note e =
          subst (r.Begins code notes (func_of p differ s b (body_piece p differ b s)) g)
          (same_Some _ _ (sym k.is_note ∙ e)) (record {
            point = pt entry;
            live = noted_point code notes entry s.at refl first_noted;
            func = refl;
            arm = refl;
            stack = refl;
            tries = refl;
            block = refl;
            outer = refl;
            under = refl;
            defers = refl;
            count = sym k.long;
            locals = subst (λ m. r.Each code notes
                (k.note.params ++ nones (size - m)) (k.note.params ++ nones (size - length k.note.params))) (sym k.long)
                (all_itself (parent_of notes) (k.note.params ++ nones (size - length k.note.params)));
          })

  -- ---- bodies in turn

  -- what is shown of them
  pub record Passed (k : ℕ) (s : Spot) (bs : List Body) (states : List (Option State)) : Type 0 where
    pub sound : AllSound code notes s.at states
    pub begins : (i : ℕ) (f : Func) (note : FuncNote) → slice_get (funcs_from p differ bs s) i ≡ Some f →
        slice_get notes.functions (i + k) ≡ Some note →
        r.Begins code notes f (i + k) note

  abbrev SoFar : List Body → ℕ → Type 0
  SoFar bs k = (i : ℕ) (b : Body) → slice_get bs i ≡ Some b → Known p found differ files (i + k) b

  abbrev Follow : List Func → ℕ → Type 0
  Follow fs k = (i : ℕ) (f : Func) → slice_get fs i ≡ Some f → slice_get code.functions (i + k) ≡ Some f

  later : (i k : ℕ) → suc i + k ≡ i + suc k
  later i k = omega arith

  first : (k : ℕ) → 0 + k ≡ k
  first k = omega arith

  module _ (knot : Knot) (b : Body) (bs : List Body) (k : ℕ) (s : Spot) (x : Option State) (known : SoFar (b ∷ bs) k)
      (follow : Follow (funcs_from p differ (b ∷ bs) s) k) where
    abbrev own : Piece
    own = body_piece p differ b s

    abbrev begun : State
    begun = n.entry_state p found differ code k

    abbrev of_body : State → List (Option State)
    of_body z = (walk_then (walk p found differ b.body b.scope fresh) ends s.at (Some z)).states

    abbrev of_rest : ℕ → List (Option State)
    of_rest i = (n.bodies_from p found differ code (suc k) bs i None).states

    here : Known p found differ files k b
    here = subst (λ g. Known p found differ files g b) (first k) (known 0 b refl)

    is_func : slice_get code.functions k ≡ Some (func_of p differ s b own)
    is_func = subst (λ g. slice_get code.functions g ≡ Some (func_of p differ s b own)) (first k)
        (follow 0 (func_of p differ s b own) refl)

    pub rest_known : SoFar bs (suc k)
    rest_known i d e = subst (λ g. Known p found differ files g d) (later i k) (known (suc i) d e)

    pub rest_follow : Follow (funcs_from p differ bs (past s own)) (suc k)
    rest_follow i f e = subst (λ g. slice_get code.functions g ≡ Some f) (later i k) (follow (suc i) f e)

    same : behind (of_body begun) s.at ≡ (past s own).at
    same = behind_same (of_body begun) own.items s.at
        (sym ((counted.both (trees p found differ b.body b.scope fresh) counted.just_ends).count s s.at (Some begun)))

    module _ (stands : Stands (tables code notes) (everywhere code notes) 0 s (c.bodies_from p differ (b ∷ bs) s))
        (states : Noted code notes s.at (of_body begun ++ of_rest (behind (of_body begun) s.at)))
      where
        abbrev other : Piece
        other = c.bodies_from p differ bs (past s own)

        own_noted : Noted code notes s.at (of_body (at_entry k here.note.params (max (length b.scope) own.locals)))
        own_noted = subst (λ z. Noted code notes s.at (of_body z)) (entry_is knot k b here s is_func)
            (noted_first code notes (of_body begun) (of_rest (behind (of_body begun) s.at)) s.at
            states)

        pub rest_noted : Noted code notes (past s own).at (of_rest (past s own).at)
        rest_noted = subst (λ i. Noted code notes i (of_rest i)) same
            (noted_rest code notes (of_body begun) (of_rest (behind (of_body begun) s.at)) s.at
            states)

        pub rest_stand : Stands (tables code notes) (everywhere code notes) 0 (past s own) other
        rest_stand = rest_stands own other stands

        pub more_pass : Passed (suc k) (past s own) bs (of_rest (past s own).at) →
            Passed k s (b ∷ bs) (of_body begun ++ of_rest (behind (of_body begun) s.at))
        more_pass h = record {
          sound = all_more code notes (of_body begun) (of_rest (behind (of_body begun) s.at)) s.at
              (subst (λ z. AllSound code notes s.at (of_body z))
              (sym (entry_is knot k b here s is_func))
              (body_sound knot k b here s is_func (first_stands own other stands) own_noted))
              (subst (λ i. AllSound code notes i (of_rest i)) (sym same) h.sound);
          begins = begins;
        }
          where
            begins : (i : ℕ) (f : Func) (note : FuncNote) → slice_get (funcs_from p differ (b ∷ bs) s) i ≡ Some f →
                slice_get notes.functions (i + k) ≡ Some note →
                r.Begins code notes f (i + k) note
            begins zero f note e i = subst (λ f. r.Begins code notes f (0 + k) note) (same_Some _ _ e)
                (subst (λ g. slice_get notes.functions g ≡ Some note →
                r.Begins code notes (func_of p differ s b own) g note) (sym (first k))
                (body_begins knot k b here s is_func (first_stands own other stands) own_noted note) i)
            begins (suc i) f note e j = subst (λ g. slice_get notes.functions g ≡ Some note →
                r.Begins code notes f g note) (sym (later i k)) (h.begins i f note e) j

  module _ (knot : Knot) where
    pub bodies_pass : (bs : List Body) (k : ℕ) (s : Spot) (x : Option State) → SoFar bs k →
        Follow (funcs_from p differ bs s) k →
        Stands (tables code notes) (everywhere code notes) 0 s (c.bodies_from p differ bs s) →
        Noted code notes s.at (n.bodies_from p found differ code k bs s.at x).states →
        Passed k s bs (n.bodies_from p found differ code k bs s.at x).states
    bodies_pass [] k s x known follow stands states =
        record { sound = tt; begins = λ i f note e. elim (none-some _ e) [ ] }
    bodies_pass (b ∷ bs) k s x known follow stands states = more_pass knot b bs k s x known follow stands states
        (bodies_pass bs (suc k) (past s (body_piece p differ b s)) None (rest_known knot b bs k s x known follow)
        (rest_follow knot b bs k s x known follow) (rest_stand knot b bs k s x known follow stands states)
        (rest_noted knot b bs k s x known follow stands states))
