-- The state at the entry of each body, and what is known of it.
use Rattle.std.proofs.Common.{◌≡◌, ℕ, zero, suc, ◌+◌, ◌-◌, ◌≤◌, List, [], ◌∷◌, ◌++◌, length, Option, Some, None, Bool, true, false}
use Rattle.std.proofs.Common.{refl, sym, ap, ◌∙◌, subst, arith, true≢false, append_assoc, length-append, inl, inr, ◌⊎◌}
use Rattle.std.specs.Prelude.{slice_get}
use Rattle.std.proofs.lemmas.Option.{same_Some, none-some}
use Rattle.verse_tree.specs.Tree.{Tree}
use Rattle.verse_tree.specs.ItemTree.{ParamTree, FieldTree}
use Rattle.verse_tree.specs.PostOrder.{post_order}
use Rattle.verse_tree.specs.declared.tables.Ref.TheVariants as ref
use Rattle.verse_code.specs.declared.codes.Code.{Code}
use Rattle.verse_names_tables.specs.Names.{Table}
use Rattle.verse_sorts.specs.Sorts as s
use Rattle.verse_sorts.specs.Sorts.{Sort, Fits}
use Rattle.verse_sorts.specs.Typing.{at}
use Rattle.verse_sorts.proofs.Fitting.{fits_itself}
use Rattle.verse_meaning.specs.Programs.{Program}
use Rattle.verse_meaning.specs.Evaluating.{number_of}
use Rattle.verse_meaning.specs.Forms.{this_name}
use Rattle.verse_sound_rules.specs.Found as rules
use Rattle.verse_sound_rules.specs.Found.{Allowed, Signature, in_function, in_default}
use Rattle.verse_sound_rules.specs.Forms.{IsDefault, is_default}
use Rattle.verse_sound_rules.specs.Fine.{Fine}
use Rattle.verse_sound_rules.specs.Programs.{params_behind, FineParams, FineFound, FineFunction}
use Rattle.verse_verify_kept.specs.Notes.{Notes, FuncNote, parent_of}
use Rattle.verse_verify_kept.specs.Rules.{nones, in_function as takes_failure, keeps_all, quiet_no, ready_no}
use Rattle.lower_code.specs.Arounds.{fresh}
use Rattle.lower_code.specs.Scopes.{Scope, constant_at}
use Rattle.lower_code.specs.Defaults.{defaults_in}
use Rattle.lower_code.specs.Programs.{Body, params_scope, bodies_in, default_body, default_bodies, all_bodies}
use Rattle.lower_notes.specs.Programs.{at_entry, signed, with_this}
use Rattle.lower_bounds.proofs.Lists.{Each}
use Rattle.lower_bounds.proofs.Bodies.{BodyHas}
use Rattle.lower_simulation_runs.specs.Programs.{Defined, a_function, a_method, tree_in, defined_in, NodeStands, NumbersAgree}
use Rattle.lower_simulation_runs.proofs.Placing.{default_of}
use Rattle.lower_sound.specs.Programs.{DefaultFound}
use Rattle.lower_pass_states.proofs.Locals.{Blank}
use Rattle.lower_pass_states.proofs.Meeting.{stands_bare}
use Rattle.lower_pass_stretches.proofs.Names.{Sees, constant_named, sees_nothing, sees_own, sees_constant}
use Rattle.lower_pass_stretches.proofs.Going.{Way}
use Rattle.lower_pass_stretches.proofs.Inside.{Inside, blocks_before}
use Rattle.lower_pass_forms.proofs.Applied.{noted_found}
use Rattle.lower_pass_programs.proofs.Numbers.{body_in, among_get, body_stands, fun_found}
use Rattle.lower_pass_programs.proofs.Telling.{param_sorts, HasThis, Told}
use Rattle.lower_pass_programs.proofs.Declared as declared
use Rattle.lower_pass_programs.proofs.Declared.{function_noted, default_noted, scope_long}

-- ---- parameters

next_at : {A : Type 0} (before : List A) (x : A) (more : List A) → at (before ++ (x ∷ more)) (length before) ≡ Some x
next_at [] x more = refl
next_at (y ∷ before) x more = next_at before x more

-- the locals from the n-th on are those of parameters
abbrev Holds : rules.Found → List Sort → ℕ → List ParamTree → Type 0
Holds f ls n [] = Unit {0}
Holds f ls n (x ∷ ps) = (at ls n ≡ Some (f.sort x.number)) × Holds f ls (suc n) ps

one_more : {A : Type 0} (before : List A) (x : A) → length (before ++ (x ∷ [])) ≡ suc (length before)
one_more [] x = refl
one_more (y ∷ before) x = ap suc (one_more before x)

holds : (f : rules.Found) (before : List Sort) (ps : List ParamTree) (more : List Sort) →
    Holds f (before ++ (param_sorts f ps ++ more)) (length before) ps
holds f before [] more = tt
holds f before (x ∷ ps) more =
    let q : Sort = f.sort x.number in (
      next_at before q (param_sorts f ps ++ more),
      subst (λ ls. Holds f ls (suc (length before)) ps) (append_assoc before (q ∷ []) (param_sorts f ps ++ more))
          (subst (λ n. Holds f ((before ++ (q ∷ [])) ++ (param_sorts f ps ++ more)) n ps) (one_more before q)
          (holds f (before ++ (q ∷ [])) ps more)),
    )

module _ (p : Program) (f : rules.Found) where
  sees_params : {this : Option ℕ} {xs : Table} {sc : Scope} {ls : List Sort} (ps : List ParamTree) (qs : List Sort) →
      FineParams p f xs ps qs → Holds f ls (length sc) ps → Sees f this xs sc ls →
      Sees f this (params_behind ps xs) (params_scope ps sc) ls
  sees_params [] [] h k g = g
  sees_params [] (q ∷ qs) h k g = elim h [ ]
  sees_params (x ∷ ps) [] h k g = elim h [ ]
  sees_params {sc = sc} {ls = ls} (x ∷ ps) (q ∷ qs) h k g = sees_params ps qs h.3 k.1
      (sees_constant f ls x.name (ref.Local x.number) h.1 (λ l i. refl) g (constant_named h.2 (omega arith) k.0))

nones_at : (n l : ℕ) (q : Sort) → at (nones n) l ≡ Some q → q ≡ s.none
nones_at zero l q e = elim (none-some _ e) [ ]
nones_at (suc n) zero q e = sym (same_Some _ _ e)
nones_at (suc n) (suc l) q e = nones_at n l q e

blank_behind : (qs : List Sort) (n m : ℕ) → m ≡ length qs → Blank m (qs ++ nones n)
blank_behind [] n m e l q h i = nones_at n l q i
blank_behind (a ∷ qs) n m e zero q h i = absurd (omega (arith, e, h))
blank_behind (a ∷ qs) n zero e (suc l) q h i = absurd (omega (arith, e))
blank_behind (a ∷ qs) n (suc m) e (suc l) q h i = blank_behind qs n m (omega (arith, e)) l q (omega (arith, h)) i

pub nones_many : (n : ℕ) → length (nones n) ≡ n
nones_many zero = refl
nones_many (suc n) = ap suc (nones_many n)

room_behind : (qs : List Sort) (n : ℕ) → n ≤ length (qs ++ nones (n - length qs))
room_behind qs n = enough _ n (length qs)
    (length-append qs (nones (n - length qs)) ∙ ap (λ k. length qs + k) (nones_many (n - length qs)))
  where
    enough : (k n m : ℕ) → k ≡ m + (n - m) → n ≤ k
    enough k n m e = omega (arith, e)

module _ (p : Program) (found : rules.Found) (differ : ℕ → ℕ → Bool) (files : ℕ) where
  abbrev code : Code
  code = declared.code p found differ files

  abbrev notes : Notes
  notes = declared.notes p found differ files

  abbrev F : rules.Found
  F = noted_found notes found

  -- what is known of the function of a number and of its body
  pub record Known (g : ℕ) (b : Body) : Type 0 where
    pub note : FuncNote
    pub is_note : slice_get notes.functions g ≡ Some note
    pub allowed : Allowed
    pub names : Table
    pub fine : Fine p F allowed names b.body
    pub stands : Each (NodeStands p) (post_order b.body)
    pub sees : (more : List Sort) → Sees F allowed.this names b.scope (note.params ++ more)
    pub long : length b.scope ≡ length note.params
    pub fits : Fits (parent_of notes) (found.sort (number_of b.body)) note.result
    pub returns : (r : Sort) → allowed.result ≡ Some r → note.result ≡ r
    pub stays : allowed.breaks ≡ false
    pub fails : allowed.fails ≡ true → note.may_fail ≡ true
    pub waits : allowed.waits ≡ true → note.may_wait ≡ true

  -- the state at its entry
  pub entry_inside : (w : Way) (g : ℕ) (b : Body) (k : Known g b) → Inside code notes F w []
      k.allowed k.names b.scope fresh (at_entry g k.note.params w.size)
  entry_inside w g b k = record {
    even = refl;
    names = refl;
    stood = stands_bare code notes g [] 0;
    blocks = blocks_before ready_no;
    count = refl;
    order = (omega arith, omega arith);
    keeps = keeps_all refl;
    sees = k.sees (nones (w.size - length k.note.params));
    blank = blank_behind k.note.params (w.size - length k.note.params) (length b.scope) k.long;
    quiet = λ l h. quiet_no;
    room = room_behind k.note.params w.size;
    fails = λ e. takes_failure refl refl k.is_note (k.fails e);
    waits = λ e. record { tries = refl; block = refl; func = k.note; is_func = k.is_note; holds = k.waits e };
    returns = λ r e. record {
      may = refl;
      base = refl;
      arm = refl;
      block = refl;
      tries = refl;
      under = refl;
      func = k.note;
      is_func = k.is_note;
      result = k.returns r e;
    };
    breaks = λ e. absurd (true≢false (sym e ∙ k.stays));
  }

  -- ---- functions and methods

  module _ (told : Told p found) (numbers : NumbersAgree p) (fine : FineFound p F) where
    -- the object of a method, and what is visible
    params_seen : (g : ℕ) (d : Defined) (t : Option ℕ) (more : List Sort) → HasThis d t →
        FineParams p F [] (tree_in d).params (param_sorts found (tree_in d).params) →
        Sees F t (params_behind (tree_in d).params []) (body_in d).scope
        (with_this t (param_sorts found (tree_in d).params) ++ more)
    params_seen g (a_function x) t more h ps =
        let qs : List Sort = param_sorts found x.params in
        subst (λ t. Sees F t (params_behind x.params []) (params_scope x.params []) (with_this t qs ++ more)) (sym h)
        (sees_params p F x.params qs ps (holds F [] x.params more) (sees_nothing F [] (qs ++ more)))
    params_seen g (a_method x) t more h ps =
        let qs : List Sort = param_sorts found x.params in
        let sc : Scope = constant_at this_name ∷ [] in
        subst (λ t. Sees F t (params_behind x.params []) (params_scope x.params sc) (with_this t qs ++ more)) (sym h.1)
        (sees_params p F x.params qs ps (holds F (s.obj h.0 ∷ []) x.params more)
        (sees_own F h.0 (s.obj h.0 ∷ qs ++ more) refl))

    function_known : (g : ℕ) (d : Defined) → slice_get (defined_in p.items) g ≡ Some d →
        slice_get (bodies_in p.items) g ≡ Some (body_in d) → BodyHas (NodeStands p) (body_in d) →
        FineFunction p F g (tree_in d) → Known g (body_in d)
    function_known g d e i h k =
        let sig : Signature = found.signature g in
        let same = told.params g (tree_in d) (fun_found p numbers g d e) in
        record {
          note = signed sig;
          is_note = function_noted p found differ files g (body_in d) i;
          allowed = in_function sig sig.lasts;
          names = params_behind (tree_in d).params [];
          fine = of_body _ d (k.body sig.lasts (λ l. l));
          stands = h;
          sees = λ more. subst (λ qs. Sees F sig.this (params_behind (tree_in d).params []) (body_in d).scope
              (with_this sig.this qs ++ more)) (sym same) (params_seen g d sig.this more (told.this g d e)
              (subst (λ qs. FineParams p F [] (tree_in d).params qs) same k.params));
          long = scope_long p found differ files numbers told g d e (fun_found p numbers g d e);
          fits = of_result d k.result;
          returns = λ r q. same_Some _ _ q;
          stays = refl;
          fails = λ q. q;
          waits = λ q. q;
        }
      where
        of_body : (al : Allowed) (d : Defined) → Fine p F al (params_behind (tree_in d).params []) (tree_in d).body →
            Fine p F al (params_behind (tree_in d).params []) (body_in d).body
        of_body al (a_function x) h = h
        of_body al (a_method x) h = h

        of_result : (d : Defined) →
            Fits (parent_of notes) (found.sort (number_of (tree_in d).body)) (found.signature g).result →
            Fits (parent_of notes) (found.sort (number_of (body_in d).body)) (found.signature g).result
        of_result (a_function x) h = h
        of_result (a_method x) h = h

    -- ---- defaults

    noted_default : (b : Tree) (q : Sort) → IsDefault p found b q → IsDefault p F b q
    noted_default b q (is_default c i d e h k) = is_default c i d e h k

    default_known : (g j : ℕ) (b : Tree) → g ≡ j + length (bodies_in p.items) →
        slice_get (default_bodies (defaults_in p.items)) j ≡ Some (default_of b) →
        Each (NodeStands p) (post_order b) → (q : Sort) × IsDefault p found b q →
        Known g (default_of b)
    default_known g j b e i h d = record {
      note = record { params = []; result = found.sort (number_of b); may_fail = false; may_wait = false };
      is_note = default_noted p found differ files g j (default_of b) e i;
      allowed = in_default false;
      names = [];
      fine = (fine.defaults b d.0 (noted_default b d.0 d.1)).value false;
      stands = h;
      sees = λ more. sees_nothing F [] more;
      long = refl;
      fits = fits_itself (parent_of notes) (found.sort (number_of b));
      returns = λ r q. elim (none-some _ q) [ ];
      stays = refl;
      fails = λ q. q;
      waits = λ q. q;
    }

    -- a body of a default is that of a field
    abbrev IsField : Body → Type 0
    IsField b = (t : Tree) × ((default_of t ≡ b) × ((q : Sort) × IsDefault p found t q))

    default_in : (j : ℕ) (b : Body) (ds : List FieldTree) → Each (DefaultFound p found) ds →
        slice_get (default_bodies ds) j ≡ Some b → IsField b
    default_in j b [] m e = elim (none-some _ e) [ ]
    default_in j b (d ∷ ds) m e = by d.default m.0 (λ i k. default_in i b ds m.1 k)
        (among_get (default_body d.default) (default_bodies ds) j b e)
      where
        one_default : (t : Tree) (j : ℕ) → slice_get (default_body (Some t)) j ≡ Some b → default_of t ≡ b
        one_default t zero e = same_Some _ _ e
        one_default t (suc j) e = elim (none-some _ e) [ ]

        by : (o : Option Tree) → ((t : Tree) → o ≡ Some t → (q : Sort) × IsDefault p found t q) →
            ((i : ℕ) → slice_get (default_bodies ds) i ≡ Some b → IsField b) →
            (slice_get (default_body o) j ≡ Some b) ⊎
            ((i : ℕ) × ((j ≡ i + length (default_body o)) × (slice_get (default_bodies ds) i ≡ Some b))) →
            IsField b
        by None k more (inl e) = elim (none-some _ e) [ ]
        by (Some t) k more (inl e) = (t, (one_default t j e, k t refl))
        by o k more (inr e) = more e.0 e.1.1

    -- ---- all bodies

    module _ (defaults : Each (DefaultFound p found) (defaults_in p.items))
        (nodes : (g : ℕ) (b : Body) → slice_get (all_bodies p.items) g ≡ Some b → BodyHas (NodeStands p) b) where
      pub body_known : (g : ℕ) (b : Body) → slice_get (all_bodies p.items) g ≡ Some b → Known g b
      body_known g b e = by (among_get (bodies_in p.items) (default_bodies (defaults_in p.items)) g b e)
        where
          by : (slice_get (bodies_in p.items) g ≡ Some b) ⊎ ((j : ℕ) × ((g ≡ j + length (bodies_in p.items)) ×
              (slice_get (default_bodies (defaults_in p.items)) j ≡ Some b))) → Known g b
          by (inl i) =
              let d = body_stands p numbers g b i in
              subst (λ b. Known g b) d.1.1 (function_known g d.0 d.1.0 (i ∙ ap (λ (z : Body). Some z) (sym d.1.1))
              (subst (λ b. BodyHas (NodeStands p) b) (sym d.1.1) (nodes g b e))
              (fine.functions g (tree_in d.0) (fun_found p numbers g d.0 d.1.0)))
          by (inr i) =
              let d = default_in i.0 b (defaults_in p.items) defaults i.1.1 in
              subst (λ b. Known g b) d.1.0
              (default_known g i.0 d.0 i.1.0 (i.1.1 ∙ ap (λ (z : Body). Some z) (sym d.1.0))
              (subst (λ b. BodyHas (NodeStands p) b) (sym d.1.0) (nodes g b e)) d.1.1)
