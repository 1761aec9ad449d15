-- A clause of a `for`, with what comes behind it.
use Rattle.std.proofs.Common.{◌≡◌, ℕ, suc, ◌<◌, length, List, [], ◌∷◌, ◌++◌, Option, Some, None, Bool, true, false, refl, sym, ◌∙◌}
use Rattle.std.proofs.Common.{subst, ap, arith}
use Rattle.std.specs.Prelude.{option_map}
use Rattle.std.proofs.lemmas.Option.{none-some, same_Some}
use Rattle.verse_base.specs.declared.places.Place.{Place}
use Rattle.verse_tree.specs.Tree.{Bytes}
use Rattle.verse_tree.specs.declared.tables.Ref.TheVariants as ref
use Rattle.verse_code.specs.declared.codes.Code.{Code}
use Rattle.verse_code.specs.declared.operations.Op.TheVariants as o
use Rattle.verse_names_tables.specs.Names.{Table}
use Rattle.verse_sorts.specs.Sorts as s
use Rattle.verse_sorts.specs.Sorts.{Sort, IsKnown, Fits, FitAll, fit_more, to_none, from_never, fits_int, fits_span, fits_list, fits_map}
use Rattle.verse_sorts.specs.Sorts.{fits_tuple}
use Rattle.verse_sorts.proofs.Fitting.{fits_on}
use Rattle.verse_sorts_values.specs.Operands.{sorts}
use Rattle.verse_meaning.specs.Programs.{Program}
use Rattle.verse_meaning.specs.Residuals.{no_name, a_constant, a_variable, Generator, of_elements, of_entries, of_range}
use Rattle.verse_meaning.specs.Evaluating.{Statement, plain, defines, defers, generates}
use Rattle.verse_sound_rules.specs.Found as rules
use Rattle.verse_sound_rules.specs.Found.{Allowed, New, tried}
use Rattle.verse_sound_rules.specs.Fine as fine
use Rattle.verse_sound_rules.specs.Fine.{on_statement, stated_behind, defined_behind, generated_behind, Defines, Generates, TakesFrom}
use Rattle.verse_sound_rules.specs.Fine.{takes_elements, takes_entries, takes_range, domain_list, domain_map, domain_never}
use Rattle.verse_verify_kept.specs.Notes.{Notes, parent_of}
use Rattle.verse_verify_kept.specs.Rules.{Counted, never_counted, of_list, of_map, of_span, of_none}
use Rattle.lower_code.specs.Pieces as c
use Rattle.lower_code.specs.Pieces.{Maker}
use Rattle.lower_code.specs.declared.arounds.Around.{Around}
use Rattle.lower_code.specs.Arounds.{up, enclosed}
use Rattle.lower_code.specs.Scopes.{Scope, Slot, constant_at, variable_at, hidden}
use Rattle.lower_code.specs.Lowering as lower
use Rattle.lower_code.specs.Lowering.{with_generator}
use Rattle.lower_notes.specs.States.{State, with_local, takes_domain, pops}
use Rattle.lower_notes.specs.States as states
use Rattle.lower_notes.specs.Stretches as stretch
use Rattle.lower_notes.specs.Stretches.{Walk}
use Rattle.lower_notes.specs.Applied as walks
use Rattle.lower_notes.specs.Noting as noting
use Rattle.lower_notes.specs.Laws.{Beside}
use Rattle.lower_notes.proofs.Counted as counted
use Rattle.lower_notes.proofs.Counted.{code_then, walk_then}
use Rattle.lower_notes.proofs.Others.{binds}
use Rattle.lower_pass_states.proofs.Points.{over, drop_none}
use Rattle.lower_pass_states.proofs.Locals.{with_here}
use Rattle.lower_pass_states.proofs.Operands.{list_is_counted, map_is_counted}
use Rattle.lower_pass_stretches.proofs.Names.{Sees, constant_named, key_named, sees_constant, sees_hidden}
use Rattle.lower_pass_stretches.proofs.Going.{Way, If, itself, Going, then_goes}
use Rattle.lower_pass_stretches.proofs.Single.{IsValue}
use Rattle.lower_pass_stretches.proofs.Inside.{Inside, inside_up}
use Rattle.lower_pass_forms.proofs.Applied.{noted_found}
use Rattle.lower_pass_forms.proofs.Finishing.{IsOver}
use Rattle.lower_pass_blocks.proofs.Binding.{bound, sees_bound, sees_varying, constant_goes, variable_goes}
use Rattle.lower_pass_blocks.proofs.Stated.{weaker}
use Rattle.lower_pass_loops.proofs.Taking.{with_two, each_asked, range_asked}
use Rattle.lower_pass_loops.proofs.Generated.{new_before, new_behind, sees_turned}
use Rattle.lower_pass_loops.proofs.Levels.{Level, LevelGoes, PartGoes, Above, above_level, drop_level, level_bound}
use Rattle.lower_pass_loops.proofs.Generators.{below_with, Taken, kept_domain, kept_count, generator_goes}

-- the operands that the part of a generator leaves, the last one first, and the sort of its domain
pub data Operands : Generator → List Sort → Sort → Type 0 where
  of_domain : {x : Bytes} {d : Sort} → Operands (of_elements x) (d ∷ []) d
  of_keyed : {k x : Bytes} {d : Sort} → Operands (of_entries k x) (d ∷ []) d
  of_ends : {x : Bytes} {b e : Sort} → Operands (of_range x) (e ∷ b ∷ []) (s.tuple (sorts (b ∷ e ∷ [])))

module _ (p : Program) (found : rules.Found) (code : Code) (notes : Notes) where
  abbrev F : rules.Found
  F = noted_found notes found

  abbrev Fit : Sort → Sort → Type 0
  Fit = Fits (parent_of notes)

  -- ---- domains

  taken_never : (p q : Sort) → Taken code notes s.never p q
  taken_never p q = record {
    value = s.never;
    beside = s.never;
    many = 1;
    again = s.int;
    domain = of_none;
    first = from_never;
    second = from_never;
    kept = kept_count;
  }

  taken_of : {d whole each index : Sort} (p q : Sort) → fine.Domain whole each index → Fit d whole → Fit each p → Fit index q →
      Taken code notes d p q
  taken_of p q domain_list from_never f g = taken_never p q
  taken_of p q domain_list (fits_list h) f g = record {
    value = _;
    beside = s.int;
    many = 1;
    again = s.int;
    domain = of_list;
    first = fits_on (parent_of notes) h f;
    second = g;
    kept = kept_count;
  }
  taken_of p q domain_map from_never f g = taken_never p q
  taken_of p q domain_map (fits_map k h) f g = record {
    value = _;
    beside = _;
    many = 1;
    again = s.int;
    domain = of_map;
    first = fits_on (parent_of notes) h f;
    second = fits_on (parent_of notes) k g;
    kept = kept_count;
  }
  taken_of p q domain_never from_never f g = taken_never p q

  taken_span : (p : Sort) → Fit s.int p → Taken code notes s.span p s.none
  taken_span p f = record {
    value = s.int;
    beside = s.any;
    many = 0;
    again = s.span;
    domain = of_span fits_span;
    first = f;
    second = to_none;
    kept = kept_domain;
  }

  counted_of : {d whole each index : Sort} → fine.Domain whole each index → Fit d whole → Counted code notes d
  counted_of domain_list f = list_is_counted code notes f
  counted_of domain_map f = map_is_counted code notes f
  counted_of domain_never from_never = never_counted

  ends_fit : {b e : Sort} → Fit (s.tuple (sorts (b ∷ e ∷ []))) (s.tuple (sorts (s.int ∷ s.int ∷ []))) → Fit b s.int × Fit e s.int
  ends_fit (fits_tuple (fit_more f (fit_more g h))) = (f, g)

  module _ (w : Way) (ts : List ℕ) (al : Allowed) (a : Around) (list : ℕ) (given : Sort) where
    abbrev Levels : Table → Scope → Maker → Walk → Type 0
    Levels = LevelGoes F code notes w ts al a list given

    abbrev Part : Table → Scope → List Sort → Maker → Walk → Type 0
    Part = PartGoes F code notes w ts al a list given

    -- ---- names that are visible behind

    more : (k : ℕ) → k < suc k
    more k = omega arith

    constant_more : {this : Option ℕ} {xs : Table} {sc : Scope} (x : Bytes) (n : ℕ) → New x xs → F.is_var n ≡ false → (ls : List Sort) →
        length sc < length ls → Sees F this xs sc ls →
        Sees F this (xs ++ (x, ref.Local n) ∷ []) (constant_at x ∷ sc) (with_local (length sc) (F.sort n) ls)
    constant_more {sc = sc} x n new v ls h g = sees_constant F (with_local (length sc) (F.sort n) ls) x (ref.Local n) new
        (below_with (length sc) (F.sort n) ls) g (constant_named v (more (length sc)) (with_here (length sc) (F.sort n) ls h))

    key_more : {this : Option ℕ} {xs : Table} {sc : Scope} (k : Bytes) (n : ℕ) → New k xs → (ls : List Sort) →
        length sc < length ls → Sees F this xs sc ls →
        Sees F this (xs ++ (k, ref.Key n) ∷ []) (constant_at k ∷ sc) (with_local (length sc) (F.key n) ls)
    key_more {sc = sc} k n new ls h g = sees_constant F (with_local (length sc) (F.key n) ls) k (ref.Key n) new
        (below_with (length sc) (F.key n) ls) g (key_named (more (length sc)) (with_here (length sc) (F.key n) ls h))

    hidden_more : {this : Option ℕ} {xs : Table} {sc : Scope} (q : Sort) (ls : List Sort) → Sees F this xs sc ls →
        Sees F this xs (hidden ∷ sc) (with_local (length sc) q ls)
    hidden_more {sc = sc} q ls g = sees_hidden F (below_with (length sc) q ls) g

    -- ---- generators

    module _ (n : ℕ) (xs : Table) (sc : Scope) {inner rest : Maker} {part behind : Walk} (beside : Beside inner part)
        (beside_rest : Beside rest behind) where
      abbrev l : ℕ
      l = length sc

      -- what is shown of a generator
      abbrev Turning : Generator → Type 0
      Turning g = Levels xs sc (code_then inner (c.turning (lower.taking g l) l rest))
          (walk_then part (stretch.turning (noting.takes g l) (noting.turns g l (F.sort n) (F.key n)) behind))

      each_is : (d : Sort) (y : State) → takes_domain l (over (d ∷ []) y) ≡ bound (suc l) s.int (bound l d y)
      each_is d y = ap (λ st. record y { stack = st; locals = with_two l d s.int y.locals }) (drop_none y.stack)

      range_is : (b e : Sort) (y : State) → states.takes_range l (over (e ∷ b ∷ []) y) ≡ bound (suc l) s.int (bound l s.span y)
      range_is b e y = ap (λ st. record y { stack = st; locals = with_two l s.span s.int y.locals }) (drop_none y.stack)

      pub generates_go : (g : Generator) {ds : List Sort} {d : Sort} → Operands g ds d → Generates p F n xs d g →
          Part xs sc ds inner part → Levels (generated_behind g n xs) (with_generator g sc) rest behind → Turning g
      generates_go (of_elements x) {d = d} of_domain (takes_elements new v from) inner_goes rest_goes =
          generator_goes F code notes w ts al a list given xs sc d (d ∷ []) (o.Each l) (takes_domain l) (each_is d)
          (λ y even z m h i j. each_asked code notes y even l (counted_of from.is from.fits) m h i j) (F.sort n) s.none
          (taken_of (F.sort n) s.none from.is from.fits from.value to_none) (constant_at x) hidden
          (xs ++ (x, ref.Local n) ∷ []) (xs ++ (x, ref.Local n) ∷ [])
          (λ ls h g. constant_more x n new v ls h g) (λ ls h g. hidden_more s.none ls g) beside inner_goes beside_rest rest_goes
      generates_go (of_entries k x) {d = d} of_keyed (takes_entries new_k new v from fit) inner_goes rest_goes =
          generator_goes F code notes w ts al a list given xs sc d (d ∷ []) (o.Each l) (takes_domain l) (each_is d)
          (λ y even z m h i j. each_asked code notes y even l (counted_of from.is from.fits) m h i j) (F.sort n) (F.key n)
          (taken_of (F.sort n) (F.key n) from.is from.fits from.value fit) (constant_at x) (constant_at k)
          (xs ++ (x, ref.Local n) ∷ []) ((xs ++ (k, ref.Key n) ∷ []) ++ (x, ref.Local n) ∷ [])
          (λ ls h g. constant_more x n (new_before xs k x (ref.Key n) (ref.Local n) new_k new) v ls h g)
          (λ ls h g. sees_turned xs k x (ref.Key n) (ref.Local n) new_k new
          (key_more k n (new_behind xs k x (ref.Key n) (ref.Local n) new_k new) ls h g)) beside inner_goes beside_rest rest_goes
      generates_go (of_range x) (of_ends {b = b} {e = e}) (takes_range new v fit int) inner_goes rest_goes =
          generator_goes F code notes w ts al a list given xs sc s.span (e ∷ b ∷ []) (o.Range l) (states.takes_range l) (range_is b e)
          (λ y even z m h i j. range_asked code notes y even l (ends_fit fit).0 (ends_fit fit).1 m h i j) (F.sort n) s.none
          (taken_span (F.sort n) int) (constant_at x) hidden (xs ++ (x, ref.Local n) ∷ []) (xs ++ (x, ref.Local n) ∷ [])
          (λ ls h g. constant_more x n new v ls h g) (λ ls h g. hidden_more s.none ls g) beside inner_goes beside_rest rest_goes

    -- both ends of a range
    pub ends_part : (xs : Table) (sc : Scope) (b e : Sort) → IsKnown b → {f h : Maker} {g j : Walk} → Beside f g →
        ((i : ℕ) (z : Option State) → If z (Inside code notes F w (i ∷ ts) (tried al) xs sc (enclosed a)) →
        Going code notes w (i ∷ ts) z f g itself (IsValue code notes b z)) →
        ((i : ℕ) (z : Option State) → If z (Inside code notes F w (i ∷ ts) (tried al) xs sc (up (enclosed a))) →
        Going code notes w (i ∷ ts) z h j itself (IsValue code notes e z)) →
        Part xs sc (e ∷ b ∷ []) (code_then f h) (walk_then g j)
    ends_part xs sc b e known beside first second i u inside = then_goes code notes beside (first i u inside) (λ v low.
        weaker F code notes w (i ∷ ts) (tried al)
        (second i v (λ z k. let r = low z k in subst (Inside code notes F w (i ∷ ts) (tried al) xs sc (up (enclosed a))) (sym r.1.1)
        (inside_up code notes b known (inside r.0 r.1.0))))
        (λ z k. let r = low k.0 k.1.0 in (r.0, (r.1.0, k.1.1 ∙ ap (over (e ∷ [])) r.1.1))))

    -- ---- definitions

    -- a value above the local that a definition has written
    above_bound : {i : ℕ} {began : Option State} {xs : Table} {sc : Scope} (u : Option State) (slot : Slot) (ys : Table) (r q : Sort) →
        If u (Level F code notes w ts al a list given i began xs sc) →
        (length sc < w.size → If u (λ y. Sees F al.this ys (slot ∷ sc) (with_local (length sc) r y.locals))) → (z : State) →
        (length sc < w.size) × IsOver code notes (q ∷ []) (option_map (bound (length sc) r) u) z →
        Above F code notes w ts al a list given (q ∷ []) (Level F code notes w ts al a list given i began ys (slot ∷ sc)) z
    above_bound None slot ys r q level sees z h = absurd (none-some h.1.0 h.1.1.0)
    above_bound {sc = sc} (Some y) slot ys r q level sees z h = (
      bound (length sc) r y,
      (
        level_bound F code notes w ts al a list given slot ys r h.0 (level y refl) (sees h.0 y refl),
        h.1.1.1 ∙ ap (over (q ∷ [])) (sym (same_Some (bound (length sc) r y) h.1.0 h.1.1.0)),
      ),
    )

    module _ (n : ℕ) (xs : Table) (sc : Scope) {inner rest : Maker} {part behind : Walk} (beside : Beside inner part) (qi : Sort)
        (fit : Fit qi (F.sort n)) (inner_goes : Part xs sc (qi ∷ []) inner part) where
      pub constant_clause : (x : Bytes) → New x xs → F.is_var n ≡ false → IsKnown (F.sort n) →
          Levels (xs ++ (x, ref.Local n) ∷ []) (constant_at x ∷ sc) rest behind →
          Levels xs sc (code_then inner (code_then (lower.bind (a_constant x) (length sc)) (code_then (c.one o.Drop) rest)))
          (walk_then part (walk_then (walks.bind (a_constant x) (length sc) (F.sort n)) (walk_then (stretch.one (pops 1)) behind)))
      constant_clause x new v read rest_goes i began u level =
          let ys = xs ++ (x, ref.Local n) ∷ [] in
          let inside : If u (Inside code notes F w (i ∷ ts) (tried al) xs sc (enclosed a)) = λ z e. (level z e).inside in
          let sees : length sc < w.size →
          If u (λ y. Sees F al.this ys (constant_at x ∷ sc) (with_local (length sc) (F.sort n) y.locals)) =
          λ free. sees_bound F code notes w (i ∷ ts) (tried al) xs sc (enclosed a) u inside x n new v free in
          then_goes code notes beside (inner_goes i u inside) (λ v above.
          then_goes code notes (binds (a_constant x) (length sc) (F.sort n))
          (constant_goes F code notes w (i ∷ ts) (tried al) xs sc (enclosed a) u inside (F.sort n) (constant_at x) ys sees x qi read fit
          above)
          (λ z there. then_goes code notes counted.just
          (drop_level F code notes w ts al a list given (F.sort n)
          (λ t e. above_bound u (constant_at x) ys (F.sort n) (F.sort n) level sees t (there t e)))
          (λ t next. rest_goes i began t next)))

      pub variable_clause : (x : Bytes) (pl : Place) → New x xs → F.is_var n ≡ true →
          Levels (xs ++ (x, ref.Local n) ∷ []) (variable_at x ∷ sc) rest behind →
          Levels xs sc (code_then inner (code_then (lower.bind (a_variable x pl) (length sc)) (code_then (c.one o.Drop) rest)))
          (walk_then part (walk_then (walks.bind (a_variable x pl) (length sc) (F.sort n)) (walk_then (stretch.one (pops 1)) behind)))
      variable_clause x pl new v rest_goes i began u level =
          let ys = xs ++ (x, ref.Local n) ∷ [] in
          let r = s.var (F.sort n) in
          let inside : If u (Inside code notes F w (i ∷ ts) (tried al) xs sc (enclosed a)) = λ z e. (level z e).inside in
          let sees : length sc < w.size → If u (λ y. Sees F al.this ys (variable_at x ∷ sc) (with_local (length sc) r y.locals)) =
          λ free. sees_varying F code notes w (i ∷ ts) (tried al) xs sc (enclosed a) u inside x n new v free in
          then_goes code notes beside (inner_goes i u inside) (λ v above.
          then_goes code notes (binds (a_variable x pl) (length sc) (F.sort n))
          (variable_goes F code notes w (i ∷ ts) (tried al) xs sc (enclosed a) u inside r (variable_at x) ys sees x pl qi (F.sort n) refl
          fit above)
          (λ z there. then_goes code notes counted.just
          (drop_level F code notes w ts al a list given (F.sort n)
          (λ t e. above_bound u (variable_at x) ys r (F.sort n) level sees t (there t e)))
          (λ t next. rest_goes i began t next)))

    -- ---- clauses

    -- an expression
    plain_clause : (xs : Table) (sc : Scope) (q : Sort) {whole rest : Maker} {all behind : Walk} → Beside whole all →
        Part xs sc (q ∷ []) whole all → Levels xs sc rest behind →
        Levels xs sc (code_then whole (code_then (c.one o.Drop) rest)) (walk_then all (walk_then (stretch.one (pops 1)) behind))
    plain_clause xs sc q beside goes rest_goes i began u level = then_goes code notes beside (goes i u (λ z e. (level z e).inside))
        (λ v above. then_goes code notes counted.just (drop_level F code notes w ts al a list given q
        (above_level F code notes w ts al a list given (q ∷ []) level above)) (λ z next. rest_goes i began z next))

    -- what is shown of the parts of a clause, by what it is
    abbrev pub ClauseParts : ℕ → Table → Scope → (whole : Maker) → (all : Walk) → (inner : Maker) → (part : Walk) → Statement → Type 0
    ClauseParts n xs sc whole all inner part st = on_statement st ((q : Sort) × Part xs sc (q ∷ []) whole all)
        (λ y. (q : Sort) × Part xs sc (q ∷ []) inner part × Fit q (F.sort n) × Defines p F y n xs × IsKnown (F.sort n))
        (λ d. ⊥)
        (λ g. (ds : List Sort) × (d : Sort) × Operands g ds d × Part xs sc ds inner part × Generates p F n xs d g)

    pub clause_goes : (differ : ℕ → ℕ → Bool) (n : ℕ) (xs : Table) (sc : Scope) {whole inner : Maker} {all part : Walk}
        {rest : Scope → Maker} {behind : Scope → Walk} → Beside whole all → Beside inner part → ((z : Scope) → Beside (rest z) (behind z)) →
        (st : Statement) → ClauseParts n xs sc whole all inner part st →
        ((z : Scope) → Levels (stated_behind st n xs) z (rest z) (behind z)) →
        Levels xs sc (lower.claused p differ st sc whole inner rest)
        (noting.claused p found differ st (F.sort n) (F.key n) sc all part behind)
    unfolding lower.claused noting.claused
    clause_goes differ n xs sc beside beside_inner beside_rest plain h k = plain_clause xs sc h.0 beside h.1 (k sc)
    clause_goes differ n xs sc beside beside_inner beside_rest (defines no_name) h k = elim h.3 [ ]
    clause_goes differ n xs sc beside beside_inner beside_rest (defines (a_constant x)) h k =
        constant_clause n xs sc beside_inner h.0 h.2 h.1 x h.3.0 h.3.1 h.4 (k (constant_at x ∷ sc))
    clause_goes differ n xs sc beside beside_inner beside_rest (defines (a_variable x pl)) h k =
        variable_clause n xs sc beside_inner h.0 h.2 h.1 x pl h.3.0 h.3.1 (k (variable_at x ∷ sc))
    clause_goes differ n xs sc beside beside_inner beside_rest (defers d) h k = elim h [ ]
    clause_goes differ n xs sc beside beside_inner beside_rest (generates g) h k =
        generates_go n xs sc beside_inner (beside_rest (with_generator g sc)) g h.2 h.4 h.3 (k (with_generator g sc))
