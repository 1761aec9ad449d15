-- Operators, literals and values that are made: what their forms need.
use Rattle.std.proofs.Common.{◌≡◌, ℕ, Bool, true, false, ◌||◌, List, [], ◌∷◌, Option, refl, sym, subst, ap}
use Rattle.std.specs.Prelude.{Some, None}
use Rattle.std.proofs.lemmas.Bool.{not-false}
use Rattle.verse_base.specs.declared.places.Place.{Place}
use Rattle.verse_base.proofs.Facts.{and_first, and_second, guarded}
use Rattle.verse_tree.specs.Tree.{Bytes, Tree, tree, Shape, Trees, no_trees, more_trees, Holes, no_holes, more_holes, Pairs}
use Rattle.verse_tree.specs.Tree.{no_pairs, more_pairs}
use Rattle.verse_tree.specs.Tree as t
use Rattle.verse_tree.specs.ItemTree.{ItemTree}
use Rattle.verse_rules_types.specs.Types.{Ty}
use Rattle.verse_rules_types.specs.Types as ty
use Rattle.verse_rules_types.specs.Fitting.{fits, join}
use Rattle.verse_rules_types.specs.Kinds.{is_key}
use Rattle.verse_rules_walk.specs.Around.{Around}
use Rattle.verse_names_tables.specs.Names.{Table}
use Rattle.verse_names_scopes.specs.Visible.{World}
use Rattle.verse_check_typing.specs.Facts.{Facts, type_of}
use Rattle.verse_check_typing.specs.Keys.{has_keys}
use Rattle.verse_check_typing.specs.Parts.{types_of, joined_from, keys_from, values_from, last_from, or_void, is_int}
use Rattle.verse_check_typing.specs.Parts.{can_query}
use Rattle.verse_check_typing.specs.Parts.{have_texts, has_text}
use Rattle.verse_meaning.specs.Residuals as form
use Rattle.verse_meaning.specs.Programs.{pieces}
use Rattle.verse_sorts.specs.Sorts as s
use Rattle.verse_sorts.specs.Sorts.{Sort, Fits, IsKey}
use Rattle.verse_sorts.specs.Typing.{AllFit, fit_no, fit_so}
use Rattle.verse_sorts.proofs.Fitting.{fits_on, fits_itself, all_itself}
use Rattle.verse_sorts_types.specs.SortOf.{sort_of, sorts_of}
use Rattle.verse_sorts_types.proofs.Fitting as fitting
use Rattle.verse_sorts_types.proofs.Joining.{join_both}
use Rattle.verse_sorts_values.specs.Operands.{sorts, never_here, Every, every_no, every_so, Entries, entries_no}
use Rattle.verse_sorts_values.specs.Operands.{entries_so}
use Rattle.verse_sorts_values.specs.Operands.{Shown, shows_int, shows_char, shows_text, AllShown, shown_no, shown_so}
use Rattle.verse_sound_rules.specs.Found.{Allowed}
use Rattle.verse_sound_rules.specs.Forms.{Gives}
use Rattle.verse_sound_rules.specs.Forms as takes
use Rattle.verse_sound_rules.specs.Fine.{sort_at, sorts_at, hole_sorts, pair_sorts, last_sort, PairsFit, IsMap, is_map}
use Rattle.verse_accept_rows.specs.Found.{final}
use Rattle.verse_accept_fine.specs.Sorted.{At, ty_at, all_classes, up, sorted, program, Allows}
use Rattle.verse_accept_fine.proofs.Base.{types, effects, its_row, its_sort, is_row}

module _ (is : List ItemTree) (arrays events : ℕ → Bool) where
  abbrev F : Facts
  F = final is

  -- the sort of a part is that of its type
  pub part_sort : (e : Tree) → sort_at (program is arrays events) (sorted is) e ≡ sort_of (type_of F e)
  part_sort (tree n p x) = refl

  -- ---- lists of parts

  -- of the last of several
  last_is : (o : Option ℕ) (es : Trees) →
      last_sort (program is arrays events) (sorted is) (sort_of (or_void F o)) es ≡ sort_of (or_void F (last_from o es))
  last_is o no_trees = refl
  last_is o (more_trees (tree n p x) es) = last_is (Some n) es

  pub last_row : (es : Trees) → last_sort (program is arrays events) (sorted is) s.any es ≡ sort_of (or_void F (last_from None es))
  last_row es = last_is None es

  pub tuple_sorts : (es : Trees) → sorts (sorts_at (program is arrays events) (sorted is) es) ≡ sorts_of (types_of F es)
  tuple_sorts no_trees = refl
  tuple_sorts (more_trees (tree n p x) es) = ap (s.more_sorts (sort_of (type_of F (tree n p x)))) (tuple_sorts es)

  -- a type fits what it is joined to with more, and so do the others
  join_grows : (u : Ty) (es : Trees) → Fits (up is) (sort_of u) (sort_of (joined_from F u es))
  join_grows u no_trees = fits_itself (up is) (sort_of u)
  join_grows u (more_trees e es) =
      fits_on (up is) (join_both (all_classes is) u (type_of F e)).0 (join_grows (join (all_classes is) u (type_of F e)) es)

  -- as many times one sort
  abbrev pub alike : Sort → Trees → List Sort
  alike q no_trees = []
  alike q (more_trees e es) = q ∷ alike q es

  pub all_alike : (q : Sort) (es : Trees) → Every q (alike q es)
  all_alike q no_trees = every_no
  all_alike q (more_trees e es) = every_so (all_alike q es)

  joined_fit : (u : Ty) (es : Trees) →
      AllFit (up is) (sorts_at (program is arrays events) (sorted is) es) (alike (sort_of (joined_from F u es)) es)
  joined_fit u no_trees = fit_no
  joined_fit u (more_trees (tree n p x) es) =
      let v = join (all_classes is) u (type_of F (tree n p x)) in
      fit_so (fits_on (up is) (join_both (all_classes is) u (type_of F (tree n p x))).1 (join_grows v es)) (joined_fit v es)

  keys_grow : (u : Ty) (ps : Pairs) → Fits (up is) (sort_of u) (sort_of (keys_from F u ps))
  keys_grow u no_pairs = fits_itself (up is) (sort_of u)
  keys_grow u (more_pairs k e ps) =
      fits_on (up is) (join_both (all_classes is) u (type_of F k)).0 (keys_grow (join (all_classes is) u (type_of F k)) ps)

  values_grow : (u : Ty) (ps : Pairs) → Fits (up is) (sort_of u) (sort_of (values_from F u ps))
  values_grow u no_pairs = fits_itself (up is) (sort_of u)
  values_grow u (more_pairs k e ps) =
      fits_on (up is) (join_both (all_classes is) u (type_of F e)).0 (values_grow (join (all_classes is) u (type_of F e)) ps)

  abbrev pairs_alike : Sort → Sort → Pairs → List Sort
  pairs_alike k q no_pairs = []
  pairs_alike k q (more_pairs a e ps) = k ∷ q ∷ pairs_alike k q ps

  all_entries : (k q : Sort) (ps : Pairs) → Entries k q (pairs_alike k q ps)
  all_entries k q no_pairs = entries_no
  all_entries k q (more_pairs a e ps) = entries_so (all_entries k q ps)

  pairs_fit : (k v : Ty) (ps : Pairs) → AllFit (up is) (pair_sorts (program is arrays events) (sorted is) ps)
      (pairs_alike (sort_of (keys_from F k ps)) (sort_of (values_from F v ps)) ps)
  pairs_fit k v no_pairs = fit_no
  pairs_fit k v (more_pairs (tree n p x) (tree m q y) ps) =
      let k2 = join (all_classes is) k (type_of F (tree n p x)) in
      let v2 = join (all_classes is) v (type_of F (tree m q y)) in
      fit_so (fits_on (up is) (join_both (all_classes is) k (type_of F (tree n p x))).1 (keys_grow k2 ps))
      (fit_so (fits_on (up is) (join_both (all_classes is) v (type_of F (tree m q y))).1 (values_grow v2 ps)) (pairs_fit k2 v2 ps))

  each_pair : (k v : Ty) (ps : Pairs) →
      PairsFit (program is arrays events) (sorted is) (sort_of (keys_from F k ps)) (sort_of (values_from F v ps)) ps
  each_pair k v no_pairs = tt
  each_pair k v (more_pairs (tree n p x) (tree m q y) ps) =
      let k2 = join (all_classes is) k (type_of F (tree n p x)) in
      let v2 = join (all_classes is) v (type_of F (tree m q y)) in (
        fits_on (up is) (join_both (all_classes is) k (type_of F (tree n p x))).1 (keys_grow k2 ps),
        fits_on (up is) (join_both (all_classes is) v (type_of F (tree m q y))).1 (values_grow v2 ps),
        each_pair k2 v2 ps,
      )

  pub key_sort : (u : Ty) → is_key u ≡ true → IsKey (sort_of u)
  key_sort ty.never h = s.key_never
  key_sort ty.nil h = s.key_nil
  key_sort ty.int h = s.key_int
  key_sort ty.logic h = s.key_logic
  key_sort ty.char h = s.key_char
  key_sort (ty.enum e) h = s.key_enum
  key_sort (ty.array ty.char) h = s.key_text
  key_sort (ty.array u) h = absurd (cc)
  key_sort u h = absurd (cc)

  -- ---- texts

  pub record Text (u : Ty) : Type 0 where
    pub shown : Sort
    pub fits : Fits (up is) (sort_of u) shown
    pub has : Shown shown

  text_of : (u : Ty) → has_text (all_classes is) u ≡ true → Text u
  text_of u h = by (is_int u) refl (fits (all_classes is) u ty.char) refl (fits (all_classes is) u ty.string) refl h
    where
      int_text : (u : Ty) → is_int u ≡ true → Text u
      int_text ty.int h = record { shown = s.int; fits = s.fits_int; has = shows_int }
      int_text ty.never h = record { shown = s.int; fits = s.from_never; has = shows_int }
      int_text u h = absurd (cc)

      by : (a : Bool) → is_int u ≡ a → (b : Bool) → fits (all_classes is) u ty.char ≡ b → (d : Bool) →
          fits (all_classes is) u ty.string ≡ d →
          (a || b || d) ≡ true → Text u
      by true e b f d g h = int_text u e
      by false e true f d g h = record { shown = s.char; fits = fitting.fits_sort (all_classes is) u ty.char f; has = shows_char }
      by false e false f true g h = record {
        shown = s.list s.char;
        fits = fitting.fits_sort
            (all_classes is) u ty.string g;
        has = shows_text;
      }
      by false e false f false g h = absurd (cc)

  pub record Texts (hs : Holes) : Type 0 where
    pub shown : List Sort
    pub fit : AllFit (up is) (hole_sorts (program is arrays events) (sorted is) hs) shown
    pub are : AllShown shown

  texts_of : (hs : Holes) → have_texts F hs ≡ true → Texts hs
  texts_of no_holes h = record { shown = []; fit = fit_no; are = shown_no }
  texts_of (more_holes (tree n p x) bs hs) h =
      let one = text_of (type_of F (tree n p x)) (and_first (has_text (all_classes is) (type_of F (tree n p x))) (have_texts F hs) h) in
      let rest = texts_of hs (and_second (has_text (all_classes is) (type_of F (tree n p x))) (have_texts F hs) h) in
      record { shown = one.shown ∷ rest.shown; fit = fit_so one.fits rest.fit; are = shown_so one.has rest.are }

  -- ---- numbers

  pub int_fits : (u : Ty) → is_int u ≡ true → Fits (up is) (sort_of u) s.int
  int_fits ty.int h = s.fits_int
  int_fits ty.never h = s.from_never
  int_fits u h = absurd (cc)

  -- ---- forms

  module _ (w : World) (a : Around) (xs : Table) (b : Allowed) (allows : Allows is w a b) (n : ℕ) (p : Place) where
    abbrev Give : form.Form → List Sort → Type 0
    Give x qs = Gives (program is arrays events) (sorted is) b xs x qs (sort_of (ty_at is n))

    -- what can fail is caught
    pub caught : (x : Shape) → At is w a xs n p x →
        Rattle.verse_effects.specs.Forms.can_fail (Rattle.verse_rules.specs.Sound.completed is) a x ≡ true →
        b.fails ≡ true
    caught x h e = allows.fails (guarded _ a.is_caught (effects is w a xs n p x h).caught e)

    pub block_fits : (ts : Trees) → At is w a xs n p (t.Shape.block ts) →
        Fits (up is) (last_sort (program is arrays events) (sorted is) s.any ts) (sort_of (ty_at is n))
    block_fits ts h =
        subst (λ q. Fits (up is) q (sort_of (ty_at is n))) (sym (last_row ts)) (is_row is n _ (its_row is w a xs n p (t.Shape.block ts) h))

    pub definition_gives : (x : Bytes) (e : Tree) → At is w a xs n p (t.Shape.definition x e) →
        Give form.defining (sort_of (type_of F e) ∷ [])
    definition_gives x (tree m q y) h = record {
      no_case = tt;
      taken = sort_of (ty_at is m) ∷ [];
      given = sort_of (ty_at is m);
      operands = all_itself (up is) (sort_of (ty_at is m) ∷ []);
      takes = takes.takes_defined;
      value = is_row is n _ (its_row is w a xs n p (t.Shape.definition x (tree m q y)) h);
    }

    pub option_fits : (ts : Trees) → At is w a xs n p (t.Shape.option ts) →
        Fits (up is) (s.opt (last_sort (program is arrays events) (sorted is) s.any ts)) (sort_of (ty_at is n))
    option_fits ts h =
        subst (λ q. Fits (up is) (s.opt q) (sort_of (ty_at is n))) (sym (last_row ts)) (is_row is n _ (its_row is w a xs n p
        (t.Shape.option ts) h))

    pub tuple_gives : (ts : Trees) → At is w a xs n p (t.Shape.tuple ts) →
        Give (form.making_tuple p) (sorts_at (program is arrays events) (sorted is) ts)
    tuple_gives ts h =
        let qs = sorts_at (program is arrays events) (sorted is) ts in
        record {
          no_case = tt;
          taken = qs;
          given = s.tuple (sorts qs);
          operands = all_itself (up is) qs;
          takes = takes.takes_tuple;
          value = subst (λ r. Fits (up is) (s.tuple r) (sort_of (ty_at is n))) (sym (tuple_sorts ts)) (is_row is n _
              (its_row is w a xs n p (t.Shape.tuple ts) h));
        }

    pub array_gives : (ts : Trees) → At is w a xs n p (t.Shape.array ts) →
        Give (form.making_array p) (sorts_at (program is arrays events) (sorted is) ts)
    array_gives ts h =
        let q = sort_of (joined_from F ty.never ts) in
        record {
          no_case = tt;
          taken = alike q ts;
          given = s.list q;
          operands = joined_fit ty.never ts;
          takes = takes.takes_array (all_alike q ts);
          value = is_row is n _ (its_row is w a xs n p (t.Shape.array ts) h);
        }

    pub mapping_gives : (ps : Pairs) → At is w a xs n p (t.Shape.mapping ps) →
        Give (form.making_map p) (pair_sorts (program is arrays events) (sorted is) ps)
    mapping_gives ps h =
        let k = keys_from F ty.never ps in
        let v = values_from F ty.never ps in
        let keys = not-false (has_keys (ty.mapping k v)) (types is w a xs n p (t.Shape.mapping ps) h).keyed in
        record {
          no_case = tt;
          taken = pairs_alike (sort_of k) (sort_of v) ps;
          given = s.map (sort_of k) (sort_of v);
          operands = pairs_fit ty.never ty.never ps;
          takes = takes.takes_map (key_sort k (and_first (is_key k) (has_keys v) keys)) (all_entries (sort_of k) (sort_of v) ps);
          value = is_row is n _ (its_row is w a xs n p (t.Shape.mapping ps) h);
        }

    pub mapping_is : (ps : Pairs) → At is w a xs n p (t.Shape.mapping ps) →
        IsMap (program is arrays events) (sorted is) (sort_of (ty_at is n)) ps
    mapping_is ps h =
        let k = keys_from F ty.never ps in
        let v = values_from F ty.never ps in
        let keys = not-false (has_keys (ty.mapping k v)) (types is w a xs n p (t.Shape.mapping ps) h).keyed in
        subst (λ q. IsMap (program is arrays events) (sorted is) q ps) (sym (its_sort is w a xs n p (t.Shape.mapping ps) h))
        (is_map (key_sort k (and_first (is_key k) (has_keys v) keys)) (each_pair ty.never ty.never ps))

    pub holes_gives : (x : Bytes) (hs : Holes) → At is w a xs n p (t.Shape.holes x hs) →
        Give (form.joining (x ∷ pieces hs) p) (hole_sorts (program is arrays events) (sorted is) hs)
    holes_gives x hs h =
        let texts = texts_of hs (not-false (have_texts F hs) (types is w a xs n p (t.Shape.holes x hs) h).matched) in
        record {
          no_case = tt;
          taken = texts.shown;
          given = s.list s.char;
          operands = texts.fit;
          takes = takes.takes_texts texts.are;
          value = is_row is n _ (its_row is w a xs n p (t.Shape.holes x hs) h);
        }

    pub minus_gives : (e : Tree) → At is w a xs n p (t.Shape.minus e) →
        Give (form.negating p) (sort_of (type_of F e) ∷ [])
    minus_gives (tree m q y) h =
        let e = tree m q y in
        record {
          no_case = tt;
          taken = s.int ∷ [];
          given = s.int;
          operands = fit_so (int_fits (type_of F e) (not-false (is_int (type_of F e)) (types is w a xs n p
              (t.Shape.minus e) h).matched)) fit_no;
          takes = takes.takes_minus;
          value = is_row is n _ (its_row is w a xs n p (t.Shape.minus e) h);
        }

    -- ---- queries

    query_by : (m : ℕ) (u v : Ty) → ty_at is m ≡ u → can_query u ≡ true →
        ty_at is n ≡ Rattle.verse_check_typing.specs.Parts.queried_type u → b.fails ≡ true →
        Give form.querying (sort_of u ∷ [])
    query_by m (ty.option u) v e h r f = record {
      no_case = tt;
      taken = s.opt (sort_of u) ∷ [];
      given = sort_of u;
      operands = all_itself (up is) _;
      takes = takes.takes_option f;
      value = is_row is n u r;
    }
    query_by m ty.logic v e h r f = record {
      no_case = tt;
      taken = s.logic ∷ [];
      given = s.logic;
      operands = all_itself (up is) _;
      takes = takes.takes_logic f;
      value = is_row is n ty.logic r;
    }
    query_by m ty.nil v e h r f = record {
      no_case = tt;
      taken = s.opt s.never ∷ [];
      given = s.never;
      operands = fit_so s.nil_opt fit_no;
      takes = takes.takes_option f;
      value = s.from_never;
    }
    query_by m ty.never v e h r f = record {
      no_case = tt;
      taken = s.never ∷ [];
      given = s.never;
      operands = all_itself (up is) _;
      takes = takes.takes_never (takes.spared_query never_here);
      value = s.from_never;
    }
    query_by m u v e h r f = absurd (cc)

    pub query_gives : (e : Tree) → At is w a xs n p (t.Shape.query e) →
        Give form.querying (sort_of (type_of F e) ∷ [])
    query_gives (tree m q y) h =
        let e = tree m q y in
        query_by m (ty_at is m) ty.never refl (not-false (can_query (type_of F e)) (types is w a xs n p (t.Shape.query e) h).matched)
        (its_row is w a xs n p (t.Shape.query e) h) (caught (t.Shape.query e) h refl)
