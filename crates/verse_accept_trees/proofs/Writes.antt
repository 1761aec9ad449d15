-- What `set` writes, and what it gives.
use Rattle.std.proofs.Common.{◌≡◌, ◌≢◌, ℕ, Bool, true, List, [], ◌∷◌, ◌++◌, sym, subst}
use Rattle.verse_base.specs.declared.places.Place.{Place}
use Rattle.verse_base.proofs.Facts.{and_first, and_second}
use Rattle.verse_tree.specs.Tree.{Tree}
use Rattle.verse_tree.specs.ItemTree.{ItemTree}
use Rattle.verse_tree.specs.declared.exprs.Assign.{Assign}
use Rattle.verse_tree.specs.declared.exprs.Assign.TheVariants as assign
use Rattle.verse_rules_types.specs.Types.{Ty}
use Rattle.verse_rules_types.specs.Types as ty
use Rattle.verse_rules_types.specs.Fitting.{fits}
use Rattle.verse_names_tables.specs.Names.{Table}
use Rattle.verse_check_typing.specs.Facts.{Facts, type_of, or_never}
use Rattle.verse_check_typing.specs.Parts.{is_int, sum_of, is_summed, can_assign, assigned_type}
use Rattle.verse_meaning.specs.Programs.{Program}
use Rattle.verse_meaning.specs.Residuals as form
use Rattle.verse_meaning.specs.Residuals.{Form}
use Rattle.verse_meaning.specs.Evaluating.{base_of, mode_of}
use Rattle.verse_sorts.specs.Sorts as s
use Rattle.verse_sorts.specs.Sorts.{Sort, Fits}
use Rattle.verse_sorts.specs.Typing.{fit_no, fit_so, AllFit}
use Rattle.verse_sorts.proofs.Fitting.{fits_itself, all_itself}
use Rattle.verse_sorts_types.specs.SortOf.{sort_of}
use Rattle.verse_sorts_types.proofs.Fitting as fitting
use Rattle.verse_sorts_types.proofs.Joining.{join_both}
use Rattle.verse_sorts_values.specs.Operands.{Writes, writes_set, writes_sum, writes_lists, writes_difference, writes_product, writes_never}
use Rattle.verse_sound_rules.specs.Found.{Allowed}
use Rattle.verse_sound_rules.specs.Found as rules
use Rattle.verse_sound_rules.specs.Forms.{Gives}
use Rattle.verse_sound_rules.specs.Forms as takes
use Rattle.verse_sound_rules.specs.Fine.{target_sorts, Stores, stores_value, stores_nothing}
use Rattle.verse_accept_rows.specs.Found.{final}
use Rattle.verse_accept_fine.specs.Sorted.{ty_at, all_classes, up, sorted, program}
use Rattle.verse_accept_fine.proofs.Base.{is_row}
use Rattle.verse_accept_fine.proofs.Operators.{int_fits}
use Rattle.verse_accept_trees.proofs.Paths.{joined, all_joined, never_last}
use Rattle.verse_accept_trees.proofs.Settable.{Summed, of_ints, of_arrays, to_never, never_added, summed, Counts, an_int, no_int, counts}
use Rattle.verse_accept_trees.proofs.Aims.{Aim}

module _ (is : List ItemTree) (arrays events : ℕ → Bool) (b : Allowed) (xs : Table) (n : ℕ) (p : Place) where
  abbrev F : Facts
  F = final is

  abbrev whole : Program
  whole = program is arrays events

  abbrev found : rules.Found
  found = sorted is

  abbrev Place_of : Tree → Type 0
  Place_of e = Aim is arrays events b xs e

  abbrev own : Sort
  own = sort_of (ty_at is n)

  abbrev Give : Form → List Sort → Type 0
  Give x qs = Gives whole found b xs x qs own

  -- a value that is written gives one of the set's sort
  writes_gives : (m : Assign) (e : Tree) (q : Sort) (place : Place_of e) → (place.indices ≢ [] → b.fails ≡ true) → (v d : Sort) →
      Fits (up is) q v → Writes (up is) (mode_of m) v (sort_of (type_of F e)) d → Fits (up is) d own →
      Give (form.storing (base_of whole e) (mode_of m) p) (target_sorts whole found e ++ q ∷ [])
  writes_gives m e q place fails v d fit write value = record {
    no_case = tt;
    taken = place.objects ++ (place.indices ++ v ∷ []);
    given = d;
    operands = subst (AllFit (up is) (target_sorts whole found e ++ q ∷ [])) (joined place.objects place.indices (v ∷ []))
        (all_joined place.operands (fit_so fit fit_no));
    takes = takes.takes_place place.objects place.indices place.slot v (sort_of (type_of F e)) place.placed place.path write fails;
    value = value;
  }

  never_gives : (m : Assign) (e : Tree) → Place_of e →
      Give (form.storing (base_of whole e) (mode_of m) p) (target_sorts whole found e ++ s.never ∷ [])
  never_gives m e place = record {
    no_case = tt;
    taken = target_sorts whole found e ++ s.never ∷ [];
    given = own;
    operands = all_itself (up is) (target_sorts whole found e ++ s.never ∷ []);
    takes = takes.takes_never (takes.spared_place place.objects place.slot place.placed (never_last (target_sorts whole found e)));
    value = fits_itself (up is) own;
  }

  abbrev Stored : Assign → Tree → Sort → Type 0
  Stored m e q = Stores whole found (mode_of m) q (sort_of (type_of F e)) own

  pub stored_gives : (m : Assign) (e : Tree) (q : Sort) (place : Place_of e) → (place.indices ≢ [] → b.fails ≡ true) → Stored m e q →
      Give (form.storing (base_of whole e) (mode_of m) p) (target_sorts whole found e ++ q ∷ [])
  stored_gives m e q place fails (stores_value v d fit write value) = writes_gives m e q place fails v d fit write value
  stored_gives m e q place fails stores_nothing = never_gives m e place

  module _ (e : Tree) where
    abbrev Gave : Assign → Ty → Type 0
    Gave m u = Stored m e (sort_of u)

    stores : (m : Assign) (y u : Ty) → type_of F e ≡ y → (v d : Sort) → Fits (up is) (sort_of u) v →
        Writes (up is) (mode_of m) v (sort_of y) d → Fits (up is) d own → Gave m u
    stores m y u f v d fit write value =
        stores_value v d fit (subst (λ z. Writes (up is) (mode_of m) v (sort_of z) d) (sym f) write) value

    set_by : (y u : Ty) → type_of F e ≡ y → fits (all_classes is) u y ≡ true → ty_at is n ≡ u → Gave assign.Set u
    set_by y u f h r =
        stores assign.Set y u f (sort_of u) (sort_of u) (fits_itself (up is) (sort_of u))
        (writes_set (fitting.fits_sort (all_classes is) u y h)) (is_row is n u r)

    -- nothing is changed where nothing is
    changes_nothing : (m : Assign) (u : Ty) → mode_of m ≢ mode_of assign.Set → type_of F e ≡ ty.never → Gave m u
    changes_nothing m u k f =
        stores m ty.never u f (sort_of u) own (fits_itself (up is) (sort_of u)) (writes_never k) (fits_itself (up is) own)

    add_arrays : (y u : Ty) → type_of F e ≡ ty.array y → fits (all_classes is) (ty.array u) (ty.array y) ≡ true →
        ty_at is n ≡ or_never (sum_of (all_classes is) (ty.array y) (ty.array u)) → Gave assign.Add (ty.array u)
    add_arrays y u f k r =
        stores assign.Add (ty.array y) (ty.array u) f (s.list (sort_of y)) (s.list (sort_of y))
        (fitting.fits_sort (all_classes is) (ty.array u) (ty.array y) k) writes_lists
        (subst (λ q. Fits (up is) (s.list (sort_of y)) (sort_of q)) (sym r) (join_both (all_classes is) (ty.array y) (ty.array u)).0)

    add_by : {y u : Ty} → Summed y u → type_of F e ≡ y → fits (all_classes is) u y ≡ true →
        ty_at is n ≡ or_never (sum_of (all_classes is) y u) → Gave assign.Add u
    add_by (to_never {u = u}) f k r = changes_nothing assign.Add u (λ i. cc) f
    add_by never_added f k r = stores_nothing
    add_by of_ints f k r = stores assign.Add ty.int ty.int f s.int s.int s.fits_int writes_sum (is_row is n ty.int r)
    add_by (of_arrays {y = y} {u = u}) f k r = add_arrays y u f k r

    -- ints, or nothing
    difference_by : {y : Ty} (u : Ty) → Counts y → type_of F e ≡ y → is_int u ≡ true → ty_at is n ≡ ty.int → Gave assign.Sub u
    difference_by u an_int f h r =
        stores assign.Sub ty.int u f s.int s.int (int_fits is arrays events u h) writes_difference (is_row is n ty.int r)
    difference_by u no_int f h r = changes_nothing assign.Sub u (λ i. cc) f

    product_by : {y : Ty} (u : Ty) → Counts y → type_of F e ≡ y → is_int u ≡ true → ty_at is n ≡ ty.int → Gave assign.Mul u
    product_by u an_int f h r =
        stores assign.Mul ty.int u f s.int s.int (int_fits is arrays events u h) writes_product (is_row is n ty.int r)
    product_by u no_int f h r = changes_nothing assign.Mul u (λ i. cc) f

    pub stored_by : (m : Assign) (y u : Ty) → type_of F e ≡ y → can_assign (all_classes is) m y u ≡ true →
        ty_at is n ≡ assigned_type (all_classes is) m y u → Gave m u
    stored_by assign.Set y u f h r = set_by y u f h r
    stored_by assign.Add y u f h r =
        let l = is_summed (sum_of (all_classes is) y u) in
        let k = fits (all_classes is) u y in
        add_by (summed (all_classes is) y u (and_first l k h)) f (and_second l k h) r
    stored_by assign.Sub y u f h r = difference_by u (counts y (and_first (is_int y) (is_int u) h)) f (and_second (is_int y) (is_int u) h) r
    stored_by assign.Mul y u f h r = product_by u (counts y (and_first (is_int y) (is_int u) h)) f (and_second (is_int y) (is_int u) h) r
