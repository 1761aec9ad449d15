-- Operations on values with parts.
use Rattle.std.proofs.Common.{◌≡◌, ◌≢◌, ℕ, zero, suc, ◌+◌, length, List, [], ◌∷◌, Some, None, Bool, true, false, cond}
use Rattle.std.proofs.Common.{refl, sym, subst, arith}
use Rattle.std.specs.Prelude.{nat_lt, ◌&&◌, ◌||◌}
use Rattle.std.proofs.lemmas.Bool.{and_from, or_left, or_right}
use Rattle.verse_code.specs.declared.operations.Op.{Op}
use Rattle.verse_code.specs.declared.operations.Op.TheVariants as o
use Rattle.verse_code.specs.declared.codes.Code.{Code}
use Rattle.verse_sorts.specs.Sorts as s
use Rattle.verse_sorts.specs.Sorts.{Sort, to_none, to_any, from_never, fits_list, fits_map, fits_var, fits_event, IsKey}
use Rattle.verse_sorts.proofs.Fitting.{fits_on}
use Rattle.verse_verify_kept.specs.Notes.{Point, Notes, parent_of}
use Rattle.verse_verify_kept.specs.Rules as r
use Rattle.verse_verify_kept.specs.Rules.{Fit, AllIn, in_no, in_so, Pops, pops_no, pops_so, Keyed, keyed_no, keyed_so}
use Rattle.verse_verify_faults.specs.Fitting.{fit, all_fit, is_key}
use Rattle.verse_verify_faults.specs.Spots.{Spot, Table, above, cut}
use Rattle.verse_verify_faults.specs.Stepping as step
use Rattle.verse_verify_faults.specs.Stepping.{Goes, Stepped, firsts, seconds, all_keys, part_of_list, list_of, map_of}
use Rattle.verse_verify_faults.specs.Stepping.{var_of, event_of}
use Rattle.verse_verify_faults.specs.Faults.{implies, callee_is, may_fail, holds}
use Rattle.verse_verify_faults.proofs.Leading.{notes}
use Rattle.verse_verify_laws.proofs.Steps.{Fine}
use Rattle.verse_verify_laws.proofs.Simple.{pops_length}
use Rattle.verse_verify_clean.specs.Laws.{Told}
use Rattle.verse_verify_clean.proofs.Fitting.{is_key_back}
use Rattle.verse_verify_clean.proofs.Leading.{SuitAll, suit_no, suit_so, pushed, fits, all_fits, each_fits}
use Rattle.verse_verify_clean.proofs.Steps.{Here, evenly, led, needed, there, popped, many}
use Rattle.verse_verify_clean.proofs.Holding.{fails_back}
use Rattle.verse_verify_clean.proofs.Values.{on_one}

module _ (c : Code) (t : Table) where
  abbrev N : Notes
  N = notes c t

  pub all_on : {u v : Sort} {xs : List Sort} → AllIn c N u xs → Fit c N u v → AllIn c N v xs
  all_on in_no f = in_no
  all_on (in_so g r) f = in_so (fits_on (parent_of N) g f) (all_on r f)

  pub record Part (a u : Sort) : Type 0 where
    pub sort : Sort
    pub is : part_of_list a ≡ Some sort
    pub fits : Fit c N sort u

  pub list_back : {a u : Sort} → Fit c N a (s.list u) → Part a u
  list_back from_never = record { sort = s.never; is = refl; fits = from_never }
  list_back (fits_list {s = a} f) = record { sort = a; is = refl; fits = f }

  module _ (told : Told c t) where
    pub holds_list : (xs : List Sort) (u b : Sort) → AllIn c N u xs → Fit c N (s.list u) b → holds t.classes (list_of xs) b ≡ true
    holds_list xs u b r to_none = refl
    holds_list xs u b r (to_any l) = refl
    holds_list xs u b r (fits_list f) = all_fits c t told (all_on r f)

    holds_map : (ks xs : List Sort) (k u b : Sort) → AllIn c N k ks → AllIn c N u xs → Fit c N (s.map k u) b →
        holds t.classes (map_of ks xs) b ≡ true
    holds_map ks xs k u b r q to_none = refl
    holds_map ks xs k u b r q (to_any l) = refl
    holds_map ks xs k u b r q (fits_map {l = l} {t = v} f g) =
        and_from (all_fit t.classes ks l) (all_fit t.classes xs v) (all_fits c t told (all_on r f)) (all_fits c t told (all_on q g))

    holds_var : (a u b : Sort) → Fit c N a u → Fit c N (s.var u) b → holds t.classes (var_of a) b ≡ true
    holds_var a u b f to_none = refl
    holds_var a u b f (to_any l) = refl
    holds_var a u b f fits_var = fits c t told f

    holds_event : (u b : Sort) → Fit c N (s.event u) b → holds t.classes event_of b ≡ true
    holds_event u b to_none = refl
    holds_event u b (to_any l) = refl
    holds_event u b fits_event = refl

    shown_back : (xs : List Sort) → r.Shown c N xs → step.all_shown t.classes xs ≡ true
    shown_back [] r.shown_no = refl
    shown_back (a ∷ xs) (r.shown_int f q) =
        and_from (step.shown t.classes a) (step.all_shown t.classes xs)
        (or_left _ _ (or_left _ _ (fits c t told f))) (shown_back xs q)
    shown_back (a ∷ xs) (r.shown_char f q) =
        and_from (step.shown t.classes a) (step.all_shown t.classes xs)
        (or_left _ _ (or_right _ _ (fits c t told f))) (shown_back xs q)
    shown_back (a ∷ xs) (r.shown_text f q) =
        and_from (step.shown t.classes a) (step.all_shown t.classes xs) (or_right _ _ (fits c t told f)) (shown_back xs q)

    keys_back : {k u : Sort} {xs : List Sort} → Keyed c N k u xs → all_keys (firsts xs) ≡ true
    keys_back keyed_no = refl
    keys_back (keyed_so {a = a} {xs = xs} h f g q) =
        and_from (is_key a) (all_keys (firsts xs)) (is_key_back h) (keys_back q)

    keys_in : {k u : Sort} {xs : List Sort} → Keyed c N k u xs → AllIn c N k (firsts xs)
    keys_in keyed_no = in_no
    keys_in (keyed_so h f g q) = in_so f (keys_in q)

    values_in : {k u : Sort} {xs : List Sort} → Keyed c N k u xs → AllIn c N u (seconds xs)
    values_in keyed_no = in_no
    values_in (keyed_so h f g q) = in_so g (values_in q)

    cond_some : (b : Bool) (a : Sort) → b ≡ true → cond b (Some a) None ≡ Some a
    cond_some true a e = refl
    cond_some false a e = cc

    part_back : {a b d : Sort} → r.Indexed c N a b d → step.part_at t.classes a b ≡ Some d
    part_back {b = b} (r.in_list {a = a} f) = cond_some (fit t.classes b s.int) a (fits c t told f)
    part_back {b = b} (r.in_map {k = k} {a = a} h f) =
        cond_some (is_key b && fit t.classes b k) a (and_from (is_key b) (fit t.classes b k) (is_key_back h) (fits c t told f))
    part_back r.in_never = refl

    path_back : {a d : Sort} {xs : List Sort} → r.Path c N a xs d → step.at_path t.classes (Some a) xs ≡ Some d
    path_back r.path_no = refl
    path_back (r.path_so {e = e} {xs = xs} h q) =
        subst (λ m. step.at_path t.classes m xs ≡ Some e) (sym (part_back h)) (path_back q)

    mode_back : (m : ℕ) (v a : Sort) → r.Mode c N m v a → step.may_write t.classes m a v ≡ true
    mode_back m v a (r.mode_set f) = fits c t told f
    mode_back (suc zero) v a (r.mode_int f) = fits c t told f
    mode_back (suc (suc m)) v a (r.mode_int f) = fits c t told f
    mode_back m v a (r.mode_list f) = fits c t told f
    mode_back (suc zero) v a r.mode_never = refl
    mode_back (suc (suc m)) v a r.mode_never = refl

module _ (c : Code) (t : Table) (p : Spot) (i : ℕ) (here : Here c t p i) where
  abbrev P : Point
  P = cut p

  abbrev st : List Sort
  st = above p.stack p.tries

  abbrev Done : Op → Type 0
  Done op = Fine c t p i op (step.step c t p i op st)

  abbrev Passed : Op → Type 0
  Passed op = r.Passes c (notes c t) i P op

  made_one : {j : ℕ} {a : Sort} (m : step.Made) (st : List Sort) →
      ((b : Sort) → Fit c (notes c t) a b → holds t.classes m b ≡ true) → r.To c (notes c t) P (a ∷ st) j →
      SuitAll c t here.told p (step.to c t p i j (m ∷ []) st ∷ [])
  made_one m st h l = suit_so (pushed c t here.told p i (evenly c t p i here) m st h l) suit_no

  pub concat_back : {k : ℕ} → Passed (o.Concat k) → Done (o.Concat k)
  concat_back (r.of_concat {u = u} e f g l) =
      let x = list_back c t f in
      let y = list_back c t g in
      popped c t p i here _ _ e (there c t p i here _ 5 _ x.is (there c t p i here _ 5 _ y.is
      (led c t p i here _ (made_one (list_of (x.sort ∷ y.sort ∷ [])) _
      (λ b h. holds_list c t here.told (x.sort ∷ y.sort ∷ []) u b (in_so x.fits (in_so y.fits in_no)) h) l)
      refl refl refl refl refl refl)))

  pub join_back : {m k : ℕ} → Passed (o.Join m k) → Done (o.Join m k)
  join_back (r.of_join ps h l) =
      many c t p i here _ _ ps (needed c t p i here _ 5 (shown_back c t here.told _ h)
      (led c t p i here _ (on_one c t p i here _ l) refl refl refl refl refl refl))

  pub array_back : {m k : ℕ} → Passed (o.Array m k) → Done (o.Array m k)
  array_back (r.of_array {u = u} {xs = xs} ps q l) =
      many c t p i here _ _ ps (led c t p i here _
      (made_one (list_of xs) _ (λ b h. holds_list c t here.told xs u b q h) l) refl refl refl refl refl refl)

  pub map_back : {m k : ℕ} → Passed (o.Map m k) → Done (o.Map m k)
  map_back (r.of_map {a = a} {u = u} {xs = xs} ps q l) =
      many c t p i here _ _ ps (needed c t p i here _ 5 (keys_back c t here.told q) (led c t p i here _
      (made_one (map_of (firsts xs) (seconds xs)) _
      (λ b h. holds_map c t here.told (firsts xs) (seconds xs) a u b (keys_in c t here.told q) (values_in c t here.told q) h) l)
      refl refl refl refl refl refl))

  pub tuple_back : {m k : ℕ} → Passed (o.Tuple m k) → Done (o.Tuple m k)
  tuple_back (r.of_tuple ps l) =
      many c t p i here _ _ ps (led c t p i here _ (on_one c t p i here _ l) refl refl refl refl refl refl)

  pub item_back : {m : ℕ} → Passed (o.Item m) → Done (o.Item m)
  item_back (r.of_item e h l) =
      popped c t p i here _ _ e (there c t p i here _ 6 _ h
      (led c t p i here _ (on_one c t p i here _ l) refl refl refl refl refl refl))
  item_back (r.of_no_item e l) =
      popped c t p i here _ _ e (led c t p i here _ (on_one c t p i here _ l) refl refl refl refl refl refl)

  pub at_back : Passed o.At → Done o.At
  at_back (r.of_at e h m l) =
      popped c t p i here _ _ e (there c t p i here _ 5 _ (part_back c t here.told h)
      (led c t p i here _ (on_one c t p i here _ l) refl (fails_back c t p m) refl refl refl refl))

  pub new_back : {k : ℕ} → Passed (o.New k) → Done (o.New k)
  new_back (r.of_new {a = a} {u = u} e f l) =
      popped c t p i here _ _ e (led c t p i here _
      (made_one (var_of a) _ (λ b h. holds_var c t here.told a u b f h) l) refl refl refl refl refl refl)

  pub event_back : {k : ℕ} → Passed (o.Event k) → Done (o.Event k)
  event_back (r.of_event {u = u} l) =
      led c t p i here _ (made_one event_of st (λ b h. holds_event c t here.told u b h) l) refl refl refl refl refl refl

  slot_back : {op : Op} {a b : Sort} {k : ℕ} (go : Sort → Stepped) → r.Slot c (notes c t) a k b → Fine c t p i op (go b) →
      Fine c t p i op (step.on_slot t.classes a k go)
  slot_back go r.slot_var f = record { none = f.none }
  slot_back {op = op} go (r.slot_obj {class = d} {k = k} {a = a} h e) f =
      record {
        none = (there c t p i here op 6 go
            (subst (λ m. step.slots_at t.classes m k ≡ Some a) (sym h) e) f).none;
      }
  slot_back go r.slot_never f = record { none = f.none }

  pub load_back : {m : ℕ} → Passed (o.Load m) → Done (o.Load m)
  load_back (r.of_load e h l) =
      popped c t p i here _ _ e (slot_back _ h
      (led c t p i here _ (on_one c t p i here _ l) refl refl refl refl refl refl))

  fails_if : (m : ℕ) {xs us st : List Sort} → Pops m us [] xs st → (xs ≢ [] → r.MayFail c (notes c t) P) →
      implies c t (nat_lt 0 m || (false && callee_is c t None (λ g. g.may_fail))) (may_fail c t p) ≡ true
  fails_if zero ps h = refl
  fails_if (suc m) {xs = xs} ps h = by_may (fails_back c t p (h (some xs (pops_length ps))))
    where
      some : (xs : List Sort) → length xs ≡ suc m + 0 → xs ≢ []
      some [] e f = omega (arith, e)
      some (x ∷ xs) e f = cc

      by_may : may_fail c t p ≡ true →
          implies c t (nat_lt 0 (suc m) || (false && callee_is c t None (λ g. g.may_fail))) (may_fail c t p) ≡ true
      by_may e = subst (λ b. implies c t (nat_lt 0 (suc m) || (false && callee_is c t None (λ g. g.may_fail))) b ≡ true) (sym e)
          (or_right _ _ refl)

  pub store_back : {slot m mode k : ℕ} → Passed (o.Store slot m mode k) → Done (o.Store slot m mode k)
  store_back {m = m} {mode = mode} (r.of_store e ps h q w f l) =
      popped c t p i here _ _ e (many c t p i here _ _ ps (slot_back _ h
      (there c t p i here _ 5 _ (path_back c t here.told q) (needed c t p i here _ 5 (mode_back c t here.told mode _ _ w)
      (led c t p i here _ (on_one c t p i here _ l) refl (fails_if m ps f) refl refl refl refl)))))

  pub object_back : {class k : ℕ} → Passed (o.Object class k) → Done (o.Object class k)
  object_back (r.of_object e h ps f l) =
      there c t p i here _ 6 _ e (there c t p i here _ 6 _ h (many c t p i here _ _ ps
      (needed c t p i here _ 5 (each_fits c t here.told f)
      (led c t p i here _ (on_one c t p i here _ l) refl refl refl refl refl refl))))
