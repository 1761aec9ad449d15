-- Writes at a path keep sorts.
use Rattle.std.proofs.Common.{◌≡◌, ◌≢◌, ℕ, zero, suc, List, [], ◌∷◌, Option, Some, None, Bool, true, false, refl, sym, subst, ap, ◌∙◌}
use Rattle.std.specs.Prelude.{pos, negsuc, if◌then◌else◌, ◌+ℤ◌, ◌-ℤ◌, ◌*ℤ◌}
use Rattle.std.proofs.lemmas.Option.{none-some}
use Rattle.verse_base.specs.declared.refusals.Kind.TheVariants as kind
use Rattle.verse_value.specs.Val as v
use Rattle.verse_value.specs.Val.{Val, Vals, Pairs, more_pairs}
use Rattle.verse_value.specs.Keys.{key_of, key_val, at_key, key_eq}
use Rattle.verse_value.specs.Sizes.{fits}
use Rattle.verse_value.specs.Places.{nth, in_array, in_map as map_step, step_in, part_or, part, outside, absent, misfit, End, there}
use Rattle.verse_value.specs.Places.{new_key, nowhere}
use Rattle.verse_value.specs.Places.{end_of, end_from, at_absent, with_nth, with_key, array_with, map_with, changed, put, push, with_last}
use Rattle.verse_value.specs.Places.{applied, path_to_map, last_key}
use Rattle.verse_value.specs.Places as places
use Rattle.verse_value.specs.Operations.{is_int as is_int_of, combined, overwritten, key_made, written_at, write_at}
use Rattle.verse_value.specs.Answer.{Answer}
use Rattle.verse_value.specs.declared.keys.Key.{Key}
use Rattle.verse_value.specs.declared.modes.Mode.{Mode}
use Rattle.verse_value.specs.declared.modes.Mode.TheVariants as mode
use Rattle.verse_sorts.specs.Sorts as s
use Rattle.verse_sorts.specs.Sorts.{Sort}
use Rattle.verse_sorts.specs.Typing.{Typing, Is, AreAll, ArePairs, Are, is_int, is_list, is_map, no_all, more_all, no_entries}
use Rattle.verse_sorts.specs.Typing.{more_entries, are_no, are_so}
use Rattle.verse_sorts.proofs.Fitting.{is_up}
use Rattle.verse_sorts_values.specs.Operands.{Indexed, in_list, in_map, in_never, Path, path_no, path_so, Writes, writes_set, writes_sum}
use Rattle.verse_sorts_values.specs.Operands.{writes_lists}
use Rattle.verse_sorts_values.specs.Operands.{writes_difference, writes_product, writes_never}
use Rattle.verse_sorts_values.specs.Answers.{Answers, answers, answers_failure, answers_error}
use Rattle.verse_sorts_values.proofs.Numbers.{by_test}
use Rattle.verse_sorts_values.proofs.Values.{joined_all, Keyed_by, keyed_by, key_there, nth_all, key_found}
use Rattle.verse_sorts_values.proofs.Making.{key_back}

module _ (up : ℕ → Option ℕ) {t : Typing} where
  nth_changed : {vs : Vals} {a : Sort} (k : ℕ) (f : Val → Val) → AreAll up t vs a → ((x : Val) → nth vs k ≡ Some x →
      Is up t (f x) a) → AreAll up t (with_nth vs k f) a
  nth_changed k f no_all h = no_all
  nth_changed zero f (more_all i r) h = more_all (h _ refl) r
  nth_changed (suc k) f (more_all i r) h = more_all i (nth_changed k f r h)

  key_changed : {ps : Pairs} {k a : Sort} (l : Key) (f : Val → Val) → ArePairs up t ps k a → ((x : Val) → at_key ps l ≡ Some x →
      Is up t (f x) a) → ArePairs up t (with_key ps l f) k a
  key_changed l f no_entries h = no_entries
  key_changed {k = k} {a = a} l f (more_entries {l = m} {w = w} {ps = ps} i j r) h =
      go (key_eq l m) h (λ h. key_changed l f r h)
    where
      go : (b : Bool) → ((x : Val) → (if b then Some w else at_key ps l) ≡ Some x → Is up t (f x) a) → (((x : Val) → at_key ps l ≡ Some x →
          Is up t (f x) a) → ArePairs up t (with_key ps l f) k a) → ArePairs up t (if b then more_pairs m (f w) ps else
          more_pairs m w (with_key ps l f)) k a
      go true h again = more_entries i (h _ refl) r
      go false h again = more_entries i j (again h)

  pushed_all : {ps : Pairs} {k a : Sort} (l : Key) (u : Val) → ArePairs up t ps k a → Is up t (key_val l) k → Is up t u a →
      ArePairs up t (with_last ps l u) k a
  pushed_all l u no_entries i j = more_entries i j no_entries
  pushed_all l u (more_entries p q r) i j = more_entries p q (pushed_all l u r i j)

  -- the part that an index leads to is changed
  change_in : {u w : Val} {a b d : Sort} (f : Val → Val) → Indexed a b d → Is up t u a → Is up t w b → ((x : Val) →
      step_in u w ≡ part x → Is up t (f x) d) → Is up t (changed u w f) a
  change_in f (in_list {q = a}) (is_list {vs = vs} i) j h = by_int j h
    where
      by_int : {w : Val} → Is up t w s.int → ((x : Val) → in_array vs w ≡ part x → Is up t (f x) a) → Is up t (v.array (array_with vs w
          f)) (s.list a)
      by_int (is_int {n = pos k}) h = is_list (nth_changed k f i (λ x e. h x (ap (part_or outside) e)))
      by_int (is_int {n = negsuc k}) h = is_list i
  change_in {w = w} f (in_map {k = k} {q = a} good) (is_map {ps = ps} i) j h = by_key (key_of w) h
    where
      by_key : (m : Option Key) → ((x : Val) → map_step ps m ≡ part x → Is up t (f x) a) → Is up t (v.mapping (map_with ps m f)) (s.map k a)
      by_key None h = is_map i
      by_key (Some l) h = is_map (key_changed l f i (λ x e. h x (ap (part_or absent) e)))
  change_in f in_never i j h = elim i [ ]

  part_is : {u w x : Val} {a b d : Sort} → Indexed a b d → Is up t u a → Is up t w b → step_in u w ≡ part x → Is up t x d
  part_is {x = x} (in_list {q = a}) (is_list {vs = vs} i) j e = by_int j e
    where
      found : (m : Option Val) → ((x : Val) → m ≡ Some x → Is up t x a) → part_or outside m ≡ part x → Is up t x a
      found None f e = no_part e
        where
          no_part : outside ≡ part x → Is up t x a
          no_part e = cc
      found (Some y) f e = subst (λ x. Is up t x a) (same_part e) (f y refl)
        where
          same_part : part y ≡ part x → y ≡ x
          same_part e = cc

      by_int : {w : Val} → Is up t w s.int → in_array vs w ≡ part x → Is up t x a
      by_int (is_int {n = pos k}) e = found (nth vs k) (λ x h. nth_all up k i h) e
      by_int (is_int {n = negsuc k}) e = no_part e
        where
          no_part : outside ≡ part x → Is up t x a
          no_part e = cc
  part_is {w = w} {x = x} (in_map {k = k} {q = a} good) (is_map {ps = ps} i) j e = by_key (key_of w) e
    where
      found : (m : Option Val) → ((x : Val) → m ≡ Some x → Is up t x a) → part_or absent m ≡ part x → Is up t x a
      found None f e = no_part e
        where
          no_part : absent ≡ part x → Is up t x a
          no_part e = cc
      found (Some y) f e = subst (λ x. Is up t x a) (same_part e) (f y refl)
        where
          same_part : part y ≡ part x → y ≡ x
          same_part e = cc

      by_key : (m : Option Key) → map_step ps m ≡ part x → Is up t x a
      by_key None e = no_part e
        where
          no_part : misfit ≡ part x → Is up t x a
          no_part e = cc
      by_key (Some l) e = found (at_key ps l) (λ x h. key_found up l i h) e
  part_is in_never i j e = elim i [ ]

  -- another value at the end of a path
  put_keeps : {path : List Val} {xs : List Sort} {a d : Sort} (u new : Val) → Path a xs d → Are up t path xs → Is up t u a →
      Is up t new d → Is up t (applied path (put new) u) a
  put_keeps u new path_no are_no i j = j
  put_keeps u new (path_so o k p) (are_so {vs = path} q r) i j =
      change_in (applied path (put new)) k i q (λ x e. put_keeps x new p r (part_is k i q e) j)

  -- what stands at the end of a path
  there_is : {path : List Val} {xs : List Sort} {a d : Sort} (u old : Val) → Path a xs d → Are up t path xs → Is up t u a →
      end_of path u ≡ there old → Is up t old d
  there_is {d = d} u old path_no are_no i e = subst (λ z. Is up t z d) (same_there e) i
    where
      same_there : there u ≡ there old → u ≡ old
      same_there e = cc
  there_is {d = d} u old (path_so o k p) (are_so {w = w} {vs = path} q r) i e =
      go (step_in u w) (λ x h f. there_is x old p r (part_is k i q h) f) e
    where
      go : (st : places.Step) → ((x : Val) → st ≡ part x → end_of path x ≡ there old → Is up t old d) → end_from st path (end_of path) ≡
          there old → Is up t old d
      go (part x) f e = f x refl e
      go outside f e = no_there e
        where
          no_there : nowhere ≡ there old → Is up t old d
          no_there e = cc
      go absent f e = at_none path e
        where
          at_none : (path : List Val) → at_absent path ≡ there old → Is up t old d
          at_none [] e = cc
          at_none (y ∷ path) e = cc
      go misfit f e = cc

  -- a new key at the end of a path
  push_keeps : {path : List Val} {xs : List Sort} {a d : Sort} (u new : Val) (k : Key) → Path a xs d → Are up t path xs → Is up t u a →
      end_of path u ≡ new_key → last_key path ≡ Some k → Is up t new d → Is up t (applied (path_to_map path) (push k new) u) a
  push_keeps u new k path_no are_no i e h j = elim (none-some _ h) [ ]
  push_keeps u new k (path_so o in_list path_no) (are_so q are_no) (is_list i) e h j = is_list i
  push_keeps u new k (path_so o (in_map good) path_no) (are_so q are_no) (is_map i) e h j =
      is_map (pushed_all k new i (key_back up good q h) j)
  push_keeps u new k (path_so o in_never path_no) (are_so q are_no) i e h j = elim i [ ]
  push_keeps {a = a} u new k (path_so b m (path_so o k2 p)) (are_so {w = w} q (are_so {w = y} {vs = path} r rs)) i e h j =
      change_in (applied (path_to_map (y ∷ path)) (push k new)) m i q (λ x g. push_keeps x new k (path_so o k2 p) (are_so r rs)
      (part_is m i q g)
      (subst (λ z. end_from z (y ∷ path) (end_of (y ∷ path)) ≡ new_key) g e) h j)

  value_is : {F E : Type 0} {m : Mode} {v r w : Sort} {old u : Val} → E → Writes up m v r w → Is up t old r → Is up t u v →
      Answers F E (λ z. Is up t z r × Is up t z w) (combined m old u)
  value_is e (writes_set n) i j = answers (is_up up j n, j)
  value_is e writes_sum (is_int {n = a}) (is_int {n = b}) = by_test (is_int_of (a +ℤ b)) (v.int (a +ℤ b)) kind.Overflow e (is_int, is_int)
  value_is e writes_difference (is_int {n = a}) (is_int {n = b}) = by_test (is_int_of (a -ℤ b)) (v.int (a -ℤ b)) kind.Overflow e
      (is_int, is_int)
  value_is e writes_product (is_int {n = a}) (is_int {n = b}) = by_test (is_int_of (a *ℤ b)) (v.int (a *ℤ b)) kind.Overflow e
      (is_int, is_int)
  value_is e writes_lists (is_list i) (is_list j) = answers (is_list (joined_all up i j), is_list (joined_all up i j))
  value_is e (writes_never n) i j = elim i [ ]

  no_misfit : {u w : Val} {a b d : Sort} → Indexed a b d → Is up t u a → Is up t w b → step_in u w ≡ misfit → ⊥
  no_misfit in_list (is_list {vs = vs} i) j e = by_int j e
    where
      found : (m : Option Val) → part_or outside m ≡ misfit → ⊥
      found None e = cc
      found (Some x) e = cc

      by_int : {w : Val} → Is up t w s.int → in_array vs w ≡ misfit → ⊥
      by_int (is_int {n = pos k}) e = found (nth vs k) e
      by_int (is_int {n = negsuc k}) e = cc
  no_misfit {w = w} (in_map good) (is_map {ps = ps} i) j e = by_key (key_there up good j)
    where
      found : (m : Option Val) → part_or absent m ≡ misfit → ⊥
      found None e = cc
      found (Some x) e = cc

      by_key : Keyed_by w → ⊥
      by_key (keyed_by {k = l} h) = found (at_key ps l) (subst (λ m. map_step ps m ≡ misfit) h e)
  no_misfit in_never i j e = elim i [ ]

  ends_fit : {path : List Val} {xs : List Sort} {a d : Sort} (u : Val) → Path a xs d → Are up t path xs → Is up t u a →
      end_of path u ≡ places.unfit → ⊥
  ends_fit u path_no are_no i e = cc
  ends_fit u (path_so o k p) (are_so {w = w} {vs = path} q r) i e =
      go (step_in u w) (λ x h f. ends_fit x p r (part_is k i q h) f) (λ h. no_misfit k i q h) e
    where
      go : (st : places.Step) → ((x : Val) → st ≡ part x → end_of path x ≡ places.unfit → ⊥) → (st ≡ misfit → ⊥) → end_from st path (end_of
          path) ≡ places.unfit → ⊥
      go (part x) f g e = f x refl e
      go outside f g e = cc
      go absent f g e = at_none path e
        where
          at_none : (path : List Val) → at_absent path ≡ places.unfit → ⊥
          at_none [] e = cc
          at_none (y ∷ path) e = cc
      go misfit f g e = g refl

  -- what a write at a path gives
  pub written : {F E : Type 0} {m : Mode} {path : List Val} {is : List Sort} {q v r w : Sort} (u value : Val) → E → (path ≢ [] → F) →
      Path q is r → Are up t path is → Is up t u q → Writes up m v r w → Is up t value v →
      Answers F E (λ y. Is up t y.0 q × Is up t y.1 w) (write_at path m value u)
  written {F} {E} {m} {path} {is} {q} {v} {r} {w} u value e f p i k h j = by_end (end_of path u) refl
    where
      over : {x : Answer Val} → Answers F E (λ z. Is up t z r × Is up t z w) x → Answers F E (λ y. Is up t y.0 q × Is up t y.1 w)
          (overwritten path u x)
      over (answers {x = new} g) = by_test (fits (applied path (put new) u)) (applied path (put new) u, new) kind.Size e
          (put_keeps u new p i k g.0, g.1)
      over (answers_failure g) = answers_failure g
      over (answers_error g) = answers_error g

      not_empty : {z : End} → end_of path u ≡ z → ((x : Val) → z ≡ there x → ⊥) → path ≡ [] → ⊥
      not_empty g n same = n u (sym g ∙ ap (λ path. end_of path u) same)

      by_key : {v r w : Sort} (m : Mode) (l : Option Key) → Writes up m v r w → Path q is r → Is up t value v → last_key path ≡ l →
          end_of path u ≡ new_key → F → Answers F E (λ y. Is up t y.0 q × Is up t y.1 w) (key_made path m value u l)
      by_key mode.Set None h p j g n f = answers_failure f
      by_key mode.Set (Some l) (writes_set o) p j g n f =
          by_test (fits (applied (path_to_map path) (push l value) u)) (applied (path_to_map path) (push l value) u, value) kind.Size e
          (push_keeps u value l p i k n g (is_up up j o), j)
      by_key mode.Set (Some l) (writes_never o) p j g n f = absurd (o refl)
      by_key mode.Add l h p j g n f = answers_failure f
      by_key mode.Sub l h p j g n f = answers_failure f
      by_key mode.Mul l h p j g n f = answers_failure f

      by_end : (z : End) → end_of path u ≡ z → Answers F E (λ y. Is up t y.0 q × Is up t y.1 w) (written_at z path m value u)
      by_end (there old) g = over (value_is e h (there_is u old p i k g) j)
      by_end new_key g = by_key m (last_key path) h p j refl g (f (not_empty g (λ x n. no_there x n)))
        where
          no_there : (x : Val) → new_key ≡ there x → ⊥
          no_there x n = cc
      by_end nowhere g = answers_failure (f (not_empty g (λ x n. no_there x n)))
        where
          no_there : (x : Val) → nowhere ≡ there x → ⊥
          no_there x n = cc
      by_end places.unfit g = elim (ends_fit u p i k g) [ ]
