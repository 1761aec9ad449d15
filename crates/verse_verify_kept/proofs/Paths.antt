-- Writes at a path keep sorts.
use Rattle.std.proofs.Common.{◌≡◌, ◌≢◌, ℕ, zero, suc, List, [], ◌∷◌, Option, Some, None, Bool, true, false, refl, sym, subst, ap, ◌∙◌}
use Rattle.std.specs.Prelude.{pos, negsuc, if◌then◌else◌, option_map}
use Rattle.std.proofs.lemmas.Option.{same_Some, none-some}
use Rattle.verse_code.specs.declared.codes.Code.{Code}
use Rattle.verse_value.specs.Val as v
use Rattle.verse_value.specs.Val.{Val, Vals, no_vals, more_vals, Pairs, no_pairs, more_pairs}
use Rattle.verse_value.specs.Keys.{key_of, key_val, at_key, key_eq, bytes_of, chars}
use Rattle.verse_value.specs.Places.{nth, in_array, in_map as map_step, step_in, part_or, part, outside, absent, misfit, End, there}
use Rattle.verse_value.specs.Places.{new_key, nowhere}
use Rattle.verse_value.specs.Places.{end_of, end_from, at_absent, with_nth, with_key, array_with, map_with, changed, Change, put, push}
use Rattle.verse_value.specs.Places.{with_last}
use Rattle.verse_value.specs.Places.{applied, path_to_map, last_key}
use Rattle.verse_value.specs.Places as places
use Rattle.verse_value.specs.declared.keys.Key.{Key}
use Rattle.verse_sorts.specs.Sorts as s
use Rattle.verse_sorts.specs.Sorts.{Sort, IsKey, key_never, key_nil, key_int, key_logic, key_char, key_enum, key_text}
use Rattle.verse_sorts.specs.Typing.{Typing, AreAll, ArePairs, is_int, is_nil, is_false, is_true, is_char, is_enum, is_list, is_map, no_all}
use Rattle.verse_sorts.specs.Typing.{more_all, no_entries, more_entries, are_no, are_so}
use Rattle.verse_sorts.proofs.Fitting.{is_up}
use Rattle.verse_verify_kept.specs.Notes.{Notes, parent_of}
use Rattle.verse_verify_kept.specs.Rules.{Indexed, in_list, in_map, in_never, Path, path_no, path_so}
use Rattle.verse_verify_kept.specs.Kept.{Of, All}
use Rattle.verse_verify_kept.proofs.Values.{if_fine, joined_all, Keyed_by, keyed_by, key_there, nth_all, key_found}
use Rattle.verse_verify_kept.proofs.Acts.{Fine, fine_gives, fine_fails, fine_error}
use Rattle.verse_verify_kept.specs.Rules.{Mode, mode_set, mode_int, mode_list, mode_never}
use Rattle.verse_code_machine.specs.Acts.{mode_of}
use Rattle.verse_value.specs.Operations.{combined, overwritten, key_made, written_at, write_at}
use Rattle.verse_value.specs.Answer.{Answer}
use Rattle.verse_value.specs.declared.keys.Key.TheVariants as key

module _ (c : Code) (n : Notes) {t : Typing} where
  nth_changed : {vs : Vals} {a : Sort} (k : ℕ) (f : Val → Val) → AreAll (parent_of n) t vs a → ((x : Val) → nth vs k ≡ Some x →
      Of c n t (f x) a) → AreAll (parent_of n) t (with_nth vs k f) a
  nth_changed k f no_all h = no_all
  nth_changed zero f (more_all i r) h = more_all (h _ refl) r
  nth_changed (suc k) f (more_all i r) h = more_all i (nth_changed k f r h)

  key_changed : {ps : Pairs} {k a : Sort} (l : Key) (f : Val → Val) → ArePairs (parent_of n) t ps k a → ((x : Val) → at_key ps l ≡ Some x →
      Of c n t (f x) a) → ArePairs (parent_of n) t (with_key ps l f) k a
  key_changed l f no_entries h = no_entries
  key_changed {k = k} {a = a} l f (more_entries {l = m} {w = w} {ps = ps} i j r) h =
      go (key_eq l m) h (λ h. key_changed l f r h)
    where
      go : (b : Bool) → ((x : Val) → (if b then Some w else at_key ps l) ≡ Some x → Of c n t (f x) a) → (((x : Val) → at_key ps l ≡ Some x →
          Of c n t (f x) a) → ArePairs (parent_of n) t (with_key ps l f) k a) →
          ArePairs (parent_of n) t (if b then more_pairs m (f w) ps else more_pairs m w (with_key ps l f)) k a
      go true h again = more_entries i (h _ refl) r
      go false h again = more_entries i j (again h)

  pushed_all : {ps : Pairs} {k a : Sort} (l : Key) (u : Val) → ArePairs (parent_of n) t ps k a → Of c n t (key_val l) k → Of c n t u a →
      ArePairs (parent_of n) t (with_last ps l u) k a
  pushed_all l u no_entries i j = more_entries i j no_entries
  pushed_all l u (more_entries p q r) i j = more_entries p q (pushed_all l u r i j)

  -- the part that an index leads to is changed
  change_in : {u w : Val} {a b d : Sort} (f : Val → Val) → Indexed c n a b d → Of c n t u a → Of c n t w b → ((x : Val) →
      step_in u w ≡ part x → Of c n t (f x) d) → Of c n t (changed u w f) a
  change_in f (in_list {a = a} fit) (is_list {vs = vs} i) j h = by_int (is_up (parent_of n) j fit) h
    where
      by_int : {w : Val} → Of c n t w s.int → ((x : Val) → in_array vs w ≡ part x → Of c n t (f x) a) → Of c n t (v.array (array_with vs w
          f)) (s.list a)
      by_int (is_int {n = pos k}) h = is_list (nth_changed k f i (λ x e. h x (ap (part_or outside) e)))
      by_int (is_int {n = negsuc k}) h = is_list i
  change_in {w = w} f (in_map {k = k} {a = a} good fit) (is_map {ps = ps} i) j h = by_key (key_of w) h
    where
      by_key : (m : Option Key) → ((x : Val) → map_step ps m ≡ part x → Of c n t (f x) a) →
          Of c n t (v.mapping (map_with ps m f)) (s.map k a)
      by_key None h = is_map i
      by_key (Some l) h = is_map (key_changed l f i (λ x e. h x (ap (part_or absent) e)))
  change_in f in_never i j h = elim i [ ]

  part_is : {u w x : Val} {a b d : Sort} → Indexed c n a b d → Of c n t u a → Of c n t w b → step_in u w ≡ part x → Of c n t x d
  part_is {x = x} (in_list {a = a} fit) (is_list {vs = vs} i) j e = by_int (is_up (parent_of n) j fit) e
    where
      found : (m : Option Val) → ((x : Val) → m ≡ Some x → Of c n t x a) → part_or outside m ≡ part x → Of c n t x a
      found None f e = no_part e
        where
          no_part : outside ≡ part x → Of c n t x a
          no_part e = cc
      found (Some y) f e = subst (λ x. Of c n t x a) (same_part e) (f y refl)
        where
          same_part : part y ≡ part x → y ≡ x
          same_part e = cc

      by_int : {w : Val} → Of c n t w s.int → in_array vs w ≡ part x → Of c n t x a
      by_int (is_int {n = pos k}) e = found (nth vs k) (λ x h. nth_all c n k i h) e
      by_int (is_int {n = negsuc k}) e = no_part e
        where
          no_part : outside ≡ part x → Of c n t x a
          no_part e = cc
  part_is {w = w} {x = x} (in_map {k = k} {a = a} good fit) (is_map {ps = ps} i) j e = by_key (key_of w) e
    where
      found : (m : Option Val) → ((x : Val) → m ≡ Some x → Of c n t x a) → part_or absent m ≡ part x → Of c n t x a
      found None f e = no_part e
        where
          no_part : absent ≡ part x → Of c n t x a
          no_part e = cc
      found (Some y) f e = subst (λ x. Of c n t x a) (same_part e) (f y refl)
        where
          same_part : part y ≡ part x → y ≡ x
          same_part e = cc

      by_key : (m : Option Key) → map_step ps m ≡ part x → Of c n t x a
      by_key None e = no_part e
        where
          no_part : misfit ≡ part x → Of c n t x a
          no_part e = cc
      by_key (Some l) e = found (at_key ps l) (λ x h. key_found c n l i h) e
  part_is in_never i j e = elim i [ ]

  -- another value at the end of a path
  put_keeps : {path : List Val} {xs : List Sort} {a d : Sort} (u new : Val) → Path c n a xs d → All c n t path xs → Of c n t u a →
      Of c n t new d → Of c n t (applied path (put new) u) a
  put_keeps u new path_no are_no i j = j
  put_keeps u new (path_so {d = d} k p) (are_so {vs = path} q r) i j =
      change_in (applied path (put new)) k i q (λ x e. put_keeps x new p r (part_is k i q e) j)

  -- what stands at the end of a path
  there_is : {path : List Val} {xs : List Sort} {a d : Sort} (u old : Val) → Path c n a xs d → All c n t path xs → Of c n t u a →
      end_of path u ≡ there old → Of c n t old d
  there_is {d = d} u old path_no are_no i e = subst (λ z. Of c n t z d) (same_there e) i
    where
      same_there : there u ≡ there old → u ≡ old
      same_there e = cc
  there_is {d = d} u old (path_so k p) (are_so {w = w} {vs = path} q r) i e =
      go (step_in u w) (λ x h f. there_is x old p r (part_is k i q h) f) e
    where
      go : (st : places.Step) → ((x : Val) → st ≡ part x → end_of path x ≡ there old → Of c n t old d) → end_from st path (end_of path) ≡
          there old → Of c n t old d
      go (part x) f e = f x refl e
      go outside f e = no_there e
        where
          no_there : nowhere ≡ there old → Of c n t old d
          no_there e = cc
      go absent f e = at_none path e
        where
          at_none : (path : List Val) → at_absent path ≡ there old → Of c n t old d
          at_none [] e = cc
          at_none (y ∷ path) e = cc
      go misfit f e = cc

  chars_are : (bs : List ℕ) → AreAll (parent_of n) t (chars bs) s.char
  chars_are [] = no_all
  chars_are (b ∷ bs) = more_all is_char (chars_are bs)

  -- a key is of the sort of the value that it comes from
  pub key_back : {w : Val} {b : Sort} {k : Key} → IsKey b → Of c n t w b → key_of w ≡ Some k → Of c n t (key_val k) b
  key_back {k = k} key_never i e = elim i [ ]
  key_back key_nil is_nil e = subst (λ k. Of c n t (key_val k) s.nil) (same_Some _ _ e) is_nil
  key_back key_int is_int e = subst (λ k. Of c n t (key_val k) s.int) (same_Some _ _ e) is_int
  key_back key_logic is_false e = subst (λ k. Of c n t (key_val k) s.logic) (same_Some _ _ e) is_false
  key_back key_logic is_true e = subst (λ k. Of c n t (key_val k) s.logic) (same_Some _ _ e) is_true
  key_back key_char is_char e = subst (λ k. Of c n t (key_val k) s.char) (same_Some _ _ e) is_char
  key_back (key_enum {e = a}) is_enum e = subst (λ k. Of c n t (key_val k) (s.enum a)) (same_Some _ _ e) is_enum
  key_back {k = k} key_text (is_list {vs = vs} i) e = by_bytes (bytes_of vs) e
    where
      by_bytes : (m : Option (List ℕ)) → option_map key.Text m ≡ Some k → Of c n t (key_val k) (s.list s.char)
      by_bytes None e = elim (none-some _ e) [ ]
      by_bytes (Some bs) e = subst (λ k. Of c n t (key_val k) (s.list s.char)) (same_Some _ _ e) (is_list (chars_are bs))

  -- a new key at the end of a path
  push_keeps : {path : List Val} {xs : List Sort} {a d : Sort} (u new : Val) (k : Key) → Path c n a xs d → All c n t path xs →
      Of c n t u a → end_of path u ≡ new_key → last_key path ≡ Some k → Of c n t new d →
      Of c n t (applied (path_to_map path) (push k new) u) a
  push_keeps u new k path_no are_no i e h j = elim (none-some _ h) [ ]
  push_keeps u new k (path_so (in_list fit) path_no) (are_so q are_no) (is_list i) e h j = is_list i
  push_keeps u new k (path_so (in_map good fit) path_no) (are_so q are_no) (is_map i) e h j =
      is_map (pushed_all k new i (is_up (parent_of n) (key_back good q h) fit) j)
  push_keeps u new k (path_so in_never path_no) (are_so q are_no) i e h j = elim i [ ]
  push_keeps {a = a} u new k (path_so m (path_so o p)) (are_so {w = w} q (are_so {w = y} {vs = path} r rs)) i e h j =
      change_in (applied (path_to_map (y ∷ path)) (push k new)) m i q
      (λ x g. push_keeps x new k (path_so o p) (are_so r rs) (part_is m i q g)
      (subst (λ z. end_from z (y ∷ path) (end_of (y ∷ path)) ≡ new_key) g e) h j)

  value_fine : {F E : Type 0} {m : ℕ} {b d : Sort} {old u : Val} → E → Mode c n m b d → Of c n t old d → Of c n t u b →
      Fine F E (λ z. Of c n t z d) (combined (mode_of m) old u)
  value_fine e (mode_set f) i j = fine_gives (is_up (parent_of n) j f)
  value_fine {F = F} {E = E} {old = old} e (mode_int {m = m} f) i j = by_mode m i (is_up (parent_of n) j f)
    where
      by_mode : (m : ℕ) {old u : Val} → Of c n t old s.int → Of c n t u s.int → Fine F E (λ z. Of c n t z s.int) (combined (mode_of (suc m))
          old u)
      by_mode zero is_int is_int = if_fine _ _ _ e is_int
      by_mode (suc zero) is_int is_int = if_fine _ _ _ e is_int
      by_mode (suc (suc m)) is_int is_int = if_fine _ _ _ e is_int
  value_fine {F = F} {E = E} e (mode_list {a = a} f) i j = by_lists i (is_up (parent_of n) j f)
    where
      by_lists : {old u : Val} → Of c n t old (s.list a) → Of c n t u (s.list a) →
          Fine F E (λ z. Of c n t z (s.list a)) (combined (mode_of 1) old u)
      by_lists (is_list i) (is_list j) = fine_gives (is_list (joined_all c n i j))
  value_fine e mode_never i j = elim i [ ]

  no_misfit : {u w : Val} {a b d : Sort} → Indexed c n a b d → Of c n t u a → Of c n t w b → step_in u w ≡ misfit → ⊥
  no_misfit (in_list fit) (is_list {vs = vs} i) j e = by_int (is_up (parent_of n) j fit) e
    where
      found : (m : Option Val) → part_or outside m ≡ misfit → ⊥
      found None e = cc
      found (Some x) e = cc

      by_int : {w : Val} → Of c n t w s.int → in_array vs w ≡ misfit → ⊥
      by_int (is_int {n = pos k}) e = found (nth vs k) e
      by_int (is_int {n = negsuc k}) e = cc
  no_misfit {w = w} (in_map good fit) (is_map {ps = ps} i) j e = by_key (key_there c n good j)
    where
      found : (m : Option Val) → part_or absent m ≡ misfit → ⊥
      found None e = cc
      found (Some x) e = cc

      by_key : Keyed_by w → ⊥
      by_key (keyed_by {k = l} h) = found (at_key ps l) (subst (λ m. map_step ps m ≡ misfit) h e)
  no_misfit in_never i j e = elim i [ ]

  ends_fit : {path : List Val} {xs : List Sort} {a d : Sort} (u : Val) → Path c n a xs d → All c n t path xs → Of c n t u a →
      end_of path u ≡ places.unfit → ⊥
  ends_fit u path_no are_no i e = cc
  ends_fit u (path_so k p) (are_so {w = w} {vs = path} q r) i e =
      go (step_in u w) (λ x h f. ends_fit x p r (part_is k i q h) f) (λ h. no_misfit k i q h) e
    where
      go : (st : places.Step) → ((x : Val) → st ≡ part x → end_of path x ≡ places.unfit → ⊥) → (st ≡ misfit → ⊥) → end_from st path (end_of
          path) ≡ places.unfit → ⊥
      go (part x) f g e = f x refl e
      go outside f g e = cc
      go absent f g e = at_none path e
        where
          at_none : (path : List Val) → at_absent path ≡ places.unfit → ⊥
          at_none [] e = cc
          at_none (y ∷ path) e = cc
      go misfit f g e = g refl

  -- what a write at a path gives
  pub write_fine : {F E : Type 0} {m : ℕ} {path : List Val} {xs : List Sort} {a b d : Sort} (u value : Val) → E → (path ≢ [] → F) →
      Path c n a xs d → All c n t path xs → Of c n t u a → Mode c n m b d → Of c n t value b →
      Fine F E (λ y. Of c n t y.0 a × Of c n t y.1 d) (write_at path (mode_of m) value u)
  write_fine {F = F} {E = E} {m = m} {path = path} {a = a} {b = b} {d = d} u value e f p q i k j = by_end (end_of path u) refl
    where
      over : {x : Answer Val} → Fine F E (λ z. Of c n t z d) x → Fine F E (λ y. Of c n t y.0 a × Of c n t y.1 d) (overwritten path u x)
      over (fine_gives {x = new} h) = if_fine _ _ _ e (put_keeps u new p q i h, h)
      over (fine_fails h) = fine_fails h
      over (fine_error h) = fine_error h

      not_empty : {z : End} → end_of path u ≡ z → ((w : Val) → z ≡ there w → ⊥) → path ≡ [] → ⊥
      not_empty h g same = g u (sym h ∙ ap (λ path. end_of path u) same)

      by_key : (m : ℕ) (l : Option Key) → Mode c n m b d → last_key path ≡ l → end_of path u ≡ new_key → F → Fine F E (λ y. Of c n t y.0 a ×
          Of c n t y.1 d) (key_made path (mode_of m) value u l)
      by_key zero None k g h f = fine_fails f
      by_key zero (Some l) (mode_set r) g h f =
          if_fine _ _ _ e (push_keeps u value l p q i h g (is_up (parent_of n) j r), is_up (parent_of n) j r)
      by_key (suc zero) None k g h f = fine_fails f
      by_key (suc zero) (Some l) k g h f = fine_fails f
      by_key (suc (suc zero)) None k g h f = fine_fails f
      by_key (suc (suc zero)) (Some l) k g h f = fine_fails f
      by_key (suc (suc (suc m))) None k g h f = fine_fails f
      by_key (suc (suc (suc m))) (Some l) k g h f = fine_fails f

      by_end : (z : End) → end_of path u ≡ z → Fine F E (λ y. Of c n t y.0 a × Of c n t y.1 d) (written_at z path (mode_of m) value u)
      by_end (there old) h = over (value_fine e k (there_is u old p q i h) j)
      by_end new_key h = by_key m (last_key path) k refl h (f (not_empty h (λ w g. no_there w g)))
        where
          no_there : (w : Val) → new_key ≡ there w → ⊥
          no_there w g = cc
      by_end nowhere h = fine_fails (f (not_empty h (λ w g. no_there w g)))
        where
          no_there : (w : Val) → nowhere ≡ there w → ⊥
          no_there w g = cc
      by_end places.unfit h = elim (ends_fit u p q i h) [ ]
