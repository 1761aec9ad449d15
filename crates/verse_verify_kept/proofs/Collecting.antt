-- Join and Map: many operands make a text or a map.
use Rattle.std.proofs.Common.{◌≡◌, ℕ, List, [], ◌∷◌, ◌++◌, Option, Some, Bool, true, false, refl, sym, subst, ap, ◌∙◌}
use Rattle.std.specs.Prelude.{option_map, if◌then◌else◌}
use Rattle.verse_code.specs.declared.operations.Op.TheVariants as o
use Rattle.verse_code.specs.declared.codes.Code.{Code}
use Rattle.verse_value.specs.Val.{Val, Pairs, more_pairs}
use Rattle.verse_value.specs.Keys.{key_of, key_val, key_eq}
use Rattle.verse_value.specs.Operations.{hole_bytes, both_bytes, holes_bytes, sized_text, join_of, with_entry, with_entries, keyed_with}
use Rattle.verse_value.specs.Operations.{keyed}
use Rattle.verse_value.specs.Operations.{sized_map, map_of}
use Rattle.verse_value.specs.declared.keys.Key.{Key}
use Rattle.verse_meaning_state.specs.State.{State}
use Rattle.verse_code_machine.specs.Tasks.{Life, Handler, Frame, Who, World}
use Rattle.verse_code_machine.specs.Acts.{paired, place_at, act}
use Rattle.verse_sorts.specs.Sorts as sort
use Rattle.verse_sorts.specs.Sorts.{Sort}
use Rattle.verse_sorts.specs.Typing.{Typing, ArePairs, is_int, is_char, is_list, is_map, no_entries, more_entries, are_no, are_so}
use Rattle.verse_sorts.proofs.Fitting.{is_up}
use Rattle.verse_verify_kept.specs.Notes.{Point, Notes, parent_of}
use Rattle.verse_verify_kept.specs.Known.{Known}
use Rattle.verse_verify_kept.specs.Rules.{MayFail, Passes, Shown, shown_no, shown_int, shown_char, shown_text, Keyed, keyed_no, keyed_so}
use Rattle.verse_verify_kept.specs.Rules as r
use Rattle.verse_verify_kept.specs.Kept.{giver, Of, All, StoreIs, Beneath, Bottom}
use Rattle.verse_verify_kept.proofs.Going.{Good, Ends, Rest, Fresh}
use Rattle.verse_verify_kept.proofs.Acts.{Fine, many_good}
use Rattle.verse_verify_kept.proofs.Values.{Has, if_fine, still_good, bytes_there, Keyed_by, keyed_by, key_there}
use Rattle.verse_verify_kept.proofs.Simple.{text_is}
use Rattle.verse_verify_kept.proofs.Paths.{key_back}

module _ (c : Code) (n : Notes) (t : Typing) where
  both_there : {a b : Option (List ℕ)} {front back : List ℕ} → a ≡ Some front → b ≡ Some back → both_bytes a b ≡ Some (front ++ back)
  both_there {a = a} {b = b} {front = front} {back = back} e f =
      subst (λ a. both_bytes a b ≡ Some (front ++ back)) (sym e)
      (subst (λ b. option_map (λ bs. front ++ bs) b ≡ Some (front ++ back)) (sym f) refl)

  hole_int : {u : Val} → Of c n t u sort.int → (bs : List ℕ) × (hole_bytes u ≡ Some bs)
  hole_int is_int = (_, refl)

  hole_char : {u : Val} → Of c n t u sort.char → (bs : List ℕ) × (hole_bytes u ≡ Some bs)
  hole_char is_char = (_, refl)

  hole_text : {u : Val} → Of c n t u (sort.list sort.char) → (bs : List ℕ) × (hole_bytes u ≡ Some bs)
  hole_text (is_list i) = bytes_there c n i

  holes_there : {us : List Val} {xs : List Sort} → Shown c n xs → All c n t us xs → (bs : List ℕ) × (holes_bytes us ≡ Some bs)
  holes_there shown_no are_no = ([], refl)
  holes_there (shown_int f k) (are_so i r) = (_, both_there (hole_int (is_up (parent_of n) i f)).1 (holes_there k r).1)
  holes_there (shown_char f k) (are_so i r) = (_, both_there (hole_char (is_up (parent_of n) i f)).1 (holes_there k r).1)
  holes_there (shown_text f k) (are_so i r) = (_, both_there (hole_text (is_up (parent_of n) i f)).1 (holes_there k r).1)

  join_fine : {F E : Type 0} {us : List Val} {xs : List Sort} → E → Shown c n xs → All c n t us xs →
      Fine F E (λ z. Of c n t z (sort.list sort.char)) (join_of us)
  join_fine {F = F} {E = E} e k i = go (holes_there k i)
    where
      go : {m : Option (List ℕ)} → (bs : List ℕ) × (m ≡ Some bs) → Fine F E (λ z. Of c n t z (sort.list sort.char)) (sized_text m)
      go q =
          subst (λ m. Fine F E (λ z. Of c n t z (sort.list sort.char)) (sized_text m)) (sym q.1)
          (if_fine _ _ _ e (is_list (text_is c n q.0)))

  data Entries (k a : Sort) : List (Key × Val) → Type 0 where
    entries_no : Entries k a []
    entries_so : {l : Key} {u : Val} {es : List (Key × Val)} → Of c n t (key_val l) k → Of c n t u a → Entries k a es →
        Entries k a ((l, u) ∷ es)

  data Keys_there (k a : Sort) (m : Option (List (Key × Val))) : Type 0 where
    keys_there : {es : List (Key × Val)} → m ≡ Some es → Entries k a es → Keys_there k a m

  keyed_is : {k a : Sort} {us : List Val} {xs : List Sort} → Keyed c n k a xs → All c n t us xs → Keys_there k a (keyed (paired us))
  keyed_is keyed_no are_no = keys_there refl entries_no
  keyed_is {k = k} {a = a} (keyed_so good fk fa more) (are_so {w = w} i (are_so {w = u} {vs = us} j r)) =
      go (key_there c n good i) (keyed_is more r)
    where
      go : Keyed_by w → Keys_there k a (keyed (paired us)) → Keys_there k a (keyed_with (key_of w) u (keyed (paired us)))
      go (keyed_by {k = l} e) (keys_there {es = es} f q) =
          keys_there (ap (λ m. keyed_with m u (keyed (paired us))) e ∙ ap (λ m. option_map (λ es. (l, u) ∷ es) m) f) (entries_so (is_up
          (parent_of n) (key_back c n good i e) fk) (is_up (parent_of n) j fa) q)

  entry_put : {ps : Pairs} {k a : Sort} (l : Key) (u : Val) → ArePairs (parent_of n) t ps k a → Of c n t (key_val l) k → Of c n t u a →
      ArePairs (parent_of n) t (with_entry ps l u) k a
  entry_put l u no_entries i j = more_entries i j no_entries
  entry_put {k = k} {a = a} l u (more_entries {l = m} {w = w} {ps = ps} p q r) i j = go (key_eq l m) (entry_put l u r i j)
    where
      go : (b : Bool) → ArePairs (parent_of n) t (with_entry ps l u) k a →
          ArePairs (parent_of n) t (if b then more_pairs m u ps else more_pairs m w (with_entry ps l u)) k a
      go true h = more_entries p j r
      go false h = more_entries p q h

  entries_put : {k a : Sort} {es : List (Key × Val)} → Entries k a es → {ps : Pairs} → ArePairs (parent_of n) t ps k a →
      ArePairs (parent_of n) t (with_entries ps es) k a
  entries_put entries_no i = i
  entries_put (entries_so {l = l} {u = u} p q r) i = entries_put r (entry_put l u i p q)

  map_fine : {F E : Type 0} {us : List Val} {xs : List Sort} {k a : Sort} → E → Keyed c n k a xs → All c n t us xs →
      Fine F E (λ z. Of c n t z (sort.map k a)) (map_of (paired us))
  map_fine {F = F} {E = E} {k = k} {a = a} e q i = go (keyed_is q i)
    where
      go : {m : Option (List (Key × Val))} → Keys_there k a m → Fine F E (λ z. Of c n t z (sort.map k a)) (sized_map m)
      go (keys_there f es) =
          subst (λ m. Fine F E (λ z. Of c n t z (sort.map k a)) (sized_map m)) (sym f)
          (if_fine _ _ _ e (is_map (entries_put es no_entries)))

module _ (c : Code) (n : Notes) (bottom : Bottom c n) (ok : Known c n) (ends : Ends c n bottom) (w : Who) (x : World) (s : State)
    (g : Life) (pc : ℕ) (bl : List Frame) (t : Typing) (p : Point) (z : StoreIs c n t s.memory.store) (f : Fresh c n bottom t s.clock.left)
    (ls more : List Val) (hs : List Handler) (k : Beneath c n (Rest c n bottom w x s (giver n p) bl) t p p.defers ls more hs g.defers
    g.noted) (a : All c n t ls p.locals) {above : List Val} (b : All c n t above p.stack) where
  pub join_good : {m q : ℕ} → Has (place_at c q) → Passes c n pc p (o.Join m q) →
      Good c n bottom (act c (o.Join m q) w x s g ls (above ++ more) pc hs bl)
  join_good {q = q} h (r.of_join pops shown l) =
      many_good c n bottom ok ends w x s g pc bl t p z f ls more hs k a above [] _ pops b are_no
      (λ vs rest i j. still_good c n bottom ok ends w x s g pc bl t p z f ls more hs k a (place_at c q) (join_of vs) l j
      (join_fine c n t h shown i))

  pub map_good : {m q : ℕ} → Has (place_at c q) → Passes c n pc p (o.Map m q) →
      Good c n bottom (act c (o.Map m q) w x s g ls (above ++ more) pc hs bl)
  map_good {q = q} h (r.of_map pops in_keys l) =
      many_good c n bottom ok ends w x s g pc bl t p z f ls more hs k a above [] _ pops b are_no
      (λ vs rest i j. still_good c n bottom ok ends w x s g pc bl t p z f ls more hs k a (place_at c q) (map_of (paired vs)) l j
      (map_fine c n t h in_keys i))
