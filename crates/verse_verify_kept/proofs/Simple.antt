-- Operations that push, compute or compare, by the lemmas of `Values`.
use Rattle.std.proofs.Common.{◌≡◌, ℕ, zero, suc, List, [], ◌∷◌, ◌++◌, Some, None, Bool, true, false, sym, subst}
use Rattle.std.specs.Prelude.{slice_get, if◌then◌else◌}
use Rattle.std.proofs.lemmas.Option.{same_Some, none-some}
use Rattle.verse_code.specs.declared.operations.Op.{Op}
use Rattle.verse_code.specs.declared.operations.Op.TheVariants as o
use Rattle.verse_code.specs.declared.codes.Code.{Code}
use Rattle.verse_value.specs.Val.{Val, Vals, vals}
use Rattle.verse_value.specs.Answer.{Answer, fails, stuck, given_or}
use Rattle.verse_value.specs.Keys.{chars}
use Rattle.verse_value.specs.Places.{nth}
use Rattle.verse_value.specs.Operations.{difference_of, product_of, negation_of, floor_of, ceil_of, modulo_of, less_of, at_most_of}
use Rattle.verse_value.specs.Operations.{greater_of}
use Rattle.verse_value.specs.Operations.{at_least_of, equal_of, unequal_of, option_of, item_of, length_of, array_of, tuple_of, left_where}
use Rattle.verse_value.specs.Operations.{text_val}
use Rattle.verse_meaning_state.specs.State.{State}
use Rattle.verse_code_machine.specs.Tasks.{Life, Handler, Frame, Who, World}
use Rattle.verse_code_machine.specs.Frames.{on_there}
use Rattle.verse_code_machine.specs.Acts.{pushes, place_at, act}
use Rattle.verse_sorts.specs.Sorts as sort
use Rattle.verse_sorts.specs.Sorts.{Sort, Sorts}
use Rattle.verse_sorts.specs.Typing.{Typing, AreAll, AreEach, is_int, is_unit, is_nil, is_true, is_char, is_enum, is_some, is_list}
use Rattle.verse_sorts.specs.Typing.{is_tuple}
use Rattle.verse_sorts.specs.Typing.{is_map, no_all, more_all, no_each, more_each, are_no, are_so}
use Rattle.verse_sorts.proofs.Fitting.{is_up}
use Rattle.verse_verify_kept.specs.Notes.{Point, Notes, parent_of}
use Rattle.verse_verify_kept.specs.Known.{Known}
use Rattle.verse_verify_kept.specs.Rules.{To, MayFail, Passes, AllIn, in_no, in_so, Counted, list_counted, map_counted, never_counted}
use Rattle.verse_verify_kept.specs.Rules.{sorts, at_sort}
use Rattle.verse_verify_kept.specs.Rules.{Pops}
use Rattle.verse_verify_kept.specs.Rules as r
use Rattle.verse_verify_kept.specs.Kept.{giver, Of, All, StoreIs, Beneath, Bottom}
use Rattle.verse_verify_kept.proofs.Going.{Good, Ends, Rest, Fresh}
use Rattle.verse_verify_kept.proofs.Acts.{Fine, fine_gives, fine_fails, to_good, many_good}
use Rattle.verse_verify_kept.proofs.Values.{Has, if_fine, still_good, unary_good, binary_good}

divided_fine : {F E : Type 0} {R : Val → Type 0} (b : Bool) {x : Answer Val} → F → Fine F E R x → Fine F E R (if b then fails else x)
divided_fine true f h = fine_fails f
divided_fine false f h = h

module _ (c : Code) (n : Notes) {t : Typing} where
  difference_fine : {F E : Type 0} {u w : Val} → E → Of c n t u sort.int → Of c n t w sort.int → Fine F E (λ z. Of c n t z sort.int)
      (difference_of u w)
  difference_fine e is_int is_int = if_fine _ _ _ e is_int

  product_fine : {F E : Type 0} {u w : Val} → E → Of c n t u sort.int → Of c n t w sort.int →
      Fine F E (λ z. Of c n t z sort.int) (product_of u w)
  product_fine e is_int is_int = if_fine _ _ _ e is_int

  negation_fine : {F E : Type 0} {u : Val} → E → Of c n t u sort.int → Fine F E (λ z. Of c n t z sort.int) (negation_of u)
  negation_fine e is_int = if_fine _ _ _ e is_int

  floor_fine : {F E : Type 0} {u w : Val} → F → E → Of c n t u sort.int → Of c n t w sort.int →
      Fine F E (λ z. Of c n t z sort.int) (floor_of u w)
  floor_fine f e is_int is_int = divided_fine _ f (if_fine _ _ _ e is_int)

  ceil_fine : {F E : Type 0} {u w : Val} → F → E → Of c n t u sort.int → Of c n t w sort.int → Fine F E (λ z. Of c n t z sort.int) (ceil_of
      u w)
  ceil_fine f e is_int is_int = divided_fine _ f (if_fine _ _ _ e is_int)

  modulo_fine : {F E : Type 0} {u w : Val} → F → Of c n t u sort.int → Of c n t w sort.int → Fine F E (λ z. Of c n t z sort.int) (modulo_of
      u w)
  modulo_fine f is_int is_int = divided_fine _ f (fine_gives is_int)

  left_fine : {F E : Type 0} (b : Bool) {u : Val} {a : Sort} → F → Of c n t u a → Fine F E (λ z. Of c n t z a) (left_where b u)
  left_fine true f i = fine_gives i
  left_fine false f i = fine_fails f

  less_fine : {F E : Type 0} {u w : Val} → F → Of c n t u sort.int → Of c n t w sort.int → Fine F E (λ z. Of c n t z sort.int) (less_of u w)
  less_fine f is_int is_int = left_fine _ f is_int

  at_most_fine : {F E : Type 0} {u w : Val} → F → Of c n t u sort.int → Of c n t w sort.int →
      Fine F E (λ z. Of c n t z sort.int) (at_most_of u w)
  at_most_fine f is_int is_int = left_fine _ f is_int

  greater_fine : {F E : Type 0} {u w : Val} → F → Of c n t u sort.int → Of c n t w sort.int →
      Fine F E (λ z. Of c n t z sort.int) (greater_of u w)
  greater_fine f is_int is_int = left_fine _ f is_int

  at_least_fine : {F E : Type 0} {u w : Val} → F → Of c n t u sort.int → Of c n t w sort.int → Fine F E (λ z. Of c n t z sort.int)
      (at_least_of u w)
  at_least_fine f is_int is_int = left_fine _ f is_int

  length_fine : {F E : Type 0} {u : Val} {a : Sort} → Counted c n a → Of c n t u a → Fine F E (λ z. Of c n t z sort.int) (length_of u)
  length_fine list_counted (is_list i) = fine_gives is_int
  length_fine map_counted (is_map i) = fine_gives is_int
  length_fine never_counted i = elim i [ ]

  item_fine : {F E : Type 0} {u : Val} {xs : Sorts} {a : Sort} (m : ℕ) → at_sort xs m ≡ Some a → Of c n t u (sort.tuple xs) →
      Fine F E (λ z. Of c n t z a) (item_of u m)
  item_fine {F = F} {E = E} {a = a} m e (is_tuple i) = found m e i
    where
      found : {vs : Vals} {xs : Sorts} (m : ℕ) → at_sort xs m ≡ Some a → AreEach (parent_of n) t vs xs → Fine F E (λ z. Of c n t z a)
          (given_or stuck (nth vs m))
      found m e no_each = elim (none-some _ e) [ ]
      found zero e (more_each {w = w} i r) = fine_gives (subst (Of c n t w) (same_Some _ _ e) i)
      found (suc m) e (more_each i r) = found m e r

  never_fine : {F E : Type 0} {R : Val → Type 0} {u : Val} {x : Answer Val} → Of c n t u sort.never → Fine F E R x
  never_fine i = elim i [ ]

  all_in : {vs : List Val} {xs : List Sort} {u : Sort} → All c n t vs xs → AllIn c n u xs → AreAll (parent_of n) t (vals vs) u
  all_in are_no in_no = no_all
  all_in (are_so i r) (in_so f k) = more_all (is_up (parent_of n) i f) (all_in r k)

  each_in : {vs : List Val} {xs : List Sort} → All c n t vs xs → AreEach (parent_of n) t (vals vs) (sorts xs)
  each_in are_no = no_each
  each_in (are_so i r) = more_each i (each_in r)

  pub text_is : (bs : List ℕ) → AreAll (parent_of n) t (chars bs) sort.char
  text_is [] = no_all
  text_is (b ∷ bs) = more_all is_char (text_is bs)

module _ (c : Code) (n : Notes) (bottom : Bottom c n) (ok : Known c n) (ends : Ends c n bottom) (w : Who) (x : World) (s : State)
    (g : Life) (pc : ℕ) (bl : List Frame) (t : Typing) (p : Point) (z : StoreIs c n t s.memory.store) (f : Fresh c n bottom t s.clock.left)
    (ls more : List Val) (hs : List Handler) (k : Beneath c n (Rest c n bottom w x s (giver n p) bl) t p p.defers ls more hs g.defers
    g.noted) (a : All c n t ls p.locals) {above : List Val} (b : All c n t above p.stack) where
  abbrev Does : Op → Type 0
  Does op = Good c n bottom (act c op w x s g ls (above ++ more) pc hs bl)

  pub unit_good : Passes c n pc p o.Unit → Does o.Unit
  unit_good (r.of_unit l) = to_good c n bottom ok ends w x s g pc bl t p z f ls more hs k a l (are_so is_unit b)

  pub false_good : Passes c n pc p o.False → Does o.False
  false_good (r.of_false l) = to_good c n bottom ok ends w x s g pc bl t p z f ls more hs k a l (are_so is_nil b)

  pub true_good : Passes c n pc p o.True → Does o.True
  true_good (r.of_true l) = to_good c n bottom ok ends w x s g pc bl t p z f ls more hs k a l (are_so is_true b)

  pub char_good : {m : ℕ} → Passes c n pc p (o.Char m) → Does (o.Char m)
  char_good (r.of_char l) = to_good c n bottom ok ends w x s g pc bl t p z f ls more hs k a l (are_so is_char b)

  pub enum_good : {m q : ℕ} → Passes c n pc p (o.Enum m q) → Does (o.Enum m q)
  enum_good (r.of_enum l) = to_good c n bottom ok ends w x s g pc bl t p z f ls more hs k a l (are_so is_enum b)

  pub text_good : {m : ℕ} {bs : List ℕ} → slice_get c.texts m ≡ Some bs → Passes c n pc p (o.Text m) → Does (o.Text m)
  text_good {m = m} e (r.of_text l) =
      subst (λ y. Good c n bottom (on_there y s (λ bytes. pushes (text_val bytes) w x s g ls (above ++ more) pc hs bl))) (sym e) (to_good
      c n bottom ok ends w x s g pc bl t p z f ls more hs k a l (are_so (is_list (text_is c n _)) b))

  pub sub_good : {m : ℕ} → Has (place_at c m) → Passes c n pc p (o.Sub m) → Does (o.Sub m)
  sub_good {m = m} h (r.of_sub e fa fb l) =
      binary_good c n bottom ok ends w x s g pc bl t p z f ls more hs k a difference_of (place_at c m) b e l
      (λ u y i j. difference_fine c n h (is_up (parent_of n) i fa) (is_up (parent_of n) j fb))

  pub mul_good : {m : ℕ} → Has (place_at c m) → Passes c n pc p (o.Mul m) → Does (o.Mul m)
  mul_good {m = m} h (r.of_mul e fa fb l) =
      binary_good c n bottom ok ends w x s g pc bl t p z f ls more hs k a product_of (place_at c m) b e l
      (λ u y i j. product_fine c n h (is_up (parent_of n) i fa) (is_up (parent_of n) j fb))

  pub neg_good : {m : ℕ} → Has (place_at c m) → Passes c n pc p (o.Neg m) → Does (o.Neg m)
  neg_good {m = m} h (r.of_neg e fa l) =
      unary_good c n bottom ok ends w x s g pc bl t p z f ls more hs k a negation_of (place_at c m) b e l
      (λ u i. negation_fine c n h (is_up (parent_of n) i fa))

  pub floor_good : {m : ℕ} → Has (place_at c m) → Passes c n pc p (o.Floor m) → Does (o.Floor m)
  floor_good {m = m} h (r.of_floor e fa fb may l) =
      binary_good c n bottom ok ends w x s g pc bl t p z f ls more hs k a floor_of (place_at c m) b e l
      (λ u y i j. floor_fine c n may h (is_up (parent_of n) i fa) (is_up (parent_of n) j fb))

  pub ceil_good : {m : ℕ} → Has (place_at c m) → Passes c n pc p (o.Ceil m) → Does (o.Ceil m)
  ceil_good {m = m} h (r.of_ceil e fa fb may l) =
      binary_good c n bottom ok ends w x s g pc bl t p z f ls more hs k a ceil_of (place_at c m) b e l
      (λ u y i j. ceil_fine c n may h (is_up (parent_of n) i fa) (is_up (parent_of n) j fb))

  pub mod_good : Passes c n pc p o.Mod → Does o.Mod
  mod_good (r.of_mod e fa fb may l) =
      binary_good c n bottom ok ends w x s g pc bl t p z f ls more hs k a modulo_of None b e l
      (λ u y i j. modulo_fine c n may (is_up (parent_of n) i fa) (is_up (parent_of n) j fb))

  pub lt_good : Passes c n pc p o.Lt → Does o.Lt
  lt_good (r.of_lt e fa fb may l) =
      binary_good c n bottom ok ends w x s g pc bl t p z f ls more hs k a less_of None b e l
      (λ u y i j. less_fine c n may (is_up (parent_of n) i fa) (is_up (parent_of n) j fb))

  pub le_good : Passes c n pc p o.Le → Does o.Le
  le_good (r.of_le e fa fb may l) =
      binary_good c n bottom ok ends w x s g pc bl t p z f ls more hs k a at_most_of None b e l
      (λ u y i j. at_most_fine c n may (is_up (parent_of n) i fa) (is_up (parent_of n) j fb))

  pub gt_good : Passes c n pc p o.Gt → Does o.Gt
  gt_good (r.of_gt e fa fb may l) =
      binary_good c n bottom ok ends w x s g pc bl t p z f ls more hs k a greater_of None b e l
      (λ u y i j. greater_fine c n may (is_up (parent_of n) i fa) (is_up (parent_of n) j fb))

  pub ge_good : Passes c n pc p o.Ge → Does o.Ge
  ge_good (r.of_ge e fa fb may l) =
      binary_good c n bottom ok ends w x s g pc bl t p z f ls more hs k a at_least_of None b e l
      (λ u y i j. at_least_fine c n may (is_up (parent_of n) i fa) (is_up (parent_of n) j fb))

  pub eq_good : Passes c n pc p o.Eq → Does o.Eq
  eq_good (r.of_eq e may l) = binary_good c n bottom ok ends w x s g pc bl t p z f ls more hs k a equal_of None b e l
      (λ u y i j. left_fine c n _ may i)

  pub ne_good : Passes c n pc p o.Ne → Does o.Ne
  ne_good (r.of_ne e may l) = binary_good c n bottom ok ends w x s g pc bl t p z f ls more hs k a unequal_of None b e l
      (λ u y i j. left_fine c n _ may i)

  pub some_good : {m : ℕ} → Has (place_at c m) → Passes c n pc p (o.Some m) → Does (o.Some m)
  some_good {m = m} h (r.of_some e l) = unary_good c n bottom ok ends w x s g pc bl t p z f ls more hs k a option_of (place_at c m) b e l
      (λ u i. if_fine _ _ _ h (is_some i))

  pub item_good : {m : ℕ} → Passes c n pc p (o.Item m) → Does (o.Item m)
  item_good {m = m} (r.of_item e there l) = unary_good c n bottom ok ends w x s g pc bl t p z f ls more hs k a (λ v. item_of v m) None b e l
      (λ u i. item_fine c n m there i)
  item_good {m = m} (r.of_no_item e l) = unary_good c n bottom ok ends w x s g pc bl t p z f ls more hs k a (λ v. item_of v m) None b e l
      (λ u i. never_fine c n i)

  pub length_good : Passes c n pc p o.Length → Does o.Length
  length_good (r.of_length e q l) = unary_good c n bottom ok ends w x s g pc bl t p z f ls more hs k a length_of None b e l
      (λ u i. length_fine c n q i)

  pub array_good : {m q : ℕ} → Has (place_at c q) → Passes c n pc p (o.Array m q) → Does (o.Array m q)
  array_good {m = m} {q = q} h (r.of_array pops in_u l) =
      many_good c n bottom ok ends w x s g pc bl t p z f ls more hs k a above [] _ pops b are_no
      (λ vs rest i j. still_good c n bottom ok ends w x s g pc bl t p z f ls more hs k a (place_at c q) (array_of vs) l j
      (if_fine _ _ _ h (is_list (all_in c n i in_u))))

  pub tuple_good : {m q : ℕ} → Has (place_at c q) → Passes c n pc p (o.Tuple m q) → Does (o.Tuple m q)
  tuple_good {m = m} {q = q} h (r.of_tuple pops l) =
      many_good c n bottom ok ends w x s g pc bl t p z f ls more hs k a above [] _ pops b are_no
      (λ vs rest i j. still_good c n bottom ok ends w x s g pc bl t p z f ls more hs k a (place_at c q) (tuple_of vs) l j
      (if_fine _ _ _ h (is_tuple (each_in c n i))))
