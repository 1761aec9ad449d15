-- Operations that push, compute and jump.
use Rattle.std.proofs.Common.{◌≡◌, ℕ, List, [], ◌∷◌, Option, Some, true, refl, sym, subst}
use Rattle.std.specs.Prelude.{ℤ}
use Rattle.verse_code.specs.declared.operations.Op.{Op}
use Rattle.verse_code.specs.declared.operations.Op.TheVariants as o
use Rattle.verse_code.specs.declared.codes.Code.{Code}
use Rattle.verse_sorts.specs.Sorts as s
use Rattle.verse_sorts.specs.Sorts.{Sort, IsKnown}
use Rattle.verse_verify_kept.specs.Notes.{Point, Notes}
use Rattle.verse_verify_kept.specs.Rules as r
use Rattle.verse_verify_faults.specs.Spots.{Spot, Table, above, cut}
use Rattle.verse_verify_faults.specs.Stepping as step
use Rattle.verse_verify_faults.specs.Stepping.{Goes, readable}
use Rattle.verse_verify_faults.proofs.Leading.{notes}
use Rattle.verse_verify_laws.proofs.Steps.{Fine}
use Rattle.verse_verify_clean.proofs.Leading.{SuitAll, suit_no, suit_so, pushed_is, bare, fits}
use Rattle.verse_verify_clean.proofs.Steps.{Here, evenly, led, needed, there, popped, two_ints}
use Rattle.verse_verify_clean.proofs.Holding.{fails_back}

pub readable_back : (m : Option Sort) (a : Sort) → m ≡ Some a → IsKnown a → readable m ≡ Some a
readable_back m a e h = subst (λ m. readable m ≡ Some a) (sym e) (by_sort a h)
  where
    by_sort : (a : Sort) → IsKnown a → readable (Some a) ≡ Some a
    by_sort s.none h = elim h [ ]
    by_sort a h = refl

pub counted_back : (c : Code) (n : Notes) (a : Sort) → r.Counted c n a → step.counted a ≡ true
counted_back c n a r.list_counted = refl
counted_back c n a r.map_counted = refl
counted_back c n a r.never_counted = refl

queried_back : (c : Code) (n : Notes) (a b : Sort) → r.Queried c n a b → step.queried a ≡ Some b
queried_back c n a b r.of_option = refl
queried_back c n a b r.of_logic = refl
queried_back c n a b r.of_nil = refl
queried_back c n a b r.of_never = refl

module _ (c : Code) (t : Table) (p : Spot) (i : ℕ) (here : Here c t p i) where
  abbrev N : Notes
  N = notes c t

  abbrev P : Point
  P = cut p

  abbrev st : List Sort
  st = above p.stack p.tries

  abbrev Done : Op → Type 0
  Done op = Fine c t p i op (step.step c t p i op st)

  abbrev Passed : Op → Type 0
  Passed op = r.Passes c N i P op

  pub on_one : {j : ℕ} {a : Sort} (st : List Sort) → r.To c N P (a ∷ st) j →
      SuitAll c t here.told p (step.to c t p i j (step.is a ∷ []) st ∷ [])
  on_one st l = suit_so (pushed_is c t here.told p i (evenly c t p i here) st l) suit_no

  pub off_one : {j : ℕ} (st : List Sort) → r.To c N P st j → SuitAll c t here.told p (step.to c t p i j [] st ∷ [])
  off_one st l = suit_so (bare c t here.told p i (evenly c t p i here) st l) suit_no

  pub int_back : {k : ℤ} → Passed (o.Int k) → Done (o.Int k)
  int_back (r.of_int l) =
      led c t p i here _ (on_one st l) refl refl refl refl refl refl

  pub unit_back : Passed o.Unit → Done o.Unit
  unit_back (r.of_unit l) =
      led c t p i here _ (on_one st l) refl refl refl refl refl refl

  pub false_back : Passed o.False → Done o.False
  false_back (r.of_false l) =
      led c t p i here _ (on_one st l) refl refl refl refl refl refl

  pub true_back : Passed o.True → Done o.True
  true_back (r.of_true l) =
      led c t p i here _ (on_one st l) refl refl refl refl refl refl

  pub char_back : {k : ℕ} → Passed (o.Char k) → Done (o.Char k)
  char_back (r.of_char l) =
      led c t p i here _ (on_one st l) refl refl refl refl refl refl

  pub text_back : {k : ℕ} → Passed (o.Text k) → Done (o.Text k)
  text_back (r.of_text l) =
      led c t p i here _ (on_one st l) refl refl refl refl refl refl

  pub enum_back : {e k : ℕ} → Passed (o.Enum e k) → Done (o.Enum e k)
  enum_back (r.of_enum l) =
      led c t p i here _ (on_one st l) refl refl refl refl refl refl

  pub get_back : {l : ℕ} → Passed (o.Get l) → Done (o.Get l)
  get_back (r.of_get {a = a} e h l) =
      there c t p i here _ 6 _ (readable_back _ a e h) (led c t p i here _ (on_one st l) refl refl refl refl refl refl)

  pub drop_back : Passed o.Drop → Done o.Drop
  drop_back (r.of_drop e l) =
      popped c t p i here _ _ e (led c t p i here _ (off_one _ l) refl refl refl refl refl refl)

  pub add_back : {k : ℕ} → Passed (o.Add k) → Done (o.Add k)
  add_back (r.of_add e f g l) =
      two_ints c t p i here _ _ e f g (led c t p i here _ (on_one _ l) refl refl refl refl refl refl)

  pub sub_back : {k : ℕ} → Passed (o.Sub k) → Done (o.Sub k)
  sub_back (r.of_sub e f g l) =
      two_ints c t p i here _ _ e f g (led c t p i here _ (on_one _ l) refl refl refl refl refl refl)

  pub mul_back : {k : ℕ} → Passed (o.Mul k) → Done (o.Mul k)
  mul_back (r.of_mul e f g l) =
      two_ints c t p i here _ _ e f g (led c t p i here _ (on_one _ l) refl refl refl refl refl refl)

  pub neg_back : {k : ℕ} → Passed (o.Neg k) → Done (o.Neg k)
  neg_back (r.of_neg e f l) =
      popped c t p i here _ _ e
      (needed c t p i here _ 5 (fits c t here.told f) (led c t p i here _ (on_one _ l) refl refl refl refl refl refl))

  pub floor_back : {k : ℕ} → Passed (o.Floor k) → Done (o.Floor k)
  floor_back (r.of_floor e f g m l) =
      two_ints c t p i here _ _ e f g (led c t p i here _ (on_one _ l) refl (fails_back c t p m) refl refl refl refl)

  pub ceil_back : {k : ℕ} → Passed (o.Ceil k) → Done (o.Ceil k)
  ceil_back (r.of_ceil e f g m l) =
      two_ints c t p i here _ _ e f g (led c t p i here _ (on_one _ l) refl (fails_back c t p m) refl refl refl refl)

  pub mod_back : Passed o.Mod → Done o.Mod
  mod_back (r.of_mod e f g m l) =
      two_ints c t p i here _ _ e f g (led c t p i here _ (on_one _ l) refl (fails_back c t p m) refl refl refl refl)

  pub lt_back : Passed o.Lt → Done o.Lt
  lt_back (r.of_lt e f g m l) =
      two_ints c t p i here _ _ e f g (led c t p i here _ (on_one _ l) refl (fails_back c t p m) refl refl refl refl)

  pub le_back : Passed o.Le → Done o.Le
  le_back (r.of_le e f g m l) =
      two_ints c t p i here _ _ e f g (led c t p i here _ (on_one _ l) refl (fails_back c t p m) refl refl refl refl)

  pub gt_back : Passed o.Gt → Done o.Gt
  gt_back (r.of_gt e f g m l) =
      two_ints c t p i here _ _ e f g (led c t p i here _ (on_one _ l) refl (fails_back c t p m) refl refl refl refl)

  pub ge_back : Passed o.Ge → Done o.Ge
  ge_back (r.of_ge e f g m l) =
      two_ints c t p i here _ _ e f g (led c t p i here _ (on_one _ l) refl (fails_back c t p m) refl refl refl refl)

  pub eq_back : Passed o.Eq → Done o.Eq
  eq_back (r.of_eq e m l) =
      popped c t p i here _ _ e (led c t p i here _ (on_one _ l) refl (fails_back c t p m) refl refl refl refl)

  pub ne_back : Passed o.Ne → Done o.Ne
  ne_back (r.of_ne e m l) =
      popped c t p i here _ _ e (led c t p i here _ (on_one _ l) refl (fails_back c t p m) refl refl refl refl)

  pub some_back : {k : ℕ} → Passed (o.Some k) → Done (o.Some k)
  some_back (r.of_some e l) =
      popped c t p i here _ _ e (led c t p i here _ (on_one _ l) refl refl refl refl refl refl)

  pub query_back : Passed o.Query → Done o.Query
  query_back (r.of_query e q m l) =
      popped c t p i here _ _ e
      (there c t p i here _ 5 _ (queried_back c N _ _ q) (led c t p i here _ (on_one _ l) refl (fails_back c t p m) refl refl refl refl))

  pub length_back : Passed o.Length → Done o.Length
  length_back (r.of_length {a = a} e q l) =
      popped c t p i here _ _ e
      (needed c t p i here _ 5 (counted_back c N a q) (led c t p i here _ (on_one _ l) refl refl refl refl refl refl))

  pub print_back : {k : ℕ} → Passed (o.Print k) → Done (o.Print k)
  print_back (r.of_print e f l) =
      popped c t p i here _ _ e
      (needed c t p i here _ 5 (fits c t here.told f) (led c t p i here _ (on_one _ l) refl refl refl refl refl refl))

  pub fail_back : Passed o.Fail → Done o.Fail
  fail_back (r.of_fail m) =
      led c t p i here _ suit_no refl (fails_back c t p m) refl refl refl refl

  pub jump_back : {l : ℕ} → Passed (o.Jump l) → Done (o.Jump l)
  jump_back (r.of_jump l) =
      led c t p i here _ (off_one st l) refl refl refl refl refl refl

  pub again_back : {l : ℕ} → Passed (o.Again l) → Done (o.Again l)
  again_back (r.of_again l) =
      led c t p i here _ (off_one st l) refl refl refl refl refl refl

  pub same_back : {l : ℕ} → Passed (o.Same l) → Done (o.Same l)
  same_back (r.of_same e l k) =
      popped c t p i here _ _ e (led c t p i here _
      (suit_so (bare c t here.told p i (evenly c t p i here) _ l) (off_one _ k)) refl refl refl refl refl refl)
