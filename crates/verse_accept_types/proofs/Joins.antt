-- What two types join to has the classes that they have, or one above these.
use Rattle.std.proofs.Common.{◌≡◌, ℕ, zero, suc, ◌<◌, ◌≤◌, Bool, true, false, cond, List, length, Option, Some, None, refl, arith}
use Rattle.verse_rules_types.specs.Types as t
use Rattle.verse_rules_types.specs.Types.{Ty, Tys, Class}
use Rattle.verse_rules_types.specs.Fitting.{fits, inherits, first_above, above, parent_of, class_or_void, pick, tuple_or_void, one_more}
use Rattle.verse_rules_types.specs.Fitting.{joined, all_joined, join}
use Rattle.verse_accept_types.specs.Told.{how_many}
use Rattle.verse_accept_types.proofs.Bounds.{IsNamed, AreNamed}

-- either of two
pub on_cond : {A : Type 0} (P : A → Type 0) (b : Bool) (x y : A) → P x → P y → P (cond b x y)
on_cond P true x y h k = h
on_cond P false x y h k = k

module _ (classes enums : ℕ) (cs : List Class) (within : (c p : ℕ) → parent_of cs c ≡ Some p → p < classes) where
  abbrev Named : Ty → Type 0
  Named = IsNamed classes enums

  abbrev NamedAll : Tys → Type 0
  NamedAll = AreNamed classes enums

  above_named : (c n : ℕ) (test : ℕ → Bool) (o : Option ℕ) → parent_of cs c ≡ o →
      ((p : ℕ) → p < classes → Named (class_or_void (first_above cs test n p))) →
      Named (class_or_void (above o (first_above cs test n)))
  above_named c n test None e f = tt
  above_named c n test (Some p) e f = f p (within c p e)

  first_named : (test : ℕ → Bool) (n c : ℕ) → c < classes → Named (class_or_void (first_above cs test n c))
  first_named test zero c h = tt
  first_named test (suc n) c h =
      on_cond (λ o. Named (class_or_void o)) (test c) (Some c) (above (parent_of cs c) (first_above cs test n)) h
      (above_named c n test (parent_of cs c) refl (λ p g. first_named test n p g))

  pick_named : (a b c : Ty) → Named a → Named b → Named c → Named (pick cs a b c)
  pick_named a b c h g k =
      on_cond Named (fits cs a b) b (cond (fits cs b a) a c) g (on_cond Named (fits cs b a) a c h k)

  -- as many as there are
  abbrev SomeNamed : ℕ → Option Tys → Type 0
  SomeNamed n None = Unit {0}
  SomeNamed n (Some xs) = (how_many xs ≤ n) × NamedAll xs

  more_named : (a : Ty) (n : ℕ) (o : Option Tys) → Named a → SomeNamed n o → SomeNamed (suc n) (one_more a o)
  more_named a n None h g = tt
  more_named a n (Some xs) h g = (omega (arith, g.0), (h, g.1))

  tuple_named : (n : ℕ) (o : Option Tys) → n ≤ 4294967295 → SomeNamed n o → Named (tuple_or_void o)
  tuple_named n None l h = tt
  tuple_named n (Some xs) l h = (omega (arith, l, h.0), h.1)

  mutual
    joined_named : (a b : Ty) → Named a → Named b → Named (joined cs a b)
    joined_named (t.class c) (t.class d) h g = first_named (inherits cs d) (length cs) c h
    joined_named (t.option a) (t.option b) h g = pick_named a b (joined cs a b) h g (joined_named a b h g)
    joined_named (t.array a) (t.array b) h g = pick_named a b (joined cs a b) h g (joined_named a b h g)
    joined_named (t.task a) (t.task b) h g = pick_named a b (joined cs a b) h g (joined_named a b h g)
    joined_named (t.mapping k a) (t.mapping l b) h g = (
      pick_named k l (joined cs k l) h.0 g.0 (joined_named k l h.0 g.0),
      pick_named a b (joined cs a b) h.1 g.1 (joined_named a b h.1 g.1),
    )
    joined_named (t.tuple xs) (t.tuple ys) h g = tuple_named (how_many xs) (all_joined cs xs ys) h.0 (each_named xs ys h.1 g.1)
    joined_named a b h g = tt

    each_named : (xs ys : Tys) → NamedAll xs → NamedAll ys → SomeNamed (how_many xs) (all_joined cs xs ys)
    each_named t.no_tys t.no_tys h g = (omega arith, tt)
    each_named (t.more_tys a xs) (t.more_tys b ys) h g =
        more_named (pick cs a b (joined cs a b)) (how_many xs) (all_joined cs xs ys)
        (pick_named a b (joined cs a b) h.0 g.0 (joined_named a b h.0 g.0)) (each_named xs ys h.1 g.1)
    each_named xs ys h g = tt

  pub join_named : (a b : Ty) → Named a → Named b → Named (join cs a b)
  join_named a b h g = pick_named a b (joined cs a b) h g (joined_named a b h g)
