-- What the checker has found of a tree, form by form.
use Rattle.std.specs.Prelude.{◌≡◌, ℕ, List, [], ◌∷◌, ◌++◌, Option, Some, None, Bool, true, false}
use Rattle.verse_base.specs.declared.places.Place.{Place}
use Rattle.verse_tree.specs.Tree.{Bytes, Tree, tree, Shape, Trees, no_trees, more_trees, Holes}
use Rattle.verse_tree.specs.Tree.{no_holes, more_holes, Givens, no_givens}
use Rattle.verse_tree.specs.Tree.{more_givens}
use Rattle.verse_tree.specs.Tree as t
use Rattle.verse_tree.specs.declared.exprs.Operator.TheVariants as op
use Rattle.verse_tree.specs.declared.tables.Ref.TheVariants as ref
use Rattle.verse_value.specs.Val.{Val, enum}
use Rattle.verse_value.specs.declared.modes.Mode.{Mode}
use Rattle.verse_names_tables.specs.Names.{Table}
use Rattle.verse_sorts.specs.Sorts as s
use Rattle.verse_sorts.specs.Sorts.{Sort, Fits, IsKey}
use Rattle.verse_meaning.specs.Programs.{Program, ref_at, pieces, given_names}
use Rattle.verse_meaning.specs.Residuals as form
use Rattle.verse_meaning.specs.Residuals.{Form, Binder, no_name, a_constant, a_variable, Generator}
use Rattle.verse_meaning.specs.Residuals.{of_elements, of_entries, of_range}
use Rattle.verse_meaning.specs.Evaluating.{Callee, alone, of_object, of_value, of_quotient}
use Rattle.verse_meaning.specs.Evaluating.{no_callee, callee_of, spawned_callee, picked}
use Rattle.verse_meaning.specs.Evaluating.{Statement, plain, defines, defers, generates}
use Rattle.verse_meaning.specs.Evaluating.{statement_of, member_form, enum_member}
use Rattle.verse_meaning.specs.Evaluating.{class_ref, base_of, mode_of, number_of}
use Rattle.verse_sound_rules.specs.Found.{Found, Allowed, tried, armed, deferred, looped, New}
use Rattle.verse_sorts_values.specs.Operands.{sorts, Writes}
use Rattle.verse_sound_rules.specs.Forms.{NameIs, Placed, Gives}

-- the names that are visible behind a statement, and behind several
abbrev pub defined_behind : Binder → ℕ → Table → Table
defined_behind no_name n xs = xs
defined_behind (a_constant x) n xs = xs ++ (x, ref.Local n) ∷ []
defined_behind (a_variable x pl) n xs = xs ++ (x, ref.Local n) ∷ []

abbrev pub generated_behind : Generator → ℕ → Table → Table
generated_behind (of_elements x) n xs = xs ++ (x, ref.Local n) ∷ []
generated_behind (of_entries k x) n xs = (xs ++ (k, ref.Key n) ∷ []) ++ (x, ref.Local n) ∷ []
generated_behind (of_range x) n xs = xs ++ (x, ref.Local n) ∷ []

abbrev pub stated_behind : Statement → ℕ → Table → Table
stated_behind plain n xs = xs
stated_behind (defines y) n xs = defined_behind y n xs
stated_behind (defers b) n xs = xs
stated_behind (generates g) n xs = generated_behind g n xs

abbrev pub seen_behind : Tree → Table → Table
seen_behind b xs = stated_behind (statement_of b) (number_of b) xs

abbrev pub seen_after : Trees → Table → Table
seen_after no_trees xs = xs
seen_after (more_trees b ts) xs = seen_after ts (seen_behind b xs)

-- what a `for` takes from a domain of the first sort: its elements or values, and their indices or
-- keys
pub data Domain : Sort → Sort → Sort → Type 0 where
  domain_list : {q : Sort} → Domain (s.list q) q s.int
  domain_map : {k q : Sort} → Domain (s.map k q) q k
  domain_never : {q i : Sort} → Domain s.never q i

-- by what a callee stands for
abbrev pub on_callee : Callee → (Form → Type 0) → (Form → Type 0) → (Form → Type 0) →
    (Form → Type 0) → Type 0
on_callee (alone x) by_none by_object by_value by_quotient = by_none x
on_callee (of_object x) by_none by_object by_value by_quotient = by_object x
on_callee (of_value x) by_none by_object by_value by_quotient = by_value x
on_callee (of_quotient x) by_none by_object by_value by_quotient = by_quotient x
on_callee no_callee by_none by_object by_value by_quotient = ⊥

-- by what a statement is
abbrev pub on_statement : Statement → Type 0 → (Binder → Type 0) → (Tree → Type 0) →
    (Generator → Type 0) → Type 0
on_statement plain as_plain by_binder by_block by_generator = as_plain
on_statement (defines y) as_plain by_binder by_block by_generator = by_binder y
on_statement (defers b) as_plain by_binder by_block by_generator = by_block b
on_statement (generates g) as_plain by_binder by_block by_generator = by_generator g

abbrev pub on_member : Option Val → (Val → Type 0) → Type 0 → Type 0
on_member (Some v) by_value by_object = by_value v
on_member None by_value by_object = by_object

-- two or more
abbrev pub Several : Trees → Type 0
Several no_trees = ⊥
Several (more_trees b no_trees) = ⊥
Several (more_trees b (more_trees d ts)) = Unit {0}

module _ (p : Program) (f : Found) where
  abbrev pub sort_at : Tree → Sort
  sort_at b = f.sort (number_of b)

  abbrev pub sorts_at : Trees → List Sort
  sorts_at no_trees = []
  sorts_at (more_trees b ts) = sort_at b ∷ sorts_at ts

  abbrev pub hole_sorts : Holes → List Sort
  hole_sorts no_holes = []
  hole_sorts (more_holes b x hs) = sort_at b ∷ hole_sorts hs

  abbrev pub pair_sorts : t.Pairs → List Sort
  pair_sorts t.Pairs.no_pairs = []
  pair_sorts (t.Pairs.more_pairs b d ps) = sort_at b ∷ sort_at d ∷ pair_sorts ps

  abbrev pub given_sorts : Givens → List Sort
  given_sorts no_givens = []
  given_sorts (more_givens x b gs) = sort_at b ∷ given_sorts gs

  -- of the last of several statements
  abbrev pub last_sort : Sort → Trees → Sort
  last_sort q no_trees = q
  last_sort q (more_trees b ts) = last_sort (sort_at b) ts

  -- of the object of a member
  abbrev pub object_sort_of : Shape → Sort
  object_sort_of (t.Shape.member b x) = sort_at b
  object_sort_of x = s.any

  abbrev pub object_sort : Tree → Sort
  object_sort (tree n pl x) = object_sort_of x

  -- of the part of a definition, and of the domain of a generator
  abbrev pub inner_sort_of : Shape → Sort
  inner_sort_of (t.Shape.definition x b) = sort_at b
  inner_sort_of (t.Shape.typed x w b) = sort_at b
  inner_sort_of (t.Shape.variable x w b) = sort_at b
  inner_sort_of (t.Shape.elements x b) = sort_at b
  inner_sort_of (t.Shape.entries k x b) = sort_at b
  inner_sort_of (t.Shape.range x b d) = s.tuple (sorts (sort_at b ∷ sort_at d ∷ []))
  inner_sort_of x = s.any

  abbrev pub inner_sort : Tree → Sort
  inner_sort (tree n pl x) = inner_sort_of x

  -- of the object and the indices of what `set` writes to
  abbrev mutual
    pub target_sorts : Tree → List Sort
    target_sorts (tree n pl x) = target_sorts_of x

    pub target_sorts_of : Shape → List Sort
    target_sorts_of (t.Shape.member b x) = sort_at b ∷ []
    target_sorts_of (t.Shape.index b ts) = target_sorts b ++ sorts_at ts
    target_sorts_of x = []

  -- a value of an enum
  pub data IsEnumValue (r : Sort) : Val → Type 0 where
    is_enum_value : {e i : ℕ} → Fits f.up (s.enum e) r → IsEnumValue r (enum e i)

  -- what an arm of a `case` gives fits what the `case` gives, or its subject gives no value
  pub data ArmFits : Sort → Sort → Sort → Type 0 where
    arm_fits : {subject q r : Sort} → Fits f.up q r → ArmFits subject q r
    no_subject : {q r : Sort} → ArmFits s.never q r

  -- indices of these sorts lead from a value of the first sort to one of the last: one that is an
  -- int or fits the keys, or any where there is no value
  pub data Reaches : (whole : Sort) → (indices : List Sort) → (part : Sort) → Type 0 where
    reaches_element : {q i : Sort} → Fits f.up i s.int → Reaches (s.list q) (i ∷ []) q
    reaches_value : {k q i : Sort} → IsKey k → Fits f.up i k → Reaches (s.map k q) (i ∷ []) q
    reaches_nothing : {is : List Sort} → Reaches s.never is s.never

  -- what `set` writes to: a name or a member is of the sort of what it stands for, and an index,
  -- whose failure is taken, of that of what it leads to
  abbrev mutual
    pub Settled : Allowed → Table → Tree → Type 0
    Settled a xs (tree n pl x) = SettledAt a xs n pl x

    pub SettledAt : Allowed → Table → ℕ → Place → Shape → Type 0
    SettledAt a xs n pl (t.Shape.index b ts) = Settled a xs b ×
        Reaches (sort_at b) (sorts_at ts) (f.sort n) × (a.fails ≡ true)
    SettledAt a xs n pl x = Placed p f a xs (base_of p (tree n pl x)) (target_sorts_of x) (f.sort n)

  -- a value of the first sort is written where one of the second stands, and what that gives is of
  -- the third; or there is no value
  pub data Stores (m : Mode) : (value place wanted : Sort) → Type 0 where
    stores_value : {q r w : Sort} (taken given : Sort) → Fits f.up q taken →
        Writes f.up m taken r given → Fits f.up given w → Stores m q r w
    stores_nothing : {r w : Sort} → Stores m s.never r w

  -- the keys and the values of pairs
  abbrev pub PairsFit : (key value : Sort) → t.Pairs → Type 0
  PairsFit k q t.Pairs.no_pairs = Unit {0}
  PairsFit k q (t.Pairs.more_pairs b d ps) = Fits f.up (sort_at b) k × Fits f.up (sort_at d) q ×
      PairsFit k q ps

  -- the sort of a map that takes these pairs
  pub data IsMap : Sort → t.Pairs → Type 0 where
    is_map : {k q : Sort} {ps : t.Pairs} → IsKey k → PairsFit k q ps → IsMap (s.map k q) ps

  pub record TakesFrom (domain element : Sort) : Type 0 where
    pub whole : Sort
    pub each : Sort
    pub index : Sort
    pub fits : Fits f.up domain whole
    pub is : Domain whole each index
    pub value : Fits f.up each element

  -- a definition by the node of a number, whose part is of this sort
  abbrev pub Defines : Binder → ℕ → Table → Type 0
  Defines no_name n xs = ⊥
  Defines (a_constant x) n xs = New x xs × (f.is_var n ≡ false)
  Defines (a_variable x pl) n xs = New x xs × (f.is_var n ≡ true)

  -- a generator, whose domain is of this sort
  pub data Generates (n : ℕ) (xs : Table) (domain : Sort) : Generator → Type 0 where
    takes_elements : {x : Bytes} → New x xs → f.is_var n ≡ false → TakesFrom domain (f.sort n) →
        Generates n xs domain (of_elements x)
    takes_entries : {k x : Bytes} → New k xs → New x (xs ++ (k, ref.Key n) ∷ []) →
        f.is_var n ≡ false → (from : TakesFrom domain (f.sort n)) → Fits f.up from.index (f.key n) →
        Generates n xs domain (of_entries k x)
    takes_range : {x : Bytes} → New x xs → f.is_var n ≡ false →
        Fits f.up domain (s.tuple (sorts (s.int ∷ s.int ∷ []))) → Fits f.up s.int (f.sort n) →
        Generates n xs domain (of_range x)

  abbrev mutual
    -- a tree, where these names are visible
    pub Fine : Allowed → Table → Tree → Type 0
    Fine a xs (tree n pl x) = FineShape a xs n pl x

    pub FineShape : Allowed → Table → ℕ → Place → Shape → Type 0
    -- blocks and statements
    FineShape a xs n pl (t.Shape.block ts) = FineAll true a xs ts ×
        Fits f.up (last_sort s.any ts) (f.sort n)
    FineShape a xs n pl (t.Shape.definition x b) = Fine a xs b ×
        Gives p f a xs form.defining (sort_at b ∷ []) (f.sort n)
    FineShape a xs n pl (t.Shape.typed x w b) = Fine a xs b ×
        Gives p f a xs form.defining (sort_at b ∷ []) (f.sort n)
    FineShape a xs n pl (t.Shape.variable x w b) = Fine a xs b ×
        Gives p f a xs (form.varying pl) (sort_at b ∷ []) (f.sort n)
    FineShape a xs n pl (t.Shape.assignment m b d) = (FineTarget a xs b × Settled a xs b ×
        Stores (mode_of m) (sort_at d) (sort_at b) (f.sort n)) × Fine a xs d ×
        Gives p f a xs (form.storing (base_of p b) (mode_of m) pl)
        (target_sorts b ++ sort_at d ∷ []) (f.sort n)
    FineShape a xs n pl (t.Shape.returned b) = Fine a xs b ×
        Gives p f a xs form.returning (sort_at b ∷ []) (f.sort n)
    FineShape a xs n pl t.Shape.returned_unit = (r : Sort) × (a.result ≡ Some r) ×
        Fits f.up s.unit r
    FineShape a xs n pl t.Shape.break_form = a.breaks ≡ true
    -- failure contexts
    FineShape a xs n pl (t.Shape.if_else ts b d) = FineAll false (tried a) xs ts ×
        Fine a (seen_after ts xs) b × Fine a xs d × Fits f.up (sort_at b) (f.sort n) ×
        Fits f.up (sort_at d) (f.sort n)
    FineShape a xs n pl (t.Shape.if_alone ts b) = FineAll false (tried a) xs ts ×
        Fine a (seen_after ts xs) b × Fits f.up (sort_at b) (f.sort n) × Fits f.up s.unit (f.sort n)
    FineShape a xs n pl (t.Shape.negation b) = Fine (tried a) xs b × (a.fails ≡ true) ×
        Fits f.up s.unit (f.sort n)
    FineShape a xs n pl (t.Shape.option ts) = FineAll false (tried a) xs ts ×
        Fits f.up (s.opt (last_sort s.any ts)) (f.sort n)
    FineShape a xs n pl (t.Shape.logic ts) = FineAll false (tried a) xs ts ×
        Fits f.up s.logic (f.sort n)
    FineShape a xs n pl (t.Shape.chained op.Or b d) = Fine (tried a) xs b × Fine a xs d ×
        Fits f.up (sort_at b) (f.sort n) × Fits f.up (sort_at d) (f.sort n)
    FineShape a xs n pl (t.Shape.for_form ts b) = FineClauses (tried a) xs ts ×
        Fine a (seen_after ts xs) b × (q : Sort) × (f.sort n ≡ s.list q) × Fits f.up (sort_at b) q
    -- operators
    FineShape a xs n pl (t.Shape.chained op.Div b d) = ⊥
    FineShape a xs n pl (t.Shape.chained op.And b d) = Fine a xs b × Fine a xs d ×
        Fits f.up (sort_at d) (f.sort n)
    FineShape a xs n pl (t.Shape.chained o b d) = Fine a xs b × Fine a xs d ×
        Gives p f a xs (form.computing o (p.is_array n) pl) (sort_at b ∷ sort_at d ∷ []) (f.sort n)
    FineShape a xs n pl (t.Shape.compared o b d) = Fine a xs b × Fine a xs d ×
        Gives p f a xs (form.comparing o) (sort_at b ∷ sort_at d ∷ []) (f.sort n)
    FineShape a xs n pl (t.Shape.minus b) = Fine a xs b ×
        Gives p f a xs (form.negating pl) (sort_at b ∷ []) (f.sort n)
    FineShape a xs n pl (t.Shape.query b) = Fine a xs b ×
        Gives p f a xs form.querying (sort_at b ∷ []) (f.sort n)
    -- members, calls, indices
    FineShape a xs n pl (t.Shape.member b x) =
        on_member (enum_member p b x) (λ v. IsEnumValue (f.sort n) v)
        (Fine a xs b × Gives p f a xs (member_form (ref_at p n) x) (sort_at b ∷ []) (f.sort n))
    FineShape a xs n pl (t.Shape.call b ts) = on_callee (callee_of p b (picked ts) pl)
        (λ x. FineTrees a xs ts × Gives p f a xs x (sorts_at ts) (f.sort n))
        (λ x. FineObject a xs b × FineTrees a xs ts ×
        Gives p f a xs x (object_sort b ∷ sorts_at ts) (f.sort n))
        (λ x. Fine a xs b × Gives p f a xs x (sort_at b ∷ []) (f.sort n))
        (λ x. FineQuotient a xs n x ts)
    FineShape a xs n pl (t.Shape.index b ts) = on_callee (callee_of p b form.indexing pl)
        (λ x. FineTrees a xs ts × Gives p f a xs x (sorts_at ts) (f.sort n))
        (λ x. FineObject a xs b × FineTrees a xs ts ×
        Gives p f a xs x (object_sort b ∷ sorts_at ts) (f.sort n))
        (λ x. (Fine a xs b × Reaches (sort_at b) (sorts_at ts) (f.sort n)) × FineTrees a xs ts ×
        Gives p f a xs x (sort_at b ∷ sorts_at ts) (f.sort n)) (λ x. FineQuotient a xs n x ts)
    -- literals and names
    FineShape a xs n pl (t.Shape.integer z) = Fits f.up s.int (f.sort n)
    FineShape a xs n pl (t.Shape.character x) = Fits f.up s.char (f.sort n)
    FineShape a xs n pl (t.Shape.text x) = Fits f.up (s.list s.char) (f.sort n)
    FineShape a xs n pl (t.Shape.holes x hs) = FineHoles a xs hs ×
        Gives p f a xs (form.joining (x ∷ pieces hs) pl) (hole_sorts hs) (f.sort n)
    FineShape a xs n pl t.Shape.truth = Fits f.up s.logic (f.sort n)
    FineShape a xs n pl t.Shape.falsehood = Fits f.up s.nil (f.sort n)
    FineShape a xs n pl t.Shape.this = (c : ℕ) × (a.this ≡ Some c) × Fits f.up (s.obj c) (f.sort n)
    FineShape a xs n pl (t.Shape.name x) = (q : Sort) × NameIs p f a xs x (ref_at p n) q ×
        Fits f.up q (f.sort n)
    -- values that are made
    FineShape a xs n pl (t.Shape.tuple ts) = FineTrees a xs ts ×
        Gives p f a xs (form.making_tuple pl) (sorts_at ts) (f.sort n)
    FineShape a xs n pl (t.Shape.array ts) = FineTrees a xs ts ×
        Gives p f a xs (form.making_array pl) (sorts_at ts) (f.sort n)
    FineShape a xs n pl (t.Shape.mapping ps) = (FinePairs a xs ps × IsMap (f.sort n) ps) ×
        Gives p f a xs (form.making_map pl) (pair_sorts ps) (f.sort n)
    FineShape a xs n pl (t.Shape.instance x gs) = (c : ℕ) × (class_ref p (ref_at p n) ≡ Some c) ×
        FineGivens a xs gs × Gives p f a xs (form.instancing c (given_names gs) pl) (given_sorts gs)
        (f.sort n)
    FineShape a xs n pl (t.Shape.event w) = (q : Sort) × Fits f.up (s.event q) (f.sort n)
    FineShape a xs n pl t.Shape.bare_event = (q : Sort) × Fits f.up (s.event q) (f.sort n)
    -- loops and blocks
    FineShape a xs n pl (t.Shape.loop_form b) = (c : Bool) × Fine (looped c a) xs b ×
        (c ≡ true → Fits f.up s.unit (f.sort n))
    FineShape a xs n pl (t.Shape.block_form b) = Fine a xs b × Fits f.up (sort_at b) (f.sort n)
    FineShape a xs n pl (t.Shape.cases b ts) = Fine a xs b × FineArms a xs (sort_at b) (f.sort n) ts
    -- tasks
    FineShape a xs n pl (t.Shape.branch b) = (a.waits ≡ true) × Fine (armed a) xs b ×
        Fits f.up s.unit (f.sort n)
    FineShape a xs n pl (t.Shape.sync ts) = ((a.waits ≡ true) × Several ts) ×
        FineTrees (armed a) xs ts × Fits f.up (s.tuple (sorts (sorts_at ts))) (f.sort n)
    FineShape a xs n pl (t.Shape.race ts) = ((a.waits ≡ true) × Several ts) ×
        FineEach (armed a) xs (f.sort n) ts
    FineShape a xs n pl (t.Shape.rush ts) = ((a.waits ≡ true) × Several ts) ×
        FineEach (armed a) xs (f.sort n) ts
    FineShape a xs n pl (t.Shape.spawn b) = FineSpawned a xs n b
    FineShape a xs n pl (t.Shape.sleep d) = (a.waits ≡ true) × Fits f.up s.unit (f.sort n)
    FineShape a xs n pl t.Shape.sleep_forever = (a.waits ≡ true) × Fits f.up s.unit (f.sort n)
    -- statements of blocks alone, generators, arms of a `case` and patterns are no forms of their
    -- own
    FineShape a xs n pl x = ⊥

    -- statements in turn; `may_defer` says whether a `defer` may stand among them
    pub FineAll : (may_defer : Bool) → Allowed → Table → Trees → Type 0
    FineAll may_defer a xs no_trees = Unit {0}
    FineAll may_defer a xs (more_trees b ts) = on_statement (statement_of b) (Fine a xs b)
        (λ y. FineInner a xs b × Fits f.up (inner_sort b) (sort_at b) × Defines y (number_of b) xs)
        (λ d. (may_defer ≡ true) × FineInner (deferred a) xs b × Fits f.up s.unit (sort_at b))
        (λ g. ⊥) × FineAll may_defer a (seen_behind b xs) ts

    -- the clauses of a `for`, which are a failure context
    pub FineClauses : Allowed → Table → Trees → Type 0
    FineClauses a xs no_trees = Unit {0}
    FineClauses a xs (more_trees b ts) = on_statement (statement_of b) (Fine a xs b)
        (λ y. FineInner a xs b × Fits f.up (inner_sort b) (sort_at b) × Defines y (number_of b) xs)
        (λ d. ⊥)
        (λ g. FineInner a xs b × Generates (number_of b) xs (inner_sort b) g) ×
        FineClauses a (seen_behind b xs) ts

    -- the part of a definition or of a `defer`, and the domain of a generator
    pub FineInner : Allowed → Table → Tree → Type 0
    FineInner a xs (tree n pl x) = FineInnerOf a xs x

    pub FineInnerOf : Allowed → Table → Shape → Type 0
    FineInnerOf a xs (t.Shape.definition x b) = Fine a xs b
    FineInnerOf a xs (t.Shape.typed x w b) = Fine a xs b
    FineInnerOf a xs (t.Shape.variable x w b) = Fine a xs b
    FineInnerOf a xs (t.Shape.defer b) = Fine a xs b
    FineInnerOf a xs (t.Shape.elements x b) = Fine a xs b
    FineInnerOf a xs (t.Shape.entries k x b) = Fine a xs b
    FineInnerOf a xs (t.Shape.range x b d) = Fine a xs b × Fine a xs d
    FineInnerOf a xs x = ⊥

    -- the object of a member
    pub FineObject : Allowed → Table → Tree → Type 0
    FineObject a xs (tree n pl x) = FineObjectOf a xs x

    pub FineObjectOf : Allowed → Table → Shape → Type 0
    FineObjectOf a xs (t.Shape.member b x) = Fine a xs b
    FineObjectOf a xs x = ⊥

    -- operands
    pub FineTrees : Allowed → Table → Trees → Type 0
    FineTrees a xs no_trees = Unit {0}
    FineTrees a xs (more_trees b ts) = Fine a xs b × FineTrees a xs ts

    pub FineHoles : Allowed → Table → Holes → Type 0
    FineHoles a xs no_holes = Unit {0}
    FineHoles a xs (more_holes b x hs) = Fine a xs b × FineHoles a xs hs

    pub FinePairs : Allowed → Table → t.Pairs → Type 0
    FinePairs a xs t.Pairs.no_pairs = Unit {0}
    FinePairs a xs (t.Pairs.more_pairs b d ps) = Fine a xs b × Fine a xs d × FinePairs a xs ps

    pub FineGivens : Allowed → Table → Givens → Type 0
    FineGivens a xs no_givens = Unit {0}
    FineGivens a xs (more_givens x b gs) = Fine a xs b × FineGivens a xs gs

    -- arms of a group, each of which gives what the group gives
    pub FineEach : Allowed → Table → Sort → Trees → Type 0
    FineEach a xs r no_trees = Unit {0}
    FineEach a xs r (more_trees b ts) = Fine a xs b × Fits f.up (sort_at b) r × FineEach a xs r ts

    -- the arms of a `case`, one or more
    pub FineArms : Allowed → Table → (subject wanted : Sort) → Trees → Type 0
    FineArms a xs q r no_trees = ⊥
    FineArms a xs q r (more_trees b ts) = FineArm a xs q r b × FineMoreArms a xs q r ts

    pub FineMoreArms : Allowed → Table → (subject wanted : Sort) → Trees → Type 0
    FineMoreArms a xs q r no_trees = Unit {0}
    FineMoreArms a xs q r (more_trees b ts) = FineArm a xs q r b × FineMoreArms a xs q r ts

    pub FineArm : Allowed → Table → (subject wanted : Sort) → Tree → Type 0
    FineArm a xs q r (tree n pl x) = FineArmOf a xs q r x

    pub FineArmOf : Allowed → Table → (subject wanted : Sort) → Shape → Type 0
    FineArmOf a xs q r (t.Shape.arm b d) = Fine a xs d × ArmFits q (sort_at d) r
    FineArmOf a xs q r x = ⊥

    -- the quotient that Floor and Ceil take
    pub FineQuotient : Allowed → Table → ℕ → Form → Trees → Type 0
    FineQuotient a xs n x no_trees = ⊥
    FineQuotient a xs n x (more_trees b ts) = FineQuotientIn a xs n x b

    pub FineQuotientIn : Allowed → Table → ℕ → Form → Tree → Type 0
    FineQuotientIn a xs n x (tree i pl y) = FineQuotientOf a xs n x y

    pub FineQuotientOf : Allowed → Table → ℕ → Form → Shape → Type 0
    FineQuotientOf a xs n x (t.Shape.chained o b d) = Fine a xs b × Fine a xs d ×
        Gives p f a xs x (sort_at b ∷ sort_at d ∷ []) (f.sort n)
    FineQuotientOf a xs n x y = ⊥

    -- the object and the indices of what `set` writes to
    pub FineTarget : Allowed → Table → Tree → Type 0
    FineTarget a xs (tree n pl x) = FineTargetOf a xs x

    pub FineTargetOf : Allowed → Table → Shape → Type 0
    FineTargetOf a xs (t.Shape.name x) = Unit {0}
    FineTargetOf a xs (t.Shape.member b x) = Fine a xs b
    FineTargetOf a xs (t.Shape.index b ts) = FineTarget a xs b × FineTrees a xs ts
    FineTargetOf a xs x = ⊥

    -- the call that a `spawn` starts
    pub FineSpawned : Allowed → Table → ℕ → Tree → Type 0
    FineSpawned a xs n (tree i pl x) = FineSpawnedOf a xs n pl x

    pub FineSpawnedOf : Allowed → Table → ℕ → Place → Shape → Type 0
    FineSpawnedOf a xs n pl (t.Shape.call b ts) =
        on_callee (spawned_callee (callee_of p b (form.picking None) pl))
        (λ x. FineTrees a xs ts × Gives p f a xs x (sorts_at ts) (f.sort n))
        (λ x. FineObject a xs b × FineTrees a xs ts ×
        Gives p f a xs x (object_sort b ∷ sorts_at ts) (f.sort n)) (λ x. ⊥) (λ x. ⊥)
    FineSpawnedOf a xs n pl x = ⊥
