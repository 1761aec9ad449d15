-- Stretches of code in which each arm stands behind its group and no label leads to an arm, and how the combinators
-- keep that.
use Rattle.std.proofs.Common.{◌≡◌, ℕ, zero, suc, ◌+◌, ◌-◌, ◌<◌, ◌≤◌, List, [], ◌∷◌, ◌++◌, map, length, Bool, true, false}
use Rattle.std.proofs.Common.{Option, Some, None, refl, sym, ap, ◌∙◌, arith, subst, ◌⊎◌, inl, inr, true≢false}
use Rattle.std.proofs.lemmas.Option.{none-some, same_Some}
use Rattle.verse_base.specs.declared.places.Place.{Place}
use Rattle.verse_tree.specs.Tree.{Bytes}
use Rattle.verse_code.specs.declared.operations.Op.{Op}
use Rattle.verse_code.specs.declared.operations.Op.TheVariants as o
use Rattle.lower_code.specs.Pieces.{Spot, Item, sure, leaving, Piece, Maker, behind, past, next, nothing, one, placed}
use Rattle.lower_code.specs.Pieces.{numbering, texted, put_away}
use Rattle.lower_code.specs.Pieces.{kept, when, when_else, leave_loop, ahead, either, closing, from_here, looping}
use Rattle.lower_code.specs.Pieces.{turning, using_locals}
use Rattle.lower_code.specs.Pieces.{arms_at, arms_spot, closed, drops, deepest, later, ◌then◌}
use Rattle.lower_code.specs.Lowering.{grouped}
use Rattle.lower_code.specs.Programs.{item_op}
use Rattle.lower_code.proofs.Standing.{behind_more, behind_closed}
use Rattle.lower_code.proofs.Depths.{arms_shallow}
use Rattle.lower_sound.specs.Laws.{IsArm, GroupAt, IsBehind, GroupOf, ArmsStand}

-- how many arms are to come behind an operation, before which n were; none where it may not stand there
abbrev pub arms_behind : (n : ℕ) → Op → Option ℕ
arms_behind zero (o.Arm l) = None
arms_behind zero (o.Group kind m pl) = Some m
arms_behind zero op = Some 0
arms_behind (suc n) (o.Arm l) = Some n
arms_behind (suc n) op = None

abbrev pub arms_after : (n : ℕ) → Item → Option ℕ
arms_after n (sure op) = arms_behind n op
arms_after n (leaving h) = arms_behind n o.Unit

-- items before which so many arms are to come
abbrev pub Armed : Option ℕ → List Item → Type 0
Armed None is = ⊥
Armed (Some n) [] = n ≡ 0
Armed (Some n) (i ∷ is) = Armed (arms_after n i) is

-- ---- what that says of each operation

group_comes : (n : ℕ) (i : Item) (is : List Item) (kind m pl : ℕ) → item_op i ≡ o.Group kind m pl → Armed
    (arms_after n i) is →
    Armed (Some m) is
group_comes zero (sure op) is kind m pl e h = subst (λ y. Armed (arms_behind zero y) is) e h
group_comes (suc n) (sure op) is kind m pl e h = elim (subst (λ y. Armed (arms_behind (suc n) y) is) e h) [ ]
group_comes n (leaving k) is kind m pl e h = absurd (cc)

arm_comes : (n : ℕ) (i : Item) (is : List Item) (l : ℕ) → item_op i ≡ o.Arm l → Armed (arms_after n i) is → 0 < n
arm_comes zero (sure op) is l e h = elim (subst (λ y. Armed (arms_behind zero y) is) e h) [ ]
arm_comes (suc n) i is l e h = omega arith
arm_comes zero (leaving k) is l e h = absurd (cc)

-- where arms are to come, an arm stands
arm_is : (n : ℕ) (i : Item) (is : List Item) → Armed (arms_after (suc n) i) is → (l : ℕ) ×
    (item_op i ≡ o.Arm l) × Armed (Some n) is
arm_is n (sure (o.Arm l)) is h = (l, refl, h)
arm_is n (sure op) is h = elim h [ ]
arm_is n (leaving k) is h = elim h [ ]

-- how arms come to be expected
data Comes (n m : ℕ) (op : Op) : Type 0 where
  one_less : n ≡ suc m → Comes n m op
  no_more : m ≡ 0 → Comes n m op
  begun : (kind pl : ℕ) → op ≡ o.Group kind m pl → Comes n m op

comes : (n m : ℕ) (op : Op) → arms_behind n op ≡ Some m → Comes n m op
comes zero m (o.Arm l) e = elim (none-some m e) [ ]
comes zero m (o.Group kind k pl) e = begun kind pl (ap (λ x. o.Group kind x pl) (same_Some _ _ e))
comes zero m op e = no_more (sym (same_Some _ _ e))
comes (suc n) m (o.Arm l) e = one_less (ap suc (same_Some _ _ e))
comes (suc n) m op e = elim (none-some m e) [ ]

comes_after : (n m : ℕ) (i : Item) → arms_after n i ≡ Some m → Comes n m (item_op i)
comes_after n m (sure op) e = comes n m op e
comes_after n m (leaving k) e = comes n m o.Unit e

arms_there : (n : ℕ) (is : List Item) → Armed (Some n) is → (i : ℕ) → i < n → IsArm (map item_op is) i
arms_there n [] h i lt = absurd (omega (arith, h, lt))
arms_there zero (x ∷ is) h i lt = absurd (omega (arith, lt))
arms_there (suc n) (x ∷ is) h zero lt = let a = arm_is n x is h in (a.0, ap Some a.1)
arms_there (suc n) (x ∷ is) h (suc i) lt = let a = arm_is n x is h in arms_there n is a.2 i (omega (arith, lt))

group_arms : (k : Option ℕ) (is : List Item) → Armed k is → (j m i : ℕ) → GroupAt (map item_op is) j m →
    IsBehind j m i →
    IsArm (map item_op is) i
group_arms None is h j m i g b = elim h [ ]
group_arms (Some n) [] h j m i g b = elim (none-some _ g.there) [ ]
group_arms (Some n) (x ∷ is) h j m zero g b = absurd (omega (arith, b.0))
group_arms (Some n) (x ∷ is) h zero m (suc i) g b =
    arms_there m is (group_comes n x is g.kind m g.place (same_Some _ _ g.there) h) i (omega (arith, b.1))
group_arms (Some n) (x ∷ is) h (suc j) m (suc i) g b = group_arms (arms_after n x) is h j m i (record {
  kind = g.kind;
  place = g.place;
  there = g.there;
}) (omega (arith, b.0), omega (arith, b.1))

-- the group of an arm, with one more operation before it
further : (op : Op) (ops : List Op) (i : ℕ) → GroupOf ops i → GroupOf (op ∷ ops) (suc i)
further op ops i g = record {
  begin = suc g.begin;
  arms = g.arms;
  group = record { kind = g.group.kind; place = g.group.place; there = g.group.there };
  behind = (omega (arith, g.behind.0), omega (arith, g.behind.1));
}

arm_group : (n : ℕ) (is : List Item) → Armed (Some n) is → (i : ℕ) → IsArm (map item_op is) i →
    (i < n) ⊎ GroupOf (map item_op is) i
arm_group n [] h i a = elim (none-some _ a.1) [ ]
arm_group n (x ∷ is) h zero a = inl (arm_comes n x is a.0 (same_Some _ _ a.1) h)
arm_group n (x ∷ is) h (suc i) a = by (arms_after n x) refl h (λ m g. arm_group m is g i a)
  where
    two : (m : ℕ) → Comes n m (item_op x) → (i < m) ⊎ GroupOf (map item_op is) i → (suc i < n) ⊎ GroupOf
        (item_op x ∷ map item_op is) (suc i)
    two m c (inr g) = inr (further (item_op x) (map item_op is) i g)
    two m (one_less e) (inl lt) = inl (omega (arith, e, lt))
    two m (no_more e) (inl lt) = absurd (omega (arith, e, lt))
    two m (begun kind pl e) (inl lt) = inr (record {
      begin = 0;
      arms = m;
      group = record { kind = kind; place = pl; there = ap Some e };
      behind = (omega arith, omega (arith, lt));
    })

    by : (k : Option ℕ) → arms_after n x ≡ k → Armed k is → ((m : ℕ) → Armed (Some m) is → (i < m) ⊎ GroupOf
        (map item_op is) i) →
        (suc i < n) ⊎ GroupOf (item_op x ∷ map item_op is) (suc i)
    by None e h rest = elim h [ ]
    by (Some m) e h rest = two m (comes_after n m x e) (rest m h)

none_first : {ops : List Op} (i : ℕ) → (i < 0) ⊎ GroupOf ops i → GroupOf ops i
none_first i (inl lt) = absurd (omega (arith, lt))
none_first i (inr g) = g

pub arms_stand : (is : List Item) → Armed (Some 0) is → ArmsStand (map item_op is)
arms_stand is h = record {
  arms = λ j m i g b. group_arms (Some 0) is h j m i g b;
  groups = λ i a. none_first i (arm_group 0 is h i a);
}

-- ---- where an arm may not stand

-- whether no arm stands at a place
abbrev pub Free : Type 0
Free = ℕ → Bool

abbrev pub none_due : ℕ → Bool
none_due zero = true
none_due (suc n) = false

-- it is told of items from a on, before which so many arms are to come
abbrev pub Tells : Free → Option ℕ → List Item → (a : ℕ) → Type 0
Tells free None is a = ⊥
Tells free (Some n) [] a = Unit {0}
Tells free (Some n) (i ∷ is) a = (free a ≡ none_due n) × Tells free (arms_after n i) is (suc a)

-- an operation leads by its label to where no arm stands
abbrev pub OpLeads : Free → Op → Type 0
OpLeads free (o.Jump l) = free l ≡ true
OpLeads free (o.Again l) = free l ≡ true
OpLeads free (o.Same l) = free l ≡ true
OpLeads free (o.Try l) = free l ≡ true
OpLeads free (o.Branch l) = free l ≡ true
OpLeads free (o.Defer l) = free l ≡ true
OpLeads free (o.Take d v l) = free l ≡ true
OpLeads free (o.Arm l) = free l ≡ true
OpLeads free op = Unit {0}

-- `out` is whether none stands where a `break` with so many operands goes on
abbrev pub ItemLeads : Free → (out : ℕ → Bool) → Item → Type 0
ItemLeads free out (sure op) = OpLeads free op
ItemLeads free out (leaving n) = out n ≡ true

abbrev pub Lead : Free → (out : ℕ → Bool) → List Item → Type 0
Lead free out [] = Unit {0}
Lead free out (i ∷ is) = ItemLeads free out i × Lead free out is

abbrev pub Exits : (out : ℕ → Bool) → List Item → Type 0
Exits out is = (n : ℕ) → n ≤ deepest is → out n ≡ true

deepest_first : (is js : List Item) → deepest is ≤ deepest (is ++ js)
deepest_first [] js = omega arith
deepest_first (sure op ∷ is) js = deepest_first is js
deepest_first (leaving n ∷ is) js = omega (arith, deepest_first is js)

deepest_rest : (is js : List Item) → deepest js ≤ deepest (is ++ js)
deepest_rest [] js = omega arith
deepest_rest (sure op ∷ is) js = deepest_rest is js
deepest_rest (leaving n ∷ is) js = omega (arith, deepest_rest is js)

module _ (free : Free) where
  tells_first : (k : Option ℕ) (is js : List Item) (a : ℕ) → Tells free k (is ++ js) a → Tells free k is a
  tells_first None is js a h = h
  tells_first (Some n) [] js a h = tt
  tells_first (Some n) (i ∷ is) js a h = (h.0, tells_first (arms_after n i) is js (suc a) h.1)

  tells_rest : (k : Option ℕ) (is js : List Item) (a : ℕ) → Armed k is → Tells free k (is ++ js) a →
      Tells free (Some 0) js (behind is a)
  tells_rest None is js a r h = elim r [ ]
  tells_rest (Some n) [] js a r h = subst (λ m. Tells free (Some m) js a) r h
  tells_rest (Some n) (i ∷ is) js a r h = tells_rest (arms_after n i) is js (suc a) r h.1

  -- where none is to come, and none stands behind
  begins_free : (is : List Item) (a : ℕ) → Tells free (Some 0) is a → free (behind is a) ≡ true → free a ≡ true
  begins_free [] a h end = end
  begins_free (i ∷ is) a h end = h.0

  leads_joined : (out : ℕ → Bool) (is js : List Item) → Lead free out is → Lead free out js → Lead free out (is ++ js)
  leads_joined out [] js h k = k
  leads_joined out (i ∷ is) js h k = (h.0, leads_joined out is js h.1 k)

-- ---- stretches of code

-- no label, no arm, and no group
abbrev pub is_plain : Op → Bool
is_plain (o.Jump l) = false
is_plain (o.Again l) = false
is_plain (o.Same l) = false
is_plain (o.Try l) = false
is_plain (o.Branch l) = false
is_plain (o.Defer l) = false
is_plain (o.Take d v l) = false
is_plain (o.Group kind m pl) = false
is_plain (o.Arm l) = false
is_plain op = true

abbrev pub IsPlain : Op → Type 0
IsPlain op = is_plain op ≡ true

plain_arms : (op : Op) → IsPlain op → arms_behind 0 op ≡ Some 0
plain_arms (o.Group kind m pl) e = absurd (true≢false (sym e))
plain_arms (o.Arm l) e = absurd (true≢false (sym e))
plain_arms op e = refl

plain_leads : (free : Free) (op : Op) → IsPlain op → OpLeads free op
plain_leads free (o.Jump l) e = absurd (true≢false (sym e))
plain_leads free (o.Again l) e = absurd (true≢false (sym e))
plain_leads free (o.Same l) e = absurd (true≢false (sym e))
plain_leads free (o.Try l) e = absurd (true≢false (sym e))
plain_leads free (o.Branch l) e = absurd (true≢false (sym e))
plain_leads free (o.Defer l) e = absurd (true≢false (sym e))
plain_leads free (o.Take d v l) e = absurd (true≢false (sym e))
plain_leads free (o.Arm l) e = absurd (true≢false (sym e))
plain_leads free op e = tt

-- the label ahead
abbrev pub ahead_label : Op → Option ℕ
ahead_label (o.Jump l) = Some l
ahead_label (o.Same l) = Some l
ahead_label (o.Try l) = Some l
ahead_label (o.Branch l) = Some l
ahead_label (o.Defer l) = Some l
ahead_label op = None

abbrev pub IsAhead : (ℕ → Op) → Type 0
IsAhead op = (m : ℕ) → ahead_label (op m) ≡ Some m

ahead_arms : (op : Op) (l : ℕ) → ahead_label op ≡ Some l → arms_behind 0 op ≡ Some 0
ahead_arms (o.Group kind m pl) l e = elim (none-some l e) [ ]
ahead_arms (o.Arm m) l e = elim (none-some l e) [ ]
ahead_arms op l e = refl

ahead_leads : (free : Free) (op : Op) (l : ℕ) → ahead_label op ≡ Some l → free l ≡ true → OpLeads free op
ahead_leads free (o.Jump m) l e h = subst (λ i. free i ≡ true) (sym (same_Some _ _ e)) h
ahead_leads free (o.Same m) l e h = subst (λ i. free i ≡ true) (sym (same_Some _ _ e)) h
ahead_leads free (o.Try m) l e h = subst (λ i. free i ≡ true) (sym (same_Some _ _ e)) h
ahead_leads free (o.Branch m) l e h = subst (λ i. free i ≡ true) (sym (same_Some _ _ e)) h
ahead_leads free (o.Defer m) l e h = subst (λ i. free i ≡ true) (sym (same_Some _ _ e)) h
ahead_leads free (o.Again m) l e h = elim (none-some l e) [ ]
ahead_leads free (o.Take d v m) l e h = elim (none-some l e) [ ]
ahead_leads free (o.Arm m) l e h = elim (none-some l e) [ ]
ahead_leads free op l e h = tt

armed_joined : (k : Option ℕ) (is js : List Item) → Armed k is → Armed (Some 0) js → Armed k (is ++ js)
armed_joined None is js h g = elim h [ ]
armed_joined (Some n) [] js h g = subst (λ m. Armed (Some m) js) (sym h) g
armed_joined (Some n) (i ∷ is) js h g = armed_joined (arms_after n i) is js h g

behind_armed : (op : Op) (is : List Item) → arms_behind 0 op ≡ Some 0 → Armed (Some 0) is → Armed (arms_behind 0 op) is
behind_armed op is e h = subst (λ k. Armed k is) (sym e) h

behind_tells : (free : Free) (op : Op) (is : List Item) (a : ℕ) → arms_behind 0 op ≡ Some 0 →
    Tells free (arms_behind 0 op) is a → Tells free (Some 0) is a
behind_tells free op is a e h = subst (λ k. Tells free k is a) e h

-- each arm in it stands behind its group, wherever it begins; and each label leads to where no arm stands, where
-- none stands behind it
pub record Orderly (f : Maker) : Type 0 where
  pub arms : (s : Spot) → Armed (Some 0) (f s).items
  pub leads : (s : Spot) (free : Free) (out : ℕ → Bool) → Tells free (Some 0) (f s).items s.at →
      free (past s (f s)).at ≡ true → Exits out (f s).items → Lead free out (f s).items

pub both : {f g : Maker} → Orderly f → Orderly g → Orderly (f then g)
both {f = f} {g = g} x y = record {
  arms = λ s. armed_joined (Some 0) (f s).items (g (past s (f s))).items (x.arms s) (y.arms (past s (f s)));
  leads = λ s free out h end exits.
      let m = past s (f s) in
      let rest = tells_rest free (Some 0) (f s).items (g m).items s.at (x.arms s) h in
      let last = subst (λ n. free n ≡ true) (behind_more (f s).items (g m).items s.at) end in
      leads_joined free out (f s).items (g m).items
      (x.leads s free out (tells_first free (Some 0) (f s).items (g m).items s.at h)
      (begins_free free (g m).items m.at rest last)
      (λ n le. exits n (omega (arith, le, deepest_first (f s).items (g m).items))))
      (y.leads m free out rest last (λ n le. exits n (omega (arith, le, deepest_rest (f s).items (g m).items))));
}

pub none : Orderly nothing
none = record { arms = λ s. refl; leads = λ s free out h end exits. tt }

pub just : (op : Op) → IsPlain op → Orderly (one op)
just op e = record {
  arms = λ s. behind_armed op [] (plain_arms op e) refl;
  leads = λ s free out h end exits. (plain_leads free op e, tt);
}

pub at_place : (pl : Place) (op : ℕ → Op) → ((m : ℕ) → IsPlain (op m)) → Orderly (placed pl op)
at_place pl op e = record {
  arms = λ s. behind_armed (op s.place) [] (plain_arms (op s.place) (e s.place)) refl;
  leads = λ s free out h end exits. (plain_leads free (op s.place) (e s.place), tt);
}

pub numbered : (pl : Place) (f : ℕ → Maker) → ((m : ℕ) → Orderly (f m)) → Orderly (numbering pl f)
numbered pl f x = record {
  arms = λ s. (x s.place).arms (record { at = s.at; place = suc s.place; text = s.text });
  leads = λ s. (x s.place).leads (record { at = s.at; place = suc s.place; text = s.text });
}

pub text : (bs : Bytes) → Orderly (texted bs)
text bs = record { arms = λ s. refl; leads = λ s free out h end exits. (tt, tt) }

pub away : (l : ℕ) → Orderly (put_away l)
away l = record { arms = λ s. refl; leads = λ s free out h end exits. (tt, tt) }

pub keeps : (l : ℕ) → Orderly (kept l)
keeps l = both (away l) (just (o.Get l) refl)

pub leaves : (h : ℕ) → Orderly (leave_loop h)
leaves h = record { arms = λ s. refl; leads = λ s free out t end exits. (exits h (omega arith), tt) }

pub if_so : {f : Maker} (b : Bool) → (b ≡ true → Orderly f) → Orderly (when b f)
if_so true x = let y = x refl in record { arms = y.arms; leads = y.leads }
if_so false x = record { arms = λ s. refl; leads = λ s free out h end exits. tt }

pub is_so : {f : Maker} (b : Bool) → b ≡ true → Orderly f → Orderly (when_else b f)
is_so true e x = x
is_so false e x = absurd (cc)

pub before : {f : Maker} (op : ℕ → Op) → IsAhead op → Orderly f → Orderly (ahead op f)
before {f = f} op e x = record {
  arms = λ s.
      let l = (past (next s) (f (next s))).at in
      behind_armed (op l) (f (next s)).items (ahead_arms (op l) l (e l)) (x.arms (next s));
  leads = λ s free out h end exits.
      let l = (past (next s) (f (next s))).at in (
        ahead_leads free (op l) l (e l) end,
        x.leads (next s) free out (behind_tells free (op l) (f (next s)).items (suc s.at)
            (ahead_arms (op l) l (e l)) h.1) end exits,
      );
}

pub one_of : {f g : Maker} (op : ℕ → Op) → IsAhead op → Orderly f → Orderly g → Orderly (either op f g)
one_of {f = f} {g = g} op e x y = record {
  arms = λ s.
      let r : Spot = next (past (next s) (f (next s))) in
      behind_armed (op r.at) ((f (next s)).items ++ sure (o.Jump (past r (g r)).at) ∷ (g r).items)
      (ahead_arms (op r.at) r.at (e r.at))
      (armed_joined (Some 0) (f (next s)).items (sure (o.Jump (past r (g r)).at) ∷ (g r).items) (x.arms (next s))
      (y.arms r));
  leads = λ s free out h end exits.
      let n = next s in
      let r = next (past n (f n)) in
      let jump = sure (o.Jump (past r (g r)).at) in
      let own = behind_tells free (op r.at) ((f n).items ++ jump ∷ (g r).items) n.at
      (ahead_arms (op r.at) r.at (e r.at)) h.1 in
      let rest = tells_rest free (Some 0) (f n).items (jump ∷ (g r).items) n.at (x.arms n) own in
      let last = subst (λ i. free i ≡ true) (behind_more (f n).items (jump ∷ (g r).items) n.at) end in (
        ahead_leads free (op r.at) r.at (e r.at) (begins_free free (g r).items r.at rest.1 last),
        leads_joined free out (f n).items (jump ∷ (g r).items)
            (x.leads n free out (tells_first free (Some 0) (f n).items (jump ∷ (g r).items) n.at own) rest.0
            (λ i le. exits i (omega (arith, le, deepest_first (f n).items (jump ∷ (g r).items))))) (
              last,
              y.leads r free out rest.1 last
                  (λ i le. exits i (omega (arith, le, deepest_rest (f n).items (jump ∷ (g r).items)))),
            ),
      );
}

-- ---- loops

closed_armed : (out : ℕ) (k : Option ℕ) (is : List Item) → Armed k is → Armed k (map (closed out) is)
closed_armed out None is h = h
closed_armed out (Some n) [] h = h
closed_armed out (Some n) (sure op ∷ is) h = closed_armed out (arms_behind n op) is h
closed_armed out (Some zero) (leaving d ∷ is) h = closed_armed out (Some 0) is h
closed_armed out (Some (suc n)) (leaving d ∷ is) h = h

-- what stands behind a loop's operations
abbrev tail_of : ℕ → List Item
tail_of n = drops n (sure o.Unit ∷ [])

drops_armed : (d : ℕ) → Armed (Some 0) (tail_of d)
drops_armed zero = refl
drops_armed (suc d) = drops_armed d

later_is : (n a : ℕ) → later n a ≡ a + n
later_is zero a = omega arith
later_is (suc n) a = omega (arith, later_is n (suc a))

module _ (free : Free) where
  tells_open : (there : ℕ) (k : Option ℕ) (is : List Item) (a : ℕ) → Tells free k (map (closed there) is) a →
      Tells free k is a
  tells_open there None is a h = h
  tells_open there (Some n) [] a h = tt
  tells_open there (Some n) (sure op ∷ is) a h = (h.0, tells_open there (arms_behind n op) is (suc a) h.1)
  tells_open there (Some zero) (leaving d ∷ is) a h = (h.0, tells_open there (Some 0) is (suc a) h.1)
  tells_open there (Some (suc n)) (leaving d ∷ is) a h = elim h.1 [ ]

  leads_closed : (there : ℕ) (out : ℕ → Bool) (is : List Item) → Lead free (λ n. free (there - n)) is →
      Lead free out (map (closed there) is)
  leads_closed there out [] h = tt
  leads_closed there out (sure op ∷ is) h = (h.0, leads_closed there out is h.1)
  leads_closed there out (leaving n ∷ is) h = (h.0, leads_closed there out is h.1)

  drops_free : (n a : ℕ) → Tells free (Some 0) (tail_of n) a → (i : ℕ) → i ≤ n → free (a + i) ≡ true
  drops_free zero a h zero le = subst (λ m. free m ≡ true) (let e : a ≡ a + 0 = omega arith in e) h.0
  drops_free zero a h (suc i) le = absurd (omega (arith, le))
  drops_free (suc n) a h zero le = subst (λ m. free m ≡ true) (let e : a ≡ a + 0 = omega arith in e) h.0
  drops_free (suc n) a h (suc i) le =
      subst (λ m. free m ≡ true) (let e : suc a + i ≡ a + suc i = omega arith in e)
      (drops_free n (suc a) h.1 i (omega (arith, le)))

  -- where a `break` with i operands above those of the loop goes on
  exit_free : (n a : ℕ) → Tells free (Some 0) (tail_of n) a → (i : ℕ) → i ≤ n → free (later n a - i) ≡ true
  exit_free n a h i le =
      subst (λ m. free m ≡ true) (let e : a + (n - i) ≡ later n a - i = omega (arith, later_is n a, le) in e)
      (drops_free n a h (n - i) (omega (arith, le)))

  drops_lead : (out : ℕ → Bool) (n : ℕ) → Lead free out (tail_of n)
  drops_lead out zero = (tt, tt)
  drops_lead out (suc n) = (tt, drops_lead out n)

  first_drop : (n a : ℕ) → Tells free (Some 0) (tail_of n) a → free a ≡ true
  first_drop zero a h = h.0
  first_drop (suc n) a h = h.0

pub closes : {f : Maker} → Orderly f → Orderly (closing f)
closes {f = f} x = record {
  arms = λ s.
      let p : Piece = f s in
      let out : ℕ = later (deepest p.items) (past s p).at in
      armed_joined (Some 0) (map (closed out) p.items) (tail_of (deepest p.items))
      (closed_armed out (Some 0) p.items (x.arms s)) (drops_armed (deepest p.items));
  leads = λ s free out h end exits.
      let is = (f s).items in
      let n = deepest is in
      let e = (past s (f s)).at in
      let there = later n e in
      let rest = subst (λ i. Tells free (Some 0) (tail_of n) i) (behind_closed there is s.at)
      (tells_rest free (Some 0) (map (closed there) is) (tail_of n) s.at
      (closed_armed there (Some 0) is (x.arms s)) h) in
      leads_joined free out (map (closed there) is) (tail_of n)
      (leads_closed free there out is (x.leads s free (λ i. free (there - i))
      (tells_open free there (Some 0) is s.at (tells_first free (Some 0) (map (closed there) is) (tail_of n) s.at h))
      (first_drop free n e rest) (λ i le. exit_free free n e rest i le)))
      (drops_lead free out n);
}

-- Jump A; the piece; A: an operation that leads back to the piece
round : {f : Maker} (back : ℕ → Op) → ((l : ℕ) → arms_behind 0 (back l) ≡ Some 0) →
    ((free : Free) (l : ℕ) → free l ≡ true → OpLeads free (back l)) → Orderly f →
    Orderly (from_here (λ a. ahead o.Jump f then one (back (suc a))))
round {f = f} back plain leads_back x = record {
  arms = λ s. armed_joined (Some 0) (f (next s)).items (sure (back (suc s.at)) ∷ []) (x.arms (next s))
      (behind_armed (back (suc s.at)) [] (plain (suc s.at)) refl);
  leads = λ s free out h end exits.
      let n = next s in
      let turn = sure (back (suc s.at)) ∷ [] in
      let first = tells_first free (Some 0) (f n).items turn n.at h.1 in
      let rest = tells_rest free (Some 0) (f n).items turn n.at (x.arms n) h.1 in (
        rest.0,
        leads_joined free out (f n).items turn
            (x.leads n free out first rest.0
            (λ i le. exits i (omega (arith, le, deepest_first (f n).items turn))))
            (leads_back free (suc s.at) (begins_free free (f n).items n.at first rest.0), tt),
      );
}

pub loops : {f : Maker} → Orderly f → Orderly (looping f)
loops x = closes (round o.Again (λ l. refl) (λ free l h. h) (both x (just o.Drop refl)))

uses : (n : ℕ) → Orderly (using_locals n)
uses n = record { arms = λ s. refl; leads = λ s free out h end exits. tt }

pub turns : {f : Maker} (x : Op) (l : ℕ) → IsPlain x → Orderly f → Orderly (turning x l f)
turns x l e y = both (uses (suc (suc (suc (suc l))))) (both (just o.Commit refl) (both (just x e)
    (round (o.Take l (suc (suc l))) (λ i. refl) (λ free i h. h) (before o.Try (λ m. refl) y))))

-- ---- several stretches, each of which is entered at its beginning

abbrev pub Begun : Free → List ℕ → Type 0
Begun free [] = Unit {0}
Begun free (l ∷ ls) = (free l ≡ true) × Begun free ls

pub record Several (f : Maker) (begins : Spot → List ℕ) : Type 0 where
  pub whole : Orderly f
  pub entered : (s : Spot) (free : Free) → Tells free (Some 0) (f s).items s.at → free (past s (f s)).at ≡ true →
      Begun free (begins s)

pub no_stretch : Several nothing (λ s. [])
no_stretch = record { whole = none; entered = λ s free h end. tt }

pub beside : {f g : Maker} {begins : Spot → List ℕ} → Orderly f → Several g begins →
    Several (f then g) (λ s. s.at ∷ begins (past s (f s)))
beside {f} {g} x y = record {
  whole = both x y.whole;
  entered = λ s free h end.
      let m = past s (f s) in (
        begins_free free ((f s).items ++ (g m).items) s.at h end,
        y.entered m free (tells_rest free (Some 0) (f s).items (g m).items s.at (x.arms s) h)
            (subst (λ n. free n ≡ true) (behind_more (f s).items (g m).items s.at) end),
      );
}

-- ---- groups

arms_armed : (ls : List ℕ) (is : List Item) → Armed (Some 0) is → Armed (Some (length ls)) (arms_at ls is)
arms_armed [] is h = h
arms_armed (l ∷ ls) is h = arms_armed ls is h

later_behind : (ls : List ℕ) (a : ℕ) → later (length ls) a ≡ behind ls a
later_behind [] a = refl
later_behind (l ∷ ls) a = later_behind ls (suc a)

behind_arms : (ls : List ℕ) (is : List Item) (a : ℕ) → behind (arms_at ls is) a ≡ behind is (behind ls a)
behind_arms [] is a = refl
behind_arms (l ∷ ls) is a = behind_arms ls is (suc a)

behind_next : (ls : List ℕ) (a : ℕ) → behind ls (suc a) ≡ suc (behind ls a)
behind_next [] a = refl
behind_next (l ∷ ls) a = behind_next ls (suc a)

module _ (free : Free) where
  tells_arms : (ls : List ℕ) (is : List Item) (a : ℕ) → Tells free (Some (length ls)) (arms_at ls is) a →
      Tells free (Some 0) is (behind ls a)
  tells_arms [] is a h = h
  tells_arms (l ∷ ls) is a h = tells_arms ls is (suc a) h.1

  leads_arms : (out : ℕ → Bool) (ls : List ℕ) (is : List Item) → Begun free ls → Lead free out is →
      Lead free out (arms_at ls is)
  leads_arms out [] is b h = h
  leads_arms out (l ∷ ls) is b h = (b.0, leads_arms out ls is b.1 h)

-- a group of as many arms as are begun
pub groups : (kind m : ℕ) (pl : Place) (begins : Spot → List ℕ) (arms : Maker) → ((s : Spot) → length
    (begins s) ≡ m) → Several arms begins →
    Orderly (grouped kind m pl begins arms)
unfolding grouped
groups kind m pl begins arms many x = record {
  arms = λ s.
      let e : Spot = arms_spot m s in
      subst (λ n. Armed (Some n) (arms_at (begins e) (sure (o.Jump (past e (arms e)).at) ∷ (arms e).items))) (many e)
      (arms_armed (begins e) (sure (o.Jump (past e (arms e)).at) ∷ (arms e).items) (x.whole.arms e));
  leads = λ s free out h end exits.
      let e : Spot = arms_spot m s in
      let ls = begins e in
      let jump = sure (o.Jump (past e (arms e)).at) in
      let begin : e.at ≡ suc (behind ls (suc s.at)) =
      ap (λ i. later i (suc (suc s.at))) (sym (many e)) ∙
      (later_behind ls (suc (suc s.at)) ∙ behind_next ls (suc s.at)) in
      let rest = tells_arms free ls (jump ∷ (arms e).items) (suc s.at)
      (subst (λ n. Tells free (Some n) (arms_at ls (jump ∷ (arms e).items)) (suc s.at)) (sym (many e)) h.1) in
      let own : Tells free (Some 0) (arms e).items e.at =
      subst (λ i. Tells free (Some 0) (arms e).items i) (sym begin) rest.1 in
      let last : free (past e (arms e)).at ≡ true =
      subst (λ i. free (behind (arms e).items i) ≡ true) (sym begin)
      (subst (λ i. free i ≡ true) (behind_arms ls (jump ∷ (arms e).items) (suc s.at)) end) in (
        tt,
        leads_arms free out ls (jump ∷ (arms e).items) (x.entered e free own last) (
          last,
          x.whole.leads e free out own last
              (λ i le. exits i (omega (arith, le, arms_shallow ls (jump ∷ (arms e).items)))),
        ),
      );
}
