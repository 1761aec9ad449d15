-- What the trees hold, task after task.
use Rattle.std.proofs.Common.{◌≡◌, ℕ, suc, ◌<◌, ◌≤◌, Bool, true, false, cond, List, [], ◌∷◌, ◌++◌, map, Option, refl, sym, ap, subst}
use Rattle.std.proofs.Common.{◌∙◌}
use Rattle.std.proofs.Common.{arith, ◌⊎◌, inl, inr}
use Rattle.verse_base.proofs.Facts.{clash}
use Rattle.verse_code_machine.specs.Tasks.{Task, Who, part, root_named, child_named, same_path}
use Rattle.verse_code_machine.specs.Runs.{Forest}
use Rattle.verse_code_machine.proofs.Paths.{same_is, same_self}
use Rattle.verse_code_machine_parents.specs.Parents.{whos, HasParent, here, later, Rooted, rooted_no, rooted_root, rooted_part}
use Rattle.run_save_shots.specs.Lists.{Each}
use Rattle.run_save_shots.specs.Spelling.{before_parent, planted, grown}
use Rattle.run_save_fits.specs.Held.{IsSome, WhoIs}
use Rattle.run_save_fits.proofs.Holding.{role_some, child_who}
use Rattle.run_save_fits.proofs.KeptTasks.{each_map}
use Rattle.run_save_kept.specs.Orders.{Before, NoneBelow, first, StandsBefore, Lined}
use Rattle.run_save_kept.proofs.Paths.{below_less, below_end, child_before, before_child, child_behind}
use Rattle.run_save_kept.proofs.Lines.{lined_less}
use Rattle.run_save_spelled.specs.Growing.{number_of, path_of, flat, In, first_in, later_in, Begins, begins_root, begins_part, Sprouts}
use Rattle.run_save_spelled.proofs.Forests.{each_append, each_weaker, each_in, reordered_each}
use Rattle.run_save_spelled.proofs.Growing.{Holds, none_held, part_more, root_more, begun_named, planted_root, planted_part, onto}
use Rattle.run_save_twice.proofs.Only.{none_in, head_or, each_both, each_trees}

-- ---- a part more

in_on : (x z : Task) (zs ws : List Task) → (x ≡ z) ⊎ In x zs → (In x zs → In x ws) → In x (z ∷ ws)
in_on x z zs ws (inl e) f = subst (λ w. In x (w ∷ ws)) e first_in
in_on x z zs ws (inr i) f = later_in z (f i)

module _ (y : Task) where
  in_grows : (x : Task) (ts : List Task) → In x ts → In x (before_parent y ts)
  in_grows x [] i = i
  in_grows x (z ∷ zs) i = by (same_path y.thread.who.up (path_of z)) (in_grows x zs)
    where
      by : (b : Bool) → (In x zs → In x (before_parent y zs)) → In x (cond b (y ∷ z ∷ zs) (z ∷ before_parent y zs))
      by true r = later_in y i
      by false r = in_on x z zs (before_parent y zs) (head_or x z zs i) r

  in_back : (x : Task) (ts : List Task) → In x (before_parent y ts) → (x ≡ y) ⊎ In x ts
  in_back x [] i = inr i
  in_back x (z ∷ zs) i = by (same_path y.thread.who.up (path_of z)) i (in_back x zs)
    where
      by : (b : Bool) → In x (cond b (y ∷ z ∷ zs) (z ∷ before_parent y zs)) → (In x (before_parent y zs) → (x ≡ y) ⊎ In x zs) →
          (x ≡ y) ⊎ In x (z ∷ zs)
      by true j r = head_or x y (z ∷ zs) j
      by false j r = elim (head_or x z (before_parent y zs) j) [
        | inl e ↦ inr (in_on x z zs zs (inl e) (λ k. k))
        | inr k ↦ elim (r k) [ inl e ↦ inl e | inr l ↦ inr (later_in z l) ]
      ]

  in_new : (x : Task) (ts : List Task) → In x ts → y.thread.who.up ≡ path_of x → In y (before_parent y ts)
  in_new x [] i e = none_in x i
  in_new x (z ∷ zs) i e = by (same_path y.thread.who.up (path_of z)) refl (head_or x z zs i) (λ j. in_new x zs j e)
    where
      by : (b : Bool) → same_path y.thread.who.up (path_of z) ≡ b → (x ≡ z) ⊎ In x zs → (In x zs → In y (before_parent y zs)) →
          In y (cond b (y ∷ z ∷ zs) (z ∷ before_parent y zs))
      by true f h r = first_in
      by false f (inl g) r =
          let here : same_path y.thread.who.up (path_of z) ≡ true =
          ap (λ a. same_path a (path_of z)) (e ∙ ap path_of g) ∙ same_self (path_of z) in clash _ here f
      by false f (inr j) r = later_in z (r j)

  module _ (named : WhoIs y.thread.who) (path : path_of y ≡ y.thread.who.up ++ number_of y ∷ []) where
    abbrev goes_on : Task → Type 0
    goes_on z = path_of y ≡ path_of z ++ number_of y ∷ []

    its_path : (z : Task) → same_path y.thread.who.up (path_of z) ≡ true → goes_on z
    its_path z e = path ∙ ap (λ p. p ++ number_of y ∷ []) (same_is y.thread.who.up (path_of z) e)

    first_same : (z : Task) → WhoIs z.thread.who → goes_on z → first (path_of y) ≡ first (path_of z)
    first_same z n e = ap first e ∙ of (path_of z) (role_some z.thread.who.role z.thread.who n)
      where
        of : (p : List ℕ) → IsSome p → first (p ++ number_of y ∷ []) ≡ first p
        of [] s = absurd s
        of (i ∷ p) s = refl

    each_before : (p : List ℕ) → NoneBelow (suc (number_of y)) p → (ts : List Task) → Each (λ (v : Who). StandsBefore p v.path) (whos ts) →
        Lined (suc (number_of y)) (whos ts) → Each (λ (v : Who). StandsBefore p v.path) (whos (before_parent y ts))
    each_before p h [] a l = tt
    each_before p h (z ∷ zs) a l = by (same_path y.thread.who.up (path_of z)) refl (each_before p h zs a.1 l.2)
      where
        by : (b : Bool) → same_path y.thread.who.up (path_of z) ≡ b →
            Each (λ (v : Who). StandsBefore p v.path) (whos (before_parent y zs)) →
            Each (λ (v : Who). StandsBefore p v.path) (whos (cond b (y ∷ z ∷ zs) (z ∷ before_parent y zs)))
        by true e r =
            let is = its_path z e in (
              (
                subst (λ q. Before p q) (sym is) (before_child p (path_of z) (number_of y) h a.0.0),
                a.0.1 ∙ sym (first_same z l.0.named is),
              ),
              a,
            )
        by false e r = (a.0, r)

    parent_lined : (ts : List Task) → Lined (suc (number_of y)) (whos ts) → Lined (number_of y) (whos (before_parent y ts))
    parent_lined [] l = tt
    parent_lined (z ∷ zs) l = by (same_path y.thread.who.up (path_of z)) refl (parent_lined zs l.2)
      where
        lower : NoneBelow (number_of y) (path_of z)
        lower = below_less (number_of y) (suc (number_of y)) (path_of z) (omega arith) l.0.above

        by : (b : Bool) → same_path y.thread.who.up (path_of z) ≡ b → Lined (number_of y) (whos (before_parent y zs)) →
            Lined (number_of y) (whos (cond b (y ∷ z ∷ zs) (z ∷ before_parent y zs)))
        by true e r =
            let is = its_path z e in
            let same = first_same z l.0.named is in (
              record { named = named; above = subst (λ q. NoneBelow (number_of y) q) (sym is) (below_end (number_of y) (path_of z) lower) },
              (
                (subst (λ q. Before q (path_of z)) (sym is) (child_before (path_of z) (number_of y)), same),
                each_weaker (λ (v : Who). StandsBefore (path_of z) v.path) (λ (v : Who). StandsBefore (path_of y) v.path) (whos zs)
                    (λ v b. (subst (λ q. Before q v.path) (sym is) (child_behind (path_of z) v.path (number_of y) b.0), same ∙ b.1)) l.1,
              ),
              lined_less (number_of y) (suc (number_of y)) (whos (z ∷ zs)) (omega arith) l,
            )
        by false e r = (
          record { named = l.0.named; above = lower },
          each_before (path_of z) l.0.above zs l.1 l.2,
          r,
        )

  has_with : {n : ℕ} {up : List ℕ} {w : Who} {ws vs : List Who} → HasParent up n (w ∷ ws) → (HasParent up n ws → HasParent up n vs) →
      HasParent up n (w ∷ vs)
  has_with (here e l) f = here e l
  has_with (later h) f = later (f h)

  has_more : (n : ℕ) (up : List ℕ) (ts : List Task) → HasParent up n (whos ts) → HasParent up n (whos (before_parent y ts))
  has_more n up [] h = h
  has_more n up (z ∷ zs) h = by (same_path y.thread.who.up (path_of z)) (has_more n up zs)
    where
      by : (b : Bool) → (HasParent up n (whos zs) → HasParent up n (whos (before_parent y zs))) →
          HasParent up n (whos (cond b (y ∷ z ∷ zs) (z ∷ before_parent y zs)))
      by true r = later h
      by false r = has_with h r

  rooted_with : {left : ℕ} {w : Who} {ws vs : List Who} → Rooted left (w ∷ ws) → (Rooted left ws → Rooted left vs) →
      ((n : ℕ) (up : List ℕ) → HasParent up n ws → HasParent up n vs) → Rooted left (w ∷ vs)
  rooted_with (rooted_root e p k r) f g = rooted_root e p k (f r)
  rooted_with (rooted_part {w = w} e p k h r) f g = rooted_part e p k (g w.number w.up h) (f r)

  parent_rooted : (left : ℕ) → y.thread.who.role ≡ part → path_of y ≡ y.thread.who.up ++ number_of y ∷ [] → left ≤ number_of y →
      (ts : List Task) → Each (λ z. number_of y < number_of z) ts → Rooted left (whos ts) → Rooted left (whos (before_parent y ts))
  parent_rooted left role path above [] less r = r
  parent_rooted left role path above (z ∷ zs) less r =
      by (same_path y.thread.who.up (path_of z)) refl (parent_rooted left role path above zs less.1)
    where
      by : (b : Bool) → same_path y.thread.who.up (path_of z) ≡ b → (Rooted left (whos zs) → Rooted left (whos (before_parent y zs))) →
          Rooted left (whos (cond b (y ∷ z ∷ zs) (z ∷ before_parent y zs)))
      by true e f = rooted_part role path above (here (sym (same_is y.thread.who.up (path_of z) e)) less.0) r
      by false e f = rooted_with r f (λ n up. has_more n up zs)

-- ---- a task stands in the tree of its parent

pub data HasKin (before : List Task) (tss : Forest) (u : Task) : Type 0 where
  kin_root : u.thread.who.up ≡ [] → HasKin before tss u
  kin_part : (x : Task) → In x before → path_of x ≡ u.thread.who.up → Each (λ ts. In x ts → In u ts) tss → HasKin before tss u

not_new : (before : List Task) (x y : Task) → Each (λ z. number_of y < number_of z) before → In x before → x ≡ y → ⊥
not_new before x y less i e =
    let l = each_in (λ z. number_of y < number_of z) x before less i in let h = ap number_of e in omega (arith, l, h)

kin_with_part : (before : List Task) (tss : Forest) (y u : Task) → Each (λ z. number_of y < number_of z) before → HasKin before tss u →
    HasKin (y ∷ before) (map (before_parent y) tss) u
kin_with_part before tss y u less (kin_root e) = kin_root e
kin_with_part before tss y u less (kin_part x i e a) =
    kin_part x (later_in y i) e (each_map (λ ts. In x ts → In u ts) (before_parent y) tss
    (each_weaker (λ ts. In x ts → In u ts) (λ ts. In x (before_parent y ts) → In u (before_parent y ts)) tss (λ ts f j.
    elim (in_back y x ts j) [ inl same ↦ absurd (not_new before x y less i same) | inr k ↦ in_grows y u ts (f k) ]) a))

kin_with_root : (before : List Task) (tss : Forest) (y u : Task) → Each (λ z. number_of y < number_of z) before → HasKin before tss u →
    HasKin (y ∷ before) (tss ++ (y ∷ []) ∷ []) u
kin_with_root before tss y u less (kin_root e) = kin_root e
kin_with_root before tss y u less (kin_part x i e a) =
    kin_part x (later_in y i) e (each_append (λ ts. In x ts → In u ts) tss ((y ∷ []) ∷ []) a (
      (λ j.
          elim (head_or x y [] j) [ inl same ↦ absurd (not_new before x y less i same) | inr k ↦ none_in x k ]),
      tt,
    ))

kin_of_part : (before : List Task) (tss : Forest) (x y : Task) → Each (λ z. number_of y < number_of z) before → In x before →
    y.thread.who.up ≡ path_of x → HasKin (y ∷ before) (map (before_parent y) tss) y
kin_of_part before tss x y less i e =
    kin_part x (later_in y i) (sym e) (each_map (λ ts. In x ts → In y ts) (before_parent y) tss (all tss))
  where
    all : (uss : Forest) → Each (λ ts. In x (before_parent y ts) → In y (before_parent y ts)) uss
    all [] = tt
    all (ts ∷ uss) = (
      (λ j. elim (in_back y x ts j) [ inl same ↦ absurd (not_new before x y less i same) | inr k ↦ in_new y x ts k e ]),
      all uss,
    )

-- ---- the trees of those so far

pub record Planted (left : ℕ) (before : List Task) (tss : Forest) : Type 0 where
  pub holds : Holds before tss
  pub named : Each (λ (z : Task). WhoIs z.thread.who) before
  -- where none of them has a number below this
  pub lined : (n : ℕ) → Each (λ z. n ≤ number_of z) before → Each (λ ts. Lined n (whos ts)) tss
  pub rooted : Each (λ ts. Rooted left (whos ts)) tss
  pub kin : Each (HasKin before tss) before

pub none_planted : (left : ℕ) → Planted left [] []
none_planted left = record { holds = none_held; named = tt; lined = λ n e. tt; rooted = tt; kin = tt }

module _ (left : ℕ) (before : List Task) (tss : Forest) (y : Task) (above : left ≤ number_of y) (a : Planted left before tss)
    (less : Each (λ z. number_of y < number_of z) before) where
  root_planted : (entry : Option ℕ) → y.thread.who ≡ root_named (number_of y) entry → Planted left (y ∷ before) (tss ++ (y ∷ []) ∷ [])
  root_planted entry e =
      let named : WhoIs y.thread.who = subst (λ w. WhoIs w) (sym e) (refl, refl) in
      let path : path_of y ≡ number_of y ∷ [] = ap (λ (w : Who). w.path) e in
      record {
        holds = root_more before tss y entry a.holds e less;
        named = (named, a.named);
        lined = λ n b. each_append (λ ts. Lined n (whos ts)) tss ((y ∷ []) ∷ []) (a.lined n b.1) (
          (record { named = named; above = subst (λ p. NoneBelow n p) (sym path) (b.0, tt) }, tt, tt),
          tt,
        );
        rooted = each_append (λ ts. Rooted left (whos ts)) tss ((y ∷ []) ∷ []) a.rooted (
          rooted_root (ap (λ (w : Who). w.role) e) path above rooted_no,
          tt,
        );
        kin = (
          kin_root (ap (λ (w : Who). w.up) e),
          each_weaker (HasKin before tss) (HasKin (y ∷ before) (tss ++ (y ∷ []) ∷ [])) before
              (λ u h. kin_with_root before tss y u less h) a.kin,
        );
      }

  part_planted : (x : Task) → In x before → y.thread.who ≡ child_named x.thread.who (number_of y) →
      Planted left (y ∷ before) (map (before_parent y) tss)
  part_planted x i e =
      let named : WhoIs y.thread.who =
      subst (λ w. WhoIs w) (sym e) (child_who x.thread.who (number_of y) (each_in (λ (z : Task). WhoIs z.thread.who) x before a.named i)) in
      let path = begun_named before y (begins_part x i e) in
      let higher = each_weaker (λ z. number_of y < number_of z) (λ z. suc (number_of y) ≤ number_of z) before (λ z l. omega (arith, l))
      less in
      let numbers = each_trees (λ z. number_of y < number_of z) tss
      (reordered_each (λ z. number_of y < number_of z) before (flat tss) a.holds.reordered less) in
      record {
        holds = part_more before tss x y a.holds i e less;
        named = (named, a.named);
        lined = λ n b. each_map (λ ts. Lined n (whos ts)) (before_parent y) tss
            (each_weaker (λ ts. Lined (suc (number_of y)) (whos ts)) (λ ts. Lined n (whos (before_parent y ts))) tss
            (λ ts l. lined_less n (number_of y) (whos (before_parent y ts)) b.0 (parent_lined y named path ts l))
            (a.lined (suc (number_of y)) higher));
        rooted = each_map (λ ts. Rooted left (whos ts)) (before_parent y) tss
            (each_weaker (λ ts. Each (λ z. number_of y < number_of z) ts × Rooted left (whos ts))
            (λ ts. Rooted left (whos (before_parent y ts))) tss
            (λ ts b. parent_rooted y left (ap (λ (w : Who). w.role) e) path above ts b.0 b.1)
            (each_both (λ ts. Each (λ z. number_of y < number_of z) ts) (λ ts. Rooted left (whos ts)) tss numbers a.rooted));
        kin = (
          kin_of_part before tss x y less i (ap (λ (w : Who). w.up) e),
          each_weaker (HasKin before tss) (HasKin (y ∷ before) (map (before_parent y) tss)) before
              (λ u h. kin_with_part before tss y u less h) a.kin,
        );
      }

  one_planted : Begins before y → Planted left (y ∷ before) (planted y.thread.who.role y tss)
  one_planted (begins_root entry e) =
      subst (λ w. Planted left (y ∷ before) w) (sym (planted_root tss y (number_of y) entry e)) (root_planted entry e)
  one_planted (begins_part x i e) =
      subst (λ w. Planted left (y ∷ before) w) (sym (planted_part tss y x.thread.who (number_of y) e)) (part_planted x i e)

pub all_planted : (left : ℕ) (before : List Task) (tss : Forest) (ys : List Task) → Each (λ z. left ≤ number_of z) ys →
    Planted left before tss → Sprouts before ys → Planted left (onto before ys) (grown tss ys)
all_planted left before tss [] l a s = a
all_planted left before tss (y ∷ ys) l a s =
    all_planted left (y ∷ before) (planted y.thread.who.role y tss) ys l.1 (one_planted left before tss y l.0 a s.1 s.0) s.2
