-- The code of a whole program: its flow comes to no place at which an arm stands.
use Rattle.std.proofs.Common.{◌≡◌, ℕ, zero, suc, ◌+◌, ◌<◌, ◌≤◌, List, [], ◌∷◌, map, length, Bool, true, false}
use Rattle.std.proofs.Common.{Option, Some, None, refl, sym, ap, ◌∙◌, arith, subst, ◌⊎◌, inl, inr, true≢false, slice_get}
use Rattle.std.proofs.lemmas.Option.{none-some, same_Some}
use Rattle.verse_tree.specs.PostOrder.{items_order}
use Rattle.verse_code.specs.declared.operations.Op.{Op}
use Rattle.verse_code.specs.declared.operations.Op.TheVariants as o
use Rattle.verse_code.specs.declared.codes.Func.{Func}
use Rattle.verse_meaning.specs.Programs.{Program}
use Rattle.verse_sound_rules.specs.Found.{Found}
use Rattle.verse_sound_rules.specs.Programs.{FineFound}
use Rattle.lower_code.specs.Pieces.{Spot, Item, sure, leaving, behind, past}
use Rattle.lower_code.specs.Programs.{Body, all_bodies, body_piece, bodies_from, funcs_from, item_op, first_spot, whole}
use Rattle.lower_code.specs.Programs.{code_of}
use Rattle.lower_bounds.proofs.Bodies.{all_each}
use Rattle.lower_simulation_runs.specs.Programs.{NodeStands}
use Rattle.lower_sound.specs.Laws.{IsArm, GroupAt, GroupOf, ArmsStand}
use Rattle.lower_sound.proofs.Armed.{arms_behind, arms_after, Armed, arms_stand, Free, Tells, OpLeads, Lead}
use Rattle.lower_sound.proofs.Armed.{Begun, Several}
use Rattle.lower_sound.proofs.Whole.{begins, whole_orderly}
use Rattle.verse_code_flow.specs.Flow.{goes_on, leads_to, Flows, flows_on, flows_to, flows_past, flows_in, Reached}
use Rattle.verse_code_flow.specs.Flow.{reached_entry, reached_by, FlowGoes}
use Rattle.lower_flow.specs.Laws.{FineFlowGoes}

-- ---- where no arm stands

abbrev no_arm : Op → Bool
no_arm (o.Arm l) = false
no_arm op = true

abbrev free_at : List Op → Free
free_at [] i = true
free_at (op ∷ ops) zero = no_arm op
free_at (op ∷ ops) (suc i) = free_at ops i

arm_there : (ops : List Op) (i l : ℕ) → slice_get ops i ≡ Some (o.Arm l) → free_at ops i ≡ false
arm_there [] i l e = elim (none-some _ e) [ ]
arm_there (op ∷ ops) zero l e = ap no_arm (same_Some _ _ e)
arm_there (op ∷ ops) (suc i) l e = arm_there ops i l e

an_arm : (op : Op) → no_arm op ≡ false → (l : ℕ) × (op ≡ o.Arm l)
an_arm (o.Arm l) e = (l, refl)
an_arm op e = absurd (true≢false e)

arm_is : (ops : List Op) (i : ℕ) → free_at ops i ≡ false → IsArm ops i
arm_is [] i e = absurd (true≢false e)
arm_is (op ∷ ops) zero e = let a = an_arm op e in (a.0, ap Some a.1)
arm_is (op ∷ ops) (suc i) e = arm_is ops i e

free_there : (ops : List Op) (i : ℕ) → (IsArm ops i → ⊥) → free_at ops i ≡ true
free_there ops i not_one = by (free_at ops i) refl
  where
    by : (b : Bool) → free_at ops i ≡ b → b ≡ true
    by true e = refl
    by false e = absurd (not_one (arm_is ops i e))

-- ---- what is behind an operation, and behind the arms of a group

three : (j i : ℕ) → (j < i) ⊎ ((j ≡ i) ⊎ (i < j))
three zero zero = inr (inl refl)
three zero (suc i) = inl (omega arith)
three (suc j) zero = inr (inr (omega arith))
three (suc j) (suc i) = up (three j i)
  where
    up : (j < i) ⊎ ((j ≡ i) ⊎ (i < j)) → (suc j < suc i) ⊎ ((suc j ≡ suc i) ⊎ (suc i < suc j))
    up (inl lt) = inl (omega (arith, lt))
    up (inr (inl e)) = inr (inl (ap suc e))
    up (inr (inr lt)) = inr (inr (omega (arith, lt)))

abbrev arms_in : Op → ℕ
arms_in (o.Group kind m pl) = m
arms_in op = 0

module _ (ops : List Op) (stand : ArmsStand ops) where
  no_group : (i m : ℕ) → IsArm ops i → GroupAt ops i m → ⊥
  no_group i m a g = true≢false (ap no_arm (same_Some _ _ (sym g.there ∙ a.1)))

  -- an arm of a group that begins further on, here, or before
  not_on : (i : ℕ) (op : Op) → slice_get ops i ≡ Some op → goes_on op ≡ true → IsArm ops (suc i) → ⊥
  not_on i op e on a = by (stand.groups (suc i) a)
    where
      stops : (x : Op) → slice_get ops i ≡ Some x → goes_on x ≡ false → ⊥
      stops x s h = true≢false (sym on ∙ (ap goes_on (same_Some _ _ (sym e ∙ s)) ∙ h))

      at : (g : GroupOf ops (suc i)) → (g.begin < i) ⊎ ((g.begin ≡ i) ⊎ (i < g.begin)) → ⊥
      at g (inl lt) =
          let arm = stand.arms g.begin g.arms i g.group (omega (arith, lt), omega (arith, g.behind.1)) in
          stops (o.Arm arm.0) arm.1 refl
      at g (inr (inl e)) =
          let here : GroupAt ops i g.arms = subst (λ j. GroupAt ops j g.arms) e g.group in
          stops (o.Group here.kind g.arms here.place) here.there refl
      at g (inr (inr lt)) = absurd (omega (arith, lt, g.behind.0))

      by : GroupOf ops (suc i) → ⊥
      by g = at g (three g.begin i)

  not_past : (i kind m pl : ℕ) → slice_get ops i ≡ Some (o.Group kind m pl) → IsArm ops (suc i + m) → ⊥
  not_past i kind m pl e a = by (stand.groups (suc i + m) a)
    where
      own : GroupAt ops i m
      own = record { kind = kind; place = pl; there = e }

      at : (g : GroupOf ops (suc i + m)) → (g.begin < i) ⊎ ((g.begin ≡ i) ⊎ (i < g.begin)) → ⊥
      at g (inl lt) =
          no_group i m (stand.arms g.begin g.arms i g.group (omega (arith, lt), omega (arith, g.behind.1))) own
      at g (inr (inl e2)) =
          let here : GroupAt ops i g.arms = subst (λ j. GroupAt ops j g.arms) e2 g.group in
          let same : g.arms ≡ m = ap arms_in (same_Some _ _ (sym here.there ∙ e)) in
          absurd (omega (arith, same, e2, g.behind.1))
      at g (inr (inr lt)) =
          no_group g.begin g.arms (stand.arms i m g.begin own (omega (arith, lt), omega (arith, g.behind.0))) g.group

      by : GroupOf ops (suc i + m) → ⊥
      by g = at g (three g.begin i)

-- ---- labels

lead_at : (free : Free) (out : ℕ → Bool) (is : List Item) (i : ℕ) (op : Op) → Lead free out is →
    slice_get (map item_op is) i ≡ Some op → OpLeads free op
lead_at free out [] i op h e = elim (none-some op e) [ ]
lead_at free out (sure x ∷ is) zero op h e = subst (λ y. OpLeads free y) (same_Some _ _ e) h.0
lead_at free out (leaving n ∷ is) zero op h e = subst (λ y. OpLeads free y) (same_Some _ _ e) tt
lead_at free out (x ∷ is) (suc i) op h e = lead_at free out is i op h.1 e

to_free : (free : Free) (op : Op) (l : ℕ) → leads_to op ≡ Some l → OpLeads free op → free l ≡ true
to_free free (o.Jump m) l e h = subst (λ i. free i ≡ true) (same_Some _ _ e) h
to_free free (o.Again m) l e h = subst (λ i. free i ≡ true) (same_Some _ _ e) h
to_free free (o.Same m) l e h = subst (λ i. free i ≡ true) (same_Some _ _ e) h
to_free free (o.Try m) l e h = subst (λ i. free i ≡ true) (same_Some _ _ e) h
to_free free (o.Branch m) l e h = subst (λ i. free i ≡ true) (same_Some _ _ e) h
to_free free (o.Defer m) l e h = subst (λ i. free i ≡ true) (same_Some _ _ e) h
to_free free (o.Take d v m) l e h = subst (λ i. free i ≡ true) (same_Some _ _ e) h
to_free free op l e h = elim (none-some l e) [ ]

-- ---- the items of a code tell where no arm stands

no_arm_first : (op : Op) (is : List Item) → Armed (arms_behind 0 op) is → no_arm op ≡ true
no_arm_first (o.Arm l) is h = elim h [ ]
no_arm_first op is h = refl

further : (free : Free) (k : Option ℕ) (is : List Item) (a : ℕ) → Tells (λ i. free (suc i)) k is a →
    Tells free k is (suc a)
further free None is a h = h
further free (Some n) [] a h = tt
further free (Some n) (i ∷ is) a h = (h.0, further free (arms_after n i) is (suc a) h.1)

tells : (k : Option ℕ) (is : List Item) → Armed k is → Tells (free_at (map item_op is)) k is 0
tells None is h = elim h [ ]
tells (Some n) [] h = tt
tells (Some zero) (sure op ∷ is) h = (
  no_arm_first op is h,
  further (free_at (op ∷ map item_op is)) (arms_behind 0 op) is 0 (tells (arms_behind 0 op) is h),
)
tells (Some (suc n)) (sure (o.Arm l) ∷ is) h =
    (refl, further (free_at (o.Arm l ∷ map item_op is)) (Some n) is 0 (tells (Some n) is h))
tells (Some (suc n)) (sure op ∷ is) h = elim h [ ]
tells (Some zero) (leaving d ∷ is) h =
    (refl, further (free_at (o.Unit ∷ map item_op is)) (Some 0) is 0 (tells (Some 0) is h))
tells (Some (suc n)) (leaving d ∷ is) h = elim h [ ]

behind_is : (is : List Item) (n : ℕ) → behind is n ≡ n + length is
behind_is [] n = omega arith
behind_is (i ∷ is) n = omega (arith, behind_is is (suc n))

free_behind : (is : List Item) (n : ℕ) → length is ≤ n → free_at (map item_op is) n ≡ true
free_behind [] n h = refl
free_behind (i ∷ is) zero h = absurd (omega (arith, h))
free_behind (i ∷ is) (suc n) h = free_behind is n (omega (arith, h))

free_end : (is : List Item) → free_at (map item_op is) (behind is 0) ≡ true
free_end is = free_behind is (behind is 0) (omega (arith, behind_is is 0))

-- ---- what is reached

module _ (p : Program) (differ : ℕ → ℕ → Bool) (f : Found) (known : FineFound p f) where
  entry_free : (free : Free) (bs : List Body) (s : Spot) (k : ℕ) (x : Func) →
      slice_get (funcs_from p differ bs s) k ≡ Some x → Begun free (begins p differ f known bs s) →
      free x.entry ≡ true
  entry_free free [] s k x e h = elim (none-some x e) [ ]
  entry_free free (b ∷ bs) s zero x e h = subst (λ (g : Func). free g.entry ≡ true) (same_Some _ _ e) h.0
  entry_free free (b ∷ bs) s (suc k) x e h = entry_free free bs (past s (body_piece p differ b s)) k x e h.1

  module _ (files : ℕ) (several : Several (bodies_from p differ (all_bodies p.items))
      (begins p differ f known (all_bodies p.items))) where
    abbrev is : List Item
    is = (whole p differ).items

    abbrev free : Free
    free = free_at (map item_op is)

    armed : Armed (Some 0) is
    armed = several.whole.arms first_spot

    stand : ArmsStand (map item_op is)
    stand = arms_stand is armed

    begun : Begun free (begins p differ f known (all_bodies p.items) first_spot)
    begun = several.entered first_spot free (tells (Some 0) is armed) (free_end is)

    lead : Lead free (λ n. true) is
    lead = several.whole.leads first_spot free (λ n. true) (tells (Some 0) is armed) (free_end is) (λ n le. refl)

    flow_free : (i j : ℕ) → Flows (map item_op is) i j → free j ≡ true
    flow_free i j (flows_on {op = op} s e) =
        free_there (map item_op is) j (not_on (map item_op is) stand i op s e)
    flow_free i j (flows_to {op = op} s e) = to_free free op j e (lead_at free (λ n. true) is i op lead s)
    flow_free i j (flows_past {kind = kind} {m = m} {place = place} s) =
        free_there (map item_op is) j (not_past (map item_op is) stand i kind m place s)
    flow_free i j (flows_in {j = n} {l = l} s lt le arm) = lead_at free (λ n. true) is n (o.Arm l) lead arm

    reached_free : {i : ℕ} → Reached (code_of p differ files) i → free i ≡ true
    reached_free (reached_entry k {f = x} e) = entry_free free (all_bodies p.items) first_spot k x e begun
    reached_free (reached_by {i} {j} r s) = flow_free i j s

    pub goes : FlowGoes (code_of p differ files)
    goes i r l e = true≢false (sym (reached_free r) ∙ arm_there (map item_op is) i l e)

pub fine_flow_goes : FineFlowGoes
fine_flow_goes p fine found stand differ files =
    let nodes = all_each (NodeStands p) (items_order p.items) stand in
    goes p differ fine.found fine.fine files (whole_orderly p differ fine.found fine.fine found nodes)
