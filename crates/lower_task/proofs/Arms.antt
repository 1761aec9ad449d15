-- The arms of a group: each label is written as its arm begins.
use Rattle.std.proofs.Common.{◌≡◌, ℕ, zero, suc, ◌+◌, ◌-◌, ◌<◌, List, [], ◌∷◌, ◌++◌, length, map, Bool, refl, sym, ap, ◌∙◌, arith}
use Rattle.std.proofs.Common.{append_assoc, length-append, append-nil}
use Rattle.std.specs.Prelude.{slice_get}
use Rattle.verse_base.specs.declared.places.Place.{Place}
use Rattle.verse_tree.specs.Tree.{Trees, no_trees, more_trees}
use Rattle.verse_code.specs.declared.operations.Op.{Op}
use Rattle.verse_code.specs.declared.operations.Op.TheVariants as o
use Rattle.verse_meaning.specs.Programs.{Program}
use Rattle.lower_code.specs.Pieces.{Spot, Item, sure, Piece, Maker, past, later, joined, one, ahead, ◌then◌, arms_at, arms_spot}
use Rattle.lower_code.specs.Scopes.{Scope}
use Rattle.lower_code.specs.Lowering.{task_arms, arm_spots, how_many, grouped}
use Rattle.lower_expr.specs.Building.{Built, pushed, with_place, patched, patched_ops, ended_here, raw, opened, spot, with_piece, made}
use Rattle.lower_code.proofs.Standing.{later_is, behind_is}
use Rattle.lower_expr.proofs.Laws.{map_more, list_behind, length_raw, with_joined, spot_past, patch_seam, made_nothing}
use Rattle.lower_expr.proofs.Laws.{made_then, made_one, made_branch}
use Rattle.lower_task.specs.Tasks.{arms_open, group_begun, branch_ended, arm, arms_lowered}

pub branch_law : (f : Maker) (b : Built) →
    made (ahead o.Branch (f then one o.ArmEnd)) b ≡ branch_ended (length b.ops) (made f (pushed (o.Branch 0) b))
unfolding branch_ended
branch_law f b = search (made_then, made_one, made_branch)

-- as many arms without labels
abbrev pub zeros : ℕ → List Op
zeros zero = []
zeros (suc n) = o.Arm 0 ∷ zeros n

abbrev pub arms_of : List ℕ → List Op
arms_of [] = []
arms_of (l ∷ ls) = o.Arm l ∷ arms_of ls

pub raw_arms : (ls : List ℕ) (is : List Item) → map raw (arms_at ls is) ≡ arms_of ls ++ map raw is
raw_arms [] is = refl
raw_arms (l ∷ ls) is = ap (λ k. o.Arm l ∷ k) (raw_arms ls is)

nothing_piece : (b : Built) → with_piece b (record { items = []; places = []; texts = []; locals = 0 }) ≡ b
unfolding made
nothing_piece b = made_nothing b

made_at : (f : Maker) (b : Built) (s : Spot) → spot b ≡ s → made f b ≡ with_piece b (f s)
unfolding made
made_at f b s e = ap (λ s. with_piece b (f s)) e

arms_are_zeros : (n : ℕ) (b : Built) → arms_open n b ≡ record b { ops = b.ops ++ zeros n }
unfolding pushed
arms_are_zeros zero b = ap (λ k. record b { ops = k }) (sym (append-nil b.ops))
arms_are_zeros (suc n) b = arms_are_zeros n (record b { ops = b.ops ++ o.Arm 0 ∷ [] }) ∙
    ap (λ k. record b { ops = k }) (append_assoc b.ops (o.Arm 0 ∷ []) (zeros n))

zeros_long : (n : ℕ) → length (zeros n) ≡ n
zeros_long zero = refl
zeros_long (suc n) = ap suc (zeros_long n)

pub arms_next : (n i : ℕ) (b : Built) → i < n → arms_open (n - i) b ≡ arms_open (n - (i + 1)) (pushed (o.Arm 0) b)
arms_next n i b h =
    let one : n - i ≡ suc (n - (i + 1)) = omega (arith, h) in
    ap (λ k. arms_open k b) one

-- where the jump over the arms stands
pub jump_index : (op : Op) (n : ℕ) (pl : Place) (b c d e : Built) (j : ℕ) → c ≡ with_place pl b → d ≡ pushed op c → e ≡ arms_open n d →
    j ≡ length e.ops → j ≡ length b.ops + 1 + n
unfolding pushed with_place
jump_index op n pl b c d e j hc hd he hj =
    let c1 : Built = record b { ops = b.ops ++ op ∷ []; places = b.places ++ pl ∷ [] } in
    let long : length (c1.ops ++ zeros n) ≡ length b.ops + 1 + n =
    omega (arith, length-append c1.ops (zeros n), length-append b.ops (op ∷ []), zeros_long n) in
    hj ∙ ap (λ (w : Built). length w.ops) (he ∙ ap (arms_open n) (hd ∙ ap (pushed op) hc) ∙ arms_are_zeros n c1) ∙ long

module _ (p : Program) (k : ℕ → ℕ → Bool) (sc : Scope) where
  pub arms_law : (ts : Trees) (xs cs : List Op) (at : ℕ) (b : Built) → at ≡ length xs →
      b.ops ≡ xs ++ (zeros (how_many ts) ++ o.Jump 0 ∷ cs) →
      arms_lowered p k sc ts at b ≡ record (with_piece b (task_arms p k ts sc (spot b)))
      { ops = xs ++ (arms_of (arm_spots p k ts sc (spot b)) ++ o.Jump 0 ∷ (cs ++ map raw (task_arms p k ts sc (spot b)).items)) }
  unfolding ended_here patched
  arms_law no_trees xs cs at b e h = sym (
      ap (λ (w : Built). record w { ops = xs ++ (o.Jump 0 ∷ (cs ++ [])) }) (nothing_piece b)
      ∙ ap (λ c. record b { ops = xs ++ (o.Jump 0 ∷ c) }) (append-nil cs) ∙ ap (λ c. record b { ops = c }) (sym h))
  arms_law (more_trees t ts) xs cs at b e h =
      let l : ℕ = length b.ops in
      let zs : List Op = zeros (how_many ts) ++ (o.Jump 0 ∷ cs) in
      let b1 : Built = record b { ops = patched_ops (slice_get b.ops at) at l b.ops } in
      let o1 : b1.ops ≡ xs ++ (o.Arm l ∷ zs) = patch_seam xs zs b.ops (o.Arm 0) at l h e in
      let len1 : length b1.ops ≡ l = omega (
        arith,
        ap length o1,
        ap length h,
        length-append xs (o.Arm l ∷ zs),
        length-append xs (o.Arm 0 ∷ zs),
      ) in
      let s : Spot = spot b in
      let spot1 : spot b1 ≡ s = ap (λ n. record { at = n; place = length b.places; text = length b.texts }) len1 in
      let r : Piece = arm p k sc t s in
      let rs : List Op = map raw r.items in
      let w : Built = with_piece b1 r in
      let xs1 : List Op = xs ++ (o.Arm l ∷ []) in
      let cs1 : List Op = cs ++ rs in
      let opsw : w.ops ≡ xs1 ++ (zeros (how_many ts) ++ (o.Jump 0 ∷ cs1)) =
      ap (λ c. c ++ rs) o1 ∙ append_assoc xs (o.Arm l ∷ zs) rs ∙
      ap (λ z. xs ++ (o.Arm l ∷ z)) (append_assoc (zeros (how_many ts)) (o.Jump 0 ∷ cs) rs)
      ∙ sym (append_assoc xs (o.Arm l ∷ []) (zeros (how_many ts) ++ (o.Jump 0 ∷ cs1))) in
      let s2 : Spot = past s r in
      let spot2 : spot w ≡ s2 = spot_past b1 r ∙ ap (λ s. past s r) spot1 in
      let q : Piece = task_arms p k ts sc s2 in
      let qs : List Op = map raw q.items in
      let top : List Op = xs ++ (o.Arm l ∷ (arms_of (arm_spots p k ts sc s2) ++ (o.Jump 0 ∷ (cs ++ map raw (r.items ++ q.items))))) in
      let ops2 : xs1 ++ (arms_of (arm_spots p k ts sc s2) ++ (o.Jump 0 ∷ (cs1 ++ qs))) ≡ top =
      append_assoc xs (o.Arm l ∷ []) (arms_of (arm_spots p k ts sc s2) ++ (o.Jump 0 ∷ (cs1 ++ qs)))
      ∙ ap (λ c. xs ++ (o.Arm l ∷ (arms_of (arm_spots p k ts sc s2) ++ (o.Jump 0 ∷ c))))
      (append_assoc cs rs qs ∙ ap (λ z. cs ++ z) (sym (map_more r.items q.items))) in
      ap (arms_lowered p k sc ts (suc at)) (made_at (arm p k sc t) b1 s spot1)
      ∙ arms_law ts xs1 cs1 (suc at) w (ap suc e ∙ sym (list_behind xs (o.Arm l ∷ []))) opsw
      ∙ ap (λ s2. record (with_piece w (task_arms p k ts sc s2))
      { ops = xs1 ++ (arms_of (arm_spots p k ts sc s2) ++ (o.Jump 0 ∷ (cs1 ++ map raw (task_arms p k ts sc s2).items))) }) spot2 ∙
      ap (λ c. record (with_piece w q) { ops = c }) ops2 ∙ ap (λ (v : Built). record v { ops = top }) (sym (with_joined b1 r q))
      ∙ ap (λ n. record (with_piece b1 (joined r q)) { ops = top; exits = b.exits ++ opened (r.items ++ q.items) n }) len1

  zeros_length : (ts : Trees) (s : Spot) → length (arms_of (arm_spots p k ts sc s)) ≡ how_many ts
  zeros_length no_trees s = refl
  zeros_length (more_trees t ts) s = ap suc (zeros_length ts (past s (arm p k sc t s)))

  opened_arms : (ls : List ℕ) (op : Op) (is : List Item) (a n : ℕ) → n ≡ a + length (arms_of ls) + 1 →
      opened (arms_at ls (sure op ∷ is)) a ≡ opened is n
  opened_arms [] op is a n e = ap (opened is) (omega (arith, e))
  opened_arms (l ∷ ls) op is a n e = opened_arms ls op is (suc a) n (omega (arith, e))

  begun_is : (kind : ℕ) (ts : Trees) (pl : Place) (b : Built) → group_begun kind (how_many ts) pl b ≡
      record b {
        ops = (b.ops ++ (o.Group kind (how_many ts) (length b.places) ∷ [])) ++ (zeros (how_many ts) ++ (o.Jump 0 ∷ []));
        places =
            b.places ++ pl ∷ [];
      }
  unfolding group_begun pushed with_place
  begun_is kind ts pl b =
      let m : ℕ = how_many ts in
      let xs : List Op = b.ops ++ (o.Group kind m (length b.places) ∷ []) in
      let c : Built = record b { ops = xs; places = b.places ++ pl ∷ [] } in
      ap (λ (w : Built). record w { ops = w.ops ++ o.Jump 0 ∷ [] }) (arms_are_zeros m c) ∙
      ap (λ z. record c { ops = z }) (append_assoc xs (zeros m) (o.Jump 0 ∷ []))

  pub group_law : (kind : ℕ) (ts : Trees) (pl : Place) (b : Built) (j : ℕ) → j ≡ length b.ops + 1 + how_many ts →
      made (grouped kind (how_many ts) pl (λ s. arm_spots p k ts sc s) (task_arms p k ts sc)) b ≡
      ended_here j (arms_lowered p k sc ts (suc (length b.ops)) (group_begun kind (how_many ts) pl b))
  unfolding made patched grouped ended_here
  group_law kind ts pl b j ej =
      let m : ℕ = how_many ts in
      let g : Op = o.Group kind m (length b.places) in
      let xs : List Op = b.ops ++ (g ∷ []) in
      let b0 : Built = record b { ops = xs ++ (zeros m ++ (o.Jump 0 ∷ [])); places = b.places ++ pl ∷ [] } in
      let s1 : Spot = arms_spot m (spot b) in
      let len0 : length b0.ops ≡ later m (suc (suc (length b.ops))) =
      omega (
        arith,
        length-append xs (zeros (how_many ts) ++ (o.Jump 0 ∷ [])),
        length-append b.ops (g ∷ []),
        length-append (zeros (how_many ts)) (o.Jump 0 ∷ []),
        zeros_long m,
        later_is m (suc (suc (length b.ops))),
      ) in
      let spot0 : spot b0 ≡ s1 = ap (λ n. record { at = n; place = length (b.places ++ pl ∷ []); text = length b.texts }) len0
      ∙ ap (λ n. record { at = later m (suc (suc (length b.ops))); place = n; text = length b.texts }) (list_behind b.places (pl ∷ [])) in
      let q : Piece = task_arms p k ts sc s1 in
      let qs : List Op = map raw q.items in
      let ls : List ℕ = arm_spots p k ts sc s1 in
      let end : ℕ = (past s1 q).at in
      let w : Built = with_piece b0 q in
      let mid : List Op = xs ++ (arms_of ls ++ (o.Jump 0 ∷ qs)) in
      let lowered : arms_lowered p k sc ts (suc (length b.ops)) b0 ≡ record w { ops = mid } =
      arms_law ts xs [] (suc (length b.ops)) b0 (sym (list_behind b.ops (g ∷ []))) refl
      ∙ ap (λ s. record (with_piece b0 (task_arms p k ts sc s))
      { ops = xs ++ (arms_of (arm_spots p k ts sc s) ++ (o.Jump 0 ∷ map raw (task_arms p k ts sc s).items)) }) spot0 in
      let ys : List Op = xs ++ arms_of ls in
      let flat : mid ≡ ys ++ (o.Jump 0 ∷ qs) = sym (append_assoc xs (arms_of ls) (o.Jump 0 ∷ qs)) in
      let many : length (arms_of ls) ≡ m = zeros_length ts s1 in
      let here : j ≡ length ys = omega (arith, ej, length-append xs (arms_of ls), length-append b.ops (g ∷ []), many) in
      let long : length mid ≡ end =
      omega (
        arith,
        ap length flat,
        length-append ys (o.Jump 0 ∷ qs),
        here,
        ej,
        length_raw q.items,
        behind_is q.items s1.at,
        later_is m (suc (suc (length b.ops))),
      ) in
      let shut : patched_ops (slice_get mid j) j (length mid) mid ≡ ys ++ (o.Jump end ∷ qs) =
      patch_seam ys qs mid (o.Jump 0) j (length mid) flat here ∙ ap (λ n. ys ++ (o.Jump n ∷ qs)) long in
      let ops : b.ops ++ map raw (sure g ∷ arms_at ls (sure (o.Jump end) ∷ q.items)) ≡ ys ++ (o.Jump end ∷ qs) =
      ap (λ c. b.ops ++ (g ∷ c)) (raw_arms ls (sure (o.Jump end) ∷ q.items)) ∙
      sym (append_assoc b.ops (g ∷ []) (arms_of ls ++ (o.Jump end ∷ qs)))
      ∙ sym (append_assoc xs (arms_of ls) (o.Jump end ∷ qs)) in
      let exits : b.exits ++ opened (arms_at ls (sure (o.Jump end) ∷ q.items)) (suc (length b.ops)) ≡ w.exits =
      ap (λ c. b.exits ++ c) (opened_arms ls (o.Jump end) q.items (suc (length b.ops)) (length b0.ops)
      (omega (arith, len0, later_is m (suc (suc (length b.ops))), many))) in
      ap (λ c. record w {
        ops = c;
        exits = b.exits ++ opened (arms_at ls (sure (o.Jump end) ∷ q.items)) (suc (length b.ops));
        places =
            b.places ++ (pl ∷ q.places);
      }) (ops ∙ sym shut) ∙
      ap (λ e. record w { ops = patched_ops (slice_get mid j) j (length mid) mid; exits = e; places = b.places ++ (pl ∷ q.places) })
      exits
      ∙ ap (λ e. record w { ops = patched_ops (slice_get mid j) j (length mid) mid; places = e })
      (sym (append_assoc b.places (pl ∷ []) q.places)) ∙
      ap (λ (v : Built). record v { ops = patched_ops (slice_get v.ops j) j (length v.ops) v.ops }) (sym lowered)
      ∙ ap (λ (v : Built). let w = arms_lowered p k sc ts (suc (length b.ops)) v in record w
      { ops = patched_ops (slice_get w.ops j) j (length w.ops) w.ops }) (sym (begun_is kind ts pl b))
