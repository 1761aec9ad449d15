-- What an operation with right notes leads to is live: one case for each rule.
use Rattle.std.proofs.Common.{◌≡◌, ℕ, zero, suc, ◌+◌, ◌-◌, ◌<◌, ◌≤◌, List, [], ◌∷◌, true, Some, None}
use Rattle.std.proofs.Common.{slice_get, sym, ◌∙◌, arith, subst, true≢false}
use Rattle.std.proofs.lemmas.Option.{none-some, same_Some}
use Rattle.verse_base.proofs.Facts.{present}
use Rattle.verse_code.specs.declared.operations.Op.{Op}
use Rattle.verse_code.specs.declared.operations.Op.TheVariants as o
use Rattle.verse_code.specs.declared.codes.Code.{Code}
use Rattle.verse_sorts.specs.Sorts.{Sort}
use Rattle.verse_code_flow.specs.Flow.{goes_on, leads_to, Flows, flows_on, flows_to, flows_past, flows_in}
use Rattle.verse_verify_kept.specs.Notes.{Open, Point, Notes, point_at}
use Rattle.verse_verify_kept.specs.Rules as r
use Rattle.verse_verify_reach.specs.Laws.{HasValues, Comes, comes_entry, comes_by, ReachedAreLive, VerifiedFlowGoes}

try_is : (l m : ℕ) → o.Try l ≡ o.Try m → l ≡ m
try_is l m e = cc

arm_is : (l m : ℕ) → o.Arm l ≡ o.Arm m → l ≡ m
arm_is l m e = cc

module _ (c : Code) (n : Notes) where
  -- a Try stands there, and its label is live
  abbrev LabelAt : ℕ → Type 0
  LabelAt i = (label : ℕ) × (slice_get c.ops i ≡ Some (o.Try label)) × (q : Point) × (point_at n label ≡ Some q)

  abbrev AllLive : List Open → Type 0
  AllLive [] = Unit {0}
  AllLive (t ∷ ts) = LabelAt t.index × AllLive ts

  -- it is live, and so are the labels of all Trys that are open there
  record LiveAt (i : ℕ) : Type 0 where
    point : Point
    live : point_at n i ≡ Some point
    tries : AllLive point.tries

  same_tries : {xs ys : List Open} → r.TriesFit c n xs ys → AllLive xs → AllLive ys
  same_tries r.tries_no h = tt
  same_tries (r.tries_so e fit fits) h = (subst LabelAt e h.0, same_tries fits h.1)

  none_open : {ts : List Open} → ts ≡ [] → AllLive ts
  none_open e = subst AllLive (sym e) tt

  led : {p : Point} {ls st : List Sort} {ts : List Open} {ds : List ℕ} {i : ℕ} → r.Leads c n p ls st ts ds i →
      AllLive ts → LiveAt i
  led t h = record { point = t.point; live = t.live; tries = same_tries t.tries h }

  armed : {p : Point} {i : ℕ} {q : Sort} → r.Arm c n p i q → LiveAt i
  armed a = record { point = a.point; live = a.live; tries = none_open a.tries }

  entered : {p : Point} {e k : ℕ} {q : Point} → r.Entry c n p e k q → LiveAt e
  entered {q = q} e = record { point = q; live = e.live; tries = none_open e.tries }

  left : {p : Point} {i m : ℕ} {ls : List Sort} {ds : List ℕ} → r.Runs c n p i m ls ds → AllLive p.tries → LiveAt (suc i)
  left (r.runs_no e t) h = led t h
  left (r.runs_so lt e names fit rest) h = left rest h

  -- a Try that fails goes on at its label
  undone : (p : Point) (i label : ℕ) (t : Open) (ts : List Open) → p.tries ≡ t ∷ ts →
      slice_get c.ops t.index ≡ Some (o.Try label) →
      ((l : Point) → point_at n label ≡ Some l → r.Leads c n p l.locals t.beneath ts p.defers (suc i)) →
      AllLive p.tries → LiveAt (suc i)
  undone p i label t ts e is k h =
      let all : AllLive (t ∷ ts) = subst AllLive e h in
      let own = all.0 in
      let same : own.0 ≡ label = try_is own.0 label (same_Some _ _ (sym own.1 ∙ is)) in
      led (k own.2 (subst (λ l. point_at n l ≡ Some own.2) same own.3)) all.1

  module _ (i : ℕ) (p : Point) (h : AllLive p.tries) where
    on : (op : Op) → slice_get c.ops i ≡ Some op → r.Passes c n i p op → goes_on op ≡ true → LiveAt (suc i)
    on op is (r.of_int t) e = led t h
    on op is (r.of_unit t) e = led t h
    on op is (r.of_false t) e = led t h
    on op is (r.of_true t) e = led t h
    on op is (r.of_char t) e = led t h
    on op is (r.of_text t) e = led t h
    on op is (r.of_enum t) e = led t h
    on op is (r.of_get l a t) e = led t h
    on op is (r.of_put s l q t) e = led t h
    on op is (r.of_drop s t) e = led t h
    on op is (r.of_add s a b t) e = led t h
    on op is (r.of_sub s a b t) e = led t h
    on op is (r.of_mul s a b t) e = led t h
    on op is (r.of_neg s a t) e = led t h
    on op is (r.of_floor s a b f t) e = led t h
    on op is (r.of_ceil s a b f t) e = led t h
    on op is (r.of_mod s a b f t) e = led t h
    on op is (r.of_concat s a b t) e = led t h
    on op is (r.of_join s a t) e = led t h
    on op is (r.of_lt s a b f t) e = led t h
    on op is (r.of_le s a b f t) e = led t h
    on op is (r.of_gt s a b f t) e = led t h
    on op is (r.of_ge s a b f t) e = led t h
    on op is (r.of_eq s f t) e = led t h
    on op is (r.of_ne s f t) e = led t h
    on op is (r.of_array s a t) e = led t h
    on op is (r.of_map s a t) e = led t h
    on op is (r.of_tuple s t) e = led t h
    on op is (r.of_some s t) e = led t h
    on op is (r.of_query s q f t) e = led t h
    on op is (r.of_item s a t) e = led t h
    on op is (r.of_no_item s t) e = led t h
    on op is (r.of_at s a f t) e = led t h
    on op is (r.of_length s a t) e = led t h
    on op is (r.of_new s a t) e = led t h
    on op is (r.of_load s a t) e = led t h
    on op is (r.of_store s a b d m f t) e = led t h
    on op is (r.of_object q x s a t) e = led t h
    on op is (r.of_event t) e = led t h
    on op is (r.of_jump t) e = absurd (true≢false (sym e))
    on op is (r.of_same s t u) e = led t h
    on op is (r.of_again t) e = absurd (true≢false (sym e))
    on op is (r.of_try {l} t u) e = led t ((l, is, u.point, u.live), h)
    on op is (r.of_commit s k t) e = led t (subst AllLive s h).1
    on op is (r.of_undo {t} {ts} {label} s a k l u) e = undone p i label t ts s l u h
    on op is (r.of_fail f) e = absurd (true≢false (sym e))
    on op is (r.of_call q g s a f t) e = led t h
    on op is (r.of_method s g a f t) e = led t h
    on op is (r.of_no_method s t) e = led t h
    on op is (r.of_return s k a b d g f) e = absurd (true≢false (sym e))
    on op is (r.of_each s a l m q u t) e = led t h
    on op is (r.of_range s a b l m q u t) e = led t h
    on op is (r.of_take a b f d x y z q u v w t l) e = led t h
    on op is (r.of_append s a b f l q t) e = led t h
    on op is (r.of_print s a t) e = led t h
    on op is (r.of_sleep w t) e = led t h
    on op is (r.of_forever w t) e = led t h
    on op is (r.of_await_task w s t) e = led t h
    on op is (r.of_await_event w s t) e = led t h
    on op is (r.of_no_task w s t) e = led t h
    on op is (r.of_no_event w s t) e = led t h
    on op is (r.of_no_signal w s t) e = led t h
    on op is (r.of_signal w s a t) e = led t h
    on op is (r.of_spawn w q g s a f t) e = led t h
    on op is (r.of_spawn_method w s g a f t) e = led t h
    on op is (r.of_no_spawn_method w s t) e = led t h
    on op is (r.of_group w m a g t) e = absurd (true≢false (sym e))
    on op is (r.of_branch w a t) e = armed a
    on op is (r.of_arm_end s k a b d f) e = absurd (true≢false (sym e))
    on op is (r.of_defer a b d t) e = entered a
    on op is (r.of_leave k s) e = left s h
    on op is (r.of_defer_end b k s d q f) e = absurd (true≢false (sym e))

    to : (op : Op) (l : ℕ) → r.Passes c n i p op → leads_to op ≡ Some l → LiveAt l
    to op l (r.of_jump t) e = subst LiveAt (same_Some _ _ e) (led t h)
    to op l (r.of_same s t u) e = subst LiveAt (same_Some _ _ e) (led u h)
    to op l (r.of_again t) e = subst LiveAt (same_Some _ _ e) (led t h)
    to op l (r.of_try t u) e = subst LiveAt (same_Some _ _ e) (led u h)
    to op l (r.of_take a b f d x y z q u v w t k) e = subst LiveAt (same_Some _ _ e) (led k h)
    to op l (r.of_branch w a t) e = subst LiveAt (same_Some _ _ e) (led t h)
    to op l (r.of_defer a b d t) e = subst LiveAt (same_Some _ _ e) (led t h)
    to op l x e = elim (none-some l e) [ ]

    past : (kind m k : ℕ) → r.Passes c n i p (o.Group kind m k) → LiveAt (suc i + m)
    past kind m k (r.of_group w le a g t) = led t h

  arm_at : (p : Point) (a m d l : ℕ) (ls : List ℕ) (rs : List Sort) → r.Arms c n p a m ls rs → d < m →
      slice_get c.ops (a + d) ≡ Some (o.Arm l) → LiveAt l
  arm_at p a zero d l ls rs h lt e = absurd (omega (arith, lt))
  arm_at p a (suc m) zero l ls rs (r.arms_so {l = b} is x rest) lt e =
      let there : slice_get c.ops a ≡ Some (o.Arm l) = let same : a + 0 ≡ a = omega arith in
      subst (λ k. slice_get c.ops k ≡ Some (o.Arm l)) same e in
      subst LiveAt (arm_is b l (same_Some _ _ (sym is ∙ there))) (armed x)
  arm_at p a (suc m) (suc d) l ls rs (r.arms_so is x rest) lt e =
      arm_at p (suc a) m d l _ _ rest (omega (arith, lt)) (let same : a + suc d ≡ suc a + d = omega arith in
      subst (λ k. slice_get c.ops k ≡ Some (o.Arm l)) same e)

  inside : (p : Point) (i kind m k j l : ℕ) → r.Passes c n i p (o.Group kind m k) → i < j → j ≤ i + m →
      slice_get c.ops j ≡ Some (o.Arm l) → LiveAt l
  inside p i kind m k j l (r.of_group {ls = ls} {rs = rs} w few a g t) lt le e =
      arm_at p (suc i) m (j - suc i) l ls rs a (omega (arith, lt, le))
      (let same : j ≡ suc i + (j - suc i) = omega (arith, lt) in
      subst (λ q. slice_get c.ops q ≡ Some (o.Arm l)) same e)

  module _ (v : r.Verified c n) where
    -- what is asked of the operation at a live place to which values come
    passes : (i : ℕ) (p : Point) (op : Op) → point_at n i ≡ Some p → HasValues p → slice_get c.ops i ≡ Some op →
        r.Passes c n i p op
    passes i p op e has is =
        let s = v.live i p e in subst (r.Passes c n i p) (same_Some _ _ (sym s.is_op ∙ is)) (asks s.op s.passes)
      where
        asks : (k : Op) → r.Asked c n i p k → r.Passes c n i p k
        asks k (r.asked q) = q
        asks k (r.no_operand d) = absurd (has.operands d)
        asks k (r.no_local d) = absurd (has.locals d)

    flow_live : (i j : ℕ) (h : LiveAt i) → HasValues h.point → Flows c.ops i j → LiveAt j
    flow_live i j h has (flows_on {op = op} is e) = on i h.point h.tries op is (passes i h.point op h.live has is) e
    flow_live i j h has (flows_to {op = op} is e) = to i h.point h.tries op j (passes i h.point op h.live has is) e
    flow_live i j h has (flows_past {kind = kind} {m = m} {place = k} is) =
        past i h.point h.tries kind m k (passes i h.point (o.Group kind m k) h.live has is)
    flow_live i j h has (flows_in {j = q} {l = l} {kind = kind} {m = m} {place = k} is lt le e) =
        inside h.point i kind m k q l (passes i h.point (o.Group kind m k) h.live has is) lt le e

    reached_live : {i : ℕ} → Comes c n i → LiveAt i
    reached_live (comes_entry k {f = f} e) =
        let g = present c.functions n.functions k f v.counted.1 e in
        let b = v.begins k f g.0 e g.1 in
        record { point = b.point; live = b.live; tries = none_open b.tries }
    reached_live (comes_by {i} {j} h e has s) =
        let there = reached_live h in
        flow_live i j there (subst HasValues (same_Some _ _ (sym e ∙ there.live)) has) s

    no_arm : (i l : ℕ) (p : Point) → r.Passes c n i p (o.Arm l) → ⊥
    no_arm i l p h = elim h [ ]

    goes : (i : ℕ) (p : Point) → point_at n i ≡ Some p → HasValues p → (l : ℕ) → slice_get c.ops i ≡ Some (o.Arm l) → ⊥
    goes i p e has l is = no_arm i l p (passes i p (o.Arm l) e has is)

pub reached_are_live : ReachedAreLive
reached_are_live c n v i h = let a = reached_live c n v h in (a.point, a.live)

pub verified_flow_goes : VerifiedFlowGoes
verified_flow_goes c n v i p h e has l is = goes c n v i p e has l is
