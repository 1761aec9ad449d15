-- The members of a class, made of those of its parent.
use Rattle.std.proofs.Common.{◌≡◌, ℕ, zero, suc, ◌+◌, ◌<◌, Bool, true, false, cond, nat_eq, List, [], ◌∷◌, ◌++◌, length, Option, refl, ap, ◌∙◌, sym}
use Rattle.std.proofs.Common.{subst, arith, Result}
use denote.Ref.{Bor}
use Rattle.std.specs.Prelude.{Some, None, slice_get, slice_set, IfSome, IfOk}
use Rattle.std.specs.Option.{option_copied}
use Rattle.verse_base.specs.declared.refusals.Memory.{Memory}
use Rattle.std.proofs.lemmas.Bool.Decides.{nat_tests}
use Rattle.verse_rules_types.specs.Types.{Class}
use Rattle.verse_rules_types.specs.Fitting.{parent_of}
use Rattle.verse_rules_types.specs.Depths.{Ends, top, up}
use Rattle.verse_rules_types.proofs.Levels.{once, other_number, same_number, high_ends, is_high}
use Rattle.verse_names_tables.specs.Notes.{Note}
use Rattle.verse_names_declarations.specs.Members.{Members, members_view, no_members, as_of, with_note, members_of, line, line_of, on_class}
use Rattle.verse_names_declarations.specs.Members.{others, ancestors}
use Rattle.verse_names_declarations.specs.Descents.{Tells, TellsAbove, AreTraced, entry_in}
use Rattle.verse_names_declarations.specs.declared.members.Members.{Members as Made}
use Rattle.verse_names_declarations.specs.declared.descents.Descent.{Descent}
use Rattle.verse_names_declarations.proofs.Membering.{all_as}
use Rattle.verse_names_tables.proofs.Sharing.{get_set, get_other}

pub not_same : (a b : ℕ) → nat_eq a b ≡ false → a ≡ b → ⊥
not_same a b e s = let k : true ≡ false = sym (itself b) ∙ ap (λ c. nat_eq c b) (sym s) ∙ e in cc
  where
    itself : (c : ℕ) → nat_eq c c ≡ true
    itself c = grind (arith, nat_tests)

module _ (ns : List Note) (cs : List Class) where
  pub root_tells : (c : ℕ) (m nothing : Made) → members_view nothing ≡ no_members → parent_of cs c ≡ None → 0 < length cs →
      members_view m ≡ as_of c (members_view nothing) → m.class ≡ c → TellsAbove ns cs c (record { depth = 0; members = m })
  root_tells c m nothing e p l v k = record {
    descends = is_high cs (top p) l;
    class = k;
    told = λ n h. v ∙ ap (as_of c) e ∙ ap (λ o. members_of ns c (on_class o (line cs n))) (sym p);
  }

  pub below_tells : (p c k : ℕ) (a : Descent) (m : Made) → Tells ns cs p a → parent_of cs c ≡ Some p → k ≡ a.depth + 1 → k < length cs →
      members_view m ≡ as_of c (members_view a.members) → m.class ≡ c → TellsAbove ns cs c (record { depth = k; members = m })
  below_tells p c k a m t e s l v q = record {
    descends = is_high cs (subst (λ i. Ends cs i c) (let same : suc a.depth ≡ k = omega (arith, s) in same)
        (up e (high_ends cs p a.depth t.descends).1)) l;
    class = q;
    told = λ n h. v ∙ ap (as_of c) (t.told n (omega (arith, s, h))) ∙ all_as c p ns (line cs n p) ∙
        ap (λ o. members_of ns c (on_class o (line cs n))) (sym e);
  }

  pub own_tells : (c : ℕ) (d : Descent) (m : Made) → TellsAbove ns cs c d →
      members_view m ≡ with_note d.members.class (slice_get ns c) (members_view d.members) → m.class ≡ d.members.class →
      Tells ns cs c (record { depth = d.depth; members = m })
  own_tells c d m t v q = record { descends = t.descends; class = q ∙ t.class; told = by }
    where
      by : (n : ℕ) → d.depth < n → members_view m ≡ members_of ns c (line cs n c)
      by zero h = absurd (omega (arith, h))
      by (suc n) h = v ∙ ap (λ k. with_note k (slice_get ns c) (members_view d.members)) t.class ∙
          ap (with_note c (slice_get ns c)) (t.told n h)

  pub nil_traced : AreTraced ns cs []
  nil_traced c d e = cc

  last_none : (ds : List (Option Descent)) (c : ℕ) (d : Descent) → slice_get (ds ++ None ∷ []) c ≡ Some (Some d) →
      slice_get ds c ≡ Some (Some d)
  last_none [] zero d e = cc
  last_none [] (suc c) d e = cc
  last_none (x ∷ ds) zero d e = e
  last_none (x ∷ ds) (suc c) d e = last_none ds c d e

  pub none_traced : (ds : List (Option Descent)) → AreTraced ns cs ds → AreTraced ns cs (ds ++ None ∷ [])
  none_traced ds h c d e = h c d (last_none ds c d e)

  pub traced_in : (ds : List (Option Descent)) (c : ℕ) (r : Option (Bor Descent)) → AreTraced ns cs ds →
      option_copied r ≡ entry_in (slice_get ds c) → IfSome r (λ d. Tells ns cs c d.now)
  traced_in ds c None h e = tt
  traced_in ds c (Some d) h e = h c d.now (by (slice_get ds c) refl e)
    where
      by : (o : Option (Option Descent)) → slice_get ds c ≡ o → Some d.now ≡ entry_in o → slice_get ds c ≡ Some (Some d.now)
      by None q f = cc
      by (Some x) q f = q ∙ ap Some (sym f)

  pub set_traced : (ds : List (Option Descent)) (c : ℕ) (d : Descent) → AreTraced ns cs ds → Tells ns cs c d → c < length ds →
      AreTraced ns cs (slice_set ds c (Some d))
  set_traced ds c d h t l e x q = by (nat_eq e c) refl
    where
      by : (b : Bool) → nat_eq e c ≡ b → Tells ns cs e x
      by true s =
          let same : e ≡ c = same_number e c s in
          let here : slice_get (slice_set ds c (Some d)) e ≡ Some (Some d) =
          ap (slice_get (slice_set ds c (Some d))) same ∙ get_set ds c (Some d) l in
          let also : d ≡ x = cc in
          subst (λ y. Tells ns cs e y) also (subst (λ i. Tells ns cs i d) (sym same) t)
      by false s = h e x (sym (get_other ds c e (Some d) (not_same e c s)) ∙ q)

  -- a class with its members, and one with those above it

  pub all_told : (c : ℕ) (d : Descent) → Tells ns cs c d → as_of c (members_view d.members) ≡ members_of ns c (line_of cs c)
  all_told c d t = ap (as_of c) (t.told (length cs) (high_ends cs c d.depth t.descends).0) ∙ all_as c c ns (line_of cs c)

  no_others : {k j p c : ℕ} (n : ℕ) → Ends cs k p → Ends cs j c → k < j → others c (line cs n p) ≡ line cs n p
  no_others zero e f h = refl
  no_others {j = j} {p = p} {c = c} (suc n) (top q) f h =
      let away : nat_eq p c ≡ false = other_number p c (λ s. absurd (omega (arith, once cs (top q) (subst (Ends cs j) (sym s) f), h))) in
      rw (away, q) refl
  no_others {j = j} {p = p} {c = c} (suc n) (up q e) f h =
      let away : nat_eq p c ≡ false = other_number p c (λ s. absurd (omega (arith, once cs (up q e) (subst (Ends cs j) (sym s) f), h))) in
      rw (away, q) (ap (λ l. p ∷ l) (no_others n e f (omega (arith, h))))

  pub root_above : (c : ℕ) → parent_of cs c ≡ None → no_members ≡ members_of ns c (ancestors cs c)
  root_above c e = ap (λ o. members_of ns c (others c (on_class o (line_of cs)))) (sym e)

  pub told_above : (c p : ℕ) (d a : Descent) → Tells ns cs c d → Tells ns cs p a → parent_of cs c ≡ Some p →
      as_of c (members_view a.members) ≡ members_of ns c (ancestors cs c)
  told_above c p d a t u e =
      ap (as_of c) (u.told (length cs) (high_ends cs p a.depth u.descends).0) ∙ all_as c p ns (line_of cs p)
      ∙ ap (members_of ns c) (sym (no_others (length cs) below here higher))
      ∙ ap (λ o. members_of ns c (others c (on_class o (line_of cs)))) (sym e)
    where
      below : Ends cs a.depth p
      below = (high_ends cs p a.depth u.descends).1

      here : Ends cs d.depth c
      here = (high_ends cs c d.depth t.descends).1

      higher : a.depth < d.depth
      higher = omega (arith, once cs (up e below) here)

  pub told_above_ok : (c p : ℕ) (d a : Descent) (r : Result Made Memory) → Tells ns cs c d → Tells ns cs p a →
      parent_of cs c ≡ Some p → IfOk r (λ m. members_view m ≡ as_of c (members_view a.members)) →
      IfOk r (λ m. members_view m ≡ members_of ns c (ancestors cs c))
  told_above_ok c p d a r t u e h = subst (λ l. IfOk r (λ m. members_view m ≡ l)) (told_above c p d a t u e) h

  pub all_told_ok : (c : ℕ) (d : Descent) (r : Result Made Memory) → Tells ns cs c d →
      IfOk r (λ m. members_view m ≡ as_of c (members_view d.members)) →
      IfOk r (λ m. members_view m ≡ members_of ns c (line_of cs c))
  all_told_ok c d r t h = subst (λ l. IfOk r (λ m. members_view m ≡ l)) (all_told c d t) h

-- the lemmas that the goals of `members_above` want
pub ruleset of_above = (told_above_ok, root_above)
