-- Changes of the lists on top are changes of the top level.
use Rattle.std.proofs.Common.{◌≡◌, ◌≢◌, ℕ, zero, suc, ◌+◌, ◌-◌, ◌≤◌, ◌<◌, Bool, true, nat_lt, Option, Some, None, IfSome, IfNone, List, []}
use Rattle.std.proofs.Common.{◌∷◌, ◌++◌, length, take, drop, reverse, refl, sym, ap, ◌∙◌, arith}
use Rattle.std.proofs.lemmas.Bool.Decides.{nat_tests}
use Rattle.std.proofs.lemmas.List.{reverse-append, length-append, length-reverse, length-drop, drop-take}
use Rattle.fiber_stacks.proofs.Lists.{closed_drop}
use Rattle.fiber_stacks.specs.Layers.{top, closed, grown, joined, total, flat}
use Rattle.fiber_stacks.specs.Levels.{Level, levels, filled, operands_on, merged, with_defer, with_note, Takes, defers_on, noted_on}
use Rattle.fiber_stacks.specs.Levels.{defers_in, noted_in, has_note, any_noted, below}

module _ {T : Type 0} where
  pub size_in : (os : List (List T)) (ds ns : List (List ℕ)) (ls : List (Level T)) → levels os ds ns ≡ ls → length ls ≡ length os
  size_in [] ds ns ls are = sym (ap length are)
  size_in (o ∷ os) ds ns ls are = sym (ap length are) ∙ ap suc (size_in os (closed ds) (closed ns) _ refl)

  pub deferred_in : (os : List (List T)) (ds ns : List (List ℕ)) (ls : List (Level T)) (d : ℕ) (zs : List (List ℕ)) → levels os ds ns ≡ ls →
      length ds ≡ length os → zs ≡ grown (d ∷ []) ds → levels os zs ns ≡ with_defer d ls
  deferred_in [] ds ns ls d zs are e f = rw (← are) refl
  deferred_in (o ∷ os) [] ns ls d zs are e f = absurd (omega (arith, e))
  deferred_in (o ∷ os) (x ∷ ds) ns ls d zs are e f = rw (← are, f, reverse-append x (d ∷ [])) refl

  pub noted_case : (r : Option ℕ) (os : List (List T)) (ds ns zs : List (List ℕ)) (ls : List (Level T)) → levels os ds ns ≡ ls →
      length ns ≡ length os → IfSome r (λ n. ns ≡ grown (n ∷ []) zs) → IfSome r (λ _. zs ≢ []) →
      IfSome r (λ n. ls ≡ with_note n (levels os ds zs))
  noted_case None os ds ns zs ls are e f there = tt
  noted_case (Some n) os ds ns [] ls are e f there = absurd (there refl)
  noted_case (Some n) [] ds ns (z ∷ zs) ls are e f there = absurd (omega (arith, e, ap length f))
  noted_case (Some n) (o ∷ os) ds ns (z ∷ zs) ls are e f there = rw (← are, f, reverse-append z (n ∷ [])) refl

  pub noted_there : (r : Option ℕ) (os : List (List T)) (ds ns zs : List (List ℕ)) → length ns ≡ length os →
      IfSome r (λ n. ns ≡ grown (n ∷ []) zs) → IfSome r (λ _. zs ≢ []) → IfSome r (λ _. levels os ds zs ≢ [])
  noted_there None os ds ns zs e f there = tt
  noted_there (Some n) os ds ns [] e f there = absurd (there refl)
  noted_there (Some n) [] ds ns (z ∷ zs) e f there = absurd (omega (arith, e, ap length f))
  noted_there (Some n) (o ∷ os) ds ns (z ∷ zs) e f there = λ none. absurd (omega (arith, ap length none))

  pub noted_none : (r : Option ℕ) (os : List (List T)) (ds ns : List (List ℕ)) (ls : List (Level T)) → levels os ds ns ≡ ls →
      IfNone r (top ns ≡ []) → IfNone r (noted_on ls ≡ [])
  noted_none None [] ds ns ls are none = rw (← are) refl
  noted_none None (o ∷ os) ds ns ls are none = rw (← are, none) refl
  noted_none (Some n) os ds ns ls are none = tt

  taken_of : (os : List (List T)) (ds ns zs ms : List (List ℕ)) (d at : ℕ) → length ds ≡ length os → length ns ≡ length os →
      ds ≡ grown (d ∷ []) zs → zs ≢ [] → ms ≡ grown (at ∷ []) ns → Takes d at (levels os ds ns) (levels os zs ms)
  taken_of os ds ns [] ms d at e k f there m = absurd (there refl)
  taken_of [] ds ns (z ∷ zs) ms d at e k f there m = absurd (omega (arith, e, ap length f))
  taken_of (o ∷ os) ds [] (z ∷ zs) ms d at e k f there m = absurd (omega (arith, k))
  taken_of (o ∷ os) ds (n ∷ ns) (z ∷ zs) ms d at e k f there m =
      record {
        others = levels (o ∷ os) (z ∷ zs) (n ∷ ns);
        some = λ none. absurd (omega (arith, ap length none));
        before = rw (f, reverse-append z (d ∷ [])) refl;
        after = rw (m, reverse-append n (at ∷ [])) refl;
      }

  pub taken_in : (os : List (List T)) (ds ns zs ms : List (List ℕ)) (ls : List (Level T)) (d at : ℕ) → levels os ds ns ≡ ls →
      length ds ≡ length os → length ns ≡ length os → ds ≡ grown (d ∷ []) zs → zs ≢ [] → ms ≡ grown (at ∷ []) ns →
      Takes d at ls (levels os zs ms)
  taken_in os ds ns zs ms ls d at are e k f there m = rw (← are) (taken_of os ds ns zs ms d at e k f there m)

  pub defers_none : (os : List (List T)) (ds ns : List (List ℕ)) (ls : List (Level T)) → levels os ds ns ≡ ls → top ds ≡ [] →
      defers_on ls ≡ []
  defers_none [] ds ns ls are none = rw (← are) refl
  defers_none (o ∷ os) ds ns ls are none = rw (← are, none) refl

  pub merged_in : (os : List (List T)) (ds ns : List (List ℕ)) (ls : List (Level T)) → levels os ds ns ≡ ls → length ds ≡ length os →
      length ns ≡ length os → 2 ≤ length ls → levels (joined os) (joined ds) (joined ns) ≡ merged ls
  merged_in [] ds ns ls are e k two = absurd (omega (arith, ap length are, two))
  merged_in (o ∷ []) ds ns ls are e k two = absurd (omega (arith, ap length are, two))
  merged_in (o ∷ p ∷ os) [] ns ls are e k two = absurd (omega (arith, e))
  merged_in (o ∷ p ∷ os) (d ∷ []) ns ls are e k two = absurd (omega (arith, e))
  merged_in (o ∷ p ∷ os) (d ∷ c ∷ ds) [] ls are e k two = absurd (omega (arith, k))
  merged_in (o ∷ p ∷ os) (d ∷ c ∷ ds) (n ∷ []) ls are e k two = absurd (omega (arith, k))
  merged_in (o ∷ p ∷ os) (d ∷ c ∷ ds) (n ∷ m ∷ ns) ls are e k two =
      rw (← are, reverse-append p o, reverse-append c d, reverse-append m n) refl

  pub defers_count : (n : ℕ) (os : List (List T)) (ds ns : List (List ℕ)) → length ds ≡ length os → n ≤ length os →
      length (defers_in n (levels os ds ns)) ≡ total (take n ds)
  defers_count zero os ds ns e le = refl
  defers_count (suc n) [] ds ns e le = absurd (omega (arith, le))
  defers_count (suc n) (o ∷ os) [] ns e le = absurd (omega (arith, e))
  defers_count (suc n) (o ∷ os) (d ∷ ds) ns e le =
      length-append (reverse d) (defers_in n (levels os ds (closed ns))) ∙ ap (λ k. k + length (defers_in n (levels os ds (closed ns))))
      (length-reverse d) ∙ ap (λ k. length d + k) (defers_count n os ds (closed ns) (omega (arith, e)) (omega (arith, le)))

  pub noted_count : (n : ℕ) (os : List (List T)) (ds ns : List (List ℕ)) → length ns ≡ length os → n ≤ length os →
      length (noted_in n (levels os ds ns)) ≡ total (take n ns)
  noted_count zero os ds ns e le = refl
  noted_count (suc n) [] ds ns e le = absurd (omega (arith, le))
  noted_count (suc n) (o ∷ os) ds [] e le = absurd (omega (arith, e))
  noted_count (suc n) (o ∷ os) ds (m ∷ ns) e le =
      length-append (reverse m) (noted_in n (levels os (closed ds) ns)) ∙ ap (λ k. k + length (noted_in n (levels os (closed ds) ns)))
      (length-reverse m) ∙ ap (λ k. length m + k) (noted_count n os (closed ds) ns (omega (arith, e)) (omega (arith, le)))

  -- beneath the top one
  kept_of : (n : ℕ) (os : List (List T)) (ds ns : List (List ℕ)) → length ds ≡ length os → 0 < n → n ≤ length os →
      length (top ds) + length (defers_in (n - 1) (below (levels os ds ns))) ≡ total (take n ds)
  kept_of zero os ds ns e some le = absurd (omega (arith, some))
  kept_of (suc n) [] ds ns e some le = absurd (omega (arith, le))
  kept_of (suc n) (o ∷ os) [] ns e some le = absurd (omega (arith, e))
  kept_of (suc n) (o ∷ os) (d ∷ ds) ns e some le =
      let same : suc n - 1 ≡ n = omega arith in
      rw same (ap (λ k. length d + k) (defers_count n os ds (closed ns) (omega (arith, e)) (omega (arith, le))))

  pub kept_count : (n : ℕ) (os : List (List T)) (ds ns : List (List ℕ)) (ls : List (Level T)) → levels os ds ns ≡ ls →
      length ds ≡ length os → 0 < n → n ≤ length os → length (top ds) + length (defers_in (n - 1) (below ls)) ≡ total (take n ds)
  kept_count n os ds ns ls are e some le = rw (← are) (kept_of n os ds ns e some le)

note_some : (xs : List ℕ) (rest : Bool) → 0 < length xs → has_note xs rest ≡ true
note_some [] rest lt = absurd (omega (arith, lt))
note_some (x ∷ xs) rest lt = refl

module _ {T : Type 0} where
  any_of : (os : List (List T)) (ds ns : List (List ℕ)) → length ns ≡ length os → any_noted (levels os ds ns) ≡ nat_lt 0 (total ns)
  any_of [] ds [] e = refl
  any_of [] ds (n ∷ ns) e = absurd (omega (arith, e))
  any_of (o ∷ os) ds [] e = absurd (omega (arith, e))
  any_of (o ∷ os) ds ([] ∷ ns) e =
      let none : 0 + total ns ≡ total ns = omega arith in
      rw none (any_of os (closed ds) ns (omega (arith, e)))
  any_of (o ∷ os) ds ((n ∷ m) ∷ ns) e =
      let more : nat_lt 0 (length (n ∷ m) + total ns) ≡ true = grind (arith, nat_tests) in
      note_some (reverse (n ∷ m)) (any_noted (levels os (closed ds) ns)) (omega (arith, length-reverse (n ∷ m))) ∙ sym more

  pub any_in : (os : List (List T)) (ds ns : List (List ℕ)) (ls : List (Level T)) → levels os ds ns ≡ ls → length ns ≡ length os →
      any_noted ls ≡ nat_lt 0 (total ns)
  any_in os ds ns ls are e = rw (← are) (any_of os ds ns e)

  pub filled_in : (os ps : List (List T)) (ds cs ns : List (List ℕ)) (ls : List (Level T)) (xs : List T) (es : List ℕ) →
      levels os ds ns ≡ ls → length ds ≡ length os → ps ≡ grown xs os → cs ≡ grown es ds → levels ps cs ns ≡ filled xs es ls
  filled_in [] ps ds cs ns ls xs es are e f g = rw (← are, f) refl
  filled_in (o ∷ os) ps [] cs ns ls xs es are e f g = absurd (omega (arith, e))
  filled_in (o ∷ os) ps (d ∷ ds) cs ns ls xs es are e f g = rw (← are, f, g, reverse-append o xs, reverse-append d es) refl

  -- what is pushed on the top lists changes no level beneath
  pub operands_beneath : (os ps : List (List T)) (ds ns : List (List ℕ)) (ls : List (Level T)) (xs : List T) → levels os ds ns ≡ ls →
      ps ≡ grown xs os → below (levels ps ds ns) ≡ below ls
  operands_beneath [] ps ds ns ls xs are f = rw (← are, f) refl
  operands_beneath (o ∷ os) ps ds ns ls xs are f = rw (← are, f) refl

  dropped : (n : ℕ) (os : List (List T)) (ds ns : List (List ℕ)) → drop n (levels os ds ns) ≡ levels (drop n os) (drop n ds) (drop n ns)
  dropped zero os ds ns = refl
  dropped (suc n) [] ds ns = refl
  dropped (suc n) (o ∷ os) ds ns = dropped n os (closed ds) (closed ns) ∙
      ap (λ k. levels (drop n os) k (drop n (closed ns))) (closed_drop n ds) ∙
      ap (λ k. levels (drop n os) (drop (suc n) ds) k) (closed_drop n ns)

  top_operands : (os : List (List T)) (ds ns : List (List ℕ)) → reverse (flat (take 1 os)) ≡ operands_on (levels os ds ns)
  top_operands [] ds ns = refl
  top_operands (o ∷ os) ds ns = refl

  pub operands_in : (n : ℕ) (os : List (List T)) (ds ns : List (List ℕ)) (ls : List (Level T)) → levels os ds ns ≡ ls → 0 < n →
      reverse (flat (drop (n - 1) (take n os))) ≡ operands_on (drop (n - 1) ls)
  operands_in zero os ds ns ls are some = absurd (omega (arith, some))
  operands_in (suc n) os ds ns ls are some =
      let less : suc n - 1 ≡ n = omega arith in
      let more : suc n ≡ n + 1 = omega arith in
      rw (less, ← are) (ap (λ k. reverse (flat (drop n (take k os)))) more ∙ ap (λ k. reverse (flat k)) (drop-take n 1 os) ∙
      top_operands (drop n os) (drop n ds) (drop n ns) ∙ ap operands_on (sym (dropped n os ds ns)))

  defers_flat : (n : ℕ) (os : List (List T)) (ds ns : List (List ℕ)) → length ds ≡ length os → n ≤ length os →
      reverse (flat (take n ds)) ≡ defers_in n (levels os ds ns)
  defers_flat zero os ds ns e le = refl
  defers_flat (suc n) [] ds ns e le = absurd (omega (arith, le))
  defers_flat (suc n) (o ∷ os) [] ns e le = absurd (omega (arith, e))
  defers_flat (suc n) (o ∷ os) (d ∷ ds) ns e le =
      reverse-append (flat (take n ds)) d ∙ ap (λ k. reverse d ++ k)
      (defers_flat n os ds (closed ns) (omega (arith, e)) (omega (arith, le)))

  pub defers_part : (m n : ℕ) (os : List (List T)) (ds ns : List (List ℕ)) (ls : List (Level T)) → levels os ds ns ≡ ls →
      length ds ≡ length os → m ≤ n → n ≤ length os → reverse (flat (drop m (take n ds))) ≡ defers_in (n - m) (drop m ls)
  defers_part m n os ds ns ls are e order within =
      let sum : n ≡ m + (n - m) = omega (arith, order) in
      let sizes : length (drop m ds) ≡ length (drop m os) = length-drop m ds ∙ ap (λ k. k - m) e ∙ sym (length-drop m os) in
      let few : n - m ≤ length (drop m os) = omega (arith, within, length-drop m os) in
      rw (← are) (ap (λ k. reverse (flat (drop m (take k ds)))) sum ∙ ap (λ k. reverse (flat k)) (drop-take m (n - m) ds) ∙
      defers_flat (n - m) (drop m os) (drop m ds) (drop m ns) sizes few ∙ ap (defers_in (n - m)) (sym (dropped m os ds ns)))
