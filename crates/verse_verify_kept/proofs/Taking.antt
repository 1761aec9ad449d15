-- Take: a value of a domain, or the domain is over.
use Rattle.std.proofs.Common.{◌≡◌, ℕ, zero, suc, ◌+◌, List, [], ◌∷◌, ◌++◌, Option, Some, None, Bool, true, false, cond, refl, sym, subst}
use Rattle.std.proofs.Common.{arith}
use Rattle.std.specs.Prelude.{ℤ, pos, negsuc, int_le, option_map}
use Rattle.std.specs.Ordering.{int_eq}
use Rattle.std.proofs.lemmas.Option.{same_Some, none-some}
use Rattle.verse_code.specs.declared.operations.Op.TheVariants as o
use Rattle.verse_code.specs.declared.codes.Code.{Code}
use Rattle.verse_value.specs.Val as v
use Rattle.verse_value.specs.Val.{Val, Vals, Pairs}
use Rattle.verse_value.specs.Answer.{fails, given_or}
use Rattle.verse_value.specs.Places.{nth as nth_val}
use Rattle.verse_value.specs.Operations.{nth_entry}
use Rattle.verse_meaning_state.specs.State.{State, stepped}
use Rattle.verse_meaning_state.specs.Waits.{nth}
use Rattle.verse_code_machine.specs.Tasks.{Life, Handler, Frame, Who, World, Step, Next, machine}
use Rattle.verse_code_machine.specs.Frames.{on_there, put, behind}
use Rattle.verse_code_machine.specs.Acts.{Taken, ended, takes, taken_at, next_low, taken_from, takes_step, act}
use Rattle.verse_sorts.specs.Sorts as sort
use Rattle.verse_sorts.specs.Sorts.{Sort}
use Rattle.verse_sorts.specs.Typing.{at, Typing, AreAll, ArePairs, is_int, is_any, is_low, is_over, is_list, is_map, no_all, more_all, no_entries}
use Rattle.verse_sorts.specs.Typing.{more_entries}
use Rattle.verse_sorts.proofs.Fitting.{is_up, adds_itself}
use Rattle.verse_verify_kept.specs.Notes.{Point, Notes, parent_of}
use Rattle.verse_verify_kept.specs.Known.{Known}
use Rattle.verse_verify_kept.specs.Rules.{Leads, Passes, Quiet, Domain, of_list, of_map, of_span, of_none}
use Rattle.verse_verify_kept.specs.Rules as r
use Rattle.verse_verify_kept.specs.Kept.{giver, Of, All, StoreIs, Beneath, Bottom}
use Rattle.verse_verify_kept.proofs.Locals.{gets, Got, got, put_there, Put, puts}
use Rattle.verse_verify_kept.proofs.Places.{written, fits_there, handles, moves}
use Rattle.verse_verify_kept.proofs.Going.{Good, only_good, next_to, goes_to, Ends, Rest, Fresh}
use Rattle.verse_verify_kept.proofs.Acts.{spends, stepped_fresh}

-- what is written was there
data At (xs : List Sort) (l : ℕ) : Type 0 where
  at_it : {a : Sort} → at xs l ≡ Some a → At xs l

put_at : {xs ys : List Sort} (a : Sort) (l : ℕ) → put xs l a ≡ Some ys → At xs l
put_at {xs = []} a l e = elim (none-some _ e) [ ]
put_at {xs = x ∷ xs} a zero e = at_it refl
put_at {xs = x ∷ xs} a (suc l) e = go (put xs l a) (λ zs h. put_at a l h) e
  where
    more : At xs l → At (x ∷ xs) (suc l)
    more (at_it h) = at_it h

    go : {ys : List Sort} (m : Option (List Sort)) → ((zs : List Sort) → m ≡ Some zs → At xs l) → behind x m ≡ Some ys → At (x ∷ xs) (suc l)
    go None h e = elim (none-some _ e) [ ]
    go (Some zs) h e = more (h zs refl)

put_other : {xs ys : List Sort} (a : Sort) (l : ℕ) → put xs l a ≡ Some ys → At ys (suc l) → At xs (suc l)
put_other {xs = []} a l e h = elim (none-some _ e) [ ]
put_other {xs = x ∷ xs} a zero e h = go (subst (λ ys. At ys 1) (sym (same_Some _ _ e)) h)
  where
    go : {a : Sort} → At (a ∷ xs) 1 → At (x ∷ xs) 1
    go (at_it h) = at_it h
put_other {xs = x ∷ xs} a (suc l) e h = go (put xs l a) (λ zs g h. put_other a l g h) e h
  where
    more : At xs (suc l) → At (x ∷ xs) (suc (suc l))
    more (at_it h) = at_it h

    less : {zs : List Sort} → At (x ∷ zs) (suc (suc l)) → At zs (suc l)
    less (at_it h) = at_it h

    go : {ys : List Sort} (m : Option (List Sort)) → ((zs : List Sort) → m ≡ Some zs → At zs (suc l) → At xs (suc l)) → behind x m ≡ Some ys →
        At ys (suc (suc l)) → At (x ∷ xs) (suc (suc l))
    go None f e h = elim (none-some _ e) [ ]
    go (Some zs) f e h = more (f zs refl (less (subst (λ ys. At ys (suc (suc l))) (sym (same_Some _ _ e)) h)))

module _ (c : Code) (n : Notes) (t : Typing) where
  data TakenIs (d e : Sort) (m : ℕ) (y : Sort) : Taken → Type 0 where
    is_ended : TakenIs d e m y ended
    is_takes : {u w q : Val} → Of c n t u d → Of c n t w e → Of c n t q y → TakenIs d e m y (takes u w m q)

  nth_is : {vs : Vals} {a : Sort} (i k : ℕ) → AreAll (parent_of n) t vs a → TakenIs a sort.int 1 sort.int (taken_at k (given_or fails
      (option_map (λ u. (u, v.int (pos k))) (nth_val vs i))))
  nth_is i k no_all = is_ended
  nth_is zero k (more_all i r) = is_takes i is_int is_int
  nth_is (suc j) k (more_all i r) = nth_is j k r

  entry_is : {ps : Pairs} {k a : Sort} (i j : ℕ) → ArePairs (parent_of n) t ps k a → TakenIs a k 1 sort.int (taken_at j (given_or fails
      (nth_entry ps i)))
  entry_is i j no_entries = is_ended
  entry_is zero j (more_entries p q r) = is_takes q p is_int
  entry_is (suc i) j (more_entries p q r) = entry_is i j r

  low_is : (b : Bool) (a d : ℤ) → TakenIs sort.int sort.any 0 sort.span (cond b (takes (v.int a) v.unit 0 (next_low a d)) ended)
  low_is true a d = is_takes is_int is_any (next_is (int_eq a d) _)
    where
      next_is : (b : Bool) (q : ℤ) → Of c n t (cond b v.unit (v.int q)) sort.span
      next_is true q = is_over
      next_is false q = is_low
  low_is false a d = is_ended

  domain_is : {a d e y : Sort} {m : ℕ} {u w : Val} → Domain c n a d e m y → Of c n t u a → Of c n t w sort.int →
      TakenIs d e m y (taken_from u w)
  domain_is of_list (is_list i) (is_int {n = pos k}) = nth_is k k i
  domain_is of_list (is_list i) (is_int {n = negsuc k}) = is_ended
  domain_is of_map (is_map i) (is_int {n = pos k}) = entry_is k k i
  domain_is of_map (is_map i) (is_int {n = negsuc k}) = is_ended
  domain_is (of_span fit) i j = by_span (is_up (parent_of n) i fit) j
    where
      by_span : {u w : Val} → Of c n t u sort.span → Of c n t w sort.int → TakenIs sort.int sort.any 0 sort.span (taken_from u w)
      by_span (is_low {n = a}) (is_int {n = d}) = low_is (int_le a d) a d
      by_span is_over is_int = is_ended
  domain_is of_none i j = elim i [ ]

  -- the local that is written last is one of the domain's
  last_quiet : {a d e y : Sort} {m l : ℕ} {is : List ℕ} → Domain c n a d e m y → Quiet c n l is → Quiet c n (suc l) is → Quiet c n (l + m) is
  last_quiet {l = l} {is = is} of_list q1 q2 = subst (λ l. Quiet c n l is) (one l) q2
    where
      one : (l : ℕ) → suc l ≡ l + 1
      one l = omega arith
  last_quiet {l = l} {is = is} of_map q1 q2 = subst (λ l. Quiet c n l is) (one l) q2
    where
      one : (l : ℕ) → suc l ≡ l + 1
      one l = omega arith
  last_quiet {l = l} {is = is} (of_span f) q1 q2 = subst (λ l. Quiet c n l is) (none l) q1
    where
      none : (l : ℕ) → l ≡ l + 0
      none l = omega arith
  last_quiet {l = l} {is = is} of_none q1 q2 = subst (λ l. Quiet c n l is) (one l) q2
    where
      one : (l : ℕ) → suc l ≡ l + 1
      one l = omega arith

module _ (c : Code) (n : Notes) (bottom : Bottom c n) (ok : Known c n) (ends : Ends c n bottom) (w : Who) (x : World) (s : State)
    (g : Life) (pc : ℕ) (bl : List Frame) (t : Typing) (p : Point) (z : StoreIs c n t s.memory.store) (f : Fresh c n bottom t s.clock.left)
    (ls more : List Val) (hs : List Handler) (k : Beneath c n (Rest c n bottom w x s (giver n p) bl) t p p.defers ls more hs g.defers
    g.noted) (a : All c n t ls p.locals) {above : List Val} (b : All c n t above p.stack) where
  there : {A : Type 0} {m : Option A} {y : A} (go : A → Step) → m ≡ Some y → Good c n bottom (go y) → Good c n bottom (on_there m s go)
  there go e i = subst (λ m. Good c n bottom (on_there m s go)) (sym e) i

  pub take_good : {l d label : ℕ} → Passes c n pc p (o.Take l d label) → Good c n bottom (act c (o.Take l d label) w x s g ls (above ++ more) pc hs
      bl)
  take_good {l = l} {d = d} {label = label} (r.of_take {m = m} {a = e1} {b = e2} {v = sv} {k = sk} {x = sx} {xs = xs} {ys = ys} {zs = zs} h1 h2
      fit dom p1 p2 p3 q1 q2 q3 q4 next lead) =
      read1 (gets (parent_of n) t l a h1)
    where
      step : {u : Taken} → TakenIs c n t sv sk m sx u → Good c n bottom (takes_step u l d label w x s g ls (above ++ more) pc hs bl)
      step is_ended = goes_to c n bottom ok w x s s g ls above more hs bl t next a b k z f
      step (is_takes {u = u} {w = y} {q = q} i1 i2 i3) =
          only_good c n bottom s _ (fits_there c n (handles c n (moves c n k lead.kin lead.tries adds_itself)) (ok.live label lead.point
          lead.live).around) (spends c n bottom s _ (λ j left. one j left (put_there (parent_of n) t d a p1 i1)))
        where
          Written : List Val → Type 0
          Written ms = Beneath c n (Rest c n bottom w x s (giver n p) bl) t p p.defers ms more hs g.defers g.noted

          three : (j : ℕ) → s.clock.left ≡ suc j → {ms : List Val} → Written ms → Put (parent_of n) t ms (l + m) q zs → Good c n bottom
              (on_there (put ms (l + m) q) s (λ ls. Next (machine w x (stepped j s) g ls (above ++ more) label hs bl)))
          three j left kk (puts {ws = ws} e r) =
              there _ e (next_to c n bottom ok w x (stepped j s) g ws above more hs bl t lead r b (written c n (l + m) q kk (last_quiet c n t
              dom q1 q2) e) z (stepped_fresh c n bottom t left f))

          two : (j : ℕ) → s.clock.left ≡ suc j → {ms : List Val} → Written ms → Put (parent_of n) t ms (suc d) y ys → Good c n bottom (on_there
              (put ms (suc d) y) s (λ ls. on_there (put ls (l + m) q) s (λ ls. Next (machine w x (stepped j s) g ls (above ++ more) label hs
              bl))))
          two j left kk (puts {ws = ws} e r) =
              there _ e (three j left (written c n (suc d) y kk q4 e) (put_there (parent_of n) t (l + m) r p3 i3))

          one : (j : ℕ) → s.clock.left ≡ suc j → Put (parent_of n) t ls d u xs → Good c n bottom (on_there (put ls d u) s (λ ls. on_there (put
              ls (suc d) y) s (λ ls. on_there (put ls (l + m) q) s (λ ls. Next (machine w x (stepped j s) g ls (above ++ more) label hs
              bl)))))
          one j left (puts {ws = ws} e r) =
              there _ e (two j left (written c n d u k q3 e) (put_there (parent_of n) t (suc d) r p2 i2))

      Stepping : Val → Val → Step
      Stepping u y = takes_step (taken_from u y) l d label w x s g ls (above ++ more) pc hs bl

      has : {q : Sort} (j : ℕ) (y : Step) → Got (parent_of n) t ls j q → Good c n bottom y → Good c n bottom (on_there (nth ls j) s (λ _. y))
      has j y (got e i) h = there _ e h

      known : (j : ℕ) (y : Step) → At p.locals j → Good c n bottom y → Good c n bottom (on_there (nth ls j) s (λ _. y))
      known j y (at_it e) h = has j y (gets (parent_of n) t j a e) h

      read2 : {u : Val} → Of c n t u e1 → Got (parent_of n) t ls (suc l) e2 → Good c n bottom (on_there (nth ls (suc l)) s (λ y. on_there (nth
          ls d) s (λ _. on_there (nth ls (suc d)) s (λ _. Stepping u y))))
      read2 i (got e j) =
          there _ e (known d _ (put_at sv d p1) (known (suc d) _ (put_other sv d p1 (put_at sk (suc d) p2)) (step (domain_is c n t dom i (is_up
          (parent_of n) j fit)))))

      read1 : Got (parent_of n) t ls l e1 → Good c n bottom (on_there (nth ls l) s (λ u. on_there (nth ls (suc l)) s (λ y. on_there (nth ls d)
          s (λ _. on_there (nth ls (suc d)) s (λ _. Stepping u y)))))
      read1 (got e i) = there _ e (read2 i (gets (parent_of n) t (suc l) a h2))
