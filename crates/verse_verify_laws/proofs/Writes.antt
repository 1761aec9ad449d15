-- Operations that write locals.
use Rattle.std.proofs.Common.{◌≡◌, ℕ, suc, ◌+◌, length, map, List, [], ◌∷◌, Some, None, true}
use Rattle.std.proofs.Common.{subst}
use Rattle.std.proofs.lemmas.Option.{none-some, same_Some}
use Rattle.std.proofs.lemmas.Bool.{and_parts, cond_both}
use Rattle.verse_code.specs.declared.operations.Op.{Op}
use Rattle.verse_code.specs.declared.operations.Op.TheVariants as o
use Rattle.verse_code.specs.declared.codes.Code.{Code}
use Rattle.verse_code_machine.specs.Frames.{put}
use Rattle.verse_sorts.specs.Sorts as s
use Rattle.verse_sorts.specs.Sorts.{Sort, Sorts, from_never, fits_list}
use Rattle.verse_sorts.specs.Typing.{at}
use Rattle.verse_verify_kept.specs.Notes.{Point, Notes, names}
use Rattle.verse_verify_kept.specs.Rules as r
use Rattle.verse_verify_faults.specs.Fitting.{fit}
use Rattle.verse_verify_faults.specs.Spots.{Spot, Table, above, opens, even, cut}
use Rattle.verse_verify_faults.specs.Stepping as step
use Rattle.verse_verify_faults.specs.Stepping.{Made, is, list_of, one_of, Stepped, Goes, inner, begins_arm}
use Rattle.verse_verify_faults.specs.Stepping.{begins_block, leads, goes_on, to}
use Rattle.verse_verify_faults.proofs.Fitting.{fit_is}
use Rattle.verse_verify_faults.proofs.Leading as leading
use Rattle.verse_verify_faults.proofs.Leading.{notes, Becomes, Become, become_is, Next, next_in, leads_with, marks_are}
use Rattle.verse_verify_faults.proofs.Leading.{numbers_are, number_is, arm_is}
use Rattle.verse_verify_laws.proofs.Steps.{Fine, led, needed, there, popped, two_ints}
use Rattle.verse_verify_laws.proofs.Holding.{quiet_in}
use Rattle.verse_verify_laws.proofs.Going.{put_next, wrote_sorts, bare, wrote, wrote_one, Wrote, put_sort, put_made}
use Rattle.verse_verify_laws.proofs.Going.{Written}
use Rattle.verse_verify_laws.proofs.Simple.{Readable, readable_is, list_part, counted_is}

-- what Take writes, by the sort of the domain
module _ (c : Code) (t : Table) where
  taken_is : (a : Sort) (k : step.Taking) → step.taken t.classes a ≡ Some k → r.Domain c (notes c t) a k.value k.beside
      k.far k.last
  taken_is (s.list a) k e = subst (λ (k : step.Taking). r.Domain c (notes c t) (s.list a) k.value k.beside k.far
      k.last) (same_Some _ _ e) r.of_list
  taken_is (s.map l a) k e = subst (λ (k : step.Taking). r.Domain c (notes c t) (s.map l a) k.value k.beside k.far
      k.last) (same_Some _ _ e) r.of_map
  taken_is s.never k e = subst (λ (k : step.Taking). r.Domain c (notes c t) s.never k.value k.beside k.far k.last)
      (same_Some _ _ e) r.of_none
  taken_is a k e =
      cond_both (fit t.classes a s.span) (Some (record { value = s.int; beside = s.any; far = 0; last = s.span })) None
      (λ m. m ≡ Some k →
      r.Domain c (notes c t) a k.value k.beside k.far k.last) (λ h e. subst (λ (k : step.Taking). r.Domain c (notes c
      t) a k.value k.beside
      k.far k.last) (same_Some _ _ e) (r.of_span (fit_is t.classes a s.span h))) (λ h e. elim (none-some _ e) [ ]) e

module _ (c : Code) (t : Table) (p : Spot) (i : ℕ) (ev : even (length p.stack) p.tries ≡ true) where
  abbrev N : Notes
  N = notes c t

  abbrev P : Point
  P = cut p

  abbrev st : List Sort
  st = above p.stack p.tries

  abbrev Done : Op → Type 0
  Done op = Fine c t p i op (step.step c t p i op st)

  abbrev Passed : Op → Type 0
  Passed op = r.Passes c N i P op

  pub put_passes : {l : ℕ} → Done (o.Put l) → Passed (o.Put l)
  put_passes {l = l} f =
      let x = popped c t p i _ f in
      let y = there c t p i _ _ x.next in
      let k = led c t p i _ y.next in
      let z = put_sort p.locals l x.top y.it y.is in
      let quiet = and_parts _ _ k.quiet in
      r.of_put x.is z.1 (quiet_in c t i l p k.around quiet.0) (wrote_sorts c t p i ev z.0 z.2 (wrote_one c t p i ev
      k.suit))

  -- two locals, one after the other
  record Two (l : ℕ) (a b : Sort) (ms : List Made) : Type 0 where
    pub first : List Sort
    pub second : List Sort
    pub one : put p.locals l a ≡ Some first
    pub two : put first (suc l) b ≡ Some second
    pub are : ms ≡ map is second

  two_written : (l : ℕ) (a b : Sort) (us ms : List Made) → put (map is p.locals) l (is a) ≡ Some us → put us (suc l)
      (is b) ≡ Some ms →
      Two l a b ms
  two_written l a b us ms e h = next (put_sort p.locals l a us e)
    where
      next : (xs : List Sort) × (put p.locals l a ≡ Some xs) × (us ≡ map is xs) → Two l a b ms
      next x =
          let y = put_next x.0 (suc l) b us ms x.2 h in
          record { first = x.0; second = y.0; one = x.1; two = y.1; are = y.2 }

  pub each_passes : {l : ℕ} → Done (o.Each l) → Passed (o.Each l)
  each_passes {l = l} f =
      let x = popped c t p i _ f in
      let n = needed c t p i _ _ x.next in
      let y = there c t p i _ _ n.next in
      let z = there c t p i _ _ y.next in
      let k = led c t p i _ z.next in
      let w = two_written l x.top s.int y.it z.it y.is z.is in
      let one = and_parts _ _ k.quiet in
      let two = and_parts _ _ one.1 in
      r.of_each x.is (counted_is c t x.top n.is) w.one w.two (quiet_in c t i l p k.around one.0) (quiet_in c t i (suc
      l) p k.around two.0)
      (wrote_sorts c t p i ev w.second w.are (wrote_one c t p i ev k.suit))

  pub range_passes : {l : ℕ} → Done (o.Range l) → Passed (o.Range l)
  range_passes {l = l} f =
      let x = two_ints c t p i _ f in
      let y = there c t p i _ _ x.next in
      let z = there c t p i _ _ y.next in
      let k = led c t p i _ z.next in
      let w = two_written l s.span s.int y.it z.it y.is z.is in
      let one = and_parts _ _ k.quiet in
      let two = and_parts _ _ one.1 in
      r.of_range x.is x.one x.two w.one w.two (quiet_in c t i l p k.around one.0) (quiet_in c t i (suc l) p k.around
      two.0) (wrote_sorts
      c t p i ev w.second w.are (wrote_one c t p i ev k.suit))

  take_of : (l d label : ℕ) (a b : Sort) (k : step.Taking) (us vs ws : List Made) → Readable (at p.locals l) a →
      Readable (at p.locals (suc l)) b → r.Fit c N b s.int → step.taken t.classes a ≡ Some k → put (map is p.locals) d
      (is k.value) ≡ Some us →
      put us (suc d) (is k.beside) ≡ Some vs → put vs (l + k.far) (is k.last) ≡ Some ws → r.Quiet c N l (names P) →
      r.Quiet c N (suc l) (names P) → r.Quiet c N d (names P) → r.Quiet c N (suc d) (names P) → r.To c N P st (suc i) →
      Wrote c t p i ev label ws st p.defers → Passed (o.Take l d label)
  take_of l d label a b k us vs ws ra rb f h e g q one two three four on w = last (two_written d k.value k.beside us vs
      e g)
    where
      last : Two d k.value k.beside vs → Passed (o.Take l d label)
      last x =
          let y = put_next x.second (l + k.far) k.last vs ws x.are q in
          r.of_take ra.is rb.is f (taken_is c t a k h) x.one x.two y.1 one two three four on (wrote_sorts c t p i ev
          y.0 y.2 w)

  pub take_passes : {l d label : ℕ} → Done (o.Take l d label) → Passed (o.Take l d label)
  take_passes {l = l} {d = d} {label = label} f =
      let n = needed c t p i _ _ f in
      let x = there c t p i _ _ n.next in
      let y = there c t p i _ _ x.next in
      let q = there c t p i _ _ y.next in
      let u = there c t p i _ _ q.next in
      let v = there c t p i _ _ u.next in
      let w = there c t p i _ _ v.next in
      let k = led c t p i _ w.next in
      let suit = and_parts _ _ k.suit in
      let more = and_parts _ _ suit.1 in
      let one = and_parts _ _ k.quiet in
      let two = and_parts _ _ one.1 in
      let three = and_parts _ _ two.1 in
      let four = and_parts _ _ three.1 in
      take_of l d label x.it y.it q.it u.it v.it w.it (readable_is (at p.locals l) x.it x.is) (readable_is (at p.locals
      (suc l)) y.it y.is)
      (fit_is t.classes y.it s.int (subst (λ m. step.may_number t.classes m ≡ true) y.is (and_parts _ _ n.is).1)) q.is u.is
      v.is w.is (quiet_in
      c t i l p k.around one.0) (quiet_in c t i (suc l) p k.around two.0) (quiet_in c t i d p k.around three.0)
      (quiet_in c t i (suc d) p
      k.around four.0) (bare c t p i ev suit.0) (wrote c t p i ev more.0)

  pub append_passes : {l k : ℕ} → Done (o.Append l k) → Passed (o.Append l k)
  append_passes {l = l} {k = n} f =
      let x = popped c t p i _ f in
      let y = there c t p i _ _ x.next in
      let q = there c t p i _ _ y.next in
      let z = there c t p i _ _ q.next in
      let k = led c t p i _ z.next in
      let w = wrote_one c t p i ev k.suit in
      let one = readable_is (at p.locals l) y.it y.is in
      by_written x.top y.it q.it x.rest w.locals x.is one.is q.is (put_made c t p.locals l _ z.it w.locals z.is
      w.become) (quiet_in c t i l
      p k.around (and_parts _ _ k.quiet).0) w.leads
    where
      by_sort : (a b d : Sort) (rest ls : List Sort) → st ≡ a ∷ rest → at p.locals l ≡ Some b → step.part_of_list b ≡
          Some d → {u : Sort} →
          Becomes c t (list_of (d ∷ a ∷ [])) u → put p.locals l u ≡ Some ls → r.Quiet c N l (names P) →
          r.Leads c N P ls rest (opens p.stack p.tries) p.defers (suc i) → Passed (o.Append l n)
      by_sort a b d rest ls e h g (leading.a_list (r.in_so f (r.in_so fa r.in_no))) w q l = r.of_append e h (list_part
          c t b d g _ f) fa w q l

      by_written : (a b d : Sort) (rest ls : List Sort) → st ≡ a ∷ rest → at p.locals l ≡ Some b → step.part_of_list b
          ≡ Some d →
          Written c t (list_of (d ∷ a ∷ [])) p.locals l ls → r.Quiet c N l (names P) →
          r.Leads c N P ls rest (opens p.stack p.tries) p.defers (suc i) → Passed (o.Append l n)
      by_written a b d rest ls e h g w q l = by_sort a b d rest ls e h g w.becomes w.put q l
