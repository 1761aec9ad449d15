-- Where an operation leads: on with what it made, with other locals, or to the first operation of a block or an arm.
use Rattle.std.proofs.Common.{◌≡◌, ℕ, zero, suc, ◌+◌, ◌≤◌, length, map, List, [], ◌∷◌, ◌++◌, Option, Some, None, true}
use Rattle.std.proofs.Common.{refl, sym}
use Rattle.std.proofs.Common.{subst, ap, arith, ◌∙◌}
use Rattle.std.proofs.lemmas.Option.{none-some}
use Rattle.std.proofs.lemmas.List.{length-append}
use Rattle.std.proofs.lemmas.Bool.{and_parts}
use Rattle.verse_code.specs.declared.codes.Code.{Code}
use Rattle.verse_code_machine.specs.Frames.{put, behind}
use Rattle.verse_sorts.specs.Sorts.{Sort}
use Rattle.verse_sorts.specs.Typing.{AllFit}
use Rattle.verse_verify_kept.specs.Notes.{parent_of}
use Rattle.verse_verify_kept.specs.Rules.{Leads, To}
use Rattle.verse_verify_faults.specs.Spots.{Spot, Table, above, beneath, opens, even, cut}
use Rattle.verse_verify_faults.specs.Stepping.{Made, is, inner, Goes, to}
use Rattle.verse_verify_faults.specs.Faults.{of_part, suits, all_suit}
use Rattle.verse_verify_faults.proofs.Cutting.{fit_length, under, beneath_length, above_on, opens_on, even_more}
use Rattle.verse_verify_faults.proofs.Leading.{notes, marks_are, Becomes, itself, Become, become_so, become_is, Next}
use Rattle.verse_verify_faults.proofs.Leading.{next_in, leads_with, Pushed}
use Rattle.verse_verify_faults.proofs.Leading.{goes_bare, goes_pushed}

-- a local that is written
pub put_sort : (ls : List Sort) (l : ℕ) (a : Sort) (ms : List Made) → put (map is ls) l (is a) ≡ Some ms →
    (xs : List Sort) × (put ls l a ≡ Some xs) × (ms ≡ map is xs)
put_sort [] l a ms e = elim (none-some _ e) [ ]
put_sort (b ∷ ls) zero a ms e = (a ∷ ls, refl, cc)
put_sort (b ∷ ls) (suc l) a ms e = by_rest (put (map is ls) l (is a)) refl e (λ ns h. put_sort ls l a ns h)
  where
    joined : (ns : List Made) (xs : List Sort) → ns ≡ map is xs → Some (is b ∷ ns) ≡ Some ms → ms ≡ map is (b ∷ xs)
    joined ns xs e f = cc

    with_rest : (ns : List Made) → Some (is b ∷ ns) ≡ Some ms → (xs : List Sort) × (put ls l a ≡ Some xs) × (ns ≡ map
        is xs) →
        (xs : List Sort) × (put (b ∷ ls) (suc l) a ≡ Some xs) × (ms ≡ map is xs)
    with_rest ns f r = (b ∷ r.0, ap (behind b) r.1, joined ns r.0 r.2 f)

    by_rest : (m : Option (List Made)) → put (map is ls) l (is a) ≡ m → behind (is b) m ≡ Some ms → ((ns : List Made) →
        put (map is ls) l (is a) ≡ Some ns → (xs : List Sort) × (put ls l a ≡ Some xs) × (ns ≡ map is xs)) →
        (xs : List Sort) × (put (b ∷ ls) (suc l) a ≡ Some xs) × (ms ≡ map is xs)
    by_rest None e f go = elim (none-some _ f) [ ]
    by_rest (Some ns) e f go = with_rest ns f (go ns e)

-- and another one after it
pub put_next : (ls : List Sort) (l : ℕ) (a : Sort) (ns ms : List Made) → ns ≡ map is ls → put ns l (is a) ≡ Some ms →
    (xs : List Sort) × (put ls l a ≡ Some xs) × (ms ≡ map is xs)
put_next ls l a ns ms e h = put_sort ls l a ms (subst (λ ns. put ns l (is a) ≡ Some ms) e h)

module _ (c : Code) (t : Table) where
  pub record Written (m : Made) (ls : List Sort) (l : ℕ) (ys : List Sort) : Type 0 where
    pub sort : Sort
    pub becomes : Becomes c t m sort
    pub put : put ls l sort ≡ Some ys

  pub put_made : (ls : List Sort) (l : ℕ) (m : Made) (ms : List Made) (ys : List Sort) → put (map is ls) l m ≡ Some ms
      → Become c t ms ys →
      Written m ls l ys
  put_made [] l m ms ys e r = elim (none-some _ e) [ ]
  put_made (b ∷ ls) zero m ms ys e r = by_first (subst (λ ms. Become c t ms ys) (same e) r)
    where
      same : {ms : List Made} → Some (m ∷ map is ls) ≡ Some ms → ms ≡ m ∷ map is ls
      same e = cc

      by_first : {zs : List Sort} → Become c t (m ∷ map is ls) zs → Written m (b ∷ ls) zero zs
      by_first (become_so {a = a} {xs = xs} h r) = record {
        sort = a;
        becomes = h;
        put = ap (λ xs. Some (a ∷ xs)) (sym (become_is c t ls r));
      }
  put_made (b ∷ ls) (suc l) m ms ys e r = by_rest (put (map is ls) l m) refl e (λ ns zs h r. put_made ls l m ns zs h r)
    where
      same : {ns ms : List Made} → Some (is b ∷ ns) ≡ Some ms → ms ≡ is b ∷ ns
      same e = cc

      longer : {xs : List Sort} → Written m ls l xs → Written m (b ∷ ls) (suc l) (b ∷ xs)
      longer w = record { sort = w.sort; becomes = w.becomes; put = ap (behind b) w.put }

      by_first : (ns : List Made) → ((zs : List Sort) → Become c t ns zs → Written m ls l zs) → {zs : List Sort} →
          Become c t (is b ∷ ns) zs →
          Written m (b ∷ ls) (suc l) zs
      by_first ns go (become_so itself r) = longer (go _ r)

      by_rest : (n : Option (List Made)) → put (map is ls) l m ≡ n → behind (is b) n ≡ Some ms → ((ns : List Made) (zs
          : List Sort) →
          put (map is ls) l m ≡ Some ns → Become c t ns zs → Written m ls l zs) → Written m (b ∷ ls) (suc l) ys
      by_rest None e f go = elim (none-some _ f) [ ]
      by_rest (Some ns) e f go = by_first ns (λ zs r. go ns zs e r) (subst (λ ms. Become c t ms ys) (same f) r)

  module _ (p : Spot) (i : ℕ) (ev : even (length p.stack) p.tries ≡ true) where
    settled : {j : ℕ} {xs ls : List Sort} {ds : List ℕ} (new : List Sort) → xs ≡ new ++ beneath p.stack p.tries →
        Leads c (notes c t) (cut p) ls (above xs p.tries) (opens xs p.tries) ds j →
        Leads c (notes c t) (cut p) ls new (opens p.stack p.tries) ds j
    settled {j = j} {xs = xs} {ls = ls} {ds = ds} new e l =
        subst (λ ts. Leads c (notes c t) (cut p) ls new ts ds j) (opens_on p.stack new p.tries ev) (subst (λ st. Leads
        c (notes c t) (cut p) ls
        st (opens (new ++ beneath p.stack p.tries) p.tries) ds j) (above_on p.stack p.tries ev new) (subst (λ xs. Leads
        c (notes c t) (cut p)
        ls (above xs p.tries) (opens xs p.tries) ds j) e l))

    -- the next stack has all that lies beneath the innermost open Try
    even_there : (q : Spot) (xs new : List Sort) → AllFit (parent_of (notes c t)) xs q.stack → xs ≡ new ++ beneath
        p.stack p.tries →
        p.tries ≡ q.tries → even (length q.stack) q.tries ≡ true
    even_there q xs new fit e f =
        subst (λ ms. even (length q.stack) ms ≡ true) f (even_more (length p.stack) (length q.stack) p.tries (enough
        (under p.tries) (length
        (beneath p.stack p.tries)) (length new) (length q.stack) (sym (beneath_length p.stack p.tries ev)) (sym
        (fit_length (parent_of (notes
        c t)) fit) ∙ (ap length e ∙ length-append new (beneath p.stack p.tries)))) ev)
      where
        enough : (u b k q : ℕ) → u ≡ b → q ≡ k + b → u ≤ q
        enough u b k q e f = omega (arith, e, f)

    -- a next state with the same open Trys
    pub lead : {g : Goes} {ds : List ℕ} (nx : Next c t p g) (new : List Sort) → of_part p g.index (inner ds) nx.spot ≡
        true →
        p.tries ≡ nx.spot.tries → nx.stack.sorts ≡ new ++ beneath p.stack p.tries →
        Leads c (notes c t) (cut p) nx.locals.sorts new (opens p.stack p.tries) ds g.index
    lead {g = g} nx new part same e =
        settled new e (leads_with c t p nx.spot nx.there (even_there nx.spot nx.stack.sorts new nx.stack.fit e same)
        nx.func part same
        nx.stack.fit nx.locals.fit)

    pub record Wrote (j : ℕ) (ms : List Made) (st : List Sort) (ds : List ℕ) : Type 0 where
      pub locals : List Sort
      pub become : Become c t ms locals
      pub leads : Leads c (notes c t) (cut p) locals st (opens p.stack p.tries) ds j

    -- with these locals, and these blocks deferred
    pub wrote : {j : ℕ} {ms : List Made} {st : List Sort} {ds : List ℕ} →
        suits c t p (record (to c t p i j [] st) { part = inner ds; locals = ms }) ≡ true → Wrote j ms st ds
    wrote {j = j} {ms = ms} {st = st} {ds = ds} e =
        with_next (next_in c t p (record (to c t p i j [] st) { part = inner ds; locals = ms }) e)
      where
        with_next : Next c t p (record (to c t p i j [] st) { part = inner ds; locals = ms }) → Wrote j ms st ds
        with_next nx = record {
          locals = nx.locals.sorts;
          become = nx.locals.become;
          leads = lead nx st nx.part (marks_are p.tries nx.spot.tries nx.tries) (become_is c t (st ++ beneath p.stack
              p.tries) nx.stack.become);
        }

    -- locals that are sorts already
    pub wrote_sorts : {j : ℕ} {ms : List Made} {st : List Sort} {ds : List ℕ} (ls : List Sort) → ms ≡ map is ls → Wrote
        j ms st ds →
        Leads c (notes c t) (cut p) ls st (opens p.stack p.tries) ds j
    wrote_sorts {j = j} {st = st} {ds = ds} ls e w =
        subst (λ ls. Leads c (notes c t) (cut p) ls st (opens p.stack p.tries) ds j) (become_is c t ls (subst (λ ms.
        Become c t ms w.locals) e
        w.become)) w.leads

    -- what a sort is pushed for
    pub pushing : {j : ℕ} {a : Sort} {st : List Sort} → suits c t p (to c t p i j (is a ∷ []) st) ≡ true →
        To c (notes c t) (cut p) (a ∷ st) j
    pushing {j = j} {a = a} {st = st} e = by_pushed (goes_pushed c t p i ev j (is a) st e)
      where
        by_sort : {b : Sort} → Becomes c t (is a) b → To c (notes c t) (cut p) (b ∷ st) j → To c (notes c t) (cut p) (a
            ∷ st) j
        by_sort itself l = l

        by_pushed : Pushed c t p (is a) st j → To c (notes c t) (cut p) (a ∷ st) j
        by_pushed x = by_sort x.becomes x.leads

    pub bare : {j : ℕ} {st : List Sort} → suits c t p (to c t p i j [] st) ≡ true → To c (notes c t) (cut p) st j
    bare {j = j} {st = st} e = goes_bare c t p i ev j st e

    pub pushed_one : {j : ℕ} {a : Sort} {st : List Sort} → all_suit c t p (to c t p i j (is a ∷ []) st ∷ []) ≡ true →
        To c (notes c t) (cut p) (a ∷ st) j
    pushed_one e = pushing (and_parts _ _ e).0

    pub bare_one : {j : ℕ} {st : List Sort} → all_suit c t p (to c t p i j [] st ∷ []) ≡ true → To c (notes c t) (cut
        p) st j
    bare_one e = bare (and_parts _ _ e).0

    pub made_one : {j : ℕ} {m : Made} {st : List Sort} → all_suit c t p (to c t p i j (m ∷ []) st ∷ []) ≡ true → Pushed
        c t p m st j
    made_one {j = j} {m = m} {st = st} e = goes_pushed c t p i ev j m st (and_parts _ _ e).0

    pub wrote_one : {j : ℕ} {ms : List Made} {st : List Sort} → all_suit c t p (record (to c t p i j [] st) {
      locals =
          ms;
    } ∷ []) ≡ true →
        Wrote j ms st p.defers
    wrote_one e = wrote (and_parts _ _ e).0
