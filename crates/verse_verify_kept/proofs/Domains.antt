-- Operations that put domains into locals: Each and Range.
use Rattle.std.proofs.Common.{◌≡◌, ℕ, suc, List, ◌∷◌, ◌++◌, Option, Some, Bool, true, false, cond, sym, subst}
use Rattle.std.specs.Prelude.{if◌then◌else◌}
use Rattle.verse_base.specs.declared.places.Place.{Place}
use Rattle.verse_base.specs.declared.refusals.Kind.{Kind as Error}
use Rattle.verse_code.specs.declared.operations.Op.TheVariants as o
use Rattle.verse_code.specs.declared.codes.Code.{Code}
use Rattle.verse_value.specs.Val as v
use Rattle.verse_value.specs.Val.{Val, Vals, Pairs, no_vals, more_vals}
use Rattle.verse_value.specs.Answer.{gives, error}
use Rattle.verse_value.specs.Operations.{append_of}
use Rattle.verse_meaning_state.specs.State.{State, with_line}
use Rattle.verse_meaning_state.specs.Waits.{nth}
use Rattle.verse_meaning_state.specs.Effects.{line_printed, text_printed}
use Rattle.verse_code_machine.specs.Tasks.{Life, Handler, Frame, Who, World, Step}
use Rattle.verse_code_machine.specs.Frames.{on_there, fits, goes, put, answered_to}
use Rattle.verse_code_machine.specs.Acts.{on_domain, on_int, place_at, act}
use Rattle.verse_sorts.specs.Sorts as sort
use Rattle.verse_sorts.specs.Sorts.{Sort}
use Rattle.verse_sorts.specs.Typing.{Typing, is_int, is_low, is_unit, is_list, is_map, no_all, more_all}
use Rattle.verse_sorts.specs.Typing.{are_so}
use Rattle.verse_sorts.proofs.Fitting.{is_up, adds_itself}
use Rattle.verse_verify_kept.specs.Notes.{Point, Notes, parent_of, names}
use Rattle.verse_verify_kept.specs.Known.{Known}
use Rattle.verse_verify_kept.specs.Rules.{Leads, Passes, Counted, list_counted, map_counted, never_counted, Quiet, Domain, of_list, of_map}
use Rattle.verse_verify_kept.specs.Rules.{of_span}
use Rattle.verse_verify_kept.specs.Rules.{of_none}
use Rattle.verse_verify_kept.specs.Rules as r
use Rattle.verse_verify_kept.specs.Kept.{giver, Of, All, StoreIs, Beneath, Bottom}
use Rattle.verse_verify_kept.proofs.Locals.{gets, Got, got, put_there, Put, puts}
use Rattle.verse_verify_kept.proofs.Places.{written, fits_there, handles, moves}
use Rattle.verse_verify_kept.proofs.Going.{Good, over, only_good, goes_to, Ends, Rest, Fresh}
use Rattle.verse_verify_kept.proofs.Values.{Has, joined_all, bytes_there, answered_good}
use Rattle.verse_verify_kept.proofs.Acts.{Fine, fine_gives, fine_error}
use Rattle.verse_verify_kept.specs.Rules.{MayFail}
use Rattle.verse_value.specs.Runs.{Line}
use Rattle.verse_code_machine.specs.Frames.{answered, faulting}

module _ (c : Code) (n : Notes) (bottom : Bottom c n) (ok : Known c n) (ends : Ends c n bottom) (w : Who) (x : World) (s : State)
    (g : Life) (pc : ℕ) (bl : List Frame) (t : Typing) (p : Point) (z : StoreIs c n t s.memory.store) (f : Fresh c n bottom t s.clock.left)
    (ls more : List Val) (hs : List Handler) (k : Beneath c n (Rest c n bottom w x s (giver n p) bl) t p p.defers ls more hs g.defers
    g.noted) (a : All c n t ls p.locals) {above : List Val} (b : All c n t above p.stack) where
  there : {A : Type 0} {m : Option A} {y : A} (go : A → Step) → m ≡ Some y → Good c n bottom (go y) → Good c n bottom (on_there m s go)
  there go e i = subst (λ m. Good c n bottom (on_there m s go)) (sym e) i

  -- two locals are written
  two_written : {l : ℕ} {u v : Val} {d e : Sort} {xs ys : List Sort} {st : List Sort} {vs : List Val} → put p.locals l d ≡ Some xs →
      put xs (suc l) e ≡ Some ys → Of c n t u d → Of c n t v e → Quiet c n l (names p) → Quiet c n (suc l) (names p) → Leads c n p ys st
      p.tries p.defers (suc pc) → All c n t vs st → Good c n bottom (on_there (put ls l u) s (λ ls. on_there (put ls (suc l) v) s (λ ls.
      goes w x s s g ls (vs ++ more) (suc pc) hs bl)))
  two_written {l = l} {u = u} {v = v} {xs = xs} {ys = ys} {vs = vs} h1 h2 i j q1 q2 lead rest = first (put_there (parent_of n) t l a h1 i)
    where
      second : {ms : List Val} → Beneath c n (Rest c n bottom w x s (giver n p) bl) t p p.defers ms more hs g.defers g.noted →
          Put (parent_of n) t ms (suc l) v ys → Good c n bottom
          (on_there (put ms (suc l) v) s (λ ls. goes w x s s g ls (vs ++ more) (suc pc) hs bl))
      second m (puts {ws = ws} e r) =
          there _ e (goes_to c n bottom ok w x s s g ws vs more hs bl t lead r rest (written c n (suc l) v m q2 e) z f)

      first : Put (parent_of n) t ls l u xs → Good c n bottom
          (on_there (put ls l u) s (λ ls. on_there (put ls (suc l) v) s (λ ls. goes w x s s g ls (vs ++ more) (suc pc) hs bl)))
      first (puts {ws = ws} e r) = there _ e (second (written c n l u k q1 e) (put_there (parent_of n) t (suc l) r h2 j))

  pub range_good : {l : ℕ} → Passes c n pc p (o.Range l) → Good c n bottom (act c (o.Range l) w x s g ls (above ++ more) pc hs bl)
  range_good {l = l} (r.of_range {a = d} {b = e} {st = st} h fa fb h1 h2 q1 q2 lead) = have (subst (All c n t above) h b)
    where
      ints : {u v : Val} {vs : List Val} → Of c n t u sort.int → Of c n t v sort.int → All c n t vs st → Good c n bottom (on_int u s (on_int
          v s (on_there (put ls l u) s (λ ls. on_there (put ls (suc l) v) s (λ ls. goes w x s s g ls (vs ++ more) (suc pc) hs bl)))))
      ints is_int is_int rest = two_written h1 h2 is_low is_int q1 q2 lead rest

      have : {above : List Val} → All c n t above (e ∷ d ∷ st) → Good c n bottom (act c (o.Range l) w x s g ls (above ++ more) pc hs bl)
      have (are_so j (are_so i rest)) = ints (is_up (parent_of n) i fa) (is_up (parent_of n) j fb) rest

  pub each_good : {l : ℕ} → Passes c n pc p (o.Each l) → Good c n bottom (act c (o.Each l) w x s g ls (above ++ more) pc hs bl)
  each_good {l = l} (r.of_each {a = d} {st = st} h counted h1 h2 q1 q2 lead) = have (subst (All c n t above) h b)
    where
      domain : {u : Val} {e : Sort} {q : Step} → Counted c n e → Of c n t u e → Good c n bottom q → Good c n bottom (on_domain u s q)
      domain list_counted (is_list i) h = h
      domain map_counted (is_map i) h = h
      domain never_counted i h = elim i [ ]

      have : {above : List Val} → All c n t above (d ∷ st) → Good c n bottom (act c (o.Each l) w x s g ls (above ++ more) pc hs bl)
      have (are_so i rest) = domain counted i (two_written h1 h2 i is_int q1 q2 lead rest)

  lead_fits : {fs st : List Sort} → Leads c n p fs st p.tries p.defers (suc pc) → fits hs (suc pc) ≡ true
  lead_fits l = fits_there c n (handles c n (moves c n k l.kin l.tries adds_itself)) (ok.live (suc pc) l.point l.live).around

  pub append_good : {l m : ℕ} {pl : Place} → place_at c m ≡ Some pl → Passes c n pc p (o.Append l m) →
      Good c n bottom (act c (o.Append l m) w x s g ls (above ++ more) pc hs bl)
  append_good {l = l} {m = m} {pl = pl} at_place (r.of_append {a = d} {b = e} {u = u} {st = st} {ls = xs} h at_l fl fa h1 q lead) =
      have (subst (All c n t above) h b)
    where
      into : {vs : List Val} (y : Val) → Of c n t y (sort.list u) → All c n t vs st → (b : Bool) (kind : Error) → Good c n bottom
          (answered_to (place_at c m) l (if b then gives y else error kind) w x s g ls (vs ++ more) pc hs bl)
      into {vs = vs} y i rest true kind = go (put_there (parent_of n) t l a h1 i)
        where
          go : Put (parent_of n) t ls l y xs → Good c n bottom
              (on_there (put ls l y) s (λ ls. goes w x s s g ls (vs ++ more) (suc pc) hs bl))
          go (puts {ws = ws} e r) =
              there _ e (goes_to c n bottom ok w x s s g ws vs more hs bl t lead r rest (written c n l y k q e) z f)
      into y i rest false kind =
          only_good c n bottom s _ (lead_fits lead) (subst (λ m. Good c n bottom (faulting m kind s)) (sym at_place) (over tt))

      lists : {y v2 : Val} {vs : List Val} → Of c n t y (sort.list u) → Of c n t v2 u → All c n t vs st → Good c n bottom (answered_to
          (place_at c m) l (append_of y v2) w x s g ls (vs ++ more) pc hs bl)
      lists (is_list i) j rest = into _ (is_list (joined_all c n i (more_all j no_all))) rest _ _

      have : {above : List Val} → All c n t above (d ∷ st) → Good c n bottom (act c (o.Append l m) w x s g ls (above ++ more) pc hs bl)
      have (are_so {w = v2} {vs = vs} i rest) = local (gets (parent_of n) t l a at_l)
        where
          local : Got (parent_of n) t ls l e → Good c n bottom
              (on_there (nth ls l) s (λ a. answered_to (place_at c m) l (append_of a v2) w x s g ls (vs ++ more) pc hs bl))
          local (got e2 j) = there _ e2 (lists (is_up (parent_of n) j fl) (is_up (parent_of n) i fa) rest)

  pub print_good : {m : ℕ} → Has (place_at c m) → Passes c n pc p (o.Print m) →
      Good c n bottom (act c (o.Print m) w x s g ls (above ++ more) pc hs bl)
  print_good {m = m} has_place (r.of_print {a = d} {st = st} h fit l) = have (subst (All c n t above) h b)
    where
      told : {vs : List Val} → All c n t vs st → (b : Bool) (line : Line) (kind : Error) →
          Fine (MayFail c n p) (Has (place_at c m)) (λ (y : Val × State). Good c n bottom
          (goes w x s y.1 g ls (y.0 ∷ vs ++ more) (suc pc) hs bl)) (cond b (gives (v.unit, with_line s line)) (error kind))
      told {vs = vs} rest true line kind =
          fine_gives (goes_to c n bottom ok w x s (with_line s line) g ls (v.unit ∷ vs) more hs bl t l a (are_so is_unit rest) k z f)
      told rest false line kind = fine_error has_place

      text : {y : Val} {vs : List Val} → Of c n t y (sort.list sort.char) → All c n t vs st → Good c n bottom (answered (place_at c m)
          (line_printed y s) w x s g ls (vs ++ more) pc hs bl)
      text {vs = vs} (is_list i) rest =
          answered_good c n bottom ok ends w x s g pc bl t p z f ls more hs k a vs (place_at c m) _ l (subst (λ y. Fine (MayFail c n p) (Has
          (place_at c m)) (λ (y : Val × State). Good c n bottom (goes w x s y.1 g ls (y.0 ∷ vs ++ more) (suc pc) hs bl)) (text_printed y s))
          (sym (bytes_there c n i).1) (told rest _ _ _))

      have : {above : List Val} → All c n t above (d ∷ st) → Good c n bottom (act c (o.Print m) w x s g ls (above ++ more) pc hs bl)
      have (are_so i rest) = text (is_up (parent_of n) i fit) rest
