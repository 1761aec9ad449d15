-- SpawnMethod: a method of the object's class, in a task of its own.
use Rattle.std.proofs.Common.{◌≡◌, ℕ, suc, List, [], ◌∷◌, ◌++◌, Bool, true, false, refl, sym, subst, ◌∙◌}
use Rattle.verse_code.specs.declared.operations.Op.TheVariants as o
use Rattle.verse_code.specs.declared.codes.Code.{Code}
use Rattle.verse_value.specs.Val as v
use Rattle.verse_value.specs.Val.{Val}
use Rattle.verse_meaning_state.specs.State.{State}
use Rattle.verse_code_machine.specs.Tasks.{Life, Handler, Frame, Who, World, thread, Step}
use Rattle.verse_code_machine.specs.Frames.{on_top, on_there, method_of}
use Rattle.verse_code_machine.specs.Acts.{frame, spawns, act}
use Rattle.verse_sorts.specs.Sorts as sort
use Rattle.verse_sorts.specs.Sorts.{Sort, fits_task}
use Rattle.verse_sorts.specs.Typing.{Typing, is_object, are_no, are_so}
use Rattle.verse_verify_kept.specs.Notes.{Point, Notes}
use Rattle.verse_verify_kept.specs.Known.{Known}
use Rattle.verse_verify_kept.specs.Known.{Called}
use Rattle.verse_verify_kept.specs.Rules.{Each, Passes, Method, method}
use Rattle.verse_verify_kept.specs.Rules as r
use Rattle.verse_verify_kept.specs.Kept.{giver, Of, All, StoreIs, Beneath, Below}
use Rattle.verse_verify_kept.specs.Others.{World_is}
use Rattle.verse_verify_kept.proofs.Going.{only_good, Fresh}
use Rattle.verse_verify_kept.proofs.Acts.{many_good}
use Rattle.verse_verify_kept.proofs.Resting.{Fine_step}
use Rattle.verse_verify_kept.proofs.Tasking.{ends_world, may_free, waiting, spawn_from}
use Rattle.verse_verify_kept.proofs.Methods.{called_there, takes, Takes, weaker, pops_count}

module _ (c : Code) (n : Notes) (ok : Known c n) (w : Who) (x : World) (s : State) (pc : ℕ) (t : Typing) (p : Point) (z : StoreIs c n t
    s.memory.store) (f : Fresh c n (World_is c n) t s.clock.left) (g : Life) (bl : List Frame) (ls above more : List Val)
    (hs : List Handler)
    (k : Beneath c n (Below c n (World_is c n w x s.clock.results s.clock.signals s.clock.next) (giver n p) bl) t p p.defers ls more hs
    g.defers g.noted) (a : All c n t ls p.locals) (b : All c n t above p.stack) where
  no_true : false ≡ true → ⊥
  no_true e = cc

  not_so : (a b : Bool) → b ≡ false → (a ≡ true → b ≡ true) → a ≡ false
  not_so true b e h = elim (no_true (sym e ∙ h refl)) [ ]
  not_so false b e h = refl

  pub spawn_method_good : {m j : ℕ} → Passes c n pc p (o.SpawnMethod m j) →
      Fine_step c n (act c (o.SpawnMethod m j) w x s g ls (above ++ more) pc hs bl)
  spawn_method_good {m = m} {j = j} (r.of_spawn_method {a = d} {g = gn} {xs = xs} {st = st} may pops is_method fit sure l) =
      only_good c n (World_is c n) s _ (may_free c n ok w x s pc t p z f g bl ls above more hs k a b may) (many_good c n (World_is c n) ok
      (ends_world c n) w x s g pc bl t p z f ls more hs k a above [] _ pops b are_no (λ vs rest i r. have i r))
    where
      by_object : {u : Val} {d : Sort} {vs rest : List Val} → Method c n d m gn → Of c n t u d → Each c n (d ∷ xs) gn.params →
          All c n t vs xs → All c n t rest st → Fine_step c n
          (on_there (method_of c m j u s) s (λ f. spawns f (u ∷ vs) (thread w (frame g ls (rest ++ more) (suc pc) hs) bl) x s))
      by_object {vs = vs} {rest = rest} (method {class = class} e e2 e3) (is_object {i = o} {c = heir} h up) fit i r = go (ok.methods heir
          class m gn up (method e e2 e3))
        where
          go : Called c n heir m gn → Fine_step c n (on_there (method_of c m j (v.object o) s) s (λ f. spawns f (v.object o ∷ vs) (thread w
              (frame g ls (rest ++ more) (suc pc) hs) bl) x s))
          go q = into (takes c n (World_is c n) ok (ends_world c n) w x s g pc bl t p z f ls more hs k a b h q refl fit i (pops_count pops))
            where
              into : Takes c n (World_is c n) ok (ends_world c n) w x s g pc bl t p z f ls more hs k a b q j (v.object o) vs → Fine_step c n
                  (on_there (method_of c m j (v.object o) s) s (λ f. spawns f (v.object o ∷ vs) (thread w (frame g ls (rest ++ more) (suc
                  pc) hs) bl) x s))
              into y =
                  subst (λ m. Fine_step c n (on_there m s (λ f. spawns f (v.object o ∷ vs) (thread w (frame g ls (rest ++ more) (suc pc) hs)
                  bl) x s))) (sym (called_there c n (World_is c n) ok (ends_world c n) w x s g pc bl t p z f ls more hs k a b o h q
                  y.count)) (spawn_from c n ok w x s pc t p z f g bl ls above more hs k a b q.number (v.object o ∷ vs) rest q.is_func
                  q.is_note y.args (not_so q.note.may_fail gn.may_fail sure q.overrides.fails)
                  (waiting c n ok w x s pc t p z f g bl ls above more hs k a b rest may
                  (weaker c n (World_is c n) ok (ends_world c n) w x s g pc bl t p z f ls more hs k a b (fits_task q.overrides.result) l)
                  r))

      have : {vs rest : List Val} → All c n t vs xs → All c n t rest (d ∷ st) → Fine_step c n (on_top (rest ++ more) s (λ v st. on_there
          (method_of c m j v s) s (λ f. spawns f (v ∷ vs) (thread w (frame g ls st (suc pc) hs) bl) x s)))
      have i (are_so o r) = by_object is_method o fit i r
  spawn_method_good {m = m} {j = j} (r.of_no_spawn_method {xs = xs} {st = st} may pops l) =
      only_good c n (World_is c n) s _ (may_free c n ok w x s pc t p z f g bl ls above more hs k a b may) (many_good c n (World_is c n) ok
      (ends_world c n) w x s g pc bl t p z f ls more hs k a above [] _ pops b are_no (λ vs rest i r. none _ r))
    where
      none : {rest : List Val} (go : Val → List Val → Step) → All c n t rest (sort.never ∷ st) → Fine_step c n (on_top (rest ++ more) s go)
      none go (are_so i r) = elim i [ ]
