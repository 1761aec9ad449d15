-- Every operation keeps what is kept, where its operands name what is there and parents stand. (`parents` stands for a field that the
-- invariant wants: a state may fit without it.)
use Rattle.std.proofs.Common.{◌≡◌, ℕ, List, [], ◌∷◌, ◌++◌, Option, Some, sym, subst}
use Rattle.std.specs.Prelude.{slice_get}
use Rattle.verse_base.specs.declared.places.Place.{Place}
use Rattle.verse_code.specs.declared.operations.Op.{Op}
use Rattle.verse_code.specs.declared.operations.Op.TheVariants as o
use Rattle.verse_code.specs.declared.codes.Code.{Code}
use Rattle.verse_value.specs.Val.{Val}
use Rattle.verse_meaning_state.specs.State.{State}
use Rattle.verse_code_machine.specs.Tasks.{Life, Handler, Frame, part, Who, Task, After, Up, clearing, World, since}
use Rattle.verse_code_machine.specs.Cancelling.{without}
use Rattle.verse_code_machine.specs.Acts.{place_at, act}
use Rattle.verse_sorts.specs.Sorts.{Sort}
use Rattle.verse_sorts.specs.Typing.{Typing, are_no, are_so}
use Rattle.verse_code_machine_parents.specs.Parents.{MachineRooted}
use Rattle.verse_verify_kept.specs.Notes.{Point, Notes, point_at}
use Rattle.verse_verify_kept.specs.Known.{Known}
use Rattle.verse_verify_kept.specs.Rules.{Passes, Asked, asked, no_operand, no_local, AnyNever, first_never, later_never, Sound}
use Rattle.verse_verify_kept.specs.Rules as r
use Rattle.verse_verify_kept.proofs.Blocks.{left_runs}
use Rattle.verse_verify_kept.specs.Kept.{Own, own, own_left, MachineFits}
use Rattle.verse_code_machine.specs.Tasks.{Machine}
use Rattle.verse_code_machine.specs.Frames.{on_there}
use Rattle.verse_code_machine.specs.Runs.{step}
use Rattle.std.proofs.lemmas.Option.{same_Some}
use Rattle.std.proofs.Common.{◌∙◌}
use Rattle.verse_verify_kept.specs.Kept.{giver, All, StoreIs, Beneath, Below}
use Rattle.verse_verify_kept.specs.Others.{World_is}
use Rattle.verse_verify_kept.proofs.Going.{Fresh}
use Rattle.verse_verify_kept.proofs.Resting.{Fine_step, Parented}
use Rattle.verse_verify_kept.proofs.Ending.{Placed}
use Rattle.verse_verify_kept.proofs.Values.{Has, has}
use Rattle.verse_verify_kept.proofs.Acts.{int_good, get_good, put_good, drop_good, jump_good, again_good, commit_good, undo_good, call_good}
use Rattle.verse_verify_kept.proofs.Acts.{same_good}
use Rattle.verse_verify_kept.proofs.Acts.{defer_good, try_good, fail_good}
use Rattle.verse_verify_kept.proofs.Values.{query_good, at_good, load_good, add_good, concat_good}
use Rattle.verse_verify_kept.proofs.Simple.{unit_good, false_good, true_good, char_good, enum_good, mod_good, lt_good, le_good, gt_good}
use Rattle.verse_verify_kept.proofs.Simple.{ge_good, eq_good}
use Rattle.verse_verify_kept.proofs.Simple.{ne_good, item_good, length_good, sub_good, mul_good, neg_good, floor_good, ceil_good, some_good}
use Rattle.verse_verify_kept.proofs.Simple.{array_good}
use Rattle.verse_verify_kept.proofs.Simple.{tuple_good, text_good}
use Rattle.verse_verify_kept.proofs.Domains.{each_good, range_good, append_good, print_good}
use Rattle.verse_verify_kept.proofs.Methods.{method_good}
use Rattle.verse_verify_kept.proofs.Taking.{take_good}
use Rattle.verse_verify_kept.proofs.Storing.{store_good, new_good, event_good, object_good}
use Rattle.verse_verify_kept.proofs.Collecting.{join_good, map_good}
use Rattle.verse_verify_kept.proofs.Tasking.{ends_world, return_good, sleep_good, forever_good, await_task_good, await_event_good}
use Rattle.verse_verify_kept.proofs.Tasking.{signal_good}
use Rattle.verse_verify_kept.proofs.Tasking.{spawn_good, branch_good, group_good, arm_end_good, defer_end_good}
use Rattle.verse_verify_kept.proofs.Spawning.{spawn_method_good}

-- an operation's place or text is there
abbrev pub Names : Code → Op → Type 0
Names c (o.Add i) = Has (place_at c i)
Names c (o.Sub i) = Has (place_at c i)
Names c (o.Mul i) = Has (place_at c i)
Names c (o.Neg i) = Has (place_at c i)
Names c (o.Floor i) = Has (place_at c i)
Names c (o.Ceil i) = Has (place_at c i)
Names c (o.Concat i) = Has (place_at c i)
Names c (o.Join i j) = Has (place_at c j)
Names c (o.Array i j) = Has (place_at c j)
Names c (o.Map i j) = Has (place_at c j)
Names c (o.Tuple i j) = Has (place_at c j)
Names c (o.Some i) = Has (place_at c i)
Names c (o.New i) = Has (place_at c i)
Names c (o.Store i j m l) = Has (place_at c l)
Names c (o.Object i j) = Has (place_at c j)
Names c (o.Event i) = Has (place_at c i)
Names c (o.Append i j) = Has (place_at c j)
Names c (o.Print i) = Has (place_at c i)
Names c (o.Group i j m) = Has (place_at c m)
Names c (o.Text i) = (bs : List ℕ) × (slice_get c.texts i ≡ Some bs)
Names c op = Unit {0}

by_place : {m : Option Place} {A : Type 0} → ((pl : Place) → m ≡ Some pl → A) → Has m → A
by_place f (has {x = pl} e) = f pl e

-- parents stand
abbrev pub Parents : (c : Code) (n : Notes) → Known c n → Who → World → Life → Op → Type 0
Parents c n ok w x g o.ArmEnd = x.ups ≡ [] → w.role ≡ part → Parented c n ok w.up (without (since w.path g.born) x.post)
Parents c n ok w x g o.DeferEnd =
    (after : After) (ts : List Task) (vs : List Up) → x.ups ≡ clearing after ts ∷ vs → Placed c n ok vs after x.post
Parents c n ok w x g op = Unit {0}

module _ (c : Code) (n : Notes) (ok : Known c n) (w : Who) (x : World) (s : State) (g : Life) (pc : ℕ) (t : Typing) (p : Point)
    (z : StoreIs c n t s.memory.store) (f : Fresh c n (World_is c n) t s.clock.left) (bl : List Frame) (ls above more : List Val)
    (hs : List Handler) (k : Beneath c n (Below c n (World_is c n w x s.clock.results s.clock.signals s.clock.next) (giver n p) bl) t p
    p.defers ls more hs g.defers g.noted) (a : All c n t ls p.locals) (b : All c n t above p.stack) where
  -- each operation, at a frame whose deferred blocks are those of the notes
  pub operation_good : (op : Op) → slice_get c.ops pc ≡ Some op → point_at n pc ≡ Some p → Names c op → Parents c n ok w x g op →
      Passes c n pc p op → Fine_step c n (act c op w x s g ls (above ++ more) pc hs bl)
  operation_good (o.Int i) is_op live h parents q = int_good c n (World_is c n) ok (ends_world c n) w x s g pc bl t p z f ls more hs k a b q
  operation_good (o.Get i) is_op live h parents q = get_good c n (World_is c n) ok (ends_world c n) w x s g pc bl t p z f ls more hs k a b q
  operation_good (o.Put i) is_op live h parents q = put_good c n (World_is c n) ok (ends_world c n) w x s g pc bl t p z f ls more hs k a b q
  operation_good o.Drop is_op live h parents q = drop_good c n (World_is c n) ok (ends_world c n) w x s g pc bl t p z f ls more hs k a b q
  operation_good (o.Jump i) is_op live h parents q =
      jump_good c n (World_is c n) ok (ends_world c n) w x s g pc bl t p z f ls more hs k a b q
  operation_good (o.Again i) is_op live h parents q =
      again_good c n (World_is c n) ok (ends_world c n) w x s g pc bl t p z f ls more hs k a b q
  operation_good o.Commit is_op live h parents q =
      commit_good c n (World_is c n) ok (ends_world c n) w x s g pc bl t p z f ls more hs k a b q
  operation_good o.Undo is_op live h parents q = undo_good c n (World_is c n) ok (ends_world c n) w x s g pc bl t p z f ls more hs k a b q
  operation_good (o.Call i) is_op live h parents q =
      call_good c n (World_is c n) ok (ends_world c n) w x s g pc bl t p z f ls more hs k a b q
  operation_good (o.Same i) is_op live h parents q =
      same_good c n (World_is c n) ok (ends_world c n) w x s g pc bl t p z f ls more hs k a b q
  operation_good (o.Defer i) is_op live h parents q =
      defer_good c n (World_is c n) ok (ends_world c n) w x s g pc bl t p z f ls more hs k a b q
  operation_good o.Query is_op live h parents q = query_good c n (World_is c n) ok (ends_world c n) w x s g pc bl t p z f ls more hs k a b q
  operation_good o.At is_op live h parents q = at_good c n (World_is c n) ok (ends_world c n) w x s g pc bl t p z f ls more hs k a b q
  operation_good (o.Load i) is_op live h parents q =
      load_good c n (World_is c n) ok (ends_world c n) w x s g pc bl t p z f ls more hs k a b q
  operation_good o.Unit is_op live h parents q = unit_good c n (World_is c n) ok (ends_world c n) w x s g pc bl t p z f ls more hs k a b q
  operation_good o.False is_op live h parents q = false_good c n (World_is c n) ok (ends_world c n) w x s g pc bl t p z f ls more hs k a b q
  operation_good o.True is_op live h parents q = true_good c n (World_is c n) ok (ends_world c n) w x s g pc bl t p z f ls more hs k a b q
  operation_good (o.Char i) is_op live h parents q =
      char_good c n (World_is c n) ok (ends_world c n) w x s g pc bl t p z f ls more hs k a b q
  operation_good (o.Enum i j) is_op live h parents q =
      enum_good c n (World_is c n) ok (ends_world c n) w x s g pc bl t p z f ls more hs k a b q
  operation_good o.Mod is_op live h parents q = mod_good c n (World_is c n) ok (ends_world c n) w x s g pc bl t p z f ls more hs k a b q
  operation_good o.Lt is_op live h parents q = lt_good c n (World_is c n) ok (ends_world c n) w x s g pc bl t p z f ls more hs k a b q
  operation_good o.Le is_op live h parents q = le_good c n (World_is c n) ok (ends_world c n) w x s g pc bl t p z f ls more hs k a b q
  operation_good o.Gt is_op live h parents q = gt_good c n (World_is c n) ok (ends_world c n) w x s g pc bl t p z f ls more hs k a b q
  operation_good o.Ge is_op live h parents q = ge_good c n (World_is c n) ok (ends_world c n) w x s g pc bl t p z f ls more hs k a b q
  operation_good o.Eq is_op live h parents q = eq_good c n (World_is c n) ok (ends_world c n) w x s g pc bl t p z f ls more hs k a b q
  operation_good o.Ne is_op live h parents q = ne_good c n (World_is c n) ok (ends_world c n) w x s g pc bl t p z f ls more hs k a b q
  operation_good (o.Item i) is_op live h parents q =
      item_good c n (World_is c n) ok (ends_world c n) w x s g pc bl t p z f ls more hs k a b q
  operation_good o.Length is_op live h parents q =
      length_good c n (World_is c n) ok (ends_world c n) w x s g pc bl t p z f ls more hs k a b q
  operation_good (o.Each i) is_op live h parents q =
      each_good c n (World_is c n) ok (ends_world c n) w x s g pc bl t p z f ls more hs k a b q
  operation_good (o.Range i) is_op live h parents q =
      range_good c n (World_is c n) ok (ends_world c n) w x s g pc bl t p z f ls more hs k a b q
  operation_good (o.Method i j) is_op live h parents q =
      method_good c n (World_is c n) ok (ends_world c n) w x s g pc bl t p z f ls more hs k a b q
  operation_good (o.Take i j m) is_op live h parents q =
      take_good c n (World_is c n) ok (ends_world c n) w x s g pc bl t p z f ls more hs k a b q
  operation_good (o.Add i) is_op live h parents q =
      add_good c n (World_is c n) ok (ends_world c n) w x s g pc bl t p z f ls more hs k a h b q
  operation_good (o.Concat i) is_op live h parents q =
      concat_good c n (World_is c n) ok (ends_world c n) w x s g pc bl t p z f ls more hs k a h b q
  operation_good (o.Store i j m l) is_op live h parents q =
      store_good c n (World_is c n) ok (ends_world c n) w x s g pc bl t p z f ls more hs k a h b q
  operation_good (o.New i) is_op live h parents q =
      new_good c n (World_is c n) ok (ends_world c n) w x s g pc bl t p z f ls more hs k a h b q
  operation_good (o.Event i) is_op live h parents q =
      event_good c n (World_is c n) ok (ends_world c n) w x s g pc bl t p z f ls more hs k a h b q
  operation_good (o.Object i j) is_op live h parents q =
      object_good c n (World_is c n) ok (ends_world c n) w x s g pc bl t p z f ls more hs k a h b q
  operation_good (o.Sub i) is_op live h parents q =
      sub_good c n (World_is c n) ok (ends_world c n) w x s g pc bl t p z f ls more hs k a b h q
  operation_good (o.Mul i) is_op live h parents q =
      mul_good c n (World_is c n) ok (ends_world c n) w x s g pc bl t p z f ls more hs k a b h q
  operation_good (o.Neg i) is_op live h parents q =
      neg_good c n (World_is c n) ok (ends_world c n) w x s g pc bl t p z f ls more hs k a b h q
  operation_good (o.Floor i) is_op live h parents q =
      floor_good c n (World_is c n) ok (ends_world c n) w x s g pc bl t p z f ls more hs k a b h q
  operation_good (o.Ceil i) is_op live h parents q =
      ceil_good c n (World_is c n) ok (ends_world c n) w x s g pc bl t p z f ls more hs k a b h q
  operation_good (o.Some i) is_op live h parents q =
      some_good c n (World_is c n) ok (ends_world c n) w x s g pc bl t p z f ls more hs k a b h q
  operation_good (o.Array i j) is_op live h parents q =
      array_good c n (World_is c n) ok (ends_world c n) w x s g pc bl t p z f ls more hs k a b h q
  operation_good (o.Tuple i j) is_op live h parents q =
      tuple_good c n (World_is c n) ok (ends_world c n) w x s g pc bl t p z f ls more hs k a b h q
  operation_good (o.Join i j) is_op live h parents q =
      join_good c n (World_is c n) ok (ends_world c n) w x s g pc bl t p z f ls more hs k a b h q
  operation_good (o.Map i j) is_op live h parents q =
      map_good c n (World_is c n) ok (ends_world c n) w x s g pc bl t p z f ls more hs k a b h q
  operation_good (o.Print i) is_op live h parents q =
      print_good c n (World_is c n) ok (ends_world c n) w x s g pc bl t p z f ls more hs k a b h q
  operation_good (o.Text i) is_op live h parents q =
      text_good c n (World_is c n) ok (ends_world c n) w x s g pc bl t p z f ls more hs k a b h.1 q
  operation_good (o.Append i j) is_op live h parents q =
      by_place (λ pl e. append_good c n (World_is c n) ok (ends_world c n) w x s g pc bl t p z f ls more hs k a b e q) h
  operation_good (o.Try i) is_op live h parents q =
      try_good c n (World_is c n) ok (ends_world c n) w x s g pc bl t p z f ls more hs k a b is_op live q
  operation_good o.Fail is_op live h parents q =
      fail_good c n (World_is c n) ok (ends_world c n) w x s g pc bl t p z f ls more hs k a (above ++ more) q
  operation_good o.Return is_op live h parents q = return_good c n ok w x s pc t p z f g bl ls above more hs k a b q
  operation_good (o.Sleep i) is_op live h parents q = sleep_good c n ok w x s pc t p z f g bl ls above more hs k a b q
  operation_good o.Forever is_op live h parents q = forever_good c n ok w x s pc t p z f g bl ls above more hs k a b q
  operation_good o.AwaitTask is_op live h parents q = await_task_good c n ok w x s pc t p z f g bl ls above more hs k a b q
  operation_good o.AwaitEvent is_op live h parents q = await_event_good c n ok w x s pc t p z f g bl ls above more hs k a b q
  operation_good o.Signal is_op live h parents q = signal_good c n ok w x s pc t p z f g bl ls above more hs k a b q
  operation_good (o.Spawn i) is_op live h parents q = spawn_good c n ok w x s pc t p z f g bl ls above more hs k a b q
  operation_good (o.SpawnMethod i j) is_op live h parents q = spawn_method_good c n ok w x s pc t p z f g bl ls above more hs k a b q
  operation_good (o.Branch i) is_op live h parents q = branch_good c n ok w x s pc t p z f g bl ls above more hs k a b q
  operation_good (o.Group i j m) is_op live h parents q =
      by_place (λ pl e. group_good c n ok w x s pc t p z f g bl ls above more hs k a b pl e q) h
  operation_good o.ArmEnd is_op live h parents q = arm_end_good c n ok w x s pc t p z f g bl ls above more hs k a b parents q
  operation_good o.DeferEnd is_op live h parents q = defer_end_good c n ok w x s pc t p z f g bl ls above more hs k a b parents q
  operation_good (o.Arm i) is_op live h parents q = elim q [ ]
  operation_good (o.Leave i) is_op live h parents (r.of_leave keeps runs) =
      left_runs c n (World_is c n) ok w x s pc bl t p z f g ls above more hs is_op live k a b keeps runs

no_values : (c : Code) (n : Notes) {t : Typing} {vs : List Val} {xs : List Sort} → All c n t vs xs → AnyNever xs → ⊥
no_values c n are_no d = elim d [ ]
no_values c n (are_so i a) first_never = elim i [ ]
no_values c n (are_so i a) (later_never d) = no_values c n a d

module _ (c : Code) (n : Notes) (ok : Known c n) (names : (i : ℕ) (op : Op) → slice_get c.ops i ≡ Some op → Names c op)
    (parents : (m : Machine) → MachineRooted m → (op : Op) → Parents c n ok m.who m.world m.frame.life op) where
  -- every operation keeps what is kept, and is not stuck
  pub every_keeps : (m : Machine) → MachineFits c n (World_is c n) m → MachineRooted m → Fine_step c n (step c m)
  every_keeps m a rooted = at_op (ok.live m.frame.place a.point a.live)
    where
      Goes : List Val → Op → Type 0
      Goes st op =
          Fine_step c n (act c op m.who m.world m.state m.frame.life m.frame.locals st m.frame.place m.frame.handlers m.below)

      does : {fs : List Sort} {ds : List ℕ} (so : Sound c n m.frame.place a.point) → Own c n m.frame.place a.point fs ds →
          All c n a.typing m.frame.locals fs → Beneath c n (Below c n (World_is c n
          m.who m.world m.state.clock.results m.state.clock.signals m.state.clock.next) (giver n a.point) m.below) a.typing a.point ds
          m.frame.locals a.stands.more m.frame.handlers m.frame.life.defers m.frame.life.noted →
          Goes (a.stands.above ++ a.stands.more) so.op
      does so own locals k =
          by_asked so.passes
        where
          by_asked : Asked c n m.frame.place a.point so.op → Goes (a.stands.above ++ a.stands.more) so.op
          by_asked (asked q) =
              operation_good c n ok m.who m.world m.state m.frame.life m.frame.place a.typing a.point a.store a.fresh m.below
              m.frame.locals a.stands.above a.stands.more m.frame.handlers k locals a.stands.stack so.op so.is_op a.live
              (names m.frame.place so.op so.is_op) (parents m rooted so.op) q
          by_asked (no_operand d) = absurd (no_values c n a.stands.stack d)
          by_asked (no_local d) = absurd (no_values c n locals d)
      -- a Leave to which a deferred block has come back
      does so (own_left {m = q} e keeps runs) locals k =
          subst (Goes (a.stands.above ++ a.stands.more)) (sym (same_Some _ _ (sym so.is_op ∙ e))) (left_runs c n (World_is c n) ok m.who
          m.world m.state m.frame.place m.below a.typing a.point a.store a.fresh m.frame.life m.frame.locals a.stands.above a.stands.more
          m.frame.handlers e a.live k locals a.stands.stack keeps runs)

      at_op : Sound c n m.frame.place a.point → Fine_step c n (step c m)
      at_op so =
          subst (λ o. Fine_step c n (on_there o m.state (λ op. act c op m.who m.world m.state m.frame.life m.frame.locals m.frame.stack
          m.frame.place m.frame.handlers m.below))) (sym so.is_op) (subst (λ st. Goes st so.op) (sym a.stands.split) (does so a.own
          a.stands.locals a.stands.beneath))
