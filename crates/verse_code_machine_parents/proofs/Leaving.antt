-- What tasks do with one another keeps that parents stand.
use Rattle.std.proofs.Common.{◌≡◌, ℕ, zero, suc, ◌≤◌, ◌<◌, length, List, [], ◌∷◌, ◌++◌, Option, Some, None, Bool, true, false, refl, sym}
use Rattle.std.proofs.Common.{subst, arith, ◌∙◌}
use Rattle.std.proofs.lemmas.Bool.{cond_both}
use Rattle.verse_base.specs.declared.places.Place.{Place}
use Rattle.verse_value.specs.Val.{Val, unit, task}
use Rattle.verse_value.specs.Answer.{Answer, gives, fails, error, stuck}
use Rattle.verse_value.specs.Operations.{tuple_of}
use Rattle.verse_value.specs.declared.runs.Ending.{Ending}
use Rattle.verse_value.specs.declared.runs.Ending.TheVariants as ending
use Rattle.verse_meaning_state.specs.State.{State, spending, stepped, with_result, drawn}
use Rattle.verse_meaning_state.specs.Waits.{Cause, waiting, has}
use Rattle.verse_meaning_state.specs.Turns.{Kind, sync, race, rush}
use Rattle.verse_meaning_state.proofs.Keeping.{result_left}
use Rattle.verse_code_machine.specs.Tasks.{Life, Handler, Frame, Note, Role, root, part, Who, Part, did, runs, Rest, asleep, group, Thread}
use Rattle.verse_code_machine.specs.Tasks.{thread, Task, After, resuming, closing, finishing, Up, begins, branching, spawning, clearing}
use Rattle.verse_code_machine.specs.Tasks.{Trees}
use Rattle.verse_code_machine.specs.Tasks.{World, world, Step, Over, Turn, child_named, onto, among, planted, starts, waits_of}
use Rattle.verse_code_machine.specs.Tasks.{same_path, since, beneath_arms}
use Rattle.verse_code_machine.specs.Frames.{free}
use Rattle.verse_code_machine.specs.Cancelling.{inserted, without, world_without, cancelled, on_deferred, clears_frame, clears_frames}
use Rattle.verse_code_machine.specs.Cancelling.{clears}
use Rattle.verse_code_machine.specs.Cancelling.{cancels, gone_before, gone_behind}
use Rattle.verse_code_machine.specs.Runs.{Forest}
use Rattle.verse_code_machine.specs.Ends.{resumes, all_did, first_did, tupled, or_stands, grouped, next_arm, arm_did, rested, suspends}
use Rattle.verse_code_machine.specs.Ends.{is_run}
use Rattle.verse_code_machine.specs.Ends.{with_did, joined, climbs, part_ends, root_ends, role_ends, ends_role, ends, returns_role, returns}
use Rattle.verse_code_machine.specs.Ends.{follows, cleared, is_asleep, woken, woken_in}
use Rattle.verse_code_machine_parents.specs.Parents.{whos, line, here, later, Rooted, rooted_part, Beneath}
use Rattle.verse_code_machine_parents.specs.Parents.{chain, Follow, HandlersBorn, Born, HasGone, first_gone, Closed, Marked, marked}
use Rattle.verse_code_machine_parents.specs.Parents.{marked_below, is_clearing, Framed, Still, EachTask, AllStill, TreesRooted, UpsRooted}
use Rattle.verse_code_machine_parents.specs.Parents.{AllBeneath, Leaving, Tree, running, before_resuming, before_closing, before_finishing}
use Rattle.verse_code_machine_parents.specs.Parents.{WorldRooted, StepRooted}
use Rattle.verse_code_machine_parents.proofs.Lists.{no_both, onto_line, longer, child_beneath, Takes, since_takes, since_child}
use Rattle.verse_code_machine_parents.proofs.Lists.{arms_takes, rooted_less, rooted_number, line_tail, More, line_more, Keeps}
use Rattle.verse_code_machine_parents.proofs.Lists.{keeps_one, keeps_off, keeps_whos, keeps_line, stays, keeps_chain}

pub record Low (q : Step) : Type 0 where
  pub holds : StepRooted q

pub over : {e : Ending} {s : State} → Low (Over e s)
over = record { holds = tt }

-- the suspended tasks
pub record Others (left : ℕ) (pre post : List Task) (trees : Trees) : Type 0 where
  pub pre_still : AllStill pre
  pub post_still : AllStill post
  pub before : TreesRooted left trees.before
  pub behind : TreesRooted left trees.behind

-- fewer steps are left
pub trees_less : {left less : ℕ} (tss : Forest) → less ≤ left → TreesRooted left tss → TreesRooted less tss
trees_less [] h r = tt
trees_less (ts ∷ tss) h r = (rooted_less h r.0, r.1, trees_less tss h r.2)

pub others_less : {left less : ℕ} {pre post : List Task} {trees : Trees} → less ≤ left → Others left pre post trees →
    Others less pre post trees
others_less {trees = trees} h o = record {
  pre_still = o.pre_still;
  post_still = o.post_still;
  before = trees_less trees.before h o.before;
  behind = trees_less trees.behind h o.behind;
}

pub ups_less : {left less : ℕ} (us : List Up) → less ≤ left → UpsRooted left us → UpsRooted less us
ups_less [] h r = tt
ups_less (begins y k p gs number ls ∷ us) h r = (r.0, ups_less us h r.1)
ups_less (branching y ∷ us) h r = (r.0, ups_less us h r.1)
ups_less (spawning y entry ps qs ∷ us) h r = (r.0, r.1, (rooted_less h r.2.0, r.2.1), ups_less us h r.3)
ups_less (clearing after ts ∷ us) h r = r

leaving_less : {left less : ℕ} {pre post : List Task} {us : List Up} {w : Who} → less ≤ left → Leaving left pre post us w →
    Leaving less pre post us w
leaving_less {us = us} h l = record {
  others = rooted_less h l.others;
  own = rooted_less h l.own;
  follow = l.follow;
  ups = ups_less us h l.ups;
}

pub tree_less : {left less : ℕ} {pre post : List Task} {w : Who} {us : List Up} → less ≤ left → Tree left pre post w us →
    Tree less pre post w us
tree_less h (running {us = us} r e u) = running (rooted_less h r) e (ups_less us h u)
tree_less h (before_resuming b bs st f t) = before_resuming b bs st f (tree_less h t)
tree_less h (before_closing b bs st l) = before_closing b bs st (leaving_less h l)
tree_less h (before_finishing b bs st l) = before_finishing b bs st (leaving_less h l)

pub world_of : {left : ℕ} {pre post : List Task} {w : Who} {us : List Up} {trees : Trees} → Tree left pre post w us →
    Others left pre post trees → WorldRooted left w (world pre post us trees)
world_of t o = record { tree = t; pre = o.pre_still; post = o.post_still; before = o.before; behind = o.behind }

pub others_of : {left : ℕ} {w : Who} {o : World} → WorldRooted left w o → Others left o.pre o.post o.trees
others_of r = record { pre_still = r.pre; post_still = r.post; before = r.before; behind = r.behind }

pub world_less : {left less : ℕ} {w : Who} {o : World} → less ≤ left → WorldRooted left w o → WorldRooted less w o
world_less {o = o} h r = record {
  tree = tree_less h r.tree;
  pre = r.pre;
  post = r.post;
  before = trees_less o.trees.before h r.before;
  behind = trees_less o.trees.behind h r.behind;
}

pub spending_low : (k : ℕ) (s : State) (go : State → Step) → ((l : ℕ) → k ≡ suc l → Low (go (stepped l s))) →
    Low (spending k s (Over ending.Steps s) go)
spending_low zero s go f = over
spending_low (suc l) s go f = f l refl

pub one_less : {k l : ℕ} → k ≡ suc l → l ≤ k
one_less e = omega (arith, e)

-- lists of tasks
pub each_onto : (is : Task → Type 0) (xs ts : List Task) → EachTask is xs → EachTask is ts → EachTask is (onto xs ts)
each_onto is [] ts a b = b
each_onto is (x ∷ xs) ts a b = each_onto is xs (x ∷ ts) a.1 (a.0, b)

each_more : (is : Task → Type 0) (xs ts : List Task) → EachTask is xs → EachTask is ts → EachTask is (xs ++ ts)
each_more is [] ts a b = b
each_more is (x ∷ xs) ts a b = (a.0, each_more is xs ts a.1 b)

each_inserted : (is : Task → Type 0) (t : Task) (ts : List Task) → is t → EachTask is ts → EachTask is (inserted t ts)
each_inserted is t [] a b = (a, tt)
each_inserted is t (x ∷ xs) a b =
    cond_both (starts t.thread.who.path x.thread.who.path) (x ∷ inserted t xs) (t ∷ x ∷ xs) (EachTask is) (λ e. (
      b.0,
      each_inserted is t xs
          a b.1,
    )) (λ e. (a, b))

each_without : (is : Task → Type 0) (f : List ℕ → Bool) (ts : List Task) → EachTask is ts → EachTask is (without f ts)
each_without is f [] a = tt
each_without is f (t ∷ ts) a =
    cond_both (f t.thread.who.path) (without f ts) (t ∷ without f ts) (EachTask is) (λ e. each_without is f ts a.1) (λ e. (
      a.0,
      each_without
          is f ts a.1,
    ))

each_gone_before : (is was : Task → Type 0) (f : List ℕ → Bool) → ((t : Task) → f t.thread.who.path ≡ true → was t → is t) →
    (ts : List Task) → EachTask was ts → EachTask is (gone_before f ts)
each_gone_before is was f go [] a = tt
each_gone_before is was f go (t ∷ ts) a =
    cond_both (f t.thread.who.path) (inserted t (gone_before f ts)) (gone_before f ts) (EachTask is) (λ e. each_inserted is t (gone_before f
    ts) (go t e a.0) (each_gone_before is was f go ts a.1)) (λ e. each_gone_before is was f go ts a.1)

each_gone_behind : (is was : Task → Type 0) (f : List ℕ → Bool) → ((t : Task) → f t.thread.who.path ≡ true → was t → is t) →
    (ts : List Task) → EachTask was ts → EachTask is (gone_behind f ts)
each_gone_behind is was f go [] a = tt
each_gone_behind is was f go (t ∷ ts) a =
    cond_both (f t.thread.who.path) (t ∷ gone_behind f ts) (gone_behind f ts) (EachTask is) (λ e. (
      go t e a.0,
      each_gone_behind is was f go
          ts a.1,
    )) (λ e. each_gone_behind is was f go ts a.1)

each_cancelled : (is was : Task → Type 0) (f : List ℕ → Bool) → ((t : Task) → f t.thread.who.path ≡ true → was t → is t) → (o : World) →
    EachTask was o.pre → EachTask was o.post → EachTask is (cancelled f o)
each_cancelled is was f go o a b =
    each_more is (gone_before f o.pre) (gone_behind f o.post) (each_gone_before is was f go o.pre a) (each_gone_behind is was f go o.post b)

pub others_without : {left : ℕ} {pre post : List Task} {trees : Trees} (f : List ℕ → Bool) → Others left pre post trees →
    Others left (without f pre) (without f post) trees
others_without {pre = pre} {post = post} f o = record {
  pre_still = each_without (λ t. Still t.thread) f pre o.pre_still;
  post_still = each_without (λ t. Still t.thread) f post o.post_still;
  before = o.before;
  behind = o.behind;
}

trees_joined : (left : ℕ) (xs ts : Forest) → TreesRooted left xs → TreesRooted left ts → TreesRooted left (xs ++ ts)
trees_joined left [] ts a b = b
trees_joined left (x ∷ xs) ts a b = (a.0, a.1, trees_joined left xs ts a.2 b)

-- frames
pub reborn : (n : ℕ) (g h : Life) (hs ks : List Handler) (fs : List Frame) →
    (HandlersBorn g.born hs → (h.born ≡ g.born) × HandlersBorn g.born ks) → Born n g hs fs → Born n h ks fs
reborn n g h hs ks [] f b = (both.0 ∙ b.0, subst (λ i. HandlersBorn i ks) b.0 both.1)
  where
    both : (h.born ≡ g.born) × HandlersBorn g.born ks
    both = f (subst (λ i. HandlersBorn i hs) (sym b.0) b.1)
reborn n g h hs ks (k ∷ fs) f b = b

pub closed_free : (hs : List Handler) (ns : List Note) (fs : List Frame) → free hs ns fs ≡ true → Closed fs
closed_free (h ∷ hs) ns fs e = no_both (sym e)
closed_free [] (y ∷ ns) fs e = no_both (sym e)
closed_free [] [] [] e = tt
closed_free [] [] (f ∷ fs) e = (no_handlers f.handlers e, closed_free f.handlers f.life.noted fs e)
  where
    no_handlers : (hs : List Handler) → free hs f.life.noted fs ≡ true → hs ≡ []
    no_handlers [] e = refl
    no_handlers (h ∷ hs) e = no_both (sym e)

-- a task with a frame that is being cancelled is not suspended
pub not_free : (g : Life) (hs : List Handler) (fs : List Frame) (ns : List Note) → g.noted ≡ ns → free hs ns fs ≡ true →
    Marked g hs fs → ⊥
not_free g (h ∷ hs) fs ns same e m = no_both (sym e)
not_free g [] fs (y ∷ ns) same e m = no_both (sym e)
not_free g [] [] [] same e (marked a b c) = elim (subst HasGone same a) [ ]
not_free g [] (f ∷ fs) [] same e (marked a b c) = elim (subst HasGone same a) [ ]
not_free g [] (f ∷ fs) [] same e (marked_below m) = not_free f.life f.handlers fs f.life.noted refl e m

pub not_clearing : {w : Who} {us : List Up} {g : Life} {hs : List Handler} {fs : List Frame} → Framed w us g hs fs →
    free hs g.noted fs ≡ true → is_clearing us ≡ false
not_clearing {us = us} {g = g} {hs = hs} {fs = fs} f e = by_answer (is_clearing us) refl
  where
    by_answer : (b : Bool) → is_clearing us ≡ b → b ≡ false
    by_answer false same = refl
    by_answer true same = elim (not_free g hs fs g.noted refl e (f.mark same)) [ ]

pub follow_clear : (w : Who) (us : List Up) → Follow w us → is_clearing us ≡ false
follow_clear w [] e = refl
follow_clear w (begins y k p gs number ls ∷ us) e = refl
follow_clear w (branching y ∷ us) e = refl
follow_clear w (spawning y entry ps qs ∷ us) e = refl
follow_clear w (clearing after ts ∷ us) e = elim e [ ]

pub framed_still : {x : Thread} (us : List Up) → Still x → is_clearing us ≡ false →
    Framed x.who us x.frame.life x.frame.handlers x.below
framed_still us i e = record { born = i.born; mark = λ h. no_both (sym h ∙ e) }

-- a task runs that is not cancelled
pub record Runs (left : ℕ) (w : Who) (pre post : List Task) (us : List Up) (trees : Trees) : Type 0 where
  pub list : Rooted left (line pre (w ∷ chain us ++ whos post))
  pub follow : Follow w us
  pub ups : UpsRooted left us
  pub others : Others left pre post trees

pub runs_of : {left : ℕ} {w : Who} {pre post : List Task} {us : List Up} {trees : Trees} → is_clearing us ≡ false →
    Tree left pre post w us → Others left pre post trees → Runs left w pre post us trees
runs_of e (running r f u) o = record { list = r; follow = f; ups = u; others = o }
runs_of e (before_resuming b bs st f t) o = no_both e
runs_of e (before_closing b bs st l) o = no_both e
runs_of e (before_finishing b bs st l) o = no_both e

pub runs_world : {left : ℕ} {w : Who} {pre post : List Task} {us : List Up} {trees : Trees} → Runs left w pre post us trees →
    WorldRooted left w (world pre post us trees)
runs_world r = world_of (running r.list r.follow r.ups) r.others

pub resumes_low : (x : Thread) (v : Val) (o : World) (s : State) → Framed x.who o.ups x.frame.life x.frame.handlers x.below →
    WorldRooted s.clock.left x.who o → Low (resumes x v o s)
resumes_low x v o s f r = record { holds = record { frames = f; world = r } }

pub still_resumes : (x : Thread) (v : Val) (pre post : List Task) (us : List Up) (trees : Trees) (s : State) → Still x →
    Runs s.clock.left x.who pre post us trees → Low (resumes x v (world pre post us trees) s)
still_resumes x v pre post us trees s i r =
    resumes_low x v (world pre post us trees) s (framed_still us i (follow_clear x.who us r.follow)) (runs_world r)

-- cancelling: the frames below one that is being cancelled
pub data Down : List Frame → Type 0 where
  down_closed : {fs : List Frame} → Closed fs → Down fs
  down_marked : {f : Frame} {fs : List Frame} → Marked f.life f.handlers fs → Down (f ∷ fs)

abbrev pub Falls : List Frame → Type 0
Falls [] = Unit {0}
Falls (f ∷ fs) = Down fs

abbrev pub BornIn : ℕ → List Frame → Type 0
BornIn n [] = Unit {0}
BornIn n (f ∷ fs) = Born n f.life f.handlers fs

down_mark : {g : Life} {fs : List Frame} → HasGone g.noted → Down fs → Marked g [] fs
down_mark h (down_closed c) = marked h tt c
down_mark h (down_marked m) = marked_below m

down_falls : (fs : List Frame) → Down fs → Falls fs
down_falls [] d = tt
down_falls (f ∷ fs) (down_closed c) = down_closed c.1
down_falls (f ∷ fs) (down_marked (marked a b c)) = down_closed c
down_falls (f ∷ fs) (down_marked (marked_below m)) = down_marked m

born_falls : (n : ℕ) (g : Life) (hs : List Handler) (fs : List Frame) → Born n g hs fs → BornIn n fs
born_falls n g hs [] b = tt
born_falls n g hs (f ∷ fs) b = b

deferred_low : (rest : Step) (w : Who) (o : World) (s : State) (f : Frame) (fs : List Frame) (ds : List ℕ) → Born w.number f.life
    f.handlers fs → (is_clearing o.ups ≡ true → Down fs) → WorldRooted s.clock.left w o → Low rest →
    Low (on_deferred ds rest (λ q ds. clears_frame w o s f fs q ds))
deferred_low rest w o s f fs [] b d r l = l
deferred_low rest w o s f fs (q ∷ ds) b d r l = spending_low s.clock.left s _ (λ k e. record {
  holds = record {
    frames = record { born = reborn w.number f.life _ f.handlers [] fs (λ h. (refl, tt)) b; mark = λ h. down_mark first_gone (d h) };
    world = world_less (one_less e) r;
  };
})

pub frames_low : (next : State → Step) (w : Who) (o : World) (s : State) (fs : List Frame) → BornIn w.number fs →
    (is_clearing o.ups ≡ true → Falls fs) → WorldRooted s.clock.left w o → Low (next s) → Low (clears_frames next w o s fs)
frames_low next w o s [] b d r l = l
frames_low next w o s (f ∷ fs) b d r l =
    deferred_low (clears_frames next w o s fs) w o s f fs f.life.defers b d r
    (frames_low next w o s fs (born_falls w.number f.life f.handlers fs b) (λ e. down_falls fs (d e)) r l)

-- what goes on where all is cancelled
pub data Ready (left : ℕ) (pre post : List Task) (us : List Up) : After → Type 0 where
  ready_resuming : {y : Thread} {v : Val} → Framed y.who us y.frame.life y.frame.handlers y.below → Tree left pre post y.who us →
      Ready left pre post us (resuming y v)
  ready_closing : {w : Who} {v : Val} → Leaving left pre post us w → Ready left pre post us (closing w v)
  ready_finishing : {w : Who} {entry : Option ℕ} {v : Val} → Leaving left pre post us w → Ready left pre post us (finishing w entry v)

abbrev pub path_of : After → List ℕ
path_of (resuming y v) = y.who.path
path_of (closing w v) = w.path
path_of (finishing w entry v) = w.path

ready_tree : {left : ℕ} {pre post : List Task} {us : List Up} {after : After} (w : Who) (ts : List Task) → Ready left pre post us after →
    Beneath (path_of after) w.path → AllBeneath (path_of after) ts → AllStill ts → Tree left pre post w (clearing after ts ∷ us)
ready_tree w ts (ready_resuming f t) b bs st = before_resuming b bs st f t
ready_tree w ts (ready_closing l) b bs st = before_closing b bs st l
ready_tree w ts (ready_finishing l) b bs st = before_finishing b bs st l

abbrev pub Follows : (World → State → Step) → After → Type 0
Follows last after = (o : World) (s : State) → Ready s.clock.left o.pre o.post o.ups after → Others s.clock.left o.pre o.post o.trees →
    Low (last o s)

pub clears_low : (last : World → State → Step) (after : After) (ts : List Task) (o : World) (s : State) → Follows last after →
    Ready s.clock.left o.pre o.post o.ups after → Others s.clock.left o.pre o.post o.trees → AllBeneath (path_of after) ts → AllStill ts →
    Low (clears last after ts o s)
clears_low last after [] o s go r i bs st = go o s r i
clears_low last after (t ∷ ts) o s go r i bs st =
    frames_low (λ s. clears last after ts o s) t.thread.who (world o.pre o.post (clearing after ts ∷ o.ups) o.trees) s (t.thread.frame ∷
    t.thread.below) st.0.born (λ e. down_closed (closed_free t.thread.frame.handlers t.thread.frame.life.noted t.thread.below st.0.free))
    (world_of (ready_tree t.thread.who ts r bs.0 bs.1 st.1) i) (clears_low last after ts o s go r i bs.1 st.1)

leaving_without : {a : List ℕ} {f : List ℕ → Bool} {left : ℕ} {pre post : List Task} {us : List Up} {w : Who} → Takes a f →
    length w.path ≤ length a → Leaving left pre post us w → Leaving left (without f pre) (without f post) us w
leaving_without {f = f} {left = left} {pre = pre} {post = post} {us = us} {w = w} takes h l = record {
  others = (keeps_line takes left pre (keeps_chain takes left w us h l.follow (keeps_whos takes left post))).rooted l.others;
  own = (keeps_one w (stays takes left w.path h) (keeps_chain takes left w us h l.follow (keeps_whos takes left post))).rooted l.own;
  follow = l.follow;
  ups = l.ups;
}

pub tree_without : {a : List ℕ} {f : List ℕ → Bool} {left : ℕ} {pre post : List Task} {w : Who} {us : List Up} → Takes a f →
    length w.path ≤ length a → Tree left pre post w us → Tree left (without f pre) (without f post) w us
tree_without {f = f} {left = left} {pre = pre} {post = post} takes h (running {w = w} {us = us} r e u) =
    running ((keeps_line takes left pre (keeps_one w (stays takes left w.path h) (keeps_chain takes left w us h e (keeps_whos takes left
    post)))).rooted r) e u
tree_without {a = a} takes h (before_resuming {w = w} {y = y} b bs st f t) =
    before_resuming b bs st f (tree_without takes (shorter (length y.who.path) (length w.path) (length a) h (longer b)) t)
  where
    shorter : (i j k : ℕ) → j ≤ k → i < j → i ≤ k
    shorter i j k l e = omega (arith, l, e)
tree_without {a = a} takes h (before_closing {w = w} {x = x} b bs st l) =
    before_closing b bs st (leaving_without takes (shorter (length x.path) (length w.path) (length a) h (longer b)) l)
  where
    shorter : (i j k : ℕ) → j ≤ k → i < j → i ≤ k
    shorter i j k l e = omega (arith, l, e)
tree_without {a = a} takes h (before_finishing {w = w} {x = x} b bs st l) =
    before_finishing b bs st (leaving_without takes (shorter (length x.path) (length w.path) (length a) h (longer b)) l)
  where
    shorter : (i j k : ℕ) → j ≤ k → i < j → i ≤ k
    shorter i j k l e = omega (arith, l, e)

pub cancels_low : (last : World → State → Step) (after : After) (f : List ℕ → Bool) (o : World) (s : State) →
    Follows last after → Takes (path_of after) f → Ready s.clock.left (without f o.pre) (without f o.post) o.ups after →
    Others s.clock.left o.pre o.post o.trees → Low (cancels last after f o s)
cancels_low last after f o s go takes r i =
    clears_low last after (cancelled f o) (world_without f o) s go r (others_without f i) (each_cancelled (λ t. Beneath (path_of after)
    t.thread.who.path) (λ t. Still t.thread) f (λ t e is. takes.deeper t.thread.who.path e) o i.pre_still i.post_still) (each_cancelled (λ
    t. Still t.thread) (λ t. Still t.thread) f (λ t e is. is) o i.pre_still i.post_still)

resuming_low : (x : Thread) (v : Val) → Follows (λ o s. resumes x v o s) (resuming x v)
resuming_low x v o s (ready_resuming f t) i = resumes_low x v o s f (world_of t i)

same_length : (n : ℕ) → n ≤ n
same_length n = omega arith

-- a task goes on when others beneath it are cancelled
pub cancels_resuming : (x : Thread) (v : Val) (f : List ℕ → Bool) (o : World) (s : State) → Takes x.who.path f →
    Framed x.who o.ups x.frame.life x.frame.handlers x.below → WorldRooted s.clock.left x.who o →
    Low (cancels (λ o s. resumes x v o s) (resuming x v) f o s)
cancels_resuming x v f o s takes fr r =
    cancels_low (λ o s. resumes x v o s) (resuming x v) f o s (resuming_low x v) takes (ready_resuming fr (tree_without
    takes (same_length (length x.who.path)) r.tree)) (others_of r)

-- groups
tupled_low : (p : Place) (a : Answer Val) (x : Thread) (pre post : List Task) (us : List Up) (trees : Trees) (s : State) → Still x →
    Runs s.clock.left x.who pre post us trees → Low (tupled p a x (world pre post us trees) s)
tupled_low p (gives v) x pre post us trees s i r = still_resumes x v pre post us trees s i r
tupled_low p fails x pre post us trees s i r = over
tupled_low p (error k) x pre post us trees s i r = over
tupled_low p stuck x pre post us trees s i r = over

stands_low : {A : Type 0} (m : Option A) (q : Step) (go : A → Step) → Low q → ((x : A) → Low (go x)) → Low (or_stands m q go)
stands_low None q go l f = l
stands_low (Some x) q go l f = f x

pub grouped_low : (k : Kind) (p : Place) (gs : List Part) (x : Thread) (pre post : List Task) (us : List Up) (trees : Trees) (s : State)
    (stands : Task → Step) → Still x → Runs s.clock.left x.who pre post us trees →
    ((r : Rest) → Low (stands (record { thread = x; rest = r }))) → Low (grouped k p gs x (world pre post us trees) s stands)
grouped_low sync p gs x pre post us trees s stands i r f =
    stands_low (all_did gs) _ _ (f (group sync p gs)) (λ vs. tupled_low p (tuple_of vs) x pre post us trees s i r)
grouped_low race p gs x pre post us trees s stands i r f = stands_low (first_did gs) _ _ (f (group race p gs)) (λ v.
    cancels_resuming x v (beneath_arms x.who.path gs) (world pre post us trees) s (arms_takes x.who.path gs)
    (framed_still us i (follow_clear x.who us r.follow)) (runs_world r))
grouped_low rush p gs x pre post us trees s stands i r f =
    stands_low (first_did gs) _ _ (f (group rush p gs)) (λ v. still_resumes x v pre post us trees s i r)

-- one more task begins before its parent
pub child_stands : {left less : ℕ} (pre : List Task) (x : Who) (ws : List Who) → left ≡ suc less → Rooted left (line pre (x ∷ ws)) →
    Rooted less (line pre (child_named x less ∷ x ∷ ws))
child_stands {left = left} {less = less} pre x ws e r = (line_more pre one).rooted all
  where
    all : Rooted less (line pre (x ∷ ws))
    all = rooted_less (one_less e) r

    older : less < x.number
    older = above left less x.number e (rooted_number (line_tail pre r))
      where
        above : (i j k : ℕ) → i ≡ suc j → i ≤ k → j < k
        above i j k e l = omega (arith, e, l)

    one : More less (x ∷ ws) (child_named x less ∷ x ∷ ws)
    one = record {
      rooted = λ h. rooted_part refl refl (same_length less) (here refl older) h;
      parents = λ up n h. later h;
    }

pub child_runs : {left less : ℕ} {pre post : List Task} {us : List Up} {trees : Trees} (x : Thread) (u : Up) → left ≡ suc less →
    ((ws : List Who) → chain (u ∷ us) ++ ws ≡ x.who ∷ chain us ++ ws) → Follow (child_named x.who less) (u ∷ us) →
    UpsRooted less (u ∷ us) → Runs left x.who pre post us trees → Runs less (child_named x.who less) pre post (u ∷ us) trees
child_runs {less = less} {pre = pre} {post = post} {us = us} x u e same f ups r = record {
  list = subst (λ ws. Rooted less (line pre (child_named x.who less ∷ ws))) (sym (same (whos post))) (child_stands pre x.who (chain us ++
      whos post) e r.list);
  follow = f;
  ups = ups;
  others = others_less (one_less e) r.others;
}

child_of : (w : Who) (n : ℕ) → Beneath w.path (child_named w n).path
child_of w n = child_beneath w.path n

pub next_low : (k : Kind) (p : Place) (gs : List Part) (ls : List ℕ) (x : Thread) (pre post : List Task) (us : List Up) (trees : Trees)
    (s : State) (stands : Task → Step) → Still x → Runs s.clock.left x.who pre post us trees →
    ((r : Rest) → Low (stands (record { thread = x; rest = r }))) → Low (next_arm k p gs ls x pre post us trees s stands)
next_low k p gs [] x pre post us trees s stands i r f = grouped_low k p gs x pre post us trees s stands i r f
next_low k p gs (l ∷ ls) x pre post us trees s stands i r f = spending_low s.clock.left s _ (λ m e. record {
  holds = record {
    frames = record { born = (refl, tt); mark = λ h. no_both (sym h) };
    world = runs_world (child_runs x (begins x k p gs m ls) e (λ ws. refl) (refl, child_of x.who m, r.follow) (
      i,
      ups_less us (one_less e)
          r.ups,
    ) r);
  };
})

did_low : (k : Kind) (p : Place) (gs : List Part) (ls : List ℕ) (x : Thread) (pre post : List Task) (us : List Up) (trees : Trees)
    (s : State) (stands : Task → Step) → Still x → Runs s.clock.left x.who pre post us trees →
    ((r : Rest) → Low (stands (record { thread = x; rest = r }))) → Low (arm_did k p gs ls x pre post us trees s stands)
did_low sync p gs ls x pre post us trees s stands i r f = next_low sync p gs ls x pre post us trees s stands i r f
did_low race p gs ls x pre post us trees s stands i r f = grouped_low race p gs x pre post us trees s stands i r f
did_low rush p gs ls x pre post us trees s stands i r f = next_low rush p gs ls x pre post us trees s stands i r f

-- no task runs
turn_low : (pre post : List Task) (trees : Trees) (s : State) → Rooted s.clock.left (line pre (whos post)) →
    Others s.clock.left pre post trees → Low (Turn s (among (onto pre post) trees))
turn_low pre post trees s r i = record {
  holds = trees_joined s.clock.left trees.before (onto pre post ∷ trees.behind) i.before (
    subst (Rooted s.clock.left) (sym (onto_line pre post)) r,
    each_onto (λ t. Still t.thread) pre post i.pre_still i.post_still,
    i.behind,
  );
}

-- the task that ran stands among the others, or has gone
pub record Rested (left : ℕ) (w : Who) (pre post : List Task) (us : List Up) (trees : Trees) : Type 0 where
  pub list : Rooted left (line pre (chain us ++ whos post))
  pub follow : Follow w us
  pub ups : UpsRooted left us
  pub others : Others left pre post trees

one_rests : {left : ℕ} {pre post : List Task} {us : List Up} {trees : Trees} (x : Thread) (r : Rest) → Still x →
    Runs left x.who pre post us trees → Rested left x.who (record { thread = x; rest = r } ∷ pre) post us trees
one_rests x r i q = record {
  list = q.list;
  follow = q.follow;
  ups = q.ups;
  others = record {
    pre_still = (i, q.others.pre_still);
    post_still = q.others.post_still;
    before = q.others.before;
    behind = q.others.behind;
  };
}

pub rested_low : (w : Who) (us : List Up) (pre post : List Task) (trees : Trees) (s : State) → Rested s.clock.left w pre post us trees →
    Low (rested pre post us trees s)
rested_low w [] pre post trees s r = turn_low pre post trees s r.list r.others
rested_low w (begins x k p gs m ls ∷ us) pre post trees s r =
    next_low k p (gs ++ runs m ∷ []) ls x pre post us trees s (λ y. rested (y ∷ pre) post us trees s) r.ups.0 runs_now (λ q. rested_low
    x.who us (record { thread = x; rest = q } ∷ pre) post trees s (one_rests x q r.ups.0 runs_now))
  where
    runs_now : Runs s.clock.left x.who pre post us trees
    runs_now = record { list = r.list; follow = r.follow.2; ups = r.ups.1; others = r.others }
rested_low w (branching x ∷ us) pre post trees s r =
    still_resumes x unit pre post us trees s r.ups.0 (record { list = r.list; follow = r.follow.2; ups = r.ups.1; others = r.others })
rested_low w (spawning x entry ps qs ∷ us) pre post trees s r =
    still_resumes x (task entry) ps qs us (planted trees (onto pre post)) s r.ups.0 (record {
      list = r.ups.2.0;
      follow = r.ups.2.1;
      ups = r.ups.3;
      others = record {
        pre_still = r.ups.1.0;
        post_still = r.ups.1.1;
        before = r.others.before;
        behind = trees_joined s.clock.left trees.behind (onto pre post ∷ []) r.others.behind (
          subst (Rooted s.clock.left) (sym (onto_line pre post))
              r.list,
          each_onto (λ t. Still t.thread) pre post r.others.pre_still r.others.post_still,
          tt,
        );
      };
    })
rested_low w (clearing after ts ∷ us) pre post trees s r = over

pub suspends_low : (c : Cause) (x : Thread) (pre post : List Task) (us : List Up) (trees : Trees) (s : State) → Still x →
    Runs s.clock.left x.who pre post us trees → Low (suspends c x (world pre post us trees) s)
suspends_low c x pre post us trees s i r =
    rested_low x.who us (record { thread = x; rest = asleep (waiting c s) } ∷ pre) post trees (drawn s) (one_rests x (asleep
    (waiting c s)) i r)

-- the end of a task
pub joined_low : (number : ℕ) (v : Val) (q : Rest) (y : Task) (pre post : List Task) (trees : Trees) (s : State) → Still y.thread →
    Rooted s.clock.left (line pre (y.thread.who ∷ whos post)) → Others s.clock.left pre post trees → Low (joined number v q y pre post
    trees s)
joined_low m v (asleep x) y pre post trees s i r o = turn_low pre (y ∷ post) trees s r (record {
  pre_still = o.pre_still;
  post_still = (i, o.post_still);
  before = o.before;
  behind = o.behind;
})
joined_low m v (group k p gs) y pre post trees s i r o = cond_both (is_run m gs) _ _ Low (λ e. grouped_low k p (with_did m v gs) y.thread
    pre post [] trees s (λ y. rested (y ∷ pre) post [] trees s) i runs_now (λ q. rested_low y.thread.who [] (record {
      thread = y.thread;
      rest = q;
    } ∷ pre) post trees s (one_rests y.thread q i runs_now))) (λ e. turn_low pre (y ∷ post) trees s r (record {
      pre_still = o.pre_still;
      post_still = (i, o.post_still);
      before = o.before;
      behind = o.behind;
    }))
  where
    runs_now : Runs s.clock.left y.thread.who pre post [] trees
    runs_now = record { list = r; follow = tt; ups = tt; others = o }

climbs_low : (up : List ℕ) (number : ℕ) (v : Val) (pre post : List Task) (trees : Trees) (s : State) →
    Rooted s.clock.left (line pre (whos post)) → Others s.clock.left pre post trees → Low (climbs up number v pre post trees s)
climbs_low up m v pre [] trees s r o = over
climbs_low up m v pre (y ∷ post) trees s r o = cond_both (same_path up y.thread.who.path) _ _ Low (λ e. joined_low m v y.rest y pre post
    trees s o.post_still.0 r (record {
      pre_still = o.pre_still;
      post_still = o.post_still.1;
      before = o.before;
      behind = o.behind;
    })) (λ e. climbs_low up m v (y ∷ pre) post trees s r (record {
      pre_still = (o.post_still.0, o.pre_still);
      post_still = o.post_still.1;
      before = o.before;
      behind = o.behind;
    }))

part_low : (us : List Up) (w : Who) (up : List ℕ) (number : ℕ) (v : Val) (pre post : List Task) (trees : Trees) (s : State) →
    Leaving s.clock.left pre post us w → Others s.clock.left pre post trees → Low (part_ends up number v pre post us trees s)
part_low [] w up m v pre post trees s l o = climbs_low up m v pre post trees s l.others o
part_low (begins x k p gs j ls ∷ us) w up m v pre post trees s l o =
    did_low k p (gs ++ did v ∷ []) ls x pre post us trees s (λ y. rested (y ∷ pre) post us trees s) l.ups.0 runs_now (λ q. rested_low x.who
    us (record { thread = x; rest = q } ∷ pre) post trees s (one_rests x q l.ups.0 runs_now))
  where
    runs_now : Runs s.clock.left x.who pre post us trees
    runs_now = record { list = l.others; follow = l.follow.2; ups = l.ups.1; others = o }
part_low (branching x ∷ us) w up m v pre post trees s l o =
    still_resumes x unit pre post us trees s l.ups.0 (record { list = l.others; follow = l.follow.2; ups = l.ups.1; others = o })
part_low (spawning x entry ps qs ∷ us) w up m v pre post trees s l o = over
part_low (clearing after ts ∷ us) w up m v pre post trees s l o = over

root_low : (us : List Up) (w : Who) (pre post : List Task) (trees : Trees) (s : State) → Leaving s.clock.left pre post us w →
    Others s.clock.left pre post trees → Low (root_ends pre post us trees s)
root_low [] w pre post trees s l o = turn_low pre post trees s l.others o
root_low (spawning x entry ps qs ∷ us) w pre post trees s l o = still_resumes x (task entry) ps qs us trees s l.ups.0 (record {
  list = l.ups.2.0;
  follow = l.ups.2.1;
  ups = l.ups.3;
  others = record { pre_still = l.ups.1.0; post_still = l.ups.1.1; before = o.before; behind = o.behind };
})
root_low (begins x k p gs m ls ∷ us) w pre post trees s l o = over
root_low (branching x ∷ us) w pre post trees s l o = over
root_low (clearing after ts ∷ us) w pre post trees s l o = over

role_low : (r : Role) (w : Who) (v : Val) (o : World) (s : State) → Leaving s.clock.left o.pre o.post o.ups w →
    Others s.clock.left o.pre o.post o.trees → Low (role_ends r w v o s)
role_low (root entry) w v o s l i = root_low o.ups w o.pre o.post o.trees s l i
role_low part w v o s l i = part_low o.ups w w.up w.number v o.pre o.post o.trees s l i

-- all that a task has begun is cancelled, so it can leave
pub leaves_tree : {left : ℕ} {w : Who} {pre post : List Task} {us : List Up} {trees : Trees} (born : ℕ) → born ≡ w.number →
    Runs left w pre post us trees → Leaving left (without (since w.path born) pre) (without (since w.path born) post) us w
leaves_tree {left = left} {w = w} {pre = pre} {post = post} {us = us} born e r = record {
  others = (keeps_line takes left pre (keeps_off w (λ n l. since_child w.path born n (subst (λ m. n < m) (sym e) l)) chained)).rooted
      r.list;
  own = (keeps_one w (stays takes left w.path (same_length (length w.path))) chained).rooted (line_tail pre r.list);
  follow = r.follow;
  ups = r.ups;
}
  where
    takes : Takes w.path (since w.path born)
    takes = since_takes w.path born

    chained : Keeps (since w.path born) left (chain us ++ whos post) (chain us ++ whos (without (since w.path born) post))
    chained = keeps_chain takes left w us (same_length (length w.path)) r.follow (keeps_whos takes left post)

ends_role_low : (r : Role) (w : Who) (pre post : List Task) (us : List Up) (trees : Trees) (born : ℕ) (v : Val) (s : State) →
    born ≡ w.number → Runs s.clock.left w pre post us trees → Low (ends_role r w (world pre post us trees) born v s)
ends_role_low (root entry) w pre post us trees born v s e r = over
ends_role_low part w pre post us trees born v s e r =
    cancels_low (λ o s. role_ends part w v o s) (closing w v) (since w.path born) (world pre post us trees) s closing_low
    (since_takes w.path born) (ready_closing (leaves_tree born e r)) r.others
  where
    closing_low : Follows (λ o s. role_ends part w v o s) (closing w v)
    closing_low o s (ready_closing l) i = role_low part w v o s l i

-- where nothing is noted, the first frame of a task that runs is not being cancelled
clean_runs : {w : Who} {o : World} {g : Life} (left : ℕ) → Framed w o.ups g [] [] → g.noted ≡ [] → WorldRooted left w o →
    Runs left w o.pre o.post o.ups o.trees
clean_runs left f clean r =
    runs_of (not_clearing f (subst (λ ns. free [] ns [] ≡ true) (sym clean) refl)) r.tree (others_of r)

pub ends_low : (w : Who) (o : World) (g : Life) (v : Val) (s : State) (hs : List Handler) (bl : List Frame) → Framed w o.ups g hs bl →
    g.noted ≡ [] → WorldRooted s.clock.left w o → Low (ends w o g.born v s hs bl)
ends_low w o g v s (h ∷ hs) bl f clean r = over
ends_low w o g v s [] (k ∷ bl) f clean r = over
ends_low w o g v s [] [] f clean r =
    ends_role_low w.role w o.pre o.post o.ups o.trees g.born v s f.born.0 (clean_runs s.clock.left f clean r)

finishing_low : (w : Who) (entry : Option ℕ) (v : Val) → Follows (λ o s. role_ends (root entry) w v o (with_result entry v s))
    (finishing w entry v)
finishing_low w entry v o s (ready_finishing l) i =
    role_low (root entry) w v o (with_result entry v s) (subst (λ n. Leaving n o.pre o.post o.ups w) (sym (result_left entry v s)) l) (subst
    (λ n. Others n o.pre o.post o.trees) (sym (result_left entry v s)) i)

returns_role_low : (r : Role) (w : Who) (pre post : List Task) (us : List Up) (trees : Trees) (born : ℕ) (v : Val) (s : State) →
    born ≡ w.number → Runs s.clock.left w pre post us trees → Low (returns_role r w (world pre post us trees) born v s)
returns_role_low (root entry) w pre post us trees born v s e r =
    cancels_low (λ o s. role_ends (root entry) w v o (with_result entry v s)) (finishing w entry v) (since w.path born) (world
    pre post us trees) s (finishing_low w entry v) (since_takes w.path born) (ready_finishing (leaves_tree born e r)) r.others
returns_role_low part w pre post us trees born v s e r = over

pub returns_low : (w : Who) (o : World) (g : Life) (v : Val) (s : State) (hs : List Handler) (bl : List Frame) → Framed w o.ups g hs bl →
    g.noted ≡ [] → WorldRooted s.clock.left w o → Low (returns w o g.born v s hs bl)
returns_low w o g v s (h ∷ hs) bl f clean r = over
returns_low w o g v s [] [] f clean r =
    returns_role_low w.role w o.pre o.post o.ups o.trees g.born v s f.born.0 (clean_runs s.clock.left f clean r)
returns_low w o g v s [] (k ∷ bl) f clean r =
    cancels_resuming (thread w k bl) v (since w.path g.born) o s (since_takes w.path g.born) (record {
      born = f.born;
      mark = λ e. below (f.mark e);
    }) r
  where
    below : Marked g [] (k ∷ bl) → Marked k.life k.handlers bl
    below (marked a b c) = elim (subst HasGone clean a) [ ]
    below (marked_below m) = m

-- what follows where all is cancelled
follows_low : (after : After) → Follows (follows after) after
follows_low (resuming x v) o s r i = resuming_low x v o s r i
follows_low (closing w v) o s (ready_closing l) i = role_low w.role w v o s l i
follows_low (finishing w entry v) o s r i = finishing_low w entry v o s r i

pub cleared_low : {w : Who} (us : List Up) (pre post : List Task) (trees : Trees) (s : State) → Tree s.clock.left pre post w us →
    Others s.clock.left pre post trees → Low (cleared us pre post trees s)
cleared_low us pre post trees s (running {w = w} r e u) o = by_ups us e
  where
    by_ups : (us : List Up) → Follow w us → Low (cleared us pre post trees s)
    by_ups [] e = over
    by_ups (begins x k p gs m ls ∷ us) e = over
    by_ups (branching x ∷ us) e = over
    by_ups (spawning x entry ps qs ∷ us) e = over
    by_ups (clearing after ts ∷ us) e = elim e [ ]
cleared_low _ pre post trees s (before_resuming {y = y} {v = v} {ts = ts} {us = us} b bs st f t) o =
    clears_low (follows (resuming y v)) (resuming y v) ts (world pre post us trees) s (follows_low (resuming y v)) (ready_resuming f t) o bs
    st
cleared_low _ pre post trees s (before_closing {x = x} {v = v} {ts = ts} {us = us} b bs st l) o =
    clears_low (follows (closing x v)) (closing x v) ts (world pre post us trees) s (follows_low (closing x v)) (ready_closing l) o bs st
cleared_low _ pre post trees s (before_finishing {x = x} {entry = entry} {v = v} {ts = ts} {us = us} b bs st l) o =
    clears_low (follows (finishing x entry v)) (finishing x entry v) ts (world pre post us trees) s (follows_low (finishing x entry v))
    (ready_finishing l) o bs st

-- a wait is woken
woken_low : (m : ℕ) (v : Val) (pre post : List Task) (trees : Trees) (s : State) → Rooted s.clock.left (line pre (whos post)) →
    Others s.clock.left pre post trees → Low (woken m v pre post trees s)
woken_low m v pre [] trees s r o = over
woken_low m v pre (y ∷ post) trees s r o = cond_both (is_asleep m y.rest) _ _ Low (λ e. still_resumes y.thread v pre post [] trees s
    o.post_still.0 (record {
      list = r;
      follow = tt;
      ups = tt;
      others = record { pre_still = o.pre_still; post_still = o.post_still.1; before = o.before; behind = o.behind };
    })) (λ e. woken_low m v (y ∷ pre) post trees s r (record {
      pre_still = (o.post_still.0, o.pre_still);
      post_still = o.post_still.1;
      before = o.before;
      behind = o.behind;
    }))

pub woken_in_low : (m : ℕ) (v : Val) (before behind : List (List Task)) (s : State) → TreesRooted s.clock.left before →
    TreesRooted s.clock.left behind → Low (woken_in m v before behind s)
woken_in_low m v before [] s a b = over
woken_in_low m v before (ts ∷ behind) s a b = cond_both (has m (waits_of ts)) _ _ Low (λ e. woken_low m v [] ts (record {
  before = before;
  behind = behind;
}) s b.0 (record { pre_still = tt; post_still = b.1; before = a; behind = b.2 })) (λ e. woken_in_low m v (before ++ ts ∷ []) behind s
    (trees_joined s.clock.left before (ts ∷ []) a (b.0, b.1, tt)) b.2)
