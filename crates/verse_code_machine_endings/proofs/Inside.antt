-- A run that ends within a turn ends with no step left, with an error, or stuck.
use Rattle.std.proofs.Common.{ℕ, zero, suc, ◌+◌, length, List, [], ◌∷◌, ◌++◌, Option, Some, None, Bool, true, false, cond}
use Rattle.std.proofs.lemmas.Bool.{cond_both}
use Rattle.std.specs.Prelude.{slice_get, pos, not}
use Rattle.verse_base.specs.declared.places.Place.{Place}
use Rattle.verse_base.specs.declared.refusals.Kind.{Kind as Error}
use Rattle.verse_code.specs.declared.operations.Op.{Op}
use Rattle.verse_code.specs.declared.operations.Op.TheVariants as o
use Rattle.verse_code.specs.declared.codes.Func.{Func}
use Rattle.verse_code.specs.declared.codes.Class.{Class}
use Rattle.verse_code.specs.declared.codes.Code.{Code}
use Rattle.verse_value.specs.Val.{Val, unit, falsity, truth, int, char, enum, object, event, task, some, array, mapping, tuple}
use Rattle.verse_value.specs.Answer.{Answer, gives, fails, error, stuck}
use Rattle.verse_value.specs.Equality.{val_eq}
use Rattle.verse_value.specs.Operations.{text_val, sum_of, difference_of, product_of, negation_of, floor_of, ceil_of, modulo_of, concat_of}
use Rattle.verse_value.specs.Operations.{join_of, less_of, at_most_of, greater_of, at_least_of, equal_of, unequal_of, array_of, map_of}
use Rattle.verse_value.specs.Operations.{tuple_of, option_of, query_of, item_of, at_of, length_of, append_of}
use Rattle.verse_value.specs.declared.runs.Ending.TheVariants as ending
use Rattle.verse_meaning_state.specs.State.{State, Given, restored, spending, with_result, drawn}
use Rattle.verse_meaning_state.specs.Waits.{Cause, after, done, heard, never, has, ltn}
use Rattle.verse_meaning_state.specs.Waits.{nth}
use Rattle.verse_meaning_state.specs.Turns.{Kind, sync, race, rush}
use Rattle.verse_meaning_state.specs.Effects.{Effect, still, variable_made, object_made, event_made, slot_read, slot_written, line_printed}
use Rattle.verse_meaning_state.specs.Effects.{event_of, task_of, signal_sent}
use Rattle.verse_code_machine.specs.Tasks as t
use Rattle.verse_code_machine.specs.Tasks.{Life, Handler, Frame, Note, to, gone, Role, root, part, Who, Part, did, runs, Rest, asleep}
use Rattle.verse_code_machine.specs.Tasks.{group}
use Rattle.verse_code_machine.specs.Tasks.{Thread, thread, Task, After, resuming, closing, finishing, Up, begins, branching, spawning}
use Rattle.verse_code_machine.specs.Tasks.{clearing}
use Rattle.verse_code_machine.specs.Tasks.{Trees, World, world, Step, Next, Over, Turn, onto, among, same_path, since, beneath_arms}
use Rattle.verse_code_machine.specs.Tasks.{waits_of}
use Rattle.verse_code_machine.specs.Frames.{on_top, on_two, on_many, on_there, only_where, fits, goes, failing, faulting, answered}
use Rattle.verse_code_machine.specs.Frames.{answered_to}
use Rattle.verse_code_machine.specs.Frames.{enters, method_of, free, nothing, clean, kept_defers, kept_noted, put}
use Rattle.verse_code_machine.specs.Cancelling.{world_without, cancelled, on_deferred, clears_frames, clears, cancels}
use Rattle.verse_code_machine.specs.Ends.{all_did, first_did, tupled, or_stands, grouped, next_arm, arm_did, rested, suspends, is_run}
use Rattle.verse_code_machine.specs.Ends.{with_did, joined, climbs, part_ends, root_ends, role_ends, ends_role, ends, returns_role, returns}
use Rattle.verse_code_machine.specs.Ends.{follows, cleared, is_asleep, woken, woken_in}
use Rattle.verse_code_machine.specs.Acts.{Taken, ended, takes, unfit, taken_from, takes_step, place_at, mode_of, kind_of, paired, on_domain}
use Rattle.verse_code_machine.specs.Acts.{on_int, awaits, spawns, labels, after_arms, groups, on_noted, on_defer, on_note, frame, unary}
use Rattle.verse_code_machine.specs.Acts.{binary}
use Rattle.verse_code_machine.specs.Acts.{collects, leaves, on_handler, act}
use Rattle.verse_code_machine_endings.specs.Endings.{IsInner}

abbrev EndsInside : Step → Type 0
EndsInside (Next m) = Unit {0}
EndsInside (Over e s) = IsInner e
EndsInside (Turn s tss) = Unit {0}

pub record Inside (q : Step) : Type 0 where
  pub holds : EndsInside q

is_in : {q : Step} → EndsInside q → Inside q
is_in h = record { holds = h }

-- ---- within a task's frames

pub spending_in : (n : ℕ) (s : State) (go : State → Step) → ((u : State) → Inside (go u)) → Inside (spending n s (Over ending.Steps s) go)
spending_in zero s go h = is_in tt
spending_in (suc n) s go h = h _

top_in : (st : List Val) (s : State) (go : Val → List Val → Step) → ((v : Val) (st : List Val) → Inside (go v st)) → Inside (on_top st s go)
top_in [] s go h = is_in tt
top_in (v ∷ st) s go h = h v st

two_in : (st : List Val) (s : State) (go : Val → Val → List Val → Step) → ((a b : Val) (st : List Val) → Inside (go a b st)) →
    Inside (on_two st s go)
two_in [] s go h = is_in tt
two_in (b ∷ []) s go h = is_in tt
two_in (b ∷ a ∷ st) s go h = h a b st

many_in : (n : ℕ) (st vs : List Val) (s : State) (go : List Val → List Val → Step) → ((vs st : List Val) → Inside (go vs st)) →
    Inside (on_many n st vs s go)
many_in zero st vs s go h = h vs st
many_in (suc n) [] vs s go h = is_in tt
many_in (suc n) (v ∷ st) vs s go h = many_in n st (v ∷ vs) s go h

pub there_in : {A : Type 0} (x : Option A) (s : State) (go : A → Step) → ((a : A) → Inside (go a)) → Inside (on_there x s go)
there_in None s go h = is_in tt
there_in (Some x) s go h = h x

where_in : (b : Bool) (s : State) (q : Step) → Inside q → Inside (only_where b s q)
where_in true s q h = h
where_in false s q h = is_in tt

goes_in : (w : Who) (x : World) (s u : State) (g : Life) (ls st : List Val) (q : ℕ) (hs : List Handler) (bl : List Frame) →
    Inside (goes w x s u g ls st q hs bl)
goes_in w x s u g ls st q hs bl = where_in (fits hs q) s _ (is_in tt)

failing_in : (w : Who) (x : World) (s : State) (ls : List Val) (hs : List Handler) (bl : List Frame) → Inside (failing w x s ls hs bl)
failing_in w x s ls (h ∷ hs) bl = goes_in w x s _ h.life ls h.stack h.label hs bl
failing_in w x s ls [] [] = is_in tt
failing_in w x s ls [] (f ∷ bl) = failing_in w x s f.locals f.handlers bl

faulting_in : (p : Option Place) (k : Error) (s : State) → Inside (faulting p k s)
faulting_in None k s = is_in tt
faulting_in (Some p) k s = is_in tt

answered_in : (p : Option Place) (a : Effect) (w : Who) (x : World) (s : State) (g : Life) (ls st : List Val) (pc : ℕ) (hs : List Handler)
    (bl : List Frame) → Inside (answered p a w x s g ls st pc hs bl)
answered_in p (gives v) w x s g ls st pc hs bl = goes_in w x s v.1 g ls (v.0 ∷ st) (suc pc) hs bl
answered_in p fails w x s g ls st pc hs bl = failing_in w x s ls hs bl
answered_in p (error k) w x s g ls st pc hs bl = where_in (fits hs (suc pc)) s _ (faulting_in p k s)
answered_in p stuck w x s g ls st pc hs bl = is_in tt

answered_to_in : (p : Option Place) (l : ℕ) (a : Answer Val) (w : Who) (x : World) (s : State) (g : Life) (ls st : List Val) (pc : ℕ)
    (hs : List Handler) (bl : List Frame) → Inside (answered_to p l a w x s g ls st pc hs bl)
answered_to_in p l (gives v) w x s g ls st pc hs bl = there_in (put ls l v) s _ (λ ls. goes_in w x s s g ls st (suc pc) hs bl)
answered_to_in p l fails w x s g ls st pc hs bl = failing_in w x s ls hs bl
answered_to_in p l (error k) w x s g ls st pc hs bl = where_in (fits hs (suc pc)) s _ (faulting_in p k s)
answered_to_in p l stuck w x s g ls st pc hs bl = is_in tt

enters_in : (f : Func) (vs : List Val) (w : Who) (x : World) (s : State) (bl : List Frame) → Inside (enters f vs w x s bl)
enters_in f vs w x s bl = spending_in s.clock.left s _ (λ u. is_in tt)

clean_in : (g : Life) (s : State) (q : Step) → Inside q → Inside (clean g s q)
clean_in g s q h = where_in (nothing g.defers g.noted) s q h

-- ---- cancelling

deferred_in : (ds : List ℕ) (q : Step) (go : ℕ → List ℕ → Step) → Inside q → ((d : ℕ) (ds : List ℕ) → Inside (go d ds)) →
    Inside (on_deferred ds q go)
deferred_in [] q go a h = a
deferred_in (d ∷ ds) q go a h = h d ds

frames_in : (next : State → Step) (w : Who) (x : World) (s : State) (fs : List Frame) → ((s : State) → Inside (next s)) →
    Inside (clears_frames next w x s fs)
frames_in next w x s [] h = h s
frames_in next w x s (f ∷ fs) h =
    deferred_in f.life.defers _ _ (frames_in next w x s fs h) (λ q ds. spending_in s.clock.left s _ (λ u. is_in tt))

clears_in : (last : World → State → Step) (a : After) (ts : List Task) (x : World) (s : State) →
    ((x : World) (s : State) → Inside (last x s)) → Inside (clears last a ts x s)
clears_in last a [] x s h = h x s
clears_in last a (t ∷ ts) x s h =
    frames_in (λ s. clears last a ts x s) t.thread.who _ s (t.thread.frame ∷ t.thread.below) (λ s. clears_in last a ts x s h)

cancels_in : (last : World → State → Step) (a : After) (f : List ℕ → Bool) (x : World) (s : State) →
    ((x : World) (s : State) → Inside (last x s)) → Inside (cancels last a f x s)
cancels_in last a f x s h = clears_in last a (cancelled f x) (world_without f x) s h

-- ---- arms, suspended tasks, ends

stands_in : {A : Type 0} (x : Option A) (q : Step) (go : A → Step) → Inside q → ((a : A) → Inside (go a)) → Inside (or_stands x q go)
stands_in None q go a h = a
stands_in (Some x) q go a h = h x

tupled_in : (p : Place) (a : Answer Val) (y : Thread) (x : World) (s : State) → Inside (tupled p a y x s)
tupled_in p (gives v) y x s = is_in tt
tupled_in p fails y x s = is_in tt
tupled_in p (error k) y x s = is_in tt
tupled_in p stuck y x s = is_in tt

grouped_in : (k : Kind) (p : Place) (gs : List Part) (y : Thread) (x : World) (s : State) (stands : Task → Step) →
    ((t : Task) → Inside (stands t)) → Inside (grouped k p gs y x s stands)
grouped_in sync p gs y x s stands h = stands_in (all_did gs) _ _ (h _) (λ vs. tupled_in p (tuple_of vs) y x s)
grouped_in race p gs y x s stands h =
    stands_in (first_did gs) _ _ (h _) (λ v. cancels_in _ (resuming y v) (beneath_arms y.who.path gs) x s (λ x s. is_in tt))
grouped_in rush p gs y x s stands h = stands_in (first_did gs) _ _ (h _) (λ v. is_in tt)

next_arm_in : (k : Kind) (p : Place) (gs : List Part) (ls : List ℕ) (y : Thread) (pre post : List Task) (us : List Up) (trees : Trees)
    (s : State) (stands : Task → Step) → ((t : Task) → Inside (stands t)) → Inside (next_arm k p gs ls y pre post us trees s stands)
next_arm_in k p gs [] y pre post us trees s stands h = grouped_in k p gs y (world pre post us trees) s stands h
next_arm_in k p gs (l ∷ ls) y pre post us trees s stands h = spending_in s.clock.left s _ (λ u. is_in tt)

arm_did_in : (k : Kind) (p : Place) (gs : List Part) (ls : List ℕ) (y : Thread) (pre post : List Task) (us : List Up) (trees : Trees)
    (s : State) (stands : Task → Step) → ((t : Task) → Inside (stands t)) → Inside (arm_did k p gs ls y pre post us trees s stands)
arm_did_in sync p gs ls y pre post us trees s stands h = next_arm_in sync p gs ls y pre post us trees s stands h
arm_did_in race p gs ls y pre post us trees s stands h = grouped_in race p gs y (world pre post us trees) s stands h
arm_did_in rush p gs ls y pre post us trees s stands h = next_arm_in rush p gs ls y pre post us trees s stands h

rested_in : (pre post : List Task) (us : List Up) (trees : Trees) (s : State) → Inside (rested pre post us trees s)
rested_in pre post [] trees s = is_in tt
rested_in pre post (begins x k p gs n ls ∷ us) trees s =
    next_arm_in k p (gs ++ runs n ∷ []) ls x pre post us trees s (λ y. rested (y ∷ pre) post us trees s)
    (λ y. rested_in (y ∷ pre) post us trees s)
rested_in pre post (branching x ∷ us) trees s = is_in tt
rested_in pre post (spawning x entry ps qs ∷ us) trees s = is_in tt
rested_in pre post (clearing a ts ∷ us) trees s = is_in tt

suspends_in : (cause : Cause) (y : Thread) (x : World) (s : State) → Inside (suspends cause y x s)
suspends_in cause y x s = rested_in _ x.post x.ups x.trees (drawn s)

joined_in : (n : ℕ) (v : Val) (r : Rest) (y : Task) (pre post : List Task) (trees : Trees) (s : State) →
    Inside (joined n v r y pre post trees s)
joined_in n v (asleep w) y pre post trees s = is_in tt
joined_in n v (group k p gs) y pre post trees s =
    cond_both (is_run n gs) _ _ Inside
    (λ e. grouped_in k p (with_did n v gs) y.thread (world pre post [] trees) s (λ y. rested (y ∷ pre) post [] trees s)
    (λ y. rested_in (y ∷ pre) post [] trees s))
    (λ e. is_in tt)

climbs_in : (up : List ℕ) (n : ℕ) (v : Val) (pre post : List Task) (trees : Trees) (s : State) → Inside (climbs up n v pre post trees s)
climbs_in up n v pre [] trees s = is_in tt
climbs_in up n v pre (y ∷ post) trees s =
    cond_both (same_path up y.thread.who.path) _ _ Inside (λ e. joined_in n v y.rest y pre post trees s)
    (λ e. climbs_in up n v (y ∷ pre) post trees s)

part_ends_in : (up : List ℕ) (n : ℕ) (v : Val) (pre post : List Task) (us : List Up) (trees : Trees) (s : State) →
    Inside (part_ends up n v pre post us trees s)
part_ends_in up n v pre post [] trees s = climbs_in up n v pre post trees s
part_ends_in up n v pre post (begins x k p gs m ls ∷ us) trees s =
    arm_did_in k p (gs ++ did v ∷ []) ls x pre post us trees s (λ y. rested (y ∷ pre) post us trees s)
    (λ y. rested_in (y ∷ pre) post us trees s)
part_ends_in up n v pre post (branching x ∷ us) trees s = is_in tt
part_ends_in up n v pre post (spawning x entry ps qs ∷ us) trees s = is_in tt
part_ends_in up n v pre post (clearing a ts ∷ us) trees s = is_in tt

root_ends_in : (pre post : List Task) (us : List Up) (trees : Trees) (s : State) → Inside (root_ends pre post us trees s)
root_ends_in pre post [] trees s = is_in tt
root_ends_in pre post (spawning x entry ps qs ∷ us) trees s = is_in tt
root_ends_in pre post (begins x k p gs n ls ∷ us) trees s = is_in tt
root_ends_in pre post (branching x ∷ us) trees s = is_in tt
root_ends_in pre post (clearing a ts ∷ us) trees s = is_in tt

role_ends_in : (r : Role) (w : Who) (v : Val) (x : World) (s : State) → Inside (role_ends r w v x s)
role_ends_in (root entry) w v x s = root_ends_in x.pre x.post x.ups x.trees s
role_ends_in part w v x s = part_ends_in w.up w.number v x.pre x.post x.ups x.trees s

ends_role_in : (r : Role) (w : Who) (x : World) (born : ℕ) (v : Val) (s : State) → Inside (ends_role r w x born v s)
ends_role_in (root entry) w x born v s = is_in tt
ends_role_in part w x born v s = cancels_in _ (closing w v) (since w.path born) x s (λ x s. role_ends_in part w v x s)

ends_in : (w : Who) (x : World) (born : ℕ) (v : Val) (s : State) (hs : List Handler) (bl : List Frame) → Inside (ends w x born v s hs bl)
ends_in w x born v s (h ∷ hs) bl = is_in tt
ends_in w x born v s [] (f ∷ bl) = is_in tt
ends_in w x born v s [] [] = ends_role_in w.role w x born v s

returns_role_in : (r : Role) (w : Who) (x : World) (born : ℕ) (v : Val) (s : State) → Inside (returns_role r w x born v s)
returns_role_in (root entry) w x born v s =
    cancels_in _ (finishing w entry v) (since w.path born) x s (λ x s. role_ends_in (root entry) w v x (with_result entry v s))
returns_role_in part w x born v s = is_in tt

returns_in : (w : Who) (x : World) (born : ℕ) (v : Val) (s : State) (hs : List Handler) (bl : List Frame) →
    Inside (returns w x born v s hs bl)
returns_in w x born v s (h ∷ hs) bl = is_in tt
returns_in w x born v s [] [] = returns_role_in w.role w x born v s
returns_in w x born v s [] (f ∷ bl) = cancels_in _ (resuming (thread w f bl) v) (since w.path born) x s (λ x s. is_in tt)

follows_in : (a : After) (x : World) (s : State) → Inside (follows a x s)
follows_in (resuming y v) x s = is_in tt
follows_in (closing w v) x s = role_ends_in w.role w v x s
follows_in (finishing w entry v) x s = role_ends_in (root entry) w v x (with_result entry v s)

cleared_in : (us : List Up) (pre post : List Task) (trees : Trees) (s : State) → Inside (cleared us pre post trees s)
cleared_in [] pre post trees s = is_in tt
cleared_in (clearing a ts ∷ us) pre post trees s = clears_in (follows a) a ts (world pre post us trees) s (follows_in a)
cleared_in (begins x k p gs n ls ∷ us) pre post trees s = is_in tt
cleared_in (branching x ∷ us) pre post trees s = is_in tt
cleared_in (spawning x entry ps qs ∷ us) pre post trees s = is_in tt

woken_one_in : (n : ℕ) (v : Val) (pre post : List Task) (trees : Trees) (s : State) → Inside (woken n v pre post trees s)
woken_one_in n v pre [] trees s = is_in tt
woken_one_in n v pre (y ∷ post) trees s =
    cond_both (is_asleep n y.rest) _ _ Inside (λ e. is_in tt) (λ e. woken_one_in n v (y ∷ pre) post trees s)

pub woken_ends_in : (n : ℕ) (v : Val) (before behind : List (List Task)) (s : State) → Inside (woken_in n v before behind s)
woken_ends_in n v before [] s = is_in tt
woken_ends_in n v before (ts ∷ behind) s =
    cond_both (has n (waits_of ts)) _ _ Inside (λ e. woken_one_in n v [] ts _ s) (λ e. woken_ends_in n v (before ++ ts ∷ []) behind s)

-- ---- operations

takes_in : (t : Taken) (l d label : ℕ) (w : Who) (x : World) (s : State) (g : Life) (ls st : List Val) (pc : ℕ) (hs : List Handler)
    (bl : List Frame) → Inside (takes_step t l d label w x s g ls st pc hs bl)
takes_in ended l d label w x s g ls st pc hs bl = goes_in w x s s g ls st (suc pc) hs bl
takes_in (takes v k n y) l d label w x s g ls st pc hs bl =
    where_in (fits hs label) s _ (spending_in s.clock.left s _
    (λ u. there_in (put ls d v) s _ (λ ls. there_in (put ls (suc d) k) s _ (λ ls. there_in (put ls _ y) s _ (λ ls. is_in tt)))))
takes_in unfit l d label w x s g ls st pc hs bl = is_in tt

domain_in : (v : Val) (s : State) (q : Step) → Inside q → Inside (on_domain v s q)
domain_in unit s q h = is_in tt
domain_in falsity s q h = is_in tt
domain_in truth s q h = is_in tt
domain_in (int n) s q h = is_in tt
domain_in (char n) s q h = is_in tt
domain_in (enum a b) s q h = is_in tt
domain_in (object c) s q h = is_in tt
domain_in (event n) s q h = is_in tt
domain_in (task n) s q h = is_in tt
domain_in (some v) s q h = is_in tt
domain_in (array vs) s q h = h
domain_in (mapping ps) s q h = h
domain_in (tuple vs) s q h = is_in tt

int_in : (v : Val) (s : State) (q : Step) → Inside q → Inside (on_int v s q)
int_in unit s q h = is_in tt
int_in falsity s q h = is_in tt
int_in truth s q h = is_in tt
int_in (int n) s q h = h
int_in (char n) s q h = is_in tt
int_in (enum a b) s q h = is_in tt
int_in (object c) s q h = is_in tt
int_in (event n) s q h = is_in tt
int_in (task n) s q h = is_in tt
int_in (some v) s q h = is_in tt
int_in (array vs) s q h = is_in tt
int_in (mapping ps) s q h = is_in tt
int_in (tuple vs) s q h = is_in tt

awaits_in : (g : Option (Option Given)) (entry : ℕ) (y : Thread) (x : World) (s : State) → Inside (awaits g entry y x s)
awaits_in None entry y x s = is_in tt
awaits_in (Some None) entry y x s = suspends_in (done entry) y x s
awaits_in (Some (Some g)) entry y x s = is_in tt

spawns_in : (f : Func) (vs : List Val) (y : Thread) (x : World) (s : State) → Inside (spawns f vs y x s)
spawns_in f vs y x s = spending_in s.clock.left s _ (λ u. is_in tt)

groups_in : (k : Kind) (p : Place) (ls : List ℕ) (q : ℕ) (w : Who) (x : World) (s : State) (g : Life) (vs st : List Val)
    (hs : List Handler) (bl : List Frame) → Inside (groups k p ls q w x s g vs st hs bl)
groups_in k p [] q w x s g vs st hs bl = is_in tt
groups_in k p (l ∷ ls) q w x s g vs st hs bl = next_arm_in k p [] (l ∷ ls) _ x.pre x.post x.ups x.trees s (λ y. t.stuck s) (λ y. is_in tt)

noted_in : (ns : List Note) (s : State) (go : Note → List Note → Step) → ((n : Note) (ns : List Note) → Inside (go n ns)) →
    Inside (on_noted ns s go)
noted_in [] s go h = is_in tt
noted_in (n ∷ ns) s go h = h n ns

defer_in : (ds : List ℕ) (s : State) (go : ℕ → List ℕ → Step) → ((d : ℕ) (ds : List ℕ) → Inside (go d ds)) → Inside (on_defer ds s go)
defer_in [] s go h = is_in tt
defer_in (d ∷ ds) s go h = h d ds

note_in : (n : Note) (go : ℕ → Step) (q : Step) → ((p : ℕ) → Inside (go p)) → Inside q → Inside (on_note n go q)
note_in (to p) go q h a = h p
note_in gone go q h a = a

handler_in : (hs : List Handler) (s : State) (go : Handler → List Handler → Step) → ((h : Handler) (hs : List Handler) → Inside (go h hs)) →
    Inside (on_handler hs s go)
handler_in [] s go f = is_in tt
handler_in (h ∷ hs) s go f = f h hs

leaves_in : (b : Bool) (w : Who) (x : World) (s : State) (g : Life) (ls st : List Val) (pc : ℕ) (hs : List Handler) (bl : List Frame) →
    Inside (leaves b w x s g ls st pc hs bl)
leaves_in false w x s g ls st pc hs bl = goes_in w x s s g ls st (suc pc) hs bl
leaves_in true w x s g ls st pc hs bl =
    defer_in g.defers s _ (λ q ds. where_in (fits hs q) s _ (spending_in s.clock.left s _ (λ u. is_in tt)))

module _ (c : Code) (w : Who) (x : World) (s : State) (g : Life) (pc : ℕ) (hs : List Handler) (bl : List Frame) where
  push_in : (v : Val) (ls st : List Val) → Inside (goes w x s s g ls (v ∷ st) (suc pc) hs bl)
  push_in v ls st = goes_in w x s s g ls (v ∷ st) (suc pc) hs bl

  on_in : (ls st : List Val) → Inside (goes w x s s g ls st (suc pc) hs bl)
  on_in ls st = goes_in w x s s g ls st (suc pc) hs bl

  answer_in : (p : Option Place) (a : Effect) (ls st : List Val) → Inside (answered p a w x s g ls st pc hs bl)
  answer_in p a ls st = answered_in p a w x s g ls st pc hs bl

  unary_in : (f : Val → Answer Val) (p : Option Place) (ls st : List Val) → Inside (unary f p w x s g ls st pc hs bl)
  unary_in f p ls st = top_in st s _ (λ a st. answer_in p (still (f a) s) ls st)

  binary_in : (f : Val → Val → Answer Val) (p : Option Place) (ls st : List Val) → Inside (binary f p w x s g ls st pc hs bl)
  binary_in f p ls st = two_in st s _ (λ a b st. answer_in p (still (f a b) s) ls st)

  collects_in : (n : ℕ) (f : List Val → Answer Val) (p : Option Place) (ls st : List Val) → Inside (collects n f p w x s g ls st pc hs bl)
  collects_in n f p ls st = many_in n st [] s _ (λ vs st. answer_in p (still (f vs) s) ls st)

  top_answer : (f : Val → Effect) (p : Option Place) (ls st : List Val) →
      Inside (on_top st s (λ a st. answered p (f a) w x s g ls st pc hs bl))
  top_answer f p ls st = top_in st s _ (λ a st. answer_in p (f a) ls st)

  pub act_in : (op : Op) (ls st : List Val) → Inside (act c op w x s g ls st pc hs bl)
  act_in (o.Int n) ls st = push_in (int n) ls st
  act_in o.Unit ls st = push_in unit ls st
  act_in o.False ls st = push_in falsity ls st
  act_in o.True ls st = push_in truth ls st
  act_in (o.Char n) ls st = push_in (char n) ls st
  act_in (o.Text n) ls st = there_in (slice_get c.texts n) s _ (λ bytes. push_in (text_val bytes) ls st)
  act_in (o.Enum n m) ls st = push_in (enum n m) ls st
  act_in (o.Get l) ls st = there_in (nth ls l) s _ (λ v. push_in v ls st)
  act_in (o.Put l) ls st = top_in st s _ (λ v st. there_in (put ls l v) s _ (λ ls. on_in ls st))
  act_in o.Drop ls st = top_in st s _ (λ v st. on_in ls st)
  act_in (o.Add p) ls st = binary_in sum_of (place_at c p) ls st
  act_in (o.Sub p) ls st = binary_in difference_of (place_at c p) ls st
  act_in (o.Mul p) ls st = binary_in product_of (place_at c p) ls st
  act_in (o.Neg p) ls st = unary_in negation_of (place_at c p) ls st
  act_in (o.Floor p) ls st = binary_in floor_of (place_at c p) ls st
  act_in (o.Ceil p) ls st = binary_in ceil_of (place_at c p) ls st
  act_in o.Mod ls st = binary_in modulo_of None ls st
  act_in (o.Concat p) ls st = binary_in concat_of (place_at c p) ls st
  act_in (o.Join n p) ls st = collects_in n join_of (place_at c p) ls st
  act_in o.Lt ls st = binary_in less_of None ls st
  act_in o.Le ls st = binary_in at_most_of None ls st
  act_in o.Gt ls st = binary_in greater_of None ls st
  act_in o.Ge ls st = binary_in at_least_of None ls st
  act_in o.Eq ls st = binary_in equal_of None ls st
  act_in o.Ne ls st = binary_in unequal_of None ls st
  act_in (o.Array n p) ls st = collects_in n array_of (place_at c p) ls st
  act_in (o.Map n p) ls st = collects_in (n + n) (λ vs. map_of (paired vs)) (place_at c p) ls st
  act_in (o.Tuple n p) ls st = collects_in n tuple_of (place_at c p) ls st
  act_in (o.Some p) ls st = unary_in option_of (place_at c p) ls st
  act_in o.Query ls st = unary_in query_of None ls st
  act_in (o.Item n) ls st = unary_in (λ v. item_of v n) None ls st
  act_in o.At ls st = binary_in at_of None ls st
  act_in o.Length ls st = unary_in length_of None ls st
  act_in (o.New p) ls st = top_answer (λ v. variable_made v s) (place_at c p) ls st
  act_in (o.Load n) ls st = top_answer (λ v. slot_read n v s) None ls st
  act_in (o.Store n i m p) ls st =
      top_in st s _ (λ v st. many_in i st [] s _
      (λ path st. top_answer (λ cell. slot_written n path (mode_of m) v cell s) (place_at c p) ls st))
  act_in (o.Object n p) ls st =
      there_in (slice_get c.classes n) s _ (λ (k : Class).
      many_in k.slots st [] s _ (λ vs st. answer_in (place_at c p) (object_made n vs s) ls st))
  act_in (o.Event p) ls st = answer_in (place_at c p) (event_made s) ls st
  act_in (o.Jump l) ls st = goes_in w x s s g ls st l hs bl
  act_in (o.Same l) ls st = two_in st s _ (λ a b st. goes_in w x s s g ls st (cond (val_eq a b) (suc pc) l) hs bl)
  act_in (o.Again l) ls st = where_in (fits hs l) s _ (spending_in s.clock.left s _ (λ u. is_in tt))
  act_in (o.Try l) ls st = goes_in w x s s g ls [] (suc pc) (record { made = pc; label = l; stack = st; memory = s.memory; life = g } ∷ hs)
      bl
  act_in o.Commit ls st = handler_in hs s _ (λ h hs. goes_in w x s s g ls (st ++ h.stack) (suc pc) hs bl)
  act_in o.Undo ls st = handler_in hs s _ (λ h hs. goes_in w x s (restored h.memory s) g ls (st ++ h.stack) (suc pc) hs bl)
  act_in o.Fail ls st = failing_in w x s ls hs bl
  act_in (o.Call n) ls st =
      there_in (slice_get c.functions n) s _ (λ (f : Func).
      many_in f.params st [] s _ (λ vs st. where_in (fits hs (suc pc)) s _ (enters_in f vs w x s (frame g ls st (suc pc) hs ∷ bl))))
  act_in (o.Method n m) ls st =
      many_in m st [] s _ (λ vs st. top_in st s _
      (λ v st. there_in (method_of c n m v s) s _
      (λ f. where_in (fits hs (suc pc)) s _ (enters_in f (v ∷ vs) w x s (frame g ls st (suc pc) hs ∷ bl)))))
  act_in o.Return ls st = top_in st s _ (λ v st. clean_in g s _ (returns_in w x g.born v s hs bl))
  act_in (o.Each l) ls st =
      top_in st s _ (λ v st. domain_in v s _ (there_in (put ls l v) s _
      (λ ls. there_in (put ls (suc l) (int (pos 0))) s _ (λ ls. on_in ls st))))
  act_in (o.Range l) ls st =
      two_in st s _ (λ a b st. int_in a s _ (int_in b s _
      (there_in (put ls l a) s _ (λ ls. there_in (put ls (suc l) b) s _ (λ ls. on_in ls st)))))
  act_in (o.Take l d label) ls st =
      there_in (nth ls l) s _ (λ a. there_in (nth ls (suc l)) s _
      (λ b. there_in (nth ls d) s _ (λ y. there_in (nth ls (suc d)) s _
      (λ z. takes_in (taken_from a b) l d label w x s g ls st pc hs bl))))
  act_in (o.Append l p) ls st =
      top_in st s _ (λ v st. there_in (nth ls l) s _ (λ a. answered_to_in (place_at c p) l (append_of a v) w x s g ls st pc hs bl))
  act_in (o.Print p) ls st = top_answer (λ v. line_printed v s) (place_at c p) ls st
  act_in (o.Sleep n) ls st = where_in (free hs g.noted bl) s _ (suspends_in (after n s) (thread w (frame g ls st (suc pc) hs) bl) x s)
  act_in o.Forever ls st = where_in (free hs g.noted bl) s _ (suspends_in never (thread w (frame g ls st (suc pc) hs) bl) x s)
  act_in o.AwaitTask ls st =
      where_in (free hs g.noted bl) s _ (top_in st s _
      (λ v st. there_in (task_of v) s _ (λ entry.
      awaits_in (nth s.clock.results entry) entry (thread w (frame g ls st (suc pc) hs) bl) x s)))
  act_in o.AwaitEvent ls st =
      where_in (free hs g.noted bl) s _ (top_in st s _
      (λ v st. there_in (event_of v s) s _ (λ e. suspends_in (heard e) (thread w (frame g ls st (suc pc) hs) bl) x s)))
  act_in o.Signal ls st = where_in (free hs g.noted bl) s _
      (two_in st s _ (λ e v st. answer_in None (signal_sent (event_of e s) v s) ls st))
  act_in (o.Spawn n) ls st =
      where_in (free hs g.noted bl) s _ (there_in (slice_get c.functions n) s _
      (λ (f : Func). many_in f.params st [] s _ (λ vs st. spawns_in f vs (thread w (frame g ls st (suc pc) hs) bl) x s)))
  act_in (o.SpawnMethod n m) ls st =
      where_in (free hs g.noted bl) s _ (many_in m st [] s _
      (λ vs st. top_in st s _ (λ v st. there_in (method_of c n m v s) s _
      (λ f. spawns_in f (v ∷ vs) (thread w (frame g ls st (suc pc) hs) bl) x s))))
  act_in (o.Group k m p) ls st =
      where_in (free hs g.noted bl) s _ (there_in (place_at c p) s _
      (λ q. there_in (labels c.ops (suc pc) m) s _ (λ ks. groups_in (kind_of k) q ks (after_arms (suc pc) m) w x s g ls st hs bl)))
  act_in (o.Arm l) ls st = is_in tt
  act_in (o.Branch l) ls st = where_in (free hs g.noted bl) s _ (spending_in s.clock.left s _ (λ u. is_in tt))
  act_in o.ArmEnd ls st = top_in st s _ (λ v st. clean_in g s _ (ends_in w x g.born v s hs bl))
  act_in (o.Defer l) ls st = goes_in w x s s (record g { defers = suc pc ∷ g.defers }) ls st l hs bl
  act_in (o.Leave n) ls st =
      where_in (not (ltn (length g.defers) n)) s _
      (where_in (not (ltn n (kept_defers hs))) s _ (leaves_in (ltn n (length g.defers)) w x s g ls st pc hs bl))
  act_in o.DeferEnd ls st =
      where_in (ltn (kept_noted hs) (length g.noted)) s _
      (noted_in g.noted s _ (λ y ns. note_in y _ _ (λ q. goes_in w x s s (record g { noted = ns }) ls st q hs bl)
      (frames_in (λ s. cleared x.ups x.pre x.post x.trees s) w x s (frame (record g { noted = ns }) ls st pc hs ∷ bl)
      (λ s. cleared_in x.ups x.pre x.post x.trees s))))
