-- Frames and tasks end: what they have begun is cancelled, and what waits for them goes on.
use Rattle.std.proofs.Common.{◌≡◌, ℕ, zero, suc, List, [], ◌∷◌, ◌++◌, Option, Some, None, Bool, true, false, refl, sym, subst, ◌∙◌}
use Rattle.std.proofs.lemmas.Option.{same_Some}
use Rattle.std.proofs.lemmas.List.{append_assoc}
use Rattle.verse_code.specs.declared.codes.Code.{Code}
use Rattle.verse_value.specs.Val as v
use Rattle.verse_value.specs.Val.{Val}
use Rattle.verse_meaning_state.specs.State.{State, Given, Signal, with_result, set_at}
use Rattle.verse_meaning_state.specs.Turns.{Kind, sync, race, rush}
use Rattle.verse_code_machine.specs.Tasks.{Handler, Note, Frame, Role, root, part, Who, did, Task, After, resuming}
use Rattle.verse_code_machine.specs.Tasks.{closing, finishing, Up, begins, branching, spawning, clearing, Trees, world}
use Rattle.verse_code_machine.specs.Cancelling.{without}
use Rattle.verse_code_machine.specs.Ends.{arm_did, rested, part_ends, root_ends, role_ends, follows}
use Rattle.verse_code_machine.specs.Ends.{cleared}
use Rattle.verse_sorts.specs.Sorts as sort
use Rattle.verse_sorts.specs.Sorts.{Sort}
use Rattle.verse_sorts.specs.Typing.{at, Typing, Adds, is_unit}
use Rattle.verse_sorts.proofs.Fitting.{is_up, is_more, adds_on}
use Rattle.verse_verify_kept.specs.Notes.{Point, Notes, parent_of}
use Rattle.verse_verify_kept.specs.Known.{Known}
use Rattle.verse_verify_kept.specs.Rules.{AllIn, in_no, in_so}
use Rattle.verse_verify_kept.specs.Kept.{Giver, giver, Of, StoreIs, Beneath, plain, trying, within, dying, Below}
use Rattle.verse_verify_kept.specs.Others.{coming, closing_with, RoleIs, main_is, root_is, part_is, PartsAre, parts_no, part_did, KindGives}
use Rattle.verse_verify_kept.specs.Others.{first_gives, tasks_no, UpsAre, ups_no, ups_begin, ups_branch, ups_spawn, ResultsAre}
use Rattle.verse_verify_kept.specs.Others.{results_no, result_none, result_some, Tasked, Ends_in, World_is}
use Rattle.verse_verify_kept.proofs.Going.{Fresh}
use Rattle.verse_verify_kept.proofs.Chains.{resume_good, below_more}
use Rattle.verse_verify_kept.proofs.Worlds.{parts_joined, ends_grown, tasked_more, tasks_more}
use Rattle.verse_verify_kept.proofs.Resting.{Fine_step, Calm, Parented, resumes_good, tasks_without, calm_for, calm_more}
use Rattle.verse_verify_kept.proofs.Resting.{clears_tasks, grouped_good, next_good, rested_good, climbs_good, root_good}

module _ (c : Code) (n : Notes) where
  -- what stands beneath frames is looked at anew
  beneath_map : {rest other : Bool → Typing → Type 0} {t : Typing} {p : Point} {ds all : List ℕ} {ls more : List Val} {hs : List Handler}
      {ns : List Note} → ((b : Bool) (u : Typing) → rest b u → other b u) → Beneath c n rest t p ds ls more hs all ns →
      Beneath c n other t p ds ls more hs all ns
  beneath_map f (plain y w r) = plain y w (f false _ r)
  beneath_map f (trying y b) = trying y (beneath_map f b)
  beneath_map f (within y m b) = within y m (beneath_map f b)
  beneath_map f (dying y w r) = dying y w (f true _ r)

  pub below_map : (bottom other : Giver → Bool → Typing → Type 0) (f : (g : Giver) (b : Bool) (u : Typing) → bottom g b u → other g b u)
      (fs : List Frame) (g : Giver) (b : Bool) (u : Typing) → Below c n bottom g fs b u → Below c n other g fs b u
  below_map bottom other f [] g b u r = f g b u r
  below_map bottom other f (h ∷ fs) g true u r = (r.0, r.1, r.2, below_map bottom other f fs g true r.1 r.3)
  below_map bottom other f (h ∷ fs) g false u r = (
    r.0,
    record {
      live = r.1.live;
      whole = r.1.whole;
      top = r.1.top;
      st = r.1.st;
      stack = r.1.stack;
      fits = r.1.fits;
      fails = r.1.fails;
      waits = r.1.waits;
      stands = record {
        above = r.1.stands.above;
        more = r.1.stands.more;
        split = r.1.stands.split;
        locals = r.1.stands.locals;
        stack = r.1.stands.stack;
        beneath = beneath_map (λ b u. below_map bottom other f fs (giver n r.0) b u) r.1.stands.beneath;
      };
    },
  )

  pub tasked_without : {t : Typing} {pre post : List Task} {trees : Trees} (f : List ℕ → Bool) → Tasked c n t pre post trees →
      Tasked c n t (without f pre) (without f post) trees
  tasked_without f k = record {
    pre_are = tasks_without c n f k.pre_are;
    post_are = tasks_without c n f k.post_are;
    before_are = k.before_are;
    behind_are = k.behind_are;
  }

  module _ (f : List ℕ → Bool) (pre post : List Task) (trees : Trees) (rs : List (Option Given)) (gs : List Signal) (k : ℕ) where
    pub ends_without : (us : List Up) (w : Who) (g : Giver) (b : Bool) (u : Typing) → Ends_in c n pre post trees rs gs k us w g b u →
        Ends_in c n (without f pre) (without f post) trees rs gs k us w g b u
    ends_without us w g false u r = (r.0, r.1, r.2, tasked_without f r.3)
    ends_without (clearing (resuming y v) ts ∷ us) w g true u r =
        (r.0, r.1, r.2, below_map _ _ (λ g b u r. ends_without us y.who g b u r) (y.frame ∷ y.below) (coming false r.1) false u r.3)
    ends_without (clearing (closing x v) ts ∷ us) w g true u r = (r.0, r.1, r.2, ends_without us x (closing_with r.1) false u r.3)
    ends_without (clearing (finishing x e v) ts ∷ us) w g true u r =
        (r.0, r.1, r.2, r.3, ends_without us x (coming false r.1) false u r.4)
    ends_without [] w g true u r = elim r [ ]
    ends_without (begins y kd p ps m ls ∷ us) w g true u r = elim r [ ]
    ends_without (branching y ∷ us) w g true u r = elim r [ ]
    ends_without (spawning y e qs ps ∷ us) w g true u r = elim r [ ]

  -- what is at the bottom of a chain of frames
  pub record Bottomed (rest : Bool → Typing → Type 0) (t : Typing) : Type 0 where
    pub down : Bool
    pub typing : Typing
    pub adds : Adds typing t
    pub holds : rest down typing

  beneath_rest : {rest : Bool → Typing → Type 0} {t : Typing} {p : Point} {ds all : List ℕ} {ls more : List Val} {hs : List Handler}
      {ns : List Note} → Beneath c n rest t p ds ls more hs all ns → Bottomed rest t
  beneath_rest (plain y w r) = record { down = false; typing = _; adds = w; holds = r }
  beneath_rest {rest = rest} {t = t} (trying y b) = more (beneath_rest b)
    where
      more : Bottomed rest y.held.typing → Bottomed rest t
      more r = record { down = r.down; typing = r.typing; adds = adds_on r.adds y.grows; holds = r.holds }
  beneath_rest {rest = rest} {t = t} (within y m b) = more (beneath_rest b)
    where
      more : Bottomed rest y.back.typing → Bottomed rest t
      more r = record { down = r.down; typing = r.typing; adds = adds_on r.adds y.grows; holds = r.holds }
  beneath_rest (dying y w r) = record { down = true; typing = _; adds = w; holds = r }

  pub below_to : (bottom : Giver → Bool → Typing → Type 0) (P : Typing → Type 0)
      (f : (g : Giver) (b : Bool) (u : Typing) → bottom g b u → P u) (more : (u t : Typing) → Adds u t → P u → P t) (fs : List Frame)
      (g : Giver) (b : Bool) (t : Typing) → Below c n bottom g fs b t → P t
  below_to bottom P f more [] g b t r = f g b t r
  below_to bottom P f more (h ∷ fs) g true t r = more r.1 t r.2 (below_to bottom P f more fs g true r.1 r.3)
  below_to bottom P f more (h ∷ fs) g false t r =
      go (beneath_rest r.1.stands.beneath) (λ b u q. below_to bottom P f more fs (giver n r.0) b u q)
    where
      go : Bottomed (λ b u. Below c n bottom (giver n r.0) fs b u) t → ((b : Bool) (u : Typing) → Below c n bottom (giver n r.0) fs b u →
          P u) → P t
      go q again = more q.typing t q.adds (again q.down q.typing q.holds)

  module _ (pre post : List Task) (trees : Trees) (rs : List (Option Given)) (gs : List Signal) (k : ℕ) where
    -- the other tasks, whatever runs
    pub ends_tasked : (us : List Up) (w : Who) (g : Giver) (b : Bool) (u : Typing) → Ends_in c n pre post trees rs gs k us w g b u →
        Tasked c n u pre post trees
    ends_tasked us w g false u r = r.3
    ends_tasked (clearing (resuming y v) ts ∷ us) w g true u r =
        below_to _ (λ u. Tasked c n u pre post trees) (λ g b u r. ends_tasked us y.who g b u r) (λ u t w k. tasked_more c n w.grows k)
        (y.frame ∷ y.below) (coming false r.1) false u r.3
    ends_tasked (clearing (closing x v) ts ∷ us) w g true u r = ends_tasked us x (closing_with r.1) false u r.3
    ends_tasked (clearing (finishing x e v) ts ∷ us) w g true u r = ends_tasked us x (coming false r.1) false u r.4
    ends_tasked [] w g true u r = elim r [ ]
    ends_tasked (begins y kd p ps m ls ∷ us) w g true u r = elim r [ ]
    ends_tasked (branching y ∷ us) w g true u r = elim r [ ]
    ends_tasked (spawning y e qs ps ∷ us) w g true u r = elim r [ ]

  module _ (pre post : List Task) (trees : Trees) (rs : List (Option Given)) (gs : List Signal) (k : ℕ) where
    -- what holds where a task is cancelled holds where cells are added, and does not look at what a frame gives
    pub ends_down : (us : List Up) (w : Who) (g : Giver) (u t : Typing) → Ends_in c n pre post trees rs gs k us w g true u → Adds u t →
        Ends_in c n pre post trees rs gs k us w g true t
    ends_down (clearing (resuming y v) ts ∷ us) w g u t r m = (
      tasks_more c n m.grows r.0,
      r.1,
      is_more (parent_of n) m.grows r.2,
      below_more c n _ (λ g t u b w. ends_grown c n pre post trees rs
          gs k us y.who g t u b w) (coming false r.1) (y.frame ∷ y.below) u t r.3 m,
    )
    ends_down (clearing (closing x v) ts ∷ us) w g u t r m = (
      tasks_more c n m.grows r.0,
      r.1,
      is_more (parent_of n) m.grows r.2,
      ends_grown c n pre post trees rs gs k us x (closing_with r.1) u
          t r.3 m,
    )
    ends_down (clearing (finishing x e v) ts ∷ us) w g u t r m = (
      tasks_more c n m.grows r.0,
      r.1,
      is_more (parent_of n) m.grows r.2,
      r.3,
      ends_grown c n pre post trees rs gs k us x (coming false
          r.1) u t r.4 m,
    )
    ends_down [] w g u t r m = elim r [ ]
    ends_down (begins y kd p ps q ls ∷ us) w g u t r m = elim r [ ]
    ends_down (branching y ∷ us) w g u t r m = elim r [ ]
    ends_down (spawning y e qs ps ∷ us) w g u t r m = elim r [ ]

    pub ends_any : (us : List Up) (w : Who) (g h : Giver) (u : Typing) → Ends_in c n pre post trees rs gs k us w g true u →
        Ends_in c n pre post trees rs gs k us w h true u
    ends_any (clearing (resuming y v) ts ∷ us) w g h u r = r
    ends_any (clearing (closing x v) ts ∷ us) w g h u r = r
    ends_any (clearing (finishing x e v) ts ∷ us) w g h u r = r
    ends_any [] w g h u r = elim r [ ]
    ends_any (begins y kd p ps q ls ∷ us) w g h u r = elim r [ ]
    ends_any (branching y ∷ us) w g h u r = elim r [ ]
    ends_any (spawning y e qs ps ∷ us) w g h u r = elim r [ ]

  module _ (ok : Known c n) where
    pub no_true : {A : Type 0} → false ≡ true → A
    no_true e = cc

    first_few : {u : Sort} (xs : List Sort) (a : Sort) (ys : List Sort) → AllIn c n u (xs ++ a ∷ ys) → AllIn c n u (xs ++ a ∷ [])
    first_few [] a ys (in_so f r) = in_so f in_no
    first_few (x ∷ xs) a ys (in_so f r) = in_so f (first_few xs a ys r)

    -- an arm or a task behind is over
    pub part_good : {t : Typing} {w : Who} {pre post : List Task} {us : List Up} {trees : Trees} {s : State} {b : Sort} (u : Val) →
        UpsAre c n t w us → (us ≡ [] → Parented c n ok w.up post) → w.role ≡ part → t.parts w.number ≡ Some b → Of c n t u b →
        Calm c n t w pre post us trees s → Fine_step c n (part_ends w.up w.number u pre post us trees s)
    part_good {w = w} u ups_no there role e i q =
        climbs_good c n ok w.up w.number u (there refl) e i q.tasked.pre_are q.tasked.post_are (record {
          store = q.store;
          fresh = q.fresh;
          clocked = q.clocked;
          ups = q.ups;
          tasked = record { pre_are = tasks_no; post_are = tasks_no; before_are = q.tasked.before_are; behind_are = q.tasked.behind_are };
        })
    part_good {t = t} {w = w} {pre = pre} {post = post} {trees = trees} {s = s} {b = b} u (ups_begin {y = y} {k = k} {p = p} {gs = gs}
        {m = m} {ls = ls} {us = us} other number d ups) there role e i q =
        by_kind k d.gives
      where
        value : Of c n t u d.running
        value = is_up (parent_of n) (subst (Of c n t u) (same_Some _ _ (sym e ∙ subst (λ m. t.parts m ≡ Some d.given) number d.names)) i)
            d.fits

        parts : PartsAre c n t (gs ++ did u ∷ []) (d.before ++ d.running ∷ [])
        parts = parts_joined c n d.parts (part_did value parts_no)

        by_kind : (k : Kind) → KindGives c n k (d.before ++ d.running ∷ d.after) d.result →
            Fine_step c n (arm_did k p (gs ++ did u ∷ []) ls y pre post us trees s (λ y. rested (y ∷ pre) post us trees s))
        by_kind sync g =
            next_good c n ok d.result sync p y _ (calm_for c n ok q ups) d.thread parts d.labels (subst (λ rs. KindGives c n sync rs
            d.result) (sym (append_assoc d.before (d.running ∷ []) d.after)) g) (λ x same j. rested_good c n ok ups (calm_more c n ok x j
            (calm_for c n ok q ups)))
        by_kind race (first_gives g) =
            grouped_good c n ok d.result race p y _ (calm_for c n ok q ups) d.thread parts (first_gives (first_few d.before d.running
            d.after g)) (λ x same j. rested_good c n ok ups (calm_more c n ok x j (calm_for c n ok q ups)))
        by_kind rush g =
            next_good c n ok d.result rush p y _ (calm_for c n ok q ups) d.thread parts d.labels (subst (λ rs. KindGives c n rush rs
            d.result) (sym (append_assoc d.before (d.running ∷ []) d.after)) g) (λ x same j. rested_good c n ok ups (calm_more c n ok x j
            (calm_for c n ok q ups)))
    part_good u (ups_branch {y = y} other r ups) there role e i q =
        resumes_good c n sort.unit y v.unit (calm_for c n ok q ups) r is_unit
    part_good u (ups_spawn other h r ps qs ups) there role e i q = elim (no_root (sym role ∙ other)) [ ]
      where
        no_root : {e : Option ℕ} → part ≡ root e → ⊥
        no_root e = cc

    pub calm_of : {t : Typing} {w : Who} {pre post : List Task} {us : List Up} {trees : Trees} {s : State} {g : Giver} → StoreIs c n t
        s.memory.store → Fresh c n (World_is c n) t s.clock.left → Ends_in c n pre post trees s.clock.results s.clock.signals s.clock.next
        us w g false t → Calm c n t w pre post us trees s
    calm_of z f r = record { store = z; fresh = f; clocked = r.2; ups = r.1; tasked = r.3 }

    -- a finished root's result
    results_set : {t : Typing} {rs : List (Option Given)} {xs : List Sort} {a : Sort} (e : ℕ) (g : Given) → ResultsAre c n t rs xs →
        at xs e ≡ Some a → Of c n t g.value a → ResultsAre c n t (set_at rs e (Some g)) xs
    results_set e g results_no h i = results_no
    results_set {t = t} zero g (result_none r) h i = result_some (subst (Of c n t g.value) (sym (same_Some _ _ h)) i) r
    results_set {t = t} zero g (result_some j r) h i = result_some (subst (Of c n t g.value) (sym (same_Some _ _ h)) i) r
    results_set (suc e) g (result_none r) h i = result_none (results_set e g r h i)
    results_set (suc e) g (result_some j r) h i = result_some j (results_set e g r h i)

    finish_calm : {t : Typing} {w : Who} {pre post : List Task} {us : List Up} {trees : Trees} {s : State} {g : Giver} (e : Option ℕ)
        (u : Val) → w.role ≡ root e → RoleIs c n t w.role w.number g → Of c n t u g.result → Calm c n t w pre post us trees s →
        Calm c n t w pre post us trees (with_result e u s)
    finish_calm None u role r i q = q
    finish_calm {t = t} {w = w} {s = s} {g = g} (Some e) u role r i q = record {
      store = q.store;
      fresh = q.fresh;
      clocked = record {
        results = by_role (subst (λ z. RoleIs c n t z w.number g) role r);
        signals = q.clocked.signals;
        waits = q.clocked.waits;
      };
      ups = q.ups;
      tasked = q.tasked;
    }
      where
        by_role : RoleIs c n t (root (Some e)) w.number g →
            ResultsAre c n t (set_at s.clock.results e (Some (record { value = u; moment = s.clock.now }))) t.entries
        by_role (root_is p h f) = results_set e _ q.clocked.results h (is_up (parent_of n) i f)

    pub root_over : {t : Typing} {w : Who} {pre post : List Task} {us : List Up} {trees : Trees} {s : State} {g : Giver} (e : Option ℕ)
        (u : Val) → w.role ≡ root e → RoleIs c n t w.role w.number g → Of c n t u g.result → Calm c n t w pre post us trees s →
        Fine_step c n (root_ends pre post us trees (with_result e u s))
    root_over e u role r i q = root_good c n ok role q.ups (finish_calm e u role r i q)

    pub part_over : {t : Typing} {w : Who} {pre post : List Task} {us : List Up} {trees : Trees} {s : State} {g : Giver} (u : Val) →
        g.part ≡ true → RoleIs c n t w.role w.number g → Of c n t u g.result → (us ≡ [] → w.role ≡ part → Parented c n ok w.up post) →
        Calm c n t w pre post us trees s → Fine_step c n (role_ends w.role w u (world pre post us trees) s)
    part_over {t = t} {w = w} {pre = pre} {post = post} {us = us} {trees = trees} {s = s} {g = g} u is r i there q = by_role r refl
      where
        by_role : {z : Role} → RoleIs c n t z w.number g → w.role ≡ z → Fine_step c n (role_ends z w u (world pre post us trees) s)
        by_role (main_is e) same = no_true (sym e ∙ is)
        by_role (root_is e h f) same = no_true (sym e ∙ is)
        by_role (part_is e h f) same = part_good u q.ups (λ none. there none same) same h (is_up (parent_of n) i f) q

    -- a task that is cancelled has its parent, or what is to end
    abbrev pub Placed : List Up → After → List Task → Type 0
    Placed us (resuming y v) post = Unit {0}
    Placed us (closing w v) post = us ≡ [] → w.role ≡ part → Parented c n ok w.up post
    Placed us (finishing w e v) post = Unit {0}

    -- what follows where all is cancelled
    pub follows_good : {t : Typing} (pre post : List Task) (us : List Up) (trees : Trees) (s : State) (after : After) (ts : List Task)
        (w : Who) (g : Giver) → Placed us after post → StoreIs c n t s.memory.store → Fresh c n (World_is c n) t s.clock.left →
        Ends_in c n pre post trees s.clock.results s.clock.signals s.clock.next (clearing after ts ∷ us) w g true t →
        Fine_step c n (follows after (world pre post us trees) s)
    follows_good {t = t} pre post us trees s (resuming y v) ts w g there z f r =
        resume_good c n y v (world pre post us trees) s t (coming false r.1) r.3 r.2 z f
    follows_good pre post us trees s (closing x v) ts w g there z f r =
        part_over {g = closing_with r.1} v refl r.3.0.1 r.2 there (calm_of z f r.3)
    follows_good pre post us trees s (finishing x e v) ts w g there z f r =
        root_over {g = coming false r.1} e v r.3 r.4.0.1 r.2 (calm_of z f r.4)

    -- what a cancelled task's last frame leaves
    pub cleared_good : {t : Typing} (pre post : List Task) (trees : Trees) (s : State) (us : List Up) (w : Who) (g : Giver) →
        ((after : After) (ts : List Task) (vs : List Up) → us ≡ clearing after ts ∷ vs → Placed vs after post) → StoreIs c n t
        s.memory.store → Fresh c n (World_is c n) t s.clock.left →
        Ends_in c n pre post trees s.clock.results s.clock.signals s.clock.next us w g true t → Fine_step c n (cleared us pre post trees s)
    cleared_good pre post trees s [] w g there z f r = elim r [ ]
    cleared_good pre post trees s (begins y kd p ps m ls ∷ us) w g there z f r = elim r [ ]
    cleared_good pre post trees s (branching y ∷ us) w g there z f r = elim r [ ]
    cleared_good pre post trees s (spawning y e qs ps ∷ us) w g there z f r = elim r [ ]
    cleared_good pre post trees s (clearing (resuming y v) ts ∷ us) w g there z f r =
        clears_tasks c n ok _ (resuming y v) ts _ r.0 z f (λ ts w g k. (k, r.1, r.2, r.3))
        (follows_good pre post us trees s (resuming y v) ts w g (there _ _ _ refl) z f r)
    cleared_good pre post trees s (clearing (closing x v) ts ∷ us) w g there z f r =
        clears_tasks c n ok _ (closing x v) ts _ r.0 z f (λ ts w g k. (k, r.1, r.2, r.3))
        (follows_good pre post us trees s (closing x v) ts w g (there _ _ _ refl) z f r)
    cleared_good pre post trees s (clearing (finishing x e v) ts ∷ us) w g there z f r =
        clears_tasks c n ok _ (finishing x e v) ts _ r.0 z f (λ ts w g k. (k, r.1, r.2, r.3, r.4))
        (follows_good pre post us trees s (finishing x e v) ts w g (there _ _ _ refl) z f r)
