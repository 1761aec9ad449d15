-- Parents stand behind their children in the trees that are spelled.
use Rattle.std.proofs.Common.{◌≡◌, ℕ, ◌≤◌, ◌<◌, List, [], ◌∷◌, ◌++◌, Option, true, refl, sym}
use Rattle.std.proofs.Common.{subst, ap, ◌∙◌}
use Rattle.verse_code_machine.specs.Tasks.{Frame, root, Task}
use Rattle.verse_code_machine.specs.Frames.{free}
use Rattle.verse_code_machine.specs.Runs.{Forest}
use Rattle.verse_code_machine_parents.specs.Parents.{whos, HasParent, here, later, Rooted, rooted_no, rooted_root}
use Rattle.verse_code_machine_parents.specs.Parents.{rooted_part, HandlersBorn, Born, Still}
use Rattle.verse_code_machine_parents.specs.Parents.{AllStill, TreesRooted}
use Rattle.run_save_shots.specs.Lists.{Each}
use Rattle.run_save_kept.specs.Orders.{last}
use Rattle.run_save_births.specs.Births.{births}
use Rattle.run_save_same.specs.Alike.{FrameAlike, FramesAlike}
use Rattle.run_save_same.proofs.Framing.{Rested, all_rested}
use Rattle.run_save_same.proofs.Pairs.{EachPair}
use Rattle.run_save_same.proofs.Depths.{lowest}

-- ---- a suspended task

rested_free : (f : Frame) (fs : List Frame) → Rested f → Each Rested fs → free f.handlers f.life.noted fs ≡ true
rested_free f [] a b = ap (λ hs. free hs f.life.noted []) a.handlers ∙ ap (λ ns. free [] ns []) a.noted
rested_free f (g ∷ fs) a b = ap (λ hs. free hs f.life.noted (g ∷ fs)) a.handlers ∙
    (ap (λ ns. free [] ns (g ∷ fs)) a.noted ∙ rested_free g fs b.0 b.1)

rested_alike : (g h : Frame) → FrameAlike g h → Rested g → Rested h
rested_alike g h l a = record { noted = sym l.noted ∙ a.noted; handlers = sym l.handlers ∙ a.handlers }

all_alike : (gs hs : List Frame) → FramesAlike gs hs → Each Rested gs → Each Rested hs
all_alike [] [] l a = tt
all_alike [] (h ∷ hs) l a = absurd l
all_alike (g ∷ gs) [] l a = absurd l
all_alike (g ∷ gs) (h ∷ hs) l a = (rested_alike g h l.0 a.0, all_alike gs hs l.1 a.1)

born_of : (n : ℕ) (g : Frame) (fs : List Frame) → Rested g → Each Rested fs → lowest (g ∷ fs) ≡ n →
    Born n g.life g.handlers fs
born_of n g [] a b e = (e, subst (HandlersBorn n) (sym a.handlers) tt)
born_of n g (f ∷ fs) a b e = born_of n f fs b.0 b.1 e

pub lowest_last : (fs : List Frame) → lowest fs ≡ last (births fs)
lowest_last [] = refl
lowest_last (f ∷ []) = refl
lowest_last (f ∷ g ∷ fs) = lowest_last (g ∷ fs)

pub still_alike : (y u : Task) → FrameAlike y.thread.frame u.thread.frame →
    FramesAlike y.thread.below u.thread.below → Still y.thread →
    lowest (u.thread.frame ∷ u.thread.below) ≡ u.thread.who.number → Still u.thread
still_alike y u l m a e =
    let r = all_rested y.thread.frame y.thread.below a.free in
    let f = rested_alike y.thread.frame u.thread.frame l r.0 in
    let fs = all_alike y.thread.below u.thread.below m r.1 in
    record {
      born = born_of u.thread.who.number u.thread.frame u.thread.below f fs e;
      free =
          rested_free u.thread.frame u.thread.below f fs;
    }

-- ---- trees

-- what is known of a task and the one that is spelled for it
pub record Matched (left : ℕ) (y u : Task) : Type 0 where
  pub role : y.thread.who.role ≡ u.thread.who.role
  pub path : u.thread.who.path ≡ u.thread.who.up ++ u.thread.who.number ∷ []
  pub alone : (entry : Option ℕ) → y.thread.who.role ≡ root entry → u.thread.who.up ≡ []
  pub above : left ≤ u.thread.who.number
  pub still : Still u.thread

-- the first is the other's parent, and so are those that are spelled for them
pub record Over (t v y u : Task) : Type 0 where
  pub path : v.thread.who.path ≡ u.thread.who.up
  pub number : u.thread.who.number < v.thread.who.number

module _ (left : ℕ) (R : Task → Task → Type 0) (stand : (y u : Task) → R y u → Matched left y u)
    (over : (y u t v : Task) → R y u → R t v →
    t.thread.who.path ≡ y.thread.who.up → Over t v y u) where
  parent_pair : (y u : Task) → R y u → (ts vs : List Task) → EachPair R ts vs →
      HasParent y.thread.who.up y.thread.who.number (whos ts) →
      HasParent u.thread.who.up u.thread.who.number (whos vs)
  parent_pair y u r [] [] a h = elim h [ ]
  parent_pair y u r [] (v ∷ vs) a h = absurd a
  parent_pair y u r (t ∷ ts) [] a h = absurd a
  parent_pair y u r (t ∷ ts) (v ∷ vs) a (here e l) = let o = over y u t v r a.0 e in here o.path o.number
  parent_pair y u r (t ∷ ts) (v ∷ vs) a (later h) = later (parent_pair y u r ts vs a.1 h)

  rooted_pair : (ts vs : List Task) → EachPair R ts vs → Rooted left (whos ts) → Rooted left (whos vs)
  rooted_pair [] [] a r = rooted_no
  rooted_pair [] (v ∷ vs) a r = absurd a
  rooted_pair (t ∷ ts) [] a r = absurd a
  rooted_pair (t ∷ ts) (v ∷ vs) a (rooted_root e p k r) = let d = stand t v a.0 in
      rooted_root (sym d.role ∙ e) (d.path ∙ ap (λ up. up ++ v.thread.who.number ∷ []) (d.alone _ e)) d.above
      (rooted_pair ts vs a.1 r)
  rooted_pair (t ∷ ts) (v ∷ vs) a (rooted_part e p k b r) = let d = stand t v a.0 in
      rooted_part (sym d.role ∙ e) d.path d.above (parent_pair t v a.0 ts vs a.1 b) (rooted_pair ts vs a.1 r)

  still_pair : (ts vs : List Task) → EachPair R ts vs → AllStill vs
  still_pair [] [] a = tt
  still_pair [] (v ∷ vs) a = absurd a
  still_pair (t ∷ ts) [] a = absurd a
  still_pair (t ∷ ts) (v ∷ vs) a = ((stand t v a.0).still, still_pair ts vs a.1)

  pub trees_rooted_pair : (tss vss : Forest) → EachPair (EachPair R) tss vss → TreesRooted left tss →
      TreesRooted left vss
  trees_rooted_pair [] [] a r = tt
  trees_rooted_pair [] (vs ∷ vss) a r = absurd a
  trees_rooted_pair (ts ∷ tss) [] a r = absurd a
  trees_rooted_pair (ts ∷ tss) (vs ∷ vss) a r =
      (rooted_pair ts vs a.0 r.0, still_pair ts vs a.0, trees_rooted_pair tss vss a.1 r.2)
