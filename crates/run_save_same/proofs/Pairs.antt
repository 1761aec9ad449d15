-- Two lists of tasks whose parents stand alike grow alike.
use Rattle.std.proofs.Common.{◌≡◌, map, List, [], ◌∷◌, ◌++◌, Bool, true, false, cond}
use Rattle.verse_code_machine.specs.Tasks.{Role, root, part, Task, same_path}
use Rattle.verse_code_machine.specs.Runs.{Forest}
use Rattle.run_save_shots.specs.Spelling.{before_parent, planted, grown}
use Rattle.run_save_same.specs.Alike.{TaskAlike, TasksAlike, TreesAlike}

abbrev pub EachPair : {A B : Type 0} → (A → B → Type 0) → List A → List B → Type 0
EachPair P [] [] = Unit {0}
EachPair P (x ∷ xs) (y ∷ ys) = P x y × EachPair P xs ys
EachPair P [] (y ∷ ys) = ⊥
EachPair P (x ∷ xs) [] = ⊥

module _ (R : Task → Task → Type 0) (tests : (y u t v : Task) → R y u → R t v →
    same_path y.thread.who.up t.thread.who.path ≡ same_path u.thread.who.up
    v.thread.who.path) (roles : (y u : Task) → R y u → y.thread.who.role ≡ u.thread.who.role) where
  before_pair : (y u : Task) (ts vs : List Task) → R y u → EachPair R ts vs → EachPair R (before_parent y ts) (before_parent u vs)
  before_pair y u [] [] r a = tt
  before_pair y u [] (v ∷ vs) r a = absurd a
  before_pair y u (t ∷ ts) [] r a = absurd a
  before_pair y u (t ∷ ts) (v ∷ vs) r a = by_test (same_path y.thread.who.up t.thread.who.path)
      (same_path u.thread.who.up v.thread.who.path) (tests y u t v r a.0) (before_pair y u ts vs r a.1)
    where
      by_test : (b d : Bool) → b ≡ d → EachPair R (before_parent y ts) (before_parent u vs) →
          EachPair R (cond b (y ∷ t ∷ ts) (t ∷ before_parent y ts)) (cond d (u ∷ v ∷ vs) (v ∷ before_parent u vs))
      by_test true true e h = (r, a)
      by_test false false e h = (a.0, h)
      by_test true false e h = absurd (cc)
      by_test false true e h = absurd (cc)

  map_pair : (y u : Task) (tss vss : Forest) → R y u → EachPair (EachPair R) tss vss →
      EachPair (EachPair R) (map (before_parent y) tss) (map (before_parent u) vss)
  map_pair y u [] [] r a = tt
  map_pair y u [] (vs ∷ vss) r a = absurd a
  map_pair y u (ts ∷ tss) [] r a = absurd a
  map_pair y u (ts ∷ tss) (vs ∷ vss) r a = (before_pair y u ts vs r a.0, map_pair y u tss vss r a.1)

  end_pair : (y u : Task) (tss vss : Forest) → R y u → EachPair (EachPair R) tss vss →
      EachPair (EachPair R) (tss ++ (y ∷ []) ∷ []) (vss ++ (u ∷ []) ∷ [])
  end_pair y u [] [] r a = ((r, tt), tt)
  end_pair y u [] (vs ∷ vss) r a = absurd a
  end_pair y u (ts ∷ tss) [] r a = absurd a
  end_pair y u (ts ∷ tss) (vs ∷ vss) r a = (a.0, end_pair y u tss vss r a.1)

  planted_pair : (p q : Role) (y u : Task) (tss vss : Forest) → p ≡ q → R y u → EachPair (EachPair R) tss vss →
      EachPair (EachPair R) (planted p y tss) (planted q u vss)
  planted_pair (root i) (root j) y u tss vss e r a = end_pair y u tss vss r a
  planted_pair part part y u tss vss e r a = map_pair y u tss vss r a
  planted_pair (root i) part y u tss vss e r a = absurd (cc)
  planted_pair part (root j) y u tss vss e r a = absurd (cc)

  pub grown_pair : (ys us : List Task) (tss vss : Forest) → EachPair R ys us → EachPair (EachPair R) tss vss →
      EachPair (EachPair R) (grown tss ys) (grown vss us)
  grown_pair [] [] tss vss a b = b
  grown_pair [] (u ∷ us) tss vss a b = absurd a
  grown_pair (y ∷ ys) [] tss vss a b = absurd a
  grown_pair (y ∷ ys) (u ∷ us) tss vss a b =
      grown_pair ys us (planted y.thread.who.role y tss) (planted u.thread.who.role u vss) a.1
      (planted_pair y.thread.who.role u.thread.who.role y u tss vss (roles y u a.0) a.0 b)

  module _ (alike : (y u : Task) → R y u → TaskAlike y u) where
    tasks_alike : (ts vs : List Task) → EachPair R ts vs → TasksAlike ts vs
    tasks_alike [] [] a = tt
    tasks_alike [] (v ∷ vs) a = absurd a
    tasks_alike (t ∷ ts) [] a = absurd a
    tasks_alike (t ∷ ts) (v ∷ vs) a = (alike t v a.0, tasks_alike ts vs a.1)

    pub trees_alike : (tss vss : Forest) → EachPair (EachPair R) tss vss → TreesAlike tss vss
    trees_alike [] [] a = tt
    trees_alike [] (vs ∷ vss) a = absurd a
    trees_alike (ts ∷ tss) [] a = absurd a
    trees_alike (ts ∷ tss) (vs ∷ vss) a = (tasks_alike ts vs a.0, trees_alike tss vss a.1)
