-- The tasks of each tree stand in the order in which they began, each before its parent.
use Rattle.std.proofs.Common.{◌≡◌, ℕ, suc, ◌≤◌, List, [], ◌∷◌, ◌++◌, Option, Some, None, Bool, true, false, cond, refl, sym, subst, ap}
use Rattle.std.proofs.Common.{arith, ◌∙◌}
use Rattle.verse_code.specs.declared.codes.Code.{Code}
use Rattle.verse_code_machine.specs.Tasks.{Who, Task, After, resuming, closing, finishing, Up, begins, branching, spawning, clearing}
use Rattle.verse_code_machine.specs.Tasks.{Trees, child_named, onto}
use Rattle.verse_code_machine.specs.Tasks.{since, beneath_arms}
use Rattle.verse_code_machine.specs.Cancelling.{without}
use Rattle.verse_code_machine.specs.Runs.{Forest}
use Rattle.verse_code_machine_parents.specs.Parents.{whos, line, UpsRooted}
use Rattle.verse_code_machine_parents.proofs.Lists.{onto_line}
use Rattle.run_save_shots.specs.Lists.{Each}
use Rattle.run_save_shots.proofs.Lists.{each_join, each_front, each_back, all_as}
use Rattle.run_save_moves.specs.Moves as m
use Rattle.run_save_moves.specs.Moves.{Point, Move}
use Rattle.run_save_fits.specs.Held.{IsSome, WhoIs}
use Rattle.run_save_fits.proofs.Holding.{child_who, role_some}
use Rattle.run_save_kept.specs.Orders.{NoneBelow, first, StandsBefore, Sits, Lined}
use Rattle.run_save_kept.proofs.Paths.{below_less, below_end, child_before, before_child, child_behind}

-- ---- lines

pub lined_less : (l k : ℕ) (ws : List Who) → l ≤ k → Lined k ws → Lined l ws
lined_less l k [] h a = tt
lined_less l k (w ∷ ws) h a = (record { named = a.0.named; above = below_less l k w.path h a.0.above }, a.1, lined_less l k ws h a.2)

-- some are taken out
pub data Among : List Who → List Who → Type 0 where
  among_none : Among [] []
  among_both : {w : Who} {vs ws : List Who} → Among vs ws → Among (w ∷ vs) (w ∷ ws)
  among_more : {w : Who} {vs ws : List Who} → Among vs ws → Among vs (w ∷ ws)

pub among_all : (ws : List Who) → Among ws ws
among_all [] = among_none
among_all (w ∷ ws) = among_both (among_all ws)

each_among : (P : Who → Type 0) {vs ws : List Who} → Among vs ws → Each P ws → Each P vs
each_among P among_none a = tt
each_among P (among_both h) a = (a.0, each_among P h a.1)
each_among P (among_more h) a = each_among P h a.1

lined_among : (l : ℕ) {vs ws : List Who} → Among vs ws → Lined l ws → Lined l vs
lined_among l among_none a = tt
lined_among l (among_both {w = w} h) a = (a.0, each_among (λ (v : Who). StandsBefore w.path v.path) h a.1, lined_among l h a.2)
lined_among l (among_more h) a = lined_among l h a.2

line_among : (xs : List Task) {vs ws : List Who} → Among vs ws → Among (line xs vs) (line xs ws)
line_among [] h = h
line_among (x ∷ xs) h = line_among xs (among_both h)

whos_among : (f : List ℕ → Bool) (ts : List Task) → Among (whos (without f ts)) (whos ts)
whos_among f [] = among_none
whos_among f (t ∷ ts) = by_test (f t.thread.who.path) (whos_among f ts)
  where
    by_test : (b : Bool) → Among (whos (without f ts)) (whos ts) →
        Among (whos (cond b (without f ts) (t ∷ without f ts))) (t.thread.who ∷ whos ts)
    by_test true h = among_more h
    by_test false h = among_both h

line_without : (f : List ℕ → Bool) (xs : List Task) {vs ws : List Who} → Among vs ws → Among (line (without f xs) vs) (line xs ws)
line_without f [] h = h
line_without f (x ∷ xs) {vs = vs} {ws = ws} h =
    by_test (f x.thread.who.path) (line_without f xs (among_more h)) (line_without f xs (among_both h))
  where
    by_test : (b : Bool) → Among (line (without f xs) vs) (line xs (x.thread.who ∷ ws)) →
        Among (line (without f xs) (x.thread.who ∷ vs)) (line xs (x.thread.who ∷ ws)) →
        Among (line (cond b (without f xs) (x ∷ without f xs)) vs) (line xs (x.thread.who ∷ ws))
    by_test true g h = g
    by_test false g h = h

-- a child is put before its parent
data Puts (v w : Who) : List Who → List Who → Type 0 where
  puts_here : {ws : List Who} → Puts v w (w ∷ ws) (v ∷ w ∷ ws)
  puts_later : {x : Who} {us ws : List Who} → Puts v w us ws → Puts v w (x ∷ us) (x ∷ ws)

line_puts : {v w : Who} (xs : List Task) {us ws : List Who} → Puts v w us ws → Puts v w (line xs us) (line xs ws)
line_puts [] h = h
line_puts (x ∷ xs) h = line_puts xs (puts_later h)

child_sits : (l : ℕ) (w : Who) → Sits (suc l) w → Sits l (child_named w l)
child_sits l w a = record {
  named = child_who w l a.named;
  above = below_end l w.path (below_less l (suc l) w.path (omega arith) a.above);
}

first_end : (a : List ℕ) (n : ℕ) → IsSome a → first (a ++ n ∷ []) ≡ first a
first_end [] n s = absurd s
first_end (i ∷ a) n s = refl

-- and each of them is a task
some_path : (w : Who) → WhoIs w → IsSome w.path
some_path w a = role_some w.role w a

each_puts : (l : ℕ) (x w : Who) {us ws : List Who} → Puts (child_named w l) w us ws → NoneBelow (suc l) x.path → WhoIs w →
    Each (λ (v : Who). StandsBefore x.path v.path) us → Each (λ (v : Who). StandsBefore x.path v.path) ws
each_puts l x w puts_here h b a = ((before_child x.path w.path l h a.0.0, a.0.1 ∙ sym (first_end w.path l (some_path w b))), a)
each_puts l x w (puts_later p) h b a = (a.0, each_puts l x w p h b a.1)

puts_named : (l : ℕ) (w : Who) {us ws : List Who} → Puts (child_named w l) w us ws → Lined (suc l) us → WhoIs w
puts_named l w puts_here a = a.0.named
puts_named l w (puts_later p) a = puts_named l w p a.2

lined_puts : (l : ℕ) (w : Who) {us ws : List Who} → Puts (child_named w l) w us ws → Lined (suc l) us → Lined l ws
lined_puts l w (puts_here {ws = ws}) a = (
  child_sits l w a.0,
  (
    (child_before w.path l, first_end w.path l (some_path w a.0.named)),
    all_as (λ (v : Who). StandsBefore w.path v.path) (λ (v : Who). StandsBefore (w.path ++ l ∷ []) v.path) (λ v b. (
      child_behind w.path v.path l b.0,
      first_end
          w.path l (some_path w a.0.named) ∙ b.1,
    )) ws a.1,
  ),
  lined_less l (suc l) (w ∷ ws) (omega arith) a,
)
lined_puts l w (puts_later {x = x} p) a = (
  record { named = a.0.named; above = below_less l (suc l) x.path (omega arith) a.0.above },
  each_puts l x w p a.0.above (puts_named l w p a.2) a.1,
  lined_puts l w p a.2,
)

-- ---- who stands in the tree of the one that runs

abbrev pub in_front : Option Who → List Who → List Who
in_front None ws = ws
in_front (Some w) ws = w ∷ ws

-- the task that goes on where all is cancelled
abbrev pub goes_on : After → Option Who
goes_on (resuming x v) = Some x.who
goes_on (closing w v) = None
goes_on (finishing w entry v) = None

-- a task that runs, or none, and those that wait for it; a cancelled one does not stand among them
abbrev pub row : Option Who → List Up → List Who → List Who
row o [] ws = in_front o ws
row o (begins x k p gs n ls ∷ us) ws = in_front o (x.who ∷ row None us ws)
row o (branching x ∷ us) ws = in_front o (x.who ∷ row None us ws)
row o (spawning x entry ps qs ∷ us) ws = in_front o ws
row o (clearing a ts ∷ us) ws = row (goes_on a) us ws

abbrev pub seated : Who → List Up → List Who → List Who
seated w us ws = row (Some w) us ws

abbrev pub above : List Up → List Who → List Who
above us ws = row None us ws

abbrev pub behind : After → List Up → List Who → List Who
behind a us ws = row (goes_on a) us ws

seated_among : (w : Who) (us : List Up) (ws : List Who) → Among (seated w us ws) (w ∷ above us ws)
seated_among w [] ws = among_all (w ∷ ws)
seated_among w (begins x k p gs n ls ∷ us) ws = among_all (w ∷ x.who ∷ above us ws)
seated_among w (branching x ∷ us) ws = among_all (w ∷ x.who ∷ above us ws)
seated_among w (spawning x entry ps qs ∷ us) ws = among_all (w ∷ ws)
seated_among w (clearing a ts ∷ us) ws = among_more (among_all (behind a us ws))

above_among : (w : Who) (us : List Up) (ws : List Who) → Among (above us ws) (seated w us ws)
above_among w [] ws = among_more (among_all ws)
above_among w (begins x k p gs n ls ∷ us) ws = among_more (among_all (x.who ∷ above us ws))
above_among w (branching x ∷ us) ws = among_more (among_all (x.who ∷ above us ws))
above_among w (spawning x entry ps qs ∷ us) ws = among_more (among_all ws)
above_among w (clearing a ts ∷ us) ws = among_all (behind a us ws)

-- where none is cancelled the one that runs stands among the others
seated_is : (left : ℕ) (w : Who) (us : List Up) (ws : List Who) → UpsRooted left us → seated w us ws ≡ w ∷ above us ws
seated_is left w [] ws r = refl
seated_is left w (begins x k p gs n ls ∷ us) ws r = refl
seated_is left w (branching x ∷ us) ws r = refl
seated_is left w (spawning x entry ps qs ∷ us) ws r = refl
seated_is left w (clearing a ts ∷ us) ws r = absurd r

-- of the same with fewer behind
front_of : (o : Option Who) {vs ws : List Who} → Among vs ws → Among (in_front o vs) (in_front o ws)
front_of None h = h
front_of (Some w) h = among_both h

row_of : (o : Option Who) (us : List Up) {vs ws : List Who} → Among vs ws → Among (row o us vs) (row o us ws)
row_of o [] h = front_of o h
row_of o (begins x k p gs n ls ∷ us) h = front_of o (among_both (row_of None us h))
row_of o (branching x ∷ us) h = front_of o (among_both (row_of None us h))
row_of o (spawning x entry ps qs ∷ us) h = front_of o h
row_of o (clearing a ts ∷ us) h = row_of (goes_on a) us h

abbrev pub LinesBelow : ℕ → List Up → Type 0
LinesBelow left [] = Unit {0}
LinesBelow left (begins x k p gs n ls ∷ us) = LinesBelow left us
LinesBelow left (branching x ∷ us) = LinesBelow left us
LinesBelow left (spawning x entry ps qs ∷ us) = Lined left (line ps (seated x.who us (whos qs))) × LinesBelow left us
LinesBelow left (clearing a ts ∷ us) = LinesBelow left us

abbrev pub TreesLined : ℕ → Forest → Type 0
TreesLined left tss = Each (λ ts. Lined left (whos ts)) tss

-- the line of the one that runs, and all others
pub record Rows (left : ℕ) (ws : List Who) (us : List Up) (trees : Trees) : Type 0 where
  pub own : Lined left ws
  pub below : LinesBelow left us
  pub first : TreesLined left trees.before
  pub later : TreesLined left trees.behind

pub rows : {left : ℕ} {ws : List Who} {us : List Up} {trees : Trees} → Lined left ws → LinesBelow left us → TreesLined left trees.before →
    TreesLined left trees.behind → Rows left ws us trees
rows a b d e = record { own = a; below = b; first = d; later = e }

below_lower : (l k : ℕ) (us : List Up) → l ≤ k → LinesBelow k us → LinesBelow l us
below_lower l k [] h a = tt
below_lower l k (begins x i p gs n ls ∷ us) h a = below_lower l k us h a
below_lower l k (branching x ∷ us) h a = below_lower l k us h a
below_lower l k (spawning x entry ps qs ∷ us) h a = (lined_less l k (line ps (seated x.who us (whos qs))) h a.0, below_lower l k us h a.1)
below_lower l k (clearing a ts ∷ us) h b = below_lower l k us h b

pub trees_lower : (l k : ℕ) (tss : Forest) → l ≤ k → TreesLined k tss → TreesLined l tss
trees_lower l k tss h a = all_as (λ ts. Lined k (whos ts)) (λ ts. Lined l (whos ts)) (λ ts b. lined_less l k (whos ts) h b) tss a

rows_lower : {ws : List Who} {us : List Up} {trees : Trees} (l k : ℕ) → l ≤ k → Rows k ws us trees → Rows l ws us trees
rows_lower {ws = ws} {us = us} {trees = trees} l k h a =
    rows (lined_less l k ws h a.own) (below_lower l k us h a.below) (trees_lower l k trees.before h a.first)
    (trees_lower l k trees.behind h a.later)

rows_among : {left : ℕ} {vs ws : List Who} {us : List Up} {trees : Trees} → Among vs ws → Rows left ws us trees → Rows left vs us trees
rows_among {left = left} h a = record { own = lined_among left h a.own; below = a.below; first = a.first; later = a.later }

rows_as : {left : ℕ} {vs ws : List Who} {us : List Up} {trees : Trees} → vs ≡ ws → Rows left ws us trees → Rows left vs us trees
rows_as {left = left} e a = record { own = subst (Lined left) (sym e) a.own; below = a.below; first = a.first; later = a.later }

abbrev pub Lines : Point → Type 0
Lines (m.acts k) = Rows k.state.clock.left (line k.world.pre (seated k.who k.world.ups (whos k.world.post))) k.world.ups k.world.trees
Lines (m.rests pre post us trees s) = Rows s.clock.left (line pre (above us (whos post))) us trees
Lines (m.gathering k p gs ls x pre post us trees s) = Rows s.clock.left (line pre (x.who ∷ above us (whos post))) us trees
Lines (m.cancels a ts o s) = Rows s.clock.left (line o.pre (behind a o.ups (whos o.post))) o.ups o.trees
Lines (m.going w fs o s) = Rows s.clock.left (line o.pre (seated w o.ups (whos o.post))) o.ups o.trees
Lines (m.ended r w v o s) = Rows s.clock.left (line o.pre (above o.ups (whos o.post))) o.ups o.trees
Lines (m.climbs up n v pre post trees s) = Rows s.clock.left (line pre (whos post)) [] trees
Lines (m.wakes n v tss s) = TreesLined s.clock.left tss
Lines (m.turns s tss) = TreesLined s.clock.left tss

one_lower : (l k : ℕ) → suc l ≡ k → l ≤ k
one_lower l k e = omega (arith, e)

-- of a tree that is suspended whole
among_lined : (left : ℕ) (pre post : List Task) (trees : Trees) → Rows left (line pre (whos post)) [] trees →
    TreesLined left (trees.before ++ onto pre post ∷ trees.behind)
among_lined left pre post trees a = each_join (λ ts. Lined left (whos ts)) trees.before (onto pre post ∷ trees.behind) a.first (
  subst (Lined left) (sym
      (onto_line pre post)) a.own,
  a.later,
)

-- a new child of the first
puts_rows : {us vs : List Up} {trees : Trees} (l k : ℕ) (w : Who) (xs : List Task) (ws : List Who) → suc l ≡ k →
    (LinesBelow k us → LinesBelow k vs) → Rows k (line xs (w ∷ ws)) us trees → Rows l (line xs (child_named w l ∷ w ∷ ws)) vs trees
puts_rows {us = us} {vs = vs} {trees = trees} l k w xs ws e f a =
    rows (lined_puts l w (line_puts xs puts_here) (subst (λ n. Lined n (line xs (w ∷ ws))) (sym e) a.own))
    (below_lower l k vs (one_lower l k e) (f a.below)) (trees_lower l k trees.before (one_lower l k e) a.first)
    (trees_lower l k trees.behind (one_lower l k e) a.later)

pub lines : {c : Code} {x y : Point} → Move c x y → Lines x → Lines y
lines (m.stays {s = s} {u = u} h) a = rows_lower u.clock.left s.clock.left h.ticks.left a
lines m.drops a = a
lines (m.enters {s = s} {l = l} e h p v) a = rows_lower l s.clock.left (one_lower l s.clock.left e) a
lines (m.suspends {w = w} {o = o} {s = s} {f = f} {fs = fs} i p q) a =
    rows_as (sym (ap (line o.pre) (seated_is s.clock.left w o.ups (whos o.post) i.ups))) a
lines (m.spawns {w = w} {o = o} {s = s} {l = l} i e h v) a = let b = rows_lower l s.clock.left (one_lower l s.clock.left e) a in
    rows (record { named = (refl, refl); above = (omega arith, tt) }, tt, tt) (b.own, b.below) b.first b.later
lines (m.branches {w = w} {o = o} {s = s} {l = l} i e) a =
    puts_rows l s.clock.left w o.pre (above o.ups (whos o.post)) e (λ b. b)
    (rows_as (sym (ap (line o.pre) (seated_is s.clock.left w o.ups (whos o.post) i.ups))) a)
lines (m.begins_group {w = w} {o = o} {s = s} i p) a =
    rows_as (sym (ap (line o.pre) (seated_is s.clock.left w o.ups (whos o.post) i.ups))) a
lines (m.returns {w = w} {o = o} {f = f} v) a =
    rows_among (line_without (since w.path f.life.born) o.pre (row_of (Some w) o.ups (whos_among (since w.path f.life.born) o.post))) a
lines (m.finishes {w = w} {o = o} {f = f} r v) a =
    rows_among (line_without (since w.path f.life.born) o.pre (row_of None o.ups (whos_among (since w.path f.life.born) o.post)))
    (rows_among (line_among o.pre (above_among w o.ups (whos o.post))) a)
lines (m.ends {w = w} {o = o} {f = f} r v) a =
    rows_among (line_without (since w.path f.life.born) o.pre (row_of None o.ups (whos_among (since w.path f.life.born) o.post)))
    (rows_among (line_among o.pre (above_among w o.ups (whos o.post))) a)
lines (m.dies h) a = a
lines (m.arm_begins {l = l} {x = x} {pre = pre} {post = post} {us = us} {s = s} e) a =
    puts_rows l s.clock.left x.who pre (above us (whos post)) e (λ b. b) a
lines (m.stands n) a = a
lines (m.gathered {x = x} {pre = pre} {post = post} {us = us} v) a = rows_among (line_among pre (seated_among x.who us (whos post))) a
lines (m.races {gs = gs} {x = x} {pre = pre} {post = post} {us = us} v) a =
    rows_among (line_without (beneath_arms x.who.path gs) pre (row_of (Some x.who) us (whos_among (beneath_arms x.who.path gs) post)))
    (rows_among (line_among pre (seated_among x.who us (whos post))) a)
lines (m.rests_alone {pre = pre} {post = post} {trees = trees} {s = s}) a = among_lined s.clock.left pre post trees a
lines m.rests_arm a = rows a.own a.below a.first a.later
lines (m.rests_behind {x = x} {pre = pre} {post = post} {us = us}) a =
    rows_among (line_among pre (seated_among x.who us (whos post))) (rows a.own a.below a.first a.later)
lines (m.rests_spawned {pre = pre} {post = post} {trees = trees} {s = s}) a =
    rows a.below.0 a.below.1 a.first (each_join (λ ts. Lined s.clock.left (whos ts)) trees.behind (onto pre post ∷ []) a.later
    (subst (Lined s.clock.left) (sym (onto_line pre post)) a.own, tt))
lines m.resumes a = a
lines m.closes a = a
lines (m.gives_result {entry = None}) a = a
lines (m.gives_result {entry = Some e}) a = a
lines m.cancels_next a = rows a.own a.below a.first a.later
lines m.all_gone a = rows a.own a.below a.first a.later
lines m.frame_gone a = a
lines (m.frame_clears {s = s} {l = l} e d) a = rows_lower l s.clock.left (one_lower l s.clock.left e) a
lines m.ended_alone a = a
lines m.ended_arm a = rows a.own a.below a.first a.later
lines (m.ended_behind {x = x} {pre = pre} {post = post} {us = us}) a =
    rows_among (line_among pre (seated_among x.who us (whos post))) (rows a.own a.below a.first a.later)
lines (m.ended_root {pre = pre} {post = post} {trees = trees} {s = s}) a = among_lined s.clock.left pre post trees a
lines m.ended_spawned a = rows a.below.0 a.below.1 a.first a.later
lines (m.climbs_on e) a = a
lines (m.joins_no_group {y = y} {pre = pre} {post = post} {trees = trees} {s = s} e i) a = among_lined s.clock.left pre (y ∷ post) trees a
lines (m.joins e r i) a = a
lines (m.woken {before = before} {behind = rest} {pre = pre} {post = post} {y = y} {s = s} e r i) a =
    let b = subst (TreesLined s.clock.left) e a in let d =
    each_back (λ ts. Lined s.clock.left (whos ts)) before (onto pre (y ∷ post) ∷ rest) b in
    rows (subst (Lined s.clock.left) (onto_line pre (y ∷ post)) d.0) tt
    (each_front (λ ts. Lined s.clock.left (whos ts)) before (onto pre (y ∷ post) ∷ rest) b) d.1
