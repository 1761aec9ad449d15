-- Which task waits for which, by their paths.
use Rattle.std.proofs.Common.{◌≡◌, ℕ, ◌<◌, length, List, [], ◌∷◌, ◌++◌, refl, subst}
use Rattle.verse_code.specs.declared.codes.Code.{Code}
use Rattle.verse_code_machine.specs.Tasks.{root, Who, Task, After, resuming, closing, finishing, Up, begins, branching, spawning}
use Rattle.verse_code_machine.specs.Tasks.{clearing, World, world, onto, since, beneath_arms}
use Rattle.verse_code_machine.specs.Cancelling.{cancelled}
use Rattle.verse_code_machine_parents.specs.Parents.{whos, line}
use Rattle.verse_code_machine_parents.proofs.Lists.{onto_line, child_longer, longer, since_takes, arms_takes}
use Rattle.run_save_shots.specs.Lists.{Each}
use Rattle.run_save_shots.proofs.Lists.{each_back}
use Rattle.run_save_moves.specs.Moves as m
use Rattle.run_save_moves.specs.Moves.{Point, Move}
use Rattle.run_save_fits.specs.Held.{WhoIs}
use Rattle.run_save_kept.specs.Orders.{Lined}
use Rattle.run_save_kept.proofs.Sums.{cancelled_each}
use Rattle.run_save_kept.proofs.Lines.{Lines, TreesLined}

-- the task of which others are cancelled
abbrev pub head : After → Who
head (resuming x v) = x.who
head (closing w v) = w
head (finishing w entry v) = w

abbrev pub Longer : Who → Task → Type 0
Longer w t = length w.path < length t.thread.who.path

abbrev pub Own : After → Type 0
Own (resuming x v) = Unit {0}
Own (closing w v) = Unit {0}
Own (finishing w entry v) = w.role ≡ root entry

-- the task is enclosed by those that wait for it; the one beneath all is known by its name
abbrev pub Rail : Who → List Up → Type 0
Rail w [] = WhoIs w
Rail w (begins x k p gs n ls ∷ us) = (w.path ≡ x.who.path ++ n ∷ []) × Rail x.who us
Rail w (branching x ∷ us) = (length x.who.path < length w.path) × Rail x.who us
Rail w (spawning x entry ps qs ∷ us) = Rail x.who us
Rail w (clearing a ts ∷ us) = (length (head a).path < length w.path) × Each (Longer (head a)) ts × Own a × Rail (head a) us

abbrev pub RailUps : List Up → Type 0
RailUps [] = Unit {0}
RailUps (begins x k p gs n ls ∷ us) = Rail x.who us
RailUps (branching x ∷ us) = Rail x.who us
RailUps (spawning x entry ps qs ∷ us) = Rail x.who us
RailUps (clearing a ts ∷ us) = Unit {0}

abbrev pub Railed : Point → Type 0
Railed (m.acts k) = Rail k.who k.world.ups
Railed (m.rests pre post us trees s) = RailUps us
Railed (m.gathering k p gs ls x pre post us trees s) = Rail x.who us
Railed (m.cancels a ts o s) = Each (Longer (head a)) ts × Own a × Rail (head a) o.ups
Railed (m.going w fs o s) = Rail w o.ups
Railed (m.ended r w v o s) = (w.role ≡ r) × Rail w o.ups
Railed (m.climbs up n v pre post trees s) = Unit {0}
Railed (m.wakes n v tss s) = Unit {0}
Railed (m.turns s tss) = Unit {0}

rail_ups : (w : Who) (us : List Up) → Rail w us → RailUps us
rail_ups w [] a = tt
rail_ups w (begins x k p gs n ls ∷ us) a = a.1
rail_ups w (branching x ∷ us) a = a.1
rail_ups w (spawning x entry ps qs ∷ us) a = a
rail_ups w (clearing b ts ∷ us) a = tt

since_longer : (w : Who) (b : ℕ) (o : World) → Each (Longer w) (cancelled (since w.path b) o)
since_longer w b o = cancelled_each (Longer w) (since w.path b) (λ t e. longer ((since_takes w.path b).deeper t.thread.who.path e)) o

-- the name of a task that stands in a line
sits : (left : ℕ) (xs : List Task) (w : Who) (ws : List Who) → Lined left (line xs (w ∷ ws)) → WhoIs w
sits left [] w ws a = a.0.named
sits left (x ∷ xs) w ws a = second left x.thread.who w ws (tail left xs (x.thread.who ∷ w ∷ ws) a)
  where
    tail : (left : ℕ) (xs : List Task) (ws : List Who) → Lined left (line xs ws) → Lined left ws
    tail left [] ws a = a
    tail left (x ∷ xs) ws a = (tail left xs (x.thread.who ∷ ws) a).2

    second : (left : ℕ) (v w : Who) (ws : List Who) → Lined left (v ∷ w ∷ ws) → WhoIs w
    second left v w ws a = a.2.0.named

pub rails : {c : Code} {x y : Point} → Move c x y → Lines x → Railed x → Railed y
rails (m.stays h) l a = a
rails m.drops l a = a
rails (m.enters e h p v) l a = a
rails (m.suspends {w = w} {o = o} i p q) l a = rail_ups w o.ups a
rails (m.spawns i e h v) l a = a
rails (m.branches {w = w} {l = n} i e) l a = (child_longer w.path n, a)
rails (m.begins_group i p) l a = a
rails (m.returns {w = w} {o = o} {f = f} v) l a = (since_longer w f.life.born o, tt, a)
rails (m.finishes {w = w} {o = o} {f = f} r v) l a = (since_longer w f.life.born o, r, a)
rails (m.ends {w = w} {o = o} {f = f} r v) l a = (since_longer w f.life.born o, tt, a)
rails (m.dies h) l a = a
rails (m.arm_begins e) l a = (refl, a)
rails (m.stands {x = x} {us = us} n) l a = rail_ups x.who us a
rails (m.gathered v) l a = a
rails (m.races {gs = gs} {x = x} {pre = pre} {post = post} {us = us} {trees = trees} v) l a = (
  cancelled_each (Longer x.who) (beneath_arms x.who.path gs) (λ t e. longer ((arms_takes x.who.path gs).deeper t.thread.who.path e))
      (world pre post us
      trees),
  tt,
  a,
)
rails m.rests_alone l a = tt
rails m.rests_arm l a = a
rails m.rests_behind l a = a
rails m.rests_spawned l a = a
rails m.resumes l a = a.2
rails m.closes l a = (refl, a.2)
rails m.gives_result l a = (a.1, a.2)
rails m.cancels_next l a = (a.0.0, a.0.1, a.1, a.2)
rails m.all_gone l a = (a.1, a.2, a.3)
rails m.frame_gone l a = a
rails (m.frame_clears e d) l a = a
rails m.ended_alone l a = tt
rails m.ended_arm l a = a.1.1
rails m.ended_behind l a = a.1.1
rails m.ended_root l a = tt
rails m.ended_spawned l a = a.1
rails (m.climbs_on e) l a = tt
rails (m.joins_no_group e i) l a = tt
rails (m.joins {y = y} {pre = pre} {post = post} {s = s} e r i) l a = sits s.clock.left pre y.thread.who (whos post) l.own
rails (m.woken {before = before} {behind = behind} {pre = pre} {post = post} {y = y} {s = s} e r i) l a =
    sits s.clock.left pre y.thread.who (whos post)
    (subst (Lined s.clock.left) (onto_line pre (y ∷ post))
    (each_back (λ ts. Lined s.clock.left (whos ts)) before (onto pre (y ∷ post) ∷ behind) (subst (TreesLined s.clock.left) e l)).0)
