-- Tasks beside each other: which are beneath which, wakings and ends that pass over others.
use Rattle.std.proofs.Common.{◌≡◌, ℕ, ◌≤◌, ◌<◌, List, [], ◌∷◌, ◌++◌, Bool, true, false, cond, refl, sym, ap, ◌∙◌, subst, arith}
use Rattle.std.proofs.Common.{append_assoc}
use Rattle.verse_value.specs.Val.{Val}
use Rattle.verse_value.specs.declared.runs.Ending.TheVariants as ending
use Rattle.verse_meaning_state.specs.State.{State}
use Rattle.verse_meaning_state.specs.Waits.{Wait, has, eqn}
use Rattle.verse_code_machine.specs.Tasks.{Rest, asleep, group, world, waits_with, Note, Handler, Frame, Who, Task, Trees, World, Over}
use Rattle.verse_code_machine.specs.Tasks.{Turn, onto, among, waits_of, starts, since}
use Rattle.verse_code_machine.specs.Frames.{failing, free}
use Rattle.verse_code_machine.specs.Ends.{climbs, woken, resumes, joined, is_asleep}
use Rattle.lower_simulation.proofs.Paths.{Each, each_map, each_both, each_onto, onto_onto, starts_longer, starts_other, starts_earlier}
use Rattle.lower_simulation.proofs.Paths.{starts_parent, starts_shorter, same_child, since_none, waits_both}
use Rattle.lower_simulation.proofs.Claims.{Around, lefts, Clear, Young, Beneath, Strict, Apart, Keeps}
use Rattle.lower_simulation.proofs.Going.{trans, weak}

pub clear_child : (a : List ℕ) (k q p : ℕ) (ts : List Task) → k < q → Each (Clear a q) ts → Each (Clear (a ++ k ∷ []) p) ts
clear_child a k q p ts lt cl = each_map (Clear a q) (Clear (a ++ k ∷ []) p) ts
    (λ x h i y. starts_longer (a ++ k ∷ []) (i ∷ []) x.thread.who.path (h k lt)) cl

-- not beneath a child with a greater number, or a smaller one
pub clear_other : (a : List ℕ) (k l p : ℕ) (ts : List Task) → k < l → Each (Beneath (a ++ k ∷ [])) ts → Each (Clear (a ++ l ∷ []) p) ts
clear_other a k l p ts lt be = each_map (Beneath (a ++ k ∷ [])) (Clear (a ++ l ∷ []) p) ts
    (λ x h i y. starts_longer (a ++ l ∷ []) (i ∷ []) x.thread.who.path (starts_other a x.thread.who.path k l lt h)) be

pub clear_earlier : (a : List ℕ) (k l p : ℕ) (ts : List Task) → l < k → Each (Beneath (a ++ k ∷ [])) ts → Each (Clear (a ++ l ∷ []) p) ts
clear_earlier a k l p ts lt be = each_map (Beneath (a ++ k ∷ [])) (Clear (a ++ l ∷ []) p) ts
    (λ x h i y. starts_longer (a ++ l ∷ []) (i ∷ []) x.thread.who.path (starts_earlier a x.thread.who.path k l lt h)) be

pub young_up : (a : List ℕ) (k q : ℕ) (ts : List Task) → k < q → Each (Beneath (a ++ k ∷ [])) ts → Each (Young a q) ts
young_up a k q ts lt be = each_map (Beneath (a ++ k ∷ [])) (Young a q) ts
    (λ x h i y. starts_other a x.thread.who.path k i (omega (arith, lt, y)) h) be

pub clear_parent : (a : List ℕ) (k p : ℕ) (x : Task) → x.thread.who.path ≡ a → Clear (a ++ k ∷ []) p x
clear_parent a k p x e = λ i y. starts_longer (a ++ k ∷ []) (i ∷ []) x.thread.who.path
    (subst (λ z. starts (a ++ k ∷ []) z ≡ false) (sym e) (starts_parent a k))

pub beneath_up : (a : List ℕ) (k : ℕ) (ts : List Task) → Each (Beneath (a ++ k ∷ [])) ts → Each (Beneath a) ts
beneath_up a k ts be = each_map (Beneath (a ++ k ∷ [])) (Beneath a) ts (λ x h. starts_shorter a (k ∷ []) x.thread.who.path h) be

pub strict_up : (a : List ℕ) (k : ℕ) (ts : List Task) → Each (Beneath (a ++ k ∷ [])) ts → Each (Strict a) ts
strict_up a k ts be = each_map (Beneath (a ++ k ∷ [])) (Strict a) ts
    (λ x h. (starts_shorter a (k ∷ []) x.thread.who.path h, same_child a x.thread.who.path k h)) be

pub clear_less : (a : List ℕ) (q p : ℕ) (ts : List Task) → p ≤ q → Each (Clear a q) ts → Each (Clear a p) ts
clear_less a q p ts le cl = each_map (Clear a q) (Clear a p) ts (λ x h i y. h i (omega (arith, y, le))) cl

-- what is not beneath a child below q was not begun since q
pub none_since : (a : List ℕ) (g q : ℕ) (ts : List Task) → g ≤ q → Each (Clear a q) ts → Each (λ x. since a g x.thread.who.path ≡ false) ts
none_since a g q ts le cl = each_map (Clear a q) (λ x. since a g x.thread.who.path ≡ false) ts
    (λ x h. since_none a g x.thread.who.path (λ k lt. h k (omega (arith, lt, le)))) cl

-- a wait is looked for behind tasks that do not have it
woken_wait : {A : Type 0} (b : Bool) {q : Bool} → cond b true q ≡ false → (b ≡ false → q ≡ false → A) → A
woken_wait true h g = cc
woken_wait false h g = g refl h

woken_first : (n : ℕ) (v : Val) (s : State) (r : Rest) (x : Task) (pre ts post : List Task) (rs : Trees) → x.rest ≡ r →
    has n (waits_with r (waits_of ts)) ≡ false →
    (has n (waits_of ts) ≡ false → woken n v (x ∷ pre) (ts ++ post) rs s ≡ woken n v (onto ts (x ∷ pre)) post rs s) →
    woken n v pre (x ∷ ts ++ post) rs s ≡ woken n v (onto (x ∷ ts) pre) post rs s
woken_first n v s (asleep w) x pre ts post rs e h f =
    woken_wait (eqn n w.number) h (λ no up. subst (λ z. cond (is_asleep n z) (resumes x.thread v (world pre (ts ++ post) [] rs) s)
    (woken n v (x ∷ pre) (ts ++ post) rs s) ≡ woken n v (onto ts (x ∷ pre)) post rs s) (sym e)
    (subst (λ z. cond z (resumes x.thread v (world pre (ts ++ post) [] rs) s) (woken n v (x ∷ pre) (ts ++ post) rs s) ≡ woken n v
    (onto ts (x ∷ pre)) post rs s) (sym no) (f up)))
woken_first n v s (group k p gs) x pre ts post rs e h f =
    subst (λ z. cond (is_asleep n z) (resumes x.thread v (world pre (ts ++ post) [] rs) s)
    (woken n v (x ∷ pre) (ts ++ post) rs s) ≡ woken n v (onto ts (x ∷ pre)) post rs s) (sym e) (f h)

pub woken_over : (n : ℕ) (v : Val) (s : State) (pre ts post : List Task) (rs : Trees) → has n (waits_of ts) ≡ false →
    woken n v pre (ts ++ post) rs s ≡ woken n v (onto ts pre) post rs s
woken_over n v s pre [] post rs h = refl
woken_over n v s pre (x ∷ ts) post rs h = woken_first n v s x.rest x pre ts post rs refl h (λ h. woken_over n v s (x ∷ pre) ts post rs h)

-- the parent is looked for behind tasks that are beneath a child of it
pub climbs_over : (a : List ℕ) (k : ℕ) (i : ℕ) (v : Val) (s : State) (pre ts post : List Task) (rs : Trees) →
    Each (Beneath (a ++ k ∷ [])) ts → climbs a i v pre (ts ++ post) rs s ≡ climbs a i v (onto ts pre) post rs s
climbs_over a k i v s pre [] post rs be = refl
climbs_over a k i v s pre (x ∷ ts) post rs be =
    subst (λ z. cond z (joined i v x.rest x pre (ts ++ post) rs s) (climbs a i v (x ∷ pre) (ts ++ post) rs s) ≡ climbs a i v
    (onto ts (x ∷ pre)) post rs s)
    (sym (same_child a x.thread.who.path k be.0)) (climbs_over a k i v s (x ∷ pre) ts post rs be.1)

pub has_second : (n : ℕ) (ws xs : List Wait) → has n ws ≡ false → has n (ws ++ xs) ≡ true → has n xs ≡ true
has_second n [] xs h e = e
has_second n (w ∷ ws) xs h e = has_next (eqn n w.number) h e (has_second n ws xs)
  where
    has_next : {A : Type 0} (b : Bool) {p q : Bool} → cond b true p ≡ false → cond b true q ≡ true → (p ≡ false → q ≡ true → A) → A
    has_next true h e f = cc
    has_next false h e f = f h e

pub has_none : (n : ℕ) (ws xs : List Wait) → has n ws ≡ false → has n xs ≡ false → has n (ws ++ xs) ≡ false
has_none n [] xs h e = e
has_none n (w ∷ ws) xs h e = both (eqn n w.number) h (λ h. has_none n ws xs h e)
  where
    both : (b : Bool) {p q : Bool} → cond b true p ≡ false → (p ≡ false → q ≡ false) → cond b true q ≡ false
    both true h f = cc
    both false h f = f h

-- around a task that has left another behind
pub left_apart : (a : List ℕ) (k : ℕ) (o : Around) (ts : List Task) → k < o.own → Apart a o → Each (Beneath (a ++ k ∷ [])) ts →
    Apart a (lefts o k ts)
left_apart a k o ts lk far be = record {
  pre = each_onto (Clear a k) ts o.world.pre (each_map (Beneath (a ++ k ∷ [])) (Clear a k) ts
      (λ x h i y. starts_earlier a x.thread.who.path k i y h) be) (clear_less a o.own k o.world.pre (weak lk) far.pre);
  post = clear_less a o.own k o.world.post (weak lk) far.post;
}

pub keeps_both : (a : List ℕ) (k q : ℕ) (ws xs : List Wait) (ts us : List Task) → k < q → Keeps (a ++ k ∷ []) k ws ts → Keeps a k xs us →
    Keeps a q (ws ++ xs) (ts ++ us)
keeps_both a k q ws xs ts us lq kp1 kp2 = record {
  waits = waits_both ts us ∙ ap (λ z. z ++ waits_of us) kp1.waits ∙ ap (λ z. ws ++ z) kp2.waits;
  beneath = each_both (Beneath a) ts us (beneath_up a k ts kp1.beneath) kp2.beneath;
  young = each_both (Young a q) ts us (young_up a k q ts lq kp1.beneath)
      (each_map (Young a k) (Young a q) us (λ x h i y. h i (omega (arith, y, lq))) kp2.young);
  heeds = λ i x v s pre post rs.
      subst (λ z. climbs a i v pre z rs s ≡ Turn s (among (onto pre z) rs)) (sym (append_assoc ts us post))
      (climbs_over a k i v s pre ts (us ++ post) rs kp1.beneath ∙ kp2.heeds i (omega (arith, x, lq)) v s (onto ts pre) post rs ∙
      ap (λ z. Turn s (among z rs)) (onto_onto ts pre (us ++ post)));
}

pub keeps_raise : (a : List ℕ) (p q : ℕ) (ws : List Wait) (us : List Task) → p ≤ q → Keeps a p ws us → Keeps a q ws us
keeps_raise a p q ws us le kp = record {
  waits = kp.waits;
  beneath = kp.beneath;
  young = each_map (Young a p) (Young a q) us (λ x h i y. h i (trans le y)) kp.young;
  heeds = λ i x. kp.heeds i (trans le x);
}

pub free_fails : (w : Who) (o : World) (s : State) (ls : List Val) (hs : List Handler) (ns : List Note) (bl : List Frame) →
    free hs ns bl ≡ true → failing w o s ls hs bl ≡ Over ending.Stuck s
free_fails w o s ls (h ∷ hs) ns bl e = cc
free_fails w o s ls [] (p ∷ ns) bl e = cc
free_fails w o s ls [] [] [] e = refl
free_fails w o s ls [] [] (f ∷ bl) e = free_fails w o s f.locals f.handlers f.life.noted bl e

pub each_left : (P : Task → Type 0) (xs ys : List Task) → Each P (xs ++ ys) → Each P xs
each_left P [] ys h = tt
each_left P (x ∷ xs) ys h = (h.0, each_left P xs ys h.1)

pub each_two : (P Q R : Task → Type 0) (xs : List Task) → ((x : Task) → P x → Q x → R x) → Each P xs → Each Q xs → Each R xs
each_two P Q R [] f p q = tt
each_two P Q R (x ∷ xs) f p q = (f x p.0 q.0, each_two P Q R xs f p.1 q.1)
