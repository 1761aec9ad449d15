-- A place among tasks that enclose tasks, and what stands around it.
use Rattle.std.proofs.Common.{◌≡◌, ℕ, ◌<◌, ◌≤◌, List, [], ◌∷◌, ◌++◌, sym, ap, ◌∙◌, append_assoc, arith}
use Rattle.std.proofs.lemmas.List.{append-nil}
use Rattle.task_tree.specs.Tasks.{Task}
use Rattle.vm_tasks_laws.specs.Slots.{Slot, Entry, path_of, Parent, no_parent, under, path_under, number_of, Armed, Seen}
use Rattle.vm_tasks_laws.specs.Roses.{Rose, empty, node, pre, post, Good}
use Rattle.vm_tasks_laws.proofs.Lists.{Each, each_append, each_weaker, no_split, in_first, between, in_second, cut}
use Rattle.vm_tasks_laws.proofs.Paths.{Apart, forks, above}

-- the nearest first: it is the first of those beneath a task, or stands behind a sibling
pub data Hole (T : Type 0) : Type 0 where
  top : Hole T
  beneath : Hole T → Task T → Entry → (rest : Rose T) → Hole T
  behind : Hole T → Task T → Entry → (kids : Rose T) → Hole T

module _ {T : Type 0} where
  abbrev pub fill : Hole T → Rose T → Rose T
  fill top x = x
  fill (beneath h t e r) x = fill h (node t e x r)
  fill (behind h t e k) x = fill h (node t e k x)

  abbrev pub front : Hole T → List (Task T)
  front top = []
  front (beneath h t e r) = front h ++ t ∷ []
  front (behind h t e k) = front h ++ t ∷ pre k

  abbrev pub back : Hole T → List (Task T)
  back top = []
  back (beneath h t e r) = pre r ++ back h
  back (behind h t e k) = back h

  abbrev pub before : Hole T → List Entry
  before top = []
  before (beneath h t e r) = before h
  before (behind h t e k) = before h ++ (post k ++ e ∷ [])

  abbrev pub after : Hole T → List Entry
  after top = []
  after (beneath h t e r) = e ∷ post r ++ after h
  after (behind h t e k) = after h

  pub pre_fill : (h : Hole T) (x : Rose T) → pre (fill h x) ≡ front h ++ (pre x ++ back h)
  pre_fill top x = sym (append-nil (pre x))
  pre_fill (beneath h t e r) x = pre_fill h (node t e x r) ∙ simp append_assoc
  pre_fill (behind h t e k) x = pre_fill h (node t e k x) ∙ simp append_assoc

  pub post_fill : (h : Hole T) (x : Rose T) → post (fill h x) ≡ before h ++ (post x ++ after h)
  post_fill top x = sym (append-nil (post x))
  post_fill (beneath h t e r) x = post_fill h (node t e x r) ∙ simp append_assoc
  post_fill (behind h t e k) x = post_fill h (node t e k x) ∙ simp append_assoc

  -- where an entry stands
  pub record Found (h : Hole T) (r : Rose T) (a : List Entry) (e : Entry) (b : List Entry) : Type 0 where
    pub hole : Hole T
    pub task : Task T
    pub kids : Rose T
    pub rest : Rose T
    pub is : fill hole (node task e kids rest) ≡ fill h r
    pub left : before hole ++ post kids ≡ before h ++ a
    pub right : post rest ++ after hole ≡ b ++ after h

  pub find : (h : Hole T) (r : Rose T) (a : List Entry) (e : Entry) (b : List Entry) → post r ≡ a ++ e ∷ b → Found h r a e b
  find h empty a e b p = absurd (no_split a e b p)
  find h (node t d k r) a e b p =
      elim (cut (post k) d (post r) a e b p) [
        | in_first m q s ↦
            let f = find (beneath h t d r) k a e m q in
            record {
              hole = f.hole;
              task = f.task;
              kids = f.kids;
              rest = f.rest;
              is = f.is;
              left = f.left;
              right =
                  f.right ∙ (sym (append_assoc m (d ∷ post r) (after h)) ∙ ap (λ xs. xs ++ after h) (sym s));
            }
        | between q s u ↦
            record {
              hole = h;
              task = t;
              kids = k;
              rest = r;
              is = ap (λ x. fill h (node t x k r)) (sym s);
              left =
                  ap (λ xs. before h ++ xs) q;
              right = ap (λ xs. xs ++ after h) u;
            }
        | in_second m q s ↦
            let f = find (behind h t d k) r m e b s in
            record {
              hole = f.hole;
              task = f.task;
              kids = f.kids;
              rest = f.rest;
              is = f.is;
              left =
                  f.left ∙ (append_assoc (before h) (post k ++ d ∷ []) m ∙
                  (ap (λ xs. before h ++ xs) (append_assoc (post k) (d ∷ []) m) ∙ ap (λ xs. before h ++ xs) (sym q)));
              right = f.right;
            }
      ]

  abbrev pub parent_at : Hole T → Parent T
  parent_at top = no_parent
  parent_at (beneath h t e r) = under t e
  parent_at (behind h t e k) = parent_at h

module _ {T : Type 0} (slot : T → Slot) where
  abbrev pub most_at : ℕ → Hole T → ℕ
  most_at most top = most
  most_at most (beneath h t e r) = number_of slot t
  most_at most (behind h t e k) = number_of slot t

  abbrev pub GoodHole : ℕ → Hole T → Type 0
  GoodHole most top = Unit {0}
  GoodHole most (beneath h t e r) =
      GoodHole most h × Seen slot (parent_at h) t e × (number_of slot t < most_at most h) × Good slot (parent_at h) (number_of slot t) r
  GoodHole most (behind h t e k) =
      GoodHole most h × Seen slot (parent_at h) t e × (number_of slot t < most_at most h) × Good slot (under t e) (number_of slot t) k

  pub good_in : (most : ℕ) (h : Hole T) (x : Rose T) → Good slot no_parent most (fill h x) →
      GoodHole most h × Good slot (parent_at h) (most_at most h) x
  good_in most top x g = (tt, g)
  good_in most (beneath h t e r) x g = let p = good_in most h (node t e x r) g in ((p.0, p.1.0, p.1.1, p.1.3), p.1.2)
  good_in most (behind h t e k) x g = let p = good_in most h (node t e k x) g in ((p.0, p.1.0, p.1.1, p.1.2), p.1.3)

  pub good_out : (most : ℕ) (h : Hole T) (x : Rose T) → GoodHole most h → Good slot (parent_at h) (most_at most h) x →
      Good slot no_parent most (fill h x)
  good_out most top x p g = g
  good_out most (beneath h t e r) x p g = good_out most h (node t e x r) p.0 (p.1, p.2, g, p.3)
  good_out most (behind h t e k) x p g = good_out most h (node t e k x) p.0 (p.1, p.2, p.3, g)

  pub good_weaker : (q : Parent T) (m n : ℕ) (r : Rose T) → m ≤ n → Good slot q m r → Good slot q n r
  good_weaker q m n empty le g = tt
  good_weaker q m n (node t e k r) le g = (g.0, omega (arith, g.1, le), g.2, g.3)

  -- beneath a parent, and younger than its child of the number m
  pub record Below (q : Parent T) (m : ℕ) (e : Entry) : Type 0 where
    pub number : ℕ
    pub more : List ℕ
    pub path : path_of e ≡ path_under q ++ number ∷ more
    pub less : number < m
    pub armed : Armed slot q number

  pub path_is : (q : Parent T) (t : Task T) (e : Entry) → Seen slot q t e → path_of e ≡ path_under q ++ number_of slot t ∷ []
  path_is q t e s = ap (λ w. w.path) s.who

  pub all_below : (q : Parent T) (m : ℕ) (r : Rose T) → Good slot q m r → Each (Below q m) (post r)
  all_below q m empty g = tt
  all_below q m (node t e k r) g =
      each_append (Below q m) (post k) (e ∷ post r)
      (each_weaker (Below (under t e) (number_of slot t)) (Below q m) (post k) (λ x b. record {
        number = number_of slot t;
        more = b.number ∷ b.more;
        path = b.path ∙ (ap (λ xs. xs ++ b.number ∷ b.more) (path_is q t e g.0) ∙
            append_assoc (path_under q) (number_of slot t ∷ []) (b.number ∷ b.more));
        less = g.1;
        armed = g.0.armed;
      }) (all_below (under t e) (number_of slot t) k g.2)) (
        record { number = number_of slot t; more = []; path = path_is q t e g.0; less = g.1; armed = g.0.armed },
        each_weaker (Below q (number_of slot t)) (Below q m) (post r)
            (λ x b. record { number = b.number; more = b.more; path = b.path; less = omega (arith, b.less, g.1); armed = b.armed })
            (all_below q (number_of slot t) r g.3),
      )

  differs : (n m : ℕ) → n < m → n ≡ m → ⊥
  differs n m h e = omega (arith, h, e)

  differs_too : (n m : ℕ) → m < n → n ≡ m → ⊥
  differs_too n m h e = omega (arith, h, e)

  -- what stands around a place is apart from what stands there
  pub outside : (most : ℕ) (h : Hole T) (w : List ℕ) (n : ℕ) (more : List ℕ) → GoodHole most h → w ≡ path_under (parent_at h) ++ n ∷ more →
      n < most_at most h →
      Each (λ e. Apart w (path_of e)) (before h) × Each (λ e. Apart w (path_of e)) (after h)
  outside most top w n more g p l = (tt, tt)
  outside most (beneath h t e r) w n more g p l =
      let up = path_is (parent_at h) t e g.1 in
      let name : w ≡ path_under (parent_at h) ++ number_of slot t ∷ (n ∷ more) =
      p ∙ (ap (λ xs. xs ++ n ∷ more) up ∙ append_assoc (path_under (parent_at h)) (number_of slot t ∷ []) (n ∷ more)) in
      let r0 = outside most h w (number_of slot t) (n ∷ more) g.0 name g.2 in (
        r0.0,
        (
          above n more p,
          each_append (λ x. Apart w (path_of x)) (post r) (after h)
              (each_weaker (Below (parent_at h) (number_of slot t)) (λ x. Apart w (path_of x)) (post r)
              (λ x b. forks (path_under (parent_at h)) (number_of slot t) b.number (n ∷ more) b.more name b.path
              (differs_too (number_of slot t) b.number b.less))
              (all_below (parent_at h) (number_of slot t) r g.3))
              r0.1,
        ),
      )
  outside most (behind h t e k) w n more g p l =
      let up = path_is (parent_at h) t e g.1 in
      let r0 = outside most h w n more g.0 p (omega (arith, l, g.2)) in (
        each_append (λ x. Apart w (path_of x)) (before h) (post k ++ e ∷ []) r0.0
            (each_append (λ x. Apart w (path_of x)) (post k) (e ∷ [])
            (each_weaker (Below (under t e) (number_of slot t)) (λ x. Apart w (path_of x)) (post k)
            (λ x b. forks (path_under (parent_at h)) n (number_of slot t) more (b.number ∷ b.more) p
            (b.path ∙ (ap (λ xs. xs ++ b.number ∷ b.more) up ∙ append_assoc (path_under (parent_at h)) (number_of slot t ∷ [])
            (b.number ∷ b.more)))
            (differs n (number_of slot t) l))
            (all_below (under t e) (number_of slot t) k g.3))
            (forks (path_under (parent_at h)) n (number_of slot t) more [] p up (differs n (number_of slot t) l), tt)),
        r0.1,
      )
