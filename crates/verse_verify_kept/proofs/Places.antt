-- How a frame goes on: its place fits its handlers, and what stands beneath its operands stays.
use Rattle.std.proofs.Common.{◌≡◌, ℕ, suc, ◌+◌, ◌<◌, ◌≤◌, length, List, [], ◌∷◌, ◌++◌, Option, Some, Bool, true, false, cond, nat_lt}
use Rattle.std.proofs.Common.{refl, sym, subst, ap, arith, ◌∙◌}
use Rattle.std.specs.Prelude.{slice_get}
use Rattle.std.proofs.lemmas.Bool.{lt-ltb}
use Rattle.std.proofs.lemmas.Option.{same_Some, none-some}
use Rattle.std.proofs.lemmas.List.{append-nil, append_cancel_left, length-append}
use Rattle.verse_code.specs.declared.operations.Op.TheVariants as o
use Rattle.verse_code.specs.declared.codes.Code.{Code}
use Rattle.verse_value.specs.Val.{Val}
use Rattle.verse_code_machine.specs.Tasks.{Handler, Note, to, gone}
use Rattle.verse_code_machine.specs.Frames.{fits, put, kept_noted, kept_defers}
use Rattle.verse_sorts.specs.Typing.{Typing, Adds}
use Rattle.verse_sorts.proofs.Fitting.{all_itself, all_fit_on, adds_on}
use Rattle.verse_verify_kept.proofs.Locals.{put_anything}
use Rattle.verse_verify_kept.specs.Notes.{Open, Point, Notes, parent_of, point_at, indices, names}
use Rattle.verse_verify_kept.specs.Rules.{Kin, TriesFit, tries_no, tries_so, Quiet, quiet_so, Around, around_no, around_so}
use Rattle.verse_verify_kept.specs.Rules.{Keeps, keeps_all, keeps_some}
use Rattle.verse_verify_kept.specs.Kept.{Tried, Left, Dying, Beneath, plain, trying, within, dying}

pub lt_true : (a b : ℕ) → a < b → nat_lt a b ≡ true
lt_true a b h = lt-ltb a b h

pub same_in : {A : Type 0} {m : Option A} {x y : A} → m ≡ Some x → m ≡ Some y → x ≡ y
same_in e f = same_Some _ _ (sym e ∙ f)

pub kin_itself : (p : Point) → Kin p p
kin_itself p = record { func = refl; arm = refl; block = refl; outer = refl; under = refl }

pub kin_on : {p q r : Point} → Kin p q → Kin q r → Kin p r
kin_on a b = record {
  func = a.func ∙ b.func;
  arm = a.arm ∙ b.arm;
  block = a.block ∙ b.block;
  outer = a.outer ∙ b.outer;
  under =
      a.under ∙ b.under;
}

pub try_label : (a b : ℕ) → o.Try a ≡ o.Try b → a ≡ b
try_label a b e = cc

two_hold : (a b x : Bool) → a ≡ true → b ≡ true → x ≡ true → cond a (cond b x false) false ≡ true
two_hold a b x e f g = subst (λ (a : Bool). cond a (cond b x false) false ≡ true) (sym e)
    (subst (λ (b : Bool). cond b x false ≡ true) (sym f) g)

-- the blocks of the point are the last ones that are deferred
pub data Based (ds all : List ℕ) : Type 0 where
  based : (base : List ℕ) → all ≡ ds ++ base → Based ds all

no_nil : {A : Type 0} {x : A} {xs : List A} → [] ≡ x ∷ xs → ⊥
no_nil e = cc

module _ (c : Code) (n : Notes) where
  pub tries_itself : (xs : List Open) → TriesFit c n xs xs
  tries_itself [] = tries_no
  tries_itself (a ∷ xs) = tries_so refl (all_itself (parent_of n) a.beneath) (tries_itself xs)

  pub data Handles : List Handler → List ℕ → Type 0 where
    handles_no : Handles [] []
    handles_so : {h : Handler} {hs : List Handler} {i : ℕ} {is : List ℕ} → i ≡ h.made → slice_get c.ops h.made ≡ Some (o.Try h.label) →
        Handles hs is → Handles (h ∷ hs) (i ∷ is)

  pub fits_there : {hs : List Handler} {is : List ℕ} {q : ℕ} → Handles hs is → Around c n q is → fits hs q ≡ true
  fits_there handles_no around_no = refl
  fits_there {q = q} (handles_so {h = h} {hs = hs} e f r) (around_so {t = t} {label = label} a b d k) =
      two_hold (nat_lt h.made q) (nat_lt q h.label) (fits hs q) (lt_true h.made q (subst (λ i. i < q) e a))
      (lt_true q h.label (subst (λ l. q < l) (try_label label h.label (same_in d (subst (λ i. slice_get c.ops i ≡ Some (o.Try h.label)) (sym
      e) f))) b)) (fits_there r k)

  pub tries_on : {a b d : List Open} → TriesFit c n a b → TriesFit c n b d → TriesFit c n a d
  tries_on tries_no tries_no = tries_no
  tries_on (tries_so e f r) (tries_so g h k) = tries_so (e ∙ g) (all_fit_on (parent_of n) f h) (tries_on r k)

  pub same_indices : {a b : List Open} → TriesFit c n a b → indices a ≡ indices b
  same_indices tries_no = refl
  same_indices (tries_so {a = a} {b = b} {xs = xs} {ys = ys} e f r) = heads a.index b.index (indices xs) (indices ys) e (same_indices r)
    where
      heads : (i j : ℕ) (k l : List ℕ) → i ≡ j → k ≡ l → i ∷ k ≡ j ∷ l
      heads i j k l e f = cc

  pub same_names : {p q : Point} → Kin p q → TriesFit c n p.tries q.tries → names p ≡ names q
  same_names {p = p} {q = q} k t = both (indices p.tries) (indices q.tries) p.outer q.outer (same_indices t) k.outer
    where
      both : (a b d e : List ℕ) → a ≡ b → d ≡ e → a ++ d ≡ b ++ e
      both a b d e f g = cc

  names_none : (p : Point) → p.tries ≡ [] → names p ≡ p.outer
  names_none p e = ap (λ ts. indices ts ++ p.outer) e

  names_some : (p : Point) (a : Open) (ts : List Open) → p.tries ≡ a ∷ ts → names p ≡ a.index ∷ (indices ts ++ p.outer)
  names_some p a ts e = ap (λ ts. indices ts ++ p.outer) e

  tail_names : (q p : Point) (ts : List Open) → TriesFit c n q.tries ts → Kin q p → names q ≡ indices ts ++ p.outer
  tail_names q p ts h k = two (indices q.tries) (indices ts) q.outer p.outer (same_indices h) k.outer
    where
      two : (a b d e : List ℕ) → a ≡ b → d ≡ e → a ++ d ≡ b ++ e
      two a b d e f g = cc

  pub none_left : {a b : List Open} → a ≡ [] → TriesFit c n a b → b ≡ []
  none_left e tries_no = refl
  none_left e (tries_so f g h) = absurd_cons e
    where
      absurd_cons : {x : Open} {xs ys : List Open} → x ∷ xs ≡ [] → ys ≡ []
      absurd_cons e = cc

  -- a Try is open
  pub data Opened (rest : Bool → Typing → Type 0) (t : Typing) (p : Point) (ds : List ℕ) (ls : List Val) (all : List ℕ) (ns : List Note)
      (a : Open) (ts : List Open) : List Val → List Handler → Type 0 where
    opened : {h : Handler} {hs : List Handler} (x : Tried c n t p ds ls h all ns) → x.head ≡ a → x.tail ≡ ts →
        Beneath c n rest x.held.typing x.held.point x.held.point.defers ls x.held.more hs h.life.defers ns →
        Opened rest t p ds ls all ns a ts [] (h ∷ hs)

  pub try_live : {t : Typing} {p : Point} {ds all : List ℕ} {ls : List Val} {h : Handler} {ns : List Note} {a : Open}
      (x : Tried c n t p ds ls h all ns) → x.head ≡ a → point_at n a.index ≡ Some x.held.point
  try_live {a = a} x e =
      subst (λ i. point_at n i ≡ Some x.held.point) (sym x.made ∙ ap (λ (a : Open). a.index) e) x.held.live

  -- a deferred block runs
  pub data Blocked (rest : Bool → Typing → Type 0) (t : Typing) (p : Point) (ds : List ℕ) (ls tail : List Val) (hs : List Handler)
      (all : List ℕ) : List Note → Type 0 where
    comes_back : {i : ℕ} {ns : List Note} (x : Left c n t p ds tail all i) → kept_defers hs ≤ length x.base →
        Beneath c n rest x.back.typing x.back.point x.back.left ls x.back.more hs x.base ns → Blocked rest t p ds ls tail hs all (to i ∷ ns)
    comes_down : {u : Typing} → hs ≡ [] → Dying c n p ds all → Adds u t → rest true u → Blocked rest t p ds ls tail hs all (gone ∷ [])

  module _ {rest : Bool → Typing → Type 0} where
    pub handles : {t : Typing} {p : Point} {ds all : List ℕ} {ls more : List Val} {hs : List Handler} {ns : List Note} →
        Beneath c n rest t p ds ls more hs all ns → Handles hs (names p)
    handles (plain {p = p} x g r) = subst (Handles []) (sym (names_none p x.tries ∙ x.outer)) handles_no
    handles (trying {p = p} x b) =
        subst (Handles _) (sym (names_some p x.head x.tail x.tries)) (handles_so x.made x.held.is_try (subst (Handles _) (tail_names
        x.held.point p x.tail x.others x.kin) (handles b)))
    handles (within {p = p} x m b) = subst (Handles _) (sym (names_none p x.tries ∙ x.outer)) (handles b)
    handles (dying {p = p} x g r) = subst (Handles []) (sym (names_none p x.tries ∙ x.outer)) handles_no

    -- to another point of the same function, arm and block, with more cells
    pub moves : {t u : Typing} {p q : Point} {ds all : List ℕ} {ls more : List Val} {hs : List Handler} {ns : List Note} →
        Beneath c n rest t p ds ls more hs all ns → Kin p q → TriesFit c n p.tries q.tries → Adds t u →
        Beneath c n rest u q ds ls more hs all ns
    moves (plain x g r) k f w =
        plain (record {
          tries = none_left x.tries f;
          block = sym k.block ∙ x.block;
          outer = sym k.outer ∙ x.outer;
          under = sym k.under ∙ x.under;
        }) (adds_on g w) r
    moves {u = u} {q = q} {ds = ds} {all = all} {ls = ls} (trying {h = h} {hs = hs} {ns = ns} x b) k f w =
        tried (subst (λ ts. TriesFit c n ts q.tries) x.tries f) refl
      where
        tried : {ts : List Open} → TriesFit c n (x.head ∷ x.tail) ts → q.tries ≡ ts → Beneath c n rest u q ds ls [] (h ∷ hs) all ns
        tried (tries_so {b = a} {ys = ys} e f r) same =
            trying (record {
              held = x.held;
              head = a;
              tail = ys;
              tries = same;
              made = sym e ∙ x.made;
              kin = kin_on x.kin k;
              operands = all_fit_on (parent_of n) x.operands f;
              others = tries_on x.others r;
              grows = adds_on x.grows w;
              base = x.base;
              defers = x.defers;
              kept = x.kept;
              noted = x.noted;
            }) b
    moves (within x m b) k f w =
        within (record {
          back = x.back;
          tries = none_left x.tries f;
          entry = x.entry;
          block = sym k.block ∙ x.block;
          first = x.first;
          is_entry = x.is_entry;
          func = sym k.func ∙ x.func;
          arm = sym k.arm ∙ x.arm;
          outer = sym k.outer ∙ x.outer;
          locals = x.locals;
          base = x.base;
          under = sym k.under ∙ x.under;
          defers = x.defers;
          grows = adds_on x.grows w;
        }) m b
    moves (dying x g r) k f w =
        dying (record {
          tries = none_left x.tries f;
          entry = x.entry;
          block = sym k.block ∙ x.block;
          outer = sym k.outer ∙ x.outer;
          first = x.first;
          is_entry = x.is_entry;
          base = x.base;
          under = sym k.under ∙ x.under;
          defers = x.defers;
          from = x.from;
          plain = x.plain;
          ready = x.ready;
        }) (adds_on g w) r

    -- a local is written that is none at the labels of all open Trys
    pub written : {t : Typing} {p : Point} {ds all : List ℕ} {ls ms more : List Val} {hs : List Handler} {ns : List Note} (l : ℕ)
        (v : Val) → Beneath c n rest t p ds ls more hs all ns → Quiet c n l (names p) → put ls l v ≡ Some ms →
        Beneath c n rest t p ds ms more hs all ns
    written l v (plain x g r) q e = plain x g r
    written {ms = ms} l v (trying {t = t} {p = p} {h = h} {hs = hs} {ds = ds} {all = all} {ls = ls} {ns = ns} x b) q e =
        quiet (λ q. written l v b q e) (subst (Quiet c n l) (names_some p x.head x.tail x.tries) q)
      where
        quiet : (Quiet c n l (names x.held.point) → Beneath c n rest x.held.typing x.held.point x.held.point.defers ms x.held.more hs
            h.life.defers ns) → Quiet c n l (x.head.index ∷ (indices x.tail ++ p.outer)) → Beneath c n rest t p ds ms [] (h ∷ hs) all ns
        quiet again (quiet_so {label = label} f g more) =
            trying (record {
              held = record {
                point = x.held.point;
                live = x.held.live;
                label = x.held.label;
                is_try = x.held.is_try;
                is_label = x.held.is_label;
                leads = x.held.leads;
                typing = x.held.typing;
                locals = put_anything (parent_of n) x.held.typing v l x.held.locals e
                    (λ a k. g x.held.label a (subst (λ i. point_at n i ≡ Some x.held.label)
                    (sym (try_label label h.label (same_in (subst (λ i. slice_get c.ops i ≡ Some (o.Try label)) x.made f) x.held.is_try)))
                    x.held.is_label) k);
                store = x.held.store;
                above = x.held.above;
                more = x.held.more;
                split = x.held.split;
                stack = x.held.stack;
              };
              head = x.head;
              tail = x.tail;
              tries = x.tries;
              made = x.made;
              kin = x.kin;
              operands = x.operands;
              others = x.others;
              grows = x.grows;
              base = x.base;
              defers = x.defers;
              kept = x.kept;
              noted = x.noted;
            }) (again (subst (Quiet c n l) (sym (tail_names x.held.point p x.tail x.others x.kin)) more))
    written l v (within {p = p} x m b) q e = within x m (written l v b (subst (Quiet c n l) (names_none p x.tries ∙ x.outer) q) e)
    written l v (dying x g r) q e = dying x g r

    pub bases : {t : Typing} {p : Point} {ds all : List ℕ} {ls more : List Val} {hs : List Handler} {ns : List Note} →
        Beneath c n rest t p ds ls more hs all ns → Based ds all
    bases (plain {ds = ds} x g r) = based [] (sym (append-nil ds))
    bases (trying x b) = based x.base x.defers
    bases (within x m b) = based x.base x.defers
    bases (dying x g r) = based x.base x.defers

    pub counts : {t : Typing} {p : Point} {ds all : List ℕ} {ls more : List Val} {hs : List Handler} {ns : List Note} →
        Beneath c n rest t p ds ls more hs all ns → length all ≡ p.under + length ds
    counts (plain {ds = ds} x g r) = plain_count (length ds) _ x.under
      where
        plain_count : (a b : ℕ) → b ≡ 0 → a ≡ b + a
        plain_count a b e = omega (arith, e)
    counts (trying {p = p} {h = h} {ds = ds} {all = all} x b) =
        sums (length all) (length ds) (length x.base) p.under x.held.point.under (length x.held.point.defers) (length h.life.defers)
        (ap length x.defers ∙ length-append ds x.base) (ap length x.kept ∙ length-append x.held.point.defers x.base) x.kin.under
        (counts b)
      where
        sums : (a d e u v k l : ℕ) → a ≡ d + e → l ≡ k + e → v ≡ u → l ≡ v + k → a ≡ u + d
        sums a d e u v k l f g h i = omega (arith, f, g, h, i)
    counts (within {p = p} {ds = ds} {all = all} x m b) =
        sums (length all) (length ds) (length x.base) p.under (ap length x.defers ∙ length-append ds x.base) x.under
      where
        sums : (a d e u : ℕ) → a ≡ d + e → u ≡ e → a ≡ u + d
        sums a d e u f g = omega (arith, f, g)
    counts (dying {p = p} {ds = ds} {all = all} x g r) =
        sums (length all) (length ds) (length x.base) p.under (ap length x.defers ∙ length-append ds x.base) x.under
      where
        sums : (a d e u : ℕ) → a ≡ d + e → u ≡ e → a ≡ u + d
        sums a d e u f g = omega (arith, f, g)

    -- with other blocks of the point
    pub with_defers : {t : Typing} {p : Point} {ds all : List ℕ} {ls more : List Val} {hs : List Handler} {ns : List Note}
        (es base : List ℕ) → all ≡ ds ++ base → Beneath c n rest t p ds ls more hs all ns →
        Beneath c n rest t p es ls more hs (es ++ base) ns
    with_defers {p = p} {ds = ds} es base e (plain {t = t} {ls = ls} x g r) =
        subst (λ all. Beneath c n rest t p es ls [] [] all []) (sym (ap (λ base. es ++ base) (no_base ds base e) ∙ append-nil es))
        (plain x g r)
      where
        no_base : (ds base : List ℕ) → ds ≡ ds ++ base → base ≡ []
        no_base ds base e = append_cancel_left ds base [] (sym e ∙ sym (append-nil ds))
    with_defers {ds = ds} es base e (trying x b) =
        trying (record {
          held = x.held;
          head = x.head;
          tail = x.tail;
          tries = x.tries;
          made = x.made;
          kin = x.kin;
          operands = x.operands;
          others = x.others;
          grows = x.grows;
          base = x.base;
          defers = ap (λ base. es ++ base) (append_cancel_left ds base x.base (sym e ∙ x.defers));
          kept = x.kept;
          noted = x.noted;
        }) b
    with_defers {ds = ds} es base e (within x m b) =
        within (record {
          back = x.back;
          tries = x.tries;
          entry = x.entry;
          block = x.block;
          first = x.first;
          is_entry = x.is_entry;
          func = x.func;
          arm = x.arm;
          outer = x.outer;
          locals = x.locals;
          base = x.base;
          under = x.under;
          defers = ap (λ base. es ++ base) (append_cancel_left ds base x.base (sym e ∙ x.defers));
          grows = x.grows;
        }) m b
    with_defers {ds = ds} es base e (dying x g r) =
        dying (record {
          tries = x.tries;
          entry = x.entry;
          block = x.block;
          outer = x.outer;
          first = x.first;
          is_entry = x.is_entry;
          base = x.base;
          under = x.under;
          defers = ap (λ base. es ++ base) (append_cancel_left ds base x.base (sym e ∙ x.defers));
          from = x.from;
          plain = x.plain;
          ready = x.ready;
        }) g r

    -- the innermost handler keeps no more noted places than there are, and in a block fewer
    pub kept_noted_most : {t : Typing} {p : Point} {ds all : List ℕ} {ls more : List Val} {hs : List Handler} {ns : List Note} →
        Beneath c n rest t p ds ls more hs all ns → kept_noted hs ≤ length ns
    kept_noted_most (plain x g r) = omega arith
    kept_noted_most (trying {h = h} {ns = ns} x b) = same (length h.life.noted) (length ns) (ap length x.noted)
      where
        same : (a b : ℕ) → a ≡ b → a ≤ b
        same a b e = omega (arith, e)
    kept_noted_most (within {hs = hs} {ns = ns} x m b) = less (kept_noted hs) (length ns) (kept_noted_most b)
      where
        less : (a b : ℕ) → a ≤ b → a ≤ suc b
        less a b h = omega (arith, h)
    kept_noted_most (dying x g r) = omega arith

    pub opens : {t : Typing} {p : Point} {ds all : List ℕ} {ls more : List Val} {hs : List Handler} {ns : List Note} {a : Open}
        {ts : List Open} → Beneath c n rest t p ds ls more hs all ns → p.tries ≡ a ∷ ts → Opened rest t p ds ls all ns a ts more hs
    opens (plain x g r) e = elim (no_nil (sym x.tries ∙ e)) [ ]
    opens (trying x b) e = opened x (head_same (sym x.tries ∙ e)) (tail_same (sym x.tries ∙ e)) b
      where
        head_same : {a b : Open} {xs ys : List Open} → a ∷ xs ≡ b ∷ ys → a ≡ b
        head_same e = cc

        tail_same : {a b : Open} {xs ys : List Open} → a ∷ xs ≡ b ∷ ys → xs ≡ ys
        tail_same e = cc
    opens (within x m b) e = elim (no_nil (sym x.tries ∙ e)) [ ]
    opens (dying x g r) e = elim (no_nil (sym x.tries ∙ e)) [ ]

    pub blocks : {t : Typing} {p : Point} {ds all : List ℕ} {ls more : List Val} {hs : List Handler} {ns : List Note} {e : ℕ} →
        Beneath c n rest t p ds ls more hs all ns → p.block ≡ Some e → p.tries ≡ [] → Blocked rest t p ds ls more hs all ns
    blocks (plain x g r) e h = elim (none-some _ (sym x.block ∙ e)) [ ]
    blocks (trying x b) e h = elim (no_nil (sym h ∙ x.tries)) [ ]
    blocks (within x m b) e h = comes_back x m b
    blocks (dying x g r) e h = comes_down refl x g r

    -- the innermost handler keeps no more deferred blocks than a Leave leaves
    pub kept_defers_most : {t : Typing} {p : Point} {ds all : List ℕ} {ls more : List Val} {hs : List Handler} {ns : List Note} (m : ℕ) →
        Beneath c n rest t p ds ls more hs all ns → Keeps c n p m → p.under ≤ m → kept_defers hs ≤ m
    kept_defers_most m (plain x g r) k e = omega arith
    kept_defers_most m (trying {p = p} {h = h} x b) k e = keeping k
      where
        under : x.held.point.under + length x.held.point.defers ≡ length h.life.defers
        under = sym (counts b)

        keeping : Keeps c n p m → length h.life.defers ≤ m
        keeping (keeps_all e) = elim (no_nil (sym e ∙ x.tries)) [ ]
        keeping (keeps_some {t = a} {ts = ts} e l) =
            subst (λ k. k ≤ m) under (l x.held.point (try_live x (same_head (sym x.tries ∙ e))))
          where
            same_head : x.head ∷ x.tail ≡ a ∷ ts → x.head ≡ a
            same_head e = cc
    kept_defers_most m (within {p = p} {hs = hs} x h b) k e = less (kept_defers hs) (length x.base) p.under h x.under e
      where
        less : (a b u : ℕ) → a ≤ b → u ≡ b → u ≤ m → a ≤ m
        less a b u f g h = omega (arith, f, g, h)
    kept_defers_most m (dying x g r) k e = omega arith
