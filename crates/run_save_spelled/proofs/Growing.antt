-- A task more in the trees.
use Rattle.std.proofs.Common.{◌≡◌, ℕ, ◌<◌, Bool, true, false, cond, List, [], ◌∷◌, ◌++◌, map, Option, refl, sym, ap}
use Rattle.std.proofs.Common.{subst, ◌∙◌, append_assoc, arith}
use Rattle.std.proofs.lemmas.List.{append-nil, map-append}
use Rattle.verse_code_machine.specs.Tasks.{Task, Who, root, part, root_named, child_named, same_path}
use Rattle.verse_code_machine.specs.Runs.{Forest}
use Rattle.verse_code_machine.proofs.Paths.{same_is, same_self}
use Rattle.run_save_shots.specs.Lists.{Each, Reordered, no_elements, one_more}
use Rattle.run_save_shots.specs.Spelling.{before_parent, planted, grown}
use Rattle.run_save_shots.proofs.Lists.{last_same}
use Rattle.run_save_spelled.specs.Growing.{number_of, path_of, flat, In, Begins, begins_root, begins_part, Sprouts, Inserted}
use Rattle.run_save_spelled.proofs.Forests.{each_append, each_parts, each_weaker, each_in, reordered_in, reordered_each, reordered_apart}
use Rattle.run_save_spelled.proofs.Forests.{AllApart, apart_around, flat_append, flat_around, flat_last, placed}

-- ---- names

-- a name ends with the task's number
abbrev pub IsNamed : Task → Type 0
IsNamed y = path_of y ≡ y.thread.who.up ++ number_of y ∷ []

pub begun_named : (before : List Task) (y : Task) → Begins before y → IsNamed y
begun_named before y (begins_root entry e) =
    ap (λ (w : Who). w.path) e ∙ ap (λ (w : Who). w.up ++ number_of y ∷ []) (sym e)
begun_named before y (begins_part x i e) =
    ap (λ (w : Who). w.path) e ∙ ap (λ (w : Who). w.up ++ number_of y ∷ []) (sym e)

other_path : (x z : Task) → IsNamed x → IsNamed z → (number_of z ≡ number_of x → ⊥) → same_path (path_of x) (path_of z) ≡ false
other_path x z m n d = by (same_path (path_of x) (path_of z)) refl
  where
    by : (c : Bool) → same_path (path_of x) (path_of z) ≡ c → same_path (path_of x) (path_of z) ≡ false
    by false e = e
    by true e = absurd (d (sym (last_same x.thread.who.up z.thread.who.up (number_of x) (number_of z)
        (sym m ∙ (same_is (path_of x) (path_of z) e ∙ n)))))

-- ---- a part

abbrev IsOther : Task → Task → Type 0
IsOther y z = same_path y.thread.who.up (path_of z) ≡ false

pass : (y : Task) (zs : List Task) → Each (IsOther y) zs → before_parent y zs ≡ zs
pass y [] o = refl
pass y (z ∷ zs) o = ap (λ c. cond c (y ∷ z ∷ zs) (z ∷ before_parent y zs)) o.0 ∙ ap (λ w. z ∷ w) (pass y zs o.1)

enter : (y : Task) (zs : List Task) (x : Task) (ys : List Task) → Each (IsOther y) zs → same_path y.thread.who.up (path_of x) ≡ true →
    before_parent y (zs ++ x ∷ ys) ≡ zs ++ y ∷ x ∷ ys
enter y [] x ys o e = ap (λ c. cond c (y ∷ x ∷ ys) (x ∷ before_parent y ys)) e
enter y (z ∷ zs) x ys o e =
    ap (λ c. cond c (y ∷ z ∷ (zs ++ x ∷ ys)) (z ∷ before_parent y (zs ++ x ∷ ys))) o.0 ∙ ap (λ w. z ∷ w) (enter y zs x ys o.1 e)

pass_all : (y : Task) (tss : Forest) → Each (IsOther y) (flat tss) → map (before_parent y) tss ≡ tss
pass_all y [] o = refl
pass_all y (ts ∷ tss) o =
    let parts = each_parts (IsOther y) ts (flat tss) o in
    ap (λ w. w ∷ map (before_parent y) tss) (pass y ts parts.0) ∙ ap (λ w. ts ∷ w) (pass_all y tss parts.1)

pub inserted : (x y : Task) (tss : Forest) → In x (flat tss) → AllApart (flat tss) → Each IsNamed (flat tss) →
    y.thread.who.up ≡ path_of x → Inserted x y tss
inserted x y tss i apart names up =
    let p = placed x tss i in
    let whole : flat tss ≡ (flat p.front ++ p.before) ++ (x ∷ p.behind ++ flat p.back) =
    ap flat p.is ∙ flat_around p.front p.before (x ∷ p.behind) p.back in
    let around = apart_around (flat p.front ++ p.before) x (p.behind ++ flat p.back) (subst (λ w. AllApart w) whole apart) in
    let named = each_parts IsNamed (flat p.front ++ p.before) (x ∷ p.behind ++ flat p.back) (subst (λ w. Each IsNamed w) whole names) in
    let left = each_parts (IsOther y) (flat p.front) p.before (others (flat p.front ++ p.before) named.1.0 named.0 around.0) in
    let right = each_parts (IsOther y) p.behind (flat p.back) (others (p.behind ++ flat p.back) named.1.0 named.1.1 around.1) in
    let here : same_path y.thread.who.up (path_of x) ≡ true = ap (λ a. same_path a (path_of x)) up ∙ same_self (path_of x) in
    record {
      front = p.front;
      before = p.before;
      behind = p.behind;
      back = p.back;
      was = p.is;
      is = ap (map (before_parent y)) p.is ∙ (map-append (before_parent y) p.front ((p.before ++ x ∷ p.behind) ∷ p.back) ∙
          (ap (λ w. w ++ before_parent y (p.before ++ x ∷ p.behind) ∷ map (before_parent y) p.back) (pass_all y p.front left.0) ∙
          (ap (λ w. p.front ++ w ∷ map (before_parent y) p.back) (enter y p.before x p.behind left.1 here) ∙
          ap (λ w. p.front ++ (p.before ++ y ∷ x ∷ p.behind) ∷ w) (pass_all y p.back right.1))));
    }
  where
    others : (zs : List Task) → IsNamed x → Each IsNamed zs → Each (λ z. number_of z ≡ number_of x → ⊥) zs → Each (IsOther y) zs
    others [] m ns ds = tt
    others (z ∷ zs) m ns ds =
        (ap (λ a. same_path a (path_of z)) up ∙ other_path x z m ns.0 ds.0, others zs m ns.1 ds.1)

-- ---- trees of tasks that begin one after another

-- the trees hold these tasks
pub record Holds (before : List Task) (tss : Forest) : Type 0 where
  pub reordered : Reordered before (flat tss)
  pub apart : AllApart before
  pub names : Each IsNamed before

pub none_held : Holds [] []
none_held = record { reordered = no_elements; apart = tt; names = tt }

fewer : (before : List Task) (y : Task) → Each (λ z. number_of y < number_of z) before → Each (λ z. number_of z ≡ number_of y → ⊥) before
fewer before y f = each_weaker (λ z. number_of y < number_of z) (λ z. number_of z ≡ number_of y → ⊥) before
    (λ z l e. omega (arith, l, e)) f

pub part_held : (before : List Task) (tss : Forest) (x y : Task) → Holds before tss → In x before →
    y.thread.who ≡ child_named x.thread.who (number_of y) → Inserted x y tss
part_held before tss x y h i e =
    inserted x y tss (reordered_in x before (flat tss) h.reordered i) (reordered_apart before (flat tss) h.reordered h.apart)
    (reordered_each IsNamed before (flat tss) h.reordered h.names) (ap (λ (w : Who). w.up) e)

pub part_more : (before : List Task) (tss : Forest) (x y : Task) → Holds before tss → (i : In x before) →
    (e : y.thread.who ≡ child_named x.thread.who (number_of y)) → Each (λ z. number_of y < number_of z) before →
    Holds (y ∷ before) (map (before_parent y) tss)
part_more before tss x y h i e less =
    let s = part_held before tss x y h i e in
    let old : flat tss ≡ (flat s.front ++ s.before) ++ (x ∷ s.behind ++ flat s.back) =
    ap flat s.was ∙ flat_around s.front s.before (x ∷ s.behind) s.back in
    let new : flat (map (before_parent y) tss) ≡ (flat s.front ++ s.before) ++ y ∷ (x ∷ s.behind ++ flat s.back) =
    ap flat s.is ∙ flat_around s.front s.before (y ∷ x ∷ s.behind) s.back in
    record {
      reordered = one_more (flat s.front ++ s.before) (x ∷ s.behind ++ flat s.back) new (subst (λ w. Reordered before w) old h.reordered);
      apart = (fewer before y less, h.apart);
      names = (begun_named before y (begins_part x i e), h.names);
    }

pub root_more : (before : List Task) (tss : Forest) (y : Task) (entry : Option ℕ) → Holds before tss →
    y.thread.who ≡ root_named (number_of y) entry → Each (λ z. number_of y < number_of z) before →
    Holds (y ∷ before) (tss ++ (y ∷ []) ∷ [])
root_more before tss y entry h e less = record {
  reordered = one_more (flat tss) [] (flat_last tss y) (subst (λ w. Reordered before w) (sym (append-nil (flat tss))) h.reordered);
  apart = (fewer before y less, h.apart);
  names = (begun_named before y (begins_root entry e), h.names);
}

pub planted_root : (tss : Forest) (y : Task) (n : ℕ) (entry : Option ℕ) → y.thread.who ≡ root_named n entry →
    planted y.thread.who.role y tss ≡ tss ++ (y ∷ []) ∷ []
planted_root tss y n entry e = ap (λ (w : Who). planted w.role y tss) e

pub planted_part : (tss : Forest) (y : Task) (w : Who) (n : ℕ) → y.thread.who ≡ child_named w n →
    planted y.thread.who.role y tss ≡ map (before_parent y) tss
planted_part tss y w n e = ap (λ (v : Who). planted v.role y tss) e

pub one_held : (before : List Task) (tss : Forest) (y : Task) → Holds before tss → Begins before y →
    Each (λ z. number_of y < number_of z) before → Holds (y ∷ before) (planted y.thread.who.role y tss)
one_held before tss y h (begins_root entry e) less =
    subst (λ w. Holds (y ∷ before) w) (sym (planted_root tss y (number_of y) entry e)) (root_more before tss y entry h e less)
one_held before tss y h (begins_part x i e) less =
    subst (λ w. Holds (y ∷ before) w) (sym (planted_part tss y x.thread.who (number_of y) e)) (part_more before tss x y h i e less)

-- the last first
abbrev pub onto : List Task → List Task → List Task
onto before [] = before
onto before (y ∷ ys) = onto (y ∷ before) ys

pub all_held : (before : List Task) (tss : Forest) (ys : List Task) → Holds before tss → Sprouts before ys →
    Holds (onto before ys) (grown tss ys)
all_held before tss [] h s = h
all_held before tss (y ∷ ys) h s =
    all_held (y ∷ before) (planted y.thread.who.role y tss) ys (one_held before tss y h s.0 s.1) s.2
