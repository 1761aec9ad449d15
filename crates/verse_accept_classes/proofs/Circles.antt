-- Where no rule of items and members is broken, no class inherits from itself.
use Rattle.std.proofs.Common.{◌≡◌, ℕ, zero, suc, ◌+◌, ◌<◌, List, [], ◌∷◌, length, Bool, true, false, refl, sym, ap, ◌∙◌, subst, arith}
use Rattle.std.proofs.lemmas.Option.{slice_get_within}
use Rattle.std.specs.Prelude.{Option, Some, None, slice_get}
use Rattle.verse_tree.specs.ItemTree.{ClassTree, ItemTree, using, enumeration, class, function}
use Rattle.verse_rules_least.specs.Least.{Broken, here, later, Holds, this, other}
use Rattle.verse_rules_least.specs.declared.faults.Fault.{Fault}
use Rattle.verse_rules_types.specs.Types.{Class}
use Rattle.verse_rules_types.specs.Fitting.{parent_of}
use Rattle.verse_names_tables.specs.Counting.{counted, counts_after, no_counts}
use Rattle.verse_names_tables.specs.declared.counting.Counts.{Counts}
use Rattle.verse_names_declarations.specs.Known.{Known, known}
use Rattle.verse_names_declarations.specs.Lines.{home}
use Rattle.verse_names_items.specs.Rules.{leads_to, rules_at}
use Rattle.verse_names_items.specs.Rules as rules
use Rattle.verse_names_items.specs.Nodes.{Declared, number_of, one, members_declared, item_declared, items_declared}
use Rattle.verse_names_items.specs.Nodes.{program_declared, keep_fault, Breaks, ItemsBreak}
use Rattle.verse_meaning.specs.Programs.{classes}
use Rattle.verse_accept_scopes.specs.Lists.{Each}
use Rattle.verse_accept_scopes.proofs.Rows.{each_first, each_rest}
use Rattle.verse_accept_classes.proofs.Classes.{outline_many}
use Rattle.verse_accept_classes.proofs.Lines.{NoCircle}

-- the rules at a node are kept
abbrev pub Kept : Known → Declared → Type 0
Kept k d = (c : ℕ) → Holds (rules_at k d.subject) c → ⊥

all_kept : (k : Known) (ds : List Declared) (o : Option Fault) →
    ((n c : ℕ) → Broken number_of (keep_fault k) (Breaks k) ds o n c → ⊥) → Each (Kept k) ds
all_kept k [] o h = tt
all_kept k (d ∷ ds) o h = (
  (λ c b. h d.number c (here b)),
  all_kept k ds (keep_fault k d o) (λ n c b. h n c (later b)),
)

pub program_kept : (is : List ItemTree) → ((n c : ℕ) → ItemsBreak is n c → ⊥) → Each (Kept (known is)) (program_declared (known is) is)
program_kept is h = all_kept (known is) (program_declared (known is) is) None h

pub holds_here : {b : Bool} {c : ℕ} {rs : List (ℕ × Bool)} → b ≡ true → Holds ((c, b) ∷ rs) c
holds_here {c = c} {rs = rs} e = subst (λ (b : Bool). Holds ((c, b) ∷ rs) c) (sym e) this

module _ (k : Known) where
  -- no class with a number from n on inherits from itself, where the others have these items
  abbrev Straight : ℕ → List ClassTree → Type 0
  Straight n [] = Unit {0}
  Straight n (c ∷ cs) = (leads_to k.outline n (parent_of k.outline n) ≡ false) × Straight (n + 1) cs

  straight : (b : Bool) (n : ℕ) (c : ClassTree) → leads_to k.outline n (parent_of k.outline n) ≡ b →
      ((r : ℕ) → Holds (rules_at k (rules.class n c)) r → ⊥) → b ≡ false
  straight true n c e h = absurd (h 42 (other (other (holds_here e))))
  straight false n c e h = refl

  all_straight : (is : List ItemTree) (n : Counts) → Each (Kept k) (items_declared k (counted n is)) → Straight n.classes (classes is)
  all_straight [] n h = tt
  all_straight (using u ∷ is) n h = all_straight is (counts_after (using u) n) h.1
  all_straight (enumeration e ∷ is) n h = all_straight is (counts_after (enumeration e) n) h.1
  all_straight (class c ∷ is) n h =
      let own = item_declared k (class c) n in
      let rest = items_declared k (counted (counts_after (class c) n) is) in
      let members = members_declared (home k n.classes c.members) n.funs c.members in
      let at = each_rest (Kept k) members (one c.number c.place (rules.class n.classes c)) (each_first (Kept k) own rest h) in (
        straight (leads_to k.outline n.classes (parent_of k.outline n.classes)) n.classes c refl at.0,
        all_straight is (counts_after (class c) n) (each_rest (Kept k) own rest h),
      )
  all_straight (function f ∷ is) n h =
      let own = item_declared k (function f) n in
      let rest = items_declared k (counted (counts_after (function f) n) is) in
      all_straight is (counts_after (function f) n) (each_rest (Kept k) own rest h)

  at_number : (n d : ℕ) (cs : List ClassTree) → Straight n cs → d < length cs →
      leads_to k.outline (n + d) (parent_of k.outline (n + d)) ≡ false
  at_number n d [] h l = absurd (omega (arith, l))
  at_number n zero (c ∷ cs) h l = ap (λ m. leads_to k.outline m (parent_of k.outline m)) (omega arith) ∙ h.0
  at_number n (suc d) (c ∷ cs) h l = ap (λ m. leads_to k.outline m (parent_of k.outline m)) (omega arith) ∙
      at_number (n + 1) d cs h.1 (omega (arith, l))

no_class : (os : List Class) (d : ℕ) → slice_get os d ≡ None → leads_to os d (parent_of os d) ≡ false
no_class os d e = ap (λ o. leads_to os d (parent o)) e
  where
    parent : Option Class → Option ℕ
    parent None = None
    parent (Some c) = c.parent

pub no_circle : (is : List ItemTree) → ((n c : ℕ) → ItemsBreak is n c → ⊥) → NoCircle (known is).outline
no_circle is h d = by (slice_get k.outline d) refl
  where
    k : Known
    k = known is

    items : Each (Kept k) (items_declared k k.items)
    items = each_first (Kept k) (items_declared k k.items) _ (program_kept is h)

    by : (o : Option Class) → slice_get k.outline d ≡ o → leads_to k.outline d (parent_of k.outline d) ≡ false
    by None e = no_class k.outline d e
    by (Some o) e =
        let within = slice_get_within k.outline d o e in
        ap (λ m. leads_to k.outline m (parent_of k.outline m)) (omega arith) ∙
        at_number k 0 d (classes is) (all_straight k is no_counts items) (subst (λ n. d < n) (outline_many is) within)
