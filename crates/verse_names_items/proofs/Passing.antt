-- The first fault, part by part, is what the pass over all nodes keeps.
use Rattle.std.proofs.Common.{◌≡◌, ℕ, List, [], ◌∷◌, ◌++◌, map, length, Option, refl, ap, sym, ◌∙◌, subst}
use Rattle.std.specs.Prelude.{Some, None}
use Rattle.verse_tree.specs.Tree.{Written, Writtens, no_writtens, more_writtens}
use Rattle.verse_tree.specs.Tree as t
use Rattle.verse_tree.specs.ItemTree.{FieldTree, ParamTree, FunTree, MemberTree, ClassTree, ItemTree}
use Rattle.verse_tree.specs.ItemTree as i
use Rattle.verse_tree.specs.PostOrder.{Node, post_order, default_order, items_order, program_place}
use Rattle.verse_rules_least.specs.Least.{first, each, InOrder, Told, Placed, Finds, first_true}
use Rattle.verse_rules_least.specs.declared.faults.Fault.{Fault}
use Rattle.verse_rules_least.proofs.Least.{first_finds, least_kept, placed_kept}
use Rattle.verse_names_tables.specs.Counting.{Counted, fun_after}
use Rattle.verse_names_tables.specs.declared.counting.Counts.{Counts}
use Rattle.verse_names_declarations.specs.Known.{Known}
use Rattle.verse_names_declarations.specs.Lines.{Home, home}
use Rattle.verse_names_items.specs.Rules.{rules_at, quiet, field, method, class, function, program}
use Rattle.verse_names_items.specs.Nodes.{Declared, number_of, place_of, one, quiet_node, written_declared, writtens_declared}
use Rattle.verse_names_items.specs.Nodes.{param_declared}
use Rattle.verse_names_items.specs.Nodes.{params_declared, fun_declared, field_declared, member_declared, members_declared, item_declared}
use Rattle.verse_names_items.specs.Nodes.{items_declared, program_declared, fault_of, keep_fault}
use Rattle.verse_names_items.specs.Nodes.{Breaks}
use Rattle.verse_names_items.specs.Faults.{written_fault, writtens_fault, params_fault, fun_fault, member_fault, members_fault, item_fault}
use Rattle.verse_names_items.specs.Faults.{items_fault, program_fault}

first_none : (o : Option Fault) → first o None ≡ o
first_none None = refl
first_none (Some f) = refl

first_again : (a b c : Option Fault) → first (first a b) c ≡ first a (first b c)
first_again None b c = refl
first_again (Some f) b c = refl

module _ (k : Known) where
  -- the first fault of some nodes
  abbrev pub faults : List Declared → Option Fault
  faults [] = None
  faults (v ∷ vs) = first (fault_of k v) (faults vs)

  faults_append : (vs ws : List Declared) → faults (vs ++ ws) ≡ first (faults vs) (faults ws)
  faults_append [] ws = refl
  faults_append (v ∷ vs) ws = ap (first (fault_of k v)) (faults_append vs ws) ∙ sym (first_again (fault_of k v) (faults vs) (faults ws))

  -- two parts in turn
  both : {a b : Option Fault} (vs ws : List Declared) → a ≡ faults vs → b ≡ faults ws → first a b ≡ faults (vs ++ ws)
  both {a} {b} vs ws e f = ap (λ o. first o b) e ∙ ap (first (faults vs)) f ∙ sym (faults_append vs ws)

  quiet_faults : (ns : List Node) → faults (map quiet_node ns) ≡ None
  quiet_faults [] = refl
  quiet_faults (n ∷ ns) = quiet_faults ns

  -- a part, and nodes at which nothing is broken
  and_quiet : {a : Option Fault} (vs : List Declared) (ns : List Node) → a ≡ faults vs → a ≡ faults (vs ++ map quiet_node ns)
  and_quiet {a} vs ns e = sym (first_none a) ∙ both {a = a} {b = None} vs (map quiet_node ns) e (sym (quiet_faults ns))

  mutual
    written_is : (w : Written) → written_fault k w ≡ faults (written_declared w)
    written_is t.Written.int = refl
    written_is t.Written.logic = refl
    written_is t.Written.char = refl
    written_is t.Written.string = refl
    written_is t.Written.void = refl
    written_is (t.Written.named n p x) = sym (first_none _)
    written_is (t.Written.option w) = written_is w
    written_is (t.Written.array w) = written_is w
    written_is (t.Written.task w) = written_is w
    written_is (t.Written.map v w) = both (written_declared v) (written_declared w) (written_is v) (written_is w)
    written_is (t.Written.tuple ws) = writtens_is ws
    written_is (t.Written.event w) = written_is w
    written_is t.Written.bare_event = refl

    writtens_is : (ws : Writtens) → writtens_fault k ws ≡ faults (writtens_declared ws)
    writtens_is no_writtens = refl
    writtens_is (more_writtens w ws) = both (written_declared w) (writtens_declared ws) (written_is w) (writtens_is ws)

  param_is : (p : ParamTree) → written_fault k p.written ≡ faults (param_declared p)
  param_is p = sym (first_none (written_fault k p.written)) ∙ both {a = written_fault k p.written} {b = None} (written_declared p.written)
      (one p.number p.place quiet) (written_is p.written) refl

  params_is : (ps : List ParamTree) → params_fault k ps ≡ faults (params_declared ps)
  params_is [] = refl
  params_is (p ∷ ps) = both (param_declared p) (params_declared ps) (param_is p) (params_is ps)

  fun_is : (f : FunTree) → fun_fault k f ≡ faults (fun_declared f)
  fun_is f = and_quiet (params_declared f.params ++ written_declared f.written) (post_order f.body)
      (both (params_declared f.params) (written_declared f.written) (params_is f.params) (written_is f.written))

  field_is : (d : FieldTree) → written_fault k d.written ≡ faults (field_declared d)
  field_is d = and_quiet (written_declared d.written) (default_order d.default) (written_is d.written)

  member_is : (h : Home) (n : ℕ) (m : MemberTree) → member_fault k h n m ≡ faults (member_declared h n m)
  member_is h n (i.MemberTree.field d) = both (field_declared d) (one d.number d.place (field h d)) (field_is d) (sym (first_none _))
  member_is h n (i.MemberTree.method f) = both (fun_declared f) (one f.number f.place (method h n f)) (fun_is f) (sym (first_none _))

  members_is : (h : Home) (n : ℕ) (ms : List MemberTree) → members_fault k h n ms ≡ faults (members_declared h n ms)
  members_is h n [] = refl
  members_is h n (m ∷ ms) = both (member_declared h n m) (members_declared h (fun_after m n) ms) (member_is h n m)
      (members_is h (fun_after m n) ms)

  item_is : (it : ItemTree) (n : Counts) → item_fault k it n ≡ faults (item_declared k it n)
  item_is (i.ItemTree.using u) n = refl
  item_is (i.ItemTree.enumeration e) n = sym (first_none _)
  item_is (i.ItemTree.class c) n = both (members_declared (home k n.classes c.members) n.funs c.members)
      (one c.number c.place (class n.classes c)) (members_is (home k n.classes c.members) n.funs c.members) (sym (first_none _))
  item_is (i.ItemTree.function f) n = both (fun_declared f) (one f.number f.place (function n.funs f)) (fun_is f) (sym (first_none _))

  items_is : (is : List Counted) → items_fault k is ≡ faults (items_declared k is)
  items_is [] = refl
  items_is (j ∷ is) = both (item_declared k j.item j.before) (items_declared k is) (item_is j.item j.before) (items_is is)

  pub program_is : (is : List ItemTree) → program_fault k (length (items_order is)) is ≡ faults (program_declared k is)
  program_is is = both (items_declared k k.items) (one (length (items_order is)) program_place (program is)) (items_is k.items)
      (sym (first_none _))

  kept : (vs : List Declared) (o : Option Fault) → each (keep_fault k) vs o ≡ first o (faults vs)
  unfolding keep_fault
  kept [] o = sym (first_none o)
  kept (v ∷ vs) o = kept vs (first o (fault_of k v)) ∙ first_again o (fault_of k v) (faults vs)

  finds : (v : Declared) (o : Option Fault) → Finds (Breaks k v o) (first_true (rules_at k v.subject))
  finds v o = first_finds (rules_at k v.subject) refl

  told : (vs : List Declared) → InOrder number_of vs → Told number_of (keep_fault k) (Breaks k) vs None (each (keep_fault k) vs None)
  unfolding keep_fault
  told vs o = least_kept number_of place_of (keep_fault k) (Breaks k) (λ v s. first_true (rules_at k v.subject)) finds (λ s. s)
      (λ v s. refl) vs None o refl

  -- the first fault of the items is the least of all
  pub items_told : (is : List ItemTree) → InOrder number_of (program_declared k is) →
      Told number_of (keep_fault k) (Breaks k) (program_declared k is) None (program_fault k (length (items_order is)) is)
  items_told is o = subst (Told number_of (keep_fault k) (Breaks k) (program_declared k is) None) (kept (program_declared k is) None ∙
      sym (program_is is)) (told (program_declared k is) o)

  placed : (vs : List Declared) → Placed number_of place_of vs (each (keep_fault k) vs None)
  unfolding keep_fault
  placed vs = placed_kept number_of place_of (keep_fault k) (Breaks k) (λ v s. first_true (rules_at k v.subject)) finds (λ s. s)
      (λ v s. refl) vs None refl

  -- and stands at one of the nodes
  pub items_placed : (is : List ItemTree) → Placed number_of place_of (program_declared k is) (program_fault k (length (items_order is)) is)
  items_placed is = subst (Placed number_of place_of (program_declared k is)) (kept (program_declared k is) None ∙ sym (program_is is))
      (placed (program_declared k is))
