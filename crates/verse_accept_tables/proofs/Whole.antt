-- The tables of a program that the front end accepts.
use Rattle.std.proofs.Common.{◌≡◌, ℕ, zero, suc, ◌+◌, ◌*◌, ◌<◌, ◌≤◌, List, [], ◌∷◌, map, length, sym, ap, ◌∙◌, subst, inl, arith}
use Rattle.std.proofs.lemmas.Option.{slice_get_within}
use Rattle.std.specs.Prelude.{All, slice_get}
use Rattle.verse_base.specs.declared.limits.TheConstants.{MOST_OPERATIONS}
use Rattle.verse_tree.specs.ItemTree.{ItemTree}
use Rattle.verse_tree.specs.Numbering.{program_nodes}
use Rattle.verse_tree.specs.Sizes.{class_fields, items_fields}
use Rattle.verse_tree.specs.declared.programs.Program.{Program as Made}
use Rattle.verse_tree.specs.declared.tables.FunInfo.{FunInfo}
use Rattle.verse_tree.specs.declared.tables.ClassInfo.{ClassInfo}
use Rattle.verse_tree.specs.declared.tables.Names.{Names}
use Rattle.verse_tree.specs.declared.tables.Ref.TheVariants as ref
use Rattle.verse_names_tables.specs.Counting.{no_counts}
use Rattle.verse_names_declarations.specs.Known.{known}
use Rattle.verse_names_items.specs.Nodes.{ItemsBreak}
use Rattle.verse_rules.specs.Sound.{completed, size_of}
use Rattle.verse_meaning.specs.Programs.{program_of, classes, fields_from, method_in}
use Rattle.verse_meaning.specs.Programs as programs
use Rattle.lower_bounds.specs.Programs.{MethodsFit}
use Rattle.lower_bounds.proofs.Lists.{Each}
use Rattle.lower_simulation_runs.specs.Programs.{defined_in}
use Rattle.verse_accept_tables.specs.Sound.{items_of, IsSoundProgram}
use Rattle.verse_accept_tables.specs.Laws.{NumbersStand, TablesStand, MainStands, SizeFits}
use Rattle.verse_accept_tables.proofs.Numbers.{defined_apart, defaults_apart}
use Rattle.verse_accept_tables.proofs.Functions.{numbers_are, as_many, bodies_many}
use Rattle.verse_accept_tables.proofs.Members.{all_there, ref_there}
use Rattle.verse_accept_tables.proofs.Methods.{IsMethod, HasMethods, method_there, classes_fit}
use Rattle.verse_accept_classes.proofs.Classes.{classes_many}
use Rattle.verse_accept_tables.proofs.Fields.{fields_agree}
use Rattle.verse_accept_classes.proofs.Lines.{NoCircle}
use Rattle.verse_accept_classes.proofs.Circles.{no_circle}
use Rattle.verse_accept_tables.proofs.Counts.{HasFew, classes_few, defined_few}
use Rattle.verse_accept_tables.proofs.Main.{main_found}

-- no rule of items and members is broken
items_sound : (made : Made) → IsSoundProgram made → (n c : ℕ) → ItemsBreak (items_of made) n c → ⊥
items_sound made h n c b = h.sound n c (inl b)

straight : (made : Made) → IsSoundProgram made → NoCircle (known (items_of made)).outline
straight made h = no_circle (items_of made) (items_sound made h)

-- ---- numbers

pub numbers_stand : NumbersStand
numbers_stand made h =
    let is = items_of made in
    record {
      numbers = ap (λ (k : Names). map (λ (f : FunInfo). f.item) k.funs) h.names ∙ numbers_are (known is).index.types is no_counts;
      distinct = defined_apart is made.tree.nodes h.numbered;
      functions = λ n f e. ref_there is (completed is).refs n (ref.Fun f) (all_there is)
          (ap (λ (k : Names). programs.known (slice_get k.refs n)) (sym h.names) ∙ e);
      methods = λ c m f e. method_there is (completed is).classes c m f (classes_fit is)
          (ap (λ (k : Names). method_in m (slice_get k.classes c)) (sym h.names) ∙ e);
      fields = defaults_apart is made.tree.nodes h.numbered;
    }

-- ---- tables

all_of : {A : Type 0} (P : A → Type 0) (xs : List A) → Each P xs → All P xs
all_of P [] h k d l = absurd (omega (arith, l))
all_of P (x ∷ xs) h zero d l = h.0
all_of P (x ∷ xs) h (suc k) d l = all_of P xs h.1 k d (omega (arith, l))

number_within : (is : List ItemTree) (f : ℕ) → IsMethod is f → f < length (defined_in is)
number_within is f h = slice_get_within (defined_in is) f _ h.1

numbers_within : (is : List ItemTree) (m : ℕ) (fs : List ℕ) → m ≡ length (defined_in is) → Each (IsMethod is) fs → Each (λ f. f < m) fs
numbers_within is m [] e h = tt
numbers_within is m (f ∷ fs) e h = (subst (λ n. f < n) (sym e) (number_within is f h.0), numbers_within is m fs e h.1)

methods_fit : (is : List ItemTree) (m : ℕ) (cs : List ClassInfo) → m ≡ length (defined_in is) → length (defined_in is) ≤ 1048576 →
    Each (HasMethods is) cs → Each (HasFew is) cs → Each (MethodsFit m) cs
methods_fit is m [] e l h g = tt
methods_fit is m (c ∷ cs) e l h g = (
  record { count = omega (arith, l, g.0); methods = all_of _ c.methods (numbers_within is m c.methods e h.0) },
  methods_fit is m cs e l h.1 g.1,
)

few : (is : List ItemTree) → size_of is ≤ 16777216 → length (defined_in is) ≤ 1048576
few is h = omega (arith, h, defined_few is)

pub tables_stand : TablesStand
tables_stand made h =
    let is = items_of made in
    let k = known is in
    let functions : length made.names.funs ≡ length (defined_in is) =
    ap (λ (k : Names). length k.funs) h.names ∙ as_many k.index.types is no_counts in
    let fit = methods_fit is (length made.names.funs) (completed is).classes functions (few is h.size) (classes_fit is)
    (classes_few is (straight made h)) in
    record {
      functions = functions ∙ sym (bodies_many is);
      classes = ap (λ (k : Names). length k.classes) h.names ∙ classes_many is;
      fields = λ c. ap (λ (k : Names). class_fields (slice_get k.classes c)) h.names ∙ fields_agree is (straight made h) c;
      methods = subst (λ (k : Names). All (MethodsFit (length made.names.funs)) k.classes) (sym h.names)
          (all_of _ (completed is).classes fit);
      refs = λ n c e.
          let there = ref_there is (completed is).refs n (ref.Class c) (all_there is)
          (ap (λ (k : Names). programs.known (slice_get k.refs n)) (sym h.names) ∙ e) in
          let within = slice_get_within (classes is) c there.0 there.1 in
          subst (λ m. c < m) (sym (ap (λ (k : Names). length k.classes) h.names ∙ classes_many is)) within;
    }

pub main_stands : MainStands
main_stands made h = main_found (items_of made) (items_sound made h)

pub size_fits : SizeFits
size_fits made h = subst (λ (k : Names). 16 * program_nodes (items_of made) + 4 * items_fields k (items_of made) ≤ MOST_OPERATIONS)
    (sym h.names) h.size
