-- What names stand for is numbered below how many classes and enums there are.
use Rattle.std.proofs.Common.{◌≡◌, ℕ, zero, suc, ◌<◌, ◌≤◌, List, [], ◌∷◌, ◌++◌, map, length, Option, Some, None, refl, sym, ap, ◌∙◌, subst}
use Rattle.std.proofs.Common.{arith}
use Rattle.std.proofs.lemmas.Option.{slice_get_within}
use Rattle.verse_tree.specs.Tree.{Bytes}
use Rattle.verse_tree.specs.ItemTree.{ItemTree, using, enumeration, class, function}
use Rattle.verse_tree.specs.Shapes.{ItemsShaped}
use Rattle.verse_tree.specs.Numbering.{items_nodes}
use Rattle.verse_tree.specs.declared.tables.Ref.{Ref}
use Rattle.verse_tree.specs.declared.tables.Ref.TheVariants as ref
use Rattle.verse_names_tables.specs.Names.{look}
use Rattle.verse_names_declarations.specs.Known.{known}
use Rattle.verse_names_items.specs.Tables.{enum_tables}
use Rattle.verse_names_scopes.specs.Visible.{World, inside, outside, visible}
use Rattle.verse_names_scopes.specs.Subjects.{Subject, quiet, type_name, this, used, instance, defined, both_defined, refers, this_ref}
use Rattle.verse_names_scopes.specs.Visits.{Visit, ref_of}
use Rattle.verse_rules_walk.specs.Order.{AreNumbered}
use Rattle.verse_check_typing.specs.Refs.{ref_at}
use Rattle.verse_rules.specs.Naming.{named}
use Rattle.verse_rules.specs.Sound.{completed}
use Rattle.verse_meaning.specs.Programs.{enums}
use Rattle.verse_accept_scopes.specs.Lists.{Each}
use Rattle.verse_accept_scopes.specs.Sites.{Site, visit_of, program_sites}
use Rattle.verse_accept_scopes.specs.Laws.{own_visit, Stands}
use Rattle.verse_accept_scopes.proofs.Whole.{visits_are_sites, sites_stand, worlds_are}
use Rattle.verse_accept_classes.specs.Laws.{Quiet}
use Rattle.verse_accept_classes.specs.Referring.{IsThere, Names}
use Rattle.verse_accept_classes.proofs.Classes.{notes_many, outline_many, classes_many}
use Rattle.verse_accept_classes.proofs.Referring.{type_there, outside_names, inside_names}
use Rattle.verse_accept_types.proofs.Rows.{RefNamed}

-- each enum is an item, and so a node
pub enums_few : (is : List ItemTree) → length (enum_tables is) ≤ items_nodes is
enums_few [] = omega arith
enums_few (using u ∷ is) = omega (arith, enums_few is)
enums_few (enumeration e ∷ is) = omega (arith, enums_few is)
enums_few (class c ∷ is) = omega (arith, enums_few is)
enums_few (function f ∷ is) = omega (arith, enums_few is)

pub enums_many : (is : List ItemTree) → length (enums is) ≡ length (enum_tables is)
enums_many [] = refl
enums_many (using u ∷ is) = enums_many is
enums_many (enumeration e ∷ is) = ap suc (enums_many is)
enums_many (class c ∷ is) = enums_many is
enums_many (function f ∷ is) = enums_many is

module _ (is : List ItemTree) where
  abbrev pub classes_count : ℕ
  classes_count = length (completed is).classes

  abbrev pub enums_count : ℕ
  enums_count = length (completed is).enums

  abbrev Known : Option Ref → Type 0
  Known = RefNamed classes_count enums_count

  pub notes_count : length (known is).notes ≡ classes_count
  notes_count = notes_many is ∙ sym (classes_many is)

  pub outline_count : length (known is).outline ≡ classes_count
  outline_count = outline_many is ∙ sym (classes_many is)

  there_known : (c : Option ℕ) (r : Ref) → IsThere is c r → Known (Some r)
  there_known c (ref.Class d) h = subst (λ n. d < n) notes_count (slice_get_within (known is).notes d h.note h.there)
  there_known c (ref.Enum e) h = subst (λ n. e < n) (enums_many is) (slice_get_within (enums is) e h.tree h.there)
  there_known c (ref.Local n) h = tt
  there_known c (ref.Key n) h = tt
  there_known c (ref.Field d i) h = tt
  there_known c (ref.Method d m) h = tt
  there_known c (ref.Fun f) h = tt
  there_known c (ref.Builtin b) h = tt

  all_there : (c : Option ℕ) (o : Option Ref) → ((r : Ref) → o ≡ Some r → IsThere is c r) → Known o
  all_there c None f = tt
  all_there c (Some r) f = there_known c r (f r refl)

  pub type_known : (x : Bytes) → Known (look x (known is).index.types)
  type_known x = all_there None (look x (known is).index.types) (λ r e. type_there is x r e)

  -- in a world of the program
  record InWorld (w : World) : Type 0 where
    names : Names is w
    class : (c : ℕ) → w.class ≡ Some c → c < classes_count

  this_known : (o : Option ℕ) → ((c : ℕ) → o ≡ Some c → c < classes_count) → Known (this_ref o)
  this_known None f = tt
  this_known (Some c) f = f c refl

  module _ (v : Site) (w : InWorld v.world) (h : Stands v) where
    visible_known : (x : Bytes) → Known (visible v.world v.locals x)
    visible_known x =
        all_there v.world.class (visible v.world v.locals x) (λ r e. w.names.names v.number v.locals h.locals x r e)

    subject_known : (u : Subject) → Known (refers v.world v.locals u)
    subject_known (type_name b x) = subst (λ ts. Known (look x ts)) (sym w.names.types) (type_known x)
    subject_known this = this_known v.world.class w.class
    subject_known (used x) = visible_known x
    subject_known (instance x gs) = visible_known x
    subject_known quiet = tt
    subject_known (defined x r) = tt
    subject_known (both_defined x r y q) = tt

  module _ (quiet_items : Quiet is) (shaped : ItemsShaped is) (numbered : AreNumbered is) where
    outside_in : InWorld (outside (known is))
    outside_in = record { names = outside_names is quiet_items; class = λ c e. absurd (cc) }

    inside_in : (c : ℕ) → c < length (known is).notes → InWorld (inside (known is) c)
    inside_in c l = record {
      names = inside_names is quiet_items c;
      class = λ d e. subst (λ n. n < classes_count) (let same : c ≡ d = cc in same) (subst (λ n. c < n) notes_count l);
    }

    sites_known : (vs : List Site) → Each (λ (v : Site). InWorld v.world) vs → Each Stands vs →
        Each (λ (v : Site). Known (ref_of (visit_of v))) vs
    sites_known [] w h = tt
    sites_known (v ∷ vs) w h = (subject_known v w.0 h.0 v.subject, sites_known vs w.1 h.1)

    at_visits : (vs : List Site) → Each (λ (v : Site). Known (ref_of (visit_of v))) vs → (n : ℕ) →
        Known (ref_at (map ref_of (map visit_of vs ++ own_visit is ∷ [])) n)
    at_visits [] h zero = tt
    at_visits [] h (suc n) = tt
    at_visits (v ∷ vs) h zero = h.0
    at_visits (v ∷ vs) h (suc n) = at_visits vs h.1 n

    pub refs_known : (n : ℕ) → Known (ref_at (named is).refs n)
    refs_known n =
        subst (λ (xs : List Visit). Known (ref_at (map ref_of xs) n)) (sym (visits_are_sites is shaped))
        (at_visits (program_sites is) (sites_known (program_sites is) (worlds_are InWorld is outside_in inside_in shaped)
        (sites_stand is shaped numbered)) n)
