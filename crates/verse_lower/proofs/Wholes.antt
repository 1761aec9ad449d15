-- A function, and the code of a whole program.
use Rattle.std.proofs.Common.{◌≡◌, arith, ℕ, zero, suc, List, [], ◌∷◌, ◌++◌, length, map, max, Bool, refl, sym, ap, ◌∙◌}
use Rattle.verse_tree.specs.ItemTree.{ItemTree}
use Rattle.verse_tree.specs.ItemView.{item_of}
use Rattle.verse_tree.specs.declared.programs.Program.{Program}
use Rattle.verse_base.specs.declared.places.Place.{Place}
use Rattle.verse_tree.specs.Tree.{Bytes}
use Rattle.verse_code.specs.declared.operations.Op.{Op}
use Rattle.verse_code.specs.declared.operations.Op.TheVariants as o
use Rattle.verse_code.specs.declared.codes.Class.{Class}
use Rattle.verse_code.specs.declared.codes.Code.{Code}
use Rattle.verse_code.specs.declared.codes.Func.{Func}
use Rattle.verse_meaning.specs.Programs.{program_of}
use Rattle.lower_code.specs.Pieces.{Spot, Item, sure, leaving, Maker, nothing, one, ◌then◌}
use Rattle.lower_code.specs.Arounds.{fresh}
use Rattle.lower_code.specs.Scopes.{Scope}
use Rattle.lower_code.specs.declared.arounds.Around.{Around}
use Rattle.lower_code.specs.Programs as l
use Rattle.lower_code.specs.Programs.{all_bodies, class_of, code_of, first_spot, item_op, main_from}
use Rattle.lower_expr.specs.Building.{Built, empty, made, raw, spot, with_locals}
use Rattle.lower_expr.proofs.Laws.{made_then, made_nothing}
use Rattle.lower_lookup.specs.Types.{differ_of}
use Rattle.lower_parts.specs.Parts.{tree_code}
use Rattle.lower_simulation_runs.proofs.Firm.{Sures, Firm, and, none_firm, one_firm}
use Rattle.lower_simulation_runs.proofs.FirmForms.{piece_firm}
use Rattle.verse_lower.specs.Making.{bodies_code, function_of, functions_from, with_body, with_bodies}

-- a body, by what its steps make
pub body_done : (p : Program) (b : l.Body) (sc : Scope) (a : Around) (so_far start tree all : Built) →
    start ≡ with_locals 0 so_far →
    sc ≡ b.scope → a ≡ fresh → tree ≡ made (tree_code p b.body sc a) start → all ≡ made (one o.Return) tree →
    all ≡ with_body p b so_far
body_done p b sc a so_far start tree all e1 e2 e3 e4 e5 =
    let f : Maker = tree_code p b.body b.scope fresh in
    e5 ∙ ap (made (one o.Return)) (e4 ∙ ap (λ s. made (tree_code p b.body s a) start) e2
    ∙ ap (λ c. made (tree_code p b.body b.scope c) start) e3
    ∙ ap (made f) e1)
    ∙ sym (made_then f (one o.Return) (with_locals 0 so_far))

none_counted : (n : ℕ) → max 0 n ≡ n
none_counted n = omega arith

counted : (f : Maker) (so_far : Built) → (made f (with_locals 0 so_far)).locals ≡ (f (spot so_far)).locals
unfolding made with_locals
counted f so_far = none_counted (f (spot so_far)).locals

-- a function, by its numbers
pub function_done : (p : Program) (b : l.Body) (suspends : Bool) (so_far all : Built)
    (params entry count locals : ℕ) → params ≡ length b.scope →
    entry ≡ length so_far.ops → suspends ≡ b.suspends → all ≡ with_body p b so_far → count ≡ all.locals →
    locals ≡ max params count →
    record { params = params; locals = locals; entry = entry; suspends = suspends } ≡ function_of p (spot so_far) b
function_done p b suspends so_far all params entry count locals e1 e2 e3 e4 e5 e6 =
    let f : Maker = l.body_piece (program_of p) (differ_of p) b in
    let most : locals ≡ max (length b.scope) (f (spot so_far)).locals =
    e6 ∙ ap (λ n. max n count) e1 ∙ ap (max (length b.scope)) (e5 ∙ ap (λ x. x.locals) e4 ∙ counted f so_far) in
    ap (λ n. record { params = n; locals = locals; entry = entry; suspends = suspends }) e1
    ∙ ap (λ n. record { params = length b.scope; locals = n; entry = entry; suspends = suspends }) most
    ∙ ap (λ n. record {
      params = length b.scope;
      locals = max (length b.scope) (f (spot so_far)).locals;
      entry = n;
      suspends = suspends;
    }) e2
    ∙ ap (λ x. record {
      params = length b.scope;
      locals = max (length b.scope) (f (spot so_far)).locals;
      entry = length so_far.ops;
      suspends = x;
    }) e3

-- no jump leaves a function
raw_sures : (is : List Item) → Sures is → map raw is ≡ map item_op is
raw_sures [] h = refl
raw_sures (sure op ∷ is) h = ap (λ k. op ∷ k) (raw_sures is h)
raw_sures (leaving n ∷ is) h = absurd h

bodies_firm : (p : Program) (bs : List l.Body) → Firm (bodies_code p bs)
bodies_firm p [] = none_firm
bodies_firm p (b ∷ bs) =
    and (and (piece_firm (program_of p) (differ_of p) b.body b.scope fresh refl) (one_firm o.Return)) (bodies_firm p bs)

-- what the functions of a code add to none
record Adds (p : Program) (bs : List l.Body) (b : Built) : Type 0 where
  ops : b.ops ≡ map item_op (bodies_code p bs first_spot).items
  places : b.places ≡ (bodies_code p bs first_spot).places
  texts : b.texts ≡ (bodies_code p bs first_spot).texts

adds : (p : Program) (bs : List l.Body) (b : Built) → with_bodies p [] b ≡ with_bodies p bs empty → Adds p bs b
unfolding made with_locals
adds p bs b e =
    let here : with_locals 0 b ≡ with_bodies p bs empty = sym (ap (with_locals 0) (made_nothing b)) ∙ e in
    record {
      ops = ap (λ x. x.ops) here ∙ raw_sures (bodies_code p bs first_spot).items ((bodies_firm p bs).sures first_spot);
      places = ap (λ x. x.places) here;
      texts = ap (λ x. x.texts) here;
    }

-- the code of a program, by its parts
pub code_done : (p : Program) (bs : List l.Body) (b : Built) (fs : List Func) (cs : List Class) (main : ℕ)
    (ops : List Op) (places : List Place) (texts : List Bytes) →
    bs ≡ all_bodies (map item_of p.tree.items) → with_bodies p [] b ≡ with_bodies p bs empty →
    fs ≡ functions_from p bs (spot empty) → cs ≡ map class_of p.names.classes →
    main ≡ main_from 0 (map item_of p.tree.items) →
    ops ≡ b.ops → places ≡ b.places → texts ≡ b.texts →
    record {
      files = p.tree.files;
      texts = texts;
      places = places;
      functions = fs;
      classes = cs;
      main = main;
      ops = ops;
    } ≡ code_of (program_of p) (differ_of p) p.tree.files
code_done p bs b fs cs main ops places texts e1 e2 e3 e4 e5 e6 e7 e8 =
    let r = adds p bs b e2 in
    let all = all_bodies (map item_of p.tree.items) in
    let w = λ (ks : List l.Body). bodies_code p ks first_spot in
    ap (λ x. record {
      files = p.tree.files;
      texts = x;
      places = places;
      functions = fs;
      classes = cs;
      main = main;
      ops = ops;
    }) (e8 ∙ r.texts ∙ ap (λ k. (w k).texts) e1)
    ∙ ap (λ x. record {
      files = p.tree.files;
      texts = (w all).texts;
      places = x;
      functions = fs;
      classes = cs;
      main = main;
      ops = ops;
    }) (e7 ∙ r.places ∙ ap (λ k. (w k).places) e1)
    ∙ ap (λ x. record {
      files = p.tree.files;
      texts = (w all).texts;
      places = (w all).places;
      functions = x;
      classes = cs;
      main = main;
      ops = ops;
    }) (e3 ∙ ap (λ k. functions_from p k (spot empty)) e1)
    ∙ ap (λ x. record {
      files = p.tree.files;
      texts = (w all).texts;
      places = (w all).places;
      functions = functions_from p all (spot empty);
      classes = x;
      main = main;
      ops = ops;
    }) e4
    ∙ ap (λ x. record {
      files = p.tree.files;
      texts = (w all).texts;
      places = (w all).places;
      functions = functions_from p all (spot empty);
      classes = map class_of p.names.classes;
      main = x;
      ops = ops;
    }) e5
    ∙ ap (λ x. record {
      files = p.tree.files;
      texts = (w all).texts;
      places = (w all).places;
      functions = functions_from p all (spot empty);
      classes = map class_of p.names.classes;
      main = main_from 0 (map item_of p.tree.items);
      ops = x;
    }) (e6 ∙ r.ops ∙ ap (λ k. map item_op (w k).items) e1)
