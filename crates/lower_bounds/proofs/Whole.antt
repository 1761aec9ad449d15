-- The code of a whole program is small and valid.
use Rattle.std.proofs.Common.{◌≡◌, ℕ, zero, suc, ◌+◌, ◌<◌, ◌≤◌, List, [], ◌∷◌, map, length, Bool, Option, Some, None, refl, sym, ap, ◌∙◌}
use Rattle.std.proofs.Common.{arith, slice_get, subst}
use Rattle.std.proofs.lemmas.List.Elements.{All-weaker, All-map}
use Rattle.std.proofs.lemmas.Option.{none-some, same_Some}
use Rattle.std.proofs.lemmas.List.{length-map}
use Rattle.verse_base.specs.declared.limits.TheConstants.{MOST_OPERATIONS}
use Rattle.verse_base.proofs.Facts.{get_first}
use Rattle.verse_tree.specs.PostOrder.{items_order, post_order}
use Rattle.verse_tree.specs.Sizes.{fields_at, found_fields, class_fields}
use Rattle.verse_tree.specs.declared.tables.ClassInfo.{ClassInfo}
use Rattle.verse_tree.specs.declared.tables.Ref.{Ref}
use Rattle.verse_tree.specs.declared.tables.Ref.TheVariants as ref
use Rattle.verse_code.specs.declared.operations.Op.{Op}
use Rattle.verse_code.specs.declared.operations.Op.TheVariants as o
use Rattle.verse_code.specs.declared.codes.Func.{Func}
use Rattle.verse_code.specs.declared.codes.Code.{Code}
use Rattle.verse_code.specs.declared.validity.Sizes.{Sizes}
use Rattle.verse_code.specs.Validity.{Valid, IsPlace, IsText, IsFunction, IsClass, sizes_of}
use Rattle.verse_meaning.specs.Programs.{Program, ref_at, known, fields_of}
use Rattle.verse_meaning.specs.Evaluating.{class_ref}
use Rattle.lower_code.specs.Pieces.{Spot, Item, sure, leaving, Piece, behind, past, one, joined}
use Rattle.lower_code.specs.Arounds.{fresh}
use Rattle.lower_code.specs.Defaults.{defaults_in}
use Rattle.lower_code.specs.Lowering.{piece}
use Rattle.lower_code.specs.Programs.{Body, body_of, bodies_in, default_bodies, all_bodies, class_of, item_op, first_spot, body_piece}
use Rattle.lower_code.specs.Programs.{bodies_from, func_of}
use Rattle.lower_code.specs.Programs.{funcs_from, whole, code_of}
use Rattle.lower_code.proofs.Standing.{behind_more, behind_least}
use Rattle.lower_bounds.specs.Programs.{size_of, FieldsAgree, NodeFits, MethodsFit, CanBeLowered}
use Rattle.lower_bounds.specs.Laws.{IsWithin, SizeStands, CodeIsSmall, CodeIsValid}
use Rattle.lower_bounds.proofs.Lists.{Each, each_of, each_joined}
use Rattle.lower_bounds.proofs.Costs.{weight, cost_is}
use Rattle.lower_bounds.proofs.Forms.{piece_kept, cost_some}
use Rattle.lower_bounds.proofs.Sizes.{Small, sizes_kept, small_wider, small_both, small_one, small_none}
use Rattle.lower_bounds.proofs.Tables.{class_is}
use Rattle.lower_bounds.proofs.Operands.{Suit, AllSuit, Room, Suits, suit_joined}
use Rattle.lower_bounds.proofs.Validity.{functions_of, classes_of, operands_kept}
use Rattle.lower_bounds.proofs.Bodies.{each_all, all_each, params_many, BodyHas, all_have, bodies_cost, all_cost, classes_many}
use Rattle.lower_bounds.proofs.Bodies.{bodies_many, main_at}

-- the fields of a class by the number of an instance's node
known_class : (p : Program) (r : Option (Option Ref)) (c : ℕ) → known r ≡ Some (ref.Class c) → found_fields p.names r ≡ class_fields
    (slice_get p.names.classes c)
known_class p None c e = elim (none-some _ e) [ ]
known_class p (Some None) c e = elim (none-some _ e) [ ]
known_class p (Some (Some r)) c e = ap (λ x. found_fields p.names (Some x)) e

pub fields_few : (p : Program) → FieldsAgree p → (n c : ℕ) → class_ref p (ref_at p n) ≡ Some c → length
    (fields_of p c) ≤ fields_at p.names n
fields_few p agree n c e = omega (arith, known_class p (slice_get p.names.refs n) c (class_is p (ref_at p n) c e), agree c)

behind_length : {A : Type 0} (xs : List A) (n : ℕ) → behind xs n ≡ length xs + n
behind_length [] n = omega arith
behind_length (x ∷ xs) n = omega (arith, behind_length xs (suc n))

module _ (p : Program) (differ : ℕ → ℕ → Bool) where
  -- the size
  module _ (agree : FieldsAgree p) where
    pub body_small : (b : Body) → Small (length b.scope) 0 (weight (fields_at p.names) b.body) (body_piece p differ b)
    body_small b = small_wider {l = length b.scope} {h = 0} (omega arith) (omega arith)
        (omega (arith, cost_is (fields_at p.names) b.body)) (small_both
        (piece_kept (sizes_kept p differ) (fields_at p.names) (fields_few p agree) b.body
        (each_of (λ v. tt) (post_order b.body)) 0 b.scope fresh tt) (small_one o.Return))

    pub bodies_small : (bs : List Body) (l : ℕ) → bodies_cost (fields_at p.names) bs ≤ l → Small l 0 (bodies_cost (fields_at p.names) bs)
        (bodies_from p differ bs)
    bodies_small [] l le = small_none
    bodies_small (b ∷ bs) l le = small_wider {l = l} {h = 0} (omega arith) (omega arith) (omega arith)
        (small_both {n = weight (fields_at p.names) b.body}
        (small_wider {l = length b.scope} {h = 0} (omega (arith, le)) (omega arith) (omega arith) (body_small b))
        (bodies_small bs l (omega (arith, le))))

    all_small : Small (size_of p) 0 (bodies_cost (fields_at p.names) (all_bodies p.items)) (bodies_from p differ (all_bodies p.items))
    all_small = bodies_small (all_bodies p.items) (size_of p) (omega (arith, all_cost (fields_at p.names) p.items))

    pub code_small : (files : ℕ) → IsWithin (size_of p) (code_of p differ files)
    code_small files = record {
      ops = omega (arith, length-map (whole p differ).items item_op, all_small.few first_spot, all_cost (fields_at p.names) p.items);
      places = omega (arith, all_small.places first_spot, all_cost (fields_at p.names) p.items);
      texts = omega (arith, all_small.texts first_spot, all_cost (fields_at p.names) p.items);
    }

pub size_stands : SizeStands
size_stands made = refl

pub code_is_small : CodeIsSmall
code_is_small p differ files agree = code_small p differ agree files

-- a code in which a piece ends at e
record Within (functions classes : ℕ) (z : Sizes) (e : Spot) : Type 0 where
  pub ops : e.at ≤ z.ops
  pub places : e.place ≤ z.places
  pub texts : e.text ≤ z.texts
  pub calls : functions ≤ z.functions
  pub objects : classes ≤ z.classes

within_first : {functions classes : ℕ} {z : Sizes} (s : Spot) (p : Piece) (q : Piece) → Within functions classes z (past s (joined p q)) →
    Within functions classes z (past (past s p) q)
within_first s p q r = record {
  ops = omega (arith, behind_more p.items q.items s.at, r.ops);
  places = omega (arith, behind_more p.places q.places s.place, r.places);
  texts = omega (arith, behind_more p.texts q.texts s.text, r.texts);
  calls = r.calls;
  objects = r.objects;
}

within_before : {functions classes : ℕ} {z : Sizes} (e : Spot) (q : Piece) → Within functions classes z (past e q) →
    Within functions classes z e
within_before e q r = record {
  ops = omega (arith, behind_least q.items e.at, r.ops);
  places = omega (arith, behind_least q.places e.place, r.places);
  texts = omega (arith, behind_least q.texts e.text, r.texts);
  calls = r.calls;
  objects = r.objects;
}

-- an operation of a list whose operands suit
suit_at : (z : Sizes) (is : List Item) (at i : ℕ) (op : Op) → slice_get (map item_op is) i ≡ Some op → AllSuit z is at → Suit z
    (i + at) op
suit_at z [] at i op e h = elim (none-some op e) [ ]
suit_at z (sure x ∷ is) at zero op e h =
    let here : 0 + at ≡ at = omega arith in
    subst (λ y. Suit z (0 + at) y) (same_Some _ _ e) (subst (λ n. Suit z n x) (sym here) h.0)
suit_at z (leaving n ∷ is) at zero op e h = subst (λ y. Suit z (0 + at) y) (same_Some _ _ e) refl
suit_at z (sure x ∷ is) at (suc i) op e h =
    let there : i + suc at ≡ suc i + at = omega arith in
    subst (λ n. Suit z n op) there (suit_at z is (suc at) i op e h.1)
suit_at z (leaving n ∷ is) at (suc i) op e h =
    let there : i + suc at ≡ suc i + at = omega arith in
    subst (λ n. Suit z n op) there (suit_at z is (suc at) i op e h)

funcs_length : (p : Program) (differ : ℕ → ℕ → Bool) (bs : List Body) (s : Spot) → length (funcs_from p differ bs s) ≡ length bs
funcs_length p differ [] s = refl
funcs_length p differ (b ∷ bs) s = ap suc (funcs_length p differ bs (past s (body_piece p differ b s)))

func_at : (p : Program) (differ : ℕ → ℕ → Bool) (bs : List Body) (s : Spot) (m : ℕ) (b : Body) → slice_get bs m ≡ Some b →
    (f : Func) × (slice_get (funcs_from p differ bs s) m ≡ Some f) × (f.params ≡ length b.scope)
func_at p differ [] s m b e = elim (none-some b e) [ ]
func_at p differ (x ∷ bs) s zero b e = (
  func_of p differ s x (body_piece p differ x s),
  refl,
  ap (λ (y : Body). length y.scope)
      (same_Some _ _ e),
)
func_at p differ (x ∷ bs) s (suc m) b e = func_at p differ bs (past s (body_piece p differ x s)) m b e

bodies_count : (fields : ℕ → ℕ) (bs : List Body) → length bs ≤ bodies_cost fields bs
bodies_count fields [] = omega arith
bodies_count fields (b ∷ bs) = omega (arith, bodies_count fields bs, cost_some fields b.body, cost_is fields b.body)

each_get : {X : Type 0} (P : X → Type 0) (xs : List X) (n : ℕ) (x : X) → slice_get xs n ≡ Some x → Each P xs → P x
each_get P [] n x e h = elim (none-some x e) [ ]
each_get P (y ∷ xs) zero x e h = subst P (same_Some _ _ e) h.0
each_get P (y ∷ xs) (suc n) x e h = each_get P xs n x e h.1

module _ (p : Program) (differ : ℕ → ℕ → Bool) (files : ℕ) (able : CanBeLowered p files) where
  -- the body of a function, with its Return
  body_suits : (b : Body) → BodyHas (NodeFits files) b → Suits files (functions_of p) (classes_of p) 0
      (piece p differ b.body b.scope fresh)
  body_suits b h = piece_kept (operands_kept p differ files able.tables) (fields_at p.names)
      (fields_few p able.tables.fields) b.body h 0 b.scope fresh tt

  bodies_suit : (bs : List Body) → Each (BodyHas (NodeFits files)) bs → (s : Spot) (z : Sizes) → Within (functions_of p) (classes_of p) z
      (past s (bodies_from p differ bs s)) →
      AllSuit z (bodies_from p differ bs s).items s.at
  bodies_suit [] h s z r = tt
  bodies_suit (b ∷ bs) h s z r =
      let q : Piece = piece p differ b.body b.scope fresh s in
      let e : Spot = past s q in
      let f : Piece = body_piece p differ b s in
      let rest : Within (functions_of p) (classes_of p) z (past (past s f) (bodies_from p differ bs (past s f))) = within_first s f
      (bodies_from p differ bs (past s f)) r in
      let there : Within (functions_of p) (classes_of p) z (past e (one o.Return e)) = within_first s q (one o.Return e)
      (within_before (past s f) (bodies_from p differ bs (past s f)) rest) in
      let room : Room (functions_of p)
      (classes_of p) z e = record {
        ops = there.ops;
        places = there.places;
        texts = there.texts;
        calls = there.calls;
        objects =
            there.objects;
      } in
      suit_joined z f.items (bodies_from p differ bs (past s f)).items s.at
      (suit_joined z q.items (sure o.Return ∷ []) s.at ((body_suits b h.0).operands s z room (omega arith)) (refl, tt))
      (bodies_suit bs h.1 (past s f) z rest)

  bodies_places : (bs : List Body) → Each (BodyHas (NodeFits files)) bs → (s : Spot) → Each (IsPlace files)
      (bodies_from p differ bs s).places
  bodies_places [] h s = tt
  bodies_places (b ∷ bs) h s = each_joined (IsPlace files) (body_piece p differ b s).places
      (bodies_from p differ bs (past s (body_piece p differ b s))).places
      (each_joined (IsPlace files) (piece p differ b.body b.scope fresh s).places [] ((body_suits b h.0).places s) tt)
      (bodies_places bs h.1 (past s (body_piece p differ b s)))

  bodies_texts : (bs : List Body) → Each (BodyHas (NodeFits files)) bs → (s : Spot) → Each IsText (bodies_from p differ bs s).texts
  bodies_texts [] h s = tt
  bodies_texts (b ∷ bs) h s = each_joined IsText (body_piece p differ b s).texts
      (bodies_from p differ bs (past s (body_piece p differ b s))).texts
      (each_joined IsText (piece p differ b.body b.scope fresh s).texts [] ((body_suits b h.0).texts s) tt)
      (bodies_texts bs h.1 (past s (body_piece p differ b s)))

  funcs_fit : (bs : List Body) (s : Spot) (end : ℕ) → (past s (bodies_from p differ bs s)).at ≤ end → bodies_cost
      (fields_at p.names) bs ≤ MOST_OPERATIONS →
      Each (IsFunction end) (funcs_from p differ bs s)
  funcs_fit [] s end r le = tt
  funcs_fit (b ∷ bs) s end r le =
      let q : Piece = piece p differ b.body b.scope fresh s in
      let f : Piece = body_piece p differ b s in
      let rest : Piece = bodies_from p differ bs (past s f) in
      let far : (past (past s f) rest).at ≤ end = omega (arith, behind_more f.items rest.items s.at, r) in
      let small = body_small p differ able.tables.fields b in (
        record {
          params = omega arith;
          locals = omega (arith, small.locals s, le);
          entry = omega (
            arith,
            behind_more q.items (sure o.Return ∷ []) s.at,
            behind_least q.items s.at,
            behind_least rest.items
                (past s f).at,
            far,
          );
        },
        funcs_fit bs (past s f) end far (omega (arith, le)),
      )

  abbrev bodies : List Body
  bodies = all_bodies p.items

  abbrev pub code : Code
  code = code_of p differ files

  cost_within : bodies_cost (fields_at p.names) bodies ≤ MOST_OPERATIONS
  cost_within = omega (arith, all_cost (fields_at p.names) p.items, able.size)

  nodes_fit : Each (BodyHas (NodeFits files)) bodies
  nodes_fit = all_have (NodeFits files) p.items (all_each (NodeFits files) (items_order p.items) able.nodes)

  ends : (past first_spot (whole p differ)).at ≡ length code.ops
  ends = let e : length (whole p differ).items + 0 ≡ length (whole p differ).items = omega arith in
      behind_length (whole p differ).items 0 ∙ e ∙ sym (length-map (whole p differ).items item_op)

  calls_there : functions_of p ≤ length code.functions
  calls_there = omega (arith, able.tables.functions, bodies_many p.items, funcs_length p differ bodies first_spot)

  functions_fit : Each (IsFunction (length code.ops)) code.functions
  functions_fit = funcs_fit bodies first_spot (length code.ops) (omega (arith, ends)) cost_within

  all_within : Within (functions_of p) (classes_of p) (sizes_of code) (past first_spot (whole p differ))
  all_within = record {
    ops = omega (arith, ends);
    places = omega (arith, behind_length (whole p differ).places 0);
    texts = omega (arith, behind_length (whole p differ).texts 0);
    calls = calls_there;
    objects = omega (arith, length-map p.names.classes class_of);
  }

  -- Main, and that it is one of the functions
  main_is : (f : Func) × (slice_get code.functions code.main ≡ Some f) × (f.params ≤ 1)
  main_is =
      let f = able.main.0 in
      let at = main_at p.items 0 f able.main.1 in
      let there = func_at p differ bodies first_spot at.0 (body_of [] f) (get_first (bodies_in p.items)
      (default_bodies (defaults_in p.items)) at.0 (body_of [] f) at.2) in
      let number : at.0 ≡ code.main = omega (arith, at.1) in (
        there.0,
        subst (λ n. slice_get code.functions n ≡ Some there.0) number there.1,
        omega
            (arith, there.2, params_many f.params [], able.main.2),
      )

  some_operation : 1 ≤ length code.ops
  some_operation = omega
      (arith, (each_get (IsFunction (length code.ops)) code.functions code.main main_is.0 main_is.1 functions_fit).entry)

  class_fits : (c : ClassInfo) → MethodsFit (length p.names.funs) c → IsClass (length code.functions) (class_of c)
  class_fits c m = record {
    count = m.count;
    methods = All-weaker (λ f. f < length p.names.funs) (λ f. f < length code.functions)
        (λ f below. omega (arith, below, calls_there)) c.methods m.methods;
  }

  pub code_valid : Valid code
  code_valid =
      let small = code_small p differ able.tables.fields files in
      record {
        counts = record {
          files = able.count;
          ops = (some_operation, omega (arith, small.ops, able.size));
          texts = omega (arith, small.texts, able.size);
          places = omega (arith, small.places, able.size);
          functions = omega (arith, funcs_length p differ bodies first_spot, bodies_count (fields_at p.names) bodies, cost_within);
          classes = omega (arith, length-map p.names.classes class_of, able.tables.classes, classes_many p.items, able.size);
        };
        texts = each_all IsText code.texts (bodies_texts bodies nodes_fit first_spot);
        places = each_all (IsPlace files) code.places (bodies_places bodies nodes_fit first_spot);
        functions = each_all (IsFunction (length code.ops)) code.functions functions_fit;
        classes = All-map (IsClass (length code.functions)) class_of p.names.classes
            (All-weaker (MethodsFit (length p.names.funs)) (λ c. IsClass (length code.functions)
            (class_of c)) class_fits p.names.classes able.tables.methods);
        main = main_is;
        operations = λ at op e.
            let here : at + 0 ≡ at = omega arith in
            subst (λ n. Suit (sizes_of code) n op) here
            (suit_at (sizes_of code) (whole p differ).items 0 at op e (bodies_suit bodies nodes_fit first_spot
            (sizes_of code) all_within));
      }

pub code_is_valid : CodeIsValid
code_is_valid p differ files able = code_valid p differ files able
