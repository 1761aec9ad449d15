-- A program without `defer` has none of its operations.
use Rattle.std.proofs.Common.{◌≡◌, ℕ, zero, suc, ◌≤◌, List, [], ◌∷◌, map, Bool, true, false, nat_lt, refl, sym, ap, ◌∙◌, arith, subst}
use Rattle.std.proofs.Common.{ltb-true}
use Rattle.std.proofs.Common.{true≢false, le-ltb, slice_get, Option, Some, None, length}
use Rattle.std.proofs.lemmas.Option.{none-some, same_Some}
use Rattle.verse_base.specs.declared.places.Place.{Place}
use Rattle.verse_tree.specs.Tree.{Bytes, Tree, Holes, no_holes, more_holes}
use Rattle.verse_tree.specs.Tree as t
use Rattle.verse_tree.specs.PostOrder.{items_order}
use Rattle.verse_code.specs.declared.operations.Op.{Op}
use Rattle.verse_code.specs.declared.operations.Op.TheVariants as o
use Rattle.verse_code.specs.Operations as operations
use Rattle.verse_meaning.specs.Programs.{Program, fields_of, ref_at}
use Rattle.verse_meaning.specs.Evaluating.{class_ref}
use Rattle.lower_code.specs.declared.arounds.Around.{Around}
use Rattle.lower_code.specs.Pieces.{Spot, Item, sure, leaving, Piece, Maker, past, next, one, numbering, when, ahead, either, closing}
use Rattle.lower_code.specs.Pieces.{from_here, looping}
use Rattle.lower_code.specs.Pieces.{turning, using_locals, arms_at, arms_spot, closed, drops, deepest, later, ◌then◌}
use Rattle.lower_code.specs.Arounds.{fresh, leaving_to}
use Rattle.lower_code.specs.Defaults.{default_number}
use Rattle.lower_code.specs.Lowering.{grouped, default_op}
use Rattle.lower_code.specs.Programs.{Body, all_bodies, item_op, first_spot, bodies_from, whole}
use Rattle.lower_bounds.specs.Laws.{HasNoDefer, DefersShow, FilesStand}
use Rattle.lower_bounds.proofs.Lists.{Each, each_of, each_joined}
use Rattle.lower_bounds.proofs.Kept.{Kept, IsLow, PiecesAre}
use Rattle.lower_bounds.proofs.Forms.{piece_kept}
use Rattle.lower_bounds.proofs.Bodies.{all_each, BodyHas, all_have}

abbrev pub IsLowItem : Item → Type 0
IsLowItem (sure op) = IsLow op
IsLowItem (leaving n) = Unit {0}

-- no operation of a `defer`
pub record Low (f : Maker) : Type 0 where
  pub low : (s : Spot) → Each IsLowItem (f s).items

low_then : {f g : Maker} → Low f → Low g → Low (f then g)
low_then {f = f} {g = g} x y = record {
  low = λ s. each_joined IsLowItem (f s).items (g (past s (f s))).items (x.low s)
      (y.low (past s (f s)));
}

low_one : (op : Op) → IsLow op → Low (one op)
low_one op h = record { low = λ s. (h, tt) }

low_when : {f : Maker} (b : Bool) → (b ≡ true → Low f) → Low (when b f)
low_when true x = let y = x refl in record { low = y.low }
low_when false x = record { low = λ s. tt }

low_numbering : (pl : Place) (f : ℕ → Maker) → ((m : ℕ) → Low (f m)) → Low (numbering pl f)
low_numbering pl f x = record { low = λ s. (x s.place).low (record { at = s.at; place = suc s.place; text = s.text }) }

low_ahead : {f : Maker} (op : ℕ → Op) → ((m : ℕ) → IsLow (op m)) → Low f → Low (ahead op f)
low_ahead {f = f} op h x = record { low = λ s. (h (past (next s) (f (next s))).at, x.low (next s)) }

low_either : {f g : Maker} (op : ℕ → Op) → ((m : ℕ) → IsLow (op m)) → Low f → Low g → Low (either op f g)
low_either {f = f} {g = g} op h x y = record {
  low = λ s.
      let e : Spot = next (past (next s) (f (next s))) in
      (h e.at, each_joined IsLowItem (f (next s)).items (sure (o.Jump (past e (g e)).at) ∷ (g e).items) (x.low (next s)) (refl, y.low e));
}

closed_low : (out : ℕ) (is : List Item) → Each IsLowItem is → Each IsLowItem (map (closed out) is)
closed_low out [] h = tt
closed_low out (sure op ∷ is) h = (h.0, closed_low out is h.1)
closed_low out (leaving n ∷ is) h = (refl, closed_low out is h.1)

drops_low : (d : ℕ) → Each IsLowItem (drops d (sure o.Unit ∷ []))
drops_low zero = (refl, tt)
drops_low (suc d) = (refl, drops_low d)

low_closing : {f : Maker} → Low f → Low (closing f)
low_closing {f = f} x = record {
  low = λ s.
      let p : Piece = f s in
      let out : ℕ = later (deepest p.items) (past s p).at in
      each_joined IsLowItem (map (closed out) p.items) (drops (deepest p.items) (sure o.Unit ∷ [])) (closed_low out p.items (x.low s))
      (drops_low (deepest p.items));
}

low_from : {f : ℕ → Maker} → ((a : ℕ) → Low (f a)) → Low (from_here f)
low_from x = record { low = λ s. (x s.at).low s }

low_looping : {f : Maker} → Low f → Low (looping f)
low_looping x = low_closing (low_from (λ a. low_then (low_ahead o.Jump (λ m. refl) (low_then x (low_one o.Drop refl)))
    (low_one (o.Again (suc a)) refl)))

low_using : (n : ℕ) → Low (using_locals n)
low_using n = record { low = λ s. tt }

low_turning : {f : Maker} (op : Op) (l : ℕ) → IsLow op → Low f → Low (turning op l f)
low_turning op l h x = low_then (low_using (suc (suc (suc (suc l))))) (low_then (low_one o.Commit refl) (low_then (low_one op h)
    (low_from (λ a. low_then (low_ahead o.Jump (λ m. refl) (low_ahead o.Try (λ m. refl) x))
    (low_one (o.Take l (suc (suc l)) (suc a)) refl)))))

arms_low : (ls : List ℕ) (is : List Item) → Each IsLowItem is → Each IsLowItem (arms_at ls is)
arms_low [] is h = h
arms_low (l ∷ ls) is h = (refl, arms_low ls is h)

low_grouped : (kind m : ℕ) (pl : Place) (begins : Spot → List ℕ) (arms : Maker) → Low arms → Low (grouped kind m pl begins arms)
unfolding grouped
low_grouped kind m pl begins arms x = record {
  low = λ s.
      let e : Spot = arms_spot m s in
      (refl, arms_low (begins e) (sure (o.Jump (past e (arms e)).at) ∷ (arms e).items) (refl, x.low e));
}

pieces_are : (hs : Holes) → PiecesAre (λ bs. Unit {0}) hs
pieces_are no_holes = tt
pieces_are (more_holes a bs hs) = (tt, pieces_are hs)

module _ (p : Program) (differ : ℕ → ℕ → Bool) where
  low_default : (d : Option Tree) (f : ℕ) → Low (default_op p differ d f)
  low_default None f = record { low = λ s. (refl, tt) }
  low_default (Some a) f = low_one (o.Call (default_number p f)) refl

  -- no deferred block is there, so none is left to run
  abbrev pub NoneDeferred : Around → Type 0
  NoneDeferred a = a.defers ≡ 0

  low_leaving : (n : ℕ) (a : Around) → NoneDeferred a → Low (leaving_to n a)
  low_leaving n a e = low_when (nat_lt n a.defers) (λ l. elim (true≢false (sym l ∙ le-ltb n a.defers (omega (arith, e)))) [ ])

  defers_kept : Kept p differ HasNoDefer NoneDeferred (λ k l h n f. Low f) (λ pl. Unit {0}) (λ bs. Unit {0}) ⊥
  defers_kept = record {
    wider = λ l h n x. x;
    over = λ d x y v w. low_then x y;
    lower = λ v w x. x;
    none = record { low = λ s. tt };
    op = λ op b. low_one op b.1;
    op_with = λ m op b. low_one op b.1;
    stuck = record { low = λ s. (refl, tt) };
    when = low_when;
    object = λ n c pl e s. record { low = λ s. (refl, tt) };
    placed = λ pl op s b. record { low = λ s. ((b s.place).1, tt) };
    numbering = λ pl f s x. low_numbering pl f x;
    texted = λ bs x. record { low = λ s. (refl, tt) };
    put_away = record { low = λ s. (refl, tt) };
    leave_loop = record { low = λ s. (tt, tt) };
    leaving = low_leaving;
    leave = λ n x. elim x [ ];
    deferred = λ d x. elim d [ ];
    ahead = λ op b x. low_ahead op (λ m. (b m).1) x;
    either = λ op b x y. low_either op (λ m. (b m).1) x y;
    looping = low_looping;
    turning = λ {k} {l} op b le x. low_turning op l b.1 x;
    grouped = λ kind m pl begins arms le s many between x. low_grouped kind m pl begins arms x;
    call = λ f n e. low_one (o.Call f) refl;
    spawn = λ f n e. low_one (o.Spawn f) refl;
    defaults = λ c. each_of (λ f k l h. low_default f.default f.number) (fields_of p c);
    site = λ v g. tt;
    char = λ n pl c g. low_one (o.Char c) refl;
    char_pattern = λ n pl c g. low_one (o.Char c) refl;
    text = λ n pl bs g. tt;
    text_pattern = λ n pl bs g. tt;
    first_piece = λ n pl bs hs g. tt;
    pieces = λ n pl bs hs g. pieces_are hs;
    sleep = λ n pl d g. low_one (o.Sleep d) refl;
    defer = λ n pl b g. g (t.Shape.defer b) refl;
    fresh = refl;
    up = λ a x. x;
    looped = λ a x. x;
    enclosed = λ a x. x;
    deferring = λ a d x. elim d [ ];
  }

  bodies_low : (fields : ℕ → ℕ) → ((n c : ℕ) → class_ref p (ref_at p n) ≡ Some c → length (fields_of p c) ≤ fields n) → (bs : List Body) →
      Each (BodyHas HasNoDefer) bs → Low (bodies_from p differ bs)
  bodies_low fields few [] h = record { low = λ s. tt }
  bodies_low fields few (b ∷ bs) h = low_then (low_then (piece_kept defers_kept fields few b.body h.0 0 b.scope fresh refl)
      (low_one o.Return refl)) (bodies_low fields few bs h.1)

-- no size is asked for here
abbrev class_count : Program → Option ℕ → ℕ
class_count p None = 0
class_count p (Some c) = length (fields_of p c)

abbrev class_size : Program → ℕ → ℕ
class_size p n = class_count p (class_ref p (ref_at p n))

class_sized : (p : Program) (n c : ℕ) → class_ref p (ref_at p n) ≡ Some c → length (fields_of p c) ≤ class_size p n
class_sized p n c e = omega (arith, ap (class_count p) e)

-- an operation of a list
low_at : (is : List Item) (i : ℕ) (op : Op) → slice_get (map item_op is) i ≡ Some op → Each IsLowItem is → IsLow op
low_at [] i op e h = elim (none-some op e) [ ]
low_at (sure x ∷ is) zero op e h = subst IsLow (same_Some _ _ e) h.0
low_at (leaving n ∷ is) zero op e h = subst IsLow (same_Some _ _ e) refl
low_at (sure x ∷ is) (suc i) op e h = low_at is i op e h.1
low_at (leaving n ∷ is) (suc i) op e h = low_at is i op e h.1

pub defers_show : DefersShow
defers_show p differ files none at op e = ltb-true (operations.code_of op) 64 (low_at (whole p differ).items at op e
    ((bodies_low p differ (class_size p) (class_sized p) (all_bodies p.items)
    (all_have HasNoDefer p.items (all_each HasNoDefer (items_order p.items) none))).low first_spot))

pub files_stand : FilesStand
files_stand p differ files = refl
