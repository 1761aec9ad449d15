-- What the combinators keep: a property of makers that holds of the code of each form.
use Rattle.std.proofs.Common.{◌≡◌, ℕ, suc, ◌+◌, ◌≤◌, ◌&&◌, List, [], ◌∷◌, length, Bool, true, nat_lt, Some}
use Rattle.verse_base.specs.declared.places.Place.{Place}
use Rattle.verse_tree.specs.Tree.{Bytes, Tree, Holes, no_holes, more_holes}
use Rattle.verse_tree.specs.Tree as t
use Rattle.verse_tree.specs.PostOrder.{Node}
use Rattle.verse_code.specs.declared.operations.Op.{Op}
use Rattle.verse_code.specs.declared.operations.Op.TheVariants as o
use Rattle.verse_code.specs.declared.validity.Sizes.{Sizes}
use Rattle.verse_code.specs.Operations as operations
use Rattle.verse_code.specs.Validity.{all_suit}
use Rattle.verse_meaning.specs.Programs.{Program, ref_at, fields_of, fun_at}
use Rattle.verse_meaning.specs.Evaluating.{class_ref}
use Rattle.lower_code.specs.declared.arounds.Around.{Around}
use Rattle.lower_code.specs.Pieces.{Spot, Maker, past, nothing, one, placed, numbering, texted, put_away, stuck, when, leave_loop}
use Rattle.lower_code.specs.Pieces.{ahead, either, looping, turning, ◌then◌}
use Rattle.lower_code.specs.Arounds.{fresh, up, looped, deferring, enclosed, leaving_to}
use Rattle.lower_code.specs.Lowering.{grouped, takes_params, default_op}
use Rattle.lower_bounds.proofs.Lists.{Each, node}

-- an operation that is none of `defer`
abbrev pub IsLow : Op → Type 0
IsLow op = nat_lt (operations.code_of op) 64 ≡ true

-- its operands suit wherever it stands
abbrev pub IsBare : Op → Type 0
IsBare op = ((z : Sizes) (at : ℕ) → all_suit z at (operations.operands_of op) ≡ true) × IsLow op

-- its operands suit where the place m is there
abbrev pub Placed : ℕ → Op → Type 0
Placed m op = ((z : Sizes) (at : ℕ) → nat_lt m z.places ≡ true → all_suit z at (operations.operands_of op) ≡ true) × IsLow op

-- its operands suit where the label l is ahead
abbrev pub Leads : ℕ → Op → Type 0
Leads l op = ((z : Sizes) (at : ℕ) → (nat_lt at l && nat_lt l z.ops) ≡ true → all_suit z at (operations.operands_of op) ≡ true) × IsLow op

-- the places of arms lie between two places
abbrev pub Between : List ℕ → (low end : ℕ) → Type 0
Between [] low end = Unit {0}
Between (l ∷ ls) low end = ((low ≤ l) × (l ≤ end)) × Between ls low end

-- each piece of a text with holes, behind the first
abbrev pub PiecesAre : (Bytes → Type 0) → Holes → Type 0
PiecesAre Piece no_holes = Unit {0}
PiecesAre Piece (more_holes a bs hs) = Piece bs × PiecesAre Piece hs

-- Of makers that stand behind l locals, above h operands of their loop,
-- where the places below k are there; with no more than n operations.
-- Good is what nodes have, Plain what the surroundings have.
module _ (p : Program) (differ : ℕ → ℕ → Bool) (Good : Node → Type 0) (Plain : Around → Type 0) (Q : (k l h n : ℕ) → Maker → Type 0) where
  pub record Kept (Site : Place → Type 0) (Piece : Bytes → Type 0) (Defers : Type 0) : Type 0 where
    pub wider : {k l h n i j m : ℕ} {f : Maker} → l ≤ i → h ≤ j → n ≤ m → Q k l h n f → Q k i j m f
    pub over : {k l h n i j m : ℕ} {f g : Maker} (d : ℕ) → Q k l h n f → Q k i j m g → j ≤ d + h → i ≤ d + n + l → Q k l h (d + n + m)
        (f then g)
    -- operands that lie there before may count as operations
    pub lower : {k l h n x m : ℕ} {f : Maker} → n + x ≤ m + h → n ≤ m → Q k l x n f → Q k l h m f
    pub none : {k l h : ℕ} → Q k l h 0 nothing
    pub op : {k l h : ℕ} (op : Op) → IsBare op → Q k l h 1 (one op)
    pub op_with : {l h : ℕ} (m : ℕ) (op : Op) → Placed m op → Q (suc m) l h 1 (one op)
    pub stuck : {k l h : ℕ} → Q k l h 1 stuck
    pub when : {k l h n : ℕ} {f : Maker} (b : Bool) → (b ≡ true → Q k l h n f) → Q k l h n (when b f)
    pub object : {k l h : ℕ} (n c : ℕ) (pl : Place) → class_ref p (ref_at p n) ≡ Some c → Site pl → Q k l h 1 (placed pl (o.Object c))
    pub placed : {k l h : ℕ} (pl : Place) (op : ℕ → Op) → Site pl → ((m : ℕ) → Placed m (op m)) → Q k l h 1 (placed pl op)
    pub numbering : {k l h n : ℕ} (pl : Place) (f : ℕ → Maker) → Site pl → ((m : ℕ) → Q (suc m) l h n (f m)) → Q k l h (suc n)
        (numbering pl f)
    pub texted : {k l h : ℕ} (bs : Bytes) → Piece bs → Q k l h 1 (texted bs)
    pub put_away : {k l h : ℕ} → Q k l h 1 (put_away l)
    pub leave_loop : {k l h : ℕ} → Q k l h 1 (leave_loop h)
    pub leaving : {k l h : ℕ} (n : ℕ) (a : Around) → Plain a → Q k l h 1 (leaving_to n a)
    pub leave : {k l h : ℕ} (n : ℕ) → Defers → Q k l h 1 (one (o.Leave n))
    pub deferred : {k l h n : ℕ} {f : Maker} → Defers → Q k l h n f → Q k l h (3 + n)
        (ahead o.Defer (f then one o.Drop then one o.DeferEnd))
    pub ahead : {k l h n : ℕ} {f : Maker} (op : ℕ → Op) → ((m : ℕ) → Leads m (op m)) → Q k l h n f → Q k l h (suc n) (ahead op f)
    pub either : {k l h n m : ℕ} {f g : Maker} (op : ℕ → Op) → ((m : ℕ) → Leads m (op m)) → Q k l h n f → Q k l h m g → Q k l h
        (2 + n + m) (either op f g)
    pub looping : {k l h n : ℕ} {f : Maker} → Q k l 0 n f → Q k l h (4 + n) (looping f)
    pub turning : {k l h n i : ℕ} {f : Maker} (op : Op) → IsBare op → i ≤ 4 + l → Q k i h n f → Q k l h (9 + n) (turning op l f)
    pub grouped : {k l h n : ℕ} (kind m : ℕ) (pl : Place) (begins : Spot → List ℕ) (arms : Maker) → kind ≤ 2 → Site pl →
        ((s : Spot) → length (begins s) ≡ m) → ((s : Spot) → Between (begins s) s.at (past s (arms s)).at) → Q k l 0 n arms →
        Q k l h (2 + m + n) (grouped kind m pl begins arms)
    -- calls and instances, by the tables
    pub call : {k l h : ℕ} (f n : ℕ) → takes_params p differ (fun_at p f) n ≡ true → Q k l h 1 (one (o.Call f))
    pub spawn : {k l h : ℕ} (f n : ℕ) → takes_params p differ (fun_at p f) n ≡ true → Q k l h 1 (one (o.Spawn f))
    pub defaults : (c : ℕ) → Each (λ f. (k l h : ℕ) → Q k l h 1 (default_op p differ f.default f.number)) (fields_of p c)
    -- nodes
    pub site : (v : Node) → Good v → Site v.place
    pub char : {k l h : ℕ} (n : ℕ) (pl : Place) (c : ℕ) → Good (node n pl (t.Shape.character c)) → Q k l h 1 (one (o.Char c))
    pub char_pattern : {k l h : ℕ} (n : ℕ) (pl : Place) (c : ℕ) → Good (node n pl (t.Shape.character_pattern c)) → Q k l h 1
        (one (o.Char c))
    pub text : (n : ℕ) (pl : Place) (bs : Bytes) → Good (node n pl (t.Shape.text bs)) → Piece bs
    pub text_pattern : (n : ℕ) (pl : Place) (bs : Bytes) → Good (node n pl (t.Shape.text_pattern bs)) → Piece bs
    pub first_piece : (n : ℕ) (pl : Place) (bs : Bytes) (hs : Holes) → Good (node n pl (t.Shape.holes bs hs)) → Piece bs
    pub pieces : (n : ℕ) (pl : Place) (bs : Bytes) (hs : Holes) → Good (node n pl (t.Shape.holes bs hs)) → PiecesAre Piece hs
    pub sleep : {k l h : ℕ} (n : ℕ) (pl : Place) (d : ℕ) → Good (node n pl (t.Shape.sleep d)) → Q k l h 1 (one (o.Sleep d))
    pub defer : (n : ℕ) (pl : Place) (b : Tree) → Good (node n pl (t.Shape.defer b)) → Defers
    -- surroundings
    pub fresh : Plain fresh
    pub up : (a : Around) → Plain a → Plain (up a)
    pub looped : (a : Around) → Plain a → Plain (looped a)
    pub enclosed : (a : Around) → Plain a → Plain (enclosed a)
    pub deferring : (a : Around) → Defers → Plain a → Plain (deferring a)
