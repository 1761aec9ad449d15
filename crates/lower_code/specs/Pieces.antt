-- Stretches of code, and how they are put together. A label is the place of the spot at which it
-- stands.
use Rattle.std.specs.Prelude.{max, ℕ, zero, suc, ◌-◌, List, [], ◌∷◌, ◌++◌, map, Bool, true, false}
use Rattle.std.specs.Prelude.{cond}
use Rattle.verse_base.specs.declared.places.Place.{Place}
use Rattle.verse_tree.specs.Tree.{Bytes}
use Rattle.verse_code.specs.declared.operations.Op.{Op}
use Rattle.verse_code.specs.declared.operations.Op.TheVariants as o

-- where a stretch begins: the index of its first operation, and the number of the next place and
-- text of the tables
pub record Spot : Type 0 where
  pub at : ℕ
  pub place : ℕ
  pub text : ℕ

-- an operation, or a jump out of the innermost loop, with the number of operands above those of the
-- loop
pub data Item : Type 0 where
  sure : Op → Item
  leaving : (height : ℕ) → Item

-- a stretch: its operations, the places and texts that it adds to the tables, and how many locals a
-- frame needs for it
pub record Piece : Type 0 where
  pub items : List Item
  pub places : List Place
  pub texts : List Bytes
  pub locals : ℕ

abbrev pub Maker : Type 0
Maker = Spot → Piece

-- the number behind those of a list
abbrev pub behind : {A : Type 0} → List A → ℕ → ℕ
behind [] n = n
behind (x ∷ xs) n = behind xs (suc n)

-- n further
abbrev pub later : (n a : ℕ) → ℕ
later zero a = a
later (suc n) a = later n (suc a)

abbrev pub next : Spot → Spot
next s = record { at = suc s.at; place = s.place; text = s.text }

-- the spot behind a piece that begins at a spot
abbrev pub past : Spot → Piece → Spot
past s p = record {
  at = behind p.items s.at;
  place = behind p.places s.place;
  text = behind p.texts s.text;
}

abbrev pub joined : Piece → Piece → Piece
joined p q = record {
  items = p.items ++ q.items;
  places = p.places ++ q.places;
  texts = p.texts ++ q.texts;
  locals = max p.locals q.locals;
}

abbrev pub joined_at : Spot → Piece → Maker → Piece
joined_at s p g = joined p (g (past s p))

-- one behind the other
infixr 5 ◌then◌
abbrev pub ◌then◌ : Maker → Maker → Maker
(f then g) s = joined_at s (f s) g

abbrev pub sures : List Op → List Item
sures [] = []
sures (op ∷ ops) = sure op ∷ sures ops

-- operations of which one uses the locals below n
abbrev pub plain : List Op → (locals : ℕ) → Piece
plain ops n = record { items = sures ops; places = []; texts = []; locals = n }

abbrev pub nothing : Maker
nothing s = plain [] 0

abbrev pub one : Op → Maker
one op s = plain (op ∷ []) 0

-- an operation with the number of a new place
abbrev pub placed : Place → (ℕ → Op) → Maker
placed pl op s = record { items = sure (op s.place) ∷ []; places = pl ∷ []; texts = []; locals = 0 }

-- a new place, and what uses its number
abbrev pub numbering : Place → (ℕ → Maker) → Maker
numbering pl f s = joined_at s (record { items = []; places = pl ∷ []; texts = []; locals = 0 })
    (f s.place)

abbrev pub texted : Bytes → Maker
texted bs s = record { items = sure (o.Text s.text) ∷ []; places = []; texts = bs ∷ []; locals = 0 }

-- the value on top goes into a local
abbrev pub put_away : ℕ → Maker
put_away l s = plain (o.Put l ∷ []) (suc l)

-- and stays
abbrev pub kept : ℕ → Maker
kept l = put_away l then one (o.Get l)

-- out of the innermost loop, with so many operands above those of the loop
abbrev pub leave_loop : (height : ℕ) → Maker
leave_loop n s = record { items = leaving n ∷ []; places = []; texts = []; locals = 0 }

-- what is reached by no program that is right: the machine is stuck there
abbrev pub stuck : Maker
stuck s = plain (o.Arm (suc s.at) ∷ []) 0

abbrev pub when : Bool → Maker → Maker
when b f s = cond b (f s) (nothing s)

-- a piece, or a stuck operation in its place
abbrev pub when_else : Bool → Maker → Maker
when_else true f = f
when_else false f = stuck

-- Op L; the piece; L is behind it
abbrev pub ahead_of : (ℕ → Op) → Spot → Piece → Piece
ahead_of op s p = record {
  items = sure (op (past s p).at) ∷ p.items;
  places = p.places;
  texts = p.texts;
  locals = p.locals;
}

abbrev pub ahead : (ℕ → Op) → Maker → Maker
ahead op f s = ahead_of op (next s) (f (next s))

-- Op L; the first; Jump M; L: the second; M is behind it
abbrev pub either_of : (ℕ → Op) → Piece → Spot → Piece → Piece
either_of op p s q = record {
  items = sure (op s.at) ∷ p.items ++ sure (o.Jump (past s q).at) ∷ q.items;
  places = p.places ++ q.places;
  texts = p.texts ++ q.texts;
  locals = max p.locals q.locals;
}

abbrev pub either_from : (ℕ → Op) → Piece → Spot → Maker → Piece
either_from op p s g = either_of op p s (g s)

abbrev pub either : (ℕ → Op) → Maker → Maker → Maker
either op f g s = either_from op (f (next s)) (next (past (next s) (f (next s)))) g

-- Loops: what leaves one is closed where the loop is complete. With n operands above the loop's, it
-- goes on at the n-th last Drop before `out`.
abbrev pub closed : (out : ℕ) → Item → Item
closed out (sure op) = sure op
closed out (leaving n) = sure (o.Jump (out - n))

abbrev pub deepest : List Item → ℕ
deepest [] = 0
deepest (sure op ∷ is) = deepest is
deepest (leaving n ∷ is) = max n (deepest is)

abbrev pub drops : ℕ → List Item → List Item
drops zero is = is
drops (suc n) is = sure o.Drop ∷ drops n is

-- what goes by the index at which it stands
abbrev pub from_here : (ℕ → Maker) → Maker
from_here f s = f s.at s

-- a loop whose operations are p, which begins at s and ends before e
abbrev pub closing_of : Piece → (e : Spot) → Piece
closing_of p e = record {
  items = map (closed (later (deepest p.items) e.at)) p.items ++
      drops (deepest p.items) (sure o.Unit ∷ []);
  places = p.places;
  texts = p.texts;
  locals = p.locals;
}

-- what leaves it goes on behind it; as many Drops as the deepest operands that leave; Unit
abbrev pub closing : Maker → Maker
closing f s = closing_of (f s) (past s (f s))

-- Jump A; B: the body; Drop; A: Again B; and the end
abbrev pub looping : Maker → Maker
looping f = closing (from_here (λ a. ahead o.Jump (f then one o.Drop) then one (o.Again (suc a))))

-- the locals below n are used
abbrev pub using_locals : (n : ℕ) → Maker
using_locals n s = plain [] n

-- Turns of a generator: its domain, or both ends of its range, are on the stack. The local of the
-- domain is the first of four from l on, that of the element the third. Commit; Each or Range; Jump
-- T; B: Try T; the clauses and what is in them; T: Take B
abbrev pub turning : Op → (l : ℕ) → Maker → Maker
turning op l f = using_locals (suc (suc (suc (suc l)))) then one o.Commit then one op then
    from_here (λ a. ahead o.Jump (ahead o.Try f) then one (o.Take l (suc (suc l)) (suc a)))

-- Group; its Arms; Jump to behind them; the arms
abbrev pub arms_at : List ℕ → List Item → List Item
arms_at [] is = is
arms_at (l ∷ ls) is = sure (o.Arm l) ∷ arms_at ls is

abbrev pub group_of : (kind arms : ℕ) → Place → (begins s : Spot) → List ℕ → Piece → Piece
group_of kind m pl b s ls p = record {
  items = sure (o.Group kind m b.place) ∷ arms_at ls (sure (o.Jump (past s p).at) ∷ p.items);
  places = pl ∷ p.places;
  texts = p.texts;
  locals = p.locals;
}

-- where the first arm begins
abbrev pub arms_spot : (arms : ℕ) → Spot → Spot
arms_spot m s = record { at = later m (suc (suc s.at)); place = suc s.place; text = s.text }
