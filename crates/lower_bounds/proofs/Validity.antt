-- The pieces of a program that can be lowered suit where they stand.
use Rattle.std.proofs.Common.{◌≡◌, ℕ, ◌+◌, ◌<◌, ◌≤◌, length, Bool, true, ◌&&◌, ap₂, refl, lt-ltb, le-leb, nat_lt, arith, Option, Some}
use Rattle.std.proofs.Common.{None}
use Rattle.verse_tree.specs.Tree.{Tree, Holes, no_holes, more_holes}
use Rattle.verse_code.specs.declared.validity.TheConstants.{MOST_PAUSE}
use Rattle.verse_code.specs.declared.operations.Op.{Op}
use Rattle.verse_code.specs.declared.operations.Op.TheVariants as o
use Rattle.verse_code.specs.declared.validity.Sizes.{Sizes}
use Rattle.verse_code.specs.Validity.{IsPlace, IsText}
use Rattle.verse_meaning.specs.Programs.{Program, ref_at, fields_of}
use Rattle.lower_code.specs.Pieces.{Maker, one}
use Rattle.lower_code.specs.Defaults.{defaults_in, default_number}
use Rattle.lower_code.specs.Lowering.{default_op}
use Rattle.lower_bounds.specs.Programs.{NodeFits, PiecesFit, TablesAgree}
use Rattle.lower_bounds.proofs.Lists.{each_weaker}
use Rattle.lower_bounds.proofs.Kept.{Kept, PiecesAre}
use Rattle.lower_bounds.proofs.Tables.{called_within, class_is, fields_have, default_within}
use Rattle.lower_bounds.proofs.Operands.{Suits, Suit, suits_then, suits_none, suits_op, suits_op_with, suits_stuck, suits_when}
use Rattle.lower_bounds.proofs.Operands.{suits_placed}
use Rattle.lower_bounds.proofs.Operands.{suits_numbering, suits_texted, suits_put_away, suits_leave, suits_ahead, suits_either}
use Rattle.lower_bounds.proofs.Operands.{suits_looping}
use Rattle.lower_bounds.proofs.Operands.{suits_turning, suits_grouped}

pieces_are : (hs : Holes) → PiecesFit hs → PiecesAre IsText hs
pieces_are no_holes h = tt
pieces_are (more_holes a bs hs) h = (h.0, pieces_are hs h.1)

-- how many functions the code has: those of the table, and the defaults
abbrev pub functions_of : Program → ℕ
functions_of p = length p.names.funs + length (defaults_in p.items)

abbrev pub classes_of : Program → ℕ
classes_of p = length p.names.classes

object_suits : (z : Sizes) (classes c m : ℕ) → classes ≤ z.classes → c < classes → nat_lt m z.places ≡ true →
    (nat_lt c z.classes && nat_lt m z.places) ≡ true
object_suits z classes c m le below f = ap₂ ◌&&◌ (lt-ltb c z.classes (omega (arith, le, below))) f

module _ (p : Program) (differ : ℕ → ℕ → Bool) (files : ℕ) (tables : TablesAgree p) where
  abbrev pub ValidAt : ℕ → Maker → Type 0
  ValidAt k f = Suits files (functions_of p) (classes_of p) k f

  calls : {k : ℕ} (op : ℕ → Op) (f : ℕ) → ((z : Sizes) (at : ℕ) → nat_lt f z.functions ≡ true → Suit z at (op f)) → f < functions_of p →
      ValidAt k (one (op f))
  calls op f h below = suits_op files (functions_of p) (classes_of p) (op f)
      (λ z at le. h z at (lt-ltb f z.functions (omega (arith, below, le))))

  default_suits : (d : Option Tree) (f k : ℕ) → ((a : Tree) → d ≡ Some a → default_number p f < functions_of p) → ValidAt k
      (default_op p differ d f)
  default_suits None f k h = suits_stuck files (functions_of p) (classes_of p)
  default_suits (Some a) f k h = calls o.Call (default_number p f) (λ z at e. e) (h a refl)

  pub operands_kept : Kept p differ (NodeFits files) (λ a. Unit {0}) (λ k l h n f. ValidAt k f) (IsPlace files) IsText (Unit {0})
  operands_kept = record {
    wider = λ l h n x. x;
    over = λ d x y v w. suits_then files (functions_of p) (classes_of p) x y;
    lower = λ v w x. x;
    none = suits_none files (functions_of p) (classes_of p);
    op = λ op b. suits_op files (functions_of p) (classes_of p) op (λ z at le. b.0 z at);
    op_with = λ m op b. suits_op_with files (functions_of p) (classes_of p) m op b;
    stuck = suits_stuck files (functions_of p) (classes_of p);
    when = suits_when files (functions_of p) (classes_of p);
    object = λ n c pl e s. suits_placed files (functions_of p) (classes_of p) pl (o.Object c) s
        (λ m z at le f. object_suits z (classes_of p) c m le (tables.refs n c (class_is p (ref_at p n) c e)) f);
    placed = λ pl op s b. suits_placed files (functions_of p) (classes_of p) pl op s (λ m z at le f. (b m).0 z at f);
    numbering = λ pl f s x. suits_numbering files (functions_of p) (classes_of p) pl f s x;
    texted = λ bs x. suits_texted files (functions_of p) (classes_of p) bs x;
    put_away = suits_put_away files (functions_of p) (classes_of p);
    leave_loop = suits_leave files (functions_of p) (classes_of p);
    leaving = λ n a x. suits_when files (functions_of p) (classes_of p) (nat_lt n a.defers)
        (λ e. suits_op files (functions_of p) (classes_of p) (o.Leave n) (λ z at le. refl));
    leave = λ n x. suits_op files (functions_of p) (classes_of p) (o.Leave n) (λ z at le. refl);
    deferred = λ d x. suits_ahead files (functions_of p) (classes_of p) o.Defer (λ m z at e. e)
        (suits_then files (functions_of p) (classes_of p) x (suits_then files (functions_of p) (classes_of p)
        (suits_op files (functions_of p) (classes_of p) o.Drop (λ z at le. refl))
        (suits_op files (functions_of p) (classes_of p) o.DeferEnd (λ z at le. refl))));
    ahead = λ op b x. suits_ahead files (functions_of p) (classes_of p) op (λ m. (b m).0) x;
    either = λ op b x y. suits_either files (functions_of p) (classes_of p) op (λ m. (b m).0) x y;
    looping = suits_looping files (functions_of p) (classes_of p);
    turning = λ {k} {l} op b le x. suits_turning files (functions_of p) (classes_of p) op l b x;
    grouped = λ kind m pl begins arms le s many between x. suits_grouped files (functions_of p)
        (classes_of p) kind m pl begins arms le s many between x;
    call = λ f n e. calls o.Call f (λ z at e. e) (omega (arith, called_within p differ f n e));
    spawn = λ f n e. calls o.Spawn f (λ z at e. e) (omega (arith, called_within p differ f n e));
    defaults = λ c. each_weaker (λ f h k l n. default_suits f.default f.number k (λ a e. default_within p f.number (h a e)))
        (fields_of p c) (fields_have p c);
    site = λ v g. g.place;
    char = λ n pl c g. suits_op files (functions_of p) (classes_of p) (o.Char c) (λ z at le. le-leb c 255 g.what);
    char_pattern = λ n pl c g. suits_op files (functions_of p) (classes_of p) (o.Char c) (λ z at le. le-leb c 255 g.what);
    text = λ n pl bs g. g.what;
    text_pattern = λ n pl bs g. g.what;
    first_piece = λ n pl bs hs g. g.what.0;
    pieces = λ n pl bs hs g. pieces_are hs g.what.1;
    sleep = λ n pl d g. suits_op files (functions_of p) (classes_of p) (o.Sleep d) (λ z at le. le-leb d MOST_PAUSE g.what);
    defer = λ n pl b g. tt;
    fresh = tt;
    up = λ a x. tt;
    looped = λ a x. tt;
    enclosed = λ a x. tt;
    deferring = λ a d x. tt;
  }
