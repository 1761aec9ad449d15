-- The code of a whole program: its functions, then the defaults of fields, and its tables.
use Rattle.std.specs.Prelude.{max, ℕ, suc, ◌+◌, List, [], ◌∷◌, ◌++◌, length, map, codes, Option}
use Rattle.std.specs.Prelude.{Some, None, Bool, true, false, cond}
use Rattle.verse_tree.specs.Tree.{Bytes, Tree}
use Rattle.verse_tree.specs.ItemTree.{SpecTree, FieldTree, FunTree, ParamTree, MemberTree, field}
use Rattle.verse_tree.specs.ItemTree.{method, ItemTree, using}
use Rattle.verse_tree.specs.ItemTree.{enumeration, class, function}
use Rattle.verse_tree.specs.declared.tables.ClassInfo.{ClassInfo}
use Rattle.verse_code.specs.declared.operations.Op.{Op}
use Rattle.verse_code.specs.declared.operations.Op.TheVariants as o
use Rattle.verse_code.specs.declared.codes.Func.{Func}
use Rattle.verse_code.specs.declared.codes.Class.{Class}
use Rattle.verse_code.specs.declared.codes.Code.{Code}
use Rattle.verse_meaning.specs.Programs.{Program, same_name, main_name}
use Rattle.verse_meaning.specs.Forms.{this_name}
use Rattle.lower_code.specs.Pieces.{Spot, Item, sure, leaving, Piece, Maker, past, nothing, one}
use Rattle.lower_code.specs.Pieces.{◌then◌}
use Rattle.lower_code.specs.Scopes.{Scope, constant_at}
use Rattle.lower_code.specs.Arounds.{fresh}
use Rattle.lower_code.specs.Defaults.{defaults_in}
use Rattle.lower_code.specs.Lowering.{piece}

-- a function of the code: its body with the names of its parameters
pub record Body : Type 0 where
  pub scope : Scope
  pub body : Tree
  pub suspends : Bool

-- the parameters are the first locals, behind the object of a method
abbrev pub params_scope : List ParamTree → Scope → Scope
params_scope [] sc = sc
params_scope (x ∷ xs) sc = params_scope xs (constant_at x.name ∷ sc)

abbrev pub suspends_name : Bytes
suspends_name = codes "suspends"

-- whether `<suspends>` is among specifiers
abbrev pub suspends_in : List SpecTree → Bool
suspends_in [] = false
suspends_in (x ∷ xs) = cond (same_name x.name suspends_name) true (suspends_in xs)

abbrev pub body_of : Scope → FunTree → Body
body_of this f = record {
  scope = params_scope f.params this;
  body = f.body;
  suspends = suspends_in f.effects;
}

abbrev pub methods_in : List MemberTree → List Body
methods_in [] = []
methods_in (field f ∷ ms) = methods_in ms
methods_in (method f ∷ ms) = body_of (constant_at this_name ∷ []) f ∷ methods_in ms

-- functions and methods, in the order of the items
abbrev pub bodies_in : List ItemTree → List Body
bodies_in [] = []
bodies_in (using u ∷ is) = bodies_in is
bodies_in (enumeration e ∷ is) = bodies_in is
bodies_in (class c ∷ is) = methods_in c.members ++ bodies_in is
bodies_in (function f ∷ is) = body_of [] f ∷ bodies_in is

abbrev pub default_body : Option Tree → List Body
default_body None = []
default_body (Some a) = record { scope = []; body = a; suspends = false } ∷ []

abbrev pub default_bodies : List FieldTree → List Body
default_bodies [] = []
default_bodies (f ∷ fs) = default_body f.default ++ default_bodies fs

abbrev pub all_bodies : List ItemTree → List Body
all_bodies is = bodies_in is ++ default_bodies (defaults_in is)

-- the number of the function that is named Main, where n functions stand before these items
abbrev pub main_from : (n : ℕ) → List ItemTree → ℕ
main_from n [] = 0
main_from n (using u ∷ is) = main_from n is
main_from n (enumeration e ∷ is) = main_from n is
main_from n (class c ∷ is) = main_from (n + length (methods_in c.members)) is
main_from n (function f ∷ is) = cond (same_name f.name main_name) n (main_from (suc n) is)

abbrev pub class_of : ClassInfo → Class
class_of c = record { slots = length c.fields; methods = c.methods }

-- a function has no jump out of a loop that is not its own
abbrev pub item_op : Item → Op
item_op (sure op) = op
item_op (leaving n) = o.Unit

abbrev pub first_spot : Spot
first_spot = record { at = 0; place = 0; text = 0 }

module _ (p : Program) (differ : ℕ → ℕ → Bool) where
  abbrev pub body_piece : Body → Maker
  body_piece b = piece p differ b.body b.scope fresh then one o.Return

  abbrev pub bodies_from : List Body → Maker
  bodies_from [] = nothing
  bodies_from (b ∷ bs) = body_piece b then bodies_from bs

  abbrev pub func_of : Spot → Body → Piece → Func
  func_of s b r = record {
    params = length b.scope;
    locals = max (length b.scope) r.locals;
    entry = s.at;
    suspends = b.suspends;
  }

  abbrev pub funcs_from : List Body → Spot → List Func
  funcs_from [] s = []
  funcs_from (b ∷ bs) s = func_of s b (body_piece b s) ∷ funcs_from bs (past s (body_piece b s))

  abbrev pub whole : Piece
  whole = bodies_from (all_bodies p.items) first_spot

  abbrev pub code_of : (files : ℕ) → Code
  code_of files = record {
    files = files;
    texts = whole.texts;
    places = whole.places;
    functions = funcs_from (all_bodies p.items) first_spot;
    classes = map class_of p.names.classes;
    main = main_from 0 p.items;
    ops = map item_op whole.items;
  }
