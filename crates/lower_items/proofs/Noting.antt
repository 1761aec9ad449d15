-- What is found among numbers that were noted.
use Rattle.std.proofs.Common.{◌≡◌, ℕ, List, [], ◌∷◌, map, length, Bool, true, false, cond, nat_eq, refl, ap, sym, ◌∙◌, arith}
use Rattle.std.specs.Prelude.{◌==◌, Option, Some, None}
use Rattle.std.specs.Map.{lookup}
use Rattle.std.proofs.lemmas.Bool.Decides.{nat_tests}
use Rattle.indexmap.specs.IndexMap.{insert_entry}
use Rattle.verse_tree.specs.ItemTree.{FunTree, MemberTree, field, method, ItemTree, using, enumeration, class, function}
use Rattle.verse_tree.specs.declared.tables.FunInfo.{FunInfo}
use Rattle.verse_meaning.specs.Programs.{or_else, method_numbered, fun_numbered}
use Rattle.lower_items.specs.Params.{params_of, count_at, found_at}
use Rattle.lower_items.specs.Noted.{Entries, look, put, put_absent, kept, fun_noted, members_noted, items_noted}

pub look_is : (x : ℕ) (es : Entries) → look x es ≡ lookup (nat_eq x) es
look_is x [] = refl
look_is x (e ∷ es) = ap (cond (nat_eq x e.0) (Some e.1)) (look_is x es)

pub put_is : (x v : ℕ) (es : Entries) → insert_entry nat_eq es x v ≡ put x v es
put_is x v [] = refl
put_is x v (e ∷ es) = by (nat_eq x e.0) refl (put_is x v es)
  where
    by : (b : Bool) → nat_eq x e.0 ≡ b → insert_entry nat_eq es x v ≡ put x v es → insert_entry nat_eq (e ∷ es) x v ≡ put x v (e ∷ es)
    by true p h = rw p refl
    by false p h = rw p (ap (λ l. e ∷ l) h)

one : ℕ → ℕ → ℕ → Option ℕ
one x y v = cond (nat_eq x y) (Some v) None

choice : (b : Bool) (w : ℕ) (l m : Option ℕ) (o : Option ℕ) → l ≡ or_else m o → cond b (Some w) l ≡ or_else (cond b (Some w) m) o
choice true w l m o e = refl
choice false w l m o e = e

behind : (b : Bool) (w : ℕ) (m : Option ℕ) → cond b (Some w) m ≡ None → b ≡ false
behind true w m e = cc
behind false w m e = refl

absent : (b : Bool) (w : ℕ) (m : Option ℕ) → cond b (Some w) m ≡ None → m ≡ None
absent true w m e = cc
absent false w m e = e

look_put : (x y v : ℕ) (es : Entries) → look y es ≡ None → look x (put y v es) ≡ or_else (look x es) (cond (nat_eq x y) (Some v) None)
look_put x y v [] e = refl
look_put x y v (k ∷ es) e = ap (λ b. look x (cond b ((k.0, v) ∷ es) (k ∷ put y v es))) (behind (nat_eq y k.0) k.1 (look y es) e) ∙
    choice (nat_eq x k.0) k.1 (look x (put y v es)) (look x es) (cond (nat_eq x y) (Some v) None)
    (look_put x y v es (absent (nat_eq y k.0) k.1 (look y es) e))

same : (x y v w : ℕ) (es : Entries) → look y es ≡ Some w → look x es ≡ or_else (look x es) (cond (nat_eq x y) (Some v) None)
same x y v w es e = by (nat_eq x y) refl (look x es) refl
  where
    none : (o : Option ℕ) → o ≡ or_else o None
    none None = refl
    none (Some n) = refl

    by : (b : Bool) → nat_eq x y ≡ b → (o : Option ℕ) → look x es ≡ o → o ≡ or_else o (cond b (Some v) None)
    by false p o q = none o
    by true p (Some n) q = refl
    by true p None q =
        let xy : x ≡ y = grind (arith, nat_tests, p) in
        let no : None ≡ Some w = sym q ∙ ap (λ n. look n es) xy ∙ e in cc

look_kept : (x y v : ℕ) (es : Entries) → look x (kept y v es) ≡ or_else (look x es) (cond (nat_eq x y) (Some v) None)
look_kept x y v es = by (look y es) refl
  where
    by : (o : Option ℕ) → look y es ≡ o → look x (put_absent o y v es) ≡ or_else (look x es) (cond (nat_eq x y) (Some v) None)
    by None p = look_put x y v es p
    by (Some w) p = same x y v w es p

turned : (x y : ℕ) → nat_eq x y ≡ nat_eq y x
turned x y = grind (arith, nat_tests)

found : (b : Bool) (f : FunTree) (o : Option ℕ) (r : Option FunTree) →
    or_else (or_else o (cond b (Some (length f.params)) None)) (params_of r) ≡ or_else o (params_of (cond b (Some f) r))
found true f None r = refl
found true f (Some n) r = refl
found false f None r = refl
found false f (Some n) r = refl

joined : (o : Option ℕ) (a b : Option FunTree) → or_else (or_else o (params_of a)) (params_of b) ≡ or_else o (params_of (or_else a b))
joined None None b = refl
joined None (Some f) b = refl
joined (Some n) a b = refl

ended : (o : Option ℕ) → o ≡ or_else o None
ended None = refl
ended (Some n) = refl

look_fun : (x : ℕ) (f : FunTree) (es : Entries) (r : Option FunTree) →
    or_else (look x (fun_noted f es)) (params_of r) ≡ or_else (look x es) (params_of (cond (f.number == x) (Some f) r))
look_fun x f es r = ap (λ o. or_else o (params_of r)) (look_kept x f.number (length f.params) es) ∙
    ap (λ b. or_else (or_else (look x es) (cond b (Some (length f.params)) None)) (params_of r)) (turned x f.number) ∙
    found (f.number == x) f (look x es) r

look_members : (x : ℕ) (ms : List MemberTree) (es : Entries) →
    look x (members_noted ms es) ≡ or_else (look x es) (params_of (method_numbered x ms))
look_members x [] es = ended (look x es)
look_members x (field f ∷ ms) es = look_members x ms es
look_members x (method f ∷ ms) es = look_members x ms (fun_noted f es) ∙ look_fun x f es (method_numbered x ms)

look_items : (x : ℕ) (is : List ItemTree) (es : Entries) → look x (items_noted is es) ≡ or_else (look x es) (params_of (fun_numbered x is))
look_items x [] es = ended (look x es)
look_items x (using u ∷ is) es = look_items x is es
look_items x (enumeration e ∷ is) es = look_items x is es
look_items x (class c ∷ is) es = look_items x is (members_noted c.members es) ∙
    ap (λ o. or_else o (params_of (fun_numbered x is))) (look_members x c.members es) ∙
    joined (look x es) (method_numbered x c.members) (fun_numbered x is)
look_items x (function f ∷ is) es = look_items x is (fun_noted f es) ∙ look_fun x f es (fun_numbered x is)

pub look_all : (x : ℕ) (is : List ItemTree) → look x (items_noted is []) ≡ params_of (fun_numbered x is)
look_all x is = look_items x is []

pub found_is : (is : List ItemTree) (infos : List FunInfo) → map (found_at (items_noted is [])) infos ≡ map (count_at is) infos
found_is is [] = refl
found_is is (i ∷ infos) = ap (λ o. o ∷ map (found_at (items_noted is [])) infos) (look_all i.item is) ∙
    ap (λ l. count_at is i ∷ l) (found_is is infos)
