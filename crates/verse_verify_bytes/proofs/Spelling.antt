-- Notes that are read stand in the bytes that are written of them.
use Rattle.std.proofs.Common.{◌≡◌, ℕ, zero, suc, ◌<◌, Bool, true, false, cond, List, [], ◌∷◌, ◌++◌, length, Result, Ok, Err, refl}
use Rattle.std.proofs.Common.{sym, ap, subst, ◌∙◌, arith}
use Rattle.std.proofs.lemmas.Bool.{eqb-true}
use Rattle.std.proofs.lemmas.List.{append-nil, reverse-reverse}
use Rattle.std.specs.Prelude.{Option, None, reverse, nat_lt, slice_get, ◌==◌}
use Rattle.verse_code.specs.declared.operations.Op.{Op}
use Rattle.verse_code.specs.declared.codes.Func.{Func}
use Rattle.verse_code.specs.declared.codes.Class.{Class}
use Rattle.verse_code.specs.declared.codes.Code.{Code}
use Rattle.verse_image.specs.declared.faults.Flaw.{Flaw}
use Rattle.verse_image.specs.Format.{flag}
use Rattle.verse_image.specs.Numbers.{IsBytes}
use Rattle.verse_image.specs.Reading.{flaw, number_at, many_at}
use Rattle.verse_image.proofs.NumberLaws.{ok_is, rest_bytes}
use Rattle.verse_sorts.specs.Sorts.{Sort}
use Rattle.verse_verify_kept.specs.Notes.{ClassNote, FuncNote}
use Rattle.verse_verify_faults.specs.Spots.{Mark, Spot, Table}
use Rattle.verse_verify_faults.specs.Reading.{after, answers, below, option_at, list_at, each_at, sort_at, parent_from, class_at, func_at}
use Rattle.verse_verify_faults.specs.Reading.{op_index, mark_at, defers_in, locals_of, with_block, spot_from, spots_at, marked}
use Rattle.verse_verify_faults.specs.Reading.{mark, ends, whole}
use Rattle.verse_verify_bytes.specs.Bytes.{number, each, counted, option, sort, parent, class_note, func_note, open_try, blocks, spot}
use Rattle.verse_verify_bytes.specs.Bytes.{bytes_of}
use Rattle.verse_verify_bytes.specs.Laws.{ReadIsWritten}
use Rattle.verse_verify_bytes.proofs.Once.{Spelt, Spells, after_ok, is_read, joined, number_once, below_once, is_below, byte_once}
use Rattle.verse_verify_bytes.proofs.Once.{option_once, many_once, list_once, each_once, sort_once}

-- a flag is 0 or 1
flag_same : (n : ℕ) → n < 2 → flag (nat_lt 0 n) ≡ n
flag_same zero lt = refl
flag_same (suc zero) lt = refl
flag_same (suc (suc n)) lt = absurd (omega (arith, lt))

flag_once : (bytes : List ℕ) (x : ℕ × List ℕ) → IsBytes bytes → below 2 bytes ≡ Ok x → bytes ≡ (flag (nat_lt 0 x.0) ∷ []) ++ x.1
flag_once bytes x fits e =
    byte_once 2 bytes x (omega arith) fits e ∙
    ap (λ (n : ℕ). n ∷ x.1) (sym (flag_same x.0 (is_below 2 bytes x fits e)))

module _ (c : Code) where
  sorts_once : (n : ℕ) (bytes : List ℕ) (x : List Sort × List ℕ) → IsBytes bytes → many_at (sort_at c) n bytes ≡ Ok x →
      Spelt (each sort) bytes x
  sorts_once n bytes x fits e = (many_once (sort_at c) sort (sort_once c 40) n bytes x fits e).0

  -- ---- classes and functions

  parent_same : (n : ℕ) (rest : List ℕ) → parent (parent_from c n) ++ rest ≡ number n ++ rest
  parent_same zero rest = refl
  parent_same (suc n) rest = refl

  class_once : (k : Class) → Spells (class_at c k) class_note
  class_once k bytes x fits e =
      let p = after_ok (below (suc (length c.classes)) bytes) (λ n rest. after (many_at (sort_at c) k.slots rest) (λ xs. answers (record {
        parent = parent_from c n;
        slots = xs;
      }))) x e in
      let q = after_ok (many_at (sort_at c) k.slots p.0.1) (λ xs. answers (record { parent = parent_from c p.0.0; slots = xs })) x p.2 in
      let n = below_once (suc (length c.classes)) bytes p.0 fits p.1 in
      let xs = sorts_once k.slots p.0.1 q.0 n.fits q.1 in
      is_read class_note bytes (record { parent = parent_from c p.0.0; slots = q.0.0 }) q.0.1 x q.2
      (joined (parent (parent_from c p.0.0)) (each sort q.0.0) bytes p.0.1 q.0.1 (n.same ∙ sym (parent_same p.0.0 p.0.1)) xs.same) xs.fits

  func_once : (f : Func) → Spells (func_at c f) func_note
  func_once f bytes x fits e =
      let made : List Sort → Sort → ℕ → ℕ → FuncNote = λ xs a fails waits. record {
        params = xs;
        result = a;
        may_fail = nat_lt 0 fails;
        may_wait = nat_lt 0 waits;
      } in
      let p = after_ok (many_at (sort_at c) f.params bytes) (λ xs rest. after (sort_at c rest) (λ a rest. after (below 2 rest) (λ
      fails rest. after (below 2 rest) (λ waits. answers (made xs a fails waits))))) x e in
      let q = after_ok (sort_at c p.0.1) (λ a rest. after (below 2 rest) (λ fails rest. after (below 2 rest) (λ waits. answers (made
      p.0.0 a fails waits)))) x p.2 in
      let r = after_ok (below 2 q.0.1) (λ fails rest. after (below 2 rest) (λ waits. answers (made p.0.0 q.0.0 fails waits))) x q.2 in
      let w = after_ok (below 2 r.0.1) (λ waits. answers (made p.0.0 q.0.0 r.0.0 waits)) x r.2 in
      let xs = sorts_once f.params bytes p.0 fits p.1 in
      let a = sort_once c 40 p.0.1 q.0 xs.fits q.1 in
      let fails = below_once 2 q.0.1 r.0 a.fits r.1 in
      let waits = below_once 2 r.0.1 w.0 fails.fits w.1 in
      let flags : q.0.1 ≡ (flag (nat_lt 0 r.0.0) ∷ flag (nat_lt 0 w.0.0) ∷ []) ++ w.0.1 =
      joined (flag (nat_lt 0 r.0.0) ∷ []) (flag (nat_lt 0 w.0.0) ∷ []) q.0.1 r.0.1 w.0.1 (flag_once q.0.1 r.0 a.fits r.1)
      (flag_once r.0.1 w.0 fails.fits w.1) in
      is_read func_note bytes (made p.0.0 q.0.0 r.0.0 w.0.0) w.0.1 x w.2
      (joined (each sort p.0.0 ++ sort q.0.0) (flag (nat_lt 0 r.0.0) ∷ flag (nat_lt 0 w.0.0) ∷ []) bytes q.0.1 w.0.1
      (joined (each sort p.0.0) (sort q.0.0) bytes p.0.1 q.0.1 xs.same a.same) flags) waits.fits

  -- ---- states

  index_once : Spells (op_index c) number
  index_once = below_once (length c.ops)

  mark_once : Spells (mark_at c) open_try
  mark_once bytes x fits e =
      let p = after_ok (op_index c bytes) (λ i rest. after (number_at rest) (λ h. answers (record { index = i; height = h }))) x e in
      let q = after_ok (number_at p.0.1) (λ h. answers (record { index = p.0.0; height = h })) x p.2 in
      let i = index_once bytes p.0 fits p.1 in
      let h = number_once p.0.1 q.0 i.fits q.1 in
      is_read open_try bytes (record { index = p.0.0; height = q.0.0 }) q.0.1 x q.2
      (joined (number p.0.0) (number q.0.0) bytes p.0.1 q.0.1 i.same h.same) h.fits

  -- what a state has that is not told of deferred blocks
  record Same (p q : Spot) : Type 0 where
    pub func : p.func ≡ q.func
    pub arm : p.arm ≡ q.arm
    pub locals : p.locals ≡ q.locals
    pub stack : p.stack ≡ q.stack
    pub tries : p.tries ≡ q.tries

  abbrev Told : Bool → Spot → List ℕ → Spot × List ℕ → Type 0
  Told told p bytes x = Same p x.0 × Spelt (λ (q : Spot). cond told (blocks q) []) bytes x

  told_is : (told : Bool) (p : Spot) (bytes : List ℕ) (q : Spot) (rest : List ℕ) (x : Spot × List ℕ) → answers q rest ≡ Ok x → Same p q →
      bytes ≡ cond told (blocks q) [] ++ rest → IsBytes rest → Told told p bytes x
  told_is told p bytes q rest x e h same fits = subst (Told told p bytes) (ok_is (q, rest) x e) (h, record { same = same; fits = fits })

  told_once : (told : Bool) (p : Spot) (bytes : List ℕ) (x : Spot × List ℕ) → IsBytes bytes → with_block c told p bytes ≡ Ok x →
      Told told p bytes x
  told_once false p bytes x fits e =
      told_is false p bytes p bytes x e (record { func = refl; arm = refl; locals = refl; stack = refl; tries = refl }) refl fits
  told_once true p bytes x fits e =
      let made : Option ℕ → List ℕ → ℕ → List ℕ → Spot = λ o outer under ds. record p {
        block = o;
        outer = outer;
        under = under;
        defers = ds;
      } in
      let index = op_index c in
      let g = after_ok (option_at index bytes) (λ o rest. after (list_at index rest) (λ outer rest. after (number_at rest) (λ under
      rest. after (list_at index rest) (λ ds. answers (made o outer under ds))))) x e in
      let h = after_ok (list_at index g.0.1) (λ outer rest. after (number_at rest) (λ under rest. after (list_at index rest) (λ ds.
      answers (made g.0.0 outer under ds)))) x g.2 in
      let i = after_ok (number_at h.0.1) (λ under rest. after (list_at index rest) (λ ds. answers (made g.0.0 h.0.0 under ds))) x h.2 in
      let j = after_ok (list_at index i.0.1) (λ ds. answers (made g.0.0 h.0.0 i.0.0 ds)) x i.2 in
      let block = option_once index number index_once bytes g.0 fits g.1 in
      let outer = list_once index number index_once g.0.1 h.0 block.fits h.1 in
      let under = number_once h.0.1 i.0 outer.fits i.1 in
      let defers = list_once index number index_once i.0.1 j.0 under.fits j.1 in
      told_is true p bytes (made g.0.0 h.0.0 i.0.0 j.0.0) j.0.1 x j.2
      (record { func = refl; arm = refl; locals = refl; stack = refl; tries = refl })
      (joined (option number g.0.0 ++ counted number h.0.0 ++ number i.0.0) (counted number j.0.0) bytes i.0.1 j.0.1
      (joined (option number g.0.0 ++ counted number h.0.0) (number i.0.0) bytes h.0.1 i.0.1
      (joined (option number g.0.0) (counted number h.0.0) bytes g.0.1 h.0.1 block.same outer.same) under.same) defers.same)
      defers.fits

  -- what is told of each state
  abbrev parts : Spot → List ℕ
  parts p = number p.func ++ option sort p.arm ++ each sort p.locals ++ counted sort (reverse p.stack) ++ counted open_try (reverse p.tries)

  same_parts : (p q : Spot) → Same p q → parts p ≡ parts q
  same_parts p q h = rw (h.func, h.arm, h.locals, h.stack, h.tries) refl

  spot_once : (told : Bool) → Spells (spot_from c told) (spot told)
  spot_once told bytes x fits e =
      let made : ℕ → Option Sort → List Sort → List Sort → List Mark → Spot = λ f arm ls st ms. record {
        func = f;
        arm = arm;
        locals = ls;
        stack = reverse st;
        tries = reverse ms;
        block = None;
        outer = [];
        under = 0;
        defers = [];
      } in
      let g = after_ok (below (length c.functions) bytes) (λ f rest. after (option_at (sort_at c) rest) (λ arm rest. after (many_at
      (sort_at c) (locals_of c (slice_get c.functions f)) rest) (λ ls rest. after (list_at (sort_at c) rest) (λ st rest. after (list_at
      (mark_at c) rest) (λ ms rest. with_block c told (made f arm ls st ms) rest))))) x e in
      let h = after_ok (option_at (sort_at c) g.0.1) (λ arm rest. after (many_at (sort_at c) (locals_of c (slice_get c.functions g.0.0))
      rest) (λ ls rest. after (list_at (sort_at c) rest) (λ st rest. after (list_at (mark_at c) rest) (λ ms rest. with_block c told (made
      g.0.0 arm ls st ms) rest)))) x g.2 in
      let i = after_ok (many_at (sort_at c) (locals_of c (slice_get c.functions g.0.0)) h.0.1) (λ ls rest. after (list_at (sort_at c)
      rest) (λ st rest. after (list_at (mark_at c) rest) (λ ms rest. with_block c told (made g.0.0 h.0.0 ls st ms) rest))) x h.2 in
      let j = after_ok (list_at (sort_at c) i.0.1) (λ st rest. after (list_at (mark_at c) rest) (λ ms rest. with_block c told (made
      g.0.0 h.0.0 i.0.0 st ms) rest)) x i.2 in
      let k = after_ok (list_at (mark_at c) j.0.1) (λ ms rest. with_block c told (made g.0.0 h.0.0 i.0.0 j.0.0 ms) rest) x j.2 in
      let func = below_once (length c.functions) bytes g.0 fits g.1 in
      let arm = option_once (sort_at c) sort (sort_once c 40) g.0.1 h.0 func.fits h.1 in
      let locals = sorts_once (locals_of c (slice_get c.functions g.0.0)) h.0.1 i.0 arm.fits i.1 in
      let stack = list_once (sort_at c) sort (sort_once c 40) i.0.1 j.0 locals.fits j.1 in
      let tries = list_once (mark_at c) open_try mark_once j.0.1 k.0 stack.fits k.1 in
      let p = made g.0.0 h.0.0 i.0.0 j.0.0 k.0.0 in
      let last = told_once told p k.0.1 x tries.fits k.2 in
      let read : bytes ≡ (number g.0.0 ++ option sort h.0.0 ++ each sort i.0.0 ++ counted sort j.0.0 ++ counted open_try k.0.0) ++ k.0.1 =
      joined (number g.0.0 ++ option sort h.0.0 ++ each sort i.0.0 ++ counted sort j.0.0) (counted open_try k.0.0) bytes j.0.1 k.0.1
      (joined (number g.0.0 ++ option sort h.0.0 ++ each sort i.0.0) (counted sort j.0.0) bytes i.0.1 j.0.1
      (joined (number g.0.0 ++ option sort h.0.0) (each sort i.0.0) bytes h.0.1 i.0.1
      (joined (number g.0.0) (option sort h.0.0) bytes g.0.1 h.0.1 func.same arm.same) locals.same) stack.same) tries.same in
      let turned : number g.0.0 ++ option sort h.0.0 ++ each sort i.0.0 ++ counted sort j.0.0 ++ counted open_try k.0.0 ≡ parts p =
      rw (reverse-reverse j.0.0, reverse-reverse k.0.0) refl in
      record {
        same = joined (parts x.0) (cond told (blocks x.0) []) bytes k.0.1 x.1
            (read ∙ ap (λ (w : List ℕ). w ++ k.0.1) (turned ∙ same_parts p x.0 last.0)) last.1.same;
        fits = last.1.fits;
      }

  -- ---- the whole

  spots_once : Spells (spots_at c c.ops) (each (option (spot (defers_in c c.ops))))
  spots_once =
      each_once c (λ (op : Op). option_at (spot_from c (defers_in c c.ops))) (option (spot (defers_in c c.ops)))
      (λ op. option_once (spot_from c (defers_in c c.ops)) (spot (defers_in c c.ops)) (spot_once (defers_in c c.ops))) c.ops

  marked_once : (ms : List ℕ) (all : ℕ) (bytes : List ℕ) (x : List ℕ × List ℕ) → IsBytes bytes → marked c ms all bytes ≡ Ok x →
      (bytes ≡ ms ++ x.1) × IsBytes x.1
  marked_once [] all bytes x fits e =
      subst (λ (y : List ℕ × List ℕ). (bytes ≡ y.1) × IsBytes y.1) (ok_is ([], bytes) x e) (refl, fits)
  marked_once (m ∷ ms) all [] x fits e = absurd cc
  marked_once (m ∷ ms) all (k ∷ bytes) x fits e = by_test (k == m) refl e (marked_once ms all bytes x (rest_bytes k bytes fits))
    where
      by_test : (t : Bool) → (k == m) ≡ t → cond t (marked c ms all bytes) (Err (flaw 1 all)) ≡ Ok x →
          (marked c ms all bytes ≡ Ok x → (bytes ≡ ms ++ x.1) × IsBytes x.1) → (k ∷ bytes ≡ m ∷ ms ++ x.1) × IsBytes x.1
      by_test false is e so = absurd cc
      by_test true is e so =
          let p = so e in
          let same : k ≡ m = eqb-true k m is in
          (ap (λ (n : ℕ). n ∷ bytes) same ∙ ap (λ (w : List ℕ). m ∷ w) p.0, p.1)

  abbrev read_all : Table × List ℕ → Result (Table × List ℕ) Flaw
  read_all x = Ok x

  whole_ok : (r : Result (Table × List ℕ) Flaw) (t : Table) → whole c r ≡ Ok t → r ≡ read_all (t, [])
  whole_ok (Err f) t e = absurd cc
  whole_ok (Ok x) t e = by_rest x.0 x.1 e
    where
      by_rest : (u : Table) (rest : List ℕ) → ends c u rest ≡ Ok t → read_all (u, rest) ≡ read_all (t, [])
      by_rest u [] e = cc
      by_rest u (k ∷ rest) e = absurd cc

pub once : ReadIsWritten
once c bytes t fits e =
    let made : List ClassNote → List FuncNote → List (Option Spot) → Table = λ cs fs ps. record {
      classes = cs;
      functions = fs;
      spots = ps;
    } in
    let read = after (marked c (mark c) (length bytes) bytes) (λ m rest. after (each_at c (class_at c) c.classes rest) (λ cs rest. after
    (each_at c (func_at c) c.functions rest) (λ fs rest. after (spots_at c c.ops rest) (λ ps. answers (made cs fs ps))))) in
    let o = whole_ok c read t e in
    let g = after_ok (marked c (mark c) (length bytes) bytes) (λ m rest. after (each_at c (class_at c) c.classes rest) (λ cs rest. after
    (each_at c (func_at c) c.functions rest) (λ fs rest. after (spots_at c c.ops rest) (λ ps. answers (made cs fs ps))))) (t, []) o in
    let h = after_ok (each_at c (class_at c) c.classes g.0.1) (λ cs rest. after (each_at c (func_at c) c.functions rest) (λ fs rest. after
    (spots_at c c.ops rest) (λ ps. answers (made cs fs ps)))) (t, []) g.2 in
    let i = after_ok (each_at c (func_at c) c.functions h.0.1) (λ fs rest. after (spots_at c c.ops rest) (λ ps. answers (made h.0.0 fs
    ps))) (t, []) h.2 in
    let j = after_ok (spots_at c c.ops i.0.1) (λ ps. answers (made h.0.0 i.0.0 ps)) (t, []) i.2 in
    let first = marked_once c (mark c) (length bytes) bytes g.0 fits g.1 in
    let classes = each_once c (class_at c) class_note (class_once c) c.classes g.0.1 h.0 first.1 h.1 in
    let functions = each_once c (func_at c) func_note (func_once c) c.functions h.0.1 i.0 classes.fits i.1 in
    let spots = spots_once c i.0.1 j.0 functions.fits j.1 in
    let all : bytes ≡ bytes_of c (made h.0.0 i.0.0 j.0.0) ++ j.0.1 =
    joined (mark c ++ each class_note h.0.0 ++ each func_note i.0.0) (each (option (spot (defers_in c c.ops))) j.0.0) bytes i.0.1 j.0.1
    (joined (mark c ++ each class_note h.0.0) (each func_note i.0.0) bytes h.0.1 i.0.1
    (joined (mark c) (each class_note h.0.0) bytes g.0.1 h.0.1 first.0 classes.same) functions.same) spots.same in
    let last : (made h.0.0 i.0.0 j.0.0, j.0.1) ≡ (t, []) = ok_is (made h.0.0 i.0.0 j.0.0, j.0.1) (t, []) j.2 in
    all ∙ ap (λ (y : Table × List ℕ). bytes_of c y.0 ++ y.1) last ∙ append-nil (bytes_of c t)
