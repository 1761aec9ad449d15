-- The frames of a task looked through from the top.
use Rattle.std.proofs.Common.{◌≡◌, ◌<◌, ◌≤◌, ◌-◌, ◌+◌, ℕ, zero, suc, List, [], ◌∷◌, ◌++◌, length, drop, Option, Some}
use Rattle.std.proofs.Common.{None, Bool, true, false, cond}
use Rattle.std.proofs.Common.{refl, sym, ap, subst, ◌∙◌, arith, reverse, map, append_assoc}
use Rattle.std.specs.Prelude.{slice_get, option_map, pred}
use Rattle.std.proofs.lemmas.List.{reverse-reverse, reverse-append, map-append, append-nil}
use Rattle.std.proofs.Math.Seq.{drop-length}
use Rattle.verse_value.specs.Val.{Val}
use Rattle.verse_value.specs.declared.values.Value.{Value}
use Rattle.verse_value.specs.View.{val_of, vals_of}
use Rattle.verse_meaning_state.specs.State.{Memory}
use Rattle.verse_meaning_state.specs.Waits.{ltn}
use Rattle.verse_meaning_state.proofs.Numbers.{ltn_yes, ltn_no}
use Rattle.verse_code_machine.specs.Tasks.{Frame}
use Rattle.fiber.specs.Frames.{Handler}
use Rattle.vm_frames.specs.Framed.{Framed}
use Rattle.vm_frames.specs.Calls.{framed_at}
use Rattle.vm_frames.specs.Machine.{frames_with, beyond, outer}
use Rattle.run_save_shots.specs.Lists.{count}
use Rattle.run_save_shots.specs.Kept.{KeptFrame}
use Rattle.run_save_shots.specs.Keeping.{frame}
use Rattle.run_save_shots.specs.View.{frame_of}
use Rattle.run_save_shots.specs.declared.shots.FrameShot.{FrameShot}
use Rattle.vm_shot_frames.specs.Frames.{kept_frames, depth_among, bare, from_top, began_before}

-- ---- without handlers' memories

reverse_cons : {A : Type 0} (x : A) (xs : List A) → reverse (x ∷ xs) ≡ reverse xs ++ x ∷ []
reverse_cons x xs = reverse-append (x ∷ []) xs

reverse_map : {A B : Type 0} (g : A → B) (xs : List A) → reverse (map g xs) ≡ map g (reverse xs)
reverse_map g [] = refl
reverse_map g (x ∷ xs) =
    reverse_cons (g x) (map g xs) ∙
    (ap (λ w. w ++ g x ∷ []) (reverse_map g xs) ∙
    (sym (map-append g (reverse xs) (x ∷ [])) ∙ ap (map g) (sym (reverse_cons x xs))))

beyond_none : (hs : List Handler) → beyond hs [] ≡ []
beyond_none [] = refl
beyond_none (h ∷ hs) = beyond_none hs

from_top_all : (fs : List Framed) → from_top 0 fs ≡ map (frame 0) (frames_with fs [])
from_top_all [] = refl
from_top_all (f ∷ fs) =
    ap (λ w. frame 0 (bare f) ∷ w) (from_top_all fs ∙ ap (λ ms. map (frame 0) (frames_with fs ms)) (sym (beyond_none f.frame.handlers)))

pub turned : (arms : ℕ) (fs : List Framed) → reverse (from_top arms fs) ≡ kept_frames arms (frames_with fs [])
turned arms [] = refl
turned arms (f ∷ fs) =
    reverse_cons (frame arms (bare f)) (from_top 0 fs) ∙
    ap (λ w. w ++ frame arms (bare f) ∷ [])
    (ap (λ w. reverse w) (from_top_all fs) ∙
    (reverse_map (frame 0) (frames_with fs []) ∙
    ap (λ ms. map (frame 0) (reverse (frames_with fs ms))) (sym (beyond_none f.frame.handlers))))

pub depth_is : (n : ℕ) (fs : List Framed) → pred (began_before n fs) ≡ depth_among n (frames_with fs [])
depth_is n fs = ap pred (same fs)
  where
    same : (fs : List Framed) → began_before n fs ≡ count (λ (f : Frame). ltn n f.life.born) (frames_with fs [])
    same [] = refl
    same (f ∷ fs) =
        ap (λ k. cond (ltn n f.born) (suc k) k) (same fs ∙
        ap (λ ms. count (λ (f : Frame). ltn n f.life.born) (frames_with fs ms)) (sym (beyond_none f.frame.handlers)))

-- ---- the next frame

drop_next : {A : Type 0} (xs : List A) (k : ℕ) (x : A) → slice_get xs k ≡ Some x → drop k xs ≡ x ∷ drop (suc k) xs
drop_next [] k x e = absurd (cc)
drop_next (y ∷ ys) zero x e = ap (λ w. w ∷ ys) (same e)
  where
    same : {A : Type 0} {y x : A} → Some y ≡ Some x → y ≡ x
    same e = cc
drop_next (y ∷ ys) (suc k) x e = drop_next ys k x e

-- a frame at a place
record At (o : Option Framed) (arms : ℕ) (f : KeptFrame) : Type 0 where
  own : Framed
  is : o ≡ Some own
  kept : frame arms (bare own) ≡ f

at_it : (o : Option Framed) (arms : ℕ) (f : KeptFrame) → option_map (λ (g : Framed). frame arms (bare g)) o ≡ Some f → At o arms f
at_it None arms f e = absurd (cc)
at_it (Some g) arms f e = record { own = g; is = refl; kept = cc }

-- the place of the frame below at - 1 others
index : (n at : ℕ) → 0 < at → at ≤ n → n - 1 - (at - 1) ≡ n - at
index n at some most = omega (arith, some, most)

next : (n at : ℕ) → 0 < at → at ≤ n → suc (n - at) ≡ n - (at - 1)
next n at some most = omega (arith, some, most)

pub frames_step : (fs : List Framed) (at arms : ℕ) (xs ys : List FrameShot) (all : List KeptFrame) (f : FrameShot) → 0 < at →
    at ≤ length fs → option_map (λ (g : Framed). frame arms (bare g)) (framed_at (at - 1) fs) ≡ Some (frame_of f) → ys ≡ xs ++ f ∷ [] →
    map frame_of xs ++ from_top arms (drop (length fs - at) fs) ≡ all → map frame_of ys ++ from_top 0 (drop (length fs - (at - 1)) fs) ≡ all
frames_step fs at arms xs ys all f some most e more so =
    let o = at_it (slice_get fs (length fs - at)) arms (frame_of f) (subst (λ n. option_map (λ (g : Framed). frame arms (bare g)) (slice_get
    fs n) ≡ Some (frame_of f)) (index (length fs) at some most) e) in
    ap (λ w. w ++ from_top 0 (drop (length fs - (at - 1)) fs)) (ap (map frame_of) more ∙ map-append frame_of xs (f ∷ []))
    ∙ (append_assoc (map frame_of xs) (frame_of f ∷ []) (from_top 0 (drop (length fs - (at - 1)) fs))
    ∙ (ap (λ n. map frame_of xs ++ frame_of f ∷ from_top 0 (drop n fs)) (sym (next (length fs) at some most))
    ∙ (ap (λ g. map frame_of xs ++ g ∷ from_top 0 (drop (suc (length fs - at)) fs)) (sym o.kept)
    ∙ (ap (λ w. map frame_of xs ++ from_top arms w) (sym (drop_next fs (length fs - at) o.own o.is)) ∙ so))))

-- all are looked through
pub frames_over : (fs : List Framed) (at arms behind : ℕ) (xs ys : List FrameShot) → at ≡ 0 → ys ≡ reverse xs →
    map frame_of xs ++ from_top behind (drop (length fs - at) fs) ≡ from_top arms fs →
    map frame_of ys ≡ kept_frames arms (frames_with fs [])
frames_over fs at arms behind xs ys e turns so =
    let none : length fs - at ≡ length fs = omega (arith, e) in
    let all : map frame_of xs ≡ from_top arms fs =
    sym (append-nil (map frame_of xs)) ∙
    (ap (λ w. map frame_of xs ++ from_top behind w) (sym (ap (λ n. drop n fs) none ∙ drop-length fs)) ∙ so) in
    ap (map frame_of) turns ∙ (sym (reverse_map frame_of xs) ∙ (ap (λ w. reverse w) all ∙ turned arms fs))

born_is : (o : Option Framed) (b : ℕ) → option_map (λ (g : Framed). g.born) o ≡ Some b → (g : Framed) × (o ≡ Some g) × (g.born ≡ b)
born_is None b e = absurd (cc)
born_is (Some g) b e = (g, refl, (cc))

module _ (n : ℕ) (fs : List Framed) (at b : ℕ) (some : 0 < at) (most : at ≤ length fs)
    (e : option_map (λ (g : Framed). g.born) (framed_at (at - 1) fs) ≡ Some b) where
  own : (g : Framed) × (slice_get fs (length fs - at) ≡ Some g) × (g.born ≡ b)
  own = born_is (slice_get fs (length fs - at)) b (subst (λ k. option_map (λ (g : Framed). g.born) (slice_get fs k) ≡ Some b) (index (length
      fs) at some most) e)

  counted : (t : Bool) → ltn n b ≡ t →
      began_before n (drop (length fs - at) fs) ≡
      cond t (suc (began_before n (drop (length fs - (at - 1)) fs))) (began_before n (drop (length fs - (at - 1)) fs))
  counted t h =
      let k = began_before n (drop (suc (length fs - at)) fs) in
      ap (began_before n) (drop_next fs (length fs - at) own.0 own.1) ∙
      (ap (λ c. cond (ltn n c) (suc k) k) own.2 ∙
      (ap (λ c. cond c (suc k) k) h ∙
      ap (λ j. cond t (suc (began_before n (drop j fs))) (began_before n (drop j fs))) (next (length fs) at some most)))

  pub one_before : (before : ℕ) → n < b → before + began_before n (drop (length fs - at) fs) ≡ began_before n fs →
      (before + 1) + began_before n (drop (length fs - (at - 1)) fs) ≡ began_before n fs
  one_before before h so = let c = counted true (ltn_yes n b h) in omega (arith, c, so)

  pub one_later : (before : ℕ) → b ≤ n → before + began_before n (drop (length fs - at) fs) ≡ began_before n fs →
      before + began_before n (drop (length fs - (at - 1)) fs) ≡ began_before n fs
  one_later before h so = let c = counted false (ltn_no n b h) in omega (arith, c, so)

pub pred_is : (n : ℕ) → n - 1 ≡ pred n
pred_is zero = omega arith
pred_is (suc n) = omega arith

pub depth_over : (n : ℕ) (fs : List Framed) (at before : ℕ) → at ≡ 0 →
    before + began_before n (drop (length fs - at) fs) ≡ began_before n fs → before ≡ began_before n fs
depth_over n fs at before e so =
    let none : length fs - at ≡ length fs = omega (arith, e) in
    let last : began_before n (drop (length fs - at) fs) ≡ 0 = ap (λ k. began_before n (drop k fs)) none ∙ ap (began_before n) (drop-length
    fs) in
    omega (arith, last, so)

-- ---- the parts of a frame

module _ (o : Option Framed) (arms p : ℕ) (ls st : List Val) (ds : List ℕ) (f : KeptFrame)
    (place : option_map (λ (g : Framed). g.frame.place) o ≡ Some p)
    (locals : option_map (λ (g : Framed). g.frame.locals) o ≡ Some ls)
    (stack : option_map (λ (g : Framed). g.frame.stack) o ≡ Some st)
    (defers : option_map (λ (g : Framed). g.frame.defers) o ≡ Some ds) where
  pub frame_made : f.place ≡ pred (p - arms) → f.locals ≡ ls → f.stack ≡ reverse st → f.defers ≡ reverse ds →
      option_map (λ (g : Framed). frame arms (bare g)) o ≡ Some f
  frame_made a b c d = by_frame o place locals stack defers
    where
      by_frame : (o : Option Framed) → option_map (λ (g : Framed). g.frame.place) o ≡ Some p →
          option_map (λ (g : Framed). g.frame.locals) o ≡ Some ls → option_map (λ (g : Framed). g.frame.stack) o ≡ Some st →
          option_map (λ (g : Framed). g.frame.defers) o ≡ Some ds → option_map (λ (g : Framed). frame arms (bare g)) o ≡ Some f
      by_frame None e g h k = absurd (cc)
      by_frame (Some g) e h k l = ap Some (same (frame arms (bare g)) f
          (ap (λ n. pred (n - arms)) (own e) ∙ sym a) (own h ∙ sym b) (ap (λ w. reverse w) (own k) ∙ sym c)
          (ap (λ w. reverse w) (own l) ∙ sym d))
        where
          own : {A : Type 0} {x y : A} → Some x ≡ Some y → x ≡ y
          own e = cc

          same : (g f : KeptFrame) → g.place ≡ f.place → g.locals ≡ f.locals → g.stack ≡ f.stack → g.defers ≡ f.defers → g ≡ f
          same g f e h k l =
              ap (λ (p : ℕ). record { place = p; locals = g.locals; stack = g.stack; defers = g.defers }) e ∙
              (ap (λ (w : List Val). record { place = f.place; locals = w; stack = g.stack; defers = g.defers }) h ∙
              (ap (λ (w : List Val). record { place = f.place; locals = f.locals; stack = w; defers = g.defers }) k ∙
              ap (λ (w : List ℕ). record { place = f.place; locals = f.locals; stack = f.stack; defers = w }) l))

pub stack_turned : (vs : List Value) → reverse (vals_of (reverse vs)) ≡ vals_of vs
stack_turned vs = reverse_map val_of (reverse vs) ∙ ap vals_of (reverse-reverse vs)
