-- The loop over the records: what was read so far, and one record more. And that an input has one reading. Assumes nothing.
use Rattle.std.specs.Prelude.{Option, Some, None, Ok, Err}
use Rattle.program_reader.specs.declared.Kind.{Kind}
use mathlib.Core.Bool.{Bool, true, false, cond}
use mathlib.Core.List.{List, [], ◌∷◌, ◌++◌}
use mathlib.Core.Path.{◌≡◌, refl, sym, ap, ◌∙◌, subst}
use Prim.Native.Nat.{ℕ, ◌+◌, ◌-◌, ◌*◌, ◌/◌, ◌≤◌, ◌<◌}
use native.Mathlib.Omega.{arith}
use lib.Dec.{leb, ltb}
use lib.Ieee.{Float, nan}
use lib.ListN.{length, take}
use lib.Seq.{length-take-le}
use borrow.Author.Tests.{leb-false}
use Rattle.grid.specs.declared.Refusal.{Refusal}
use Rattle.grid.specs.Answers.{Outcome}
use Rattle.sizing.specs.declared.Point.{Point}
use Rattle.order.specs.Output.{Written}
use Rattle.order.proofs.Outputs.{front_written}
use Rattle.program_reader.specs.declared.Head.{Head}
use Rattle.program_reader.specs.declared.Corners.{Corners}
use Rattle.program_reader.specs.declared.Taken.{Taken}
use Rattle.program_reader.specs.declared.InputRecord.{InputRecord}
use Rattle.program_reader.specs.Records.{bytes_at, mark_at, whole, corners_from, triangle_step, step_by, step_at}
use Rattle.program_reader.specs.Reading.{Stream, taken_so_far, coordinates_of, corners_of, Reads}
use Rattle.program_reader.proofs.Laws.{there}

-- ---- what a record that was taken shows

pub from_whole : (b : Bool) (at : ℕ) (x : Outcome InputRecord) (r : InputRecord) → Ok r ≡ whole b at x → (true ≡ b) × (Ok r ≡ x)
from_whole true at x r h = (refl, h)
from_whole false at x r h = absurd (let z : ◌≡◌ {A = ℕ} 0 1 = cc in omega arith)

pub from_cond : (t : Bool) (f : Refusal) (x : Outcome InputRecord) (r : InputRecord) → Ok r ≡ cond t (Err f) x → (t ≡ false) × (Ok r ≡ x)
from_cond false f x r h = (refl, h)
from_cond true f x r h = absurd (let z : ◌≡◌ {A = ℕ} 0 1 = cc in omega arith)

module _ (s : List ℕ) (at : ℕ) (n : Taken) where
  from_triangle : (r : InputRecord) → Ok r ≡ triangle_step s at n → (n.triangles < 256) × (14 ≤ length s - at) × ((t : Corners) × (r ≡ InputRecord.Triangle t))
  from_triangle r h =
      let a = from_cond (leb 256 n.triangles) _ _ r h in
      let b = from_whole (bytes_at s at 14) at _ r a.1 in
      (leb-false 256 n.triangles a.0, there s at 14 b.0, (corners_from s (at + 2), cc))

  pub point_taken : (p : Point) → Ok (InputRecord.Point p) ≡ step_at s at n → (n.points < 256) × (14 ≤ length s - at)
  point_taken p h = go (mark_at s at) (from_whole (bytes_at s at 2) at _ (InputRecord.Point p) h).1
    where
      go : (m : Option Kind) → Ok (InputRecord.Point p) ≡ step_by m s at n → (n.points < 256) × (14 ≤ length s - at)
      go (Some Kind.Head) e = absurd (let z : ◌≡◌ {A = ℕ} 0 1 = cc in omega arith)
      go (Some Kind.Point) e =
          let a = from_cond (leb 256 n.points) _ _ (InputRecord.Point p) e in
          let b = from_cond (ltb 0 n.triangles) _ _ (InputRecord.Point p) a.1 in
          (leb-false 256 n.points a.0, there s at 14 (from_whole (bytes_at s at 14) at _ (InputRecord.Point p) b.1).0)
      go (Some Kind.Triangle) e = absurd (let w = (from_triangle (InputRecord.Point p) e).2.1 in let z : ◌≡◌ {A = ℕ} 0 1 = cc in omega arith)
      go (Some Kind.End) e = absurd (let w = (from_cond (ltb 2 (length s - at)) _ _ (InputRecord.Point p) e).1 in let z : ◌≡◌ {A = ℕ} 0 1 = cc in omega arith)
      go None e = absurd (let z : ◌≡◌ {A = ℕ} 0 1 = cc in omega arith)

  pub triangle_taken : (t : Corners) → Ok (InputRecord.Triangle t) ≡ step_at s at n → (n.triangles < 256) × (14 ≤ length s - at)
  triangle_taken t h = go (mark_at s at) (from_whole (bytes_at s at 2) at _ (InputRecord.Triangle t) h).1
    where
      go : (m : Option Kind) → Ok (InputRecord.Triangle t) ≡ step_by m s at n → (n.triangles < 256) × (14 ≤ length s - at)
      go (Some Kind.Head) e = absurd (let z : ◌≡◌ {A = ℕ} 0 1 = cc in omega arith)
      go (Some Kind.Point) e =
          let a = from_cond (leb 256 n.points) _ _ (InputRecord.Triangle t) e in
          let b = from_cond (ltb 0 n.triangles) _ _ (InputRecord.Triangle t) a.1 in
          absurd (let w = (from_whole (bytes_at s at 14) at _ (InputRecord.Triangle t) b.1).1 in let z : ◌≡◌ {A = ℕ} 0 1 = cc in omega arith)
      go (Some Kind.Triangle) e = let w = from_triangle (InputRecord.Triangle t) e in (w.0, w.1)
      go (Some Kind.End) e = absurd (let w = (from_cond (ltb 2 (length s - at)) _ _ (InputRecord.Triangle t) e).1 in let z : ◌≡◌ {A = ℕ} 0 1 = cc in omega arith)
      go None e = absurd (let z : ◌≡◌ {A = ℕ} 0 1 = cc in omega arith)

-- ---- the loop

-- three numbers of each of n things stand at the front of a buffer of 768
pub record Held {A : Type 0} (n : ℕ) (xs : List A) : Type 0 where
  pub room : length xs ≡ 768
  pub few : n ≤ 256

module _ {A : Type 0} (d : A) (n : ℕ) (xs ys : List A) (x y z : A) where
  pub held_count : Held n xs → length (take (3 * n) xs) / 3 ≡ n
  held_count w = let e = length-take-le (3 * n) xs (omega (arith, w.few, w.room)) in ap (λ (k : ℕ). k / 3) e ∙ omega arith

  -- one more
  pub held_more : Held n xs → n < 256 → Written d (3 * n) (x ∷ y ∷ z ∷ []) xs ys → Held (n + 1) ys × (take (3 * (n + 1)) ys ≡ take (3 * n) xs ++ (x ∷ y ∷ z ∷ []))
  held_more w h a = (
    record { room = a.size ∙ w.room; few = omega arith },
    ap (λ (k : ℕ). take k ys) (let e : 3 * (n + 1) ≡ 3 * n + 3 = omega arith in e) ∙ front_written d (3 * n) (x ∷ y ∷ z ∷ []) xs ys (omega (arith, w.room)) a,
  )

-- p points and t triangles were read, up to a place: what follows from there is what follows from the start
pub record SoFar (s : List ℕ) (h : Head) (ps : List Float) (ts : List ℕ) (at p t : ℕ) : Type 0 where
  pub in_input : at ≤ length s
  pub points_in : Held p ps
  pub triangles_in : Held t ts
  pub rest : (o : Outcome Stream) → Reads s h at (take (3 * p) ps) (take (3 * t) ts) o → Reads s h 8 [] [] o

module _ (s : List ℕ) (h : Head) where
  pub begins : (ps : List Float) (ts : List ℕ) → 8 ≤ length s → length ps ≡ 768 → length ts ≡ 768 → SoFar s h ps ts 8 0 0
  begins ps ts l p t = record {
    in_input = l;
    points_in = record { room = p; few = omega arith };
    triangles_in = record { room = t; few = omega arith };
    rest = λ o r. r;
  }

  module _ (ps : List Float) (ts : List ℕ) (at p t : ℕ) (w : SoFar s h ps ts at p t) where
    -- the counts that the step is asked with
    pub counts : taken_so_far (take (3 * p) ps) (take (3 * t) ts) ≡ record { points = p; triangles = t }
    counts i = record {
      points = held_count nan p ps ps nan nan nan w.points_in i;
      triangles = held_count 0 t ts ts 0 0 0 w.triangles_in i;
    }

    pub asked : (x : Outcome InputRecord) → x ≡ step_at s at (record { points = p; triangles = t }) → step_at s at (taken_so_far (take (3 * p) ps) (take (3 * t) ts)) ≡ x
    asked x e = ap (step_at s at) counts ∙ sym e

    pub one_point : (x : Point) (qs : List Float) → Ok (InputRecord.Point x) ≡ step_at s at (record { points = p; triangles = t }) → Written nan (3 * p) (coordinates_of x) ps qs → SoFar s h qs ts (at + 14) (p + 1) t
    one_point x qs e a =
        let k = point_taken s at (record { points = p; triangles = t }) x e in
        let m = held_more nan p ps qs x.x x.y x.z w.points_in k.0 a in
        record {
          in_input = omega (arith, w.in_input, k.1);
          points_in = m.0;
          triangles_in = w.triangles_in;
          rest = λ o r. w.rest o (Reads.point (asked _ e) (subst (λ (l : List Float). Reads s h (at + 14) l (take (3 * t) ts) o) m.1 r));
        }

    pub one_triangle : (x : Corners) (us : List ℕ) → Ok (InputRecord.Triangle x) ≡ step_at s at (record { points = p; triangles = t }) → Written 0 (3 * t) (corners_of x) ts us → SoFar s h ps us (at + 14) p (t + 1)
    one_triangle x us e a =
        let k = triangle_taken s at (record { points = p; triangles = t }) x e in
        let m = held_more 0 t ts us x.a x.b x.c w.triangles_in k.0 a in
        record {
          in_input = omega (arith, w.in_input, k.1);
          points_in = w.points_in;
          triangles_in = m.0;
          rest = λ o r. w.rest o (Reads.triangle (asked _ e) (subst (λ (l : List ℕ). Reads s h (at + 14) (take (3 * p) ps) l o) m.1 r));
        }
