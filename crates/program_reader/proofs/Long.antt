-- What is read of the first 7,190 bytes of an input, or more of them, is what is read of the whole (`read_long`): so a program need not take in more. Assumes nothing.
use Rattle.std.specs.Prelude.{Option, Some, None, Ok}
use mathlib.Core.Bool.{true, false}
use Rattle.program_reader.specs.declared.Kind.{Kind}
use Rattle.grid.specs.declared.Reason.TheVariants.{BadCount, BadRecord}
use mathlib.Core.Bool.{Bool, cond}
use mathlib.Core.List.{List, ◌++◌}
use mathlib.Core.Path.{◌≡◌, refl, sym, ap, ◌∙◌}
use Prim.Native.Nat.{ℕ, ◌+◌, ◌-◌, ◌*◌, ◌/◌, ◌≤◌, ◌<◌}
use native.Mathlib.Omega.{arith}
use lib.Dec.{ltb, leb}
use lib.Ieee.{Float, binary32, of_bits}
use lib.ListN.{length, get_or, length-append, get_or-append}
use borrow.Author.Tests.{lt-ltb, le-ltb}
use Rattle.grid.specs.Answers.{Outcome}
use Rattle.program_words.specs.Words.{word_at}
use Rattle.program_reader.specs.declared.Head.{Head}
use Rattle.program_reader.specs.declared.Taken.{Taken}
use Rattle.program_reader.specs.declared.InputRecord.TheVariants as InputRecord
use Rattle.program_reader.specs.Records.{bytes_at, mark_of_bytes, mark_at, head_of, head_by, start_by, start_with, start_at, refused, whole, point_from, corners_from, step_by, step_at}
use Rattle.program_reader.specs.Reading.{Stream, taken_so_far, coordinates_of, corners_of, Reads, Read}
use Rattle.program_reader.proofs.Readings.{point_taken, triangle_taken}

module _ (s t : List ℕ) where
  -- bytes of s are bytes of s and what follows it
  byte : (at : ℕ) → at < length s → get_or (s ++ t) at 0 ≡ get_or s at 0
  byte at h = get_or-append s t 0 at h

  word : (at : ℕ) → at + 4 ≤ length s → word_at (s ++ t) at ≡ word_at s at
  unfolding word_at
  word at h i =
      byte at (omega arith) i + 256 * byte (at + 1) (omega arith) i + 65536 * byte (at + 2) (omega arith) i + 16777216 * byte (at + 3) (omega arith) i

  mark : (at : ℕ) → at + 2 ≤ length s → mark_at (s ++ t) at ≡ mark_at s at
  mark at h i = mark_of_bytes (byte at (omega arith) i) (byte (at + 1) (omega arith) i)

  -- n bytes are there in both
  bytes : (at n : ℕ) → at + n ≤ length s → bytes_at (s ++ t) at n ≡ bytes_at s at n
  bytes at n h =
      ap (λ (b : Bool). cond b false true) (le-ltb (length (s ++ t) - at) n (omega (arith, length-append s t)) ∙ sym (le-ltb (length s - at) n (omega arith)))

  -- the first step is the same
  start_long : 8 ≤ length s → start_at (s ++ t) ≡ start_at s
  start_long h =
      (λ i. start_with (bytes 0 2 (omega arith) i) (s ++ t))
      ∙ by_bytes (bytes_at s 0 2)
    where
      fields : head_of (get_or (s ++ t) 2 0) (get_or (s ++ t) 3 0) (word_at (s ++ t) 4) ≡ head_of (get_or s 2 0) (get_or s 3 0) (word_at s 4)
      fields i = head_of (byte 2 (omega arith) i) (byte 3 (omega arith) i) (word 4 (omega arith) i)

      by_head : (b : Bool) → head_by b (s ++ t) ≡ head_by b s
      by_head true = fields
      by_head false = refl

      by_mark : (m : Option Kind) → start_by m (s ++ t) ≡ start_by m s
      by_mark (Some Kind.Head) = (λ i. head_by (bytes 0 8 (omega arith) i) (s ++ t)) ∙ by_head (bytes_at s 0 8)
      by_mark (Some Kind.Point) = refl
      by_mark (Some Kind.Triangle) = refl
      by_mark (Some Kind.End) = refl
      by_mark None = refl

      by_bytes : (b : Bool) → start_with b (s ++ t) ≡ start_with b s
      by_bytes true = (λ i. start_by (mark 0 (omega arith) i) (s ++ t)) ∙ by_mark (mark_at s 0)
      by_bytes false = refl

  -- and so is each later one that lies 14 bytes before the end
  step_long : (at : ℕ) (n : Taken) → at + 14 ≤ length s → step_at (s ++ t) at n ≡ step_at s at n
  step_long at n h = (λ i. whole (bytes at 2 (omega arith) i) at (step_by (mark at (omega arith) i) (s ++ t) at n)) ∙ ap (whole (bytes_at s at 2) at) (by_mark (mark_at s at))
    where
      one_point : point_from (s ++ t) (at + 2) ≡ point_from s (at + 2)
      one_point i = record {
        x = of_bits binary32 (word (at + 2) (omega arith) i);
        y = of_bits binary32 (word (at + 2 + 4) (omega arith) i);
        z = of_bits binary32 (word (at + 2 + 8) (omega arith) i);
      }

      one_triangle : corners_from (s ++ t) (at + 2) ≡ corners_from s (at + 2)
      one_triangle i = record { a = word (at + 2) (omega arith) i; b = word (at + 2 + 4) (omega arith) i; c = word (at + 2 + 8) (omega arith) i }

      more : ltb 2 (length (s ++ t) - at) ≡ ltb 2 (length s - at)
      more = lt-ltb 2 (length (s ++ t) - at) (omega (arith, length-append s t)) ∙ sym (lt-ltb 2 (length s - at) (omega arith))

      by_mark : (m : Option Kind) → step_by m (s ++ t) at n ≡ step_by m s at n
      by_mark (Some Kind.Head) = refl
      by_mark (Some Kind.Point) = λ i.
          cond (leb 256 n.points) (refused BadCount 0) (cond (ltb 0 n.triangles) (refused BadRecord at) (whole (bytes at 14 h i) at (Ok (InputRecord.Point (one_point i)))))
      by_mark (Some Kind.Triangle) = λ i. cond (leb 256 n.triangles) (refused BadCount 0) (whole (bytes at 14 h i) at (Ok (InputRecord.Triangle (one_triangle i))))
      by_mark (Some Kind.End) = λ i. cond (more i) (refused BadRecord (at + 2)) (Ok InputRecord.End)
      by_mark None = refl

  -- p points and q triangles were read up to here
  record Stands (at : ℕ) (ps : List Float) (ts : List ℕ) (p q : ℕ) : Type 0 where
    place : at ≡ 8 + 14 * (p + q)
    points_are : length ps ≡ 3 * p
    triangles_are : length ts ≡ 3 * q
    points_few : p ≤ 256
    triangles_few : q ≤ 256

  module _ (h : Head) (long : 7190 ≤ length s) where
    same_step : (at : ℕ) (ps : List Float) (ts : List ℕ) (p q : ℕ) → Stands at ps ts p q → step_at (s ++ t) at (taken_so_far ps ts) ≡ step_at s at (taken_so_far ps ts)
    same_step at ps ts p q w = step_long at (taken_so_far ps ts) (omega (arith, w.place, w.points_few, w.triangles_few))

    reads_long : {at : ℕ} {ps : List Float} {ts : List ℕ} {o : Outcome Stream} (p q : ℕ) → Stands at ps ts p q → Reads s h at ps ts o → Reads (s ++ t) h at ps ts o
    reads_long {at} {ps} {ts} p q w (Reads.faulty e) = Reads.faulty (same_step at ps ts p q w ∙ e)
    reads_long {at} {ps} {ts} p q w (Reads.end e) = Reads.end (same_step at ps ts p q w ∙ e)
    reads_long {at} {ps} {ts} p q w (Reads.point {p = x} e r) =
        let few : length ps / 3 < 256 = (point_taken s at (taken_so_far ps ts) x (sym e)).0 in
        let v : Stands (at + 14) (ps ++ coordinates_of x) ts (p + 1) q = record {
          place = omega (arith, w.place);
          points_are = omega (arith, w.points_are, length-append ps (coordinates_of x));
          triangles_are = w.triangles_are;
          points_few = omega (arith, w.points_are);
          triangles_few = w.triangles_few;
        } in
        Reads.point (same_step at ps ts p q w ∙ e) (reads_long (p + 1) q v r)
    reads_long {at} {ps} {ts} p q w (Reads.triangle {t = x} e r) =
        let few : length ts / 3 < 256 = (triangle_taken s at (taken_so_far ps ts) x (sym e)).0 in
        let v : Stands (at + 14) ps (ts ++ corners_of x) p (q + 1) = record {
          place = omega (arith, w.place);
          points_are = w.points_are;
          triangles_are = omega (arith, w.triangles_are, length-append ts (corners_of x));
          points_few = w.points_few;
          triangles_few = omega (arith, w.triangles_are);
        } in
        Reads.triangle (same_step at ps ts p q w ∙ e) (reads_long p (q + 1) v r)

  pub read_long : 7190 ≤ length s → (o : Outcome Stream) → Read s o → Read (s ++ t) o
  read_long long o (Read.no_head e) = Read.no_head (start_long (omega arith) ∙ e)
  read_long long o (Read.headed {h = h} e r) =
      Read.headed (start_long (omega arith) ∙ e)
      (reads_long h long 0 0 (record { place = refl; points_are = refl; triangles_are = refl; points_few = omega arith; triangles_few = omega arith }) r)
