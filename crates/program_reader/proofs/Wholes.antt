-- The reader takes exactly the inputs that are a head, at most 256 points, at most 256 triangles and an end, with the numbers that stand in them (`read_whole`). Assumes nothing.
use Rattle.std.specs.Prelude.{Option, Some, None, Err}
use Rattle.program_reader.specs.declared.SizingWay.{SizingWay}
use Rattle.fill.specs.declared.Mode.{Mode}
use Rattle.grid.specs.declared.Reason.TheVariants.{BadCount, BadRecord}
use Rattle.std.specs.Prelude.{Ok}
use mathlib.Core.Bool.{Bool, true, false, cond}
use mathlib.Core.List.{List, [], ◌∷◌, ◌++◌, append-nil, append_assoc}
use mathlib.Core.Logic.{◌↔◌}
use mathlib.Core.Path.{◌≡◌, refl, sym, ap, ◌∙◌, subst}
use Prim.Native.Nat.{ℕ, zero, suc, ◌+◌, ◌-◌, ◌*◌, ◌/◌, ◌≤◌, ◌<◌}
use native.Mathlib.Omega.{arith}
use lib.Dec.{eqb, leb, ltb}
use lib.Ieee.{Float, binary32, of_bits}
use lib.ListN.{length, get_or, take, drop, length-append, length-drop, take-append-drop, get_or-append}
use lib.Seq.{drop-cons, drop-length, drop-drop, get_or-take, get_or-drop, length-take-le, take-append_seam, drop-append_seam}
use borrow.Author.Tests.{eqb-true, le-ltb, lt-leb, ltb-false, leb-false}
use Rattle.grid.specs.Answers.{Outcome}
use Rattle.sizing.specs.declared.Point.{Point}
use Rattle.order.specs.Order.{join_all}
use Rattle.program_words.specs.Words.{word_at}
use Rattle.program_reader.specs.declared.Head.{Head}
use Rattle.program_reader.specs.declared.Corners.{Corners}
use Rattle.program_reader.specs.declared.Taken.{Taken}
use Rattle.program_reader.specs.declared.Kind.{Kind}
use Rattle.program_reader.specs.declared.InputRecord.{InputRecord}
use Rattle.program_reader.specs.Records.{bytes_at, sizing_way_of, mode_of, head_with, head_by, start_by, start_with, start_at, letter_of, mark_of_bytes, mark_at, refused, whole, point_from, corners_from, step_by, step_at}
use Rattle.program_reader.specs.Reading.{Stream, taken_so_far, coordinates_of, corners_of, Reads, Read}
use Rattle.program_reader.specs.Whole.{record_of, point_record, triangle_record, records_after_head, floats_in, words_in, Twelve, Complete}
use Rattle.program_reader.proofs.Laws.{there}
use Rattle.program_reader.proofs.Readings.{from_whole, from_cond}

-- ---- marks

-- the letter of each kind
abbrev letter : Kind → ℕ
letter Kind.Head = 104
letter Kind.Point = 112
letter Kind.Triangle = 116
letter Kind.End = 122

mark_is : (a b : ℕ) (k : Kind) → Some k ≡ mark_of_bytes a b → (a ≡ 86) × (b ≡ letter k)
mark_is a b k h = first (eqb a 86) refl h
  where
    kind : (j : Kind) → b ≡ letter j → Some k ≡ Some j → b ≡ letter k
    kind j e g = let z : k ≡ j = cc in e ∙ ap letter (sym z)

    fourth : (t : Bool) → eqb b 122 ≡ t → Some k ≡ cond t (Some Kind.End) None → b ≡ letter k
    fourth true e g = kind Kind.End (eqb-true b 122 e) g
    fourth false e g = absurd (let z : ◌≡◌ {A = ℕ} 0 1 = cc in omega arith)

    third : (t : Bool) → eqb b 116 ≡ t → Some k ≡ cond t (Some Kind.Triangle) (cond (eqb b 122) (Some Kind.End) None) → b ≡ letter k
    third true e g = kind Kind.Triangle (eqb-true b 116 e) g
    third false e g = fourth (eqb b 122) refl g

    second : (t : Bool) → eqb b 112 ≡ t
        → Some k ≡ cond t (Some Kind.Point) (cond (eqb b 116) (Some Kind.Triangle) (cond (eqb b 122) (Some Kind.End) None)) → b ≡ letter k
    second true e g = kind Kind.Point (eqb-true b 112 e) g
    second false e g = third (eqb b 116) refl g

    one : (t : Bool) → eqb b 104 ≡ t
        → Some k ≡ cond t (Some Kind.Head) (cond (eqb b 112) (Some Kind.Point) (cond (eqb b 116) (Some Kind.Triangle) (cond (eqb b 122) (Some Kind.End) None)))
        → b ≡ letter k
    one true e g = kind Kind.Head (eqb-true b 104 e) g
    one false e g = second (eqb b 112) refl g

    first : (t : Bool) → eqb a 86 ≡ t → Some k ≡ cond t (letter_of b) None → (a ≡ 86) × (b ≡ letter k)
    first true e g = (eqb-true a 86 e, one (eqb b 104) refl g)
    first false e g = absurd (let z : ◌≡◌ {A = ℕ} 0 1 = cc in omega arith)

-- ---- a record among the bytes

-- the first two bytes from a place on
two_on : (s : List ℕ) (at : ℕ) → at + 2 ≤ length s → drop at s ≡ get_or s at 0 ∷ get_or s (at + 1) 0 ∷ drop (at + 2) s
two_on s at h =
    drop-cons s at 0 (omega arith)
    ∙ ap (λ (n : ℕ). get_or s at 0 ∷ drop n s) (let e : suc at ≡ at + 1 = omega arith in e)
    ∙ ap (λ (xs : List ℕ). get_or s at 0 ∷ xs) (drop-cons s (at + 1) 0 (omega arith) ∙ ap (λ (n : ℕ). get_or s (at + 1) 0 ∷ drop n s) (let e : suc (at + 1) ≡ at + 2 = omega arith in e))

marks_in : (s : List ℕ) (at a b : ℕ) (rest : List ℕ) → drop at s ≡ a ∷ b ∷ rest → (get_or s at 0 ≡ a) × (get_or s (at + 1) 0 ≡ b)
marks_in s at a b rest e = (
  ap (λ (n : ℕ). get_or s n 0) (let z : at ≡ at + 0 = omega arith in z) ∙ sym (get_or-drop at s 0 0) ∙ ap (λ (xs : List ℕ). get_or xs 0 0) e,
  sym (get_or-drop at s 1 0) ∙ ap (λ (xs : List ℕ). get_or xs 1 0) e,
)

module _ (s : List ℕ) (at : ℕ) where
  -- the twelve bytes after a mark
  abbrev body : List ℕ
  body = take 12 (drop (at + 2) s)

  byte_in : (k : ℕ) → k < 12 → get_or body k 0 ≡ get_or s (at + 2 + k) 0
  byte_in k h = get_or-take 12 (drop (at + 2) s) k 0 h ∙ get_or-drop (at + 2) s k 0

  word_in : (k m : ℕ) → k + 4 ≤ 12 → m ≡ at + 2 + k → word_at body k ≡ word_at s m
  unfolding word_at
  word_in k m h e =
      (λ i. byte_in k (omega arith) i + 256 * byte_in (k + 1) (omega arith) i + 65536 * byte_in (k + 2) (omega arith) i + 16777216 * byte_in (k + 3) (omega arith) i)
      ∙ (λ i. get_or s (p0 i) 0 + 256 * get_or s (p1 i) 0 + 65536 * get_or s (p2 i) 0 + 16777216 * get_or s (p3 i) 0)
    where
      p0 : at + 2 + k ≡ m
      p0 = sym e

      p1 : at + 2 + (k + 1) ≡ m + 1
      p1 = omega (arith, e)

      p2 : at + 2 + (k + 2) ≡ m + 2
      p2 = omega (arith, e)

      p3 : at + 2 + (k + 3) ≡ m + 3
      p3 = omega (arith, e)

  point_in : coordinates_of (point_from s (at + 2)) ≡ floats_in body
  point_in = sym (λ i.
      of_bits binary32 (word_in 0 (at + 2) (omega arith) (omega arith) i)
      ∷ of_bits binary32 (word_in 4 (at + 2 + 4) (omega arith) (omega arith) i)
      ∷ of_bits binary32 (word_in 8 (at + 2 + 8) (omega arith) (omega arith) i) ∷ [])

  corners_in : corners_of (corners_from s (at + 2)) ≡ words_in body
  corners_in = sym (λ i.
      word_in 0 (at + 2) (omega arith) (omega arith) i
      ∷ word_in 4 (at + 2 + 4) (omega arith) (omega arith) i
      ∷ word_in 8 (at + 2 + 8) (omega arith) (omega arith) i ∷ [])

  -- a mark, twelve bytes, and the rest
  front : (k : ℕ) → at + 14 ≤ length s → get_or s at 0 ≡ 86 → get_or s (at + 1) 0 ≡ k → drop at s ≡ record_of k body ++ drop (at + 14) s
  front k h a b = two_on s at (omega arith) ∙ (λ i. a i ∷ b i ∷ rest i)
    where
      rest : drop (at + 2) s ≡ body ++ drop (at + 14) s
      rest =
          sym (take-append-drop 12 (drop (at + 2) s))
          ∙ ap (λ (xs : List ℕ). body ++ xs) (drop-drop 12 (at + 2) s ∙ ap (λ (n : ℕ). drop n s) (let e : at + 2 + 12 ≡ at + 14 = omega arith in e))

  body_long : at + 14 ≤ length s → length body ≡ 12
  body_long h = length-take-le 12 (drop (at + 2) s) (omega (arith, length-drop (at + 2) s))

-- and the reverse: what stands at the front
record Fronts (s : List ℕ) (at k : ℕ) (b rest : List ℕ) : Type 0 where
  held : at + 14 ≤ length s
  first : get_or s at 0 ≡ 86
  second : get_or s (at + 1) 0 ≡ k
  body_is : body s at ≡ b
  rest_is : drop (at + 14) s ≡ rest

fronts : (s : List ℕ) (at k : ℕ) (b rest : List ℕ) → at ≤ length s → length b ≡ 12 → drop at s ≡ record_of k b ++ rest → Fronts s at k b rest
fronts s at k b rest h l e = record {
  held = omega (arith, length-drop at s, ap length e, length-append b rest, l);
  first = (marks_in s at 86 k (b ++ rest) e).0;
  second = (marks_in s at 86 k (b ++ rest) e).1;
  body_is = ap (take 12) after ∙ subst (λ (n : ℕ). take n (b ++ rest) ≡ b) l (take-append_seam b rest);
  rest_is =
      ap (λ (n : ℕ). drop n s) (let z : at + 14 ≡ at + 2 + 12 = omega arith in z) ∙ sym (drop-drop 12 (at + 2) s) ∙ ap (drop 12) after
      ∙ subst (λ (n : ℕ). drop n (b ++ rest) ≡ rest) l (drop-append_seam b rest);
}
  where
    after : drop (at + 2) s ≡ b ++ rest
    after = sym (drop-drop 2 at s) ∙ ap (drop 2) e

-- ---- what each step takes, and from what

module _ (s : List ℕ) (at : ℕ) (n : Taken) where
  marked : (k : Kind) → at + 2 ≤ length s → get_or s at 0 ≡ 86 → get_or s (at + 1) 0 ≡ letter k → (x : Outcome InputRecord) → step_by (mark_of_bytes 86 (letter k)) s at n ≡ x → step_at s at n ≡ x
  marked k h a b x e =
      (λ i. whole (held i) at (step_by (mark_of_bytes (a i) (b i)) s at n)) ∙ e
    where
      held : bytes_at s at 2 ≡ true
      held = ap (λ (t : Bool). cond t false true) (le-ltb (length s - at) 2 (omega arith))

  all_there : at + 14 ≤ length s → bytes_at s at 14 ≡ true
  all_there h = ap (λ (t : Bool). cond t false true) (le-ltb (length s - at) 14 (omega arith))

  takes_point : at + 14 ≤ length s → get_or s at 0 ≡ 86 → get_or s (at + 1) 0 ≡ 112 → n.points < 256 → n.triangles ≡ 0
      → step_at s at n ≡ Ok (InputRecord.Point (point_from s (at + 2)))
  takes_point h a b p q = marked Kind.Point (omega arith) a b _ (λ i. cond (lt-leb 256 n.points p i) (refused BadCount 0) (cond (le-ltb 0 n.triangles (omega (arith, q)) i) (refused BadRecord at) (whole (all_there h i) at (Ok (InputRecord.Point (point_from s (at + 2)))))))

  takes_triangle : at + 14 ≤ length s → get_or s at 0 ≡ 86 → get_or s (at + 1) 0 ≡ 116 → n.triangles < 256 → step_at s at n ≡ Ok (InputRecord.Triangle (corners_from s (at + 2)))
  takes_triangle h a b q = marked Kind.Triangle (omega arith) a b _ (λ i. cond (lt-leb 256 n.triangles q i) (refused BadCount 0) (whole (all_there h i) at (Ok (InputRecord.Triangle (corners_from s (at + 2))))))

  takes_end : length s ≡ at + 2 → get_or s at 0 ≡ 86 → get_or s (at + 1) 0 ≡ 122 → step_at s at n ≡ Ok InputRecord.End
  takes_end h a b = marked Kind.End (omega (arith, h)) a b _ (ap (λ (t : Bool). cond t (refused BadRecord (at + 2)) (Ok InputRecord.End)) (le-ltb 2 (length s - at) (omega (arith, h))))

  -- a record that was taken: its mark, and what else was asked
  abbrev Asked : InputRecord → Type 0
  Asked (InputRecord.Point p) =
      (get_or s at 0 ≡ 86) × (get_or s (at + 1) 0 ≡ 112) × (at + 14 ≤ length s) × (n.points < 256) × (n.triangles ≡ 0) × (p ≡ point_from s (at + 2))
  Asked (InputRecord.Triangle t) = (get_or s at 0 ≡ 86) × (get_or s (at + 1) 0 ≡ 116) × (at + 14 ≤ length s) × (n.triangles < 256) × (t ≡ corners_from s (at + 2))
  Asked InputRecord.End = (get_or s at 0 ≡ 86) × (get_or s (at + 1) 0 ≡ 122) × (length s ≡ at + 2)

  asked : at ≤ length s → (r : InputRecord) → step_at s at n ≡ Ok r → Asked r
  asked l r e = go (mark_at s at) refl w.1
    where
      w : (true ≡ bytes_at s at 2) × (Ok r ≡ step_by (mark_at s at) s at n)
      w = from_whole (bytes_at s at 2) at (step_by (mark_at s at) s at n) r (sym e)

      here : 2 ≤ length s - at
      here = there s at 2 w.0

      go : (m : Option Kind) → m ≡ mark_at s at → Ok r ≡ step_by m s at n → Asked r
      go (Some Kind.Head) g k = absurd (let z : ◌≡◌ {A = ℕ} 0 1 = cc in omega arith)
      go (Some Kind.Point) g k =
          let a = from_cond (leb 256 n.points) _ _ r k in
          let b = from_cond (ltb 0 n.triangles) _ _ r a.1 in
          let d = from_whole (bytes_at s at 14) at (Ok (InputRecord.Point (point_from s (at + 2)))) r b.1 in
          let v = mark_is (get_or s at 0) (get_or s (at + 1) 0) Kind.Point g in
          let z : r ≡ InputRecord.Point (point_from s (at + 2)) = cc in
          subst Asked (sym z) (v.0, v.1, omega (arith, there s at 14 d.0), leb-false 256 n.points a.0, omega (arith, ltb-false 0 n.triangles b.0), refl)
      go (Some Kind.Triangle) g k =
          let a = from_cond (leb 256 n.triangles) _ _ r k in
          let d = from_whole (bytes_at s at 14) at (Ok (InputRecord.Triangle (corners_from s (at + 2)))) r a.1 in
          let v = mark_is (get_or s at 0) (get_or s (at + 1) 0) Kind.Triangle g in
          let z : r ≡ InputRecord.Triangle (corners_from s (at + 2)) = cc in
          subst Asked (sym z) (v.0, v.1, omega (arith, there s at 14 d.0), leb-false 256 n.triangles a.0, refl)
      go (Some Kind.End) g k =
          let a = from_cond (ltb 2 (length s - at)) _ _ r k in
          let v = mark_is (get_or s at 0) (get_or s (at + 1) 0) Kind.End g in
          let z : r ≡ InputRecord.End = cc in
          subst Asked (sym z) (v.0, v.1, omega (arith, here, ltb-false 2 (length s - at) a.0))
      go None g k = absurd (let z : ◌≡◌ {A = ℕ} 0 1 = cc in omega arith)

-- ---- the records after the head

-- p points and q triangles were taken up to here
record TakenTo (s : List ℕ) (at : ℕ) (ps : List Float) (ts : List ℕ) (p q : ℕ) : Type 0 where
  inside : at ≤ length s
  points_taken : length ps ≡ 3 * p
  triangles_taken : length ts ≡ 3 * q

-- the bytes from here on are records, of which the stream has the numbers after those
record Rests (s : List ℕ) (at : ℕ) (ps : List Float) (ts : List ℕ) (p q : ℕ) (points : List Float) (triangles : List ℕ) : Type 0 where
  point_bodies : List (List ℕ)
  triangle_bodies : List (List ℕ)
  bytes : drop at s ≡ records_after_head point_bodies triangle_bodies
  points_long : Twelve point_bodies
  triangles_long : Twelve triangle_bodies
  points_few : p + length point_bodies ≤ 256
  triangles_few : q + length triangle_bodies ≤ 256
  points_are : points ≡ ps ++ join_all floats_in point_bodies
  triangles_are : triangles ≡ ts ++ join_all words_in triangle_bodies
  in_order : 0 < q → point_bodies ≡ []

-- the numbers of an answered stream
abbrev points_of_record : Outcome Stream → List Float
points_of_record (Ok s) = s.points
points_of_record (Err f) = []

abbrev head_in : Head → Outcome Stream → Head
head_in h (Ok s) = s.head
head_in h (Err f) = h

abbrev triangles_of_record : Outcome Stream → List ℕ
triangles_of_record (Ok s) = s.triangles
triangles_of_record (Err f) = []

module _ (s : List ℕ) (h : Head) where
  abbrev streamed : List Float → List ℕ → Outcome Stream
  streamed ps ts = Ok (record { head = h; points = ps; triangles = ts })

  -- one more of each kind in front
  more_points : (b : List ℕ) (ps ts : List (List ℕ)) → point_record b ++ records_after_head ps ts ≡ records_after_head (b ∷ ps) ts
  unfolding join_all
  more_points b ps ts = sym (append_assoc (point_record b) (join_all point_record ps) (join_all triangle_record ts ++ record_of 122 []))

  more_triangles : (b : List ℕ) (ts : List (List ℕ)) → triangle_record b ++ records_after_head [] ts ≡ records_after_head [] (b ∷ ts)
  unfolding join_all
  more_triangles b ts = sym (append_assoc (triangle_record b) (join_all triangle_record ts) (record_of 122 []))

  more_floats : (b : List ℕ) (xs ps : List Float) (bs : List (List ℕ)) → xs ≡ floats_in b → (ps ++ xs) ++ join_all floats_in bs ≡ ps ++ join_all floats_in (b ∷ bs)
  unfolding join_all
  more_floats b xs ps bs e = append_assoc ps xs (join_all floats_in bs) ∙ ap (λ (ys : List Float). ps ++ (ys ++ join_all floats_in bs)) e

  more_words : (b xs ts : List ℕ) (bs : List (List ℕ)) → xs ≡ words_in b → (ts ++ xs) ++ join_all words_in bs ≡ ts ++ join_all words_in (b ∷ bs)
  unfolding join_all
  more_words b xs ts bs e = append_assoc ts xs (join_all words_in bs) ∙ ap (λ (ys : List ℕ). ts ++ (ys ++ join_all words_in bs)) e

  no_more : {A : Type 0} (f : List ℕ → List A) (xs : List A) → xs ≡ xs ++ join_all f []
  unfolding join_all
  no_more f xs = sym (append-nil xs)

  one_point : (at : ℕ) (ps : List Float) (ts : List ℕ) (p q : ℕ) (x : Point) → TakenTo s at ps ts p q → at + 14 ≤ length s → TakenTo s (at + 14) (ps ++ coordinates_of x) ts (p + 1) q
  one_point at ps ts p q x w l = record { inside = l; points_taken = omega (arith, w.points_taken, length-append ps (coordinates_of x)); triangles_taken = w.triangles_taken }

  one_triangle : (at : ℕ) (ps : List Float) (ts : List ℕ) (p q : ℕ) (x : Corners) → TakenTo s at ps ts p q → at + 14 ≤ length s → TakenTo s (at + 14) ps (ts ++ corners_of x) p (q + 1)
  one_triangle at ps ts p q x w l = record { inside = l; points_taken = w.points_taken; triangles_taken = omega (arith, w.triangles_taken, length-append ts (corners_of x)) }

  end_bytes : (at : ℕ) → length s ≡ at + 2 → get_or s at 0 ≡ 86 → get_or s (at + 1) 0 ≡ 122 → drop at s ≡ records_after_head [] []
  unfolding join_all
  end_bytes at l a b = two_on s at (omega (arith, l)) ∙ (λ i. a i ∷ b i ∷ none i)
    where
      none : drop (at + 2) s ≡ []
      none = ap (λ (n : ℕ). drop n s) (sym l) ∙ drop-length s

  -- a reading that ends in an answer goes over such records
  reads_rest : {at : ℕ} {ps : List Float} {ts : List ℕ} {o : Outcome Stream} (p q : ℕ) (st : Stream) → TakenTo s at ps ts p q → p ≤ 256 → q ≤ 256
      → Reads s h at ps ts o → o ≡ Ok st → Rests s at ps ts p q st.points st.triangles
  reads_rest p q st w l m (Reads.faulty e) k = absurd (let z : ◌≡◌ {A = ℕ} 0 1 = cc in omega arith)
  reads_rest {at} {ps} {ts} p q st w l m (Reads.end e) k =
      let a = asked s at (taken_so_far ps ts) w.inside InputRecord.End e in
      record {
        point_bodies = [];
        triangle_bodies = [];
        bytes = end_bytes at a.2 a.0 a.1;
        points_long = tt;
        triangles_long = tt;
        points_few = omega arith;
        triangles_few = omega arith;
        points_are = sym (ap points_of_record k) ∙ no_more floats_in ps;
        triangles_are = sym (ap triangles_of_record k) ∙ no_more words_in ts;
        in_order = λ z. refl;
      }
  reads_rest {at} {ps} {ts} p q st w l m (Reads.point {p = x} e r) k =
      let a = asked s at (taken_so_far ps ts) w.inside (InputRecord.Point x) e in
      let few : length ps / 3 < 256 = a.3 in
      let none : length ts / 3 ≡ 0 = a.4 in
      let v = reads_rest (p + 1) q st (one_point at ps ts p q x w a.2) (omega (arith, w.points_taken)) m r k in
      record {
        point_bodies = body s at ∷ v.point_bodies;
        triangle_bodies = v.triangle_bodies;
        bytes = front s at 112 a.2 a.0 a.1 ∙ ap (λ (xs : List ℕ). point_record (body s at) ++ xs) v.bytes ∙ more_points (body s at) v.point_bodies v.triangle_bodies;
        points_long = (body_long s at a.2, v.points_long);
        triangles_long = v.triangles_long;
        points_few = omega (arith, v.points_few);
        triangles_few = v.triangles_few;
        points_are = v.points_are ∙ more_floats (body s at) (coordinates_of x) ps v.point_bodies (ap coordinates_of a.5 ∙ point_in s at);
        triangles_are = v.triangles_are;
        in_order = λ z. absurd (let n : 3 * q ≡ 0 = omega (arith, w.triangles_taken) in omega arith);
      }
  reads_rest {at} {ps} {ts} p q st w l m (Reads.triangle {t = x} e r) k =
      let a = asked s at (taken_so_far ps ts) w.inside (InputRecord.Triangle x) e in
      let few : length ts / 3 < 256 = a.3 in
      let v = reads_rest p (q + 1) st (one_triangle at ps ts p q x w a.2) l (omega (arith, w.triangles_taken)) r k in
      let none : v.point_bodies ≡ [] = v.in_order (omega arith) in
      record {
        point_bodies = [];
        triangle_bodies = body s at ∷ v.triangle_bodies;
        bytes =
            front s at 116 a.2 a.0 a.1
            ∙ ap (λ (xs : List ℕ). triangle_record (body s at) ++ xs) (v.bytes ∙ ap (λ (bs : List (List ℕ)). records_after_head bs v.triangle_bodies) none)
            ∙ more_triangles (body s at) v.triangle_bodies;
        points_long = tt;
        triangles_long = (body_long s at a.2, v.triangles_long);
        points_few = omega arith;
        triangles_few = omega (arith, v.triangles_few);
        points_are = v.points_are ∙ ap (λ (bs : List (List ℕ)). ps ++ join_all floats_in bs) none;
        triangles_are = v.triangles_are ∙ more_words (body s at) (corners_of x) ts v.triangle_bodies (ap corners_of a.4 ∙ corners_in s at);
        in_order = λ z. refl;
      }

  reads_head : {at : ℕ} {ps : List Float} {ts : List ℕ} {o : Outcome Stream} (st : Stream) → Reads s h at ps ts o → o ≡ Ok st → st.head ≡ h
  reads_head st (Reads.faulty e) k = absurd (let z : ◌≡◌ {A = ℕ} 0 1 = cc in omega arith)
  reads_head st (Reads.point e r) k = reads_head st r k
  reads_head st (Reads.triangle e r) k = reads_head st r k
  reads_head st (Reads.end e) k = sym (ap (head_in h) k)

  -- and such records are read
  rest_reads : (at : ℕ) (ps : List Float) (ts : List ℕ) (p q : ℕ) (bs cs : List (List ℕ)) → TakenTo s at ps ts p q → Twelve bs → Twelve cs → p + length bs ≤ 256 → q + length cs ≤ 256
      → (0 < q → bs ≡ []) → drop at s ≡ records_after_head bs cs → Reads s h at ps ts (streamed (ps ++ join_all floats_in bs) (ts ++ join_all words_in cs))
  unfolding join_all
  rest_reads at ps ts p q [] [] w l m f g o e =
      let n : length s ≡ at + 2 = omega (arith, w.inside, length-drop at s, ap length e) in
      let v = marks_in s at 86 122 [] e in
      subst (λ (x : Outcome Stream). Reads s h at ps ts x) (λ i. streamed (no_more floats_in ps i) (no_more words_in ts i)) (Reads.end (takes_end s at (taken_so_far ps ts) n v.0 v.1))
  rest_reads at ps ts p q [] (c ∷ cs) w l m f g o e =
      let v = fronts s at 116 c (records_after_head [] cs) w.inside m.0 (e ∙ sym (more_triangles c cs)) in
      let n : length ts / 3 < 256 = omega (arith, w.triangles_taken) in
      let k = takes_triangle s at (taken_so_far ps ts) v.held v.first v.second n in
      let x = corners_from s (at + 2) in
      let r =
      rest_reads (at + 14) ps (ts ++ corners_of x) p (q + 1) [] cs (one_triangle at ps ts p q x w v.held) tt m.1 f (omega (arith, g)) (λ z. refl) v.rest_is in
      Reads.triangle k
      (subst (λ (y : List ℕ). Reads s h (at + 14) ps (ts ++ corners_of x) (streamed (ps ++ join_all floats_in []) y)) (more_words c (corners_of x) ts cs (corners_in s at ∙ ap words_in v.body_is)) r)
  rest_reads at ps ts p q (b ∷ bs) cs w l m f g o e =
      let v = fronts s at 112 b (records_after_head bs cs) w.inside l.0 (e ∙ sym (more_points b bs cs)) in
      let none : q ≡ 0 = first_triangle q (λ z. no_cons (o z)) in
      let n : length ps / 3 < 256 = omega (arith, w.points_taken) in
      let d : length ts / 3 ≡ 0 = omega (arith, w.triangles_taken, none) in
      let k = takes_point s at (taken_so_far ps ts) v.held v.first v.second n d in
      let x = point_from s (at + 2) in
      let r =
      rest_reads (at + 14) (ps ++ coordinates_of x) ts (p + 1) q bs cs (one_point at ps ts p q x w v.held) l.1 m (omega (arith, f)) g (λ z. absurd (no_cons (o z))) v.rest_is in
      Reads.point k
      (subst (λ (y : List Float). Reads s h (at + 14) (ps ++ coordinates_of x) ts (streamed y (ts ++ join_all words_in cs))) (more_floats b (coordinates_of x) ps bs (point_in s at ∙ ap floats_in v.body_is)) r)
    where
      no_cons : {A : Type 0} {x : A} {xs : List A} → (x ∷ xs) ≡ [] → ⊥
      no_cons z = let n : ◌≡◌ {A = ℕ} 1 0 = cc in omega arith

      first_triangle : (n : ℕ) → (0 < n → ⊥) → n ≡ 0
      first_triangle zero z = refl
      first_triangle (suc n) z = absurd (z (omega arith))

-- ---- the head

-- what a head that was taken shows
record Heads (s : List ℕ) (h : Head) : Type 0 where
  held : 8 ≤ length s
  first : get_or s 0 0 ≡ 86
  second : get_or s 1 0 ≡ 104
  way_is : sizing_way_of (get_or s 2 0) (word_at s 4) ≡ Some h.way
  mode_is : mode_of (get_or s 3 0) ≡ Some h.mode

heads : (s : List ℕ) (h : Head) → start_at s ≡ Ok h → Heads s h
heads s h e = first_bytes (bytes_at s 0 2) e
  where
    fields : (w : Option SizingWay) (m : Option Mode) → head_with w m ≡ Ok h → (w ≡ Some h.way) × (m ≡ Some h.mode)
    fields (Some w) (Some m) k = let z : w ≡ h.way = cc in let y : m ≡ h.mode = cc in (ap Some z, ap Some y)
    fields (Some w) None k = absurd (let z : ◌≡◌ {A = ℕ} 0 1 = cc in omega arith)
    fields None m k = absurd (let z : ◌≡◌ {A = ℕ} 0 1 = cc in omega arith)

    by_head : (b : Bool) → b ≡ bytes_at s 0 8 → Some Kind.Head ≡ mark_at s 0 → head_by b s ≡ Ok h → Heads s h
    by_head true g m k =
        let v = mark_is (get_or s 0 0) (get_or s 1 0) Kind.Head m in
        let f = fields (sizing_way_of (get_or s 2 0) (word_at s 4)) (mode_of (get_or s 3 0)) k in
        record { held = omega (arith, there s 0 8 g); first = v.0; second = v.1; way_is = f.0; mode_is = f.1 }
    by_head false g m k = absurd (let z : ◌≡◌ {A = ℕ} 0 1 = cc in omega arith)

    by_mark : (m : Option Kind) → m ≡ mark_at s 0 → start_by m s ≡ Ok h → Heads s h
    by_mark (Some Kind.Head) g k = by_head (bytes_at s 0 8) refl g k
    by_mark (Some Kind.Point) g k = absurd (let z : ◌≡◌ {A = ℕ} 0 1 = cc in omega arith)
    by_mark (Some Kind.Triangle) g k = absurd (let z : ◌≡◌ {A = ℕ} 0 1 = cc in omega arith)
    by_mark (Some Kind.End) g k = absurd (let z : ◌≡◌ {A = ℕ} 0 1 = cc in omega arith)
    by_mark None g k = absurd (let z : ◌≡◌ {A = ℕ} 0 1 = cc in omega arith)

    first_bytes : (b : Bool) → start_with b s ≡ Ok h → Heads s h
    first_bytes true k = by_mark (mark_at s 0) refl k
    first_bytes false k = absurd (let z : ◌≡◌ {A = ℕ} 0 1 = cc in omega arith)

-- and a head that stands there is taken
headed : (s : List ℕ) (h : Head) → Heads s h → start_at s ≡ Ok h
headed s h w =
    (λ i. start_with (all 2 (omega (arith, w.held)) i) s)
    ∙ (λ i. start_by (mark_of_bytes (w.first i) (w.second i)) s)
    ∙ (λ i. head_by (all 8 w.held i) s)
    ∙ (λ i. head_with (w.way_is i) (w.mode_is i))
  where
    all : (n : ℕ) → n ≤ length s → bytes_at s 0 n ≡ true
    all n l = ap (λ (t : Bool). cond t false true) (le-ltb (length s - 0) n (omega arith))

-- the four bytes of the head's number
abbrev four_of : List ℕ → List ℕ
four_of s = take 4 (drop 4 s)

head_bytes : (s : List ℕ) (h : Head) → Heads s h → s ≡ record_of 104 (get_or s 2 0 ∷ get_or s 3 0 ∷ four_of s) ++ drop 8 s
head_bytes s h w =
    drop-cons s 0 0 (omega (arith, w.held))
    ∙ (λ i. w.first i ∷ drop-cons s 1 0 (omega (arith, w.held)) i)
    ∙ (λ i. 86 ∷ w.second i ∷ drop-cons s 2 0 (omega (arith, w.held)) i)
    ∙ (λ i. 86 ∷ 104 ∷ get_or s 2 0 ∷ drop-cons s 3 0 (omega (arith, w.held)) i)
    ∙ (λ i. 86 ∷ 104 ∷ get_or s 2 0 ∷ get_or s 3 0 ∷ rest i)
  where
    rest : drop 4 s ≡ four_of s ++ drop 8 s
    rest = sym (take-append-drop 4 (drop 4 s)) ∙ ap (λ (xs : List ℕ). four_of s ++ xs) (drop-drop 4 4 s)

four_word : (s : List ℕ) → word_at (four_of s) 0 ≡ word_at s 4
unfolding word_at
four_word s i = at 0 (omega arith) i + 256 * at 1 (omega arith) i + 65536 * at 2 (omega arith) i + 16777216 * at 3 (omega arith) i
  where
    at : (k : ℕ) → k < 4 → get_or (four_of s) k 0 ≡ get_or s (4 + k) 0
    at k h = get_or-take 4 (drop 4 s) k 0 h ∙ get_or-drop 4 s k 0

-- ---- the whole

module _ (input : List ℕ) (s : Stream) where
  complete : (h : Head) → s.head ≡ h → Heads input h → Rests input 8 [] [] 0 0 s.points s.triangles → Complete input s
  complete h e w v = record {
    way = get_or input 2 0;
    mode = get_or input 3 0;
    four = four_of input;
    points = v.point_bodies;
    triangles = v.triangle_bodies;
    is = head_bytes input h w ∙ ap (λ (xs : List ℕ). record_of 104 (get_or input 2 0 ∷ get_or input 3 0 ∷ four_of input) ++ xs) v.bytes;
    four_long = length-take-le 4 (drop 4 input) (omega (arith, w.held, length-drop 4 input));
    points_long = v.points_long;
    triangles_long = v.triangles_long;
    points_few = omega (arith, v.points_few);
    triangles_few = omega (arith, v.triangles_few);
    way_is = ap (sizing_way_of (get_or input 2 0)) (four_word input) ∙ w.way_is ∙ ap (λ (x : Head). Some x.way) (sym e);
    mode_is = w.mode_is ∙ ap (λ (x : Head). Some x.mode) (sym e);
    points_are = v.points_are;
    triangles_are = v.triangles_are;
  }

  from : (o : Outcome Stream) → Read input o → o ≡ Ok s → Complete input s
  from o (Read.no_head e) k = absurd (let z : ◌≡◌ {A = ℕ} 0 1 = cc in omega arith)
  from o (Read.headed {h = h} e r) k =
      let w = heads input h e in
      complete h (reads_head input h s r k) w
      (reads_rest input h 0 0 s (record { inside = w.held; points_taken = refl; triangles_taken = refl }) (omega arith) (omega arith) r k)

  module _ (c : Complete input s) where
    abbrev rest : List ℕ
    rest = records_after_head c.points c.triangles

    at : (k : ℕ) → k < 4 → get_or input (4 + k) 0 ≡ get_or c.four k 0
    at k h = ap (λ (xs : List ℕ). get_or xs (4 + k) 0) c.is ∙ past k ∙ get_or-append c.four rest 0 k (omega (arith, c.four_long))
      where
        past : (k : ℕ) → get_or (86 ∷ 104 ∷ c.way ∷ c.mode ∷ (c.four ++ rest)) (4 + k) 0 ≡ get_or (c.four ++ rest) k 0
        past k = sym (get_or-drop 4 (86 ∷ 104 ∷ c.way ∷ c.mode ∷ (c.four ++ rest)) k 0)

    number : word_at input 4 ≡ word_at c.four 0
    unfolding word_at
    number i = at 0 (omega arith) i + 256 * at 1 (omega arith) i + 65536 * at 2 (omega arith) i + 16777216 * at 3 (omega arith) i

    head_there : Heads input s.head
    head_there = record {
      held = omega (arith, ap length c.is, length-append c.four rest, c.four_long);
      first = ap (λ (xs : List ℕ). get_or xs 0 0) c.is;
      second = ap (λ (xs : List ℕ). get_or xs 1 0) c.is;
      way_is = (λ i. sizing_way_of (get_or (c.is i) 2 0) (number i)) ∙ c.way_is;
      mode_is = ap (λ (xs : List ℕ). mode_of (get_or xs 3 0)) c.is ∙ c.mode_is;
    }

    after : drop 8 input ≡ rest
    after = ap (drop 8) c.is ∙ subst (λ (n : ℕ). drop n (c.four ++ rest) ≡ rest) c.four_long (drop-append_seam c.four rest)

    back : Read input (Ok s)
    back =
        Read.headed (headed input s.head head_there)
        (subst (λ (o : Outcome Stream). Reads input s.head 8 [] [] o)
        (sym (λ i. Ok (record { head = s.head; points = c.points_are i; triangles = c.triangles_are i })))
        (rest_reads input s.head 8 [] [] 0 0 c.points c.triangles (record { inside = head_there.held; points_taken = refl; triangles_taken = refl }) c.points_long c.triangles_long
        (omega (arith, c.points_few)) (omega (arith, c.triangles_few)) (λ z. absurd (let n : 0 < 0 = z in omega arith)) after))

-- the reader answers a stream exactly if the input is complete, and then with its numbers
pub read_whole : (input : List ℕ) (s : Stream) → Read input (Ok s) ↔ Complete input s
read_whole input s = ((λ r. from input s (Ok s) r refl), back input s)
