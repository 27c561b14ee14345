-- 01, Program records: "The reader takes the records one at a time. .. The first faulty record ends the reading". Definitions only.
use Rattle.std.specs.Prelude.{List, [], ◌∷◌, ◌++◌, ◌≡◌, ℕ, ◌+◌, ◌*◌, ◌/◌, ◌≤◌, Float, length, take, Ok, Err}
use Rattle.grid.specs.declared.Refusal.{Refusal}
use Rattle.grid.specs.Answers.{Outcome}
use Rattle.sizing.specs.declared.Point.{Point}
use Rattle.program_reader.specs.declared.Head.{Head}
use Rattle.program_reader.specs.declared.Corners.{Corners}
use Rattle.program_reader.specs.declared.Reading.{Reading}
use Rattle.program_reader.specs.declared.Taken.{Taken}
use Rattle.program_reader.specs.declared.InputRecord.TheVariants as InputRecord
use Rattle.program_reader.specs.Records.{start_at, step_at}

-- a complete input: its head, and the numbers of its points and triangles, one after the other
pub record Stream : Type 0 where
  pub head : Head
  pub points : List Float
  pub triangles : List ℕ

-- how many points and triangles there are so far
abbrev pub taken_so_far : List Float → List ℕ → Taken
taken_so_far ps ts = record { points = length ps / 3; triangles = length ts / 3 }

abbrev pub coordinates_of : Point → List Float
coordinates_of p = p.x ∷ p.y ∷ p.z ∷ []

abbrev pub corners_of : Corners → List ℕ
corners_of t = t.a ∷ t.b ∷ t.c ∷ []

-- the records after the head, from a place on, where the points ps and triangles ts were taken before: a point or a triangle is 14 bytes with its mark
pub data Reads (s : List ℕ) (h : Head) : ℕ → List Float → List ℕ → Outcome Stream → Type 0 where
  faulty : {at : ℕ} {ps : List Float} {ts : List ℕ} {f : Refusal} → step_at s at (taken_so_far ps ts) ≡ Err f → Reads s h at ps ts (Err f)
  point : {at : ℕ} {ps : List Float} {ts : List ℕ} {p : Point} {o : Outcome Stream}
      → step_at s at (taken_so_far ps ts) ≡ Ok (InputRecord.Point p) → Reads s h (at + 14) (ps ++ coordinates_of p) ts o → Reads s h at ps ts o
  triangle : {at : ℕ} {ps : List Float} {ts : List ℕ} {t : Corners} {o : Outcome Stream}
      → step_at s at (taken_so_far ps ts) ≡ Ok (InputRecord.Triangle t) → Reads s h (at + 14) ps (ts ++ corners_of t) o → Reads s h at ps ts o
  end : {at : ℕ} {ps : List Float} {ts : List ℕ} → step_at s at (taken_so_far ps ts) ≡ Ok InputRecord.End → Reads s h at ps ts (Ok (record { head = h; points = ps; triangles = ts }))

-- the whole input: the head is 8 bytes with its mark
pub data Read (s : List ℕ) : Outcome Stream → Type 0 where
  no_head : {f : Refusal} → start_at s ≡ Err f → Read s (Err f)
  headed : {h : Head} {o : Outcome Stream} → start_at s ≡ Ok h → Reads s h 8 [] [] o → Read s o

-- what a reading means, with the buffers that it leaves
abbrev pub stream_in : Outcome Reading → List Float → List ℕ → Outcome Stream
stream_in (Ok r) ps ts = Ok (record { head = r.head; points = take (3 * r.taken.points) ps; triangles = take (3 * r.taken.triangles) ts })
stream_in (Err f) ps ts = Err f

-- "At most 256 points and 256 triangles"
abbrev pub Few : Outcome Reading → Type 0
Few (Ok r) = (r.taken.points ≤ 256) × (r.taken.triangles ≤ 256)
Few (Err f) = Unit
