-- 01, Program records: marks, fields, and what each step of the reader answers. Definitions only.
use Rattle.std.specs.Prelude.{Option, Some, None, Ok}
use Rattle.std.specs.Prelude.{Bool, true, false}
use Rattle.program_reader.specs.declared.Kind.{Kind}
use Rattle.program_reader.specs.declared.Head.{Head}
use Rattle.program_reader.specs.declared.SizingWay.{SizingWay}
use Rattle.program_reader.specs.declared.InputRecord.{InputRecord}
use Rattle.fill.specs.declared.Mode.{Mode}
use Rattle.grid.specs.declared.Reason.{Reason}
use Rattle.grid.specs.Answers.{Outcome, refuses}
use Rattle.std.specs.Prelude.{cond, List, ℕ, ◌+◌, ◌-◌, eqb, ltb, leb, length, get_or}
use Rattle.std.specs.Float.{binary32}
use Rattle.std.specs.Float.Ieee.{of_bits}
use Rattle.fill.specs.declared.Mode.TheVariants.{SurfaceOnly, Flood, Cavities}
use Rattle.sizing.specs.declared.Point.{Point}
use Rattle.program_words.specs.Words.{word_at, float_at}
use Rattle.program_reader.specs.declared.SizingWay.TheVariants.{Size, Resolution}
use Rattle.program_reader.specs.declared.Corners.{Corners}
use Rattle.program_reader.specs.declared.Taken.{Taken}
use Rattle.grid.specs.declared.Reason.TheVariants.{BadCount, BadRecord, CutInput}

-- whether n bytes stand in the input s from a place on
abbrev pub bytes_at : List ℕ → ℕ → ℕ → Bool
bytes_at s at n = cond (ltb (length s - at) n) false true

-- "A two-byte mark before each record": `Vh`, `Vp`, `Vt` and `Vz`; V is 86, h 104, p 112, t 116 and z 122
abbrev pub letter_of : ℕ → Option Kind
letter_of b =
    cond (eqb b 104) (Some Kind.Head)
    (cond (eqb b 112) (Some Kind.Point)
    (cond (eqb b 116) (Some Kind.Triangle)
    (cond (eqb b 122) (Some Kind.End) None)))

abbrev pub mark_of_bytes : ℕ → ℕ → Option Kind
mark_of_bytes a b = cond (eqb a 86) (letter_of b) None

abbrev pub mark_at : List ℕ → ℕ → Option Kind
mark_at s at = mark_of_bytes (get_or s at 0) (get_or s (at + 1) 0)

-- ---- "`Vh`: a byte way (0 size, 1 resolution), a byte mode (0 surface, 1 flood, 2 cavities), four bytes of f32 or u32"

abbrev pub sizing_way_of : ℕ → ℕ → Option SizingWay
sizing_way_of way bits = cond (eqb way 0) (Some (Size (of_bits binary32 bits))) (cond (eqb way 1) (Some (Resolution bits)) None)

abbrev pub mode_of : ℕ → Option Mode
mode_of mode =
    cond (eqb mode 0) (Some SurfaceOnly) (cond (eqb mode 1) (Some Flood) (cond (eqb mode 2) (Some Cavities) None))

-- a refusal of the first record, which stands at 0
abbrev pub refused_start : Reason → Outcome Head
refused_start reason = refuses reason 0

-- "16: .. unknown way or mode"
abbrev pub head_with : Option SizingWay → Option Mode → Outcome Head
head_with (Some way) (Some mode) = Ok (record { way = way; mode = mode })
head_with (Some way) None = refused_start BadRecord
head_with None modes = refused_start BadRecord

abbrev pub head_of : ℕ → ℕ → ℕ → Outcome Head
head_of way mode bits = head_with (sizing_way_of way bits) (mode_of mode)

-- "17 .. as is a cut first head", whatever its fields say
abbrev pub head_by : Bool → List ℕ → Outcome Head
head_by false s = refused_start CutInput
head_by true s = head_of (get_or s 2 0) (get_or s 3 0) (word_at s 4)

-- "One head" comes first: "A wrong mark or order is 16 .. even if what follows is cut"
abbrev pub start_by : Option Kind → List ℕ → Outcome Head
start_by (Some Kind.Head) s = head_by (bytes_at s 0 8) s
start_by (Some Kind.Point) s = refused_start BadRecord
start_by (Some Kind.Triangle) s = refused_start BadRecord
start_by (Some Kind.End) s = refused_start BadRecord
start_by None s = refused_start BadRecord

-- "a lone last byte is 17", and so is an input without any
abbrev pub start_with : Bool → List ℕ → Outcome Head
start_with false s = refused_start CutInput
start_with true s = start_by (mark_at s 0) s

-- the first step
abbrev pub start_at : List ℕ → Outcome Head
start_at s = start_with (bytes_at s 0 2) s

-- ---- the later steps

abbrev pub refused : Reason → ℕ → Outcome InputRecord
refused reason place = refuses reason place

-- "17: program: input stops inside a record": its number where the record's bytes do not all stand there
abbrev pub whole : Bool → ℕ → Outcome InputRecord → Outcome InputRecord
whole false at step = refused CutInput at
whole true at step = step

-- "`Vp`: three f32. `Vt`: three u32."
abbrev pub point_from : List ℕ → ℕ → Point
point_from s at = record { x = float_at s at; y = float_at s (at + 4); z = float_at s (at + 8) }

abbrev pub corners_from : List ℕ → ℕ → Corners
corners_from s at = record { a = word_at s at; b = word_at s (at + 4); c = word_at s (at + 8) }

-- "At most 256 points and 256 triangles (else 1)", "a 257th mark 1, even if what follows is cut"; "points, triangles": a point after a triangle is out of order
abbrev pub point_step : List ℕ → ℕ → Taken → Outcome InputRecord
point_step s at n =
    cond (leb 256 n.points) (refused BadCount 0)
    (cond (ltb 0 n.triangles) (refused BadRecord at)
    (whole (bytes_at s at 14) at (Ok (InputRecord.Point (point_from s (at + 2))))))

abbrev pub triangle_step : List ℕ → ℕ → Taken → Outcome InputRecord
triangle_step s at n = cond (leb 256 n.triangles) (refused BadCount 0) (whole (bytes_at s at 14) at (Ok (InputRecord.Triangle (corners_from s (at + 2)))))

-- "16: .. bytes after the end"; the record at fault starts with the first of them
abbrev pub end_step : List ℕ → ℕ → Outcome InputRecord
end_step s at = cond (ltb 2 (length s - at)) (refused BadRecord (at + 2)) (Ok InputRecord.End)

-- "16: program: wrong mark, wrong order": a second head is out of order
abbrev pub step_by : Option Kind → List ℕ → ℕ → Taken → Outcome InputRecord
step_by (Some Kind.Head) s at n = refused BadRecord at
step_by (Some Kind.Point) s at n = point_step s at n
step_by (Some Kind.Triangle) s at n = triangle_step s at n
step_by (Some Kind.End) s at n = end_step s at
step_by None s at n = refused BadRecord at

-- "before `Vz`, a lone last byte is 17", and "17: .. input stops .. before the end record"
abbrev pub step_at : List ℕ → ℕ → Taken → Outcome InputRecord
step_at s at n = whole (bytes_at s at 2) at (step_by (mark_at s at) s at n)
