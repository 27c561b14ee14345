-- 01, Program records: "One head, points, triangles, end." What a complete input is, as a whole; proofs/Wholes.antt says that the reader takes exactly these. Definitions only.
use Rattle.std.specs.Prelude.{Some}
use Rattle.std.specs.Prelude.{List, [], ◌∷◌, ◌++◌, ◌≡◌, ℕ, ◌≤◌, Float, length}
use Rattle.order.specs.Order.{join_all}
use Rattle.program_words.specs.Words.{word_at, float_at}
use Rattle.program_reader.specs.Records.{sizing_way_of, mode_of}
use Rattle.program_reader.specs.Reading.{Stream}

-- "A two-byte mark before each record": V, a letter, and what follows them
abbrev pub record_of : ℕ → List ℕ → List ℕ
record_of letter body = 86 ∷ letter ∷ body

-- points `Vp`, triangles `Vt` and the end `Vz`
abbrev pub point_record : List ℕ → List ℕ
point_record body = record_of 112 body

abbrev pub triangle_record : List ℕ → List ℕ
triangle_record body = record_of 116 body

abbrev pub records_after_head : List (List ℕ) → List (List ℕ) → List ℕ
records_after_head ps ts = join_all point_record ps ++ (join_all triangle_record ts ++ record_of 122 [])

-- "three f32" and "three u32": twelve bytes
abbrev pub floats_in : List ℕ → List Float
floats_in body = float_at body 0 ∷ float_at body 4 ∷ float_at body 8 ∷ []

abbrev pub words_in : List ℕ → List ℕ
words_in body = word_at body 0 ∷ word_at body 4 ∷ word_at body 8 ∷ []

abbrev pub Twelve : List (List ℕ) → Type 0
Twelve [] = Unit
Twelve (b ∷ bs) = (length b ≡ 12) × Twelve bs

pub record Complete (input : List ℕ) (s : Stream) : Type 0 where
  pub way : ℕ
  pub mode : ℕ
  pub four : List ℕ
  pub points : List (List ℕ)
  pub triangles : List (List ℕ)
  pub is : input ≡ record_of 104 (way ∷ mode ∷ four) ++ records_after_head points triangles
  pub four_long : length four ≡ 4
  pub points_long : Twelve points
  pub triangles_long : Twelve triangles
  pub points_few : length points ≤ 256
  pub triangles_few : length triangles ≤ 256
  pub way_is : sizing_way_of way (word_at four 0) ≡ Some s.head.way
  pub mode_is : mode_of mode ≡ Some s.head.mode
  pub points_are : s.points ≡ join_all floats_in points
  pub triangles_are : s.triangles ≡ join_all words_in triangles
