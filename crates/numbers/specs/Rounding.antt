-- What the functions of `numbers` answer, of the exact value of an f32: `fin s m e` is m * 2 ^ e, negative where s is true, and 2 ^ e is the fraction up e / down e.
-- The meaning of each answer (`IsFloor`, `IsCeil`) and its computation; proofs/Meaning.antt joins them.
use Rattle.std.specs.Prelude.{ℕ, ◌-◌, ◌*◌, ◌/◌, ◌^◌, Bool, true, false, not, ◌↔◌, T, ltb, ℤ, pos, neg_ℤ, ◌+ℤ◌, ◌*ℤ◌, Float, Result, Ok, Err}
use Rattle.std.specs.Int.Signed.{shr_z, le_z}
use Rattle.std.specs.Float.{nan, inf, fin}
use Rattle.std.specs.Float.Ieee.{up, down}
use Rattle.numbers.specs.declared.NoWhole.{NoWhole}
use Rattle.numbers.specs.declared.NoWhole.TheVariants.{TooLarge, NotANumber}

-- n, or -n where s is true
abbrev pub signed : Bool → ℕ → ℤ
signed true n = neg_ℤ (pos n)
signed false n = pos n

-- ---- meaning

-- q is the largest whole number not above a / d: whole numbers are not above a / d exactly if they are not above q
abbrev pub IsFloor : ℤ → ℕ → ℤ → Type 0
IsFloor a d q = (k : ℤ) → T (le_z (k *ℤ pos d) a) ↔ T (le_z k q)

-- q is the least whole number not below a / d
abbrev pub IsCeil : ℤ → ℕ → ℤ → Type 0
IsCeil a d q = (k : ℤ) → T (le_z a (k *ℤ pos d)) ↔ T (le_z q k)

-- the exact value of `fin s m e` is `top s m e` / `down e`
abbrev pub top : Bool → ℕ → ℤ → ℤ
top s m e = signed s (m * up e)

-- 01, Sizing and placement: "q = the largest whole number not above 256 t + 1/2, taken of the exact t", for k units of a side: k t + 1/2 is (2 k n + d) / (2 d) of t = n / d
abbrev pub IsNearest : ℕ → Bool → ℕ → ℤ → ℤ → Type 0
IsNearest k s m e q = IsFloor (signed s (2 * k * (m * up e)) +ℤ pos (down e)) (2 * down e) q

-- the ceiling
abbrev pub IsCeiling : Bool → ℕ → ℤ → ℤ → Type 0
IsCeiling s m e q = IsCeil (top s m e) (down e) q

-- x without its fraction: the largest whole number not above x where x has no sign, and the least not below x where it has one
abbrev pub IsTruncation : Bool → ℕ → ℤ → ℤ → Type 0
IsTruncation false m e q = IsFloor (top false m e) (down e) q
IsTruncation true m e q = IsCeil (top true m e) (down e) q

-- ---- how many units a cell's side has: 2 ^ splits

abbrev pub splits : ℕ
splits = 8

abbrev pub units : ℕ
units = 2 ^ splits

-- half a side
abbrev pub half : ℕ
half = 2 ^ (splits - 1)

-- ---- computation

-- a / d rounded down, for a d above 0: -(a + 1) / d rounded down is -(a / d) - 1
abbrev pub floor_z : ℤ → ℕ → ℤ
floor_z a d = shr_z a d

-- a whole number is given of every value under 2 ^ 40 in magnitude; a coordinate of an input that 01 accepts is at most 2 ^ 39
abbrev pub limit : ℕ
limit = 2 ^ 40

-- a whole number, or why none is given
abbrev pub Whole : Type 0
Whole = Result ℤ NoWhole

abbrev pub pick_whole : Bool → Whole → Whole → Whole
pick_whole true a b = a
pick_whole false a b = b

-- the answer for a value of magnitude n / d: z where that is under the limit
abbrev pub under_limit : ℕ → ℕ → ℤ → Whole
under_limit n d z = pick_whole (ltb n (limit * d)) (Ok z) (Err TooLarge)

-- the largest whole number not above k x
unfoldable pub floor_times : ℕ → Float → Whole
floor_times k nan = Err NotANumber
floor_times k (inf s) = Err TooLarge
floor_times k (fin s m e) = under_limit (m * up e) (down e) (floor_z (signed s (k * (m * up e))) (down e))

-- the least whole number not below x: the floor of -x, negated
unfoldable pub ceil_of : Float → Whole
ceil_of nan = Err NotANumber
ceil_of (inf s) = Err TooLarge
ceil_of (fin s m e) = under_limit (m * up e) (down e) (neg_ℤ (floor_z (signed (not s) (m * up e)) (down e)))

-- x without its fraction
unfoldable pub trunc_of : Float → Whole
trunc_of nan = Err NotANumber
trunc_of (inf s) = Err TooLarge
trunc_of (fin s m e) = under_limit (m * up e) (down e) (signed s (m * up e / down e))

-- the largest whole number not above k x + 1/2
unfoldable pub nearest_of : ℕ → Float → Whole
nearest_of k nan = Err NotANumber
nearest_of k (inf s) = Err TooLarge
nearest_of k (fin s m e) = under_limit (m * up e) (down e) (floor_z (signed s (2 * k * (m * up e)) +ℤ pos (down e)) (2 * down e))

-- 01, Sizing and placement: "Its cell is (q + 128) div 256, rounded down."
abbrev pub cell_of : ℤ → ℤ
cell_of q = floor_z (q +ℤ pos half) units
