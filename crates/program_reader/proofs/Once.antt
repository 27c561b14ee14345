-- An input has one reading (`read_one`), and it is refused with 1, 16 or 17 (`read_numbers`). Assumes nothing.
use Rattle.std.specs.Prelude.{Option, Some, None, Ok}
use Rattle.program_reader.specs.declared.Kind.{Kind}
use Rattle.program_reader.specs.declared.SizingWay.{SizingWay}
use Rattle.program_reader.specs.declared.InputRecord.{InputRecord}
use Rattle.fill.specs.declared.Mode.{Mode}
use Rattle.grid.specs.Refusals.{number_of}
use Rattle.std.specs.Prelude.{Err}
use mathlib.Core.Bool.{Bool, true, false, cond}
use mathlib.Core.List.{List, [], ◌∷◌, ◌++◌}
use mathlib.Core.Path.{◌≡◌, refl, sym, ap, subst}
use Prim.Native.Nat.{ℕ, ◌+◌, ◌-◌}
use native.Mathlib.Omega.{arith}
use lib.Dec.{T, leb, ltb}
use lib.Ieee.{Float}
use lib.ListN.{length, get_or}
use Rattle.grid.specs.declared.Refusal.{Refusal}
use Rattle.grid.specs.Answers.{Outcome, is_one_of, Gives}
use Rattle.sizing.specs.declared.Point.{Point}
use Rattle.program_words.specs.Words.{word_at}
use Rattle.program_reader.specs.declared.Head.{Head}
use Rattle.program_reader.specs.declared.Corners.{Corners}
use Rattle.program_reader.specs.declared.Taken.{Taken}
use Rattle.program_reader.specs.Records.{bytes_at, mark_at, sizing_way_of, mode_of, head_with, head_by, start_by, start_with, start_at, whole, step_by, step_at}
use Rattle.program_reader.specs.Reading.{Stream, taken_so_far, coordinates_of, corners_of, Reads, Read}

-- ---- one reading

same_refusal : (f g : Refusal) → f ≡ g → ◌≡◌ {A = Outcome Stream} (Err f) (Err g)
same_refusal f g e = ap (λ (x : Refusal). Err x) e

reads_one : (s : List ℕ) (h : Head) {at : ℕ} {ps : List Float} {ts : List ℕ} (a b : Outcome Stream) → Reads s h at ps ts a → Reads s h at ps ts b → a ≡ b
reads_one s h a b (Reads.faulty {f = f} e) (Reads.faulty {f = g} k) = let z : f ≡ g = cc in same_refusal f g z
reads_one s h a b (Reads.faulty e) (Reads.point k r) = absurd (let z : ◌≡◌ {A = ℕ} 0 1 = cc in omega arith)
reads_one s h a b (Reads.faulty e) (Reads.triangle k r) = absurd (let z : ◌≡◌ {A = ℕ} 0 1 = cc in omega arith)
reads_one s h a b (Reads.faulty e) (Reads.end k) = absurd (let z : ◌≡◌ {A = ℕ} 0 1 = cc in omega arith)
reads_one s h a b (Reads.point e r) (Reads.faulty k) = absurd (let z : ◌≡◌ {A = ℕ} 0 1 = cc in omega arith)
reads_one s h {at} {ps} {ts} a b (Reads.point {p = p} {o = o} e r) (Reads.point {p = q} k t) =
    let z : p ≡ q = cc in
    reads_one s h a b r (subst (λ (x : Point). Reads s h (at + 14) (ps ++ coordinates_of x) ts b) (sym z) t)
reads_one s h a b (Reads.point e r) (Reads.triangle k t) = absurd (let z : ◌≡◌ {A = ℕ} 0 1 = cc in omega arith)
reads_one s h a b (Reads.point e r) (Reads.end k) = absurd (let z : ◌≡◌ {A = ℕ} 0 1 = cc in omega arith)
reads_one s h a b (Reads.triangle e r) (Reads.faulty k) = absurd (let z : ◌≡◌ {A = ℕ} 0 1 = cc in omega arith)
reads_one s h a b (Reads.triangle e r) (Reads.point k t) = absurd (let z : ◌≡◌ {A = ℕ} 0 1 = cc in omega arith)
reads_one s h {at} {ps} {ts} a b (Reads.triangle {t = p} e r) (Reads.triangle {t = q} k t) =
    let z : p ≡ q = cc in
    reads_one s h a b r (subst (λ (x : Corners). Reads s h (at + 14) ps (ts ++ corners_of x) b) (sym z) t)
reads_one s h a b (Reads.triangle e r) (Reads.end k) = absurd (let z : ◌≡◌ {A = ℕ} 0 1 = cc in omega arith)
reads_one s h a b (Reads.end e) (Reads.faulty k) = absurd (let z : ◌≡◌ {A = ℕ} 0 1 = cc in omega arith)
reads_one s h a b (Reads.end e) (Reads.point k t) = absurd (let z : ◌≡◌ {A = ℕ} 0 1 = cc in omega arith)
reads_one s h a b (Reads.end e) (Reads.triangle k t) = absurd (let z : ◌≡◌ {A = ℕ} 0 1 = cc in omega arith)
reads_one s h a b (Reads.end e) (Reads.end k) = refl

pub read_one : (s : List ℕ) (a b : Outcome Stream) → Read s a → Read s b → a ≡ b
read_one s a b (Read.no_head {f = f} e) (Read.no_head {f = g} k) = let z : f ≡ g = cc in same_refusal f g z
read_one s a b (Read.no_head e) (Read.headed k t) = absurd (let z : ◌≡◌ {A = ℕ} 0 1 = cc in omega arith)
read_one s a b (Read.headed e r) (Read.no_head k) = absurd (let z : ◌≡◌ {A = ℕ} 0 1 = cc in omega arith)
read_one s a b (Read.headed {h = h} e r) (Read.headed {h = g} k t) =
    let z : h ≡ g = cc in
    reads_one s h a b r (subst (λ (x : Head). Reads s x 8 [] [] b) (sym z) t)

-- ---- which numbers: 1, 16 and 17

abbrev numbers : List ℕ
numbers = 1 ∷ 16 ∷ 17 ∷ []

abbrev StepGives : Outcome InputRecord → Type 0
StepGives (Ok r) = Unit
StepGives (Err f) = T (is_one_of (number_of f.reason) numbers)

abbrev StartGives : Outcome Head → Type 0
StartGives (Ok h) = Unit
StartGives (Err f) = T (is_one_of (number_of f.reason) numbers)

by_whole : (b : Bool) (at : ℕ) (x : Outcome InputRecord) → StepGives x → StepGives (whole b at x)
by_whole true at x h = h
by_whole false at x h = tt

by_cond : (t : Bool) (x y : Outcome InputRecord) → StepGives x → StepGives y → StepGives (cond t x y)
by_cond true x y h k = h
by_cond false x y h k = k

step_gives : (s : List ℕ) (at : ℕ) (n : Taken) → StepGives (step_at s at n)
step_gives s at n = by_whole (bytes_at s at 2) at (step_by (mark_at s at) s at n) (go (mark_at s at))
  where
    go : (m : Option Kind) → StepGives (step_by m s at n)
    go (Some Kind.Head) = tt
    go (Some Kind.Point) = by_cond (leb 256 n.points) _ _ tt (by_cond (ltb 0 n.triangles) _ _ tt (by_whole (bytes_at s at 14) at _ tt))
    go (Some Kind.Triangle) = by_cond (leb 256 n.triangles) _ _ tt (by_whole (bytes_at s at 14) at _ tt)
    go (Some Kind.End) = by_cond (ltb 2 (length s - at)) _ _ tt tt
    go None = tt

start_gives : (s : List ℕ) → StartGives (start_at s)
start_gives s = first (bytes_at s 0 2)
  where
    with_way : (w : Option SizingWay) (m : Option Mode) → StartGives (head_with w m)
    with_way (Some w) (Some m) = tt
    with_way (Some w) None = tt
    with_way None m = tt

    held : (b : Bool) → StartGives (head_by b s)
    held true = with_way (sizing_way_of (get_or s 2 0) (word_at s 4)) (mode_of (get_or s 3 0))
    held false = tt

    by : (m : Option Kind) → StartGives (start_by m s)
    by (Some Kind.Head) = held (bytes_at s 0 8)
    by (Some Kind.Point) = tt
    by (Some Kind.Triangle) = tt
    by (Some Kind.End) = tt
    by None = tt

    first : (b : Bool) → StartGives (start_with b s)
    first true = by (mark_at s 0)
    first false = tt

reads_numbers : (s : List ℕ) (h : Head) {at : ℕ} {ps : List Float} {ts : List ℕ} {o : Outcome Stream} → Reads s h at ps ts o → Gives (1 ∷ 16 ∷ 17 ∷ []) o
reads_numbers s h {at} {ps} {ts} (Reads.faulty e) = subst StepGives e (step_gives s at (taken_so_far ps ts))
reads_numbers s h (Reads.point e r) = reads_numbers s h r
reads_numbers s h (Reads.triangle e r) = reads_numbers s h r
reads_numbers s h (Reads.end e) = tt

pub read_numbers : (s : List ℕ) (o : Outcome Stream) → Read s o → Gives (1 ∷ 16 ∷ 17 ∷ []) o
read_numbers s o (Read.no_head e) = subst StartGives e (start_gives s)
read_numbers s o (Read.headed {h = h} e r) = reads_numbers s h r
