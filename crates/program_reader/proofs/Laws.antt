-- What the reader's steps show, and the step of a reading. Assumes nothing.
use Rattle.std.specs.Prelude.{Option, Some, None, Ok}
use Rattle.program_reader.specs.declared.Kind.{Kind}
use Rattle.program_reader.specs.declared.InputRecord.{InputRecord}
use Rattle.grid.specs.Answers.{Outcome}
use Rattle.grid.specs.declared.Reason.TheVariants.{CutInput}
use mathlib.Core.Bool.{Bool, true, false, cond}
use mathlib.Core.List.{List}
use mathlib.Core.Path.{◌≡◌, refl, ap, ◌∙◌}
use Prim.Native.Nat.{ℕ, ◌-◌, ◌≤◌}
use native.Mathlib.Omega.{arith}
use lib.Dec.{ltb}
use lib.ListN.{length}
use borrow.Author.Tests.{ltb-false}
use Rattle.program_reader.specs.declared.Taken.{Taken}
use Rattle.program_reader.specs.declared.Head.{Head}
use Rattle.program_reader.specs.Records.{bytes_at, mark_at, head_by, start_by, start_with, start_at, refused, whole, step_by, step_at}

-- bytes that are there are no more than are left
pub there : (s : List ℕ) (at n : ℕ) → true ≡ bytes_at s at n → n ≤ length s - at
there s at n h = go (ltb (length s - at) n) refl h
  where
    go : (t : Bool) → ltb (length s - at) n ≡ t → true ≡ cond t false true → n ≤ length s - at
    go true e k = absurd (let z : ◌≡◌ {A = ℕ} 0 1 = cc in omega arith)
    go false e k = ltb-false (length s - at) n e

-- a head that was taken is there
pub head_there : (s : List ℕ) (h : Head) → Ok h ≡ start_at s → 8 ≤ length s
head_there s h e = first (bytes_at s 0 2) e
  where
    held : (b : Bool) → b ≡ bytes_at s 0 8 → Ok h ≡ head_by b s → 8 ≤ length s
    held true k e = omega (arith, there s 0 8 k)
    held false k e = absurd (let z : ◌≡◌ {A = ℕ} 0 1 = cc in omega arith)

    by : (m : Option Kind) → Ok h ≡ start_by m s → 8 ≤ length s
    by (Some Kind.Head) e = held (bytes_at s 0 8) refl e
    by (Some Kind.Point) e = absurd (let z : ◌≡◌ {A = ℕ} 0 1 = cc in omega arith)
    by (Some Kind.Triangle) e = absurd (let z : ◌≡◌ {A = ℕ} 0 1 = cc in omega arith)
    by (Some Kind.End) e = absurd (let z : ◌≡◌ {A = ℕ} 0 1 = cc in omega arith)
    by None e = absurd (let z : ◌≡◌ {A = ℕ} 0 1 = cc in omega arith)

    first : (b : Bool) → Ok h ≡ start_with b s → 8 ≤ length s
    first true e = by (mark_at s 0) e
    first false e = absurd (let z : ◌≡◌ {A = ℕ} 0 1 = cc in omega arith)

-- a record whose bytes are there, and one that is cut
pub not_cut : (b : Bool) (at : ℕ) (x : Outcome InputRecord) → true ≡ b → x ≡ whole b at x
not_cut b at x h = ap (λ (y : Bool). whole y at x) h

pub is_cut : (b : Bool) (at : ℕ) (x : Outcome InputRecord) → false ≡ b → refused CutInput at ≡ whole b at x
is_cut b at x h = ap (λ (y : Bool). whole y at x) h

-- where a mark is there, the step goes by it
pub started : (s : List ℕ) (m : Option Kind) → true ≡ bytes_at s 0 2 → m ≡ mark_at s 0 → start_by m s ≡ start_at s
started s m h e = (λ t. start_by (e t) s) ∙ (λ t. start_with (h t) s)

pub stepped : (s : List ℕ) (at : ℕ) (n : Taken) (m : Option Kind) → true ≡ bytes_at s at 2 → m ≡ mark_at s at → step_by m s at n ≡ step_at s at n
stepped s at n m h e = (λ t. step_by (e t) s at n) ∙ (λ t. whole (h t) at (step_by (mark_at s at) s at n))
