-- What the contract of `summarize` says: two answers that fit it coincide (`settled`), and which numbers it gives (`summary_numbers`). Assumes nothing.
use Rattle.std.specs.Prelude.{Ok, Err}
use mathlib.Core.Bool.{Bool, true, false, ◌||◌}
use mathlib.Core.List.{List, [], ◌∷◌}
use mathlib.Core.Path.{◌≡◌, refl, sym, ap, ◌∙◌, subst}
use Prim.Native.Nat.{ℕ, ◌+◌, ◌/◌}
use native.Mathlib.Omega.{arith}
use lib.Dec.{T, eqb, ltb}
use lib.Ieee.{Float}
use lib.ListN.{length}
use borrow.Author.Tests.{eqb-true}
use Rattle.grid.specs.declared.Axes.{Axes}
use Rattle.grid.specs.declared.Placement.{Placement}
use Rattle.grid.specs.declared.Refusal.{Refusal}
use Rattle.grid.specs.Refusals.{number_of}
use Rattle.grid.specs.Answers.{Outcome, is_one_of, Finds, Gives}
use Rattle.grid.specs.First.{every}
use Rattle.grid.specs.Grid.{cells}
use Rattle.grid.proofs.First.{both_true}
use Rattle.grid.proofs.Checks.{finds_if, finds_then, finds_first, gives_then}
use Rattle.sizing.specs.Points.{none_fault, numbers_fault}
use Rattle.sizing.specs.Sizing.{Laid, points}
use Rattle.sizing.proofs.Ranges.{size_numbers, resolution_numbers}
use Rattle.marking_mesh.specs.Faults.{missing_fault}
use Rattle.marking.specs.Marked.{marked_labels}
use Rattle.fill.specs.declared.Mode.{Mode}
use Rattle.fill.proofs.Laws.{fills_one}
use Rattle.program_reader.specs.declared.SizingWay.{SizingWay}
use Rattle.program_reader.specs.declared.SizingWay.TheVariants.{Size, Resolution}
use Rattle.program_reader.specs.Reading.{Stream}
use Rattle.program_reader.proofs.Once.{read_one, read_numbers}
use Rattle.program_summary.specs.declared.Summary.{Summary}
use Rattle.program_summary.specs.Summary.{stream_fault, sized_by, laid_of, summary_of, Tallied, Mapped, Sums, Summarizes}
use Rattle.grid.specs.declared.Reason.TheVariants.{NoPoints, BadAxis, BadNumber, MissingName}

-- ---- one answer

tallied_one : (mode : Mode) (r : Axes) (marks : List ℕ) (a b : Outcome Summary) → Tallied mode r marks a → Tallied mode r marks b → a ≡ b
tallied_one mode r marks a b p q =
    let u = fills_one mode r marks p.counts q.counts p.labels q.labels p.filled q.filled in
    p.is ∙ (λ i. Ok (summary_of r (u.0 i) (u.1 i))) ∙ sym q.is

module _ (mode : Mode) (ps : List Float) (ts : List ℕ) (r : Axes) (placement : Placement) where
  mapped_one : (a b : Outcome Summary) → Mapped mode ps ts r placement a → Mapped mode ps ts r placement b → a ≡ b
  mapped_one a b (Mapped.many {f = f} e) (Mapped.many {f = g} k) = let z : f ≡ g = cc in ap (λ (x : Refusal). Err x) z
  mapped_one a b (Mapped.many e) (Mapped.few k q) = absurd (let z : ◌≡◌ {A = ℕ} 0 1 = cc in omega arith)
  mapped_one a b (Mapped.few e p) (Mapped.many k) = absurd (let z : ◌≡◌ {A = ℕ} 0 1 = cc in omega arith)
  mapped_one a b (Mapped.few e p) (Mapped.few k q) = tallied_one mode r (marked_labels ps ts r placement) a b p q

sums_one : (s : Stream) (a b : Outcome Summary) → Sums s a → Sums s b → a ≡ b
sums_one s a b (Sums.refused {f = f} e) (Sums.refused {f = g} k) = let z : f ≡ g = cc in ap (λ (x : Refusal). Err x) z
sums_one s a b (Sums.refused e) (Sums.laid k q) = absurd (let z : ◌≡◌ {A = ℕ} 0 1 = cc in omega arith)
sums_one s a b (Sums.laid e p) (Sums.refused k) = absurd (let z : ◌≡◌ {A = ℕ} 0 1 = cc in omega arith)
sums_one s a b (Sums.laid {l = l} e p) (Sums.laid {l = m} k q) =
    let z : l ≡ m = cc in
    mapped_one s.head.mode s.points s.triangles l.axes l.placement a b p
    (subst (λ (x : Laid). Mapped s.head.mode s.points s.triangles x.axes x.placement b) (sym z) q)

pub summary_one : (input : List ℕ) (a b : Outcome Summary) → Summarizes input a → Summarizes input b → a ≡ b
summary_one input a b (Summarizes.faulty {f = f} p) (Summarizes.faulty {f = g} q) =
    let e = read_one input (Err f) (Err g) p q in
    let z : f ≡ g = cc in
    ap (λ (x : Refusal). Err x) z
summary_one input a b (Summarizes.faulty {f = f} p) (Summarizes.complete {s = s} q u) =
    let e = read_one input (Err f) (Ok s) p q in absurd (let z : ◌≡◌ {A = ℕ} 0 1 = cc in omega arith)
summary_one input a b (Summarizes.complete {s = s} p u) (Summarizes.faulty {f = f} q) =
    let e = read_one input (Ok s) (Err f) p q in absurd (let z : ◌≡◌ {A = ℕ} 0 1 = cc in omega arith)
summary_one input a b (Summarizes.complete {s = s} p u) (Summarizes.complete {s = t} q v) =
    let e = read_one input (Ok s) (Ok t) p q in
    let z : s ≡ t = cc in
    sums_one s a b u (subst (λ (x : Stream). Sums x b) (sym z) v)

pub settled : (input : List ℕ) (a b : Outcome Summary) → Summarizes input a → Summarizes input b → a ≡ b
settled input a b p q = (summary_one input a b p q)

-- ---- which numbers: 16, 17 or 1 while reading; then 2, 3, 4, then 5 or 6, 7, then 8

abbrev pub numbers : List ℕ
numbers = 1 ∷ 2 ∷ 3 ∷ 4 ∷ 5 ∷ 6 ∷ 7 ∷ 8 ∷ 16 ∷ 17 ∷ []

-- one of some numbers is one of more
one_of : (ms ns : List ℕ) → every (λ m. is_one_of m ns) ms ≡ true → (n : ℕ) → T (is_one_of n ms) → T (is_one_of n ns)
unfolding every
one_of [] ns h n t = absurd t
one_of (m ∷ ms) ns h n t = go (eqb n m) refl t (one_of ms ns (both_true (is_one_of m ns) _ h).1 n)
  where
    go : (b : Bool) → eqb n m ≡ b → T (b || is_one_of n ms) → (T (is_one_of n ms) → T (is_one_of n ns)) → T (is_one_of n ns)
    go true e t k = subst (λ (i : ℕ). T (is_one_of i ns)) (sym (eqb-true n m e)) (subst T (sym (both_true (is_one_of m ns) _ h).0) tt)
    go false e t k = k t

gives_more : {A : Type 0} (ms : List ℕ) → every (λ m. is_one_of m numbers) ms ≡ true → (o : Outcome A) → Gives ms o → Gives numbers o
gives_more ms h (Ok a) g = tt
gives_more ms h (Err f) g = one_of ms numbers h (number_of f.reason) g

sized_gives : (way : SizingWay) (ps : List Float) → Gives numbers (sized_by way ps)
unfolding every
sized_gives (Size size) ps = gives_more (1 ∷ 2 ∷ 3 ∷ 5 ∷ 8 ∷ []) refl (sized_by (Size size) ps) (size_numbers ps size)
sized_gives (Resolution r) ps = gives_more (1 ∷ 2 ∷ 3 ∷ 6 ∷ 7 ∷ []) refl (sized_by (Resolution r) ps) (resolution_numbers ps r)

laid_gives : (way : SizingWay) (ps : List Float) (ts : List ℕ) → Gives numbers (laid_of way ps ts)
laid_gives way ps ts =
    gives_then numbers (stream_fault ps ts) (sized_by way ps)
    (finds_then numbers (none_fault (length ps)) _ (finds_if numbers (eqb (length ps) 0) NoPoints 0 (Ok tt) tt tt)
    (finds_then numbers (numbers_fault 0 ps) (missing_fault (points ps) ts) (finds_first numbers BadNumber (λ n. 0 + n) _ ps tt) (finds_first numbers MissingName (λ k. k / 3) _ ts tt)))
    (λ h. sized_gives way ps)

pub summary_numbers : (input : List ℕ) (o : Outcome Summary) → Summarizes input o → Gives numbers o
unfolding every
summary_numbers input o (Summarizes.faulty {f = f} p) =
    gives_more {A = Stream} (1 ∷ 16 ∷ 17 ∷ []) refl (Err f) (read_numbers input (Err f) p)
summary_numbers input o (Summarizes.complete {s = s} p (Sums.refused e)) = subst (Gives numbers) e (laid_gives s.head.way s.points s.triangles)
summary_numbers input o (Summarizes.complete p (Sums.laid {l = l} e (Mapped.many k))) = subst (Finds numbers) k (finds_if numbers (ltb 32768 (cells l.axes)) BadAxis 0 (Ok tt) tt tt)
summary_numbers input o (Summarizes.complete p (Sums.laid e (Mapped.few k q))) = subst (Gives numbers) (sym q.is) tt
