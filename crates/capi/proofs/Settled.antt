-- Two results of an exported function that fit its contract coincide, and what a caller hears is what the call behind it answered. Assumes nothing.
use Rattle.std.specs.Prelude.{Ok}
use mathlib.Core.Path.{◌≡◌, refl}
use mathlib.Core.List.{List, [], ◌∷◌}
use Prim.Native.Nat.{ℕ}
use lib.Ieee.{Float}
use Rattle.grid.specs.declared.Axes as grid-axes
use Rattle.grid.specs.declared.Placement as grid-placement
use Rattle.grid.specs.Answers.{Outcome, Ends}
use Rattle.sizing.specs.Sizing.{by_size, by_resolution}
use Rattle.sizing.proofs.Ranges.{size_numbers, resolution_numbers}
use Rattle.marking.specs.Marked.{mark_answer}
use Rattle.marking.proofs.Laws.{mark_numbers}
use Rattle.fill.specs.declared.Mode.{Mode}
use Rattle.fill.specs.declared.FillCounts as fill-counts
use Rattle.fill.specs.Modes as fills
use Rattle.fill.proofs.Laws as fill-laws
use Rattle.edits.specs.Edits.{Edit}
use Rattle.edits.specs.History.{Call}
use Rattle.edits.proofs.Laws as edit-laws
use Rattle.list.specs.List.{cells_answer}
use Rattle.list.proofs.Laws.{list_numbers}
use Rattle.list_pairs.specs.Paired.{pairs_answer}
use Rattle.list_pairs.proofs.Laws.{pairs_numbers}
use Rattle.classes.specs.Classes.{class_answer}
use Rattle.classes.proofs.Laws.{classify_numbers}
use Rattle.planes.specs.Planes.{planes_answer}
use Rattle.planes.specs.Split.{split_answer}
use Rattle.planes.proofs.Laws.{planes_numbers, split_numbers}
use Rattle.boxes.specs.Boxes.{boxes_answer}
use Rattle.boxes.proofs.Laws.{boxes_numbers}
use Rattle.list_record.specs.Record.{bad_range, range_fault}
use Rattle.grid.proofs.Checks.{finds_if}
use Rattle.program_summary.specs.Summary.{Summarizes}
use Rattle.program_summary.proofs.Once.{summary_one}
use Rattle.program.specs.Program as records
use Rattle.program.proofs.Laws as record-laws
use Rattle.capi_flat.specs.declared.Filled.{Filled}
use Rattle.capi_flat.specs.declared.Summarized.{Summarized}
use Rattle.capi_flat.specs.declared.Counted.{Counted}
use Rattle.capi_flat.specs.Flat.{flat_of, heard, Tells}
use Rattle.capi_flat.specs.Structs.{filled, counted, summarized, no_grid, no_fill, no_list, no_planes, no_sides, no_summary}
use Rattle.capi_flat.proofs.Laws.{heard_flat, tells_one, filled_one, counted_one, summarized_one}
use Rattle.grid.specs.declared.Reason.TheVariants.{BadRange}

-- ---- fill and edits

pub fill_settled : (mode : Mode) (r : grid-axes.Axes) (l : List ℕ) (a b : Filled) (m n : List ℕ)
    → Tells no_fill (λ o. Ends (fills.fill_fault r l) l (fills.Fills mode r l) o m) (filled a)
    → Tells no_fill (λ o. Ends (fills.fill_fault r l) l (fills.Fills mode r l) o n) (filled b)
    → (a ≡ b) × (m ≡ n)
fill_settled mode r l a b m n p q = let w = tells_one no_fill Allowed one (filled a) (filled b) m n p q in (filled_one a b w.0, w.1)
  where
    Allowed : Outcome fill-counts.FillCounts → List ℕ → Type 0
    Allowed o x = Ends (fills.fill_fault r l) l (fills.Fills mode r l) o x

    one : (o p : Outcome fill-counts.FillCounts) (x y : List ℕ) → Allowed o x → Allowed p y → (o ≡ p) × (x ≡ y)
    one o p x y u v = fill-laws.settled mode r l o p x y u v

pub edit_settled : (r : grid-axes.Axes) (e : Edit) (l : List ℕ) (a b : Counted) (m n : List ℕ)
    → Tells 0 (λ o. Call r e l o m) (counted a) → Tells 0 (λ o. Call r e l o n) (counted b) → (a ≡ b) × (m ≡ n)
edit_settled r e l a b m n p q = let w = tells_one 0 (Call r e l) one (counted a) (counted b) m n p q in (counted_one a b w.0, w.1)
  where
    one : (o p : Outcome ℕ) (x y : List ℕ) → Call r e l o x → Call r e l p y → (o ≡ p) × (x ≡ y)
    one o p x y u v = edit-laws.settled r e l o p x y u v

-- ---- the program's input

pub summarize_settled : (input : List ℕ) (a b : Summarized) → Tells no_summary (Summarizes input) (summarized a) → Tells no_summary (Summarizes input) (summarized b) → a ≡ b
summarize_settled input a b p q =
    summarized_one a b
    (tells_one {B = Unit} no_summary (λ o u. Summarizes input o) (λ o v x y m n. (summary_one input o v m n, refl)) (summarized a) (summarized b) tt tt p q).0

pub run_settled : (input out : List ℕ) (a b : Counted) (m n : List ℕ)
    → Tells 0 (λ o. records.Runs input out o m) (counted a) → Tells 0 (λ o. records.Runs input out o n) (counted b) → (a ≡ b) × (m ≡ n)
run_settled input out a b m n p q = let w = tells_one 0 (records.Runs input out) one (counted a) (counted b) m n p q in (counted_one a b w.0, w.1)
  where
    one : (o p : Outcome ℕ) (x y : List ℕ) → records.Runs input out o x → records.Runs input out p y → (o ≡ p) × (x ≡ y)
    one o p x y u v = record-laws.settled input out o p x y u v

-- ---- what is heard is what the call answered: 0 is no refusal's number

pub size_heard : (ps : List Float) (size : Float) → heard (flat_of no_grid (by_size ps size)) ≡ by_size ps size
size_heard ps size = heard_flat no_grid (1 ∷ 2 ∷ 3 ∷ 5 ∷ 8 ∷ []) (by_size ps size) refl (size_numbers ps size)

pub resolution_heard : (ps : List Float) (r : ℕ) → heard (flat_of no_grid (by_resolution ps r)) ≡ by_resolution ps r
resolution_heard ps r = heard_flat no_grid (1 ∷ 2 ∷ 3 ∷ 6 ∷ 7 ∷ []) (by_resolution ps r) refl (resolution_numbers ps r)

pub mark_heard : (ps : List Float) (ts : List ℕ) (r : grid-axes.Axes) (placement : grid-placement.Placement) (l : List ℕ)
    → heard (flat_of tt (mark_answer ps ts r placement l)) ≡ mark_answer ps ts r placement l
mark_heard ps ts r placement l = heard_flat tt (1 ∷ 2 ∷ 3 ∷ 4 ∷ 5 ∷ 8 ∷ 9 ∷ 10 ∷ []) (mark_answer ps ts r placement l) refl (mark_numbers ps ts r placement l)

pub list_heard : (l : List ℕ) (r : grid-axes.Axes) (o : List ℕ) → heard (flat_of no_list (cells_answer l r o)) ≡ cells_answer l r o
list_heard l r o = heard_flat no_list (8 ∷ 9 ∷ 11 ∷ 14 ∷ []) (cells_answer l r o) refl (list_numbers l r o)

pub pairs_heard : (ps : List Float) (ts : List ℕ) (r : grid-axes.Axes) (placement : grid-placement.Placement) (l o q : List ℕ)
    → heard (flat_of no_list (pairs_answer ps ts r placement l o q)) ≡ pairs_answer ps ts r placement l o q
pairs_heard ps ts r placement l o q = heard_flat no_list (1 ∷ 2 ∷ 3 ∷ 4 ∷ 5 ∷ 8 ∷ 9 ∷ 10 ∷ 11 ∷ 14 ∷ []) (pairs_answer ps ts r placement l o q) refl (pairs_numbers ps ts r placement l o q)

pub range_heard : (list : List ℕ) (start end : ℕ) → heard (flat_of tt (range_fault list start end)) ≡ range_fault list start end
range_heard list start end =
    heard_flat tt (15 ∷ []) (range_fault list start end) refl
    (finds_if (15 ∷ []) (bad_range list start end) BadRange 0 (Ok tt) tt tt)

pub classes_heard : (entries ends : List ℕ) (count : ℕ) (o : List ℕ) → heard (flat_of tt (class_answer entries ends count o)) ≡ class_answer entries ends count o
classes_heard entries ends count o = heard_flat tt (1 ∷ 4 ∷ 14 ∷ 15 ∷ []) (class_answer entries ends count o) refl (classify_numbers entries ends count o)

pub planes_heard : (placement : grid-placement.Placement) (axis low high best step : ℕ) (o : List Float)
    → heard (flat_of no_planes (planes_answer placement axis low high best step o)) ≡ planes_answer placement axis low high best step o
planes_heard placement axis low high best step o =
    heard_flat no_planes (3 ∷ 5 ∷ 12 ∷ 14 ∷ []) (planes_answer placement axis low high best step o) refl (planes_numbers placement axis low high best step o)

pub split_heard : (ps : List Float) (axis : ℕ) (d : Float) (above below : List Float) → heard (flat_of no_sides (split_answer ps axis d above below)) ≡ split_answer ps axis d above below
split_heard ps axis d above below = heard_flat no_sides (1 ∷ 3 ∷ 12 ∷ 14 ∷ []) (split_answer ps axis d above below) refl (split_numbers ps axis d above below)

pub boxes_heard : (l : List ℕ) (r : grid-axes.Axes) (placement : grid-placement.Placement) (label : ℕ) (ps : List Float) (ts : List ℕ)
    → heard (flat_of 0 (boxes_answer l r placement label ps ts)) ≡ boxes_answer l r placement label ps ts
boxes_heard l r placement label ps ts = heard_flat 0 (3 ∷ 5 ∷ 8 ∷ 9 ∷ 11 ∷ 14 ∷ []) (boxes_answer l r placement label ps ts) refl (boxes_numbers l r placement label ps ts)
