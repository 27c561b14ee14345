-- What the contract of `list_pairs` says: its numbers, that a refusal leaves every number, that two results coincide, and that a record's range is its cell's slice of the list. Assumes nothing.
use Rattle.grid.specs.declared.Refusal.{Refusal}
use Rattle.list.specs.declared.ListCounts.{ListCounts}
use Rattle.std.specs.Prelude.{Ok, Err}
use mathlib.Core.Path.{◌≡◌, sym, ◌∙◌, refl, ap}
use mathlib.Core.List.{List, [], ◌∷◌, ◌++◌}
use Prim.Native.Nat.{ℕ, ◌*◌, ◌≤◌, suc, ◌-◌, ◌+◌, ◌<◌}
use lib.Dec.{ltb}
use lib.ListN.{length, get_or, take, drop, length-append}
use lib.Ieee.{Float}
use borrow.Author.Tests.{ltb-false}
use Rattle.grid.specs.declared.Axes.{Axes}
use Rattle.grid.specs.declared.Placement.{Placement}
use Rattle.grid.specs.Answers.{Outcome, Finds, Gives}
use Rattle.grid.specs.Checks.{labels_fault, takes}
use Rattle.grid.specs.Grid.{Sheet, at}
use Rattle.grid.proofs.Checks.{passed, both_fine, finds_if, finds_then, finds_first, gives_then}
use Rattle.marking_mesh.specs.Faults.{mesh_fault}
use Rattle.marking.specs.Painted.{Ready}
use Rattle.marking.proofs.Laws.{ready, mesh_finds}
use Rattle.order.specs.Order.{known_labels, join_all}
use Rattle.order.specs.Output.{room_fault, over}
use Rattle.order.proofs.Outputs.{room_fine}
use Rattle.grid.proofs.Checks as check
use Rattle.list_record.specs.Record.{width, record_at, list_slice}
use Rattle.list.specs.List.{listed, records_of, flag_of}
use Rattle.list_tally.specs.Pairs.{triangles_of, triangle_list, pair_count}
use Rattle.list_pairs.specs.Paired.{list_input_fault, pairs_many_fault, rooms_fault, pairs_fault, counts_of, pairs_answer, records_buffer, triangles_buffer}
use native.Mathlib.Omega.{arith}
use lib.Seq.{split_at, drop-append_seam, take-append_seam}
use Rattle.grid.specs.declared.Cell.{Cell}
use Rattle.order.proofs.Lists.{join_append}
use Rattle.list_record.specs.declared.CellRecord.{CellRecord}
use Rattle.list_record.proofs.Records.{record_path, slice_good}
use Rattle.list.proofs.Rows.{row_read}
use Rattle.grid.specs.declared.Reason.TheVariants.{NoRoom, BadLabel}

-- ---- what the checks leave

pub input_ready : (ps : List Float) (ts : List ℕ) (r : Axes) (p : Placement) (l : List ℕ) → list_input_fault ps ts r p l ≡ Ok tt → Ready ps ts r p × Sheet r l
input_ready ps ts r p l h =
    let w = ready ps ts r p (length l) (both_fine (mesh_fault ps ts r p (length l)) (labels_fault known_labels l) h).0 in
    (w.0, record { sound = w.1; size = w.2 })

pub rooms_fine : (cells pairs m n : ℕ) → rooms_fault cells pairs m n ≡ Ok tt → (cells * width ≤ m) × (pairs ≤ 4294967295) × (pairs ≤ n)
rooms_fine cells pairs m n h =
    let a = both_fine (room_fault m (cells * width)) _ h in
    let b = both_fine (pairs_many_fault pairs) (room_fault n pairs) a.1 in
    (room_fine m (cells * width) a.0, ltb-false 4294967295 pairs (passed (ltb 4294967295 pairs) NoRoom 0 (Ok tt) b.0).0, room_fine n pairs b.1)

-- ---- which numbers it gives: 1, 2, 3, 4, 5, 8, 9, 10, 11 and 14

module _ (ps : List Float) (ts : List ℕ) (r : Axes) (p : Placement) (l o q : List ℕ) where
  pub pairs_numbers : Gives (1 ∷ 2 ∷ 3 ∷ 4 ∷ 5 ∷ 8 ∷ 9 ∷ 10 ∷ 11 ∷ 14 ∷ []) (pairs_answer ps ts r p l o q)
  pairs_numbers = gives_then ns (pairs_fault ps ts r p l (length o) (length q)) (Ok (counts_of ps ts r p l)) all (λ f. tt)
    where
      ns : List ℕ
      ns = 1 ∷ 2 ∷ 3 ∷ 4 ∷ 5 ∷ 8 ∷ 9 ∷ 10 ∷ 11 ∷ 14 ∷ []

      all : Finds ns (pairs_fault ps ts r p l (length o) (length q))
      all =
          finds_then ns (list_input_fault ps ts r p l) _
          (finds_then ns (mesh_fault ps ts r p (length l)) _ (mesh_finds ns ps ts r p (length l) tt tt tt tt tt tt tt tt) (finds_first ns BadLabel (λ n. n) (takes known_labels) l tt))
          (finds_then ns (room_fault (length o) (length (listed r l) * width)) _
          (finds_if ns (ltb (length o) (length (listed r l) * width)) NoRoom 0 (Ok tt) tt tt)
          (finds_then ns (pairs_many_fault (pair_count ps ts r p l)) _
          (finds_if ns (ltb 4294967295 (pair_count ps ts r p l)) NoRoom 0 (Ok tt) tt tt)
          (finds_if ns (ltb (length q) (pair_count ps ts r p l)) NoRoom 0 (Ok tt) tt tt)))

  -- ---- a refusal leaves every number of both outputs

  pub refused_same : (f : Refusal) → pairs_answer ps ts r p l o q ≡ Err f → (records_buffer ps ts r p l o q ≡ o) × (triangles_buffer ps ts r p l o q ≡ q)
  refused_same f h =
      let checks = pairs_fault ps ts r p l (length o) (length q) in
      (check.refused_same checks (counts_of ps ts r p l) f o (over (records_of r l (triangles_of ps ts r p l)) o) h, check.refused_same checks (counts_of ps ts r p l) f q (over (triangle_list ps ts r p l) q) h)

  -- ---- two results that fit the promise are one

  pub settled : (a b : Outcome ListCounts) (m n x y : List ℕ) → a ≡ pairs_answer ps ts r p l o q → b ≡ pairs_answer ps ts r p l o q
      → m ≡ records_buffer ps ts r p l o q → n ≡ records_buffer ps ts r p l o q → x ≡ triangles_buffer ps ts r p l o q → y ≡ triangles_buffer ps ts r p l o q
      → (a ≡ b) × (m ≡ n) × (x ≡ y)
  settled a b m n x y e f g h u v = ((e ∙ sym f), g ∙ sym h, u ∙ sym v)

-- ---- the part of the list that a record names is its cell's triangles, and no other

module _ (ps : List Float) (ts : List ℕ) (r : Axes) (p : Placement) (l : List ℕ) (n : ℕ) (h : n < length (listed r l)) (d : Cell) where
  abbrev own : Cell → List ℕ
  own = triangles_of ps ts r p l

  abbrev here : CellRecord
  here = record_at (records_of r l own) n

  before : ℕ
  before = length (join_all own (take n (listed r l)))

  record_is : here ≡ record { cell = get_or (listed r l) n d; surface = flag_of (at r l (get_or (listed r l) n d)); start = before; end = before + length (own (get_or (listed r l) n d)) }
  unfolding before
  record_is =
      row_read r l own d 0 (listed r l) n h
      ∙ record_path _ _ refl refl (let e : 0 + length (join_all own (take n (listed r l))) ≡ length (join_all own (take n (listed r l))) = omega arith in e)
      (let e : 0 + length (join_all own (take n (listed r l))) + length (own (get_or (listed r l) n d)) ≡ length (join_all own (take n (listed r l))) + length (own (get_or (listed r l) n d)) = omega arith in e)

  -- the whole list around it
  around : triangle_list ps ts r p l ≡ join_all own (take n (listed r l)) ++ (own (get_or (listed r l) n d) ++ join_all own (drop (suc n) (listed r l)))
  unfolding join_all
  around = ap (join_all own) (split_at (listed r l) n d h) ∙ join_append own (take n (listed r l)) (get_or (listed r l) n d ∷ drop (suc n) (listed r l))

  pub range_slice : (here.cell ≡ get_or (listed r l) n d) × (list_slice (triangle_list ps ts r p l) here.start here.end ≡ own (get_or (listed r l) n d))
  unfolding before
  range_slice =
      let mine = own (get_or (listed r l) n d) in
      let rest = join_all own (drop (suc n) (listed r l)) in
      let front = join_all own (take n (listed r l)) in
      let size = ap (λ (xs : List ℕ). length xs) around ∙ length-append front (mine ++ rest) in (
        ap (λ (e : CellRecord). e.cell) record_is,
        (λ i. list_slice (triangle_list ps ts r p l) (record_is i).start (record_is i).end)
            ∙ slice_good (triangle_list ps ts r p l) (length front) (length front + length mine) (omega arith) (omega (arith, size, length-append mine rest))
            ∙ ap (λ (k : ℕ). take k (drop (length front) (triangle_list ps ts r p l))) (let e : length front + length mine - length front ≡ length mine = omega arith in e)
            ∙ ap (λ (xs : List ℕ). take (length mine) (drop (length front) xs)) around
            ∙ ap (take (length mine)) (drop-append_seam front (mine ++ rest))
            ∙ take-append_seam mine rest,
      )
