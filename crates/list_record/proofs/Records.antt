-- Laws of a record's numbers: two records with the same numbers are one, and what a store of numbers does to records. And of a range of a list. Assumes nothing.
use Rattle.std.specs.Prelude.{Ok}
use mathlib.Core.Bool.{Bool, true, false, cond}
use mathlib.Core.Logic.{◌⊎◌, inl, inr}
use mathlib.Core.Path.{◌≡◌, refl, sym, ap, ◌∙◌}
use mathlib.Core.List.{List, [], ◌++◌}
use Prim.Native.Nat.{ℕ, zero, suc, ◌+◌, ◌*◌, ◌-◌, ◌/◌, ◌%◌, ◌≤◌, ◌<◌}
use native.Mathlib.Nat.{div-add-mod, mod-lt}
use native.Mathlib.Omega.{arith}
use lib.Dec.{ltb}
use lib.ListN.{length, get_or, set, take, drop, length-set, length-drop}
use lib.Seq.{get_or-set_same, get_or-set_other, length-take-le, get_or-take, get_or-drop, get_or-append-add}
use borrow.Author.Tests.{le-ltb, ltb-false}
use Rattle.grid.specs.Answers.{fault_if, Checked, refuses}
use Rattle.grid.proofs.Cells.{cell_path}
use Rattle.grid.proofs.Checks.{passed, or_false}
use Rattle.order.specs.Output.{over, Written}
use Rattle.order.proofs.Outputs.{written_one, written_more, written_over}
use Rattle.list_record.specs.declared.CellRecord.{CellRecord}
use Rattle.list_record.specs.Record.{width, numbers_of, record_at, ranged, PutRecord, bad_range, range_fault, list_slice}
use Rattle.grid.specs.declared.Reason.TheVariants.{BadRange}

-- two records are one if their numbers are
pub record_path : (e f : CellRecord) → e.cell ≡ f.cell → e.surface ≡ f.surface → e.start ≡ f.start → e.end ≡ f.end → e ≡ f
record_path e f a b c d = λ t. record { cell = a t; surface = b t; start = c t; end = d t }

-- the numbers of a record, one by one
module _ (o m : List ℕ) (p q : ℕ) where
  pub record_same : ((d : ℕ) → d < width → get_or o (p * width + d) 0 ≡ get_or m (q * width + d) 0) → record_at o p ≡ record_at m q
  unfolding record_at
  record_same h =
      record_path _ _
      (cell_path _ _ (first ∙ h 0 (omega arith) ∙ sym second) (h 1 (omega arith)) (h 2 (omega arith)))
      (h 3 (omega arith)) (h 4 (omega arith)) (h 5 (omega arith))
    where
      first : get_or o (p * width) 0 ≡ get_or o (p * width + 0) 0
      first = ap (λ (k : ℕ). get_or o k 0) (let e : p * width ≡ p * width + 0 = omega arith in e)

      second : get_or m (q * width) 0 ≡ get_or m (q * width + 0) 0
      second = ap (λ (k : ℕ). get_or m k 0) (let e : q * width ≡ q * width + 0 = omega arith in e)

-- the numbers that stand from a record's place on are the record's
pub numbers_read : (o : List ℕ) (p : ℕ) (e : CellRecord) → ((d : ℕ) → d < width → get_or o (p * width + d) 0 ≡ get_or (numbers_of e) d 0) → record_at o p ≡ e
unfolding record_at numbers_of
numbers_read o p e h =
    record_path _ e
    (cell_path _ e.cell (ap (λ (k : ℕ). get_or o k 0) (let z : p * width ≡ p * width + 0 = omega arith in z) ∙ h 0 (omega arith)) (h 1 (omega arith)) (h 2 (omega arith)))
    (h 3 (omega arith)) (h 4 (omega arith)) (h 5 (omega arith))

-- and the other way
pub read_numbers : (o : List ℕ) (p : ℕ) (e : CellRecord) → record_at o p ≡ e → (d : ℕ) → d < width → get_or o (p * width + d) 0 ≡ get_or (numbers_of e) d 0
unfolding record_at numbers_of
read_numbers o p e h zero l = ap (λ (k : ℕ). get_or o k 0) (let z : p * width + 0 ≡ p * width = omega arith in z) ∙ ap (λ (x : CellRecord). x.cell.i) h
read_numbers o p e h (suc zero) l = ap (λ (x : CellRecord). x.cell.j) h
read_numbers o p e h (suc (suc zero)) l = ap (λ (x : CellRecord). x.cell.k) h
read_numbers o p e h (suc (suc (suc zero))) l = ap (λ (x : CellRecord). x.surface) h
read_numbers o p e h (suc (suc (suc (suc zero)))) l = ap (λ (x : CellRecord). x.start) h
read_numbers o p e h (suc (suc (suc (suc (suc zero))))) l = ap (λ (x : CellRecord). x.end) h
read_numbers o p e h (suc (suc (suc (suc (suc (suc d)))))) l = absurd (none d l)
  where
    none : (d : ℕ) → suc (suc (suc (suc (suc (suc d))))) < width → ⊥
    none d l = omega arith

pub numbers_length : (e : CellRecord) → length (numbers_of e) ≡ width
unfolding numbers_of
numbers_length e = refl

-- each number of a record has its place
pub number_in : (o : List ℕ) (p d : ℕ) → p * width + width ≤ length o → d < width → p * width + d < length o
number_in o p d h l = omega arith

-- six stores, one behind the other
pub written_record : (at : ℕ) (e : CellRecord) (o : List ℕ) → at + width ≤ length o
    → Written 0 at (numbers_of e) o (set (set (set (set (set (set o at e.cell.i) (at + 1) e.cell.j) (at + 2) e.cell.k) (at + 3) e.surface) (at + 4) e.start) (at + 5) e.end)
unfolding numbers_of
written_record at e o h =
    written_more 0 at e.end _ o _
    (written_more 0 at e.start _ o _
    (written_more 0 at e.surface _ o _
    (written_more 0 at e.cell.k _ o _
    (written_more 0 at e.cell.j _ o _ (written_one 0 at e.cell.i o (omega arith)) (omega arith)) (omega arith)) (omega arith)) (omega arith)) (omega arith)

-- a record behind another
pub record_behind : (xs ys : List ℕ) (p : ℕ) → length xs ≡ width → record_at (xs ++ ys) (suc p) ≡ record_at ys p
record_behind xs ys p h =
    record_same (xs ++ ys) ys (suc p) p
    (λ d l. ap (λ (k : ℕ). get_or (xs ++ ys) k 0) (let e : suc p * width + d ≡ length xs + (p * width + d) = omega arith in e) ∙ get_or-append-add xs ys (p * width + d) 0)

-- n records that stand in a buffer, which is as it was behind them
pub records_over : (xs o m : List ℕ) (n : ℕ) → length xs ≡ n * width → n * width ≤ length o → length m ≡ length o → ((p : ℕ) → p < n → record_at m p ≡ record_at xs p)
    → ((x : ℕ) → n * width ≤ x → get_or m x 0 ≡ get_or o x 0) → m ≡ over xs o
records_over xs o m n e room size rows past =
    written_over 0 xs o m (omega arith) (record { size = size; there = λ k l. front k (omega arith); others = λ k l. past k (behind k l) })
  where
    behind : (k : ℕ) → (k < 0) ⊎ (0 + length xs ≤ k) → n * width ≤ k
    behind k (inl l) = absurd (none k l)
      where
        none : (k : ℕ) → k < 0 → ⊥
        none k l = omega arith
    behind k (inr l) = omega arith

    front : (k : ℕ) → k < n * width → get_or m (0 + k) 0 ≡ get_or xs k 0
    front k l =
        let q = div-add-mod k width in
        let w = mod-lt k {m = width} (omega arith) in
        let at : k ≡ k / width * width + k % width = omega arith in
        let in-n : k / width < n = omega arith in
        ap (λ (x : ℕ). get_or m x 0) (let z : 0 + k ≡ k / width * width + k % width = omega arith in z)
        ∙ read_numbers m (k / width) (record_at xs (k / width)) (rows (k / width) in-n) (k % width) w
        ∙ sym (read_numbers xs (k / width) (record_at xs (k / width)) refl (k % width) w)
        ∙ sym (ap (λ (x : ℕ). get_or xs x 0) at)

-- another range
module _ (o : List ℕ) (p start end : ℕ) (room : p * width + width ≤ length o) where
  abbrev after : List ℕ
  after = set (set o (p * width + 4) start) (p * width + 5) end

  -- a number that is neither of the range's
  kept : (n : ℕ) → (n ≡ p * width + 4 → ⊥) → (n ≡ p * width + 5 → ⊥) → get_or after n 0 ≡ get_or o n 0
  kept n a b = get_or-set_other (set o (p * width + 4) start) (p * width + 5) n end 0 b ∙ get_or-set_other o (p * width + 4) n start 0 a

  same : (q : ℕ) → (q ≡ p → ⊥) → (d : ℕ) → d < width → get_or after (q * width + d) 0 ≡ get_or o (q * width + d) 0
  same q z d l = kept (q * width + d) (λ e. z (start_of q d l e)) (λ e. z (end_of q d l e))
    where
      start_of : (q d : ℕ) → d < width → q * width + d ≡ p * width + 4 → q ≡ p
      start_of q d l e = omega arith

      end_of : (q d : ℕ) → d < width → q * width + d ≡ p * width + 5 → q ≡ p
      end_of q d l e = omega arith

  pub range_put : PutRecord p (ranged start end (record_at o p)) o after
  unfolding record_at
  range_put = record {
    size = length-set (set o (p * width + 4) start) (p * width + 5) end ∙ length-set o (p * width + 4) start;
    here =
        record_path _ _
        (cell_path _ _ (at_zero after ∙ early 0 (omega arith) ∙ sym (at_zero o)) (early 1 (omega arith)) (early 2 (omega arith)))
        (early 3 (omega arith))
        (get_or-set_other (set o (p * width + 4) start) (p * width + 5) (p * width + 4) end 0 (apart p) ∙ get_or-set_same o (p * width + 4) start 0 (omega arith))
        (get_or-set_same (set o (p * width + 4) start) (p * width + 5) end 0 (omega (arith, length-set o (p * width + 4) start)));
    other = λ q z. record_same after o q q (same q z);
    outside = λ n h. kept n (far 4 (omega arith) n h) (far 5 (omega arith) n h);
  }
    where
      at_zero : (m : List ℕ) → get_or m (p * width) 0 ≡ get_or m (p * width + 0) 0
      at_zero m = ap (λ (k : ℕ). get_or m k 0) (let e : p * width ≡ p * width + 0 = omega arith in e)

      apart : (p : ℕ) → p * width + 4 ≡ p * width + 5 → ⊥
      apart p e = omega arith

      early : (d : ℕ) → d < 4 → get_or after (p * width + d) 0 ≡ get_or o (p * width + d) 0
      early d l = kept (p * width + d) (not_start d l) (not_end d l)
        where
          not_start : (d : ℕ) → d < 4 → p * width + d ≡ p * width + 4 → ⊥
          not_start d l e = omega arith

          not_end : (d : ℕ) → d < 4 → p * width + d ≡ p * width + 5 → ⊥
          not_end d l e = omega arith

      far : (d : ℕ) → d < width → (n : ℕ) → (n < p * width) ⊎ (p * width + width ≤ n) → n ≡ p * width + d → ⊥
      far d l n (inl h) e = omega arith
      far d l n (inr h) e = omega arith

-- ---- a range of a list

module _ (list : List ℕ) (start end : ℕ) where
  pub good_means : bad_range list start end ≡ false → (start ≤ end) × (end ≤ length list)
  good_means b =
      let w = or_false (ltb end start) (ltb (length list) end) b in
      (ltb-false end start w.0, ltb-false (length list) end w.1)

  pub good_range : start ≤ end → end ≤ length list → bad_range list start end ≡ false
  good_range h g = rw (le-ltb end start h, le-ltb (length list) end g)

  -- of a good range the part has the range's length, and its elements are the list's from start on
  pub slice_good : start ≤ end → end ≤ length list → list_slice list start end ≡ take (end - start) (drop start list)
  slice_good h g = ap (λ (b : Bool). cond b [] (take (end - start) (drop start list))) (good_range h g)

  pub slice_bad : bad_range list start end ≡ true → list_slice list start end ≡ []
  slice_bad h = ap (λ (b : Bool). cond b [] (take (end - start) (drop start list))) h

  -- "for a bad range that part is empty, and a check of the same range answers 15"
  pub bad_range_means : bad_range list start end ≡ true → (list_slice list start end ≡ []) × (range_fault list start end ≡ refuses BadRange 0)
  bad_range_means h = (slice_bad h, ap (λ (b : Bool). fault_if b BadRange 0 (Ok tt)) h)

  pub slice_length : range_fault list start end ≡ Ok tt → (start ≤ end) × (end ≤ length list) × (length (list_slice list start end) ≡ end - start)
  slice_length h =
      let w = good_means (passed (bad_range list start end) BadRange 0 (Ok tt) h).0 in
      (w.0, w.1, ap (λ (l : List ℕ). length l) (slice_good w.0 w.1) ∙ length-take-le (end - start) (drop start list) (omega (arith, w, length-drop start list)))

  pub slice_element : start ≤ end → end ≤ length list → (n : ℕ) → n < end - start → get_or (list_slice list start end) n 0 ≡ get_or list (start + n) 0
  slice_element h g n l = ap (λ (m : List ℕ). get_or m n 0) (slice_good h g) ∙ get_or-take (end - start) (drop start list) n 0 l ∙ get_or-drop start list n 0

  -- two results that fit a contract coincide
  pub slice_settled : (s t : List ℕ) → s ≡ list_slice list start end → t ≡ list_slice list start end → s ≡ t
  slice_settled s t p q = p ∙ sym q

  pub range_settled : (f g : Checked) → f ≡ range_fault list start end → g ≡ range_fault list start end → f ≡ g
  range_settled f g p q = p ∙ sym q
