-- What the loops of `fill_scans` go by: groups of a row that are not raised change nothing, and slabs end as they would have where cells were set before their turn. Assumes nothing.
use mathlib.Core.Bool.{Bool, true, false, not}
use mathlib.Core.Path.{◌≡◌, refl, sym, ap, subst, ◌∙◌}
use mathlib.Core.List.{List}
use Prim.Native.Nat.{ℕ, ◌+◌, ◌*◌, ◌-◌, ◌/◌, ◌≤◌, ◌<◌, min}
use native.Mathlib.Nat.{sub-zero}
use native.Mathlib.Omega.{arith}
use lib.ListN.{length, get_or}
use Rattle.grid.specs.declared.Axes.{Axes}
use Rattle.grid.specs.declared.Cell.{Cell}
use Rattle.grid.specs.Grid.{Sheet}
use Rattle.grid.proofs.Cells.{sheet_kept}
use Rattle.fill_walks.specs.declared.Phase.{Phase}
use Rattle.fill_walks.specs.Scan.{State, visited, in_turn, rowed, slabbed, scanned}
use Rattle.fill_walks.proofs.Turns.{Turns, turn_parts, turn_idle, turns_none, turns_on, turns_pass, turns_all}
use Rattle.fill_walks.proofs.Quiets.{idle_visit}
use Rattle.fill_groups.specs.Groups.{place_at, Covers}
use Rattle.fill_groups.proofs.Cover.{low_idle}
use Rattle.fill_early.specs.Early.{Blocked}

-- a loop over groups of 16 stands before group g
abbrev pub before : ℕ → ℕ → ℕ
before g n = min (16 * g) n

-- the whole of what is done in turn from 0 on
pub turns_whole : (r : Axes) (f : ℕ → State → State) (n u : ℕ) (l₀ : List ℕ) (w₀ : ℕ) (l : List ℕ) (w i : ℕ) → Turns r f 0 n u l₀ w₀ l w i → n ≤ i → record { labels = l; walked = w } ≡ in_turn f n 0 (record { labels = l₀; walked = w₀ })
turns_whole r f n u l₀ w₀ l w i t h = turns_all r f 0 n u l₀ w₀ l w i t h ∙ ap (λ (m : ℕ). in_turn f m 0 (record { labels = l₀; walked = w₀ })) (sub-zero n)

module _ (p : Phase) (r : Axes) (i j : ℕ) (l₀ : List ℕ) (w₀ : ℕ) where
  abbrev pub Row : List ℕ → ℕ → ℕ → Type 0
  Row l w g = Turns r (λ k. visited p r (record { i = i; j = j; k = k })) 0 r.r2 1 l₀ w₀ l w (before g r.r2)

  row_as : (l : List ℕ) (w a b : ℕ) → a ≡ b → Turns r (λ k. visited p r (record { i = i; j = j; k = k })) 0 r.r2 1 l₀ w₀ l w a → Turns r (λ k. visited p r (record { i = i; j = j; k = k })) 0 r.r2 1 l₀ w₀ l w b
  row_as l w a b e t = subst (λ (x : ℕ). Turns r (λ k. visited p r (record { i = i; j = j; k = k })) 0 r.r2 1 l₀ w₀ l w x) e t

  pub row_none : Sheet r l₀ → Row l₀ w₀ 0
  row_none h = row_as l₀ w₀ 0 (before 0 r.r2) (omega arith) (turns_none r _ 0 r.r2 1 l₀ w₀ (omega arith) h)

  -- a group that is not raised
  pub row_low : (l t : List ℕ) (w g n : ℕ) → i < r.r0 → j < r.r1 → Row l w g → 16 * g < r.r2 → Covers p r l t → n ≡ place_at i j (16 * g) → get_or t n 0 ≡ 0 → Row l w (g + 1)
  row_low l t w g n a b s h c e z =
      turns_pass r _ 0 r.r2 1 l₀ w₀ l w (before g r.r2) (before (g + 1) r.r2) s (omega arith) (omega arith)
      (λ k u v.
      let d : Cell = record { i = i; j = j; k = k } in
      idle_visit p r d (record { labels = l; walked = w }) (low_idle p r l t d (record { i_in = a; j_in = b; k_in = omega arith }) c (ap (λ (x : ℕ). get_or t x 0) (same_place g k u v h ∙ sym e) ∙ z)))
    where
      same_place : (g k : ℕ) → before g r.r2 ≤ k → k < before (g + 1) r.r2 → 16 * g < r.r2 → place_at i j k ≡ place_at i j (16 * g)
      same_place g k u v h = omega arith

  -- a group that was visited
  pub row_high : (l m : List ℕ) (w v g from to : ℕ) → Row l w g → 16 * g < r.r2 → from ≡ 16 * g → to ≡ min (from + 16) r.r2 → length m ≡ length l → v + from ≤ w + to
      → record { labels = m; walked = v } ≡ in_turn (λ k. visited p r (record { i = i; j = j; k = k })) (to - from) from (record { labels = l; walked = w }) → Row m v (g + 1)
  row_high l m w v g from to s h e q n b d =
      let s' = row_as l w (before g r.r2) from (omega arith) s in
      row_as m v to (before (g + 1) r.r2) (omega arith)
      (turns_on r _ 0 r.r2 1 l₀ w₀ l m w v from to s' (omega arith) (omega arith) n (omega arith) d)

-- ---- a scan, before block b

pub record Scanning (p : Phase) (r : Axes) (l₀ t₀ l t : List ℕ) (w first b : ℕ) : Type 0 where
  pub starts : first ≡ min (16 * b - 15) r.r0
  pub sheet : Sheet r l
  pub same : length l ≡ length l₀
  pub size : length t ≡ length t₀
  pub covers : Covers p r l t
  pub few : w ≤ 33554432 * b
  pub rest : in_turn (λ i. slabbed p r i) (r.r0 - first) first (record { labels = l; walked = w }) ≡ scanned p r l₀

module _ (p : Phase) (r : Axes) (l₀ t₀ : List ℕ) where
  pub scanning_none : Sheet r l₀ → Covers p r l₀ t₀ → Scanning p r l₀ t₀ l₀ t₀ 0 0 0
  scanning_none s v = record {
    starts = omega arith;
    sheet = s;
    same = refl;
    size = refl;
    covers = v;
    few = omega arith;
    rest = ap (λ (m : ℕ). in_turn (λ i. slabbed p r i) m 0 (record { labels = l₀; walked = 0 })) (sub-zero r.r0);
  }

  -- there are 17 blocks at most, and they are those of the table
  pub scanning_block : {l t : List ℕ} {w first b end : ℕ} → Scanning p r l₀ t₀ l t w first b → first < r.r0 → end ≡ min (16 * b + 1) r.r0 → Blocked r first end
  scanning_block {first = first} {b = b} {end = end} a h e = record { some = omega (arith, a.starts); most = omega arith; whole = λ i g q. whole i g q; one = λ i g q. one i g q }
    where
      whole : (i : ℕ) → i < r.r0 → (i + 15) / 16 ≡ (first + 15) / 16 → (first ≤ i) × (i < end)
      whole i g q = (omega (arith, a.starts), omega (arith, a.starts))

      one : (i : ℕ) → first ≤ i → i < end → (i + 15) / 16 ≡ (first + 15) / 16
      one i g q = omega (arith, a.starts)

  pub scanning_few : {l t : List ℕ} {w first b : ℕ} → Scanning p r l₀ t₀ l t w first b → first < r.r0 → b ≤ 16
  scanning_few a h = omega (arith, a.starts, a.sheet.sound.axis0.most)

  pub scanning_more : {l m t s : List ℕ} {w v first b end : ℕ} → Scanning p r l₀ t₀ l t w first b → first < r.r0 → end ≡ min (16 * b + 1) r.r0 → length m ≡ length l → length s ≡ length t → v ≤ w + 33554432 → Covers p r m s
      → record { labels = m; walked = v } ≡ in_turn (λ i. slabbed p r i) (end - first) first (record { labels = l; walked = w }) → Scanning p r l₀ t₀ m s v end (b + 1)
  scanning_more {l = l} {m = m} {w = w} {first = first} {b = b} {end = end} a h e g u n c q = record {
    starts = omega arith;
    sheet = sheet_kept r l m g a.sheet;
    same = g ∙ a.same;
    size = u ∙ a.size;
    covers = c;
    few = omega (arith, a.few);
    rest = ap (λ (s : State). in_turn (λ i. slabbed p r i) (r.r0 - end) end s) q
        ∙ sym (turn_parts (λ i. slabbed p r i) first end r.r0 (record { labels = l; walked = w }) (omega (arith, a.starts)) (omega arith))
        ∙ a.rest;
  }

  pub scanning_all : {l t : List ℕ} {w first b : ℕ} → Scanning p r l₀ t₀ l t w first b → r.r0 ≤ first → record { labels = l; walked = w } ≡ scanned p r l₀
  scanning_all {l = l} {w = w} {first = first} a h = sym (turn_idle (λ i. slabbed p r i) first r.r0 (record { labels = l; walked = w }) (λ x y z. absurd (omega arith))) ∙ a.rest

-- ---- a block of which no group is raised changes nothing

pub block_low : (p : Phase) (r : Axes) (l t : List ℕ) (w first end : ℕ) → Sheet r l → Covers p r l t → Blocked r first end → ((j k : ℕ) → j < 256 → k < 256 → get_or t (place_at first j k) 0 ≡ 0)
    → (i : ℕ) → first ≤ i → i < end → (i + 15) / 16 ≡ (first + 15) / 16 → slabbed p r i (record { labels = l; walked = w }) ≡ record { labels = l; walked = w }
block_low p r l t w first end s v b z i g h e =
    stops (λ j. rowed p r i j) r.r1
    (λ j u. stops (λ k. visited p r (record { i = i; j = j; k = k })) r.r2
    (λ k y.
    let d : Cell = record { i = i; j = j; k = k } in
    idle_visit p r d (record { labels = l; walked = w }) (low_idle p r l t d (record { i_in = omega (arith, b.most); j_in = u; k_in = y }) v (ap (λ (x : ℕ). get_or t ((x * 16 + k / 16) * 256 + j) 0) e ∙ z j k (omega (arith, s.sound.axis1.most)) (omega (arith, s.sound.axis2.most))))))
  where
    stops : (f : ℕ → State → State) (n : ℕ) → ((x : ℕ) → x < n → f x (record { labels = l; walked = w }) ≡ record { labels = l; walked = w }) → in_turn f n 0 (record { labels = l; walked = w }) ≡ record { labels = l; walked = w }
    stops f n k = sym (ap (λ (m : ℕ). in_turn f m 0 (record { labels = l; walked = w })) (sub-zero n)) ∙ turn_idle f 0 n (record { labels = l; walked = w }) (λ x a c. k x c)

pub slabs_low : (p : Phase) (r : Axes) (l t : List ℕ) (w first end : ℕ) → Sheet r l → Covers p r l t → Blocked r first end → ((j k : ℕ) → j < 256 → k < 256 → get_or t (place_at first j k) 0 ≡ 0)
    → record { labels = l; walked = w } ≡ in_turn (λ i. slabbed p r i) (end - first) first (record { labels = l; walked = w })
slabs_low p r l t w first end s v b z = sym (turn_idle (λ i. slabbed p r i) first end (record { labels = l; walked = w }) (λ i g h. block_low p r l t w first end s v b z i g h (b.one i g h)))

pub not_true : (b : Bool) → not b ≡ true → b ≡ false
not_true true e = sym e
not_true false e = refl
