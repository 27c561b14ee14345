-- Laws of the phases of specs/Phases.antt: that they end, what the loop of phases in turn goes by, that they are determined by the labels they start from, and how many scans they take. Assumes nothing.
use mathlib.Core.Bool.{Bool, true, false, not}
use mathlib.Core.Path.{◌≡◌, refl, subst, ◌∙◌}
use mathlib.Core.List.{List}
use Prim.Native.Nat.{ℕ, suc, ◌+◌, ◌*◌, ◌-◌, ◌≤◌, ◌<◌}
use native.Mathlib.Omega.{arith}
use lib.Dec.{ltb}
use lib.ListN.{length}
use Rattle.grid.specs.declared.Axes.{Axes}
use Rattle.grid.specs.Counts.{count}
use Rattle.grid.specs.Grid.{cells, Sheet}
use Rattle.grid.proofs.Counts.{count_most}
use Rattle.fill_walks.specs.Run.{Run, Proper}
use Rattle.fill_walks.specs.Quiet.{Clear}
use Rattle.fill_walks.proofs.Keeps.{Weighs}
use Rattle.fill_walks.proofs.Runs.{run_one, run_some, run_falls}
use Rattle.grid.proofs.Cells.{sheet_kept}
use Rattle.fill.specs.Phases.{outward, phase_of, Alternate, last, again}

-- ---- the phases end

pub outward_proper : (mark : ℕ) → 3 < mark → Proper (outward mark)
outward_proper mark h = omega arith

pub phase_proper : (b : Bool) → Proper (phase_of b)
phase_proper true = omega arith
phase_proper false = omega arith

-- ---- and each of their labels says one thing

pub outward_clear : (mark : ℕ) → 3 < mark → Clear (outward mark)
outward_clear mark h = record { proper = outward_proper mark h; apart = omega arith; set_unmarked = omega arith; set_stays = refl; mark_stays = refl }

pub phase_clear : (b : Bool) → Clear (phase_of b)
phase_clear true = record { proper = phase_proper true; apart = omega arith; set_unmarked = omega arith; set_stays = refl; mark_stays = refl }
phase_clear false = record { proper = phase_proper false; apart = omega arith; set_unmarked = omega arith; set_stays = refl; mark_stays = refl }

-- ---- the cells that a phase may still walk have a label below 3

abbrev pub under3 : ℕ → Bool
under3 v = ltb v 3

pub weighs_3 : (b : Bool) → Weighs (phase_of b) under3
weighs_3 true = record { passing = refl; marking = refl; before = refl; after = refl }
weighs_3 false = record { passing = refl; marking = refl; before = refl; after = refl }

-- a phase that walked some took at least as many scans less one
pub phase_falls : (r : Axes) (b : Bool) {l m : List ℕ} {k : ℕ} → length l ≡ cells r → Run (phase_of b) r l m k → (length m ≡ cells r) × (count under3 m + k ≤ count under3 l + 1)
phase_falls r b e t = run_falls (phase_of b) r under3 (weighs_3 b) t e

-- ---- the loop of phases in turn, after n scans

pub record Swinging (r : Axes) (l₀ l : List ℕ) (n : ℕ) (b : Bool) : Type 0 where
  pub sheet : Sheet r l
  pub same : length l ≡ length l₀
  pub left : n + 2 * count under3 l ≤ 2 * count under3 l₀
  pub rest : (e : List ℕ) (k : ℕ) → Alternate r b l e k → Alternate r true l₀ e (k + n)

module _ (r : Axes) (l₀ : List ℕ) where
  pub swing_none : Sheet r l₀ → Swinging r l₀ l₀ 0 true
  swing_none f = record { sheet = f; same = refl; left = omega arith; rest = λ e k a. subst (λ (i : ℕ). Alternate r true l₀ e i) (sum k) a }
    where
      sum : (k : ℕ) → k ≡ k + 0
      sum k = omega arith

  module _ (l m : List ℕ) (n k : ℕ) (b : Bool) (s : Swinging r l₀ l n b) (t : Run (phase_of b) r l m k) where
    pub swing_falls : count under3 m + k ≤ count under3 l + 1
    swing_falls = (phase_falls r b s.sheet.size t).1

    pub swing_more : length m ≡ length l → (k ≡ 1 → ⊥) → Swinging r l₀ m (n + k) (not b)
    swing_more e z =
        let two : 2 ≤ k = omega (arith, run_some (phase_of b) r t) in
        record {
          sheet = sheet_kept r l m e s.sheet;
          same = e ∙ s.same;
          left = omega (arith, s.left, swing_falls);
          rest = λ d i a. subst (λ (x : ℕ). Alternate r true l₀ d x) (sum i n k two)
              (s.rest d (suc (suc (k - 2)) + i) (again (subst (λ (x : ℕ). Run (phase_of b) r l m x) (back k two) t) a));
        }
      where
        back : (k : ℕ) → 2 ≤ k → k ≡ suc (suc (k - 2))
        back k h = omega arith

        sum : (i n k : ℕ) → 2 ≤ k → suc (suc (k - 2)) + i + n ≡ i + (n + k)
        sum i n k h = omega arith

    pub swing_done : k ≡ 1 → Alternate r true l₀ m (n + k)
    swing_done e = subst (λ (x : ℕ). Alternate r true l₀ m x) (sum n k e) (s.rest m 1 (last (subst (λ (x : ℕ). Run (phase_of b) r l m x) e t)))
      where
        sum : (n k : ℕ) → k ≡ 1 → 1 + n ≡ n + k
        sum n k e = omega arith

-- ---- two runs of phases in turn from the same labels are the same

pub alternate_one : (r : Axes) {b : Bool} {l d e : List ℕ} {m n : ℕ} → Alternate r b l d m → Alternate r b l e n → (d ≡ e) × (m ≡ n)
alternate_one r (last {b = b} t) (last u) = ((run_one (phase_of b) r t u).0, refl)
alternate_one r (last {b = b} t) (again u v) = absurd (one _ (run_one (phase_of b) r t u).1)
  where
    one : (k : ℕ) → 1 ≡ suc (suc k) → ⊥
    one k q = omega arith
alternate_one r (again {b = b} t u) (last v) = absurd (one _ (run_one (phase_of b) r t v).1)
  where
    one : (k : ℕ) → suc (suc k) ≡ 1 → ⊥
    one k q = omega arith
alternate_one r (again {b = b} {e = d} {n = n} t u) (again v w) =
    let q = run_one (phase_of b) r t v in
    let z = alternate_one r (subst (λ (x : List ℕ). Alternate r (not b) x d n) q.0 u) w in
    (z.0, omega (arith, q.1, z.1))

-- ---- how many scans they take

pub alternate_few : (r : Axes) {b : Bool} {l e : List ℕ} {n : ℕ} → length l ≡ cells r → Alternate r b l e n → n + 2 * count under3 e ≤ 2 * count under3 l + 1
alternate_few r h (last {b = b} t) = omega (arith, (phase_falls r b h t).1)
alternate_few r h (again {b = b} t u) = let f = phase_falls r b h t in omega (arith, f.1, alternate_few r f.0 u)

outward_3 : Weighs (outward 4) under3
outward_3 = record { passing = refl; marking = refl; before = refl; after = refl }

-- a whole fill with cavities
pub cavities_few : (r : Axes) (s m e : List ℕ) (j k : ℕ) → length s ≡ cells r → Run (outward 4) r s m j → Alternate r true m e k → j + k ≤ 2 * cells r + 2
cavities_few r s m e j k h t u =
    let f = run_falls (outward 4) r under3 outward_3 t h in
    omega (arith, f.1, run_some (outward 4) r t, alternate_few r f.0 u, count_most under3 s, h)
