-- From counts to places: the loop that gives each record an empty range where those before it will end. Assumes nothing.
use mathlib.Core.Logic.{inr, ⊎_elim}
use mathlib.Core.Path.{◌≡◌, refl, sym, ap, ◌∙◌}
use mathlib.Core.List.{List}
use Prim.Native.Nat.{ℕ, zero, suc, ◌+◌, ◌*◌, ◌≤◌, ◌<◌}
use native.Mathlib.Numerals.{add-one}
use native.Mathlib.Omega.{arith}
use lib.ListN.{length, get_or}
use Rattle.grid.proofs.First.{le_or_lt}
use Rattle.order.proofs.Sums.{sum}
use Rattle.list_record.specs.declared.CellRecord.{CellRecord}
use Rattle.list_record.specs.Record.{width, record_at, ranged, PutRecord}
use Rattle.list_rows.specs.Rows.{end_at}
use Rattle.list_pairs.specs.Ranges.{ends_before, RangesLaid}

-- sums of ends
pub ends_more : (o : List ℕ) (p : ℕ) → ends_before o (p + 1) ≡ ends_before o p + end_at o p
unfolding sum
ends_more o p = ap (λ (k : ℕ). sum (end_at o) k) (add-one p)

pub sum_up : (f : ℕ → ℕ) (p n : ℕ) → p ≤ n → sum f p ≤ sum f n
unfolding sum
sum_up f p zero h = let e : p ≡ 0 = omega arith in let z = ap (sum f) e in omega arith
sum_up f p (suc n) h =
    ⊎_elim
    (λ l. omega (arith, sum_up f p n l))
    (λ l. let e : p ≡ suc n = omega arith in let z = ap (sum f) e in omega arith)
    (le_or_lt p n)

-- p records have their places, which come to s
pub record Laying (n : ℕ) (o out : List ℕ) (s p : ℕ) : Type 0 where
  pub size : length out ≡ length o
  pub most : p ≤ n
  pub sums : s ≡ ends_before o p
  pub done : (q : ℕ) → q < p → record_at out q ≡ ranged (ends_before o q) (ends_before o q) (record_at o q)
  pub rest : (q : ℕ) → p ≤ q → record_at out q ≡ record_at o q
  pub past : (x : ℕ) → n * width ≤ x → get_or out x 0 ≡ get_or o x 0

module _ (n : ℕ) (o : List ℕ) where
  pub laying_first : Laying n o o 0 0
  unfolding sum
  laying_first = record { size = refl; most = omega arith; sums = refl; done = λ q h. absurd (none q h); rest = λ q h. refl; past = λ x h. refl }
    where
      none : (q : ℕ) → q < 0 → ⊥
      none q h = omega arith

  module _ (out : List ℕ) (s p : ℕ) (w : Laying n o out s p) where
    pub laying_done : n ≤ p → RangesLaid n o out
    laying_done h = record { size = w.size; rows = λ q l. w.done q (omega arith); past = w.past }

    module _ (l : p < n) (e : CellRecord) (is : e ≡ record_at out p) where
      end_is : e.end ≡ end_at o p
      end_is = ap (λ (x : CellRecord). x.end) (is ∙ w.rest p (omega arith))

      pub laying_fits : ends_before o n ≤ 4294967295 → s + e.end ≤ 4294967295
      laying_fits h = omega (arith, w.sums, end_is, ends_more o p, sum_up (end_at o) (p + 1) n (omega arith))

      pub laying_more : (out' : List ℕ) → PutRecord p (ranged s s (record_at out p)) out out' → Laying n o out' (s + e.end) (p + 1)
      laying_more out' b = record {
        size = b.size ∙ w.size;
        most = omega arith;
        sums = omega (arith, w.sums, end_is, ends_more o p);
        done = λ q h.
            ⊎_elim
            (λ z. let y : q ≡ p = omega arith in ap (record_at out') y ∙ b.here ∙ at_place ∙ sym (ap (λ (k : ℕ). ranged (ends_before o k) (ends_before o k) (record_at o k)) y))
            (λ z. b.other q (λ y. early q z y) ∙ w.done q z)
            (le_or_lt p q);
        rest = λ q h. b.other q (λ y. late q h y) ∙ w.rest q (omega arith);
        past = λ x h. b.outside x (inr (omega arith)) ∙ w.past x h;
      }
        where
          at_place : ranged s s (record_at out p) ≡ ranged (ends_before o p) (ends_before o p) (record_at o p)
          at_place = ap (λ (k : ℕ). ranged k k (record_at out p)) w.sums ∙ ap (ranged (ends_before o p) (ends_before o p)) (w.rest p (omega arith))

          early : (q : ℕ) → q < p → q ≡ p → ⊥
          early q z y = omega arith

          late : (q : ℕ) → p + 1 ≤ q → q ≡ p → ⊥
          late q h y = omega arith
