-- Laws of specs/Run.antt: what the loop of a phase goes by, that a phase is determined by the labels it starts from, how many scans it takes, what it keeps, and a set of labels that it stays in. Assumes nothing.
use mathlib.Core.Bool.{Bool, true, false, ◌||◌}
use mathlib.Core.Path.{◌≡◌, refl, sym, ap, subst, ◌∙◌}
use mathlib.Core.List.{List, map}
use Prim.Native.Nat.{ℕ, suc, ◌+◌, ◌≤◌, ◌<◌}
use native.Mathlib.Omega.{arith}
use lib.Dec.{eqb}
use lib.ListN.{length, get_or, set, length-set}
use lib.Seq.{get_or-set_same, get_or-set_other, map-set_same}
use borrow.Author.Tests.{eq-eqb, ne_eqb}
use Rattle.grid.specs.declared.Axes.{Axes}
use Rattle.grid.specs.declared.Cell.{Cell}
use Rattle.grid.specs.Grid.{num, cells, InGrid, Sheet}
use Rattle.grid.specs.Counts.{count}
use Rattle.fill_walks.specs.declared.Phase.{Phase}
use Rattle.fill_walks.specs.Scan.{State, walked_from, visited, scanned}
use Rattle.fill_walks.specs.Run.{Run, done, more, Proper}
use Rattle.fill_walks.proofs.Rays.{one_less}
use Rattle.grid.proofs.Cells.{dec_eq, sheet_kept}
use Rattle.fill_walks.proofs.Keeps.{Kept, Weighs, walk_keeps, scan_keeps, by_visit, scan_weight}

-- ---- two runs from the same labels leave the same labels after the same number of scans

pub run_one : (p : Phase) (r : Axes) {l d e : List ℕ} {m n : ℕ} → Run p r l d m → Run p r l e n → (d ≡ e) × (m ≡ n)
run_one p r (done a) (done b) = (ap (λ (s : State). s.labels) (sym a ∙ b), refl)
run_one p r (done a) (more b v) = absurd (never _ (ap (λ (s : State). s.walked) (sym a ∙ b)))
  where
    never : (w : ℕ) → 0 ≡ suc w → ⊥
    never w q = omega arith
run_one p r (more a u) (done b) = absurd (never _ (ap (λ (s : State). s.walked) (sym a ∙ b)))
  where
    never : (w : ℕ) → suc w ≡ 0 → ⊥
    never w q = omega arith
run_one p r (more {e = d} {n = m} a u) (more b v) =
    let t = run_one p r (subst (λ (x : List ℕ). Run p r x d m) (ap (λ (s : State). s.labels) (sym a ∙ b)) u) v in
    (t.0, ap suc t.1)

-- ---- how many scans

pub run_some : (p : Phase) (r : Axes) {l e : List ℕ} {n : ℕ} → Run p r l e n → 0 < n
run_some p r (done q) = omega arith
run_some p r (more q t) = omega arith

-- each scan but the last takes one of the count at least
pub run_falls : (p : Phase) (r : Axes) (ok : ℕ → Bool) → Weighs p ok → {l e : List ℕ} {n : ℕ} → Run p r l e n → length l ≡ cells r
    → (length e ≡ cells r) × (count ok e + n ≤ count ok l + 1)
run_falls p r ok w (done {l = l} q) h =
    let s = scan_weight p r ok w l h in
    (ap (λ (s : State). length s.labels) (sym q) ∙ s.size, omega (arith, s.sum, ap (λ (s : State). count ok s.labels + s.walked) q))
run_falls p r ok w (more {l = l} q t) h =
    let s = scan_weight p r ok w l h in
    let u = run_falls p r ok w t (ap (λ (s : State). length s.labels) (sym q) ∙ s.size) in
    (u.0, omega (arith, s.sum, ap (λ (s : State). count ok s.labels + s.walked) q, u.1))

-- the cells that a phase may still walk
abbrev pub ahead : Phase → ℕ → Bool
ahead p v = eqb v p.pass || eqb v p.todo

ahead_pass : (p : Phase) → ahead p p.pass ≡ true
ahead_pass p = ap (λ (b : Bool). b || eqb p.pass p.todo) (eq-eqb p.pass p.pass refl)

ahead_todo : (p : Phase) → ahead p p.todo ≡ true
ahead_todo p = ap (λ (b : Bool). eqb p.todo p.pass || b) (eq-eqb p.todo p.todo refl) ∙ or_true (eqb p.todo p.pass)
  where
    or_true : (b : Bool) → (b || true) ≡ true
    or_true true = refl
    or_true false = refl

ahead_no : (p : Phase) (v : ℕ) → (v ≡ p.pass → ⊥) → (v ≡ p.todo → ⊥) → ahead p v ≡ false
ahead_no p v y z = rw (ne_eqb v p.pass y, ne_eqb v p.todo z)

pub ahead_weighs : (p : Phase) → Proper p → Weighs p (ahead p)
ahead_weighs p h = record {
  passing = ahead_todo p ∙ sym (ahead_pass p);
  marking = ahead_no p p.mark h.surface_unpassed h.surface_unwalked ∙ sym (ahead_no p 8 h.eight_unpassed h.eight_unwalked);
  before = ahead_todo p;
  after = ahead_no p p.done h.set_unpassed h.set_unwalked;
}

-- ---- the loop of a phase, after n scans

pub record Going (p : Phase) (r : Axes) (l₀ l : List ℕ) (n : ℕ) : Type 0 where
  pub sheet : Sheet r l
  pub same : length l ≡ length l₀
  pub left : n + count (ahead p) l ≤ count (ahead p) l₀
  pub rest : (e : List ℕ) (k : ℕ) → Run p r l e k → Run p r l₀ e (k + n)

module _ (p : Phase) (r : Axes) (h : Proper p) where
  -- a scan that walked w leaves w fewer
  pub falls : (l m : List ℕ) (w : ℕ) → Sheet r l → record { labels = m; walked = w } ≡ scanned p r l → count (ahead p) m + w ≡ count (ahead p) l
  falls l m w s e = ap (λ (s : State). count (ahead p) s.labels + s.walked) e ∙ (scan_weight p r (ahead p) (ahead_weighs p h) l s.size).sum

  pub going_none : (l₀ : List ℕ) → Sheet r l₀ → Going p r l₀ l₀ 0
  going_none l₀ f = record { sheet = f; same = refl; left = omega arith; rest = λ e k g. subst (λ (i : ℕ). Run p r l₀ e i) (sum k) g }
    where
      sum : (k : ℕ) → k ≡ k + 0
      sum k = omega arith

  pub going_more : (l₀ l m : List ℕ) (w n : ℕ) → Going p r l₀ l n → length m ≡ length l → (w ≡ 0 → ⊥) → record { labels = m; walked = w } ≡ scanned p r l → Going p r l₀ m (n + 1)
  going_more l₀ l m w n g q z e =
      let i : 0 < w = omega arith in
      record {
        sheet = sheet_kept r l m q g.sheet;
        same = q ∙ g.same;
        left = omega (arith, g.left, falls l m w g.sheet e);
        rest = λ d k t. subst (λ (i : ℕ). Run p r l₀ d i) (sum k n) (g.rest d (suc k) (more (sym e ∙ ap (λ (v : ℕ). record { labels = m; walked = v }) (one_less w i)) t));
      }
    where
      sum : (k n : ℕ) → suc k + n ≡ k + (n + 1)
      sum k n = omega arith

  pub going_done : (l₀ l m : List ℕ) (w n : ℕ) → Going p r l₀ l n → w ≡ 0 → record { labels = m; walked = w } ≡ scanned p r l → Run p r l₀ m (n + 1)
  going_done l₀ l m w n g z e = subst (λ (i : ℕ). Run p r l₀ m i) (sum n) (g.rest m 1 (done (sym e ∙ ap (λ (v : ℕ). record { labels = m; walked = v }) z)))
    where
      sum : (n : ℕ) → 1 + n ≡ n + 1
      sum n = omega arith

-- ---- what a run keeps: a reading of the labels that no store of the phase changes

pub record Same (p : Phase) (g : ℕ → Bool) : Type 0 where
  pub passing : g p.todo ≡ g p.pass
  pub setting : g p.done ≡ g p.todo
  pub marking : g p.mark ≡ g 8

module _ (p : Phase) (r : Axes) (g : ℕ → Bool) (k : Same p g) where
  read_kept : (m : List Bool) → Kept p r (λ l. map g l ≡ m)
  read_kept m = record {
    passing = λ l d h e a. map-set_same g l (num r d) p.todo 0 (k.passing ∙ sym (ap g e)) ∙ a;
    marking = λ l d h z e a. map-set_same g l (num r d) p.mark 0 (k.marking ∙ sym (ap g e)) ∙ a;
  }

  visit_read : (m : List Bool) (c : Cell) → InGrid r c → (s : State) → map g s.labels ≡ m → map g (visited p r c s).labels ≡ m
  visit_read m c h s a =
      let walk : (l : List ℕ) → map g l ≡ m → map g (walked_from p r c l) ≡ m = λ l. walk_keeps p r (λ l. map g l ≡ m) (read_kept m) c l h in
      by_visit p r c s
      (λ e q. ap (λ (s : State). map g s.labels) q ∙ walk _ (map-set_same g s.labels (num r c) p.done 0 (k.setting ∙ sym (ap g e)) ∙ a))
      (λ z e q. ap (λ (s : State). map g s.labels) q ∙ walk _ a)
      (λ z e q. ap (λ (s : State). map g s.labels) q ∙ a)

  scan_read : (l : List ℕ) → map g (scanned p r l).labels ≡ map g l
  scan_read l = scan_keeps p r (λ s. map g s.labels ≡ map g l) (visit_read (map g l)) l refl

  pub run_keeps : {l e : List ℕ} {n : ℕ} → Run p r l e n → map g e ≡ map g l
  run_keeps (done {l = l} q) = ap (λ (s : State). map g s.labels) (sym q) ∙ scan_read l
  run_keeps (more {l = l} q t) = run_keeps t ∙ ap (λ (s : State). map g s.labels) (sym q) ∙ scan_read l

-- ---- a set of labels that a phase stays in

abbrev pub All : (ℕ → Bool) → List ℕ → Type 0
All ok l = (n : ℕ) → n < length l → ok (get_or l n 0) ≡ true

pub record Stays (p : Phase) (ok : ℕ → Bool) : Type 0 where
  pub passing : ok p.todo ≡ true
  pub setting : ok p.done ≡ true
  pub marking : ok p.mark ≡ true

module _ (p : Phase) (r : Axes) (ok : ℕ → Bool) (k : Stays p ok) where
  store_all : (l : List ℕ) (n v : ℕ) → ok v ≡ true → All ok l → All ok (set l n v)
  store_all l n v e a t h =
      let g : t < length l = subst (λ (m : ℕ). t < m) (length-set l n v) h in
      dec_eq t n
      (λ q. ap (λ (x : ℕ). ok (get_or (set l n v) x 0)) q ∙ ap ok (get_or-set_same l n v 0 (subst (λ (x : ℕ). x < length l) q g)) ∙ e)
      (λ z. ap ok (get_or-set_other l n t v 0 z) ∙ a t g)

  all_kept : Kept p r (All ok)
  all_kept = record { passing = λ l d h e a. store_all l (num r d) p.todo k.passing a; marking = λ l d h z e a. store_all l (num r d) p.mark k.marking a }

  visit_all : (c : Cell) → InGrid r c → (s : State) → All ok s.labels → All ok (visited p r c s).labels
  visit_all c h s a =
      by_visit p r c s
      (λ e q. subst (λ (t : State). All ok t.labels) (sym q) (walk_keeps p r (All ok) all_kept c _ h (store_all s.labels (num r c) p.done k.setting a)))
      (λ z e q. subst (λ (t : State). All ok t.labels) (sym q) (walk_keeps p r (All ok) all_kept c _ h a))
      (λ z e q. subst (λ (t : State). All ok t.labels) (sym q) a)

  scan_all : (l : List ℕ) → All ok l → All ok (scanned p r l).labels
  scan_all l a = scan_keeps p r (λ s. All ok s.labels) visit_all l a

  pub run_stays : {l e : List ℕ} {n : ℕ} → Run p r l e n → All ok l → All ok e
  run_stays (done {l = l} q) a = subst (λ (s : State). All ok s.labels) q (scan_all l a)
  run_stays (more {l = l} q t) a = run_stays t (subst (λ (s : State). All ok s.labels) q (scan_all l a))
