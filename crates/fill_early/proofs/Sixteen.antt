-- Sixteen cells at a time: what is told of them, and what comes of one more. Assumes nothing.
use mathlib.Core.Bool.{Bool, true, false, not, cond, ◌&&◌, ◌||◌, true≢false}
use mathlib.Core.Logic.{◌⊎◌, inl, inr}
use mathlib.Core.Path.{◌≡◌, refl, sym, ap, subst, ◌∙◌}
use mathlib.Core.List.{List}
use Prim.Native.Nat.{ℕ, zero, suc, ◌+◌, ◌*◌, ◌-◌, ◌≤◌, ◌<◌}
use native.Mathlib.Omega.{arith}
use lib.Dec.{eqb}
use lib.ListN.{length, get_or, set, length-set}
use lib.Seq.{set-get_or, get_or-set_same, get_or-set_other}
use borrow.Author.Tests.{eq-eqb}
use Rattle.std.specs.Prelude.{Option, Some, None, unwrap_or}
use Rattle.grid.specs.declared.Axes.{Axes}
use Rattle.grid.specs.declared.Cell.{Cell}
use Rattle.grid.specs.Grid.{num, Sheet, at}
use Rattle.grid.proofs.Cells.{dec_eq}
use Rattle.grid.proofs.Checks.{or_false}
use Rattle.fill_walks.specs.declared.Phase.{Phase}
use Rattle.fill_walks.specs.Scan.{is_walker}
use Rattle.fill_walks.specs.Quiet.{Clear, Stops, Quiet}
use Rattle.fill_walks.proofs.Quiets.{early_quiet}
use Rattle.fill_groups.proofs.Cover.{eq_of, not_last}
use Rattle.fill_early.specs.Early.{step_if, IdleUnless, InRow, Other, Unmet, TellsNear, Sixteen, sets_early, stays, set_from}
use Rattle.fill_early.proofs.Looks.{step_some, quiet_near}
use Rattle.fill_early.proofs.EarlyLoop.{EarlyLoop, early_loop_none, early_loop_rest, early_loop_acts, early_loop_set}

-- ---- labels

false_ne : (v a : ℕ) → eqb v a ≡ false → v ≡ a → ⊥
false_ne v a e q = true≢false (sym (eq-eqb v a q) ∙ e)

pub other_than : (v a b : ℕ) → (eqb v a || eqb v b) ≡ false → Other a b v
other_than v a b e = let q = or_false (eqb v a) (eqb v b) e in record { first = false_ne v a q.0; second = false_ne v b q.1 }

-- a label that is neither the passed one nor the one that a walk changes
other_stops : (p : Phase) (b v : ℕ) → (b ≡ 8) ⊎ (p.mark ≡ 8) → Other p.pass b v → Stops p v
other_stops p b v (inl e) o = record { unpassed = o.first; unmarked = λ q. absurd (o.second (q ∙ sym e)) }
other_stops p b v (inr e) o = record { unpassed = o.first; unmarked = λ q. e }

-- a walker has this label; where nobody walks, it may be any
pub walker_is : (w : Option ℕ) (none v : ℕ) → is_walker w v ≡ true → v ≡ unwrap_or w none
walker_is None none v e = absurd (true≢false (sym e))
walker_is (Some s) none v e = eq_of v s e

-- ---- a loop that looks at d of them

pub record Looked (l : List ℕ) (a b : ℕ) (some : Bool) (d : ℕ) : Type 0 where
  pub none : some ≡ false → (x : ℕ) → x < d → Other a b (get_or l x 0)

pub looked_none : (l : List ℕ) (a b : ℕ) → Looked l a b false 0
looked_none l a b = record { none = λ e x h. absurd (omega arith) }

pub looked_more : (l : List ℕ) (a b : ℕ) (some x : Bool) (d : ℕ) → x ≡ (eqb (get_or l d 0) a || eqb (get_or l d 0) b) → Looked l a b some d → Looked l a b (some || x) (d + 1)
looked_more l a b some x d e k = record {
  none = λ q y g.
      let z = or_false some x q in
      dec_eq y d
      (λ u. subst (λ (t : ℕ). Other a b (get_or l t 0)) (sym u) (other_than (get_or l d 0) a b (sym e ∙ z.1)))
      (λ u. k.none z.0 y (not_last y d g u));
}

-- ---- a loop that tells d of them

pub record Telling (l : List ℕ) (n up down a b : ℕ) (told t : List ℕ) (d : ℕ) : Type 0 where
  pub most : d ≤ 16
  pub size : length t ≡ 16
  pub done : (x : ℕ) → x < d → get_or t x 0 ≡ 0 → Unmet l n up down a b told x
  pub rest : (x : ℕ) → d ≤ x → get_or t x 0 ≡ get_or told x 0

module _ (l : List ℕ) (n up down a b : ℕ) (told : List ℕ) where
  pub telling_none : length told ≡ 16 → Telling l n up down a b told told 0
  telling_none e = record { most = omega arith; size = e; done = λ x h q. absurd (omega arith); rest = λ x h. refl }

  -- a cell with a label met is told, another is as it was
  one_told : (met : Bool) (v : ℕ) → cond met 1 v ≡ 0 → (met ≡ false) × (v ≡ 0)
  one_told true v e = absurd (omega (arith, e))
  one_told false v e = (refl, e)

  pub telling_more : (t : List ℕ) (d : ℕ) (x y : Bool) → d < 16 → x ≡ (eqb (get_or l (n + up + d) 0) a || eqb (get_or l (n + up + d) 0) b) → y ≡ (eqb (get_or l (n - down + d) 0) a || eqb (get_or l (n - down + d) 0) b) → Telling l n up down a b told t d
      → Telling l n up down a b told (set t d (cond (x || y) 1 (get_or t d 0))) (d + 1)
  telling_more t d x y h e f k = record {
    most = omega arith;
    size = length-set t d v ∙ k.size;
    done = λ z g q. dec_eq z d
        (λ u.
        let w = one_told (x || y) (get_or t d 0) (sym (get_or-set_same t d v 0 (omega (arith, k.size))) ∙ ap (λ (i : ℕ). get_or (set t d v) i 0) (sym u) ∙ q) in
        let s = or_false x y w.0 in
        subst (Unmet l n up down a b told) (sym u) (record { before = sym (k.rest d (omega arith)) ∙ w.1; above = other_than (get_or l (n + up + d) 0) a b (sym e ∙ s.0); under = other_than (get_or l (n - down + d) 0) a b (sym f ∙ s.1) }))
        (λ u. k.done z (not_last z d g u) (sym (get_or-set_other t d z v 0 u) ∙ q));
    rest = λ z g. get_or-set_other t d z v 0 (λ u. past z d g u) ∙ k.rest z (omega arith);
  }
    where
      v : ℕ
      v = cond (x || y) 1 (get_or t d 0)

      past : (z d : ℕ) → d + 1 ≤ z → z ≡ d → ⊥
      past z d g u = omega arith

-- ---- three axes told one after the other: a cell that is not told is quiet

module _ (p : Phase) (r : Axes) (l : List ℕ) (first j k n b : ℕ) (sure : (b ≡ 8) ⊎ (p.mark ≡ 8)) (e : n ≡ num r (record { i = first; j = j; k = k })) where
  pub untold_quiet : (t u v w : List ℕ) → 0 < first → first + 16 < r.r0 → j < r.r1 → k < r.r2
      → TellsNear l n 1 1 p.pass b t u
      → TellsNear l n (step_if (r.r1 - (j + 1)) r.r0) (step_if j r.r0) p.pass b u v
      → TellsNear l n (step_if (r.r2 - (k + 1)) (r.r0 * r.r1)) (step_if k (r.r0 * r.r1)) p.pass b v w
      → step_if j r.r0 ≤ n → step_if k (r.r0 * r.r1) ≤ n
      → (d : ℕ) → d < 16 → get_or w d 0 ≡ 0 → Quiet p r l (record { i = first + d; j = j; k = k })
  untold_quiet t u v w f g h i of-i of-j of-k x y d m z =
      let c : Cell = record { i = first + d; j = j; k = k } in
      let a3 = of-k d m z in
      let a2 = of-j d m a3.before in
      let a1 = of-i d m a2.before in
      let stops : (s : ℕ) → Other p.pass b (get_or l s 0) → Stops p (get_or l s 0) = λ s. other_stops p b (get_or l s 0) sure in
      quiet_near r c (record { i_in = omega arith; j_in = h; k_in = i }) l p
      (at_as (stops _ a1.above) (omega (arith, e, step_some (r.r0 - (first + d + 1)) 1 (omega arith))), at_as (stops _ a1.under) (omega (arith, e, step_some (first + d) 1 (omega arith))))
      (at_as (stops _ a2.above) (omega (arith, e)), at_as (stops _ a2.under) (omega (arith, e)))
      (at_as (stops _ a3.above) (omega (arith, e)), at_as (stops _ a3.under) (omega (arith, e)))
    where
      at_as : {s q : ℕ} → Stops p (get_or l s 0) → s ≡ q → Stops p (get_or l q 0)
      at_as x e = subst (λ (s : ℕ). Stops p (get_or l s 0)) e x

-- ---- one cell more is idle

module _ (p : Phase) (k : Clear p) (r : Axes) (first end j q : ℕ) (l₀ : List ℕ) (w₀ : ℕ) where
  or_no : (b : Bool) → (b || false) ≡ b
  or_no true = refl
  or_no false = refl

  or_yes : (b : Bool) → (b || true) ≡ true
  or_yes true = refl
  or_yes false = refl

  pub set_one : {l : List ℕ} {w i : ℕ} {acting : Bool} (m other : ℕ) (stops : Bool) → EarlyLoop p r first end j q l₀ w₀ l w i acting → i < end → end ≤ r.r0 → j < r.r1 → q < r.r2 → m ≡ num r (record { i = i; j = j; k = q })
      → (stops ≡ true → Quiet p r l (record { i = i; j = j; k = q })) → ((v : ℕ) → is_walker p.walkers v ≡ true → v ≡ other)
      → EarlyLoop p r first end j q l₀ w₀ (set l m (cond (eqb (get_or l m 0) p.todo && stops) p.done (get_or l m 0))) (w + cond (eqb (get_or l m 0) p.todo && stops) 1 0) (i + 1) (acting || ((eqb (get_or l m 0) p.todo || eqb (get_or l m 0) other) && not stops))
  set_one {l = l} {w = w} {i = i} {acting = acting} m other stops a h g u v t s o = go (eqb (get_or l m 0) p.todo) refl stops s (eqb (get_or l m 0) other) refl
    where
      c : Cell
      c = record { i = i; j = j; k = q }

      there : (x : Bool) → at r l (record { i = i; j = j; k = q }) ≡ get_or l m 0
      there x = ap (λ (n : ℕ). get_or l n 0) (sym t)

      kept : EarlyLoop p r first end j q l₀ w₀ l w (i + 1) acting → EarlyLoop p r first end j q l₀ w₀ (set l m (get_or l m 0)) (w + 0) (i + 1) (acting || false)
      kept y = subst (λ (b : Bool). EarlyLoop p r first end j q l₀ w₀ (set l m (get_or l m 0)) (w + 0) (i + 1) b) (sym (or_no acting)) (subst (λ (x : ℕ). EarlyLoop p r first end j q l₀ w₀ (set l m (get_or l m 0)) x (i + 1) acting) (plus w) (subst (λ (x : List ℕ). EarlyLoop p r first end j q l₀ w₀ x w (i + 1) acting) (sym (set-get_or l m 0)) y))
        where
          plus : (w : ℕ) → w ≡ w + 0
          plus w = omega arith

      acted : EarlyLoop p r first end j q l₀ w₀ (set l m (get_or l m 0)) (w + 0) (i + 1) (acting || true)
      acted = subst (λ (b : Bool). EarlyLoop p r first end j q l₀ w₀ (set l m (get_or l m 0)) (w + 0) (i + 1) b) (sym (or_yes acting)) (subst (λ (x : ℕ). EarlyLoop p r first end j q l₀ w₀ (set l m (get_or l m 0)) x (i + 1) true) (plus w) (subst (λ (x : List ℕ). EarlyLoop p r first end j q l₀ w₀ x w (i + 1) true) (sym (set-get_or l m 0)) (early_loop_acts p k r first end j q l₀ w₀ a h)))
        where
          plus : (w : ℕ) → w ≡ w + 0
          plus w = omega arith

      go : (x : Bool) → eqb (get_or l m 0) p.todo ≡ x → (y : Bool) → (y ≡ true → Quiet p r l (record { i = i; j = j; k = q })) → (z : Bool) → eqb (get_or l m 0) other ≡ z
          → EarlyLoop p r first end j q l₀ w₀ (set l m (cond (x && y) p.done (get_or l m 0))) (w + cond (x && y) 1 0) (i + 1) (acting || ((x || z) && not y))
      go true e true f z d = subst (λ (b : Bool). EarlyLoop p r first end j q l₀ w₀ (set l m p.done) (w + 1) (i + 1) b) (sym (or_no acting)) (early_loop_set p k r first end j q l₀ w₀ m a h g u v t (there true ∙ eq_of (get_or l m 0) p.todo e) (f refl))
      go true e false f z d = acted
      go false e true f z d = subst (λ (b : Bool). EarlyLoop p r first end j q l₀ w₀ (set l m (get_or l m 0)) (w + 0) (i + 1) (acting || b)) (sym (and_no z)) (kept (early_loop_rest p k r first end j q l₀ w₀ a h (record { walked = λ n. false_ne (get_or l m 0) p.todo e (sym (there true) ∙ n); quiet = λ n. f refl })))
        where
          and_no : (z : Bool) → (z && false) ≡ false
          and_no true = refl
          and_no false = refl
      go false e false f true d = acted
      go false e false f false d = kept (early_loop_rest p k r first end j q l₀ w₀ a h (record { walked = λ n. false_ne (get_or l m 0) p.todo e (sym (there true) ∙ n); quiet = λ n. absurd (false_ne (get_or l m 0) other d (o (get_or l m 0) (ap (is_walker p.walkers) (sym (there true)) ∙ n))) }))

-- ---- the loop over the sixteen

pub one_most : (b : Bool) → cond b 1 0 ≤ 1
one_most true = omega arith
one_most false = omega arith

pub record Settling (todo done other : ℕ) (told : List ℕ) (n : ℕ) (l₀ l : List ℕ) (count : ℕ) (acting : Bool) (d : ℕ) : Type 0 where
  pub most : d ≤ 16
  pub size : length l ≡ length l₀
  pub few : count ≤ d
  pub rest : set_from todo done other told n (16 - d) d (record { labels = l; set = count; acting = acting }) ≡ set_from todo done other told n 16 0 (record { labels = l₀; set = 0; acting = false })

module _ (todo done other : ℕ) (told : List ℕ) (n : ℕ) (l₀ : List ℕ) where
  pub settling_none : Settling todo done other told n l₀ l₀ 0 false 0
  settling_none = record { most = omega arith; size = refl; few = omega arith; rest = refl }

  set_step : (l : List ℕ) (count : ℕ) (acting : Bool) (d m x : ℕ) → x ≡ suc m → set_from todo done other told n x d (record { labels = l; set = count; acting = acting }) ≡ set_from todo done other told n m (d + 1) (record { labels = set l (n + d) (cond (sets_early todo told n d l) done (get_or l (n + d) 0)); set = count + cond (sets_early todo told n d l) 1 0; acting = acting || stays todo other told n d l })
  unfolding set_from
  set_step l count acting d m x e = ap (λ (y : ℕ). set_from todo done other told n y d (record { labels = l; set = count; acting = acting })) e

  pub settling_more : {l : List ℕ} {count : ℕ} {acting : Bool} {d : ℕ} (v x : ℕ) (y : Bool) → d < 16 → Settling todo done other told n l₀ l count acting d
      → v ≡ cond (sets_early todo told n d l) done (get_or l (n + d) 0) → x ≡ cond (sets_early todo told n d l) 1 0 → y ≡ stays todo other told n d l
      → Settling todo done other told n l₀ (set l (n + d) v) (count + x) (acting || y) (d + 1)
  settling_more {l = l} {count = count} {acting = acting} {d = d} v x y h a e f g = record {
    most = omega arith;
    size = length-set l (n + d) v ∙ a.size;
    few = omega (arith, a.few, one_most (sets_early todo told n d l), f);
    rest = ap (λ (s : Sixteen). set_from todo done other told n (16 - (d + 1)) (d + 1) s) (same e f g) ∙ sym (step d h) ∙ a.rest;
  }
    where
      same : v ≡ cond (sets_early todo told n d l) done (get_or l (n + d) 0) → x ≡ cond (sets_early todo told n d l) 1 0 → y ≡ stays todo other told n d l
          → ◌≡◌ {A = Sixteen} (record { labels = set l (n + d) v; set = count + x; acting = acting || y }) (record { labels = set l (n + d) (cond (sets_early todo told n d l) done (get_or l (n + d) 0)); set = count + cond (sets_early todo told n d l) 1 0; acting = acting || stays todo other told n d l })
      same e f g = ap (λ (t : ℕ). record { labels = set l (n + d) t; set = count + x; acting = acting || y }) e ∙ ap (λ (t : ℕ). record { labels = set l (n + d) (cond (sets_early todo told n d l) done (get_or l (n + d) 0)); set = count + t; acting = acting || y }) f ∙ ap (λ (t : Bool). record { labels = set l (n + d) (cond (sets_early todo told n d l) done (get_or l (n + d) 0)); set = count + cond (sets_early todo told n d l) 1 0; acting = acting || t }) g

      one_left : (d : ℕ) → d < 16 → 16 - d ≡ suc (16 - (d + 1))
      one_left d h = omega arith

      step : (d : ℕ) → d < 16 → set_from todo done other told n (16 - d) d (record { labels = l; set = count; acting = acting }) ≡ set_from todo done other told n (16 - (d + 1)) (d + 1) (record { labels = set l (n + d) (cond (sets_early todo told n d l) done (get_or l (n + d) 0)); set = count + cond (sets_early todo told n d l) 1 0; acting = acting || stays todo other told n d l })
      step d h = set_step l count acting d (16 - (d + 1)) (16 - d) (one_left d h)

  pub settling_all : {l : List ℕ} {count : ℕ} {acting : Bool} {d : ℕ} → Settling todo done other told n l₀ l count acting d → 16 ≤ d → record { labels = l; set = count; acting = acting } ≡ set_from todo done other told n 16 0 (record { labels = l₀; set = 0; acting = false })
  unfolding set_from
  settling_all {l = l} {count = count} {acting = acting} {d = d} a h = ap (λ (m : ℕ). set_from todo done other told n m d (record { labels = l; set = count; acting = acting })) (none d h) ∙ a.rest
    where
      none : (d : ℕ) → 16 ≤ d → 0 ≡ 16 - d
      none d h = omega arith

-- ---- and what comes of them all

module _ (p : Phase) (k : Clear p) (r : Axes) (first j q n other : ℕ) (told l₀ : List ℕ) (w₀ : ℕ) (g : first + 16 < r.r0) (u : j < r.r1) (v : q < r.r2) (e : n ≡ num r (record { i = first; j = j; k = q }))
    (untold : (d : ℕ) → d < 16 → get_or told d 0 ≡ 0 → Quiet p r l₀ (record { i = first + d; j = j; k = q })) (o : (x : ℕ) → is_walker p.walkers x ≡ true → x ≡ other) where
  all_from : (m d : ℕ) (l : List ℕ) (count : ℕ) (acting : Bool) → d + m ≡ 16 → EarlyLoop p r first (first + 16) j q l₀ w₀ l (w₀ + count) (first + d) acting
      → let s = set_from p.todo p.done other told n m d (record { labels = l; set = count; acting = acting }) in EarlyLoop p r first (first + 16) j q l₀ w₀ s.labels (w₀ + s.set) (first + 16) s.acting
  unfolding set_from
  all_from zero d l count acting h a = subst (λ (x : ℕ). EarlyLoop p r first (first + 16) j q l₀ w₀ l (w₀ + count) x acting) (omega arith) a
  all_from (suc m) d l count acting h a =
      all_from m (d + 1) _ _ _ (omega arith)
      (turned d count _ _ _ (set_one p k r first (first + 16) j q l₀ w₀ (n + d) other (eqb (get_or told d 0) 0) a (omega arith) (omega arith) u v (omega (arith, e)) (λ y. early_quiet p k r l₀ l a.early_same.early (record { i = first + d; j = j; k = q }) (record { i_in = omega arith; j_in = u; k_in = v }) (untold d (omega arith) (eq_of (get_or told d 0) 0 y))) o))
    where
      turned : (d count : ℕ) (m : List ℕ) (x : ℕ) (b : Bool) → EarlyLoop p r first (first + 16) j q l₀ w₀ m (w₀ + count + x) (first + d + 1) b → EarlyLoop p r first (first + 16) j q l₀ w₀ m (w₀ + (count + x)) (first + (d + 1)) b
      turned d count m x b y = subst (λ (i : ℕ). EarlyLoop p r first (first + 16) j q l₀ w₀ m (w₀ + (count + x)) i b) (omega arith) (subst (λ (w : ℕ). EarlyLoop p r first (first + 16) j q l₀ w₀ m w (first + d + 1) b) (omega arith) y)

  pub all_sixteen : Sheet r l₀ → (m : List ℕ) (count : ℕ) (acting : Bool) → record { labels = m; set = count; acting = acting } ≡ set_from p.todo p.done other told n 16 0 (record { labels = l₀; set = 0; acting = false })
      → EarlyLoop p r first (first + 16) j q l₀ w₀ m (w₀ + count) (first + 16) acting
  all_sixteen s m count acting h =
      subst (λ (x : Sixteen). EarlyLoop p r first (first + 16) j q l₀ w₀ x.labels (w₀ + x.set) (first + 16) x.acting) (sym h)
      (all_from 16 0 l₀ 0 false refl (started (early_loop_none p k r first (first + 16) j q l₀ w₀ (omega arith) s)))
    where
      started : EarlyLoop p r first (first + 16) j q l₀ w₀ l₀ w₀ first false → EarlyLoop p r first (first + 16) j q l₀ w₀ l₀ (w₀ + 0) (first + 0) false
      started y = subst (λ (i : ℕ). EarlyLoop p r first (first + 16) j q l₀ w₀ l₀ (w₀ + 0) i false) (omega arith) (subst (λ (w : ℕ). EarlyLoop p r first (first + 16) j q l₀ w₀ l₀ w first false) (omega arith) y)

pub tells_as : {l : List ℕ} {n u v d e a b : ℕ} (t s : List ℕ) → u ≡ v → d ≡ e → TellsNear l n u d a b t s → TellsNear l n v e a b t s
tells_as {l = l} {n = n} {v = v} {d = d} {a = a} {b = b} t s x y f = subst (λ (z : ℕ). TellsNear l n v z a b t s) y (subst (λ (z : ℕ). TellsNear l n z d a b t s) x f)

-- sixteen cells that are not to walk, and do not walk, are idle
pub others_rest : (p : Phase) (r : Axes) (l : List ℕ) (first j q n other : ℕ) → n ≡ num r (record { i = first; j = j; k = q }) → ((x : ℕ) → is_walker p.walkers x ≡ true → x ≡ other) → ((d : ℕ) → d < 16 → Other p.todo other (get_or l (n + d) 0)) → {acting : Bool} → IdleUnless p r l acting (InRow first (first + 16) j q)
others_rest p r l first j q n other e o f a c h s =
    let d : ℕ = c.i - first in
    let g : Other p.todo other (at r l c) = subst (λ (x : ℕ). Other p.todo other (get_or l x 0)) (there d c s.i_least s.j_same s.k_same refl) (f d (omega (arith, s.i_least, s.i_most))) in
    record { walked = g.first; quiet = λ y. absurd (g.second (o (at r l c) y)) }
  where
    there : (d : ℕ) (c : Cell) → first ≤ c.i → c.j ≡ j → c.k ≡ q → d ≡ c.i - first → n + d ≡ num r c
    there d c a b z y = ap (λ (x : ℕ). x + d) e ∙ omega (arith, ap (λ (x : ℕ). x * r.r0) b, ap (λ (x : ℕ). x * (r.r0 * r.r1)) z)
