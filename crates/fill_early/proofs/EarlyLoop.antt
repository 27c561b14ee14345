-- What the loops of `fill_early` go by. Assumes nothing.
use mathlib.Core.Bool.{Bool, true, false, ◌||◌, cond, true≢false}
use mathlib.Core.Path.{◌≡◌, refl, sym, ap, subst, ◌∙◌}
use mathlib.Core.List.{List}
use Prim.Native.Nat.{ℕ, ◌+◌, ◌*◌, ◌-◌, ◌/◌, ◌≤◌, ◌<◌}
use native.Mathlib.Nat.{mul-add}
use native.Mathlib.Omega.{arith}
use lib.ListN.{length, set, length-set}
use Rattle.grid.specs.declared.Axes.{Axes}
use Rattle.grid.specs.declared.Cell.{Cell}
use Rattle.grid.specs.Grid.{num, InGrid, Sound, Sheet, at}
use Rattle.grid.proofs.Checks.{or_false}
use Rattle.grid.proofs.Cells.{dec_eq, cell_path, num_lt, here, sheet_kept}
use Rattle.fill_walks.specs.declared.Phase.{Phase}
use Rattle.fill_walks.specs.Scan.{is_walker}
use Rattle.fill_walks.specs.Quiet.{Clear, Quiet, Idle}
use Rattle.fill_walks.proofs.Quiets.{sooner_same, early_idle, early_none, early_one, early_then}
use Rattle.fill_groups.specs.Groups.{place_at, place_of, Covers}
use Rattle.fill_groups.proofs.Cover.{covers_early, covers_lower, covers_raise, raises_set, not_last}
use Rattle.fill_early.specs.Early.{EarlySame, IdleUnless, InRow, InRows, Grouped}

-- ---- a row, up to i

pub record EarlyLoop (p : Phase) (r : Axes) (first end j q : ℕ) (l₀ : List ℕ) (w₀ : ℕ) (l : List ℕ) (w i : ℕ) (acting : Bool) : Type 0 where
  pub least : first ≤ i
  pub most : i ≤ end
  pub sheet : Sheet r l
  pub few : w + first ≤ w₀ + i
  pub early_same : EarlySame p r first end l₀ w₀ l w
  pub idle_unless : IdleUnless p r l acting (InRow first i j q)

module _ (p : Phase) (k : Clear p) (r : Axes) (first end : ℕ) where
  pub early_same_none : (l : List ℕ) (w : ℕ) → EarlySame p r first end l w l w
  early_same_none l w = record { early = early_none p l; same = refl }

  pub early_same_then : {l m e : List ℕ} {w v x : ℕ} → EarlySame p r first end l w m v → EarlySame p r first end m v e x → EarlySame p r first end l w e x
  early_same_then a b = record { early = early_then p k a.early b.early; same = b.same ∙ a.same }

  -- what was idle before still is
  pub idle_unless_on : {l m : List ℕ} {w v : ℕ} {acting : Bool} {S : Cell → Type 0} → EarlySame p r first end l w m v → IdleUnless p r l acting S → IdleUnless p r m acting S
  idle_unless_on {l = l} {m = m} a f e c h s = early_idle p k r l m a.early c h (f e c h s)

  module _ (j q : ℕ) (l₀ : List ℕ) (w₀ : ℕ) where
    pub early_loop_none : first ≤ end → Sheet r l₀ → EarlyLoop p r first end j q l₀ w₀ l₀ w₀ first false
    early_loop_none h s = record {
      least = omega arith;
      most = h;
      sheet = s;
      few = omega arith;
      early_same = early_same_none l₀ w₀;
      idle_unless = λ e c i x. absurd (omega (arith, x.i_least, x.i_most));
    }

    -- what is idle, with one cell more
    idle_unless_more : (l : List ℕ) (i : ℕ) (acting : Bool) → (acting ≡ false → Idle p r l (record { i = i; j = j; k = q })) → IdleUnless p r l acting (InRow first i j q) → IdleUnless p r l acting (InRow first (i + 1) j q)
    idle_unless_more l i acting s f e c h x =
        dec_eq c.i i
        (λ y. subst (Idle p r l) (sym (cell_path c (record { i = i; j = j; k = q }) y x.j_same x.k_same)) (s e))
        (λ z. f e c h (record { i_least = x.i_least; i_most = not_last c.i i x.i_most z; j_same = x.j_same; k_same = x.k_same }))

    pub early_loop_rest : {l : List ℕ} {w i : ℕ} {acting : Bool} → EarlyLoop p r first end j q l₀ w₀ l w i acting → i < end → Idle p r l (record { i = i; j = j; k = q }) → EarlyLoop p r first end j q l₀ w₀ l w (i + 1) acting
    early_loop_rest {l = l} {i = i} {acting = acting} a h s = record {
      least = omega (arith, a.least);
      most = omega arith;
      sheet = a.sheet;
      few = omega (arith, a.few);
      early_same = a.early_same;
      idle_unless = idle_unless_more l i acting (λ e. s) a.idle_unless;
    }

    pub early_loop_acts : {l : List ℕ} {w i : ℕ} {acting : Bool} → EarlyLoop p r first end j q l₀ w₀ l w i acting → i < end → EarlyLoop p r first end j q l₀ w₀ l w (i + 1) true
    early_loop_acts a h = record {
      least = omega (arith, a.least);
      most = omega arith;
      sheet = a.sheet;
      few = omega (arith, a.few);
      early_same = a.early_same;
      idle_unless = λ e c i x. absurd (true≢false e);
    }

    -- the cell is set
    pub early_loop_set : {l : List ℕ} {w i : ℕ} {acting : Bool} (n : ℕ) → EarlyLoop p r first end j q l₀ w₀ l w i acting → i < end → end ≤ r.r0 → j < r.r1 → q < r.r2 → n ≡ num r (record { i = i; j = j; k = q }) → at r l (record { i = i; j = j; k = q }) ≡ p.todo → Quiet p r l (record { i = i; j = j; k = q })
        → EarlyLoop p r first end j q l₀ w₀ (set l n p.done) (w + 1) (i + 1) acting
    early_loop_set {l = l} {w = w} {i = i} {acting = acting} n a h g u v t e s =
        let c : Cell = record { i = i; j = j; k = q } in
        let b : InGrid r c = record { i_in = omega arith; j_in = u; k_in = v } in
        let within : num r c < length l = rw a.sheet.size (num_lt r c b) in
        let m : List ℕ = set l (num r c) p.done in
        let one : EarlySame p r first end l w m (w + 1) = record {
          early = early_one p l (num r c) within e;
          same = sooner_same p k r c b (end - first) first a.least (omega (arith, a.least)) (omega (arith, a.least)) (record { labels = l; walked = w }) (record { size = a.sheet.size; todo = e; quiet = s });
        } in
        let now : at r m c ≡ p.done = here r l p.done c b a.sheet.size in
        subst (λ (x : ℕ). EarlyLoop p r first end j q l₀ w₀ (set l x p.done) (w + 1) (i + 1) acting) (sym t)
        (record {
          least = omega (arith, a.least);
          most = omega arith;
          sheet = sheet_kept r l m (length-set l (num r c) p.done) a.sheet;
          few = omega (arith, a.few);
          early_same = early_same_then a.early_same one;
          idle_unless = idle_unless_more m i acting (λ x. record { walked = λ y. k.proper.set_unwalked (sym now ∙ y); quiet = λ y. absurd (true≢false (sym y ∙ ap (is_walker p.walkers) now ∙ k.set_stays)) }) (idle_unless_on one a.idle_unless);
        })

-- ---- rows, up to k

pub record Rows (p : Phase) (r : Axes) (first end j from to : ℕ) (l₀ : List ℕ) (w₀ : ℕ) (l : List ℕ) (w q : ℕ) (acting : Bool) : Type 0 where
  pub least : from ≤ q
  pub most : q ≤ to
  pub sheet : Sheet r l
  pub few : w + 256 * from ≤ w₀ + 256 * q
  pub early_same : EarlySame p r first end l₀ w₀ l w
  pub idle_unless : IdleUnless p r l acting (InRows first end j from q)

module _ (p : Phase) (k : Clear p) (r : Axes) (first end j from to : ℕ) (l₀ : List ℕ) (w₀ : ℕ) where
  pub rows_none : from ≤ to → Sheet r l₀ → Rows p r first end j from to l₀ w₀ l₀ w₀ from false
  rows_none h s = record {
    least = omega arith;
    most = h;
    sheet = s;
    few = omega arith;
    early_same = early_same_none p k r first end l₀ w₀;
    idle_unless = λ e c i x. absurd (omega (arith, x.k_least, x.k_most));
  }

  pub rows_more : {l m : List ℕ} {w v q : ℕ} {acting a : Bool} → Rows p r first end j from to l₀ w₀ l w q acting → q < to → end ≤ 256
      → EarlySame p r first end l w m v → v + first ≤ w + end → IdleUnless p r m a (InRow first end j q) → Rows p r first end j from to l₀ w₀ m v (q + 1) (acting || a)
  rows_more {l = l} {m = m} {q = q} {acting = acting} {a = a} s h g b n f = record {
    least = omega (arith, s.least);
    most = omega arith;
    sheet = sheet_kept r l m b.early.size s.sheet;
    few = omega (arith, s.few);
    early_same = early_same_then p k r first end s.early_same b;
    idle_unless = λ e c i x.
        let y = or_false acting a e in
        dec_eq c.k q
        (λ z. f y.1 c i (record { i_least = x.i_least; i_most = x.i_most; j_same = x.j_same; k_same = z }))
        (λ z. idle_unless_on p k r first end b s.idle_unless y.0 c i (record { i_least = x.i_least; i_most = x.i_most; j_same = x.j_same; k_least = x.k_least; k_most = not_last c.k q x.k_most z }));
  }

-- ---- groups

module _ (p : Phase) (k : Clear p) (r : Axes) (first end j from to : ℕ) (g : Grouped r first end from to) (sound : Sound r) (j_in : j < r.r1) where
  -- a cell whose place is that of the group is of its rows
  of_group : (c : Cell) → InGrid r c → place_of c ≡ place_at first j from → InRows first end j from to c
  of_group c h e =
      let a : c.j < 256 = omega (arith, h.j_in, sound.axis1.most) in
      let b : c.k < 256 = omega (arith, h.k_in, sound.axis2.most) in
      let d : j < 256 = omega (arith, sound.axis1.most) in
      let f : from < 256 = omega (arith, g.some, sound.axis2.most) in
      let u = same_parts ((c.i + 15) / 16) c.k c.j ((first + 15) / 16) from j a b d f e in
      let v = g.block.whole c.i h.i_in u.0 in
      record {
        i_least = v.0;
        i_most = v.1;
        j_same = u.2;
        k_least = omega (arith, u.1, g.starts);
        k_most = omega (arith, u.1, g.starts, g.ends, h.k_in);
      }
    where
      same_parts : (x y z s t u : ℕ) → z < 256 → y < 256 → u < 256 → t < 256 → (x * 16 + y / 16) * 256 + z ≡ (s * 16 + t / 16) * 256 + u → (x ≡ s) × (y / 16 ≡ t / 16) × (z ≡ u)
      same_parts x y z s t u a b c d e = (omega arith, omega arith, omega arith)

  -- it is left raised only if one of them may act
  pub group_covers : {l m t : List ℕ} {w v n : ℕ} (acting : Bool) → EarlySame p r first end l w m v → Covers p r l t → IdleUnless p r m acting (InRows first end j from to) → n ≡ place_at first j from → n < length t → Covers p r m (set t n (cond acting 1 0))
  group_covers {l = l} {m = m} {t = t} {n = n} true b s f e h = covers_raise p r m t (set t n 1) (raises_set t n h) (covers_early p k r l m t b.early s)
  group_covers {l = l} {m = m} {t = t} {n = n} false b s f e h = covers_lower p r m t n (covers_early p k r l m t b.early s) (λ c i q. f refl c i (of_group c i (q ∙ e)))

-- ---- a loop over parts of a block, of which each adds at most u to what is walked

pub record Parts (p : Phase) (r : Axes) (first end u : ℕ) (l₀ t₀ : List ℕ) (w₀ : ℕ) (l t : List ℕ) (w x : ℕ) : Type 0 where
  pub sheet : Sheet r l
  pub size : length t ≡ length t₀
  pub few : w ≤ w₀ + u * x
  pub early_same : EarlySame p r first end l₀ w₀ l w
  pub covers : Covers p r l t

module _ (p : Phase) (k : Clear p) (r : Axes) (first end u : ℕ) (l₀ t₀ : List ℕ) (w₀ : ℕ) where
  pub parts_none : Sheet r l₀ → Covers p r l₀ t₀ → Parts p r first end u l₀ t₀ w₀ l₀ t₀ w₀ 0
  parts_none s v = record { sheet = s; size = refl; few = omega arith; early_same = early_same_none p k r first end l₀ w₀; covers = v }

  pub parts_more : {l m t s : List ℕ} {w v x : ℕ} → Parts p r first end u l₀ t₀ w₀ l t w x → length s ≡ length t → v ≤ w + u → EarlySame p r first end l w m v → Covers p r m s → Parts p r first end u l₀ t₀ w₀ m s v (x + 1)
  parts_more {l = l} {m = m} {x = x} a e h b c = record {
    sheet = sheet_kept r l m b.early.size a.sheet;
    size = e ∙ a.size;
    few = omega (arith, a.few, mul-add u x 1);
    early_same = early_same_then p k r first end a.early_same b;
    covers = c;
  }
