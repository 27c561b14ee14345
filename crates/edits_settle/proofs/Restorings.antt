-- Marks become 6 again. Assumes nothing.
use mathlib.Core.Bool.{Bool, true, false, cond, ◌&&◌}
use mathlib.Core.Logic.{◌⊎◌, inl, inr, ⊎_elim}
use mathlib.Core.Path.{◌≡◌, refl, sym, ap, subst, ◌∙◌}
use mathlib.Core.List.{List}
use Prim.Native.Nat.{ℕ, ◌+◌, ◌<◌, ◌≤◌, zero-le}
use native.Mathlib.Omega.{arith}
use lib.Dec.{eqb, ltb}
use lib.ListN.{length}
use borrow.Author.Tests.{lt-ltb, le-ltb, le-leb, lt-leb}
use Rattle.grid.specs.declared.Axes.{Axes}
use Rattle.grid.specs.declared.Cell.{Cell}
use Rattle.grid.specs.Grid.{num, cells, InGrid, at, Sheet}
use Rattle.grid.specs.Passes.{becomes, Within}
use Rattle.grid.specs.Ways.{beside}
use Rattle.grid.proofs.Cells.{dec_eq, num_lt}
use Rattle.grid.proofs.First.{le_or_lt}
use Rattle.edits_reach.specs.declared.Seen.{Seen}
use Rattle.edits_reach.specs.Reach.{way_of, Sees}
use Rattle.edits_settle.specs.Closing.{Rooted, Roots, Relabels, Restores, is_mark, is_below}
use Rattle.edits_settle.proofs.Settlings.{root_keep, relabelled_so, relabelled_not}

if_so : (b : Bool) (x y : ℕ) → b ≡ true → cond b x y ≡ x
if_so b x y e = ap (λ (t : Bool). cond t x y) e

if_not : (b : Bool) (x y : ℕ) → b ≡ false → cond b x y ≡ y
if_not b x y e = ap (λ (t : Bool). cond t x y) e

pub below_so : (v t : ℕ) → v < t → cond (ltb v t) 6 v ≡ 6
below_so v t h = if_so (ltb v t) 6 v (lt-ltb v t h)

pub below_not : (v t : ℕ) → t ≤ v → cond (ltb v t) 6 v ≡ v
below_not v t h = if_not (ltb v t) 6 v (le-ltb v t h)

module _ (r : Axes) (c : Cell) (hc : InGrid r c) (d : ℕ) (low : d < 6) (l : List ℕ) (fits : Sheet r l) where
  pub restored_none : (a : Seen) → Sees r l c d a → (a.label ≡ d → ⊥) → Restores (is_mark d) r c l l
  restored_none a s z = record {
    size = refl;
    each = λ roots x h. sym (relabelled_not (at r l x) d 6 (λ e.
        let k = subst (λ (v : ℕ). Rooted r c l v x) e (roots x h (subst (λ (v : ℕ). v < 6) (sym e) low)) in
        z (s.label k.some ∙ k.root)));
  }

  pub restored : (e : List ℕ) → Relabels r (beside (way_of d) c) d 6 l e → Restores (is_mark d) r c l e
  restored e k = record {
    size = k.size;
    each = λ roots. k.each (λ y g p. (subst (λ (v : ℕ). Rooted r c l v y) p (roots y g (subst (λ (v : ℕ). v < 6) (sym p) low))).path);
  }

module _ (r : Axes) (c : Cell) (l : List ℕ) where
  pub restores_none : Restores (is_below 0) r c l l
  restores_none = record { size = refl; each = λ _ x h. sym (below_not (at r l x) 0 (omega arith)) }

  -- all of them in one pass
  pub restores_swept : length l ≡ cells r → (n : ℕ) (e : List ℕ) → n ≡ length l → Within 0 n (λ _. becomes 0 5 6) l e → Restores (is_below 6) r c l e
  restores_swept size n e len k = record { size = k.size; each = λ _ x h. k.passed (num r x) zero-le (omega (arith, len, size, num_lt r x h)) ∙ same (at r l x) }
    where
      same : (v : ℕ) → becomes 0 5 6 v ≡ cond (ltb v 6) 6 v
      same v = ⊎_elim
          (λ (g : 6 ≤ v). ap (λ (b : Bool). cond b 6 v) (λ t. le-leb 0 v zero-le t && lt-leb v 5 (omega arith) t) ∙ sym (below_not v 6 g))
          (λ g. ap (λ (b : Bool). cond b 6 v) (λ t. le-leb 0 v zero-le t && le-leb v 5 (omega arith) t) ∙ sym (below_so v 6 g))
          (le_or_lt 6 v)

  pub restores_more : InGrid r c → (t : ℕ) → t < 6 → (a e : List ℕ) → Restores (is_below t) r c l a → Restores (is_mark t) r c a e → Restores (is_below (t + 1)) r c l e
  restores_more hc t low a e s o = record {
    size = o.size ∙ s.size;
    each = λ roots x h. o.each (left roots) x h ∙ both (at r l x) (at r a x) (s.each roots x h);
  }
    where
      both : (v u : ℕ) → u ≡ cond (ltb v t) 6 v → cond (eqb u t) 6 u ≡ cond (ltb v (t + 1)) 6 v
      both v u e = ⊎_elim
          (λ g. let six : u ≡ 6 = e ∙ below_so v t (omega arith) in relabelled_not u t 6 (λ q. omega (arith, six)) ∙ six ∙ sym (below_so v (t + 1) (omega arith)))
          (λ g. let same : u ≡ v = e ∙ below_not v t (omega arith) in dec_eq v t
          (λ q. relabelled_so u t 6 (same ∙ q) ∙ sym (below_so v (t + 1) (omega arith)))
          (λ z. relabelled_not u t 6 (λ q. z (sym same ∙ q)) ∙ same ∙ sym (below_not v (t + 1) (omega arith))))
          (split v)
        where
          split : (v : ℕ) → (v < t) ⊎ (t ≤ v)
          split v = ⊎_elim (λ h. inr h) (λ h. inl h) (le_or_lt t v)

      -- the marks from t on are there, with their roots
      stay : Roots r c l → (v : ℕ) → t ≤ v → (y : Cell) → InGrid r y → at r l y ≡ v → at r a y ≡ v
      stay roots v g y h p = s.each roots y h ∙ below_not (at r l y) t (omega (arith, p)) ∙ p

      left : Roots r c l → Roots r c a
      left roots x h g = ⊎_elim
          (λ (q : t ≤ at r l x).
          let same : at r a x ≡ at r l x = s.each roots x h ∙ below_not (at r l x) t q in
          subst (λ (v : ℕ). Rooted r c a v x) (sym same)
          (root_keep r c hc l a (at r l x) x (stay roots (at r l x) q) (roots x h (subst (λ (v : ℕ). v < 6) same g))))
          (λ q. absurd (omega (arith, g, s.each roots x h ∙ below_so (at r l x) t q)))
          (le_or_lt t (at r l x))
