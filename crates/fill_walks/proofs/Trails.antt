-- Laws of what walks change (specs/Quiet.antt): what the loop of a walk goes by, and two walks one after the other. Assumes nothing.
use mathlib.Core.Logic.{◌⊎◌, inl, inr}
use mathlib.Core.Path.{◌≡◌, refl, ap, subst, ◌∙◌}
use mathlib.Core.List.{List}
use Prim.Native.Nat.{ℕ, ◌+◌, ◌*◌, ◌-◌, ◌≤◌, ◌<◌}
use native.Mathlib.Nat.{add-mul, one-mul}
use native.Mathlib.Omega.{arith}
use lib.ListN.{length, get_or, set, length-set}
use lib.Seq.{get_or-set_same, get_or-set_other}
use Rattle.grid.proofs.Cells.{dec_eq}
use Rattle.fill_walks.specs.declared.Phase.{Phase}
use Rattle.fill_walks.specs.Quiet.{On, on, Trailed, Near, Swept}

on_more : {from add sub n m d : ℕ} → n ≤ m → On from add sub n d → On from add sub m d
on_more h (on s g e) = on s (omega arith) e

module _ (p : Phase) (from add sub : ℕ) where
  pub trail_none : (l : List ℕ) → Trailed p from add sub 0 l l
  trail_none l = record { size = refl; labels = λ d. inl refl }

  pub trail_as : {n m : ℕ} {l k : List ℕ} → n ≡ m → Trailed p from add sub n l k → Trailed p from add sub m l k
  trail_as {l = l} {k = k} e t = subst (λ (x : ℕ). Trailed p from add sub x l k) e t

  -- after n steps the walk stands here
  abbrev pub Stands : ℕ → ℕ → Type 0
  Stands n at = at + n * sub ≡ from + n * add

  pub stands_on : (n at : ℕ) → sub ≤ at + add → Stands n at → Stands (n + 1) (at + add - sub)
  stands_on n at h e = omega (arith, add-mul n 1 sub, one-mul sub, add-mul n 1 add, one-mul add)

  pub trail_more : (l m : List ℕ) (n x : ℕ) → x < length m → Stands (n + 1) x → Trailed p from add sub n l m → Trailed p from add sub (n + 1) l (set m x p.todo)
  trail_more l m n x h e t = record { size = length-set m x p.todo ∙ t.size; labels = labels }
    where
      go : (d : ℕ) → (d ≡ x → ⊥) → (get_or m d 0 ≡ get_or l d 0) ⊎ (On from add sub n d × (get_or m d 0 ≡ p.todo)) ⊎ (get_or m d 0 ≡ p.mark)
          → (get_or (set m x p.todo) d 0 ≡ get_or l d 0) ⊎ (On from add sub (n + 1) d × (get_or (set m x p.todo) d 0 ≡ p.todo)) ⊎ (get_or (set m x p.todo) d 0 ≡ p.mark)
      go d z (inl q) = inl (get_or-set_other m x d p.todo 0 z ∙ q)
      go d z (inr (inl q)) = inr (inl (on_more (omega arith) q.0, get_or-set_other m x d p.todo 0 z ∙ q.1))
      go d z (inr (inr q)) = inr (inr (get_or-set_other m x d p.todo 0 z ∙ q))

      labels : (d : ℕ) → (get_or (set m x p.todo) d 0 ≡ get_or l d 0) ⊎ (On from add sub (n + 1) d × (get_or (set m x p.todo) d 0 ≡ p.todo)) ⊎ (get_or (set m x p.todo) d 0 ≡ p.mark)
      labels d =
          dec_eq d x
          (λ q. inr (inl (on (n + 1) (omega arith) (ap (λ (y : ℕ). y + (n + 1) * sub) q ∙ e), ap (λ (y : ℕ). get_or (set m x p.todo) y 0) q ∙ get_or-set_same m x p.todo 0 h)))
          (λ z. go d z (t.labels d))

  pub trail_mark : (l m : List ℕ) (n x : ℕ) → x < length m → Trailed p from add sub n l m → Trailed p from add sub n l (set m x p.mark)
  trail_mark l m n x h t = record { size = length-set m x p.mark ∙ t.size; labels = labels }
    where
      go : (d : ℕ) → (d ≡ x → ⊥) → (get_or m d 0 ≡ get_or l d 0) ⊎ (On from add sub n d × (get_or m d 0 ≡ p.todo)) ⊎ (get_or m d 0 ≡ p.mark)
          → (get_or (set m x p.mark) d 0 ≡ get_or l d 0) ⊎ (On from add sub n d × (get_or (set m x p.mark) d 0 ≡ p.todo)) ⊎ (get_or (set m x p.mark) d 0 ≡ p.mark)
      go d z (inl q) = inl (get_or-set_other m x d p.mark 0 z ∙ q)
      go d z (inr (inl q)) = inr (inl (q.0, get_or-set_other m x d p.mark 0 z ∙ q.1))
      go d z (inr (inr q)) = inr (inr (get_or-set_other m x d p.mark 0 z ∙ q))

      labels : (d : ℕ) → (get_or (set m x p.mark) d 0 ≡ get_or l d 0) ⊎ (On from add sub n d × (get_or (set m x p.mark) d 0 ≡ p.todo)) ⊎ (get_or (set m x p.mark) d 0 ≡ p.mark)
      labels d =
          dec_eq d x
          (λ q. inr (inr (ap (λ (y : ℕ). get_or (set m x p.mark) y 0) q ∙ get_or-set_same m x p.mark 0 h)))
          (λ z. go d z (t.labels d))

pub swept : (p : Phase) (from stride up down : ℕ) (l m e : List ℕ) → Trailed p from stride 0 up l m → Trailed p from 0 stride down m e → Swept p from stride up down l e
swept p from stride up down l m e t u = record { size = u.size ∙ t.size; labels = λ d. go d (t.labels d) (u.labels d) }
  where
    go : (d : ℕ) → (get_or m d 0 ≡ get_or l d 0) ⊎ (On from stride 0 up d × (get_or m d 0 ≡ p.todo)) ⊎ (get_or m d 0 ≡ p.mark)
        → (get_or e d 0 ≡ get_or m d 0) ⊎ (On from 0 stride down d × (get_or e d 0 ≡ p.todo)) ⊎ (get_or e d 0 ≡ p.mark)
        → (get_or e d 0 ≡ get_or l d 0) ⊎ (Near from stride up down d × (get_or e d 0 ≡ p.todo)) ⊎ (get_or e d 0 ≡ p.mark)
    go d (inl a) (inl b) = inl (b ∙ a)
    go d (inr (inl a)) (inl b) = inr (inl (inl a.0, b ∙ a.1))
    go d (inr (inr a)) (inl b) = inr (inr (b ∙ a))
    go d a (inr (inl b)) = inr (inl (inr b.0, b.1))
    go d a (inr (inr b)) = inr (inr b)
