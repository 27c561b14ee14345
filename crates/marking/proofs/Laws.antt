-- What the contract of `mark` says: its labels, its numbers, that two results coincide, that a vertex's own cell is surface, and that the order of triangles does not matter. Assumes nothing.
use Rattle.std.specs.Prelude.{Ok, Err}
use mathlib.Core.Bool.{Bool, true, false, not, cond, ◌&&◌, ◌||◌}
use mathlib.Core.Logic.{◌↔◌}
use mathlib.Core.Path.{◌≡◌, refl, sym, ap, subst, ◌∙◌}
use mathlib.Core.List.{List, [], ◌∷◌}
use Prim.Native.Nat.{ℕ, ◌+◌, ◌/◌, ◌%◌, ◌≤◌, ◌<◌}
use native.Mathlib.Nat.{div-add-mod}
use native.Mathlib.Omega.{arith}
use lib.Dec.{T, eqb, ltb}
use lib.IntN.{ℤ, pos}
use lib.ListN.{length, replicate, get_or-replicate, length-replicate}
use lib.Ieee.{Float, fin, binary32, le, eq, div}
use borrow.Author.Tests.{eqb-true, ltb-false}
use Rattle.grid.specs.declared.Axes.{Axes}
use Rattle.grid.specs.declared.Cell.{Cell}
use Rattle.grid.specs.declared.Placement.{Placement}
use Rattle.grid.proofs.Checks.{refused_same as refused_lent}
use Rattle.grid.specs.declared.Refusal.{Refusal}
use Rattle.grid.specs.Answers.{Outcome, is_one_of, Finds, Gives}
use Rattle.grid.specs.Grid.{Sound, InGrid, cells, num, at}
use Rattle.grid.proofs.First.{some_below_lem, both_true}
use Rattle.grid.proofs.Cells.{num_lt, labels_length, labels_one, labels_at}
use Rattle.grid.proofs.Checks.{passed, or_false, not_false, finds_if, finds_then, finds_first, finds_grid, gives_then}
use Rattle.ints.specs.Bound.{cons3}
use Rattle.sizing.specs.Points.{bounded, length_fault}
use Rattle.sizing.specs.Sizing.{points}
use Rattle.touch.specs.Touch.{vertex, touching}
use Rattle.touch.proofs.Meaning.{own_cell}
use Rattle.marking_mesh.specs.Mesh.{vertex_of, on_grid, triangles, corner, triangle_of, is_candidate}
use Rattle.marking_mesh.specs.Faults.{origin_fault, names, missing_fault, least_scale, greatest_scale, lent_fault, lengths_fault, lent_numbers_fault, input_fault, mesh_fault}
use Rattle.marking_mesh.proofs.Laws.{mesh_fine, on_cells, on_vertex, IsCellOf, own_in, own_is_candidate}
use Rattle.marking.specs.Marked.{hits, is_surface, mark_label, marked_labels, mark_answer, mark_labels}
use Rattle.marking.specs.Painted.{Painted, Ready}
use Rattle.grid.specs.declared.Reason.TheVariants.{BadCount, NoPoints, BadSize, BadNumber, MissingName, OffGrid}

-- ---- what the loops need and leave

few : (n : ℕ) → length_fault n ≡ Ok tt → n ≤ 196608
few n h =
    let p = or_false (not (eqb (n % 3) 0)) (ltb 65536 (n / 3)) (passed (not (eqb (n % 3) 0) || ltb 65536 (n / 3)) BadCount 0 (Ok tt) h).0 in
    let z = eqb-true (n % 3) 0 (not_false (eqb (n % 3) 0) p.0) in
    let l = ltb-false 65536 (n / 3) p.1 in
    omega (arith, div-add-mod n 3)

pub ready : (ps : List Float) (ts : List ℕ) (r : Axes) (placement : Placement) (len : ℕ) → mesh_fault ps ts r placement len ≡ Ok tt → Ready ps ts r placement × Sound r × (len ≡ cells r)
ready ps ts r placement len h =
    let w = mesh_fine ps ts r placement len h in
    let i = w.0 in
    (record { named = i.named; on = w.1; few = few (length ts) i.few }, i.sound, i.size)

-- zeros painted are the marked labels
pub painted_marked : (ps : List Float) (ts : List ℕ) (r : Axes) (p : Placement) (n : ℕ) (m : List ℕ) → n ≡ cells r
    → Painted r (is_surface ps ts r p) (replicate n 0) m → m ≡ marked_labels ps ts r p
painted_marked ps ts r p n m e w =
    labels_one r (λ c. mark_label (is_surface ps ts r p c)) m (w.size ∙ length-replicate n 0 ∙ e)
    (λ c i. w.labels c i ∙ ap (λ (v : ℕ). cond (is_surface ps ts r p c) 8 v) (get_or-replicate n (num r c) 0 0 (subst (λ (k : ℕ). num r c < k) (sym e) (num_lt r c i))))

-- ---- which numbers mark gives: 1, 2, 3, 4, 5, 8, 9 and 10

-- what the checks of a mesh find, in any list that has these numbers
pub mesh_finds : (ns : List ℕ) (ps : List Float) (ts : List ℕ) (r : Axes) (placement : Placement) (len : ℕ)
    → T (is_one_of 1 ns) → T (is_one_of 2 ns) → T (is_one_of 3 ns) → T (is_one_of 4 ns) → T (is_one_of 5 ns) → T (is_one_of 8 ns) → T (is_one_of 9 ns) → T (is_one_of 10 ns)
    → Finds ns (mesh_fault ps ts r placement len)
mesh_finds ns ps ts r placement len h1 h2 h3 h4 h5 h8 h9 h10 =
    finds_then ns (input_fault ps ts r placement len) _ input (finds_first ns OffGrid (λ k. k / 3) (λ v. on_grid r (vertex_of ps placement v)) ts h10)
  where
    lengths : (n : ℕ) → Finds ns (length_fault n)
    lengths n = finds_if ns (not (eqb (n % 3) 0) || ltb 65536 (n / 3)) BadCount 0 (Ok tt) h1 tt

    input : Finds ns (input_fault ps ts r placement len)
    input =
        finds_then ns (lengths_fault ps ts) _
        (finds_then ns (length_fault (length ps)) _ (lengths (length ps)) (finds_then ns (length_fault (length ts)) _ (lengths (length ts)) (finds_if ns (eqb (length ps) 0) NoPoints 0 (Ok tt) h2 tt)))
        (finds_then ns (lent_numbers_fault ps placement) _
        (finds_then ns (origin_fault placement) _ (finds_first ns BadNumber (λ n. 0 + n) (bounded 20) (placement.x ∷ placement.y ∷ placement.z ∷ []) h3) (finds_first ns BadNumber (λ n. 3 + n) (bounded 20) ps h3))
        (finds_then ns (missing_fault (points ps) ts) _ (finds_first ns MissingName (λ k. k / 3) (names (points ps)) ts h4)
        (finds_then ns (lent_fault placement) _
        (finds_if ns (not (le least_scale placement.scale && le placement.scale greatest_scale && eq placement.reciprocal (div binary32 (fin false 1 (pos 0)) placement.scale))) BadSize 0 (Ok tt) h5 tt)
        (finds_grid ns r len h8 h9))))

pub mark_numbers : (ps : List Float) (ts : List ℕ) (r : Axes) (placement : Placement) (l : List ℕ) → Gives (1 ∷ 2 ∷ 3 ∷ 4 ∷ 5 ∷ 8 ∷ 9 ∷ 10 ∷ []) (mark_answer ps ts r placement l)
mark_numbers ps ts r placement l =
    gives_then (1 ∷ 2 ∷ 3 ∷ 4 ∷ 5 ∷ 8 ∷ 9 ∷ 10 ∷ []) (mesh_fault ps ts r placement (length l)) (Ok tt)
    (mesh_finds (1 ∷ 2 ∷ 3 ∷ 4 ∷ 5 ∷ 8 ∷ 9 ∷ 10 ∷ []) ps ts r placement (length l) tt tt tt tt tt tt tt tt) (λ f. tt)

-- ---- two results that fit the promise are one

pub settled : (ps : List Float) (ts : List ℕ) (r : Axes) (p : Placement) (l : List ℕ) (a b : Outcome Unit) (m n : List ℕ)
    → a ≡ mark_answer ps ts r p l → b ≡ mark_answer ps ts r p l → m ≡ mark_labels ps ts r p l → n ≡ mark_labels ps ts r p l
    → (a ≡ b) × (m ≡ n)
settled ps ts r p l a b m n e f g h = ((e ∙ sym f), g ∙ sym h)

-- ---- what the labels say

-- a refusal leaves every label
pub refused_same : (ps : List Float) (ts : List ℕ) (r : Axes) (p : Placement) (l : List ℕ) (f : Refusal) → mark_answer ps ts r p l ≡ Err f → mark_labels ps ts r p l ≡ l
refused_same ps ts r p l f h = refused_lent (mesh_fault ps ts r p (length l)) tt f l _ h

-- a cell is 8 exactly if some triangle has it as a candidate and touches it, and 0 otherwise
module _ (ps : List Float) (ts : List ℕ) (r : Axes) (p : Placement) (c : Cell) (i : InGrid r c) where
  label_is : at r (marked_labels ps ts r p) c ≡ mark_label (is_surface ps ts r p c)
  label_is = labels_at r (λ c. mark_label (is_surface ps ts r p c)) c i

  eight : (b : Bool) → mark_label b ≡ 8 → b ≡ true
  eight true h = refl
  eight false h = absurd (let z : ◌≡◌ {A = ℕ} 0 8 = h in omega arith)

  pub mark_means : (at r (marked_labels ps ts r p) c ≡ 8) ↔ ((t : ℕ) × (t < triangles ts) × (is_candidate (triangle_of ps ts p t) r c ≡ true) × (touching (triangle_of ps ts p t) c ≡ true))
  unfolding hits
  mark_means = (
    (λ h.
        let w = (some_below_lem (λ t. hits ps ts r p t c) (triangles ts)).0 (eight (is_surface ps ts r p c) (sym label_is ∙ h)) in
        let t = triangle_of ps ts p w.0 in
        (w.0, w.1, (both_true (is_candidate t r c) (touching t c) w.2).0, (both_true (is_candidate t r c) (touching t c) w.2).1)),
    (λ w.
        let t = triangle_of ps ts p w.0 in
        let both : (is_candidate t r c && touching t c) ≡ true = rw (w.2, w.3) in
        label_is ∙ ap mark_label ((some_below_lem (λ t. hits ps ts r p t c) (triangles ts)).1 (w.0, w.1, both))),
  )

  pub mark_other : (at r (marked_labels ps ts r p) c ≡ 8 → ⊥) → at r (marked_labels ps ts r p) c ≡ 0
  mark_other h = label_is ∙ go (is_surface ps ts r p c) (λ e. h (label_is ∙ e))
    where
      go : (b : Bool) → (mark_label b ≡ 8 → ⊥) → mark_label b ≡ 0
      go true z = absurd (z refl)
      go false z = refl

-- ---- a triangle marks the cell of each of its vertices
pub vertex_marked : (ps : List Float) (ts : List ℕ) (r : Axes) (p : Placement) (len : ℕ) → mesh_fault ps ts r p len ≡ Ok tt
    → (t : ℕ) → t < triangles ts → (n : ℕ) → n < 3 → (c : Cell) → IsCellOf (vertex (triangle_of ps ts p t) n) c → InGrid r c × (at r (marked_labels ps ts r p) c ≡ 8)
vertex_marked ps ts r p len h t l n k c w =
    let o = on_cells ps ts r p (mesh_fine ps ts r p len h).1 t l in
    let q = triangle_of ps ts p t in
    let i = own_in r (vertex q n) c (on_vertex r q o n k) w in
    (i, (mark_means ps ts r p c i).1 (t, l, own_is_candidate q r n c o k w, is_true (touching q c) (own_cell q c n k w.on_i w.on_j w.on_k)))
  where
    is_true : (b : Bool) → T b → b ≡ true
    is_true true x = refl
    is_true false x = absurd x

-- ---- the order of triangles does not matter

-- each triangle of a list is one of another's
pub record Among (ts us : List ℕ) : Type 0 where
  pub find : (t : ℕ) → t < triangles ts → (u : ℕ) × (u < triangles us) × ((n : ℕ) → corner ts n t ≡ corner us n u)

module _ (ps : List Float) (r : Axes) (p : Placement) where
  surface_among : (ts us : List ℕ) → Among ts us → (c : Cell) → is_surface ps ts r p c ≡ true → is_surface ps us r p c ≡ true
  unfolding hits
  surface_among ts us a c h =
      let w = (some_below_lem (λ t. hits ps ts r p t c) (triangles ts)).0 h in
      let f = a.find w.0 w.1 in
      let e : triangle_of ps ts p w.0 ≡ triangle_of ps us p f.0 = cons3 (ap (vertex_of ps p) (f.2 0)) (ap (vertex_of ps p) (f.2 1)) (ap (vertex_of ps p) (f.2 2)) in
      (some_below_lem (λ t. hits ps us r p t c) (triangles us)).1 (f.0, f.1, sym (ap (λ (q : List (List ℤ)). is_candidate q r c && touching q c) e) ∙ w.2)

  pub any_order : (ts us : List ℕ) → Among ts us → Among us ts → marked_labels ps ts r p ≡ marked_labels ps us r p
  any_order ts us a b =
      labels_one r (λ c. mark_label (is_surface ps us r p c)) (marked_labels ps ts r p) (labels_length r (λ c. mark_label (is_surface ps ts r p c)))
      (λ c i. labels_at r (λ c. mark_label (is_surface ps ts r p c)) c i ∙ ap mark_label (same (is_surface ps ts r p c) (is_surface ps us r p c) (surface_among ts us a c) (surface_among us ts b c)))
    where
      same : (x y : Bool) → (x ≡ true → y ≡ true) → (y ≡ true → x ≡ true) → x ≡ y
      same true y f g = sym (f refl)
      same false true f g = g refl
      same false false f g = refl
