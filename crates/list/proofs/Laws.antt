-- What the contract of `list_cells` says: its numbers, that a refusal leaves every number, that two results coincide, and how the records are read. Assumes nothing.
use Rattle.grid.specs.declared.Refusal.{Refusal}
use Rattle.list.specs.declared.ListCounts.{ListCounts}
use Rattle.std.specs.Prelude.{Ok, Err}
use mathlib.Core.List.{List, [], ◌∷◌}
use Prim.Native.Nat.{ℕ, ◌*◌}
use lib.Dec.{ltb}
use lib.ListN.{length}
use Rattle.grid.specs.declared.Axes.{Axes}
use Rattle.grid.specs.Answers.{Outcome, Finds, Gives}
use Rattle.grid.specs.Checks.{grid_fault, map_fault, takes}
use Rattle.grid.proofs.Checks.{finds_if, finds_then, finds_first, finds_grid, gives_then, refused_same}
use Rattle.order.specs.Order.{known_labels}
use Rattle.list_record.specs.Record.{width}
use Rattle.list.specs.List.{listed, cells_fault, cells_answer}
use mathlib.Core.Path.{◌≡◌, sym, ◌∙◌}
use Rattle.list.specs.List.{cells_buffer}
use Rattle.grid.specs.declared.Reason.TheVariants.{NoRoom, BadLabel}

-- ---- which numbers it gives: 8, 9, 11 and 14

pub list_numbers : (l : List ℕ) (r : Axes) (o : List ℕ) → Gives (8 ∷ 9 ∷ 11 ∷ 14 ∷ []) (cells_answer l r o)
list_numbers l r o = gives_then ns (cells_fault l r (length o)) _ all (λ f. tt)
  where
    ns : List ℕ
    ns = 8 ∷ 9 ∷ 11 ∷ 14 ∷ []

    all : Finds ns (cells_fault l r (length o))
    all =
        finds_then ns (map_fault known_labels r l) _
        (finds_then ns (grid_fault r (length l)) _ (finds_grid ns r (length l) tt tt) (finds_first ns BadLabel (λ n. n) (takes known_labels) l tt))
        (finds_if ns (ltb (length o) (length (listed r l) * width)) NoRoom 0 (Ok tt) tt tt)

-- ---- a refusal leaves every number

pub list_refused_same : (l : List ℕ) (r : Axes) (o : List ℕ) (f : Refusal) → cells_answer l r o ≡ Err f → cells_buffer l r o ≡ o
list_refused_same l r o f h = refused_same (cells_fault l r (length o)) _ f o _ h

-- ---- two results that fit the promise are one

pub list_settled : (l : List ℕ) (r : Axes) (o : List ℕ) (a b : Outcome ListCounts) (m n : List ℕ)
    → a ≡ cells_answer l r o → b ≡ cells_answer l r o → m ≡ cells_buffer l r o → n ≡ cells_buffer l r o → (a ≡ b) × (m ≡ n)
list_settled l r o a b m n e f g h = ((e ∙ sym f), g ∙ sym h)
