-- What a call answers in 01's terms, and how checks make an answer. Definitions only.
use Rattle.std.specs.Prelude.{ℕ, Bool, true, false, ◌||◌, List, [], ◌∷◌, ◌≡◌, T, eqb, Result, Ok, Err}
use Rattle.grid.specs.declared.Reason.{Reason}
use Rattle.grid.specs.declared.Refusal.{Refusal}
use Rattle.grid.specs.Refusals.{number_of}

-- Demand 1: "in an answer or a numbered refusal. A refusal gives number and place": an answer is `Ok`, a refusal `Err`, with a reason, which has its number, and a place
abbrev pub Outcome : Type 0 → Type 0
Outcome A = Result A Refusal

-- what a check finds: nothing, or a refusal
abbrev pub Checked : Type 0
Checked = Outcome Unit

abbrev pub refuses : {A : Type 0} → Reason → ℕ → Outcome A
refuses reason place = Err (record { reason = reason; place = place })

-- that refusal where the test holds, and otherwise what the checks after it find
abbrev pub fault_if : Bool → Reason → ℕ → Checked → Checked
fault_if true reason place rest = refuses reason place
fault_if false reason place rest = rest

-- 01, Input bounds and refusals: "The lowest applicable number is given". The checks of a call stand in the order of their numbers, and the first that finds a fault decides; what stands after the last is what the call answers
infixr 3 ◌and_then◌
abbrev pub ◌and_then◌ : {A : Type 0} → Checked → Outcome A → Outcome A
◌and_then◌ (Err f) rest = Err f
◌and_then◌ (Ok u) rest = rest

-- "Nothing lent is then written": what a lent buffer holds after a call, as it was before where the checks find a fault
abbrev pub lent_after : {A : Type 0} → Checked → A → A → A
lent_after (Err f) before after = before
lent_after (Ok u) before after = after

-- a call that goes by a relation of answer and buffer: where the checks find a fault, that refusal and the buffer as it was; else what the relation allows
abbrev pub Ends : {A B : Type 0} → Checked → B → (A → B → Type 0) → Outcome A → B → Type 0
Ends (Err f) before Allows o after = (o ≡ Err f) × (after ≡ before)
Ends (Ok u) before Allows (Ok a) after = Allows a after
Ends (Ok u) before Allows (Err f) after = ⊥

-- ---- which numbers a call can give

abbrev pub is_one_of : ℕ → List ℕ → Bool
is_one_of n [] = false
is_one_of n (m ∷ ns) = eqb n m || is_one_of n ns

-- a call answers, or refuses with one of these numbers; a check finds nothing, or a fault with one of them
abbrev pub Gives : {A : Type 0} → List ℕ → Outcome A → Type 0
Gives ns (Ok a) = Unit
Gives ns (Err f) = T (is_one_of (number_of f.reason) ns)

abbrev pub Finds : List ℕ → Checked → Type 0
Finds ns f = Gives ns f
