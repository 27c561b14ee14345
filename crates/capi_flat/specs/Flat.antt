-- What a call gives at the C boundary, which no enum passes. Definitions only.
use Rattle.std.specs.Prelude.{◌≡◌, ℕ, zero, suc, Ok, Err}
use Rattle.grid.specs.Refusals.{number_of, reason_numbered}
use Rattle.grid.specs.Answers.{Outcome, refuses}

-- Demand 1: "in an answer or a numbered refusal. A refusal gives number and place." A number, a place and the answer's values
pub record Flat (A : Type 0) : Type 0 where
  pub number : ℕ
  pub place : ℕ
  pub value : A

-- an answer has the number 0, which the table of refusals does not give, the place 0 and its values; a refusal has 01's number and place, and `none` for values
abbrev pub flat_of : {A : Type 0} → A → Outcome A → Flat A
flat_of none (Ok a) = record { number = 0; place = 0; value = a }
flat_of none (Err f) = record { number = number_of f.reason; place = f.place; value = none }

-- the same read back: 0 is an answer, every other number a refusal
abbrev pub heard_as : {A : Type 0} → ℕ → ℕ → A → Outcome A
heard_as zero place a = Ok a
heard_as (suc n) place a = refuses (reason_numbered (suc n)) place

abbrev pub heard : {A : Type 0} → Flat A → Outcome A
heard f = heard_as f.number f.place f.value

-- a call that goes by a relation: what is heard is allowed, and nothing stands in place and values that is not heard
pub record Tells {A : Type 0} (none : A) (Allowed : Outcome A → Type 0) (f : Flat A) : Type 0 where
  pub allowed : Allowed (heard f)
  pub plain : f ≡ flat_of none (heard f)
