-- `program::copy_text` meets its contract: the room, and then the bytes. Assumes nothing.
use Rattle.std.specs.Prelude.{Ok}
use native.Mathlib.Omega.{arith}
use mathlib.Core.Path.{◌≡◌, sym, ap, ◌∙◌}
use lib.ListN.{length}
use Rattle.order.specs.Output.{room_fault, over}
use Rattle.order.proofs.Outputs.{room_fine}
use Rattle.order.proofs.Lent.{fine_answer, fine_lent}
use Rattle.program.proofs.Texts.{over_text}
use Rattle.program.proofs.copy_text.Goals as goal

pub returns : goal.returns
returns c = let a = c.args in
    let e = sym c.room_fault.ensures ∙ c.in_ok-room_fault.was in record { answer = ap Ok (let z : _ ≡ length a.text.now = omega (arith, c.put_bytes.ensures.ends) in z) ∙ fine_answer (room_fault (length a.output.now) (length a.text.now)) (Ok (length a.text.now)) e; output_after = over_text a.text.now a.output.now _ _ (room_fine (length a.output.now) (length a.text.now) e) c.put_bytes.ensures ∙ fine_lent (room_fault (length a.output.now) (length a.text.now)) a.output.now (over a.text.now a.output.now) e }
