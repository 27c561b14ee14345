-- `capi::vm_summarize` meets its contract: what the call tells, flat. Assumes nothing.
use mathlib.Core.Path.{refl}
use Rattle.program_summary.proofs.Once.{numbers, summary_numbers}
use Rattle.capi_flat.specs.Structs.{no_summary}
use Rattle.capi_flat.proofs.Laws.{tells}
use Rattle.capi.proofs.vm_summarize.Goals as goal

pub returns : goal.returns
returns c = tells no_summary numbers _ _ _ refl (summary_numbers _ _ c.summarize.ensures) c.from.ensures c.summarize.ensures
