-- From one section to the next.
use mathlib.Core.Path.{refl}
use native.Mathlib.Omega.{arith}
use Rattle.circuit.specs.Circuit.{section}
use Rattle.circuit.proofs.Sections.{section-next}
use Rattle.reader.proofs.section_start.Goals as goal

pub loop-k-init : goal.loop-k-init
unfolding section
loop-k-init c = refl

pub loop-k-preserved : goal.loop-k-preserved
loop-k-preserved c = rw (section-next, c.loop-k.invariant) (omega arith)
