-- A check passed gives the count or the entries that it asked for; a check failed is its section's first fault, and so the first of all.
use mathlib.Core.List.{List}
use mathlib.Core.Path.{◌≡◌, sym, ◌∙◌}
use Prim.Native.Nat.{ℕ, ◌+◌, ◌≤◌, ◌<◌}
use native.Mathlib.Omega.{arith}
use borrow.Author.Rules.{rules}
use lib.ListN.{length}
use Rattle.outcome.specs.declared.Outcome.{Outcome}
use Rattle.outcome.specs.Verdict.{outcome_of, Refused, first_fault}
use Rattle.outcome.proofs.Verdict.{accepted-each}
use Rattle.outcome.proofs.Scan.{begin, go_on, stop, end}
use Rattle.outcome.proofs.Asked.{asked}
use Rattle.circuit.specs.Limits.{most_entries}
use Rattle.circuit.specs.Circuit.{section_end, entries}
use Rattle.circuit.specs.Reader.{entry_verdict, section_verdict}
use Rattle.circuit.specs.WellFormed.{SectionFormed}
use Rattle.circuit.proofs.Sections.{first-section, section-next}
use Rattle.circuit.proofs.Formed.{section-accepted, entry_formed}
use Rattle.circuit.proofs.Proper.{proper-section}
use Rattle.field.specs.Field.{p}
use Rattle.reader.proofs.sections_verdict.Invariants.{each, Entries, Sections}
use Rattle.reader.proofs.sections_verdict.Goals as goal
use Rattle.reader.proofs.sections_verdict.Goals.{In_ok-require-3}

-- the count and the entries are there
record Listed (c : List ℕ) (start : ℕ) : Type 0 where
  counted : start < length c
  few : entries c start ≤ most_entries
  room : section_end c start ≤ length c

fault : {c : List ℕ} {matrix start : ℕ} {o : Outcome} → Sections c matrix start → matrix < 3 → 0 < o.number →
    o ≡ section_verdict p c start → o ≡ first_fault (each c) 3
fault {c} {matrix} {start} {o} so_far l r e =
    let here : o ≡ each c matrix = rw (← so_far.begins) e in
    let refused : Refused (each c matrix) = record { is_positive = rw (← here) r } in
    stop (each c) 3 so_far.passed l refused here

entry-fault : {c : List ℕ} {start e : ℕ} {o : Outcome} → Listed c start → Entries c start e → e < entries c start → 0 < o.number →
    o ≡ entry_verdict p c start e → o ≡ section_verdict p c start
unfolding section_verdict
entry-fault {c} {start} {e} {o} listed so_far l r found =
    let refused : Refused (entry_verdict p c start e) = record { is_positive = rw (← found) r } in
    let first-of-all = stop (entry_verdict p c start) (entries c start) so_far.passed l refused found in
    grind (arith, asked)

next : {c : List ℕ} {matrix start e : ℕ} → Sections c matrix start → matrix < 3 → Listed c start → Entries c start e →
    entries c start ≤ e → Sections c (matrix + 1) (section_end c start)
next {c} {matrix} {start} {e} so_far l listed entered all =
    let formed : SectionFormed p c start = record {
      counted = listed.counted;
      few = listed.few;
      room = listed.room;
      entry = λ k below. entry_formed c start k (accepted-each (entry_verdict p c start) e entered.passed.accepted k (omega arith));
    } in
    record {
      passed = go_on (each c) 3 so_far.passed l (rw so_far.begins at (section-accepted formed));
      begins = rw (section-next, so_far.begins);
      small = omega (arith, so_far.small, listed.few);
    }

listed : (c : In_ok-require-3) → Listed c.args.words.now c.loop-matrix.start
listed c = record { counted = grind (arith, asked); few = grind (arith, asked); room = grind (arith, asked) }

pub loop-matrix-init : goal.loop-matrix-init
loop-matrix-init c = record { passed = begin _ 3; begins = sym (first-section _); small = omega arith }

pub loop-e-init : goal.loop-e-init
loop-e-init c = record { passed = begin _ _ }

pub loop-e-preserved : goal.loop-e-preserved
loop-e-preserved c = record { passed = go_on _ _ c.loop-e.invariant.passed (search rules) (record { is_zero = grind (arith, asked) }) }

pub loop-matrix-preserved : goal.loop-matrix-preserved
loop-matrix-preserved c =
    next c.loop-matrix.invariant (search rules) (listed (goal.at.loop-matrix-preserved c).In_ok-require-3) c.loop-e.invariant (search rules)

pub returns-in_err-require : goal.returns-in_err-require
unfolding section_verdict
returns-in_err-require c = fault c.loop-matrix.invariant (search rules) (grind (arith, asked)) (grind (arith, asked))

pub returns-in_err-require-2 : goal.returns-in_err-require-2
unfolding section_verdict
returns-in_err-require-2 c = fault c.loop-matrix.invariant (search rules) (grind (arith, asked)) (grind (arith, asked))

pub returns-in_err-require-3 : goal.returns-in_err-require-3
unfolding section_verdict
returns-in_err-require-3 c = fault c.loop-matrix.invariant (search rules) (grind (arith, asked)) (grind (arith, asked))

pub returns-then-is_err : goal.returns-then-is_err
returns-then-is_err c =
    fault c.loop-matrix.invariant (search rules) (grind (arith, asked))
    (entry-fault (listed (goal.at.returns-then-is_err c).In_ok-require-3) c.loop-e.invariant (search rules) (grind (arith, asked))
    c.entry_verdict-found.ensures)

pub returns-after-loop-matrix : goal.returns-after-loop-matrix
returns-after-loop-matrix c =
    end _ 3 c.loop-matrix.invariant.passed (search rules) (λ k l. proper-section p _ _)
