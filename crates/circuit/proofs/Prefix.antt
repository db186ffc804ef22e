-- Words that begin with a circuit: their part up to where it ends is a circuit, with the same counts, sections and entries.
-- RULES 2.
use mathlib.Core.List.{List}
use mathlib.Core.Path.{◌≡◌, refl, sym, ◌∙◌}
use Prim.Native.Nat.{ℕ, zero, suc, ◌+◌, ◌-◌, ◌≤◌, ◌<◌}
use native.Mathlib.Omega.{arith}
use lib.ListN.{length}
use lib.Seq.{get_or-take, length-take-le}
use Rattle.outcome.specs.Verdict.{Accepted}
use Rattle.circuit.specs.Circuit.{word, entries, entry_at, row_of, column_of, section, ending, leading}
use Rattle.circuit.specs.Reader.{prefix_verdict, circuit_verdict}
use Rattle.circuit.specs.WellFormed.{EntryFormed, SectionFormed, Formed, WellFormed}
use Rattle.circuit.proofs.Formed.{prefix_formed, circuit-accepted}
use Rattle.circuit.proofs.Sections.{ends_before, begins-after, ends-within}

module _ (c : List ℕ) where
  pub leading-word : (i : ℕ) → i < ending c → word (leading c) i ≡ word c i
  leading-word i l = get_or-take (ending c) c i 0 l

  pub leading-count : (i : ℕ) → i < 3 → word (leading c) i ≡ word c i
  leading-count i small = leading-word i (omega (arith, begins-after c 3))

  pub leading-section : (k : ℕ) → k ≤ 3 → section (leading c) k ≡ section c k
  unfolding section
  leading-section zero l = refl
  leading-section (suc k) l =
      let here = leading-section k (omega arith) in
      let count = leading-word (section c k) (omega (arith, ends_before c k 3 (omega arith))) in
      rw (here, count)

  -- an entry of section k lies before the end
  inside : (k e : ℕ) → k < 3 → e < entries c (section c k) → entry_at (section c k) e + 3 ≤ ending c
  inside k e l h = omega (arith, ends_before c k 3 l)

  module _ {p : ℕ} (formed : Formed p c) where
    leading-entry : (k e : ℕ) → k < 3 → e < entries c (section c k) → EntryFormed p (leading c) (section c k) e
    leading-entry k e l h = record {
      row = rw (leading-count 0 (omega arith), row_of_lem e (omega arith)) entry.row;
      column = rw (leading-count 2 (omega arith), column_of_lem e (omega arith)) entry.column;
      value = rw (leading-word (entry_at s e + 2) (omega (arith, inside k e l h))) entry.value;
      ascending =
          rw (row_of_lem e (omega arith), column_of_lem e (omega arith), row_of_lem (e - 1) (omega arith), column_of_lem (e - 1) (omega arith))
          entry.ascending;
    }
      where
        s : ℕ
        s = section c k

        entry : EntryFormed p c (section c k) e
        entry = (formed.matrices k l).entry e h

        row_of_lem : (d : ℕ) → d ≤ e → row_of (leading c) (section c k) d ≡ row_of c (section c k) d
        row_of_lem d below = leading-word (entry_at (section c k) d) (omega (arith, inside k e l h))

        column_of_lem : (d : ℕ) → d ≤ e → column_of (leading c) (section c k) d ≡ column_of c (section c k) d
        column_of_lem d below = leading-word (entry_at (section c k) d + 1) (omega (arith, inside k e l h))

    leading_length : length (leading c) ≡ ending c
    leading_length = length-take-le (ending c) c (ends-within formed)

    leading_matrix : (k : ℕ) → k < 3 → SectionFormed p (leading c) (section (leading c) k)
    leading_matrix k l =
        let whole = formed.matrices k l in
        let end = ends_before c k 3 l in
        let count = leading-word (section c k) (omega arith) in
        rw (leading-section k (omega arith)) (record {
          counted = rw leading_length (omega arith);
          few = rw count whole.few;
          room = rw (leading_length, count) end;
          entry = λ e h. leading-entry k e l (rw count at h);
        })

    pub leading-formed : WellFormed p (leading c)
    leading-formed =
        record {
          formed = record {
            counts = rw leading_length (begins-after c 3);
            row_count = rw (leading-count 0 (omega arith)) formed.row_count;
            column_count = rw (leading-count 2 (omega arith)) formed.column_count;
            public_count = rw (leading-count 1 (omega arith), leading-count 2 (omega arith)) formed.public_count;
            matrices = leading_matrix;
          };
          whole = leading-section 3 (omega arith) ∙ sym leading_length;
        }

-- what a caller has whose words go on after the circuit
pub leading-accepted : (p : ℕ) (c : List ℕ) → Accepted (prefix_verdict p c) → Accepted (circuit_verdict p (leading c))
leading-accepted p c h = circuit-accepted (leading-formed c (prefix_formed c h))
