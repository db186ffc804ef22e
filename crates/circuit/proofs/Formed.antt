-- A verdict accepts exactly where the words are well formed: each check is one field of the record. RULES 2.
use mathlib.Core.List.{List}
use mathlib.Core.Path.{◌≡◌}
use Prim.Native.Nat.{ℕ}
use borrow.Author.Tests.{le-leb, lt-ltb, eq-eqb, leb-true, ltb-true, eqb-true}
use lib.Dec.{lit<}
use Rattle.outcome.specs.Verdict.{Accepted}
use Rattle.outcome.proofs.Verdict.{accepted-both, accepted-parts, accepted-require, require-accepted, taken, accepted-first, accepted-each, within_true, true_within}
use Rattle.circuit.specs.Circuit.{entries, section}
use Rattle.circuit.specs.Reader.{ranges_verdict, entry_verdict, section_verdict, counts_verdict, prefix_verdict, circuit_verdict}
use Rattle.circuit.specs.WellFormed.{EntryFormed, SectionFormed, Formed, WellFormed}

module _ {p : ℕ} where
  pub entry_formed : (c : List ℕ) (s e : ℕ) → Accepted (entry_verdict p c s e) → EntryFormed p c s e
  unfolding entry_verdict ranges_verdict
  entry_formed c s e h =
      let parts = accepted-parts h in
      let row = taken _ _ _ (lit< tt) parts.0 in
      let column = taken _ _ _ (lit< tt) row.1 in
      record {
        row = true_within _ _ _ row.0;
        column = true_within _ _ _ column.0;
        value = true_within _ _ _ (require-accepted _ _ _ (lit< tt) column.1);
        ascending = require-accepted _ _ _ (lit< tt) parts.1;
      }

  pub entry-accepted : {c : List ℕ} {s e : ℕ} → EntryFormed p c s e → Accepted (entry_verdict p c s e)
  unfolding entry_verdict ranges_verdict
  entry-accepted f = accepted-both
      (accepted-both (accepted-require _ _ (within_true f.row))
      (accepted-both (accepted-require _ _ (within_true f.column)) (accepted-require _ _ (within_true f.value))))
      (accepted-require _ _ f.ascending)

  pub section_formed : (c : List ℕ) (s : ℕ) → Accepted (section_verdict p c s) → SectionFormed p c s
  unfolding section_verdict
  section_formed c s h =
      let counted = taken _ _ _ (lit< tt) h in
      let few = taken _ _ _ (lit< tt) counted.1 in
      let room = taken _ _ _ (lit< tt) few.1 in
      record {
        counted = ltb-true _ _ counted.0;
        few = leb-true _ _ few.0;
        room = leb-true _ _ room.0;
        entry = λ e l. entry_formed c s e (accepted-each (entry_verdict p c s) (entries c s) room.1 e l);
      }

  pub section-accepted : {c : List ℕ} {s : ℕ} → SectionFormed p c s → Accepted (section_verdict p c s)
  unfolding section_verdict
  section-accepted {c} {s} f = accepted-both (accepted-require _ _ (lt-ltb _ _ f.counted))
      (accepted-both (accepted-require _ _ (le-leb _ _ f.few))
      (accepted-both (accepted-require _ _ (le-leb _ _ f.room))
      (accepted-first (entry_verdict p c s) (entries c s) (λ e l. entry-accepted (f.entry e l)))))

  pub prefix_formed : (c : List ℕ) → Accepted (prefix_verdict p c) → Formed p c
  unfolding prefix_verdict counts_verdict
  prefix_formed c h =
      let counts = taken _ _ _ (lit< tt) h in
      let parts = accepted-parts counts.1 in
      let row_count = taken _ _ _ (lit< tt) parts.0 in
      let column_count = taken _ _ _ (lit< tt) row_count.1 in
      record {
        counts = leb-true _ _ counts.0;
        row_count = true_within _ _ _ row_count.0;
        column_count = true_within _ _ _ column_count.0;
        public_count = true_within _ _ _ (require-accepted _ _ _ (lit< tt) column_count.1);
        matrices = λ k l. section_formed c (section c k) (accepted-each (λ matrix. section_verdict p c (section c matrix)) 3 parts.1 k l);
      }

  pub prefix_accepted : {c : List ℕ} → Formed p c → Accepted (prefix_verdict p c)
  unfolding prefix_verdict counts_verdict
  prefix_accepted {c} f = accepted-both (accepted-require _ _ (le-leb _ _ f.counts))
      (accepted-both
      (accepted-both (accepted-require _ _ (within_true f.row_count))
      (accepted-both (accepted-require _ _ (within_true f.column_count)) (accepted-require _ _ (within_true f.public_count))))
      (accepted-first (λ matrix. section_verdict p c (section c matrix)) 3 (λ k l. section-accepted (f.matrices k l))))

  pub circuit-formed : (c : List ℕ) → Accepted (circuit_verdict p c) → WellFormed p c
  unfolding circuit_verdict
  circuit-formed c h =
      let parts = accepted-parts h in
      record { formed = prefix_formed c parts.0; whole = eqb-true _ _ (require-accepted _ _ _ (lit< tt) parts.1) }

  -- the same as `grind` takes it
  pub formed_behind : (c : List ℕ) → (circuit_verdict p c).number ≡ 0 → Formed p c
  formed_behind c h = (circuit-formed c (record { is_zero = h })).formed

  pub circuit-accepted : {c : List ℕ} → WellFormed p c → Accepted (circuit_verdict p c)
  unfolding circuit_verdict
  circuit-accepted f = accepted-both (prefix_accepted f.formed) (accepted-require _ _ (eq-eqb _ _ f.whole))
