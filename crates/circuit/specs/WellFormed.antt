-- What accepted words have: the ranges, the room and the order that RULES 2 asks for.
-- proofs/Formed.antt shows that the verdict is 0 exactly for these.
use Rattle.std.specs.Prelude.{true, List, ◌≡◌, ℕ, ◌-◌, ◌≤◌, ◌<◌, length}
use Rattle.outcome.specs.Verdict.{Within}
use Rattle.circuit.specs.Limits.{most_rows, most_columns, most_entries}
use Rattle.circuit.specs.Circuit.{listed_rows, rows, publics, columns, entries, row_of, column_of, value_of, section, section_end, ending}
use Rattle.circuit.specs.Reader.{ascends}

-- entry e of a section
pub record EntryFormed (p : ℕ) (c : List ℕ) (s e : ℕ) : Type 0 where
  pub row : Within 1 (row_of c s e) (listed_rows c)
  pub column : Within 1 (column_of c s e) (columns c)
  pub value : Within 1 (value_of c s e) (p - 1)
  pub ascending : ascends c s e ≡ true

pub record SectionFormed (p : ℕ) (c : List ℕ) (s : ℕ) : Type 0 where
  pub counted : s < length c
  pub few : entries c s ≤ most_entries
  pub room : section_end c s ≤ length c
  pub entry : (e : ℕ) → e < entries c s → EntryFormed p c s e

-- words that begin with a circuit
pub record Formed (p : ℕ) (c : List ℕ) : Type 0 where
  pub counts : 3 ≤ length c
  pub row_count : Within 1 (listed_rows c) most_rows
  pub column_count : Within 1 (columns c) most_columns
  pub public_count : Within 1 (publics c) (columns c)
  pub matrices : (matrix : ℕ) → matrix < 3 → SectionFormed p c (section c matrix)

-- matrix 0, 1 or 2 of a circuit, and a list with a word for each of its rows
pub record RowWords (p : ℕ) (c : List ℕ) (matrix : ℕ) (f : List ℕ) : Type 0 where
  pub circuit : Formed p c
  pub of_three : matrix < 3
  pub size : length f ≡ rows c

-- words that are a circuit
pub record WellFormed (p : ℕ) (c : List ℕ) : Type 0 where
  pub formed : Formed p c
  pub whole : ending c ≡ length c
