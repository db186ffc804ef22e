-- How many rows, columns and entries of a section a circuit can have.
-- RULES 2.
use Rattle.std.specs.Prelude.{ℕ}

abbrev pub most_rows : ℕ
most_rows = 256

abbrev pub most_columns : ℕ
most_columns = 256

abbrev pub most_entries : ℕ
most_entries = 1024
