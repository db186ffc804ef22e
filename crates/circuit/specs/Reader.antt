-- The verdict over circuit words: RULES 6, numbers 1 to 5 and their order.
-- Each line is one check with the number and place that it gives where it fails; the first that fails decides.
use Rattle.std.specs.Prelude.{Bool, ◌&&◌, ◌||◌, List, ℕ, ◌-◌, leb, ltb, eqb, length}
use Rattle.outcome.specs.declared.Outcome.{Outcome}
use Rattle.outcome.specs.Verdict.{require, within, ◌and_then◌, first_fault}
use Rattle.circuit.specs.Limits.{most_rows, most_columns, most_entries}
use Rattle.circuit.specs.Circuit.{listed_rows, publics, columns, entries, entry_at, row_of, column_of, value_of, section, section_end, ending}

-- a row and a column stand above others: by row, then column
abbrev pub above : ℕ → ℕ → ℕ → ℕ → Bool
above row column row_before column_before = ltb row_before row || (eqb row_before row && ltb column_before column)

-- entry e of a section stands above the one before it; the first has none before it
abbrev pub ascends : List ℕ → ℕ → ℕ → Bool
ascends c s e = eqb e 0 || above (row_of c s e) (column_of c s e) (row_of c s (e - 1)) (column_of c s (e - 1))

-- row and column by 3, then the value by 4, at the index of the entry's first word
unfoldable pub ranges_verdict : ℕ → ℕ → ℕ → ℕ → ℕ → ℕ → ℕ → Outcome
ranges_verdict p m n row column value at =
    require (within 1 row m) 3 at
    and_then require (within 1 column n) 3 at
    and_then require (within 1 value (p - 1)) 4 at

-- each entry by 3, 4, 5
unfoldable pub entry_verdict : ℕ → List ℕ → ℕ → ℕ → Outcome
entry_verdict p c s e =
    ranges_verdict p (listed_rows c) (columns c) (row_of c s e) (column_of c s e) (value_of c s e) (entry_at s e)
    and_then require (ascends c s e) 5 (entry_at s e)

-- a section: the count missing, the count too large, entries not all there, then entry by entry
unfoldable pub section_verdict : ℕ → List ℕ → ℕ → Outcome
section_verdict p c s =
    require (ltb s (length c)) 1 (length c)
    and_then require (leb (entries c s) most_entries) 2 s
    and_then require (leb (section_end c s) (length c)) 1 (length c)
    and_then first_fault (entry_verdict p c s) (entries c s)

-- m, n, q in that order; they stand as m, q, n
unfoldable pub counts_verdict : ℕ → ℕ → ℕ → Outcome
counts_verdict m q n =
    require (within 1 m most_rows) 2 0
    and_then require (within 1 n most_columns) 2 2
    and_then require (within 1 q n) 2 1

-- words that begin with a circuit and may go on: fewer than 3 words, the counts, then sections A, B, C
unfoldable pub prefix_verdict : ℕ → List ℕ → Outcome
prefix_verdict p c =
    require (leb 3 (length c)) 1 (length c)
    and_then counts_verdict (listed_rows c) (publics c) (columns c)
    and_then first_fault (λ matrix. section_verdict p c (section c matrix)) 3

-- words that are a circuit and nothing else: left-over words come last
unfoldable pub circuit_verdict : ℕ → List ℕ → Outcome
circuit_verdict p c = prefix_verdict p c and_then require (eqb (ending c) (length c)) 1 (length c)
