-- What circuit words mean: counts, sections, entries, and the coefficient of a matrix at a row and a column.
-- RULES 2. Nothing here asks whether the words are well formed: specs/Reader.antt does.
use Rattle.std.specs.Prelude.{Bool, true, false, ◌&&◌, List, ℕ, zero, suc, ◌+◌, ◌*◌, eqb, get_or, take}

-- the word at an index, counted from 0
abbrev pub word : List ℕ → ℕ → ℕ
word c i = get_or c i 0

-- the counts m, q, n, in the order in which they stand

-- rows that are listed: entries name them, and so does number 10
abbrev pub listed_rows : List ℕ → ℕ
listed_rows c = word c 0

abbrev pub publics : List ℕ → ℕ
publics c = word c 1

abbrev pub columns : List ℕ → ℕ
columns c = word c 2

-- rows that have points: row sums, points and lengths go by them
unfoldable pub rows : List ℕ → ℕ
rows c = listed_rows c

-- A section is named by the index of its count of entries.
abbrev pub entries : List ℕ → ℕ → ℕ
entries c section = word c section

-- the index of the first word of entry e, counted from 0; a section ends where its entry number `entries` would begin
abbrev pub entry_at : ℕ → ℕ → ℕ
entry_at section e = section + 1 + 3 * e

abbrev pub row_of : List ℕ → ℕ → ℕ → ℕ
row_of c section e = word c (entry_at section e)

abbrev pub column_of : List ℕ → ℕ → ℕ → ℕ
column_of c section e = word c (entry_at section e + 1)

abbrev pub value_of : List ℕ → ℕ → ℕ → ℕ
value_of c section e = word c (entry_at section e + 2)

abbrev pub section_end : List ℕ → ℕ → ℕ
section_end c section = entry_at section (entries c section)

-- sections A, B, C are those of matrix 0, 1, 2; each begins where the one before it ends
unfoldable pub section : List ℕ → ℕ → ℕ
section c zero = 3
section c (suc matrix) = section_end c (section c matrix)

-- where the words of a circuit end
abbrev pub ending : List ℕ → ℕ
ending c = section c 3

-- words that begin with a circuit: the part of them that it takes
abbrev pub leading : List ℕ → List ℕ
leading c = take (ending c) c

-- entry e is listed at row i, column j
abbrev pub is_at : List ℕ → ℕ → ℕ → ℕ → ℕ → Bool
is_at c s i j e = eqb (row_of c s e) i && eqb (column_of c s e) j

-- among the first k entries of a section: the value listed at row i, column j, or 0 where none is
unfoldable pub listed : List ℕ → ℕ → ℕ → ℕ → ℕ → ℕ
listed c s i j zero = 0
listed c s i j (suc e) = elim (is_at c s i j e) [ true ↦ value_of c s e | false ↦ listed c s i j e ]

-- the coefficient of matrix 0, 1 or 2 at row i, column j, both counted from 1
unfoldable pub coef : List ℕ → ℕ → ℕ → ℕ → ℕ
coef c matrix i j = listed c (section c matrix) i j (entries c (section c matrix))
