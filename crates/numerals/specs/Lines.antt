-- Lines of decimal numbers as bytes (document 01, "The printed plan").
use Rattle.std.specs.Prelude.{List, [], ◌∷◌, ◌++◌, ℕ}
use Rattle.numerals.specs.Decimal.{decimal}

-- the byte after a number: a space where numbers follow, else a newline
abbrev pub separator : List ℕ → ℕ
separator [] = 10
separator (n ∷ numbers) = 32

-- "decimal numbers with one space between and a newline after the last"
abbrev pub line_of : List ℕ → List ℕ
line_of [] = []
line_of (n ∷ numbers) = decimal n ++ (separator numbers ∷ line_of numbers)
