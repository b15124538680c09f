-- What a readable line is, and where a text stops being the beginning of one (document 01, "The printed plan").
use Rattle.std.specs.Prelude.{◌≡◌, ◌⊎◌, List, [], ◌∷◌, ◌++◌, ℕ, ◌+◌, ◌≤◌, length, take}
use Rattle.numerals.specs.Lines.{line_of}
use Rattle.multipartition.specs.Answers.{Answer, answered, refused}

-- "A number .. is at most 4,294,967,295."
abbrev pub largest : ℕ
largest = 4294967295

-- "A readable line has 2 to 12 numbers"; document 02, request g: the text line "has up to 17 numbers": the most that it has
abbrev pub most_numbers : ℕ
most_numbers = 17

-- every number of a list is at most `bound`
abbrev pub AllAtMost : ℕ → List ℕ → Type 0
AllAtMost bound [] = Unit {0}
AllAtMost bound (n ∷ numbers) = (n ≤ bound) × AllAtMost bound numbers

-- the numbers of a readable line
pub record LineNumbers (numbers : List ℕ) : Type 0 where
  pub enough : 2 ≤ length numbers
  pub few : length numbers ≤ most_numbers
  pub small : AllAtMost largest numbers

-- a readable line: such numbers "with one space between and a newline after the last", and "nothing follows its newline"
abbrev pub Readable : List ℕ → Type 0
Readable text = (numbers : List ℕ) × LineNumbers numbers × (text ≡ line_of numbers)

-- it begins a readable line: with some further bytes, or none, it is one
abbrev pub Begins : List ℕ → Type 0
Begins front = (further : List ℕ) × Readable (front ++ further)

-- the first k bytes of a text begin no readable line
abbrev pub Astray : List ℕ → ℕ → Type 0
Astray text k = (k ≤ length text) × (Begins (take k text) → ⊥)

-- "the place is the length of the shortest beginning of the input that begins no readable line, or, if there is none, the input's length
-- plus 1"
abbrev pub Place : List ℕ → ℕ → Type 0
Place text k =
    (Astray text k × ((j : ℕ) → Astray text j → k ≤ j))
    ⊎ (((j : ℕ) → Astray text j → ⊥) × (k ≡ length text + 1))

-- what a reader of the text answers: the numbers of a readable line, else refusal 10 with its place
abbrev pub Finds : List ℕ → Answer (List ℕ) → Type 0
Finds text (answered numbers) = LineNumbers numbers × (text ≡ line_of numbers)
Finds text (refused number place) = (Readable text → ⊥) × (number ≡ 10) × Place text place
