-- The reader of a line, byte by byte: what the private functions do. The contract of `read_job` does not name it; that the two agree is proved.
use Rattle.std.specs.Prelude.{Bool, true, false, cond, ◌&&◌, List, [], ◌∷◌, ◌++◌, ℕ, ◌+◌, ◌-◌, ◌*◌, ltb, leb, eqb, length}
use Rattle.multipartition.specs.Answers.{Answer, answered, refused}
use Rattle.job_text.specs.Readable.{largest, most_numbers}

-- where the reader stands, with the numbers that it has read whole
pub data State : Type 0 where
  -- a number is to begin
  between : List ℕ → State
  -- digits of a further number are read, and this is their value
  inside : List ℕ → ℕ → State
  -- the newline is read
  finished : List ℕ → State
  -- no readable line begins so
  astray : State

abbrev pub is_digit : ℕ → Bool
is_digit b = leb 48 b && leb b 57

-- a digit after digits: none follows a "0", and the number is not too large
abbrev pub after_digit : List ℕ → ℕ → ℕ → State
after_digit ns v d = cond (eqb v 0) astray (cond (leb (v * 10 + d) largest) (inside ns (v * 10 + d)) astray)

-- a space after a number: there is room for one more
abbrev pub after_space : List ℕ → ℕ → State
after_space ns v = cond (ltb (length ns + 1) most_numbers) (between (ns ++ (v ∷ []))) astray

-- a newline after a number: it is not the first
abbrev pub after_newline : List ℕ → ℕ → State
after_newline ns v = cond (ltb 0 (length ns)) (finished (ns ++ (v ∷ []))) astray

-- one byte
abbrev pub step : State → ℕ → State
step (between ns) b = cond (is_digit b) (inside ns (b - 48)) astray
step (inside ns v) b = cond (is_digit b) (after_digit ns v (b - 48)) (cond (eqb b 32) (after_space ns v) (cond (eqb b 10) (after_newline ns v) astray))
step (finished ns) b = astray
step astray b = astray

-- the end of the text, after k bytes
abbrev pub at_end : State → ℕ → Answer (List ℕ)
at_end (between ns) k = refused 10 (k + 1)
at_end (inside ns v) k = refused 10 (k + 1)
at_end (finished ns) k = answered ns
at_end astray k = refused 10 k

abbrev pub is_astray : State → Bool
is_astray (between ns) = false
is_astray (inside ns v) = false
is_astray (finished ns) = false
is_astray astray = true

-- the bytes after the first k, from a state on: the first that leads astray is the last that counts
abbrev pub read_from : State → ℕ → List ℕ → Answer (List ℕ)
read_from s k [] = at_end s k
read_from s k (b ∷ bytes) = elim (is_astray (step s b)) [ true ↦ refused 10 (k + 1) | false ↦ read_from (step s b) (k + 1) bytes ]

-- the whole text
unfoldable pub read_line : List ℕ → Answer (List ℕ)
read_line text = read_from (between []) 0 text
