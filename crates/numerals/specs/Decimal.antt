-- Decimal numbers as bytes (document 01, "The printed plan").
use Rattle.std.specs.Prelude.{◌≡◌, true, false, List, [], ◌∷◌, ◌++◌, ℕ, zero, suc, ◌+◌, ◌-◌, ◌*◌, ◌/◌, ◌%◌, ◌≤◌, ltb}

-- the byte of a digit: "0" is 48
abbrev pub digit : ℕ → ℕ
digit d = 48 + d

-- the digits of n, the most significant first; n is below the fuel
unfoldable pub decimal_within : ℕ → ℕ → List ℕ
decimal_within zero n = []
decimal_within (suc fuel) n = elim (ltb n 10) [ true ↦ digit n ∷ [] | false ↦ decimal_within fuel (n / 10) ++ (digit (n % 10) ∷ []) ]

-- a number in decimal digits, the most significant first
unfoldable pub decimal : ℕ → List ℕ
decimal n = decimal_within (suc n) n

-- bytes from "0" to "9"
abbrev pub Digits : List ℕ → Type 0
Digits [] = Unit {0}
Digits (b ∷ bytes) = (48 ≤ b) × (b ≤ 57) × Digits bytes

-- "A number has no sign and no leading zero (0 itself is "0")."
abbrev pub Numeral : List ℕ → Type 0
Numeral [] = ⊥
Numeral (b ∷ bytes) = Digits (b ∷ bytes) × (b ≡ 48 → bytes ≡ [])

-- the value of digits that follow digits of value v
abbrev pub value_after : ℕ → List ℕ → ℕ
value_after v [] = v
value_after v (b ∷ bytes) = value_after (v * 10 + (b - 48)) bytes

-- the number that digits stand for
abbrev pub value_of : List ℕ → ℕ
value_of = value_after 0
