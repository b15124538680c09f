-- Lines of numbers: a line number by number, from the front and from the end, and its length.
use mathlib.Core.Path.{◌≡◌, refl, sym, ap, ap₂, ◌∙◌}
use mathlib.Core.List.{List, [], ◌∷◌, ◌++◌, append_assoc, append-nil}
use Prim.Native.Nat.{ℕ, suc, ◌*◌, ◌^◌, ◌≤◌, ◌<◌}
use native.Mathlib.Omega.{arith}
use lib.ListN.{length, take, get_or, length-append}
use lib.Seq.{take-suc}
use Rattle.numerals.specs.Decimal.{decimal}
use Rattle.numerals.specs.Lines.{separator, line_of}
use Rattle.numerals.proofs.Decimal.{length-decimal}

-- numbers with a space after each: the beginning of a longer line
abbrev pub spaced : List ℕ → List ℕ
spaced [] = []
spaced (n ∷ ns) = decimal n ++ (32 ∷ spaced ns)

pub spaced-append : (ns ms : List ℕ) → spaced (ns ++ ms) ≡ spaced ns ++ spaced ms
spaced-append [] ms = refl
spaced-append (n ∷ ns) ms =
    ap (λ (t : List ℕ). decimal n ++ (32 ∷ t)) (spaced-append ns ms)
    ∙ sym (append_assoc (decimal n) (32 ∷ spaced ns) (spaced ms))

pub line-append : (ns : List ℕ) (m : ℕ) (ms : List ℕ) → line_of (ns ++ (m ∷ ms)) ≡ spaced ns ++ line_of (m ∷ ms)
line-append [] m ms = refl
line-append (n ∷ ns) m ms =
    ap (λ (t : List ℕ). decimal n ++ t) (ap₂ {C = List ℕ} (λ b t. b ∷ t) (more ns) (line-append ns m ms))
    ∙ sym (append_assoc (decimal n) (32 ∷ spaced ns) (line_of (m ∷ ms)))
  where
    more : (ls : List ℕ) → separator (ls ++ (m ∷ ms)) ≡ 32
    more [] = refl
    more (l ∷ ls) = refl

-- ---- a line number by number

-- numbers with a space before each: what follows a first number
abbrev pub followed : List ℕ → List ℕ
followed [] = []
followed (n ∷ ns) = 32 ∷ (decimal n ++ followed ns)

pub followed-append : (ns ms : List ℕ) → followed (ns ++ ms) ≡ followed ns ++ followed ms
followed-append [] ms = refl
followed-append (n ∷ ns) ms =
    ap (λ (t : List ℕ). 32 ∷ (decimal n ++ t)) (followed-append ns ms)
    ∙ ap (λ (t : List ℕ). 32 ∷ t) (sym (append_assoc (decimal n) (followed ns) (followed ms)))

-- one number more
pub followed-suc : (ns : List ℕ) (i : ℕ) → i < length ns → followed (take (suc i) ns) ≡ followed (take i ns) ++ (32 ∷ decimal (get_or ns i 0))
followed-suc ns i h =
    ap followed (take-suc ns i 0 h)
    ∙ followed-append (take i ns) (get_or ns i 0 ∷ [])
    ∙ ap (λ (t : List ℕ). followed (take i ns) ++ (32 ∷ t)) (append-nil (decimal (get_or ns i 0)))

-- the first number, the others, and the newline
pub line-followed : (n : ℕ) (ns : List ℕ) → line_of (n ∷ ns) ≡ decimal n ++ (followed ns ++ (10 ∷ []))
line-followed n [] = refl
line-followed n (m ∷ ms) =
    ap (λ (t : List ℕ). decimal n ++ (32 ∷ t)) (line-followed m ms ∙ sym (append_assoc (decimal m) (followed ms) (10 ∷ [])))

-- ---- how long a line is

-- numbers of at most k digits, for a k above 0, and a byte after each
pub length_line : (k : ℕ) (ns : List ℕ) → ((i : ℕ) → i < length ns → get_or ns i 0 < 10 ^ suc k) → length (line_of ns) ≤ length ns * suc (suc k)
length_line k [] h = omega arith
length_line k (n ∷ ns) h =
    let digits = length-decimal k n (h 0 (omega arith)) in
    let later = length_line k ns (λ i l. h (suc i) (omega arith)) in
    let both = length-append (decimal n) (separator ns ∷ line_of ns) in
    omega arith
