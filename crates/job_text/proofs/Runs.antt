-- The reader reads a readable line to its end: each number's digits, what follows them, and the next.
use mathlib.Core.Path.{◌≡◌, refl, ap, ap₂, ◌∙◌}
use mathlib.Core.Bool.{Bool, true, cond, ◌&&◌}
use mathlib.Core.List.{List, [], ◌∷◌, ◌++◌, append_assoc}
use Prim.Native.Nat.{ℕ, ◌+◌, ◌-◌, ◌*◌, ◌/◌, ◌%◌, ◌≤◌, ◌<◌}
use native.Mathlib.Nat.{not-suc-le-zero}
use native.Mathlib.Omega.{arith}
use lib.ListN.{length}
use borrow.Author.Tests.{lt-ltb, ne_eqb, le-leb}
use Rattle.numerals.specs.Decimal.{decimal, digit}
use Rattle.numerals.specs.Lines.{line_of}
use Rattle.numerals.proofs.Decimal.{decimal_small, decimal_more, by_tens}
use Rattle.job_text.specs.Readable.{largest, most_numbers, AllAtMost, LineNumbers}
use Rattle.job_text.specs.Machine.{State, between, inside, finished, astray, is_digit, step}
use Rattle.job_text.proofs.Reached.{length-one_more}

-- the state after some bytes
abbrev pub run : State → List ℕ → State
run s [] = s
run s (b ∷ bs) = run (step s b) bs

pub run-append : (s : State) (t u : List ℕ) → run s (t ++ u) ≡ run (run s t) u
run-append s [] u = refl
run-append s (b ∷ t) u = run-append (step s b) t u

pub run_astray : (t : List ℕ) → run astray t ≡ astray
run_astray [] = refl
run_astray (b ∷ t) = run_astray t

digit_test : (d : ℕ) → d < 10 → is_digit (digit d) ≡ true
digit_test d h = ap₂ ◌&&◌ (le-leb 48 (digit d) (omega arith)) (le-leb (digit d) 57 (omega arith))

take-digit : (ns : List ℕ) (d : ℕ) → d < 10 → step (between ns) (digit d) ≡ inside ns d
take-digit ns d h =
    let value : 48 + d - 48 ≡ d = omega arith in
    ap (λ (t : Bool). cond t (inside ns (48 + d - 48)) astray) (digit_test d h)
    ∙ ap (inside ns) value

take_further : (ns : List ℕ) (v d : ℕ) → d < 10 → 0 < v → v * 10 + d ≤ largest → step (inside ns v) (digit d) ≡ inside ns (v * 10 + d)
take_further ns v d h k m =
    let value : 48 + d - 48 ≡ d = omega arith in
    simp (digit_test d h, value, ne_eqb v 0 (λ e. omega arith), le-leb (v * 10 + d) largest m)

take_number : (ns : List ℕ) (n : ℕ) → n ≤ largest → run (between ns) (decimal n) ≡ inside ns n
take_number ns = by_tens (λ m. m ≤ largest → run (between ns) (decimal m) ≡ inside ns m) small more
  where
    small : (m : ℕ) → m < 10 → m ≤ largest → run (between ns) (decimal m) ≡ inside ns m
    small m h k = ap (run (between ns)) (decimal_small m h) ∙ take-digit ns m h

    more : (m : ℕ) → 10 ≤ m → (m / 10 ≤ largest → run (between ns) (decimal (m / 10)) ≡ inside ns (m / 10)) → m ≤ largest → run (between ns) (decimal m) ≡ inside ns m
    more m h ih k =
        let whole : m / 10 * 10 + m % 10 ≡ m = omega arith in
        ap (run (between ns)) (decimal_more m h)
        ∙ run-append (between ns) (decimal (m / 10)) (digit (m % 10) ∷ [])
        ∙ ap (λ (s : State). step s (digit (m % 10))) (ih (omega arith))
        ∙ take_further ns (m / 10) (m % 10) (omega arith) (omega arith) (omega arith)
        ∙ ap (inside ns) whole

take_space : (ns : List ℕ) (v : ℕ) → length ns + 1 < most_numbers → step (inside ns v) 32 ≡ between (ns ++ (v ∷ []))
take_space ns v h = simp (lt-ltb (length ns + 1) most_numbers h)

take_newline : (ns : List ℕ) (v : ℕ) → 0 < length ns → step (inside ns v) 10 ≡ finished (ns ++ (v ∷ []))
take_newline ns v h = simp (lt-ltb 0 (length ns) h)

-- the rest of a line, after the numbers ms
take_line : (ms ns : List ℕ) → 0 < length ns → 2 ≤ length ms + length ns → length ms + length ns ≤ most_numbers → AllAtMost largest ns → run (between ms) (line_of ns) ≡ finished (ms ++ ns)
take_line ms [] h k m a = absurd (not-suc-le-zero h)
take_line ms (n ∷ []) h k m a =
    run-append (between ms) (decimal n) (10 ∷ [])
    ∙ ap (λ (s : State). step s 10) (take_number ms n a.0)
    ∙ take_newline ms n (omega arith)
take_line ms (n ∷ n' ∷ ns) h k m a =
    let long = length-one_more ms n in
    run-append (between ms) (decimal n) (32 ∷ line_of (n' ∷ ns))
    ∙ ap (λ (s : State). run (step s 32) (line_of (n' ∷ ns))) (take_number ms n a.0)
    ∙ ap (λ (s : State). run s (line_of (n' ∷ ns))) (take_space ms n (omega arith))
    ∙ take_line (ms ++ (n ∷ [])) (n' ∷ ns) (omega arith) (omega arith) (omega arith) a.1
    ∙ ap finished (append_assoc ms (n ∷ []) (n' ∷ ns))

pub run_line : (ns : List ℕ) → LineNumbers ns → run (between []) (line_of ns) ≡ finished ns
run_line ns h = let k = h.enough in take_line [] ns (omega arith) (omega arith) (omega arith) h.small
