-- What a state of the reader says of the bytes that led there, and that every state but `astray` is on the way to a readable line.
use mathlib.Core.Path.{◌≡◌, refl, sym, ap, ap₂, ◌∙◌}
use mathlib.Core.Logic.{⊎_elim}
use mathlib.Core.Bool.{Bool, true, false, cond, ◌&&◌, true≢false, false≢true}
use mathlib.Core.List.{List, [], ◌∷◌, ◌++◌, append_assoc, append-nil}
use Prim.Native.Nat.{ℕ, ◌+◌, ◌-◌, ◌*◌, ◌≤◌, ◌<◌}
use native.Mathlib.Nat.{eq-zero-or-pos}
use native.Mathlib.Omega.{arith}
use lib.Dec.{ltb, leb, eqb}
use lib.ListN.{length, length-append}
use borrow.Author.Tests.{ltb-true, leb-true, eqb-true, eqb-false}
use Rattle.numerals.specs.Decimal.{decimal}
use Rattle.numerals.specs.Lines.{line_of, separator}
use Rattle.numerals.proofs.Decimal.{decimal_small, decimal_digit, lt_or-le}
use Rattle.numerals.proofs.Lines.{spaced, spaced-append, line-append}
use Rattle.job_text.specs.Readable.{largest, most_numbers, AllAtMost, LineNumbers, Begins}
use Rattle.job_text.proofs.Bounds.{all_append}
use Rattle.job_text.specs.Machine.{State, between, inside, finished, astray, is_digit, after_digit, after_space, after_newline, step, is_astray}

-- ---- what a state says of the bytes that led there

abbrev pub Reached : State → List ℕ → Type 0
Reached (between ns) t = (length ns < most_numbers) × AllAtMost largest ns × (t ≡ spaced ns)
Reached (inside ns v) t = (length ns < most_numbers) × AllAtMost largest ns × (v ≤ largest) × (t ≡ spaced ns ++ decimal v)
Reached (finished ns) t = LineNumbers ns × (t ≡ line_of ns)
Reached astray t = Unit {0}

pub both : (a b : Bool) → (a && b) ≡ true → (a ≡ true) × (b ≡ true)
both true b h = (refl, h)
both false b h = absurd (false≢true h)

by_test : (P : State → Type 0) (t : Bool) (x y : State) → (t ≡ true → P x) → (t ≡ false → P y) → P (cond t x y)
by_test P true x y hx hy = hx refl
by_test P false x y hx hy = hy refl

pub digit_byte : (b : ℕ) → is_digit b ≡ true → (48 ≤ b) × (b ≤ 57)
digit_byte b h = let p = both (leb 48 b) (leb b 57) h in (leb-true 48 b p.0, leb-true b 57 p.1)

pub length-one_more : (ns : List ℕ) (v : ℕ) → length (ns ++ (v ∷ [])) ≡ length ns + 1
length-one_more ns v = length-append ns (v ∷ [])

-- a further byte: a digit, a space, a newline
digit_reached : (ns : List ℕ) (v b : ℕ) (t : List ℕ) → Reached (inside ns v) t → is_digit b ≡ true → Reached (after_digit ns v (b - 48)) (t ++ (b ∷ []))
digit_reached ns v b t r e = by_test P _ _ _ (λ z. tt) (λ z. by_test P _ _ _ (goes_on z) (λ l. tt))
  where
    P : State → Type 0
    P s = Reached s (t ++ (b ∷ []))

    goes_on : eqb v 0 ≡ false → leb (v * 10 + (b - 48)) largest ≡ true → P (inside ns (v * 10 + (b - 48)))
    goes_on z l =
        let d = digit_byte b e in
        let byte : 48 + (b - 48) ≡ b = omega arith in
        let positive : 0 < v = ⊎_elim (λ h. absurd (eqb-false v 0 z h)) (λ h. h) (eq-zero-or-pos v) in (
          r.0,
          r.1,
          leb-true (v * 10 + (b - 48)) largest l,
          ap (λ (u : List ℕ). u ++ (b ∷ [])) r.3
              ∙ append_assoc (spaced ns) (decimal v) (b ∷ [])
              ∙ ap (λ (x : ℕ). spaced ns ++ (decimal v ++ (x ∷ []))) (sym byte)
              ∙ ap (λ (u : List ℕ). spaced ns ++ u) (sym (decimal_digit v (b - 48) positive (omega arith))),
        )

space_reached : (ns : List ℕ) (v b : ℕ) (t : List ℕ) → Reached (inside ns v) t → eqb b 32 ≡ true → Reached (after_space ns v) (t ++ (b ∷ []))
space_reached ns v b t r e =
    by_test (λ s. Reached s (t ++ (b ∷ []))) _ _ _ goes_on (λ e. tt)
  where
    goes_on : ltb (length ns + 1) most_numbers ≡ true → Reached (between (ns ++ (v ∷ []))) (t ++ (b ∷ []))
    goes_on h =
        let room = ltb-true (length ns + 1) most_numbers h in
        let long = length-one_more ns v in (
          omega arith,
          all_append largest ns (v ∷ []) r.1 (r.2, tt),
          ap₂ (λ (u : List ℕ) (x : ℕ). u ++ (x ∷ [])) r.3 (eqb-true b 32 e)
              ∙ append_assoc (spaced ns) (decimal v) (32 ∷ [])
              ∙ sym (spaced-append ns (v ∷ [])),
        )

newline_reached : (ns : List ℕ) (v b : ℕ) (t : List ℕ) → Reached (inside ns v) t → eqb b 10 ≡ true → Reached (after_newline ns v) (t ++ (b ∷ []))
newline_reached ns v b t r e =
    by_test (λ s. Reached s (t ++ (b ∷ []))) _ _ _ goes_on (λ e. tt)
  where
    goes_on : ltb 0 (length ns) ≡ true → Reached (finished (ns ++ (v ∷ []))) (t ++ (b ∷ []))
    goes_on h =
        let one = ltb-true 0 (length ns) h in
        let long = length-one_more ns v in
        let most = r.0 in (
          record { enough = omega arith; few = omega arith; small = all_append largest ns (v ∷ []) r.1 (r.2, tt) },
          ap₂ (λ (u : List ℕ) (x : ℕ). u ++ (x ∷ [])) r.3 (eqb-true b 10 e)
              ∙ append_assoc (spaced ns) (decimal v) (10 ∷ [])
              ∙ sym (line-append ns v []),
        )

-- a byte more
pub step_reached : (s : State) (b : ℕ) (t : List ℕ) → Reached s t → Reached (step s b) (t ++ (b ∷ []))
step_reached (between ns) b t r = by_test (λ s. Reached s (t ++ (b ∷ []))) _ _ _ begun (λ e. tt)
  where
    begun : is_digit b ≡ true → Reached (inside ns (b - 48)) (t ++ (b ∷ []))
    begun e =
        let d = digit_byte b e in
        let byte : 48 + (b - 48) ≡ b = omega arith in (
          r.0,
          r.1,
          omega arith,
          ap (λ (u : List ℕ). u ++ (b ∷ [])) r.2
              ∙ ap (λ (x : ℕ). spaced ns ++ (x ∷ [])) (sym byte)
              ∙ ap (λ (u : List ℕ). spaced ns ++ u) (sym (decimal_small (b - 48) (omega arith))),
        )
step_reached (inside ns v) b t r =
    by_test P _ _ _ (digit_reached ns v b t r)
    (λ e. by_test P _ _ _ (space_reached ns v b t r) (λ e. by_test P _ _ _ (newline_reached ns v b t r) (λ e. tt)))
  where
    P : State → Type 0
    P s = Reached s (t ++ (b ∷ []))
step_reached (finished ns) b t r = tt
step_reached astray b t r = tt

-- ---- each state but `astray` is on the way to a readable line

begins_by : (t rest ns : List ℕ) → LineNumbers ns → t ++ rest ≡ line_of ns → Begins t
begins_by t rest ns h e = (rest, (ns, h, e))

pub reached_begins : (s : State) (t : List ℕ) → is_astray s ≡ false → Reached s t → Begins t
reached_begins (between ns) t e r = ⊎_elim none some (lt_or-le (length ns) 1)
  where
    extended : (m : ℕ) (ms : List ℕ) → LineNumbers (ns ++ (m ∷ ms)) → Begins t
    extended m ms h = begins_by t (line_of (m ∷ ms)) (ns ++ (m ∷ ms)) h (ap (λ (u : List ℕ). u ++ line_of (m ∷ ms)) r.2 ∙ sym (line-append ns m ms))

    none : length ns < 1 → Begins t
    none h =
        let long = length-append ns (0 ∷ 0 ∷ []) in
        extended 0 (0 ∷ []) (record { enough = omega arith; few = omega arith; small = all_append largest ns (0 ∷ 0 ∷ []) r.1 (omega arith, (omega arith, tt)) })

    some : 1 ≤ length ns → Begins t
    some h =
        let long = length-append ns (0 ∷ []) in
        let most = r.0 in
        extended 0 [] (record { enough = omega arith; few = omega arith; small = all_append largest ns (0 ∷ []) r.1 (omega arith, tt) })
reached_begins (inside ns v) t e r = ⊎_elim none some (lt_or-le (length ns) 1)
  where
    extended : (ms : List ℕ) → LineNumbers (ns ++ (v ∷ ms)) → Begins t
    extended ms h =
        begins_by t (separator ms ∷ line_of ms) (ns ++ (v ∷ ms)) h
        (ap (λ (u : List ℕ). u ++ (separator ms ∷ line_of ms)) r.3 ∙ append_assoc (spaced ns) (decimal v) (separator ms ∷ line_of ms) ∙ sym (line-append ns v ms))

    none : length ns < 1 → Begins t
    none h =
        let long = length-append ns (v ∷ 0 ∷ []) in
        extended (0 ∷ []) (record { enough = omega arith; few = omega arith; small = all_append largest ns (v ∷ 0 ∷ []) r.1 (r.2, (omega arith, tt)) })

    some : 1 ≤ length ns → Begins t
    some h =
        let long = length-append ns (v ∷ []) in
        let most = r.0 in
        extended [] (record { enough = omega arith; few = omega arith; small = all_append largest ns (v ∷ []) r.1 (r.2, tt) })
reached_begins (finished ns) t e r = begins_by t [] ns r.0 (append-nil t ∙ r.1)
reached_begins astray t e r = absurd (true≢false e)
