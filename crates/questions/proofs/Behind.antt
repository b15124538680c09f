-- A list that is gone through from its end, as `iter().enumerate().rev()` goes: what is left is a front of it.
use mathlib.Core.Path.{◌≡◌, sym, ap, ◌∙◌}
use mathlib.Core.List.{List, [], ◌∷◌}
use Prim.Native.Nat.{ℕ, ◌+◌, ◌≤◌, ◌<◌}
use native.Mathlib.Numerals.{add-one}
use native.Mathlib.Omega.{arith}
use lib.ListN.{length, get_or, take}
use lib.Seq.{take-suc, take-append_seam, length-take-le}
use Rattle.std.specs.List.{push}
use Rattle.std.proofs.lemmas.List.{length_push, get_or_push}

-- the places before i, of the first n
pub record Before (xs : List ℕ) (n i : ℕ) (left : List ℕ) : Type 0 where
  pub few : i ≤ n
  pub long : n ≤ length xs
  pub left_is : left ≡ take i xs

-- at the start all are left
pub all_left : (xs : List ℕ) (n : ℕ) (left : List ℕ) → n ≤ length xs → left ≡ take n xs → (length left ≡ n) × Before xs n (length left) left
all_left xs n left l e =
    let whole : length left ≡ n = ap length e ∙ length-take-le n xs l in
    (whole, record { few = omega (arith, whole); long = l; left_is = rw whole e })

-- place i, with m, is the last that was left
pub one_behind : (xs : List ℕ) (n : ℕ) (left back : List ℕ) (i m : ℕ) → Before xs n (length left) left → left ≡ push back m → i ≡ length back
    → (length left ≡ i + 1) × (i < n) × (m ≡ get_or xs i 0) × Before xs n (length back) back
one_behind xs n left back i m b e f =
    let more : length left ≡ i + 1 = ap length e ∙ length_push back m ∙ ap (λ (k : ℕ). k + 1) (sym f) in
    let within : i < length xs = omega (arith, b.few, b.long, more) in
    let both : push back m ≡ push (take i xs) (get_or xs i 0)
    = sym e ∙ b.left_is ∙ ap (λ (k : ℕ). take k xs) (more ∙ add-one i) ∙ take-suc xs i 0 within in
    let long : length (take i xs) ≡ i = length-take-le i xs (omega (arith, within)) in
    let front : back ≡ take i xs
    = sym (take-append_seam back (m ∷ []))
    ∙ ap (take (length back)) both
    ∙ ap (λ (k : ℕ). take k (push (take i xs) (get_or xs i 0))) (sym f ∙ sym long)
    ∙ take-append_seam (take i xs) (get_or xs i 0 ∷ []) in (
      more,
      omega (arith, b.few, more),
      sym (get_or_push back m 0 i (sym f)) ∙ rw both (get_or_push (take i xs) (get_or xs i 0) 0 i long),
      record { few = omega (arith, b.few, more, f); long = b.long; left_is = front ∙ ap (λ (k : ℕ). take k xs) f },
    )
