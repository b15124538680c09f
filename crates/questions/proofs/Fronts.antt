-- The owner's number, one coordinate more at a time.
use mathlib.Core.Path.{◌≡◌}
use mathlib.Core.List.{List}
use Prim.Native.Nat.{ℕ, zero, suc, ◌+◌, ◌*◌, ◌%◌, ◌≤◌, ◌<◌}
use native.Mathlib.Nat.{mod-lt}
use native.Mathlib.Numerals.{add-one}
use native.Mathlib.Omega.{arith}
use lib.Arith.{digits_lt}
use lib.ListN.{length, get_or, take, drop}
use lib.Seq.{get_or-take, length-take-le}
use Rattle.numbers.specs.Products.{product}
use Rattle.multipartition.specs.MixedRadix.{number_from}
use Rattle.multipartition.specs.Owners.{times, coordinates_at, owner_at}
use Rattle.layout.specs.Plans.{rows_from}
use Rattle.layout.proofs.Lists.{product-add-one}
use Rattle.layout.proofs.Places.{row_at}
use Rattle.layout.proofs.Owners.{number_none, number-add-one, coordinate-at}
use Rattle.questions.specs.Bounds.{Reduced}
use Rattle.questions.proofs.Bounds.{front_high}

-- the number that the first i coordinates make
unfoldable pub owner_front : ℕ → List ℕ → List ℕ → List ℕ → ℕ → ℕ
owner_front d moduli matrix position i = number_from 0 (take i moduli) (coordinates_at (take d moduli) (rows_from d 0 d matrix) position)

-- coordinate i
abbrev coordinate : ℕ → List ℕ → List ℕ → List ℕ → ℕ → ℕ
coordinate d moduli matrix position i = times (take d (drop (i * 5) matrix)) position % get_or moduli i 0

module _ (d : ℕ) (moduli matrix position : List ℕ) (h : Reduced d moduli matrix) where
  pub owner_front_none : owner_front d moduli matrix position 0 ≡ 0
  unfolding owner_front
  owner_front_none = number_none 0 moduli _

  owner_front-add-one : (i : ℕ) → i < d
      → owner_front d moduli matrix position (i + 1) ≡ owner_front d moduli matrix position i * get_or moduli i 0 + coordinate d moduli matrix position i
  unfolding owner_front
  owner_front-add-one i l =
      let within : i < length (take d moduli) = omega (arith, length-take-le d moduli h.long) in
      let here : get_or (coordinates_at (take d moduli) (rows_from d 0 d matrix) position) i 0 ≡ coordinate d moduli matrix position i
      = rw (coordinate-at (take d moduli) (rows_from d 0 d matrix) position i within, row_at d matrix i l, get_or-take d moduli i 0 l) in
      rw (number-add-one 0 moduli (coordinates_at (take d moduli) (rows_from d 0 d matrix) position) i (omega (arith, h.long)), here)

  owner_front_below : (i : ℕ) → i ≤ d → owner_front d moduli matrix position i < product (take i moduli)
  owner_front_below zero l = rw owner_front_none (omega arith)
  owner_front_below (suc i) l =
      let m : i < d = omega arith in
      rw (← add-one i, owner_front-add-one i m, product-add-one moduli i (omega (arith, h.long)))
      (digits_lt (owner_front_below i (omega arith)) (mod-lt _ (h.modulus_low i m)))

  -- a coordinate more
  pub owner_front-next : (i number digit : ℕ) → i < d
      → number ≡ owner_front d moduli matrix position i
      → digit ≡ times (take d (drop (i * 5) matrix)) position % get_or moduli i 0
      → number * get_or moduli i 0 + digit ≡ owner_front d moduli matrix position (i + 1)
  owner_front-next i number digit l e f = rw (owner_front-add-one i l, e, f)

  pub owner_front_high : (i : ℕ) → i ≤ d → owner_front d moduli matrix position i < 4096
  owner_front_high i l = omega (arith, owner_front_below i l, front_high d moduli matrix h i l)

  -- the number has room for a coordinate more
  pub owner_front_room : (i number : ℕ) → i < d → number ≡ owner_front d moduli matrix position i → number * get_or moduli i 0 < 4096
  owner_front_room i number l e = rw e (omega (arith, owner_front-add-one i l, owner_front_high (i + 1) (omega arith)))

  pub owner_front_all : (i number : ℕ) → d ≤ i → i ≤ d → number ≡ owner_front d moduli matrix position i
      → number ≡ owner_at (take d moduli) (rows_from d 0 d matrix) position
  unfolding owner_front owner_at
  owner_front_all i number low high e = let same : i ≡ d = omega arith in rw same at e
