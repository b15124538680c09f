-- A tile's number while it is made from the last coordinate to the first, and a position while it is made from the first to the last.
use mathlib.Core.Path.{◌≡◌, refl, sym, ap, ◌∙◌}
use mathlib.Core.List.{List, [], ◌∷◌, ◌++◌, append_assoc, append-nil}
use Prim.Native.Nat.{ℕ, ◌+◌, ◌*◌, ◌/◌, ◌%◌, ◌<◌, ◌≤◌}
use native.Mathlib.Numerals.{add-one}
use native.Mathlib.Omega.{arith}
use lib.ListN.{length, get_or, set, drop, length-append, drop_of_length-le}
use lib.Seq.{drop-cons, sets}
use Rattle.std.proofs.lemmas.List.{drop_at}
use Rattle.multipartition.specs.MixedRadix.{number_up, digits_up}

-- of the coordinates `at` and the cuts, the first ones are still to come, and the number is that of the others
pub record NumberOf (cuts at : List ℕ) (number : ℕ) (at_left cuts_left : List ℕ) : Type 0 where
  pub at_done : List ℕ
  pub cuts_done : List ℕ
  pub at_is : at ≡ at_left ++ at_done
  pub cuts_is : cuts ≡ cuts_left ++ cuts_done
  pub as_many : length at_left ≡ length cuts_left
  pub number_is : number ≡ number_up cuts_done at_done

pub number-init : (cuts at : List ℕ) → length at ≡ length cuts → NumberOf cuts at 0 at cuts
unfolding number_up
number-init cuts at many =
    record { at_done = []; cuts_done = []; at_is = sym (append-nil at); cuts_is = sym (append-nil cuts); as_many = many; number_is = refl }

-- one coordinate more: the number is that of the coordinates from place k on
pub number-next : (cuts at : List ℕ) (number : ℕ) (at_left cuts_left : List ℕ) (i b : ℕ) → NumberOf cuts at number (at_left ++ (i ∷ [])) (cuts_left ++ (b ∷ []))
    → NumberOf cuts at (number * b + i) at_left cuts_left
    × (number * b + i ≡ number_up (drop (length cuts_left) cuts) (drop (length cuts_left) at))
unfolding number_up
number-next cuts at number at_left cuts_left i b n =
    let at_is : at ≡ at_left ++ (i ∷ n.at_done) = n.at_is ∙ append_assoc at_left _ n.at_done in
    let cuts_is : cuts ≡ cuts_left ++ (b ∷ n.cuts_done) = n.cuts_is ∙ append_assoc cuts_left _ n.cuts_done in
    let many : length at_left ≡ length cuts_left
    = omega (arith, n.as_many, length-append at_left (i ∷ []), length-append cuts_left (b ∷ [])) in
    let number_is : number * b + i ≡ number_up (b ∷ n.cuts_done) (i ∷ n.at_done) = rw n.number_is (omega arith) in (
      record { at_done = i ∷ n.at_done; cuts_done = b ∷ n.cuts_done; at_is = at_is; cuts_is = cuts_is; as_many = many; number_is = number_is },
      number_is
          ∙ rw (
            ap (drop (length cuts_left)) cuts_is ∙ drop_at cuts_left _ _ refl,
            ap (drop (length cuts_left)) at_is ∙ drop_at at_left _ _ many,
          )
          refl,
    )

pub number_all : (cuts at : List ℕ) (number : ℕ) (at_left cuts_left : List ℕ) → NumberOf cuts at number at_left cuts_left → length at_left ≡ 0
    → number ≡ number_up cuts at
number_all cuts at number [] [] n none = rw (n.number_is, n.at_is, n.cuts_is) refl
number_all cuts at number [] (b ∷ cuts_left) n none = absurd (omega (arith, n.as_many))
number_all cuts at number (i ∷ at_left) cuts_left n none = absurd (omega arith)

-- ---- the digits

-- the places once all digits of what is left from place k on are stored
abbrev pub finished : List ℕ → List ℕ → ℕ → ℕ → List ℕ
finished cuts at rest k = sets at k (digits_up (drop k cuts) rest)

pub finished-next : (cuts at : List ℕ) (rest k : ℕ) → k < length cuts
    → finished cuts (set at k (rest % get_or cuts k 0)) (rest / get_or cuts k 0) (k + 1) ≡ finished cuts at rest k
unfolding digits_up
finished-next cuts at rest k l = rw (drop-cons cuts k 0 l, add-one)

pub finished_all : (cuts at : List ℕ) (rest k : ℕ) → length cuts ≤ k → finished cuts at rest k ≡ at
unfolding digits_up
finished_all cuts at rest k past = rw (drop_of_length-le cuts past)
