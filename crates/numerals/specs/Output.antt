-- Bytes written into a lent list. A byte for which the list has no place is left out.
use Rattle.std.specs.Prelude.{◌≡◌, List, ℕ, ◌+◌, min, max, length}
use Rattle.std.proofs.lemmas.List.Edits.{sets}

-- the place after `count` bytes from place `at` on, in a list of `size` places: it does not pass the end
abbrev pub place_after : ℕ → ℕ → ℕ → ℕ
place_after size at count = min (at + count) (max at size)

-- the bytes stand from place `at` on, as far as the list reaches; every other place is as it was; `next` is the place after them
pub record Written (before : List ℕ) (at : ℕ) (bytes after : List ℕ) (next : ℕ) : Type 0 where
  pub contents : after ≡ sets before at bytes
  pub place : next ≡ place_after (length before) at (length bytes)
