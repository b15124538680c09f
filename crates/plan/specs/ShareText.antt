-- What is told of a job that is refused with 5 (document 02, request j: "A user refused with 5 wants to know how far down to go"). The line on standard
-- error is the project's decision (docs/DECISIONS.md 48).
use Rattle.std.specs.Prelude.{List, [], ◌∷◌, ◌++◌, ℕ}
use Rattle.std.proofs.Math.Option.{Option, none, some}
use Rattle.numerals.specs.Words.{bytes_of}
use Rattle.numerals.specs.Lines.{line_of}
use Rattle.multipartition.specs.Answers.{Answer, answered, refused}

-- "the smallest divisor of p for which the same job is refused with 5", in words; of every other job nothing is told
unfoldable pub share_text : Answer (Option ℕ) → List ℕ
share_text (answered (some x)) =
    bytes_of "plan: no cuts that fit this grid give every processor equally many tiles in every slab; the smallest divisor of p for which none do is "
    ++ line_of (x ∷ [])
share_text (answered none) = []
share_text (refused number place) = []
