-- The starred grids of document 01 have the figures of its table, the costs less the sum of the weights: computed from the definitions, over all cut
-- vectors.
use mathlib.Core.Path.{◌≡◌, refl}
use mathlib.Core.List.{map}
use Rattle.numbers.specs.Gcd.{gcd}
use Rattle.numbers.specs.Sums.{same}
use Rattle.multipartition.specs.Lists.{all_below, first_failing, list_of, starting_with, those}
use Rattle.multipartition.specs.Cuts.{is_even, cuts_within, most_of, cut_cost, not_later, not_more, precedes, preferred, chosen, cheapest_within}
use Rattle.multipartition.specs.Moduli.{moduli_of}
use Rattle.multipartition.specs.Matrix.{remainder, finish, finished_rows, rows_of, remainders_of, matrix_of}
use Rattle.multipartition.specs.MixedRadix.{number_from, digits_of, digits_up}
use Rattle.multipartition.specs.Owners.{times, coordinates_at, owner_at}
use Rattle.multipartition.specs.Neighbours.{column_of, turn, turned, next_owner, neighbour_at}
use Rattle.multipartition.specs.Tiles.{position_of}
use Rattle.multipartition.specs.Chains.{lowest, heads_of, nexts_of, heads_at, nexts_at}
use Rattle.multipartition.specs.Jobs.{plan_with, plan_answer}
use Rattle.multipartition.specs.StarredGrids.{Grid, figure_of, computed, starred}

-- every figure of every starred grid
pub starred_grids : map computed starred ≡ map (λ (grid : Grid). grid.answer) starred
unfolding gcd same all_below first_failing list_of starting_with those is_even cuts_within most_of cut_cost not_later not_more precedes preferred chosen cheapest_within moduli_of remainder finish finished_rows rows_of remainders_of matrix_of number_from digits_of digits_up times coordinates_at owner_at column_of turn turned next_owner neighbour_at position_of lowest heads_of nexts_of heads_at nexts_at plan_with plan_answer figure_of
starred_grids = refl
