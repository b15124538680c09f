-- What the functions of the search ask of the question (spare, each) with `left` dimensions left and of what is remembered, and what they answer.
use Rattle.std.specs.Prelude.{List, ℕ, ◌≤◌, length}
use Rattle.cuts.specs.Questions.{Posed}
use Rattle.cuts.specs.Memory.{Remembers}
use Rattle.cuts.specs.Search.{Cuttable, Searched}
use Rattle.cuts.specs.declared.search.Best.{Best}
use Rattle.cuts.specs.declared.tables.Tables.{Tables}

-- what `known` has is right
abbrev pub Knows : Tables → List Best → Type 0
Knows t known = Remembers t.most.now t.weights.now t.divisors.now t.places.now known

-- a search
pub record Asks (t : Tables) (known : List Best) (left spare each : ℕ) : Type 0 where
  pub within : left ≤ length t.most.now
  pub posed : Posed t.divisors.now spare each
  pub memory : Knows t known

-- a cut, t times the unit, that the first dimension may have
abbrev pub CuttableIn : Tables → ℕ → ℕ → ℕ → ℕ → ℕ → Type 0
CuttableIn tables left spare each cofactor t = Cuttable tables.most.now tables.divisors.now left spare each cofactor t

-- what it answers among the cuts of class Q
abbrev pub SearchedIn : (List ℕ → Type 0) → Tables → List Best → ℕ → Best → Type 0
SearchedIn Q t known left r = Searched Q t.most.now t.weights.now t.divisors.now t.places.now known left r
