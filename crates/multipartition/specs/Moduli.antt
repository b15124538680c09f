-- The moduli (document 01, "Owners"; source 001, equation 1).
use Rattle.std.specs.Prelude.{List, [], ◌∷◌, ℕ, ◌/◌}
use Rattle.numbers.specs.Gcd.{gcd}
use Rattle.numbers.specs.Products.{product}

-- "mi = gcd(p, bi × ... × bd) / gcd(p, b(i+1) × ... × bd), an empty product being 1."
unfoldable pub moduli_of : ℕ → List ℕ → List ℕ
moduli_of p [] = []
moduli_of p (b ∷ cuts) = gcd p (product (b ∷ cuts)) / gcd p (product cuts) ∷ moduli_of p cuts
