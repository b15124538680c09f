-- Where the edges of the slabs lie: each from the one before it.
use mathlib.Core.Path.{◌≡◌, ap, sym, ◌∙◌}
use mathlib.Core.Logic.{⊎_elim}
use Prim.Native.Nat.{ℕ, suc, ◌+◌, ◌≤◌, ◌<◌}
use native.Mathlib.Nat.{eq-or-lt_of_le}
use native.Mathlib.Numerals.{add-one}
use native.Mathlib.Omega.{arith}
use Rattle.multipartition.specs.Slabs.{slab_start, slab_of, thickness}
use Rattle.multipartition.proofs.Slabs.{slab_start-zero, slab_start_last, slab_end_is, slabs_in_order, slab_of_iff, slab_of_holds}
use Rattle.probes.specs.Edges.{Behind}

-- the slabs of an extent of n elements in b slabs
module _ (n b : ℕ) (some : 1 ≤ b) (fits : b ≤ n) where
  -- no edge lies past the end
  pub edge_high : (slab after : ℕ) → Behind n b slab after → after ≤ n
  edge_high slab after behind =
      let end = slabs_in_order n b some fits (suc slab) b behind.below (omega arith) in
      omega (arith, behind.after_is, end, slab_start_last n b some)

  -- the edge behind slab 0
  pub edge-first : (after : ℕ) → after ≡ thickness n b 0 → Behind n b 0 after
  edge-first after e = record { below = some; after_is = omega (arith, e, slab_start-zero n b) }

  -- behind an edge that an element lies past comes another slab
  pub slab_follows : (slab after : ℕ) → Behind n b slab after → (element : ℕ) → after ≤ element → element < n → slab + 1 < b
  slab_follows slab after behind element past inside =
      ⊎_elim
      (λ (last : suc slab ≡ b).
      absurd (omega (arith, behind.after_is, ap (slab_start n b) last, slab_start_last n b some, past, inside)))
      (λ (l : suc slab < b). omega arith)
      (eq-or-lt_of_le behind.below)

  -- the edge behind the next slab
  pub edge-next : (slab after : ℕ) → Behind n b slab after → (next : ℕ) → slab + 1 < b → next ≡ after + thickness n b (slab + 1) → Behind n b (slab + 1) next
  edge-next slab after behind next l e =
      let s = slab + 1 in
      let here : slab_start n b s ≡ after = ap (slab_start n b) (add-one slab) ∙ sym behind.after_is in
      record { below = l; after_is = omega (arith, e, here, slab_end_is n b s) }

  -- and it starts at the edge
  pub next_starts : (slab after : ℕ) → Behind n b slab after → (next element : ℕ) → next ≡ slab + 1 → after ≤ element → slab_start n b next ≤ element
  next_starts slab after behind next element e past =
      let here : slab_start n b next ≡ after = ap (slab_start n b) (e ∙ add-one slab) ∙ sym behind.after_is in
      omega arith

  -- the first edge past an element is behind the slab of it
  pub edge_of : (slab after : ℕ) → Behind n b slab after → (element : ℕ) → slab_start n b slab ≤ element → element < after → slab ≡ slab_of n b element
  edge_of slab after behind element starts ends =
      sym ((slab_of_iff n b some fits slab element behind.below (omega (arith, edge_high slab after behind))).1 (starts, omega (arith, behind.after_is)))

  -- which is no later than the element
  pub slab_of_starts : (slab element : ℕ) → slab ≡ slab_of n b element → element < n → slab_start n b slab ≤ element
  slab_of_starts slab element e inside = rw e (slab_of_holds n b some fits element inside).1.0
