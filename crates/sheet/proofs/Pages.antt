-- Lines and pages: how long they are, and a page while its lines are written out one after the other.
use mathlib.Core.Path.{◌≡◌, refl, sym, ap, ◌∙◌}
use mathlib.Core.List.{List, [], ◌∷◌, ◌++◌, append_assoc, append-nil}
use Prim.Native.Nat.{ℕ, zero, suc, ◌+◌, ◌*◌, ◌≤◌, ◌<◌}
use native.Mathlib.Nat.{le_of_eq, le_trans}
use native.Mathlib.Omega.{arith}
use lib.Dec.{ltb}
use lib.ListN.{length, take, drop, length-append, drop_of_length-le}
use lib.Seq.{take_at, drop-drop, drop_at, drop-append-add}
use borrow.Author.Tests.{ltb-true}
use Rattle.multipartition.specs.Slabs.{slab_start, slab_end}
use Rattle.multipartition.proofs.Slabs.{slab_start_last, slabs_in_order}
use Rattle.multipartition.proofs.Tests.{by_cond}
use Rattle.sheet.specs.Lines.{slab_line, blanks}
use Rattle.sheet.specs.Pages.{sheet_line, lines_from, Fits}
use Rattle.sheet.proofs.Fields.{Narrow, narrow, length-slab_line}

-- ---- a line

module _ (n b share : ℕ) (f : Fits n b share) where
  pub start_high : (s : ℕ) → s ≤ b → slab_start n b s ≤ n
  start_high s l = le_trans (slabs_in_order n b f.cut_low f.cut_fits s b l (omega arith)) (le_of_eq (slab_start_last n b f.cut_low))

  pub narrow_slab : (s : ℕ) → s < b → Narrow s (slab_start n b s) (slab_end n b s) share
  narrow_slab s l =
      narrow _ _ _ _ (omega (arith, l, f.cut_high)) (omega (arith, start_high s (omega arith), f.extent_high)) (omega (arith, start_high (suc s) l, f.extent_high))
      (omega (arith, f.share_high))

  -- "Each line is exactly 72 columns"
  pub length-sheet_line : (caption : List ℕ) (s : ℕ) → length (sheet_line n b share caption s) ≡ 72
  unfolding sheet_line
  length-sheet_line caption s =
      by_cond (λ (line : List ℕ). length line ≡ 72) (ltb s b) (slab_line s (slab_start n b s) (slab_end n b s) share caption) (blanks 72)
      (λ inside. length-slab_line _ _ _ _ caption (narrow_slab s (ltb-true s b inside)))
      (λ outside. refl)

-- ---- lines, one after the other

module _ (line : ℕ → List ℕ) where
  lines_next : (s i : ℕ) → lines_from line s (suc i) ≡ lines_from line s i ++ (line (s + i) ++ (10 ∷ []))
  unfolding lines_from
  lines_next s zero = let e : s ≡ s + 0 = omega arith in ap (λ (k : ℕ). line k ++ (10 ∷ [])) e
  lines_next s (suc i) =
      let e : suc s + i ≡ s + suc i = omega arith in
      ap (λ (l : List ℕ). line s ++ (10 ∷ l)) (lines_next (suc s) i)
      ∙ sym (append_assoc (line s) (10 ∷ lines_from line (suc s) i) (line (suc s + i) ++ (10 ∷ [])))
      ∙ ap (λ (k : ℕ). line s ++ (10 ∷ lines_from line (suc s) i) ++ (line k ++ (10 ∷ []))) e

  module _ (columns : (s : ℕ) → length (line s) ≡ 72) where
    pub length_lines : (s i : ℕ) → length (lines_from line s i) ≡ i * 73
    unfolding lines_from
    length_lines s zero = refl
    length_lines s (suc i) = omega (arith, length-append (line s) (10 ∷ lines_from line (suc s) i), columns s, length_lines (suc s) i)

    -- the first line with its newline, and the others
    parted : (s count : ℕ) → (lines_from line s (suc count) ≡ (line s ++ (10 ∷ [])) ++ lines_from line (suc s) count) × (length (line s ++ (10 ∷ [])) ≡ 73)
    unfolding lines_from
    parted s count = (sym (append_assoc (line s) (10 ∷ []) (lines_from line (suc s) count)), omega (arith, length-append (line s) (10 ∷ []), columns s))

    -- a line of a page, with its newline
    pub line_at : (s count i : ℕ) → i < count → take 73 (drop (i * 73) (lines_from line s count)) ≡ line (s + i) ++ (10 ∷ [])
    line_at s zero i l = absurd (omega arith)
    line_at s (suc count) zero l =
        let e : s ≡ s + 0 = omega arith in
        let p = parted s count in
        ap (take 73) p.0 ∙ take_at (line s ++ (10 ∷ [])) (lines_from line (suc s) count) 73 p.1 ∙ ap (λ (k : ℕ). line k ++ (10 ∷ [])) e
    line_at s (suc count) (suc i) l =
        let e : suc s + i ≡ s + suc i = omega arith in
        let place : suc i * 73 ≡ 73 + i * 73 = omega arith in
        let p = parted s count in
        ap (λ (k : ℕ). take 73 (drop k (lines_from line s (suc count)))) place
        ∙ ap (take 73) (sym (drop-drop (i * 73) 73 (lines_from line s (suc count))))
        ∙ ap (λ (t : List ℕ). take 73 (drop (i * 73) t)) (ap (drop 73) p.0 ∙ drop_at (line s ++ (10 ∷ [])) (lines_from line (suc s) count) 73 p.1)
        ∙ line_at (suc s) count i (omega arith)
        ∙ ap (λ (k : ℕ). line k ++ (10 ∷ [])) e

-- ---- a list of a page's bytes while it is filled

module _ (line : ℕ → List ℕ) (lent : List ℕ) (s : ℕ) where
  -- the first i lines stand
  abbrev pub written : ℕ → List ℕ
  written i = lines_from line s i ++ drop (i * 73) lent

  pub written_none : lent ≡ written 0
  unfolding lines_from
  written_none = refl

  pub written_next : ((k : ℕ) → length (line k) ≡ 72) → (page next : List ℕ) (at i : ℕ) → page ≡ written i → at ≡ i * 73
      → next ≡ take at page ++ line (s + i) ++ (10 ∷ drop (at + 73) page) → next ≡ written (i + 1)
  written_next columns page next at i e place stands =
      let front = lines_from line s i in
      let long : length front ≡ at = omega (arith, length_lines line columns s i) in
      let more : i + 1 ≡ suc i = omega arith in
      let behind : i * 73 + 73 ≡ (i + 1) * 73 = omega arith in
      let rest = drop ((i + 1) * 73) lent in
      let bytes = line (s + i) in
      stands
      ∙ ap (λ (l : List ℕ). take at l ++ bytes ++ (10 ∷ drop (at + 73) l)) e
      ∙ ap (λ (l : List ℕ). l ++ bytes ++ (10 ∷ drop (at + 73) (written i))) (take_at front _ at long)
      ∙ ap (λ (l : List ℕ). front ++ bytes ++ (10 ∷ l))
      (ap (λ (k : ℕ). drop (k + 73) (written i)) (sym long)
      ∙ drop-append-add front (drop (i * 73) lent) 73
      ∙ drop-drop 73 (i * 73) lent
      ∙ ap (λ (k : ℕ). drop k lent) behind)
      ∙ append_assoc front bytes (10 ∷ rest)
      ∙ ap (λ (l : List ℕ). front ++ l) (sym (append_assoc bytes (10 ∷ []) rest))
      ∙ sym (append_assoc front (bytes ++ (10 ∷ [])) rest)
      ∙ ap (λ (l : List ℕ). l ++ rest) (sym (ap (lines_from line s) more ∙ lines_next line s i))

  pub written_all : (i : ℕ) → i ≡ 50 → length lent ≡ 3650 → written i ≡ lines_from line s 50
  written_all i all long =
      ap (λ (l : List ℕ). lines_from line s i ++ l) (drop_of_length-le lent {i = i * 73} (omega arith))
      ∙ append-nil (lines_from line s i)
      ∙ ap (lines_from line s) all
