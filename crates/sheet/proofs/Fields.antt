-- A line while it is filled field by field, from the left; and how long its fields are.
use mathlib.Core.Path.{◌≡◌, refl, sym, ap, ◌∙◌}
use mathlib.Core.List.{List, [], ◌++◌, map, append_assoc, append-nil}
use Prim.Native.Nat.{ℕ, zero, suc, ◌+◌, ◌-◌, ◌≤◌, ◌<◌}
use native.Mathlib.Omega.{arith}
use lib.ListN.{length, take, drop, length-append, length-replicate, length-map, length-take, replicate-append-replicate}
use lib.Seq.{take_at, drop-append-add}
use Rattle.numerals.specs.Decimal.{decimal}
use Rattle.numerals.proofs.Decimal.{length-decimal}
use Rattle.sheet.specs.Lines.{blanks, right_aligned, shown, left_aligned, slab_line}

-- ---- how long the fields are

length-blanks : (columns : ℕ) → length (blanks columns) ≡ columns
length-blanks columns = length-replicate columns 32

-- the numbers of a line, each with few enough digits for its field
pub record Narrow (slab first after share : ℕ) : Type 0 where
  pub slab_digits : length (decimal slab) ≤ 6
  pub first_digits : length (decimal first) ≤ 8
  pub after_digits : length (decimal after) ≤ 8
  pub share_digits : length (decimal share) ≤ 8

pub narrow : (slab first after share : ℕ) → slab < 1000000 → first < 100000000 → after < 100000000 → share < 100000000 → Narrow slab first after share
narrow slab first after share s f a t =
    record {
      slab_digits = length-decimal 5 slab s;
      first_digits = length-decimal 7 first f;
      after_digits = length-decimal 7 after a;
      share_digits = length-decimal 7 share t;
    }

pub length_right : (columns n : ℕ) → length (decimal n) ≤ columns → length (right_aligned columns n) ≡ columns
unfolding right_aligned
length_right columns n l =
    omega (arith, length-append (blanks (columns - length (decimal n))) (decimal n), length-blanks (columns - length (decimal n)))

pub length_left : (columns : ℕ) (caption : List ℕ) → length (left_aligned columns caption) ≡ columns
unfolding left_aligned
length_left columns caption =
    omega (
      arith,
      length-append (map shown (take columns caption)) (blanks (columns - length caption)),
      length-map (take columns caption) shown,
      length-take columns caption,
      length-blanks (columns - length caption),
    )

-- a field behind others, with a column between
length-next : (front field : List ℕ) → length (front ++ blanks 1 ++ field) ≡ length front + 1 + length field
length-next front field = omega (arith, length-append (front ++ blanks 1) field, length-append front (blanks 1))

drop-blanks : (k columns : ℕ) → drop k (blanks columns) ≡ blanks (columns - k)
drop-blanks zero columns = let e : columns ≡ columns - 0 = omega arith in ap blanks e
drop-blanks (suc k) zero = let e : 0 ≡ 0 - suc k = omega arith in ap blanks e
drop-blanks (suc k) (suc columns) = let e : columns - k ≡ suc columns - suc k = omega arith in drop-blanks k columns ∙ ap blanks e

-- ---- the columns up to `at` are done, and the others are blank

pub record Done (line front : List ℕ) (at : ℕ) : Type 0 where
  pub line_is : line ≡ front ++ blanks (72 - at)
  pub long : length front ≡ at

done_none : Done (blanks 72) [] 0
done_none = record { line_is = refl; long = refl }

-- blanks in two parts
blanks_split : (k m n : ℕ) → n ≡ k + m → blanks n ≡ blanks k ++ blanks m
blanks_split k m n e = ap blanks e ∙ sym (replicate-append-replicate k m 32)

module _ (line front : List ℕ) (at : ℕ) (d : Done line front at) where
  -- a column between two fields
  done_gap : at < 72 → Done line (front ++ blanks 1) (at + 1)
  done_gap l =
      record {
        line_is =
            d.line_is
            ∙ ap (λ (back : List ℕ). front ++ back) (blanks_split 1 (72 - (at + 1)) (72 - at) (omega arith))
            ∙ sym (append_assoc front (blanks 1) (blanks (72 - (at + 1))));
        long = length-append front (blanks 1) ∙ omega (arith, d.long);
      }

  -- the columns up to a place behind the front
  take_done : (k : ℕ) → at + k ≤ 72 → take (at + k) line ≡ front ++ blanks k
  take_done k l =
      ap (take (at + k)) (d.line_is ∙ ap (λ (back : List ℕ). front ++ back) (blanks_split k (72 - at - k) (72 - at) (omega arith)) ∙ sym (append_assoc front _ _))
      ∙ take_at (front ++ blanks k) _ (at + k) (length-append front (blanks k) ∙ omega (arith, d.long, length-blanks k))

  -- and those behind it
  drop-done : (k : ℕ) → drop (at + k) line ≡ blanks (72 - at - k)
  drop-done k =
      ap (λ (i : ℕ). drop (i + k) line) (sym d.long)
      ∙ ap (drop (length front + k)) d.line_is
      ∙ drop-append-add front (blanks (72 - at)) k
      ∙ drop-blanks k (72 - at)

  -- a number in the next field
  done_right : (columns n : ℕ) (next : List ℕ) → at + columns ≤ 72 → length (decimal n) ≤ columns
      → next ≡ take (at + columns - length (decimal n)) line ++ decimal n ++ drop (at + columns) line → Done next (front ++ right_aligned columns n) (at + columns)
  unfolding right_aligned
  done_right columns n next l digits e =
      let k = columns - length (decimal n) in
      let place : at + columns - length (decimal n) ≡ at + k = omega arith in
      let left : 72 - at - columns ≡ 72 - (at + columns) = omega arith in
      record {
        line_is =
            e
            ∙ ap (λ (i : ℕ). take i line ++ decimal n ++ drop (at + columns) line) place
            ∙ ap (λ (t : List ℕ). t ++ decimal n ++ drop (at + columns) line) (take_done k (omega arith))
            ∙ ap (λ (t : List ℕ). front ++ blanks k ++ decimal n ++ t) (drop-done columns ∙ ap blanks left)
            ∙ ap (λ (t : List ℕ). t ++ blanks (72 - (at + columns))) (append_assoc front (blanks k) (decimal n));
        long = length-append front (right_aligned columns n) ∙ omega (arith, d.long, length_right columns n digits);
      }

  -- the caption in the last
  done_left : (caption next : List ℕ) → at ≡ 34
      → next ≡ take 34 line ++ map shown (take 38 caption) ++ drop (34 + length caption) line → next ≡ front ++ left_aligned 38 caption
  unfolding left_aligned
  done_left caption next place e =
      let start : 34 ≡ at + 0 = omega arith in
      let behind : 34 + length caption ≡ at + length caption = omega arith in
      let left : 72 - at - length caption ≡ 38 - length caption = omega arith in
      let bytes = map shown (take 38 caption) in
      e
      ∙ ap (λ (i : ℕ). take i line ++ bytes ++ drop (34 + length caption) line) start
      ∙ ap (λ (t : List ℕ). t ++ bytes ++ drop (34 + length caption) line) (take_done 0 (omega arith) ∙ append-nil front)
      ∙ ap (λ (i : ℕ). front ++ bytes ++ drop i line) behind
      ∙ ap (λ (t : List ℕ). front ++ bytes ++ t) (drop-done (length caption) ∙ ap blanks left)
      ∙ append_assoc front bytes (blanks (38 - length caption))

-- ---- the line of a slab, its five fields filled one after the other

module _ (slab first after share : ℕ) (caption : List ℕ) (n : Narrow slab first after share) where
  -- a line with a number whose last digit stands in column `end`
  abbrev pub with_number : List ℕ → ℕ → ℕ → List ℕ
  with_number line end number = take (end - length (decimal number)) line ++ decimal number ++ drop end line

  pub slab_line_is : (one two three four five : List ℕ)
      → one ≡ with_number (blanks 72) 6 slab
      → two ≡ with_number one 15 first
      → three ≡ with_number two 24 after
      → four ≡ with_number three 33 share
      → five ≡ take 34 four ++ map shown (take 38 caption) ++ drop (34 + length caption) four
      → five ≡ slab_line slab first after share caption
  unfolding slab_line
  slab_line_is one two three four five e1 e2 e3 e4 e5 =
      let d1 = done_right _ _ _ done_none 6 slab one (omega arith) n.slab_digits e1 in
      let d2 = done_right _ _ _ (done_gap _ _ _ d1 (omega arith)) 8 first two (omega arith) n.first_digits e2 in
      let d3 = done_right _ _ _ (done_gap _ _ _ d2 (omega arith)) 8 after three (omega arith) n.after_digits e3 in
      let d4 = done_right _ _ _ (done_gap _ _ _ d3 (omega arith)) 8 share four (omega arith) n.share_digits e4 in
      done_left _ _ _ (done_gap _ _ _ d4 (omega arith)) caption five refl e5

  -- "Each line is exactly 72 columns"
  pub length-slab_line : length (slab_line slab first after share caption) ≡ 72
  unfolding slab_line
  length-slab_line =
      let one = right_aligned 6 slab in
      let two = one ++ blanks 1 ++ right_aligned 8 first in
      let three = two ++ blanks 1 ++ right_aligned 8 after in
      let four = three ++ blanks 1 ++ right_aligned 8 share in
      omega (
        arith,
        length_right 6 slab n.slab_digits,
        length-next one (right_aligned 8 first),
        length_right 8 first n.first_digits,
        length-next two (right_aligned 8 after),
        length_right 8 after n.after_digits,
        length-next three (right_aligned 8 share),
        length_right 8 share n.share_digits,
        length-next four (left_aligned 38 caption),
        length_left 38 caption,
      )
