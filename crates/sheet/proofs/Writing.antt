-- A line while its caption is written, and the page while a line is written out.
use mathlib.Core.Path.{◌≡◌, refl, sym, ap, ap₂, ◌∙◌}
use mathlib.Core.List.{List, [], ◌∷◌, ◌++◌, map}
use mathlib.Core.Logic.{⊎_elim}
use Prim.Native.Nat.{ℕ, zero, suc, ◌+◌, min, ◌≤◌, ◌<◌}
use native.Mathlib.Numerals.{add-one}
use native.Mathlib.Omega.{arith}
use lib.ListN.{length, get_or, set, take, drop, length-map, drop_of_length-le}
use lib.Seq.{length-take-le, take_all, drop-cons, set_at, paste, paste-suc, length_paste_head}
use Rattle.numerals.proofs.Decimal.{lt_or-le}
use Rattle.multipartition.proofs.Tiles.{get_d_map}

take-map : (f : ℕ → ℕ) (xs : List ℕ) (i : ℕ) → take i (map f xs) ≡ map f (take i xs)
take-map f xs zero = refl
take-map f [] (suc i) = refl
take-map f (x ∷ xs) (suc i) = ap (λ (l : List ℕ). f x ∷ l) (take-map f xs i)

-- ---- the caption

module _ (f : ℕ → ℕ) (line : List ℕ) (long : length line ≡ 72) where
  -- one byte more of those for which there are columns
  pub captioned-next : (bytes : List ℕ) (i byte : ℕ) → length bytes ≤ 38 → i < length bytes → byte ≡ f (get_or bytes i 0)
      → set (paste line 34 (map f bytes) i) (34 + i) byte ≡ paste line 34 (map f bytes) (i + 1)
  captioned-next bytes i byte few l e =
      let many = length-map bytes f in
      ap (set (paste line 34 (map f bytes) i) (34 + i)) (e ∙ sym (get_d_map f 0 0 bytes i l))
      ∙ paste-suc line 34 (map f bytes) i 0 (omega (arith, l, few, long)) (omega (arith, l, many))
      ∙ ap (paste line 34 (map f bytes)) (sym (add-one i))

  module _ (caption : List ℕ) where
    -- all of the caption for which there are columns
    columns : (i : ℕ) → i ≡ min (length caption) 38
        → take 34 line ++ map f (take i caption) ++ drop (34 + i) line ≡ take 34 line ++ map f (take 38 caption) ++ drop (34 + length caption) line
    columns i e = ⊎_elim short cut (lt_or-le (length caption) 38)
      where
        short : length caption < 38
            → take 34 line ++ map f (take i caption) ++ drop (34 + i) line ≡ take 34 line ++ map f (take 38 caption) ++ drop (34 + length caption) line
        short l =
            let all : i ≡ length caption = omega arith in
            ap₂ {C = List ℕ} (λ front k. take 34 line ++ map f front ++ drop (34 + k) line) (take_all i caption (omega arith) ∙ sym (take_all 38 caption (omega arith))) all

        cut : 38 ≤ length caption
            → take 34 line ++ map f (take i caption) ++ drop (34 + i) line ≡ take 34 line ++ map f (take 38 caption) ++ drop (34 + length caption) line
        cut l =
            let all : i ≡ 38 = omega arith in
            ap₂ {C = List ℕ} (λ k back. take 34 line ++ map f (take k caption) ++ back) all
            (drop_of_length-le line {i = 34 + i} (omega arith) ∙ sym (drop_of_length-le line {i = 34 + length caption} (omega arith)))

    pub captioned_all : (count i : ℕ) → count ≡ min (length caption) 38 → i ≡ length (take count caption)
        → paste line 34 (map f (take count caption)) i ≡ take 34 line ++ map f (take 38 caption) ++ drop (34 + length caption) line
    captioned_all count i counted e =
        let few = length-take-le count caption (omega (arith, counted)) in
        let same : i ≡ count = omega (arith, e, few) in
        ap (λ (l : List ℕ). take 34 line ++ l ++ drop (34 + i) line) (take-map f (take count caption) i ∙ ap (map f) (take_all i (take count caption) (omega (arith, e))))
        ∙ ap (λ (k : ℕ). take 34 line ++ map f (take count caption) ++ drop (34 + k) line) same
        ∙ columns count counted

-- ---- the page

-- behind a line the newline
pub line_ended : (page : List ℕ) (at : ℕ) (line : List ℕ) → length line ≡ 72 → at + 73 ≤ length page
    → set (paste page at line 72) (at + 72) 10 ≡ take at page ++ line ++ (10 ∷ drop (at + 73) page)
line_ended page at line long room =
    let front = take at page ++ take 72 line in
    let head = length_paste_head page at line 72 (omega (arith, room)) (omega (arith, long)) in
    let next : suc (at + 72) ≡ at + 73 = omega arith in
    ap (λ (back : List ℕ). set (front ++ back) (at + 72) 10) (drop-cons page (at + 72) 0 (omega (arith, room)))
    ∙ set_at front _ _ 10 (at + 72) head
    ∙ ap (λ (l : List ℕ). take at page ++ l ++ (10 ∷ drop (suc (at + 72)) page)) (take_all 72 line (omega (arith, long)))
    ∙ ap (λ (k : ℕ). take at page ++ line ++ (10 ∷ drop k page)) next
