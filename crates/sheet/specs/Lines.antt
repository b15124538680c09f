-- The lines of a slab sheet (document 02, request k). A line is a list of bytes, one a column; a blank is the byte 32.
use Rattle.std.specs.Prelude.{cond, List, ◌++◌, map, ℕ, ◌-◌, length, take, replicate}
use Rattle.numerals.specs.Decimal.{decimal}
use Rattle.multipartition.specs.Plans.{between}

-- "starts as blanks"
abbrev pub blanks : ℕ → List ℕ
blanks columns = replicate columns 32

-- "all right-aligned": a number in a field of so many columns
unfoldable pub right_aligned : ℕ → ℕ → List ℕ
right_aligned columns n = blanks (columns - length (decimal n)) ++ decimal n

-- "A caption byte outside 32 to 126 shows as a question mark": "?" is 63
unfoldable pub shown : ℕ → ℕ
shown byte = cond (between 32 126 byte) byte 63

-- "left-aligned"; "a caption longer than 38 bytes is cut there": the caption in a field of so many columns
unfoldable pub left_aligned : ℕ → List ℕ → List ℕ
left_aligned columns caption = map shown (take columns caption) ++ blanks (columns - length caption)

-- "Columns 1 to 6 hold the slab, 8 to 15 its first element, 17 to 24 the element after its last, 26 to 33 the tiles per processor, all right-aligned; 35
-- to 72 hold the call's caption": columns 7, 16, 25 and 34 are blank
unfoldable pub slab_line : (slab first after share : ℕ) → List ℕ → List ℕ
slab_line slab first after share caption =
    right_aligned 6 slab
    ++ blanks 1
    ++ right_aligned 8 first
    ++ blanks 1
    ++ right_aligned 8 after
    ++ blanks 1
    ++ right_aligned 8 share
    ++ blanks 1
    ++ left_aligned 38 caption
