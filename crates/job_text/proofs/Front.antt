-- How long a readable line can be, and that one byte more of a text settles its answer: a program need not read further.
use mathlib.Core.Path.{◌≡◌, sym, ap, subst}
use mathlib.Core.Logic.{inl, inr, ⊎_elim}
use mathlib.Core.List.{List, ◌++◌}
use Prim.Native.Nat.{ℕ, ◌*◌, ◌≤◌, ◌<◌}
use native.Mathlib.Omega.{arith}
use lib.ListN.{length, take, length-append}
use lib.Seq.{length-take-le, take_all, take-take}
use Rattle.numerals.proofs.Decimal.{lt_or-le}
use Rattle.numerals.proofs.Lines.{length_line}
use Rattle.multipartition.specs.Answers.{Answer, answered, refused}
use Rattle.job_text.specs.Readable.{largest, most_numbers, Readable, Begins, Astray, Place, Finds}
use Rattle.job_text.proofs.Bounds.{all-at}

-- ten digits and a byte after them for each number
abbrev pub longest_line : ℕ
longest_line = most_numbers * 11

readable-length : (text : List ℕ) → Readable text → length text ≤ longest_line
readable-length text h =
    let few = h.1.few in
    let line = length_line 9 h.0 (λ i l. let small = all-at largest h.0 h.1.small i in omega arith) in
    let e = ap length h.2 in
    omega arith

begins-length : (front : List ℕ) → Begins front → length front ≤ longest_line
begins-length front b =
    let whole = readable-length (front ++ b.0) b.1 in
    let both = length-append front b.0 in
    omega arith

module _ (text : List ℕ) (n : ℕ) (long : n < length text) (enough : longest_line < n) where
  length_front : length (take n text) ≡ n
  length_front = length-take-le n text (omega arith)

  astray_more : (k : ℕ) → Astray (take n text) k → Astray text k
  astray_more k a =
      let size = length_front in
      let within = a.0 in
      (omega arith, λ b. a.1 (subst Begins (sym (take-take k n text (omega arith))) b))

  astray_less : (k : ℕ) → k ≤ n → Astray text k → Astray (take n text) k
  astray_less k h a = let size = length_front in (omega arith, λ b. a.1 (subst Begins (take-take k n text h) b))

  too_long : Astray (take n text) n
  too_long =
      let size = length_front in
      (omega arith, λ b. let h = begins-length (take n (take n text)) b in let l = length-take-le n (take n text) (omega arith) in omega arith)

  place_more : (k : ℕ) → Place (take n text) k → Place text k
  place_more k (inl a) = inl (astray_more k a.0, least)
    where
      least : (j : ℕ) → Astray text j → k ≤ j
      least j b = ⊎_elim (λ h. let size = length_front in let within = a.0.0 in omega arith) (λ h. a.1 j (astray_less j h b)) (lt_or-le n j)
  place_more k (inr a) = absurd (a.0 n too_long)

  finds_more : (a : Answer (List ℕ)) → Finds (take n text) a → Finds text a
  finds_more (answered ns) f =
      let size = length_front in
      let short = readable-length (take n text) (ns, f.0, f.1) in
      absurd (omega arith)
  finds_more (refused number k) f = ((λ h. let short = readable-length text h in omega arith), f.1, place_more k f.2)

-- what is found in more bytes than the longest line has is found in the whole text
pub finds_front : (text : List ℕ) (n : ℕ) → longest_line < n → (a : Answer (List ℕ)) → Finds (take n text) a → Finds text a
finds_front text n enough a f = ⊎_elim longer whole (lt_or-le n (length text))
  where
    longer : n < length text → Finds text a
    longer l = finds_more text n l enough a f

    whole : length text ≤ n → Finds text a
    whole l = subst (λ (t : List ℕ). Finds t a) (take_all n text l) f
