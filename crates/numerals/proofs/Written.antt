-- Bytes written into a lent list: one text after another is both, also where the list ends within them.
use mathlib.Core.Path.{◌≡◌, refl, sym, ap, ◌∙◌, subst}
use mathlib.Core.Logic.{⊎_elim}
use mathlib.Core.List.{List, [], ◌∷◌, ◌++◌}
use Prim.Native.Nat.{ℕ, suc, ◌+◌, ◌≤◌, ◌<◌}
use native.Mathlib.Omega.{arith}
use lib.ListN.{length, take, drop, set, length-append}
use lib.Seq.{sets, sets-eq, length-sets, set_out, take_at}
use Rattle.numerals.specs.Output.{place_after, Written}
use Rattle.numerals.proofs.Decimal.{lt_or-le}

pub length_written : {before : List ℕ} {at : ℕ} {bytes after : List ℕ} {next : ℕ} → Written before at bytes after next → length after ≡ length before
length_written {before} {at} {bytes} w = ap length w.contents ∙ length-sets before at bytes

-- where there is room, the bytes stand at the front of the list
pub written_front : {before bytes after : List ℕ} {next : ℕ} → Written before 0 bytes after next → length bytes ≤ length before → take next after ≡ bytes
written_front {before} {bytes} {after} {next} w room =
    let place = w.place in
    let all : next ≡ length bytes = omega arith in
    ap (take next) (w.contents ∙ sets-eq bytes before 0 (omega arith))
    ∙ take_at bytes (drop (0 + length bytes) before) next (sym all)

pub written_nothing : (l : List ℕ) (at : ℕ) → Written l at [] l at
written_nothing l at = record { contents = refl; place = omega arith }

pub written_as : {l m : List ℕ} {at p : ℕ} {a b : List ℕ} → a ≡ b → Written l at a m p → Written l at b m p
written_as {l} {m} {at} {p} e w = subst (λ (t : List ℕ). Written l at t m p) e w

sets_outside : (bytes l : List ℕ) (at : ℕ) → length l ≤ at → sets l at bytes ≡ l
sets_outside [] l at h = refl
sets_outside (b ∷ bytes) l at h =
    ap (λ (m : List ℕ). sets m (suc at) bytes) (set_out l at b h)
    ∙ sets_outside bytes l (suc at) (omega arith)

sets-append : (a b l : List ℕ) (at : ℕ) → sets (sets l at a) (at + length a) b ≡ sets l at (a ++ b)
sets-append [] b l at = let e : at + 0 ≡ at = omega arith in ap (λ (k : ℕ). sets l k b) e
sets-append (x ∷ a) b l at =
    let e : at + suc (length a) ≡ suc at + length a = omega arith in
    ap (λ (k : ℕ). sets (sets (set l at x) (suc at) a) k b) e
    ∙ sets-append a b (set l at x) (suc at)

sets_after : (a b l : List ℕ) (at : ℕ) → sets (sets l at a) (place_after (length l) at (length a)) b ≡ sets l at (a ++ b)
sets_after a b l at = ⊎_elim no_room room (lt_or-le (length l) (at + length a))
  where
    room : at + length a ≤ length l → sets (sets l at a) (place_after (length l) at (length a)) b ≡ sets l at (a ++ b)
    room h =
        let e : place_after (length l) at (length a) ≡ at + length a = omega arith in
        ap (λ (k : ℕ). sets (sets l at a) k b) e ∙ sets-append a b l at

    no_room : length l < at + length a → sets (sets l at a) (place_after (length l) at (length a)) b ≡ sets l at (a ++ b)
    no_room h =
        let long = length-sets l at a in
        sets_outside b (sets l at a) (place_after (length l) at (length a)) (omega arith)
        ∙ sym (sets_outside b (sets l at a) (at + length a) (omega arith))
        ∙ sets-append a b l at

-- one text and another from the place after it
pub written_both : {l m n : List ℕ} {at p q : ℕ} {a b : List ℕ} → Written l at a m p → Written m p b n q → Written l at (a ++ b) n q
written_both {l} {m} {n} {at} {p} {q} {a} {b} v w =
    let size : length m ≡ length l = length_written v in
    let both : length (a ++ b) ≡ length a + length b = length-append a b in
    let first = v.place in
    let second = w.place in
    record {
      contents =
          w.contents
          ∙ ap (λ (k : List ℕ). sets k p b) v.contents
          ∙ ap (λ (k : ℕ). sets (sets l at a) k b) first
          ∙ sets_after a b l at;
      place = omega arith;
    }
