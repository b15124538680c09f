-- The reader's loop: what is to be read from a byte on, and at the end.
use mathlib.Core.Path.{◌≡◌, refl, sym, ap, ◌∙◌}
use mathlib.Core.Bool.{Bool, true, false}
use mathlib.Core.List.{List, ◌∷◌}
use Prim.Native.Nat.{ℕ, ◌+◌, ◌≤◌, ◌<◌}
use native.Mathlib.Numerals.{add-one}
use lib.ListN.{length, drop, get_or, drop_of_length-le}
use lib.Seq.{drop-cons}
use Rattle.std.specs.Prelude.{Option, None}
use Rattle.multipartition.specs.Answers.{Answer, refused}
use Rattle.job_text.specs.Machine.{State, step, is_astray, at_end, read_from}
use Rattle.job_text.specs.Readings.{state_of, state_or_astray}
use Rattle.job_text.specs.declared.Reading.{Reading}
use Rattle.job_text.specs.declared.Reading.TheVariants.{Between, Inside, Finished}

-- the choice at a byte
one_byte : (s : State) (text : List ℕ) (i : ℕ) (t : Bool) → i < length text → is_astray (step s (get_or text i 0)) ≡ t
    → read_from s i (drop i text) ≡ elim t [ true ↦ refused 10 (i + 1) | false ↦ read_from (step s (get_or text i 0)) (i + 1) (drop (i + 1) text) ]
one_byte s text i t h e =
    ap (read_from s i) (drop-cons text i 0 h ∙ ap (λ (n : ℕ). get_or text i 0 ∷ drop n text) (sym (add-one i)))
    ∙ ap (λ (u : Bool). elim u as (λ b. Answer (List ℕ)) [ true ↦ refused 10 (i + 1) | false ↦ read_from (step s (get_or text i 0)) (i + 1) (drop (i + 1) text) ]) e

module _ (r : Reading) (text : List ℕ) (i : ℕ) (h : i < length text) where
  -- a byte that leads astray
  pub astray_byte : {next : Option Reading} → next ≡ None → state_or_astray next ≡ step (state_of r) (get_or text i 0)
      → read_from (state_of r) i (drop i text) ≡ refused 10 (i + 1)
  astray_byte e t = one_byte (state_of r) text i true h (ap is_astray (sym t ∙ ap state_or_astray e))

pub no_byte : (s : State) (text : List ℕ) (i : ℕ) → length text ≤ i → read_from s i (drop i text) ≡ at_end s i
no_byte s text i h = ap (read_from s i) (drop_of_length-le text h)

-- a reading that is not finished has read no line
pub unfinished : (r : Reading) (i : ℕ) → ((numbers : _) → r ≡ Finished numbers → ⊥) → at_end (state_of r) i ≡ refused 10 (i + 1)
unfinished (Between u) i k = refl
unfinished (Inside u v) i k = refl
unfinished (Finished numbers) i k = absurd (k numbers refl)
