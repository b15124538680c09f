-- The reader finds what document 01 says: `read_line text` is the one answer a with `Finds text a`.
use mathlib.Core.Path.{◌≡◌, refl, sym, ap, ap₂, ◌∙◌, subst}
use mathlib.Core.Logic.{inl, inr, ⊎_elim, ◌↔◌}
use mathlib.Core.Bool.{Bool, true, false, true≢false, false≢true}
use mathlib.Core.List.{List, [], ◌∷◌, ◌++◌, append_assoc, append-nil}
use Prim.Native.Nat.{ℕ, ◌+◌, ◌≤◌}
use native.Mathlib.Omega.{arith}
use lib.ListN.{length, take, drop, length-append, take-append-drop}
use lib.Seq.{take-append-le, take_at}
use Rattle.numerals.specs.Lines.{line_of}
use Rattle.numerals.proofs.Decimal.{lt_or-le}
use Rattle.multipartition.specs.Answers.{Answer, answered, refused}
use Rattle.job_text.specs.Readable.{LineNumbers, Readable, Begins, Astray, Place, Finds}
use Rattle.job_text.specs.Machine.{State, between, inside, finished, astray, step, at_end, is_astray, read_from, read_line}
use Rattle.job_text.proofs.Reached.{Reached, step_reached, reached_begins}
use Rattle.job_text.proofs.Runs.{run, run-append, run_astray, run_line}

-- ---- the place of refusal 10

astray_begins : (t : List ℕ) → run (between []) t ≡ astray → Begins t → ⊥
astray_begins t e b =
    let ns = b.1.0 in
    let lost : run (between []) (t ++ b.0) ≡ astray = run-append (between []) t b.0 ∙ ap (λ (s : State). run s b.0) e ∙ run_astray b.0 in
    let read : run (between []) (t ++ b.0) ≡ finished ns = ap (run (between [])) b.1.2 ∙ run_line ns b.1.1 in
    let clash : ◌≡◌ {A = ℕ} 0 1 = cc in
    omega arith

-- a beginning of what begins a readable line begins one
begins_shorter : (t : List ℕ) (j : ℕ) → Begins t → Begins (take j t)
begins_shorter t j b = (
  drop j t ++ b.0,
  (
    b.1.0,
    b.1.1,
    sym (append_assoc (take j t) (drop j t) b.0) ∙ ap (λ (u : List ℕ). u ++ b.0) (take-append-drop j t) ∙ b.1.2,
  ),
)

place_end : (t : List ℕ) → Begins t → Place t (length t + 1)
place_end t b = inr ((λ j h. h.1 (begins_shorter t j b)), refl)

place_at : (t : List ℕ) (b : ℕ) (bs : List ℕ) → Begins t → run (between []) (t ++ (b ∷ [])) ≡ astray → Place (t ++ (b ∷ bs)) (length t + 1)
place_at t b bs ok e = inl ((omega (arith, length-append t (b ∷ bs)), lost), least)
  where
    here : take (length t + 1) (t ++ (b ∷ bs)) ≡ t ++ (b ∷ [])
    here = ap (take (length t + 1)) (sym (append_assoc t (b ∷ []) bs)) ∙ take_at (t ++ (b ∷ [])) bs (length t + 1) (length-append t (b ∷ []))

    lost : Begins (take (length t + 1) (t ++ (b ∷ bs))) → ⊥
    lost h = astray_begins (t ++ (b ∷ [])) e (subst Begins here h)

    early : (j : ℕ) → j ≤ length t → Begins (take j (t ++ (b ∷ bs)))
    early j h = subst Begins (sym (take-append-le j t (b ∷ bs) h)) (begins_shorter t j ok)

    least : (j : ℕ) → Astray (t ++ (b ∷ bs)) j → length t + 1 ≤ j
    least j h = ⊎_elim (λ k. absurd (h.1 (early j (omega arith)))) (λ k. k) (lt_or-le j (length t + 1))

-- a text that ends in another state than `finished` is no readable line
unread : (t : List ℕ) (s : State) → run (between []) t ≡ s → ((ns : List ℕ) → s ≡ finished ns → ⊥) → Readable t → ⊥
unread t s e other h = other h.0 (sym e ∙ ap (run (between [])) h.2 ∙ run_line h.0 h.1)

-- ---- the whole text

at_end_lem : (s : State) (t : List ℕ) → run (between []) t ≡ s → Reached s t → is_astray s ≡ false → Finds t (at_end s (length t))
at_end_lem (between ns) t e r ok =
    (unread t (between ns) e (λ ms k. let clash : ◌≡◌ {A = ℕ} 0 1 = cc in omega arith), refl, place_end t (reached_begins (between ns) t ok r))
at_end_lem (inside ns v) t e r ok =
    (unread t (inside ns v) e (λ ms k. let clash : ◌≡◌ {A = ℕ} 0 1 = cc in omega arith), refl, place_end t (reached_begins (inside ns v) t ok r))
at_end_lem (finished ns) t e r ok = r
at_end_lem astray t e r ok = absurd (true≢false ok)

run-one_more : (s : State) (t : List ℕ) (b : ℕ) → run (between []) t ≡ s → run (between []) (t ++ (b ∷ [])) ≡ step s b
run-one_more s t b e = run-append (between []) t (b ∷ []) ∙ ap (λ (x : State). step x b) e

is_astray_lem : (s : State) → is_astray s ≡ true → s ≡ astray
is_astray_lem (between ns) e = absurd (false≢true e)
is_astray_lem (inside ns v) e = absurd (false≢true e)
is_astray_lem (finished ns) e = absurd (false≢true e)
is_astray_lem astray e = refl

finds_from : (s : State) (t bs : List ℕ) → run (between []) t ≡ s → Reached s t → is_astray s ≡ false → Finds (t ++ bs) (read_from s (length t) bs)
finds_from s t [] e r ok = subst (λ (u : List ℕ). Finds u (at_end s (length t))) (sym (append-nil t)) (at_end_lem s t e r ok)
finds_from s t (b ∷ bs) e r ok =
    next (is_astray (step s b)) refl
    (finds_from (step s b) (t ++ (b ∷ [])) bs (run-one_more s t b e) (step_reached s b t r))
  where
    next : (x : Bool) → is_astray (step s b) ≡ x
        → (is_astray (step s b) ≡ false → Finds ((t ++ (b ∷ [])) ++ bs) (read_from (step s b) (length (t ++ (b ∷ []))) bs))
        → Finds (t ++ (b ∷ bs)) (elim x [ true ↦ refused 10 (length t + 1) | false ↦ read_from (step s b) (length t + 1) bs ])
    next true k ih =
        let lost : run (between []) (t ++ (b ∷ [])) ≡ astray = run-one_more s t b e ∙ is_astray_lem (step s b) k in
        let begun : Begins t = reached_begins s t ok r in
        ((λ h. astray_begins (t ++ (b ∷ [])) lost (bs, subst Readable (sym (append_assoc t (b ∷ []) bs)) h)), refl, place_at t b bs begun lost)
    next false k ih =
        subst (λ (u : List ℕ). Finds u (read_from (step s b) (length t + 1) bs)) (append_assoc t (b ∷ []) bs)
        (subst (λ (n : ℕ). Finds ((t ++ (b ∷ [])) ++ bs) (read_from (step s b) n bs)) (length-append t (b ∷ [])) (ih k))

pub reader-finds : (text : List ℕ) → Finds text (read_line text)
unfolding read_line
reader-finds text = finds_from (between []) [] text refl (omega arith, tt, refl) refl

-- ---- and there is only one such answer

place_unique : (text : List ℕ) (j k : ℕ) → Place text j → Place text k → j ≡ k
place_unique text j k (inl a) (inl b) = let h = a.1 k b.0 in let l = b.1 j a.0 in omega arith
place_unique text j k (inl a) (inr b) = absurd (b.0 j a.0)
place_unique text j k (inr a) (inl b) = absurd (a.0 k b.0)
place_unique text j k (inr a) (inr b) = a.1 ∙ sym b.1

line_injective : (ns ms : List ℕ) → LineNumbers ns → LineNumbers ms → line_of ns ≡ line_of ms → ns ≡ ms
line_injective ns ms h k e =
    let same : finished ns ≡ finished ms = sym (run_line ns h) ∙ ap (run (between [])) e ∙ run_line ms k in
    cc

pub finds_unique : (text : List ℕ) (a b : Answer (List ℕ)) → Finds text a → Finds text b → a ≡ b
finds_unique text (answered ns) (answered ms) h k = ap answered (line_injective ns ms h.0 k.0 (sym h.1 ∙ k.1))
finds_unique text (answered ns) (refused m j) h k = absurd (k.0 (ns, h.0, h.1))
finds_unique text (refused n i) (answered ms) h k = absurd (h.0 (ms, k.0, k.1))
finds_unique text (refused n i) (refused m j) h k =
    ap₂ {C = Answer (List ℕ)} (λ number place. refused number place) (h.1 ∙ sym k.1) (place_unique text i j h.2 k.2)

-- so the two agree on every text and every answer
pub finds_iff_reads : (text : List ℕ) (a : Answer (List ℕ)) → Finds text a ↔ (read_line text ≡ a)
finds_iff_reads text a = (finds_unique text (read_line text) a (reader-finds text), λ e. subst (Finds text) e (reader-finds text))
