-- The program's three lists are long enough: what is read settles what is written, and all of it is written.
use mathlib.Core.Path.{◌≡◌, refl, sym, ap, ◌∙◌, subst}
use mathlib.Core.Bool.{true}
use mathlib.Core.List.{List, [], ◌∷◌, ◌++◌}
use Rattle.std.specs.Prelude.{Result, Ok, Err, IsOk}
use mathlib.Core.Option.{Option, none, some}
use mathlib.Core.Logic.{inl, inr, ⊎_elim}
use Prim.Native.Nat.{ℕ, suc, ◌+◌, ◌*◌, ◌^◌, ◌≤◌, ◌<◌}
use native.Mathlib.Nat.{le_of_dvd, zero-add}
use native.Mathlib.Omega.{arith}
use lib.ListN.{length, take, drop, get_or, length-append, length-take, length-drop, get_or-eq_default}
use lib.Seq.{get_or-take, get_or-drop, sets-eq}
use Rattle.numerals.specs.Output.{Written}
use Rattle.refusals.specs.declared.Refusal.{Refusal}
use Rattle.refusals.specs.Told.{told}
use Rattle.refusals.proofs.Laws.{answered-is, answered-ne-refused}
use Rattle.numerals.proofs.Decimal.{lt_or-le, length-decimal}
use Rattle.multipartition.specs.Answers.{Answer, answered, refused}
use Rattle.multipartition.specs.Cuts.{cost_of}
use Rattle.multipartition.specs.Plans.{Job, Layout, job_with, in_shape}
use Rattle.multipartition.specs.Jobs.{PlanFor, first_outside, first_zero, plan_answer}
use Rattle.multipartition.proofs.Answers.{Small}
use Rattle.multipartition.proofs.Order.{cut_cost-le}
use Rattle.multipartition.proofs.Jobs.{plan_answered, plan_in_shape, plan_small, passed_of-five, first_outside-le, first_zero-le}
use Rattle.multipartition.proofs.Chosen.{chosen_cut-le}
use Rattle.layout.specs.Plans.{layout_of, plan_of}
use Rattle.layout.specs.Sized.{Sized}
use Rattle.layout.proofs.Plans.{layout_of-plan}
use Rattle.layout.proofs.Shaped.{shaped}
use Rattle.refused_share.specs.Shares.{share_answer}
use Rattle.refused_share.proofs.Shares.{shown}
use Rattle.job_text.specs.Readable.{largest, Place, Finds}
use Rattle.job_text.proofs.Bounds.{all-at}
use Rattle.job_text.proofs.Finds.{finds_unique}
use Rattle.job_text.proofs.Front.{longest_line, finds_front}
use Rattle.plan_text.specs.PlanText.{plan_text, answer_text}
use Rattle.plan_text.specs.Told.{text_answer, length_of, afterwards, Hands}
use Rattle.plan_text.proofs.Lengths.{longest_plan, length-plan_text, length-refused_text}
use Rattle.plan_text.proofs.Handing.{text_fits}
use Rattle.plan.specs.declared.Texts.{Texts}
use Rattle.plan.specs.ShareText.{share_text}
use Rattle.plan.specs.Prints.{job_of_line, program_answer, Prints, Answers, InFront, Runs}
use Rattle.planner.proofs.Answers.{plan_sized}

-- ---- the input

-- one text is printed for an input, and one is told
pub prints_unique : (input a b c d : List ℕ) → Prints input a b → Prints input c d → (a ≡ c) × (b ≡ d)
prints_unique input a b c d h k = (
  h.prints ∙ ap (λ (r : Answer (List ℕ)). answer_text (program_answer plan_answer r)) same ∙ sym k.prints,
  h.tells ∙ ap (λ (r : Answer (List ℕ)). share_text (program_answer share_answer r)) same ∙ sym k.tells,
)
  where
    same : h.read ≡ k.read
    same = finds_unique input h.read k.read h.finds k.finds

-- more bytes than the longest line has settle them
pub prints_front : (input printed told : List ℕ) (n : ℕ) → longest_line < n → Prints (take n input) printed told → Prints input printed told
prints_front input printed told n h p =
    record { read = p.read; finds = finds_front input n h p.read p.finds; prints = p.prints; tells = p.tells }

-- ---- standard output: a refusal

place-le : (text : List ℕ) (k : ℕ) → Place text k → k ≤ length text + 1
place-le text k (inl a) = let within = a.0.0 in omega arith
place-le text k (inr a) = let e = a.1 in omega arith

-- ---- standard output: a plan

cost-le : (c w : ℕ) (weights cuts : List ℕ) → ((i : ℕ) → get_or weights i 0 ≤ w) → ((i : ℕ) → get_or cuts i 0 ≤ c) → cost_of weights cuts ≤ length cuts * (c * w)
cost-le c w [] cuts h k = omega arith
cost-le c w (x ∷ weights) [] h k = omega arith
cost-le c w (x ∷ weights) (b ∷ cuts) h k =
    let first = cut_cost-le b x c w (k 0) (h 0) in
    let later = cost-le c w weights cuts (λ i. h (suc i)) (λ i. k (suc i)) in
    omega arith

-- no number of the front of a list is above those of the list
take-le : (n : ℕ) (xs : List ℕ) (bound : ℕ) → ((i : ℕ) → get_or xs i 0 ≤ bound) → (i : ℕ) → get_or (take n xs) i 0 ≤ bound
take-le n xs bound h i =
    ⊎_elim
    (λ l. omega (arith, get_or-take n xs i 0 l, h i))
    (λ l. omega (arith, get_or-eq_default (take n xs) 0 {n = i} (omega (arith, length-take n xs))))
    (lt_or-le i n)

length-plan : (job : Job) (plan : Layout) → ((i : ℕ) → get_or job.weights i 0 ≤ largest)
    → plan_answer job ≡ answered plan → length (plan_text plan) ≤ longest_plan
unfolding plan_of
length-plan job plan small e =
    subst (λ (l : Layout). length (plan_text l) ≤ longest_plan) whole (length-plan_text (plan_of plan) (shaped (plan_of plan) is_in_shape) cost_high)
  where
    made : PlanFor job plan
    made = plan_answered job plan e

    sized : Sized plan
    sized = plan_sized job plan e

    whole : layout_of (plan_of plan) ≡ plan
    whole = layout_of-plan plan sized

    is_in_shape : in_shape (layout_of (plan_of plan)) ≡ true
    is_in_shape = ap in_shape whole ∙ plan_in_shape job plan e

    cut_high : (i : ℕ) → get_or plan.cuts i 0 ≤ 4096
    cut_high i =
        ⊎_elim
        (λ l. chosen_cut-le job made.passed plan.cuts made.cuts_are i l)
        (λ l. omega (arith, get_or-eq_default plan.cuts 0 l))
        (lt_or-le i (length plan.cuts))

    cost_high : plan.cost < 10 ^ 20
    cost_high =
        omega
        (arith, ap (λ (l : Layout). l.cost) made.plan_is, cost-le 4096 largest job.weights plan.cuts small cut_high, sized.cuts_length, sized.few)

length_job : (job : Job) → first_outside job.extents ≤ 999 → first_zero job.least ≤ 999 → ((i : ℕ) → get_or job.weights i 0 ≤ largest)
    → length (answer_text (plan_answer job)) ≤ longest_plan
unfolding answer_text
length_job job extent thickness small = go (plan_answer job) refl (plan_small job 999 extent thickness)
  where
    go : (a : Answer Layout) → plan_answer job ≡ a → Small 999 a → length (answer_text a) ≤ longest_plan
    go (answered plan) e h = length-plan job plan small e
    go (refused number place) e h = omega (arith, length-refused_text 2 number place (omega (arith, h.1)) (omega (arith, h.2)))

-- for an input of 256 bytes at most
pub prints-length : (input printed told : List ℕ) → length input ≤ 256 → Prints input printed told → length printed ≤ longest_plan
unfolding answer_text program_answer job_of_line
prints-length input printed told few p = rw p.prints (go p.read p.finds)
  where
    go : (read : Answer (List ℕ)) → Finds input read → length (answer_text (program_answer plan_answer read)) ≤ longest_plan
    go (answered numbers) f =
        let d = get_or numbers 1 0 in
        let rest : List ℕ = drop 2 numbers in
        let given : List ℕ = drop d (drop d rest) in
        length_job (job_with (get_or numbers 0 0) d (take d rest) (take d (drop d rest)) given)
        (omega (arith, first_outside-le (take d rest), length-take d rest, length-drop 2 numbers, f.0.few))
        (omega (arith, first_zero-le d given, length-drop d (drop d rest), length-drop d rest, length-drop 2 numbers, f.0.few))
        (λ i. take-le d (drop d rest) largest (λ j. omega (arith, get_or-drop d rest j 0, get_or-drop 2 numbers (d + j) 0, all-at largest numbers f.0.small (2 + (d + j)))) i)
    go (refused number place) f =
        let within = place-le input place f.2 in
        let ten = f.1 in
        omega (arith, length-refused_text 2 number place (omega arith) (omega arith))

-- ---- standard error

-- so many bytes hold the words, four digits and a newline
abbrev pub longest_told : ℕ
longest_told = 140

-- a divisor of p has no more digits than p
share-le : (job : Job) (x : ℕ) → share_answer job ≡ answered (some x) → x ≤ 4096
share-le job x e =
    let (five, smallest) = shown job x e in
    let range = (passed_of-five job 0 five).range in
    omega (arith, le_of_dvd range.p_low smallest.divides, range.p_high)

length_share : (job : Job) → length (share_text (share_answer job)) ≤ longest_told
unfolding share_text
length_share job = go (share_answer job) refl
  where
    go : (a : Answer (Option ℕ)) → share_answer job ≡ a → length (share_text a) ≤ longest_told
    go (answered (some x)) e =
        let digits = length-decimal 3 x (omega (arith, share-le job x e)) in
        simp length-append (omega arith)
    go (answered none) e = omega arith
    go (refused number place) e = omega arith

pub tells-length : (input printed told : List ℕ) → Prints input printed told → length told ≤ longest_told
unfolding share_text program_answer
tells-length input printed told p = rw p.tells (go p.read)
  where
    go : (read : Answer (List ℕ)) → length (share_text (program_answer share_answer read)) ≤ longest_told
    go (answered numbers) = length_share (job_of_line (get_or numbers 0 0) (get_or numbers 1 0) (drop 2 numbers))
    go (refused number place) = omega arith

-- ---- the program between its three lists

-- a text that is handed over whole
module _ (text : List ℕ) {lent list : List ℕ} {printed : Result ℕ Refusal} (room : length text ≤ length lent) (h : Hands (text_answer text (length lent)) printed lent list) where
  told_whole : told printed ≡ answered (length text)
  told_whole = h.told ∙ ap length_of (text_fits text (length lent) room)

  handed_ok : printed ≡ Ok (length text)
  handed_ok = go printed told_whole
    where
      go : (r : Result ℕ Refusal) → told r ≡ answered (length text) → r ≡ Ok (length text)
      go (Ok count) e = ap Ok (answered-is e)
      go (Err r) e = absurd (answered-ne-refused (sym e))

  front_handed : {count : ℕ} → printed ≡ Ok count → InFront text lent list count
  front_handed {count} e =
      let same : ◌≡◌ {A = Result ℕ Refusal} (Ok count) (Ok (length text)) = sym e ∙ handed_ok in
      record { held = h.held ∙ ap (λ (answer : Answer (List ℕ)). afterwards answer lent) (text_fits text (length lent) room); counted = cc }

-- a text that is written whole
front_written : {text lent list : List ℕ} {count : ℕ} → length text ≤ length lent → Written lent 0 text list count → InFront text lent list count
front_written {text} {lent} room w =
    let place = w.place in
    record { held = w.contents ∙ sets-eq text lent 0 (omega arith) ∙ ap (λ (k : ℕ). text ++ drop k lent) (zero-add (length text)); counted = omega arith }

module _ {read lent list lent' list' : List ℕ} {texts : Texts} (a : Answers read texts lent list lent' list') (few : length read ≤ 256)
    (room : longest_plan ≤ length lent) (room' : longest_told ≤ length lent') where
  fits : length a.printed ≤ length lent
  fits = omega (arith, prints-length read a.printed a.told few a.right)

  fits' : length a.told ≤ length lent'
  fits' = omega (arith, tells-length read a.printed a.told a.right)

  -- so nothing is refused
  pub never_refused : IsOk texts.printed
  never_refused = rw (handed_ok a.printed fits a.handed) refl

  -- and what is written for the front of an input is written for the whole of it
  pub runs_whole : {front : List ℕ} (places count : ℕ) → read ≡ front → longest_line < places → texts.printed ≡ Ok count
      → Runs places front lent list lent' list' (record { printed = count; told = texts.told })
  runs_whole places count same enough e = record {
    printed = a.printed;
    told = a.told;
    right = λ input front.
        prints_front input a.printed a.told places enough (subst (λ (t : List ℕ). Prints t a.printed a.told) (same ∙ sym front) a.right);
    output = front_handed a.printed fits a.handed e;
    error = front_written fits' a.written;
  }

pub front_within : {bytes lent list : List ℕ} {count : ℕ} → InFront bytes lent list count → count ≤ length list
front_within {bytes} {lent} {list} {count} f =
    omega (arith, f.counted, ap length f.held, length-append bytes (drop (length bytes) lent))
